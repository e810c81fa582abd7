-- The table of modes as the public page prints it (BPTC in the Khronos Data Format Specification): a vector and its scalar are one subset
-- there, and p bits are counted for an endpoint or for a subset that shares one.
-- Assumes nothing.
use Rattle.std.specs.Prelude.{List, [], ◌∷◌, ℕ, get_or}

unfoldable pub printed_rows : List (List ℕ)
printed_rows =
    -- subsets | bits of partition, rotation, index selection | of colour, alpha | p bits an endpoint, a subset | index bits, secondary
    (3 ∷ 4 ∷ 0 ∷ 0 ∷ 4 ∷ 0 ∷ 1 ∷ 0 ∷ 3 ∷ 0 ∷ []) ∷
    (2 ∷ 6 ∷ 0 ∷ 0 ∷ 6 ∷ 0 ∷ 0 ∷ 1 ∷ 3 ∷ 0 ∷ []) ∷
    (3 ∷ 6 ∷ 0 ∷ 0 ∷ 5 ∷ 0 ∷ 0 ∷ 0 ∷ 2 ∷ 0 ∷ []) ∷
    (2 ∷ 6 ∷ 0 ∷ 0 ∷ 7 ∷ 0 ∷ 1 ∷ 0 ∷ 2 ∷ 0 ∷ []) ∷
    (1 ∷ 0 ∷ 2 ∷ 1 ∷ 5 ∷ 6 ∷ 0 ∷ 0 ∷ 2 ∷ 3 ∷ []) ∷
    (1 ∷ 0 ∷ 2 ∷ 0 ∷ 7 ∷ 8 ∷ 0 ∷ 0 ∷ 2 ∷ 2 ∷ []) ∷
    (1 ∷ 0 ∷ 0 ∷ 0 ∷ 7 ∷ 7 ∷ 1 ∷ 0 ∷ 4 ∷ 0 ∷ []) ∷
    (2 ∷ 6 ∷ 0 ∷ 0 ∷ 5 ∷ 5 ∷ 1 ∷ 0 ∷ 2 ∷ 0 ∷ []) ∷
    []

-- column k of mode m
unfoldable pub column_of : ℕ → ℕ → ℕ
column_of m k = get_or (get_or printed_rows m []) k 0

abbrev pub subset_count : ℕ → ℕ
subset_count m = column_of m 0
