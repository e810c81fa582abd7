-- A row of blocks as bytes: which block, which pixel, which channel.
-- Assumes nothing.
use Rattle.std.specs.Prelude.{ℕ, ◌+◌, ◌*◌, ◌/◌, ◌%◌, ◌<◌, ◌≡◌, not, List, [], ◌∷◌, eqb, leb, length, get_or}
use Rattle.laws.specs.Refusals.{Rule, first, refuse, unless}
use Rattle.laws.specs.Tables.{pick, table}
use Rattle.bcn_format.specs.Block.{block_at}
use Rattle.bc7_format.specs.Lines.{pixels}
use Rattle.head_rules.specs.Geometry.{across, out_length, row_length, side_shown}
use Rattle.head_rules.specs.Heads.{Sized, limit, size_refusal_up_to}

-- channel c of pixel q
unfoldable pub channel : List (List ℕ) → ℕ → ℕ → ℕ
channel px q c = get_or (get_or px q []) c 0

-- byte k of a row of blocks, whose scanlines are 4 · w bytes long: column x, scanline y, channel
unfoldable pub row_byte : ℕ → List ℕ → ℕ → ℕ
row_byte w blocks k =
    let x = k % (4 * w) / 4 in
    let y = k / (4 * w) in
    channel (pixels (block_at blocks (16 * (x / 4)))) (4 * y + x % 4) (k % 4)

unfoldable pub row_bytes : ℕ → ℕ → List ℕ → List ℕ
row_bytes w scanlines blocks = table (out_length w scanlines) (row_byte w blocks)

-- 9 above the limit `top`, 12, 10, 11; of the block bytes and the output only the lengths matter
unfoldable pub row_refusal_up_to : ℕ → ℕ → ℕ → ℕ → ℕ → ℕ → ℕ
row_refusal_up_to top w h row given room =
    first
    (size_refusal_up_to top w h
    ∷ refuse 12 (leb (across h) row) ∷ refuse 10 (not (eqb given (row_length w)))
    ∷ refuse 11 (not (eqb room (out_length w (side_shown h row)))) ∷ [])

abbrev pub row_refusal : ℕ → ℕ → ℕ → ℕ → ℕ → ℕ
row_refusal w h row given room = row_refusal_up_to limit w h row given room

abbrev pub row_rules : ℕ → ℕ → ℕ → ℕ → ℕ → List Rule
row_rules w h row given room =
    unless 9 (Sized w h) ∷ unless 12 (row < across h) ∷ unless 10 (given ≡ row_length w) ∷ unless 11 (room ≡ out_length w (side_shown h row)) ∷ []

-- the output afterwards
unfoldable pub row_out_up_to : ℕ → ℕ → ℕ → ℕ → List ℕ → List ℕ → List ℕ
row_out_up_to top w h row blocks out =
    pick (eqb (row_refusal_up_to top w h row (length blocks) (length out)) 0) (row_bytes w (side_shown h row) blocks) out

abbrev pub row_out : ℕ → ℕ → ℕ → List ℕ → List ℕ → List ℕ
row_out w h row blocks out = row_out_up_to limit w h row blocks out

-- what `decode_row` promises: its answer, and every byte of the output
abbrev pub DecodesRow : ℕ → ℕ → ℕ → List ℕ → List ℕ → ℕ → List ℕ → Type 0
DecodesRow w h row blocks before answer after =
    (answer ≡ row_refusal w h row (length blocks) (length before)) × (after ≡ row_out w h row blocks before)
