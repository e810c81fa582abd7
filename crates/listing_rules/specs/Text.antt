-- The texts of a listing, as bytes.
-- Assumes nothing.
use Rattle.std.specs.Prelude.{ℕ, Bool, List, [], ◌∷◌, ◌++◌, get_or}
use Rattle.laws.specs.Tables.{pick}
use Rattle.laws.specs.Text.{ascii, decimal, newline, space, spaced}

-- `sheet` with width and height
unfoldable pub sheet_text : ℕ → ℕ → List ℕ
sheet_text w h = ascii "sheet " ++ decimal w ++ (space ∷ []) ++ decimal h ++ (newline ∷ [])

-- the opacity mark: `o` (111) for an opaque block and `-` (45) otherwise
unfoldable pub opacity_mark : Bool → ℕ
opacity_mark is_opaque = pick is_opaque 111 45

unfoldable pub channels : List ℕ → List ℕ
channels px = spaced (get_or px 0 0) ++ spaced (get_or px 1 0) ++ spaced (get_or px 2 0) ++ spaced (get_or px 3 0)

-- number, mode, the four channels of pixel 0, the opacity mark
unfoldable pub block_text : ℕ → ℕ → List ℕ → Bool → List ℕ
block_text number m px is_opaque =
    decimal number ++ spaced m ++ channels px ++ (space ∷ []) ++ (opacity_mark is_opaque ∷ []) ++ (newline ∷ [])
