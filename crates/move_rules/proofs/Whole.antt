-- A moved sheet is a whole sheet again: its bytes are bytes, its head is read, and its length is what the head says.
-- Assumes nothing.
use mathlib.Core.Path.{◌≡◌, refl, ◌∙◌, ap, sym}
use mathlib.Core.Bool.{Bool, true, false}
use mathlib.Core.Logic.{⊎_elim}
use mathlib.Core.List.{List, [], ◌∷◌, ◌++◌}
use Prim.Native.Nat.{ℕ, zero, suc, ◌+◌, ◌*◌, ◌/◌, ◌%◌, ◌<◌}
use native.Mathlib.Omega.{arith}
use borrow.Author.Tests.{ltb-true}
use lib.Dec.{lit<, ltb}
use lib.ListN.{get_or, get_or-eq_default}
use Rattle.laws.specs.Tables.{pick}
use Rattle.laws.proofs.Cases.{lt_or}
use Rattle.laws.proofs.Part.{get_d_table}
use Rattle.head_rules.specs.declared.ColourSpace.{ColourSpace}
use Rattle.head_rules.specs.declared.Form.{Form}
use Rattle.head_rules.specs.declared.Form.TheVariants.{Rows, Tiles}
use Rattle.head_rules.specs.Answers.{Head}
use Rattle.head_rules.specs.Colours.{colour_number}
use Rattle.head_rules.specs.Geometry.{across, blocks_of, number_by, place_of, whole_length}
use Rattle.head_rules.specs.Heads.{bytes_of_head, form_number, head_bytes, head_spelt, read_head, tiled_bytes}
use Rattle.head_rules.specs.Numbers.{Bytes, groups, number_bytes}
use Rattle.sheet_rules.specs.Calls.{WholeSheet}
use Rattle.sheet_rules.specs.Pictures.{blocks_as, byte_as}
use Rattle.sheet_rules.specs.Sheets.{block_by}
use Rattle.sheet_rules.proofs.Pictures.{all_long}
use Rattle.bcn_format.proofs.Storing.{block_get}
use Rattle.move_rules.specs.Moving.{head_in_form, moved_to}
use Rattle.move_rules.proofs.Moving.{head_moved, long_moved}

no_bytes : Bytes []
no_bytes i = lit< tt

more_bytes : (b : ℕ) (bs : List ℕ) → b < 256 → Bytes bs → Bytes (b ∷ bs)
more_bytes b bs l y zero = l
more_bytes b bs l y (suc i) = y i

both_bytes : (a b : List ℕ) → Bytes a → Bytes b → Bytes (a ++ b)
both_bytes [] b x y i = y i
both_bytes (v ∷ a) b x y zero = x zero
both_bytes (v ∷ a) b x y (suc i) = both_bytes a b (λ j. x (suc j)) y i

-- those of a number, and of a head
number_bytes_is : (k n : ℕ) → Bytes (groups k n)
unfolding groups
number_bytes_is zero n = no_bytes
number_bytes_is (suc k) n = go (ltb n 128) refl (number_bytes_is k (n / 128))
  where
    go : (t : Bool) → ltb n 128 ≡ t → Bytes (groups k (n / 128)) → Bytes (pick t (n ∷ []) ((n % 128 + 128) ∷ groups k (n / 128)))
    go true e y = more_bytes n [] (omega (arith, ltb-true n 128 e)) no_bytes
    go false e y = more_bytes (n % 128 + 128) (groups k (n / 128)) (omega arith) y

spelt_bytes : (n : ℕ) (rest : List ℕ) → Bytes rest → Bytes (number_bytes n ++ rest)
spelt_bytes n rest y = both_bytes (number_bytes n) rest (number_bytes_is 3 n) y

head_bytes_is : (f : Form) (c : ColourSpace) (w h : ℕ) → Bytes (head_spelt f c w h)
unfolding head_bytes tiled_bytes
head_bytes_is Rows c w h = spelt_bytes (form_number Rows) _ (spelt_bytes w _ (number_bytes_is 3 h))
head_bytes_is Tiles c w h = spelt_bytes (form_number Tiles) _ (spelt_bytes w _ (spelt_bytes h _ (number_bytes_is 3 (colour_number c))))

-- and of all blocks
blocks_bytes : (f : Form) (h : Head) (s : List ℕ) → Bytes s → Bytes (blocks_as f h s)
unfolding blocks_as byte_as block_by
blocks_bytes f h s y i = ⊎_elim inside (λ l. rw (get_or-eq_default (blocks_as f h s) 0 {n = i} (omega (arith, all_long f h s, l))) (lit< tt))
    (lt_or i (16 * blocks_of h))
  where
    inside : i < 16 * blocks_of h → get_or (blocks_as f h s) i 0 < 256
    inside l =
        let at = place_of h (number_by f (across h.width) (across h.height) (i / 16)) in
        rw (get_d_table (16 * blocks_of h) (byte_as f h s) 0 i l, block_get s at (i % 16) (omega arith)) (y (at + i % 16))

pub whole_moved : (f : Form) (s : List ℕ) → WholeSheet s → WholeSheet (moved_to f (read_head s) s)
unfolding moved_to
whole_moved f s z =
    let h = read_head s in
    let e = head_moved f s z.told in
    record {
      bytes = both_bytes (bytes_of_head (head_in_form f h)) (blocks_as f h s) (head_bytes_is f _ h.width h.height) (blocks_bytes f h s z.bytes);
      told = ap (λ (x : Head). x.refusal) e;
      long = long_moved f h s z.long ∙ ap (λ (x : Head). whole_length x) (sym e);
    }
