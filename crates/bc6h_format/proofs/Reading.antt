-- A field is what a reader gathers that takes the items one after the other from a position on.
-- Assumes nothing.
use mathlib.Core.Path.{◌≡◌, refl, ◌∙◌, ap, sym}
use mathlib.Core.List.{List, [], ◌∷◌, map}
use Prim.Native.Nat.{ℕ, ◌+◌, ◌/◌, ◌%◌, ◌^◌}
use native.Mathlib.Nat.{div-one}
use lib.Pow.{shr-shr}
use Rattle.laws.specs.Digits.{split}
use Rattle.laws.specs.Tables.{pick}
use Rattle.bcn_format.specs.Block.{field}
use Rattle.bc6h_format.specs.Items.{Item, gathered, is_of, long, worth}
use Rattle.bc6h_format.specs.Modes.{Row}
use Rattle.bc6h_format.specs.Opened.{field_of, item_widths}

-- the items read from bit s of n on
abbrev pub read_from : ℕ → ℕ → List Item → ℕ → ℕ → ℕ
read_from c e [] n s = 0
read_from c e (i ∷ is) n s = read_from c e is n (s + long i) + pick (is_of c e i) (worth i (field n s (long i))) 0

pub gathered_read : (c e : ℕ) (is : List Item) (n s : ℕ) → gathered c e is (split (map long is) (n / 2 ^ s)) ≡ read_from c e is n s
unfolding field
gathered_read c e [] n s = refl
gathered_read c e (i ∷ is) n s =
    ap (λ (x : ℕ). x + pick (is_of c e i) (worth i (n / 2 ^ s % 2 ^ long i)) 0)
    (ap (λ (x : ℕ). gathered c e is (split (map long is) x)) (shr-shr n s (long i)) ∙ gathered_read c e is n (s + long i))

pub field_read : (r : Row) (n c e : ℕ) → field_of r n c e ≡ read_from c e r.items n 0
unfolding field_of item_widths
field_read r n c e =
    ap (λ (x : ℕ). gathered c e r.items (split (map long r.items) x)) (let y : n ≡ n / 2 ^ 0 = sym (div-one n) in y)
    ∙ gathered_read c e r.items n 0
