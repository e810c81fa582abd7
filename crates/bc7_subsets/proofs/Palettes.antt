-- The palettes of two and three subsets, of endpoints that show what the mode's number has.
-- Assumes nothing.
use mathlib.Core.Path.{◌≡◌, ap, ap₂, ◌∙◌}
use mathlib.Core.List.{List, []}
use Prim.Native.Nat.{ℕ, zero, suc, ◌+◌, ◌*◌, ◌^◌, ◌<◌}
use native.Mathlib.Nat.{mul-le-mul_left, mul-suc}
use native.Mathlib.Omega.{arith}
use lib.Dec.{eqb}
use lib.ListN.{get_or}
use Rattle.laws.specs.Tables.{pick, table}
use Rattle.laws.proofs.Part.{get_d_table}
use Rattle.bc7_fields.specs.Painting.{between, four}
use Rattle.bc7_fields.specs.Fields.{end_byte}
use Rattle.bc7_fields.proofs.Ends.{EndsShown}
use Rattle.bc7_fields.proofs.Pictures.{colour_between, four_ext, Palette}
use Rattle.bc7_drawing.specs.declared.colour.Ends.{Ends}
use Rattle.bc7_drawing.specs.declared.colour.Stored.{Stored}
use Rattle.bc7_drawing.specs.Words.{endpoint, Holds}
use Rattle.bc7_drawing.proofs.colour.Words.{endpoint_of}
use Rattle.bc7_drawing.specs.Colours.{endpoints, keyed}
use Rattle.bc7_drawing.proofs.palette.Keyed.{keyed_at}

module _ (m n b : ℕ) where
  ends_shown : (g : Stored → ℕ → ℕ → ℕ) (x y : Stored) {e : Ends} → Holds (λ l. g (pick (eqb l 0) x y)) e → (l j : ℕ) → l < 2
      → EndsShown m n j (g (pick (eqb l 0) x y)) → (k : ℕ) → k < 2
      → endpoint e l k ≡ four (end_byte m n (2 * j + k))
  ends_shown g x y {e} h l j hl shows k hk =
      ap (λ (e : Ends). endpoint e l k) h.same ∙ endpoint_of _ h.each l k hl hk ∙ four_ext _ _ (λ c hc. shows k c hk hc)

  palette_at : (t : ℕ) (ends : ℕ → ℕ → List ℕ) (l i : ℕ) → l < t → i < 2 ^ b → ((k : ℕ) → k < 2 → ends l k ≡ four (end_byte m n (2 * l + k)))
      → get_or (table (t * 2 ^ b) (keyed b t ends)) (t * i + l) [] ≡ colour_between m n b l i
  palette_at t ends l i hl hi are =
      get_d_table (t * 2 ^ b) (keyed b t ends) [] (t * i + l) (omega (arith, mul-le-mul_left t hi, mul-suc t i))
      ∙ keyed_at b t ends i l hl
      ∙ ap₂ (λ (p q : List ℕ). between b p q i) (are 0 (omega arith)) (are 1 (omega arith))

  module _ (g : Stored → ℕ → ℕ → ℕ) (x y : Stored) {e : Ends} (holds : Holds (λ l. g (pick (eqb l 0) x y)) e) (first : EndsShown m n 0 (g x))
      (second : EndsShown m n 1 (g y)) where
    ends_2 : (l : ℕ) → l < 2 → (k : ℕ) → k < 2 → endpoint e l k ≡ four (end_byte m n (2 * l + k))
    ends_2 zero hl = ends_shown g x y holds 0 0 hl first
    ends_2 (suc zero) hl = ends_shown g x y holds 1 1 hl second
    ends_2 (suc (suc l)) hl = absurd (let z : ⊥ = omega arith in z)

    pub two_palette : {q : List (List ℕ)} → q ≡ table (2 * 2 ^ b) (keyed b 2 (endpoint e)) → Palette m n b 2 1 q
    two_palette eq =
        record {
          at = λ l i hl hi. let place : i * 2 ^ 1 + l ≡ 2 * i + l = omega arith in rw (eq, place)
              (palette_at 2 (endpoint e) l i hl hi (ends_2 l hl));
        }

    module _ (z w : Stored) {f : Ends} (more_held : Holds (λ l. g (pick (eqb l 0) z w)) f) (third : EndsShown m n 2 (g z)) where
      ends_3 : (l : ℕ) → l < 3 → (k : ℕ) → k < 2 → endpoints e f l k ≡ four (end_byte m n (2 * l + k))
      unfolding endpoints
      ends_3 zero hl = ends_2 0 (omega arith)
      ends_3 (suc zero) hl = ends_2 1 (omega arith)
      ends_3 (suc (suc zero)) hl = ends_shown g z w more_held 0 2 (omega arith) third
      ends_3 (suc (suc (suc l))) hl = absurd (let z : ⊥ = omega arith in z)

      pub three_palette : {q : List (List ℕ)} → q ≡ table (4 * 2 ^ b) (keyed b 4 (endpoints e f)) → Palette m n b 3 2 q
      three_palette eq =
          record {
            at = λ l i hl hi. let place : i * 2 ^ 2 + l ≡ 4 * i + l = omega arith in rw (eq, place)
                (palette_at 4 (endpoints e f) l i (omega arith) hi (ends_3 l hl));
          }
