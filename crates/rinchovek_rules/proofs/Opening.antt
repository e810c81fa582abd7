-- What opening a sheet answers and leaves, as it is promised to C: eight numbers of its head.
-- Assumes nothing.
use Prim.Native.Nat.{ℕ}
use mathlib.Core.Path.{◌≡◌, ◌∙◌, ap, sym}
use mathlib.Core.Logic.{◌≢◌}
use mathlib.Core.List.{List, [], ◌∷◌}
use borrow.Author.Tests.{eq-eqb, ne_eqb}
use Rattle.head_rules.specs.Answers.{Head}
use Rattle.head_rules.specs.Colours.{colour_number}
use Rattle.head_rules.specs.Geometry.{across, blocks_of}
use Rattle.head_rules.specs.Heads.{Sized, form_number, read_head}
use Rattle.head_rules.proofs.Theorems.{head_sized}
use Rattle.rinchovek_rules.specs.Promises.{OpensSheet}

module _ (sheet : List ℕ) {x : Head} (e : x ≡ read_head sheet) where
  pub sized : x.refusal ≡ 0 → Sized x.width x.height
  sized z = rw e (head_sized sheet (rw e at z))

  pub not_opened : (before : List ℕ) → x.refusal ≢ 0 → OpensSheet sheet before x.refusal before
  not_opened before ne = record { answers = ap (λ (h : Head). h.refusal) e; leaves = rw (← e, ne_eqb _ 0 ne) }

  pub opened : (before : List ℕ) → x.refusal ≡ 0 → {c f a b n : ℕ} → c ≡ colour_number x.colour_space → f ≡ form_number x.form
      → a ≡ across x.width → b ≡ across x.height → n ≡ blocks_of x
      → OpensSheet sheet before 0 (x.width ∷ x.height ∷ x.start ∷ c ∷ f ∷ a ∷ b ∷ n ∷ [])
  opened before z ec ef ea eb en = record {
    answers = sym z ∙ ap (λ (h : Head). h.refusal) e;
    leaves = rw (← e, eq-eqb _ 0 z) (rw (ec, ef, ea, eb, en));
  }
