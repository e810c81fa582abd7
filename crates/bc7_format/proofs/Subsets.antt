-- That the statements are not empty: bytes of an array fit, every channel has a line of the mode, every line has its anchor.
-- Assumes nothing.
use mathlib.Core.Path.{◌≡◌, sym, ap, ◌∙◌}
use mathlib.Core.Bool.{Bool, true, false}
use mathlib.Core.List.{List, [], ◌∷◌}
use Prim.Native.Nat.{ℕ, zero, suc, ◌<◌}
use native.Mathlib.Omega.{arith}
use lib.Dec.{eqb, eqb→eq, lit<}
use lib.ListN.{length, get_or, replicate}
use Rattle.bc7_format.specs.declared.Place.{Place}
use Rattle.bc7_format.specs.declared.Split.{Split}
use Rattle.bc7_format.specs.declared.Split.TheVariants.{Whole, Two, Three, Vector}
use Rattle.laws.specs.Digits.{Fit, more, none}
use Rattle.laws.specs.Tables.{pick}
use Rattle.laws.proofs.Tests.{at}
use Rattle.bcn_format.specs.Block.{eights}
use Rattle.bc7_format.specs.Lines.{line_at}
use Rattle.bc7_format.specs.Modes.{kind_of_mode, lines, mode_row}
use Rattle.bcn_format.proofs.Subsets.{subset2_lt, subset3_lt}
use Rattle.bc7_format.specs.Splits.{is_vector, kind_of, partition, subset}
use Rattle.bc7_format.specs.WellFormed.{WellFormed}
use Rattle.bc7_format.proofs.Modes.{good_64}
use Rattle.bc7_format.proofs.Opening.{good_kind}

-- an array of sixteen bytes
fit_bytes : (n : ℕ) (bs : List ℕ) → length bs ≡ n → ((i : ℕ) → i < n → get_or bs i 0 < 256) → Fit (replicate n 8) bs
fit_bytes zero [] e h = none
fit_bytes zero (b ∷ bs) e h = absurd (let z : ⊥ = omega arith in z)
fit_bytes (suc n) [] e h = absurd (let z : ⊥ = omega arith in z)
fit_bytes (suc n) (b ∷ bs) e h = more (h 0 (omega arith)) (fit_bytes n bs (omega arith) (λ i l. h (suc i) (omega arith)))

pub sixteen_bytes : (bs : List ℕ) → length bs ≡ 16 → ((i : ℕ) → i < 16 → get_or bs i 0 < 256) → Fit eights bs
sixteen_bytes bs e h = fit_bytes 16 bs e h

-- the number of lines of each kind
kind_lines : (m : ℕ) → m < 8 → lines m ≡ get_or (1 ∷ 2 ∷ 3 ∷ 2 ∷ []) (kind_of_mode m) 0
unfolding mode_row kind_of_mode
kind_lines m h = eqb→eq _ _ (at 8 (λ m. eqb (lines m) (get_or (1 ∷ 2 ∷ 3 ∷ 2 ∷ []) (kind_of_mode m) 0)) tt m h)

-- a subset is below the number of its kind's
pub subset_below : (s : Split) (q : ℕ) → partition s < 64 → q < 16 → subset s q < get_or (1 ∷ 2 ∷ 3 ∷ 2 ∷ []) (kind_of s) 0
subset_below Whole q ha hq = lit< tt
subset_below (Two a) q ha hq = subset2_lt a q ha hq
subset_below (Three a) q ha hq = subset3_lt a q ha hq
subset_below (Vector r i) q ha hq = lit< tt

module _ {m : ℕ} {s : Split} {f : Place → ℕ} (g : WellFormed m s f) where
  pub good_lines : lines m ≡ get_or (1 ∷ 2 ∷ 3 ∷ 2 ∷ []) (kind_of s) 0
  good_lines = kind_lines m g.mode ∙ ap (λ (k : ℕ). get_or (1 ∷ 2 ∷ 3 ∷ 2 ∷ []) k 0) (sym (good_kind g))

  -- every channel of every pixel is of a line of the mode
  pub line_below : (q d : ℕ) → q < 16 → line_at s q d < lines m
  unfolding line_at
  line_below q d hq = rw good_lines (go s (subset_below s q (good_64 g) hq))
    where
      first : (b : Bool) → pick b 1 0 < 2
      first true = lit< tt
      first false = lit< tt

      go : (s : Split) → subset s q < get_or (1 ∷ 2 ∷ 3 ∷ 2 ∷ []) (kind_of s) 0
          → pick (is_vector s) (pick (eqb d 3) 1 0) (subset s q) < get_or (1 ∷ 2 ∷ 3 ∷ 2 ∷ []) (kind_of s) 0
      go Whole h = h
      go (Two a) h = h
      go (Three a) h = h
      go (Vector r i) h = first (eqb d 3)
