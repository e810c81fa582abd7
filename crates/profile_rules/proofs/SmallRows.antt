-- A row of a whole sheet by the small decoder: each refusal exactly when its rules say so, and what is drawn.
-- Assumes nothing.
use mathlib.Core.Path.{◌≡◌}
use mathlib.Core.Bool.{true, false, not}
use mathlib.Core.List.{List, ◌∷◌}
use Prim.Native.Nat.{ℕ, ◌+◌, ◌*◌, ◌<◌}
use Rattle.laws.specs.Refusals.{handed, refuse}
use Rattle.laws.proofs.Refusals.{Answers, Decided, answers, by_answer, by_leb, by_not, by_not_eqb, none, rule, rules}
use Rattle.laws.proofs.Tests.{T_true, at, below_intro, no_both, true_T}
use Rattle.head_rules.specs.Answers.{Head}
use Rattle.head_rules.specs.Geometry.{across}
use Rattle.head_rules.specs.Heads.{read_head}
use Rattle.head_rules.specs.Whole.{whole_refusal}
use Rattle.head_rules.proofs.Theorems.{head_answers}
use Rattle.head_rules.proofs.Whole.{whole_rules_is}
use Rattle.sheet_rules.specs.SheetRows.{row_room}
use Rattle.sheet_rules.specs.Sheets.{block_by}
use Rattle.profile_rules.specs.Profile.{Admitted, admits}
use Rattle.profile_rules.specs.Small.{row_admits, small_row_behind_whole, small_row_refusal, small_row_rules}
use Rattle.profile_rules.proofs.Modes.{admits_is, is_admitted}
use Rattle.profile_rules.proofs.Checking.{by_sides}

module _ (h : Head) (s : List ℕ) (row : ℕ) where
  abbrev in_row : ℕ → List ℕ
  in_row c = block_by h s (row * across h.width + c)

  pub row_is_admitted : row_admits h s row ≡ true → (c : ℕ) → c < across h.width → Admitted (in_row c)
  unfolding row_admits
  row_is_admitted e c l = admits_is (in_row c) (T_true _ (at (across h.width) (λ k. admits (in_row k)) (true_T _ e) c l))

  admitted_row : ((c : ℕ) → c < across h.width → Admitted (in_row c)) → row_admits h s row ≡ true
  unfolding row_admits
  admitted_row all = T_true _ (below_intro (across h.width) (λ k. admits (in_row k)) (λ c l. true_T _ (is_admitted (in_row c) (all c l))))

  pub row_is_not : row_admits h s row ≡ false → ((c : ℕ) → c < across h.width → Admitted (in_row c)) → ⊥
  row_is_not e all = no_both (admitted_row all) e

  pub by_row : Decided (refuse 20 (not (row_admits h s row))) 20 ((c : ℕ) → c < across h.width → Admitted (in_row c))
  by_row = by_not tt (row_admits h s row) row_is_admitted admitted_row

module _ (h : Head) (s : List ℕ) (row room : ℕ) where
  pub row_handed : Answers (small_row_refusal h s row room) (handed (whole_refusal h s) ∷ small_row_behind_whole h s row room)
  unfolding small_row_refusal
  row_handed = answers (rule by_answer λ w. rule (by_sides h) λ z. rule (by_leb tt (across h.height) row) λ b. rule
      (by_not_eqb tt room (row_room h row)) λ r. rule (by_row h s row) λ a. none)

pub row_in_words : (s : List ℕ) (row room : ℕ) → Answers (small_row_refusal (read_head s) s row room) (small_row_rules s row room)
unfolding small_row_refusal
row_in_words s row room =
    let h = read_head s in
    answers (rules (whole_rules_is h s (head_answers s)) λ w. rule (by_sides h) λ z. rule (by_leb tt (across h.height) row) λ b. rule
    (by_not_eqb tt room (row_room h row)) λ r. rule (by_row h s row) λ a. none)
