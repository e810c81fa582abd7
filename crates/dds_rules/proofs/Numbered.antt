-- Export under a number: 18 in its place, and otherwise what export answers.
-- Assumes nothing.
use mathlib.Core.Path.{◌≡◌, refl, ap, sym}
use mathlib.Core.Bool.{not}
use mathlib.Core.List.{List, [], ◌∷◌}
use Prim.Native.Nat.{ℕ, ◌≤◌}
use lib.Dec.{eqb}
use Rattle.head_rules.specs.declared.Form.TheVariants.{Rows}
use Rattle.head_rules.specs.Answers.{Head}
use Rattle.head_rules.specs.Colours.{colour_refusal}
use Rattle.head_rules.proofs.Between.{nothing_before_9, with_answers, with_same}
use Rattle.head_rules.proofs.Colours.{colour_test}
use Rattle.head_rules.proofs.Theorems.{of_rows}
use Rattle.head_rules.proofs.Whole.{whole_rules_as, whole_when}
use Rattle.laws.specs.Refusals.{refuse, unless}
use Rattle.laws.proofs.Refusals.{Answers, Decided, accepted_when, answers, by_not_eqb, decided_so, none, rule, rules}
use Rattle.dds_rules.specs.Files.{export_refusal, file_length, numbered_head, numbered_refusal, numbered_rules, sheet_head}

module _ (s : List ℕ) (n : ℕ) where
  same : (numbered_head n s).refusal ≡ 0 → numbered_head n s ≡ sheet_head s
  same = with_same (colour_refusal n) Rows s

  -- a number that is a colour space's changes nothing
  pub numbered_as : n ≤ 2 → numbered_head n s ≡ sheet_head s
  numbered_as l = sym (nothing_before_9 (colour_refusal n) Rows s refl (decided_so (colour_test n) l))

  pub numbered_export : (room : ℕ) → n ≤ 2 → numbered_refusal s n room ≡ export_refusal (sheet_head s) s room
  unfolding numbered_refusal
  numbered_export room l = ap (λ (h : Head). export_refusal h s room) (numbered_as l)

-- each test and its rule
pub numbered_rules_is : (s : List ℕ) (n room : ℕ) → Answers (numbered_refusal s n room) (numbered_rules s n room)
unfolding numbered_refusal export_refusal
numbered_rules_is s n room =
    let h = numbered_head n s in
    let head = of_rows s (unless 18 (n ≤ 2) ∷ []) (with_answers (colour_refusal n) Rows s (colour_test n)) in
    let whole = whole_rules_as h s (sheet_head s) (same s n) head in
    answers (rules whole λ m. rule (eleven (same s n ((whole_when h s).0 ((accepted_when whole).1 m)).told)) λ r. none)
  where
    eleven : numbered_head n s ≡ sheet_head s
        → Decided (refuse 11 (not (eqb room (file_length (numbered_head n s))))) 11 (room ≡ file_length (sheet_head s))
    eleven e = rw e (by_not_eqb tt room (file_length (sheet_head s)))
