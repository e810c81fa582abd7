-- `read_of_form_with` meets its contract.
-- Assumes nothing.
use mathlib.Core.Logic.{◌⊎◌, inl, inr}
use mathlib.Core.List.{List}
use mathlib.Core.Path.{◌≡◌, ◌∙◌, ap, refl}
use Prim.Native.Nat.{ℕ}
use Rattle.std.specs.Prelude.{Result, Ok, Err, ⊤}
use Rattle.std.specs.Result.{result_and}
use Rattle.head_rules.specs.declared.Form.{Form}
use Rattle.head_rules.specs.declared.Head.{Head}
use Rattle.head_rules.specs.Answers.{head_answered}
use Rattle.head_rules.specs.Heads.{read_of_form, read_of_form_with}
use Rattle.refusals.specs.declared.Refusal.{Refusal}
use Rattle.refusals.specs.Answers.{number, number_of}
use Rattle.refusals.proofs.Answers.{number_injective, number_not_0}
use Rattle.head_rules.proofs.Between.{given_before_9, nothing_before_9, refused_before_9}
use Rattle.sheet_head.proofs.read_of_form_with.Goals as goal

-- a test of one's own is looked at where the head is accepted, or refused with 9
tested : (own : Result ⊤ Refusal) (x : Result Head Refusal) (f : Form) (s : List ℕ) → head_answered x ≡ read_of_form f s
    → ((head_answered x).refusal ≡ 0) ⊎ ((head_answered x).refusal ≡ 9) → head_answered (result_and own x) ≡ read_of_form_with (number_of own) f s
tested (Ok u) x f s e o = nothing_before_9 _ _ _ e refl
tested (Err r) x f s e o = given_before_9 _ _ _ e (number_not_0 r) o

pub returns-in-Ok : goal.returns-in-Ok
returns-in-Ok c = ap head_answered c.and.ensures ∙ tested c.args.own _ _ _ c.in-Ok.ensures (inl refl)

pub returns-in-BadSide : goal.returns-in-BadSide
returns-in-BadSide c = ap head_answered c.and-in-BadSide.ensures ∙ tested c.args.own _ _ _ c.in-Err.ensures (inr (ap number c.in-BadSide.is))

pub returns-in_default : goal.returns-in_default
returns-in_default c =
    refused_before_9 _ _ _ c.in-Err.ensures (number_not_0 _) (λ q. c.in_default.not-BadSide (number_injective q))
