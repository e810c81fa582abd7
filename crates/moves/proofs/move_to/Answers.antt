-- `move_to` meets its contract.
-- Assumes nothing.
use mathlib.Core.List.{List}
use Prim.Native.Nat.{ℕ}
use mathlib.Core.Path.{◌≡◌, ◌∙◌, ap, refl, sym}
use native.Mathlib.Omega.{arith}
use Rattle.laws.specs.Refusals.{here, then}
use Rattle.refusals.proofs.Answers.{number_not_0}
use Rattle.head_rules.specs.declared.Form.{Form}
use Rattle.head_rules.specs.Colours.{colour_number}
use Rattle.head_rules.specs.Answers.{Head}
use Rattle.head_rules.specs.Heads.{read_of_form}
use Rattle.head_rules.specs.Whole.{whole_head}
use Rattle.head_rules.proofs.Answers.{passed_up}
use Rattle.move_rules.specs.Moving.{other}
use Rattle.move_rules.proofs.Moving.{unstated}
use Rattle.moves.proofs.Answers.{is_moved, long_is, not_moved, not_whole, size_is}
use Rattle.moves.proofs.move_to.Goals as goal

-- the head of the whole sheet, by the code's own words
head_of : (f : Form) (s : List ℕ) {g : Form} {w : Head} → w ≡ whole_head (read_of_form g s) s → g ≡ other f
    → w ≡ whole_head (read_of_form (other f) s) s
head_of f s w g = w ∙ ap (λ (k : Form). whole_head (read_of_form k s) s) g

pub returns-in_err-head : goal.returns-in_err-head
returns-in_err-head c =
    let a = c.args in
    rw (passed_up _ c.from_residual.ensures.1)
    (not_whole a.form a.sheet.now a.out.now (head_of _ _ c.in_err-head.ensures c.other.ensures) (number_not_0 _))

pub length_as-requires : goal.length_as-requires
length_as-requires c = let a = c.args in size_is a.form a.sheet.now a.out.now (head_of _ _ c.in_ok-head.ensures c.other.ensures) refl

pub returns-then-out-length_as : goal.returns-then-out-length_as
returns-then-out-length_as c =
    let a = c.args in
    not_moved a.form a.sheet.now a.out.now (head_of _ _ c.in_ok-head.ensures c.other.ensures) refl
    (here (λ q. c.if-out-length_as.true (q ∙ sym c.length_as.ensures))) (λ z. omega arith)

pub returns-then-number_of-ne0 : goal.returns-then-number_of-ne0
returns-then-number_of-ne0 c =
    let a = c.args in
    not_moved a.form a.sheet.now a.out.now (head_of _ _ c.in_ok-head.ensures c.other.ensures) refl
    (then (c.if-out-length_as.false ∙ c.length_as.ensures) (here (λ q. c.if-number_of-ne0.true (c.number_of.ensures ∙ ap colour_number q))))
    (λ z. omega arith)

pub lay-requires : goal.lay-requires
lay-requires c =
    let a = c.args in
    record {
      size = size_is a.form a.sheet.now a.out.now (head_of _ _ c.in_ok-head.ensures c.other.ensures) refl;
      whole = long_is a.form a.sheet.now a.out.now (head_of _ _ c.in_ok-head.ensures c.other.ensures) refl;
      room = c.if-out-length_as.false ∙ c.length_as.ensures;
    }

pub returns : goal.returns
returns c =
    let a = c.args in
    is_moved a.form a.sheet.now a.out.now (head_of _ _ c.in_ok-head.ensures c.other.ensures) refl (
      c.if-out-length_as.false ∙ c.length_as.ensures,
      (unstated _ (sym c.number_of.ensures ∙ c.if-number_of-ne0.false), tt),
    ) c.lay.ensures
