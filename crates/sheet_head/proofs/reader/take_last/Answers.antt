-- `reader::take_last` meets its contract.
-- Assumes nothing.
use Prim.Native.Nat.{ℕ, ◌+◌, ◌*◌, ◌^◌}
use mathlib.Core.Path.{◌∙◌, ap, ap₂, sym}
use Rattle.head_rules.specs.Answers.{reader_known}
use Rattle.head_rules.specs.Reader.{last_taken, number_in}
use Rattle.sheet_head.proofs.reader.take_last.Goals as goal

pub returns-then-empty_above : goal.returns-then-empty_above
unfolding last_taken
returns-then-empty_above c = sym (rw (← c.empty_above.ensures, c.if-empty_above.true))

pub returns : goal.returns
unfolding last_taken
returns c =
    let a = reader_known c.args.reader in
    c.take_number.ensures
    ∙ ap₂ (number_in a.stage a.head)
    (ap (λ (v : ℕ). a.low + v) (c.group.ensures.same ∙ ap (λ (v : ℕ). v * 128 ^ a.groups) c.wide.ensures))
    (ap (λ (g : ℕ). a.head.start + g + 1) c.wide-2.ensures)
    ∙ sym (rw (← c.empty_above.ensures, c.if-empty_above.false))
