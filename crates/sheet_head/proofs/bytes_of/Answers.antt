-- `bytes_of` meets its contract.
-- Assumes nothing.
use mathlib.Core.Path.{◌∙◌, ap}
use native.Mathlib.Omega.{arith}
use Rattle.head_rules.specs.Answers.{HeadBytes}
use Rattle.head_rules.specs.Heads.{with_bytes}
use Rattle.head_rules.specs.Numbers.{number_bytes}
use Rattle.head_rules.proofs.Writing.{all, few, one_byte, same_count}
use Rattle.sheet_head.proofs.bytes_of.Goals as goal

pub write_number-requires-2 : goal.write_number-requires-2
write_number-requires-2 c =
    (omega (arith, same_count c.write_number.ensures, one_byte), omega (arith, c.requires.within_wide))

pub write_number-requires-3 : goal.write_number-requires-3
write_number-requires-3 c = (
  omega (arith, same_count c.write_number-2.ensures, few 3 c.args.width, same_count c.write_number.ensures, one_byte),
  omega (arith, c.requires.within_high),
)

pub returns : goal.returns
returns c =
    c.write_number-3.ensures
    ∙ ap (λ (x : HeadBytes). with_bytes x (number_bytes c.args.height))
    (c.write_number-2.ensures ∙ ap (λ (x : HeadBytes). with_bytes x (number_bytes c.args.width)) c.write_number.ensures)
    ∙ all c.args.width c.args.height
