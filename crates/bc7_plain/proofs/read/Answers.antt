-- `read` meets its contract.
-- Assumes nothing.
use mathlib.Core.Path.{◌≡◌, ◌∙◌}
use Rattle.bcn_format.specs.Block.{number}
use Rattle.pixel_rules.specs.Plain.{letters_of}
use Rattle.bc7_plain.proofs.Answers.{asked, letters_taken, partition_64, read}
use Rattle.bc7_plain.proofs.read.Goals as goal
use Rattle.bc7_plain.proofs.read.Goals.{After-string_of-string}

pub string_of-string-requires : goal.string_of-string-requires
string_of-string-requires c = partition_64 _ _ c.args.mode.in_table c.split_of-split.ensures

-- the string that was taken is that of the block's partition
taken : (c : After-string_of-string) → c.string_of-string.result.now ≡ letters_of c.args.mode.number (number c.args.block)
taken c =
    c.string_of-string.ensures
    ∙ letters_taken c.args.mode.number (number c.args.block) c.column.ensures.is c.split_of-split.ensures.partition

pub shown-requires : goal.shown-requires
shown-requires c =
    asked _ _ c.args.mode.in_table c.split_of-split.ensures _ c.requires (taken (goal.at.shown-requires c).After-string_of-string)

pub returns : goal.returns
returns c =
    read _ _ c.args.mode.in_table c.split_of-split.ensures _ c.requires (taken (goal.at.returns c).After-string_of-string) c.shown.ensures
