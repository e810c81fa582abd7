-- `check_profile` meets its contract.
-- Assumes nothing.
use mathlib.Core.Path.{refl, sym}
use native.Mathlib.Omega.{arith}
use Rattle.std.proofs.Common.{rules}
use Rattle.refusals.proofs.Answers.{number_not_0}
use Rattle.profile.proofs.Answering.{answers_broken, answers_kept, answers_not_sides, answers_not_whole, long_is, not_20, not_20_but_17, size_is}
use Rattle.profile.proofs.check_profile.Goals as goal

pub returns-in-Err : goal.returns-in-Err
returns-in-Err c = (answers_not_whole _ c.in-Err.ensures (number_not_0 _), not_20 c.args.sheet.now c.in-Err.ensures refl)

pub returns-in-Err-check_sides : goal.returns-in-Err-check_sides
returns-in-Err-check_sides c = (
  answers_not_sides _ c.in-Ok.ensures refl c.in-Err-check_sides.ensures (number_not_0 _),
  not_20_but_17 c.args.sheet.now c.in-Ok.ensures refl c.in-Err-check_sides.ensures,
)

pub first_breaking-first-requires : goal.first_breaking-first-requires
first_breaking-first-requires c =
    let head = c.in-Ok.ensures in
    record { sized = size_is _ head refl; whole = long_is _ head refl }

pub blocks_of-requires : goal.blocks_of-requires
blocks_of-requires c = size_is _ c.in-Ok.ensures refl

pub returns-then-first-blocks_of : goal.returns-then-first-blocks_of
returns-then-first-blocks_of c = (
  answers_broken _ c.in-Ok.ensures refl (sym c.in-Ok-check_sides.ensures) c.first_breaking-first.ensures
      (omega (arith, c.if-first-blocks_of.true, c.blocks_of.ensures.same)),
  search rules,
)

pub returns : goal.returns
returns c = (
  answers_kept _ c.in-Ok.ensures refl (sym c.in-Ok-check_sides.ensures) c.first_breaking-first.ensures
      (omega (arith, c.if-first-blocks_of.false, c.blocks_of.ensures.same)),
  search rules,
)
