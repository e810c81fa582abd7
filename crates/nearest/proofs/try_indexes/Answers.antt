-- `try_indexes` meets its contract.
-- Assumes nothing.
use mathlib.Core.Path.{◌≡◌, refl}
use Prim.Native.Nat.{ℕ}
use borrow.Author.Rules.{rules}
use mir.Syntax.{w8}
use mir.Val.{Fits}
use lib.ListN.{length, get_or}
use Rattle.std.proofs.lemmas.Result.{err_from_is_err_and}
use Rattle.laws.specs.Digits.{Fit}
use Rattle.bcn_format.specs.Block.{eights}
use Rattle.bc7_format.proofs.Subsets.{sixteen_bytes}
use Rattle.refusals.proofs.Answers.{number_not_0}
use Rattle.nearest.proofs.Trying.{answers, can_try, no_such_pixel, not_read, open_block, other_line}
use Rattle.nearest.proofs.try_indexes.Goals as goal
use Rattle.nearest.proofs.try_indexes.Goals.{Start}

sixteen : (s : Start) → Fit eights s.args.block
sixteen s =
    let size : length s.args.block ≡ 16 = search rules in
    let byte : (i : ℕ) → Fits w8 (get_or s.args.block i 0) = search rules in
    sixteen_bytes _ size (λ i l. (byte i).fits)

pub returns-in_err-read : goal.returns-in_err-read
returns-in_err-read c =
    let p = err_from_is_err_and c.from_residual.result c.from_residual.ensures.1 in
    rw (p.1, p.2) (not_read _ (sixteen c.before.before.before.before) _ _ _ c.in_err-read.ensures (number_not_0 _))

pub returns-then-pixel-ge16 : goal.returns-then-pixel-ge16
returns-then-pixel-ge16 c = no_such_pixel _ (sixteen c.before.before.before.before) _ _ _ c.in_ok-read.ensures refl c.if-pixel-ge16.true

pub returns-then-bits-eq0 : goal.returns-then-bits-eq0
returns-then-bits-eq0 c = other_line _ (sixteen c.before.before.before.before.before.before) _ _ _ c.in_ok-read.ensures refl c.if-pixel-ge16.false c.if-bits-eq0.true

pub rotation_in-requires : goal.rotation_in-requires
rotation_in-requires c = open_block _ (sixteen c.before.before.before.before.before.before) _ c.args.pixel c.args.wanted c.in_ok-read.ensures refl

pub nearest_of-requires : goal.nearest_of-requires
nearest_of-requires c =
    can_try _ (sixteen c.before.before.before.before.before.before.before) _ _ c.args.wanted c.in_ok-read.ensures refl c.if-pixel-ge16.false c.if-bits-eq0.false c.rotation_in.ensures

pub returns : goal.returns
returns c =
    answers _ (sixteen c.before.before.before.before.before.before.before.before) _ _ _ c.in_ok-read.ensures refl c.if-pixel-ge16.false c.if-bits-eq0.false c.rotation_in.ensures c.nearest_of.ensures
