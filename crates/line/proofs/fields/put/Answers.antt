-- `fields::put` meets its contract.
-- Assumes nothing.
use native.Mathlib.Omega.{arith}
use borrow.Author.Rules.{rules}
use Rattle.bits.specs.Stream.{held}
use Rattle.line.proofs.fields.Halves.{in_high, in_low, read_at}
use Rattle.line.proofs.fields.put.Goals as goal

pub exchanged-requires : goal.exchanged-requires
exchanged-requires c =
    let s = c in
    let from = c in
    rw (read_at s.args.s s.args.at s.args.count from.standing_at.ensures c.take-old.ensures.same)
    (in_low s.args.s.low s.args.s.high s.args.at s.args.count s.args.value (search rules) (search rules) s.requires.fits
    (omega arith) s.requires.room).low

pub exchanged-requires-then-at-lt64 : goal.exchanged-requires-then-at-lt64
exchanged-requires-then-at-lt64 c =
    let s = c in
    rw (read_at s.args.s s.args.at s.args.count c.standing_at.ensures
    c.take-old.ensures.same)
    (in_low s.args.s.low s.args.s.high s.args.at s.args.count s.args.value (search rules) (search rules) s.requires.fits
    (omega arith) s.requires.room).high

pub returns-then-at-lt64 : goal.returns-then-at-lt64
unfolding held
returns-then-at-lt64 c =
    let s = c in
    let e =
    read_at s.args.s s.args.at s.args.count c.standing_at.ensures
    c.take-old.ensures.same in
    rw (c.exchanged.ensures, c.exchanged-then-at-lt64.ensures, e)
    (in_low s.args.s.low s.args.s.high s.args.at s.args.count s.args.value (search rules) (search rules) s.requires.fits
    (omega arith) s.requires.room).whole

pub exchanged-requires-2 : goal.exchanged-requires-2
exchanged-requires-2 c =
    let s = c in
    let from = c in
    rw (read_at s.args.s s.args.at s.args.count from.standing_at.ensures c.take-old.ensures.same)
    (in_high s.args.s.low s.args.s.high s.args.at s.args.count s.args.value (search rules) (search rules) s.requires.fits
    (omega arith) s.requires.room).high

pub returns : goal.returns
unfolding held
returns c =
    let s = c in
    let old = c in
    let e = read_at s.args.s s.args.at s.args.count old.standing_at.ensures old.take-old.ensures.same in
    rw (c.exchanged-2.ensures, e)
    (in_high s.args.s.low s.args.s.high s.args.at s.args.count s.args.value (search rules) (search rules) s.requires.fits
    (omega arith) s.requires.room).whole
