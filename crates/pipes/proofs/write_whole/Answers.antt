-- What `write_whole` owes: each round's bytes stand behind those that were written before.
-- Assumes nothing.
use Rattle.std.proofs.Common.{◌-◌, ◌++◌, take, drop, sym, ap, subst, ◌∙◌, arith, length-take}
use lib.Seq.{take-add, take-take}
use Rattle.std.specs.Io.KnownBytes.{Appends}
use Rattle.std.proofs.KnownBytes.{Appends-trans}
use Rattle.pipes.proofs.write_whole.Goals as goal

pub loop-done-preserved : goal.loop-done-preserved
loop-done-preserved g c =
    let done = c.loop-done.done in
    let n = c.in_ok-put.put in
    let xs = c.args.text.now in
    let before = c.loop-done.invariant in
    let fits = c.in_ok-put.ensures.few in
    let most = length-take (c.args.n - done) (drop done xs) in
    let joined = ap (λ l. take done xs ++ l) (take-take n (c.args.n - done) (drop done xs) (omega arith)) ∙ sym (take-add done n xs) in
    (omega arith, subst (Appends _ _) joined (Appends-trans _ _ _ _ _ before.1 c.in_ok-put.ensures.ok))
