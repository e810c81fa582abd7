-- `parts::mask_of` meets its contract: the word of its parts, as `word_of` makes one.
-- Assumes nothing.
use mathlib.Core.Path.{◌≡◌, sym, ap, ◌∙◌}
use Prim.Native.Nat.{ℕ, ◌-◌, ◌^◌}
use native.Mathlib.Omega.{arith}
use lib.ListN.{get_or}
use Rattle.laws.specs.Tables.{pick}
use Rattle.laws.proofs.Part.{get_d_table}
use Rattle.bc7_places.specs.Lines.{own_pixel}
use Rattle.indexes.proofs.sets.Words.{Next, upper_all, upper_next}
use Rattle.line.proofs.parts.Asks.{mask_fits}
use Rattle.line.proofs.parts.mask_of.Goals as goal
use Rattle.line.proofs.parts.mask_of.Invariants.{parts}
use Rattle.line.proofs.parts.mask_of.Goals.{After-at_own}

-- the part that comes next, and what it makes of the word
part_is : (c : After-at_own)
    → c.at_own.result ≡ get_or (parts c.args.pixels c.args.width)
    (c.loop-i.i - 1) 0
part_is c =
    let l = c in
    c.at_own.ensures ∙ ap (λ (v : ℕ). pick (own_pixel l.args.pixels (l.loop-i.i - 1)) v 0) l.loop-i.invariant.0
    ∙ sym
    (get_d_table 16 (λ q. pick (own_pixel c.args.pixels q) (2 ^ c.args.width - 1) 0) 0
    (c.loop-i.i - 1) (omega arith))

step : (c : After-at_own)
    → Next c.args.width (parts c.args.pixels c.args.width)
    c.loop-i.i c.loop-i.mask
step c =
    let s = c in
    upper_next _ _ (mask_fits s.args.pixels s.args.width) s.requires.width c.loop-i.i c.loop-i.mask
    (omega arith) c.loop-i.auto.i c.loop-i.invariant.1

pub overflow_add-mask : goal.overflow_add-mask
overflow_add-mask c = record { fits = rw (part_is c) (step c).0 }

pub loop-i-preserved : goal.loop-i-preserved
loop-i-preserved c = (c.loop-i.invariant.0, rw (part_is c) (step c).1)

pub returns : goal.returns
returns c =
    upper_all _ _ (mask_fits c.args.pixels c.args.width) _
    (let z : c.loop-i.i ≡ 0 = omega (arith, c.loop-i-test.false) in rw z at c.loop-i.invariant.1)
