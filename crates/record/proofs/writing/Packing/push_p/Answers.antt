-- `Packing::push_p` meets its contract.
-- Assumes nothing.
use mathlib.Core.Path.{◌≡◌, ◌∙◌}
use Prim.Native.Nat.{ℕ, ◌+◌, ◌*◌}
use lib.ListN.{get_or}
use Rattle.laws.specs.Digits.{evenly}
use native.Mathlib.Omega.{arith}
use Rattle.bc7_modes.proofs.Bounds.{small}
use Rattle.record.proofs.writing.Pushing.{bits_ask, bits_fit, bits_next, of_mode_is}
use Rattle.record.proofs.writing.Packing.push_p.Goals as goal
use Rattle.record.proofs.writing.Packing.push_p.Goals.{After-joined}

-- a step of 1, from 0 on
each : (k : ℕ) → 1 * k + 0 ≡ k
each k = omega arith

p_word : (c : After-joined) → c.joined.result ≡ evenly c.args.self.row.p 1 (λ k. get_or c.args.self.«record».p k 0)
p_word c = c.joined.ensures ∙ λ j. evenly c.args.self.row.p 1 (λ k. get_or c.args.self.«record».p (each k j) 0)

pub joined-requires : goal.joined-requires
joined-requires c =
    let packs = c.args.self.packs.packs in
    let count = (small (of_mode_is packs)).p in
    record {
      count = count;
      width = omega arith;
      inside = λ k l. omega (arith, count);
      few = omega arith;
      values = λ k l. rw (each k) (bits_fit packs k l);
    }

pub overflow_cast-self : goal.overflow_cast-self
overflow_cast-self c = omega (arith, (small (of_mode_is c.args.self.packs.packs)).p)

pub push-requires : goal.push-requires
push-requires c = let s = c in bits_ask s.args.self.packs.packs s.requires (p_word (goal.at.push-requires c).After-joined)

pub returns : goal.returns
returns c =
    let s = c in
    bits_next s.args.self.packs.packs s.requires (p_word (goal.at.returns c).After-joined) c.push.ensures
