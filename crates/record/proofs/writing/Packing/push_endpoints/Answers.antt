-- `Packing::push_endpoints` meets its contract.
-- Assumes nothing.
use mathlib.Core.Path.{ap}
use native.Mathlib.Omega.{arith}
use Rattle.bc7_modes.specs.declared.ModeRow.{ModeRow}
use Rattle.record.proofs.writing.Packing.push_endpoints.Goals as goal

pub push_channel-red-requires : goal.push_channel-red-requires
push_channel-red-requires c =
    let s = c in
    record {
      channel = omega arith;
      width_is = ap (λ (x : ModeRow). x.colour) s.args.self.packs.packs.is;
      before = s.requires;
    }

pub push_channel-green-requires : goal.push_channel-green-requires
push_channel-green-requires c =
    let s = c in
    record {
      channel = omega arith;
      width_is = ap (λ (x : ModeRow). x.colour) s.args.self.packs.packs.is;
      before = c.push_channel-red.ensures;
    }

pub push_channel-blue-requires : goal.push_channel-blue-requires
push_channel-blue-requires c =
    let s = c in
    record {
      channel = omega arith;
      width_is = ap (λ (x : ModeRow). x.colour) s.args.self.packs.packs.is;
      before = c.push_channel-green.ensures;
    }

pub push_channel-requires : goal.push_channel-requires
push_channel-requires c =
    let s = c in
    record {
      channel = omega arith;
      width_is = ap (λ (x : ModeRow). x.alpha) s.args.self.packs.packs.is;
      before = c.push_channel-blue.ensures;
    }

pub returns : goal.returns
returns c = c.push_channel.ensures
