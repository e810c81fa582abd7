-- `Packing::push_channel` meets its contract.
-- Assumes nothing.
use native.Mathlib.Omega.{arith}
use Rattle.bc7_modes.proofs.Bounds.{small}
use Rattle.record.proofs.writing.Pushing.{channel_asks, channel_bits_is, channel_fits, channel_next, of_mode_is}
use Rattle.record.proofs.writing.Packing.push_channel.Goals as goal

pub joined-word-requires : goal.joined-word-requires
joined-word-requires c =
    let s = c in
    record {
      count = (small (of_mode_is s.args.self.packs.packs)).endpoints;
      width = channel_bits_is s.args.self.packs.packs _ s.requires.channel s.requires.width_is;
      inside = λ k l. omega (arith, s.requires.channel, (small (of_mode_is s.args.self.packs.packs)).endpoints);
      few = omega arith;
      values = channel_fits s.args.self.packs.packs _ s.requires.channel s.requires.width_is;
    }

pub overflow_cast-self : goal.overflow_cast-self
overflow_cast-self c = omega (arith, (small (of_mode_is c.args.self.packs.packs)).endpoints)

pub overflow_mul-self : goal.overflow_mul-self
overflow_mul-self c =
    let s = c in
    omega (arith, (channel_asks s.args.self.packs.packs _ s.requires.channel s.requires.width_is s.requires.before c.joined-word.ensures).room)

pub push-requires : goal.push-requires
push-requires c =
    let s = c in
    channel_asks s.args.self.packs.packs _ s.requires.channel s.requires.width_is s.requires.before c.joined-word.ensures

pub returns : goal.returns
returns c =
    let s = c in
    channel_next s.args.self.packs.packs _ s.requires.channel s.requires.width_is s.requires.before c.joined-word.ensures
    c.push.ensures
