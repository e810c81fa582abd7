-- `shown` meets its contract.
-- Assumes nothing.
use mathlib.Core.Path.{◌≡◌, ap, sym, subst, ◌∙◌}
use mathlib.Core.List.{List, [], ◌∷◌}
use Prim.Native.Nat.{ℕ, ◌<◌}
use native.Mathlib.Omega.{arith}
use Rattle.laws.specs.Tables.{table, table_from}
use Rattle.bcn_format.specs.Block.{number}
use Rattle.bc7_format.specs.Lines.{rotated}
use Rattle.bc7_format.proofs.Meaning.{rotated_lt}
use Rattle.pixel_rules.specs.Plain.{channel_in}
use Rattle.bc7_plain.specs.Asked.{ChannelAsked, PixelAsked}
use Rattle.bc7_plain.proofs.shown.Goals as goal

-- a channel, rotated
asked : {m r i : ℕ} {cs : List ℕ} {q : ℕ} → PixelAsked m r i cs q → (c : ℕ) {d : ℕ} → d ≡ rotated r c → c < 4
    → ChannelAsked m i cs q d
asked {r = r} s c e h = record {
  index_mode = s.index_mode;
  spelt = s.spelt;
  pixel = s.pixel;
  channel = subst (λ (x : ℕ). x < 4) (sym e) (rotated_lt r c s.rotation h);
}

pub channel_of-requires : goal.channel_of-requires
channel_of-requires c = asked c.requires 0 c.rotation_of.ensures (omega arith)

pub channel_of-requires-2 : goal.channel_of-requires-2
channel_of-requires-2 c = asked c.requires 1 c.rotation_of-2.ensures (omega arith)

pub channel_of-requires-3 : goal.channel_of-requires-3
channel_of-requires-3 c = asked c.requires 2 c.rotation_of-3.ensures (omega arith)

pub channel_of-requires-4 : goal.channel_of-requires-4
channel_of-requires-4 c = asked c.requires 3 c.rotation_of-4.ensures (omega arith)

pub returns : goal.returns
unfolding table table_from
returns c =
    let f : ℕ → ℕ = λ d. channel_in c.args.mode.number c.args.index_mode c.args.string.now (number c.args.block) c.args.pixel d in
    let e0 = c.channel_of.ensures ∙ ap f c.rotation_of.ensures in
    let e1 = c.channel_of-2.ensures ∙ ap f c.rotation_of-2.ensures in
    let e2 = c.channel_of-3.ensures ∙ ap f c.rotation_of-3.ensures in
    let e3 = c.channel_of-4.ensures ∙ ap f c.rotation_of-4.ensures in
    λ j. e0 j ∷ e1 j ∷ e2 j ∷ e3 j ∷ []
