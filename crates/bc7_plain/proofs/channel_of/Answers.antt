-- `channel_of` meets its contract.
-- Assumes nothing.
use mathlib.Core.Path.{◌≡◌, ap, ap₂, sym, subst, ◌∙◌}
use mathlib.Core.List.{List}
use Prim.Native.Nat.{ℕ, ◌+◌, ◌*◌, ◌^◌, ◌≤◌, ◌<◌}
use native.Mathlib.Omega.{arith}
use Rattle.laws.proofs.Cases.{pick_less}
use Rattle.bcn_format.specs.Block.{number}
use Rattle.bcn_format.specs.Drawing.{Weighed, drawn, weight_of}
use Rattle.bcn_format.proofs.Drawing.{weight_le}
use Rattle.bcn_format.proofs.Fields.{field_below}
use Rattle.bc7_fields.specs.Fields.{end_byte}
use Rattle.bc7_format.specs.Modes.{endpoint_count, index_bits}
use Rattle.pixel_rules.specs.Plain.{channel_in, index_in, index_wide, set_for}
use Rattle.pixel_rules.specs.Strings.{is_anchor_in, subset_spelt}
use Rattle.bc7_plain.specs.Asked.{ChannelAsked}
use Rattle.bc7_plain.proofs.Rows.{Serves, fits, serves}
use Rattle.bc7_plain.proofs.channel_of.Goals as goal

-- the set that serves the channel
served : {m i : ℕ} {cs : List ℕ} {q d : ℕ} → m < 8 → ChannelAsked m i cs q d → {a : ℕ} → a ≡ set_for m i d → Serves m a
served {m = m} {i = i} {d = d} h s e = subst (Serves m) (sym e) (serves m i d h s.index_mode s.channel)

-- its index, with a weight
weighed : (m a n : ℕ) (cs : List ℕ) (q : ℕ) {w v : ℕ} → Serves m a → w ≡ index_bits m a → v ≡ index_in m cs n a q → Weighed w v
unfolding index_wide
weighed m a _ cs q {v = v} g e f = record {
  least = omega (arith, e, g.least);
  most = omega (arith, e, g.most);
  within = subst (λ (x : ℕ). v < 2 ^ x) (sym e)
      (subst (λ (y : ℕ). y < 2 ^ index_bits m a) (sym f)
      (field_below _ _ _ (index_bits m a) (pick_less (is_anchor_in cs q) (index_bits m a))));
}

-- its endpoints
pair : {m i : ℕ} {cs : List ℕ} {q d : ℕ} → ChannelAsked m i cs q d → 2 * subset_spelt cs q + 1 < endpoint_count m
pair {q = q} s = s.spelt.inside q s.pixel

few : {m : ℕ} → m < 8 → endpoint_count m ≤ 6
few {m = m} h = (fits m h).ends

pub index_bits-requires : goal.index_bits-requires
index_bits-requires c = (served c.args.mode.in_table c.requires c.set_of-set.ensures).set

pub index_of-requires : goal.index_of-requires
index_of-requires c =
    let s = c.requires in
    let g = served c.args.mode.in_table s c.set_of-set.ensures in
    record {
      spelt = s.spelt;
      set = g.set;
      some = omega (arith, g.least);
      pixel = s.pixel;
    }

pub weight-part-requires : goal.weight-part-requires
weight-part-requires c = weighed _ _ _ _ _ (served c.args.mode.in_table c.requires c.set_of-set.ensures) c.index_bits.ensures.is c.index_of.ensures

pub overflow_mul-pair : goal.overflow_mul-pair
overflow_mul-pair c = omega (arith, c.subset-pair.ensures, pair c.requires, few c.args.mode.in_table)

pub endpoint_of-requires : goal.endpoint_of-requires
endpoint_of-requires c =
    let s = c.requires in
    record { channel = s.channel; endpoint = omega (arith, c.subset-pair.ensures, pair s) }

pub overflow_add-pair : goal.overflow_add-pair
overflow_add-pair c = omega (arith, c.subset-pair.ensures, pair c.requires, few c.args.mode.in_table)

pub endpoint_of-requires-2 : goal.endpoint_of-requires-2
endpoint_of-requires-2 c =
    let s = c.requires in
    record { channel = s.channel; endpoint = omega (arith, c.subset-pair.ensures, pair s) }

pub mixed-requires : goal.mixed-requires
mixed-requires c =
    let g = weighed _ _ _ _ _ (served c.args.mode.in_table c.requires c.set_of-set.ensures) c.index_bits.ensures.is c.index_of.ensures in
    record {
      first = c.endpoint_of.ensures.small;
      second = c.endpoint_of-2.ensures.small;
      weight = subst (λ (x : ℕ). x ≤ 64) (sym c.weight-part.ensures) (weight_le _ _ g.least g.most g.within);
    }

pub returns : goal.returns
unfolding channel_in
returns c =
    let m : ℕ = c.args.mode.number in
    let n : ℕ = number c.args.block in
    let d : ℕ = c.args.channel in
    let cs = c.args.string.now in
    let l : ℕ = subset_spelt cs c.args.pixel in
    let a : ℕ = set_for m c.args.index_mode d in
    let first : 2 * c.subset-pair.result ≡ 2 * l + 0 = omega (arith, c.subset-pair.ensures) in
    let second : 2 * c.subset-pair.result + 1 ≡ 2 * l + 1 = omega (arith, c.subset-pair.ensures) in
    let e0 : c.endpoint_of.result ≡ end_byte m n (2 * l + 0) d =
    c.endpoint_of.ensures.is ∙ ap (λ (x : ℕ). end_byte m n x d) first in
    let e1 : c.endpoint_of-2.result ≡ end_byte m n (2 * l + 1) d = c.endpoint_of-2.ensures.is ∙ ap (λ (x : ℕ). end_byte m n x d) second in
    let part : c.weight-part.result ≡ weight_of (index_bits m a) (index_in m cs n a c.args.pixel) =
    c.weight-part.ensures ∙ ap₂ weight_of c.index_bits.ensures.is c.index_of.ensures
    ∙ ap (λ (x : ℕ). weight_of (index_bits m x) (index_in m cs n x c.args.pixel)) c.set_of-set.ensures in
    c.mixed.ensures ∙ ap₂ (λ (x y : ℕ). drawn x y c.weight-part.result) e0 e1
    ∙ ap (drawn (end_byte m n (2 * l + 0) d) (end_byte m n (2 * l + 1) d)) part
