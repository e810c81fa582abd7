-- A channel of an endpoint, by what the mode stores of it.
-- Assumes nothing.
use mathlib.Core.Path.{◌≡◌, ap, sym}
use mathlib.Core.Logic.{◌≢◌}
use mathlib.Core.Bool.{Bool, not}
use Prim.Native.Nat.{ℕ, ◌+◌, ◌*◌, ◌^◌, ◌<◌}
use native.Mathlib.Omega.{arith}
use borrow.Author.Tests.{eq-eqb, ne_eqb}
use lib.Pow.{pow-add}
use Rattle.laws.specs.Tables.{pick}
use Rattle.bcn_format.specs.Block.{field}
use Rattle.bcn_format.specs.Drawing.{promoted}
use Rattle.bc7_fields.specs.Fields.{end_byte, p_start, value_start}
use Rattle.bc7_format.specs.Lines.{eight}
use Rattle.bc7_format.specs.Modes.{channel_bits, p_count}

module _ (m n e c : ℕ) where
  stored : ℕ
  stored = eight m c (field n (value_start m c e) (channel_bits m c)) (field n (p_start m e) 1)

  pub none_stored : channel_bits m c ≡ 0 → 255 ≡ end_byte m n e c
  unfolding end_byte stored
  none_stored z = sym (ap (λ (b : Bool). pick (not b) stored 255) (eq-eqb (channel_bits m c) 0 z))

  pub plain_value : channel_bits m c ≢ 0 → p_count m ≡ 0
      → promoted (channel_bits m c) (field n (value_start m c e) (channel_bits m c)) ≡ end_byte m n e c
  unfolding end_byte eight
  plain_value some z = sym (rw (ne_eqb (channel_bits m c) 0 some, eq-eqb (p_count m) 0 z))

  pub value_with_p : channel_bits m c ≢ 0 → p_count m ≢ 0
      → promoted (channel_bits m c + 1) (field n (value_start m c e) (channel_bits m c) * 2 + field n (p_start m e) 1) ≡ end_byte m n e c
  unfolding end_byte eight
  value_with_p some ps = sym (rw (ne_eqb (channel_bits m c) 0 some, ne_eqb (p_count m) 0 ps))

-- a bit more below
pub bit_below : (v b w : ℕ) → v < 2 ^ w → b < 2 → v * 2 + b < 2 ^ (w + 1)
bit_below v b w h l = omega (arith, pow-add 2 w 1)
