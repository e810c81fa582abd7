-- Zeros put in at the anchors one after the other, the lowest first: what is left to do at each, by the anchors that are still to come.
-- Assumes nothing.
use mathlib.Core.Path.{◌≡◌, sym, ap, ◌∙◌}
use mathlib.Core.List.{List, [], ◌∷◌}
use Prim.Native.Nat.{ℕ, suc, ◌+◌, ◌-◌, ◌*◌, ◌^◌, ◌≤◌, ◌<◌}
use native.Mathlib.Nat.{add-mul, le_of_lt, le_refl, le_trans, mul-le-mul_left, sub-zero, lt_of_le_of_lt}
use native.Mathlib.Omega.{arith}
use lib.ListN.{length}
use Rattle.laws.specs.Digits.{inserted}
use Rattle.laws.proofs.Digits.{join_split}
use Rattle.bcn_format.specs.Indexes.{IndexWidth, expanded, index_widths}
use Rattle.bcn_format.proofs.Expanding.{Above, above, expand_anchor, no_more, size_none, spare_bit, times_width}
use Rattle.bcn_format.proofs.Insert.{inserted_lt}
use Rattle.indexes.specs.Reading.{Insertable, RisesFrom}

-- pixels that rise lie above those before, and there are sixteen
rising_above : {a b : ℕ} → a ≤ b → (bs : List ℕ) → RisesFrom b bs → Above a bs
rising_above h [] r = no_more
rising_above h (c ∷ cs) r = above (lt_of_le_of_lt h r.0) (rising_above (le_trans h (le_of_lt r.0)) cs r.2)

pub rising_fit : {a : ℕ} → a < 16 → (bs : List ℕ) → RisesFrom a bs → a + length bs < 16
rising_fit h [] r = omega arith
rising_fit h (c ∷ cs) r = omega (arith, r.0, rising_fit r.1 cs r.2)

-- x is what becomes e, once a zero is put in at each of the anchors cs, which rise
pub record Awaiting (w e : ℕ) (cs : List ℕ) (x : ℕ) : Type 0 where
  pub same : expanded w cs x ≡ e
  pub room : x < 2 ^ (16 * w - length cs)
  pub last : ℕ
  pub rising : RisesFrom last cs

module _ (w : ℕ) (width : IndexWidth w) where
  module _ (p : ℕ) (ps : List ℕ) (pixel : p < 16) (rising : RisesFrom p ps) {x : ℕ} (room : x < 2 ^ (16 * w - length (p ∷ ps))) where
    pub insertable : Insertable w x p
    insertable = record {
      index = record { width = width; pixel = pixel };
      room = spare_bit w (length (p ∷ ps)) x width.most (omega arith) room;
    }

    pub insert_next : {e y : ℕ} → expanded w (p ∷ ps) x ≡ e → y ≡ inserted x (p * w + (w - 1)) → Awaiting w e ps y
    insert_next {y = y} same is =
        let rest : ℕ = length ps in
        let top : (p + rest) * w ≤ 15 * w = times_width w (p + rest) 15 (omega (arith, rising_fit pixel ps rising)) in
        let each : rest * 1 ≤ rest * w = mul-le-mul_left rest width.least in
        let below : p * w + (w - 1) ≤ 16 * w - suc rest = omega (arith, rw (add-mul p rest w) at top, each, width.least) in
        let more : 16 * w - suc rest + 1 ≡ 16 * w - rest = omega (arith, below, width.least) in
        record {
          same = ap (expanded w ps) is ∙ expand_anchor w p ps width.least pixel (rising_above (le_refl p) ps rising) x ∙ same;
          room = rw (is, ← more) (inserted_lt x (p * w + (w - 1)) (16 * w - suc rest) room below);
          last = p;
          rising = rising;
        }

  pub all_inserted : {e x : ℕ} → Awaiting w e [] x → x ≡ e
  unfolding expanded
  all_inserted {x = x} a = sym (join_split (index_widths w []) x (rw (size_none w) (rw (sub-zero (16 * w)) at a.room))) ∙ a.same
