-- Two neighbours among a line's places, taken out at once: the pair of a channel, the p bits.
-- Assumes nothing.
use mathlib.Core.Path.{◌≡◌, refl, sym, ap, ◌∙◌}
use mathlib.Core.Logic.{◌≢◌}
use mathlib.Core.Bool.{Bool, true, false}
use mathlib.Core.List.{[]}
use Prim.Native.Nat.{ℕ, suc, ◌+◌, ◌/◌, ◌%◌, ◌^◌}
use native.Mathlib.Nat.{mod-one}
use lib.Dec.{T}
use Rattle.bc7_format.specs.declared.Place.{Place}
use Rattle.bc7_format.specs.declared.Split.{Split}
use Rattle.laws.specs.Tables.{pick}
use Rattle.laws.proofs.Tests.{no_both}
use Rattle.bcn_format.specs.Block.{field}
use Rattle.bc7_format.specs.Lines.{has, own}
use Rattle.bc7_format.specs.Places.{at_place, inside, pos, width}
use Rattle.bc7_format.specs.Splits.{anchors}
use Rattle.bc7_format.proofs.Places.{place_at_pos, pos_lt}
use Rattle.bc7_format.proofs.Starts.{at_field, start, start_next}
use Rattle.line_rules.specs.Replace.{own_width}
use Rattle.line_rules.proofs.Own.{has_width, no_width, own_none, own_some}

module _ (m : ℕ) (s : Split) (l : ℕ) (f : Place → ℕ) (n : ℕ) (fn : (x : Place) → T (inside x) → at_place m s n x ≡ f x) where
  -- a place that has no bits in the line is read as zero, wherever it is read
  pub one_read : (x : Place) (w at : ℕ) → T (inside x) → own_width m s l x ≡ w → width m (anchors s) x ≡ width m [] x
      → (w ≢ 0 → at ≡ start m s (pos x)) → field n at w ≡ own m s l f x
  unfolding own field
  one_read x w at i wx fx e = go (has m s l x) refl
    where
      go : (t : Bool) → has m s l x ≡ t → n / 2 ^ at % 2 ^ w ≡ pick t (f x) 0
      go true h =
          let some : w ≢ 0 = λ z. no_both h (own_none m s l x (wx ∙ z)) in
          rw (e some)
          (ap (λ (v : ℕ). n / 2 ^ start m s (pos x) % 2 ^ v) (sym (fx ∙ sym (has_width m s l x h) ∙ wx)) ∙ sym (at_field m s n x i) ∙ fn x i)
      go false h = let z : w ≡ 0 = sym wx ∙ no_width m s l x h in rw z (mod-one (n / 2 ^ at))

  module _ (a b : Place) (w : ℕ) (ia : T (inside a)) (ib : T (inside b)) (next : pos b ≡ suc (pos a)) (wa : own_width m s l a ≡ w)
      (wb : own_width m s l b ≡ w)
      (fa : width m (anchors s) a ≡ width m [] a) (fb : width m (anchors s) b ≡ width m [] b) (at : ℕ) (e : w ≢ 0 → at ≡ start m s (pos a)) where
    pub first_read : field n at w ≡ own m s l f a
    first_read = one_read a w at ia wa fa e

    pub second_read_is : field n (at + w) w ≡ own m s l f b
    second_read_is = one_read b w (at + w) ib wb fb behind
      where
        behind : w ≢ 0 → at + w ≡ start m s (pos b)
        behind some =
            let h : has m s l a ≡ true = own_some m s l a (λ z. some (sym wa ∙ z)) in
            ap (λ (v : ℕ). v + w) (e some)
            ∙ sym
            (ap (start m s) next ∙ start_next m s (pos a) (pos_lt a ia)
            ∙ ap (λ (v : ℕ). start m s (pos a) + v) (ap (width m (anchors s)) (place_at_pos a ia) ∙ fa ∙ sym (has_width m s l a h) ∙ wa))
