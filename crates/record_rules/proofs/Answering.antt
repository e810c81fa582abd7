-- Which answer packing gives.
-- Assumes nothing.
use mathlib.Core.Path.{◌≡◌, refl, sym, ap₂, subst}
use mathlib.Core.Bool.{Bool, true, false}
use mathlib.Core.List.{List, []}
use Prim.Native.Nat.{ℕ, suc, ◌-◌, ◌^◌, ◌<◌}
use lib.Dec.{T, ltb, ltb→lt, lt→ltb}
use lib.ListN.{replicate}
use Rattle.bc7_format.specs.declared.Place.{Place}
use Rattle.bc7_format.specs.declared.Place.TheVariants.{Lead, Value, PBit, Index}
use Rattle.record_rules.specs.declared.Record.{Record}
use Rattle.bc7_format.specs.declared.Split.{Split}
use Rattle.laws.specs.Refusals.{Given}
use Rattle.laws.specs.Tables.{pick}
use Rattle.laws.proofs.Refusals.{Answers, Met, accepted_when, answer_0, answer_not_0, answers, by_ltb, by_not, by_not_eqb, exactly, none, rule}
use Rattle.laws.proofs.Tests.{T_true, at, below_intro, true_T}
use Rattle.bc7_format.specs.Modes.{index_bits, kind_of_mode}
use Rattle.bcn_format.specs.Partitions.{among}
use Rattle.bc7_format.specs.Places.{block_of, inside, place_at, pos, width, place_count}
use Rattle.bc7_format.specs.Splits.{anchors, kind_of}
use Rattle.bc7_format.proofs.Places.{inside_place_at, place_at_pos, pos_lt}
use Rattle.record_rules.specs.Answers.{TopsZero, Within, pack_rules}
use Rattle.record_rules.specs.Records.{fits, pack_refusal, packed, packed_as, says}

-- the test of all places, and each place
pub fits_at : (m : ℕ) (an : List ℕ) (f : Place → ℕ) → fits m an f ≡ true → (x : Place) → T (inside x) → f x < 2 ^ width m an x
unfolding fits
fits_at m an f e x h =
    subst (λ (y : Place). f y < 2 ^ width m an y) (place_at_pos x h)
    (ltb→lt _ _ (at place_count (λ i. ltb (f (place_at i)) (2 ^ width m an (place_at i))) (true_T _ e) (pos x) (pos_lt x h)))

pub fits_of : (m : ℕ) (an : List ℕ) (f : Place → ℕ) → ((x : Place) → T (inside x) → f x < 2 ^ width m an x) → fits m an f ≡ true
unfolding fits
fits_of m an f h =
    T_true _
    (below_intro place_count (λ i. ltb (f (place_at i)) (2 ^ width m an (place_at i))) (λ k l. lt→ltb _ _ (h (place_at k) (inside_place_at k l))))

module _ (r : Record) where
  abbrev m : ℕ
  m = r.mode

  abbrev s : Split
  s = r.split

  -- the widths as stored differ from the full ones by the anchors' top bits
  abbrev Stored : Type 0
  Stored = (x : Place) → T (inside x) → says r x < 2 ^ width m (anchors s) x

  pub zero_tops_stored : Within r → TopsZero r → Stored
  unfolding width
  zero_tops_stored w c (Lead k) i = w (Lead k) i
  zero_tops_stored w c (Value ch e) i = w (Value ch e) i
  zero_tops_stored w c (PBit k) i = w (PBit k) i
  zero_tops_stored w c (Index a q) i = go (among q (anchors s)) refl
    where
      go : (b : Bool) → among q (anchors s) ≡ b → says r (Index a q) < 2 ^ pick b (index_bits m a - 1) (index_bits m a)
      go true e = c a q i (true_T _ e)
      go false e = w (Index a q) i

  pub stored_zero_tops : Stored → TopsZero r
  unfolding width
  stored_zero_tops f a q i t = rw (T_true (among q (anchors s)) t) at (f (Index a q) i)

  -- each test and its rule
  pub packing : Answers (pack_refusal r) (pack_rules r)
  unfolding pack_refusal
  packing = answers (
      rule (by_ltb tt 7 m) λ low.
      rule (by_not_eqb tt (kind_of s) (kind_of_mode m)) λ kind.
      rule (by_not tt (fits m [] (says r)) (fits_at m [] (says r)) (fits_of m [] (says r))) λ w.
      rule (by_not tt (fits m (anchors s) (says r)) (λ e. stored_zero_tops (fits_at m (anchors s) (says r) e))
      (λ c. fits_of m (anchors s) (says r) (zero_tops_stored w c))) λ c.
      none)

  -- what the code answers, by the rules on its way
  pub refused_as : {n : ℕ} → Given (pack_rules r) (suc n) → packed_as (suc n) (replicate 16 0) ≡ packed r
  unfolding packed
  refused_as {n} g = let e = (exactly packing (suc n)).1 g in sym (ap₂ packed_as e (answer_not_0 _ _ e))

  pub packed_as_is : Met (pack_rules r) → packed_as 0 (block_of m s (says r)) ≡ packed r
  unfolding packed
  packed_as_is a = let e = (accepted_when packing).1 a in sym (ap₂ packed_as e (answer_0 _ _ e))
