-- The record and the places say the same of each other; what packing accepts is what a block holds.
-- Assumes nothing.
use mathlib.Core.Path.{◌≡◌, refl, sym, ap, ap₂, ◌∙◌, subst}
use mathlib.Core.Bool.{Bool}
use mathlib.Core.List.{List}
use Prim.Native.Nat.{ℕ, zero, suc, ◌+◌, ◌*◌, ◌/◌, ◌%◌, ◌^◌, ◌<◌}
use native.Mathlib.Nat.{lt_of_lt_of_le}
use native.Mathlib.Omega.{arith}
use borrow.Author.Tests.{eq-eqb, ne_eqb}
use lib.Dec.{T, ltb, ltb→lt, lt→ltb}
use lib.ListN.{get_or}
use lib.Pow.{pow_mono}
use Rattle.bc7_format.specs.declared.Place.{Place}
use Rattle.bc7_format.specs.declared.Place.TheVariants.{Lead, Value, PBit, Index}
use Rattle.record_rules.specs.declared.Record.{Record}
use Rattle.refusals.specs.Answers.{Answer}
use Rattle.bc7_format.specs.declared.Split.{Split}
use Rattle.laws.specs.Digits.{Fit}
use Rattle.laws.specs.Tables.{pick, table}
use Rattle.laws.proofs.Refusals.{Met, accepted_when}
use Rattle.laws.proofs.Joining.{table_same}
use Rattle.laws.proofs.Part.{get_d_table, table_is}
use Rattle.laws.proofs.Tests.{both_left, both_right}
use Rattle.bcn_format.specs.Block.{eights}
use Rattle.bc7_format.specs.Modes.{mode_of}
use Rattle.bc7_format.specs.Places.{block_of, inside, opened, width}
use Rattle.bc7_format.specs.Splits.{anchors, index_mode, of_kind, partition, rotation}
use Rattle.bc7_format.specs.WellFormed.{WellFormed}
use Rattle.bc7_format.proofs.Modes.{good_parts}
use Rattle.bc7_format.proofs.Opening.{block_ext, good_kind, opened_good}
use Rattle.bc7_format.proofs.Places.{inside_value, split_of_kind, width_le}
use Rattle.record_rules.specs.Answers.{pack_rules}
use Rattle.record_rules.specs.Records.{Shaped, made, pack_refusal, packed, packed_as, record_of, says, taken_apart, unpacked_as, zero_record}
use Rattle.record_rules.proofs.Answering.{zero_tops_stored, packed_as_is, packing, stored_zero_tops}

module _ {m : ℕ} {s : Split} {f : Place → ℕ} (g : WellFormed m s f) where
  -- the record of what stands at the places says just that
  pub says_made : (x : Place) → T (inside x) → says (made m s f) x ≡ f x
  unfolding says made
  says_made (Lead zero) h = sym g.marker
  says_made (Lead (suc zero)) h = (good_parts g).0
  says_made (Lead (suc (suc zero))) h = (good_parts g).1
  says_made (Lead (suc (suc (suc zero)))) h = (good_parts g).2
  says_made (Lead (suc (suc (suc (suc k))))) h = absurd (let l = ltb→lt (suc (suc (suc (suc k)))) 4 h in let z : ⊥ = omega arith in z)
  says_made (Value c e) h =
      let hc : c < 4 = ltb→lt c 4 (both_left (ltb c 4) (ltb e 6) h) in
      let he : e < 6 = ltb→lt e 6 (both_right (ltb c 4) (ltb e 6) h) in
      get_d_table 24 (λ i. f (Value (i % 4) (i / 4))) 0 (4 * e + c) (omega arith)
      ∙ ap f (ap₂ Value (let z : (4 * e + c) % 4 ≡ c = omega arith in z) (let z : (4 * e + c) / 4 ≡ e = omega arith in z))
  says_made (PBit k) h = get_d_table 6 (λ k. f (PBit k)) 0 k (ltb→lt k 6 h)
  says_made (Index zero q) h = get_d_table 16 (λ q. f (Index 0 q)) 0 q (ltb→lt q 16 (both_right (ltb 0 2) (ltb q 16) h))
  says_made (Index (suc zero) q) h = get_d_table 16 (λ q. f (Index 1 q)) 0 q (ltb→lt q 16 (both_right (ltb 1 2) (ltb q 16) h))
  says_made (Index (suc (suc a)) q) h =
      absurd
      (let l = ltb→lt (suc (suc a)) 2 (both_left (ltb (suc (suc a)) 2) (ltb q 16) h) in let z : ⊥ = omega arith in z)

-- a record goes by the places there are
pub made_ext : (m : ℕ) (s : Split) (f g : Place → ℕ) → ((x : Place) → T (inside x) → f x ≡ g x) → made m s f ≡ made m s g
unfolding made
made_ext m s f g h =
    let v : table 24 (λ i. f (Value (i % 4) (i / 4))) ≡ table 24 (λ i. g (Value (i % 4) (i / 4))) =
    table_same 0 24 _ _ (λ i l. h (Value (i % 4) (i / 4)) (inside_value {c = i % 4} {e = i / 4} (omega arith) (omega arith))) in
    let p : table 6 (λ k. f (PBit k)) ≡ table 6 (λ k. g (PBit k)) = table_same 0 6 _ _ (λ k l. h (PBit k) (lt→ltb _ 6 l)) in
    let a : table 16 (λ q. f (Index 0 q)) ≡ table 16 (λ q. g (Index 0 q)) = table_same 0 16 _ _ (λ q l. h (Index 0 q) (lt→ltb _ 16 l)) in
    let b : table 16 (λ q. f (Index 1 q)) ≡ table 16 (λ q. g (Index 1 q)) = table_same 0 16 _ _ (λ q l. h (Index 1 q) (lt→ltb _ 16 l)) in
    λ j. record { mode = m; split = s; endpoints = v j; p = p j; first = a j; second = b j }

-- the record of what a record says is that record
pub made_says : (r : Record) → Shaped r → made r.mode r.split (says r) ≡ r
unfolding made says
made_says r sh =
    let v : table 24 (λ i. get_or r.endpoints (4 * (i / 4) + i % 4) 0) ≡ r.endpoints =
    table_is 24 _ r.endpoints sh.endpoints
    (λ i l. ap (λ (j : ℕ). get_or r.endpoints j 0) (let z : 4 * (i / 4) + i % 4 ≡ i = omega arith in z)) in
    let p : table 6 (λ k. get_or r.p k 0) ≡ r.p = table_is 6 _ r.p sh.p (λ i l. refl) in
    let a : table 16 (λ k. get_or r.first k 0) ≡ r.first = table_is 16 _ r.first sh.first (λ i l. refl) in
    let b : table 16 (λ k. get_or r.second k 0) ≡ r.second = table_is 16 _ r.second sh.second (λ i l. refl) in
    λ j. record { mode = r.mode; split = r.split; endpoints = v j; p = p j; first = a j; second = b j }

-- a record packs if what it says stands in a block
good_met : (r : Record) → WellFormed r.mode r.split (says r) → Met (pack_rules r)
good_met r g = (
  omega (arith, g.mode),
  (good_kind g, (λ x i. lt_of_lt_of_le (g.fits x i) (pow_mono (width_le r.mode (anchors r.split) x)), (stored_zero_tops r g.fits, tt))),
)

pub good_accepted : (r : Record) → WellFormed r.mode r.split (says r) → pack_refusal r ≡ 0
good_accepted r g = (accepted_when (packing r)).1 (good_met r g)

-- WellFormed goes by the places there are
pub good_ext : {m : ℕ} {s : Split} {f h : Place → ℕ} → ((x : Place) → T (inside x) → h x ≡ f x) → WellFormed m s f → WellFormed m s h
good_ext {m} {s} {f} {h} e g = record {
  mode = g.mode;
  marker = e (Lead 0) tt ∙ g.marker;
  splits = rw (e (Lead 1) tt, e (Lead 2) tt, e (Lead 3) tt) g.splits;
  fits = λ x i. subst (λ (v : ℕ). v < 2 ^ width m (anchors s) x) (sym (e x i)) (g.fits x i);
}

-- what stands in a block is accepted
pub good_packs : {m : ℕ} {s : Split} {f : Place → ℕ} → WellFormed m s f → packed (made m s f) ≡ packed_as 0 (block_of m s f)
unfolding made
good_packs {m} {s} {f} g =
    sym (packed_as_is (made m s f) (good_met (made m s f) (good_ext (says_made g) g)))
    ∙ ap (packed_as 0) (block_ext m s (says (made m s f)) f (says_made g))

-- a record that packing accepts is what stands in a block
pub packs_good : (r : Record) → pack_refusal r ≡ 0 → WellFormed r.mode r.split (says r)
unfolding says
packs_good r e =
    let s = r.split in
    let (low, (kind, (full, (tops, u)))) = (packing r).met e in
    record {
      mode = omega arith;
      marker = refl;
      splits = sym (split_of_kind s ∙ ap (λ (k : ℕ). of_kind k (partition s) (rotation s) (index_mode s)) kind);
      fits = zero_tops_stored r full tops;
    }

-- what taking apart answers, by the test of its mode
module _ (bs : List ℕ) where
  abbrev answer : Bool → Answer Record
  answer b = pick b (unpacked_as 1 zero_record) (unpacked_as 0 (record_of bs))

  pub apart_reserved : mode_of bs ≡ 8 → taken_apart bs ≡ unpacked_as 1 zero_record
  unfolding taken_apart
  apart_reserved e = ap answer (eq-eqb (mode_of bs) 8 e)

  pub apart_open : mode_of bs < 8 → taken_apart bs ≡ unpacked_as 0 (record_of bs)
  unfolding taken_apart
  apart_open o = ap answer (ne_eqb (mode_of bs) 8 (λ z. let y : ⊥ = omega arith in y))

-- the record of a block says what stands in the block
pub record_says : (bs : List ℕ) → Fit eights bs → mode_of bs < 8 → (x : Place) → T (inside x) → says (record_of bs) x ≡ opened bs x
unfolding record_of
record_says bs h o x i = says_made (opened_good bs h o) x i
