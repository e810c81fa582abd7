-- The bytes of a record say all of it, and each promise fixes its answer. `Shaped r` says that the record's arrays have their
-- lengths.
-- Assumes nothing.
use mathlib.Core.Path.{◌≡◌, refl, sym, ap, ◌∙◌, subst}
use mathlib.Core.Logic.{◌≢◌, ◌↔◌, ⊎_elim}
use mathlib.Core.Bool.{true}
use mathlib.Core.List.{List}
use Prim.Native.Nat.{ℕ, zero, suc, ◌+◌, ◌-◌, ◌<◌, ◌≤◌}
use native.Mathlib.Omega.{arith}
use borrow.Author.Tests.{eq-eqb, lt-ltb, le-ltb}
use lib.Dec.{eqb, eqb→eq, lit<}
use lib.ListN.{length, get_or}
use lib.Seq.{ext_get_or}
use Rattle.refusals.specs.Answers.{Answer}
use Rattle.record_rules.specs.declared.Record.{Record}
use Rattle.std.specs.Prelude.{Result}
use Rattle.refusals.specs.declared.Refusal.{Refusal}
use Rattle.refusals.proofs.Answers.{answer_fixes}
use Rattle.bc7_format.specs.declared.Split.{Split}
use Rattle.bc7_format.specs.declared.Split.TheVariants.{Whole, Two, Three, Vector}
use Rattle.laws.specs.Digits.{Fit}
use Rattle.laws.specs.Refusals.{Given}
use Rattle.laws.proofs.Cases.{lt_or}
use Rattle.laws.proofs.Part.{get_d_table, length_table}
use Rattle.laws.proofs.Refusals.{accepted_when, exactly}
use Rattle.laws.proofs.Tests.{both_left, both_right, true_T}
use Rattle.bcn_format.specs.Block.{eights}
use Rattle.bc7_format.specs.Modes.{mode_of}
use Rattle.bc7_format.specs.Splits.{index_mode, kind_of, of_kind}
use Rattle.bc7_format.proofs.Reserved.{open_mode}
use Rattle.record_rules.specs.Records.{Shaped, made, pack_refusal, packed, packed_as, record_of, taken_apart, zero_block}
use Rattle.record_rules.proofs.Answering.{packing}
use Rattle.record_rules.proofs.Packing.{apart_open}
use Rattle.record_rules.proofs.Theorems.{pack_unpack, unpack_pack}
use Rattle.record_rules.specs.Wire.{bytes_from, bytes_rules, packed_bytes, record_byte, record_bytes, record_of_bytes, spelt, split_byte}
use Rattle.record_rules.proofs.Wire.{first_at, p_bit_at, second_at, value_at_is}
use Rattle.record_rules.proofs.WirePacking.{as_record, bytes_packing}
use Rattle.bc7_format.specs.Places.{values_from, ps_from, first_from, second_from, place_count}
use Rattle.record_rules.specs.Promises.{PacksBytes, WritesRecord}

same_split : (s : Split) → of_kind (kind_of s) (split_byte s) (split_byte s) (index_mode s) ≡ s
same_split Whole = refl
same_split (Two a) = refl
same_split (Three a) = refl
same_split (Vector r i) = refl

module _ (r : Record) where
  byte : (i : ℕ) → i < place_count → get_or (record_bytes r) i 0 ≡ record_byte r i
  unfolding record_bytes
  byte i h = get_d_table place_count (record_byte r) 0 i h

  -- n bytes from o on that are the values xs
  part : (n o : ℕ) (xs : List ℕ) → length xs ≡ n → o + n ≤ place_count → ((i : ℕ) → i < n → record_byte r (o + i) ≡ get_or xs i 0)
      → bytes_from (record_bytes r) o n ≡ xs
  part n o xs long room is =
      ext_get_or 0 _ xs (length_table n _ ∙ sym long) (λ i l.
      let l' : i < n = subst (λ (m : ℕ). i < m) (length_table n (λ k. get_or (record_bytes r) (o + k) 0)) l in
      get_d_table n (λ k. get_or (record_bytes r) (o + k) 0) 0 i l' ∙ byte (o + i) (omega arith) ∙ is i l')

  -- the record of a record's bytes is that record
  pub record_of_its_bytes : Shaped r → record_of_bytes (record_bytes r) ≡ r
  unfolding record_of_bytes record_byte
  record_of_its_bytes sh =
      let bs : List ℕ = record_bytes r in
      let e : of_kind (get_or bs 1 0) (get_or bs 2 0) (get_or bs 2 0) (get_or bs 3 0) ≡ r.split =
      rw (byte 1 (lit< tt), byte 2 (lit< tt), byte 3 (lit< tt)) (same_split r.split) in
      λ j. record {
        mode = byte 0 (lit< tt) j;
        split = e j;
        endpoints = part 24 values_from r.endpoints sh.endpoints (lit< tt) (value_at_is r) j;
        p = part 6 ps_from r.p sh.p (lit< tt) (p_bit_at r) j;
        first = part 16 first_from r.first sh.first (lit< tt) (first_at r) j;
        second = part 16 second_from r.second sh.second (lit< tt) (second_at r) j;
      }

packing_is : (r : Record) → pack_refusal r ≡ (packed r).refusal
unfolding packed
packing_is r = refl

-- a record's bytes name its kind, and spell its split
kind_named : (r : Record) → get_or (record_bytes r) 1 0 ≤ 3
unfolding record_byte
kind_named r = rw (byte r 1 (lit< tt)) (below_4 r.split)
  where
    below_4 : (s : Split) → kind_of s ≤ 3
    below_4 Whole = omega arith
    below_4 (Two a) = omega arith
    below_4 (Three a) = omega arith
    below_4 (Vector r i) = omega arith

its_bytes_spell : (r : Record) → record_of_bytes (record_bytes r) ≡ r → spelt (record_bytes r) ≡ true
unfolding spelt record_byte
its_bytes_spell r same =
    rw (same, byte r 2 (lit< tt), byte r 3 (lit< tt), eq-eqb (split_byte r.split) _ refl, eq-eqb (index_mode r.split) _ refl)

-- what bytes say has its arrays
said_shaped : (bs : List ℕ) → Shaped (record_of_bytes bs)
unfolding record_of_bytes
said_shaped bs = record { endpoints = length_table 24 _; p = length_table 6 _; first = length_table 16 _; second = length_table 16 _ }

-- bytes that spell their split are those of the record that they say
kind_of_kind : (k a i : ℕ) → k ≤ 3 → kind_of (of_kind k a a i) ≡ k
kind_of_kind zero a i h = refl
kind_of_kind (suc zero) a i h = refl
kind_of_kind (suc (suc zero)) a i h = refl
kind_of_kind (suc (suc (suc zero))) a i h = refl
kind_of_kind (suc (suc (suc (suc k)))) a i h = absurd (let y : ⊥ = omega arith in y)

module _ (bs : List ℕ) (long : length bs ≡ place_count) (k : get_or bs 1 0 ≤ 3) (said : spelt bs ≡ true) where
  abbrev r : Record
  r = record_of_bytes bs

  at_group : (n o i : ℕ) → o ≤ i → i < o + n → get_or (bytes_from bs o n) (i - o) 0 ≡ get_or bs i 0
  at_group n o i l h =
      get_d_table n (λ j. get_or bs (o + j) 0) 0 (i - o) (omega arith) ∙ ap (λ (j : ℕ). get_or bs j 0) (let z : o + (i - o) ≡ i = omega arith in z)

  -- the first four
  lead_byte : (i : ℕ) → i < values_from → record_byte r i ≡ get_or bs i 0
  unfolding record_byte record_of_bytes spelt
  lead_byte zero h = refl
  lead_byte (suc zero) h = kind_of_kind (get_or bs 1 0) (get_or bs 2 0) (get_or bs 3 0) k
  lead_byte (suc (suc zero)) h =
      sym (eqb→eq _ _ (both_left (eqb (get_or bs 2 0) (split_byte r.split)) (eqb (get_or bs 3 0) (index_mode r.split)) (true_T _ said)))
  lead_byte (suc (suc (suc zero))) h =
      sym (eqb→eq _ _ (both_right (eqb (get_or bs 2 0) (split_byte r.split)) (eqb (get_or bs 3 0) (index_mode r.split)) (true_T _ said)))
  lead_byte (suc (suc (suc (suc i)))) h = absurd (let y : ⊥ = omega arith in y)

  -- and those of the arrays
  array_byte : (i : ℕ) → values_from ≤ i → i < place_count → record_byte r i ≡ get_or bs i 0
  unfolding record_byte record_of_bytes
  array_byte i l h =
      rw (le-ltb i values_from l)
      (⊎_elim (λ a. rw (lt-ltb i ps_from a) (at_group 24 values_from i l (omega arith)))
      (λ b. rw (le-ltb i ps_from b)
      (⊎_elim (λ a. rw (lt-ltb i first_from a) (at_group 6 ps_from i b (omega arith)))
      (λ c. rw (le-ltb i first_from c)
      (⊎_elim (λ a. rw (lt-ltb i second_from a) (at_group 16 first_from i c (omega arith)))
      (λ d. rw (le-ltb i second_from d) (at_group 16 second_from i d (omega arith))) (lt_or i second_from)))
      (lt_or i first_from)))
      (lt_or i ps_from))

  bytes_of_its_record : record_bytes r ≡ bs
  unfolding record_bytes
  bytes_of_its_record =
      ext_get_or 0 _ bs (length_table place_count _ ∙ sym long) (λ i l.
      let h : i < place_count = subst (λ (m : ℕ). i < m) (length_table place_count (record_byte r)) l in
      get_d_table place_count (record_byte r) 0 i h ∙ ⊎_elim (lead_byte i) (λ g. array_byte i g h) (lt_or i values_from))

-- a record that was taken apart has its arrays
apart_shaped : (bs : List ℕ) → mode_of bs < 8 → Shaped (taken_apart bs).value
unfolding record_of made
apart_shaped bs o =
    rw (ap (λ (u : Answer Record). u.value) (apart_open bs o))
    (record { endpoints = length_table 24 _; p = length_table 6 _; first = length_table 16 _; second = length_table 16 _ })

-- DEMAND 2 ON THE BYTES. Packing what taking a block apart wrote gives the block back
pub pack_unpack_bytes : (bs : List ℕ) → Fit eights bs → get_or bs 0 0 ≢ 0 → packed_bytes (record_bytes (taken_apart bs).value) ≡ packed_as 0 bs
pack_unpack_bytes bs h n =
    let r : Record = (taken_apart bs).value in
    let same : record_of_bytes (record_bytes r) ≡ r = record_of_its_bytes r (apart_shaped bs (open_mode bs h n)) in
    let accepted : pack_refusal (record_of_bytes (record_bytes r)) ≡ 0 = ap pack_refusal same ∙ packing_is r
    ∙ ap (λ (a : Answer (List ℕ)). a.refusal) (pack_unpack bs h n) in
    sym (as_record (record_bytes r) (kind_named r) (λ e. let y : ⊥ = omega (arith, e, accepted) in y) (its_bytes_spell r same)) ∙ ap packed same
    ∙ pack_unpack bs h n

-- and taking apart what packing made of accepted bytes gives those bytes
pub unpack_pack_bytes : (bs : List ℕ) → length bs ≡ place_count → (packed_bytes bs).refusal ≡ 0
    → record_bytes (taken_apart (packed_bytes bs).value).value ≡ bs
unfolding packed_bytes
unpack_pack_bytes bs long e =
    let (k, (low, (kind, (said, (w, (c, u)))))) = (bytes_packing bs).met e in
    let r : Record = record_of_bytes bs in
    let p : pack_refusal r ≡ 0 = (accepted_when (packing r)).1 (low, (kind, (w, (c, tt)))) in
    let same : packed r ≡ packed_bytes bs = as_record bs k (λ z. let y : ⊥ = omega (arith, z, p) in y) said in
    ap (λ (b : Answer (List ℕ)). record_bytes (taken_apart b.value).value) (sym same)
    ∙ ap (λ (u : Answer Record). record_bytes u.value) (unpack_pack r (said_shaped bs) (sym (packing_is r) ∙ p))
    ∙ bytes_of_its_record bs long k said

-- each refusal number of packing bytes is given exactly when its rule says (`bytes_rules` has the words)
pub bytes_refused_when : (bs : List ℕ) (n : ℕ) → ((packed_bytes bs).refusal ≡ n) ↔ Given (bytes_rules bs) n
unfolding packed_bytes
bytes_refused_when bs = exactly (bytes_packing bs)

-- any two answers that a promise admits are the same
pub determined_record_bytes : (r : Record) (a b : List ℕ) → WritesRecord r a → WritesRecord r b → a ≡ b
determined_record_bytes r a b p q = p ∙ sym q

pub determined_pack_bytes : (bs : List ℕ) (a b : Result (List ℕ) Refusal) → PacksBytes bs a → PacksBytes bs b → a ≡ b
determined_pack_bytes bs a b p q = answer_fixes zero_block a b (p ∙ sym q)
