-- What packing bytes answers, beside what packing the record that they say answers.
-- Assumes nothing.
use mathlib.Core.Path.{◌≡◌, refl, sym, ap}
use mathlib.Core.Logic.{◌≢◌}
use mathlib.Core.Bool.{Bool, not, true, false}
use mathlib.Core.List.{List, [], ◌∷◌}
use Prim.Native.Nat.{ℕ, ◌<◌, ◌≤◌}
use native.Mathlib.Omega.{arith}
use borrow.Author.Tests.{ne_eqb, lt-ltb, le-ltb}
use lib.Dec.{eqb, ltb}
use lib.ListN.{get_or, replicate}
use Rattle.record_rules.specs.declared.Record.{Record}
use Rattle.laws.specs.Refusals.{Given, Rule, first, here, refuse, then, unless}
use Rattle.laws.specs.Tables.{pick}
use Rattle.laws.proofs.Refusals.{Answers, answers, by_ltb, by_not, by_not_eqb, none, rule, rules}
use Rattle.bc7_format.specs.Modes.{kind_of_mode}
use Rattle.bc7_format.specs.Places.{block_of}
use Rattle.bc7_format.specs.Splits.{anchors, kind_of}
use Rattle.record_rules.specs.Records.{fits, pack_refusal, packed, packed_as, says}
use Rattle.record_rules.proofs.Answering.{packing}
use Rattle.record_rules.specs.Wire.{bytes_refusal, bytes_rules, packed_bytes, record_of_bytes, spelt}

abbrev records_answer : Bool → Bool → Bool → Bool → ℕ
records_answer a b d e = first (refuse 5 a ∷ refuse 5 b ∷ refuse 3 d ∷ refuse 6 e ∷ [])

-- the first refusal of the bytes, by that of the record
in_order : (x a b c d e : Bool) → first (refuse 5 x ∷ refuse 5 a ∷ refuse 5 b ∷ refuse 3 (not c) ∷ records_answer a b d e ∷ [])
    ≡ pick x 5 (pick (eqb (records_answer a b d e) 5) 5 (pick c (records_answer a b d e) 3))
unfolding first
in_order true a b c d e = refl
in_order false true b c d e = refl
in_order false false true c d e = refl
in_order false false false false true e = refl
in_order false false false false false true = refl
in_order false false false false false false = refl
in_order false false false true true e = refl
in_order false false false true false true = refl
in_order false false false true false false = refl

-- rules whose first two hold give what the others give
others_given : {A B : Type 0} {rs : List Rule} {n m r : ℕ} → A → B → Given (unless n A ∷ unless m B ∷ rs) r → Given rs r
others_given a b (here x) = absurd (x a)
others_given a b (then _ (here x)) = absurd (x b)
others_given a b (then _ (then _ g)) = g

behind_two : {A B : Type 0} {rs : List Rule} {n m r : ℕ} → A → B → Answers r (unless n A ∷ unless m B ∷ rs) → Answers r rs
behind_two a b all = record { given = others_given a b all.given; met = λ z. (all.met z).1.1 }

same_choice : {A : Type 0} (b : Bool) (x y : A) → pick b (pick b x y) y ≡ pick b x y
same_choice true x y = refl
same_choice false x y = refl

module _ (bs : List ℕ) where
  abbrev r : Record
  r = record_of_bytes bs

  pub by_record : bytes_refusal bs ≡ pick (ltb 3 (get_or bs 1 0)) 5 (pick (eqb (pack_refusal r) 5) 5 (pick (spelt bs) (pack_refusal r) 3))
  unfolding bytes_refusal pack_refusal
  by_record =
      in_order (ltb 3 (get_or bs 1 0)) (ltb 7 r.mode) (not (eqb (kind_of r.split) (kind_of_mode r.mode))) (spelt bs)
      (not (fits r.mode [] (says r))) (not (fits r.mode (anchors r.split) (says r)))

  -- each test and its rule; what the record is tested for comes last, when its own first two rules hold
  pub bytes_packing : Answers (bytes_refusal bs) (bytes_rules bs)
  unfolding bytes_refusal
  bytes_packing = answers (
      rule (by_ltb tt 3 (get_or bs 1 0)) λ k.
      rule (by_ltb tt 7 r.mode) λ low.
      rule (by_not_eqb tt (kind_of r.split) (kind_of_mode r.mode)) λ kind.
      rule (by_not tt (spelt bs) (λ e. e) (λ e. e)) λ said.
      rules (behind_two low kind (packing r)) λ m.
      none)

  -- a refusal answers zeros
  zeros : (n : ℕ) → bytes_refusal bs ≡ n → n ≢ 0 → packed_as n (replicate 16 0) ≡ packed_bytes bs
  unfolding packed_bytes
  zeros n e ne = rw (e, ne_eqb n 0 ne)

  pub no_kind : 3 < get_or bs 1 0 → packed_as 5 (replicate 16 0) ≡ packed_bytes bs
  no_kind h = zeros 5 (rw (by_record, lt-ltb _ _ h)) (λ e. let y : ⊥ = omega arith in y)

  module _ (k : get_or bs 1 0 ≤ 3) where
    pub another_kind : pack_refusal r ≡ 5 → packed r ≡ packed_bytes bs
    unfolding packed packed_bytes
    another_kind e = rw (by_record, le-ltb _ _ k, e)

    module _ (n : pack_refusal r ≢ 5) where
      pub more_said : spelt bs ≡ false → packed_as 3 (replicate 16 0) ≡ packed_bytes bs
      more_said e = zeros 3 (rw (by_record, le-ltb _ _ k, ne_eqb _ 5 n, e)) (λ z. let y : ⊥ = omega arith in y)

      pub as_record : spelt bs ≡ true → packed r ≡ packed_bytes bs
      unfolding packed packed_bytes
      as_record e =
          rw (by_record, le-ltb _ _ k, ne_eqb _ 5 n, e)
          (ap (packed_as (pack_refusal r)) (sym (same_choice (eqb (pack_refusal r) 0) (block_of r.mode r.split (says r)) (replicate 16 0))))
