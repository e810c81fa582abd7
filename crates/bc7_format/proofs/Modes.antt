-- What the table of modes says of the two kinds of split: by vector, or by subsets.
-- Assumes nothing.
use mathlib.Core.Path.{◌≡◌, refl, sym, ◌∙◌, subst}
use mathlib.Core.Logic.{◌≢◌, ◌⊎◌, inl, inr, ⊎_elim}
use mathlib.Core.Bool.{Bool, true, false, not}
use mathlib.Core.List.{List, [], ◌∷◌}
use Prim.Native.Nat.{ℕ, zero, suc, ◌*◌, ◌^◌, ◌≤◌, ◌<◌}
use native.Mathlib.Nat.{lt_of_lt_of_le}
use native.Mathlib.Omega.{arith}
use borrow.Author.Tests.{eq-eqb}
use lib.Dec.{T, eqb, eqb→eq, leb, leb→le, lit<, ltb, ltb→lt}
use lib.ListN.{get_or}
use lib.Pow.{pow_mono}
use Rattle.bc7_format.specs.declared.Place.{Place}
use Rattle.bc7_format.specs.declared.Place.TheVariants.{Lead}
use Rattle.bc7_format.specs.declared.Split.{Split}
use Rattle.bc7_format.specs.declared.Split.TheVariants.{Whole, Two, Three, Vector}
use Rattle.laws.specs.Tables.{below, implies, pick}
use Rattle.laws.proofs.Tests.{at, implied}
use Rattle.bc7_format.specs.Lines.{anchor_of}
use Rattle.bcn_format.specs.Partitions.{first_in, among, anchors2, anchors3, digits, marks, or, strings2, strings3, subset2, subset3}
use Rattle.bc7_format.specs.Modes.{endpoint_count, first_bits, index_mode_bits, kind_of_mode, lines, mode_row, p_count, partition_bits, rotation_bits}
use Rattle.bc7_format.specs.Modes.{second_bits, mode_of}
use Rattle.bc7_format.specs.Places.{width}
use Rattle.bc7_format.specs.Splits.{anchors, index_mode, is_vector, kind_of, of_kind, partition, rotation, subset}
use Rattle.bc7_format.specs.WellFormed.{WellFormed}
use Rattle.bc7_format.proofs.Opening.{good_kind, good_partition}
use Rattle.bcn_format.proofs.Trailing.{trailing_count}
use lib.Count.{trailing_le}

-- the parts of a split that fit its mode's bits
parts : (m : ℕ) → m < 8 → (a r i : ℕ) → a < 2 ^ partition_bits m → r < 2 ^ rotation_bits m → i < 2 ^ index_mode_bits m
    → (partition (of_kind (kind_of_mode m) a r i) ≡ a) × (rotation (of_kind (kind_of_mode m) a r i) ≡ r) × (index_mode (of_kind (kind_of_mode m) a r i) ≡ i)
unfolding mode_row kind_of_mode endpoint_count
parts zero h a r i ha hr hi = omega arith
parts (suc zero) h a r i ha hr hi = omega arith
parts (suc (suc zero)) h a r i ha hr hi = omega arith
parts (suc (suc (suc zero))) h a r i ha hr hi = omega arith
parts (suc (suc (suc (suc zero)))) h a r i ha hr hi = omega arith
parts (suc (suc (suc (suc (suc zero))))) h a r i ha hr hi = omega arith
parts (suc (suc (suc (suc (suc (suc zero)))))) h a r i ha hr hi = omega arith
parts (suc (suc (suc (suc (suc (suc (suc zero))))))) h a r i ha hr hi = omega arith
parts (suc (suc (suc (suc (suc (suc (suc (suc m)))))))) h a r i ha hr hi = absurd (let z : ⊥ = omega arith in z)

module _ {m : ℕ} {s : Split} {f : Place → ℕ} (g : WellFormed m s f) where
  pub good_parts : (partition s ≡ f (Lead 1)) × (rotation s ≡ f (Lead 2)) × (index_mode s ≡ f (Lead 3))
  unfolding width
  good_parts =
      subst (λ (s : Split). (partition s ≡ f (Lead 1)) × (rotation s ≡ f (Lead 2)) × (index_mode s ≡ f (Lead 3))) g.splits
      (parts m g.mode (f (Lead 1)) (f (Lead 2)) (f (Lead 3)) (g.fits (Lead 1) tt) (g.fits (Lead 2) tt) (g.fits (Lead 3) tt))

pub record BySubset (m : ℕ) : Type 0 where
  pub second : second_bits m ≡ 0
  pub ends : endpoint_count m ≡ 2 * lines m
  pub few : lines m ≤ 3
  pub least : 2 ≤ first_bits m
  pub most : first_bits m ≤ 4

pub record ByVector (m : ℕ) : Type 0 where
  pub ends : endpoint_count m ≡ 2
  pub none : p_count m ≡ 0
  pub two : lines m ≡ 2
  pub least1 : 2 ≤ first_bits m
  pub most1 : first_bits m ≤ 4
  pub least2 : 2 ≤ second_bits m
  pub most2 : second_bits m ≤ 4

pub by_subset : (m : ℕ) → m < 8 → (kind_of_mode m ≡ 3 → ⊥) → BySubset m
unfolding mode_row kind_of_mode endpoint_count
by_subset zero h k = omega arith
by_subset (suc zero) h k = omega arith
by_subset (suc (suc zero)) h k = omega arith
by_subset (suc (suc (suc zero))) h k = omega arith
by_subset (suc (suc (suc (suc zero)))) h k = absurd (k refl)
by_subset (suc (suc (suc (suc (suc zero))))) h k = absurd (k refl)
by_subset (suc (suc (suc (suc (suc (suc zero)))))) h k = omega arith
by_subset (suc (suc (suc (suc (suc (suc (suc zero))))))) h k = omega arith
by_subset (suc (suc (suc (suc (suc (suc (suc (suc m)))))))) h k = absurd (let z : ⊥ = omega arith in z)

pub by_vector : (m : ℕ) → kind_of_mode m ≡ 3 → ByVector m
unfolding mode_row kind_of_mode endpoint_count
by_vector zero k = absurd (let z : ⊥ = omega arith in z)
by_vector (suc zero) k = absurd (let z : ⊥ = omega arith in z)
by_vector (suc (suc zero)) k = absurd (let z : ⊥ = omega arith in z)
by_vector (suc (suc (suc zero))) k = absurd (let z : ⊥ = omega arith in z)
by_vector (suc (suc (suc (suc zero)))) k = omega arith
by_vector (suc (suc (suc (suc (suc zero))))) k = omega arith
by_vector (suc (suc (suc (suc (suc (suc zero)))))) k = absurd (let z : ⊥ = omega arith in z)
by_vector (suc (suc (suc (suc (suc (suc (suc zero))))))) k = absurd (let z : ⊥ = omega arith in z)
by_vector (suc (suc (suc (suc (suc (suc (suc (suc m)))))))) k = absurd (let z : ⊥ = omega arith in z)

vector_kind : (s : Split) → is_vector s ≡ true → kind_of s ≡ 3
vector_kind Whole e = absurd (subst (λ b. T (not b)) e tt)
vector_kind (Two a) e = absurd (subst (λ b. T (not b)) e tt)
vector_kind (Three a) e = absurd (subst (λ b. T (not b)) e tt)
vector_kind (Vector r i) e = refl

subset_kind : (s : Split) → is_vector s ≡ false → kind_of s ≡ 3 → ⊥
subset_kind Whole e k = omega arith
subset_kind (Two a) e k = omega arith
subset_kind (Three a) e k = omega arith
subset_kind (Vector r i) e k = subst T e tt

-- p bits: one for each line in mode 1, else two, or none at all
pub p_count_is : (m : ℕ) → m < 8 → p_count m ≢ 0 → (pick (eqb m 1) (lines m) (2 * lines m) ≡ p_count m) × (lines m ≤ 3)
unfolding mode_row kind_of_mode endpoint_count
p_count_is zero h k = omega arith
p_count_is (suc zero) h k = omega arith
p_count_is (suc (suc zero)) h k = absurd (k refl)
p_count_is (suc (suc (suc zero))) h k = omega arith
p_count_is (suc (suc (suc (suc zero)))) h k = absurd (k refl)
p_count_is (suc (suc (suc (suc (suc zero))))) h k = absurd (k refl)
p_count_is (suc (suc (suc (suc (suc (suc zero)))))) h k = omega arith
p_count_is (suc (suc (suc (suc (suc (suc (suc zero))))))) h k = omega arith
p_count_is (suc (suc (suc (suc (suc (suc (suc (suc m)))))))) h k = absurd (let z : ⊥ = omega arith in z)

pub lines_le : (m : ℕ) → m < 8 → lines m ≤ 3
unfolding mode_row
lines_le m h = leb→le _ 3 (at 8 (λ m. leb (lines m) 3) tt m h)

one_bit : (m : ℕ) → m < 8 → index_mode_bits m ≤ 1
unfolding mode_row
one_bit m h = leb→le _ 1 (at 8 (λ m. leb (index_mode_bits m) 1) tt m h)

pub six_bits : (m : ℕ) → m < 8 → partition_bits m ≤ 6
unfolding mode_row
six_bits m h = leb→le _ 6 (at 8 (λ m. leb (partition_bits m) 6) tt m h)

module _ {m : ℕ} {s : Split} {f : Place → ℕ} (g : WellFormed m s f) where
  pub good_vector : is_vector s ≡ true → ByVector m
  good_vector e = by_vector m (sym (good_kind g) ∙ vector_kind s e)

  pub good_subset : is_vector s ≡ false → BySubset m
  good_subset e = by_subset m g.mode (λ k. subset_kind s e (good_kind g ∙ k))

  pub good_index_mode : index_mode s < 2
  unfolding width
  good_index_mode =
      subst (λ (i : ℕ). i < 2) (sym (good_parts g).2) (lt_of_lt_of_le (g.fits (Lead 3) tt) (pow_mono (one_bit m g.mode)))

  pub good_64 : partition s < 64
  good_64 = lt_of_lt_of_le (good_partition g) (pow_mono (six_bits m g.mode))

-- an anchor is the anchor of its line
anchors_2 : T (below 64 (λ a. below 16 (λ q. implies (among q (anchors2 a)) (eqb q (first_in (subset2 a) (subset2 a q) (anchors2 a))))))
unfolding digits marks strings2 subset2 anchors2 implies
anchors_2 = tt

anchors_3 : T (below 64 (λ a. below 16 (λ q. implies (among q (anchors3 a)) (eqb q (first_in (subset3 a) (subset3 a q) (anchors3 a))))))
unfolding digits marks strings3 subset3 anchors3 implies
anchors_3 = tt

pub first_only : (l : ℕ) → first_in (λ (q : ℕ). 0) l (0 ∷ []) ≡ 0
first_only l = same (eqb 0 l)
  where
    same : (b : Bool) → ◌≡◌ {A = ℕ} (pick b 0 0) 0
    same true = refl
    same false = refl

pub or_false : (b : Bool) → T (or b false) → T b
or_false true t = t
or_false false t = t

only_zero : (q l : ℕ) → T (among q (0 ∷ [])) → q ≡ first_in (λ (q : ℕ). 0) l (0 ∷ [])
only_zero q l t = eqb→eq q 0 (or_false (eqb q 0) t) ∙ sym (first_only l)

pub the_anchor : (s : Split) (q l : ℕ) → partition s < 64 → q < 16 → T (among q (anchors s)) → (is_vector s ≡ false → subset s q ≡ l)
    → q ≡ anchor_of s l
unfolding anchor_of
the_anchor Whole q l hp hq t e = only_zero q l t
the_anchor (Two a) q l hp hq t e =
    rw (← (e refl))
    (eqb→eq q _ (implied (among q (anchors2 a)) (eqb q (first_in (subset2 a) (subset2 a q) (anchors2 a)))
    (at 16 (λ q. implies (among q (anchors2 a)) (eqb q (first_in (subset2 a) (subset2 a q) (anchors2 a))))
    (at 64 (λ a. below 16 (λ q. implies (among q (anchors2 a)) (eqb q (first_in (subset2 a) (subset2 a q) (anchors2 a))))) anchors_2 a hp) q hq) t))
the_anchor (Three a) q l hp hq t e =
    rw (← (e refl))
    (eqb→eq q _ (implied (among q (anchors3 a)) (eqb q (first_in (subset3 a) (subset3 a q) (anchors3 a)))
    (at 16 (λ q. implies (among q (anchors3 a)) (eqb q (first_in (subset3 a) (subset3 a q) (anchors3 a))))
    (at 64 (λ a. below 16 (λ q. implies (among q (anchors3 a)) (eqb q (first_in (subset3 a) (subset3 a q) (anchors3 a))))) anchors_3 a hp) q hq) t))
the_anchor (Vector r i) q l hp hq t e = only_zero q l t

-- the anchor of a line is an anchor, and a pixel
pub anchor_is : (s : Split) (l : ℕ) → T (among (anchor_of s l) (anchors s))
unfolding anchor_of anchors2 anchors3
anchor_is s l = go s
  where
    or_right : (b c : Bool) → T c → T (or b c)
    or_right true c t = tt
    or_right false c t = t

    found : (sub : ℕ → ℕ) (xs : List ℕ) → (first_in sub l xs ≡ 0) ⊎ T (among (first_in sub l xs) xs)
    found sub [] = inl refl
    found sub (a ∷ rest) = here (eqb (sub a) l) (found sub rest)
      where
        here : (b : Bool) → (first_in sub l rest ≡ 0) ⊎ T (among (first_in sub l rest) rest)
            → (pick b a (first_in sub l rest) ≡ 0) ⊎ T (among (pick b a (first_in sub l rest)) (a ∷ rest))
        here true e = inr (rw (eq-eqb a a refl) tt)
        here false (inl e) = inl e
        here false (inr t) = inr (or_right (eqb (first_in sub l rest) a) _ t)

    with_0 : (sub : ℕ → ℕ) (rest : List ℕ) → T (among (first_in sub l (0 ∷ rest)) (0 ∷ rest))
    with_0 sub rest = ⊎_elim (λ e. rw e tt) (λ t. t) (found sub (0 ∷ rest))

    go : (s : Split) → T (among (first_in (subset s) l (anchors s)) (anchors s))
    go Whole = with_0 (λ q. 0) []
    go (Two a) = with_0 (subset2 a) (marks 0 (get_or strings2 a ""))
    go (Three a) = with_0 (subset3 a) (marks 0 (get_or strings3 a ""))
    go (Vector r i) = with_0 (λ q. 0) []

lines_2 : T (below 64 (λ a. below 3 (λ l. ltb (first_in (subset2 a) l (anchors2 a)) 16)))
unfolding digits marks strings2 subset2 anchors2
lines_2 = tt

lines_3 : T (below 64 (λ a. below 3 (λ l. ltb (first_in (subset3 a) l (anchors3 a)) 16)))
unfolding digits marks strings3 subset3 anchors3
lines_3 = tt

pub anchor_lt : (s : Split) (l : ℕ) → partition s < 64 → l < 3 → anchor_of s l < 16
unfolding anchor_of
anchor_lt Whole l hp hl = rw (first_only l) (lit< tt)
anchor_lt (Two a) l hp hl =
    ltb→lt _ 16 (at 3 (λ l. ltb (first_in (subset2 a) l (anchors2 a)) 16)
    (at 64 (λ a. below 3 (λ l. ltb (first_in (subset2 a) l (anchors2 a)) 16)) lines_2 a hp) l hl)
anchor_lt (Three a) l hp hl =
    ltb→lt _ 16 (at 3 (λ l. ltb (first_in (subset3 a) l (anchors3 a)) 16)
    (at 64 (λ a. below 3 (λ l. ltb (first_in (subset3 a) l (anchors3 a)) 16)) lines_3 a hp) l hl)
anchor_lt (Vector r i) l hp hl = rw (first_only l) (lit< tt)

pub mode_le_8 : (bs : List ℕ) → mode_of bs ≤ 8
unfolding mode_of
mode_le_8 bs = rw (trailing_count 8 (get_or bs 0 0)) at (trailing_le 8 (get_or bs 0 0))
