-- Every subset of every partition holds exactly one anchor: one computed test over each whole table.
-- Assumes nothing.
use mathlib.Core.Path.{subst}
use mathlib.Core.Bool.{Bool}
use mathlib.Core.List.{List}
use Prim.Native.Nat.{ℕ, ◌<◌}
use lib.Dec.{T, eqb, eqb→eq, eqb_refl, ltb, ltb→lt}
use Rattle.laws.specs.Tables.{below, both, implies}
use Rattle.laws.proofs.Tests.{at, both_left, both_right, implied}
use Rattle.bcn_format.specs.Partitions.{first_in, OneAnchor, among, anchors2, anchors3, digits, marks, strings2, strings3, subset2, subset3}

test : List ℕ → (ℕ → ℕ) → ℕ → ℕ → Bool
unfolding implies
test marked subset_of k a =
    both (ltb a 16) (both (among a marked) (both (eqb (subset_of a) k) (below 16 (λ b.
    implies (among b marked) (implies (eqb (subset_of b) k) (eqb b a))))))

holds : (marked : List ℕ) (subset_of : ℕ → ℕ) (k a : ℕ) → T (test marked subset_of k a) → OneAnchor marked subset_of k
unfolding test implies
holds marked subset_of k a t =
    let t1 = both_right (ltb a 16) _ t in
    let t2 = both_right (among a marked) _ t1 in
    let t3 = both_right (eqb (subset_of a) k) _ t2 in
    record {
      at = a;
      below = ltb→lt a 16 (both_left (ltb a 16) _ t);
      is = both_left (among a marked) _ t1;
      inside = eqb→eq (subset_of a) k (both_left (eqb (subset_of a) k) _ t2);
      only = λ b h m e.
          eqb→eq b a (implied (eqb (subset_of b) k) (eqb b a)
          (implied (among b marked) (implies (eqb (subset_of b) k) (eqb b a))
          (at 16 (λ b. implies (among b marked) (implies (eqb (subset_of b) k) (eqb b a))) t3 b h) m)
          (subst (λ (x : ℕ). T (eqb (subset_of b) x)) e (eqb_refl (subset_of b))));
    }

all : ℕ → (ℕ → List ℕ) → (ℕ → ℕ → ℕ) → Bool
unfolding test implies
all n marked subset_of = below 64 (λ p. below n (λ k. test (marked p) (subset_of p) k (first_in (subset_of p) k (marked p))))

all_at : (n : ℕ) (marked : ℕ → List ℕ) (subset_of : ℕ → ℕ → ℕ) → T (all n marked subset_of) → (p k : ℕ) → p < 64 → k < n
    → OneAnchor (marked p) (subset_of p) k
unfolding all
all_at n marked subset_of t p k hp hk =
    holds (marked p) (subset_of p) k (first_in (subset_of p) k (marked p))
    (at n (λ k. test (marked p) (subset_of p) k (first_in (subset_of p) k (marked p)))
    (at 64 (λ p. below n (λ k. test (marked p) (subset_of p) k (first_in (subset_of p) k (marked p)))) t p hp) k hk)

pub one_anchor2 : (p k : ℕ) → p < 64 → k < 2 → OneAnchor (anchors2 p) (subset2 p) k
unfolding all test implies strings2 digits marks subset2 anchors2
one_anchor2 = all_at 2 anchors2 subset2 tt

pub one_anchor3 : (p k : ℕ) → p < 64 → k < 3 → OneAnchor (anchors3 p) (subset3 p) k
unfolding all test implies strings3 digits marks subset3 anchors3
one_anchor3 = all_at 3 anchors3 subset3 tt
