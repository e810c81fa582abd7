-- A LARGER LIMIT: what a smaller one accepted is read as it was, and what the larger alone accepts, the smaller refuses with 9.
-- Assumes nothing.
use mathlib.Core.Path.{◌≡◌, ◌∙◌, sym, subst}
use mathlib.Core.List.{List}
use Prim.Native.Nat.{ℕ, ◌≤◌}
use native.Mathlib.Omega.{arith}
use Rattle.head_rules.specs.Answers.{Head}
use Rattle.laws.specs.Refusals.{here, then}
use Rattle.laws.proofs.Refusals.{accepted_when, exactly}
use Rattle.head_rules.specs.Heads.{SizedUpTo, head_of, read_head_up_to, size_refusal_up_to}
use Rattle.head_rules.proofs.Heading.{accepted, head_rules_is, refusal_is, refused, size_0, sized}

pub wider : {small large w h : ℕ} → small ≤ large → SizedUpTo small w h → SizedUpTo large w h
wider l z = record { wide = z.wide; within_wide = omega (arith, l, z.within_wide); high = z.high; within_high = omega (arith, l, z.within_high) }

pub size_kept : (small large w h : ℕ) → small ≤ large → size_refusal_up_to small w h ≡ 0 → size_refusal_up_to large w h ≡ 0
size_kept small large w h l e = size_0 large w h (wider l (sized small w h e))

module _ (small large : ℕ) (s : List ℕ) where
  pub head_kept : small ≤ large → (read_head_up_to small s).refusal ≡ 0 → read_head_up_to large s ≡ read_head_up_to small s
  head_kept l e =
      let z = sym (refusal_is small s) ∙ e in
      let (a, (b, (c, (d, (f, (k, (q, u))))))) = (head_rules_is small s).met z in
      let y = (accepted_when (head_rules_is large s)).1 (a, (b, (c, (d, (f, (k, (wider l q, tt))))))) in
      sym (accepted large s y) ∙ accepted small s z

  pub head_refused_before : (read_head_up_to large s).refusal ≡ 0
      → (SizedUpTo small (read_head_up_to large s).width (read_head_up_to large s).height → ⊥) → read_head_up_to small s ≡ head_of 9 0 0 0
  head_refused_before e ne =
      let z = sym (refusal_is large s) ∙ e in
      let (a, (b, (c, (d, (f, (k, (q, u))))))) = (head_rules_is large s).met z in
      let n = subst (λ (r : Head). SizedUpTo small r.width r.height → ⊥) (sym (accepted large s z)) ne in
      sym (refused small s 9 ((exactly (head_rules_is small s) 9).1 (then a (then b (then c (then d (then f (then k (here n)))))))) (λ q. omega arith))
