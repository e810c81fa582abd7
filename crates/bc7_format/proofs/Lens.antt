-- A line's places: those that it has, a line put in and taken out. Nothing here is by modes.
-- Assumes nothing.
use mathlib.Core.Path.{◌≡◌, refl, sym, ap, ◌∙◌}
use mathlib.Core.Logic.{◌≢◌}
use mathlib.Core.Bool.{Bool, true, false, not}
use mathlib.Core.List.{[]}
use Prim.Native.Nat.{ℕ, ◌<◌}
use native.Mathlib.Omega.{arith}
use borrow.Author.Tests.{eqb-true, eqb-false, eq-eqb, ne_eqb, not-true}
use lib.Dec.{T, eqb}
use Rattle.bc7_format.specs.declared.Place.{Place}
use Rattle.bc7_format.specs.declared.Place.TheVariants.{Lead}
use Rattle.bc7_format.specs.declared.Split.{Split}
use Rattle.laws.specs.Tables.{pick}
use Rattle.laws.proofs.Tests.{T_true, both_true, true_T}
use Rattle.bc7_format.specs.Lines.{Line, has, index_place, is_drawn, laid, line_at, line_of, line_of_place, means_stored, own, p_place, rotated, shown}
use Rattle.bc7_format.specs.Lines.{value_place, with_line}
use Rattle.bc7_format.specs.Places.{inside, width}
use Rattle.bc7_format.specs.Splits.{rotation}

module _ (m : ℕ) (s : Split) where
  -- what it is to have a place
  pub has_parts : (l : ℕ) (x : Place) → has m s l x ≡ true → T (inside x) × (width m [] x ≢ 0) × (line_of_place m s x ≡ l)
  unfolding has
  has_parts l x e =
      let a = both_true (inside x) _ e in
      let b = both_true (not (eqb (width m [] x) 0)) _ a.1 in
      (true_T (inside x) a.0, eqb-false (width m [] x) 0 (not-true _ b.0), eqb-true (line_of_place m s x) l b.1)

  pub has_intro : (l : ℕ) (x : Place) → T (inside x) → width m [] x ≢ 0 → line_of_place m s x ≡ l → has m s l x ≡ true
  unfolding has
  has_intro l x i w e = rw (T_true (inside x) i, ne_eqb (width m [] x) 0 w, eq-eqb (line_of_place m s x) l e)

  -- a place has one line
  pub has_one : (l k : ℕ) (x : Place) → l ≢ k → has m s l x ≡ true → has m s k x ≡ true → ⊥
  has_one l k x d p q = d (sym (has_parts l x p).2 ∙ (has_parts k x q).2)

  -- the lead belongs to no line
  pub has_lead : (l k : ℕ) → l < 9 → has m s l (Lead k) ≡ false
  has_lead l k h = go (has m s l (Lead k)) refl
    where
      go : (b : Bool) → has m s l (Lead k) ≡ b → b ≡ false
      go true e = absurd (let z : 9 ≡ l = (has_parts l (Lead k) e).2 in let y : ⊥ = omega arith in y)
      go false e = refl

  -- SET, then SET of another line: they trade places
  trade : (b c : Bool) (u v w : ℕ) → (b ≡ true → c ≡ true → ⊥) → pick b u (pick c v w) ≡ pick c v (pick b u w)
  trade true true u v w h = absurd (h refl refl)
  trade true false u v w h = refl
  trade false c u v w h = refl

  pub set_trade : (l k : ℕ) (a b : Line) (f : Place → ℕ) (x : Place) → l ≢ k
      → with_line m s l a (with_line m s k b f) x ≡ with_line m s k b (with_line m s l a f) x
  unfolding with_line
  set_trade l k a b f x d = trade (has m s l x) (has m s k x) (laid m a x) (laid m b x) (f x) (has_one l k x d)

  -- GET of another line than was SET
  pub own_other : (l k : ℕ) (a : Line) (f : Place → ℕ) (x : Place) → l ≢ k → own m s k (with_line m s l a f) x ≡ own m s k f x
  unfolding own with_line
  own_other l k a f x d = go (has m s k x) (has m s l x) refl refl
    where
      go : (b c : Bool) → has m s k x ≡ b → has m s l x ≡ c → pick b (pick c (laid m a x) (f x)) 0 ≡ pick b (f x) 0
      go true true p q = absurd (has_one l k x d q p)
      go true false p q = refl
      go false c p q = refl

  -- GET at a place of the line that was SET
  pub own_same : (l : ℕ) (a : Line) (f : Place → ℕ) (x : Place) → has m s l x ≡ true → own m s l (with_line m s l a f) x ≡ laid m a x
  unfolding own with_line
  own_same l a f x h = rw h

  -- GET reads only places that there are
  pub own_ext : (l : ℕ) (f g : Place → ℕ) (x : Place) → ((y : Place) → T (inside y) → f y ≡ g y) → own m s l f x ≡ own m s l g x
  unfolding own
  own_ext l f g x h = go (has m s l x) refl
    where
      go : (b : Bool) → has m s l x ≡ b → pick b (f x) 0 ≡ pick b (g x) 0
      go true e = h x (has_parts l x e).0
      go false e = refl

  pub line_from : (l : ℕ) (f g : Place → ℕ) → ((x : Place) → own m s l f x ≡ own m s l g x) → line_of m s l f ≡ line_of m s l g
  unfolding line_of
  line_from l f g h =
      λ i. record { value = λ k c. h (value_place s l k c) i; p = λ k. h (p_place m l k) i; index = λ q. h (index_place s l q) i }

  pub line_ext : (l : ℕ) (f g : Place → ℕ) → ((y : Place) → T (inside y) → f y ≡ g y) → line_of m s l f ≡ line_of m s l g
  line_ext l f g h = line_from l f g (λ x. own_ext l f g x h)

  pub line_other : (l k : ℕ) (a : Line) (f : Place → ℕ) → l ≢ k → line_of m s k (with_line m s l a f) ≡ line_of m s k f
  line_other l k a f d = line_from k (with_line m s l a f) f (λ x. own_other l k a f x d)

  -- what is shown goes by the lines
  pub shown_ext : (f g : Place → ℕ) (q c : ℕ) → ((y : Place) → T (inside y) → f y ≡ g y) → shown m s f q c ≡ shown m s g q c
  unfolding shown
  shown_ext f g q c h =
      let d : ℕ = rotated (rotation s) c in
      let l : ℕ = line_at s q d in
      ap (λ (ln : Line). pick (is_drawn m d) (means_stored m s l ln q d) 255) (line_ext l f g h)

  -- (b) what other lines draw is as it was
  pub shown_other : (l : ℕ) (a : Line) (f : Place → ℕ) (q c : ℕ) → line_at s q (rotated (rotation s) c) ≢ l
      → shown m s (with_line m s l a f) q c ≡ shown m s f q c
  unfolding shown
  shown_other l a f q c n =
      let d : ℕ = rotated (rotation s) c in
      let k : ℕ = line_at s q d in
      ap (λ (ln : Line). pick (is_drawn m d) (means_stored m s k ln q d) 255) (line_other l k a f (λ e. n (sym e)))

  -- a channel that no line draws
  pub shown_none : (f g : Place → ℕ) (q c : ℕ) → is_drawn m (rotated (rotation s) c) ≡ false → shown m s f q c ≡ shown m s g q c
  unfolding shown
  shown_none f g q c e = rw e
