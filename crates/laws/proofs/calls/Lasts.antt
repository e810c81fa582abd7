-- The last call that passes a test.
-- Assumes nothing.
use mathlib.Core.Path.{◌≡◌, refl, sym, ap, ◌∙◌, subst}
use mathlib.Core.Logic.{◌⊎◌, inl, inr}
use mathlib.Core.Bool.{Bool, true, false}
use mathlib.Core.List.{List, [], ◌∷◌, ◌++◌, Memᴰ}
use Rattle.laws.specs.Calls.{keep, last, last_of_each}

module _ {C : Type 0} where
  -- a list of one call that passes, or none
  pub data OneOf (p : C → Bool) : List C → Type 0 where
    nothing : OneOf p []
    just : (c : C) → p c ≡ true → OneOf p (c ∷ [])

  keep_is : {p : C → Bool} {cs : List C} → OneOf p cs → (c : C) (b : Bool) → p c ≡ b → OneOf p (keep cs b c)
  unfolding keep
  keep_is nothing c true e = just c e
  keep_is nothing c false e = nothing
  keep_is (just d h) c b e = just d h

  pub last_is : (p : C → Bool) (cs : List C) → OneOf p (last p cs)
  unfolding last
  last_is p [] = nothing
  last_is p (c ∷ cs) = keep_is (last_is p cs) c (p c) refl

  -- none passes
  pub last_none : (p : C → Bool) → ((c : C) → p c ≡ true → ⊥) → (cs : List C) → last p cs ≡ []
  last_none p h cs = go (last_is p cs)
    where
      go : {ds : List C} → OneOf p ds → ds ≡ []
      go nothing = refl
      go (just c e) = absurd (h c e)

  -- of a list of one
  taken : (p : C → Bool) (c : C) → p c ≡ true → last p (c ∷ []) ≡ c ∷ []
  unfolding last keep
  taken p c e = ap (λ (b : Bool). keep [] b c) e

  pub passed : (p : C → Bool) (c : C) → p c ≡ false → last p (c ∷ []) ≡ []
  unfolding last keep
  passed p c e = ap (λ (b : Bool). keep [] b c) e

  -- of two lists of one call or none: the first, or else the second
  or_else : List C → List C → List C
  or_else [] ds = ds
  or_else (c ∷ cs) ds = c ∷ cs

  or_none : (cs : List C) → or_else cs [] ≡ cs
  unfolding or_else
  or_none [] = refl
  or_none (c ∷ cs) = refl

  or_same : (cs : List C) → or_else cs cs ≡ cs
  unfolding or_else
  or_same [] = refl
  or_same (c ∷ cs) = refl

  -- each is empty or K
  abbrev Either : List C → List C → Type 0
  Either k x = (x ≡ []) ⊎ (x ≡ k)

  or_either : {k x y : List C} → Either k x → Either k y → Either k (or_else x y)
  unfolding or_else
  or_either (inl e) (inl f) = inl (rw (e, f))
  or_either (inl e) (inr f) = inr (rw (e, f))
  or_either {k} {x} {y} (inr e) (inl f) = inr (rw (e, f) (or_none k))
  or_either {k} {x} {y} (inr e) (inr f) = inr (rw (e, f) (or_same k))

  or_first : {k x y : List C} → x ≡ k → Either k y → or_else x y ≡ k
  or_first {k} {x} {y} e (inl f) = rw (e, f) (or_none k)
  or_first {k} {x} {y} e (inr f) = rw (e, f) (or_same k)

  or_second : {k x y : List C} → Either k x → y ≡ k → or_else x y ≡ k
  unfolding or_else
  or_second (inl e) f = rw (e, f)
  or_second {k} {x} {y} (inr e) f = rw (e, f) (or_same k)

  keep_or : (cs ds : List C) (b : Bool) (c : C) → keep (or_else cs ds) b c ≡ or_else cs (keep ds b c)
  unfolding or_else keep
  keep_or [] ds b c = refl
  keep_or (a ∷ cs) ds b c = refl

  last_append : (p : C → Bool) (cs ds : List C) → last p (cs ++ ds) ≡ or_else (last p ds) (last p cs)
  unfolding last
  last_append p [] ds = sym (or_none (last p ds))
  last_append p (c ∷ cs) ds = ap (λ (xs : List C). keep xs (p c) c) (last_append p cs ds) ∙ keep_or (last p ds) (last p cs) (p c) c

  -- two calls that no test passes both: either order
  pub last_trade : (p : C → Bool) (c d : C) → (p c ≡ true → p d ≡ true → ⊥) → last p (c ∷ d ∷ []) ≡ last p (d ∷ c ∷ [])
  unfolding last keep
  last_trade p c d n = go (p c) (p d) refl refl
    where
      go : (a b : Bool) → p c ≡ a → p d ≡ b → keep (keep [] b d) a c ≡ keep (keep [] a c) b d
      go true true e f = absurd (n e f)
      go true false e f = refl
      go false true e f = refl
      go false false e f = refl

-- the last call of each slot: no call is of two slots
module _ {L C : Type 0} (of : L → C → Bool) (single : (l k : L) (c : C) → of l c ≡ true → of k c ≡ true → l ≡ k) where
  -- the last call of l among those that stand last
  again : (l k : L) (cs : List C) → (last (of l) (last (of k) cs) ≡ []) ⊎ (last (of l) (last (of k) cs) ≡ last (of l) cs)
  unfolding last
  again l k cs = go (last_is (of k) cs) refl
    where
      go : {ds : List C} → OneOf (of k) ds → last (of k) cs ≡ ds → (last (of l) ds ≡ []) ⊎ (last (of l) ds ≡ last (of l) cs)
      go nothing e = inl refl
      go (just c h) e = at (of l c) refl
        where
          at : (b : Bool) → of l c ≡ b → (last (of l) (c ∷ []) ≡ []) ⊎ (last (of l) (c ∷ []) ≡ last (of l) cs)
          at true q = inr (taken (of l) c q ∙ sym (subst (λ (j : L). last (of j) cs ≡ c ∷ []) (single k l c h q) e))
          at false q = inl (passed (of l) c q)

  same : (l : L) (cs : List C) → last (of l) (last (of l) cs) ≡ last (of l) cs
  unfolding last
  same l cs = go (last_is (of l) cs)
    where
      go : {ds : List C} → OneOf (of l) ds → last (of l) ds ≡ ds
      go nothing = refl
      go (just c h) = taken (of l) c h

  either : (l : L) (ls : List L) (cs : List C) → (last (of l) (last_of_each of ls cs) ≡ []) ⊎ (last (of l) (last_of_each of ls cs) ≡ last (of l) cs)
  unfolding last last_of_each
  either l [] cs = inl refl
  either l (k ∷ ls) cs = rw (last_append (of l) (last (of k) cs) (last_of_each of ls cs)) (or_either (either l ls cs) (again l k cs))

  pub last_of_each_is : (l : L) (ls : List L) (cs : List C) → Memᴰ l ls → last (of l) (last_of_each of ls cs) ≡ last (of l) cs
  unfolding last_of_each
  last_of_each_is l [] cs x = elim x [ ]
  last_of_each_is l (k ∷ ls) cs (Memᴰ.head e) =
      last_append (of l) (last (of k) cs) (last_of_each of ls cs)
      ∙ or_second (either l ls cs) (subst (λ (j : L). last (of l) (last (of j) cs) ≡ last (of l) cs) e (same l cs))
  last_of_each_is l (k ∷ ls) cs (Memᴰ.tail m) =
      last_append (of l) (last (of k) cs) (last_of_each of ls cs) ∙ or_first (last_of_each_is l ls cs m) (again l k cs)
