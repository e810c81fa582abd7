-- Calls that keep out of each other's way trade places, next to each other, inside a longer list, and list by list.
-- Assumes nothing.
use mathlib.Core.Path.{◌≡◌, refl, sym, ap, ap₂, ◌∙◌, subst}
use mathlib.Core.List.{List, [], ◌∷◌, ◌++◌}
use Prim.Native.Nat.{ℕ}
use Rattle.laws.specs.Calls.{All, AllApart, Woven, left, more, none, nothing, right, run, told, told_left}

-- what one call keeps, a list keeps
pub run_good : {S C : Type 0} (after : S → C → S) (Good : S → Type 0) → ((s : S) (c : C) → Good s → Good (after s c))
    → (cs : List C) (s : S) → Good s → Good (run after s cs)
unfolding run
run_good after Good good [] s g = g
run_good after Good good (c ∷ cs) s g = run_good after Good good cs (after s c) (good s c g)

-- so an answer that goes by what is kept alone is the same after any list
pub same_answer : {S C : Type 0} (after : S → C → S) (Good : S → Type 0) → ((s : S) (c : C) → Good s → Good (after s c))
    → (answer : S → C → ℕ) (key : C → ℕ)
    → ((s : S) (c : C) → Good s → answer s c ≡ key c) → (cs : List C) (s : S) (d : C) → Good s → answer (run after s cs) d ≡ answer s d
same_answer after Good good answer key known cs s d g = known (run after s cs) d (run_good after Good good cs s g) ∙ sym (known s d g)

-- what is asked of one call after another: Good says what holds of each state that is met; Apart calls neither see nor undo each other
pub record Trade {S C : Type 0} (after : S → C → S) (answer : S → C → ℕ) (Good : S → Type 0) (Apart : C → C → Type 0) : Type 0 where
  pub good : (s : S) (c : C) → Good s → Good (after s c)
  pub bytes : (s : S) (c d : C) → Good s → Apart c d → after (after s c) d ≡ after (after s d) c
  pub unseen : (s : S) (c d : C) → Good s → Apart c d → answer (after s c) d ≡ answer s d

pub sides_exchanged : {C : Type 0} {xs ys zs : List C} → Woven xs ys zs → Woven ys xs zs
sides_exchanged nothing = nothing
sides_exchanged (left w) = right (sides_exchanged w)
sides_exchanged (right w) = left (sides_exchanged w)

fewer : {C : Type 0} {Apart : C → C → Type 0} {c : C} {xs ys : List C} → AllApart Apart (c ∷ xs) ys → AllApart Apart xs ys
fewer none = none
fewer (more (more a h) k) = more h (fewer k)

module _ {S C : Type 0} {after : S → C → S} {answer : S → C → ℕ} {Good : S → Type 0} {Apart : C → C → Type 0}
    (t : Trade after answer Good Apart) where
  -- two neighbours inside a longer list
  pub inside : (xs : List C) (c d : C) (ys : List C) (s : S) → Good s → Apart c d
      → run after s (xs ++ (c ∷ d ∷ ys)) ≡ run after s (xs ++ (d ∷ c ∷ ys))
  unfolding run
  inside [] c d ys s g a = ap (λ (s : S). run after s ys) (t.bytes s c d g a)
  inside (x ∷ xs) c d ys s g a = inside xs c d ys (after s x) (t.good s x g) a

  -- a call before or after a list that is apart from it: what it leaves, and what it is answered
  past : (d : C) (cs : List C) (s : S) → Good s → All (Apart d) cs → run after (after s d) cs ≡ after (run after s cs) d
  unfolding run
  past d [] s g none = refl
  past d (c ∷ cs) s g (more a h) = ap (λ (s : S). run after s cs) (t.bytes s d c g a) ∙ past d cs (after s c) (t.good s c g) h

  told_past : (d : C) (cs : List C) (s : S) → Good s → All (Apart d) cs → told after answer (after s d) cs ≡ told after answer s cs
  unfolding told
  told_past d [] s g none = refl
  told_past d (c ∷ cs) s g (more a h) =
      ap₂ {C = List ℕ} ◌∷◌ (t.unseen s d c g a)
      (ap (λ (s : S). told after answer s cs) (t.bytes s d c g a) ∙ told_past d cs (after s c) (t.good s c g) h)

  -- TWO DESKS: however their calls come in, the state is that of one desk after the other
  pub woven : {xs ys zs : List C} → Woven xs ys zs → AllApart Apart xs ys → (s : S) → Good s → run after s zs ≡ run after (run after s xs) ys
  unfolding run
  woven nothing h s g = refl
  woven (left {c = c} w) h s g = woven w (fewer h) (after s c) (t.good s c g)
  woven (right {c = c} {xs = xs} {ys = ys} w) (more a h) s g =
      woven w h (after s c) (t.good s c g) ∙ ap (λ (s : S). run after s ys) (past c xs s g a)

  -- and each desk is answered as if it were alone
  pub woven_told : {xs ys zs : List C} (w : Woven xs ys zs) → AllApart Apart xs ys → (s : S) → Good s
      → told_left after answer w s ≡ told after answer s xs
  unfolding told told_left
  woven_told nothing h s g = refl
  woven_told (left {c = c} w) h s g = ap {B = List ℕ} (λ ns. answer s c ∷ ns) (woven_told w (fewer h) (after s c) (t.good s c g))
  woven_told (right {c = c} {xs = xs} w) (more a h) s g = woven_told w h (after s c) (t.good s c g) ∙ told_past c xs s g a

-- KEPT BESIDE THE STATE: a value that calls hand on, and that is the count of each state they meet. A pair is true if it is
module _ {S C N : Type 0} {after : S → C → S} {answer : S → C → ℕ} {Good : S → Type 0} {Apart : C → C → Type 0} (t : Trade after answer Good Apart)
    (count : S → N) (after2 : S × N → C → S × N) (answer2 : S × N → C → ℕ)
    (counted : (s : S) (c : C) → Good s → after2 (s, count s) c ≡ (after s c, count (after s c)))
    (answered : (s : S) (c : C) → Good s → answer2 (s, count s) c ≡ answer s c) where
  abbrev pub True : S × N → Type 0
  True p = Good p.0 × (p.1 ≡ count p.0)

  abbrev both : S → S × N
  both s = (s, count s)

  step : (p : S × N) (c : C) → True p → after2 p c ≡ both (after p.0 c)
  step p c g = ap {A = S × N} (λ q. after2 q c) (λ i. (p.0, g.1 i)) ∙ counted p.0 c g.0

  true : (s : S) → Good s → True (both s)
  true s g = (g, refl)

  steps : (p : S × N) (c d : C) → True p → after2 (after2 p c) d ≡ both (after (after p.0 c) d)
  steps p c d g = ap {A = S × N} (λ q. after2 q d) (step p c g) ∙ counted _ d (t.good _ c g.0)

  told_as : (p : S × N) (c : C) → True p → answer2 p c ≡ answer p.0 c
  told_as p c g = ap {A = S × N} (λ q. answer2 q c) (λ i. (p.0, g.1 i)) ∙ answered p.0 c g.0

  pub beside : Trade after2 answer2 True Apart
  beside = record {
    good = λ p c g. subst True (sym (step p c g)) (true _ (t.good _ c g.0));
    bytes = λ p c d g a. steps p c d g ∙ ap both (t.bytes _ c d g.0 a) ∙ sym (steps p d c g);
    unseen = λ p c d g a. ap {A = S × N} (λ q. answer2 q d) (step p c g) ∙ answered _ d (t.good _ c g.0) ∙ t.unseen _ c d g.0 a ∙ sym
        (told_as p d g);
  }
