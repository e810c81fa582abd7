-- One call after another: the state they leave, what they are answered, and the last that passes a test.
-- Assumes nothing.
use Rattle.std.specs.Prelude.{Bool, true, false, List, [], ◌∷◌, ◌++◌, ℕ, eqb}
use Rattle.laws.specs.Tables.{pick}

-- the state after a list of calls
unfoldable pub run : {S C : Type 0} → (S → C → S) → S → List C → S
run after s [] = s
run after s (c ∷ cs) = run after (after s c) cs

-- what each of them is answered
unfoldable pub told : {S C : Type 0} → (S → C → S) → (S → C → ℕ) → S → List C → List ℕ
told after answer s [] = []
told after answer s (c ∷ cs) = answer s c ∷ told after answer (after s c) cs

-- the last call that passes a test, as a list of one or none
unfoldable pub keep : {C : Type 0} → List C → Bool → C → List C
keep (a ∷ rest) b c = a ∷ rest
keep [] true c = c ∷ []
keep [] false c = []

unfoldable pub last : {C : Type 0} → (C → Bool) → List C → List C
last p [] = []
last p (c ∷ cs) = keep (last p cs) (p c) c

-- the last call of each slot that ls names, in the order of ls
unfoldable pub last_of_each : {L C : Type 0} → (L → C → Bool) → List L → List C → List C
last_of_each of [] cs = []
last_of_each of (l ∷ ls) cs = last (of l) cs ++ last_of_each of ls cs

-- of a list of one call or none: what that call shows, or what was there before
abbrev pub seen : {C A : Type 0} → (C → A) → A → List C → A
seen shows before [] = before
seen shows before (c ∷ rest) = shows c

-- the calls that name part b, as calls on that part
unfoldable pub calls_on : {C D : Type 0} → (C → ℕ) → (C → D) → ℕ → List C → List D
calls_on part there b [] = []
calls_on part there b (c ∷ cs) = pick (eqb (part c) b) (there c ∷ calls_on part there b cs) (calls_on part there b cs)

-- TWO DESKS. P holds of every call of a list
pub data All {C : Type 0} (P : C → Type 0) : List C → Type 0 where
  none : All P []
  more : {c : C} {cs : List C} → P c → All P cs → All P (c ∷ cs)

-- zs has the calls of xs and of ys, each in its order
pub data Woven {C : Type 0} : List C → List C → List C → Type 0 where
  nothing : Woven [] [] []
  left : {c : C} {xs ys zs : List C} → Woven xs ys zs → Woven (c ∷ xs) ys (c ∷ zs)
  right : {c : C} {xs ys zs : List C} → Woven xs ys zs → Woven xs (c ∷ ys) (c ∷ zs)

-- every call of xs is apart from every call of ys
abbrev pub AllApart : {C : Type 0} → (C → C → Type 0) → List C → List C → Type 0
AllApart Apart xs ys = All (λ y. All (Apart y) xs) ys

-- what the calls of xs are answered, as they come in among those of ys
unfoldable pub told_left : {S C : Type 0} (after : S → C → S) (answer : S → C → ℕ) {xs ys zs : List C} → Woven xs ys zs → S → List ℕ
told_left after answer nothing s = []
told_left after answer (left {c = c} w) s = answer s c ∷ told_left after answer w (after s c)
told_left after answer (right {c = c} w) s = told_left after answer w (after s c)
