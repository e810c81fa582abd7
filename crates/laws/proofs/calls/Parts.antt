-- A state in parts: each call names a part, does there what a call on that part does, and leaves the others. What a call does to its
-- part, and whether it is accepted there, may depend on that part: calls on different parts trade places all the same.
-- Assumes nothing.
use mathlib.Core.Path.{◌≡◌, refl, sym, ap, ◌∙◌}
use mathlib.Core.Logic.{◌≢◌, ◌⊎◌, ⊎_elim}
use mathlib.Core.List.{List, [], ◌∷◌}
use Prim.Native.Nat.{ℕ}
use native.Mathlib.Decide.{ℕ_discrete}
use borrow.Author.Tests.{eq-eqb, ne_eqb}
use Rattle.laws.specs.Calls.{calls_on, run}
use Rattle.laws.proofs.calls.Trading.{Trade, run_good}

-- `part c` is the part that c names, `there c` the call on it, `get s b` part b of s, for the parts there are
pub record Parts {S B C D : Type 0} (after : S → C → S) (act : B → D → B) (part : C → ℕ) (there : C → D) (Good : S → Type 0) (get : S → ℕ → B)
    (In : ℕ → Type 0) : Type 0 where
  pub good : (s : S) (c : C) → Good s → Good (after s c)
  pub named : (s : S) (c : C) (b : ℕ) → Good s → In b → part c ≡ b → get (after s c) b ≡ act (get s b) (there c)
  pub other : (s : S) (c : C) (b : ℕ) → Good s → In b → part c ≢ b → get (after s c) b ≡ get s b
  pub whole : (s t : S) → Good s → Good t → ((b : ℕ) → In b → get s b ≡ get t b) → s ≡ t

module _ {C D : Type 0} (part : C → ℕ) (there : C → D) (b : ℕ) (c : C) (cs : List C) where
  on_it : part c ≡ b → calls_on part there b (c ∷ cs) ≡ there c ∷ calls_on part there b cs
  unfolding calls_on
  on_it e = rw (eq-eqb (part c) b e)

  off_it : part c ≢ b → calls_on part there b (c ∷ cs) ≡ calls_on part there b cs
  unfolding calls_on
  off_it n = rw (ne_eqb (part c) b n)

module _ {S B C D : Type 0} {after : S → C → S} {act : B → D → B} {part : C → ℕ} {there : C → D} {Good : S → Type 0} {get : S → ℕ → B} {In : ℕ
    → Type 0}
    (p : Parts after act part there Good get In) where
  -- each part is what the calls that name it leave of it
  pub part_run : (cs : List C) (s : S) (b : ℕ) → Good s → In b → get (run after s cs) b ≡ run act (get s b) (calls_on part there b cs)
  unfolding run calls_on
  part_run [] s b g i = refl
  part_run (c ∷ cs) s b g i = part_run cs (after s c) b (p.good s c g) i ∙ go (ℕ_discrete (part c) b)
    where
      go : Dec (part c ≡ b) → run act (get (after s c) b) (calls_on part there b cs) ≡ run act (get s b) (calls_on part there b (c ∷ cs))
      go (yes e) = rw (on_it part there b c cs e, p.named s c b g i e)
      go (no n) = rw (off_it part there b c cs n, p.other s c b g i n)

  -- calls that leave every part alike leave the same
  pub alike : (cs ds : List C) (s : S) → Good s
      → ((b : ℕ) → In b → run act (get s b) (calls_on part there b cs) ≡ run act (get s b) (calls_on part there b ds))
      → run after s cs ≡ run after s ds
  alike cs ds s g e =
      p.whole _ _ (run_good after Good p.good cs s g) (run_good after Good p.good ds s g)
      (λ b i. part_run cs s b g i ∙ e b i ∙ sym (part_run ds s b g i))

  -- two calls trade places if they do so on the part that both name
  pub trade : (c d : C) (s : S) → Good s
      → ((b : ℕ) → In b → part c ≡ b → part d ≡ b → act (act (get s b) (there c)) (there d) ≡ act (act (get s b) (there d)) (there c))
      → after (after s c) d ≡ after (after s d) c
  trade c d s g both =
      p.whole _ _ (p.good _ d (p.good s c g)) (p.good _ c (p.good s d g)) (λ b i. go b i (ℕ_discrete (part c) b) (ℕ_discrete (part d) b))
    where
      go : (b : ℕ) → In b → Dec (part c ≡ b) → Dec (part d ≡ b) → get (after (after s c) d) b ≡ get (after (after s d) c) b
      go b i (yes e) (yes f) =
          p.named _ d b (p.good s c g) i f ∙ ap (λ (x : B). act x (there d)) (p.named s c b g i e) ∙ both b i e f
          ∙ sym (p.named _ c b (p.good s d g) i e ∙ ap (λ (x : B). act x (there c)) (p.named s d b g i f))
      go b i (yes e) (no n) =
          p.other _ d b (p.good s c g) i n ∙ p.named s c b g i e
          ∙ sym (p.named _ c b (p.good s d g) i e ∙ ap (λ (x : B). act x (there c)) (p.other s d b g i n))
      go b i (no n) (yes f) =
          p.named _ d b (p.good s c g) i f ∙ ap (λ (x : B). act x (there d)) (p.other s c b g i n)
          ∙ sym (p.other _ c b (p.good s d g) i n ∙ p.named s d b g i f)
      go b i (no n) (no k) =
          p.other _ d b (p.good s c g) i k ∙ p.other s c b g i n ∙ sym (p.other _ c b (p.good s d g) i n ∙ p.other s d b g i k)

  -- where a call is answered by the part that it names, calls on different parts trade places, with their answers
  pub apart : (answer : S → C → ℕ) (tell : B → D → ℕ) → ((b : ℕ) → In b ⊎ (In b → ⊥))
      → ((s : S) (c : C) → Good s → In (part c) → answer s c ≡ tell (get s (part c)) (there c))
      → ((s : S) (c d : C) → Good s → (In (part d) → ⊥) → answer (after s c) d ≡ answer s d)
      → Trade after answer Good (λ c d. part c ≢ part d)
  apart answer tell known named beyond = record {
    good = p.good;
    bytes = λ s c d g n. trade c d s g (λ b i e f. absurd (n (e ∙ sym f)));
    unseen = λ s c d g n.
        ⊎_elim (λ i. named _ d (p.good s c g) i ∙ ap (λ (x : B). tell x (there d)) (p.other s c (part d) g i n) ∙ sym (named s d g i))
        (beyond s c d g) (known (part d));
  }
