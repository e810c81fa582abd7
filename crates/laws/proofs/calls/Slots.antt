-- A state with slots: each call sets what its slot has, whatever stood there, and leaves the rest. So the last accepted call of each
-- slot decides, and calls on different slots trade places.
-- Assumes nothing.
use mathlib.Core.Path.{◌≡◌, refl, sym, ap, ◌∙◌}
use mathlib.Core.Bool.{Bool, true, false}
use mathlib.Core.List.{List, [], ◌∷◌, Memᴰ}
use Rattle.laws.proofs.Tests.{no_both}
use Rattle.laws.specs.Calls.{keep, last, last_of_each, run, seen}
use Rattle.laws.proofs.calls.Lasts.{OneOf, just, last_is, last_none, last_of_each_is, last_trade, nothing, passed}
use Rattle.laws.proofs.calls.Trading.{run_good}

-- WHAT IS SEEN. A view of the state, that calls which pass a test set to what they show, and other calls leave
pub record View {S C A : Type 0} (after : S → C → S) (Good : S → Type 0) (view : S → A) (sets : C → Bool) (shows : C → A) : Type 0 where
  pub set : (s : S) (c : C) → Good s → sets c ≡ true → view (after s c) ≡ shows c
  pub kept : (s : S) (c : C) → Good s → sets c ≡ false → view (after s c) ≡ view s

module _ {S C A : Type 0} {after : S → C → S} {Good : S → Type 0} (good : (s : S) (c : C) → Good s → Good (after s c))
    {view : S → A} {sets : C → Bool} {shows : C → A} (v : View after Good view sets shows) where
  -- shows what the last such call shows, or what it showed at first
  pub last_seen : (cs : List C) (s : S) → Good s → view (run after s cs) ≡ seen shows (view s) (last sets cs)
  unfolding run last keep
  last_seen [] s g = refl
  last_seen (c ∷ cs) s g = last_seen cs (after s c) (good s c g) ∙ go (last_is sets cs) (sets c) refl
    where
      go : {ds : List C} → OneOf sets ds → (b : Bool) → sets c ≡ b → seen shows (view (after s c)) ds ≡ seen shows (view s) (keep ds b c)
      go nothing true e = v.set s c g e
      go nothing false e = v.kept s c g e
      go (just d h) b e = refl

-- A STORE: cells X, of which each belongs to a slot; `of l c` says that c is an accepted call of slot l, and `slot l` that l is one
pub record Store {S C L X A : Type 0} (after : S → C → S) (Good : S → Type 0) (read : S → X → A) (slot : L → Bool) (of : L → C → Bool) : Type 0 where
  pub owner : X → L
  pub shows : X → C → A
  pub good : (s : S) (c : C) → Good s → Good (after s c)
  pub set : (s : S) (c : C) (x : X) → Good s → of (owner x) c ≡ true → read (after s c) x ≡ shows x c
  pub kept : (s : S) (c : C) (x : X) → Good s → of (owner x) c ≡ false → read (after s c) x ≡ read s x
  pub whole : (s t : S) → Good s → Good t → ((x : X) → read s x ≡ read t x) → s ≡ t
  pub slots : (l : L) (c : C) → of l c ≡ true → slot l ≡ true
  pub single : (l k : L) (c : C) → of l c ≡ true → of k c ≡ true → l ≡ k

module _ {S C L X A : Type 0} {after : S → C → S} {Good : S → Type 0} {read : S → X → A} {slot : L → Bool} {of : L → C → Bool}
    (t : Store after Good read slot of) where
  pub cell_seen : (cs : List C) (s : S) (x : X) → Good s → read (run after s cs) x ≡ seen (t.shows x) (read s x) (last (of (t.owner x)) cs)
  cell_seen cs s x g = last_seen t.good (record { set = λ s c. t.set s c x; kept = λ s c. t.kept s c x }) cs s g

  -- two lists of calls with the same last calls leave the same
  pub same_last : (cs ds : List C) (s : S) → Good s → ((l : L) → slot l ≡ true → last (of l) cs ≡ last (of l) ds) → run after s cs ≡ run after s ds
  same_last cs ds s g e =
      t.whole _ _ (run_good after Good t.good cs s g) (run_good after Good t.good ds s g)
      (λ x. cell_seen cs s x g ∙ ap (seen (t.shows x) (read s x)) (each (t.owner x) (slot (t.owner x)) refl) ∙ sym (cell_seen ds s x g))
    where
      each : (l : L) (b : Bool) → slot l ≡ b → last (of l) cs ≡ last (of l) ds
      each l true q = e l q
      each l false q = last_none (of l) (λ c h. no_both (t.slots l c h) q) cs ∙ sym (last_none (of l) (λ c h. no_both (t.slots l c h) q) ds)

  -- a call of no slot, such as a refused one, changes nothing
  pub idle : (c : C) (s : S) → Good s → ((l : L) → of l c ≡ false) → after s c ≡ s
  unfolding run last
  idle c s g n = same_last (c ∷ []) [] s g (λ l q. passed (of l) c (n l))

  -- so the last call of each slot is enough, in whichever order the slots are named
  pub last_calls : (cs : List C) (ls : List L) (s : S) → Good s → ((l : L) → slot l ≡ true → Memᴰ l ls)
      → run after s cs ≡ run after s (last_of_each of ls cs)
  last_calls cs ls s g all = same_last cs (last_of_each of ls cs) s g (λ l q. sym (last_of_each_is of t.single l ls cs (all l q)))

  -- and calls of different slots trade places
  pub trade : (c d : C) (s : S) → Good s → ((l : L) → of l c ≡ true → of l d ≡ true → ⊥) → after (after s c) d ≡ after (after s d) c
  unfolding run
  trade c d s g apart = same_last (c ∷ d ∷ []) (d ∷ c ∷ []) s g (λ l q. last_trade (of l) c d (apart l))
