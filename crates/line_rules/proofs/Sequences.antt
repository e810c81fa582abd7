-- Any list of calls: a block is a store whose slots are its lines and whose cells are its places.
-- Assumes nothing.
use mathlib.Core.Path.{◌≡◌, refl, sym, ap, ◌∙◌}
use mathlib.Core.Logic.{◌≢◌, ⊎_elim}
use mathlib.Core.Bool.{Bool, true, false}
use mathlib.Core.List.{List, [], ◌∷◌, Memᴰ}
use Prim.Native.Nat.{ℕ, ◌<◌}
use native.Mathlib.Omega.{arith}
use borrow.Author.Tests.{eqb-true, eqb-false, eq-eqb, lt-ltb, ltb-true}
use lib.Dec.{T, eqb, ltb}
use Rattle.bc7_format.specs.declared.Place.{Place}
use Rattle.bc7_format.specs.declared.Split.{Split}
use Rattle.laws.specs.Digits.{Fit}
use Rattle.laws.specs.Tables.{pick}
use Rattle.laws.proofs.Tests.{both_true, no_both, not_so}
use Rattle.laws.specs.Calls as calls
use Rattle.laws.proofs.calls.Slots.{Store, last_calls, last_seen, same_last, trade}
use Rattle.laws.proofs.calls.Trading.{Trade, run_good}
use Rattle.bcn_format.specs.Block.{eights}
use Rattle.bc7_format.specs.Modes.{mode_of, lines}
use Rattle.bc7_format.specs.Lines.{draws, has, laid, line_of_place, means_shown, pixel}
use Rattle.bcn_format.specs.Partitions.{among, or}
use Rattle.bc7_format.specs.Places.{block_of, inside as inside_block, opened}
use Rattle.bc7_format.specs.Splits.{split_of}
use Rattle.bc7_format.proofs.Lens.{has_parts}
use Rattle.bc7_format.proofs.Opening.{block_ext, block_opened}
use Rattle.line_rules.specs.Calls.{after_all, is_accepted, is_of, last, last_of_each, seen}
use Rattle.line_rules.specs.Replace.{Call, after, oriented, refusal}
use Rattle.line_rules.proofs.Accepting.{accepted_is}
use Rattle.line_rules.proofs.Blocks.{after_mode, after_sixteen, after_split, given_drawn, others_kept, places_kept, places_stored}
use Rattle.line_rules.proofs.Blocks.{reserved_or, reserved_same, same_refusal, unchanged}
use Rattle.line_rules.proofs.Draws.{drawn_by_one}

-- what no call changes
pub record Stays (m : ℕ) (s : Split) (bs : List ℕ) : Type 0 where
  pub sixteen : Fit eights bs
  pub mode : mode_of bs ≡ m
  pub split : split_of bs ≡ s

module _ (m : ℕ) (s : Split) where
  stays : (bs : List ℕ) (c : Call) → Stays m s bs → Stays m s (after bs c)
  stays bs c g =
      record {
        sixteen = after_sixteen bs g.sixteen c;
        mode = after_mode bs g.sixteen c ∙ g.mode;
        split = after_split bs g.sixteen c ∙ g.split;
      }

  -- an accepted call of line l, or a refused one, or one of another line
  is_of_is : (bs : List ℕ) (c : Call) (l : ℕ) → Stays m s bs → is_of m s l c ≡ true → (refusal bs c ≡ 0) × (c.line ≡ l)
  unfolding refusal is_accepted
  is_of_is bs c l g e =
      let p = both_true (is_accepted m s c) (eqb c.line l) e in
      (rw (g.mode, g.split) (eqb-true _ 0 p.0), eqb-true c.line l p.1)

  not_of : {A : Type 0} (view : List ℕ → A) (bs : List ℕ) (c : Call) (l : ℕ) → Stays m s bs → is_of m s l c ≡ false
      → (c.line ≢ l → view (after bs c) ≡ view bs) → view (after bs c) ≡ view bs
  unfolding refusal is_accepted
  not_of view bs c l g e other = go (is_accepted m s c) (eqb c.line l) refl refl
    where
      go : (a b : Bool) → is_accepted m s c ≡ a → eqb c.line l ≡ b → view (after bs c) ≡ view bs
      go true true x y = absurd (no_both (rw (x, y)) e)
      go true false x y = other (eqb-false c.line l y)
      go false b x y = ap view (unchanged bs c (λ z. no_both (eq-eqb _ 0 (rw (g.mode, g.split) at z)) x))

  of_line : (l : ℕ) (c : Call) → is_of m s l c ≡ true → l < lines m
  unfolding is_accepted
  of_line l c e =
      let p = both_true (is_accepted m s c) (eqb c.line l) e in
      rw (eqb-true c.line l p.1) at (accepted_is m s c.line c.given (eqb-true _ 0 p.0)).line

  -- the line that has a place, or no line
  owner_of : Place → ℕ
  owner_of x = pick (has m s (line_of_place m s x) x) (line_of_place m s x) (lines m)

  owned : (x : Place) (l : ℕ) → has m s l x ≡ true → owner_of x ≡ l
  unfolding owner_of
  owned x l h = let e = (has_parts m s l x h).2 in rw (e, h)

  owner_has : (x : Place) (l : ℕ) → owner_of x ≡ l → l < lines m → has m s l x ≡ true
  unfolding owner_of
  owner_has x l e h = go (has m s (line_of_place m s x) x) refl e
    where
      go : (b : Bool) → has m s (line_of_place m s x) x ≡ b → pick b (line_of_place m s x) (lines m) ≡ l → has m s l x ≡ true
      go true t e = rw e at t
      go false t e = absurd (let q : ⊥ = omega arith in q)

  abbrev Cell : Type 0
  Cell = (x : Place) × T (inside_block x)

  opens : m < 8 → (bs : List ℕ) → Stays m s bs → block_of m s (opened bs) ≡ bs
  opens h bs g = rw (g.mode, g.split) at (block_opened bs g.sixteen (rw g.mode h))

  store : m < 8 → Store after (Stays m s) (λ (bs : List ℕ) (x : Cell). opened bs x.0) (λ l. ltb l (lines m)) (is_of m s)
  store h = record {
    owner = λ x. owner_of x.0;
    shows = λ x c. laid m (oriented m s c.line c.given) x.0;
    good = stays;
    set = λ bs c x g e.
        let p = is_of_is bs c (owner_of x.0) g e in
        let i : has m s c.line x.0 ≡ true = rw p.1 (owner_has x.0 _ refl (of_line _ c e)) in
        rw (g.mode, g.split) at (places_stored bs g.sixteen c x.0 p.0 x.1 (rw (g.mode, g.split) i));
    kept = λ bs c x g e. not_of (λ b. opened b x.0) bs c (owner_of x.0) g e (λ n.
        places_kept bs g.sixteen c x.0 x.1
        (rw (g.mode, g.split) (not_so (has m s c.line x.0) (λ t. n (sym (owned x.0 c.line t))))));
    whole = λ a b g k e. sym (opens h a g) ∙ block_ext m s _ _ (λ x i. e (x, i)) ∙ opens h b k;
    slots = λ l c e. lt-ltb l (lines m) (of_line l c e);
    single =
        λ l k c e f. sym (eqb-true c.line l (both_true (is_accepted m s c) _ e).1) ∙ eqb-true c.line k (both_true (is_accepted m s c) _ f).1;
  }

-- what stands in a list, as the law has it
member : (l : ℕ) (ls : List ℕ) → T (among l ls) → Memᴰ l ls
member l [] t = absurd t
member l (k ∷ ls) t = go (eqb l k) refl t (member l ls)
  where
    go : (b : Bool) → eqb l k ≡ b → T (or b (among l ls)) → (T (among l ls) → Memᴰ l ls) → Memᴰ l (k ∷ ls)
    go true e t more = Memᴰ.head (eqb-true l k e)
    go false e t more = Memᴰ.tail (more t)

-- a block is reserved, so that every call is refused, or it is such a store
reserved_all : (bs : List ℕ) (cs : List Call) → mode_of bs ≡ 8 → after_all bs cs ≡ bs
unfolding calls.run
reserved_all bs [] e = refl
reserved_all bs (c ∷ cs) e = rw (reserved_same bs c e) (reserved_all bs cs e)

module _ (bs : List ℕ) (sixteen : Fit eights bs) where
  pub first_stays : Stays (mode_of bs) (split_of bs) bs
  first_stays = record { sixteen = sixteen; mode = refl; split = refl }

  by_store : (cs ds : List Call) → (mode_of bs < 8 → after_all bs cs ≡ after_all bs ds) → after_all bs cs ≡ after_all bs ds
  by_store cs ds f = ⊎_elim (λ z. reserved_all bs cs z ∙ sym (reserved_all bs ds z)) f (reserved_or bs)

  pub same_lasts : (cs ds : List Call) → ((l : ℕ) → l < lines (mode_of bs) → last (mode_of bs) (split_of bs) l cs ≡ last (mode_of bs) (split_of bs) l ds)
      → after_all bs cs ≡ after_all bs ds
  same_lasts cs ds e = by_store cs ds (λ o. same_last (store _ _ o) cs ds bs first_stays (λ l q. e l (ltb-true l _ q)))

  pub lasts : (cs : List Call) (ls : List ℕ) → ((l : ℕ) → l < lines (mode_of bs) → T (among l ls))
      → after_all bs cs ≡ after_all bs (last_of_each (mode_of bs) (split_of bs) ls cs)
  lasts cs ls all = by_store cs _ (λ o. last_calls (store _ _ o) cs ls bs first_stays (λ l q. member l ls (all l (ltb-true l _ q))))

  pub bytes_trade : (c d : Call) → c.line ≢ d.line → after (after bs c) d ≡ after (after bs d) c
  unfolding calls.run
  bytes_trade c d n =
      by_store (c ∷ d ∷ []) (d ∷ c ∷ [])
      (λ o. trade (store _ _ o) c d bs first_stays (λ l x y. n ((is_of_is _ _ bs c l first_stays x).1 ∙ sym (is_of_is _ _ bs d l first_stays y).1)))

pub trading : (m : ℕ) (s : Split) → Trade after refusal (Stays m s) (λ c d. c.line ≢ d.line)
trading m s =
    record {
      good = stays m s;
      bytes = λ bs c d g n. bytes_trade bs g.sixteen c d n;
      unseen = λ bs c d g n. same_refusal bs g.sixteen c d;
    }

-- a list of calls changes neither the mode nor the split, and leaves sixteen bytes
pub all_stays : (cs : List Call) (bs : List ℕ) → Fit eights bs → Stays (mode_of bs) (split_of bs) (after_all bs cs)
all_stays cs bs h = run_good after (Stays (mode_of bs) (split_of bs)) (stays (mode_of bs) (split_of bs)) cs bs (first_stays bs h)

-- a channel that line l draws shows what the last accepted call of l means, or what it showed
pub sequence_draws : (m : ℕ) (s : Split) (l q ch : ℕ) → q < 16 → ch < 4 → draws m s l q ch ≡ true → (cs : List Call) (bs : List ℕ) → Stays m s bs
    → pixel (after_all bs cs) q ch ≡ seen m s l q ch (pixel bs q ch) (last m s l cs)
sequence_draws m s l q ch hq hc dr = last_seen (stays m s) (record {
  set = λ bs c g e.
      let p = is_of_is m s bs c l g e in
      (rw (g.mode, g.split) at (given_drawn bs g.sixteen c q ch p.0 hq hc (rw (g.mode, g.split, p.1) dr)))
      ∙ ap (λ (k : ℕ). means_shown m s k c.given q ch) p.1;
  kept =
      λ bs c g e. not_of m s (λ b. pixel b q ch) bs c l g e
      (λ n. others_kept bs g.sixteen c q ch (rw (g.mode, g.split) (drawn_by_one m s l c.line q ch (λ z. n (sym z)) dr)));
})
