-- The machine stays ready and comes to its end, and what it still has to say of an input, round by round.
-- Assumes nothing.
use mathlib.Core.Path.{◌≡◌, refl, ◌∙◌, ap, sym, subst}
use mathlib.Core.Bool.{Bool, true, false}
use mathlib.Core.List.{List, [], ◌∷◌, ◌++◌, append-nil}
use Prim.Native.Nat.{ℕ, zero, suc, ◌+◌, ◌-◌, ◌*◌, ◌≤◌}
use native.Mathlib.Omega.{arith}
use lib.Dec.{eqb, leb}
use lib.ListN.{length, get_or, take, drop}
use lib.Seq.{length-take-le, take_all}
use borrow.Author.Tests.{eq-eqb, eqb-false, eqb-true, leb-false, leb-true, ne_eqb}
use Rattle.head_rules.specs.Geometry.{blocks_of, most_blocks}
use Rattle.head_rules.specs.Answers.{HeadReader}
use Rattle.listing_rules.specs.Machine.{Machine}
use Rattle.listing_rules.specs.declared.Phase.{Phase}
use Rattle.listing_rules.specs.declared.Phase.TheVariants.{Head, Blocks, End, Listed, Refused}
use Rattle.head_rules.specs.Answers.{Head as SheetHead}
use Rattle.laws.specs.Tables.{pick}
use Rattle.laws.proofs.Cases.{pick_either}
use Rattle.head_rules.specs.Heads.{Sized, head_of, read_head}
use Rattle.head_rules.proofs.Blocks.{few_blocks}
use Rattle.head_rules.specs.Reader.{Going, Reading, at_form, byte_taken, has_ended, read_by, refused_with}
use Rattle.head_rules.proofs.Bytewise.{Stepped, going_start, not_far, read_byte, read_cut, read_ended, stepped, stepped_refused}
use Rattle.head_rules.proofs.Theorems.{fold_leaves_the_blocks, read_head_is_the_fold}
use Rattle.laws.specs.Text.{refused_text}
use Rattle.listing_rules.specs.Text.{sheet_text}
use Rattle.listing_rules.specs.Listing.{blocks_listing, blocks_text, listed, listing, unless_exact}
use Rattle.listing_rules.specs.Machine.{InBlocks, Ready, ReadyIn, Run, at_head, at_start, begun, blocks_phase, ended, head_text, in_blocks}
use Rattle.listing_rules.specs.Machine.{next_at_head, next_in, next_in_blocks, next_of, over, taken_of, text_at_head, text_in, text_in_blocks, text_of}
use Rattle.listing_rules.specs.Machine.{most_in_run, round, rounds_in, rounds_of, run_of, wanted_in, wanted_of}
use Rattle.listing_rules.proofs.Runs.{listing_accepted, listing_refused, run_and_rest, run_cut, run_inside, run_some, run_whole, run_within}

-- what comes of the head's next byte
module _ (r : HeadReader) (came : List ℕ) where
  pub taken_none : length came ≡ 0 → refused_with 7 ≡ taken_of r came
  taken_none = go came
    where
      go : (came : List ℕ) → length came ≡ 0 → refused_with 7 ≡ taken_of r came
      go [] e = refl
      go (b ∷ bs) e = absurd (let q : ⊥ = omega arith in q)

  pub taken_one : (length came ≡ 0 → ⊥) → byte_taken r (get_or came 0 0) ≡ taken_of r came
  taken_one = go came
    where
      go : (came : List ℕ) → (length came ≡ 0 → ⊥) → byte_taken r (get_or came 0 0) ≡ taken_of r came
      go [] n = absurd (n refl)
      go (b ∷ bs) n = refl

  pub taken_stepped : Going r → Stepped r (taken_of r came)
  taken_stepped g = go came
    where
      go : (came : List ℕ) → Stepped r (taken_of r came)
      go [] = stepped_refused r 7 (λ q. omega arith)
      go (b ∷ bs) = stepped g b

pub head_sized : {r x : HeadReader} (came : List ℕ) → Going r → x ≡ taken_of r came
    → has_ended x ≡ true → x.head.refusal ≡ 0 → Sized x.head.width x.head.height
head_sized {r} {x} came g e = (subst (Stepped r) (sym e) (taken_stepped r came g)).sized_head

-- before blocks: at one of them, or at the end of the input
pub no_blocks : (n from : ℕ) → from ≡ n → blocks_phase (n - from) ≡ End
no_blocks n from e = let none : n - from ≡ 0 = omega (arith, e) in ap blocks_phase none

pub some_blocks : (k : ℕ) → (k ≡ 0 → ⊥) → blocks_phase k ≡ Blocks
some_blocks zero n = absurd (n refl)
some_blocks (suc k) n = refl

ready_blocks : (r : HeadReader) (from : ℕ) → Sized r.head.width r.head.height → Ready (in_blocks r from)
unfolding in_blocks
ready_blocks r from z = go (blocks_of r.head - from) refl
  where
    go : (k : ℕ) → blocks_of r.head - from ≡ k → ReadyIn (blocks_phase k) (record { phase = blocks_phase k; reader = r; from = from })
    go zero e = tt
    go (suc k) e = record { sized = z; more = omega (arith, e) }

rounds_blocks : (r : HeadReader) (from n : ℕ) → blocks_of r.head - from + 1 ≤ n → rounds_of (in_blocks r from) ≤ n
unfolding in_blocks
rounds_blocks r from n h = go (blocks_of r.head - from) refl
  where
    go : (k : ℕ) → blocks_of r.head - from ≡ k → rounds_in (blocks_phase k) (record { phase = blocks_phase k; reader = r; from = from }) ≤ n
    go zero e = omega arith
    go (suc k) e = h

pub few_in_all : (h : SheetHead) → Sized h.width h.height → blocks_of h ≤ most_blocks
unfolding blocks_of
few_in_all h z = few_blocks z

-- at the end
ready_ended : (exact : Bool) → Ready (ended exact)
unfolding ended
ready_ended true = tt
ready_ended false = tt

rounds_ended : (exact : Bool) → rounds_of (ended exact) ≡ 0
unfolding ended
rounds_ended true = refl
rounds_ended false = refl

-- what holds before the first block, and at the end, holds behind the head
behind_head_is : (P : Machine → Type 0) (r : HeadReader) → (r.head.refusal ≡ 0 → Sized r.head.width r.head.height)
    → (Sized r.head.width r.head.height → P (in_blocks r 0)) → P (ended false) → P (begun r)
unfolding begun
behind_head_is P r sized blocks end = go (eqb r.head.refusal 0) refl
  where
    go : (t : Bool) → eqb r.head.refusal 0 ≡ t → P (pick t (in_blocks r 0) (ended false))
    go true e = blocks (sized (eqb-true _ 0 e))
    go false e = end

-- and what holds there and at the head with a byte more holds after each byte of the head
after_byte : (P : Machine → Type 0) (r : HeadReader) → Going r
    → ((x : HeadReader) → (x.head.refusal ≡ 0 → Sized x.head.width x.head.height) → P (begun x))
    → ((x : HeadReader) → Stepped r x → has_ended x ≡ false → P (at_head x)) → (came : List ℕ) → P (next_at_head (taken_of r came))
after_byte P r g behind more came = go (taken_of r came) (taken_stepped r came g) (has_ended (taken_of r came)) refl
  where
    go : (x : HeadReader) → Stepped r x → (t : Bool) → has_ended x ≡ t → P (pick t (begun x) (at_head x))
    go x s true e = behind x (s.sized_head e)
    go x s false e = more x s e

-- the next state is ready
pub ready_next : (p : Phase) (m : Machine) (came : List ℕ) → ReadyIn p m → Ready (next_in p m came)
ready_next Head m came h =
    after_byte Ready m.reader h
    (λ x z. behind_head_is Ready x z (λ s. ready_blocks x 0 s) (ready_ended false)) (λ x s e. s.going e) came
ready_next Blocks m came h = pick_either Ready (eqb (length came) _) (ready_blocks m.reader _ h.sized) (ready_ended false)
ready_next End m came h = ready_ended (eqb (length came) 0)
ready_next Listed m came h = ready_ended true
ready_next Refused m came h = ready_ended false

-- and has fewer rounds to go
pub rounds_next : (p : Phase) (m : Machine) (came : List ℕ) → ReadyIn p m → rounds_of (next_in p m came) ≤ rounds_in p m - 1
rounds_next Head m came h =
    after_byte (λ n. rounds_of n ≤ rounds_in Head m - 1) m.reader h
    (λ x z. behind_head_is (λ n. rounds_of n ≤ rounds_in Head m - 1) x z (λ s. rounds_blocks x 0 _ (omega (arith, few_in_all x.head s)))
    (omega (arith, rounds_ended false)))
    (λ x s e. omega (arith, s.on e, not_far h, h.few)) came
rounds_next Blocks m came h = pick_either (λ n. rounds_of n ≤ rounds_in Blocks m - 1) (eqb (length came) _)
    (rounds_blocks m.reader _ _ (omega (arith, run_some h, run_inside h))) (omega (arith, rounds_ended false))
rounds_next End m came h = omega (arith, rounds_ended (eqb (length came) 0))
rounds_next Listed m came h = omega (arith, rounds_ended true)
rounds_next Refused m came h = omega (arith, rounds_ended false)

-- it never wants more than the buffer holds, and at the end nothing
wanted_in_is : (p : Phase) (m : Machine) → ReadyIn p m → (wanted_in p m ≤ 16 * most_in_run) × (wanted_in p m ≤ 16 * most_in_run * rounds_in p m)
wanted_in_is Head m h = (omega arith, omega arith)
wanted_in_is Blocks m h = (omega (arith, run_within h), omega (arith, run_within h))
wanted_in_is End m h = (omega arith, omega arith)
wanted_in_is Listed m h = (omega arith, omega arith)
wanted_in_is Refused m h = (omega arith, omega arith)

pub wanted_within : (m : Machine) → Ready m → (wanted_of m ≤ 16 * most_in_run) × (wanted_of m ≤ 16 * most_in_run * rounds_of m)
wanted_within m h = wanted_in_is m.phase m h

-- what is still said of an input: from a head on, and from a byte of the head on
behind : SheetHead → List ℕ → List ℕ
behind h s = pick (eqb h.refusal 0) (blocks_listing h 0 (blocks_of h) s) []

from_head : Reading → List ℕ
from_head t = head_text t.head ++ behind t.head t.rest

rest_in : Phase → Machine → List ℕ → List ℕ
rest_in Head m s = from_head (read_by m.reader s)
rest_in Blocks m s = blocks_listing m.reader.head m.from (blocks_of m.reader.head - m.from) s
rest_in End m s = blocks_listing m.reader.head m.from 0 s
rest_in Listed m s = []
rest_in Refused m s = []

pub rest_of : Machine → List ℕ → List ℕ
rest_of m s = rest_in m.phase m s

rest_blocks : (r : HeadReader) (from : ℕ) (s : List ℕ) → rest_of (in_blocks r from) s ≡ blocks_listing r.head from (blocks_of r.head - from) s
unfolding in_blocks rest_of rest_in
rest_blocks r from s = go (blocks_of r.head - from) refl
  where
    go : (k : ℕ) → blocks_of r.head - from ≡ k
        → rest_in (blocks_phase k) (record { phase = blocks_phase k; reader = r; from = from }) s ≡ blocks_listing r.head from k s
    go zero e = refl
    go (suc k) e = ap (λ (n : ℕ). blocks_listing r.head from n s) e

rest_ended : (exact : Bool) (s : List ℕ) → rest_of (ended exact) s ≡ []
unfolding ended rest_of rest_in
rest_ended true s = refl
rest_ended false s = refl

rest_begun : (r : HeadReader) (s : List ℕ) → rest_of (begun r) s ≡ behind r.head s
unfolding begun behind
rest_begun r s = go (eqb r.head.refusal 0)
  where
    go : (t : Bool) → rest_of (pick t (in_blocks r 0) (ended false)) s ≡ pick t (blocks_listing r.head 0 (blocks_of r.head) s) []
    go true =
        let all : blocks_of r.head - 0 ≡ blocks_of r.head = omega arith in
        rest_blocks r 0 s ∙ ap (λ (n : ℕ). blocks_listing r.head 0 n s) all
    go false = rest_ended false s

-- a byte of the head, or none
head_step : (r : HeadReader) → has_ended r ≡ false → (s : List ℕ)
    → from_head (read_by r s) ≡ text_at_head (taken_of r (take 1 s)) ++ rest_of (next_at_head (taken_of r (take 1 s))) (drop 1 s)
unfolding from_head rest_of rest_in
head_step r un [] = ap from_head (read_cut r un) ∙ ap (λ (t : List ℕ). head_text (head_of 7 0 0 0) ++ t) (sym (rest_begun (refused_with 7) []))
head_step r un (b ∷ bs) = ap from_head (read_byte r un b bs) ∙ go (byte_taken r b) (has_ended (byte_taken r b)) refl
  where
    go : (x : HeadReader) (t : Bool) → has_ended x ≡ t → from_head (read_by x bs)
        ≡ pick t (head_text x.head) [] ++ rest_of (pick t (begun x) (at_head x)) bs
    go x true e = ap from_head (read_ended x e bs) ∙ ap (λ (t : List ℕ). head_text x.head ++ t) (sym (rest_begun x bs))
    go x false e = refl

-- of what was wanted all came exactly when the input has so much
all_came : (n : ℕ) (s : List ℕ) → eqb (length (take n s)) n ≡ leb n (length s)
all_came n s = go (leb n (length s)) refl
  where
    go : (t : Bool) → leb n (length s) ≡ t → eqb (length (take n s)) n ≡ t
    go true e = eq-eqb _ n (length-take-le n s (leb-true n (length s) e))
    go false e = ne_eqb _ n (λ q. omega (arith, leb-false n (length s) e, ap length (take_all n s (omega (arith, leb-false n (length s) e)))))

run_step : (r : HeadReader) (from : ℕ) (s : List ℕ) → InBlocks r.head from
    → let n = 16 * run_of r.head from in
    blocks_listing r.head from (blocks_of r.head - from) s
    ≡ text_in_blocks r.head from (take n s) ++ rest_of (next_in_blocks r from (length (take n s))) (drop n s)
run_step r from s i =
    ap (λ (k : ℕ). blocks_listing r.head from k s) (sym (run_and_rest i)) ∙ rw (all_came n s) (go (leb n (length s)) refl)
  where
    run : ℕ
    run = run_of r.head from

    n : ℕ
    n = 16 * run

    left : ℕ
    left = blocks_of r.head - (from + run)

    go : (t : Bool) → leb n (length s) ≡ t
        → blocks_listing r.head from (run + left) s
        ≡ (listed r.head from (take n s) ++ unless_exact t) ++ rest_of (pick t (in_blocks r (from + run)) (ended false)) (drop n s)
    go true e =
        run_whole r.head from run left s (leb-true n (length s) e)
        ∙ rw append-nil (ap (λ (t : List ℕ). listed r.head from (take n s) ++ t) (sym (rest_blocks r (from + run) (drop n s))))
    go false e = run_cut r.head from run left s (leb-false n (length s) e) ∙ sym (rw (rest_ended, append-nil))

-- a byte came exactly when the input has one
none_came : (s : List ℕ) → eqb (length (take 1 s)) 0 ≡ eqb (length s) 0
none_came [] = refl
none_came (b ∷ bs) = ne_eqb (suc (length (take 0 bs))) 0 (λ q. omega (arith, q)) ∙ sym (ne_eqb (suc (length bs)) 0 (λ q. omega (arith, q)))

end_step : (h : SheetHead) (from : ℕ) (s : List ℕ)
    → blocks_listing h from 0 s ≡ unless_exact (eqb (length (take 1 s)) 0) ++ rest_of (ended (eqb (length (take 1 s)) 0)) (drop 1 s)
unfolding blocks_listing listed blocks_text
end_step h from s = rw (rest_ended, append-nil, none_came s)

-- what is still said is what is said of the next bytes, and what is still said behind them
step_in : (p : Phase) (m : Machine) (s : List ℕ) → ReadyIn p m
    → let n = wanted_in p m in rest_in p m s ≡ text_in p m (take n s) ++ rest_of (next_in p m (take n s)) (drop n s)
unfolding rest_in
step_in Head m s h = head_step m.reader h.unended s
step_in Blocks m s h = run_step m.reader m.from s h
step_in End m s h = end_step m.reader.head m.from s
step_in Listed m s h = sym (rest_ended true s)
step_in Refused m s h = sym (rest_ended false s)

pub step : (m : Machine) (s : List ℕ) → Ready m
    → rest_of m s ≡ text_of m (take (wanted_of m) s) ++ rest_of (next_of m (take (wanted_of m) s)) (drop (wanted_of m) s)
unfolding rest_of
step m s h = step_in m.phase m s h

-- where nothing is wanted nothing is left to say; that is so at the end alone
done_in : (p : Phase) (m : Machine) (s : List ℕ) → ReadyIn p m → wanted_in p m ≡ 0 → rest_in p m s ≡ []
unfolding rest_in
done_in Head m s h e = absurd (let q : ⊥ = omega (arith, e) in q)
done_in Blocks m s h e = absurd (let q : ⊥ = omega (arith, e, run_some h) in q)
done_in End m s h e = absurd (let q : ⊥ = omega (arith, e) in q)
done_in Listed m s h e = refl
done_in Refused m s h e = refl

pub done : (m : Machine) (s : List ℕ) → Ready m → wanted_of m ≡ 0 → rest_of m s ≡ []
unfolding rest_of
done m s h e = done_in m.phase m s h e

-- a run from a state that is ready, in as many rounds as it has to go
pub runs : (k : ℕ) (m : Machine) (s : List ℕ) → rounds_of m ≤ k → Ready m → Run m s (rest_of m s)
runs zero m s l h = let e : wanted_of m ≡ 0 = omega (arith, wanted_within m h, l) in subst (λ (t : List ℕ). Run m s t) (sym (done m s h e)) (over e)
runs (suc k) m s l h = go (wanted_of m) refl
    (λ e. runs k (next_of m came) (drop (wanted_of m) s) (omega (arith, rounds_next m.phase m came h, l)) (ready_next m.phase m came h))
  where
    came : List ℕ
    came = take (wanted_of m) s

    go : (n : ℕ) → wanted_of m ≡ n
        → ((wanted_of m ≡ 0 → ⊥) → Run (next_of m came) (drop (wanted_of m) s) (rest_of (next_of m came) (drop (wanted_of m) s))) → Run m s (rest_of m s)
    go zero e r = subst (λ (t : List ℕ). Run m s t) (sym (done m s h e)) (over e)
    go (suc n) e r =
        let some : wanted_of m ≡ 0 → ⊥ = λ z. omega (arith, e, z) in subst (λ (t : List ℕ). Run m s t) (sym (step m s h)) (round some (r some))

pub ready_start : Ready at_start
ready_start = going_start

-- from the start that is the listing
pub rest_start : (s : List ℕ) → rest_of at_start s ≡ listing (read_head s) s
unfolding rest_of rest_in from_head head_text behind
rest_start s =
    ap (λ (h : SheetHead). head_text h ++ behind h (read_by at_form s).rest) (read_head_is_the_fold s) ∙ go (eqb (read_head s).refusal 0) refl
  where
    go : (t : Bool) → eqb (read_head s).refusal 0 ≡ t
        → pick t (sheet_text (read_head s).width (read_head s).height) (refused_text (read_head s).refusal)
        ++ pick t (blocks_listing (read_head s) 0 (blocks_of (read_head s)) (read_by at_form s).rest) [] ≡ listing (read_head s) s
    go true e =
        let z = eqb-true _ 0 e in
        ap (λ (bs : List ℕ). sheet_text (read_head s).width
        (read_head s).height ++ blocks_listing (read_head s) 0 (blocks_of (read_head s)) bs)
        (fold_leaves_the_blocks s z) ∙ sym (listing_accepted s z)
    go false e = append-nil _ ∙ sym (listing_refused s (eqb-false _ 0 e))
