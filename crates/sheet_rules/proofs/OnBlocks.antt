-- What storing a block leaves of a whole sheet; and a call that names a block, whatever it does there: what one call leaves and what a list of them
-- leaves, of the head, of the other blocks, and of the block that is named.
-- Assumes nothing.
use mathlib.Core.Path.{◌≡◌, refl, ◌∙◌, ap, sym, subst}
use mathlib.Core.Logic.{◌⊎◌, inl, inr, ⊎_elim, ◌≢◌}
use mathlib.Core.List.{List, [], ◌∷◌, ◌++◌}
use Prim.Native.Nat.{ℕ, ◌+◌, ◌-◌, ◌*◌, ◌/◌, ◌%◌, ◌<◌, ◌≤◌}
use native.Mathlib.Nat.{eq-zero-or-pos, lt_of_lt_of_le}
use native.Mathlib.Decide.{ℕ_discrete}
use native.Mathlib.Omega.{arith}
use lib.ListN.{length, get_or, get_or-replicate, get_or-eq_default}
use lib.Pow.{pow_mono}
use lib.Seq.{ext_get_or}
use Rattle.laws.specs.Calls.{calls_on, run}
use Rattle.laws.specs.Digits.{Fit}
use Rattle.laws.specs.Refusals.{handed, here, then}
use Rattle.laws.proofs.Cases.{lt_or}
use Rattle.laws.proofs.Fitting.{fit_get, fit_length}
use Rattle.laws.proofs.Refusals.{Answers, exactly, handed_last}
use Rattle.laws.proofs.calls.Parts.{Parts, part_run}
use Rattle.laws.proofs.calls.Trading.{run_good}
use Rattle.bcn_format.specs.Block.{block_at, eights, put_block}
use Rattle.bc7_format.proofs.Subsets.{sixteen_bytes}
use Rattle.head_rules.specs.Geometry.{blocks_of, number_at, place_of}
use Rattle.head_rules.specs.Heads.{read_head}
use Rattle.head_rules.specs.Numbers.{Bytes}
use Rattle.head_rules.proofs.Orders.{blocks_apart, blocks_behind_head, each_place, numbered_in}
use Rattle.sheet_rules.specs.Calls.{WholeSheet}
use Rattle.sheet_rules.specs.Sheets.{block_in, block_by, find_rules}
use Rattle.sheet_rules.proofs.Finding.{room}
use Rattle.bcn_format.proofs.Storing.{block_get, block_long, other_block, put_inside, put_long, put_outside}
use Rattle.sheet_rules.proofs.Storing.{head_kept}
use Rattle.bcn_format.proofs.Storing.{put_same, same_block}

-- the bytes of a block
eight_at_most : (i : ℕ) → get_or eights i 0 ≤ 8
eight_at_most i = ⊎_elim (λ l. omega (arith, get_or-replicate {A = ℕ} 16 i 8 0 l))
    (λ l. omega (arith, get_or-eq_default {A = ℕ} eights 0 {n = i} l)) (lt_or i 16)

block_bytes : {bs : List ℕ} → Fit eights bs → Bytes bs
block_bytes f i = lt_of_lt_of_le (fit_get f i) (pow_mono (eight_at_most i))

-- what every call leaves
pub record Same (s t : List ℕ) : Type 0 where
  pub whole : WholeSheet t
  pub head : read_head t ≡ read_head s
  pub front : (k : ℕ) → k < (read_head s).start → get_or t k 0 ≡ get_or s k 0

pub same_here : {s : List ℕ} → WholeSheet s → Same s s
same_here z = record { whole = z; head = refl; front = λ k l. refl }

pub same_on : {s t u : List ℕ} → Same s t → Same t u → Same s u
same_on a b = record { whole = b.whole; head = b.head ∙ a.head; front = λ k l. b.front k (rw a.head l) ∙ a.front k l }

module _ (s : List ℕ) (z : WholeSheet s) where
  pub room_of : (b : ℕ) → b < blocks_of (read_head s) → place_of (read_head s) b + 16 ≤ length s
  room_of b l = room s b (record { head_told_is = z.told; whole = z.long; number = l })

  pub sixteen : (b : ℕ) → b < blocks_of (read_head s) → Fit eights (block_in s b)
  unfolding block_by
  sixteen b l =
      sixteen_bytes (block_at s (place_of (read_head s) b)) (block_long s (place_of (read_head s) b) (room_of b l))
      (λ i li. rw (block_get s (place_of (read_head s) b) i li) (z.bytes (place_of (read_head s) b + i)))

  module _ (b : ℕ) (l : b < blocks_of (read_head s)) (block : List ℕ) (f : Fit eights block) where
    long : length (put_block s (place_of (read_head s) b) block) ≡ length s
    long = put_long s (place_of (read_head s) b) block

    head_is : read_head (put_block s (place_of (read_head s) b) block) ≡ read_head s
    head_is = head_kept s z.bytes z.told b block

    bytes_in_is : Bytes (put_block s (place_of (read_head s) b) block)
    bytes_in_is k =
        let at = place_of (read_head s) b in
        let away : ((at ≤ k) × (k < at + 16) → ⊥) → get_or (put_block s at block) k 0 < 256 = λ n. rw (put_outside s at block k n) (z.bytes k) in
        ⊎_elim (λ p. away (λ w. omega (arith, w.0)))
        (λ p. ⊎_elim (λ q. let e : at + (k - at) ≡ k = omega arith in
        subst (λ (m : ℕ). get_or (put_block s at block) m 0 < 256) e (rw (put_inside s at block (k - at) (room_of b l) (omega arith))
        (block_bytes f (k - at))))
        (λ q. away (λ w. omega (arith, w.1))) (lt_or k (at + 16))) (lt_or k at)

    pub put_kept : Same s (put_block s (place_of (read_head s) b) block)
    put_kept = record {
      whole = record { bytes = bytes_in_is; told = rw head_is z.told; long = rw head_is (long ∙ z.long) };
      head = head_is;
      front = λ k lk. put_outside s (place_of (read_head s) b) block k (λ w. omega (arith, w.0, blocks_behind_head (read_head s) b));
    }

    pub put_named : block_in (put_block s (place_of (read_head s) b) block) b ≡ block
    unfolding block_by
    put_named = rw head_is (same_block s (place_of (read_head s) b) block (fit_length f) (room_of b l))

    pub put_other : (a : ℕ) → a < blocks_of (read_head s) → a ≢ b → block_in (put_block s (place_of (read_head s) b) block) a ≡ block_in s a
    unfolding block_by
    put_other a la ne =
        rw head_is (other_block s (place_of (read_head s) b) (place_of (read_head s) a) block (room_of b l) (room_of a la)
        (blocks_apart (read_head s) b a l la (λ e. ne (sym e))))

put_again : (s : List ℕ) (b : ℕ) → place_of (read_head s) b + 16 ≤ length s → put_block s (place_of (read_head s) b) (block_in s b) ≡ s
unfolding block_by
put_again s b h = put_same s (place_of (read_head s) b) h

-- a byte of a block is a byte of the sheet
seen_in : {s x : List ℕ} → Same s x → (b j : ℕ) → j < 16 → get_or x (place_of (read_head s) b + j) 0 ≡ get_or (block_in x b) j 0
unfolding block_by
seen_in {s} {x} k b j l = sym (rw k.head (block_get x (place_of (read_head s) b) j l))

-- two sheets that are told apart by no block are one
pub same_sheet : {s t u : List ℕ} → Same s t → Same s u → ((b : ℕ) → b < blocks_of (read_head s) → block_in t b ≡ block_in u b) → t ≡ u
same_sheet {s} {t} {u} a b e =
    ext_get_or 0 t u (long_is a ∙ sym (long_is b)) (λ k l.
    ⊎_elim (λ f. a.front k f ∙ sym (b.front k f)) (λ f. in_block k f (omega (arith, long_is a, l))) (lt_or k (read_head s).start))
  where
    long_is : {x : List ℕ} → Same s x → length x ≡ (read_head s).start + 16 * blocks_of (read_head s)
    long_is k = rw k.head at k.whole.long

    in_block : (k : ℕ) → (read_head s).start ≤ k → k < (read_head s).start + 16 * blocks_of (read_head s) → get_or t k 0 ≡ get_or u k 0
    in_block k f l =
        let m = k - (read_head s).start in
        let p : m / 16 < blocks_of (read_head s) = omega arith in
        let n = number_at (read_head s) (m / 16) in
        let at : k ≡ place_of (read_head s) n + m % 16 = omega (arith, each_place (read_head s) (m / 16) p) in
        ap (λ (i : ℕ). get_or t i 0) at ∙ seen_in a n (m % 16) (omega arith)
        ∙ ap (λ (x : List ℕ). get_or x (m % 16) 0) (e n (numbered_in (read_head s) (m / 16) p))
        ∙ sym (seen_in b n (m % 16) (omega arith)) ∙ sym (ap (λ (i : ℕ). get_or u i 0) at)

-- A CALL ON A BLOCK, whatever it does there: `part c` is the block that c names, `there c` what it does there; of a block it is told `tell`,
-- and makes `act` of it. It is refused by the head, with 10, with 12, and then as the block says; accepted, it stores what it makes of the
-- block, and refused, it changes nothing
pub record Acting {C D : Type 0} (answer : List ℕ → C → ℕ) (after : List ℕ → C → List ℕ) (part : C → ℕ) (there : C → D) (tell : List ℕ → D → ℕ)
    (act : List ℕ → D → List ℕ) : Type 1 where
  pub answers : (s : List ℕ) (c : C)
      → Answers (answer s c) (find_rules (read_head s) s (part c) ++ (handed (tell (block_in s (part c)) (there c)) ∷ []))
  pub accepted : (s : List ℕ) (c : C) → answer s c ≡ 0 → after s c ≡ put_block s (place_of (read_head s) (part c)) (act (block_in s (part c)) (there c))
  pub refused : (s : List ℕ) (c : C) → answer s c ≢ 0 → after s c ≡ s
  pub stays : (bs : List ℕ) (d : D) → tell bs d ≢ 0 → act bs d ≡ bs
  pub fits : (bs : List ℕ) → Fit eights bs → (d : D) → Fit eights (act bs d)

module _ {C D : Type 0} {answer : List ℕ → C → ℕ} {after : List ℕ → C → List ℕ} {part : C → ℕ} {there : C → D} {tell : List ℕ → D → ℕ}
    {act : List ℕ → D → List ℕ} (a : Acting answer after part there tell act) where
  module _ (s : List ℕ) (z : WholeSheet s) (c : C) where
    pub beyond : blocks_of (read_head s) ≤ part c → answer s c ≡ 12
    beyond l = (exactly (a.answers s c) 12).1 (then z.told (then z.long (here (λ n. omega arith))))

    module _ (l : part c < blocks_of (read_head s)) where
      pub answered_as_block : answer s c ≡ tell (block_in s (part c)) (there c)
      answered_as_block = (exactly (a.answers s c) _).1 (then z.told (then z.long (then l (handed_last _))))

      pub with_is : after s c ≡ put_block s (place_of (read_head s) (part c)) (act (block_in s (part c)) (there c))
      with_is = ⊎_elim (λ e. a.accepted s c e) (λ p. left (λ q. omega arith)) (eq-zero-or-pos (answer s c))
        where
          left : answer s c ≢ 0 → after s c ≡ put_block s (place_of (read_head s) (part c)) (act (block_in s (part c)) (there c))
          left ne =
              a.refused s c ne ∙ sym (put_again s (part c) (room_of s z (part c) l))
              ∙ ap (put_block s (place_of (read_head s) (part c)))
              (sym (a.stays (block_in s (part c)) (there c) (λ e. ne (answered_as_block ∙ e))))

    left_beyond : blocks_of (read_head s) ≤ part c → after s c ≡ s
    left_beyond l = a.refused s c (λ e. omega (arith, e, beyond l))

    made_fits : part c < blocks_of (read_head s) → Fit eights (act (block_in s (part c)) (there c))
    made_fits l = a.fits (block_in s (part c)) (sixteen s z (part c) l) (there c)

    pub with_kept : Same s (after s c)
    with_kept =
        ⊎_elim (λ l. subst (Same s) (sym (with_is l)) (put_kept s z (part c) l _ (made_fits l)))
        (λ l. subst (Same s) (sym (left_beyond l)) (same_here z)) (lt_or (part c) (blocks_of (read_head s)))

    pub with_named : (b : ℕ) → b < blocks_of (read_head s) → part c ≡ b → block_in (after s c) b ≡ act (block_in s b) (there c)
    with_named b l e =
        let l' : part c < blocks_of (read_head s) = rw e l in
        subst (λ (x : ℕ). block_in (after s c) x ≡ act (block_in s x) (there c)) e
        (ap (λ (t : List ℕ). block_in t (part c)) (with_is l') ∙ put_named s z (part c) l' _ (made_fits l'))

    pub with_other : (b : ℕ) → b < blocks_of (read_head s) → part c ≢ b → block_in (after s c) b ≡ block_in s b
    with_other b l ne =
        ⊎_elim (λ lc. ap (λ (t : List ℕ). block_in t b) (with_is lc)
        ∙ put_other s z (part c) lc _ (made_fits lc) b l (λ e. ne (sym e)))
        (λ lc. ap (λ (t : List ℕ). block_in t b) (left_beyond lc)) (lt_or (part c) (blocks_of (read_head s)))

  -- whatever the sheet and the call: the length stays, and every byte that isn't one of the named block's sixteen
  pub others_stay : (s : List ℕ) (c : C) → (length (after s c) ≡ length s)
      × ((k : ℕ) → ((place_of (read_head s) (part c) ≤ k) × (k < place_of (read_head s) (part c) + 16) → ⊥) → get_or (after s c) k 0 ≡ get_or s k 0)
  others_stay s c = ⊎_elim taken (λ p. left (λ q. omega arith)) (eq-zero-or-pos (answer s c))
    where
      taken : answer s c ≡ 0 → (length (after s c) ≡ length s)
          × ((k : ℕ) → ((place_of (read_head s) (part c) ≤ k) × (k < place_of (read_head s) (part c) + 16) → ⊥) → get_or (after s c) k 0 ≡ get_or s k 0)
      taken e = let p = a.accepted s c e in (ap length p ∙ put_long s _ _, λ k n. ap (λ (t : List ℕ). get_or t k 0) p ∙ put_outside s _ _ k n)

      left : answer s c ≢ 0 → (length (after s c) ≡ length s)
          × ((k : ℕ) → ((place_of (read_head s) (part c) ≤ k) × (k < place_of (read_head s) (part c) + 16) → ⊥) → get_or (after s c) k 0 ≡ get_or s k 0)
      left ne = let p = a.refused s c ne in (ap length p, λ k n. ap (λ (t : List ℕ). get_or t k 0) p)

  -- a whole sheet is a state whose parts are its blocks
  pub parts : (s : List ℕ) → WholeSheet s → Parts after act part there (Same s) block_in (λ b. b < blocks_of (read_head s))
  parts s z = record {
    good = λ t c k. same_on k (with_kept t k.whole c);
    named = λ t c b k l e. with_named t k.whole c b (rw k.head l) e;
    other = λ t c b k l n. with_other t k.whole c b (rw k.head l) n;
    whole = λ t u k j e. same_sheet k j e;
  }

  pub all_kept : (cs : List C) (s : List ℕ) → WholeSheet s → Same s (run after s cs)
  all_kept cs s z = run_good after (Same s) (parts s z).good cs s (same_here z)

  pub all_block : (cs : List C) (s : List ℕ) → WholeSheet s → (b : ℕ) → b < blocks_of (read_head s) → block_in (run after s cs) b
      ≡ run act (block_in s b) (calls_on part there b cs)
  all_block cs s z b l = part_run (parts s z) cs s b (same_here z) l

  -- a sheet is whole, or every call on it is refused
  pub whole_or : (s : List ℕ) → Bytes s → WholeSheet s ⊎ ((c : C) → answer s c ≢ 0)
  whole_or s y =
      ⊎_elim (λ e. sized e (ℕ_discrete (length s) ((read_head s).start + 16 * blocks_of (read_head s))))
      (λ e. inr (λ c q. let z : ⊥ = omega (arith, ((a.answers s c).met q).0) in z)) (eq-zero-or-pos (read_head s).refusal)
    where
      sized : (read_head s).refusal ≡ 0 → Dec (length s ≡ (read_head s).start + 16 * blocks_of (read_head s)) → WholeSheet s ⊎ ((c : C) → answer s c ≢ 0)
      sized e (yes l) = inl (record { bytes = y; told = e; long = l })
      sized e (no n) = inr (λ c q. n ((a.answers s c).met q).1.0)

  pub none_changes : (s : List ℕ) → ((c : C) → answer s c ≢ 0) → (cs : List C) → run after s cs ≡ s
  unfolding run
  none_changes s never [] = refl
  none_changes s never (c ∷ cs) = ap (λ (t : List ℕ). run after t cs) (a.refused s c (never c)) ∙ none_changes s never cs
