-- A line that is read: put in again, and read after a call on it or on another line.
-- Assumes nothing.
use mathlib.Core.Path.{◌≡◌, refl, sym, ap, ap₂, ◌∙◌}
use mathlib.Core.Logic.{◌≢◌}
use mathlib.Core.Bool.{Bool, true, false}
use mathlib.Core.List.{List, []}
use Prim.Native.Nat.{ℕ, ◌+◌, ◌-◌, ◌*◌, ◌/◌, ◌%◌, ◌^◌, ◌<◌}
use native.Mathlib.Nat.{lt_of_lt_of_le, mod-lt}
use native.Mathlib.Omega.{arith}
use borrow.Author.Tests.{eq-eqb, lt-leb, ne_eqb}
use lib.Dec.{T, eqb, ltb, ltb→lt, lit<}
use lib.ListN.{length, get_or}
use lib.Pow.{pow_mono, pow_pos}
use Rattle.bc7_format.specs.declared.Place.{Place}
use Rattle.bc7_format.specs.declared.Place.TheVariants.{Lead, Value, PBit, Index}
use Rattle.line_rules.specs.declared.Replacement.{Replacement}
use Rattle.line_rules.specs.declared.LineRead.{LineRead}
use Rattle.refusals.specs.Answers.{Answer}
use Rattle.bc7_format.specs.declared.Split.{Split}
use Rattle.laws.specs.Digits.{Fit}
use Rattle.laws.specs.Tables.{pick, table}
use Rattle.laws.proofs.Cases.{pick_lt}
use Rattle.laws.proofs.Joining.{table_same}
use Rattle.laws.proofs.Part.{get_d_table, part_all}
use Rattle.laws.proofs.Refusals.{Answers, accepted_when, answers, by_not_ltb, none, rule}
use Rattle.laws.proofs.Tests.{T_true, both_left, both_right, no_both, not_so}
use Rattle.bcn_format.specs.Block.{eights}
use Rattle.bc7_format.specs.Modes.{mode_of, lines}
use Rattle.bc7_format.specs.Lines.{Line, anchor_of, draws, has, index_place, laid, line_bits, line_of, means_shown, own, p_place, pixel, rotated, shown}
use Rattle.bc7_format.specs.Lines.{turned, value_place, with_line}
use Rattle.bcn_format.specs.Partitions.{among}
use Rattle.bc7_format.specs.Places.{inside, opened, width}
use Rattle.bc7_format.specs.Splits.{anchors, rotation, split_of}
use Rattle.bc7_format.specs.WellFormed.{WellFormed}
use Rattle.bc7_format.proofs.Lens.{has_lead, has_one, has_parts, line_from}
use Rattle.bc7_format.proofs.Meaning.{good_rotation, laid_index, laid_p, laid_value, means_ext, rotated_lt}
use Rattle.bc7_format.proofs.Modes.{anchor_is, anchor_lt, good_64, lines_le}
use Rattle.bc7_format.proofs.Opening.{block_ext, block_opened, opened_good}
use Rattle.bc7_format.proofs.Places.{width_le}
use Rattle.bc7_format.proofs.Reserved.{open_mode, reserved_mode}
use Rattle.line_rules.specs.Acceptable.{Acceptable, OwnWidths}
use Rattle.line_rules.specs.Read.{given_as, line_read, read_as, read_refusal, read_rules, turned_in, widths_of}
use Rattle.line_rules.specs.Replace.{Call, after, call_of, line_given, oriented, own_width, put, refusal, replaced, replaced_as, top_set}
use Rattle.line_rules.proofs.Accepting.{accepted_is, on_block_is, open_is}
use Rattle.line_rules.proofs.Blocks.{accepted_open, after_mode, after_sixteen, after_split, given_drawn, places_kept, places_stored}
use Rattle.line_rules.proofs.Draws.{drawn_by}
use Rattle.line_rules.proofs.Given.{same_oriented}
use Rattle.line_rules.proofs.Own.{no_width}
use Rattle.line_rules.proofs.OwnWidths.{own_widths}
use Rattle.line_rules.proofs.Put.{has_index_set, own_pbit, own_value}

-- two lines of which a replacement says the same
pub record Agree (a b : Line) : Type 0 where
  pub value : (k c : ℕ) → k < 2 → c < 4 → a.value k c ≡ b.value k c
  pub p : (k : ℕ) → k < 2 → a.p k ≡ b.p k
  pub index : (q : ℕ) → q < 16 → a.index q ≡ b.index q

given_ext : (a b : Line) → Agree a b → given_as a ≡ given_as b
unfolding given_as
given_ext a b h =
    let e : table 8 (λ i. a.value (i / 4) (i % 4)) ≡ table 8 (λ i. b.value (i / 4) (i % 4)) =
    table_same 0 8 _ _ (λ i l. h.value (i / 4) (i % 4) (omega arith) (mod-lt i (lit< tt))) in
    let p : table 2 a.p ≡ table 2 b.p = table_same 0 2 _ _ h.p in
    let x : table 16 a.index ≡ table 16 b.index = table_same 0 16 _ _ h.index in
    λ j. record { endpoints = e j; p = p j; indexes = x j }

-- a line that a replacement gives is that line, and what a replacement gives is the replacement
pub given_line : (ln : Line) → Agree (line_given (given_as ln)) ln
unfolding line_given given_as
given_line ln = record {
  value = λ k c hk hc.
      get_d_table 8 (λ i. ln.value (i / 4) (i % 4)) 0 (4 * k + c) (omega arith)
      ∙ ap₂ ln.value (let z : (4 * k + c) / 4 ≡ k = omega arith in z) (let z : (4 * k + c) % 4 ≡ c = omega arith in z);
  p = λ k hk. get_d_table 2 ln.p 0 k hk;
  index = λ q hq. get_d_table 16 ln.index 0 q hq;
}

pub given_back : (g : Replacement) → length g.endpoints ≡ 8 → length g.p ≡ 2 → length g.indexes ≡ 16 → g ≡ given_as (line_given g)
unfolding given_as line_given
given_back g he hp hi =
    let e : g.endpoints ≡ table 8 (λ i. get_or g.endpoints (4 * (i / 4) + i % 4) 0) =
    by_elements 8 g.endpoints _ he (λ i l. ap (λ (j : ℕ). get_or g.endpoints j 0) (let z : i ≡ 4 * (i / 4) + i % 4 = omega arith in z)) in
    let p : g.p ≡ table 2 (λ k. get_or g.p k 0) = by_elements 2 g.p _ hp (λ i l. refl) in
    let x : g.indexes ≡ table 16 (λ q. get_or g.indexes q 0) = by_elements 16 g.indexes _ hi (λ i l. refl) in
    λ j. record { endpoints = e j; p = p j; indexes = x j }
  where
    by_elements : (n : ℕ) (vs : List ℕ) (f : ℕ → ℕ) → length vs ≡ n → ((i : ℕ) → i < n → get_or vs i 0 ≡ f i) → vs ≡ table n f
    by_elements n vs f e h = part_all {d = 0} {P = λ k. Unit {0}} (record { long = e; done = λ k l t. h k l }) (λ k l. tt)

laid_same : (m : ℕ) (a b : Line) → Agree a b → (x : Place) → T (inside x) → laid m a x ≡ laid m b x
unfolding laid
laid_same m a b h (Lead k) i = refl
laid_same m a b h (Value c e) i = h.value (e % 2) c (mod-lt e (lit< tt)) (ltb→lt c 4 (both_left (ltb c 4) (ltb e 6) i))
laid_same m a b h (PBit k) i = h.p _ (pick_lt (eqb m 1) 0 (k % 2) 2 (lit< tt) (mod-lt k (lit< tt)))
laid_same m a b h (Index a' q) i = h.index q (ltb→lt q 16 (both_right (ltb a' 2) (ltb q 16) i))

-- GET, then SET: what a line has is what stands at its places
module _ {m : ℕ} {s : Split} {f : Place → ℕ} (g : WellFormed m s f) (l : ℕ) (hl : l < lines m) where
  own_is : (x : Place) → has m s l x ≡ true → own m s l f x ≡ f x
  unfolding own
  own_is x h = rw h

  laid_own : (x : Place) → has m s l x ≡ true → laid m (line_of m s l f) x ≡ f x
  unfolding laid line_of index_place
  laid_own (Lead k) h = absurd (no_both h (has_lead m s l k (omega (arith, lines_le m g.mode))))
  laid_own (Value c e) h = ap (own m s l f) (own_value g l c e h) ∙ own_is (Value c e) h
  laid_own (PBit k) h = ap (own m s l f) (own_pbit m s l k h) ∙ own_is (PBit k) h
  laid_own (Index a q) h = ap (λ (j : ℕ). own m s l f (Index j q)) (sym (has_index_set g l a q h)) ∙ own_is (Index a q) h

  -- what is read fits, and needs no turn
  own_fits : (x : Place) → own m s l f x < 2 ^ own_width m s l x
  unfolding own own_width
  own_fits x = go (has m s l x) refl
    where
      go : (b : Bool) → has m s l x ≡ b → pick b (f x) 0 < 2 ^ pick b (width m [] x) 0
      go true h = lt_of_lt_of_le (g.fits x (has_parts m s l x h).0) (pow_mono (width_le m (anchors s) x))
      go false h = lit< tt

  own_anchor : own m s l f (index_place s l (anchor_of s l)) < 2 ^ (line_bits m s l - 1)
  unfolding own index_place width line_bits
  own_anchor = go (has m s l x) refl
    where
      x : Place
      x = index_place s l (anchor_of s l)

      go : (b : Bool) → has m s l x ≡ b → pick b (f x) 0 < 2 ^ (line_bits m s l - 1)
      go true h = rw (T_true (among (anchor_of s l) (anchors s)) (anchor_is s l)) at (g.fits x (has_parts m s l x h).0)
      go false h = pow_pos (line_bits m s l - 1)

  abbrev read : Line
  read = line_given (given_as (line_of m s l f))

  agrees : Agree read (line_of m s l f)
  agrees = given_line (line_of m s l f)

  read_acceptable : Acceptable m s l read
  unfolding line_of p_place
  read_acceptable = record {
    line = hl;
    within = record {
      value = λ k c hk hc. rw (agrees.value k c hk hc) (own_fits (value_place s l k c));
      p = λ k hk. rw (agrees.p k hk) (own_fits (p_place m l k));
      index = λ q hq. rw (agrees.index q hq) (own_fits (index_place s l q));
    };
    same_p =
        λ e. agrees.p 0 (lit< tt) ∙ ap (λ (b : Bool). own m s l f (PBit (pick b l (2 * l + 0)))) (eq-eqb m 1 e)
        ∙ sym (ap (λ (b : Bool). own m s l f (PBit (pick b l (2 * l + 1)))) (eq-eqb m 1 e)) ∙ sym (agrees.p 1 (lit< tt));
  }

  read_unturned : top_set m s l read ≡ false
  unfolding line_of
  read_unturned =
      lt-leb (2 ^ (line_bits m s l - 1)) (read.index (anchor_of s l))
      (rw (agrees.index (anchor_of s l) (anchor_lt s l (good_64 g) (omega (arith, lines_le m g.mode)))) own_anchor)

  put_read : (x : Place) → T (inside x) → put m s l read f x ≡ f x
  unfolding put with_line oriented
  put_read x i = rw read_unturned (go (has m s l x) refl)
    where
      go : (b : Bool) → has m s l x ≡ b → pick b (laid m read x) (f x) ≡ f x
      go true h = laid_same m read (line_of m s l f) agrees x i ∙ laid_own x h
      go false h = refl

-- which readings are refused, and what the others answer
pub read_answers : (bs : List ℕ) → Fit eights bs → (l : ℕ) → Answers (read_refusal bs l) (read_rules bs l)
unfolding read_refusal
read_answers bs sixteen l = answers (rule (open_is bs sixteen) λ o. rule (by_not_ltb tt l (lines (mode_of bs))) λ h. none)

pub read_is : (bs : List ℕ) (l : ℕ) → read_refusal bs l ≡ 0
    → line_read bs l ≡ read_as 0 (line_of (mode_of bs) (split_of bs) l (opened bs)) (widths_of (mode_of bs) (split_of bs) l)
unfolding line_read
read_is bs l e = rw (eq-eqb (read_refusal bs l) 0 e, e)

pub refusal_is : (bs : List ℕ) (l : ℕ) → (line_read bs l).refusal ≡ read_refusal bs l
unfolding line_read
refusal_is bs l = refl

module _ (bs : List ℕ) (sixteen : Fit eights bs) where
  module _ (l : ℕ) (ok : read_refusal bs l ≡ 0) where
    open_mode_is : mode_of bs < 8
    open_mode_is = open_mode bs sixteen ((accepted_when (read_answers bs sixteen l)).0 ok).0

    good : WellFormed (mode_of bs) (split_of bs) (opened bs)
    good = opened_good bs sixteen open_mode_is

    line_there : l < lines (mode_of bs)
    line_there = ((accepted_when (read_answers bs sixteen l)).0 ok).1.0

    line_is : line_given (line_read bs l).value.line ≡ line_given (given_as (line_of (mode_of bs) (split_of bs) l (opened bs)))
    line_is = ap (λ (r : Answer LineRead). line_given r.value.line) (read_is bs l ok)

    -- what is read may be put in again: it is not turned, and the block is as it was
    pub replaced_by_read : replaced bs l (line_read bs l).value.line ≡ replaced_as 0 bs
    unfolding replaced after
    replaced_by_read =
        let c : Call = call_of l (line_read bs l).value.line in
        let a = read_acceptable good l line_there in
        let e : refusal bs c ≡ 0 =
        rw line_is
        ((accepted_when (on_block_is bs sixteen (call_of l _))).1
        (((accepted_when (read_answers bs sixteen l)).0 ok).0, (a.line, (a.within, (a.same_p, tt))))) in
        rw (e, line_is)
        (ap (replaced_as 0) (block_ext (mode_of bs) (split_of bs) _ (opened bs) (put_read good l line_there) ∙ block_opened bs sixteen open_mode_is))

    pub read_not_turned : top_set (mode_of bs) (split_of bs) l (line_given (line_read bs l).value.line) ≡ false
    read_not_turned = rw line_is (read_unturned good l line_there)

    -- it draws what the block shows
    pub read_drawn : (q ch : ℕ) → q < 16 → ch < 4 → draws (mode_of bs) (split_of bs) l q ch ≡ true
        → means_shown (mode_of bs) (split_of bs) l (line_given (line_read bs l).value.line) q ch ≡ pixel bs q ch
    unfolding pixel shown means_shown
    read_drawn q ch hq hc dr =
        let p = drawn_by (mode_of bs) (split_of bs) l q ch dr in
        let a = given_line (line_of (mode_of bs) (split_of bs) l (opened bs)) in
        rw (line_is, ne_eqb (mode_of bs) 8 (λ z. let y : ⊥ = omega (arith, open_mode_is) in y), p.0, p.1)
        (means_ext (mode_of bs) (split_of bs) l _ _ q (rotated (rotation (split_of bs)) ch)
        (λ k hk. a.value k _ hk (rotated_lt _ ch (good_rotation good) hc)) (λ n k hk. a.p k hk) (a.index q hq))

module _ (bs : List ℕ) (sixteen : Fit eights bs) where
  -- after a call on another line a line reads as before
  pub other_read : (c : Call) (l : ℕ) → c.line ≢ l → line_read (after bs c) l ≡ line_read bs l
  unfolding line_read read_refusal own
  other_read c l n =
      rw (after_mode bs sixteen c, after_split bs sixteen c, line_from (mode_of bs) (split_of bs) l (opened (after bs c)) (opened bs) same)
    where
      same : (x : Place) → own (mode_of bs) (split_of bs) l (opened (after bs c)) x ≡ own (mode_of bs) (split_of bs) l (opened bs) x
      same x = go (has (mode_of bs) (split_of bs) l x) refl
        where
          go : (b : Bool) → has (mode_of bs) (split_of bs) l x ≡ b → pick b (opened (after bs c) x) 0 ≡ pick b (opened bs x) 0
          go true h =
              places_kept bs sixteen c x (has_parts (mode_of bs) (split_of bs) l x h).0
              (not_so _ (λ t. has_one (mode_of bs) (split_of bs) c.line l x n t h))
          go false h = refl

  -- after an accepted call its line reads as it was given, or turned round where the index at its anchor had its top bit set
  module _ (c : Call) (e : refusal bs c ≡ 0) where
    abbrev m : ℕ
    m = mode_of bs

    abbrev s : Split
    s = split_of bs

    abbrev l : ℕ
    l = c.line

    a : Acceptable m s l c.given
    unfolding refusal
    a = accepted_is m s l c.given e

    ws : OwnWidths m s l
    ws = own_widths (opened_good bs sixteen (accepted_open bs c e)) l a.line

    -- what the line hasn't got was given as zero
    nothing : {v w : ℕ} → v < 2 ^ w → w ≡ 0 → v ≡ 0
    nothing {v} b z = let y : v < 1 = rw z at b in let x : v ≡ 0 = omega arith in x

    no_value : (k j ch : ℕ) → k < 2 → j < 2 → ch < 4 → has m s l (value_place s l k ch) ≡ false → c.given.value j ch ≡ 0
    no_value k j ch hk hj hc h = nothing (a.within.value j ch hj hc) (ws.value j ch hj hc ∙ sym (ws.value k ch hk hc) ∙ no_width m s l _ h)

    no_p : (k j : ℕ) → k < 2 → j < 2 → has m s l (p_place m l k) ≡ false → c.given.p j ≡ 0
    no_p k j hk hj h = nothing (a.within.p j hj) (ws.p j hj ∙ sym (ws.p k hk) ∙ no_width m s l _ h)

    no_index : (q : ℕ) → q < 16 → has m s l (index_place s l q) ≡ false → c.given.index q ≡ 0
    no_index q hq h = nothing (a.within.index q hq) (no_width m s l _ h)

    -- what is read is what was laid there
    stored : (x : Place) {v : ℕ} → (has m s l x ≡ true → laid m (oriented m s l c.given) x ≡ v) → (has m s l x ≡ false → v ≡ 0)
        → own m s l (opened (after bs c)) x ≡ v
    unfolding own
    stored x {v} put none = go (has m s l x) refl
      where
        go : (b : Bool) → has m s l x ≡ b → pick b (opened (after bs c) x) 0 ≡ v
        go true h = places_stored bs sixteen c x e (has_parts m s l x h).0 h ∙ put h
        go false h = sym (none h)

    read_back : Agree (line_of m s l (opened (after bs c))) (pick (top_set m s l c.given) (turned_in m s l c.given) c.given)
    unfolding line_of oriented turned_in turned
    read_back = go (top_set m s l c.given) refl
      where
        go : (b : Bool) → top_set m s l c.given ≡ b → Agree (line_of m s l (opened (after bs c))) (pick b (turned_in m s l c.given) c.given)
        go true t = record {
          value = λ k ch hk hc. stored (value_place s l k ch) (λ h. laid_value m s l _ k ch hk ∙ rw t) (no_value k (1 - k) ch hk (omega arith) hc);
          p =
              λ k hk. stored (p_place m l k) (λ h. laid_p m l _ k hk (λ z. same_oriented m s l c.given (a.same_p z)) ∙ rw t)
              (no_p k (1 - k) hk (omega arith));
          index = λ q hq. stored (index_place s l q) (λ h. laid_index m s l _ q ∙ rw (t, h)) (λ h. rw h);
        }
        go false t = record {
          value = λ k ch hk hc. stored (value_place s l k ch) (λ h. laid_value m s l _ k ch hk ∙ rw t) (no_value k k ch hk hk hc);
          p = λ k hk. stored (p_place m l k) (λ h. laid_p m l _ k hk (λ z. same_oriented m s l c.given (a.same_p z)) ∙ rw t) (no_p k k hk hk);
          index = λ q hq. stored (index_place s l q) (λ h. laid_index m s l _ q ∙ rw t) (no_index q hq);
        }

    -- the reading isn't refused
    pub read_after : read_refusal (after bs c) l ≡ 0
    read_after =
        (accepted_when (read_answers (after bs c) (after_sixteen bs sixteen c) l)).1 (
          (λ z. let y : ⊥ = omega (arith, after_mode bs sixteen c, accepted_open bs c e, reserved_mode (after bs c) z) in y),
          (rw (after_mode bs sixteen c) a.line, tt),
        )

    pub put_is_read : (line_read (after bs c) l).value.line ≡ given_as (pick (top_set m s l c.given) (turned_in m s l c.given) c.given)
    put_is_read =
        ap (λ (r : Answer LineRead). r.value.line) (read_is (after bs c) l read_after)
        ∙ rw (after_mode bs sixteen c, after_split bs sixteen c) (given_ext _ _ read_back)

    pub put_draws : (q ch : ℕ) → q < 16 → ch < 4 → draws m s l q ch ≡ true
        → means_shown m s l (line_given (line_read (after bs c) l).value.line) q ch ≡ means_shown m s l c.given q ch
    put_draws q ch hq hc dr =
        let d : draws (mode_of (after bs c)) (split_of (after bs c)) l q ch ≡ true = rw (after_mode bs sixteen c, after_split bs sixteen c) dr in
        (rw (after_mode bs sixteen c, after_split bs sixteen c) at (read_drawn (after bs c) (after_sixteen bs sixteen c) l read_after q ch hq hc d))
        ∙ given_drawn bs sixteen c q ch e hq hc dr
