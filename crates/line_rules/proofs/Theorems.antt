-- DEMAND 3: WHAT IS PROVED of replacing lines and of reading them, in one place. `Fit eights bs` says that bs is sixteen bytes.
-- Assumes nothing.
use mathlib.Core.Path.{◌≡◌, sym, ap, ◌∙◌}
use mathlib.Core.Logic.{◌≢◌, ◌↔◌}
use mathlib.Core.Bool.{true, false}
use mathlib.Core.List.{List, ◌∷◌, ◌++◌}
use Prim.Native.Nat.{ℕ, ◌<◌}
use lib.Dec.{T}
use lib.ListN.{length, get_or}
use Rattle.bc7_format.specs.declared.Place.{Place}
use Rattle.bc7_format.proofs.FullAlpha.{full_alpha}
use Rattle.line_rules.specs.declared.Replacement.{Replacement}
use Rattle.std.specs.Prelude.{Result}
use Rattle.refusals.specs.declared.Refusal.{Refusal}
use Rattle.refusals.proofs.Answers.{answer_fixes}
use Rattle.line_rules.specs.declared.LineRead.{LineRead}
use Rattle.laws.specs.Digits.{Fit}
use Rattle.laws.specs.Refusals.{Given}
use Rattle.laws.proofs.Refusals.{accepted_when as met_when, exactly}
use Rattle.laws.proofs.calls.Trading.{inside as inside_list}
use Rattle.bcn_format.specs.Block.{eights}
use Rattle.bc7_format.specs.Modes.{mode_of, lines}
use Rattle.bc7_format.specs.Lines.{draws, has, laid, means_shown, pixel, pixels}
use Rattle.bcn_format.specs.Partitions.{among}
use Rattle.bc7_format.specs.Places.{inside, opened}
use Rattle.bc7_format.specs.Splits.{split_of}
use Rattle.bc7_format.proofs.Opening.{opened_good}
use Rattle.bc7_format.proofs.Reserved.{open_mode, reserved_mode, zero_byte}
use Rattle.line_rules.specs.Acceptable.{Acceptable, OwnWidths, call_rules}
use Rattle.line_rules.specs.Calls.{after_all, last, last_of_each, seen}
use Rattle.line_rules.specs.Read.{TooWide, given_as, line_read, lines_as, no_line, read_rules, turned_in}
use Rattle.line_rules.specs.Replace.{Call, after, call_of, line_given, oriented, refusal, replaced, replaced_as, top_set}
use Rattle.line_rules.proofs.Accepting.{on_block_is}
use Rattle.line_rules.proofs.Blocks.{after_mode, after_sixteen, after_split, given_drawn, others_kept, places_kept, places_stored}
use Rattle.line_rules.proofs.Blocks.{same_refusal, unchanged}
use Rattle.line_rules.proofs.Draws.{drawn_by_one}
use Rattle.line_rules.proofs.OwnWidths.{own_widths}
use Rattle.line_rules.proofs.Reading.{given_back, other_read, put_draws, put_is_read, read_after, read_answers, read_drawn, read_not_turned}
use Rattle.line_rules.proofs.Reading.{replaced_by_read}
use Rattle.line_rules.proofs.Sequences.{all_stays, bytes_trade, first_stays, lasts, same_lasts, sequence_draws, trading}
use Rattle.line_rules.proofs.TooWide.{refused_with_3}
use Rattle.line_rules.specs.Promises.{ReadsLine, ReadsReplacement, Replaces, WritesReplacement}

-- a call is accepted exactly when the first byte isn't zero, the line number is below the mode's count, every value is within
-- the width that it has in that line, and in mode 1 the p bits are equal
pub accepted_when : (bs : List ℕ) → Fit eights bs → (c : Call)
    → (refusal bs c ≡ 0) ↔ ((get_or bs 0 0 ≢ 0) × Acceptable (mode_of bs) (split_of bs) c.line c.given)
accepted_when bs h c =
    let a = met_when (on_block_is bs h c) in (
      λ e. let (n, (l, (w, (p, u)))) = a.0 e in (n, record { line = l; within = w; same_p = p }),
      λ x. a.1 (x.0, (x.1.line, (x.1.within, (x.1.same_p, tt)))),
    )

-- those widths are, in a block whose first byte isn't zero
pub the_widths : (bs : List ℕ) → Fit eights bs → get_or bs 0 0 ≢ 0 → (l : ℕ) → l < lines (mode_of bs) → OwnWidths (mode_of bs) (split_of bs) l
the_widths bs h n l hl = own_widths (opened_good bs h (open_mode bs h n)) l hl

-- each refusal number is given exactly when document 01 says (`call_rules` has the words)
pub refused_when : (bs : List ℕ) → Fit eights bs → (c : Call) (n : ℕ) → (refusal bs c ≡ n) ↔ Given (call_rules bs c) n
refused_when bs h c = exactly (on_block_is bs h c)

-- after an accepted call, whatever the line draws is what the given endpoints, p bits and full indexes mean, turned or not
pub accepted_draws : (bs : List ℕ) → Fit eights bs → (c : Call) (q ch : ℕ) → q < 16 → ch < 4 → refusal bs c ≡ 0
    → draws (mode_of bs) (split_of bs) c.line q ch ≡ true → pixel (after bs c) q ch ≡ means_shown (mode_of bs) (split_of bs) c.line c.given q ch
accepted_draws bs h c q ch hq hc e d = given_drawn bs h c q ch e hq hc d

-- it stores, at every place that the line has, the line as it is given, or turned round where the index at its anchor has its top
-- bit set (`oriented`), also where both endpoints are equal
pub stored_as_oriented : (bs : List ℕ) → Fit eights bs → (c : Call) (x : Place) → refusal bs c ≡ 0 → T (inside x)
    → has (mode_of bs) (split_of bs) c.line x ≡ true
    → opened (after bs c) x ≡ laid (mode_of bs) (oriented (mode_of bs) (split_of bs) c.line c.given) x
stored_as_oriented = places_stored

-- and nothing else in the block changes: what stands at a place that the line hasn't got is what stood there
pub nothing_else_changes : (bs : List ℕ) → Fit eights bs → (c : Call) (x : Place) → T (inside x) → has (mode_of bs) (split_of bs) c.line x ≡ false
    → opened (after bs c) x ≡ opened bs x
nothing_else_changes = places_kept

-- what a call leaves as it was: every channel that its line doesn't draw, so those of the other lines and the alpha of the
-- modes 0 to 3; the mode; the partition, or the rotation and the index mode
pub record Kept (bs : List ℕ) (c : Call) : Type 0 where
  pub channels : (q ch : ℕ) → draws (mode_of bs) (split_of bs) c.line q ch ≡ false → pixel (after bs c) q ch ≡ pixel bs q ch
  pub others : (k q ch : ℕ) → k ≢ c.line → draws (mode_of bs) (split_of bs) k q ch ≡ true → pixel (after bs c) q ch ≡ pixel bs q ch
  pub alpha : (q : ℕ) → mode_of bs < 4 → (pixel bs q 3 ≡ 255) × (pixel (after bs c) q 3 ≡ 255)
  pub mode : mode_of (after bs c) ≡ mode_of bs
  pub split : split_of (after bs c) ≡ split_of bs

pub others_keep : (bs : List ℕ) → Fit eights bs → (c : Call) → Kept bs c
others_keep bs h c = record {
  channels = others_kept bs h c;
  others = λ k q ch n d. others_kept bs h c q ch (drawn_by_one (mode_of bs) (split_of bs) k c.line q ch n d);
  alpha = λ q l. (full_alpha bs h q l, full_alpha (after bs c) (after_sixteen bs h c) q (rw (after_mode bs h c) l));
  mode = after_mode bs h c;
  split = after_split bs h c;
}

-- a refused call changes nothing
pub refused_same : (bs : List ℕ) (c : Call) → refusal bs c ≢ 0 → after bs c ≡ bs
refused_same = unchanged

-- what a call is answered goes by the first block's mode and split alone, whatever calls came before it
pub same_answer : (a bs : List ℕ) → Fit eights bs → mode_of a ≡ mode_of bs → split_of a ≡ split_of bs → (cs : List Call) (d : Call)
    → refusal (after_all bs cs) d ≡ refusal a d
unfolding refusal
same_answer a bs h em es cs d = rw ((all_stays cs bs h).mode, (all_stays cs bs h).split, em, es)

-- the first byte stays nonzero, so all this holds again at every step
pub first_byte_stays : (bs : List ℕ) → Fit eights bs → (cs : List Call)
    → Fit eights (after_all bs cs) × ((get_or (after_all bs cs) 0 0 ≡ 0) ↔ (get_or bs 0 0 ≡ 0))
first_byte_stays bs h cs = (
  (all_stays cs bs h).sixteen,
  (
    λ z. zero_byte bs h (sym (all_stays cs bs h).mode ∙ reserved_mode (after_all bs cs) z),
    λ z. zero_byte (after_all bs cs)
        (all_stays cs bs h).sixteen ((all_stays cs bs h).mode ∙ reserved_mode bs z),
  ),
)

-- two neighbouring calls that name different lines: the same answers in either order, equal final bytes, and either order draws
-- the same pixels: what each call means, wherever its line draws, and elsewhere what was there
pub record Traded (bs : List ℕ) (c d : Call) : Type 0 where
  pub first : refusal (after bs d) c ≡ refusal bs c
  pub second : refusal (after bs c) d ≡ refusal bs d
  pub bytes : after (after bs c) d ≡ after (after bs d) c
  pub drawn : pixels (after (after bs c) d) ≡ pixels (after (after bs d) c)
  pub first_seen : (q ch : ℕ) → q < 16 → ch < 4 → refusal bs c ≡ 0 → draws (mode_of bs) (split_of bs) c.line q ch ≡ true
      → pixel (after (after bs c) d) q ch ≡ means_shown (mode_of bs) (split_of bs) c.line c.given q ch
  pub second_seen : (q ch : ℕ) → q < 16 → ch < 4 → refusal bs d ≡ 0 → draws (mode_of bs) (split_of bs) d.line q ch ≡ true
      → pixel (after (after bs c) d) q ch ≡ means_shown (mode_of bs) (split_of bs) d.line d.given q ch
  pub rest : (q ch : ℕ) → draws (mode_of bs) (split_of bs) c.line q ch ≡ false → draws (mode_of bs) (split_of bs) d.line q ch ≡ false
      → pixel (after (after bs c) d) q ch ≡ pixel bs q ch

kept_twice : (bs : List ℕ) → Fit eights bs → (c d : Call) (q ch : ℕ) → draws (mode_of bs) (split_of bs) d.line q ch ≡ false
    → pixel (after (after bs c) d) q ch ≡ pixel (after bs c) q ch
kept_twice bs h c d q ch n = others_kept (after bs c) (after_sixteen bs h c) d q ch (rw (after_mode bs h c, after_split bs h c) n)

seen_first : (bs : List ℕ) → Fit eights bs → (c d : Call) → c.line ≢ d.line → (q ch : ℕ) → q < 16 → ch < 4 → refusal bs c ≡ 0
    → draws (mode_of bs) (split_of bs) c.line q ch ≡ true
    → pixel (after (after bs c) d) q ch ≡ means_shown (mode_of bs) (split_of bs) c.line c.given q ch
seen_first bs h c d n q ch hq hc e z =
    kept_twice bs h c d q ch (drawn_by_one (mode_of bs) (split_of bs) c.line d.line q ch n z) ∙ accepted_draws bs h c q ch hq hc e z

pub trade_places : (bs : List ℕ) → Fit eights bs → (c d : Call) → c.line ≢ d.line → Traded bs c d
trade_places bs h c d n = record {
  first = same_refusal bs h d c;
  second = same_refusal bs h c d;
  bytes = bytes_trade bs h c d n;
  drawn = ap pixels (bytes_trade bs h c d n);
  first_seen = seen_first bs h c d n;
  second_seen = λ q ch hq hc e z. ap (λ (b : List ℕ). pixel b q ch) (bytes_trade bs h c d n) ∙ seen_first bs h d c (λ x. n (sym x)) q ch hq hc e z;
  rest = λ q ch a b. kept_twice bs h c d q ch b ∙ others_kept bs h c q ch a;
}

-- also inside a longer list
pub trade_inside : (bs : List ℕ) → Fit eights bs → (xs : List Call) (c d : Call) (ys : List Call) → c.line ≢ d.line
    → after_all bs (xs ++ (c ∷ d ∷ ys)) ≡ after_all bs (xs ++ (d ∷ c ∷ ys))
trade_inside bs h xs c d ys n = inside_list (trading (mode_of bs) (split_of bs)) xs c d ys bs (first_stays bs h) n

-- any list of calls leaves the block that the last accepted call of each line makes of the first one, in whichever order ls names
-- the lines
pub last_calls_decide : (bs : List ℕ) → Fit eights bs → (cs : List Call) (ls : List ℕ) → ((l : ℕ) → l < lines (mode_of bs) → T (among l ls))
    → after_all bs cs ≡ after_all bs (last_of_each (mode_of bs) (split_of bs) ls cs)
last_calls_decide = lasts

-- so do two lists of calls whose last accepted calls are the same
pub same_last_calls : (bs : List ℕ) → Fit eights bs → (cs ds : List Call)
    → ((l : ℕ) → l < lines (mode_of bs) → last (mode_of bs) (split_of bs) l cs ≡ last (mode_of bs) (split_of bs) l ds)
    → after_all bs cs ≡ after_all bs ds
same_last_calls = same_lasts

-- and every channel that line l draws shows what the last accepted call of l means, or what the first block shows where there is none
pub last_call_is_seen : (bs : List ℕ) → Fit eights bs → (cs : List Call) (l q ch : ℕ) → q < 16 → ch < 4
    → draws (mode_of bs) (split_of bs) l q ch ≡ true
    → pixel (after_all bs cs) q ch ≡ seen (mode_of bs) (split_of bs) l q ch (pixel bs q ch) (last (mode_of bs) (split_of bs) l cs)
last_call_is_seen bs h cs l q ch hq hc d = sequence_draws (mode_of bs) (split_of bs) l q ch hq hc d cs bs (first_stays bs h)

-- A LINE THAT IS READ: refused with 1 and 2 exactly when replacing it is
pub read_refused_when : (bs : List ℕ) → Fit eights bs → (l n : ℕ) → ((line_read bs l).refusal ≡ n) ↔ Given (read_rules bs l) n
unfolding line_read
read_refused_when bs h l = exactly (read_answers bs h l)

-- it draws what the block shows
pub read_draws : (bs : List ℕ) → Fit eights bs → (l : ℕ) → (line_read bs l).refusal ≡ 0 → (q ch : ℕ) → q < 16 → ch < 4
    → draws (mode_of bs) (split_of bs) l q ch ≡ true
    → means_shown (mode_of bs) (split_of bs) l (line_given (line_read bs l).value.line) q ch ≡ pixel bs q ch
unfolding line_read
read_draws = read_drawn

-- replacing a line by what was read gives the block back, byte for byte: it is accepted, and not turned
pub read_and_replaced : (bs : List ℕ) → Fit eights bs → (l : ℕ) → (line_read bs l).refusal ≡ 0
    → (replaced bs l (line_read bs l).value.line ≡ replaced_as 0 bs) × (top_set (mode_of bs) (split_of bs) l (line_given (line_read bs l).value.line) ≡ false)
unfolding line_read
read_and_replaced bs h l e = (replaced_by_read bs h l e, read_not_turned bs h l e)

-- reading what an accepted call put gives what was given, or its turned form exactly where the index at the anchor had its top
-- bit set, and in both cases a line that draws the same
pub record PutAndRead (bs : List ℕ) (l : ℕ) (g : Replacement) : Type 0 where
  pub refusal : (line_read (after bs (call_of l g)) l).refusal ≡ 0
  pub given : top_set (mode_of bs) (split_of bs) l (line_given g) ≡ false → (line_read (after bs (call_of l g)) l).value.line ≡ g
  pub turned : top_set (mode_of bs) (split_of bs) l (line_given g) ≡ true
      → (line_read (after bs (call_of l g)) l).value.line ≡ given_as (turned_in (mode_of bs) (split_of bs) l (line_given g))
  pub draws_the_same : (q ch : ℕ) → q < 16 → ch < 4 → draws (mode_of bs) (split_of bs) l q ch ≡ true
      → means_shown (mode_of bs) (split_of bs) l (line_given (line_read (after bs (call_of l g)) l).value.line) q ch
      ≡ means_shown (mode_of bs) (split_of bs) l (line_given g) q ch

-- (g is a replacement of 8 values, 2 p bits and 16 indexes)
pub put_and_read : (bs : List ℕ) → Fit eights bs → (l : ℕ) (g : Replacement) → length g.endpoints ≡ 8 → length g.p ≡ 2
    → length g.indexes ≡ 16
    → refusal bs (call_of l g) ≡ 0 → PutAndRead bs l g
unfolding line_read
put_and_read bs h l g he hp hi e = record {
  refusal = read_after bs h (call_of l g) e;
  given = λ t. put_is_read bs h (call_of l g) e ∙ rw (t, ← (given_back g he hp hi));
  turned = λ t. put_is_read bs h (call_of l g) e ∙ rw t;
  draws_the_same = put_draws bs h (call_of l g) e;
}

-- reading another line gives what it gave before, refused or not
pub others_read_as_before : (bs : List ℕ) → Fit eights bs → (c : Call) (l : ℕ) → c.line ≢ l → line_read (after bs c) l ≡ line_read bs l
others_read_as_before = other_read

-- the widths are what 3 looks at: a replacement is refused with 3 exactly when the line can be read and one of its 26 values needs
-- more than its width
pub refused_with_3_when : (bs : List ℕ) (l : ℕ) (g : Replacement)
    → (refusal bs (call_of l g) ≡ 3) ↔ (((line_read bs l).refusal ≡ 0) × TooWide g (line_read bs l).value.widths)
unfolding line_read
refused_with_3_when = refused_with_3

-- DEMAND 1: any two answers that the promises of `replace_line` and `read_line` admit coincide
pub determined_replace_line : (bs : List ℕ) (l : ℕ) (g : Replacement) (a b : Result (List ℕ) Refusal) → Replaces bs l g a → Replaces bs l g b → a ≡ b
determined_replace_line bs l g a b ea eb = answer_fixes bs a b (ea ∙ sym eb)

pub determined_read_line : (bs : List ℕ) (l : ℕ) (a b : Result LineRead Refusal) → ReadsLine bs l a → ReadsLine bs l b → a ≡ b
determined_read_line bs l a b ea eb = answer_fixes (lines_as no_line no_line) a b (ea ∙ sym eb)

pub determined_replacement_of : (bs : List ℕ) (a b : Replacement) → ReadsReplacement bs a → ReadsReplacement bs b → a ≡ b
determined_replacement_of bs a b p q = p ∙ sym q

pub determined_replacement_bytes : (g : Replacement) (a b : List ℕ) → WritesReplacement g a → WritesReplacement g b → a ≡ b
determined_replacement_bytes g a b p q = p ∙ sym q
