-- DEMAND 3 ON A SHEET, in one place: what holds of a call on a block holds of the block that a call on a sheet names, and every
-- other byte stays. `Bytes s` says that s is a list of bytes, which each slice of the code is; `WholeSheet s` that it has a head
-- and all its blocks.
-- Assumes nothing.
use mathlib.Core.Path.{◌≡◌, refl, ◌∙◌, ap, sym, subst}
use mathlib.Core.Logic.{◌⊎◌, inl, inr, ⊎_elim, ◌≢◌, ◌↔◌}
use mathlib.Core.Bool.{true, false}
use mathlib.Core.List.{List, [], ◌∷◌, ◌++◌}
use Prim.Native.Nat.{ℕ, ◌+◌, ◌<◌, ◌≤◌}
use native.Mathlib.Decide.{ℕ_discrete}
use native.Mathlib.Omega.{arith}
use lib.ListN.{length, get_or}
use Rattle.laws.specs.Refusals.{Given}
use Rattle.laws.proofs.Cases.{lt_or}
use Rattle.laws.proofs.Refusals.{exactly}
use Rattle.laws.specs.Calls as calls
use Rattle.laws.proofs.calls.Parts.{alike as parts_alike, trade}
use Rattle.laws.proofs.calls.Trading.{Trade, inside, woven, woven_told}
use Rattle.bc7_format.specs.Modes.{mode_of, lines}
use Rattle.bc7_format.specs.Lines.{draws, means_shown, pixel}
use Rattle.bc7_format.specs.Splits.{split_of}
use Rattle.head_rules.specs.Geometry.{blocks_of, place_of}
use Rattle.head_rules.specs.Heads.{read_head}
use Rattle.head_rules.specs.Numbers.{Bytes}
use Rattle.line_rules.specs.declared.Replacement.{Replacement}
use Rattle.line_rules.specs.Calls.{after_all, last, seen}
use Rattle.line_rules.specs.Replace.{after, refusal}
use Rattle.line_rules.proofs.Draws.{drawn_by_one}
use Rattle.line_rules.proofs.Theorems.{accepted_draws, last_call_is_seen, others_keep, same_answer, same_last_calls, trade_places}
use Rattle.sheet_rules.specs.Calls.{SheetCall, WholeSheet, calls_on, on_block, refusal_on, sheet_with, sheet_with_all}
use Rattle.sheet_rules.specs.Rows.{DecodesRow, row_refusal, row_rules}
use Rattle.sheet_rules.specs.Sheets.{ReplacesInSheet, block_in, sheet_rules}
use Rattle.sheet_rules.proofs.OnBlocks.{Same, all_block, all_kept, answered_as_block, beyond, none_changes, others_stay as acted_others_stay}
use Rattle.sheet_rules.proofs.OnBlocks.{parts, same_here, same_on, sixteen, whole_or, with_kept, with_named, with_other}
use Rattle.sheet_rules.proofs.Calling.{acting, in_words, unchanged}
use Rattle.sheet_rules.proofs.Refusing.{row_rules_is, undrawn}

-- whatever the sheet and the call: the length stays, and every byte that isn't one of the named block's sixteen
pub others_stay : (s : List ℕ) (c : SheetCall) → (length (sheet_with s c) ≡ length s)
    × ((k : ℕ) → ((place_of (read_head s) c.block ≤ k) × (k < place_of (read_head s) c.block + 16) → ⊥) → get_or (sheet_with s c) k 0 ≡ get_or s k 0)
others_stay = acted_others_stay acting

-- each refusal number of a row is given exactly when document 01 says (`row_rules` has the words)
pub row_refused_when : (w h row given room n : ℕ) → (row_refusal w h row given room ≡ n) ↔ Given (row_rules w h row given room) n
row_refused_when w h row given room = exactly (row_rules_is w h row given room)

-- each refusal number is given exactly when document 01 says (`sheet_rules` has the words)
pub sheet_refused_when : (s : List ℕ) → Bytes s → (c : SheetCall) (n : ℕ)
    → (refusal_on s c ≡ n) ↔ Given (sheet_rules s c.block c.line c.given) n
sheet_refused_when s y c = exactly (in_words s y c.block c.line c.given)

-- a refused call changes nothing
pub refused_stays : (s : List ℕ) (c : SheetCall) → refusal_on s c ≢ 0 → sheet_with s c ≡ s
refused_stays = unchanged

-- on a whole sheet a call is answered as on the block it names, and leaves in that block's place what the block's call leaves; the
-- head and the other blocks stay
pub record Replaces (s : List ℕ) (c : SheetCall) : Type 0 where
  pub answer : refusal_on s c ≡ refusal (block_in s c.block) (on_block c)
  pub named : block_in (sheet_with s c) c.block ≡ after (block_in s c.block) (on_block c)
  pub others : (b : ℕ) → b < blocks_of (read_head s) → c.block ≢ b → block_in (sheet_with s c) b ≡ block_in s b
  pub head : read_head (sheet_with s c) ≡ read_head s
  pub whole : WholeSheet (sheet_with s c)

pub replaces_the_block : (s : List ℕ) → WholeSheet s → (c : SheetCall) → c.block < blocks_of (read_head s) → Replaces s c
replaces_the_block s z c l = record {
  answer = answered_as_block acting s z c l;
  named = with_named acting s z c c.block l refl;
  others = with_other acting s z c;
  head = (with_kept acting s z c).head;
  whole = (with_kept acting s z c).whole;
}

-- a call leaves every block its mode and its split, and every channel that its line doesn't draw in the block it names
module _ (s : List ℕ) (z : WholeSheet s) (c : SheetCall) (b : ℕ) (l : b < blocks_of (read_head s)) where
  mode_stays : (mode_of (block_in (sheet_with s c) b) ≡ mode_of (block_in s b)) × (split_of (block_in (sheet_with s c) b) ≡ split_of (block_in s b))
  mode_stays = go (ℕ_discrete c.block b)
    where
      go : Dec (c.block ≡ b) → (mode_of (block_in (sheet_with s c) b) ≡ mode_of (block_in s b))
          × (split_of (block_in (sheet_with s c) b) ≡ split_of (block_in s b))
      go (yes e) =
          let p = with_named acting s z c b l e in
          let k = others_keep (block_in s b) (sixteen s z b l) (on_block c) in
          (ap mode_of p ∙ k.mode, ap split_of p ∙ k.split)
      go (no n) = let p = with_other acting s z c b l n in (ap mode_of p, ap split_of p)

  undrawn_stays : (q ch : ℕ) → (c.block ≡ b → draws (mode_of (block_in s b)) (split_of (block_in s b)) c.line q ch ≡ false)
      → pixel (block_in (sheet_with s c) b) q ch ≡ pixel (block_in s b) q ch
  undrawn_stays q ch d = go (ℕ_discrete c.block b)
    where
      go : Dec (c.block ≡ b) → pixel (block_in (sheet_with s c) b) q ch ≡ pixel (block_in s b) q ch
      go (yes e) = ap (λ (x : List ℕ). pixel x q ch) (with_named acting s z c b l e) ∙ (others_keep (block_in s b) (sixteen s z b l)
          (on_block c)).channels q ch (d e)
      go (no n) = ap (λ (x : List ℕ). pixel x q ch) (with_other acting s z c b l n)

-- after an accepted call, whatever the line draws in the named block is what was given; every other channel of it stays
module _ (s : List ℕ) (z : WholeSheet s) (c : SheetCall) (l : c.block < blocks_of (read_head s)) where
  pub sheet_accepted_draws : (q ch : ℕ) → q < 16 → ch < 4 → refusal_on s c ≡ 0
      → draws (mode_of (block_in s c.block)) (split_of (block_in s c.block)) c.line q ch ≡ true
      → pixel (block_in (sheet_with s c) c.block) q ch ≡ means_shown (mode_of (block_in s c.block)) (split_of (block_in s c.block)) c.line
      (on_block c).given q ch
  sheet_accepted_draws q ch hq hc e d =
      ap (λ (b : List ℕ). pixel b q ch) (with_named acting s z c c.block l refl)
      ∙ accepted_draws (block_in s c.block) (sixteen s z c.block l) (on_block c) q ch hq hc (sym (answered_as_block acting s z c l) ∙ e) d

  pub sheet_others_keep : (q ch : ℕ) → draws (mode_of (block_in s c.block)) (split_of (block_in s c.block)) c.line q ch ≡ false
      → pixel (block_in (sheet_with s c) c.block) q ch ≡ pixel (block_in s c.block) q ch
  sheet_others_keep q ch d = undrawn_stays s z c c.block l q ch (λ e. d)

-- any list of calls: the head stays, and each block is what the calls that name it leave of it, in their order
pub record ByBlock (s : List ℕ) (cs : List SheetCall) : Type 0 where
  pub head : read_head (sheet_with_all s cs) ≡ read_head s
  pub block : (b : ℕ) → b < blocks_of (read_head s) → block_in (sheet_with_all s cs) b ≡ after_all (block_in s b) (calls_on b cs)

pub calls_by_block : (s : List ℕ) → WholeSheet s → (cs : List SheetCall) → ByBlock s cs
calls_by_block s z cs = record { head = (all_kept acting cs s z).head; block = all_block acting cs s z }

-- what a call is answered doesn't depend on the calls before it
answer_in : (s : List ℕ) → WholeSheet s → (cs : List SheetCall) (d : SheetCall) → refusal_on (sheet_with_all s cs) d ≡ refusal_on s d
answer_in s z cs d =
    let k = all_kept acting cs s z in
    ⊎_elim (λ l. let l' : d.block < blocks_of (read_head (sheet_with_all s cs)) = rw k.head l in
    answered_as_block acting (sheet_with_all s cs) k.whole d l' ∙ ap (λ (b : List ℕ). refusal b (on_block d)) (all_block acting cs s z d.block l)
    ∙ same_answer (block_in s d.block) (block_in s d.block) (sixteen s z d.block l) refl refl (calls_on d.block cs) (on_block d)
    ∙ sym (answered_as_block acting s z d l))
    (λ l. beyond acting (sheet_with_all s cs) k.whole d (rw k.head l) ∙ sym (beyond acting s z d l)) (lt_or d.block (blocks_of (read_head s)))

pub sheet_same_answer : (s : List ℕ) → Bytes s → (cs : List SheetCall) (d : SheetCall) → refusal_on (sheet_with_all s cs) d ≡ refusal_on s d
sheet_same_answer s y cs d =
    ⊎_elim (λ z. answer_in s z cs d) (λ never. ap (λ (t : List ℕ). refusal_on t d) (none_changes acting s never cs)) (whole_or acting s y)

-- two lists of calls that leave every block alike leave the same sheet
alike : (s : List ℕ) → Bytes s → (cs ds : List SheetCall) → ((z : WholeSheet s) (b : ℕ) → b < blocks_of (read_head s) → after_all (block_in s b)
    (calls_on b cs) ≡ after_all (block_in s b) (calls_on b ds))
    → sheet_with_all s cs ≡ sheet_with_all s ds
alike s y cs ds e =
    ⊎_elim (λ z. parts_alike (parts acting s z) cs ds s (same_here z) (e z))
    (λ never. none_changes acting s never cs ∙ sym (none_changes acting s never ds)) (whole_or acting s y)

-- two neighbouring calls on different blocks, or on different lines of one block: the same answers in either order, equal bytes, and
-- either order shows the same: what each accepted call means, wherever its line draws in its block, and elsewhere what was there
abbrev pub Apart : SheetCall → SheetCall → Type 0
Apart c d = (c.block ≢ d.block) ⊎ (c.line ≢ d.line)

pub record SheetTraded (s : List ℕ) (c d : SheetCall) : Type 0 where
  pub first : refusal_on (sheet_with s d) c ≡ refusal_on s c
  pub second : refusal_on (sheet_with s c) d ≡ refusal_on s d
  pub bytes : sheet_with (sheet_with s c) d ≡ sheet_with (sheet_with s d) c
  pub first_seen : (q ch : ℕ) → q < 16 → ch < 4 → refusal_on s c ≡ 0 → draws (mode_of (block_in s c.block)) (split_of (block_in s c.block))
      c.line q ch ≡ true
      → pixel (block_in (sheet_with (sheet_with s c) d) c.block) q ch ≡ means_shown (mode_of (block_in s c.block)) (split_of (block_in s c.block))
      c.line (on_block c).given q ch
  pub second_seen : (q ch : ℕ) → q < 16 → ch < 4 → refusal_on s d ≡ 0 → draws (mode_of (block_in s d.block)) (split_of (block_in s d.block))
      d.line q ch ≡ true
      → pixel (block_in (sheet_with (sheet_with s c) d) d.block) q ch ≡ means_shown (mode_of (block_in s d.block)) (split_of (block_in s d.block))
      d.line (on_block d).given q ch
  pub rest : (b q ch : ℕ) → b < blocks_of (read_head s)
      → (c.block ≡ b → draws (mode_of (block_in s b)) (split_of (block_in s b)) c.line q ch ≡ false)
      → (d.block ≡ b → draws (mode_of (block_in s b)) (split_of (block_in s b)) d.line q ch ≡ false)
      → pixel (block_in (sheet_with (sheet_with s c) d) b) q ch ≡ pixel (block_in s b) q ch

one_call : (s : List ℕ) (c : SheetCall) → sheet_with_all s (c ∷ []) ≡ sheet_with s c
unfolding calls.run
one_call s c = refl

two_calls : (s : List ℕ) (c d : SheetCall) → sheet_with_all s (c ∷ d ∷ []) ≡ sheet_with (sheet_with s c) d
unfolding calls.run
two_calls s c d = refl

-- an accepted call names a block of a whole sheet
accepted_in : (s : List ℕ) → Bytes s → (c : SheetCall) → refusal_on s c ≡ 0 → WholeSheet s × (c.block < blocks_of (read_head s))
accepted_in s y c e =
    ⊎_elim (λ z. (z, ⊎_elim (λ l. l) (λ l. absurd (out z l)) (lt_or c.block (blocks_of (read_head s)))))
    (λ never. absurd (never c e)) (whole_or acting s y)
  where
    out : WholeSheet s → blocks_of (read_head s) ≤ c.block → ⊥
    out z l = omega (arith, e, beyond acting s z c l)

module _ (s : List ℕ) (y : Bytes s) (c d : SheetCall) where
  -- a call after it on another block or line leaves what it draws
  seen_through : Apart c d → (q ch : ℕ) → q < 16 → ch < 4 → refusal_on s c ≡ 0 → draws (mode_of (block_in s c.block))
      (split_of (block_in s c.block)) c.line q ch ≡ true
      → pixel (block_in (sheet_with (sheet_with s c) d) c.block) q ch ≡ means_shown (mode_of (block_in s c.block)) (split_of (block_in s c.block))
      c.line (on_block c).given q ch
  seen_through apart q ch hq hc e dr =
      let w = accepted_in s y c e in
      let k = with_kept acting s w.0 c in
      let m = mode_stays s w.0 c c.block w.1 in
      undrawn_stays (sheet_with s c) k.whole d c.block (rw k.head w.1) q ch
      (λ same. rw (m.0, m.1) (drawn_by_one _ _ c.line d.line q ch (⊎_elim (λ n. absurd (n (sym same))) (λ n. n) apart) dr))
      ∙ sheet_accepted_draws s w.0 c w.1 q ch hq hc e dr

  undrawn_stays_twice : (b q ch : ℕ) → b < blocks_of (read_head s)
      → (c.block ≡ b → draws (mode_of (block_in s b)) (split_of (block_in s b)) c.line q ch ≡ false)
      → (d.block ≡ b → draws (mode_of (block_in s b)) (split_of (block_in s b)) d.line q ch ≡ false)
      → pixel (block_in (sheet_with (sheet_with s c) d) b) q ch ≡ pixel (block_in s b) q ch
  undrawn_stays_twice b q ch l nc nd =
      ⊎_elim (λ z.
      let k = with_kept acting s z c in
      let m = mode_stays s z c b l in
      undrawn_stays (sheet_with s c) k.whole d b (rw k.head l) q ch (λ e. rw (m.0, m.1) (nd e)) ∙ undrawn_stays s z c b l q ch nc)
      (λ never. ap (λ (t : List ℕ). pixel (block_in t b) q ch) (sym (two_calls s c d) ∙ none_changes acting s never (c ∷ d ∷ [])))
      (whole_or acting s y)

  bytes_traded : Apart c d → sheet_with (sheet_with s c) d ≡ sheet_with (sheet_with s d) c
  bytes_traded apart =
      ⊎_elim (λ z. trade (parts acting s z) c d s (same_here z) (λ b l e f. on_lines z b l (⊎_elim (λ n. absurd (n (e ∙ sym f))) (λ n. n) apart)))
      (λ never. sym (two_calls s c d) ∙ none_changes acting s never (c ∷ d ∷ []) ∙ sym (none_changes acting s never (d ∷ c ∷ [])) ∙ two_calls s d c)
      (whole_or acting s y)
    where
      on_lines : (z : WholeSheet s) (b : ℕ) → b < blocks_of (read_head s) → c.line ≢ d.line
          → after (after (block_in s b) (on_block c)) (on_block d) ≡ after (after (block_in s b) (on_block d)) (on_block c)
      on_lines z b l n = (trade_places (block_in s b) (sixteen s z b l) (on_block c) (on_block d) n).bytes

pub sheet_trade_places : (s : List ℕ) → Bytes s → (c d : SheetCall) → Apart c d → SheetTraded s c d
sheet_trade_places s y c d apart = record {
  first = subst (λ (t : List ℕ). refusal_on t c ≡ refusal_on s c) (one_call s d) (sheet_same_answer s y (d ∷ []) c);
  second = subst (λ (t : List ℕ). refusal_on t d ≡ refusal_on s d) (one_call s c) (sheet_same_answer s y (c ∷ []) d);
  bytes = bytes_traded s y c d apart;
  first_seen = seen_through s y c d apart;
  second_seen = λ q ch hq hc e z.
      ap (λ (t : List ℕ). pixel (block_in t d.block) q ch) (bytes_traded s y c d apart)
      ∙ seen_through s y d c (⊎_elim (λ n. inl (λ p. n (sym p))) (λ n. inr (λ p. n (sym p))) apart) q ch hq hc e z;
  rest = undrawn_stays_twice s y c d;
}

-- also inside a longer list, and of two desks: however their calls come in, the sheet is that of one desk after the other, and each is
-- answered as if it were alone
sheet_trading : (s : List ℕ) → WholeSheet s → Trade sheet_with refusal_on (Same s) Apart
sheet_trading s z = record {
  good = λ t c k. same_on k (with_kept acting t k.whole c);
  bytes = λ t c d k a. bytes_traded t k.whole.bytes c d a;
  unseen = λ t c d k a. (sheet_trade_places t k.whole.bytes c d a).second;
}

pub sheet_trade_inside : (s : List ℕ) → WholeSheet s → (xs : List SheetCall) (c d : SheetCall) (ys : List SheetCall) → Apart c d
    → sheet_with_all s (xs ++ (c ∷ d ∷ ys)) ≡ sheet_with_all s (xs ++ (d ∷ c ∷ ys))
sheet_trade_inside s z xs c d ys a = inside (sheet_trading s z) xs c d ys s (same_here z) a

pub two_desks : (s : List ℕ) → WholeSheet s → {xs ys zs : List SheetCall} → (w : calls.Woven xs ys zs) → calls.AllApart Apart xs ys
    → (sheet_with_all s zs ≡ sheet_with_all (sheet_with_all s xs) ys) × (calls.told_left sheet_with refusal_on w s ≡ calls.told sheet_with refusal_on s xs)
two_desks s z w a = (woven (sheet_trading s z) w a s (same_here z), woven_told (sheet_trading s z) w a s (same_here z))

-- any two lists of calls whose last accepted calls on each line of each block are the same leave the same sheet
pub sheet_last_calls_decide : (s : List ℕ) → Bytes s → (cs ds : List SheetCall)
    → ((b l : ℕ) → b < blocks_of (read_head s) → l < lines (mode_of (block_in s b))
    → last (mode_of (block_in s b)) (split_of (block_in s b)) l (calls_on b cs) ≡ last (mode_of (block_in s b)) (split_of (block_in s b)) l (calls_on b ds))
    → sheet_with_all s cs ≡ sheet_with_all s ds
sheet_last_calls_decide s y cs ds e = alike s y cs ds (λ z b l. same_last_calls (block_in s b) (sixteen s z b l) (calls_on b cs) (calls_on b ds)
    (λ k lk. e b k l lk))

-- and every channel that a line of a block draws shows what the last accepted call on it means, or what the first sheet shows
pub sheet_last_call_is_seen : (s : List ℕ) → WholeSheet s → (cs : List SheetCall) (b : ℕ) → b < blocks_of (read_head s)
    → (l q ch : ℕ) → q < 16 → ch < 4
    → draws (mode_of (block_in s b)) (split_of (block_in s b)) l q ch ≡ true
    → pixel (block_in (sheet_with_all s cs) b) q ch
    ≡ seen (mode_of (block_in s b)) (split_of (block_in s b)) l q ch (pixel (block_in s b) q ch)
    (last (mode_of (block_in s b)) (split_of (block_in s b)) l (calls_on b cs))
sheet_last_call_is_seen s z cs b lb l q ch hq hc d =
    ap (λ (x : List ℕ). pixel x q ch) ((calls_by_block s z cs).block b lb) ∙ last_call_is_seen (block_in s b) (sixteen s z b lb)
    (calls_on b cs) l q ch hq hc d

-- DEMAND 1: any two results that a call's promise admits coincide
pub determined_decode_row : (w h row : ℕ) (blocks before : List ℕ) (r s : ℕ) (a b : List ℕ)
    → DecodesRow w h row blocks before r a → DecodesRow w h row blocks before s b → (r ≡ s) × (a ≡ b)
determined_decode_row w h row blocks before r s a b p q = (p.0 ∙ sym q.0, p.1 ∙ sym q.1)

pub determined_replace_in_sheet : (sheet : List ℕ) (block line : ℕ) (new : Replacement) (r s : ℕ) (a b : List ℕ)
    → ReplacesInSheet sheet block line new r a → ReplacesInSheet sheet block line new s b → (r ≡ s) × (a ≡ b)
determined_replace_in_sheet sheet block line new r s a b p q = (p.0 ∙ sym q.0, p.1 ∙ sym q.1)

-- and where the answer that it admits is not 0, what is left is what was
pub refused_row_leaves : (w h row : ℕ) (blocks before : List ℕ) (r : ℕ) (a : List ℕ) → DecodesRow w h row blocks before r a → r ≢ 0 → a ≡ before
refused_row_leaves w h row blocks before r a p ne = p.1 ∙ undrawn w h row blocks before (λ e. ne (p.0 ∙ e))

pub refused_sheet_leaves : (sheet : List ℕ) (c : SheetCall) (r : ℕ) (a : List ℕ)
    → ReplacesInSheet sheet c.block c.line c.given r a → r ≢ 0 → a ≡ sheet
refused_sheet_leaves sheet c r a p ne = p.1 ∙ refused_stays sheet c (λ e. ne (p.0 ∙ e))
