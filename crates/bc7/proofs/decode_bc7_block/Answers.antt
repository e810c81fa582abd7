-- Each mode shows what the format says, and so does a reserved block.
-- Assumes nothing.
use mathlib.Core.Path.{◌≡◌, refl, ap, ◌∙◌}
use mathlib.Core.List.{List}
use Prim.Native.Nat.{ℕ, ◌+◌, ◌<◌}
use native.Mathlib.Omega.{arith}
use borrow.Author.Rules.{rules}
use lib.ListN.{get_or, length}
use mir.Syntax.{w8}
use mir.Val.{Fits}
use Rattle.bc7_format.specs.Lines.{pixels}
use Rattle.bits.specs.declared.stream.BitStream.{BitStream}
use Rattle.bits.specs.Stream.{held, skipped}
use Rattle.bits.proofs.On.{held_skipped}
use Rattle.bc7_fields.specs.Fields.{direct_pixels}
use Rattle.bc7.proofs.Laws.{by_mode, by_none, eight, mode_8, of_three, of_two}
use Rattle.bc7.proofs.decode_bc7_block.Goals as goal
use Rattle.bc7.proofs.decode_bc7_block.Goals.{After-extract_mode-mode, Start}

size : (s : Start) → length s.args.block ≡ 16
size s = search rules

byte : (s : Start) (i : ℕ) → Fits w8 (get_or s.args.block i 0)
byte s i = search rules

-- behind the count of the mode: what the mode's function shows is what the block shows
shows : (at : After-extract_mode-mode) (m : ℕ) → at.extract_mode-mode.result ≡ m → m < 8 → {r : List (List ℕ)}
    → r ≡ direct_pixels m (held at.new-stream.result) → r ≡ pixels at.args.block
shows at m is low er =
    let new = at in
    let s = new in
    let begins = new.new-stream.ensures in
    by_mode s.args.block (size at.before.before) (λ i. (byte at.before.before i).fits) new.new-stream.result begins.of begins.stands at.extract_mode-mode.ensures is low er

-- past its marker the stream stands where that function wants it, and holds the same
skipped_to : (at : After-extract_mode-mode) (k : ℕ) {t : BitStream} → t ≡ skipped at.new-stream.result k → t.at ≡ k
skipped_to at k e = rw e (omega (arith, at.new-stream.ensures.stands))

shows_past : (at : After-extract_mode-mode) (m : ℕ) → at.extract_mode-mode.result ≡ m → m < 8 → {t : BitStream}
    → t ≡ skipped at.new-stream.result (m + 1) → {r : List (List ℕ)} → r ≡ direct_pixels m (held t)
    → r ≡ pixels at.args.block
shows_past at m is low et er = shows at m is low (er ∙ ap (direct_pixels m) (held_skipped _ (m + 1) et))

pub returns-then-mode-eq8 : goal.returns-then-mode-eq8
returns-then-mode-eq8 c =
    let mode = c in
    let new = mode in
    let s = new in
    let begins = new.new-stream.ensures in
    by_none s.args.block (size c.before.before.before) (λ i. (byte c.before.before.before i).fits) new.new-stream.result begins.of begins.stands mode.extract_mode-mode.ensures refl
    c.if-mode-eq8.true

pub mode_subset_3-requires : goal.mode_subset_3-requires
mode_subset_3-requires c = record { mode = (of_three c.in-0.is).0; stands = c.new-stream.ensures.stands }

pub returns-in-0 : goal.returns-in-0
returns-in-0 c = let at = c in shows c.before.before.before _ refl (of_three at.in-0.is).1 c.mode_subset_3.ensures

pub mode_subset_2-requires : goal.mode_subset_2-requires
mode_subset_2-requires c = record { mode = (of_two c.in-1.is).0; stands = c.new-stream.ensures.stands }

pub returns-in-1 : goal.returns-in-1
returns-in-1 c = let at = c in shows c.before.before.before _ refl (of_two at.in-1.is).1 c.mode_subset_2.ensures

pub mode_4-requires : goal.mode_4-requires
mode_4-requires c = skipped_to c.before.before.before 5 c.skip.ensures

pub returns-in-4 : goal.returns-in-4
returns-in-4 c =
    let at = c in
    shows_past c.before.before.before.before 4 at.in-4.is (omega arith) c.skip.ensures c.mode_4.ensures

pub mode_5-requires : goal.mode_5-requires
mode_5-requires c = skipped_to c.before.before.before 6 c.skip-in-5.ensures

pub returns-in-5 : goal.returns-in-5
returns-in-5 c =
    let at = c in
    shows_past c.before.before.before.before 5 at.in-5.is (omega arith) c.skip-in-5.ensures c.mode_5.ensures

pub mode_6-requires : goal.mode_6-requires
mode_6-requires c = skipped_to c.before.before.before 7 c.skip-in-6.ensures

pub returns-in-6 : goal.returns-in-6
returns-in-6 c =
    let at = c in
    shows_past c.before.before.before.before 6 at.in-6.is (omega arith) c.skip-in-6.ensures c.mode_6.ensures

pub returns-in_default : goal.returns-in_default
returns-in_default c =
    let mode = c in
    let new = mode in
    let s = new in
    let begins = new.new-stream.ensures in
    let rest = c.in_default.in_default-own.rest in
    let most =
    mode_8 s.args.block (size c.before.before.before.before) (λ i. (byte c.before.before.before.before i).fits) new.new-stream.result begins.of begins.stands mode.extract_mode-mode.ensures refl in
    by_none s.args.block (size c.before.before.before.before) (λ i. (byte c.before.before.before.before i).fits) new.new-stream.result begins.of begins.stands mode.extract_mode-mode.ensures refl
    (eight _ most rest.0.0.0.0.1 rest.0.0.0.1 rest.0.0.1 rest.0.1 rest.1)
