-- Each of the three modes shows what the format says, and any other block is refused.
-- Assumes nothing.
use mathlib.Core.Path.{◌≡◌, ◌∙◌, sym}
use mathlib.Core.Logic.{inl, inr}
use mathlib.Core.List.{List}
use Prim.Native.Nat.{ℕ, ◌+◌, ◌<◌}
use native.Mathlib.Omega.{arith}
use borrow.Author.Rules.{rules}
use lib.ListN.{get_or, length}
use mir.Syntax.{w8}
use mir.Val.{Fits}
use Rattle.bits.specs.declared.stream.BitStream.{BitStream}
use Rattle.bits.specs.Stream.{held, skipped}
use Rattle.bits.proofs.On.{held_skipped}
use Rattle.bc7_fields.specs.Fields.{direct_pixels}
use Rattle.profile_rules.specs.Profile.{Admitted}
use Rattle.profile_rules.specs.Small.{DecodesSmall}
use Rattle.bc7_small.proofs.Laws.{refuses, shows}
use Rattle.bc7_small.proofs.decode_small.Goals as goal
use Rattle.bc7_small.proofs.decode_small.Goals.{After-mode_of-mode, Start}

size : (s : Start) → length s.args.block ≡ 16
size s = search rules

byte : (s : Start) (i : ℕ) → Fits w8 (get_or s.args.block i 0)
byte s i = search rules

shows_past : (at : After-mode_of-mode) (m : ℕ) → at.mode_of-mode.result ≡ m → m < 8 → Admitted at.args.block
    → {t : BitStream} → t ≡ skipped at.new-stream.result (m + 1) → {r : List (List ℕ)} → r ≡ direct_pixels m (held t)
    → DecodesSmall at.args.block 0 r
shows_past at m is low a et er =
    let s = at in
    shows s.args.block at.mode_of-mode.ensures (size at.before.before) (λ i. (byte at.before.before i).fits) (sym at.mode_of-mode.ensures ∙ is) low a
    (held_skipped _ (m + 1) et ∙ at.new-stream.ensures.of) er

pub returns-in-4 : goal.returns-in-4
returns-in-4 c =
    let arm = c in
    let at = arm in
    shows_past c.before.before.before 4 arm.in-4.is (omega arith) (inl (sym at.mode_of-mode.ensures ∙ arm.in-4.is)) c.skip.ensures
    c.mode_4.ensures

pub returns-in-5 : goal.returns-in-5
returns-in-5 c =
    let arm = c in
    let at = arm in
    shows_past c.before.before.before 5 arm.in-5.is (omega arith) (inr (inl (sym at.mode_of-mode.ensures ∙ arm.in-5.is))) c.skip-in-5.ensures
    c.mode_5.ensures

pub returns-in-6 : goal.returns-in-6
returns-in-6 c =
    let arm = c in
    let at = arm in
    shows_past c.before.before.before 6 arm.in-6.is (omega arith) (inr (inr (sym at.mode_of-mode.ensures ∙ arm.in-6.is))) c.skip-in-6.ensures
    c.mode_6.ensures

pub returns-in_default : goal.returns-in_default
returns-in_default c =
    let arm = c in
    let at = arm in
    let rest = arm.in_default.in_default-own.rest in
    refuses at.args.block at.mode_of-mode.ensures rest.0.0.1 rest.0.1 rest.1
