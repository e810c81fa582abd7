-- Calls on a block: what they leave at its places, and what is drawn.
-- Assumes nothing.
use mathlib.Core.Path.{◌≡◌, refl, sym, ap, ◌∙◌, subst}
use mathlib.Core.Logic.{◌≢◌, ◌⊎◌, ⊎_elim}
use mathlib.Core.Bool.{Bool, true, false}
use mathlib.Core.List.{List}
use Prim.Native.Nat.{ℕ, zero, suc, ◌/◌, ◌%◌, ◌<◌, ◌≤◌}
use native.Mathlib.Nat.{eq-or-lt_of_le}
use native.Mathlib.Omega.{arith}
use borrow.Author.Tests.{eqb-true, eq-eqb, ne_eqb}
use lib.Dec.{T, eqb}
use Rattle.bc7_format.specs.declared.Place.{Place}
use Rattle.bc7_format.specs.declared.Split.{Split}
use Rattle.laws.specs.Digits.{Fit}
use Rattle.laws.specs.Refusals.{first}
use Rattle.laws.specs.Tables.{pick}
use Rattle.bcn_format.specs.Block.{eights, trailing}
use Rattle.bc7_format.specs.Modes.{mode_of}
use Rattle.bc7_format.specs.Lines.{draws, has, is_drawn, laid, means_shown, pixel, rotated, shown, with_line}
use Rattle.bc7_format.specs.Places.{block_of, inside, opened}
use Rattle.bc7_format.specs.Splits.{rotation, split_of}
use Rattle.bc7_format.specs.WellFormed.{WellFormed}
use Rattle.bc7_format.proofs.Lens.{shown_ext, shown_none, shown_other}
use Rattle.bc7_format.proofs.Opening.{block_ext, block_fits, block_opened, mode_block, opened_block, opened_good, split_block}
use Rattle.line_rules.specs.Calls.{is_accepted}
use Rattle.line_rules.specs.Replace.{Call, after, oriented, put, refusal, refusal_in}
use Rattle.line_rules.proofs.Draws.{drawn_by, not_drawn_by}
use Rattle.line_rules.proofs.Given.{shown_given}
use Rattle.line_rules.proofs.Put.{put_good}

-- what stands at the places after a call
unfoldable step : ℕ → Split → Call → (Place → ℕ) → Place → ℕ
step m s c f = pick (is_accepted m s c) (put m s c.line c.given f) f

module _ {m : ℕ} {s : Split} {f : Place → ℕ} (g : WellFormed m s f) where
  step_good : (c : Call) → WellFormed m s (step m s c f)
  unfolding step is_accepted
  step_good c = go (eqb (refusal_in m s c.line c.given) 0) refl
    where
      go : (a : Bool) → eqb (refusal_in m s c.line c.given) 0 ≡ a → WellFormed m s (pick a (put m s c.line c.given f) f)
      go true e = put_good g c.line c.given (eqb-true _ 0 e)
      go false e = g

  -- a call on a block, by its places
  after_shut : (c : Call) → after (block_of m s f) c ≡ block_of m s (step m s c f)
  unfolding after refusal step is_accepted put with_line
  after_shut c = rw (mode_block g, split_block g) (go (eqb (refusal_in m s c.line c.given) 0))
    where
      pc : (Place → ℕ) → Place → ℕ
      pc h = with_line m s c.line (oriented m s c.line c.given) h

      go : (a : Bool) → pick a (block_of m s (pc (opened (block_of m s f)))) (block_of m s f) ≡ block_of m s (pick a (pc f) f)
      go true = block_ext m s _ _ (λ x i. ap (pick (has m s c.line x) (laid m (oriented m s c.line c.given) x)) (opened_block g x i))
      go false = refl

-- blocks are reserved or not
trailing_le : (k b : ℕ) → trailing k b ≤ k
unfolding trailing
trailing_le zero b = omega arith
trailing_le (suc k) b = go (eqb (b % 2) 0) (trailing_le k (b / 2))
  where
    go : (t : Bool) → trailing k (b / 2) ≤ k → pick t (suc (trailing k (b / 2))) 0 ≤ suc k
    go true h = omega arith
    go false h = omega arith

pub reserved_or : (bs : List ℕ) → (mode_of bs ≡ 8) ⊎ (mode_of bs < 8)
unfolding mode_of
reserved_or bs = eq-or-lt_of_le (trailing_le 8 _)

-- a refused call changes nothing
pub unchanged : (bs : List ℕ) (c : Call) → refusal bs c ≢ 0 → after bs c ≡ bs
unfolding after
unchanged bs c n = rw (ne_eqb (refusal bs c) 0 n)

reserved_refuses : (bs : List ℕ) (c : Call) → mode_of bs ≡ 8 → refusal bs c ≡ 1
unfolding refusal refusal_in first
reserved_refuses bs c e = rw (eq-eqb (mode_of bs) 8 e)

pub reserved_same : (bs : List ℕ) (c : Call) → mode_of bs ≡ 8 → after bs c ≡ bs
reserved_same bs c e = unchanged bs c (λ z. let r : refusal bs c ≡ 1 = reserved_refuses bs c e in let y : ⊥ = omega arith in y)

pub accepted_open : (bs : List ℕ) (c : Call) → refusal bs c ≡ 0 → mode_of bs < 8
accepted_open bs c e =
    ⊎_elim (λ (z : mode_of bs ≡ 8). absurd (let r : refusal bs c ≡ 1 = reserved_refuses bs c z in let y : ⊥ = omega arith in y))
    (λ (l : mode_of bs < 8). l) (reserved_or bs)

module _ (bs : List ℕ) (sixteen : Fit eights bs) where
  module _ (h : mode_of bs < 8) where
    good : WellFormed (mode_of bs) (split_of bs) (opened bs)
    good = opened_good bs sixteen h

    after_is : (c : Call) → after bs c ≡ block_of (mode_of bs) (split_of bs) (step (mode_of bs) (split_of bs) c (opened bs))
    after_is c = ap (λ (b : List ℕ). after b c) (sym (block_opened bs sixteen h)) ∙ after_shut good c

  -- a call changes neither the mode nor the split, and leaves sixteen bytes
  pub after_mode : (c : Call) → mode_of (after bs c) ≡ mode_of bs
  after_mode c =
      ⊎_elim (λ (z : mode_of bs ≡ 8). ap mode_of (reserved_same bs c z))
      (λ (l : mode_of bs < 8). ap mode_of (after_is l c) ∙ mode_block (step_good (good l) c)) (reserved_or bs)

  pub after_split : (c : Call) → split_of (after bs c) ≡ split_of bs
  after_split c =
      ⊎_elim (λ (z : mode_of bs ≡ 8). ap split_of (reserved_same bs c z))
      (λ (l : mode_of bs < 8). ap split_of (after_is l c) ∙ split_block (step_good (good l) c)) (reserved_or bs)

  pub after_sixteen : (c : Call) → Fit eights (after bs c)
  after_sixteen c =
      ⊎_elim (λ (z : mode_of bs ≡ 8). subst (Fit eights) (sym (reserved_same bs c z)) sixteen)
      (λ (l : mode_of bs < 8). subst (Fit eights) (sym (after_is l c)) (block_fits (step_good (good l) c))) (reserved_or bs)

  -- so what a call is answered does not depend on the call before it
  pub same_refusal : (c d : Call) → refusal (after bs c) d ≡ refusal bs d
  unfolding refusal
  same_refusal c d = rw (after_mode c, after_split c)

  -- what stands at the places after a call: what was there, and at those of an accepted call's line what the line has for them
  opened_after : (c : Call) (x : Place) → mode_of bs < 8 → T (inside x) → opened (after bs c) x ≡ step (mode_of bs) (split_of bs) c (opened bs) x
  opened_after c x l i = ap (λ (b : List ℕ). opened b x) (after_is l c) ∙ opened_block (step_good (good l) c) x i

  pub places_kept : (c : Call) (x : Place) → T (inside x) → has (mode_of bs) (split_of bs) c.line x ≡ false → opened (after bs c) x ≡ opened bs x
  unfolding step put with_line
  places_kept c x i n =
      ⊎_elim (λ (z : mode_of bs ≡ 8). ap (λ (b : List ℕ). opened b x) (reserved_same bs c z))
      (λ (l : mode_of bs < 8). opened_after c x l i ∙ go (is_accepted (mode_of bs) (split_of bs) c)) (reserved_or bs)
    where
      go : (a : Bool) → pick a (put (mode_of bs) (split_of bs) c.line c.given (opened bs)) (opened bs) x ≡ opened bs x
      go true = rw n
      go false = refl

  pub places_stored : (c : Call) (x : Place) → refusal bs c ≡ 0 → T (inside x) → has (mode_of bs) (split_of bs) c.line x ≡ true
      → opened (after bs c) x ≡ laid (mode_of bs) (oriented (mode_of bs) (split_of bs) c.line c.given) x
  unfolding refusal step is_accepted put with_line
  places_stored c x e i h = opened_after c x (accepted_open bs c e) i ∙ rw (eq-eqb (refusal_in (mode_of bs) (split_of bs) c.line c.given) 0 e, h)

  -- the pixels after a call
  shown_after : (c : Call) (q ch : ℕ) → mode_of bs < 8 → pixel (after bs c) q ch
      ≡ shown (mode_of bs) (split_of bs) (step (mode_of bs) (split_of bs) c (opened bs)) q ch
  unfolding pixel
  shown_after c q ch l =
      let g = step_good (good l) c in
      let n : mode_of bs ≢ 8 = λ z. omega arith in
      rw (after_is l c, mode_block g, split_block g, ne_eqb (mode_of bs) 8 n)
      (shown_ext (mode_of bs) (split_of bs) (opened (block_of (mode_of bs) (split_of bs) (step (mode_of bs) (split_of bs) c (opened bs)))) _ q ch
      (opened_block g))

  -- an accepted call draws, wherever its line draws, what was given
  pub given_drawn : (c : Call) (q ch : ℕ) → refusal bs c ≡ 0 → q < 16 → ch < 4 → draws (mode_of bs) (split_of bs) c.line q ch ≡ true
      → pixel (after bs c) q ch ≡ means_shown (mode_of bs) (split_of bs) c.line c.given q ch
  unfolding refusal step is_accepted means_shown
  given_drawn c q ch e hq hc dr =
      let l = accepted_open bs c e in
      let p = drawn_by (mode_of bs) (split_of bs) c.line q ch dr in
      shown_after c q ch l
      ∙ ap (λ (b : Bool). shown (mode_of bs) (split_of bs) (pick b (put (mode_of bs) (split_of bs) c.line c.given (opened bs)) (opened bs)) q ch)
      (eq-eqb _ 0 e)
      ∙ shown_given (good l) c.line c.given q ch e hq hc p.0 p.1

  -- every other channel of every pixel is as it was
  pub others_kept : (c : Call) (q ch : ℕ) → draws (mode_of bs) (split_of bs) c.line q ch ≡ false → pixel (after bs c) q ch ≡ pixel bs q ch
  unfolding pixel step put
  others_kept c q ch n =
      ⊎_elim (λ (z : mode_of bs ≡ 8). ap (λ (b : List ℕ). pixel b q ch) (reserved_same bs c z)) (λ (l : mode_of bs < 8). unlocked l) (reserved_or bs)
    where
      m : ℕ
      m = mode_of bs

      s : Split
      s = split_of bs

      unlocked : mode_of bs < 8 → pixel (after bs c) q ch ≡ pixel bs q ch
      unlocked l =
          shown_after c q ch l ∙ go (is_accepted m s c) (is_drawn m (rotated (rotation s) ch)) refl
          ∙ sym (rw (ne_eqb m 8 (λ z. let y : ⊥ = omega arith in y)))
        where
          pc : Place → ℕ
          pc = with_line m s c.line (oriented m s c.line c.given) (opened bs)

          go : (a b : Bool) → is_drawn m (rotated (rotation s) ch) ≡ b → shown m s (pick a pc (opened bs)) q ch ≡ shown m s (opened bs) q ch
          go true true e = shown_other m s c.line (oriented m s c.line c.given) (opened bs) q ch (not_drawn_by m s c.line q ch e n)
          go true false e = shown_none m s pc (opened bs) q ch e
          go false b e = refl
