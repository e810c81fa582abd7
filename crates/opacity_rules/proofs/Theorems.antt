-- WHAT IS PROVED OF OPACITY, in one place. `Fit eights bs` says that bs is sixteen bytes.
-- Assumes nothing.
use mathlib.Core.Path.{◌≡◌, refl, sym, subst, ◌∙◌}
use mathlib.Core.Logic.{◌↔◌}
use mathlib.Core.Bool.{Bool, true, false}
use mathlib.Core.List.{List}
use Prim.Native.Nat.{ℕ, ◌+◌, ◌*◌, ◌/◌, ◌%◌, ◌≤◌, ◌<◌, min}
use native.Mathlib.Nat.{div-lt_iff_lt-mul, mod-lt}
use native.Mathlib.Omega.{arith}
use borrow.Author.Tests.{eq-eqb, ltb-true}
use lib.Dec.{T, eqb→eq, ltb, ltb→lt, lt→ltb}
use lib.ListN.{get_or}
use Rattle.laws.specs.Digits.{Fit}
use Rattle.laws.specs.Tables.{implies, pick}
use Rattle.laws.proofs.Tests.{T_true, at, below_intro, both_intro, both_left, both_right, eqb_of, implied, not_so, same_test, true_T}
use Rattle.bcn_format.specs.Block.{eights}
use Rattle.bc7_format.specs.Lines.{pixel}
use Rattle.bc7_format.specs.Modes.{mode_of}
use Rattle.bc7_format.proofs.Reserved.{reserved_mode}
use Rattle.head_rules.specs.Answers.{Head}
use Rattle.head_rules.specs.Geometry.{across, blocks_of, side_shown}
use Rattle.head_rules.specs.Heads.{Sized}
use Rattle.bc7_format.proofs.FullAlpha.{full_alpha}
use Rattle.opacity_rules.specs.Opacity.{FullAlpha, FullAlphaIn, is_visible, opaque, opaque_in, opaque_short, passes, up_to_first}
use Rattle.opacity_rules.specs.Promises.{TellsOpaque}
use Rattle.opacity_rules.proofs.Stopping.{up_to_first_is}

asked_only : (a b : Bool) → (T a → T b) → T (implies a b)
unfolding implies
asked_only true b f = f tt
asked_only false b f = tt

module _ (columns rows : ℕ) (bs : List ℕ) where
  visible_full : opaque columns rows bs ≡ true → FullAlpha columns rows bs
  unfolding opaque passes is_visible
  visible_full e x y hx hy cx ry =
      let q : ℕ = 4 * y + x in
      let column : q % 4 < columns = omega arith in
      let row : q / 4 < rows = omega arith in
      eqb→eq _ 255 (implied (is_visible columns rows q) _ (at 16 (passes columns rows bs) (true_T _ e) q (omega arith))
      (both_intro (ltb (q % 4) columns) (ltb (q / 4) rows) (lt→ltb _ _ column) (lt→ltb _ _ row)))

  full_visible : FullAlpha columns rows bs → opaque columns rows bs ≡ true
  unfolding opaque passes is_visible
  full_visible f =
      T_true _ (below_intro 16 (passes columns rows bs) (λ q hq. asked_only (is_visible columns rows q) _ (λ v.
      let place : 4 * (q / 4) + q % 4 ≡ q = omega arith in
      let column = ltb→lt _ _ (both_left (ltb (q % 4) columns) _ v) in
      let row = ltb→lt _ _ (both_right (ltb (q % 4) columns) _ v) in
      eqb_of _ 255 (subst (λ (n : ℕ). pixel bs n 3 ≡ 255) place (f (q % 4) (q / 4) (omega arith) (omega arith) column row)))))

  -- a block is opaque exactly where every pixel in a visible column and a visible row has alpha 255
  pub opaque_when : (opaque columns rows bs ≡ true) ↔ FullAlpha columns rows bs
  opaque_when = (visible_full, full_visible)

  -- modes 0 to 3 are, whatever is visible
  pub from_the_mode : Fit eights bs → mode_of bs < 4 → opaque columns rows bs ≡ true
  from_the_mode sixteen low = full_visible (λ x y hx hy cx ry. full_alpha bs sixteen (4 * y + x) low)

  -- the short way, by the mode and up to the first visible pixel that isn't 255, comes to the full answer
  pub short_is_full : Fit eights bs → opaque_short columns rows bs ≡ opaque columns rows bs
  unfolding opaque_short opaque
  short_is_full sixteen = go (ltb (mode_of bs) 4) refl
    where
      go : (b : Bool) → ltb (mode_of bs) 4 ≡ b → pick b true (up_to_first 0 16 (passes columns rows bs)) ≡ opaque columns rows bs
      go true e = sym (from_the_mode sixteen (ltb-true _ 4 e))
      go false e = up_to_first_is (passes columns rows bs) 16

  -- a reserved block isn't, where any pixel is visible
  pub reserved_is_not : get_or bs 0 0 ≡ 0 → 1 ≤ columns → 1 ≤ rows → opaque columns rows bs ≡ false
  unfolding pixel
  reserved_is_not zero c r = not_so _ (λ e.
      let full = visible_full e 0 0 (omega arith) (omega arith) c r in
      absurd (let z : ⊥ = omega (arith, rw (eq-eqb (mode_of bs) 8 (reserved_mode bs zero)) at full) in z))

-- above 4 counts as 4
pub above_4_as_4 : (columns rows : ℕ) (bs : List ℕ) → opaque columns rows bs ≡ opaque (min 4 columns) (min 4 rows) bs
above_4_as_4 columns rows bs =
    same_test _ _
    (λ t. true_T _ ((opaque_when (min 4 columns) (min 4 rows) bs).1
    (λ x y hx hy cx ry. (opaque_when columns rows bs).0 (T_true _ t) x y hx hy (omega arith) (omega arith))))
    (λ t. true_T _ ((opaque_when columns rows bs).1
    (λ x y hx hy cx ry. (opaque_when (min 4 columns) (min 4 rows) bs).0 (T_true _ t) x y hx hy (omega arith) (omega arith))))

-- where nothing is visible every block is opaque
pub nothing_visible : (columns rows : ℕ) (bs : List ℕ) → (opaque 0 rows bs ≡ true) × (opaque columns 0 bs ≡ true)
nothing_visible columns rows bs = (
  (opaque_when 0 rows bs).1 (λ x y hx hy cx ry. absurd (let z : ⊥ = omega arith in z)),
  (opaque_when columns 0 bs).1 (λ x y hx hy cx ry. absurd (let z : ⊥ = omega arith in z)),
)

-- IN A SHEET: block n stands in a column and a row of blocks that there are, of which at least one pixel is shown
pub record Stands (w h n : ℕ) : Type 0 where
  pub column : 4 * (n % across w) < w
  pub row : 4 * (n / across w) < h

inside : (side n : ℕ) → n < across side → 4 * n < side
inside side n l = omega arith

pub stands : (head : Head) → Sized head.width head.height → (n : ℕ) → n < blocks_of head → Stands head.width head.height n
unfolding blocks_of
stands head z n l =
    let some : 1 ≤ across head.width = omega (arith, z.wide) in record {
      column = inside head.width _ (mod-lt n some);
      row = inside head.height _ ((div-lt_iff_lt-mul {k = across head.width} {x = n} {y = across head.height} some).1 l);
    }

shown_some : (side n : ℕ) → 4 * n < side → 1 ≤ side_shown side n
shown_some side n l = omega arith

-- a reserved block is never opaque there
pub reserved_never : (head : Head) → Sized head.width head.height → (n : ℕ) → n < blocks_of head → (bs : List ℕ) → get_or bs 0 0 ≡ 0
    → opaque_in head.width head.height n bs ≡ false
unfolding opaque_in
reserved_never head z n l bs zero =
    let s = stands head z n l in reserved_is_not _ _ bs zero (shown_some head.width _ s.column) (shown_some head.height _ s.row)

within : (side n x : ℕ) → x < 4 → 4 * n + x < side → x < side_shown side n
within side n x hx l = omega arith

not_beyond : (side n x : ℕ) → x < side_shown side n → 4 * n + x < side
not_beyond side n x l = omega arith

-- a block is opaque there exactly where each of its pixels that lies within the picture has alpha 255
pub opaque_in_when : (w h n : ℕ) (bs : List ℕ) → (opaque_in w h n bs ≡ true) ↔ FullAlphaIn w h n bs
unfolding opaque_in
opaque_in_when w h n bs =
    let e = opaque_when (side_shown w (n % across w)) (side_shown h (n / across w)) bs in (
      λ t x y hx hy cx ry. e.0 t x y hx hy (within w _ x hx cx) (within h _ y hy ry),
      λ f. e.1 (λ x y hx hy cx ry. f x y hx hy (not_beyond w _ x cx) (not_beyond h _ y ry)),
    )

-- DEMAND 1: any two answers that the promise admits coincide
pub determined_opaque : (bs : List ℕ) (columns rows : ℕ) (a b : Bool) → TellsOpaque bs columns rows a → TellsOpaque bs columns rows b → a ≡ b
determined_opaque bs columns rows a b p q = p ∙ sym q
