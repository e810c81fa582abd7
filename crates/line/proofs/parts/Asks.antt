-- What the code of a line's parts asks for.
-- Assumes nothing.
use mathlib.Core.Path.{◌≡◌, refl, sym, ap, ap₂, ◌∙◌}
use mathlib.Core.Logic.{⊎_elim}
use mathlib.Core.Bool.{Bool, true, false}
use mathlib.Core.List.{List, [], ◌∷◌}
use Prim.Native.Nat.{ℕ, ◌+◌, ◌-◌, ◌/◌, ◌%◌, ◌^◌, ◌<◌}
use native.Mathlib.Decide.{ℕ_discrete}
use native.Mathlib.Omega.{arith}
use borrow.Author.Tests.{eq-eqb, ne_eqb}
use lib.Dec.{eqb, ltb}
use lib.ListN.{get_or, replicate}
use lib.Pow.{ones_lt, pow_pos}
use Rattle.laws.specs.Digits.{Fit, join, more, none, split}
use Rattle.laws.specs.Tables.{below, both, pick, table}
use Rattle.laws.proofs.Cases.{lt_or}
use Rattle.laws.proofs.Digits.{split_join}
use Rattle.laws.proofs.Rows.{fit_table}
use Rattle.bcn_format.specs.Indexes.{index_width, index_widths}
use Rattle.bc7_places.proofs.fits.Widths.{fit, unfit}
use Rattle.bc7_places.specs.declared.lines.Pixels.{Pixels}
use Rattle.bc7_places.specs.declared.lines.LinePart.{LinePart}
use Rattle.line_rules.specs.declared.Replacement.{Replacement}
use Rattle.bc7_places.specs.Lines.{own_pixel}
use Rattle.line.specs.Parts.{parts_fit}

-- the parts of a mask fit
pub mask_fits : (x : Pixels) (w : ℕ) → Fit (index_widths w []) (table 16 (λ q. pick (own_pixel x q) (2 ^ w - 1) 0))
unfolding index_widths
mask_fits x w = fit_table 16 (index_width w []) _ (λ q l. go (own_pixel x q))
  where
    go : (b : Bool) → pick b (2 ^ w - 1) 0 < 2 ^ w
    go true = ones_lt w
    go false = pow_pos w

-- two values fit where nothing is left above, and not where something is
module _ (w a b : ℕ) {x y : ℕ} (ex : x ≡ a / 2 ^ w) (ey : y ≡ b / 2 ^ w) where
  two_fit : x + y ≡ 0 → both (ltb b (2 ^ w)) (both (ltb a (2 ^ w)) true) ≡ true
  two_fit e = rw (fit a w (sym ex ∙ omega arith), fit b w (sym ey ∙ omega arith))

  two_unfit : (x + y ≡ 0 → ⊥) → both (ltb b (2 ^ w)) (both (ltb a (2 ^ w)) true) ≡ false
  two_unfit n =
      ⊎_elim (λ h. rw (unfit a w (λ z. n (let ze : x ≡ 0 = ex ∙ z in omega arith))) (none (ltb b (2 ^ w))))
      (λ h. rw (unfit b w (λ z. omega (arith, ey ∙ z)))) (lt_or y 1)
    where
      none : (t : Bool) → both t false ≡ false
      none true = refl
      none false = refl

pub two_fits : (w a b : ℕ) {x y : ℕ} → x ≡ a / 2 ^ w → y ≡ b / 2 ^ w → eqb (x + y) 0 ≡ both (ltb b (2 ^ w)) (both (ltb a (2 ^ w)) true)
two_fits w a b {x} {y} ex ey = go (ℕ_discrete (x + y) 0)
  where
    go : Dec (x + y ≡ 0) → eqb (x + y) 0 ≡ both (ltb b (2 ^ w)) (both (ltb a (2 ^ w)) true)
    go (yes e) = eq-eqb _ 0 e ∙ sym (two_fit w a b ex ey e)
    go (no n) = ne_eqb _ 0 n ∙ sym (two_unfit w a b ex ey n)

-- eight bytes in a word, tested one by one
pub eight_bytes : (es : List ℕ) (f : ℕ → ℕ) {w : ℕ} → ((i : ℕ) → get_or es i 0 < 256)
    → w ≡ join (replicate 8 8) (get_or es 0 0 ∷ get_or es 1 0 ∷ get_or es 2 0 ∷ get_or es 3 0 ∷ get_or es 4 0 ∷ get_or es 5 0 ∷ get_or es 6 0 ∷ get_or es 7 0 ∷ [])
    → below 8 (λ i. ltb (get_or (split (replicate 8 8) w) i 0) (2 ^ f i)) ≡ below 8 (λ i. ltb (get_or es i 0) (2 ^ f i))
eight_bytes es f h e =
    let fits : Fit (replicate 8 8)
    (get_or es 0 0 ∷ get_or es 1 0 ∷ get_or es 2 0 ∷ get_or es 3 0 ∷ get_or es 4 0 ∷ get_or es 5 0 ∷ get_or es 6 0 ∷ get_or es 7 0 ∷ []) =
    more (h 0) (more (h 1) (more (h 2) (more (h 3) (more (h 4) (more (h 5) (more (h 6) (more (h 7) none))))))) in
    ap (λ (vs : List ℕ). below 8 (λ i. ltb (get_or vs i 0) (2 ^ f i))) (ap (split (replicate 8 8)) e ∙ split_join fits)

-- a replacement part by part
module _ (x : LinePart) (g : Replacement) {a : Bool} (ea : a ≡ below 16 (λ q. ltb (get_or g.indexes q 0) (2 ^ x.index))) where
  abbrev values : Bool
  values = below 8 (λ i. ltb (get_or g.endpoints i 0) (2 ^ pick (eqb (i % 4) 3) x.alpha x.colour))

  pub no_index : a ≡ false → false ≡ parts_fit x g
  unfolding parts_fit
  no_index f = sym (ap (λ (t : Bool). both t (both (below 2 (λ k. ltb (get_or g.p k 0) (2 ^ x.p))) values)) (sym ea ∙ f))

  module _ (ta : a ≡ true) {b : Bool} (eb : b ≡ below 2 (λ k. ltb (get_or g.p k 0) (2 ^ x.p))) where
    pub no_p : b ≡ false → false ≡ parts_fit x g
    unfolding parts_fit
    no_p f = sym (ap₂ (λ (t u : Bool). both t (both u values)) (sym ea ∙ ta) (sym eb ∙ f))

    pub by_values : {c : Bool} → b ≡ true → c ≡ values → c ≡ parts_fit x g
    unfolding parts_fit
    by_values f ec = ec ∙ sym (ap₂ (λ (t u : Bool). both t (both u values)) (sym ea ∙ ta) (sym eb ∙ f))
