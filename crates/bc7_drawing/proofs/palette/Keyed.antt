-- Palettes of several subsets: the colours of one index stand side by side, and a loop over the indexes lays them.
-- Assumes nothing.
use mathlib.Core.Path.{◌≡◌, sym, ap, ap₂, ◌∙◌}
use mathlib.Core.List.{List, [], ◌++◌, zip_with}
use Prim.Native.Nat.{ℕ, ◌+◌, ◌*◌, ◌/◌, ◌%◌, ◌^◌, ◌≤◌, ◌<◌}
use native.Mathlib.Nat.{mul_comm, mul-le-mul_left, mul-zero}
use native.Mathlib.Omega.{arith}
use lib.Arith.{digits_div, digits_mod}
use lib.ListN.{drop, length, set, take}
use Rattle.laws.specs.Tables.{table}
use Rattle.laws.proofs.Filled.{Filled, filled_all, filled_four, filled_none, filled_two}
use Rattle.bcn_format.specs.Drawing.{weight_of}
use Rattle.bc7_fields.specs.Painting.{between}
use Rattle.bcn_format.specs.Drawing.{Weighed}
use Rattle.bc7_drawing.specs.declared.colour.Ends.{Ends}
use Rattle.bc7_drawing.specs.Asked.{Coloured, Mixable2, Shaded2}
use Rattle.bc7_drawing.specs.Words.{blend, blends, EndsOfBytes, endpoint, laned, Lanes, lanes_of, woven}
use Rattle.bc7_drawing.proofs.colour.Mixing.{blend_lt, blends_fit}
use Rattle.bc7_drawing.proofs.colour.Words.{fit_zip, lanes_laned}
use Rattle.bc7_drawing.specs.Colours.{keyed, lerped, shade}
use Rattle.bc7_drawing.proofs.palette.Weights.{between_is}

-- the colours of two subsets at a weight
mixed_lanes : (w x y : ℕ) → w ≤ 256 → {r : ℕ} → Lanes 8 x → Lanes 8 y → r ≡ laned (zip_with (blend w) (lanes_of x) (lanes_of y))
    → lanes_of r ≡ zip_with (blend w) (lanes_of x) (lanes_of y)
mixed_lanes w x y h p q e = ap lanes_of e ∙ lanes_laned (fit_zip 4 8 8 16 (blend w) (blend_lt w h) p q)

pub shades : (w : ℕ) (e : Ends) → w ≤ 256 → EndsOfBytes e → {rb ga : ℕ} {bytes : List ℕ}
    → rb ≡ laned (zip_with (blend w) (lanes_of e.rb0) (lanes_of e.rb1))
    → ga ≡ laned (zip_with (blend w) (lanes_of e.ga0) (lanes_of e.ga1)) → bytes ≡ woven (lanes_of rb) (lanes_of ga)
    → bytes ≡ shade e 0 w ++ shade e 1 w
unfolding shade endpoint lerped lanes_of zip_with
shades w e h b er eg ex =
    ex ∙ ap₂ woven (mixed_lanes w e.rb0 e.rb1 h b.rb0 b.rb1 er) (mixed_lanes w e.ga0 e.ga1 h b.ga0 b.ga1 eg)

-- each of two colours
module _ (b k : ℕ) (index : Weighed b k) {w : ℕ} (ew : w ≡ 4 * weight_of b k) (e : Ends) (l : ℕ) where
  pub shade_is : shade e l w ≡ between b (endpoint e l 0) (endpoint e l 1) k
  unfolding shade
  shade_is = between_is b k index ew (endpoint e l 0) (endpoint e l 1)

  pub low_is : {bytes p : List ℕ} (j v : ℕ) → bytes ≡ shade e l w ++ shade e j v → p ≡ take 4 bytes
      → p ≡ between b (endpoint e l 0) (endpoint e l 1) k
  unfolding shade
  low_is j v ex ep = ep ∙ ap (take 4) ex ∙ shade_is

  pub high_is : {bytes p : List ℕ} (j v : ℕ) → bytes ≡ shade e j v ++ shade e l w → p ≡ drop 4 bytes
      → p ≡ between b (endpoint e l 0) (endpoint e l 1) k
  unfolding shade
  high_is j v ex ep = ep ∙ ap (drop 4) ex ∙ shade_is

-- one colour at two weights
pub shades_2 : (w : ℕ) (e : Ends) → Shaded2 w e → e.rb0 < 2 ^ 64 → e.ga0 < 2 ^ 64 → e.rb1 < 2 ^ 64 → e.ga1 < 2 ^ 64
    → {rb ga : ℕ} {bytes : List ℕ}
    → rb ≡ laned (blends (w % 2 ^ 32) (w / 2 ^ 32) (lanes_of e.rb0) (lanes_of e.rb1))
    → ga ≡ laned (blends (w % 2 ^ 32) (w / 2 ^ 32) (lanes_of e.ga0) (lanes_of e.ga1))
    → bytes ≡ woven (lanes_of rb) (lanes_of ga) → bytes ≡ shade e 0 (w % 2 ^ 32) ++ shade e 0 (w / 2 ^ 32)
unfolding shade endpoint lerped
shades_2 w e s r0 g0 r1 g1 er eg ex =
    let rb : Mixable2 w e.rb0 e.rb1 = record { weights = s.weights; first = s.ends.rb0; second = s.ends.rb1 } in
    let ga : Mixable2 w e.ga0 e.ga1 = record { weights = s.weights; first = s.ends.ga0; second = s.ends.ga1 } in
    ex
    ∙ ap₂ woven (ap lanes_of er ∙ lanes_laned (blends_fit w e.rb0 e.rb1 r0 r1 rb))
    (ap lanes_of eg ∙ lanes_laned (blends_fit w e.ga0 e.ga1 g0 g1 ga))

-- the place of index k in subset l
pub keyed_at : (b t : ℕ) (ends : ℕ → ℕ → List ℕ) (k l : ℕ) → l < t → keyed b t ends (t * k + l) ≡ between b (ends l 0) (ends l 1) k
unfolding keyed
keyed_at b t ends k l h =
    ap₂ (λ (i j : ℕ). between b (ends i 0) (ends i 1) j)
    (ap (λ (x : ℕ). (x + l) % t) (mul_comm t k) ∙ digits_mod k h)
    (ap (λ (x : ℕ). (x + l) / t) (mul_comm t k) ∙ digits_div k h)

-- an index of a palette's colours
pub indexed : {b t n k : ℕ} → Coloured b t n → k < 2 ^ b → Weighed b k
indexed h l = record { least = h.least; most = h.most; within = l }

-- a loop that lays the colours of t subsets at each turn
module _ (n b t : ℕ) (ends : ℕ → ℕ → List ℕ) where
  pub record Laid (k : ℕ) (q : List (List ℕ)) : Type 0 where
    pub within : k ≤ n
    pub filled : Filled (t * n) [] (keyed b t ends) (t * k) q

  pub laid_none : {q : List (List ℕ)} → length q ≡ t * n → Laid 0 q
  laid_none e = record { within = omega arith; filled = rw (mul-zero t) (filled_none e) }

  pub laid_all : {k : ℕ} {q : List (List ℕ)} → Laid k q → n ≤ k → q ≡ table (t * n) (keyed b t ends)
  laid_all h l = filled_all h.filled (mul-le-mul_left t l)

placed : (b t : ℕ) (ends : ℕ → ℕ → List ℕ) (k l : ℕ) → l < t → {p : List ℕ} → p ≡ between b (ends l 0) (ends l 1) k → p ≡ keyed b t ends (t * k + l)
placed b t ends k l hl e = e ∙ sym (keyed_at b t ends k l hl)

module _ (n b : ℕ) (ends : ℕ → ℕ → List ℕ) {k : ℕ} {q : List (List ℕ)} (hk : k < n) where
  pub two_laid : {p0 p1 : List ℕ} → Laid n b 2 ends k q → p0 ≡ between b (ends 0 0) (ends 0 1) k → p1 ≡ between b (ends 1 0) (ends 1 1) k
      → Laid n b 2 ends (k + 1) (set (set q (2 * k) p0) (2 * k + 1) p1)
  two_laid h e0 e1 =
      record {
        within = omega arith;
        filled = filled_two k h.filled (omega arith)
            (placed b 2 ends k 0 (omega arith) e0 ∙ ap (keyed b 2 ends) (omega arith)) (placed b 2 ends k 1 (omega arith) e1);
      }

  pub four_laid : {p0 p1 p2 p3 : List ℕ} → Laid n b 4 ends k q → p0 ≡ between b (ends 0 0) (ends 0 1) k → p1 ≡ between b (ends 1 0) (ends 1 1) k
      → p2 ≡ between b (ends 2 0) (ends 2 1) k → p3 ≡ between b (ends 3 0) (ends 3 1) k
      → Laid n b 4 ends (k + 1) (set (set (set (set q (4 * k) p0) (4 * k + 1) p1) (4 * k + 2) p2) (4 * k + 3) p3)
  four_laid h e0 e1 e2 e3 =
      record {
        within = omega arith;
        filled = filled_four k h.filled (omega arith)
            (placed b 4 ends k 0 (omega arith) e0 ∙ ap (keyed b 4 ends) (omega arith)) (placed b 4 ends k 1 (omega arith) e1)
            (placed b 4 ends k 2 (omega arith) e2) (placed b 4 ends k 3 (omega arith) e3);
      }
