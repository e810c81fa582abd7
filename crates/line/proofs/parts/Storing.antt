-- A given line as it is stored, on the words of its indexes.
-- Assumes nothing.
use mathlib.Core.Path.{◌≡◌, refl, sym, ap, ◌∙◌}
use mathlib.Core.Bool.{Bool, true, false}
use Prim.Native.Nat.{ℕ, zero, suc, ◌+◌, ◌-◌, ◌*◌, ◌/◌, ◌%◌, ◌^◌, ◌≤◌, ◌<◌}
use native.Mathlib.Omega.{arith}
use borrow.Author.Tests.{eqb-false, eqb-true, le-leb, lt-leb, ltb-false, ltb-true}
use lib.Dec.{eqb}
use lib.ListN.{get_or}
use lib.Pow.{field as low_bits, le_ones, ones_sub-lt, pow_pos, shr-shr}
use Rattle.bc7_places.specs.declared.lines.LinePart.{LinePart}
use Rattle.line.specs.declared.parts.StoredLine.{StoredLine}
use Rattle.line_rules.specs.declared.Replacement.{Replacement}
use Rattle.bc7_format.specs.declared.Split.{Split}
use Rattle.laws.specs.Tables.{pick}
use Rattle.bcn_format.specs.Block.{field}
use Rattle.bc7_format.specs.Lines.{Line, line_bits, turned}
use Rattle.bc7_places.proofs.fits.Widths.{fit, unfit}
use Rattle.line_rules.specs.Replace.{line_given, oriented, top_set}
use Rattle.line.specs.Parts.{as_given, stored_as, turned_round}
use Rattle.bc7_places.specs.Lines.{own_pixel}
use Rattle.line.proofs.parts.Parts.{IsPart}
use Rattle.line.proofs.parts.Words.{Small, mask_part, word, word_part, word_plus, word_same}

-- the stored fields are those of the line o, and the word has its indexes at the line's pixels
pub record IsStored (x : LinePart) (st : StoredLine) (o : Line) : Type 0 where
  pub value : (k c : ℕ) → k < 2 → c < 4 → get_or st.endpoints (4 * k + c) 0 ≡ o.value k c
  pub p : (k : ℕ) → k < 2 → get_or st.p k 0 ≡ o.p k
  pub indexes : st.indexes ≡ word x.index (λ q. pick (own_pixel x.pixels q) (o.index q) 0)

module _ {m : ℕ} {s : Split} {l : ℕ} {x : LinePart} (is : IsPart m s l x) (g : Replacement) where
  abbrev w : ℕ
  w = x.index

  abbrev a : ℕ
  a = x.anchor

  abbrev own : ℕ → Bool
  own q = own_pixel x.pixels q

  abbrev v : ℕ → ℕ
  v q = get_or g.indexes q 0

  module _ (fits : Small w v) (kept : (q : ℕ) → q < 16 → pick (own q) (v q) 0 ≡ v q) where
    -- the top bit of the anchor's index decides
    top_is : field (word w v) (a * w + (w - 1)) 1 ≡ v a / 2 ^ (w - 1)
    unfolding field
    top_is =
        let e : 1 + (w - 1) ≡ w = omega (arith, is.least) in
        ap (λ (y : ℕ). y % 2 ^ 1) (sym (shr-shr (word w v) (a * w) (w - 1)))
        ∙ sym (low_bits (word w v / 2 ^ (a * w)) 1 (w - 1)) ∙ ap (λ (k : ℕ). word w v / 2 ^ (a * w) % 2 ^ k / 2 ^ (w - 1)) e
        ∙ ap (λ (y : ℕ). y / 2 ^ (w - 1)) (word_part w v fits a is.anchor_small)

    top_zero : field (word w v) (a * w + (w - 1)) 1 ≡ 0 → top_set m s l (line_given g) ≡ false
    unfolding line_given
    top_zero e = rw (← is.bits, ← is.anchor) (lt-leb (2 ^ (w - 1)) (v a) (ltb-true _ _ (fit (v a) (w - 1) (sym top_is ∙ e))))

    top_one : (field (word w v) (a * w + (w - 1)) 1 ≡ 0 → ⊥) → top_set m s l (line_given g) ≡ true
    unfolding line_given
    top_one n = rw (← is.bits, ← is.anchor) (le-leb (2 ^ (w - 1)) (v a) (ltb-false _ _ (unfit (v a) (w - 1) (λ z. n (top_is ∙ z)))))

    -- last - i at each pixel of the line is one subtraction
    abbrev last_less : ℕ → ℕ
    last_less q = pick (own q) (2 ^ w - 1 - v q) 0

    whole_mask : word w (mask_part x) ≡ word w last_less + word w v
    whole_mask =
        word_same w (mask_part x) (λ q. last_less q + v q) (λ q h. go (own q) (kept q h) (le_ones w (fits q h)))
        ∙ word_plus w last_less v (λ q h. small (own q) q) fits
      where
        go : (b : Bool) {z : ℕ} → pick b z 0 ≡ z → z ≤ 2 ^ w - 1 → pick b (2 ^ w - 1) 0 ≡ pick b (2 ^ w - 1 - z) 0 + z
        go true k h = omega arith
        go false k h = omega arith

        small : (b : Bool) (q : ℕ) → pick b (2 ^ w - 1 - v q) 0 < 2 ^ w
        small true q = ones_sub-lt w (v q)
        small false q = pow_pos w

    pub mask_above : word w v ≤ word w (mask_part x)
    mask_above = omega (arith, whole_mask)

    turned_word : word w (mask_part x) - word w v ≡ word w last_less
    turned_word = omega (arith, whole_mask)

    as_given_is : IsStored x (as_given g (word w v)) (line_given g)
    unfolding line_given
    as_given_is = record { value = λ k c hk hc. refl; p = λ k hk. refl; indexes = word_same w _ _ (λ q h. sym (kept q h)) }

    -- the pair turned: endpoint k is endpoint 1 - k
    turned_round_is : IsStored x (turned_round g (word w (mask_part x) - word w v)) (turned (line_bits m s l) (line_given g))
    unfolding turned line_given
    turned_round_is = record {
      value = value;
      p = p;
      indexes = turned_word ∙ ap (λ (b : ℕ). word w (λ q. pick (own q) (2 ^ b - 1 - v q) 0)) is.bits;
    }
      where
        es : ℕ → ℕ
        es i = get_or g.endpoints i 0

        four : (k c : ℕ) → c < 4 → (f : ℕ → ℕ) → f 0 ≡ es (4 * (1 - k) + 0) → f 1 ≡ es (4 * (1 - k) + 1) → f 2 ≡ es (4 * (1 - k) + 2)
            → f 3 ≡ es (4 * (1 - k) + 3) → f c ≡ es (4 * (1 - k) + c)
        four k zero h f e0 e1 e2 e3 = e0
        four k (suc zero) h f e0 e1 e2 e3 = e1
        four k (suc (suc zero)) h f e0 e1 e2 e3 = e2
        four k (suc (suc (suc zero))) h f e0 e1 e2 e3 = e3
        four k (suc (suc (suc (suc c)))) h f e0 e1 e2 e3 = absurd (let y : ⊥ = omega arith in y)

        value : (k c : ℕ) → k < 2 → c < 4 → get_or (turned_round g (word w (mask_part x) - word w v)).endpoints (4 * k + c) 0 ≡ es (4 * (1 - k) + c)
        value zero c hk hc = four 0 c hc (λ c. get_or (turned_round g (word w (mask_part x) - word w v)).endpoints (4 * 0 + c) 0) refl refl refl refl
        value (suc zero) c hk hc =
            four 1 c hc (λ c. get_or (turned_round g (word w (mask_part x) - word w v)).endpoints (4 * 1 + c) 0) refl refl refl refl
        value (suc (suc k)) c hk hc = absurd (let y : ⊥ = omega arith in y)

        p : (k : ℕ) → k < 2 → get_or (turned_round g (word w (mask_part x) - word w v)).p k 0 ≡ get_or g.p (1 - k) 0
        p zero hk = refl
        p (suc zero) hk = refl
        p (suc (suc k)) hk = absurd (let y : ⊥ = omega arith in y)

    pub is_stored : {st : StoredLine} → st ≡ stored_as x g (word w v) (word w (mask_part x)) → IsStored x st (oriented m s l (line_given g))
    unfolding stored_as oriented
    is_stored e = rw e (go (eqb (field (word w v) (a * w + (w - 1)) 1) 0) refl)
      where
        go : (b : Bool) → eqb (field (word w v) (a * w + (w - 1)) 1) 0 ≡ b
            → IsStored x (pick b (as_given g (word w v)) (turned_round g (word w (mask_part x) - word w v)))
            (pick (top_set m s l (line_given g)) (turned (line_bits m s l) (line_given g)) (line_given g))
        go true t = rw (top_zero (eqb-true _ 0 t)) as_given_is
        go false t = rw (top_one (eqb-false _ 0 t)) turned_round_is
