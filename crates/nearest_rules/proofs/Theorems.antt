-- WHAT IS PROVED OF THE NEAREST INDEX AND OF THE ONE THAT HITS, in one place. `Fit eights bs` says that bs is sixteen bytes.
-- Assumes nothing.
use mathlib.Core.Path.{◌≡◌, refl, sym, ap, ap₂, ◌∙◌}
use mathlib.Core.Logic.{◌↔◌}
use mathlib.Core.Bool.{Bool, true, false}
use mathlib.Core.List.{List}
use Prim.Native.Nat.{ℕ, zero, suc, ◌+◌, ◌-◌, ◌*◌, ◌≤◌, ◌<◌}
use native.Mathlib.Nat.{mul-suc}
use native.Mathlib.Omega.{arith}
use borrow.Author.Tests.{eq-eqb}
use lib.Dec.{lit<}
use lib.ListN.{get_or}
use lib.Pow.{pow_pos}
use Rattle.std.specs.Prelude.{Result}
use Rattle.refusals.specs.declared.Refusal.{Refusal}
use Rattle.refusals.proofs.Answers.{answer_fixes}
use Rattle.laws.specs.Digits.{Fit}
use Rattle.laws.specs.Refusals.{Given}
use Rattle.laws.specs.Tables.{pick}
use Rattle.laws.proofs.Refusals.{accepted_when, exactly}
use Rattle.bcn_format.specs.Block.{eights}
use Rattle.bc7_format.specs.Modes.{mode_of}
use Rattle.bc7_format.specs.Splits.{split_of}
use Rattle.bc7_format.specs.Lines.{draws, line_bits, line_of, pixel}
use Rattle.bc7_format.specs.Places.{opened}
use Rattle.line_rules.specs.Replace.{after, call_of, refusal}
use Rattle.nearest_rules.specs.Promises.{FindsExact, FindsNearest}
use Rattle.nearest_rules.specs.Nearest.{Hit, channel_distance, correction, distance, drawn_with, exact_index, exact_refusal, exact_rules}
use Rattle.nearest_rules.specs.Nearest.{index_count, least_at, nearest_index, nearest_refusal, nearest_rules, squared, zero_at}
use Rattle.nearest_rules.proofs.Correcting.{correction_accepted, correction_draws, stored_below, stored_draws}
use Rattle.nearest_rules.proofs.Finding.{exact_answers, nearest_answers}
use Rattle.nearest_rules.proofs.Least.{Least, least_at_is, zero_is_least}

-- each refusal number is given exactly when its rule is the first that fails
pub nearest_refused_when : (bs : List ℕ) → Fit eights bs → (l q : ℕ) (wanted : List ℕ) (n : ℕ)
    → ((nearest_index bs l q wanted).refusal ≡ n) ↔ Given (nearest_rules bs l q) n
unfolding nearest_index
nearest_refused_when bs h l q wanted = exactly (nearest_answers bs h l q)

-- 14 where no index has distance 0
pub exact_refused_when : (bs : List ℕ) → Fit eights bs → (l q : ℕ) (wanted : List ℕ) (n : ℕ)
    → ((exact_index bs l q wanted).refusal ≡ n) ↔ Given (exact_rules bs l q wanted) n
unfolding exact_index
exact_refused_when bs h l q wanted = exactly (exact_answers bs h l q wanted)

-- so it is accepted exactly where the nearest index is and some index has distance 0
pub exact_when : (bs : List ℕ) → Fit eights bs → (l q : ℕ) (wanted : List ℕ)
    → ((exact_index bs l q wanted).refusal ≡ 0) ↔ (((nearest_index bs l q wanted).refusal ≡ 0) × Hit bs l q wanted)
unfolding exact_index nearest_index
exact_when bs h l q wanted = (there, back)
  where
    there : exact_refusal bs l q wanted ≡ 0 → (nearest_refusal bs l q ≡ 0) × Hit bs l q wanted
    there ok =
        let m = (accepted_when (exact_answers bs h l q wanted)).0 ok in
        ((accepted_when (nearest_answers bs h l q)).1 (m.0, (m.1.0, (m.1.1.0, tt))), m.1.1.1.0)

    back : (nearest_refusal bs l q ≡ 0) × Hit bs l q wanted → exact_refusal bs l q wanted ≡ 0
    back (ok, hit) =
        let m = (accepted_when (nearest_answers bs h l q)).0 ok in
        (accepted_when (exact_answers bs h l q wanted)).1 (m.0, (m.1.0, (m.1.1.0, (hit, tt))))

module _ (bs : List ℕ) (l q : ℕ) (wanted : List ℕ) where
  abbrev d : ℕ → ℕ
  d = distance bs l q wanted

  abbrev near : ℕ
  near = (nearest_index bs l q wanted).value

  abbrev exact : ℕ
  exact = (exact_index bs l q wanted).value

  module _ (ok : (nearest_index bs l q wanted).refusal ≡ 0) where
    near_is : near ≡ least_at (index_count bs l) d
    unfolding nearest_index
    near_is = ap (λ (b : Bool). pick b (least_at (index_count bs l) d) 0) (eq-eqb (nearest_refusal bs l q) 0 ok)

    is_least : Least (index_count bs l) d near
    unfolding index_count
    is_least = rw near_is (least_at_is (index_count bs l) d (pow_pos (line_bits (mode_of bs) (split_of bs) l)))

    -- an index of the line's width, to which none is nearer, and of those as near the lowest
    pub nearest_is_an_index : near < index_count bs l
    nearest_is_an_index = is_least.below

    pub nearest_is_least : (i : ℕ) → i < index_count bs l → d near ≤ d i
    nearest_is_least = is_least.least

    pub nearest_is_lowest : (i : ℕ) → i < near → d near < d i
    nearest_is_lowest = is_least.lowest

  -- where an index hits, the wanted colour is drawn by it, and it is the nearest
  module _ (ok : (exact_index bs l q wanted).refusal ≡ 0) (sixteen : Fit eights bs) where
    exact_is : exact ≡ zero_at (index_count bs l) d
    unfolding exact_index
    exact_is = ap (λ (b : Bool). pick b (zero_at (index_count bs l) d) 0) (eq-eqb (exact_refusal bs l q wanted) 0 ok)

    accepted : ((nearest_index bs l q wanted).refusal ≡ 0) × Hit bs l q wanted
    accepted = (exact_when bs sixteen l q wanted).0 ok

    pub exact_is_nearest : ((nearest_index bs l q wanted).refusal ≡ 0) × (exact ≡ near)
    exact_is_nearest =
        let h = accepted.1 in
        let near_hits : d near ≡ 0 = le_zero (nearest_is_least accepted.0 h.index h.below) h.hits in
        (accepted.0, exact_is ∙ zero_is_least (index_count bs l) d (is_least accepted.0) near_hits)
      where
        le_zero : {a b : ℕ} → a ≤ b → b ≡ 0 → a ≡ 0
        le_zero h e = omega arith

    pub exact_hits : (exact < index_count bs l) × (d exact ≡ 0) × ((i : ℕ) → i < exact → 0 < d i)
    exact_hits =
        let (ok', e) = exact_is_nearest in
        let h = accepted.1 in
        let n : d near ≡ 0 = omega (arith, nearest_is_least ok' h.index h.below, h.hits) in
        rw e (nearest_is_an_index ok', n, λ i l. let z : 0 < d i = omega (arith, nearest_is_lowest ok' i l) in z)

-- THE TIE TO REPLACING A LINE: the line as it stands with index i at the pixel is accepted, turned or not, and the pixel shows the
-- colour whose distance was measured
pub record Draws (bs : List ℕ) (l q i : ℕ) : Type 0 where
  pub accepted : refusal bs (call_of l (correction bs l q i)) ≡ 0
  pub shown : (c : ℕ) → c < 4 → draws (mode_of bs) (split_of bs) l q c ≡ true
      → pixel (after bs (call_of l (correction bs l q i))) q c ≡ drawn_with bs l q i c

pub measured_is_drawn : (bs : List ℕ) → Fit eights bs → (l q : ℕ) → nearest_refusal bs l q ≡ 0 → (i : ℕ) → i < index_count bs l → Draws bs l q i
measured_is_drawn bs h l q ok i b = record { accepted = correction_accepted bs h l q ok i b; shown = correction_draws bs h l q ok i b }

-- a square is zero where the number is
square_0 : (x : ℕ) → x * x ≡ 0 → x ≡ 0
square_0 zero h = refl
square_0 (suc x) h = absurd (let z : ⊥ = omega (arith, mul-suc (suc x) x) in z)

squared_0 : (a b : ℕ) → squared a b ≡ 0 → a ≡ b
unfolding squared
squared_0 a b e =
    let p : a - b ≡ 0 = square_0 (a - b) (let z : (a - b) * (a - b) ≡ 0 = omega (arith, e) in z) in
    let n : b - a ≡ 0 = square_0 (b - a) (let z : (b - a) * (b - a) ≡ 0 = omega (arith, e) in z) in
    omega arith

squared_same : (a b : ℕ) → a ≡ b → squared a b ≡ 0
unfolding squared
squared_same a b e =
    let p : a - b ≡ 0 = omega arith in
    let n : b - a ≡ 0 = omega arith in
    ap₂ (λ (x y : ℕ). x * x + y * y) p n

-- each channel of a distance
channel : (bs : List ℕ) (l q : ℕ) (wanted : List ℕ) (i : ℕ) → distance bs l q wanted i ≡ 0 → (c : ℕ) → c < 4 → channel_distance bs l q wanted i c ≡ 0
unfolding distance
channel bs l q wanted i e zero hc = omega arith
channel bs l q wanted i e (suc zero) hc = omega arith
channel bs l q wanted i e (suc (suc zero)) hc = omega arith
channel bs l q wanted i e (suc (suc (suc zero))) hc = omega arith
channel bs l q wanted i e (suc (suc (suc (suc c)))) hc = absurd (let z : ⊥ = omega arith in z)

-- so after the correction by the index that hits, the pixel shows what was wanted
pub hit_is_shown : (bs : List ℕ) → Fit eights bs → (l q : ℕ) (wanted : List ℕ) → (exact_index bs l q wanted).refusal ≡ 0
    → (c : ℕ) → c < 4 → draws (mode_of bs) (split_of bs) l q c ≡ true
    → pixel (after bs (call_of l (correction bs l q (exact_index bs l q wanted).value))) q c ≡ get_or wanted c 0
unfolding channel_distance nearest_index
hit_is_shown bs h l q wanted ok c hc dr =
    let (below, zero_there, before) = exact_hits bs l q wanted ok h in
    let i = (exact_index bs l q wanted).value in
    let e : channel_distance bs l q wanted i c ≡ 0 = channel bs l q wanted i zero_there c hc in
    (measured_is_drawn bs h l q (exact_is_nearest bs l q wanted ok h).0 i below).shown c hc dr
    ∙ squared_0 _ _ (sym (ap (λ (b : Bool). pick b (squared (drawn_with bs l q i c) (get_or wanted c 0)) 0) dr) ∙ e)

-- a colour that the line shows at the pixel is hit
pub shown_is_hit : (bs : List ℕ) → Fit eights bs → (l q : ℕ) (wanted : List ℕ) → (nearest_index bs l q wanted).refusal ≡ 0
    → ((c : ℕ) → c < 4 → draws (mode_of bs) (split_of bs) l q c ≡ true → get_or wanted c 0 ≡ pixel bs q c)
    → (exact_index bs l q wanted).refusal ≡ 0
unfolding nearest_index exact_index distance channel_distance
shown_is_hit bs h l q wanted ok same = (exact_when bs h l q wanted).1 (ok, hit)
  where
    i : ℕ
    i = (line_of (mode_of bs) (split_of bs) l (opened bs)).index q

    none : (c : ℕ) → c < 4 → pick (draws (mode_of bs) (split_of bs) l q c) (squared (drawn_with bs l q i c) (get_or wanted c 0)) 0 ≡ 0
    none c hc = go (draws (mode_of bs) (split_of bs) l q c) refl
      where
        go : (b : Bool) → draws (mode_of bs) (split_of bs) l q c ≡ b → pick b (squared (drawn_with bs l q i c) (get_or wanted c 0)) 0 ≡ 0
        go true e = squared_same _ _ (stored_draws bs h l q ok c hc e ∙ sym (same c hc e))
        go false e = refl

    hit : Hit bs l q wanted
    hit = record {
      index = i;
      below = stored_below bs h l q ok;
      hits = omega (arith, none 0 (lit< tt), none 1 (lit< tt), none 2 (lit< tt), none 3 (lit< tt));
    }

-- DEMAND 1: any two answers that the promises of the calls admit coincide
pub determined_nearest : (bs : List ℕ) (l q : ℕ) (wanted : List ℕ) (a b : Result ℕ Refusal)
    → FindsNearest bs l q wanted a → FindsNearest bs l q wanted b → a ≡ b
determined_nearest bs l q wanted a b ea eb = answer_fixes 0 a b (ea ∙ sym eb)

pub determined_exact : (bs : List ℕ) (l q : ℕ) (wanted : List ℕ) (a b : Result ℕ Refusal)
    → FindsExact bs l q wanted a → FindsExact bs l q wanted b → a ≡ b
determined_exact bs l q wanted a b ea eb = answer_fixes 0 a b (ea ∙ sym eb)
