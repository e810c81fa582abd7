-- Powers of two on both sides of a width, and what is widened.
-- Assumes nothing.
use Rattle.std.proofs.Common.{◌≡◌, ℕ, suc, ◌+◌, ◌-◌, ◌*◌, ◌/◌, ◌^◌, ◌<◌, ◌≤◌, Bool, true, false, eqb, ltb, ◌⊎◌, sym, refl, ap, ◌∙◌, inl, inr, ⊎_elim, mul-le-mul_right, mul_assoc, suc-mul, add-mul, arith, pow_mono, pow-add, ltb-false, le-ltb, lt-ltb, eq-eqb, ne_eqb}
use native.Mathlib.Decide.{ℕ_discrete}
use lib.Pow.{shl-shr}
use Rattle.laws.specs.Tables.{pick}
use Rattle.laws.proofs.Cases.{lt_or}
use Rattle.bc6h_format.specs.Widening.{widened_signed, widened_size, widened_unsigned}
use Rattle.bc6h_values.specs.Asked.{Narrow}
use Rattle.bc6h_values.proofs.Words.{twice}

-- two powers that together have k bits
pub together : (a b k : ℕ) → a + b ≡ k → 2 ^ a * 2 ^ b ≡ 2 ^ k
together a b k e = sym (pow-add 2 a b) ∙ ap (λ (n : ℕ). 2 ^ n) e

-- a value moved up by what its width leaves of sixteen bits has room for one more of the lowest place
pub room : (w v : ℕ) → w ≤ 16 → v < 2 ^ w → v * 2 ^ (16 - w) + 2 ^ (16 - w) ≤ 65536
room w v l h =
    let p : suc v * 2 ^ (16 - w) ≤ 2 ^ w * 2 ^ (16 - w) = mul-le-mul_right (2 ^ (16 - w)) h in
    let q = together w (16 - w) 16 (omega arith) in
    let s = suc-mul v (2 ^ (16 - w)) in
    omega (arith, p, q, s)

-- the lowest place is two halves
pub halves : (w : ℕ) → w ≤ 15 → 2 ^ (16 - w) ≡ 2 ^ (15 - w) + 2 ^ (15 - w)
halves w l = let e : 16 - w - 1 ≡ 15 - w = omega arith in rw e at (twice (16 - w) (omega arith))

scaled : (a u h p x y : ℕ) → u * p ≡ x → h * p ≡ y → (a * u + h) * p ≡ a * x + y
scaled a u h p x y e f =
    add-mul (a * u) h p ∙ (ap (λ (z : ℕ). z + h * p) (mul_assoc a u p ∙ ap (λ (z : ℕ). a * z) e) ∙ ap (λ (z : ℕ). a * x + z) f)

divided : (k a u h x y : ℕ) → u * 2 ^ k ≡ x → h * 2 ^ k ≡ y → (a * x + y) / 2 ^ k ≡ a * u + h
divided k a u h x y e f = ap (λ (z : ℕ). z / 2 ^ k) (sym (scaled a u h (2 ^ k) x y e f)) ∙ shl-shr (a * u + h) k

pub unsigned_law : (v w : ℕ) → Narrow v w
    → pick (eqb v 0) 0 (pick (eqb v (2 ^ w - 1)) 65535 (v * 2 ^ (16 - w) + 2 ^ (15 - w))) ≡ widened_unsigned w v
unfolding widened_unsigned
unsigned_law v w n =
    rw (le-ltb 14 w n.most)
    (ap (λ (z : ℕ). pick (eqb v 0) 0 (pick (eqb v (2 ^ w - 1)) 65535 z))
    (sym (divided w v (2 ^ (16 - w)) (2 ^ (15 - w)) 65536 32768 (together (16 - w) w 16 (let m = n.most in omega arith))
    (together (15 - w) w 15 (let m = n.most in omega arith)))))

-- what the code makes of the value as z more
abbrev pub away : ℕ → ℕ → ℕ → ℕ → ℕ
away z u h x =
    pick (ltb x 2) 1
    (pick (eqb x z) 32768
    (pick (ltb x z) (x * u - pick (ltb x 2) 0 h) (pick (eqb x (z + z - 1)) 65535 (x * u + h))))

size_none : (w : ℕ) → w ≤ 14 → widened_size w 0 ≡ 0
unfolding widened_size
size_none w l = rw (le-ltb 15 w (let y : w ≤ 15 = omega arith in y))

size_some : (w a : ℕ) → w ≤ 14 → 1 ≤ w → 0 < a → a < 2 ^ (w - 1) - 1 → widened_size w a ≡ a * 2 ^ (16 - w) + 2 ^ (15 - w)
unfolding widened_size
size_some w a l m p h =
    rw (le-ltb 15 w (let y : w ≤ 15 = omega arith in y), ne_eqb a 0 (λ z. let y : ⊥ = omega arith in y), lt-ltb a (2 ^ (w - 1) - 1) h)
    (divided (w - 1) a (2 ^ (16 - w)) (2 ^ (15 - w)) 32768 16384 (together (16 - w) (w - 1) 15 (omega arith))
    (together (15 - w) (w - 1) 14 (omega arith)))

size_most : (w a : ℕ) → w ≤ 14 → 0 < a → 2 ^ (w - 1) - 1 ≤ a → widened_size w a ≡ 32767
unfolding widened_size
size_most w a l p h =
    rw (le-ltb 15 w (let y : w ≤ 15 = omega arith in y), ne_eqb a 0 (λ z. let y : ⊥ = omega arith in y), le-ltb a (2 ^ (w - 1) - 1) h)

signed_above : (w v : ℕ) → v < 2 ^ (w - 1) → 32768 + widened_size w v ≡ widened_signed w v
unfolding widened_signed
signed_above w v h = rw (lt-ltb v (2 ^ (w - 1)) h)

signed_below : (w v : ℕ) → 2 ^ (w - 1) ≤ v → 32768 - widened_size w (2 ^ w - v) ≡ widened_signed w v
unfolding widened_signed
signed_below w v h = rw (le-ltb v (2 ^ (w - 1)) h)

module _ (v w : ℕ) (n : Narrow v w) (x : ℕ) where
  pub two_at_least : 2 ≤ 2 ^ (w - 1)
  two_at_least = pow_mono {i = 1} {j = w - 1} (let l = n.least in omega arith)

  pub whole : 2 ^ w ≡ 2 ^ (w - 1) + 2 ^ (w - 1)
  whole = twice w (let l = n.least in omega arith)

  unit : 2 ^ (w - 1) * 2 ^ (16 - w) ≡ 32768
  unit = together (w - 1) (16 - w) 15 (let l = n.least in let m = n.most in omega arith)

  -- zero and more
  upper : v < 2 ^ (w - 1) → x ≡ v + 2 ^ (w - 1) → away (2 ^ (w - 1)) (2 ^ (16 - w)) (2 ^ (15 - w)) x ≡ widened_signed w v
  upper l e = rw (le-ltb x 2 (omega (arith, two_at_least))) (go (ℕ_discrete v 0)) ∙ signed_above w v l
    where
      last : Dec (v ≡ 2 ^ (w - 1) - 1) → 0 < v
          → pick (eqb x (2 ^ (w - 1) + 2 ^ (w - 1) - 1)) 65535 (x * 2 ^ (16 - w) + 2 ^ (15 - w)) ≡ 32768 + widened_size w v
      last (yes p) s =
          rw (eq-eqb x (2 ^ (w - 1) + 2 ^ (w - 1) - 1) (omega arith), size_most w v n.most s (omega arith))
      last (no p) s =
          rw (
            ne_eqb x (2 ^ (w - 1) + 2 ^ (w - 1) - 1) (λ q. p (omega arith)),
            size_some w v n.most
                (let y = n.least in omega arith) s (omega arith),
          )
          (let d : (v + 2 ^ (w - 1)) * 2 ^ (16 - w) ≡ v * 2 ^ (16 - w) + 2 ^ (w - 1) * 2 ^ (16 - w) = add-mul v (2 ^ (w - 1)) (2 ^ (16 - w)) in
          let f : x * 2 ^ (16 - w) ≡ (v + 2 ^ (w - 1)) * 2 ^ (16 - w) = ap (λ (y : ℕ). y * 2 ^ (16 - w)) e in
          let y : x * 2 ^ (16 - w) + 2 ^ (15 - w) ≡ 32768 + (v * 2 ^ (16 - w) + 2 ^ (15 - w)) = omega (arith, d, f, unit) in y)

      go : Dec (v ≡ 0)
          → pick (eqb x (2 ^ (w - 1))) 32768
          (pick (ltb x (2 ^ (w - 1))) (x * 2 ^ (16 - w) - 2 ^ (15 - w))
          (pick (eqb x (2 ^ (w - 1) + 2 ^ (w - 1) - 1)) 65535 (x * 2 ^ (16 - w) + 2 ^ (15 - w))))
          ≡ 32768 + widened_size w v
      go (yes p) = rw (eq-eqb x (2 ^ (w - 1)) (omega arith), p, size_none w n.most)
      go (no p) =
          rw (ne_eqb x (2 ^ (w - 1)) (λ q. p (omega arith)), le-ltb x (2 ^ (w - 1)) (omega arith))
          (last (ℕ_discrete v (2 ^ (w - 1) - 1)) (omega arith))

  -- below zero
  lower : 2 ^ (w - 1) ≤ v → x ≡ v - 2 ^ (w - 1) → away (2 ^ (w - 1)) (2 ^ (16 - w)) (2 ^ (15 - w)) x ≡ widened_signed w v
  lower l e = go (lt_or x 2) ∙ signed_below w v l
    where
      inside : x < 2 ^ (w - 1)
      inside = let f = n.fits in omega (arith, whole, f)

      a : 2 ^ w - v ≡ 2 ^ (w - 1) - x
      a = omega (arith, whole, inside)

      go : (x < 2) ⊎ (2 ≤ x) → away (2 ^ (w - 1)) (2 ^ (16 - w)) (2 ^ (15 - w)) x ≡ 32768 - widened_size w (2 ^ w - v)
      go (inl s) =
          rw (lt-ltb x 2 s, a, size_most w (2 ^ (w - 1) - x) n.most (omega (arith, inside)) (omega arith))
      go (inr s) =
          rw (
            le-ltb x 2 s,
            ne_eqb x (2 ^ (w - 1)) (λ q. omega (arith, inside, q)),
            lt-ltb x (2 ^ (w - 1)) inside,
            a,
            size_some w (2 ^ (w - 1) - x) n.most (let y = n.least in omega arith) (omega (arith, inside)) (omega (arith, inside)),
          )
          (let d : (2 ^ (w - 1) - x + x) * 2 ^ (16 - w) ≡ (2 ^ (w - 1) - x) * 2 ^ (16 - w) + x * 2 ^ (16 - w) =
          add-mul (2 ^ (w - 1) - x) x (2 ^ (16 - w)) in
          let f : (2 ^ (w - 1) - x + x) * 2 ^ (16 - w) ≡ 2 ^ (w - 1) * 2 ^ (16 - w) =
          ap (λ (y : ℕ). y * 2 ^ (16 - w)) (let y : 2 ^ (w - 1) - x + x ≡ 2 ^ (w - 1) = omega (arith, inside) in y) in
          let y : x * 2 ^ (16 - w) - 2 ^ (15 - w) ≡ 32768 - ((2 ^ (w - 1) - x) * 2 ^ (16 - w) + 2 ^ (15 - w)) = omega (arith, d, f, unit) in y)

  pub signed_law : (v < 2 ^ (w - 1) → x ≡ v + 2 ^ (w - 1)) × (2 ^ (w - 1) ≤ v → x ≡ v - 2 ^ (w - 1))
      → away (2 ^ (w - 1)) (2 ^ (16 - w)) (2 ^ (15 - w)) x ≡ widened_signed w v
  signed_law r = ⊎_elim (λ l. upper l (r.0 l)) (λ l. lower l (r.1 l)) (lt_or v (2 ^ (w - 1)))

  -- where the value stands
  pub within : (v < 2 ^ (w - 1) → x ≡ v + 2 ^ (w - 1)) × (2 ^ (w - 1) ≤ v → x ≡ v - 2 ^ (w - 1)) → x < 2 ^ w
  within r =
      ⊎_elim (λ l. let e = r.0 l in omega (arith, whole, e, l)) (λ l. let e = r.1 l in let f = n.fits in omega (arith, whole, e, f))
      (lt_or v (2 ^ (w - 1)))

-- what is taken away is there
pub half_there : (x u h : ℕ) → h ≤ u → pick (ltb x 2) 0 h ≤ x * u
half_there x u h l = go (ltb x 2) refl
  where
    go : (b : Bool) → ltb x 2 ≡ b → pick b 0 h ≤ x * u
    go true e = omega arith
    go false e = let p : 2 * u ≤ x * u = mul-le-mul_right u (ltb-false x 2 e) in omega (arith, p)
