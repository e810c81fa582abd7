-- The endpoints of a subset, out of values that have a channel of both: what they show is what the mode's number has.
-- Assumes nothing.
use mathlib.Core.Path.{◌≡◌, refl, sym, ap, ap₂, ◌∙◌}
use mathlib.Core.Bool.{true, false}
use mathlib.Core.List.{[], ◌∷◌}
use Prim.Native.Nat.{ℕ, zero, suc, ◌+◌, ◌*◌, ◌/◌, ◌%◌, ◌^◌, ◌<◌}
use native.Mathlib.Nat.{add-zero, div-one, mod-mod, mul-add, mul-one, mul-zero}
use native.Mathlib.Omega.{arith}
use lib.Dec.{eqb}
use lib.ListN.{get_or}
use lib.Pow.{field as field_shr, mod-mod-pow, shr-shr}
use Rattle.laws.specs.Tables.{pick}
use Rattle.bcn_format.specs.Block.{field}
use Rattle.bcn_format.specs.Drawing.{promoted}
use Rattle.bc7_fields.specs.Painting.{end_of, end_of_p, solid}
use Rattle.bcn_format.proofs.Fields.{field_lt}
use Rattle.bc7_fields.specs.Fields.{end_byte, p_start, value_start}
use Rattle.bc7_format.specs.Lines.{eight}
use Rattle.bc7_format.specs.Modes.{alpha_bits, channel_bits, colour_bits, p_count}

-- a field of two values of b bits, and either of them
half : (n s b k : ℕ) → k < 2 → field (field n s (b + b)) (b * k) b ≡ field n (s + b * k) b
unfolding field
half n s b zero h =
    rw (mul-zero b)
    (ap (λ (x : ℕ). x % 2 ^ b) (div-one (n / 2 ^ s % 2 ^ (b + b))) ∙ mod-mod-pow (n / 2 ^ s) b b ∙ ap (λ (x : ℕ). n / 2 ^ x % 2 ^ b)
    (sym (add-zero s)))
half n s b (suc zero) h =
    rw (mul-one b)
    (ap (λ (x : ℕ). x % 2 ^ b) (field_shr (n / 2 ^ s) b b) ∙ mod-mod (n / 2 ^ s / 2 ^ b) (2 ^ b) ∙ ap (λ (x : ℕ). x % 2 ^ b) (shr-shr n s b))
half n s b (suc (suc k)) h = absurd (let z : ⊥ = omega arith in z)

-- a channel of an endpoint, from the field that has both endpoints of subset l, with and without p bits
module _ (m n l k c b : ℕ) (hk : k < 2) (width : channel_bits m c ≡ b) (some : eqb b 0 ≡ false) {v : ℕ}
    (read : v ≡ field n (value_start m c (2 * l)) (b + b)) where
  value_half : field v (b * k) b ≡ field n (value_start m c (2 * l + k)) (channel_bits m c)
  unfolding value_start
  value_half =
      let next : value_start m c (2 * l) + channel_bits m c * k ≡ value_start m c (2 * l + k) = omega (arith, mul-add (channel_bits m c) (2 * l) k) in
      ap (λ (v : ℕ). field v (b * k) b) read ∙ half n (value_start m c (2 * l)) b k hk
      ∙ ap₂ (field n) (ap (λ (w : ℕ). value_start m c (2 * l) + w * k) (sym width) ∙ next) (sym width)

  stored : eqb (p_count m) 0 ≡ true → end_of b k v ≡ end_byte m n (2 * l + k) c
  unfolding end_byte eight
  stored without = ap₂ promoted (sym width) value_half ∙ sym (rw (width, some, without))

  stored_p : eqb (p_count m) 0 ≡ false → (p : ℕ) → field p k 1 ≡ field n (p_start m (2 * l + k)) 1 → end_of_p b k v p ≡ end_byte m n (2 * l + k) c
  unfolding end_byte eight
  stored_p with_p_holds p ep =
      ap₂ promoted (ap (λ (w : ℕ). w + 1) (sym width)) (ap₂ (λ (x y : ℕ). x * 2 + y) value_half ep)
      ∙ sym (rw (width, some, with_p_holds))

-- and where the mode has none
unstored : (m n e c : ℕ) → channel_bits m c ≡ 0 → 255 ≡ end_byte m n e c
unfolding end_byte
unstored m n e c width = sym (rw width)

-- a bit twice
twice : (v k : ℕ) → v < 2 → k < 2 → field (3 * v) k 1 ≡ v
unfolding field
twice zero zero hv hk = refl
twice zero (suc zero) hv hk = refl
twice (suc zero) zero hv hk = refl
twice (suc zero) (suc zero) hv hk = refl
twice zero (suc (suc k)) hv hk = absurd (let z : ⊥ = omega arith in z)
twice (suc zero) (suc (suc k)) hv hk = absurd (let z : ⊥ = omega arith in z)
twice (suc (suc v)) k hv hk = absurd (let z : ⊥ = omega arith in z)

-- what a mode has read of subset l: the fields that have both endpoints. Alpha and p bits, which not every mode stores, are told apart
pub record Read (m n l r g b a p : ℕ) : Type 0 where
  pub red : r ≡ field n (value_start m 0 (2 * l)) (colour_bits m + colour_bits m)
  pub green : g ≡ field n (value_start m 1 (2 * l)) (colour_bits m + colour_bits m)
  pub blue : b ≡ field n (value_start m 2 (2 * l)) (colour_bits m + colour_bits m)

-- and the p bits: two of them, and in mode 1 one for both endpoints
abbrev pub ReadP : ℕ → ℕ → ℕ → ℕ → Type 0
ReadP m n l p = (k : ℕ) → k < 2 → field p k 1 ≡ field n (p_start m (2 * l + k)) 1

module _ (m n l : ℕ) {p : ℕ} where
  pub two_ps : eqb m 1 ≡ false → p ≡ field n (p_start m (2 * l)) 2 → ReadP m n l p
  unfolding p_start
  two_ps other e k hk =
      let one : k ≡ 1 * k = omega arith in
      ap₂ (λ (p s : ℕ). field p s 1) e one ∙ half n (p_start m (2 * l)) 1 k hk
      ∙ ap (λ (s : ℕ). field n s 1) (rw other (omega arith))

  pub one_p : eqb m 1 ≡ true → p ≡ 3 * field n (p_start m (2 * l)) 1 → ReadP m n l p
  unfolding p_start
  one_p first e k hk =
      ap (λ (p : ℕ). field p k 1) e ∙ twice (field n (p_start m (2 * l)) 1) k (field_lt n (p_start m (2 * l)) 1) hk
      ∙ ap (λ (s : ℕ). field n s 1) (rw first (omega arith))

-- endpoints as the mode's number has them
abbrev pub EndsShown : ℕ → ℕ → ℕ → (ℕ → ℕ → ℕ) → Type 0
EndsShown m n l f = (k c : ℕ) → k < 2 → c < 4 → f k c ≡ end_byte m n (2 * l + k) c

by_channel : (f g : ℕ → ℕ) → f 0 ≡ g 0 → f 1 ≡ g 1 → f 2 ≡ g 2 → f 3 ≡ g 3 → (c : ℕ) → c < 4 → f c ≡ g c
by_channel f g r gr b a zero h = r
by_channel f g r gr b a (suc zero) h = gr
by_channel f g r gr b a (suc (suc zero)) h = b
by_channel f g r gr b a (suc (suc (suc zero))) h = a
by_channel f g r gr b a (suc (suc (suc (suc c)))) h = absurd (let z : ⊥ = omega arith in z)

-- the values of the four channels
abbrev pub of : ℕ → ℕ → ℕ → ℕ → ℕ → ℕ
of r g b a c = get_or (r ∷ g ∷ b ∷ a ∷ []) c 0

module _ (m n : ℕ) {l r g b a p : ℕ} (some : eqb (colour_bits m) 0 ≡ false) (read : Read m n l r g b a p) where
  pub opaque_shown : alpha_bits m ≡ 0 → eqb (p_count m) 0 ≡ true → EndsShown m n l (solid (λ k c. end_of (colour_bits m) k (of r g b a c)))
  opaque_shown clear without k c hk hc =
      by_channel (solid (λ k c. end_of (colour_bits m) k (of r g b a c)) k) (end_byte m n (2 * l + k))
      (stored m n l k 0 (colour_bits m) hk refl some read.red without)
      (stored m n l k 1 (colour_bits m) hk refl some read.green without)
      (stored m n l k 2 (colour_bits m) hk refl some read.blue without)
      (unstored m n (2 * l + k) 3 clear) c hc

  -- alpha of a width of its own
  pub translucent_shown : eqb (alpha_bits m) 0 ≡ false → a ≡ field n (value_start m 3 (2 * l)) (alpha_bits m + alpha_bits m) → eqb (p_count m) 0 ≡ true
      → EndsShown m n l (λ k c. end_of (pick (eqb c 3) (alpha_bits m) (colour_bits m)) k (of r g b a c))
  translucent_shown some_alpha alpha without k c hk hc =
      by_channel (λ c. end_of (pick (eqb c 3) (alpha_bits m) (colour_bits m)) k (of r g b a c)) (end_byte m n (2 * l + k))
      (stored m n l k 0 (colour_bits m) hk refl some read.red without)
      (stored m n l k 1 (colour_bits m) hk refl some read.green without)
      (stored m n l k 2 (colour_bits m) hk refl some read.blue without)
      (stored m n l k 3 (alpha_bits m) hk refl some_alpha alpha without) c hc

  module _ (with_p_holds : eqb (p_count m) 0 ≡ false) (ps : ReadP m n l p) where
    pub opaque_p_shown : alpha_bits m ≡ 0 → EndsShown m n l (solid (λ k c. end_of_p (colour_bits m) k (of r g b a c) p))
    opaque_p_shown clear k c hk hc =
        by_channel (solid (λ k c. end_of_p (colour_bits m) k (of r g b a c) p) k) (end_byte m n (2 * l + k))
        (stored_p m n l k 0 (colour_bits m) hk refl some read.red with_p_holds p (ps k hk))
        (stored_p m n l k 1 (colour_bits m) hk refl some read.green with_p_holds p (ps k hk))
        (stored_p m n l k 2 (colour_bits m) hk refl some read.blue with_p_holds p (ps k hk))
        (unstored m n (2 * l + k) 3 clear) c hc

    pub translucent_p_shown : alpha_bits m ≡ colour_bits m → a ≡ field n (value_start m 3 (2 * l)) (colour_bits m + colour_bits m)
        → EndsShown m n l (λ k c. end_of_p (colour_bits m) k (of r g b a c) p)
    translucent_p_shown same alpha k c hk hc =
        by_channel (λ c. end_of_p (colour_bits m) k (of r g b a c) p) (end_byte m n (2 * l + k))
        (stored_p m n l k 0 (colour_bits m) hk refl some read.red with_p_holds p (ps k hk))
        (stored_p m n l k 1 (colour_bits m) hk refl some read.green with_p_holds p (ps k hk))
        (stored_p m n l k 2 (colour_bits m) hk refl some read.blue with_p_holds p (ps k hk))
        (stored_p m n l k 3 (colour_bits m) hk same some alpha with_p_holds p (ps k hk)) c hc
