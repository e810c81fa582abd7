-- From the mode of a block to what the block shows.
-- Assumes nothing.
use mathlib.Core.Path.{◌≡◌, refl, sym, ap, ap₂, ◌∙◌}
use mathlib.Core.Logic.{◌≢◌, ◌⊎◌, inl, inr}
use mathlib.Core.List.{List, [], ◌∷◌}
use Prim.Native.Nat.{ℕ, zero, suc, ◌%◌, ◌^◌, ◌≤◌, ◌<◌}
use native.Mathlib.Nat.{div-one}
use native.Mathlib.Omega.{arith}
use lib.Dec.{T, lit<}
use lib.ListN.{get_or, length, replicate}
use Rattle.laws.specs.Digits.{Fit}
use Rattle.laws.proofs.Digits.{split_join}
use Rattle.bcn_format.specs.Block.{eights, field, number, trailing}
use Rattle.bcn_format.specs.Partitions.{among}
use Rattle.bc7_format.specs.Modes.{mode_of}
use Rattle.bc7_format.specs.Lines.{pixels}
use Rattle.bc7_format.proofs.Subsets.{sixteen_bytes}
use Rattle.bc7_format.proofs.Modes.{mode_le_8}
use Rattle.bits.specs.Stream.{held}
use Rattle.bits.specs.declared.stream.BitStream.{BitStream}
use Rattle.bc7_fields.specs.Fields.{direct_pixels}
use Rattle.bc7_format.proofs.Reserved.{nothing_shown}
use Rattle.bc7_fields.proofs.Showing.{pixels_are}

-- the modes with three subsets, those with two, and none of the first eight
pub of_three : {n : ℕ} → (n ≡ 0) ⊎ (n ≡ 2) → T (among n (0 ∷ 2 ∷ [])) × (n < 8)
of_three (inl e) = rw e (tt, lit< tt)
of_three (inr e) = rw e (tt, lit< tt)

pub of_two : {n : ℕ} → (n ≡ 1) ⊎ (n ≡ 3) ⊎ (n ≡ 7) → T (among n (1 ∷ 3 ∷ 7 ∷ [])) × (n < 8)
of_two (inl e) = rw e (tt, lit< tt)
of_two (inr (inl e)) = rw e (tt, lit< tt)
of_two (inr (inr e)) = rw e (tt, lit< tt)

pub eight : (n : ℕ) → n ≤ 8 → ¬ ((n ≡ 0) ⊎ (n ≡ 2)) → ¬ ((n ≡ 1) ⊎ (n ≡ 3) ⊎ (n ≡ 7)) → n ≢ 4 → n ≢ 5 → n ≢ 6 → n ≡ 8
eight zero l three two h4 h5 h6 = absurd (three (inl refl))
eight (suc zero) l three two h4 h5 h6 = absurd (two (inl refl))
eight (suc (suc zero)) l three two h4 h5 h6 = absurd (three (inr refl))
eight (suc (suc (suc n))) l three two h4 h5 h6 =
    let h3 : suc (suc (suc n)) ≢ 3 = λ e. two (inr (inl e)) in
    let h7 : suc (suc (suc n)) ≢ 7 = λ e. two (inr (inr e)) in
    let z : suc (suc (suc n)) ≡ 8 = omega arith in z

module _ (bs : List ℕ) (size : length bs ≡ 16) (bytes : (i : ℕ) → get_or bs i 0 < 256) (s : BitStream) (of : held s ≡ number bs) (begins : s.at ≡ 0)
    {k m : ℕ} (counted : k ≡ trailing 8 (field (held s) s.at 8)) (is : k ≡ m) where
  sixteen : Fit eights bs
  sixteen = sixteen_bytes bs size (λ i h. bytes i)

  low_byte : field (held s) s.at 8 ≡ get_or bs 0 0
  unfolding field number
  low_byte = rw (of, begins) (ap (λ (x : ℕ). x % 2 ^ 8) (div-one (number bs)) ∙ ap (λ (l : List ℕ). get_or l 0 0) (split_join sixteen))

  mode : mode_of bs ≡ m
  unfolding mode_of
  mode = sym (ap (trailing 8) low_byte) ∙ sym counted ∙ is

  -- what the mode's function shows, and a reserved block
  pub by_mode : m < 8 → {r : List (List ℕ)} → r ≡ direct_pixels m (held s) → r ≡ pixels bs
  by_mode h er = er ∙ ap₂ direct_pixels (sym mode) of ∙ sym (pixels_are bs sixteen (rw mode h))

  pub by_none : m ≡ 8 → replicate 16 (replicate 4 0) ≡ pixels bs
  by_none e = sym (nothing_shown bs (mode ∙ e))

  pub mode_8 : m ≤ 8
  mode_8 = rw mode at (mode_le_8 bs)
