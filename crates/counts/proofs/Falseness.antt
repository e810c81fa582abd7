-- The ways of `false_refusal`, each by the ground that it looked at.
-- Assumes nothing.
use mathlib.Core.Path.{◌≡◌, sym, ◌∙◌}
use mathlib.Core.Logic.{◌≢◌, ◌⊎◌, ⊎_elim}
use mathlib.Core.Bool.{Bool, true, false}
use Prim.Native.Nat.{ℕ, ◌+◌, ◌<◌, ◌≤◌}
use native.Mathlib.Omega.{arith}
use Rattle.laws.specs.Counting.{sum}
use Rattle.laws.specs.Refusals.{here, then}
use Rattle.laws.proofs.Refusals.{accepted_when, exactly}
use Rattle.laws.proofs.Tests.{no_both}
use Rattle.count_rules.specs.declared.Counts.{Counts}
use Rattle.count_rules.specs.Keeping.{false_of, of_all_modes, of_mode}
use Rattle.count_rules.proofs.Refusing.{falsehood_of}

-- nine in three times three
pub nine_are : (n : Counts) {a b c : ℕ} → a ≡ of_mode n 0 + of_mode n 1 + of_mode n 2 → b ≡ of_mode n 3 + of_mode n 4 + of_mode n 5
    → c ≡ of_mode n 6 + of_mode n 7 + of_mode n 8 → a + b + c ≡ of_all_modes n
unfolding of_all_modes sum
nine_are n ea eb ec = omega (arith, ea, eb, ec)

module _ (n : Counts) (blocks mode : ℕ) (opaque : Bool) {t : ℕ} (et : t ≡ of_all_modes n) where
  pub sum_false : t ≢ blocks → 19 ≡ false_of blocks mode opaque n
  sum_false ne = sym ((exactly (falsehood_of blocks mode opaque n) 19).1 (here (λ e. ne (et ∙ e))))

  module _ (same : t ≡ blocks) where
    pub mode_false : of_mode n mode ≡ 0 → 19 ≡ false_of blocks mode opaque n
    mode_false z = sym ((exactly (falsehood_of blocks mode opaque n) 19).1 (then (sym et ∙ same) (here (λ ne. ne z))))

    module _ (some : of_mode n mode ≢ 0) where
      pub opaque_false : opaque ≡ true → n.opaque ≡ 0 → 19 ≡ false_of blocks mode opaque n
      opaque_false o z = sym ((exactly (falsehood_of blocks mode opaque n) 19).1 (then (sym et ∙ same) (then some (here (λ f. f o z)))))

      pub rest_false : opaque ≡ false → blocks ≤ n.opaque → 19 ≡ false_of blocks mode opaque n
      rest_false o l =
          sym ((exactly (falsehood_of blocks mode opaque n) 19).1
          (then (sym et ∙ same) (then some (then (λ x. absurd (no_both x o)) (here (λ f. let q = f o in omega arith))))))

      pub none_false : ((opaque ≡ true) × (n.opaque ≢ 0)) ⊎ (opaque ≡ false) → ((opaque ≡ false) × (n.opaque < blocks)) ⊎ (opaque ≡ true)
          → 0 ≡ false_of blocks mode opaque n
      none_false as_opaque as_not =
          sym ((accepted_when (falsehood_of blocks mode opaque n)).1
          (sym et ∙ same, (some, (λ x. ⊎_elim (λ w. w.1) (λ f. absurd (no_both x f)) as_opaque, (λ x. ⊎_elim (λ w. w.1) (λ t. absurd (no_both t x)) as_not, tt)))))
