-- Values that fit their widths, one by one.
-- Assumes nothing.
use mathlib.Core.Path.{◌≡◌, refl, ap}
use mathlib.Core.Bool.{true}
use mathlib.Core.List.{List}
use Prim.Native.Nat.{ℕ, zero, suc, ◌^◌, ◌<◌}
use native.Mathlib.Nat.{zero-lt-suc}
use lib.Dec.{ltb, ltb→lt, lt→ltb}
use lib.ListN.{length, get_or}
use Rattle.laws.specs.Digits.{Fit, none, more}
use Rattle.laws.specs.Tables.{below}
use Rattle.laws.proofs.Tests.{T_true, at, below_intro, true_T}

pub fit_length : {ws vs : List ℕ} → Fit ws vs → length vs ≡ length ws
fit_length none = refl
fit_length (more h f) = ap suc (fit_length f)

pub fit_get : {ws vs : List ℕ} → Fit ws vs → (i : ℕ) → get_or vs i 0 < 2 ^ get_or ws i 0
fit_get none i = zero-lt-suc 0
fit_get (more h f) zero = h
fit_get (more h f) (suc i) = fit_get f i

-- n values tested one by one
pub fits_all : (n : ℕ) (v w : ℕ → ℕ) → ((k : ℕ) → k < n → v k < 2 ^ w k) → below n (λ k. ltb (v k) (2 ^ w k)) ≡ true
fits_all n v w h = T_true _ (below_intro n (λ k. ltb (v k) (2 ^ w k)) (λ k l. lt→ltb _ _ (h k l)))

pub fits_each : (n : ℕ) (v w : ℕ → ℕ) → below n (λ k. ltb (v k) (2 ^ w k)) ≡ true → (k : ℕ) → k < n → v k < 2 ^ w k
fits_each n v w e k h = ltb→lt _ _ (at n (λ k. ltb (v k) (2 ^ w k)) (true_T _ e) k h)
