-- The reader behind so many numbers of a sheet; and where it has ended, no number behind changes it.
-- Assumes nothing.
use mathlib.Core.Path.{◌≡◌, ◌∙◌, ap, refl, sym}
use mathlib.Core.Bool.{true}
use mathlib.Core.List.{List}
use Prim.Native.Nat.{ℕ, zero, suc, ◌+◌}
use native.Mathlib.Omega.{arith}
use Rattle.head_rules.specs.Answers.{HeadReader}
use Rattle.head_rules.specs.Reader.{at_form, has_ended, next_number}
use Rattle.head_rules.proofs.Bytewise.{no_next}

unfoldable pub behind : List ℕ → ℕ → HeadReader
behind s zero = at_form
behind s (suc n) = next_number s (behind s n)

pub behind_ended : (s : List ℕ) (k i n : ℕ) → n ≡ k + i → has_ended (behind s i) ≡ true → behind s n ≡ behind s i
unfolding behind
behind_ended s zero i n e t = ap (behind s) (e ∙ omega arith)
behind_ended s (suc k) i zero e t = absurd (let q : ⊥ = omega (arith, e) in q)
behind_ended s (suc k) i (suc n) e t =
    ap (next_number s) (behind_ended s k i n (omega (arith, e)) t) ∙ sym (no_next s (behind s i) refl t)
