-- How many bits the endpoints of a mode have.
-- Assumes nothing.
use mathlib.Core.Path.{◌≡◌, refl}
use mathlib.Core.Logic.{◌⊎◌, ⊎_elim}
use Prim.Native.Nat.{ℕ}
use native.Mathlib.Omega.{arith}
use Rattle.bc6h_format.specs.Modes.{row_of, rows}
use Rattle.bc6h_modes.proofs.Numbers.{is_0}
use Rattle.bc6h_modes.proofs.width_2.Goals as goal

eleven : (m : ℕ) → (m ≡ 2) ⊎ ((m ≡ 6) ⊎ (m ≡ 10)) → 11 ≡ (row_of m).base
unfolding row_of rows
eleven m = ⊎_elim (λ e. rw e refl) (⊎_elim (λ e. rw e refl) (λ e. rw e refl))

eight : (m : ℕ) → (m ≡ 18) ⊎ ((m ≡ 22) ⊎ (m ≡ 26)) → 8 ≡ (row_of m).base
unfolding row_of rows
eight m = ⊎_elim (λ e. rw e refl) (⊎_elim (λ e. rw e refl) (λ e. rw e refl))

pub returns-in-2 : goal.returns-in-2
returns-in-2 c = eleven _ c.in-2.is

pub returns-in-14 : goal.returns-in-14
unfolding row_of rows
returns-in-14 c = rw c.in-14.is refl

pub returns-in-18 : goal.returns-in-18
returns-in-18 c = eight _ c.in-18.is

pub returns-in-30 : goal.returns-in-30
unfolding row_of rows
returns-in-30 c = rw c.in-30.is refl

pub returns-in-1 : goal.returns-in-1
unfolding row_of rows
returns-in-1 c = rw c.in-1.is refl

pub returns-in_default : goal.returns-in_default
unfolding row_of rows
returns-in_default c =
    rw
    (is_0 c.args.mode c.requires (grind arith) (grind arith) (grind arith) (omega arith) (grind arith)
    (grind arith) (grind arith) (omega arith) (omega arith))
    refl
