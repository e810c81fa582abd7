-- How long the part of a fresh buffer is that a call is lent.
-- Assumes nothing.
use mathlib.Core.Path.{◌≡◌, sym}
use Prim.Native.Nat.{ℕ, ◌≤◌}
use lib.ListN.{length, length-replicate, replicate, take}
use lib.Seq.{length-take-le}

pub lent_of : {A : Type 0} (x : A) (n m : ℕ) → n ≤ m → n ≡ length (take n (replicate m x))
lent_of x n m h = sym (length-take-le n (replicate m x) (rw (length-replicate m x) h))

pub lent_length : (n m : ℕ) → n ≤ m → n ≡ length (take n (replicate {A = ℕ} m 0))
lent_length = lent_of 0
