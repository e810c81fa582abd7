-- What `array::from_fn` makes of a closure that keeps what it captured.
-- Assumes nothing.
use Rattle.std.proofs.Common.{◌≡◌, ℕ, zero, suc, ◌+◌, ◌<◌, List, get_or, ◌∙◌, arith}
use Rattle.std.specs.Array.{IsFromFnResult, IsFromFnResultFrom}
use denote.Param.Members.{Mut, Called}
use Rattle.laws.specs.Tables.{table}
use Rattle.laws.proofs.Part.{part_all}

-- P is what stays of the closure; a call at i below m gives f i
module _ {F A : Type 0} {g : Mut F (ℕ × Unit {0}) A} {m : ℕ} (P : F → Type 0) (f : ℕ → A) (d : A)
    (call : (i : ℕ) (y : A) (p q : F) → i < m → P p → Called g p (i, tt) y q → (y ≡ f i) × P q) where
  each : (i n : ℕ) → i + n ≡ m → (p : F) (ys : List A) → P p → IsFromFnResultFrom g p ys i n → (k : ℕ) → k < n → get_or ys (i + k) d ≡ f (i + k)
  each i zero e p ys s r k l = absurd (let z : ⊥ = omega arith in z)
  each i (suc n) e p ys s r zero l =
      let here : i + 0 ≡ i = omega arith in
      rw here (r.2.1 d ∙ (call i r.1 p r.0 (omega arith) s r.3).0)
  each i (suc n) e p ys s r (suc k) l =
      let on : i + suc k ≡ i + 1 + k = omega arith in
      rw on (each (i + 1) n (omega arith) r.0 ys (call i r.1 p r.0 (omega arith) s r.3).1 r.4 k (omega arith))

  pub made : {p : F} {ys : List A} → P p → IsFromFnResult g p ys m → ys ≡ table m f
  made {p} {ys} s r =
      part_all {d = d} {P = λ k. Unit {0}}
      (record { long = r.long; done = λ k l t. let e = each 0 m (omega arith) p ys s r.each k l in let z : 0 + k ≡ k = omega arith in rw z at e })
      (λ k l. tt)
