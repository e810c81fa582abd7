-- What `array::from_fn` makes: where each call at i gives h i, and leaves what the closure captured as it was, the list of h.
-- Assumes nothing.
use Rattle.std.proofs.Common.{◌≡◌, ℕ, zero, suc, ◌+◌, ◌<◌, List, get_or, ◌∙◌, arith}
use Rattle.std.specs.Array.{IsFromFnResult, IsFromFnResultFrom}
use denote.Param.Members.{Mut, Called}
use Rattle.laws.specs.Tables.{table}
use Rattle.laws.proofs.Part.{part_all}

module _ {F B : Type 0} {g : Mut F (ℕ × Unit {0}) B} (P : F → Type 0) (h : ℕ → B)
    (call : (i : ℕ) (y : B) (p q : F) → P p → Called g p (i, tt) y q → (y ≡ h i) × P q) where
  each : (d : B) (i n : ℕ) (p : F) (ys : List B) → P p → IsFromFnResultFrom g p ys i n → (k : ℕ) → k < n → get_or ys (i + k) d ≡ h (i + k)
  each d i zero p ys s r k l = absurd (let z : ⊥ = omega arith in z)
  each d i (suc n) p ys s r zero l =
      let here : i + 0 ≡ i = omega arith in
      rw here (r.2.1 d ∙ (call i r.1 p r.0 s r.3).0)
  each d i (suc n) p ys s r (suc k) l =
      let on : i + suc k ≡ i + 1 + k = omega arith in
      rw on (each d (i + 1) n r.0 ys (call i r.1 p r.0 s r.3).1 r.4 k (omega arith))

  pub made : {f : F} {ys : List B} {n : ℕ} → P f → IsFromFnResult g f ys n → ys ≡ table n h
  made {f} {ys} {n} s r =
      part_all {d = h 0} {P = λ k. Unit {0}}
      (record {
        long = r.long;
        done = λ k l t. let e = each (h 0) 0 n f ys s r.each k l in let z : 0 + k ≡ k = omega arith in rw z at e;
      }) (λ k l. tt)
