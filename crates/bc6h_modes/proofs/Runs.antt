-- Values put together run by run.
-- Assumes nothing.
use mathlib.Core.Path.{◌≡◌, ◌∙◌, ap, sym}
use mathlib.Core.List.{List, [], ◌∷◌, ◌++◌}
use Prim.Native.Nat.{ℕ, suc, ◌+◌, ◌*◌, ◌^◌, ◌≤◌, ◌<◌}
use native.Mathlib.Nat.{mul-le-mul_right, pow-suc}
use native.Mathlib.Numerals.{add-one}
use native.Mathlib.Omega.{arith}
use Rattle.bcn_format.specs.Block.{field}
use Rattle.bcn_format.proofs.Fields.{field_lt}
use Rattle.bc6h_modes.specs.Runs.{Holds, Run, placed, run}

pub one_run : (n a w : ℕ) → field n a w ≡ placed n (run a w 0 ∷ [])
one_run n a w = omega arith

pub in_one : (n a w : ℕ) → Holds n (run a w 0 ∷ []) w (field n a w)
in_one n a w = record { is = one_run n a w; small = field_lt n a w }

-- one more run, above the others
pub placed_more : (n : ℕ) (rs : List Run) (r : Run) → placed n (rs ++ (r ∷ [])) ≡ placed n rs + field n r.from r.long * 2 ^ r.to
placed_more n [] r = omega arith
placed_more n (s ∷ rs) r = let p = placed_more n rs r in omega (arith, p)

-- a bit above k bits
pub topped_lt : (x b k : ℕ) → x < 2 ^ k → b < 2 → x + b * 2 ^ k < 2 ^ (k + 1)
topped_lt x b k h l =
    rw add-one
    (let p : b * 2 ^ k ≤ 1 * 2 ^ k = mul-le-mul_right (2 ^ k) (let y : b ≤ 1 = omega arith in y) in
    let q = pow-suc 2 k in
    let y : x + b * 2 ^ k < 2 ^ suc k = omega (arith, p, q) in y)

pub topped : {n : ℕ} {rs : List Run} {k x r : ℕ} (t : ℕ) → Holds n rs k x → (r ≡ x + field n t 1 * 2 ^ k)
    → Holds n (rs ++ (run t 1 k ∷ [])) (k + 1) r
topped {n} {rs} {k} {x} {r} t h e =
    record {
      is = e ∙ (ap (λ (y : ℕ). y + field n t 1 * 2 ^ k) h.is ∙ sym (placed_more n rs (run t 1 k)));
      small = rw e (topped_lt x (field n t 1) k h.small (field_lt n t 1));
    }
