-- A channel of a pixel: as it is made, and how far it is.
-- Assumes nothing.
use mathlib.Core.Path.{◌≡◌, ap}
use mathlib.Core.Logic.{◌≢◌}
use Prim.Native.Nat.{ℕ, ◌+◌, ◌*◌, ◌^◌}
use native.Mathlib.Omega.{arith}
use borrow.Author.Tests.{eq-eqb, ne_eqb}
use lib.ListN.{get_or}
use Rattle.std.specs.Prelude.{Some, None}
use Rattle.line_rules.specs.declared.Replacement.{Replacement}
use Rattle.bcn_format.specs.Drawing.{promoted}
use Rattle.nearest_rules.specs.Parts.{p_in, channel_width}
use Rattle.nearest.specs.Trying.{channel_tried, end_in}

module _ (ln ws : Replacement) (d v : ℕ) where
  pub no_width : channel_width ws d ≡ 0 → None ≡ channel_tried ln ws d v
  unfolding channel_tried
  no_width e = rw (eq-eqb _ _ e)

  pub some_width : channel_width ws d ≢ 0 → {a b : ℕ} → a ≡ end_in ln ws 0 d → b ≡ end_in ln ws 1 d
      → Some (record { first = a; second = b; wanted = v }) ≡ channel_tried ln ws d v
  unfolding channel_tried
  some_width ne ea eb = rw (ne_eqb _ _ ne, ea, eb)

-- the first endpoint's values come first
pub first_at : (ln : Replacement) (d : ℕ) → get_or ln.endpoints d 0 ≡ get_or ln.endpoints (4 * 0 + d) 0
first_at ln d = ap (λ (i : ℕ). get_or ln.endpoints i 0) (let z : d ≡ 4 * 0 + d = omega arith in z)

pub first_end : (ln ws : Replacement) (d : ℕ)
    → promoted (channel_width ws d + p_in ws 0) (get_or ln.endpoints d 0 * 2 ^ p_in ws 0 + p_in ln 0) ≡ end_in ln ws 0 d
unfolding end_in
first_end ln ws d = ap (λ (x : ℕ). promoted (channel_width ws d + p_in ws 0) (x * 2 ^ p_in ws 0 + p_in ln 0)) (first_at ln d)
