-- How far the fields of a line reach.
-- Assumes nothing.
use mathlib.Core.Path.{◌≡◌}
use mathlib.Core.Bool.{Bool, true, false}
use Prim.Native.Nat.{ℕ, ◌*◌, ◌≤◌, ◌<◌}
use native.Mathlib.Nat.{le_trans, mul-le-mul_left, mul-le-mul_right}
use native.Mathlib.Omega.{arith}
use lib.Dec.{eqb}
use Rattle.bc7_modes.specs.declared.ModeRow.{ModeRow}
use Rattle.laws.specs.Tables.{pick}
use Rattle.bc7_modes.specs.Modes.{OfMode}
use Rattle.bc7_modes.proofs.Bounds.{small}

pub record Room (row : ModeRow) (pair : ℕ) : Type 0 where
  pub ends : row.endpoints ≤ 6
  pub colours : row.endpoints * row.colour ≤ 30
  pub alphas : row.endpoints * row.alpha ≤ 30
  pub colour_before : pair * row.colour ≤ 32
  pub alpha_before : pair * row.alpha ≤ 32
  pub ps : row.p ≤ 6
  pub least : 2 ≤ row.first
  pub most : row.first ≤ 4

times : (a b : ℕ) → a ≤ 4 → b ≤ 8 → a * b ≤ 32
times a b ha hb = le_trans (mul-le-mul_left a hb) (mul-le-mul_right 8 ha)

pair_le : (b : Bool) (l : ℕ) → l < 3 → pick b 0 (2 * l) ≤ 4
pair_le true l h = omega arith
pair_le false l h = omega arith

pub room : {row : ModeRow} {pair : ℕ} (l : ℕ) → OfMode row → l < 3 → pair ≡ pick (eqb row.kind 3) 0 (2 * l) → Room row pair
room {row} {pair} l o h e =
    let sm = small o in
    let few : pair ≤ 4 = rw e (pair_le (eqb row.kind 3) l h) in
    record {
      ends = sm.endpoints;
      colours = sm.colours;
      alphas = sm.alphas;
      colour_before = times pair row.colour few sm.colour;
      alpha_before = times pair row.alpha few sm.alpha;
      ps = sm.p;
      least = sm.least;
      most = sm.most;
    }
