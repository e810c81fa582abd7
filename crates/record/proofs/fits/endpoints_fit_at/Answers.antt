-- `fits::endpoints_fit_at` meets its contract.
-- Assumes nothing.
use Prim.Native.Nat.{ℕ, ◌^◌, ◌<◌}
use mir.Syntax.{w8}
use mir.Val.{Fits}
use lib.ListN.{get_or}
use native.Mathlib.Omega.{arith}
use Rattle.bc7_modes.proofs.Bounds.{small}
use Rattle.record.proofs.fits.Fits.{pair_has, pair_none}
use borrow.Author.Rules.{rules}
use Rattle.record.proofs.fits.endpoints_fit_at.Goals as goal
use Rattle.record.proofs.fits.endpoints_fit_at.Goals.{Start}

byte : (s : Start) (i : ℕ) → get_or s.args.e i 0 < 2 ^ 8
byte s i = (let z : Fits w8 (get_or s.args.e i 0) = search rules in z).fits

pub overflow_mul-row : goal.overflow_mul-row
overflow_mul-row c = omega (arith, (small c.requires.of_mode_is).endpoints)

pub pair-requires : goal.pair-requires
pair-requires c = c.requires.inside

pub pair_fits-requires : goal.pair_fits-requires
pair_fits-requires c = record { colour = omega arith; alpha = omega arith }

pub returns-then-row-at : goal.returns-then-row-at
returns-then-row-at c =
    let s = c.before.before.before.before in
    pair_none s.args.row s.args.e _ (byte s) s.requires.even c.if-row-at.true c.pair.ensures
    c.pair_fits.ensures

pub pair-requires-2 : goal.pair-requires-2
pair-requires-2 c = c.requires.inside

pub pair_fits-requires-2 : goal.pair_fits-requires-2
pair_fits-requires-2 c = let b = small c.requires.of_mode_is in record { colour = b.colour; alpha = b.alpha }

pub returns : goal.returns
returns c =
    let s = c.before.before.before.before in
    pair_has s.args.row s.args.e _ (byte s) s.requires.even (small s.requires.of_mode_is).even (omega arith) c.pair-2.ensures
    c.pair_fits-2.ensures
