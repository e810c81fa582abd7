-- `parts::endpoints_fit` meets its contract.
-- Assumes nothing.
use mathlib.Core.Path.{◌∙◌}
use Prim.Native.Nat.{ℕ, ◌%◌}
use borrow.Author.Rules.{rules}
use mir.Syntax.{w8}
use mir.Val.{Fits}
use lib.Dec.{eqb}
use lib.ListN.{get_or}
use Rattle.laws.specs.Tables.{pick}
use Rattle.line.proofs.parts.Asks.{eight_bytes}
use Rattle.line.proofs.parts.endpoints_fit.Goals as goal
use Rattle.line.proofs.parts.endpoints_fit.Goals.{Start}

byte : (s : Start) (i : ℕ) → Fits w8 (get_or s.args.e i 0)
byte s i = search rules

pub returns : goal.returns
returns c =
    let s = c.before.before in
    c.pair_fits.ensures
    ∙ eight_bytes s.args.e (λ i. pick (eqb (i % 4) 3) s.args.alpha s.args.colour) (λ i. (byte s i).fits) c.word-bytes.ensures
