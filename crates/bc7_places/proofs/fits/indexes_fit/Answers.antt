-- `fits::indexes_fit` meets its contract.
-- Assumes nothing.
use mathlib.Core.Path.{◌≡◌, sym, ◌∙◌}
use Prim.Native.Nat.{ℕ, ◌^◌, ◌<◌}
use mir.Syntax.{w8}
use mir.Val.{Fits}
use lib.Dec.{ltb}
use lib.ListN.{get_or, length}
use Rattle.laws.specs.Digits.{Fit}
use Rattle.laws.specs.Tables.{below, both}
use Rattle.bcn_format.specs.Block.{eights}
use Rattle.bc7_format.proofs.Subsets.{sixteen_bytes}
use Rattle.laws.proofs.Tests.{first_fails, first_holds}
use Rattle.bc7_places.proofs.fits.Bytes.{halves_test, octet_test}
use borrow.Author.Rules.{rules}
use Rattle.bc7_places.proofs.fits.indexes_fit.Goals as goal
use Rattle.bc7_places.proofs.fits.indexes_fit.Goals.{After-new-bytes, Start}

size : (s : Start) → length s.args.indexes ≡ 16
size s = search rules

byte : (s : Start) (i : ℕ) → Fits w8 (get_or s.args.indexes i 0)
byte s i = search rules

sixteen : (s : Start) → Fit eights s.args.indexes
sixteen s = sixteen_bytes _ (size s) (λ i l. (byte s i).fits)

word : (c : After-new-bytes) → c.new-bytes.result.low < 2 ^ 64
word c = search rules

halves : (c : After-new-bytes) → below 16 (λ i. ltb (get_or c.args.indexes i 0) (2 ^ c.args.width))
    ≡ both (octet_test c.args.width c.new-bytes.result.low) (octet_test c.args.width c.new-bytes.result.high)
halves c = halves_test _ (sixteen c.before) c.new-bytes.result c.new-bytes.ensures.of (word c)

pub returns-then-pair_fits : goal.returns-then-pair_fits
returns-then-pair_fits c =
    c.pair_fits-then-pair_fits.ensures ∙ sym (first_holds _ _ (halves c.before.before.before)
    (sym c.pair_fits.ensures ∙ c.if-pair_fits.true))

pub returns-else-pair_fits : goal.returns-else-pair_fits
returns-else-pair_fits c =
    c.if-pair_fits.false ∙ sym (first_fails _ _ (halves c.before.before) (sym c.pair_fits.ensures ∙ c.if-pair_fits.false))
