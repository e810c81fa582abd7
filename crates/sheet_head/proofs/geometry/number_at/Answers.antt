-- `geometry::number_at` meets its contract.
-- Assumes nothing.
use mathlib.Core.Path.{◌≡◌, ◌∙◌}
use Prim.Native.Nat.{ℕ}
use native.Mathlib.Omega.{arith}
use Rattle.head_rules.specs.Answers.{Head, known}
use Rattle.head_rules.specs.Geometry.{number_at}
use Rattle.head_rules.proofs.Orders.{in_all, number_few, number_in_rows, number_in_tiles_is}
use Rattle.sheet_head.specs.Asked.{BlockAsked}
use Rattle.sheet_head.specs.Promised.{NumbersAt}
use Rattle.sheet_head.proofs.geometry.number_at.Goals as goal

-- what is found is one of the blocks
found : {h : Head} {b r : ℕ} → BlockAsked h b → r ≡ number_at h b → NumbersAt h b r
found {h} {b} k e = record { same = e; few = rw e (number_few h k.size b k.number) }

pub number_in_tiles-requires : goal.number_in_tiles-requires
number_in_tiles-requires c =
    record {
      wide = omega (arith, c.blocks_across.ensures, c.requires.size.within_wide);
      high = omega (arith, c.blocks_across-in-Tiles.ensures, c.requires.size.within_high);
      number = in_all (known c.args.head) c.blocks_across.ensures c.blocks_across-in-Tiles.ensures c.requires.number;
    }

pub returns-in-Rows : goal.returns-in-Rows
returns-in-Rows c = found c.requires (number_in_rows _ c.in-Rows.is _)

pub returns-in-Tiles : goal.returns-in-Tiles
returns-in-Tiles c =
    found c.requires (c.number_in_tiles.ensures ∙ number_in_tiles_is (known c.args.head) c.blocks_across.ensures c.blocks_across-in-Tiles.ensures
    c.in-Tiles.is c.args.stored)
