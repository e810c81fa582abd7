-- `geometry::stored_at` meets its contract.
-- Assumes nothing.
use mathlib.Core.Path.{◌≡◌, ◌∙◌}
use Prim.Native.Nat.{ℕ}
use native.Mathlib.Omega.{arith}
use Rattle.head_rules.specs.Answers.{Head, known}
use Rattle.head_rules.specs.Geometry.{stored_at}
use Rattle.head_rules.proofs.Orders.{in_all, stored_few, stored_in_rows, stored_in_tiles_is}
use Rattle.sheet_head.specs.Asked.{BlockAsked}
use Rattle.sheet_head.specs.Promised.{StoresAt}
use Rattle.sheet_head.proofs.geometry.stored_at.Goals as goal

-- what is found is one of the blocks
found : {h : Head} {b r : ℕ} → BlockAsked h b → r ≡ stored_at h b → StoresAt h b r
found {h} {b} k e = record { same = e; few = rw e (stored_few h k.size b k.number) }

pub stored_in_tiles-requires : goal.stored_in_tiles-requires
stored_in_tiles-requires c =
    record {
      wide = omega (arith, c.blocks_across.ensures, c.requires.size.within_wide);
      high = omega (arith, c.blocks_across-in-Tiles.ensures, c.requires.size.within_high);
      number = in_all (known c.args.head) c.blocks_across.ensures c.blocks_across-in-Tiles.ensures c.requires.number;
    }

pub returns-in-Rows : goal.returns-in-Rows
returns-in-Rows c = found c.requires (stored_in_rows _ c.in-Rows.is _)

pub returns-in-Tiles : goal.returns-in-Tiles
returns-in-Tiles c =
    found c.requires (c.stored_in_tiles.ensures ∙ stored_in_tiles_is (known c.args.head) c.blocks_across.ensures c.blocks_across-in-Tiles.ensures
    c.in-Tiles.is c.args.block)
