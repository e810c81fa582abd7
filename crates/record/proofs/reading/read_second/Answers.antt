-- `reading::read_second` meets its contract.
-- Assumes nothing.
use mathlib.Core.Path.{◌∙◌}
use borrow.Author.Tests.{eq-eqb, ne_eqb}
use Rattle.bc7_modes.proofs.Bounds.{second_bits_is, small}
use Rattle.record.specs.Reading.{second_read}
use Rattle.record.proofs.reading.read_second.Goals as goal

pub returns-then-row-ne3 : goal.returns-then-row-ne3
unfolding second_read
returns-then-row-ne3 c = rw (ne_eqb _ _ c.if-row-ne3.true)

pub read_indexes-set-requires : goal.read_indexes-set-requires
read_indexes-set-requires c =
    let s = c in
    record {
      width = record { least = second_bits_is s.requires.of_mode_is c.if-row-ne3.false; most = (small s.requires.of_mode_is).second };
      rising = s.requires.rising;
      inside = s.requires.inside c.if-row-ne3.false;
    }

pub parts_of-requires : goal.parts_of-requires
parts_of-requires c = (small c.requires.of_mode_is).second

pub returns : goal.returns
unfolding second_read
returns c = c.parts_of.ensures ∙ rw (eq-eqb _ _ c.if-row-ne3.false, c.read_indexes-set.ensures)
