-- `fields::put_line` meets its contract.
-- Assumes nothing.
use mathlib.Core.Path.{◌≡◌, ◌∙◌}
use Rattle.bits.specs.Stream.{held}
use Rattle.line.specs.Fields.{endpoints_put, line_put, values_put}
use Rattle.line.proofs.fields.put_line.Goals as goal
use Rattle.line.proofs.fields.put_line.Goals.{After-put_p-bits}

-- what is put before the indexes
values : (c : After-put_p-bits)
    → held c.put_p-bits.result
    ≡ values_put c.args.s
    c.args.mode
    c.args.row
    c.args.line
    c.args.part
    c.args.new
unfolding endpoints_put
values c =
    rw (
      c.put_p-bits.ensures,
      c.put_two-alpha.ensures,
      c.put_two-blue.ensures,
      c.put_two-green.ensures,
      c.put_two-red.ensures,
      c.fields_of-fields.ensures,
    )

pub put_indexes-requires : goal.put_indexes-requires
put_indexes-requires c =
    rw (values c, c.fields_of-fields.ensures)
    c.requires.set

pub returns : goal.returns
unfolding line_put
returns c = c.put_indexes.ensures ∙ rw (values c.before, c.fields_of-fields.ensures)
