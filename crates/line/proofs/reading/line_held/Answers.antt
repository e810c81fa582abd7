-- `reading::line_held` meets its contract.
-- Assumes nothing.
use Rattle.line.specs.Reading.{line_held}
use Rattle.line.proofs.reading.line_held.Goals as goal

pub returns : goal.returns
unfolding line_held
returns c =
    rw (
      c.set_at.ensures,
      c.p_at-p.ensures,
      c.two_at-alpha.ensures,
      c.two_at-blue.ensures,
      c.two_at-green.ensures,
      c.two_at-red.ensures,
      c.fields_of-fields.ensures,
    )
