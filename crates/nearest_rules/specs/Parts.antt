-- Parts of a line that is read.
-- Assumes nothing.
use Rattle.std.specs.Prelude.{ℕ, ◌+◌, ◌*◌, get_or}
use Rattle.line_rules.specs.declared.Replacement.{Replacement}

-- of a line that is read: the value of endpoint k in channel d, the p bit k; of the widths that are read with it: of channel d, of a p bit
abbrev pub value_in : Replacement → ℕ → ℕ → ℕ
value_in g k d = get_or g.endpoints (4 * k + d) 0

abbrev pub p_in : Replacement → ℕ → ℕ
p_in g k = get_or g.p k 0

abbrev pub channel_width : Replacement → ℕ → ℕ
channel_width ws d = get_or ws.endpoints d 0
