-- One call after another: the block they leave, and which calls decide it.
-- Assumes nothing.
use Rattle.std.specs.Prelude.{ℕ, Bool, List, eqb}
use Rattle.bc7_format.specs.declared.Split.{Split}
use Rattle.laws.specs.Tables.{both}
use Rattle.laws.specs.Calls as calls
use Rattle.bc7_format.specs.Lines.{means_shown}
use Rattle.line_rules.specs.Replace.{Call, after, refusal_in}

-- the block after a list of calls
abbrev pub after_all : List ℕ → List Call → List ℕ
after_all bs cs = calls.run after bs cs

unfoldable pub is_accepted : ℕ → Split → Call → Bool
is_accepted m s c = eqb (refusal_in m s c.line c.given) 0

-- is the call an accepted one of line l
abbrev pub is_of : ℕ → Split → ℕ → Call → Bool
is_of m s l c = both (is_accepted m s c) (eqb c.line l)

-- the last accepted call of line l, as a list of one or none
abbrev pub last : ℕ → Split → ℕ → List Call → List Call
last m s l cs = calls.last (is_of m s l) cs

-- the last accepted call of each line that ls names, in the order of ls
abbrev pub last_of_each : ℕ → Split → List ℕ → List Call → List Call
last_of_each m s ls cs = calls.last_of_each (is_of m s) ls cs

-- of a list of one call or none: what that call means in channel c of pixel q, or what was there before
abbrev pub seen : ℕ → Split → ℕ → ℕ → ℕ → ℕ → List Call → ℕ
seen m s l q c before cs = calls.seen (λ (call : Call). means_shown m s l call.given q c) before cs
