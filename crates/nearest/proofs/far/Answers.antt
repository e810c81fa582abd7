-- `far` meets its contract.
-- Assumes nothing.
use mathlib.Core.Path.{refl, ap, ◌∙◌}
use Prim.Native.Nat.{ℕ}
use lib.Dec.{lit<}
use Rattle.nearest_rules.specs.Nearest.{squared}
use Rattle.nearest.specs.Trying.{channel_far}
use Rattle.nearest.proofs.far.Goals as goal

pub returns-in-Some : goal.returns-in-Some
unfolding channel_far
returns-in-Some c =
    rw c.in-Some.is
    (record {
      is = c.squared.ensures.is ∙ ap (λ (v : ℕ). squared v c.in-Some.x.wanted) c.interpolate.ensures.is;
      low = c.squared.ensures.low;
    })

pub returns-in-None : goal.returns-in-None
unfolding channel_far
returns-in-None c = rw c.in-None.is (record { is = refl; low = lit< tt })
