-- One colour whose alpha has a width of its own.
-- Assumes nothing.
use mathlib.Core.Path.{◌≡◌}
use mathlib.Core.List.{[], ◌∷◌}
use native.Mathlib.Omega.{arith}
use lib.Dec.{eqb}
use Rattle.bc7_drawing.specs.Words.{ends_of, lanes_of, with_alpha}
use Rattle.bc7_drawing.proofs.colour.Words.{end_apart, end_apart_fits, end_either_lt, end_two, holds_one, lanes_four}
use Rattle.bc7_drawing.proofs.colour.alone.Goals as goal
use Rattle.bc7_drawing.proofs.colour.alone.Goals.{After-lanes-a, Start}

-- the lanes of the three words
module _ (words : After-lanes-a) where
  abbrev start : Start
  start = words.before.before.before

  red_blue : lanes_of words.lanes-rb.result ≡ start.args.x.r ∷ start.args.x.b ∷ 0 ∷ 0 ∷ []
  red_blue = let x = start.requires.stored in lanes_four words.lanes-rb.ensures x.red x.blue (omega arith) (omega arith)

  green : lanes_of words.lanes-g.result ≡ start.args.x.g ∷ 0 ∷ 0 ∷ 0 ∷ []
  green = lanes_four words.lanes-g.ensures start.requires.stored.green (omega arith) (omega arith) (omega arith)

  alpha : lanes_of words.lanes-a.result ≡ 0 ∷ start.args.x.a ∷ 0 ∷ 0 ∷ []
  alpha = lanes_four words.lanes-a.ensures (omega arith) start.requires.stored.alpha (omega arith) (omega arith)

pub overflow_add-result : goal.overflow_add-result
overflow_add-result c =
    let words = c.before.before.before in
    let s = start words in
    record {
      fits = end_apart_fits s.args.bits 0 s.requires.width s.args.alpha_bits s.requires.alpha (green words)
          (alpha words) c.end_of-2.ensures c.end_of-3.ensures;
    }

pub overflow_add-result-2 : goal.overflow_add-result-2
overflow_add-result-2 c =
    let words = c.before.before.before.before.before.before in
    let s = start words in
    record {
      fits = end_apart_fits s.args.bits 1 s.requires.width s.args.alpha_bits s.requires.alpha (green words)
          (alpha words) c.end_of-5.ensures c.end_of-6.ensures;
    }

pub returns : goal.returns
unfolding ends_of
returns c =
    let e3 = c.before.before.before in
    let words = e3.before.before.before in
    let s = start words in
    let n = s.args.bits in
    let w = s.args.alpha_bits in
    let p = s.requires in
    holds_one (with_alpha n w s.args.x) (λ k c. end_either_lt (eqb c 3) n w k _ p.width p.alpha) (λ i. record {
      rb0 = end_two n 0 p.width (red_blue words) e3.end_of.ensures i;
      ga0 = end_apart n 0 p.width w p.alpha (green words) (alpha words) e3.end_of-2.ensures e3.end_of-3.ensures i;
      rb1 = end_two n 1 p.width (red_blue words) c.end_of-4.ensures i;
      ga1 = end_apart n 1 p.width w p.alpha (green words) (alpha words) c.end_of-5.ensures c.end_of-6.ensures i;
    })
