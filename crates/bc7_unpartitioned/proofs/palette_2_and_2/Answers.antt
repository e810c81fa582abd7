-- All pairs of a colour and an alpha, four at a time.
-- Assumes nothing.
use mathlib.Core.Path.{◌≡◌, ◌∙◌}
use mathlib.Core.Bool.{false, true}
use mathlib.Core.List.{◌++◌}
use native.Mathlib.Omega.{arith}
use Rattle.laws.specs.Tables.{table}
use Rattle.laws.proofs.Filled.{filled_all, filled_four}
use Rattle.bc7_fields.specs.Painting.{between}
use Rattle.bc7_drawing.specs.declared.colour.Ends.{Ends}
use Rattle.bc7_drawing.specs.Words.{Alone, endpoint, word_bytes}
use Rattle.bc7_unpartitioned.specs.Crossing.{kept_channels, kept_word}
use Rattle.bc7_unpartitioned.proofs.Crossing.{alpha_fits, both_kept, colours_fit, high_pairs, low_pairs, pairs}
use Rattle.bc7_unpartitioned.proofs.palette_2_and_2.Goals as goal
use Rattle.bc7_unpartitioned.proofs.palette_2_and_2.Goals.{After-keep-high}

-- what the words have, where the loop begins
record Words (c : After-keep-high) : Type 0 where
  e : Ends
  one : Alone e
  alphas_are : c.words-alphas.result ≡ table 4 (λ k. kept_word false (between 2 (endpoint e 0 0) (endpoint e 0 1) k))
  low_is : word_bytes c.keep-low.result
      ≡ kept_channels true (between 2 (endpoint e 0 0) (endpoint e 0 1) 0) ++ kept_channels true (between 2 (endpoint e 0 0) (endpoint e 0 1) 1)
  high_is : word_bytes c.keep-high.result
      ≡ kept_channels true (between 2 (endpoint e 0 0) (endpoint e 0 1) 2) ++ kept_channels true (between 2 (endpoint e 0 0) (endpoint e 0 1) 3)

words : (c : After-keep-high) → Words c
words c =
    let low = c in
    let s = low in
    record {
      e = s.args.e;
      one = s.requires;
      alphas_are = low.words-alphas.ensures;
      low_is = both_kept true 2 0 1 _ _ low.shades.ensures low.keep-low.ensures;
      high_is = both_kept true 2 2 3 _ _ c.shades-2.ensures c.keep-high.ensures;
    }

pub with_alphas-x-requires : goal.with_alphas-x-requires
with_alphas-x-requires c =
    let start = words c.before.before.before.before.before.before in
    record {
      colours = colours_fit start.e start.one 0 1 (omega arith) (omega arith) start.low_is;
      alpha = alpha_fits start.e start.one start.alphas_are c.loop-j.j c.loop-j-test.true;
    }

pub with_alphas-y-requires : goal.with_alphas-y-requires
with_alphas-y-requires c =
    let at = c in
    let start = words c.before.before.before.before.before.before.before in
    record {
      colours = colours_fit start.e start.one 2 3 (omega arith) (omega arith) start.high_is;
      alpha = alpha_fits start.e start.one start.alphas_are at.loop-j.j at.loop-j-test.true;
    }

pub loop-j-preserved : goal.loop-j-preserved
loop-j-preserved c =
    let y = c in
    let x = y in
    let at = x in
    let two = at in
    let j = at.loop-j.j in
    let p =
    low_pairs _ two.keep-low.result two.keep-high.result j x.with_alphas-x.ensures c.low_colour.ensures
    c.high_colour.ensures in
    let q =
    high_pairs _ two.keep-low.result two.keep-high.result j y.with_alphas-y.ensures c.low_colour-in-loop-j.ensures
    c.high_colour-in-loop-j.ensures in
    (omega arith, filled_four j at.loop-j.invariant.1 (omega arith) p.0 p.1 q.0 q.1)

pub returns : goal.returns
unfolding words
returns c =
    let start = words c.before.before.before in
    filled_all c.loop-j.invariant.1 (omega arith) ∙ pairs start.e start.one _ _ start.alphas_are start.low_is start.high_is
