-- `channel_of` meets its contract.
-- Assumes nothing.
use mathlib.Core.Path.{◌∙◌}
use borrow.Author.Rules.{rules}
use lib.Dec.{lit<}
use Rattle.nearest.specs.Trying.{end_in}
use Rattle.nearest.proofs.Channels.{first_end, no_width, some_width}
use Rattle.nearest.proofs.channel_of.Goals as goal

pub returns-then-width-eq0 : goal.returns-then-width-eq0
returns-then-width-eq0 c = record { is = no_width _ _ _ _ c.if-width-eq0.true; byte = tt }

pub eight-requires-2 : goal.eight-requires-2
eight-requires-2 c =
    let e = c in
    let s = e in
    record {
      least = s.requires.least e.if-width-eq0.false;
      most = s.requires.most e.if-width-eq0.false;
      value = s.requires.value 1 (lit< tt);
      p = s.requires.p 1 (lit< tt);
    }

pub returns : goal.returns
unfolding end_in
returns c =
    let e = c in
    let a = e.args in
    let first = c.eight.ensures in
    let second = c.eight-2.ensures in
    record {
      is = some_width a.read.line a.read.widths a.channel a.wanted e.if-width-eq0.false (first.is ∙ first_end a.read.line a.read.widths a.channel) second.is;
      byte = record { first = first.low; second = second.low; wanted = search rules };
    }
