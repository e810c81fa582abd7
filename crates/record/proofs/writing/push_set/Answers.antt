-- `writing::push_set` meets its contract.
-- Assumes nothing.
use mathlib.Core.Path.{◌≡◌, ◌∙◌}
use native.Mathlib.Omega.{arith}
use Rattle.laws.specs.Digits.{join}
use Rattle.laws.proofs.Digits.{join_lt}
use Rattle.bcn_format.specs.Indexes.{anchors_with, index_widths}
use Rattle.indexes.proofs.Remove.{size_with}
use Rattle.indexes.proofs.sets.Words.{full_fit, stored_again, word_lt, word_split}
use Rattle.record.proofs.writing.push_set.Goals as goal
use Rattle.record.proofs.writing.push_set.Goals.{After-compressed-stored}

stored : (c : After-compressed-stored)
    → c.compressed-stored.result ≡ join
    (index_widths c.args.width
    (anchors_with c.args.kind c.args.anchors.b
    c.args.anchors.c)) c.args.indexes
stored c = c.compressed-stored.ensures ∙ stored_again _ _ _ c.requires.fits c.word_of-word.ensures

pub word_of-word-requires : goal.word_of-word-requires
word_of-word-requires c = record { most = c.requires.width.most; fits = full_fit _ _ _ c.requires.fits }

pub overflow_cast-anchors : goal.overflow_cast-anchors
overflow_cast-anchors c = omega (arith, c.requires.pixels.second)

pub overflow_cast-anchors-2 : goal.overflow_cast-anchors-2
overflow_cast-anchors-2 c = omega (arith, c.requires.pixels.third)

pub compressed-stored-requires : goal.compressed-stored-requires
compressed-stored-requires c =
    let s = c in
    let w = c.word_of-word.ensures in
    record {
      width = s.requires.width;
      rising = s.requires.rising;
      small = word_lt _ _ _ s.requires.fits w;
      fits = rw (word_split _ _ _ s.requires.fits w) s.requires.fits;
    }

pub stored_bits-requires : goal.stored_bits-requires
stored_bits-requires c = c.requires.width

pub push-requires : goal.push-requires
push-requires c =
    let s = c in
    rw (stored c.before, c.stored_bits.ensures)
    (record {
      fits = rw (size_with _ _ _ _ s.requires.width.least s.requires.rising) at (join_lt s.requires.fits);
      room = s.requires.room;
      below = s.requires.holds;
    })

pub returns : goal.returns
returns c = c.push.ensures ∙ rw (stored c.before.before, c.stored_bits.ensures)
