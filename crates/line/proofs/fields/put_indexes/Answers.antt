-- `fields::put_indexes` meets its contract.
-- Assumes nothing.
use mathlib.Core.Path.{◌≡◌, ap, ap₂, ◌∙◌}
use mathlib.Core.List.{[]}
use Prim.Native.Nat.{ℕ}
use Rattle.laws.specs.Digits.{join, replaced_at, split}
use Rattle.bits.specs.Stream.{held}
use Rattle.bcn_format.specs.Indexes.{index_widths}
use Rattle.line.specs.Fields.{anchors_in, set_after, set_before, set_put}
use Rattle.line.proofs.fields.Sets.{after_fits, after_is, before_is, size_lt, stored_lt}
use Rattle.line.proofs.fields.put_indexes.Goals as goal
use Rattle.line.proofs.fields.put_indexes.Goals.{After-compressed-stored, After-read_indexes-set}

-- the set as it stands
before : (c : After-read_indexes-set)
    → c.read_indexes-set.result.indexes.uncompressed
    ≡ set_before (held c.args.s) c.args.kind c.args.at
    c.args.part
before c =
    let s = c in before_is s.args.s s.args.kind s.args.at s.args.part s.args.mask s.args.new
    c.standing_at.ensures c.read_indexes-set.ensures

pub overflow_add-after : goal.overflow_add-after
overflow_add-after c =
    let s = c in
    record {
      fits = after_fits s.args.s s.args.kind s.args.at s.args.part s.args.mask s.args.new (before c) s.requires;
    }

pub compressed-stored-requires : goal.compressed-stored-requires
compressed-stored-requires c =
    let s = c in
    let e =
    after_is s.args.s s.args.kind s.args.at s.args.part s.args.mask s.args.new (before c.before.before)
    s.requires in
    record { width = s.requires.width; rising = s.requires.rising; small = rw e s.requires.small; fits = rw e s.requires.fits }

-- the set as it is stored
stored : (c : After-compressed-stored)
    → c.compressed-stored.result
    ≡ join
    (index_widths c.args.part.index
    (anchors_in c.args.kind
    c.args.part))
    (split (index_widths c.args.part.index [])
    (set_after (held c.args.s)
    c.args.kind c.args.at
    c.args.part c.args.mask
    c.args.new))
stored c =
    let s = c in
    c.compressed-stored.ensures
    ∙ ap
    (λ (y : ℕ). join (index_widths s.args.part.index (anchors_in s.args.kind s.args.part))
    (split (index_widths s.args.part.index []) y))
    (after_is s.args.s s.args.kind s.args.at s.args.part s.args.mask s.args.new (before c.before.before.before)
    s.requires)

pub put-requires : goal.put-requires
put-requires c =
    let s = c in
    record {
      width = rw c.stored_bits.ensures (size_lt s.args.kind s.args.part.index s.requires.width.least s.requires.width.most);
      below = s.requires.below;
      room = rw c.stored_bits.ensures s.requires.room;
      fits = stored_lt s.args.s s.args.kind s.args.at s.args.part s.args.mask s.args.new s.requires c.stored_bits.ensures
          (stored c.before);
    }

pub returns : goal.returns
unfolding set_put
returns c =
    let s = c in
    c.put.ensures
    ∙ ap₂ (λ (t v : ℕ). replaced_at (held s.args.s) s.args.at t v) c.stored_bits.ensures (stored c.before.before)
