-- What is read of a block group by group, by the row of its mode.
-- Assumes nothing.
use Rattle.std.specs.Prelude.{◌≡◌, ℕ, ◌+◌, ◌-◌, ◌*◌, ◌/◌, ◌%◌, ◌≤◌, List, [], ◌∷◌, eqb, ltb, get_or, replicate}
use Rattle.bc7_places.specs.declared.splits.Anchors.{Anchors}
use Rattle.bc7_modes.specs.declared.ModeRow.{ModeRow}
use Rattle.bits.specs.declared.stream.BitStream.{BitStream}
use Rattle.laws.specs.Tables.{pick, table}
use Rattle.bcn_format.specs.Indexes.{anchor_count, anchors_with, part, Rising}
use Rattle.indexes.specs.Reading.{new_indexes}
use Rattle.bits.specs.Stream.{taken}
use Rattle.bc7_modes.specs.Modes.{OfMode}

-- the endpoints of four words, one a channel: value e of a channel is part e of its word, and 0 where the mode has no endpoint e
abbrev pub channel_of : ℕ → ℕ → ℕ → ℕ → ℕ → ℕ
channel_of red green blue alpha c = get_or (red ∷ green ∷ blue ∷ alpha ∷ []) c 0

unfoldable pub endpoints_of : ModeRow → ℕ → ℕ → ℕ → ℕ → List ℕ
endpoints_of row red green blue alpha =
    table 24 (λ i. pick (ltb (i / 4) row.endpoints)
    (part (channel_of red green blue alpha (i % 4)) (pick (eqb (i % 4) 3) row.alpha row.colour) (i / 4)) 0)

-- four reads, a word for each channel, and the stream past them
unfoldable pub endpoints_read : ModeRow → BitStream → List ℕ × BitStream
endpoints_read row s =
    let r = taken s (row.endpoints * row.colour) in
    let g = taken r.stream (row.endpoints * row.colour) in
    let b = taken g.stream (row.endpoints * row.colour) in
    let a = taken b.stream (row.endpoints * row.alpha) in
    (endpoints_of row r.value g.value b.value a.value, a.stream)

-- what they ask: their bits ahead
pub record EndpointsAhead (row : ModeRow) (s : BitStream) : Type 0 where
  pub of_mode_is : OfMode row
  pub inside : s.at + 3 * (row.endpoints * row.colour) + row.endpoints * row.alpha ≤ 128

-- one of all p bits, which asks for them
unfoldable pub p_read : ModeRow → BitStream → List ℕ × BitStream
p_read row s = let r = taken s row.p in (table 6 (part r.value 1), r.stream)

pub record PAhead (row : ModeRow) (s : BitStream) : Type 0 where
  pub of_mode_is : OfMode row
  pub inside : s.at + row.p ≤ 128

-- the second set comes next, where the mode has one
unfoldable pub second_read : ModeRow → Anchors → BitStream → List ℕ
second_read row a s =
    pick (eqb row.kind 3)
    (table 16 (part (new_indexes row.second (anchors_with row.kind a.b a.c) s (16 * row.second - anchor_count row.kind)).indexes.uncompressed row.second))
    (replicate 16 0)

-- what that asks for: anchors in rising order, and the set's bits ahead
pub record SecondAhead (row : ModeRow) (a : Anchors) (s : BitStream) : Type 0 where
  pub of_mode_is : OfMode row
  pub rising : Rising row.kind a.b a.c
  pub inside : row.kind ≡ 3 → s.at + (16 * row.second - anchor_count row.kind) ≤ 128
