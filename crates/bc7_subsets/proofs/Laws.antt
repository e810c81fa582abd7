-- One law for each kind of split with subsets: from what a mode reads and paints to what its number shows.
-- Assumes nothing.
use mathlib.Core.Path.{◌≡◌, refl, sym, ap, ◌∙◌}
use mathlib.Core.Bool.{false}
use mathlib.Core.Logic.{◌≢◌}
use mathlib.Core.List.{List, [], ◌∷◌}
use Prim.Native.Nat.{ℕ, ◌+◌, ◌-◌, ◌*◌, ◌^◌, ◌≤◌, ◌<◌}
use native.Mathlib.Nat.{lt_of_lt_of_le}
use native.Mathlib.Omega.{arith}
use borrow.Author.Tests.{ne_eqb}
use lib.Dec.{T, eqb, eqb→eq}
use Rattle.bc7_format.specs.declared.Split.{Split}
use Rattle.bc7_format.specs.declared.Split.TheVariants.{Three, Two}
use Rattle.laws.specs.Digits.{total}
use Rattle.bcn_format.specs.Block.{field}
use Rattle.bc7_format.specs.Modes.{first_bits}
use Rattle.bcn_format.specs.Partitions.{among}
use Rattle.bc7_format.specs.Splits.{anchors, is_vector, split_at, subset}
use Rattle.bc7_format.proofs.Modes.{or_false}
use Rattle.bc7_format.proofs.Starts.{index_start_is, index_start, start}
use Rattle.bc7_format.proofs.Subsets.{subset_below}
use Rattle.bits.specs.declared.stream.BitStream.{BitStream}
use Rattle.bits.specs.Stream.{taken}
use Rattle.bits.proofs.On.{On, got}
use Rattle.bcn_format.specs.Indexes.{expanded, index_widths, part}
use Rattle.bcn_format.proofs.Expanding.{size_2, size_3}
use Rattle.bc7_fields.specs.Fields.{direct_pixels}
use Rattle.bc7_fields.specs.Painting.{painted}
use Rattle.bc7_fields.proofs.Pictures.{Palette, indexes_at, keyed_law}
use Rattle.partitions.specs.Words.{anchor_in2, second_in3, partition_word2, partition_word3, third_in3}
use Rattle.partitions.proofs.PartitionWords.{Fixes2, Fixes3, Maps, fixes_2, fixes_3, maps_2, maps_3}
use Rattle.drawing.specs.declared.keys.Keys.{Keys}
use Rattle.drawing.specs.Keys.{key_at, keys_of}
use Rattle.drawing.proofs.keys.KeyWords.{key_at_is}
use Rattle.bc7_format.specs.Places.{first_from}
use Rattle.bc7_subsets.specs.Asked.{Anchored2, Anchored3}

-- a number among two or three that is none of the others is the last
pub last_of_2 : (m a b : ℕ) → T (among m (a ∷ b ∷ [])) → m ≢ a → m ≡ b
last_of_2 m a b h not_a = eqb→eq m b (or_false (eqb m b) (rw (ne_eqb m a not_a) at h))

pub last_of_3 : (m a b c : ℕ) → T (among m (a ∷ b ∷ c ∷ [])) → m ≢ a → m ≢ b → m ≡ c
last_of_3 m a b c h not_a = last_of_2 m b c (rw (ne_eqb m a not_a) at h)

-- the indexes behind the word of a partition can be read
module _ {w id set : ℕ} (hid : id < 64) (least : 2 ≤ w) (most : w ≤ 3) where
  pub anchored_2 : set ≡ partition_word2 w id → {s : BitStream} → s.at + (16 * w - 2) ≤ 128 → Anchored2 w s set
  anchored_2 e ahead = let f = fixes_2 hid most (omega arith) e in record { least = least; most = most; fixup = f.fixup; inside = ahead }

  pub anchored_3 : set ≡ partition_word3 w id → {s : BitStream} → s.at + (16 * w - 3) ≤ 128 → Anchored3 w s set
  anchored_3 e ahead = let f = fixes_3 hid most least e in record { least = least; most = most; fixups = f.fixups; inside = ahead }

-- a mode with subsets: the indexes are read where they start, and pixels looked up by their keys
module _ (m n b : ℕ) (hm : m < 8) (eb : first_bits m ≡ b) (least : 2 ≤ b) (most : b ≤ 3) {id set : ℕ} (hid : id < 64)
    {stream : BitStream} (on : On n (index_start m) stream) {x : ℕ} {keys : Keys} {p picture : List (List ℕ)} where
  by_keys : (s : Split) (k t c : ℕ) (an : List ℕ) → split_at m n ≡ s → is_vector s ≡ false → ((q : ℕ) → q < 16 → subset s q < k) → k ≤ 2 ^ t → t ≤ b
      → anchors s ≡ an → total (index_widths b an) ≡ c → Maps b (subset s) set → x ≡ expanded b an (taken stream c).value
      → keys ≡ keys_of b t x set
      → Palette m n b k t p → picture ≡ painted (key_at b t keys) p → picture ≡ direct_pixels m n
  by_keys s k t c an es flat subsets room narrow ea et maps ex ek palette drawn =
      let small : (q : ℕ) → q < 16 → part set b q < 2 ^ t = λ q hq. rw (maps.at q hq) (lt_of_lt_of_le (subsets q hq) room) in
      let first : expanded b an (taken stream c).value ≡ expanded b an (field n (start m s (first_from + (16 * 0 + 0))) c) =
      ap (expanded b an) (got on c refl ∙ ap (λ (a : ℕ). field n a c) (sym (index_start_is m s hm))) in
      drawn
      ∙ keyed_law m n b k t s eb es flat subsets palette x _
      (λ q hq. ap (λ (keys : Keys). key_at b t keys q) ek ∙ key_at_is b t x set narrow small q hq
      ∙ ap (λ (l : ℕ). part x b q * 2 ^ t + l) (maps.at q hq))
      (indexes_at m s 0 n b c an (omega arith) eb ea et (ex ∙ first))

  pub two_keys : split_at m n ≡ Two id → set ≡ partition_word2 b id
      → x ≡ expanded b (0 ∷ anchor_in2 set ∷ []) (taken stream (16 * b - 2)).value
      → keys ≡ keys_of b 1 x set → Palette m n b 2 1 p → picture ≡ painted (key_at b 1 keys) p → picture ≡ direct_pixels m n
  two_keys es e =
      let fixes : Fixes2 id (anchor_in2 set) = fixes_2 hid most (omega arith) e in
      let f = fixes.fixup in
      by_keys (Two id) 2 1 (16 * b - 2) (0 ∷ anchor_in2 set ∷ []) es refl (λ q. subset_below (Two id) q hid) (omega arith) (omega arith)
      fixes.are (size_2 b (anchor_in2 set) (omega arith) f.above f.pixel) (maps_2 hid most (omega arith) e)

  pub three_keys : split_at m n ≡ Three id → set ≡ partition_word3 b id
      → x ≡ expanded b (0 ∷ second_in3 set ∷ third_in3 set ∷ []) (taken stream (16 * b - 3)).value
      → keys ≡ keys_of b 2 x set → Palette m n b 3 2 p → picture ≡ painted (key_at b 2 keys) p → picture ≡ direct_pixels m n
  three_keys es e =
      let fixes : Fixes3 id (second_in3 set) (third_in3 set) = fixes_3 hid most least e in
      let f = fixes.fixups in
      by_keys (Three id) 3 2 (16 * b - 3) (0 ∷ second_in3 set ∷ third_in3 set ∷ []) es refl (λ q. subset_below (Three id) q hid) (omega arith) least
      fixes.are (size_3 b (second_in3 set) (third_in3 set) (omega arith) f.above f.rising f.pixel) (maps_3 hid most least e)
