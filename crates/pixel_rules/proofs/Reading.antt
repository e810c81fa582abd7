-- The page read plainly comes to the format's pixel.
-- Assumes nothing.
use mathlib.Core.Path.{◌≡◌, refl, sym, ap, ap₂, ◌∙◌, subst}
use mathlib.Core.Bool.{Bool, true, false}
use mathlib.Core.List.{List, []}
use Prim.Native.Nat.{ℕ, zero, suc, ◌+◌, ◌-◌, ◌*◌, ◌/◌, ◌%◌, ◌^◌, ◌≤◌, ◌<◌}
use native.Mathlib.Nat.{le_refl}
use native.Mathlib.Omega.{arith}
use lib.Dec.{eqb}
use lib.ListN.{get_or}
use lib.Pow.{shr-shr}
use Rattle.bc7_format.specs.declared.Place.TheVariants.{Index}
use Rattle.bc7_format.specs.declared.Split.{Split}
use Rattle.laws.specs.Digits.{Fit, total}
use Rattle.laws.specs.Tables.{pick, table, table_from}
use Rattle.laws.proofs.Part.{get_d_table}
use Rattle.laws.proofs.Rows.{take_table}
use Rattle.bcn_format.specs.Block.{eights, field, number}
use Rattle.bcn_format.specs.Drawing.{drawn, weight_of}
use Rattle.bcn_format.proofs.Fields.{field_lt}
use Rattle.bc7_fields.specs.Fields.{direct, direct_pixels, end_byte}
use Rattle.bc7_format.specs.Lines.{index_set_of, line_at, pixel, pixels, rotated}
use Rattle.bc7_format.specs.Modes.{endpoint_count, index_bits, index_mode_bits, kind_of_mode, mode_of, mode_row, partition_bits, rotation_bits}
use Rattle.bc7_format.specs.Places.{at_place, first_from, place_at, place_count, pos, width, widths}
use Rattle.bc7_format.specs.Splits.{anchors, kind_of, of_kind, partition, rotation, split_at, subset}
use Rattle.bc7_fields.proofs.Fields.{begins, first_start_is}
use Rattle.bc7_format.proofs.Places.{inside_index, place_at_pos}
use Rattle.bc7_fields.proofs.Showing.{pixels_are}
use Rattle.bc7_format.proofs.Starts.{at_field, start, start_room}
use Rattle.bc7_format.proofs.Theorems.{widths_sum_to_128}
use Rattle.pixel_rules.specs.Columns.{column_of, printed_rows, subset_count}
use Rattle.pixel_rules.specs.Strings.{letters, string_for, string_of, subset_spelt}
use Rattle.pixel_rules.specs.Plain.{Spelt, channel_in, first_start, index_in, index_mode_in, index_start, index_wide}
use Rattle.pixel_rules.specs.Plain.{letters_of, partition_in, plain_channel}
use Rattle.pixel_rules.specs.Plain.{rotation_in, set_for, set_start}
use Rattle.pixel_rules.proofs.Walking.{anchor_is, behind, fewer, subset_is, subsets_of, walked_split}

-- A SPLIT OF THE MODE'S KIND
pub record Fitting (m : ℕ) (s : Split) : Type 0 where
  pub mode : m < 8
  pub kind : kind_of s ≡ kind_of_mode m
  pub parts : partition s < 2 ^ partition_bits m
  pub few : partition s < 64
  pub ends : 2 * subsets_of s ≡ endpoint_count m

module _ (m : ℕ) (s : Split) (g : Fitting m s) where
  -- the index of a pixel starts where the page says, and is as wide
  index_begins : (a q : ℕ) → a < 2 → q ≤ 16 → start m s (first_from + (16 * a + q)) ≡ index_start m (letters (string_of s)) a q
  unfolding index_start set_start first_start
  index_begins zero q ha hq =
      let first : start m s first_from ≡ first_start m = first_start_is m s g.mode in
      omega (arith, begins m s 0 ha q hq, behind s g.few (index_bits m 0) q hq, first)
  index_begins (suc zero) q ha hq =
      let first : start m s first_from ≡ first_start m = first_start_is m s g.mode in
      omega (
        arith,
        begins m s 1 ha q hq,
        behind s g.few (index_bits m 1) q hq,
        begins m s 0 (omega arith) 16 (le_refl 16),
        behind s g.few (index_bits m 0) 16 (le_refl 16),
        first,
      )
  index_begins (suc (suc a)) q ha hq = absurd (let z : ⊥ = omega arith in z)

  wide_is : (a q : ℕ) → q < 16 → width m (anchors s) (Index a q) ≡ index_wide m (letters (string_of s)) a q
  unfolding width index_wide
  wide_is a q hq = ap (λ (b : Bool). pick b (index_bits m a - 1) (index_bits m a)) (sym (anchor_is s g.few q hq))

  index_is : (n a q : ℕ) → a < 2 → q < 16 → at_place m s n (Index a q) ≡ index_in m (letters (string_of s)) n a q
  unfolding pos field
  index_is n a q ha hq =
      at_field m s n (Index a q) (inside_index ha hq)
      ∙ ap₂ (λ (x y : ℕ). n / 2 ^ x % 2 ^ y) (index_begins a q ha (omega arith)) (wide_is a q hq)

  whole : start m s place_count ≡ 128
  unfolding start widths
  whole = ap total (take_table place_count place_count _ (le_refl place_count)) ∙ widths_sum_to_128 m s g.mode g.kind g.parts

  room : (a q : ℕ) → a < 2 → q < 16 → index_start m (letters (string_of s)) a q + index_wide m (letters (string_of s)) a q ≤ 128
  unfolding pos
  room a q ha hq =
      let i : ℕ = first_from + (16 * a + q) in
      let w : width m (anchors s) (place_at i) ≡ index_wide m (letters (string_of s)) a q =
      ap (width m (anchors s)) (place_at_pos (Index a q) (inside_index ha hq)) ∙ wide_is a q hq in
      omega (arith, start_room m s i place_count (omega arith) (le_refl place_count), whole, index_begins a q ha (omega arith))

  pub spelt : Spelt m (letters (string_of s))
  spelt = record {
    sixteen = record {
      found = λ q h. (walked_split s g.few q h).found;
      past = λ q h. (walked_split s g.few q h).past;
      digit = λ q h. (walked_split s g.few q h).digit;
      fewer = fewer s g.few;
    };
    inside = λ q h. omega (arith, (walked_split s g.few q h).few, g.ends);
    room = room;
  }

-- THE SPLIT THAT A BLOCK SAYS, behind its marker
said : (m n : ℕ) → split_at m n ≡ of_kind (kind_of_mode m) (partition_in m n) (rotation_in m n) (index_mode_in m n)
unfolding split_at field
said m n =
    ap₂ (λ (r i : ℕ). of_kind (kind_of_mode m) (n / 2 ^ suc m % 2 ^ partition_bits m) (r % 2 ^ rotation_bits m) (i % 2 ^ index_mode_bits m))
    (shr-shr n (suc m) (partition_bits m))
    (ap (λ (x : ℕ). x / 2 ^ rotation_bits m) (shr-shr n (suc m) (partition_bits m)) ∙ shr-shr n (suc m + partition_bits m) (rotation_bits m))

-- by mode: the string, the rotation and the index mode are those that are said
pub record Said (m a r i : ℕ) (s : Split) : Type 0 where
  pub string : string_for (subset_count m) a ≡ string_of s
  pub rotation : rotation s ≡ r
  pub fitting : Fitting m s
  pub set : (q d : ℕ) → set_for m i d ≡ index_set_of s (line_at s q d)
  pub two : (d : ℕ) → set_for m i d < 2

alpha_other : (b : Bool) (i : ℕ) → pick b (1 - i) i ≡ pick (eqb (pick b 1 0) 0) i (1 - i)
alpha_other true i = refl
alpha_other false i = refl

pick_two : (b : Bool) (i : ℕ) → i < 2 → pick b (1 - i) i < 2
pick_two true i h = omega arith
pick_two false i h = h

says : (m : ℕ) → m < 8 → (a r i : ℕ) → a < 2 ^ partition_bits m → r < 2 ^ rotation_bits m → i < 2 ^ index_mode_bits m
    → Said m a r i (of_kind (kind_of_mode m) a r i)
unfolding string_for column_of printed_rows mode_row kind_of_mode endpoint_count set_for index_set_of line_at
says zero h a r i ha hr hi = record {
  string = refl;
  rotation = omega arith;
  fitting = record { mode = h; kind = refl; parts = ha; few = omega arith; ends = refl };
  set = λ q d. refl;
  two = λ d. omega arith;
}
says (suc zero) h a r i ha hr hi = record {
  string = refl;
  rotation = omega arith;
  fitting = record { mode = h; kind = refl; parts = ha; few = ha; ends = refl };
  set = λ q d. refl;
  two = λ d. omega arith;
}
says (suc (suc zero)) h a r i ha hr hi = record {
  string = refl;
  rotation = omega arith;
  fitting = record { mode = h; kind = refl; parts = ha; few = ha; ends = refl };
  set = λ q d. refl;
  two = λ d. omega arith;
}
says (suc (suc (suc zero))) h a r i ha hr hi = record {
  string = refl;
  rotation = omega arith;
  fitting = record { mode = h; kind = refl; parts = ha; few = ha; ends = refl };
  set = λ q d. refl;
  two = λ d. omega arith;
}
says (suc (suc (suc (suc zero)))) h a r i ha hr hi = record {
  string = refl;
  rotation = refl;
  fitting = record { mode = h; kind = refl; parts = omega arith; few = omega arith; ends = refl };
  set = λ q d. alpha_other (eqb d 3) i;
  two = λ d. pick_two (eqb d 3) i hi;
}
says (suc (suc (suc (suc (suc zero))))) h a r i ha hr hi = record {
  string = refl;
  rotation = refl;
  fitting = record { mode = h; kind = refl; parts = omega arith; few = omega arith; ends = refl };
  set = λ q d. alpha_other (eqb d 3) i;
  two = λ d. pick_two (eqb d 3) i (omega arith);
}
says (suc (suc (suc (suc (suc (suc zero)))))) h a r i ha hr hi = record {
  string = refl;
  rotation = omega arith;
  fitting = record { mode = h; kind = refl; parts = omega arith; few = omega arith; ends = refl };
  set = λ q d. refl;
  two = λ d. omega arith;
}
says (suc (suc (suc (suc (suc (suc (suc zero))))))) h a r i ha hr hi = record {
  string = refl;
  rotation = omega arith;
  fitting = record { mode = h; kind = refl; parts = ha; few = ha; ends = refl };
  set = λ q d. refl;
  two = λ d. omega arith;
}
says (suc (suc (suc (suc (suc (suc (suc (suc m)))))))) h a r i ha hr hi = absurd (let z : ⊥ = omega arith in z)

pub split_says : (m n : ℕ) → m < 8 → Said m (partition_in m n) (rotation_in m n) (index_mode_in m n) (split_at m n)
split_says m n h =
    subst (Said m (partition_in m n) (rotation_in m n) (index_mode_in m n)) (sym (said m n))
    (says m h (partition_in m n) (rotation_in m n) (index_mode_in m n) (field_lt n _ (partition_bits m)) (field_lt n _ (rotation_bits m))
    (field_lt n _ (index_mode_bits m)))

-- the letters of a block's partition can be read by
pub block_spelt : (m n : ℕ) → m < 8 → Spelt m (letters_of m n)
unfolding letters_of
block_spelt m n h =
    let g = split_says m n h in
    subst (λ (t : Prim.Native.String.String). Spelt m (letters t)) (sym g.string) (spelt m (split_at m n) g.fitting)

-- a channel read plainly
channel_is : (m n q c : ℕ) → m < 8 → q < 16
    → plain_channel m n q c ≡ direct m (split_at m n) n q c
unfolding plain_channel channel_in direct letters_of
channel_is m n q c hm hq =
    let s : Split = split_at m n in
    let g = split_says m n hm in
    let i : ℕ = index_mode_in m n in
    let d : ℕ = rotated (rotation_in m n) c in
    let turned : d ≡ rotated (rotation s) c = ap (λ (r : ℕ). rotated r c) (sym g.rotation) in
    let step1 : channel_in m i (letters (string_for (subset_count m) (partition_in m n))) n q d ≡ channel_in m i (letters (string_of s)) n q d =
    ap (λ t. channel_in m i (letters t) n q d) g.string in
    let a : ℕ = set_for m i d in
    let e : subset_spelt (letters (string_of s)) q ≡ subset s q = subset_is s g.fitting.few q hq in
    let w : weight_of (index_bits m a) (index_in m (letters (string_of s)) n a q) ≡ weight_of (index_bits m a) (at_place m s n (Index a q)) =
    ap (weight_of (index_bits m a)) (sym (index_is m s g.fitting n a q (g.two d) hq)) in
    step1
    ∙ ap₂ (λ (l v : ℕ). drawn (end_byte m n (2 * l + 0) d) (end_byte m n (2 * l + 1) d) v) e w
    ∙ ap (λ (b : ℕ). drawn (end_byte m n (2 * subset s q + 0) d) (end_byte m n (2 * subset s q + 1) d)
    (weight_of (index_bits m b) (at_place m s n (Index b q)))) (g.set q d)
    ∙ ap (λ (x : ℕ). let b = index_set_of s (line_at s q x) in
    drawn (end_byte m n (2 * subset s q + 0) x) (end_byte m n (2 * subset s q + 1) x) (weight_of (index_bits m b) (at_place m s n (Index b q)))) turned

-- what a block that isn't reserved shows
pub channel_shown : (bs : List ℕ) → Fit eights bs → mode_of bs < 8 → (q c : ℕ) → q < 16 → c < 4
    → plain_channel (mode_of bs) (number bs) q c ≡ pixel bs q c
unfolding pixels direct_pixels table table_from
channel_shown bs sixteen low q c hq hc =
    let m : ℕ = mode_of bs in
    let n : ℕ = number bs in
    let shown : ℕ → List ℕ = λ q. table 4 (direct m (split_at m n) n q) in
    channel_is m n q c low hq
    ∙ sym (ap (λ (l : List ℕ). get_or l c 0) (get_d_table 16 shown [] q hq) ∙ get_d_table 4 (direct m (split_at m n) n q) 0 c hc)
    ∙ sym (ap (λ (l : List (List ℕ)). get_or (get_or l q []) c 0) (pixels_are bs sixteen low))
    ∙ ap (λ (l : List ℕ). get_or l c 0) (get_d_table 16 (λ q. table 4 (pixel bs q)) [] q hq)
    ∙ get_d_table 4 (pixel bs q) 0 c hc
