-- What the rows of the table have in common, and the pixels of a mode with two subsets and with one.
-- Assumes nothing.
use Rattle.std.proofs.Common.{◌≡◌, ℕ, ◌+◌, ◌-◌, ◌*◌, ◌/◌, ◌%◌, ◌^◌, ◌<◌, ◌≤◌, Bool, true, false, T, eqb, leb, List, [], ◌∷◌, get_or, sym, refl, ap, ◌∙◌, subst, mod-lt, arith, eqb→eq, leb→le, pow_pos, le-ltb, lt-ltb, ne_eqb}
use Rattle.laws.specs.Digits.{split, total}
use Rattle.laws.specs.Tables.{below, both, implies, pick, table}
use Rattle.laws.proofs.Joining.{table_same}
use Rattle.laws.proofs.Rows.{digit, split_mod}
use Rattle.laws.proofs.Tests.{at, both_left, both_right, eqb_of, implied}
use Rattle.bcn_format.specs.Block.{field, number}
use Rattle.bcn_format.specs.Indexes.{expanded, index_width, index_widths, part}
use Rattle.bcn_format.specs.Partitions.{among, anchors2, or, subset2}
use Rattle.bcn_format.proofs.Subsets.{subset2_lt}
use Rattle.bcn_format.proofs.Expanding.{part_expanded, size_1, size_2}
use Rattle.partitions.specs.Words.{anchor_in2, partition_word2}
use Rattle.partitions.proofs.PartitionWords.{Fixes2, Maps, fixes_2, maps_2}
use Rattle.drawing.specs.declared.keys.Keys.{Keys}
use Rattle.drawing.specs.Keys.{key_at, keys_of}
use Rattle.drawing.proofs.keys.KeyWords.{key_at_is}
use Rattle.bc6h_format.specs.Items.{is_of, items_from, items_of, long}
use Rattle.bc6h_format.specs.Modes.{Row, index_bits, mode_in, row_of, rows}
use Rattle.bc6h_format.specs.Opened.{anchors, index_of, item_widths, partition_of, stored_indexes, subset}
use Rattle.bc6h_format.specs.Halves.{half, halves, shown}
use Rattle.bc6h_modes.specs.Lanes.{lanes}
use Rattle.bc6h_modes.specs.Numbers.{one_subset, two_subsets}
use Rattle.bc6h_modes.specs.Runs.{Run, placed}
use Rattle.bc6h_modes.proofs.Rows.{runs_from, stored}
use Rattle.bc6h.specs.Lanes.{colours, finished_lanes, widened_lanes}
use Rattle.bc6h.specs.Painting.{mode_pixels, painted_by, pixel_at, words_of}
use Rattle.bc6h.proofs.Pictures.{channel, pixel_is}

-- a test that each mode of a list passes
abbrev every : (ℕ → Bool) → List ℕ → Bool
every f [] = true
every f (m ∷ ms) = both (f m) (every f ms)

pub of_mode_is : (f : ℕ → Bool) (ms : List ℕ) → T (every f ms) → (m : ℕ) → T (among m ms) → T (f m)
of_mode_is f [] t m h = absurd h
of_mode_is f (a ∷ ms) t m h = go (eqb m a) refl h (of_mode_is f ms (both_right (f a) (every f ms) t) m)
  where
    go : (b : Bool) → eqb m a ≡ b → T (or b (among m ms)) → (T (among m ms) → T (f m)) → T (f m)
    go true e x later = subst (λ (k : ℕ). T (f k)) (sym (eqb→eq m a (subst T (sym e) tt))) (both_left (f a) (every f ms) t)
    go false e x later = later x

-- one run of w bits from bit a on
abbrev is_run : ℕ → ℕ → List Run → Bool
is_run a w [] = false
is_run a w (r ∷ []) = both (eqb r.from a) (both (eqb r.long w) (eqb r.to 0))
is_run a w (r ∷ s ∷ rs) = false

run_placed : (n a w : ℕ) (rs : List Run) → T (is_run a w rs) → field n a w ≡ placed n rs
run_placed n a w [] t = absurd t
run_placed n a w (r ∷ s ∷ rs) t = absurd t
run_placed n a w (r ∷ []) t =
    let u = both_right (eqb r.from a) (both (eqb r.long w) (eqb r.to 0)) t in
    let ea = eqb→eq r.from a (both_left (eqb r.from a) _ t) in
    let ew = eqb→eq r.long w (both_left (eqb r.long w) _ u) in
    let et = eqb→eq r.to 0 (both_right (eqb r.long w) _ u) in
    rw (ea, ew, et) (let y : field n a w ≡ field n a w * 1 + 0 = omega arith in y)

-- the rows with two subsets, and with one
abbrev is_two : ℕ → Bool
is_two m =
    both (eqb (row_of m).subsets 2)
    (both (eqb (total (item_widths (row_of m))) 82)
    (both (is_run 77 5 (runs_from 3 1 (row_of m).items 0)) (both (leb 2 (row_of m).base) (leb (row_of m).base 14))))

all_two : T (every is_two two_subsets)
unfolding rows row_of items_of items_from item_widths is_of long
all_two = tt

pub record TwoRow (m : ℕ) : Type 0 where
  pub subsets : (row_of m).subsets ≡ 2
  pub head : total (item_widths (row_of m)) ≡ 82
  pub partition : (n : ℕ) → partition_of (row_of m) n ≡ field n 77 5
  pub least : 2 ≤ (row_of m).base
  pub most : (row_of m).base ≤ 14

pub two_row : (m : ℕ) → T (among m two_subsets) → TwoRow m
unfolding partition_of
two_row m h =
    let r = row_of m in
    let t = of_mode_is is_two two_subsets all_two m h in
    let u = both_right (eqb r.subsets 2) _ t in
    let v = both_right (eqb (total (item_widths r)) 82) _ u in
    let w = both_right (is_run 77 5 (runs_from 3 1 r.items 0)) _ v in
    record {
      subsets = eqb→eq _ _ (both_left (eqb r.subsets 2) _ t);
      head = eqb→eq _ _ (both_left (eqb (total (item_widths r)) 82) _ u);
      partition = λ n. sym (stored r n 3 1 (run_placed n 77 5 (runs_from 3 1 r.items 0) (both_left (is_run 77 5 (runs_from 3 1 r.items 0)) _ v)));
      least = leb→le _ _ (both_left (leb 2 r.base) _ w);
      most = leb→le _ _ (both_right (leb 2 r.base) _ w);
    }

abbrev is_one : ℕ → Bool
is_one m =
    both (eqb (row_of m).subsets 1)
    (both (eqb (total (item_widths (row_of m))) 65)
    (both (leb 2 (row_of m).base) (pick (eqb (row_of m).base 16) true (leb (row_of m).base 14))))

all_one : T (every is_one one_subset)
unfolding rows row_of items_of items_from item_widths is_of long
all_one = tt

pub record OneRow (m : ℕ) : Type 0 where
  pub subsets : (row_of m).subsets ≡ 1
  pub head : total (item_widths (row_of m)) ≡ 65
  pub least : 2 ≤ (row_of m).base
  pub most : ((row_of m).base ≡ 16 → ⊥) → (row_of m).base ≤ 14

not_16 : (w : ℕ) → T (pick (eqb w 16) true (leb w 14)) → (w ≡ 16 → ⊥) → w ≤ 14
not_16 w t n = leb→le w 14 (rw (ne_eqb w 16 n) at t)

pub one_row : (m : ℕ) → T (among m one_subset) → OneRow m
one_row m h =
    let r = row_of m in
    let t = of_mode_is is_one one_subset all_one m h in
    let u = both_right (eqb r.subsets 1) _ t in
    let v = both_right (eqb (total (item_widths r)) 65) _ u in
    record {
      subsets = eqb→eq _ _ (both_left (eqb r.subsets 1) _ t);
      head = eqb→eq _ _ (both_left (eqb (total (item_widths r)) 65) _ u);
      least = leb→le _ _ (both_left (leb 2 r.base) _ v);
      most = not_16 r.base (both_right (leb 2 r.base) _ v);
    }

-- an index, expanded and stored
stored_index : (b : ℕ) (an : List ℕ) (n h t q : ℕ) → q < 16 → total (index_widths b an) ≡ t
    → part (expanded b an (field n h t)) b q ≡ get_or (split (index_widths b an) (n / 2 ^ h)) q 0
unfolding field index_widths
stored_index b an n h t q l e =
    part_expanded b an (n / 2 ^ h % 2 ^ t) q l
    ∙ (sym (digit 16 (index_width b an) (n / 2 ^ h % 2 ^ t) q l)
    ∙ ap (λ (x : List ℕ). get_or x q 0)
    (ap (λ (y : ℕ). split (table 16 (index_width b an)) (n / 2 ^ h % 2 ^ y)) (sym e) ∙ split_mod (table 16 (index_width b an)) (n / 2 ^ h)))

-- the pixels, by what is known of each
modes_pixels : (signed : Bool) (m n b : ℕ) (key u i : ℕ → ℕ) (w : List ℕ) {out : List (List ℕ)} → out ≡ painted_by key w
    → ((p : ℕ) → p < 16 → pixel_at w (key p) ≡ table 3 (channel signed (row_of m) n (u p) b (i p)))
    → ((p : ℕ) → p < 16 → subset (row_of m) (partition_of (row_of m) n) p ≡ u p) → index_bits (row_of m) ≡ b
    → ((p : ℕ) → p < 16 → index_of (row_of m) n p ≡ i p) → out ≡ mode_pixels signed m n
unfolding painted_by mode_pixels shown
modes_pixels signed m n b key u i w eo pixel eu eb ei =
    eo
    ∙ table_same [] 16 _ _ (λ p l.
    pixel p l ∙ table_same 0 3 _ _ (λ c lc. rw (eu p l, eb, ei p l) refl))

-- what a row says of subsets, anchors and indexes, by its parts
subset_is : (r : Row) (s a p : ℕ) → r.subsets ≡ s → subset r a p ≡ pick (eqb s 2) (subset2 a p) 0
unfolding subset
subset_is r s a p e = ap (λ (s : ℕ). pick (eqb s 2) (subset2 a p) 0) e

anchors_are : (r : Row) (s a : ℕ) → r.subsets ≡ s → anchors r a ≡ pick (eqb s 2) (anchors2 a) (0 ∷ [])
unfolding anchors
anchors_are r s a e = ap (λ (s : ℕ). pick (eqb s 2) (anchors2 a) (0 ∷ [])) e

bits_are : (r : Row) (s : ℕ) → r.subsets ≡ s → index_bits r ≡ pick (eqb s 2) 3 4
unfolding index_bits
bits_are r s e = ap (λ (s : ℕ). pick (eqb s 2) 3 4) e

index_is : (r : Row) (n p b h : ℕ) (an : List ℕ) → index_bits r ≡ b → anchors r (partition_of r n) ≡ an → total (item_widths r) ≡ h
    → index_of r n p ≡ get_or (split (index_widths b an) (n / 2 ^ h)) p 0
unfolding index_of stored_indexes
index_is r n p b h an eb ea eh =
    ap (λ (b : ℕ). get_or (split (index_widths b (anchors r (partition_of r n))) (n / 2 ^ total (item_widths r))) p 0) eb
    ∙ (ap (λ (an : List ℕ). get_or (split (index_widths b an) (n / 2 ^ total (item_widths r))) p 0) ea
    ∙ ap (λ (h : ℕ). get_or (split (index_widths b an) (n / 2 ^ h)) p 0) eh)

-- a mode with two subsets
module _ (signed : Bool) (m n : ℕ) (row : TwoRow m) (id set x : ℕ) (eid : id ≡ field n 77 5) (hid : id < 32) (eset : set ≡ partition_word2 3 id)
    (ex : x ≡ expanded 3 (0 ∷ anchor_in2 set ∷ []) (field n 82 46)) where
  -- the partition's word: a map, and the anchor behind pixel 0
  maps : Maps 3 (subset2 id) set
  maps = maps_2 (omega arith) (omega arith) (omega arith) eset

  fixes : Fixes2 id (anchor_in2 set)
  fixes = fixes_2 (omega arith) (omega arith) (omega arith) eset

  bits_2 : index_bits (row_of m) ≡ 3
  bits_2 = bits_are (row_of m) 2 row.subsets

  subset_2 : (p : ℕ) → subset (row_of m) (partition_of (row_of m) n) p ≡ subset2 id p
  subset_2 p =
      subset_is (row_of m) 2 (partition_of (row_of m) n) p row.subsets ∙ ap (λ (a : ℕ). subset2 a p) (row.partition n ∙ sym eid)

  index_2 : (p : ℕ) → p < 16 → index_of (row_of m) n p ≡ part x 3 p
  index_2 p l =
      let f = fixes.fixup in
      let t : total (index_widths 3 (0 ∷ anchor_in2 set ∷ [])) ≡ 46 = size_2 3 (anchor_in2 set) (omega arith) f.above f.pixel in
      index_is (row_of m) n p 3 82 (0 ∷ anchor_in2 set ∷ []) bits_2
      (anchors_are (row_of m) 2 (partition_of (row_of m) n) row.subsets
      ∙ (ap anchors2 (row.partition n ∙ sym eid) ∙ fixes.are))
      row.head
      ∙ (sym (stored_index 3 (0 ∷ anchor_in2 set ∷ []) n 82 46 p l t) ∙ ap (λ (y : ℕ). part y 3 p) (sym ex))

  pub two_picture : {q w : List ℕ} {keys : Keys} {out : List (List ℕ)}
      → q ≡ finished_lanes signed (colours 3 8 (widened_lanes signed (row_of m).base (lanes 1 (row_of m) n))) → w ≡ words_of q
      → keys ≡ keys_of 3 1 x set → out ≡ painted_by (key_at 3 1 keys) w → out ≡ mode_pixels signed m n
  unfolding field
  two_picture {q} {w} {keys} eq ew ek eo =
      modes_pixels signed m n 3 (key_at 3 1 keys) (subset2 id) (part x 3) w eo
      (λ p l.
      let hs = subset2_lt id p (omega arith) l in
      let hx : part x 3 p < 8 = mod-lt (x / 2 ^ (p * 3)) (pow_pos 3) in
      let ekey : key_at 3 1 keys p ≡ part x 3 p * 2 + subset2 id p =
      ap (λ (k : Keys). key_at 3 1 k p) ek
      ∙ (key_at_is 3 1 x set (omega arith) (λ p l. rw (maps.at p l) (subset2_lt id p (omega arith) l)) p l ∙ ap
      (λ (s : ℕ). part x 3 p * 2 + s) (maps.at p l)) in
      let key = key_at 3 1 keys p in
      pixel_is signed 1 m n 3 8 (omega arith) eq ew key (subset2 id p) (part x 3 p) (omega (arith, ekey, hs, hx))
      (omega (arith, ekey, hs)) (λ c hc. omega (arith, ekey, hs, hc)))
      (λ p l. subset_2 p) bits_2 index_2

-- and with one
module _ (signed : Bool) (m n : ℕ) (row : OneRow m) (x : ℕ) (ex : x ≡ expanded 4 (0 ∷ []) (field n 65 63)) where
  bits_1 : index_bits (row_of m) ≡ 4
  bits_1 = bits_are (row_of m) 1 row.subsets

  subset_1 : (p : ℕ) → subset (row_of m) (partition_of (row_of m) n) p ≡ 0
  subset_1 p = subset_is (row_of m) 1 (partition_of (row_of m) n) p row.subsets

  index_1 : (p : ℕ) → p < 16 → index_of (row_of m) n p ≡ part x 4 p
  index_1 p l =
      index_is (row_of m) n p 4 65 (0 ∷ []) bits_1 (anchors_are (row_of m) 1 (partition_of (row_of m) n) row.subsets) row.head
      ∙ (sym (stored_index 4 (0 ∷ []) n 65 63 p l (size_1 4 (omega arith))) ∙ ap (λ (y : ℕ). part y 4 p) (sym ex))

  pub one_picture : {q w : List ℕ} {out : List (List ℕ)}
      → q ≡ finished_lanes signed (colours 4 4 (widened_lanes signed (row_of m).base (lanes 0 (row_of m) n))) → w ≡ words_of q
      → out ≡ painted_by (part x 4) w → out ≡ mode_pixels signed m n
  unfolding field
  one_picture {q} {w} eq ew eo =
      modes_pixels signed m n 4 (part x 4) (λ p. 0) (part x 4) w eo
      (λ p l.
      let hx : part x 4 p < 16 = mod-lt (x / 2 ^ (p * 4)) (pow_pos 4) in
      pixel_is signed 0 m n 4 4 (omega arith) eq ew (part x 4 p) 0 (part x 4 p) hx (omega arith) (λ c hc. omega (arith, hc)))
      (λ p l. subset_1 p) bits_1 index_1

-- a block's pixels are those of its mode
pub halves_are : (signed : Bool) (bs : List ℕ) (m n : ℕ) → number bs ≡ n → mode_in n ≡ m → ((row_of m).subsets ≡ 0 → ⊥)
    → mode_pixels signed m n ≡ halves signed bs
unfolding halves half mode_pixels
halves_are signed bs m n en em some =
    table_same [] 16 _ _ (λ q l. table_same 0 3 _ _ (λ c lc.
    sym (ap (λ (y : ℕ). pick (eqb (row_of (mode_in y)).subsets 0) 0 (shown signed (row_of (mode_in y)) y q c)) en
    ∙ (ap (λ (y : ℕ). pick (eqb (row_of y).subsets 0) 0 (shown signed (row_of y) n q c)) em
    ∙ ap (λ (b : Bool). pick b 0 (shown signed (row_of m) n q c)) (ne_eqb (row_of m).subsets 0 some)))))

-- the mode, from the low word
module _ (low high : ℕ) where
  low_two : (high * 2 ^ 64 + low) % 4 ≡ low % 4
  low_two = omega arith

  low_five : (high * 2 ^ 64 + low) % 32 ≡ low % 32
  low_five = omega arith

  pub short_mode : low % 4 < 2 → mode_in (high * 2 ^ 64 + low) ≡ low % 4
  unfolding mode_in
  short_mode h = rw (low_two, lt-ltb (low % 4) 2 h) refl

  pub long_mode : 2 ≤ low % 4 → mode_in (high * 2 ^ 64 + low) ≡ low % 32
  unfolding mode_in
  long_mode h = rw (low_two, le-ltb (low % 4) 2 h, low_five) refl

short_modes : T (below 2 (λ m. among m two_subsets))
short_modes = tt

pub short_two : (m : ℕ) → m < 2 → T (among m two_subsets)
short_two = at 2 (λ m. among m two_subsets) short_modes

long_modes : T (below 32 (λ m. implies (eqb (m % 4) 2) (among m two_subsets)))
unfolding implies
long_modes = tt

pub long_two : (m : ℕ) → m < 32 → m % 4 ≡ 2 → T (among m two_subsets)
long_two m h e = implied (eqb (m % 4) 2) _ (at 32 (λ m. implies (eqb (m % 4) 2) (among m two_subsets)) long_modes m h) (eqb_of (m % 4) 2 e)

one_modes : T (below 16 (λ m. implies (eqb (m % 4) 3) (among m one_subset)))
unfolding implies
one_modes = tt

pub long_one : (m : ℕ) → m < 16 → m % 4 ≡ 3 → T (among m one_subset)
long_one m h e = implied (eqb (m % 4) 3) _ (at 16 (λ m. implies (eqb (m % 4) 3) (among m one_subset)) one_modes m h) (eqb_of (m % 4) 3 e)

no_modes : T (below 16 (λ m. implies (eqb (m % 4) 3) (eqb (row_of (m + 16)).subsets 0)))
unfolding implies rows row_of
no_modes = tt

pub reserved_mode : (m : ℕ) → m < 32 → 16 ≤ m → m % 4 ≡ 3 → (row_of m).subsets ≡ 0
reserved_mode m h l e =
    let same : m - 16 + 16 ≡ m = omega arith in
    let f : (m - 16) % 4 ≡ 3 = omega arith in
    subst (λ (k : ℕ). (row_of k).subsets ≡ 0) same
    (eqb→eq _ 0 (implied (eqb ((m - 16) % 4) 3) _ (at 16 (λ m. implies (eqb (m % 4) 3) (eqb (row_of (m + 16)).subsets 0)) no_modes (m - 16)
    (omega arith))
    (eqb_of ((m - 16) % 4) 3 f)))

pub not_reserved_2 : {m : ℕ} → TwoRow m → (row_of m).subsets ≡ 0 → ⊥
not_reserved_2 r e = let s = r.subsets in omega (arith, s, e)

pub not_reserved_1 : {m : ℕ} → OneRow m → (row_of m).subsets ≡ 0 → ⊥
not_reserved_1 r e = let s = r.subsets in omega (arith, s, e)
