-- The rows of all row numbers together are the picture, and every byte of it is a channel of a shown pixel.
-- Assumes nothing.
use mathlib.Core.Path.{◌≡◌, refl, ◌∙◌, ap, ap₂, sym}
use mathlib.Core.List.{List, [], ◌++◌}
use Prim.Native.Nat.{ℕ, zero, suc, ◌+◌, ◌*◌, ◌/◌, ◌%◌, ◌<◌, ◌≤◌, min}
use native.Mathlib.Nat.{div-add-mod', div-lt_iff_lt-mul, mod-lt, add_assoc, mul_left_comm, mul_assoc, mul-le-mul_right, add-mul, zero-mul}
use native.Mathlib.Omega.{arith}
use lib.Arith.{digits_lt, digits_div, digits_mod}
use lib.ListN.{length, get_or, take, drop, length-take, length-drop}
use lib.Seq.{get_or-take, get_or-drop, ext_get_or}
use Rattle.laws.specs.Tables.{table, table_from}
use Rattle.laws.proofs.Joining.{table_append, table_same}
use Rattle.laws.proofs.Part.{get_d_table, length_table}
use Rattle.bc7_format.specs.Lines.{pixel, pixels}
use Rattle.tile_rules.proofs.Theorems.{has_columns}
use Rattle.head_rules.specs.declared.Form.{Form}
use Rattle.head_rules.specs.declared.Form.TheVariants.{Rows}
use Rattle.head_rules.specs.Answers.{Head}
use Rattle.head_rules.specs.Geometry.{across, blocks_of, number_at, number_by, place_of, side_shown, stored_by, whole_length}
use Rattle.head_rules.specs.Heads.{Sized, read_head}
use Rattle.head_rules.proofs.Orders.{blocks_within, each_place, form_order}
use Rattle.laws.proofs.Refusals.{accepted_when}
use Rattle.sheet_rules.specs.Calls.{WholeSheet}
use Rattle.sheet_rules.specs.Pictures.{all_blocks, block_showing, blocks_as, byte_as, decoded_rows, picture, picture_byte, pixel_in, row_of}
use Rattle.bcn_format.specs.Block.{block_at}
use Rattle.sheet_rules.specs.Rows.{channel, row_byte, row_bytes, row_out, row_refusal}
use Rattle.sheet_rules.specs.Sheets.{block_in, block_by}
use Rattle.sheet_rules.proofs.Refusing.{drawn, row_rules_is}
use Rattle.bcn_format.proofs.Storing.{block_get, block_long}

-- a part of a part is a part of the whole
part_get : (s : List ℕ) (at n i : ℕ) → i < n → get_or (take n (drop at s)) i 0 ≡ get_or s (at + i) 0
part_get s at n i h = get_or-take n (drop at s) i 0 h ∙ get_or-drop at s i 0

part_part : (s : List ℕ) (m n at c : ℕ) → at + c ≤ n → take c (drop at (take n (drop m s))) ≡ take c (drop (m + at) s)
part_part s m n at c h =
    ext_get_or 0 _ _ (simp (length-take, length-drop) (omega arith))
    (λ i l. let l' : i < c = omega (arith, simp (length-take, length-drop) at l) in
    part_get (take n (drop m s)) at c i l' ∙ part_get s m n (at + i) (omega arith) ∙ ap (λ (k : ℕ). get_or s k 0) (sym (add_assoc m at i))
    ∙ sym (part_get s (m + at) c i l'))

pub block_of_part : (s : List ℕ) (m n at : ℕ) → at + 16 ≤ n → block_at (take n (drop m s)) at ≡ block_at s (m + at)
unfolding block_at
block_of_part s m n at h = part_part s m n at 16 h

-- byte k of row n of blocks is a byte of the picture
module _ (w : ℕ) (pos : 0 < w) (all : List ℕ) (n k : ℕ) (four : k / (4 * w) < 4) where
  inside : k % (4 * w) < 4 * w
  inside = mod-lt k (omega arith)

  at : 4 * n * (4 * w) + k ≡ (4 * n + k / (4 * w)) * (4 * w) + k % (4 * w)
  at = omega (arith, div-add-mod' k (4 * w), add-mul (4 * n) (k / (4 * w)) (4 * w))

  row_byte_is : row_byte w (row_of w all n) k ≡ picture_byte w all (4 * n * (4 * w) + k)
  unfolding row_byte picture_byte row_of
  row_byte_is =
      let d : (4 * n * (4 * w) + k) / (4 * w) ≡ 4 * n + k / (4 * w) = ap (λ (m : ℕ). m / (4 * w)) at ∙ digits_div (4 * n + k / (4 * w)) inside in
      let m : (4 * n * (4 * w) + k) % (4 * w) ≡ k % (4 * w) = ap (λ (j : ℕ). j % (4 * w)) at ∙ digits_mod (4 * n + k / (4 * w)) inside in
      let low : (4 * n * (4 * w) + k) % 4 ≡ k % 4 = omega (arith, mul_assoc 4 n (4 * w)) in
      let there : 16 * (n * across w) + 16 * (k % (4 * w) / 4 / 4) ≡ 16 * (n * across w + k % (4 * w) / 4 / 4) = omega arith in
      let up : (4 * n + k / (4 * w)) / 4 ≡ n = omega arith in
      let down : (4 * n + k / (4 * w)) % 4 ≡ k / (4 * w) = omega arith in
      ap (λ (b : List ℕ). channel (pixels b) (4 * (k / (4 * w)) + k % (4 * w) / 4 % 4) (k % 4))
      (block_of_part all (16 * (n * across w)) (16 * across w) (16 * (k % (4 * w) / 4 / 4)) (omega (arith, inside))
      ∙ ap (block_at all) there)
      ∙ sym (rw (d, m, low, up, down))

-- one row more
module _ (w h : ℕ) (pos : 0 < w) (all : List ℕ) (n : ℕ) where
  next_byte : (k : ℕ) → k < side_shown h n * (4 * w) → row_byte w (row_of w all n) k ≡ picture_byte w all (min (4 * n) h * (4 * w) + k)
  next_byte k l =
      let q : k / (4 * w) < side_shown h n = (div-lt_iff_lt-mul {k = 4 * w} {x = k} {y = side_shown h n} (omega arith)).1 l in
      let e : 4 * n ≡ min (4 * n) h = omega arith in
      row_byte_is w pos all n k (omega arith) ∙ ap (λ (m : ℕ). picture_byte w all (m * (4 * w) + k)) e

  next_row : table (min (4 * n) h * (4 * w)) (picture_byte w all) ++ table (side_shown h n * (4 * w)) (row_byte w (row_of w all n))
      ≡ table (min (4 * suc n) h * (4 * w)) (picture_byte w all)
  next_row =
      let e : min (4 * n) h + side_shown h n ≡ min (4 * suc n) h = omega arith in
      ap (λ (t : List ℕ). table (min (4 * n) h * (4 * w)) (picture_byte w all) ++ t)
      (table_same 0 (side_shown h n * (4 * w)) (row_byte w (row_of w all n)) (λ k. picture_byte w all (min (4 * n) h * (4 * w) + k)) next_byte)
      ∙ table_append 0 (min (4 * n) h * (4 * w)) (side_shown h n * (4 * w)) (picture_byte w all)
      ∙ ap (λ (m : ℕ). table m (picture_byte w all)) (sym (add-mul (min (4 * n) h) (side_shown h n) (4 * w)) ∙ ap (λ (m : ℕ). m * (4 * w)) e)

nothing : (f : ℕ → ℕ) → table 0 f ≡ []
unfolding table table_from
nothing f = refl

-- decoding row n of a whole sheet's blocks is never refused, and writes that row's scanlines
module _ (w h : ℕ) (z : Sized w h) (all : List ℕ) (whole : length all ≡ 16 * (across h * across w)) where
  module _ (n : ℕ) (below : n < across h) where
    row_long : length (row_of w all n) ≡ 16 * across w
    unfolding row_of
    row_long =
        simp (length-take, length-drop)
        (omega (arith, whole, mul-le-mul_right {m = n + 1} {n = across h} (across w) (omega arith), add-mul n 1 (across w)))

    row_told : (out : List ℕ) → length out ≡ side_shown h n * (4 * w) → row_refusal w h n (length (row_of w all n)) (length out) ≡ 0
    row_told out room = (accepted_when (row_rules_is w h n (length (row_of w all n)) (length out))).1 (z, (below, (row_long, (room, tt))))

    pub row_decoded : (out : List ℕ) → length out ≡ side_shown h n * (4 * w)
        → (row_refusal w h n (length (row_of w all n)) (length out) ≡ 0)
        × (row_out w h n (row_of w all n) out ≡ row_bytes w (side_shown h n) (row_of w all n))
    row_decoded out room = (row_told out room, drawn w h n (row_of w all n) out (row_told out room))

  module _ (outs : ℕ → List ℕ) (room : (n : ℕ) → n < across h → length (outs n) ≡ side_shown h n * (4 * w)) where
    rows_are : (n : ℕ) → n ≤ across h → decoded_rows w h all outs n ≡ table (min (4 * n) h * (4 * w)) (picture_byte w all)
    unfolding decoded_rows row_bytes
    rows_are zero l =
        let e : 0 ≡ min (4 * 0) h = omega arith in
        sym (nothing (picture_byte w all)) ∙ ap (λ (m : ℕ). table m (picture_byte w all)) (sym (zero-mul (4 * w)) ∙ ap (λ (m : ℕ). m * (4 * w)) e)
    rows_are (suc n) l = rw (rows_are n (omega arith), (row_decoded n l (outs n) (room n l)).1) (next_row w h z.wide all n)

    -- all rows together are the picture, whatever the outputs held
    pub rows_are_picture : decoded_rows w h all outs (across h) ≡ picture w h all
    unfolding picture
    rows_are_picture =
        let e : min (4 * across h) h ≡ h = omega arith in
        rows_are (across h) (omega arith) ∙ ap (λ (m : ℕ). table (m * (4 * w)) (picture_byte w all)) e

-- a channel of the pixels is a channel of the format's pixel
channel_is : (bs : List ℕ) (q c : ℕ) → q < 16 → c < 4 → channel (pixels bs) q c ≡ pixel bs q c
unfolding channel pixels
channel_is bs q c hq hc = rw (get_d_table 16 (λ q. table 4 (pixel bs q)) [] q hq) (get_d_table 4 (pixel bs q) 0 c hc)

-- every shown pixel: the four bytes at x, y are the format's pixel of its block
pub picture_shows : (w h : ℕ) (all : List ℕ) (x y c : ℕ) → x < w → y < h → c < 4 → get_or (picture w h all) (y * (4 * w) + (4 * x + c)) 0
    ≡ pixel (block_showing w all x y) (pixel_in x y) c
unfolding picture picture_byte
picture_shows w h all x y c lx ly lc =
    let l : 4 * x + c < 4 * w = omega arith in
    let low : (y * (4 * w) + (4 * x + c)) % 4 ≡ c = omega (arith, mul_left_comm y 4 w) in
    let px : (4 * x + c) / 4 ≡ x = omega arith in
    get_d_table (h * (4 * w)) (picture_byte w all) 0 (y * (4 * w) + (4 * x + c)) (digits_lt ly l)
    ∙ rw (digits_mod y l, digits_div y l, low, px) (channel_is (block_showing w all x y) (pixel_in x y) c (omega arith) lc)

-- all blocks of a sheet in the order of form f
module _ (f : Form) (h : Head) (s : List ℕ) where
  abbrev c : ℕ
  c = across h.width

  abbrev r : ℕ
  r = across h.height

  pub all_long : length (blocks_as f h s) ≡ 16 * blocks_of h
  unfolding blocks_as
  all_long = length_table (16 * blocks_of h) (byte_as f h s)

  -- byte j of the block that stands at q
  pub byte_in_all : (q j : ℕ) → q < blocks_of h → j < 16 → get_or (blocks_as f h s) (16 * q + j) 0 ≡ get_or (block_by h s (number_by f c r q)) j 0
  unfolding blocks_as byte_as
  byte_in_all q j l lj =
      let up : (16 * q + j) / 16 ≡ q = omega arith in
      let low : (16 * q + j) % 16 ≡ j = omega arith in
      get_d_table (16 * blocks_of h) (byte_as f h s) 0 (16 * q + j) (omega (arith, l)) ∙ rw (up, low)

  -- the order of form f on the blocks of the sheet
  pub stored_lt : (b : ℕ) → b < blocks_of h → stored_by f c r b < blocks_of h
  unfolding blocks_of
  stored_lt b l = (form_order f c r (has_columns c r b l)).to b l

  pub number_lt : (q : ℕ) → q < blocks_of h → number_by f c r q < blocks_of h
  unfolding blocks_of
  number_lt q l = (form_order f c r (has_columns c r q l)).from q l

  pub number_back : (b : ℕ) → b < blocks_of h → number_by f c r (stored_by f c r b) ≡ b
  unfolding blocks_of
  number_back b l = (form_order f c r (has_columns c r b l)).from_to b l

  pub stored_back : (q : ℕ) → q < blocks_of h → stored_by f c r (number_by f c r q) ≡ q
  unfolding blocks_of
  stored_back q l = (form_order f c r (has_columns c r q l)).to_from q l

  as_many : (g : Head) → g.width ≡ h.width → g.height ≡ h.height → blocks_of g ≡ blocks_of h
  unfolding blocks_of
  as_many g ew eh = rw (ew, eh)

  -- two sheets of one size that have the same blocks have all of them alike in every order
  pub all_same : (g : Head) (t : List ℕ) → g.width ≡ h.width → g.height ≡ h.height
      → ((b : ℕ) → b < blocks_of h → block_by g t b ≡ block_by h s b) → blocks_as f g t ≡ blocks_as f h s
  unfolding blocks_as byte_as
  all_same g t ew eh e =
      ap (λ (n : ℕ). table (16 * n) (byte_as f g t)) (as_many g ew eh)
      ∙ table_same 0 (16 * blocks_of h) (byte_as f g t) (byte_as f h s)
      (λ k l. ap₂ (λ (m n : ℕ). get_or (block_by g t (number_by f (across m) (across n) (k / 16))) (k % 16) 0) ew eh
      ∙ ap (λ (x : List ℕ). get_or x (k % 16) 0) (e (number_by f c r (k / 16)) (number_lt (k / 16) (omega (arith, l)))))

  module _ (whole : length s ≡ whole_length h) where
    block_sixteen : (b : ℕ) → b < blocks_of h → length (block_by h s b) ≡ 16
    unfolding block_by
    block_sixteen b l = block_long s (place_of h b) (omega (arith, whole, blocks_within h b l))

    -- block b stands where form f stores it
    pub block_in_all : (b : ℕ) → b < blocks_of h → block_at (blocks_as f h s) (16 * stored_by f c r b) ≡ block_by h s b
    block_in_all b l =
        let q = stored_by f c r b in
        let all = block_long (blocks_as f h s) (16 * q) (omega (arith, all_long, stored_lt b l)) in
        ext_get_or 0 (block_at (blocks_as f h s) (16 * q)) (block_by h s b) (all ∙ sym (block_sixteen b l))
        (λ j lj. let lj' : j < 16 = omega (arith, all, lj) in
        block_get (blocks_as f h s) (16 * q) j lj' ∙ byte_in_all q j (stored_lt b l) lj'
        ∙ ap (λ (n : ℕ). get_or (block_by h s n) j 0) (number_back b l))

    number_is : (q : ℕ) → h.form ≡ f → place_of h (number_at h q) ≡ place_of h (number_by f c r q)
    unfolding number_at
    number_is q e = rw e

    -- in the order of their own form they are the bytes behind the head
    pub all_as_stored : h.form ≡ f → blocks_as f h s ≡ drop h.start s
    unfolding blocks_as byte_as block_by
    all_as_stored e =
        ext_get_or 0 (blocks_as f h s) (drop h.start s) (all_long ∙ sym (length-drop h.start s ∙ omega (arith, whole)))
        (λ k l. let q = k / 16 in
        let lq : q < blocks_of h = omega (arith, all_long, l) in
        get_d_table (16 * blocks_of h) (byte_as f h s) 0 k (omega (arith, all_long, l))
        ∙ block_get s (place_of h (number_by f c r q)) (k % 16) (omega arith)
        ∙ ap (λ (i : ℕ). get_or s i 0) (omega (arith, number_is q e, each_place h q lq)) ∙ sym (get_or-drop h.start s k 0))

-- block b of a sheet is the one that the picture shows in its column and its row: at x, y is block y / 4 · columns + x / 4
module _ (s : List ℕ) (z : WholeSheet s) (b x y : ℕ) (l : b < blocks_of (read_head s)) (column : x / 4 ≡ b % across (read_head s).width)
    (row : y / 4 ≡ b / across (read_head s).width) where
  pub block_shown_there : block_showing (read_head s).width (all_blocks s) x y ≡ block_in s b
  block_shown_there =
      let n = across (read_head s).width in
      let e : y / 4 * n + x / 4 ≡ b = rw (row, column) (div-add-mod' b n) in
      rw e (block_in_all Rows (read_head s) s z.long b l)

  pub picture_shows_block : (h c : ℕ) → x < (read_head s).width → y < h → c < 4
      → get_or (picture (read_head s).width h (all_blocks s)) (y * (4 * (read_head s).width) + (4 * x + c)) 0
      ≡ pixel (block_in s b) (pixel_in x y) c
  picture_shows_block h c lx ly lc =
      picture_shows (read_head s).width h (all_blocks s) x y c lx ly lc
      ∙ ap (λ (bs : List ℕ). pixel bs (pixel_in x y) c) block_shown_there

-- each byte is a channel of exactly one shown pixel
pub record ByteShown (w h : ℕ) (all : List ℕ) (k : ℕ) : Type 0 where
  pub x : ℕ
  pub y : ℕ
  pub c : ℕ
  pub across_it : x < w
  pub down_it : y < h
  pub of_four : c < 4
  pub place : k ≡ y * (4 * w) + (4 * x + c)
  pub byte : get_or (picture w h all) k 0 ≡ pixel (block_showing w all x y) (pixel_in x y) c

pub picture_long : (w h : ℕ) (all : List ℕ) → length (picture w h all) ≡ h * (4 * w)
unfolding picture
picture_long w h all = length_table (h * (4 * w)) (picture_byte w all)

pub each_byte : (w h : ℕ) (all : List ℕ) (k : ℕ) → 0 < w → k < h * (4 * w) → ByteShown w h all k
each_byte w h all k pos l =
    let in_line_holds : k % (4 * w) < 4 * w = mod-lt k (omega arith) in
    let line : k / (4 * w) < h = (div-lt_iff_lt-mul {k = 4 * w} {x = k} {y = h} (omega arith)).1 l in
    let at : k ≡ k / (4 * w) * (4 * w) + (4 * (k % (4 * w) / 4) + k % (4 * w) % 4) = omega (arith, div-add-mod' k (4 * w)) in
    record {
      x = k % (4 * w) / 4;
      y = k / (4 * w);
      c = k % (4 * w) % 4;
      across_it = omega arith;
      down_it = line;
      of_four = omega arith;
      place = at;
      byte = ap (λ (m : ℕ). get_or (picture w h all) m 0) at ∙ picture_shows w h all (k % (4 * w) / 4) (k / (4 * w)) (k % (4 * w) % 4)
          (omega arith) line (omega arith);
    }

pub one_place : (w x y c u v d : ℕ) → x < w → c < 4 → u < w → d < 4 → y * (4 * w) + (4 * x + c) ≡ v * (4 * w) + (4 * u + d) → (x ≡ u) × (y ≡ v)
    × (c ≡ d)
one_place w x y c u v d hx hc hu hd e =
    let a : 4 * x + c < 4 * w = omega arith in
    let b : 4 * u + d < 4 * w = omega arith in
    let low : 4 * x + c ≡ 4 * u + d = sym (digits_mod y a) ∙ ap (λ (m : ℕ). m % (4 * w)) e ∙ digits_mod v b in
    (omega arith, sym (digits_div y a) ∙ ap (λ (m : ℕ). m / (4 * w)) e ∙ digits_div v b, omega arith)
