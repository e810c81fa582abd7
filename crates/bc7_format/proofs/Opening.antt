-- A block opened and shut: blocks of mode m and split s are the functions that are WellFormed.
-- Assumes nothing.
use mathlib.Core.Path.{◌≡◌, refl, sym, ap, ◌∙◌, subst}
use mathlib.Core.List.{List}
use Prim.Native.Nat.{ℕ, zero, suc, ◌+◌, ◌-◌, ◌%◌, ◌^◌, ◌≤◌, ◌<◌}
use native.Mathlib.Nat.{mod-lt}
use native.Mathlib.Omega.{arith}
use lib.Dec.{T, eqb, eqb→eq, ltb, ltb→lt, lt→ltb, lit<}
use lib.ListN.{get_or}
use lib.Pow.{mod-mod-pow, low, pow_pos}
use Rattle.bc7_format.specs.declared.Place.{Place}
use Rattle.bc7_format.specs.declared.Place.TheVariants.{Lead}
use Rattle.bc7_format.specs.declared.Split.{Split}
use Rattle.laws.specs.Digits.{Fit, join, more, split, total}
use Rattle.laws.specs.Tables.{below, implies, table, table_from}
use Rattle.laws.proofs.Digits.{join_lt, join_split, split_fits_is, split_join}
use Rattle.laws.proofs.Rows.{length_split}
use Rattle.laws.proofs.Tests.{at, eqb_of, implied}
use Rattle.bcn_format.specs.Block.{bytes_of, eights, number, trailing}
use Rattle.bc7_format.specs.Modes.{mode_of, kind_of_mode, mode_row, partition_bits}
use Rattle.bc7_format.specs.Places.{at_place, block_of, inside, list_of, opened, place_at, pos, width, widths}
use Rattle.bc7_format.specs.Splits.{lead_bits, kind_of, of_kind, partition, split_at, split_of}
use Rattle.bc7_format.specs.WellFormed.{WellFormed}
use Rattle.bc7_format.proofs.Places.{at_list, fit_at, fit_list, length_widths, list_at, list_ext, total_128}

kind_below : (m : ℕ) → m < 8 → kind_of_mode m < 4
unfolding mode_row kind_of_mode
kind_below m h = ltb→lt _ 4 (at 8 (λ m. ltb (kind_of_mode m) 4) tt m h)

kind_of_is : (k a r i : ℕ) → k < 4 → kind_of (of_kind k a r i) ≡ k
kind_of_is zero a r i h = refl
kind_of_is (suc zero) a r i h = refl
kind_of_is (suc (suc zero)) a r i h = refl
kind_of_is (suc (suc (suc k))) a r i h = omega arith

partition_of_is : (k a r i : ℕ) → partition (of_kind k a r i) ≤ a
partition_of_is zero a r i = omega arith
partition_of_is (suc zero) a r i = omega arith
partition_of_is (suc (suc zero)) a r i = omega arith
partition_of_is (suc (suc (suc k))) a r i = omega arith

module _ {m : ℕ} {s : Split} {f : Place → ℕ} (g : WellFormed m s f) where
  pub good_kind : kind_of s ≡ kind_of_mode m
  good_kind = rw (← g.splits) (kind_of_is (kind_of_mode m) (f (Lead 1)) (f (Lead 2)) (f (Lead 3)) (kind_below m g.mode))

  pub good_partition : partition s < 2 ^ partition_bits m
  unfolding width
  good_partition =
      let h : f (Lead 1) < 2 ^ partition_bits m = g.fits (Lead 1) tt in
      let l : partition s ≤ f (Lead 1) = rw (← g.splits) (partition_of_is (kind_of_mode m) (f (Lead 1)) (f (Lead 2)) (f (Lead 3))) in
      omega arith

  pub good_total : total (widths m s) ≡ 128
  good_total = total_128 m s g.mode good_kind good_partition

  -- the block's number
  shut : ℕ
  shut = join (widths m s) (list_of f)

  fit : Fit (widths m s) (list_of f)
  fit = fit_list m s f g.fits

  shut_lt : shut < 2 ^ 128
  unfolding shut
  shut_lt = subst (λ (t : ℕ). join (widths m s) (list_of f) < 2 ^ t) good_total (join_lt fit)

  pub number_block : number (block_of m s f) ≡ join (widths m s) (list_of f)
  unfolding number block_of bytes_of shut
  number_block = join_split eights shut shut_lt

  pub block_fits : Fit eights (block_of m s f)
  unfolding block_of bytes_of
  block_fits = split_fits_is eights _

  -- what stands at its places
  fields : split (widths m s) shut ≡ list_of f
  unfolding shut
  fields = split_join fit

  pub block_at : (x : Place) → T (inside x) → at_place m s (number (block_of m s f)) x ≡ f x
  unfolding at_place shut
  block_at x h = rw number_block (ap (λ (l : List ℕ). get_or l (pos x) 0) fields ∙ at_list f x h)

marker_mode : T (below 8 (λ m. below 256 (λ b. implies (eqb (b % 2 ^ suc m) (2 ^ m)) (eqb (trailing 8 b) m))))
unfolding trailing implies
marker_mode = tt

mode_marker : T (below 256 (λ b. implies (ltb (trailing 8 b) 8) (eqb (b % 2 ^ suc (trailing 8 b)) (2 ^ trailing 8 b))))
unfolding trailing implies
mode_marker = tt

-- a number's low bits through its low byte
low_byte : (n m : ℕ) → m < 8 → n % 2 ^ 8 % 2 ^ suc m ≡ n % 2 ^ suc m
low_byte n m h =
    let e : (7 - m) + suc m ≡ 8 = omega arith in
    subst (λ (k : ℕ). n % 2 ^ k % 2 ^ suc m ≡ n % 2 ^ suc m) e (mod-mod-pow n (7 - m) (suc m))

-- the mode is where the marker stands
of_marker : (m b : ℕ) → m < 8 → b < 256 → b % 2 ^ suc m ≡ 2 ^ m → trailing 8 b ≡ m
of_marker m b hm hb e =
    eqb→eq _ m (implied (eqb (b % 2 ^ suc m) (2 ^ m)) (eqb (trailing 8 b) m)
    (at 256 (λ b. implies (eqb (b % 2 ^ suc m) (2 ^ m)) (eqb (trailing 8 b) m))
    (at 8 (λ m. below 256 (λ b. implies (eqb (b % 2 ^ suc m) (2 ^ m)) (eqb (trailing 8 b) m))) marker_mode m hm) b hb) (eqb_of _ _ e))

has_marker : (b : ℕ) → b < 256 → trailing 8 b < 8 → b % 2 ^ suc (trailing 8 b) ≡ 2 ^ trailing 8 b
has_marker b hb h =
    eqb→eq _ _ (implied (ltb (trailing 8 b) 8) (eqb (b % 2 ^ suc (trailing 8 b)) (2 ^ trailing 8 b))
    (at 256 (λ b. implies (ltb (trailing 8 b) 8) (eqb (b % 2 ^ suc (trailing 8 b)) (2 ^ trailing 8 b))) mode_marker b hb) (lt→ltb _ 8 h))

module _ {m : ℕ} {s : Split} {f : Place → ℕ} (g : WellFormed m s f) where
  first_four : (k : ℕ) → k < 4 → get_or (split (lead_bits m) (shut g)) k 0 ≡ f (Lead k)
  unfolding widths table table_from place_at width pos shut
  first_four zero h = ap (λ (l : List ℕ). get_or l 0 0) (fields g) ∙ at_list f (Lead 0) tt
  first_four (suc zero) h = ap (λ (l : List ℕ). get_or l 1 0) (fields g) ∙ at_list f (Lead 1) tt
  first_four (suc (suc zero)) h = ap (λ (l : List ℕ). get_or l 2 0) (fields g) ∙ at_list f (Lead 2) tt
  first_four (suc (suc (suc zero))) h = ap (λ (l : List ℕ). get_or l 3 0) (fields g) ∙ at_list f (Lead 3) tt
  first_four (suc (suc (suc (suc k)))) h = absurd (let z : ⊥ = omega arith in z)

  pub mode_block : mode_of (block_of m s f) ≡ m
  unfolding mode_of block_of bytes_of shut
  mode_block =
      let n : ℕ = join (widths m s) (list_of f) in
      of_marker m (n % 2 ^ 8) g.mode (mod-lt n (pow_pos 8)) (low_byte n m g.mode ∙ first_four 0 (lit< tt) ∙ g.marker)

  pub split_block : split_of (block_of m s f) ≡ s
  unfolding split_of split_at shut
  split_block =
      rw (mode_block, number_block g, first_four 1 (lit< tt), first_four 2 (lit< tt), first_four 3 (lit< tt)) g.splits

  pub opened_block : (x : Place) → T (inside x) → opened (block_of m s f) x ≡ f x
  unfolding opened
  opened_block x h = rw (mode_block, split_block) (block_at g x h)

-- two functions that agree at the places make one block
pub block_ext : (m : ℕ) (s : Split) (f g : Place → ℕ) → ((x : Place) → T (inside x) → f x ≡ g x) → block_of m s f ≡ block_of m s g
unfolding block_of
block_ext m s f g h = ap (λ (l : List ℕ). bytes_of (join (widths m s) l)) (list_ext f g h)

byte_0 : (bs : List ℕ) → Fit eights bs → (number bs % 2 ^ 8 ≡ get_or bs 0 0) × (get_or bs 0 0 < 256)
unfolding number
byte_0 bs (more {v = v} {ws = ws} {vs = vs} h f) = (low (join ws vs) 8 h, h)

module _ (bs : List ℕ) (sixteen : Fit eights bs) (open_mode : mode_of bs < 8) where
  pub opened_good : WellFormed (mode_of bs) (split_of bs) (opened bs)
  unfolding opened split_of split_at at_place widths table table_from place_at width pos mode_of
  opened_good = record {
    mode = open_mode;
    marker =
        let b : ℕ = get_or bs 0 0 in
        sym (low_byte (number bs) (trailing 8 b) open_mode)
        ∙ ap (λ (x : ℕ). x % 2 ^ suc (trailing 8 b)) (byte_0 bs sixteen).0
        ∙ has_marker b (byte_0 bs sixteen).1 open_mode;
    splits = refl;
    fits = λ x h. fit_at (mode_of bs) (split_of bs) (split (widths (mode_of bs) (split_of bs)) (number bs)) (split_fits_is _ (number bs)) x h;
  }

  pub block_opened : block_of (mode_of bs) (split_of bs) (opened bs) ≡ bs
  unfolding block_of bytes_of opened at_place number
  block_opened =
      let ws : List ℕ = widths (mode_of bs) (split_of bs) in
      let big : number bs < 2 ^ total ws = subst (λ (t : ℕ). number bs < 2 ^ t) (sym (good_total opened_good)) (join_lt sixteen) in
      ap (λ (l : List ℕ). split eights (join ws l)) (list_at (split ws (number bs)) (length_split ws (number bs) ∙ length_widths _ _))
      ∙ ap (split eights) (join_split ws (number bs) big)
      ∙ split_join sixteen
