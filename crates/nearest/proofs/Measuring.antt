-- The channels that are made of a line as it is read are those that it draws, and their distance is the format's.
-- Assumes nothing.
use mathlib.Core.Path.{◌≡◌, refl, sym, ap, ap₂, ◌∙◌}
use mathlib.Core.Logic.{◌≢◌}
use mathlib.Core.Bool.{Bool, true, false, not}
use mathlib.Core.List.{List}
use Prim.Native.Nat.{ℕ, ◌+◌, ◌*◌, ◌^◌, ◌≤◌, ◌<◌}
use native.Mathlib.Omega.{arith}
use borrow.Author.Tests.{eq-eqb, eqb-false, eqb-true, ne_eqb}
use lib.Dec.{T, eqb, leb, leb→le, lit<}
use lib.ListN.{get_or}
use Rattle.std.specs.Prelude.{Option}
use Rattle.nearest.specs.declared.Channel.{Channel}
use Rattle.nearest.specs.declared.Nearest.{Nearest}
use Rattle.line_rules.specs.declared.Replacement.{Replacement}
use Rattle.bc7_format.specs.declared.Split.{Split}
use Rattle.laws.specs.Digits.{Fit}
use Rattle.laws.specs.Tables.{below, both, implies, pick}
use Rattle.laws.proofs.Tests.{at, both_left, both_right, implied}
use Rattle.bcn_format.specs.Block.{eights}
use Rattle.bcn_format.specs.Drawing.{drawn, promoted, weight_of}
use Rattle.bc7_format.specs.Modes.{mode_of, channel_bits, mode_row, p_count}
use Rattle.bc7_format.specs.Splits.{is_vector, rotation, split_of, subset}
use Rattle.bc7_format.specs.Places.{opened}
use Rattle.bc7_format.specs.Lines.{Line, draws, eight, line_at, line_bits, line_of, means_shown, means_stored, rotated}
use Rattle.bc7_format.specs.WellFormed.{WellFormed}
use Rattle.bc7_format.proofs.Meaning.{good_rotation, line_bits_is, rotated_lt}
use Rattle.line_rules.specs.Read.{line_read, read_refusal}
use Rattle.nearest_rules.specs.Nearest.{channel_distance, distance, drawn_with, index_count, nearest_index, nearest_refusal, squared, with_index}
use Rattle.nearest_rules.specs.Parts.{p_in, channel_width}
use Rattle.nearest.specs.Trying.{Readable, SearchedIn, Tries, Tryable, channel_far, channels_in, distance_at, end_in, shown_in, tried_as}
use Rattle.nearest.proofs.Channels.{no_width, some_width}
use Rattle.nearest_rules.proofs.Correcting.{in_line_holds, readable}
use Rattle.nearest_rules.proofs.Standing.{p_fits_is, p_is, p_width_is, value_fits_is, value_is, well_formed, width_is}

-- with its p bit a value has four to eight bits
wide : ℕ → ℕ → Bool
wide m d =
    let w = channel_bits m d + pick (eqb (p_count m) 0) 0 1 in
    implies (not (eqb (channel_bits m d) 0)) (both (leb 4 w) (leb w 8))

all_wide : T (below 8 (λ m. below 4 (wide m)))
unfolding wide mode_row implies
all_wide = tt

is_wide : (m d : ℕ) → m < 8 → d < 4 → channel_bits m d ≢ 0
    → (4 ≤ channel_bits m d + pick (eqb (p_count m) 0) 0 1) × (channel_bits m d + pick (eqb (p_count m) 0) 0 1 ≤ 8)
unfolding wide
is_wide m d hm hd ne =
    let w : ℕ = channel_bits m d + pick (eqb (p_count m) 0) 0 1 in
    let t = at 4 (wide m) (at 8 (λ m. below 4 (wide m)) all_wide m hm) d hd in
    let b = implied (not (eqb (channel_bits m d) 0)) (both (leb 4 w) (leb w 8)) t (rw (ne_eqb _ _ ne) tt) in
    (leb→le 4 w (both_left (leb 4 w) (leb w 8) b), leb→le w 8 (both_right (leb 4 w) (leb w 8) b))

-- a value with its p bit as the low bit; where there is none, p is 0
either : (n v p : ℕ) (b : Bool) → p < 2 ^ pick b 0 1
    → promoted (n + pick b 0 1) (v * 2 ^ pick b 0 1 + p) ≡ pick b (promoted n v) (promoted (n + 1) (v * 2 + p))
either n v p true h = ap₂ promoted (let z : n + 0 ≡ n = omega arith in z) (let z : v * 1 + p ≡ v = omega arith in z)
either n v p false h = refl

both_so : (x : Bool) → both x true ≡ x
both_so true = refl
both_so false = refl

both_not : (x : Bool) → both x false ≡ false
both_not true = refl
both_not false = refl

module _ (bs : List ℕ) (sixteen : Fit eights bs) (l q : ℕ) (ok : nearest_refusal bs l q ≡ 0) where
  abbrev m : ℕ
  m = mode_of bs

  abbrev s : Split
  s = split_of bs

  abbrev stored : Line
  stored = line_of m s l (opened bs)

  abbrev ln : Replacement
  ln = (line_read bs l).value.line

  abbrev ws : Replacement
  ws = (line_read bs l).value.widths

  can : read_refusal bs l ≡ 0
  can = readable bs sixteen l q ok

  good : WellFormed m s (opened bs)
  good = well_formed bs sixteen l can

  -- a channel that has a width has the mode's
  whole_width : (d : ℕ) → d < 4 → channel_width ws d ≢ 0 → channel_width ws d ≡ channel_bits m d
  whole_width d hd ne =
      let e = width_is bs sixteen l can d hd in
      e ∙ go (is_vector s) (eqb (pick (eqb d 3) 1 0) l) (channel_bits m d) (rw e at ne)
    where
      go : (a b : Bool) (n : ℕ) → pick a (pick b n 0) n ≢ 0 → pick a (pick b n 0) n ≡ n
      go true true n h = refl
      go true false n h = absurd (h refl)
      go false b n h = refl

  readable_channel : (d : ℕ) → d < 4 → Readable ln ws d
  readable_channel d hd = record {
    channel = hd;
    least = λ ne. (wide_there ne).0;
    most = λ ne. (wide_there ne).1;
    value = λ k hk. value_fits_is bs sixteen l can k d hk hd;
    p = p_fits_is bs sixteen l can;
  }
    where
      wide_there : channel_width ws d ≢ 0 → (4 ≤ channel_width ws d + p_in ws 0) × (channel_width ws d + p_in ws 0 ≤ 8)
      wide_there ne =
          let e = whole_width d hd ne in
          rw (e, p_width_is bs sixteen l can) (is_wide m d good.mode hd (rw e at ne))

  pub tryable : Tryable ln ws (rotation s) (line_bits m s l)
  tryable = record { channels = readable_channel; rotation = good_rotation good; least = (line_bits_is good l).0; most = (line_bits_is good l).1 }

  -- an endpoint as eight bits is the format's
  end_is : (k d : ℕ) → k < 2 → d < 4 → channel_width ws d ≢ 0 → end_in ln ws k d ≡ eight m d (stored.value k d) (stored.p k)
  unfolding end_in eight
  end_is k d hk hd ne =
      let p_width = p_width_is bs sixteen l can in
      let p_there = p_is bs sixteen l can k hk in
      rw (whole_width d hd ne, p_width, value_is bs sixteen l can k d hk hd, p_there)
      (either (channel_bits m d) (stored.value k d) (stored.p k) (eqb (p_count m) 0) (rw (p_width, p_there) at (p_fits_is bs sixteen l can k hk)))

  module _ (c : ℕ) (hc : c < 4) where
    abbrev d : ℕ
    d = rotated (rotation s) c

    below_four : d < 4
    below_four = rotated_lt (rotation s) c (good_rotation good) hc

    -- the line draws the channels that have a width
    draws_is : draws m s l q c ≡ not (eqb (channel_width ws d) 0)
    unfolding draws line_at
    draws_is = rw (width_is bs sixteen l can d below_four) (go (is_vector s) refl)
      where
        vector : (b : Bool) → both (not (eqb (channel_bits m d) 0)) b ≡ not (eqb (pick b (channel_bits m d) 0) 0)
        vector true = both_so (not (eqb (channel_bits m d) 0))
        vector false = both_not (not (eqb (channel_bits m d) 0))

        go : (a : Bool) → is_vector s ≡ a
            → both (not (eqb (channel_bits m d) 0)) (eqb (pick a (pick (eqb d 3) 1 0) (subset s q)) l)
            ≡ not (eqb (pick a (pick (eqb (pick (eqb d 3) 1 0) l) (channel_bits m d) 0) (channel_bits m d)) 0)
        go true e = vector (eqb (pick (eqb d 3) 1 0) l)
        go false e = rw (eq-eqb (subset s q) l ((in_line_holds bs sixteen l q ok).own e)) (both_so (not (eqb (channel_bits m d) 0)))

    drawn_is : (i : ℕ) → channel_width ws d ≢ 0 → drawn (end_in ln ws 0 d) (end_in ln ws 1 d) (weight_of (line_bits m s l) i) ≡ drawn_with bs l q i c
    unfolding drawn_with with_index means_shown means_stored
    drawn_is i ne = rw (end_is 0 d (lit< tt) below_four ne, end_is 1 d (lit< tt) below_four ne)

  module _ (wanted : List ℕ) where
    abbrev shown : ℕ → Option Channel
    shown = shown_in ln ws (rotation s) wanted

    -- so a channel is as far as the format says
    channel_far_is : (i c : ℕ) → c < 4 → channel_far (shown c) (weight_of (line_bits m s l) i) ≡ channel_distance bs l q wanted i c
    unfolding channel_far channel_distance
    channel_far_is i c hc = rw (draws_is c hc) (go (eqb (channel_width ws (d c hc)) 0) refl)
      where
        go : (b : Bool) → eqb (channel_width ws (d c hc)) 0 ≡ b
            → channel_far (shown c) (weight_of (line_bits m s l) i) ≡ pick (not b) (squared (drawn_with bs l q i c) (get_or wanted c 0)) 0
        go true e =
            let z : channel_width ws (d c hc) ≡ 0 = eqb-true (channel_width ws (d c hc)) 0 e in
            sym (ap (λ (x : Option Channel). channel_far x (weight_of (line_bits m s l) i)) (no_width ln ws (d c hc) (get_or wanted c 0) z))
        go false e =
            let ne : channel_width ws (d c hc) ≢ 0 = eqb-false (channel_width ws (d c hc)) 0 e in
            sym (ap (λ (x : Option Channel). channel_far x (weight_of (line_bits m s l) i)) (some_width ln ws (d c hc) (get_or wanted c 0) ne refl refl))
            ∙ ap (λ (x : ℕ). squared x (get_or wanted c 0)) (drawn_is c hc i ne)

    -- and so is an index
    at_index : (i : ℕ) → distance_at (channels_in ln ws (rotation s) wanted) (line_bits m s l) i ≡ distance bs l q wanted i
    unfolding distance_at distance
    at_index i =
        ap₂ ◌+◌ (ap₂ ◌+◌ (ap₂ ◌+◌ (channel_far_is i 0 (lit< tt)) (channel_far_is i 1 (lit< tt))) (channel_far_is i 2 (lit< tt))) (channel_far_is i 3 (lit< tt))

    distance_is : distance_at (channels_in ln ws (rotation s) wanted) (line_bits m s l) ≡ distance bs l q wanted
    distance_is = λ j i. at_index i j

  -- so what the search finds is the answer
  pub search_answers : (wanted : List ℕ) {x : Nearest}
      → SearchedIn ln ws (rotation s) wanted (line_bits m s l) x
      → Tries bs l q wanted (tried_as 0 x.index x.distance)
  unfolding nearest_index index_count
  search_answers wanted h =
      let e = distance_is wanted in
      record {
        refusal = sym ok;
        index = rw (eq-eqb _ _ ok) (rw e at h.index);
        distance = λ z. rw e at h.distance;
      }
