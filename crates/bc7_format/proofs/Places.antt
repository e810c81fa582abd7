-- The places and their stored order, and the total width.
-- Assumes nothing.
use mathlib.Core.Path.{◌≡◌, refl, sym, ap, ap₂, ◌∙◌}
use mathlib.Core.List.{List, []}
use Prim.Native.Nat.{ℕ, zero, suc, ◌+◌, ◌-◌, ◌*◌, ◌/◌, ◌%◌, ◌^◌, ◌≤◌, ◌<◌}
use native.Mathlib.Nat.{le_refl}
use native.Mathlib.Omega.{arith}
use borrow.Author.Tests.{lt-ltb, le-ltb}
use lib.Dec.{T, eqb, eqb→eq, ltb, ltb→lt, lt→ltb}
use lib.ListN.{length, get_or}
use lib.Seq.{ext_get_or}
use Rattle.bc7_format.specs.declared.Place.{Place}
use Rattle.bc7_format.specs.declared.Place.TheVariants.{Lead, Value, PBit, Index}
use Rattle.bc7_format.specs.declared.Split.{Split}
use Rattle.bc7_format.specs.declared.Split.TheVariants.{Whole, Two, Three, Vector}
use Rattle.laws.specs.Digits.{Fit, total}
use Rattle.laws.specs.Tables.{below, table, table_from}
use Rattle.laws.proofs.Cases.{pick_less}
use Rattle.laws.proofs.Fitting.{fit_get}
use Rattle.laws.proofs.Joining.{table_same}
use Rattle.laws.proofs.Part.{get_d_table, length_table}
use Rattle.laws.proofs.Rows.{fit_table}
use Rattle.laws.proofs.Tests.{at, both_intro, both_left, both_right}
use Rattle.bc7_format.specs.Modes.{endpoint_count, index_bits, kind_of_mode, mode_row, partition_bits}
use Rattle.bcn_format.specs.Partitions.{among, anchors2, anchors3, digits, marks, strings2, strings3}
use Rattle.bc7_format.specs.Places.{inside, list_of, place_at, pos, width, widths, values_from, ps_from, first_from}
use Rattle.bc7_format.specs.Places.{place_count}
use Rattle.bc7_format.specs.Splits.{anchors, index_mode, kind_of, of_kind, partition, rotation}

-- the places that code names are there
pub inside_value : {c e : ℕ} → c < 4 → e < 6 → T (inside (Value c e))
inside_value {c} {e} hc he = both_intro (ltb c 4) (ltb e 6) (lt→ltb c 4 hc) (lt→ltb e 6 he)

pub inside_pbit : {k : ℕ} → k < 6 → T (inside (PBit k))
inside_pbit {k} h = lt→ltb k 6 h

pub inside_index : {a q : ℕ} → a < 2 → q < 16 → T (inside (Index a q))
inside_index {a} {q} ha hq = both_intro (ltb a 2) (ltb q 16) (lt→ltb a 2 ha) (lt→ltb q 16 hq)

pub pos_lt : (x : Place) → T (inside x) → pos x < place_count
unfolding pos
pos_lt (Lead k) h = omega (arith, ltb→lt k 4 h)
pos_lt (Value c e) h = omega (arith, ltb→lt c 4 (both_left (ltb c 4) (ltb e 6) h), ltb→lt e 6 (both_right (ltb c 4) (ltb e 6) h))
pos_lt (PBit k) h = omega (arith, ltb→lt k 6 h)
pos_lt (Index a q) h = omega (arith, ltb→lt a 2 (both_left (ltb a 2) (ltb q 16) h), ltb→lt q 16 (both_right (ltb a 2) (ltb q 16) h))

pub place_at_pos : (x : Place) → T (inside x) → place_at (pos x) ≡ x
unfolding pos place_at
place_at_pos (Lead k) h = rw (lt-ltb k values_from (ltb→lt k 4 h))
place_at_pos (Value c e) h =
    let hc : c < 4 = ltb→lt c 4 (both_left (ltb c 4) (ltb e 6) h) in
    let he : e < 6 = ltb→lt e 6 (both_right (ltb c 4) (ltb e 6) h) in
    let i : ℕ = values_from + (6 * c + e) in
    rw (le-ltb (values_from + (6 * c + e)) values_from (omega arith), lt-ltb (values_from + (6 * c + e)) ps_from (omega arith))
    (ap₂ Value (let z : (values_from + (6 * c + e) - values_from) / 6 ≡ c = omega arith in z)
    (let z : (values_from + (6 * c + e) - values_from) % 6 ≡ e = omega arith in z))
place_at_pos (PBit k) h =
    let hk : k < 6 = ltb→lt k 6 h in
    rw (le-ltb (ps_from + k) values_from (omega arith), le-ltb (ps_from + k) ps_from (omega arith), lt-ltb (ps_from + k) first_from (omega arith))
    (ap PBit (let z : ps_from + k - ps_from ≡ k = omega arith in z))
place_at_pos (Index a q) h =
    let ha : a < 2 = ltb→lt a 2 (both_left (ltb a 2) (ltb q 16) h) in
    let hq : q < 16 = ltb→lt q 16 (both_right (ltb a 2) (ltb q 16) h) in
    rw (
      le-ltb (first_from + (16 * a + q)) values_from (omega arith),
      le-ltb (first_from + (16 * a + q)) ps_from (omega arith),
      le-ltb (first_from + (16 * a + q)) first_from (omega arith),
    )
    (ap₂ Index (let z : (first_from + (16 * a + q) - first_from) / 16 ≡ a = omega arith in z)
    (let z : (first_from + (16 * a + q) - first_from) % 16 ≡ q = omega arith in z))

pub pos_place_at : (i : ℕ) → i < place_count → pos (place_at i) ≡ i
unfolding pos place_at
pos_place_at i h = eqb→eq _ i (at place_count (λ i. eqb (pos (place_at i)) i) tt i h)

pub inside_place_at : (i : ℕ) → i < place_count → T (inside (place_at i))
unfolding place_at
inside_place_at i h = at place_count (λ i. inside (place_at i)) tt i h

pub pos_one : (x y : Place) → T (inside x) → T (inside y) → pos x ≡ pos y → x ≡ y
pos_one x y hx hy e = sym (place_at_pos x hx) ∙ ap place_at e ∙ place_at_pos y hy

-- a list by its places, and back
pub at_list : (f : Place → ℕ) (x : Place) → T (inside x) → get_or (list_of f) (pos x) 0 ≡ f x
unfolding list_of
at_list f x h = get_d_table place_count (λ i. f (place_at i)) 0 (pos x) (pos_lt x h) ∙ ap f (place_at_pos x h)

pub list_ext : (f g : Place → ℕ) → ((x : Place) → T (inside x) → f x ≡ g x) → list_of f ≡ list_of g
unfolding list_of
list_ext f g h = table_same 0 place_count _ _ (λ i l. h (place_at i) (inside_place_at i l))

pub list_at : (vs : List ℕ) → length vs ≡ place_count → list_of (λ x. get_or vs (pos x) 0) ≡ vs
unfolding list_of
list_at vs e =
    ext_get_or 0 _ vs (length_table place_count (λ i. get_or vs (pos (place_at i)) 0) ∙ sym e) (λ i l.
    let l' : i < place_count = rw (length_table place_count (λ i. get_or vs (pos (place_at i)) 0)) at l in
    get_d_table place_count (λ i. get_or vs (pos (place_at i)) 0) 0 i l' ∙ ap (λ (j : ℕ). get_or vs j 0) (pos_place_at i l'))

-- fitting, place by place
pub fit_list : (m : ℕ) (s : Split) (f : Place → ℕ) → ((x : Place) → T (inside x) → f x < 2 ^ width m (anchors s) x) → Fit (widths m s) (list_of f)
unfolding widths list_of table
fit_list m s f h = fit_table place_count _ _ (λ k l. h (place_at k) (inside_place_at k l))

pub fit_at : (m : ℕ) (s : Split) (vs : List ℕ) → Fit (widths m s) vs → (x : Place) → T (inside x) → get_or vs (pos x) 0 < 2 ^ width m (anchors s) x
unfolding widths
fit_at m s vs f x h =
    rw (get_d_table place_count (λ i. width m (anchors s) (place_at i)) 0 (pos x) (pos_lt x h), place_at_pos x h) at (fit_get f (pos x))

pub length_widths : (m : ℕ) (s : Split) → length (widths m s) ≡ place_count
unfolding widths
length_widths m s = length_table place_count _

-- an anchor's width is no more than the full one
pub width_le : (m : ℕ) (an : List ℕ) (x : Place) → width m an x ≤ width m [] x
unfolding width
width_le m an (Lead k) = le_refl _
width_le m an (Value c e) = le_refl _
width_le m an (PBit k) = le_refl _
width_le m an (Index a q) = pick_less (among q an) (index_bits m a)

-- the total
all_128 : T (below 8 (λ m. below (2 ^ partition_bits m) (λ a. eqb (total (widths m (of_kind (kind_of_mode m) a 0 0))) 128)))
unfolding widths table table_from place_at width digits marks strings2 strings3 anchors2 anchors3 mode_row kind_of_mode endpoint_count
all_128 = tt

same_anchors : (k a r i : ℕ) → anchors (of_kind k a r i) ≡ anchors (of_kind k a 0 0)
same_anchors zero a r i = refl
same_anchors (suc zero) a r i = refl
same_anchors (suc (suc zero)) a r i = refl
same_anchors (suc (suc (suc k))) a r i = refl

pub split_of_kind : (s : Split) → s ≡ of_kind (kind_of s) (partition s) (rotation s) (index_mode s)
split_of_kind Whole = refl
split_of_kind (Two a) = refl
split_of_kind (Three a) = refl
split_of_kind (Vector r i) = refl

-- the anchors go by the mode and the partition
pub anchors_by_partition : (m : ℕ) (s : Split) → kind_of s ≡ kind_of_mode m → anchors s ≡ anchors (of_kind (kind_of_mode m) (partition s) 0 0)
anchors_by_partition m s hk =
    ap anchors (split_of_kind s) ∙ same_anchors (kind_of s) (partition s) (rotation s) (index_mode s)
    ∙ ap (λ (k : ℕ). anchors (of_kind k (partition s) 0 0)) hk

-- every block has 128 bits
pub total_128 : (m : ℕ) (s : Split) → m < 8 → kind_of s ≡ kind_of_mode m → partition s < 2 ^ partition_bits m → total (widths m s) ≡ 128
unfolding widths
total_128 m s hm hk hp =
    ap (λ (an : List ℕ). total (table place_count (λ i. width m an (place_at i)))) (anchors_by_partition m s hk)
    ∙ eqb→eq _ 128 (at (2 ^ partition_bits m) (λ a. eqb (total (widths m (of_kind (kind_of_mode m) a 0 0))) 128)
    (at 8 (λ m. below (2 ^ partition_bits m) (λ a. eqb (total (widths m (of_kind (kind_of_mode m) a 0 0))) 128)) all_128 m hm) (partition s) hp)
