-- Runs of blocks one after the other are the blocks of the sheet, whatever the runs, and what is printed of an input is printed run by run.
-- Assumes nothing.
use mathlib.Core.Path.{◌≡◌, refl, ◌∙◌, ap, ap₂, sym}
use mathlib.Core.Bool.{Bool, true, false}
use mathlib.Core.List.{List, [], ◌++◌, append_assoc, append-nil}
use Prim.Native.Nat.{ℕ, zero, suc, ◌+◌, ◌-◌, ◌*◌, ◌/◌, ◌%◌, ◌<◌, ◌≤◌}
use native.Mathlib.Nat.{add_assoc, add-suc, add-zero, div-lt_iff_lt-mul, le_refl, mod-add-div', mod-lt, mul-le-mul, suc-mul}
use native.Mathlib.Omega.{arith}
use lib.Dec.{eqb}
use lib.ListN.{length, take, drop, length-append, length-drop}
use lib.Seq.{drop-append-add, drop-append-le, length-take-le, take-add, take_all, take-append-le}
use borrow.Author.Tests.{eq-eqb, eqb-false, eqb-true, ne_eqb}
use Rattle.bcn_format.specs.Block.{block_at}
use Rattle.laws.specs.Tables.{pick}
use Rattle.head_rules.specs.Answers.{Head}
use Rattle.head_rules.specs.Geometry.{across, blocks_of}
use Rattle.head_rules.specs.Geometry.{number_at}
use Rattle.head_rules.specs.Heads.{read_head}
use Rattle.laws.specs.Text.{refused_text}
use Rattle.listing_rules.specs.Text.{sheet_text}
use Rattle.listing_rules.specs.Listing.{block_listed, blocks_listing, blocks_text, listed, listing}
use Rattle.listing_rules.specs.Machine.{InBlocks, most_in_run, run_of}

-- blocks in the first of two lists, and in the second
module _ (h : Head) (xs ys : List ℕ) where
  in_first : (at : ℕ) → at + 16 ≤ length xs → block_at (xs ++ ys) at ≡ block_at xs at
  unfolding block_at
  in_first at l = ap (take 16) (drop-append-le at xs ys (omega arith)) ∙ take-append-le 16 (drop at xs) ys (omega (arith, length-drop at xs))

  in_second : (at : ℕ) → block_at (xs ++ ys) (length xs + at) ≡ block_at ys at
  unfolding block_at
  in_second at = ap (take 16) (drop-append-add xs ys at)

  text_first : (from n : ℕ) → 16 * n ≤ length xs → blocks_text h from n (xs ++ ys) ≡ blocks_text h from n xs
  unfolding blocks_text
  text_first from zero l = refl
  text_first from (suc n) l =
      ap₂ (λ (a b : List ℕ). a ++ b) (text_first from n (omega arith)) (ap (block_listed h (number_at h (from + n))) (in_first (16 * n) (omega arith)))

  text_both : (from c n : ℕ) → length xs ≡ 16 * c → blocks_text h from (c + n) (xs ++ ys) ≡ blocks_text h from c xs ++ blocks_text h (from + c) n ys
  unfolding blocks_text
  text_both from c zero e = ap (λ (m : ℕ). blocks_text h from m (xs ++ ys)) (add-zero c) ∙ text_first from c (omega arith) ∙ sym (append-nil _)
  text_both from c (suc n) e =
      let at : 16 * (c + n) ≡ length xs + 16 * n = omega arith in
      ap (λ (m : ℕ). blocks_text h from m (xs ++ ys)) (add-suc c n)
      ∙ ap₂ (λ (a b : List ℕ). a ++ b) (text_both from c n e)
      (ap₂ (block_listed h) (ap (number_at h) (sym (add_assoc from c n))) (ap (block_at (xs ++ ys)) at ∙ in_second (16 * n)))
      ∙ append_assoc (blocks_text h from c xs) (blocks_text h (from + c) n ys) _

  -- the texts of both, where the first has whole blocks
  pub listed_both : (from c : ℕ) → length xs ≡ 16 * c → listed h from (xs ++ ys) ≡ listed h from xs ++ listed h (from + c) ys
  unfolding listed
  listed_both from c e =
      let all : length (xs ++ ys) / 16 ≡ c + length ys / 16 = omega (arith, length-append xs ys) in
      let first : length xs / 16 ≡ c = omega arith in
      ap (λ (n : ℕ). blocks_text h from n (xs ++ ys)) all ∙ text_both from c (length ys / 16) e
      ∙ ap (λ (n : ℕ). blocks_text h from n xs ++ blocks_text h (from + c) (length ys / 16) ys) (sym first)

-- as many bytes as are needed, told behind the first of them
same_test : (a n m : ℕ) → a ≤ n → eqb (n - a) m ≡ eqb n (a + m)
same_test a n m h = go (eqb n (a + m)) refl
  where
    go : (t : Bool) → eqb n (a + m) ≡ t → eqb (n - a) m ≡ t
    go true e = eq-eqb (n - a) m (omega (arith, eqb-true n (a + m) e))
    go false e = ne_eqb (n - a) m (λ q. eqb-false n (a + m) e (omega arith))

-- r blocks and n more are to come, and the r are cut off, or there
module _ (h : Head) (from r n : ℕ) (bs : List ℕ) where
  pub run_cut : length bs < 16 * r → blocks_listing h from (r + n) bs ≡ listed h from (take (16 * r) bs) ++ refused_text 10
  unfolding blocks_listing
  run_cut l =
      rw (
        take_all (16 * r) bs (omega arith),
        take_all (16 * (r + n)) bs (omega arith),
        ne_eqb (length bs)
            (16 * (r + n)) (λ q. omega arith),
      )

  pub run_whole : 16 * r ≤ length bs
      → blocks_listing h from (r + n) bs ≡ listed h from (take (16 * r) bs) ++ blocks_listing h (from + r) n (drop (16 * r) bs)
  unfolding blocks_listing
  run_whole l =
      let run = take (16 * r) bs in
      let rest = drop (16 * r) bs in
      let more : 16 * (r + n) ≡ 16 * r + 16 * n = omega arith in
      ap₂ (λ (t : List ℕ) (b : Bool). t ++ pick b [] (refused_text 10))
      (ap (λ (m : ℕ). listed h from (take m bs)) more ∙ ap (listed h from) (take-add (16 * r) (16 * n) bs)
      ∙ listed_both h run (take (16 * n) rest) from r (length-take-le (16 * r) bs l))
      (ap (eqb (length bs)) more ∙ sym (ap (λ (m : ℕ). eqb m (16 * n)) (length-drop (16 * r) bs) ∙ same_test (16 * r) (length bs) (16 * n) l))
      ∙ append_assoc (listed h from run) (listed h (from + r) (take (16 * n) rest)) _

-- a run has a block at least, 1,024 at the most, and none that isn't the sheet's
module _ {h : Head} {from : ℕ} (i : InBlocks h from) where
  abbrev c : ℕ
  c = across h.width

  some : 1 ≤ c
  some = omega (arith, i.sized.wide)

  pub column_there : from % c ≤ c
  column_there = omega (arith, mod-lt from some)

  -- the rest of the row, or as many as a run may have
  pub run_rest : c - from % c < most_in_run → c - from % c ≡ run_of h from
  unfolding run_of
  run_rest l = omega arith

  pub run_full : most_in_run ≤ c - from % c → most_in_run ≡ run_of h from
  unfolding run_of
  run_full l = omega arith

  pub run_some : 1 ≤ run_of h from
  unfolding run_of
  run_some = omega (arith, mod-lt from some)

  pub run_within : run_of h from ≤ most_in_run
  unfolding run_of
  run_within = omega arith

  pub run_inside : from + run_of h from ≤ blocks_of h
  unfolding run_of blocks_of
  run_inside =
      let l : from / c < across h.height = (div-lt_iff_lt-mul {k = c} {x = from} {y = across h.height} some).1 i.more in
      let m : suc (from / c) * c ≤ across h.height * c = mul-le-mul {n₁ = suc (from / c)} {m₁ = c} l (le_refl c) in
      omega (arith, m, suc-mul (from / c) c, mod-add-div' from c, mod-lt from some)

  pub run_and_rest : run_of h from + (blocks_of h - (from + run_of h from)) ≡ blocks_of h - from
  run_and_rest = omega (arith, run_inside)

module _ (s : List ℕ) where
  -- a refused head prints only `refused` and the number
  pub listing_refused : ((read_head s).refusal ≡ 0 → ⊥) → listing (read_head s) s ≡ refused_text (read_head s).refusal
  unfolding listing
  listing_refused ne = rw (ne_eqb (read_head s).refusal 0 ne)

  -- an accepted one its text, and then the blocks, from the byte behind those of the head on
  pub listing_accepted : (read_head s).refusal ≡ 0
      → listing (read_head s) s
      ≡ sheet_text (read_head s).width (read_head s).height ++ blocks_listing (read_head s) 0 (blocks_of (read_head s)) (drop (read_head s).start s)
  unfolding listing
  listing_accepted e = rw (eq-eqb (read_head s).refusal 0 e)
