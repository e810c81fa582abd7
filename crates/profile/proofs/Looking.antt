-- The lowest number of the blocks that were looked at, up to all of them; and what stands of a whole sheet where a block is looked at.
-- Assumes nothing.
use mathlib.Core.Path.{◌≡◌, refl, ◌∙◌, ap, sym, subst}
use mathlib.Core.Logic.{⊎_elim}
use mathlib.Core.Bool.{◌&&◌, Bool, true, false, not}
use mathlib.Core.List.{List}
use Prim.Native.Nat.{ℕ, zero, suc, ◌-◌, ◌+◌, ◌*◌, ◌<◌, ◌≤◌, min}
use native.Mathlib.Nat.{eq-or-lt_of_le, not-suc-le-zero}
use native.Mathlib.Omega.{arith}
use lib.Arith.{digits_lt}
use Rattle.std.specs.List.{fold, list_all, range_with_len}
use Rattle.laws.specs.Tables.{below, both, pick}
use Rattle.laws.proofs.Cases.{lt_or}
use Rattle.laws.proofs.Scan.{below_add, scan_same}
use Rattle.head_rules.specs.Answers.{Head}
use Rattle.head_rules.specs.Geometry.{across, blocks_of, most_blocks, number_at, place_of, stored_at}
use Rattle.head_rules.proofs.Blocks.{few_blocks}
use Rattle.head_rules.proofs.Orders.{blocks_within, each_place, number_again, numbered_in, stored_in}
use Rattle.sheet_head.specs.Asked.{BlockAsked}
use Rattle.bcn_format.specs.Block.{block_at}
use Rattle.sheet_rules.specs.Sheets.{block_by}
use Rattle.profile_rules.specs.Profile.{admits, breaks, first_breaking}
use Rattle.profile_rules.specs.Small.{row_admits}
use Rattle.profile_rules.proofs.Lowest.{lowest_is}
use Rattle.profile.specs.Looking.{RowThere, lowest_with, stored_block}

-- of the first p stored blocks of a sheet l is the lowest number of one that breaks the profile, or as many as there are blocks
pub record Looked (h : Head) (s : List ℕ) (p l : ℕ) : Type 0 where
  pub most : l ≤ blocks_of h
  pub broken : l < blocks_of h → breaks h s l ≡ true
  pub before : (q : ℕ) → q < p → number_at h q < l → admits (stored_block h s q) ≡ true

module _ (h : Head) (s : List ℕ) where
  pub looked_none : Looked h s 0 (blocks_of h)
  looked_none = record {
    most = omega arith;
    broken = λ l. absurd (let z : ⊥ = omega (arith, l) in z);
    before = λ q l. absurd (not-suc-le-zero l);
  }

  -- the block that is stored p-th is that of its number
  stored_is : (p : ℕ) → p < blocks_of h → stored_block h s p ≡ block_by h s (number_at h p)
  unfolding block_by
  stored_is p l = ap (block_at s) (sym (each_place h p l))

  module _ {p l : ℕ} (there : p < blocks_of h) (k : Looked h s p l) where
    breaks_of : admits (stored_block h s p) ≡ false → breaks h s (number_at h p) ≡ true
    unfolding breaks
    breaks_of e = ap not (ap admits (sym (stored_is p there)) ∙ e)

    up_to : {m : ℕ} → m ≤ l → (number_at h p < m → admits (stored_block h s p) ≡ true) → (q : ℕ) → q < p + 1 → number_at h q < m
        → admits (stored_block h s q) ≡ true
    up_to {m} low here q lq lm = ⊎_elim
        (λ e. subst (λ (n : ℕ). number_at h n < m → admits (stored_block h s n) ≡ true) (sym e) here lm)
        (λ g. k.before q g (omega (arith, lm, low)))
        (eq-or-lt_of_le (let z : q ≤ p = omega (arith, lq) in z))

    lower : (m : ℕ) → m ≡ min (number_at h p) l → admits (stored_block h s p) ≡ false → Looked h s (p + 1) m
    lower m e off = ⊎_elim
        (λ g. let is : m ≡ number_at h p = omega (arith, e, g) in record {
          most = omega (arith, is, numbered_in h p there);
          broken = λ x. subst (λ (n : ℕ). breaks h s n ≡ true) (sym is) (breaks_of off);
          before = up_to (omega (arith, is, g)) (λ x. absurd (let z : ⊥ = omega (arith, is, x) in z));
        })
        (λ g. let is : m ≡ l = omega (arith, e, g) in record {
          most = omega (arith, is, k.most);
          broken = λ x. subst (λ (n : ℕ). breaks h s n ≡ true) (sym is) (k.broken (omega (arith, is, x)));
          before = up_to (omega (arith, is)) (λ x. absurd (let z : ⊥ = omega (arith, is, x, g) in z));
        })
        (lt_or (number_at h p) l)

    by_test : (b : Bool) → admits (stored_block h s p) ≡ b → Looked h s (p + 1) (pick b l (min (number_at h p) l))
    by_test true e = record { most = k.most; broken = k.broken; before = up_to (omega arith) (λ x. e) }
    by_test false e = lower _ refl e

    pub looked_more : Looked h s (p + 1) (lowest_with h s p l)
    unfolding lowest_with
    looked_more = by_test (admits (stored_block h s p)) refl

  -- all of them
  none_below : {l : ℕ} → Looked h s (blocks_of h) l → (b : ℕ) → b < l → breaks h s b ≡ false
  unfolding breaks block_by place_of
  none_below {l} k b g =
      let there : b < blocks_of h = omega (arith, g, k.most) in
      ap not (k.before (stored_at h b) (stored_in h b there) (rw (number_again h b there) g))

  pub looked_all : {p l : ℕ} → p ≡ blocks_of h → Looked h s p l → l ≡ first_breaking h s
  unfolding first_breaking
  looked_all {p} {l} e k =
      sym (lowest_is (blocks_of h) (breaks h s) l k.most k.broken (none_below (subst (λ (n : ℕ). Looked h s n l) e k)))

  -- a chain that looks at so many more, from a place on
  abbrev pub look : ℕ → ℕ → ℕ
  look lowest stored = lowest_with h s stored lowest

  looked_on : (n p l : ℕ) → p + n ≡ blocks_of h → Looked h s p l → fold look l (range_with_len p n) ≡ first_breaking h s
  looked_on zero p l e k = looked_all (let z : p ≡ blocks_of h = omega (arith, e) in z) k
  looked_on (suc n) p l e k =
      looked_on n (p + 1) (look l p) (omega (arith, e)) (looked_more (let z : p < blocks_of h = omega (arith, e) in z) k)

  pub looked_at_all : {m : ℕ} → m ≡ blocks_of h → fold look m (range_with_len 0 (m - 0)) ≡ first_breaking h s
  looked_at_all {m} e = looked_on (m - 0) 0 m (omega (arith, e)) (subst (Looked h s 0) (sym e) looked_none)

-- THE WAYS OF A ROUND: an admitted block changes nothing, of any other the lower number is kept
module _ (h : Head) (s : List ℕ) (p l : ℕ) where
  pub kept_as_it_was : admits (stored_block h s p) ≡ true → l ≡ lowest_with h s p l
  unfolding lowest_with
  kept_as_it_was e = rw e

  pub kept_lower : {n m : ℕ} → n ≡ number_at h p → m ≡ min n l → admits (stored_block h s p) ≡ false → m ≡ lowest_with h s p l
  unfolding lowest_with
  kept_lower e g off = rw off (g ∙ ap (λ (k : ℕ). min k l) e)

-- where a block of a whole sheet stands
module _ {h : Head} {many : ℕ} where
  module _ {n m : ℕ} (a : RowThere h n many) (em : m ≡ across h.width) where
    module _ {c : ℕ} (l : c < m) where
      in_row : n * across h.width + c < blocks_of h
      unfolding blocks_of
      in_row = digits_lt a.inside (rw em at l)

      pub row_asked : BlockAsked h (n * m + c)
      row_asked = rw em (record { size = a.sheet.sized; number = in_row })

      pub row_few : n * m + c < most_blocks
      unfolding blocks_of
      row_few = let few = few_blocks a.sheet.sized in let inside = in_row in rw em (omega (arith, few, inside))

      pub row_room : {at : ℕ} → at ≡ place_of h (n * m + c) → at + 16 ≤ many
      row_room ea = rw (ea, em) (omega (arith, a.sheet.whole, blocks_within h _ in_row))

-- the block of a row that was loaded from its place; and the test of a row, one block after the other
abbrev pub row_test : Head → List ℕ → ℕ → ℕ → Bool
row_test h s n c = admits (block_by h s (n * across h.width + c))

-- a test of each of so many numbers, in the order that a chain takes them in
and_both : (a b : Bool) → (a && b) ≡ both (both a true) b
and_both true b = refl
and_both false b = refl

in_order : (n a : ℕ) (f : ℕ → Bool) → list_all f (range_with_len a n) ≡ below n (λ k. f (a + k))
in_order zero a f = refl
in_order (suc n) a f =
    ap (λ (b : Bool). f a && b) (in_order n (a + 1) f ∙ scan_same n _ _ (λ k l. ap f (let e : a + 1 + k ≡ a + (1 + k) = omega arith in e)))
    ∙ and_both (f a) _
    ∙ ap (λ (i : ℕ). both (both (f i) true) (below n (λ k. f (a + (1 + k))))) (let e : a ≡ a + 0 = omega arith in e)
    ∙ sym (below_add 1 n (λ k. f (a + k)))
    ∙ ap (λ (m : ℕ). below m (λ k. f (a + k))) (let e : 1 + n ≡ suc n = omega arith in e)

module _ (h : Head) (s : List ℕ) (n : ℕ) where
  pub told_in_row : {m : ℕ} → m ≡ across h.width → (c at : ℕ) (block : List ℕ) (b : Bool)
      → at ≡ place_of h (n * m + c) → block ≡ block_at s at → b ≡ admits block → b ≡ row_test h s n c
  unfolding block_by
  told_in_row em c at block b ea eb e = e ∙ ap admits (eb ∙ ap (block_at s) (ea ∙ ap (λ (m : ℕ). place_of h (n * m + c)) em))

  pub row_all : {m : ℕ} → m ≡ across h.width → list_all (row_test h s n) (range_with_len 0 (m - 0)) ≡ row_admits h s n
  unfolding row_admits
  row_all {m} em =
      in_order (m - 0) 0 (row_test h s n)
      ∙ scan_same (m - 0) _ _ (λ k l. ap (row_test h s n) (let e : 0 + k ≡ k = omega arith in e))
      ∙ ap (λ (k : ℕ). below k (row_test h s n)) (let e : m - 0 ≡ across h.width = omega (arith, em) in e)
