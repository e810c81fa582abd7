-- Zeros put in at the anchors, the lowest first, make sixteen indexes of one width; and each of those is the field that was stored.
-- Assumes nothing.
use mathlib.Core.Path.{◌≡◌, refl, sym, ap, ap₂, ◌∙◌, subst}
use mathlib.Core.Logic.{◌≢◌}
use mathlib.Core.List.{List, [], ◌∷◌, ◌++◌}
use Prim.Native.Nat.{ℕ, suc, ◌+◌, ◌-◌, ◌*◌, ◌/◌, ◌%◌, ◌^◌, ◌≤◌, ◌<◌}
use native.Mathlib.Nat.{add_comm, le_refl, lt_irrefl, lt_of_lt_of_le, mod-lt, mul-le-mul_right}
use native.Mathlib.Omega.{arith}
use borrow.Author.Tests.{eq-eqb, ne_eqb}
use lib.ListN.{get_or}
use lib.Pow.{pow_pos, pow_mono}
use Rattle.laws.specs.Digits.{Fit, inserted, join, split, total}
use Rattle.laws.specs.Tables.{table}
use Rattle.laws.proofs.Cases.{pick_less}
use Rattle.laws.proofs.Digits.{join_split, split_join, total_append}
use Rattle.laws.proofs.Joining.{table_same}
use Rattle.laws.proofs.Part.{get_d_table}
use Rattle.laws.proofs.Rows.{digit, fit_table, split_table, table_mid, total_same}
use Rattle.bcn_format.specs.Block.{field}
use Rattle.bcn_format.specs.Partitions.{among}
use Rattle.bcn_format.specs.Indexes.{expanded, index_width, index_widths, part}
use Rattle.bcn_format.proofs.Insert.{inserted_lt, split_inserted}

-- two rows of widths that differ at i alone
module _ (f g : ℕ → ℕ) (i j : ℕ) (same : (k : ℕ) → k ≢ i → g k ≡ f k) (here : g i ≡ f i + 1) where
  row_mid : table (i + suc j) g ≡ table i f ++ ((f i + 1) ∷ table j (λ k. f (suc (i + k))))
  row_mid =
      let front : table i g ≡ table i f = table_same 0 i g f (λ k l. same k (λ e. lt_irrefl i (rw e at l))) in
      let back : table j (λ k. g (suc (i + k))) ≡ table j (λ k. f (suc (i + k))) =
      table_same 0 j (λ k. g (suc (i + k))) (λ k. f (suc (i + k))) (λ k l. same (suc (i + k)) (λ e. omega arith)) in
      table_mid i j g ∙ ap₂ {C = List ℕ} (λ x y. x ++ y) front (ap₂ {C = List ℕ} (λ x y. x ∷ y) here back)

  insert_row : (n : ℕ) → split (table (i + suc j) g) (inserted n (f i + total (table i f))) ≡ split (table (i + suc j) f) n
  insert_row n =
      ap (λ (l : List ℕ). split l (inserted n (f i + total (table i f)))) row_mid
      ∙ split_inserted (table i f) (f i) (table j (λ k. f (suc (i + k)))) n
      ∙ ap (λ (l : List ℕ). split l n) (sym (table_mid i j f))

  total_row : total (table (i + suc j) g) ≡ total (table (i + suc j) f) + 1
  total_row =
      let rest : List ℕ = table j (λ k. f (suc (i + k))) in
      let tg : total (table (i + suc j) g) ≡ total (table i f) + (total rest + (f i + 1)) =
      ap total row_mid ∙ total_append (table i f) ((f i + 1) ∷ rest) in
      let tf : total (table (i + suc j) f) ≡ total (table i f) + (total rest + f i) =
      ap total (table_mid i j f) ∙ total_append (table i f) (f i ∷ rest) in
      omega arith

-- the pixel a is below all of these
pub data Above : ℕ → List ℕ → Type 0 where
  no_more : {a : ℕ} → Above a []
  above : {a b : ℕ} {bs : List ℕ} → a < b → Above a bs → Above a (b ∷ bs)

below_anchors : (w i : ℕ) {a : ℕ} {cs : List ℕ} → i ≤ a → Above a cs → index_width w cs i ≡ w
below_anchors w i h no_more = refl
below_anchors w i h (above {b = b} {bs = bs} l r) = rw (ne_eqb i b (λ e. omega arith)) (below_anchors w i h r)

-- one anchor less: a zero at the top of the index of the lowest one
module _ (w a : ℕ) (cs : List ℕ) (hw : 0 < w) (ha : a < 16) (up : Above a cs) where
  same_width : (k : ℕ) → k ≢ a → index_width w cs k ≡ index_width w (a ∷ cs) k
  same_width k d = sym (rw (ne_eqb k a d))

  at_anchor : index_width w (a ∷ cs) a ≡ w - 1
  at_anchor = rw (eq-eqb a a refl)

  wider : index_width w cs a ≡ index_width w (a ∷ cs) a + 1
  wider = let one : w ≡ w - 1 + 1 = omega arith in below_anchors w a (le_refl a) up ∙ one ∙ ap (λ (x : ℕ). x + 1) (sym at_anchor)

  sixteen : a + suc (15 - a) ≡ 16
  sixteen = omega arith

  top_bit : index_width w (a ∷ cs) a + total (table a (index_width w (a ∷ cs))) ≡ a * w + (w - 1)
  top_bit =
      let front : total (table a (index_width w (a ∷ cs))) ≡ a * w =
      total_same (index_width w (a ∷ cs)) w a (λ k l. rw (ne_eqb k a (λ e. omega arith)) (below_anchors w k (omega arith) up)) in
      ap₂ (λ (x y : ℕ). x + y) at_anchor front ∙ add_comm (w - 1) (a * w)

  pub expand_anchor : (n : ℕ) → expanded w cs (inserted n (a * w + (w - 1))) ≡ expanded w (a ∷ cs) n
  unfolding expanded index_widths
  expand_anchor n =
      ap (λ (l : List ℕ). join (table 16 (index_width w [])) l)
      (subst (λ (k : ℕ). split (table k (index_width w cs)) (inserted n (a * w + (w - 1))) ≡ split (table k (index_width w (a ∷ cs))) n) sixteen
      (subst (λ (p : ℕ). split (table (a + suc (15 - a)) (index_width w cs)) (inserted n p) ≡ split
      (table (a + suc (15 - a)) (index_width w (a ∷ cs))) n) top_bit
      (insert_row (index_width w (a ∷ cs)) (index_width w cs) a (15 - a) same_width wider n)))

  pub size_anchor : total (index_widths w cs) ≡ total (index_widths w (a ∷ cs)) + 1
  unfolding index_widths
  size_anchor =
      subst (λ (k : ℕ). total (table k (index_width w cs)) ≡ total (table k (index_width w (a ∷ cs))) + 1) sixteen
      (total_row (index_width w (a ∷ cs)) (index_width w cs) a (15 - a) same_width wider)

-- how many bits the stored indexes have
pub size_none : (w : ℕ) → total (index_widths w []) ≡ 16 * w
unfolding index_widths
size_none w = total_same (index_width w []) w 16 (λ k l. refl)

pub size_1 : (w : ℕ) → 0 < w → total (index_widths w (0 ∷ [])) ≡ 16 * w - 1
size_1 w hw = omega (arith, size_none w, size_anchor w 0 [] hw (omega arith) no_more)

pub size_2 : (w p : ℕ) → 0 < w → 0 < p → p < 16 → total (index_widths w (0 ∷ p ∷ [])) ≡ 16 * w - 2
size_2 w p hw h0 hp = omega (arith, size_none w, size_anchor w p [] hw hp no_more, size_anchor w 0 (p ∷ []) hw (omega arith) (above h0 no_more))

pub size_3 : (w p q : ℕ) → 0 < w → 0 < p → p < q → q < 16 → total (index_widths w (0 ∷ p ∷ q ∷ [])) ≡ 16 * w - 3
size_3 w p q hw h0 hp hq =
    omega (
      arith,
      size_none w,
      size_anchor w q [] hw hq no_more,
      size_anchor w p (q ∷ []) hw (omega arith) (above hp no_more),
      size_anchor w 0 (p ∷ q ∷ []) hw (omega arith) (above h0 (above (omega arith) no_more)),
    )

-- with no anchor left the indexes are as they stand
expanded_none : (w n : ℕ) → n < 2 ^ (16 * w) → expanded w [] n ≡ n
unfolding expanded
expanded_none w n h = join_split (index_widths w []) n (rw (size_none w) h)

-- the anchors one after the other, the highest last
pub times_width : (w a b : ℕ) → a ≤ b → a * w ≤ b * w
times_width w a b h = mul-le-mul_right w h

module _ (w : ℕ) (hw : 0 < w) where
  -- one bit more
  grown : (k l n p : ℕ) → l ≡ k + 1 → p * w + (w - 1) ≤ k → n < 2 ^ k → inserted n (p * w + (w - 1)) < 2 ^ l
  grown k l n p e h hn = rw e (inserted_lt n (p * w + (w - 1)) k hn h)

  pub one_anchor : (n p a : ℕ) → p < 16 → n < 2 ^ (16 * w - 1) → a ≡ inserted n (p * w + (w - 1)) → a ≡ expanded w (p ∷ []) n
  one_anchor n p a hp hn ea =
      let whole : inserted n (p * w + (w - 1)) < 2 ^ (16 * w) =
      grown (16 * w - 1) (16 * w) n p (omega arith) (omega (arith, times_width w p 15 (omega arith))) hn in
      ea ∙ sym (expanded_none w (inserted n (p * w + (w - 1))) whole) ∙ expand_anchor w p [] hw hp no_more n

  -- bounds on the way
  pub after_1 : (n p a : ℕ) → p < 15 → n < 2 ^ (16 * w - 2) → a ≡ inserted n (p * w + (w - 1)) → a < 2 ^ (16 * w - 1)
  after_1 n p a hp hn ea = rw ea (grown (16 * w - 2) (16 * w - 1) n p (omega arith) (omega (arith, times_width w p 14 (omega arith))) hn)

  pub after_2 : (n a : ℕ) → n < 2 ^ (16 * w - 3) → a ≡ inserted n (0 * w + (w - 1)) → a < 2 ^ (16 * w - 2)
  after_2 n a hn ea = rw ea (grown (16 * w - 3) (16 * w - 2) n 0 (omega arith) (omega arith) hn)

  pub two_anchors : (n p q a b : ℕ) → p < q → q < 16 → n < 2 ^ (16 * w - 2) → a ≡ inserted n (p * w + (w - 1)) → b ≡ inserted a (q * w + (w - 1))
      → b ≡ expanded w (p ∷ q ∷ []) n
  two_anchors n p q a b hp hq hn ea eb =
      one_anchor a q b hq (after_1 n p a (omega arith) hn ea) eb ∙ ap (expanded w (q ∷ [])) ea
      ∙ expand_anchor w p (q ∷ []) hw (omega arith) (above hp no_more) n

  pub three_anchors : (n p q a b c : ℕ) → 0 < p → p < q → q < 16 → n < 2 ^ (16 * w - 3)
      → a ≡ inserted n (0 * w + (w - 1)) → b ≡ inserted a (p * w + (w - 1)) → c ≡ inserted b (q * w + (w - 1)) → c ≡ expanded w (0 ∷ p ∷ q ∷ []) n
  three_anchors n p q a b c h0 hp hq hn ea eb ec =
      two_anchors a p q b c hp hq (after_2 n a hn ea) eb ec ∙ ap (expanded w (p ∷ q ∷ [])) ea
      ∙ expand_anchor w 0 (p ∷ q ∷ []) hw (omega arith) (above h0 (above (omega arith) no_more)) n

-- stored indexes leave a bit of the word free
pub spare_bit : (w k n : ℕ) → w ≤ 4 → 1 ≤ k → n < 2 ^ (16 * w - k) → n < 2 ^ 63
spare_bit w k n hw hk h = lt_of_lt_of_le h (pow_mono {i = 16 * w - k} {j = 63} (omega arith))

-- the sixteen indexes are the stored fields
full_width : (w : ℕ) (an : List ℕ) (k : ℕ) → index_width w an k ≤ w
full_width w an k = pick_less (among k an) w

pub part_expanded : (w : ℕ) (an : List ℕ) (n q : ℕ) → q < 16
    → part (expanded w an n) w q ≡ n / 2 ^ total (table q (index_width w an)) % 2 ^ index_width w an q
unfolding expanded field index_widths
part_expanded w an n q h =
    let f : ℕ → ℕ = index_width w [] in
    let v : ℕ → ℕ = λ k. n / 2 ^ total (table k (index_width w an)) % 2 ^ index_width w an k in
    let x : ℕ = join (table 16 f) (split (table 16 (index_width w an)) n) in
    let e : x ≡ join (table 16 f) (table 16 v) = ap (join (table 16 f)) (split_table 16 (index_width w an) n) in
    let fits : Fit (table 16 f) (table 16 v) =
    fit_table 16 f v (λ k l. lt_of_lt_of_le (mod-lt _ (pow_pos (index_width w an k))) (pow_mono (full_width w an k))) in
    ap (λ (s : ℕ). x / 2 ^ s % 2 ^ w) (sym (total_same f w q (λ k l. refl)))
    ∙ sym (digit 16 f x q h)
    ∙ ap (λ (l : List ℕ). get_or l q 0) (ap (split (table 16 f)) e ∙ split_join fits)
    ∙ get_d_table 16 v 0 q h
