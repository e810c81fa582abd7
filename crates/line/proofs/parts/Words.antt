-- Words of sixteen parts of one width: sums and masks part by part, and the mask of a line.
-- Assumes nothing.
use mathlib.Core.Path.{◌≡◌, refl, sym, ap, ◌∙◌}
use mathlib.Core.Bool.{Bool, true, false}
use mathlib.Core.List.{List, []}
use Prim.Native.Nat.{ℕ, ◌+◌, ◌-◌, ◌*◌, ◌/◌, ◌%◌, ◌^◌, ◌<◌}
use native.Mathlib.Nat.{mod-eq_of_lt}
use lib.Bits.{bit_and, and_mask, and_zero_r}
use lib.ListN.{get_or}
use lib.Pow.{ones_lt, pow_pos}
use Rattle.bc7_places.specs.declared.lines.LinePart.{LinePart}
use Rattle.laws.specs.Digits.{Fit, join, split}
use Rattle.laws.specs.Tables.{pick, table}
use Rattle.laws.proofs.Digits.{join_lt, split_join}
use Rattle.laws.proofs.Joining.{table_same}
use Rattle.laws.proofs.Masks.{ands_table, join_plus, plus_table}
use Rattle.laws.proofs.Part.{get_d_table}
use Rattle.laws.proofs.Putting.{and_join}
use Rattle.laws.proofs.Rows.{digit, fit_table, total_same}
use Rattle.bcn_format.specs.Indexes.{index_width, index_widths}
use Rattle.bcn_format.proofs.Expanding.{size_none}
use Rattle.bc7_places.specs.Lines.{own_pixel}

-- the word whose part q is f q
abbrev pub word : ℕ → (ℕ → ℕ) → ℕ
word w f = join (index_widths w []) (table 16 f)

abbrev pub Small : ℕ → (ℕ → ℕ) → Type 0
Small w f = (q : ℕ) → q < 16 → f q < 2 ^ w

module _ (w : ℕ) where
  pub word_same : (a b : ℕ → ℕ) → ((q : ℕ) → q < 16 → a q ≡ b q) → word w a ≡ word w b
  word_same a b e = ap (join (index_widths w [])) (table_same 0 16 a b e)

  module _ (a : ℕ → ℕ) (ha : Small w a) where
    pub word_fits : Fit (index_widths w []) (table 16 a)
    unfolding index_widths
    word_fits = fit_table 16 (index_width w []) a ha

    pub word_split : split (index_widths w []) (word w a) ≡ table 16 a
    word_split = split_join word_fits

    pub word_lt : word w a < 2 ^ (16 * w)
    word_lt = rw (size_none w) at (join_lt word_fits)

    pub word_part : (q : ℕ) → q < 16 → word w a / 2 ^ (q * w) % 2 ^ w ≡ a q
    unfolding index_widths
    word_part q h =
        ap (λ (t : ℕ). word w a / 2 ^ t % 2 ^ w) (sym (total_same (index_width w []) w q (λ k l. refl)))
        ∙ sym (digit 16 (index_width w []) (word w a) q h) ∙ ap (λ (vs : List ℕ). get_or vs q 0) word_split ∙ get_d_table 16 a 0 q h

  module _ (a b : ℕ → ℕ) (ha : Small w a) (hb : Small w b) where
    pub word_plus : word w (λ q. a q + b q) ≡ word w a + word w b
    word_plus = ap (join (index_widths w [])) (sym (plus_table 16 a b)) ∙ join_plus (word_fits a ha) (word_fits b hb)

    word_and : bit_and (word w a) (word w b) ≡ word w (λ q. bit_and (a q) (b q))
    word_and = and_join (word_fits a ha) (word_fits b hb) ∙ ap (join (index_widths w [])) (ands_table 16 a b)

    pub word_one : word w a ≡ word w b → (q : ℕ) → q < 16 → a q ≡ b q
    word_one e q h = sym (word_part a ha q h) ∙ ap (λ (x : ℕ). x / 2 ^ (q * w) % 2 ^ w) e ∙ word_part b hb q h

-- the mask of a line: all ones at its pixels. It keeps what stands there
module _ (x : LinePart) where
  abbrev pub mask_part : ℕ → ℕ
  mask_part q = pick (own_pixel x.pixels q) (2 ^ x.index - 1) 0

  mask_small : Small x.index mask_part
  mask_small q h = go (own_pixel x.pixels q)
    where
      go : (b : Bool) → pick b (2 ^ x.index - 1) 0 < 2 ^ x.index
      go true = ones_lt x.index
      go false = pow_pos x.index

  pub masked : (f : ℕ → ℕ) → Small x.index f
      → bit_and (word x.index f) (word x.index mask_part) ≡ word x.index (λ q. pick (own_pixel x.pixels q) (f q) 0)
  masked f hf = word_and x.index f mask_part hf mask_small ∙ word_same x.index _ _ (λ q h. go (own_pixel x.pixels q) (hf q h))
    where
      go : (b : Bool) {z : ℕ} → z < 2 ^ x.index → bit_and z (pick b (2 ^ x.index - 1) 0) ≡ pick b z 0
      go true {z} h = and_mask z x.index ∙ mod-eq_of_lt h
      go false {z} h = and_zero_r z
