-- Sixteen indexes of one width as one word.
-- Assumes nothing.
use mathlib.Core.Path.{◌≡◌, refl, ap, ◌∙◌, subst}
use mathlib.Core.List.{List, []}
use Prim.Native.Nat.{ℕ, ◌*◌, ◌^◌, ◌≤◌, ◌<◌}
use native.Mathlib.Nat.{lt_of_lt_of_le}
use native.Mathlib.Omega.{arith}
use lib.ListN.{get_or}
use lib.Pow.{pow_mono}
use Rattle.laws.specs.Digits.{Fit, join, evenly, split}
use Rattle.laws.proofs.Cases.{pick_less}
use Rattle.laws.proofs.Downwards.{Down, Step, down_all, down_next, down_none}
use Rattle.laws.proofs.Digits.{join_lt, split_join}
use Rattle.laws.proofs.Fitting.{fit_get, fit_length}
use Rattle.laws.proofs.Part.{get_d_table, length_table, table_is}
use Rattle.laws.proofs.Rows.{fit_table}
use Rattle.bcn_format.specs.Partitions.{among}
use Rattle.bcn_format.specs.Indexes.{index_width, index_widths}
use Rattle.bcn_format.proofs.Expanding.{size_none}

-- sixteen indexes
abbrev pub Upper : ℕ → List ℕ → ℕ → ℕ → Type 0
Upper w vs i x = Down w 16 (λ k. get_or vs k 0) i x

abbrev pub Next : ℕ → List ℕ → ℕ → ℕ → Type 0
Next w vs i x = Step w 16 (λ k. get_or vs k 0) i x

module _ (w : ℕ) (vs : List ℕ) (f : Fit (index_widths w []) vs) where
  pub index_fits_is : (k : ℕ) → k < 16 → get_or vs k 0 < 2 ^ w
  unfolding index_widths
  index_fits_is k l = rw (get_d_table 16 (index_width w []) 0 k l) at (fit_get f k)

  pub upper_none : Upper w vs 16 0
  upper_none = down_none w 16 (λ k. get_or vs k 0) index_fits_is

  pub upper_next : w ≤ 4 → (i x : ℕ) → 0 < i → i ≤ 16 → Upper w vs i x → Next w vs i x
  upper_next hw = down_next w 16 (λ k. get_or vs k 0) index_fits_is (omega arith)

  pub upper_all : (x : ℕ) → Upper w vs 0 x → x ≡ join (index_widths w []) vs
  unfolding index_widths evenly
  upper_all x e =
      down_all w 16 (λ k. get_or vs k 0) index_fits_is x e
      ∙ ap (join (index_widths w [])) (table_is 16 _ vs (fit_length f ∙ length_table 16 (index_width w [])) (λ i l. refl))

-- indexes at their stored widths fit the full ones too, and the word of them gives them back
module _ (w : ℕ) (an : List ℕ) (vs : List ℕ) (f : Fit (index_widths w an) vs) where
  pub full_fit : Fit (index_widths w []) vs
  unfolding index_widths
  full_fit =
      subst (Fit (index_widths w [])) (table_is 16 _ vs (fit_length f ∙ length_table 16 (index_width w an)) (λ i l. refl))
      (fit_table 16 (index_width w []) (λ k. get_or vs k 0)
      (λ k l. lt_of_lt_of_le (rw (get_d_table 16 (index_width w an) 0 k l) at (fit_get f k)) (pow_mono (pick_less (among k an) w))))

  pub word_split : {x : ℕ} → x ≡ join (index_widths w []) vs → split (index_widths w []) x ≡ vs
  word_split e = ap (split (index_widths w [])) e ∙ split_join full_fit

  pub word_lt : {x : ℕ} → x ≡ join (index_widths w []) vs → x < 2 ^ (16 * w)
  word_lt e = rw e (rw (size_none w) at (join_lt full_fit))

  pub stored_again : {x : ℕ} → x ≡ join (index_widths w []) vs → join (index_widths w an) (split (index_widths w []) x) ≡ join (index_widths w an) vs
  stored_again e = ap (join (index_widths w an)) (word_split e)
