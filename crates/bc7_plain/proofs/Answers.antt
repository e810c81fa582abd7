-- From the split that was read to the pixel that is answered.
-- Assumes nothing.
use mathlib.Core.Path.{◌≡◌, ap, ap₂, sym, subst, ◌∙◌}
use mathlib.Core.List.{List}
use Prim.Native.Nat.{ℕ, ◌<◌}
use Rattle.laws.specs.Digits.{Fit}
use Rattle.laws.specs.Tables.{table}
use Rattle.laws.proofs.Joining.{table_same}
use Rattle.bcn_format.specs.Block.{eights, number}
use Rattle.bcn_format.proofs.Fields.{field_below}
use Rattle.bc7_format.specs.Lines.{pixel, rotated}
use Rattle.bc7_format.specs.Modes.{index_mode_bits, mode_of, partition_bits, rotation_bits}
use Rattle.refusals.specs.Answers.{Answer}
use Rattle.pixel_rules.specs.Columns.{subset_count}
use Rattle.pixel_rules.specs.Pixels.{pixel_read}
use Rattle.pixel_rules.specs.Plain.{Spelt, channel_in, index_mode_in, letters_of, partition_in, plain_channel}
use Rattle.pixel_rules.specs.Strings.{letters, string_for}
use Rattle.pixel_rules.proofs.Reading.{block_spelt, channel_shown}
use Rattle.pixel_rules.proofs.Theorems.{pixel_accepted}
use Rattle.bc7_plain.specs.Asked.{PixelAsked, SplitRead}
use Rattle.bc7_plain.proofs.Rows.{few}

module _ (m n : ℕ) where
  -- the letters of the block's partition
  pub letters_taken : {k p : ℕ} → k ≡ subset_count m → p ≡ partition_in m n → letters (string_for k p) ≡ letters_of m n
  unfolding letters_of
  letters_taken e f = ap₂ (λ (k p : ℕ). letters (string_for k p)) e f

  module _ (h : m < 8) {p r i : ℕ} (g : SplitRead m n p r i) where
    pub partition_64 : p < 64
    partition_64 = subst (λ (x : ℕ). x < 64) (sym g.partition) (field_below n _ (partition_bits m) 6 (few m h).partition)

    module _ (q : ℕ) (hq : q < 16) {cs : List ℕ} (e : cs ≡ letters_of m n) where
      pub asked : PixelAsked m r i cs q
      asked = record {
        rotation = subst (λ (x : ℕ). x < 4) (sym g.rotation) (field_below n _ (rotation_bits m) 2 (few m h).rotation);
        index_mode = subst (λ (x : ℕ). x < 2) (sym g.index_mode) (field_below n _ (index_mode_bits m) 1 (few m h).index_mode);
        spelt = subst (Spelt m) (sym e) (block_spelt m n h);
        pixel = hq;
      }

      pub read : {out : List ℕ} → out ≡ table 4 (λ c. channel_in m i cs n q (rotated r c)) → out ≡ table 4 (plain_channel m n q)
      unfolding plain_channel
      read is =
          is ∙ ap₂ (λ (x : ℕ) (l : List ℕ). table 4 (λ c. channel_in m x l n q (rotated r c))) g.index_mode e
          ∙ ap (λ (x : ℕ). table 4 (λ c. channel_in m (index_mode_in m n) (letters_of m n) n q (rotated x c))) g.rotation

-- an accepted answer
pub answered : (bs : List ℕ) → Fit eights bs → (m q : ℕ) → m ≡ mode_of bs → m < 8 → q < 16 → {l : List ℕ}
    → l ≡ table 4 (plain_channel m (number bs) q) → ◌≡◌ {A = Answer (List ℕ)} (record { refusal = 0; value = l }) (pixel_read bs q)
answered bs sixteen m q e h hq is =
    let low : mode_of bs < 8 = subst (λ (x : ℕ). x < 8) e h in
    ap (λ (l : List ℕ). record { refusal = 0; value = l })
    (is ∙ ap (λ (x : ℕ). table 4 (plain_channel x (number bs) q)) e ∙ table_same 0 4 _ (pixel bs q) (λ c hc. channel_shown bs sixteen low q c hq hc))
    ∙ sym (pixel_accepted bs q hq)
