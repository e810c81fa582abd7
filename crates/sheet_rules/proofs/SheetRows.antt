-- THE SECOND ROW DECODING EQUALS THE FIRST on the blocks of its row, in either form; each refusal exactly when `sheet_row_rules` says.
-- Assumes nothing.
use mathlib.Core.Path.{◌≡◌, ◌∙◌, ap, sym}
use mathlib.Core.Logic.{◌↔◌, ◌≢◌, ⊎_elim}
use mathlib.Core.List.{List, ◌∷◌}
use Prim.Native.Nat.{ℕ, ◌+◌, ◌*◌, ◌<◌}
use native.Mathlib.Nat.{mul-le-mul_right}
use native.Mathlib.Decide.{ℕ_discrete}
use native.Mathlib.Omega.{arith}
use borrow.Author.Tests.{ne_eqb}
use lib.Arith.{digits_lt}
use lib.Dec.{eqb}
use lib.ListN.{length, drop, length-drop}
use lib.Seq.{length-take-le}
use Rattle.laws.specs.Refusals.{Given, accepted, handed, here, then}
use Rattle.laws.specs.Tables.{pick}
use Rattle.laws.proofs.Cases.{lt_or}
use Rattle.laws.proofs.Refusals.{Answers, answer_0, answers, by_answer, by_leb, by_not_eqb, exactly, none, rule, rules}
use Rattle.head_rules.specs.declared.Form.TheVariants.{Rows}
use Rattle.head_rules.specs.Geometry.{across, blocks_of, row_length, side_shown, whole_length}
use Rattle.head_rules.specs.Heads.{Sized, read_head}
use Rattle.head_rules.specs.Whole.{whole_refusal}
use Rattle.head_rules.proofs.Theorems.{head_answers, head_sized}
use Rattle.head_rules.proofs.Whole.{whole_rules_is, whole_when}
use Rattle.sheet_rules.specs.Pictures.{all_blocks, row_of}
use Rattle.bcn_format.specs.Block.{block_at}
use Rattle.sheet_rules.specs.Rows.{row_bytes, row_out, row_out_up_to, row_refusal, row_rules}
use Rattle.sheet_rules.specs.SheetRows.{DecodesSheetRow, row_behind_whole, row_blocks, row_room, sheet_row_out, sheet_row_refusal, sheet_row_rules}
use Rattle.sheet_rules.specs.Sheets.{block_in}
use Rattle.sheet_rules.proofs.Pictures.{all_long, block_in_all, block_of_part}
use Rattle.sheet_rules.proofs.Refusing.{row_rules_is}

module _ (s : List ℕ) (row room : ℕ) where
  in_words : Answers (sheet_row_refusal s row room) (sheet_row_rules s row room)
  unfolding sheet_row_refusal
  in_words = answers (rules (whole_rules_is (read_head s) s (head_answers s)) λ w. rule (by_leb tt (across (read_head s).height) row) λ b. rule
      (by_not_eqb tt room (row_room (read_head s) row)) λ r. none)

  pub handing : Answers (sheet_row_refusal s row room) (handed (whole_refusal (read_head s) s) ∷ row_behind_whole (read_head s) row room)
  unfolding sheet_row_refusal
  handing = answers (rule by_answer λ w. rule (by_leb tt (across (read_head s).height) row) λ b. rule
      (by_not_eqb tt room (row_room (read_head s) row)) λ r. none)

  -- each refusal number is given exactly when the request says (`sheet_row_rules` has the words)
  pub sheet_row_refused_when : (n : ℕ) → (sheet_row_refusal s row room ≡ n) ↔ Given (sheet_row_rules s row room) n
  sheet_row_refused_when = exactly in_words

module _ (s : List ℕ) (told : (read_head s).refusal ≡ 0) (whole : length s ≡ whole_length (read_head s)) (row : ℕ)
    (inside : row < across (read_head s).height) where
  abbrev w : ℕ
  w = (read_head s).width

  number_in : {c : ℕ} → c < across w → row * across w + c < blocks_of (read_head s)
  unfolding blocks_of
  number_in l = digits_lt inside l

  -- the blocks of the row
  pub row_block : (c : ℕ) → c < across w → block_at (row_blocks s row) (16 * c) ≡ block_in s (row * across w + c)
  unfolding row_blocks row_of
  row_block c l =
      let at : 16 * (row * across w) + 16 * c ≡ 16 * (row * across w + c) = omega arith in
      block_of_part (all_blocks s) (16 * (row * across w)) (16 * across w) (16 * c) (omega (arith, l))
      ∙ ap (block_at (all_blocks s)) at ∙ block_in_all Rows (read_head s) s whole (row * across w + c) (number_in l)

  pub row_long : length (row_blocks s row) ≡ row_length w
  unfolding row_blocks row_of blocks_of
  row_long =
      length-take-le (16 * across w) (drop (16 * (row * across w)) (all_blocks s))
      (omega (
        arith,
        length-drop (16 * (row * across w)) (all_blocks s),
        all_long Rows (read_head s) s,
        mul-le-mul_right {m = row + 1} {n = across (read_head s).height} (across w) (omega (arith, inside)),
      ))

module _ (s : List ℕ) (row : ℕ) (out : List ℕ) where
  pub row_undrawn : sheet_row_refusal s row (length out) ≢ 0 → sheet_row_out s row out ≡ out
  unfolding sheet_row_out
  row_undrawn ne = rw (ne_eqb _ 0 ne)

  pub row_drawn : sheet_row_refusal s row (length out) ≡ 0
      → sheet_row_out s row out ≡ row_bytes (read_head s).width (side_shown (read_head s).height row) (row_blocks s row)
  unfolding sheet_row_out
  row_drawn e = answer_0 _ _ e

-- IT EQUALS THE FIRST on that row's blocks, of every whole sheet of either form: the same answer, and the same output, accepted or refused
module _ (s : List ℕ) (told : (read_head s).refusal ≡ 0) (whole : length s ≡ whole_length (read_head s)) (row : ℕ) (out : List ℕ) where
  abbrev wide : ℕ
  wide = (read_head s).width

  abbrev high : ℕ
  high = (read_head s).height

  same_answer : sheet_row_refusal s row (length out) ≡ row_refusal wide high row (length (row_blocks s row)) (length out)
  same_answer = ⊎_elim inside (λ l. both 12 (then fits (here (λ q. omega (arith, q, l)))) (then size (here (λ q. omega (arith, q, l)))))
      (lt_or row (across high))
    where
      fits : whole_refusal (read_head s) s ≡ 0
      fits = (whole_when (read_head s) s).1 (record { told = told; long = whole })

      size : Sized wide high
      size = head_sized s told

      both : (n : ℕ) → Given (handed (whole_refusal (read_head s) s) ∷ row_behind_whole (read_head s) row (length out)) n
          → Given (row_rules wide high row (length (row_blocks s row)) (length out)) n
          → sheet_row_refusal s row (length out) ≡ row_refusal wide high row (length (row_blocks s row)) (length out)
      both n a b =
          (exactly (handing s row (length out)) n).1 a ∙ sym ((exactly (row_rules_is wide high row (length (row_blocks s row)) (length out)) n).1 b)

      inside : row < across high → sheet_row_refusal s row (length out) ≡ row_refusal wide high row (length (row_blocks s row)) (length out)
      inside l = room (ℕ_discrete (length out) (row_room (read_head s) row))
        where
          long : length (row_blocks s row) ≡ row_length wide
          long = row_long s told whole row l

          room : Dec (length out ≡ row_room (read_head s) row)
              → sheet_row_refusal s row (length out) ≡ row_refusal wide high row (length (row_blocks s row)) (length out)
          room (yes r) = both 0 (then fits (then l (then r accepted))) (then size (then l (then long (then r accepted))))
          room (no n) = both 11 (then fits (then l (here n))) (then size (then l (then long (here n))))

  pub equals_the_first : (sheet_row_refusal s row (length out) ≡ row_refusal wide high row (length (row_blocks s row)) (length out))
      × (sheet_row_out s row out ≡ row_out wide high row (row_blocks s row) out)
  unfolding sheet_row_out row_out_up_to
  equals_the_first = (same_answer, ap (λ (r : ℕ). pick (eqb r 0) (row_bytes wide (side_shown high row) (row_blocks s row)) out) same_answer)

-- any two answers that its promise admits coincide
pub determined_sheet_row : (sheet : List ℕ) (row : ℕ) (before : List ℕ) (a b : ℕ) (x y : List ℕ) → DecodesSheetRow sheet row before a x
    → DecodesSheetRow sheet row before b y → (a ≡ b) × (x ≡ y)
determined_sheet_row sheet row before a b x y p q = (p.0 ∙ sym q.0, p.1 ∙ sym q.1)
