-- WHAT HOLDS THE DEFINITION OF STATING A COLOUR SPACE: a sheet under each, written out, and each refusal beside the next ones.
-- Assumes nothing.
use mathlib.Core.Path.{◌≡◌, refl, ap}
use mathlib.Core.List.{List, [], ◌∷◌, ◌++◌, map}
use Prim.Native.Nat.{ℕ}
use lib.ListN.{get_or, replicate, set}
use Rattle.std.specs.Prelude.{Ok, Err}
use Rattle.refusals.specs.declared.Refusal.TheVariants.{WrongBlockBytes, BadColourSpace}
use Rattle.laws.specs.Refusals.{first}
use Rattle.laws.proofs.Tests.{eqb_of}
use Rattle.head_rules.specs.Colours.{colour_of, colour_refusal}
use Rattle.head_rules.specs.Geometry.{blocks_of}
use Rattle.head_rules.specs.Heads.{colour_in, form_in, form_of, head_refusal_up_to, height_in, of_form_refusal_up_to, read_head_up_to, read_of_form_up_to}
use Rattle.head_rules.specs.Heads.{size_refusal_up_to, tiled_bytes, width_in}
use Rattle.head_rules.specs.Numbers.{groups, raised, read_groups, read_number}
use Rattle.head_rules.specs.Whole.{whole_refusal}
use Rattle.move_rules.specs.Stating.{state_after, state_refusal, stated_as, StatesColour}

-- 128 pixels by 1, which is 80 01 and 01, so 32 blocks: the colour space is byte 4
abbrev sheet : ℕ → List ℕ
sheet space = 0x02 ∷ 0x80 ∷ 0x01 ∷ 0x01 ∷ space ∷ (replicate 256 5 ++ replicate 256 6)

abbrev longer : List ℕ → List ℕ
longer s = s ++ (7 ∷ [])

pub record States : Type 0 where
  pub stated : map (state_after (sheet 0)) (2 ∷ 1 ∷ 0 ∷ []) ≡ sheet 2 ∷ sheet 1 ∷ sheet 0 ∷ []
  pub stated_anew : map (state_after (sheet 2)) (0 ∷ 1 ∷ 2 ∷ []) ≡ sheet 0 ∷ sheet 1 ∷ sheet 2 ∷ []
  pub answers : map (λ (s : List ℕ). state_refusal s 3) ([] ∷ (0x01 ∷ []) ∷ (0x02 ∷ 0x00 ∷ 0x04 ∷ []) ∷ (0x02 ∷ 0x00 ∷ 0x04 ∷ 0x03 ∷ []) ∷
      (0x02 ∷ 0x00 ∷ 0x04 ∷ 0x01 ∷ []) ∷ longer (sheet 1) ∷ sheet 1 ∷ []) ≡ 7 ∷ 8 ∷ 7 ∷ 18 ∷ 9 ∷ 10 ∷ 18 ∷ []
  pub numbers : map (state_refusal (sheet 1)) (0 ∷ 1 ∷ 2 ∷ 3 ∷ 256 ∷ 258 ∷ []) ≡ 0 ∷ 0 ∷ 0 ∷ 18 ∷ 18 ∷ 18 ∷ []
  pub refused_leaves : state_after (sheet 1) 258 ∷ state_after (longer (sheet 1)) 2 ∷ [] ≡ sheet 1 ∷ longer (sheet 1) ∷ []

pub states_hold : States
unfolding state_after state_refusal stated_as read_of_form_up_to of_form_refusal_up_to whole_refusal first groups read_groups read_number raised read_head_up_to
    head_refusal_up_to
    form_in width_in height_in colour_in size_refusal_up_to tiled_bytes blocks_of colour_of colour_refusal form_of
states_hold = record { stated = refl; stated_anew = refl; answers = refl; numbers = refl; refused_leaves = refl }

-- THE PROMISE: an accepted answer, a refused one, and answers and bytes that it does not admit: the colour space as it was, another answer, a
-- block changed, a sheet that a refused call touched
-- the head of 16,384 by 16,384 with no block behind it: 10, and not 9
abbrev largest : List ℕ
largest = 0x02 ∷ 0x80 ∷ 0x80 ∷ 0x01 ∷ 0x80 ∷ 0x80 ∷ 0x01 ∷ 0 ∷ []

pub record Promised : Type 0 where
  pub states_colour : StatesColour (sheet 0) 2 (Ok tt) (sheet 2)
  pub states_colour_not : StatesColour (sheet 1) 258 (Err BadColourSpace) (sheet 1)
  pub states_largest : StatesColour largest 3 (Err WrongBlockBytes) largest
  pub no_colour_kept : StatesColour (sheet 0) 2 (Ok tt) (sheet 0) → ⊥
  pub no_other_answer : StatesColour (sheet 0) 2 (Err BadColourSpace) (sheet 2) → ⊥
  pub no_block_changed : StatesColour (sheet 0) 2 (Ok tt) (set (sheet 2) 516 9) → ⊥
  pub no_number_let_through : StatesColour (sheet 1) 258 (Ok tt) (sheet 1) → ⊥
  pub no_sheet_touched : StatesColour (sheet 1) 258 (Err BadColourSpace) (sheet 2) → ⊥

pub promise_holds : Promised
unfolding whole_refusal state_after state_refusal stated_as read_of_form_up_to of_form_refusal_up_to first groups read_groups read_number raised
    read_head_up_to head_refusal_up_to
    form_in width_in height_in colour_in size_refusal_up_to tiled_bytes blocks_of colour_of colour_refusal form_of
promise_holds = record {
  states_colour = (refl, refl);
  states_colour_not = (refl, refl);
  states_largest = (refl, refl);
  no_colour_kept = λ e. eqb_of _ _ (ap (λ (l : List ℕ). get_or l 4 0) e.1);
  no_other_answer = λ e. eqb_of _ _ e.0;
  no_block_changed = λ e. eqb_of _ _ (ap (λ (l : List ℕ). get_or l 516 0) e.1);
  no_number_let_through = λ e. eqb_of _ _ e.0;
  no_sheet_touched = λ e. eqb_of _ _ (ap (λ (l : List ℕ). get_or l 4 0) e.1);
}
