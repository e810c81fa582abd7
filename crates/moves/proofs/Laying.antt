-- The ways of `length_as` and `lay`: a head, and all blocks behind it.
-- Assumes nothing.
use mathlib.Core.Path.{◌≡◌, refl, ◌∙◌, ap, sym}
use mathlib.Core.List.{List, [], ◌++◌, append-nil}
use Prim.Native.Nat.{ℕ, ◌+◌, ◌-◌, ◌*◌, ◌≤◌}
use native.Mathlib.Nat.{le_of_eq}
use native.Mathlib.Omega.{arith}
use lib.ListN.{length, take, drop, replicate, drop_of_length-le, length-append, length-drop}
use lib.Seq.{length-take-le, take_all, take_at}
use Rattle.laws.specs.Padding.{padded}
use Rattle.head_rules.specs.declared.ColourSpace.TheVariants.{Unspecified}
use Rattle.head_rules.specs.declared.Form.{Form}
use Rattle.head_rules.specs.declared.Form.TheVariants.{Rows, Tiles}
use Rattle.head_rules.specs.declared.FormBytes.{FormBytes}
use Rattle.head_rules.specs.Answers.{Head}
use Rattle.head_rules.specs.Geometry.{blocks_of, whole_length}
use Rattle.head_rules.specs.Heads.{head_spelt, write_form}
use Rattle.head_rules.proofs.Writing.{one_longer, padded_long, short}
use Rattle.sheet_rules.specs.Pictures.{blocks_as}
use Rattle.move_rules.specs.Moving.{head_in_form, moved_to}
use Rattle.moves.specs.Rooms.{Lays, MovesBlocks}

module _ (f : Form) (h : Head) {x : FormBytes} (ex : x ≡ write_form f h.width h.height) where
  abbrev spelt : List ℕ
  spelt = head_spelt f Unspecified h.width h.height

  pub count_is : x.count ≡ length spelt
  unfolding write_form
  count_is = ap (λ (y : FormBytes). y.count) ex

  pub length_is : {n : ℕ} → n ≡ blocks_of h → x.count + 16 * n ≡ whole_length (head_in_form f h)
  unfolding blocks_of
  length_is e = rw (e, count_is)

  spelt_short : (g : Form) → length (head_spelt g Unspecified h.width h.height) ≤ 8
  spelt_short Rows = omega (arith, short h.width h.height)
  spelt_short Tiles = omega (arith, short h.width h.height, one_longer h.width h.height)

  pub count_room : x.count ≤ length x.bytes
  unfolding write_form
  count_room = omega (arith, count_is, spelt_short f, ap (λ (y : FormBytes). length y.bytes) ex, padded_long 8 spelt (spelt_short f))

  abbrev part : List ℕ
  part = take x.count x.bytes

  pub part_long : x.count ≡ length part
  part_long = sym (length-take-le x.count x.bytes count_room)

  taken : part ≡ spelt
  unfolding write_form padded
  taken = ap (λ (y : FormBytes). take y.count y.bytes) ex ∙ take_at spelt (replicate (8 - length spelt) 0) (length spelt) refl

  module _ (s out : List ℕ) (l : Lays f h (length s) (length out)) where
    pub head_fits : x.count ≤ length out
    head_fits = omega (arith, count_is, l.room)

    pub room_long : x.count ≡ length (take x.count out)
    room_long = sym (length-take-le x.count out head_fits)

    module _ {one : List ℕ} (eo : one ≡ part ++ drop x.count out) where
      first_is : one ≡ spelt ++ drop (length spelt) out
      first_is = eo ∙ rw (taken, count_is)

      one_long : length one ≡ length out
      one_long = ap length first_is ∙ length-append spelt (drop (length spelt) out)
          ∙ omega (arith, length-drop (length spelt) out, head_fits, count_is)

      pub count_in : x.count ≤ length one
      count_in = omega (arith, one_long, head_fits)

      rest : take (length one - x.count) (drop x.count one) ≡ drop x.count one
      rest = take_all (length one - x.count) (drop x.count one) (le_of_eq (length-drop x.count one))

      as_many : blocks_of (head_in_form f h) ≡ blocks_of h
      unfolding blocks_of
      as_many = refl

      pub blocks_room : MovesBlocks h (length s) (length (take (length one - x.count) (drop x.count one)))
      blocks_room = record {
        size = l.size;
        whole = l.whole;
        room = ap length rest ∙ length-drop x.count one ∙ omega (arith, one_long, l.room, count_is, as_many);
      }

      pub laid : {two : List ℕ} → two ≡ blocks_as f h s
          → take x.count one ++ (two ++ drop (length one - x.count) (drop x.count one)) ≡ moved_to f h s
      unfolding moved_to
      laid {two} et =
          let none : drop (length one - x.count) (drop x.count one) ≡ [] = drop_of_length-le (drop x.count one) {i = length one - x.count}
          (le_of_eq (length-drop x.count one)) in
          rw (none, append-nil two, et)
          (ap (λ (t : List ℕ). t ++ blocks_as f h s)
          (ap (take x.count) first_is ∙ take_at spelt (drop (length spelt) out) x.count (sym count_is)))
