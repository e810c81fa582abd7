-- One count lowered and one raised, and a block put in the place of the named one.
-- Assumes nothing.
use mathlib.Core.Path.{◌≡◌, sym, ap₂, ◌∙◌}
use mathlib.Core.Logic.{◌≢◌, ⊎_elim}
use mathlib.Core.Bool.{Bool, true, false}
use mathlib.Core.List.{List}
use Prim.Native.Nat.{ℕ, ◌+◌, ◌-◌, ◌<◌, ◌≤◌}
use native.Mathlib.Decide.{ℕ_discrete}
use native.Mathlib.Nat.{eq-zero-or-pos}
use native.Mathlib.Omega.{arith}
use lib.ListN.{get_or, length, set}
use lib.Seq.{get_or-set_other, get_or-set_same}
use mir.Val.{bool_byte}
use Rattle.bc7_format.specs.Modes.{mode_of}
use Rattle.bc7_format.proofs.Modes.{mode_le_8}
use Rattle.head_rules.specs.Answers.{known}
use Rattle.head_rules.specs.Geometry.{blocks_of, most_blocks}
use Rattle.head_rules.specs.Heads.{Sized, read_head}
use Rattle.head_rules.proofs.Blocks.{few_blocks}
use Rattle.head_rules.proofs.Theorems.{head_sized}
use Rattle.sheet_head.specs.Asked.{BlockAsked}
use Rattle.sheet_rules.specs.Sheets.{block_in}
use Rattle.sheet_rules.proofs.Finding.{inside, room}
use Rattle.count_rules.specs.declared.Counts.{Counts}
use Rattle.count_rules.specs.Keeping.{recounted_as}
use Rattle.count_rules.proofs.Fitting.{of_all_has}
use Rattle.count_rules.proofs.Refusing.{falsehood}
use Rattle.count_rules.proofs.Ways.{recounted_by_two}
use Rattle.counts.specs.declared.NamedBlock.{NamedBlock}
use Rattle.counts.proofs.Counting.{one_is}
use Rattle.counts.specs.Blocks.{Here, RecountAsked}

pub not_none : {count : ℕ} → count ≢ 0 → 1 ≤ count
not_none {count} ne = ⊎_elim (λ z. absurd (ne z)) (λ p. p) (eq-zero-or-pos count)

module _ {n : Counts} {had has : ℕ} {was is : Bool} (k : RecountAsked n had was has is) where
  pub some_left : 1 ≤ get_or n.modes had 0
  some_left = not_none k.some

  each_few : (v : ℕ) → v < 9 → get_or n.modes v 0 ≤ most_blocks
  each_few v l = omega (arith, of_all_has n v l, k.few)

  -- what is raised has room, also where it was lowered before
  pub room_left : length n.modes ≡ 9 → get_or (set n.modes had (get_or n.modes had 0 - 1)) has 0 ≤ most_blocks
  room_left e = go (ℕ_discrete has had)
    where
      go : Dec (has ≡ had) → get_or (set n.modes had (get_or n.modes had 0 - 1)) has 0 ≤ most_blocks
      go (yes q) = rw q (let g = get_or-set_same n.modes had (get_or n.modes had 0 - 1) 0 (omega (arith, e, k.a_mode)) in
          omega (arith, g, each_few had k.a_mode))
      go (no ne) = omega (arith, get_or-set_other n.modes had has (get_or n.modes had 0 - 1) 0 ne, each_few has k.another)

  -- what is lowered is there
  some_lowered : (w : Bool) → was ≡ w → bool_byte w ≤ n.opaque
  some_lowered true e = not_none (k.some_opaque e)
  some_lowered false e = omega arith

  -- and what is raised has room
  few_raised : (w : Bool) → was ≡ w → (i : Bool) → n.opaque < 4294967296 → n.opaque - bool_byte w + bool_byte i < 4294967296
  few_raised true e true l = omega (arith, l, not_none (k.some_opaque e))
  few_raised true e false l = omega (arith, l)
  few_raised false e true l = omega (arith, k.room e)
  few_raised false e false l = omega (arith, l)

  pub both_changed : length n.modes ≡ 9 → {low up : ℕ} → low ≡ bool_byte was → up ≡ bool_byte is
      → record {
        modes = set (set n.modes had (get_or n.modes had 0 - 1)) has (get_or (set n.modes had (get_or n.modes had 0 - 1)) has 0 + 1);
        opaque = n.opaque - low + up;
      } ≡ recounted_as had was has is n
  unfolding recounted_as
  both_changed e {low} {up} el eu =
      ap₂ (λ (ms : List ℕ) (x : ℕ). record { modes = ms; opaque = x }) (recounted_by_two n.modes e had has k.a_mode k.another)
      (ap₂ (λ (x y : ℕ). n.opaque - x + y) (el ∙ one_is was) (eu ∙ one_is is))

-- the block that is named
module _ (s : List ℕ) (n : Counts) (b : ℕ) {r : NamedBlock} (k : Here s n b r) where
  sized_here : Sized (read_head s).width (read_head s).height
  sized_here = head_sized s (inside s b k.found).head_told_is

  few_here : blocks_of (read_head s) ≤ most_blocks
  unfolding blocks_of
  few_here = few_blocks sized_here

  pub room_there : r.at + 16 ≤ length s
  room_there = rw k.at (room s b (inside s b k.found))

  pub asked_there : BlockAsked (known r.head) b
  asked_there = rw k.head (record { size = sized_here; number = (inside s b k.found).number })

  pub recount_asked : (new : List ℕ) {has : ℕ} {is : Bool} → has ≡ mode_of new → RecountAsked n r.mode r.opaque has is
  recount_asked new {has} eh =
      let (all, (some, (opaque, (rest, u)))) = (falsehood (read_head s) s b n).met k.true_of_it in
      record {
        a_mode = omega (arith, k.mode, mode_le_8 (block_in s b));
        another = omega (arith, eh, mode_le_8 new);
        some = rw k.mode some;
        few = omega (arith, all, few_here);
        some_opaque = λ e. opaque (sym k.opaque ∙ e);
        room = λ e. omega (arith, rest (sym k.opaque ∙ e), few_here);
      }
