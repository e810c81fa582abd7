-- `text::put_word` meets its contract.
-- Assumes nothing.
use mathlib.Core.Path.{◌≡◌, refl, sym, ◌∙◌}
use mathlib.Core.List.{List, ◌++◌, append_assoc}
use Prim.Native.Nat.{ℕ, ◌+◌, ◌-◌, ◌≤◌}
use native.Mathlib.Omega.{arith}
use lib.ListN.{drop, length, take}
use lib.Seq.{drop-drop, sets, sets-eq}
use Rattle.text.proofs.put_word.Goals as goal

-- what `copy_from_slice` leaves is the word set in
copied_sets : (l vs : List ℕ) (o : ℕ) → o + length vs ≤ length l
    → take o l ++ (vs ++ drop (o + length vs - o) (drop o l)) ≡ sets l o vs
copied_sets l vs o h =
    let k : o + length vs - o ≡ length vs = omega arith in
    rw (k, drop-drop (length vs) o l) (sym (append_assoc (take o l) vs (drop (o + length vs) l)) ∙ sym (sets-eq vs l o h))

pub returns : goal.returns
returns c =
    let copied = copied_sets c.args.out.now c.args.word.now c.args.at c.requires in
    record { text = record { bytes = rw c.copy_from_slice.ensures.after copied; ends = refl }; within = omega arith }
