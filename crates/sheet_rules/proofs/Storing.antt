-- A block that was stored leaves the head as it was.
-- Assumes nothing.
use mathlib.Core.Path.{◌≡◌, ◌∙◌, ap, sym}
use mathlib.Core.List.{List, ◌++◌}
use Prim.Native.Nat.{ℕ}
use lib.ListN.{get_or, take, drop, take-append-drop}
use lib.Seq.{take_at}
use Rattle.head_rules.specs.Geometry.{place_of}
use Rattle.laws.proofs.Over.{take_over}
use Rattle.head_rules.specs.Heads.{bytes_of_head, read_head}
use Rattle.head_rules.specs.Numbers.{Bytes}
use Rattle.head_rules.proofs.Orders.{blocks_behind_head}
use Rattle.head_rules.proofs.Theorems.{head_again, head_long, head_one_form}
use Rattle.bcn_format.specs.Block.{put_block}

-- the head stays: no byte of it is a block's
module _ (s : List ℕ) (bytes : Bytes s) (told : (read_head s).refusal ≡ 0) where
  front : take (read_head s).start s ≡ bytes_of_head (read_head s)
  front =
      let h = bytes_of_head (read_head s) in
      ap (take (read_head s).start) (head_one_form s bytes told).1
      ∙ take_at h (drop (read_head s).start s) (read_head s).start (sym (head_long s bytes told))

  pub head_kept : (b : ℕ) (block : List ℕ) → read_head (put_block s (place_of (read_head s) b) block) ≡ read_head s
  unfolding put_block
  head_kept b block =
      let t = put_block s (place_of (read_head s) b) block in
      let n = (read_head s).start in
      ap read_head (sym (take-append-drop n t) ∙ ap (λ (x : List ℕ). x ++ drop n t)
      (take_over s (place_of (read_head s) b) 16 (λ j. get_or block j 0) n (blocks_behind_head (read_head s) b) ∙ front))
      ∙ head_again s bytes told (drop n t)
