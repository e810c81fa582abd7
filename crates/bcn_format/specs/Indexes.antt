-- Sixteen indexes of one width, and how they are stored where the anchors have a bit less.
-- Assumes nothing.
use Rattle.std.specs.Prelude.{◌≡◌, List, [], ◌∷◌, ℕ, zero, suc, ◌-◌, ◌*◌, ◌≤◌, ◌<◌, length}
use Rattle.laws.specs.Digits.{join, split}
use Rattle.laws.specs.Tables.{pick, table}
use Rattle.bcn_format.specs.Block.{field}
use Rattle.bcn_format.specs.Partitions.{among}

-- indexes have one to four bits
pub record IndexWidth (w : ℕ) : Type 0 where
  pub least : 0 < w
  pub most : w ≤ 4

-- how many bits the index of pixel i has, of indexes of w bits with these anchors
abbrev pub index_width : ℕ → List ℕ → ℕ → ℕ
index_width w an i = pick (among i an) (w - 1) w

unfoldable pub index_widths : ℕ → List ℕ → List ℕ
index_widths w an = table 16 (index_width w an)

-- the anchors of indexes with one fix-up or two; any other number stands for none, which leaves pixel 0 alone
abbrev pub anchors_with : ℕ → ℕ → ℕ → List ℕ
anchors_with zero p q = 0 ∷ []
anchors_with (suc zero) p q = 0 ∷ p ∷ []
anchors_with (suc (suc zero)) p q = 0 ∷ p ∷ q ∷ []
anchors_with (suc (suc (suc k))) p q = 0 ∷ []

abbrev pub anchor_count : ℕ → ℕ
anchor_count k = length (anchors_with k 0 0)

-- so many fix-ups are pixels, each above the one before
pub record OneFixup (p : ℕ) : Type 0 where
  pub above : 0 < p
  pub pixel : p < 16

pub record TwoFixups (p q : ℕ) : Type 0 where
  pub above : 0 < p
  pub rising : p < q
  pub pixel : q < 16

pub record Rising (k p q : ℕ) : Type 0 where
  pub two : k ≡ 1 → OneFixup p
  pub three : k ≡ 2 → TwoFixups p q

-- the indexes that stand in n at these widths, at w bits each: an anchor's top bit is zero
unfoldable pub expanded : ℕ → List ℕ → ℕ → ℕ
expanded w an n = join (index_widths w []) (split (index_widths w an) n)

-- part i of a number of parts of w bits
abbrev pub part : ℕ → ℕ → ℕ → ℕ
part x w i = field x (i * w) w
