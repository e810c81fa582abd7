-- Calls on a sheet, one after another.
-- Assumes nothing.
use Rattle.std.specs.Prelude.{ℕ, ◌≡◌, List, length}
use Rattle.line_rules.specs.declared.Replacement.{Replacement}
use Rattle.laws.specs.Calls as calls
use Rattle.head_rules.specs.Geometry.{whole_length}
use Rattle.head_rules.specs.Heads.{read_head}
use Rattle.head_rules.specs.Numbers.{Bytes}
use Rattle.line_rules.specs.Replace.{Call, call_of}
use Rattle.sheet_rules.specs.Sheets.{sheet_after, sheet_refusal}

-- a call of `replace_in_sheet`
pub record SheetCall : Type 0 where
  pub block : ℕ
  pub line : ℕ
  pub given : Replacement

-- what it is answered, and the sheet it leaves
abbrev pub refusal_on : List ℕ → SheetCall → ℕ
refusal_on s c = sheet_refusal (read_head s) s c.block c.line c.given

abbrev pub sheet_with : List ℕ → SheetCall → List ℕ
sheet_with s c = sheet_after (read_head s) s c.block c.line c.given

-- the sheet after a list of calls
abbrev pub sheet_with_all : List ℕ → List SheetCall → List ℕ
sheet_with_all s cs = calls.run sheet_with s cs

-- the same call on the block that it names, and those of a list that name block b
abbrev pub on_block : SheetCall → Call
on_block c = call_of c.line c.given

abbrev pub calls_on : ℕ → List SheetCall → List Call
calls_on b cs = calls.calls_on (λ (c : SheetCall). c.block) on_block b cs

-- a sheet with all its blocks: its head is not refused, with 7, 8, 18 or 9, and its length not with 10
pub record WholeSheet (s : List ℕ) : Type 0 where
  pub bytes : Bytes s
  pub told : (read_head s).refusal ≡ 0
  pub long : length s ≡ whole_length (read_head s)
