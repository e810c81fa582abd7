-- WHAT THE CALLS ON HEADS ANSWER, as document 01 has it: the number of a refusal, 0 for none, and beside it what was read or written, zeros where
-- it is refused. The definitions speak of these records; a call answers a result, and what a result answers is said here.
-- Assumes nothing.
use Rattle.std.specs.Prelude.{ℕ, List, Result, Ok, Err, replicate}
use Rattle.refusals.specs.declared.Refusal.{Refusal}
use Rattle.refusals.specs.Answers.{number}
use Rattle.head_rules.specs.declared.Number as numbers
use Rattle.head_rules.specs.declared.HeadBytes as bytes
use Rattle.head_rules.specs.declared.Head as heads
use Rattle.head_rules.specs.declared.HeadReader as readers
use Rattle.head_rules.specs.declared.Stage.{Stage}
use Rattle.head_rules.specs.declared.Stage.TheVariants.{Ended}
use Rattle.head_rules.specs.declared.Form.{Form}
use Rattle.head_rules.specs.declared.Form.TheVariants.{Rows}
use Rattle.head_rules.specs.declared.ColourSpace.{ColourSpace}
use Rattle.head_rules.specs.declared.ColourSpace.TheVariants.{Unspecified}

-- a number, and the place behind its last byte
pub record Number : Type 0 where
  pub refusal : ℕ
  pub value : ℕ
  pub next : ℕ

abbrev pub number_known : numbers.Number → Number
number_known n = record { refusal = 0; value = n.value; next = n.next }

abbrev pub number_answered : Result numbers.Number Refusal → Number
number_answered (Ok n) = number_known n
number_answered (Err r) = record { refusal = number r; value = 0; next = 0 }

-- the bytes of a head and their count, with zeros behind
pub record HeadBytes : Type 0 where
  pub refusal : ℕ
  pub bytes : List ℕ
  pub count : ℕ

abbrev pub bytes_known : bytes.HeadBytes → HeadBytes
bytes_known b = record { refusal = 0; bytes = b.bytes; count = b.count }

abbrev pub bytes_answered : Result bytes.HeadBytes Refusal → HeadBytes
bytes_answered (Ok b) = bytes_known b
bytes_answered (Err r) = record { refusal = number r; bytes = replicate 7 0; count = 0 }

-- a head; of one that is refused form 1, zeros and unspecified are said
pub record Head : Type 0 where
  pub refusal : ℕ
  pub form : Form
  pub width : ℕ
  pub height : ℕ
  pub start : ℕ
  pub colour_space : ColourSpace

abbrev pub known : heads.Head → Head
known h = record { refusal = 0; form = h.form; width = h.width; height = h.height; start = h.start; colour_space = h.colour_space }

abbrev pub no_head : ℕ → Head
no_head r = record { refusal = r; form = Rows; width = 0; height = 0; start = 0; colour_space = Unspecified }

abbrev pub head_answered : Result heads.Head Refusal → Head
head_answered (Ok h) = known h
head_answered (Err r) = no_head (number r)

-- the reader of a head, which has ended where the head is refused
pub record HeadReader : Type 0 where
  pub stage : Stage
  pub low : ℕ
  pub groups : ℕ
  pub head : Head

abbrev pub reader_known : readers.HeadReader → HeadReader
reader_known r = record { stage = r.stage; low = r.low; groups = r.groups; head = known r.head }

abbrev pub reader_answered : Result readers.HeadReader Refusal → HeadReader
reader_answered (Ok r) = reader_known r
reader_answered (Err r) = record { stage = Ended; low = 0; groups = 0; head = no_head (number r) }
