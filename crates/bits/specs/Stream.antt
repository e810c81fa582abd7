-- What a reader holds, where it stands, and what a read answers.
-- Assumes nothing.
use Rattle.std.specs.Prelude.{◌≡◌, List, [], ◌∷◌, Result, Ok, Err, ℕ, ◌+◌, ◌-◌, ◌*◌, ◌/◌, ◌^◌, ◌≤◌, ◌<◌, ltb, get_or, take}
use Rattle.laws.specs.Digits.{split, total}
use Rattle.laws.specs.Tables.{pick}
use Rattle.bits.specs.declared.stream.BitStream.{BitStream}
use Rattle.bits.specs.declared.stream.Read.{Read}
use Rattle.bits.specs.declared.stream.ShortRead.{ShortRead}
use Rattle.bcn_format.specs.Block.{field}

-- the block's number
unfoldable pub held : BitStream → ℕ
held s = s.high * 2 ^ 64 + s.low

-- the stream s stands at bit a of n
pub record On (n a : ℕ) (s : BitStream) : Type 0 where
  pub of : held s ≡ n
  pub stands : s.at ≡ a

abbrev pub skipped : BitStream → ℕ → BitStream
skipped s n = record { low = s.low; high = s.high; at = s.at + n }

-- what a read gives that is accepted: the value v, that it started where the stream stands, how many bits remain behind its w, and the
-- stream there
abbrev pub answered : BitStream → ℕ → ℕ → Read
answered s w v = record { value = v; first = s.at; remaining = 128 - (s.at + w); stream = skipped s w }

-- THE ANSWER OF A READ that may be refused, which has a number, 0 where it is accepted, and all of a read, also where it is refused
pub record Answer : Type 0 where
  pub refusal : ℕ
  pub value : ℕ
  pub first : ℕ
  pub remaining : ℕ
  pub stream : BitStream

-- of a read that is accepted
abbrev pub accepted : Read → Answer
accepted r = record { refusal = 0; value = r.value; first = r.first; remaining = r.remaining; stream = r.stream }

abbrev pub short_number : ℕ
short_number = 22

-- and of one that is refused: no value, and everything as before it
abbrev pub short_read : BitStream → Answer
short_read s = record { refusal = short_number; value = 0; first = s.at; remaining = 128 - s.at; stream = s }

-- and of a result, by the stream that was asked
abbrev pub answer_of : BitStream → Result Read ShortRead → Answer
answer_of s (Ok r) = accepted r
answer_of s (Err short) = record { refusal = short_number; value = 0; first = short.first; remaining = short.remaining; stream = s }

-- the w bits of the number that come next
abbrev pub taken : BitStream → ℕ → Read
taken s w = answered s w (field (held s) s.at w)

-- A READ of w bits is refused where it wants more of the 128 than remain; else they are taken
unfoldable pub read_of : BitStream → ℕ → Answer
read_of s w = pick (ltb 128 (s.at + w)) (short_read s) (accepted (taken s w))

-- reads of these widths, one after the other
unfoldable pub reads_of : BitStream → List ℕ → List Answer
reads_of s [] = []
reads_of s (w ∷ ws) = read_of s w ∷ reads_of (read_of s w).stream ws

-- What a read promises that may be refused: all of its answer; and what follows from that, a value within its width.
pub record Reads (s : BitStream) (w : ℕ) (r : Result Read ShortRead) : Type 0 where
  pub same : answer_of s r ≡ read_of s w
  pub small : (answer_of s r).value < 2 ^ w

-- What is asked of a read that is never refused: ROOM for its bits, of which there are fewer than 64.
pub record Room (s : BitStream) (w : ℕ) : Type 0 where
  pub narrow : w < 64
  pub inside : s.at + w ≤ 128

-- And what it promises: all of its answer; and what follows, where the stream stands then.
pub record Taken (s : BitStream) (w : ℕ) (r : Read) : Type 0 where
  pub same : r ≡ taken s w
  pub small : r.value < 2 ^ w
  pub stands : r.stream.at ≡ s.at + w

-- Of reads at the widths ws from bit a of n on, the i-th stood behind those before it: it was accepted, it read the i-th digit of what stands
-- there, started behind the widths before its own, and left what remains behind it.
pub record Stood (n a : ℕ) (ws : List ℕ) (i : ℕ) (r : Answer) : Type 0 where
  pub accepted : r.refusal ≡ 0
  pub digit : r.value ≡ get_or (split ws (n / 2 ^ a)) i 0
  pub starts : r.first ≡ a + total (take i ws)
  pub leaves : r.remaining ≡ 128 - (a + total (take i ws) + get_or ws i 0)
