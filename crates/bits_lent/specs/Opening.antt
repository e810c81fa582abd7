-- What a lent read leaves, and how a mode 4 block opens: by the reads that give it.
-- Assumes nothing.
use Rattle.std.specs.Prelude.{◌≡◌, [], ◌∷◌, ℕ}
use Rattle.bits.specs.declared.stream.BitStream.{BitStream}
use Rattle.bits.specs.Stream.{Answer, On, Stood, answer_of, read_of, skipped}
use Rattle.bits_lent.specs.declared.Opening.{Opening}

-- x is answered as by the read r by value, and the caller's stream is t afterwards
pub record LentRead (r x : Answer) (t : BitStream) : Type 0 where
  pub answer : x ≡ r
  pub left : t ≡ r.stream

-- what three reads answer, past a marker of five bits, each asked of the stream that the one before it left
pub record Answers : Type 0 where
  pub rotation : Answer
  pub index_mode : Answer
  pub endpoints : Answer

unfoldable pub answers_of : BitStream → Opening → Answers
answers_of s o =
    let x = answer_of (skipped s 5) o.rotation in
    let y = answer_of x.stream o.index_mode in
    record { rotation = x; index_mode = y; endpoints = answer_of y.stream o.endpoints }

-- of two bits, one, and the forty-two of the eight endpoint values
unfoldable pub opening_at : BitStream → Answers
opening_at s =
    let x = read_of (skipped s 5) 2 in
    let y = read_of x.stream 1 in
    record { rotation = x; index_mode = y; endpoints = read_of y.stream 42 }

-- of a block each is accepted, and stood where the format has it: so what they answer hangs on no stream, and one at the block's first bit
-- is named to say it
pub record Opens (n : ℕ) (o : Opening) : Type 0 where
  pub start : BitStream
  pub first : On n 0 start
  pub rotation : Stood n 5 (2 ∷ 1 ∷ 42 ∷ []) 0 (answers_of start o).rotation
  pub index_mode : Stood n 5 (2 ∷ 1 ∷ 42 ∷ []) 1 (answers_of start o).index_mode
  pub endpoints : Stood n 5 (2 ∷ 1 ∷ 42 ∷ []) 2 (answers_of start o).endpoints
