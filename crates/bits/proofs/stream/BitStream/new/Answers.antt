-- `stream::BitStream::new` meets its contract.
-- Assumes nothing.
use mathlib.Core.Path.{ap₂, ◌∙◌}
use Prim.Native.Nat.{ℕ, ◌+◌, ◌*◌, ◌^◌}
use borrow.Author.Rules.{rules}
use Rattle.bits.specs.Stream.{held}
use Rattle.bits.proofs.Bytes.{number_words}
use Rattle.bits.proofs.stream.BitStream.new.Goals as goal

pub returns : goal.returns
unfolding held
returns c =
    let words = ap₂ (λ (low high : ℕ). high * 2 ^ 64 + low) c.word.ensures c.word-2.ensures in
    record { of = words ∙ number_words c.args.block; stands = search rules }
