-- What taking apart and packing promise, of records and of their bytes, under one name each: the contract and `determined-*` say the same.
-- Assumes nothing.
use Rattle.std.specs.Prelude.{◌≡◌, List, ℕ, Result}
use Rattle.record_rules.specs.declared.Record.{Record}
use Rattle.refusals.specs.Answers.{answer_of}
use Rattle.refusals.specs.declared.Refusal.{Refusal}
use Rattle.record_rules.specs.Records.{packed, taken_apart, zero_block, zero_record}
use Rattle.record_rules.specs.Wire.{packed_bytes, record_bytes}

abbrev pub Unpacks : List ℕ → Result Record Refusal → Type 0
Unpacks block answer = answer_of zero_record answer ≡ taken_apart block

abbrev pub Packs : Record → Result (List ℕ) Refusal → Type 0
Packs r answer = answer_of zero_block answer ≡ packed r

abbrev pub WritesRecord : Record → List ℕ → Type 0
WritesRecord r answer = answer ≡ record_bytes r

abbrev pub PacksBytes : List ℕ → Result (List ℕ) Refusal → Type 0
PacksBytes bytes answer = answer_of zero_block answer ≡ packed_bytes bytes
