-- `pack_bytes`: what packing the record answers, but for a byte that names no kind and one that says what the kind hasn't got.
-- Assumes nothing.
use mathlib.Core.Path.{◌≡◌, ap, sym, ◌∙◌}
use mathlib.Core.Logic.{◌≢◌}
use mathlib.Core.List.{List}
use Prim.Native.Nat.{ℕ}
use borrow.Author.Rules.{rules}
use denote.Enum.Bare.{same_true, same_false}
use native.Mathlib.Omega.{arith}
use lib.Dec.{eqb}
use lib.ListN.{get_or}
use Rattle.std.specs.Prelude.{Result, Ok, Err}
use Rattle.refusals.specs.Answers.{Answer, answer_of, number, number_of}
use Rattle.refusals.proofs.Answers.{number_injective}
use Rattle.refusals.specs.contracts.Refusal.{the_type}
use Rattle.refusals.specs.declared.Refusal.{Refusal}
use Rattle.refusals.specs.declared.Refusal.TheVariants.{WrongKind}
use Rattle.record_rules.specs.declared.Record.{Record}
use Rattle.laws.specs.Tables.{both}
use Rattle.bc7_format.specs.Splits.{index_mode}
use Rattle.record_rules.specs.Records.{pack_refusal, packed, zero_block}
use Rattle.record_rules.specs.Wire.{record_of_bytes, spelt, split_byte}
use Rattle.record_rules.proofs.WirePacking.{another_kind, as_record, more_said, no_kind}
use Rattle.record_bytes.proofs.pack_bytes.Goals as goal
use Rattle.record_bytes.proofs.pack_bytes.Goals.{After-pack-packed, After-spells, in-Err+else-eq, in_default}

pub returns-then-bytes-gt3 : goal.returns-then-bytes-gt3
returns-then-bytes-gt3 c = no_kind _ c.if-bytes-gt3.true

-- an answer of packing that isn't WRONG_KIND has another number
module _ (r : Record) where
  other_number : (a : Result (List ℕ) Refusal) → answer_of zero_block a ≡ packed r → (a ≡ Err WrongKind → ⊥) → pack_refusal r ≢ 5
  unfolding packed
  other_number (Ok block) e other z = let never : ⊥ = omega (arith, ap (λ (a : Answer (List ℕ)). a.refusal) e, z) in never
  other_number (Err refusal) e other z = other (ap Err (number_injective (ap (λ (a : Answer (List ℕ)). a.refusal) e ∙ z)))

-- the bytes that were given, and what the record that they say packs to
abbrev given : After-pack-packed → List ℕ
given c = c.args.bytes

answered : (c : After-pack-packed) → answer_of zero_block c.pack-packed.result ≡ packed (record_of_bytes (given c))
answered c = c.pack-packed.ensures ∙ ap packed c.record_of_bytes-record.ensures

pub returns-then-eq : goal.returns-then-eq
unfolding packed
returns-then-eq c =
    let at = (goal.at.returns-then-eq c).After-pack-packed in
    let kind : c.in-Err.refusal ≡ WrongKind = same_true the_type (search rules) _ _ (sym c.eq.ensures ∙ c.if-eq.true) in
    let same = sym (ap (answer_of zero_block) c.in-Err.is) ∙ answered at in
    same ∙ another_kind _ at.if-bytes-gt3.false (sym (ap (λ (a : Answer (List ℕ)). a.refusal) same) ∙ ap number kind)

-- where the record's answer isn't 5: whether the bytes spell the split
abbrev packing : After-spells → After-pack-packed
packing c = c.before.before

answer_is : (c : After-spells) → c.match-packed.packed ≡ (packing c).pack-packed.result
answer_is c = elim c.match-packed.branch [ in-Err+else-eq w ↦ w.packed-is ∙ sym w.in-Err.is | in_default w ↦ w.packed-is ]

not_5 : (c : After-spells) → pack_refusal (record_of_bytes (given (packing c))) ≢ 5
not_5 c =
    other_number _ _ (answered (packing c))
    (elim c.match-packed.branch [
      | in-Err+else-eq w ↦ λ e. same_false the_type w.in-Err.refusal WrongKind (sym w.eq.ensures ∙ w.if-eq.false) (number_injective (ap number_of (sym w.in-Err.is ∙ e)))
      | in_default w ↦ λ e. w.in_default.not-Err WrongKind e
    ])

spelt_is : (c : After-spells) → c.spells.result ≡ spelt (given (packing c))
unfolding spelt
spelt_is c =
    let bs = given (packing c) in
    c.spells.ensures
    ∙ ap (λ (r : Record). both (eqb (get_or bs 2 0) (split_byte r.split)) (eqb (get_or bs 3 0) (index_mode r.split)))
    (packing c).record_of_bytes-record.ensures

pub returns-then-spells : goal.returns-then-spells
returns-then-spells c =
    let at = packing c.before in
    ap (answer_of zero_block) (answer_is c.before) ∙ answered at
    ∙ as_record _ at.if-bytes-gt3.false (not_5 c.before) (sym (spelt_is c.before) ∙ c.if-spells.true)

pub returns : goal.returns
returns c = more_said _ (packing c.before).if-bytes-gt3.false (not_5 c.before) (sym (spelt_is c.before) ∙ c.if-spells.false)
