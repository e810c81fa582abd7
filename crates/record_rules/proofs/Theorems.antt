-- DEMAND 2, and when taking apart and packing refuse, in one place. `Fit eights bs` says that bs is sixteen bytes, `Shaped r` that
-- the record's arrays have their lengths.
-- Assumes nothing.
use mathlib.Core.Path.{◌≡◌, sym, ap, ◌∙◌}
use mathlib.Core.Logic.{◌≢◌, ◌↔◌, ⊎_elim}
use mathlib.Core.List.{List}
use Prim.Native.Nat.{ℕ, ◌<◌}
use native.Mathlib.Nat.{eq-zero-or-pos}
use native.Mathlib.Omega.{arith}
use borrow.Author.Tests.{ne_eqb}
use lib.ListN.{get_or}
use Rattle.record_rules.specs.declared.Record.{Record}
use Rattle.std.specs.Prelude.{Result}
use Rattle.refusals.specs.declared.Refusal.{Refusal}
use Rattle.refusals.proofs.Answers.{answer_fixes}
use Rattle.refusals.specs.Answers.{Answer}
use Rattle.laws.specs.Digits.{Fit}
use Rattle.laws.specs.Refusals.{Given}
use Rattle.laws.proofs.Refusals.{alone, exactly, fails, holds}
use Rattle.bcn_format.specs.Block.{eights}
use Rattle.bc7_format.specs.Modes.{mode_of}
use Rattle.bc7_format.specs.Lines.{pixel, shown}
use Rattle.bc7_format.specs.Places.{block_of, opened}
use Rattle.bc7_format.specs.Splits.{split_of}
use Rattle.bc7_format.specs.WellFormed.{WellFormed}
use Rattle.bc7_format.proofs.Lens.{shown_ext}
use Rattle.bc7_format.proofs.Opening.{block_opened, mode_block, opened_block, opened_good, split_block}
use Rattle.bc7_format.proofs.Reserved.{open_mode, reserved_mode}
use Rattle.record_rules.specs.Answers.{apart_rules, pack_rules}
use Rattle.record_rules.specs.Records.{Shaped, made, packed, packed_as, record_of, says, taken_apart, unpacked_as, zero_block, zero_record}
use Rattle.record_rules.proofs.Answering.{packing}
use Rattle.record_rules.proofs.Packing.{good_accepted, good_packs, made_ext, made_says, packs_good, record_says, apart_open, apart_reserved}
use Rattle.record_rules.specs.Promises.{Packs, Unpacks}

-- taking apart gives its refusal number exactly when document 01 says
pub apart_refused_when : (bs : List ℕ) → Fit eights bs → (n : ℕ) → ((taken_apart bs).refusal ≡ n) ↔ Given (apart_rules bs) n
apart_refused_when bs h = exactly (alone (⊎_elim
    (λ z. fails (λ other. other z) (ap (λ (a : Answer Record). a.refusal) (apart_reserved bs (reserved_mode bs z))) (λ z. omega arith))
    (λ p. let other : get_or bs 0 0 ≢ 0 = λ z. omega arith in
    holds other (ap (λ (a : Answer Record). a.refusal) (apart_open bs (open_mode bs h other))))
    (eq-zero-or-pos (get_or bs 0 0))))

-- taking apart refuses a block exactly when it is reserved, and then answers 1 and the zero record
pub refused_when_reserved : (bs : List ℕ) → Fit eights bs → (taken_apart bs ≡ unpacked_as 1 zero_record) ↔ (get_or bs 0 0 ≡ 0)
refused_when_reserved bs h = (
  λ e. ⊎_elim (λ z. z) (λ p. absurd
      (let n = ap (λ (a : Answer Record). a.refusal) (sym e ∙ apart_open bs (open_mode bs h (λ z. omega arith))) in let y : ⊥ = omega (arith, n) in y))
      (eq-zero-or-pos (get_or bs 0 0)),
  λ z. apart_reserved bs (reserved_mode bs z),
)

-- every other block is accepted
pub apart_when_open : (bs : List ℕ) → Fit eights bs → get_or bs 0 0 ≢ 0 → taken_apart bs ≡ unpacked_as 0 (record_of bs)
apart_when_open bs h n = apart_open bs (open_mode bs h n)

-- packing what taking apart answers gives the block back
pub pack_unpack : (bs : List ℕ) → Fit eights bs → get_or bs 0 0 ≢ 0 → packed (taken_apart bs).value ≡ packed_as 0 bs
unfolding record_of
pack_unpack bs h n =
    let o : mode_of bs < 8 = open_mode bs h n in
    ap packed (ap (λ (a : Answer Record). a.value) (apart_open bs o)) ∙ good_packs (opened_good bs h o) ∙ ap (packed_as 0) (block_opened bs h o)

-- taking apart what packing accepted gives the record back
pub unpack_pack : (r : Record) → Shaped r → (packed r).refusal ≡ 0 → taken_apart (packed r).value ≡ unpacked_as 0 r
unfolding packed record_of
unpack_pack r sh e =
    let g : WellFormed r.mode r.split (says r) = packs_good r e in
    let bs : List ℕ = block_of r.mode r.split (says r) in
    rw e (apart_open bs (rw (mode_block g) g.mode)
    ∙ ap (unpacked_as 0) (rw (mode_block g, split_block g) (made_ext r.mode r.split (opened bs) (says r) (opened_block g) ∙ made_says r sh)))

-- a record is accepted exactly if what it says is what a block holds
pub well_formed_is_accepted : (r : Record) → ((packed r).refusal ≡ 0) ↔ WellFormed r.mode r.split (says r)
unfolding packed
well_formed_is_accepted r = (packs_good r, good_accepted r)

-- each refusal number of packing is given exactly when document 01 says (`pack_rules` has the words)
pub packing_refused_when : (r : Record) (n : ℕ) → ((packed r).refusal ≡ n) ↔ Given (pack_rules r) n
unfolding packed
packing_refused_when r = exactly (packing r)

-- drawing the record of a block gives the block's pixels
pub record_draws_block : (bs : List ℕ) → Fit eights bs → get_or bs 0 0 ≢ 0 → (q c : ℕ)
    → shown (record_of bs).mode (record_of bs).split (says (record_of bs)) q c ≡ pixel bs q c
unfolding record_of made pixel
record_draws_block bs h n q c =
    let o : mode_of bs < 8 = open_mode bs h n in
    rw (ne_eqb (mode_of bs) 8 (λ z. let y : ⊥ = omega arith in y))
    (shown_ext (mode_of bs) (split_of bs) (says (record_of bs)) (opened bs) q c (record_says bs h o))

-- any two answers that a promise admits are the same
pub determined_unpack : (bs : List ℕ) (a b : Result Record Refusal) → Unpacks bs a → Unpacks bs b → a ≡ b
determined_unpack bs a b p q = answer_fixes zero_record a b (p ∙ sym q)

pub determined_pack : (r : Record) (a b : Result (List ℕ) Refusal) → Packs r a → Packs r b → a ≡ b
determined_pack r a b p q = answer_fixes zero_block a b (p ∙ sym q)
