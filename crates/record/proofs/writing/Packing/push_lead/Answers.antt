-- `Packing::push_lead` meets its contract.
-- Assumes nothing.
use mathlib.Core.Path.{◌≡◌, refl}
use native.Mathlib.Omega.{arith}
use Rattle.record.specs.Writing.{upto}
use Rattle.record.proofs.writing.Pushing.{begun, lead_said, lead_wide, marker_said, marker_wide, place_asks, place_next}
use Rattle.record.proofs.writing.Packing.push_lead.Goals as goal
use Rattle.record.proofs.writing.Packing.push_lead.Goals.{After-push, After-push-2, After-push-3}

-- one place after the other
one : (c : After-push) → c.push.result ≡ upto c.args.self.«record» 1
one c =
    let s = c in
    place_next s.args.self.packs.packs 0 (omega arith) (begun s.args.self.packs.packs c.new.ensures) (marker_said s.args.self.packs.packs) (marker_wide s.args.self.packs.packs) c.push.ensures

two : (c : After-push-2) → c.push-2.result ≡ upto c.args.self.«record» 2
two c =
    let s = c in
    place_next s.args.self.packs.packs 1 (omega arith) (one c.before.before) (lead_said s.args.self.packs.packs c.partition_of.ensures refl refl).0
    (lead_wide s.args.self.packs.packs).0 c.push-2.ensures

three : (c : After-push-3) → c.push-3.result ≡ upto c.args.self.«record» 3
three c =
    let s = c in
    place_next s.args.self.packs.packs 2 (omega arith) (two c.before.before) (lead_said s.args.self.packs.packs refl c.rotation_of.ensures refl).1
    (lead_wide s.args.self.packs.packs).1 c.push-3.ensures

pub overflow_shl-mode : goal.overflow_shl-mode
overflow_shl-mode c = omega (arith, c.args.self.packs.packs.low)

pub overflow_add-mode : goal.overflow_add-mode
overflow_add-mode c = omega (arith, c.args.self.packs.packs.low)

pub push-requires : goal.push-requires
push-requires c =
    let s = c in
    place_asks s.args.self.packs.packs 0 (omega arith) (begun s.args.self.packs.packs c.new.ensures) (marker_said s.args.self.packs.packs) (marker_wide s.args.self.packs.packs)

pub push-requires-2 : goal.push-requires-2
push-requires-2 c =
    let s = c in
    place_asks s.args.self.packs.packs 1 (omega arith) (one c.before) (lead_said s.args.self.packs.packs c.partition_of.ensures refl refl).0 (lead_wide s.args.self.packs.packs).0

pub push-requires-3 : goal.push-requires-3
push-requires-3 c =
    let s = c in
    place_asks s.args.self.packs.packs 2 (omega arith) (two c.before) (lead_said s.args.self.packs.packs refl c.rotation_of.ensures refl).1 (lead_wide s.args.self.packs.packs).1

pub push-requires-4 : goal.push-requires-4
push-requires-4 c =
    let s = c in
    place_asks s.args.self.packs.packs 3 (omega arith) (three c.before) (lead_said s.args.self.packs.packs refl refl c.index_mode_of.ensures).2 (lead_wide s.args.self.packs.packs).2

pub returns : goal.returns
returns c =
    let s = c in
    place_next s.args.self.packs.packs 3 (omega arith) (three c.before.before) (lead_said s.args.self.packs.packs refl refl c.index_mode_of.ensures).2
    (lead_wide s.args.self.packs.packs).2 c.push-4.ensures
