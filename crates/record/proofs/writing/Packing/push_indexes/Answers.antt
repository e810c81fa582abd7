-- `Packing::push_indexes` meets its contract.
-- Assumes nothing.
use mathlib.Core.Path.{◌≡◌, refl, ◌∙◌, ap}
use Prim.Native.Nat.{◌<◌}
use native.Mathlib.Omega.{arith}
use lib.ListN.{length}
use Rattle.record_rules.specs.Records.{says}
use Rattle.bc7_modes.specs.declared.ModeRow.{ModeRow}
use Rattle.bc7_modes.proofs.Bounds.{second_bits_is, small}
use Rattle.record.specs.Writing.{upto}
use Rattle.record.proofs.writing.Pushing.{of_mode_is, pixels, rise, second_none, set_asks, set_fits, set_next, set_none}
use borrow.Author.Rules.{rules}
use Rattle.bc7_format.specs.Places.{second_from}
use Rattle.record.proofs.writing.Packing.push_indexes.Goals as goal
use Rattle.record.proofs.writing.Packing.push_indexes.Goals.{After-push_set-one, Start}

long_1 : (s : Start) → length s.args.self.«record».first ≡ 16
long_1 s = search rules

long_2 : (s : Start) → length s.args.self.«record».second ≡ 16
long_2 s = search rules

first : (c : After-push_set-one) → c.push_set-one.result ≡ upto c.args.self.«record» second_from
unfolding says
first c =
    let long : length c.args.self.«record».first ≡ 16 = search rules in
    set_next c.args.self.packs.packs c.args.self.packs.anchors_are 0 (omega arith) (ap (λ (x : ModeRow). x.first) c.args.self.packs.packs.is)
    (omega (arith, (small (of_mode_is c.args.self.packs.packs)).least)) _ long (λ q h. refl) c.requires c.push_set-one.ensures

pub push_set-one-requires : goal.push_set-one-requires
unfolding says
push_set-one-requires c =
    let b = small (of_mode_is c.args.self.packs.packs) in
    let w = ap (λ (x : ModeRow). x.first) c.args.self.packs.packs.is in
    let l : 0 < c.args.self.row.first = omega (arith, b.least) in
    let ask = set_asks c.args.self.packs.packs c.args.self.packs.anchors_are 0 (omega arith) w l c.args.self.«record».first (long_1 (goal.at.push_set-one-requires c).Start) (λ q h. refl)
    c.requires in
    record {
      width = record { least = l; most = b.most };
      pixels = pixels c.args.self.packs.packs c.args.self.packs.anchors_are;
      rising = rise c.args.self.packs.packs c.args.self.packs.anchors_are;
      fits = set_fits c.args.self.packs.packs c.args.self.packs.anchors_are 0 (omega arith) w l
          c.args.self.«record».first (long_1 (goal.at.push_set-one-requires c).Start) (λ q h. refl);
      room = ask.0;
      holds = ask.1;
    }

pub returns-then-row-ne3 : goal.returns-then-row-ne3
returns-then-row-ne3 c =
    first (goal.at.returns-then-row-ne3 c).After-push_set-one ∙ set_none c.args.self.packs.packs
    (second_none c.args.self.packs.packs c.if-row-ne3.true)

pub push_set-requires : goal.push_set-requires
unfolding says
push_set-requires c =
    let b = small (of_mode_is c.args.self.packs.packs) in
    let w = ap (λ (x : ModeRow). x.second) c.args.self.packs.packs.is in
    let l = second_bits_is (of_mode_is c.args.self.packs.packs) c.if-row-ne3.false in
    let ask = set_asks c.args.self.packs.packs c.args.self.packs.anchors_are 1 (omega arith) w l c.args.self.«record».second (long_2 (goal.at.push_set-requires c).Start) (λ q h. refl)
    (first (goal.at.push_set-requires c).After-push_set-one) in
    record {
      width = record { least = l; most = b.second };
      pixels = pixels c.args.self.packs.packs c.args.self.packs.anchors_are;
      rising = rise c.args.self.packs.packs c.args.self.packs.anchors_are;
      fits = set_fits c.args.self.packs.packs c.args.self.packs.anchors_are 1 (omega arith) w l
          c.args.self.«record».second (long_2 (goal.at.push_set-requires c).Start) (λ q h. refl);
      room = ask.0;
      holds = ask.1;
    }

pub returns : goal.returns
unfolding says
returns c =
    set_next c.args.self.packs.packs c.args.self.packs.anchors_are 1 (omega arith) (ap (λ (x : ModeRow). x.second) c.args.self.packs.packs.is)
    (second_bits_is (of_mode_is c.args.self.packs.packs) c.if-row-ne3.false) _ (long_2 (goal.at.returns c).Start) (λ q h. refl)
    (first (goal.at.returns c).After-push_set-one) c.push_set.ensures
