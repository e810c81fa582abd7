-- The ways through `replace_line`: the refusals in order, and the line put in.
-- Assumes nothing.
use mathlib.Core.Path.{◌≡◌, refl, sym, ap, ap₂, ◌∙◌}
use mathlib.Core.Logic.{◌≢◌}
use mathlib.Core.Bool.{Bool, true, false, not}
use mathlib.Core.List.{List, []}
use Prim.Native.Nat.{ℕ, suc, ◌^◌, ◌<◌, ◌≤◌}
use native.Mathlib.Omega.{arith}
use borrow.Author.Tests.{eq-eqb, eqb-false, eqb-true, not-false, not-true}
use lib.Bits.{bit_and}
use lib.Dec.{eqb}
use lib.ListN.{length, get_or}
use Rattle.line.specs.declared.Opened.{Opened}
use Rattle.bits.specs.declared.stream.BitStream.{BitStream}
use Rattle.bc7_places.specs.declared.lines.LinePart.{LinePart}
use Rattle.line.specs.declared.parts.StoredLine.{StoredLine}
use Rattle.line_rules.specs.declared.Replacement.{Replacement}
use Rattle.bc7_modes.specs.declared.ModeRow.{ModeRow}
use Rattle.bc7_format.specs.declared.Split.{Split}
use Rattle.laws.specs.Digits.{Fit, join}
use Rattle.laws.specs.Refusals.{Given, here, then}
use Rattle.laws.specs.Tables.{both, pick, table}
use Rattle.laws.proofs.Part.{part_all}
use Rattle.laws.proofs.Refusals.{accepted_when, exactly}
use Rattle.laws.proofs.Tests.{both_true, no_both}
use Rattle.bcn_format.specs.Block.{bytes_of, eights, number}
use Rattle.bc7_format.specs.Modes.{mode_of, lines}
use Rattle.bc7_format.specs.Places.{opened}
use Rattle.bc7_format.specs.Splits.{split_of}
use Rattle.bc7_format.proofs.Reserved.{reserved_mode, zero_byte}
use Rattle.bits.specs.Stream.{held}
use Rattle.bcn_format.specs.Indexes.{index_widths}
use Rattle.bc7_modes.specs.Modes.{mode_row_of}
use Rattle.line_rules.specs.Acceptable.{WithinLine, call_rules}
use Rattle.line_rules.specs.Replace.{after, call_of, line_given, refusal, refusal_in, replaced, replaced_as}
use Rattle.line_rules.proofs.Accepting.{on_block_is, second}
use Rattle.line_rules.proofs.Blocks.{unchanged}
use Rattle.bc7_places.specs.Lines.{own_pixel}
use Rattle.line.specs.Parts.{parts_fit, stored_as}
use Rattle.line.proofs.parts.Given.{only_kept, parts_within, small_indexes, within_kept, within_parts}
use Rattle.line.proofs.parts.Parts.{IsPart}
use Rattle.line.proofs.parts.Storing.{is_stored, mask_above}
use Rattle.line.proofs.parts.Words.{Small, mask_part, word, word_fits}
use Rattle.line.specs.Fields.{LineReady, line_put}
use Rattle.line.proofs.fields.Whole.{line_block, line_ready}
use Rattle.line.specs.Opened.{IsOpened}
use Rattle.line.proofs.Opening.{good, line_is}

module _ (bs : List ℕ) (sixteen : Fit eights bs) (l : ℕ) (g : Replacement) (long : length g.indexes ≡ 16) where
  abbrev m : ℕ
  m = mode_of bs

  abbrev s : Split
  s = split_of bs

  -- a refused call hands back the block
  refused_with_is : {n : ℕ} → Given (call_rules bs (call_of l g)) (suc n) → replaced_as (suc n) bs ≡ replaced bs l g
  unfolding replaced
  refused_with_is {n} a =
      let e : refusal bs (call_of l g) ≡ suc n = (exactly (on_block_is bs sixteen (call_of l g)) (suc n)).1 a in
      sym (ap₂ replaced_as e (unchanged bs (call_of l g) (λ z. let y : ⊥ = omega arith in y)))

  pub way_1 : m ≡ 8 → replaced_as 1 bs ≡ replaced bs l g
  way_1 e = refused_with_is (here (λ n. n (zero_byte bs sixteen e)))

  module _ (low : m < 8) where
    nonzero : get_or bs 0 0 ≢ 0
    nonzero z = let e : m ≡ 8 = reserved_mode bs z in omega arith

    pub way_2 : lines m ≤ l → replaced_as 2 bs ≡ replaced bs l g
    way_2 h = refused_with_is (then nonzero (here (λ b. omega arith)))

    -- the indexes as a word
    indexes_table : table 16 (λ q. get_or g.indexes q 0) ≡ g.indexes
    indexes_table = sym (part_all {d = 0} {P = λ k. Unit {0}} (record { long = long; done = λ k h t. refl }) (λ k h. tt))

    module _ (hl : l < lines m) {o : Opened} (i : IsOpened bs l o) where
      abbrev x : LinePart
      x = o.part

      pub is : IsPart m s l x
      is = line_is bs sixteen low l hl i

      pub way_3 : parts_fit x g ≡ false → replaced_as 3 bs ≡ replaced bs l g
      way_3 e = refused_with_is (then nonzero (then hl (here (λ w. no_both (within_parts is g w) e))))

      module _ (fits : parts_fit x g ≡ true) where
        abbrev v : ℕ → ℕ
        v q = get_or g.indexes q 0

        small : Small x.index v
        small = small_indexes is g fits

        pub indexes_fit : Fit (index_widths x.index []) g.indexes
        indexes_fit = rw indexes_table at (word_fits x.index v small)

        module _ {wd mask : ℕ} (ew : wd ≡ join (index_widths x.index []) g.indexes) (em : mask ≡ word x.index (mask_part x)) where
          word_is : wd ≡ word x.index v
          word_is = ew ∙ ap (join (index_widths x.index [])) (sym indexes_table)

          pub way_3_others : eqb (bit_and wd mask) wd ≡ false → replaced_as 3 bs ≡ replaced bs l g
          way_3_others e =
              refused_with_is (then nonzero (then hl (here (λ w. eqb-false (bit_and wd mask) wd e (rw (word_is, em) (within_kept is g small w))))))

          module _ (alone : eqb (bit_and wd mask) wd ≡ true) where
            kept : (q : ℕ) → q < 16 → pick (own_pixel x.pixels q) (v q) 0 ≡ v q
            kept = only_kept is g small (rw (word_is, em) at (eqb-true (bit_and wd mask) wd alone))

            within : WithinLine m s l (line_given g)
            within = parts_within is g fits kept

            abbrev differ : Bool
            differ = both (eqb m 1) (not (eqb (get_or g.p 0 0) (get_or g.p 1 0)))

            pub way_4 : differ ≡ true → replaced_as 4 bs ≡ replaced bs l g
            unfolding line_given
            way_4 e =
                let p = both_true (eqb m 1) _ e in
                refused_with_is (then nonzero (then hl (then within (here (λ f. eqb-false _ _ (not-true _ p.1) (f (eqb-true _ 1 p.0)))))))

            pub below_mask : wd ≤ mask
            below_mask = rw (word_is, em) (mask_above is g small kept)

            module _ (same : differ ≡ false) {st : StoredLine} (es : st ≡ stored_as x g wd mask) where
              accepted : refusal bs (call_of l g) ≡ 0
              unfolding line_given
              accepted =
                  (accepted_when (on_block_is bs sixteen (call_of l g))).1
                  (nonzero, (hl, (within, ((λ z. eqb-true _ _ (not-false _ (second (eqb m 1) _ (eq-eqb m 1 z) same))), tt))))

              in_mode : refusal_in m s l (line_given g) ≡ 0
              unfolding refusal
              in_mode = accepted

              pub ready : {row : ModeRow} → row ≡ mode_row_of m → LineReady o.stream m row l x mask st
              unfolding opened
              ready er =
                  line_ready (good bs sixteen low) l (line_given g) in_mode is (is_stored is g small kept (rw (word_is, em) at es)) (number bs)
                  (λ y h. refl) em o.stream i.holds i.stands er

              pub way_0 : {row : ModeRow} → row ≡ mode_row_of m → (r : BitStream) → r.low < 2 ^ 64 → r.high < 2 ^ 64
                  → held r ≡ line_put o.stream m row l x mask st
                  → replaced_as 0 (bytes_of (held r)) ≡ replaced bs l g
              unfolding opened replaced after
              way_0 er r hlo hhi e =
                  rw accepted
                  (ap (replaced_as 0)
                  (line_block (good bs sixteen low) l (line_given g) in_mode is (is_stored is g small kept (rw (word_is, em) at es)) (number bs)
                  (λ y h. refl) em o.stream i.holds i.stands er r hlo hhi e))
