-- For every input the machine, fed with it as it asks, says `listing` of the input, and nothing else; and document 01's example.
-- Assumes nothing.
use mathlib.Core.Path.{◌≡◌, refl, ◌∙◌, ap, sym, subst}
use mathlib.Core.List.{List, [], ◌∷◌, ◌++◌}
use mathlib.Core.Logic.{◌⊎◌}
use Prim.Native.Nat.{ℕ, ◌<◌}
use native.Mathlib.Nat.{le_refl}
use lib.ListN.{replicate, take}
use Rattle.laws.specs.Refusals.{first}
use Rattle.laws.specs.Tables.{implies, table, table_from}
use Rattle.bc7_format.specs.Modes.{mode_of, endpoint_count, kind_of_mode, mode_row}
use Rattle.bcn_format.specs.Block.{block_at, number, trailing}
use Rattle.bcn_format.specs.Drawing.{drawn, promoted, weight_of, weights}
use Rattle.bc7_format.specs.Lines.{eight, index_set_of, has, index_place, line_at, line_bits, line_of, means_stored, own, p_place, pixel, pixels, rotated}
use Rattle.bc7_format.specs.Lines.{shown, value_place}
use Rattle.bcn_format.specs.Partitions.{anchors2, anchors3, digits, marks, strings2, strings3, subset2, subset3}
use Rattle.bc7_format.specs.Places.{at_place, opened, place_at, pos, width, widths}
use Rattle.bc7_format.specs.Splits.{split_at, split_of}
use Rattle.head_rules.specs.declared.Form.TheVariants.{Rows, Tiles}
use Rattle.head_rules.specs.Answers.{Head}
use Rattle.head_rules.specs.Geometry.{blocks_of}
use Rattle.head_rules.specs.Colours.{colour_refusal}
use Rattle.head_rules.specs.Geometry.{number_at}
use Rattle.head_rules.specs.Heads.{colour_in, form_in, form_number, form_of, head_refusal_up_to, height_in, old_head, old_limit, read_head, read_head_up_to}
use Rattle.head_rules.specs.Heads.{size_refusal_up_to, width_in}
use Rattle.head_rules.proofs.Theorems.{old_console_knows_no_tiles, old_console_refuses, stored_heads_keep}
use Rattle.head_rules.specs.Numbers.{raised, read_groups, read_number}
use Rattle.laws.specs.Text.{ascii, decimal, digits_in, newline, refused_text}
use Rattle.listing_rules.specs.Text.{block_text, channels, opacity_mark, sheet_text}
use Rattle.opacity_rules.specs.Opacity.{is_visible, opaque, opaque_in, passes}
use Rattle.listing_rules.specs.declared.Machine as machines
use Rattle.listing_rules.specs.Listing.{block_listed, blocks_listing, blocks_text, listed, listing}
use Rattle.listing_rules.specs.Promises.{GoesOn, Says, SaysListing, SaysNext, Wants}
use Rattle.listing_rules.specs.Machine.{Machine, Run, at_start, machine_known, over, text_of, round, rounds_of, wanted_of}
use Rattle.listing_rules.proofs.Rounds.{ready_start, rest_start, runs}

-- a run over each input, and what it says
pub machine_lists : (s : List ℕ) → Run at_start s (listing (read_head s) s)
machine_lists s = subst (λ (t : List ℕ). Run at_start s t) (rest_start s) (runs (rounds_of at_start) at_start s (le_refl _) ready_start)

-- there is no other
pub one_run : {m : Machine} {s t u : List ℕ} → Run m s t → Run m s u → t ≡ u
one_run (over e) (over f) = refl
one_run (over e) (round n r) = absurd (n e)
one_run (round n r) (over e) = absurd (n e)
one_run {m} {s} (round n r) (round o q) = ap (λ (t : List ℕ). text_of m (take (wanted_of m) s) ++ t) (one_run r q)

-- MAPS UP TO 16,384, AND TILES: what a console of before accepted is listed as it was; of any other sheet of form 1 that is accepted now such
-- a console prints `refused 9` and nothing more, and of any sheet of form 2 `refused 8`
pub stored_sheets_list : (s : List ℕ) → (old_head s).refusal ≡ 0 → listing (read_head s) s ≡ listing (old_head s) s
stored_sheets_list s e = ap (λ (h : Head). listing h s) (stored_heads_keep s e)

pub old_console_lists_nothing : (s : List ℕ) → (read_head s).refusal ≡ 0 → (read_head s).form ≡ Rows
    → (old_limit < (read_head s).width) ⊎ (old_limit < (read_head s).height) → listing (old_head s) s ≡ refused_text 9
unfolding listing
old_console_lists_nothing s e f above = rw (old_console_refuses s e f above)

pub old_console_lists_no_tiles : (s : List ℕ) → (form_in s).value ≡ form_number Tiles → listing (old_head s) s ≡ refused_text 8
unfolding listing
old_console_lists_no_tiles s e = rw (old_console_knows_no_tiles s e)

-- any two results that a promise admits coincide: the output whole, and the place behind the text
one_text : (text before : List ℕ) (at : ℕ) (a b : List ℕ) (m n : ℕ) → Says text before at a m → Says text before at b n → (a ≡ b) × (m ≡ n)
one_text text before at a b m n p q = (p.bytes ∙ sym q.bytes, p.ends ∙ sym q.ends)

pub determined_list : (s : Machine) (came before : List ℕ) (at : ℕ) (a b : List ℕ) (m n : ℕ)
    → SaysNext s came before at a m → SaysNext s came before at b n → (a ≡ b) × (m ≡ n)
determined_list s came = one_text (text_of s came)

pub determined_list_sheet : (sheet before : List ℕ) (at : ℕ) (a b : List ℕ) (m n : ℕ)
    → SaysListing sheet before at a m → SaysListing sheet before at b n → (a ≡ b) × (m ≡ n)
determined_list_sheet sheet = one_text (listing (read_head sheet) sheet)

pub determined_next : (m : machines.Machine) (came : List ℕ) (a b : machines.Machine) → GoesOn (machine_known m) came (machine_known a)
    → GoesOn (machine_known m) came (machine_known b) → a ≡ b
determined_next m came a b p q = ap as_code (p ∙ sym q)
  where
    as_code : Machine → machines.Machine
    as_code x =
        let r = x.reader in
        let h = r.head in
        record {
          phase = x.phase;
          reader = record {
            stage = r.stage;
            low = r.low;
            groups = r.groups;
            head = record { form = h.form; width = h.width; height = h.height; start = h.start; colour_space = h.colour_space };
          };
          from = x.from;
        }

pub determined_wanted : (m : Machine) (a b : ℕ) → Wants m a → Wants m b → a ≡ b
determined_wanted m a b p q = p ∙ sym q

-- document 01's example: block D and a reserved block
pub document_lists : let s : List ℕ = 0x01 ∷ 0x05 ∷ 0x04 ∷ (0x60 ∷ (replicate 5 0 ++ (0xFC ∷ 0x03 ∷ replicate 24 0))) in
    listing (read_head s) s
    ≡ (ascii "sheet 5 4" ++ (newline ∷ [])) ++ ((ascii "0 5 255 0 0 0 -" ++ (newline ∷ [])) ++ (ascii "1 8 0 0 0 0 -" ++ (newline ∷ [])))
unfolding listing blocks_listing listed blocks_text block_listed read_head_up_to head_refusal_up_to form_in width_in height_in read_number read_groups raised
    first size_refusal_up_to blocks_of block_at sheet_text block_text channels opacity_mark decimal digits_in ascii table table_from digits marks strings2
    strings3 subset2 subset3 anchors2 anchors3 weights weight_of drawn promoted eight mode_row kind_of_mode endpoint_count place_at pos width widths
    trailing number mode_of split_at split_of at_place opened has value_place p_place index_set_of index_place own line_of line_bits means_stored rotated
    line_at shown pixel pixels implies is_visible passes opaque opaque_in colour_in form_of colour_refusal number_at
document_lists = refl
