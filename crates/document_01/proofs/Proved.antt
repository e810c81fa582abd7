-- Document 01's blocks and numbers marked P: each question of the list is answered as expected.
-- Assumes nothing.
use mathlib.Core.Path.{◌≡◌, refl}
use mathlib.Core.List.{map}
use Rattle.laws.specs.Refusals.{first}
use Rattle.laws.specs.Tables.{table, table_from}
use Rattle.bcn_format.specs.Block.{bytes_of, number, trailing}
use Rattle.bc7_format.specs.Modes.{mode_of, endpoint_count, kind_of_mode, mode_row}
use Rattle.bcn_format.specs.Drawing.{drawn, promoted, weight_of, weights}
use Rattle.bc7_format.specs.Lines.{eight, anchor_of, index_set_of, has, index_place, laid, line_at, line_bits, line_of, means_stored, own, p_place, pixel}
use Rattle.bc7_format.specs.Lines.{pixels, rotated, shown, turned, value_place, with_line}
use Rattle.bcn_format.specs.Partitions.{anchors2, anchors3, digits, marks, strings2, strings3, subset2, subset3}
use Rattle.bc7_format.specs.Places.{at_place, block_of, list_of, opened, place_at, pos, width, widths}
use Rattle.bc7_format.specs.Splits.{split_at, split_of}
use Rattle.record_rules.specs.Records.{made, record_of, taken_apart}
use Rattle.head_rules.specs.Numbers.{groups, raised, read_groups, read_number}
use Rattle.line_rules.specs.Replace.{after, index_fits, line_fits, line_given, oriented, own_width, p_fits, put, refusal, refusal_in, replaced, value_fits}
use Rattle.document_01.specs.Claims.{answer, claims}

pub document_01_holds : map (λ c. answer c.question) claims ≡ map (λ c. c.expected) claims
unfolding table table_from digits marks strings2 strings3 subset2 subset3 anchors2 anchors3 weights weight_of drawn promoted eight mode_row kind_of_mode
    endpoint_count place_at pos width widths trailing number mode_of split_at split_of at_place opened has value_place p_place index_set_of index_place own
    line_of line_bits means_stored rotated line_at shown pixel pixels groups read_groups read_number raised taken_apart record_of made replaced after refusal
    refusal_in line_fits value_fits p_fits index_fits own_width line_given put oriented with_line laid turned anchor_of block_of list_of first bytes_of
document_01_holds = refl
