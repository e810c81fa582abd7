-- A SECOND SOURCE FOR THE PARTITIONS: the format's tables as they are printed in public, each partition as one number, and the anchors
-- by subset, not by pixel as in document 002 (that of subset 0 is pixel 0). The strings say the same.
-- Assumes nothing.
use mathlib.Core.Path.{◌≡◌, refl}
use mathlib.Core.List.{List, [], ◌∷◌, map}
use Prim.Native.Nat.{ℕ}
use lib.ListN.{replicate}
use Rattle.laws.specs.Digits.{split}
use Rattle.laws.specs.Tables.{table, table_from}
use Rattle.bcn_format.specs.Partitions.{anchor2, anchor3, anchors2, anchors3, digits, how_many, marks, strings2, strings3, subset2, subset3}

-- the subsets of the pixels 0 to 15 as a number, pixel 0 lowest: a bit for each of two subsets, two bits of three
unfoldable pub printed2 : List ℕ
printed2 =
    0xCCCC ∷ 0x8888 ∷ 0xEEEE ∷ 0xECC8 ∷ 0xC880 ∷ 0xFEEC ∷ 0xFEC8 ∷ 0xEC80 ∷
    0xC800 ∷ 0xFFEC ∷ 0xFE80 ∷ 0xE800 ∷ 0xFFE8 ∷ 0xFF00 ∷ 0xFFF0 ∷ 0xF000 ∷
    0xF710 ∷ 0x008E ∷ 0x7100 ∷ 0x08CE ∷ 0x008C ∷ 0x7310 ∷ 0x3100 ∷ 0x8CCE ∷
    0x088C ∷ 0x3110 ∷ 0x6666 ∷ 0x366C ∷ 0x17E8 ∷ 0x0FF0 ∷ 0x718E ∷ 0x399C ∷
    0xAAAA ∷ 0xF0F0 ∷ 0x5A5A ∷ 0x33CC ∷ 0x3C3C ∷ 0x55AA ∷ 0x9696 ∷ 0xA55A ∷
    0x73CE ∷ 0x13C8 ∷ 0x324C ∷ 0x3BDC ∷ 0x6996 ∷ 0xC33C ∷ 0x9966 ∷ 0x0660 ∷
    0x0272 ∷ 0x04E4 ∷ 0x4E40 ∷ 0x2720 ∷ 0xC936 ∷ 0x936C ∷ 0x39C6 ∷ 0x639C ∷
    0x9336 ∷ 0x9CC6 ∷ 0x817E ∷ 0xE718 ∷ 0xCCF0 ∷ 0x0FCC ∷ 0x7744 ∷ 0xEE22 ∷
    []

unfoldable pub printed3 : List ℕ
printed3 =
    0xAA685050 ∷ 0x6A5A5040 ∷ 0x5A5A4200 ∷ 0x5450A0A8 ∷ 0xA5A50000 ∷ 0xA0A05050 ∷ 0x5555A0A0 ∷ 0x5A5A5050 ∷
    0xAA550000 ∷ 0xAA555500 ∷ 0xAAAA5500 ∷ 0x90909090 ∷ 0x94949494 ∷ 0xA4A4A4A4 ∷ 0xA9A59450 ∷ 0x2A0A4250 ∷
    0xA5945040 ∷ 0x0A425054 ∷ 0xA5A5A500 ∷ 0x55A0A0A0 ∷ 0xA8A85454 ∷ 0x6A6A4040 ∷ 0xA4A45000 ∷ 0x1A1A0500 ∷
    0x0050A4A4 ∷ 0xAAA59090 ∷ 0x14696914 ∷ 0x69691400 ∷ 0xA08585A0 ∷ 0xAA821414 ∷ 0x50A4A450 ∷ 0x6A5A0200 ∷
    0xA9A58000 ∷ 0x5090A0A8 ∷ 0xA8A09050 ∷ 0x24242424 ∷ 0x00AA5500 ∷ 0x24924924 ∷ 0x24499224 ∷ 0x50A50A50 ∷
    0x500AA550 ∷ 0xAAAA4444 ∷ 0x66660000 ∷ 0xA5A0A5A0 ∷ 0x50A050A0 ∷ 0x69286928 ∷ 0x44AAAA44 ∷ 0x66666600 ∷
    0xAA444444 ∷ 0x54A854A8 ∷ 0x95809580 ∷ 0x96969600 ∷ 0xA85454A8 ∷ 0x80959580 ∷ 0xAA141414 ∷ 0x96960000 ∷
    0xAAAA1414 ∷ 0xA05050A0 ∷ 0xA0A5A5A0 ∷ 0x96000000 ∷ 0x40804080 ∷ 0xA9A8A9A8 ∷ 0xAAAAAA44 ∷ 0x2A4A5254 ∷
    []

-- the anchor of the second subset of two, and of the second and the third of three
unfoldable pub second_of_two : List ℕ
second_of_two =
    15 ∷ 15 ∷ 15 ∷ 15 ∷ 15 ∷ 15 ∷ 15 ∷ 15 ∷ 15 ∷ 15 ∷ 15 ∷ 15 ∷ 15 ∷ 15 ∷ 15 ∷ 15 ∷
    15 ∷ 2 ∷ 8 ∷ 2 ∷ 2 ∷ 8 ∷ 8 ∷ 15 ∷ 2 ∷ 8 ∷ 2 ∷ 2 ∷ 8 ∷ 8 ∷ 2 ∷ 2 ∷
    15 ∷ 15 ∷ 6 ∷ 8 ∷ 2 ∷ 8 ∷ 15 ∷ 15 ∷ 2 ∷ 8 ∷ 2 ∷ 2 ∷ 2 ∷ 15 ∷ 15 ∷ 6 ∷
    6 ∷ 2 ∷ 6 ∷ 8 ∷ 15 ∷ 15 ∷ 2 ∷ 2 ∷ 15 ∷ 15 ∷ 15 ∷ 15 ∷ 15 ∷ 2 ∷ 2 ∷ 15 ∷
    []

unfoldable pub second_of_three : List ℕ
second_of_three =
    3 ∷ 3 ∷ 15 ∷ 15 ∷ 8 ∷ 3 ∷ 15 ∷ 15 ∷ 8 ∷ 8 ∷ 6 ∷ 6 ∷ 6 ∷ 5 ∷ 3 ∷ 3 ∷
    3 ∷ 3 ∷ 8 ∷ 15 ∷ 3 ∷ 3 ∷ 6 ∷ 10 ∷ 5 ∷ 8 ∷ 8 ∷ 6 ∷ 8 ∷ 5 ∷ 15 ∷ 15 ∷
    8 ∷ 15 ∷ 3 ∷ 5 ∷ 6 ∷ 10 ∷ 8 ∷ 15 ∷ 15 ∷ 3 ∷ 15 ∷ 5 ∷ 15 ∷ 15 ∷ 15 ∷ 15 ∷
    3 ∷ 15 ∷ 5 ∷ 5 ∷ 5 ∷ 8 ∷ 5 ∷ 10 ∷ 5 ∷ 10 ∷ 8 ∷ 13 ∷ 15 ∷ 12 ∷ 3 ∷ 3 ∷
    []

unfoldable pub third_of_three : List ℕ
third_of_three =
    15 ∷ 8 ∷ 8 ∷ 3 ∷ 15 ∷ 15 ∷ 3 ∷ 8 ∷ 15 ∷ 15 ∷ 15 ∷ 15 ∷ 15 ∷ 15 ∷ 15 ∷ 8 ∷
    15 ∷ 8 ∷ 15 ∷ 3 ∷ 15 ∷ 8 ∷ 15 ∷ 8 ∷ 3 ∷ 15 ∷ 6 ∷ 10 ∷ 15 ∷ 15 ∷ 10 ∷ 8 ∷
    15 ∷ 3 ∷ 15 ∷ 10 ∷ 10 ∷ 8 ∷ 9 ∷ 10 ∷ 6 ∷ 15 ∷ 8 ∷ 15 ∷ 3 ∷ 6 ∷ 6 ∷ 8 ∷
    15 ∷ 3 ∷ 15 ∷ 15 ∷ 15 ∷ 15 ∷ 15 ∷ 15 ∷ 15 ∷ 15 ∷ 15 ∷ 15 ∷ 3 ∷ 15 ∷ 15 ∷ 8 ∷
    []

pub strings_are_as_printed : (map digits strings2 ≡ map (split (replicate 16 1)) printed2)
    × (map digits strings3 ≡ map (split (replicate 16 2)) printed3)
    × (table 64 (λ a. anchor2 a 1) ≡ second_of_two) × (table 64 (λ a. anchor3 a 1) ≡ second_of_three)
    × (table 64 (λ a. anchor3 a 2) ≡ third_of_three)
unfolding table table_from anchors2 anchors3 subset2 subset3 digits marks strings2 strings3 printed2 printed3 second_of_two second_of_three
    third_of_three
strings_are_as_printed = (refl, refl, refl, refl, refl)

-- of three-subset partition 2 the anchors by pixel, and their subsets: the second lies in subset 2, the third in subset 1
pub partition_2_of_three : anchors3 2 ∷ map (subset3 2) (anchors3 2) ∷ [] ≡ (0 ∷ 8 ∷ 15 ∷ []) ∷ (0 ∷ 2 ∷ 1 ∷ []) ∷ []
unfolding anchors3 subset3 strings3 digits marks
partition_2_of_three = refl

-- how many pixels of a row of subsets lie in each
pub counted : map (λ (k : ℕ). how_many k (0 ∷ 2 ∷ 1 ∷ 2 ∷ [])) (0 ∷ 1 ∷ 2 ∷ 3 ∷ []) ≡ 1 ∷ 1 ∷ 2 ∷ 0 ∷ []
counted = refl
