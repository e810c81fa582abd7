-- The bits of a half float: a sign, five bits of exponent, and ten of fraction. The exponent 31 is that of infinity, whose fraction is 0, and of
-- what is not a number, whose fraction isn't.
-- Assumes nothing.
use Rattle.std.specs.Prelude.{ℕ, ◌/◌, ◌%◌, ◌^◌}

abbrev pub sign_bit : ℕ → ℕ
sign_bit h = h / 2 ^ 15

abbrev pub exponent : ℕ → ℕ
exponent h = h / 2 ^ 10 % 2 ^ 5

abbrev pub fraction : ℕ → ℕ
fraction h = h % 2 ^ 10
