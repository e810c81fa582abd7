-- Numbers of four bytes, and the header: a number that was written is read back.
-- Assumes nothing.
use mathlib.Core.Path.{◌≡◌, refl, ◌∙◌, ap, ap₂, sym, subst}
use mathlib.Core.List.{List, ◌++◌}
use Prim.Native.Nat.{ℕ, ◌+◌, ◌*◌, ◌/◌, ◌%◌, ◌^◌, ◌<◌}
use native.Mathlib.Omega.{arith}
use lib.ListN.{length, get_or, get_or-append}
use Rattle.head_rules.specs.Answers.{Head}
use Rattle.laws.specs.Digits.{evenly, join}
use Rattle.laws.specs.Tables.{table}
use Rattle.laws.proofs.Digits.{join_split}
use Rattle.laws.proofs.Evenly.{evenly_same}
use Rattle.laws.proofs.Joining.{table_same}
use Rattle.laws.proofs.Part.{get_d_table, length_table}
use Rattle.laws.proofs.Rows.{split_table, total_same}
use Rattle.dds_rules.specs.Header.{byte_of, bytes_in, canonical_header, header_length, header_number, number_at}

-- the digits of a number in n fields of k bits make it again
evenly_digits : (n k x : ℕ) → x < 2 ^ (n * k) → evenly n k (λ i. x / 2 ^ (i * k) % 2 ^ k) ≡ x
unfolding evenly
evenly_digits n k x h =
    ap (join (table n (λ i. k)))
    (table_same 0 n _ _ (λ i l. ap (λ (s : ℕ). x / 2 ^ s % 2 ^ k) (sym (total_same (λ i. k) k i (λ j m. refl)))) ∙ sym (split_table n (λ i. k) x))
    ∙ join_split (table n (λ i. k)) x (subst (λ (s : ℕ). x < 2 ^ s) (sym (total_same (λ i. k) k n (λ j m. refl))) h)

pub header_long : (h : Head) → length (canonical_header h) ≡ header_length
unfolding canonical_header
header_long h = length_table header_length (bytes_in (table 37 (header_number h)))

module _ (h : Head) (rest : List ℕ) where
  byte_back : (i j : ℕ) → i < 37 → j < 4 → get_or (canonical_header h ++ rest) (4 * i + j) 0 ≡ byte_of (header_number h i) j
  unfolding canonical_header
  byte_back i j l b =
      let at : (4 * i + j) / 4 ≡ i = omega arith in
      let in_it : (4 * i + j) % 4 ≡ j = omega arith in
      let F : ℕ → ℕ = bytes_in (table 37 (header_number h)) in
      get_or-append (table header_length F) rest 0 (4 * i + j) (omega (arith, length_table header_length F))
      ∙ get_d_table header_length F 0 (4 * i + j) (omega arith)
      ∙ ap₂ (λ (m n : ℕ). byte_of (get_or (table 37 (header_number h)) m 0) n) at in_it
      ∙ ap (λ (n : ℕ). byte_of n j) (get_d_table 37 (header_number h) 0 i l)

  pub number_back : (i : ℕ) → i < 37 → header_number h i < 2 ^ 32 → number_at (canonical_header h ++ rest) (4 * i) ≡ header_number h i
  unfolding number_at
  number_back i l small = evenly_same 4 8 _ _ (λ j b. byte_back i j l b) ∙ evenly_digits 4 8 (header_number h i) small
