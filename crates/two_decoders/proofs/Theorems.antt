-- THE TWO DECODERS AGREE. `DecodesBlock` is the contract of `decode_bc7_block`, `ReadsPixel` that of `pixel_of`; whatever the two answer under
-- them, they answer the same, for every block and every pixel number below 16; and the published Rust draws it too.
-- Assumes nothing.
use mathlib.Core.Path.{◌≡◌, ap, sym, ◌∙◌}
use mathlib.Core.List.{List, []}
use Prim.Native.Nat.{ℕ, ◌<◌}
use lib.ListN.{get_or}
use Rattle.laws.specs.Digits.{Fit}
use Rattle.laws.specs.Tables.{table}
use Rattle.laws.proofs.Joining.{table_same}
use Rattle.bcn_format.specs.Block.{eights}
use Rattle.bc7_format.specs.Lines.{pixel, pixels}
use Rattle.bc7.specs.Promises.{DecodesBlock}
use Rattle.pixel_rules.specs.Pixels.{no_pixel, pixel_read}
use Rattle.refusals.specs.Answers.{Answer, answer_of, number_of}
use Rattle.refusals.specs.declared.Refusal.{Refusal}
use Rattle.refusals.proofs.Answers.{answer_fixes}
use Rattle.std.specs.Prelude.{Result, Ok}
use Rattle.pixel_rules.specs.Promises.{ReadsPixel}
use Rattle.pixel_rules.proofs.Theorems.{pixel_accepted, pixel_of_the_sixteen}
use Rattle.published.specs.Bc7.{decode_bc7_block}
use Rattle.published.proofs.Theorems.{published_is_the_format}

-- what both say of a pixel
pub record Agree (sixteen : List (List ℕ)) (q : ℕ) (one : Result (List ℕ) Refusal) : Type 0 where
  pub accepted : number_of one ≡ 0
  pub same : one ≡ Ok (get_or sixteen q [])

pub decoders_agree : (block : List ℕ) (sixteen : List (List ℕ)) (q : ℕ) (one : Result (List ℕ) Refusal)
    → DecodesBlock block sixteen → ReadsPixel block q one → q < 16 → Agree sixteen q one
decoders_agree block sixteen q one d r h =
    let shown : pixel_read block q ≡ record { refusal = 0; value = get_or sixteen q [] } =
    λ j. record {
      refusal = (pixel_accepted block q h j).refusal;
      value = (sym (pixel_of_the_sixteen block q h) ∙ sym (ap (λ (l : List (List ℕ)). get_or l q []) d)) j;
    } in
    let is : one ≡ Ok (get_or sixteen q []) = answer_fixes no_pixel one (Ok (get_or sixteen q [])) (r ∙ shown) in
    record { accepted = ap number_of is; same = is }

-- the sixteen read one by one are the decoder's sixteen
pub sixteen_one_by_one : (block : List ℕ) (sixteen : List (List ℕ)) (one : ℕ → Result (List ℕ) Refusal)
    → DecodesBlock block sixteen → ((q : ℕ) → q < 16 → ReadsPixel block q (one q)) → table 16 (λ q. (answer_of no_pixel (one q)).value) ≡ sixteen
unfolding pixels
sixteen_one_by_one block sixteen one d r =
    table_same [] 16 (λ q. (answer_of no_pixel (one q)).value) (λ q. table 4 (pixel block q))
    (λ q h. ap (λ (a : Answer (List ℕ)). a.value) (r q h ∙ pixel_accepted block q h))
    ∙ sym d

-- what our decoder answers for sixteen bytes is what the Rust's steps draw
pub decoder_is_published : (block : List ℕ) → Fit eights block → (sixteen : List (List ℕ)) → DecodesBlock block sixteen
    → sixteen ≡ decode_bc7_block block
decoder_is_published block bytes sixteen d = d ∙ sym (published_is_the_format block bytes)
