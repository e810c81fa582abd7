-- THE WAY BACK: what is answered where a channel's float has the bits, and where none has.
-- Assumes nothing.
use mathlib.Core.Path.{◌≡◌, refl, sym, ◌∙◌}
use mathlib.Core.Bool.{Bool, true, false}
use mathlib.Core.List.{List, [], ◌∷◌}
use Prim.Native.Nat.{ℕ, ◌<◌}
use native.Mathlib.Omega.{arith}
use borrow.Author.Tests.{eq-eqb, eqb-false, eqb-true, ne_eqb}
use lib.Dec.{eqb}
use lib.ListN.{get_or, length}
use Rattle.laws.specs.Counting.{count}
use Rattle.laws.specs.Refusals.{Given}
use Rattle.laws.proofs.Counting.{at_kept, count_lt, kept_long}
use Rattle.laws.proofs.Refusals.{Answers, accepted_when, answers, by_test, exactly, none, rule}
use Rattle.float_rules.specs.Floats.{IsChannel, back_refusal, back_rules, channel_bits, channel_found, channels_with, no_channel}
use Rattle.float_rules.proofs.Channels.{bits_differ}

no_first : (l : List ℕ) → length l ≡ 0 → get_or l 0 0 ≡ 0
no_first [] e = refl
no_first (x ∷ l) e = absurd (let never : ⊥ = omega arith in never)

module _ (b : ℕ) where
  abbrev has : ℕ → Bool
  has c = eqb (channel_bits c) b

  long : length (channels_with b) ≡ count 256 has
  unfolding channels_with
  long = kept_long 256 has

  some : IsChannel b → 0 < length (channels_with b)
  some i = omega (arith, long, count_lt has i.channel 256 i.below (eq-eqb (channel_bits i.channel) b i.same))

  -- the first of them is one
  pub record First : Type 0 where
    pub below : get_or (channels_with b) 0 0 < 256
    pub same : channel_bits (get_or (channels_with b) 0 0) ≡ b

  first_one : 0 < length (channels_with b) → First
  unfolding channels_with
  first_one h = let k = at_kept 256 has 0 (omega (arith, long)) in record { below = k.under; same = eqb-true _ b k.passes }

  is_channel : 0 < length (channels_with b) → IsChannel b
  is_channel h = let k = first_one h in record { channel = get_or (channels_with b) 0 0; below = k.below; same = k.same }

  pub back_answers : Answers (back_refusal b) (back_rules b)
  unfolding back_refusal
  back_answers =
      answers (rule
      (by_test tt (eqb (length (channels_with b)) 0)
      (λ e. let ne : length (channels_with b) ≡ 0 → ⊥ = eqb-false _ 0 e in is_channel (omega (arith, ne)))
      (λ i. ne_eqb (length (channels_with b)) 0 (λ z. let never : ⊥ = omega (arith, some i) in never)))
      (λ i. none))

  pub found_is : (i : IsChannel b) → channel_found b ≡ record { refusal = 0; value = i.channel }
  unfolding channel_found
  found_is i =
      let k = first_one (some i) in
      let same : get_or (channels_with b) 0 0 ≡ i.channel = bits_differ _ i.channel k.below i.below (k.same ∙ sym i.same) in
      λ j. record { refusal = (accepted_when back_answers).1 (i, tt) j; value = same j }

  pub none_is : (IsChannel b → ⊥) → channel_found b ≡ no_channel
  unfolding channel_found
  none_is never =
      let empty : length (channels_with b) ≡ 0 = go (eqb (length (channels_with b)) 0) refl in
      λ j. record { refusal = (exactly back_answers 23).1 (Given.here never) j; value = no_first (channels_with b) empty j }
    where
      go : (t : Bool) → eqb (length (channels_with b)) 0 ≡ t → length (channels_with b) ≡ 0
      go true e = eqb-true _ 0 e
      go false e = let ne : length (channels_with b) ≡ 0 → ⊥ = eqb-false _ 0 e in absurd (never (is_channel (omega (arith, ne))))
