-- WHAT IS PROVED OF READING ONE PIXEL, in one place. `Fit eights bs` says that bs is sixteen bytes.
-- Assumes nothing.
use mathlib.Core.Path.{◌≡◌, refl, sym, ap, ◌∙◌}
use mathlib.Core.Logic.{◌↔◌}
use mathlib.Core.Bool.{Bool, true, false}
use mathlib.Core.List.{List, []}
use Prim.Native.Nat.{ℕ, ◌≤◌, ◌<◌}
use native.Mathlib.Omega.{arith}
use borrow.Author.Tests.{eq-eqb, eqb-false}
use lib.Dec.{eqb}
use lib.ListN.{get_or, replicate}
use Rattle.laws.specs.Digits.{Fit}
use Rattle.laws.specs.Refusals.{Given}
use Rattle.laws.specs.Tables.{pick, table, table_from}
use Rattle.laws.proofs.Joining.{table_same}
use Rattle.laws.proofs.Part.{get_d_table}
use Rattle.laws.proofs.Refusals.{Answers, accepted_when, answer_0, answer_not_0, answers, by_not_ltb, exactly, none, rule}
use Rattle.bcn_format.specs.Block.{eights}
use Rattle.bc7_format.specs.Lines.{pixel, pixels, shown}
use Rattle.bc7_format.specs.Modes.{mode_of}
use Rattle.bc7_format.specs.Places.{opened}
use Rattle.bc7_format.specs.Splits.{split_of}
use Rattle.bc7_format.proofs.Modes.{mode_le_8}
use Rattle.bc7_format.proofs.Reserved.{reserved_mode}
use Rattle.refusals.specs.Answers.{Answer}
use Rattle.std.specs.Prelude.{Result}
use Rattle.refusals.specs.declared.Refusal.{Refusal}
use Rattle.refusals.proofs.Answers.{answer_fixes}
use Rattle.pixel_rules.specs.Pixels.{no_pixel, pixel_read, pixel_refusal, pixel_rules}
use Rattle.pixel_rules.specs.Plain.{plain_pixel}
use Rattle.pixel_rules.specs.Promises.{ReadsPixel}
use Rattle.pixel_rules.proofs.Reading.{channel_shown}

-- 21 exactly for pixel 16 and up, and nothing else is refused
pixel_answers : (q : ℕ) → Answers (pixel_refusal q) (pixel_rules q)
unfolding pixel_refusal
pixel_answers q = answers (rule (by_not_ltb tt q 16) (λ h. none))

pub pixel_refused_when : (q n : ℕ) → (pixel_refusal q ≡ n) ↔ Given (pixel_rules q) n
pixel_refused_when q n = exactly (pixel_answers q) n

pub accepted_below_16 : (q : ℕ) → q < 16 → pixel_refusal q ≡ 0
accepted_below_16 q h = (accepted_when (pixel_answers q)).1 (h, tt)

pub refused_from_16 : (q : ℕ) → 16 ≤ q → pixel_refusal q ≡ 21
refused_from_16 q h = (pixel_refused_when q 21).1 (Given.here (λ l. let z : ⊥ = omega arith in z))

-- THE PAGE READ PLAINLY, bit by bit and letter by letter, is the format's pixel, of every block
pub plain_is_the_format : (bs : List ℕ) → Fit eights bs → (q c : ℕ) → q < 16 → c < 4 → plain_pixel bs q c ≡ pixel bs q c
unfolding plain_pixel pixel
plain_is_the_format bs sixteen q c hq hc = go (eqb (mode_of bs) 8) refl
  where
    go : (b : Bool) → eqb (mode_of bs) 8 ≡ b → plain_pixel bs q c ≡ pixel bs q c
    go true e = rw (e)
    go false e =
        let ne : mode_of bs ≡ 8 → ⊥ = eqb-false _ 8 e in
        rw e (channel_shown bs sixteen (omega (arith, mode_le_8 bs, ne)) q c hq hc ∙ rw e)

-- what is answered where it is accepted, and where not
pub pixel_accepted : (bs : List ℕ) (q : ℕ) → q < 16 → pixel_read bs q ≡ record { refusal = 0; value = table 4 (pixel bs q) }
unfolding pixel_read
pixel_accepted bs q h =
    λ j. record { refusal = accepted_below_16 q h j; value = answer_0 (table 4 (pixel bs q)) (replicate 4 0) (accepted_below_16 q h) j }

pub pixel_refused : (bs : List ℕ) (q : ℕ) → 16 ≤ q → pixel_read bs q ≡ record { refusal = 21; value = replicate 4 0 }
unfolding pixel_read
pixel_refused bs q h =
    λ j. record { refusal = refused_from_16 q h j; value = answer_not_0 (table 4 (pixel bs q)) (replicate 4 0) (refused_from_16 q h) j }

-- it is the pixel that the sixteen have there
pub pixel_of_the_sixteen : (bs : List ℕ) (q : ℕ) → q < 16 → get_or (pixels bs) q [] ≡ (pixel_read bs q).value
unfolding pixels
pixel_of_the_sixteen bs q h =
    get_d_table 16 (λ q. table 4 (pixel bs q)) [] q h ∙ sym (ap (λ (r : Answer (List ℕ)). r.value) (pixel_accepted bs q h))

-- a reserved block is accepted, and shows 0 0 0 0
pub reserved_accepted : (bs : List ℕ) (q : ℕ) → q < 16 → get_or bs 0 0 ≡ 0 → pixel_read bs q ≡ record { refusal = 0; value = replicate 4 0 }
unfolding pixel table table_from
reserved_accepted bs q h z =
    pixel_accepted bs q h
    ∙ ap (λ (l : List ℕ). record { refusal = 0; value = l })
    (table_same 0 4 (pixel bs q) (λ c. 0)
    (λ c hc. ap (λ (b : Bool). pick b 0 (shown (mode_of bs) (split_of bs) (opened bs) q c)) (eq-eqb (mode_of bs) 8 (reserved_mode bs z))))

-- DEMAND 1: any two answers that the promise admits coincide
pub determined_pixel : (bs : List ℕ) (q : ℕ) (a b : Result (List ℕ) Refusal) → ReadsPixel bs q a → ReadsPixel bs q b → a ≡ b
determined_pixel bs q a b p r = answer_fixes no_pixel a b (p ∙ sym r)
