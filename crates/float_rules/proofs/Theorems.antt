-- WHAT IS PROVED OF FLOATS, in one place.
-- Assumes nothing.
use mathlib.Core.Path.{◌≡◌, refl, sym, ap, ◌∙◌, subst}
use mathlib.Core.Logic.{◌↔◌, ◌≢◌}
use mathlib.Core.Bool.{Bool, false, true, not}
use mathlib.Core.List.{List}
use Prim.Native.Nat.{ℕ, ◌%◌, ◌^◌, ◌<◌}
use native.Mathlib.Nat.{mod-le}
use native.Mathlib.Omega.{arith}
use borrow.Author.Tests.{ltb-true, ne_eqb}
use lib.Dec.{T}
use lib.Ieee.{Float, binary32, div, fits, is_nan, lt, nan, nan_bits, of_bits, of_int, to_bits}
use lib.Ieee.Bits.{nan_bits_above, nan_bits_is, of_bits-to_bits, to_bits-of_bits}
use lib.Ieee.Fits.{div-fits}
use lib.IntN.{pos}
use lib.ListN.{get_or, length}
use Rattle.std.specs.Prelude.{Result, ⊤}
use Rattle.refusals.specs.Answers.{Answer, number_of}
use Rattle.refusals.specs.declared.Refusal.{Refusal}
use Rattle.refusals.proofs.Answers.{answer_fixes, number_fixes}
use Rattle.float_rules.specs.declared.FloatPixel.{FloatPixel}
use Rattle.laws.specs.Refusals.{Given}
use Rattle.laws.proofs.Part.{get_d_table, length_table}
use Rattle.laws.proofs.Refusals.{Answers, accepted_when, answer_0, answers, by_not_eqb, exactly, none, rule}
use Rattle.float_rules.specs.Floats.{back_refusal, back_rules, channel_bits, channel_float, channel_found, channel_found_of, floats_of}
use Rattle.float_rules.specs.Floats.{no_channel, floats_after, floats_refusal, floats_rules}
use Rattle.float_rules.specs.Promises.{FindsChannel, FindsChannelOf, FloatsChannel, FloatsPixel, FloatsRow}
use Rattle.float_rules.proofs.Back.{back_answers, found_is, none_is}
use Rattle.float_rules.proofs.Channels as channels

-- THE BITS OF A CHANNEL are those of one f32 division of the channel by 255
pub bits_of_one_division : (c : ℕ) → channel_bits c ≡ to_bits binary32 (div binary32 (of_int binary32 (pos c)) (of_int binary32 (pos 255)))
unfolding channel_bits channel_float
bits_of_one_division c = refl

pub zero_gives_zero : channel_bits 0 ≡ 0
zero_gives_zero = channels.zero_is

pub last_gives_one : channel_bits 255 ≡ 0x3f80_0000
last_gives_one = channels.one_is

-- NO TWO CHANNELS SHARE A FLOAT, nor its bits
pub no_bits_shared : (c d : ℕ) → c < 256 → d < 256 → channel_bits c ≡ channel_bits d → c ≡ d
no_bits_shared = channels.bits_differ

pub no_float_shared : (c d : ℕ) → c < 256 → d < 256 → channel_float c ≡ channel_float d → c ≡ d
unfolding channel_bits
no_float_shared c d h k e = channels.bits_differ c d h k (ap (to_bits binary32) e)

-- they rise with the channel, by value and by bits
pub floats_rise : (c d : ℕ) → c < d → d < 256 → T (lt (channel_float c) (channel_float d))
floats_rise = channels.floats_rise

pub bits_rise : (c d : ℕ) → c < d → d < 256 → channel_bits c < channel_bits d
bits_rise = channels.bits_rise

-- 23 exactly when no channel's float has the bits, and nothing else is refused
pub back_refused_when : (b n : ℕ) → (back_refusal b ≡ n) ↔ Given (back_rules b) n
back_refused_when b = exactly (back_answers b)

-- BOTH ROUND TRIPS: back of there is the channel, and there of an accepted back is the bits
pub back_of_there : (c : ℕ) → c < 256 → channel_found (channel_bits c) ≡ record { refusal = 0; value = c }
back_of_there c h = found_is (channel_bits c) (record { channel = c; below = h; same = refl })

pub there_of_back : (b : ℕ) → back_refusal b ≡ 0 → ((channel_found b).value < 256) × (channel_bits (channel_found b).value ≡ b)
there_of_back b e =
    let i = ((accepted_when (back_answers b)).0 e).0 in
    let same = ap (λ (a : Answer ℕ). a.value) (found_is b i) in
    (subst (λ (c : ℕ). c < 256) (sym same) i.below, ap channel_bits same ∙ i.same)

-- so of two patterns that are accepted the channels differ
pub one_pattern_each : (a b : ℕ) → back_refusal a ≡ 0 → back_refusal b ≡ 0 → (channel_found a).value ≡ (channel_found b).value → a ≡ b
one_pattern_each a b p q e = sym (there_of_back a p).1 ∙ ap channel_bits e ∙ (there_of_back b q).1

-- whatever lies above 1.0 as a pattern is refused: with it what has the sign set, as -0.0, the infinities, and every NaN
pub above_one_refused : (b : ℕ) → 0x3f80_0000 < b → channel_found b ≡ no_channel
above_one_refused b h =
    none_is b (λ i. let never : ⊥ = omega (arith, i.same, channels.up_to_one i.channel i.below) in never)

pub nan_bits_refused : (b : ℕ) → nan_bits binary32 b ≡ true → channel_found b ≡ no_channel
nan_bits_refused b e =
    let above : 0x7f80_0000 < b % 2 ^ 31 = ltb-true 0x7f80_0000 (b % 2 ^ 31) (sym (nan_bits_above binary32 b) ∙ e) in
    above_one_refused b (omega (arith, mod-le b (2 ^ 31)))

-- FROM A FLOAT: a NaN is refused, and any other is answered as its bits are
pub nan_refused : channel_found_of nan ≡ no_channel
unfolding channel_found_of is_nan
nan_refused = refl

pub as_its_bits : (x : Float) → is_nan x ≡ false → channel_found_of x ≡ channel_found (to_bits binary32 x)
unfolding channel_found_of
as_its_bits x e = rw e

-- and every pattern as the float that it is of, a NaN's too
pub bits_as_float : (b : ℕ) → b < 2 ^ 32 → channel_found b ≡ channel_found_of (of_bits binary32 b)
unfolding channel_found_of
bits_as_float b h = go (nan_bits binary32 b) refl
  where
    go : (t : Bool) → nan_bits binary32 b ≡ t → channel_found b ≡ channel_found_of (of_bits binary32 b)
    go true e = nan_bits_refused b e ∙ rw (sym (nan_bits_is binary32 b) ∙ e)
    go false e =
        let n : is_nan (of_bits binary32 b) ≡ false = sym (nan_bits_is binary32 b) ∙ e in
        let same : to_bits binary32 (of_bits binary32 b) ≡ b = to_bits-of_bits binary32 b h (subst (λ (t : Bool). T (not t)) (sym n) tt) in
        sym (as_its_bits (of_bits binary32 b) n ∙ ap channel_found same)

-- both round trips of floats
pub back_of_float : (c : ℕ) → c < 256 → channel_found_of (channel_float c) ≡ record { refusal = 0; value = c }
unfolding channel_bits
back_of_float c h = as_its_bits (channel_float c) (is_false _ (channels.no_nan c h)) ∙ back_of_there c h
  where
    is_false : (t : Bool) → T (not t) → t ≡ false
    is_false true h = absurd h
    is_false false h = refl

pub float_of_back : (x : Float) → T (fits binary32 x) → (channel_found_of x).refusal ≡ 0 → channel_float (channel_found_of x).value ≡ x
unfolding channel_found_of channel_found channel_bits channel_float
float_of_back x f e = go (is_nan x) refl
  where
    go : (t : Bool) → is_nan x ≡ t → channel_float (channel_found_of x).value ≡ x
    go true n =
        let q : channel_found_of x ≡ no_channel = rw n in
        absurd (let never : ⊥ = omega (arith, ap (λ (a : Answer ℕ). a.refusal) q) in never)
    go false n =
        let q = as_its_bits x n in
        let there = there_of_back (to_bits binary32 x) (ap (λ (a : Answer ℕ). a.refusal) (sym q) ∙ e) in
        let c = (channel_found (to_bits binary32 x)).value in
        ap (λ (a : Answer ℕ). channel_float a.value) q
        ∙ sym (of_bits-to_bits binary32 (channel_float c) (div-fits binary32 (of_int binary32 (pos c)) (of_int binary32 (pos 255))))
        ∙ ap (of_bits binary32) there.1 ∙ of_bits-to_bits binary32 x f

-- A ROW: 11 exactly where there isn't one float for each byte; channel by channel where it is accepted, and left as it was where it is not
row_answers : (n room : ℕ) → Answers (floats_refusal n room) (floats_rules n room)
unfolding floats_refusal
row_answers n room = answers (rule (by_not_eqb tt room n) (λ e. none))

pub row_refused_when : (n room k : ℕ) → (floats_refusal n room ≡ k) ↔ Given (floats_rules n room) k
row_refused_when n room = exactly (row_answers n room)

pub row_accepted : (pixels : List ℕ) (before : List Float) → length before ≡ length pixels
    → floats_after pixels before ≡ floats_of (length pixels) pixels
unfolding floats_after
row_accepted pixels before e = answer_0 _ _ ((accepted_when (row_answers (length pixels) (length before))).1 (e, tt))

pub row_each : (pixels : List ℕ) (before : List Float) → length before ≡ length pixels
    → (length (floats_after pixels before) ≡ length pixels)
    × ((i : ℕ) → i < length pixels → get_or (floats_after pixels before) i nan ≡ channel_float (get_or pixels i 0))
unfolding floats_of
row_each pixels before e =
    let float : ℕ → Float = λ i. channel_float (get_or pixels i 0) in
    rw (row_accepted pixels before e) (length_table (length pixels) float, get_d_table (length pixels) float nan)

pub row_left : (pixels : List ℕ) (before : List Float) → floats_refusal (length pixels) (length before) ≢ 0 → floats_after pixels before ≡ before
unfolding floats_after
row_left pixels before ne = rw (ne_eqb _ 0 ne)

-- DEMAND 1: any two answers that a promise admits coincide, with every float that was lent
pub determined_channel_float : (channel : ℕ) (a b : Float) → FloatsChannel channel a → FloatsChannel channel b → a ≡ b
determined_channel_float channel a b p q = p ∙ sym q

pub determined_pixel_floats : (pixel : List ℕ) (a b : FloatPixel) → FloatsPixel pixel a → FloatsPixel pixel b → a ≡ b
determined_pixel_floats pixel a b p q = p ∙ sym q

pub determined_channel : (bits : ℕ) (a b : Result ℕ Refusal) → FindsChannel bits a → FindsChannel bits b → a ≡ b
determined_channel bits a b p q = answer_fixes 0 a b (p ∙ sym q)

pub determined_channel_of : (value : Float) (a b : Result ℕ Refusal) → FindsChannelOf value a → FindsChannelOf value b → a ≡ b
determined_channel_of value a b p q = answer_fixes 0 a b (p ∙ sym q)

pub determined_row_floats : (pixels : List ℕ) (before : List Float) (a b : Result ⊤ Refusal) (x y : List Float) → FloatsRow pixels before a x
    → FloatsRow pixels before b y → (a ≡ b) × (x ≡ y)
determined_row_floats pixels before a b x y p q = (number_fixes a b (p.0 ∙ sym q.0), p.1 ∙ sym q.1)

-- and where the answer is not 0, the floats are as they were
pub refused_row_leaves : (pixels : List ℕ) (before : List Float) (a : Result ⊤ Refusal) (x : List Float) → FloatsRow pixels before a x → number_of a ≢ 0 → x ≡ before
refused_row_leaves pixels before a x p ne = p.1 ∙ row_left pixels before (λ z. ne (p.0 ∙ z))
