-- Keys of indexes of W bits.
-- Assumes nothing.
use mathlib.Core.Path.{◌≡◌, sym, ap, ap₂, ◌∙◌}
use Prim.Native.Nat.{ℕ, ◌+◌, ◌*◌, ◌/◌, ◌^◌}
use native.Mathlib.Nat.{div-one}
use native.Mathlib.Omega.{arith}
use lib.Bits.{bit_and}
use Rattle.drawing.proofs.keys.KeyWords.{computed_evens, evens, evens_lt, keys_word}
use Rattle.drawing.proofs.keys.both_keys.Goals as goal

pub eight_keys-requires : goal.eight_keys-requires
eight_keys-requires g c =
    record { mask = rw (computed_evens g.row.W c.requires.width) (evens_lt g.row.W c.requires.width); shift = c.requires.shift }

pub eight_keys-requires-2 : goal.eight_keys-requires-2
eight_keys-requires-2 g c =
    record { mask = rw (computed_evens g.row.W c.requires.width) (evens_lt g.row.W c.requires.width); shift = c.requires.shift }

pub returns : goal.returns
returns g c =
    let w = g.row.W in
    let mask = computed_evens w c.requires.width in
    let word = keys_word w c.args.shift c.args.x c.args.map in
    let merged : ℕ → ℕ → ℕ = λ x map. bit_and x (evens w) * 2 ^ c.args.shift + bit_and map (evens w) in
    let none : 0 * w ≡ 0 = omega arith in
    let one : 1 * w ≡ w = omega arith in
    let low : (x : ℕ) → x ≡ x / 2 ^ (0 * w) = λ x. sym (ap (λ (k : ℕ). x / 2 ^ k) none ∙ div-one x) in
    let next : (x : ℕ) → x / 2 ^ w ≡ x / 2 ^ (1 * w) = λ x. sym (ap (λ (k : ℕ). x / 2 ^ k) one) in
    λ j. record {
      even = (rw mask at c.eight_keys.ensures ∙ ap₂ merged (low c.args.x) (low c.args.map) ∙ word 0) j;
      odd = (rw mask at c.eight_keys-2.ensures ∙ ap₂ merged (next c.args.x) (next c.args.map) ∙ word 1) j;
    }
