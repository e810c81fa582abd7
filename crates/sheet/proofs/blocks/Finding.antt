-- The ways of `find_block`, and what its answer says.
-- Assumes nothing.
use mathlib.Core.Path.{◌≡◌, refl, ◌∙◌, ap, sym, subst}
use mathlib.Core.Logic.{◌≢◌, ⊎_elim}
use mathlib.Core.List.{List}
use Prim.Native.Nat.{ℕ, ◌+◌, ◌<◌, ◌≤◌}
use native.Mathlib.Nat.{eq-zero-or-pos}
use native.Mathlib.Omega.{arith}
use lib.ListN.{length}
use borrow.Author.Tests.{eq-eqb, ne_eqb}
use Rattle.refusals.specs.Answers.{Answer}
use Rattle.head_rules.specs.Geometry.{blocks_of, place_of}
use Rattle.head_rules.specs.Answers.{Head}
use Rattle.laws.specs.Refusals.{here, then}
use Rattle.laws.proofs.Refusals.{accepted_when, exactly}
use Rattle.head_rules.specs.Heads.{Sized, read_head}
use Rattle.head_rules.specs.Whole.{whole_head, whole_refusal}
use Rattle.head_rules.proofs.Whole.{read_sized, whole_number, whole_told}
use Rattle.sheet_rules.specs.Sheets.{find_refusal}
use Rattle.sheet_rules.proofs.Finding.{finding_handed, inside, room}
use Rattle.sheet.specs.Found.{find_block, found_at}

module _ (s : List ℕ) (b : ℕ) where
  none : {r : ℕ} → find_refusal (read_head s) s b ≡ r → (r ≡ 0 → ⊥) → found_at r 0 ≡ find_block s b
  unfolding find_block
  none {r} e ne = rw (e, ne_eqb r 0 ne)

  one : find_refusal (read_head s) s b ≡ 0 → found_at 0 (place_of (read_head s) b) ≡ find_block s b
  unfolding find_block
  one e = rw (eq-eqb (find_refusal (read_head s) s b) 0 e)

  -- the ways of `find_block`: x is the head of the sheet, if it is whole
  module _ {x : Head} (ex : x ≡ whole_head (read_head s) s) where
    pub not_whole : x.refusal ≢ 0 → found_at x.refusal 0 ≡ find_block s b
    not_whole ne =
        let e = whole_number (read_head s) s ex in none ((exactly (finding_handed s b) _).1 (here (λ z. ne (e ∙ z))) ∙ sym e) ne

    module _ (z : x.refusal ≡ 0) where
      fits : whole_refusal (read_head s) s ≡ 0
      fits = sym (whole_number (read_head s) s ex) ∙ z

      head_is : x ≡ read_head s
      head_is = (whole_told (read_head s) s ex z).1

      pub size_is : Sized x.width x.height
      size_is = read_sized s head_is z

      pub no_such : (b < blocks_of x → ⊥) → found_at 12 0 ≡ find_block s b
      no_such n =
          none ((exactly (finding_handed s b) 12).1 (then fits (here (λ l. n (subst (λ (h : Head). b < blocks_of h) (sym head_is) l)))))
          (λ q. omega arith)

      pub block_found : b < blocks_of x → found_at 0 (place_of x b) ≡ find_block s b
      block_found l =
          ap (λ (h : Head). found_at 0 (place_of h b)) head_is
          ∙ one ((accepted_when (finding_handed s b)).1 (fits, (subst (λ (h : Head). b < blocks_of h) head_is l, tt)))

-- what `find_block` answered
module _ (s : List ℕ) (b : ℕ) {f : Answer ℕ} (ef : f ≡ find_block s b) where
  pub refusal_is : f.refusal ≡ find_refusal (read_head s) s b
  refusal_is =
      ap (λ (g : Answer ℕ). g.refusal) ef
      ∙ ⊎_elim (λ z. sym (ap (λ (g : Answer ℕ). g.refusal) (one s b z)) ∙ sym z)
      (λ p. sym (ap (λ (g : Answer ℕ). g.refusal) (none s b refl (λ q. omega arith))))
      (eq-zero-or-pos (find_refusal (read_head s) s b))

  module _ (a : f.refusal ≡ 0) where
    pub told : find_refusal (read_head s) s b ≡ 0
    told = sym refusal_is ∙ a

    pub at_is : f.value ≡ place_of (read_head s) b
    at_is = ap (λ (g : Answer ℕ). g.value) (ef ∙ sym (one s b told))

    pub has_room : f.value + 16 ≤ length s
    has_room = rw at_is (room s b (inside s b told))
