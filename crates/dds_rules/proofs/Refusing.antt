-- When a file and a sheet are refused, and what is known of those that are not.
-- Assumes nothing.
use mathlib.Core.Path.{◌≡◌}
use mathlib.Core.Logic.{◌↔◌, ⊎_elim}
use mathlib.Core.Bool.{not}
use mathlib.Core.List.{List, [], ◌∷◌}
use Prim.Native.Nat.{ℕ, ◌<◌}
use native.Mathlib.Omega.{arith}
use lib.Dec.{eqb, lit<}
use lib.ListN.{length}
use Rattle.head_rules.specs.Geometry.{whole_length}
use Rattle.head_rules.specs.Heads.{Sized, limit}
use Rattle.head_rules.specs.Whole.{whole_refusal}
use Rattle.head_rules.proofs.Heading.{size_test}
use Rattle.head_rules.proofs.Theorems.{rows_answers}
use Rattle.head_rules.proofs.Whole.{whole_rules_is}
use Rattle.laws.specs.Refusals.{Given, Rule, accepted, first, handed, here, refuse, then, unless}
use Rattle.laws.proofs.Refusals.{Answers, accepted_when, answers, by_answer, by_not_eqb, exactly, none, rule, rules}
use Rattle.dds_rules.specs.Header.{Another, Texture, field_in, height, width}
use Rattle.dds_rules.specs.Files.{export_refusal, export_rules, file_length, file_refusal, file_refusal_up_to, file_rules, head_made}
use Rattle.dds_rules.specs.Files.{import_refusal, import_refusal_up_to, import_rules}
use Rattle.dds_rules.specs.Files.{sheet_head, whole_rules}
use Rattle.dds_rules.proofs.Textures.{not_both, texture_test, whether}

-- each test and its rule
pub file_rules_is : (dds : List ℕ) → Answers (file_refusal dds) (file_rules dds)
unfolding file_refusal_up_to
file_rules_is dds =
    answers (rule (texture_test dds) λ t. rule (size_test limit (field_in dds width) (field_in dds height)) λ z. rule
    (by_not_eqb tt (length dds) (file_length (head_made dds))) λ l. none)

pub import_rules_is : (dds : List ℕ) (room : ℕ) → Answers (import_refusal dds room) (import_rules dds room)
unfolding import_refusal_up_to
import_rules_is dds room = answers (rules (file_rules_is dds) λ m. rule (by_not_eqb tt room (whole_length (head_made dds))) λ r. none)

pub sheet_rules_is : (s : List ℕ) → Answers (whole_refusal (sheet_head s) s) (whole_rules s)
sheet_rules_is s = whole_rules_is (sheet_head s) s (rows_answers s)

pub export_rules_is : (s : List ℕ) (room : ℕ) → Answers (export_refusal (sheet_head s) s room) (export_rules s room)
unfolding export_refusal
export_rules_is s room = answers (rules (sheet_rules_is s) λ m. rule (by_not_eqb tt room (file_length (sheet_head s))) λ r. none)

-- 11 stands behind whatever was answered before
pub room_rules : (r needed room : ℕ) → Answers (first (r ∷ refuse 11 (not (eqb room needed)) ∷ [])) (handed r ∷ unless 11 (room ≡ needed) ∷ [])
room_rules r needed room = answers (rule by_answer λ z. rule (by_not_eqb tt room needed) λ l. none)

-- what an accepted file is
pub record Taken (dds : List ℕ) : Type 0 where
  pub texture : Texture dds
  pub size : Sized (field_in dds width) (field_in dds height)
  pub long : length dds ≡ file_length (head_made dds)

pub taken : (dds : List ℕ) → file_refusal dds ≡ 0 → Taken dds
taken dds e = let (t, (z, (l, u))) = (file_rules_is dds).met e in record { texture = t; size = z; long = l }

pub taken_so : (dds : List ℕ) → Taken dds → file_refusal dds ≡ 0
taken_so dds t = (accepted_when (file_rules_is dds)).1 (t.texture, (t.size, (t.long, tt)))

-- both calls with room: accepted, with an output as long as needed
module _ (dds : List ℕ) (room : ℕ) where
  pub imported_when : (import_refusal dds room ≡ 0) ↔ (file_refusal dds ≡ 0) × (room ≡ whole_length (head_made dds))
  unfolding import_refusal_up_to
  imported_when =
      let a = accepted_when (room_rules (file_refusal dds) (whole_length (head_made dds)) room) in
      (λ e. ((a.0 e).0, (a.0 e).1.0), λ m. a.1 (m.0, (m.1, tt)))

module _ (s : List ℕ) (room : ℕ) where
  pub exported_when : (export_refusal (sheet_head s) s room ≡ 0) ↔ (whole_refusal (sheet_head s) s ≡ 0) × (room ≡ file_length (sheet_head s))
  unfolding export_refusal
  exported_when =
      let a = accepted_when (room_rules (whole_refusal (sheet_head s) s) (file_length (sheet_head s)) room) in
      (λ e. ((a.0 e).0, (a.0 e).1.0), λ m. a.1 (m.0, (m.1, tt)))

-- no rule behind the first gives 15
below_15 : {A B C : Type 0} {m : ℕ} → Given (unless 9 A ∷ unless 10 B ∷ unless 11 C ∷ []) m → m < 15
below_15 (here x) = lit< tt
below_15 (then a (here x)) = lit< tt
below_15 (then a (then b (here x))) = lit< tt
below_15 (then a (then b (then c accepted))) = lit< tt

behind : {Q : Type 0} {n m : ℕ} {rs : List Rule} → Q → Given (unless n Q ∷ rs) m → Given rs m
behind q (here x) = absurd (x q)
behind q (then p g) = g

pub fifteen : (dds : List ℕ) (room : ℕ) → (import_refusal dds room ≡ 15) ↔ Another dds
fifteen dds room = (
  λ e. ⊎_elim (λ a. a)
      (λ t. absurd (let l = below_15 (behind t ((exactly (import_rules_is dds room) 15).0 e)) in let q : ⊥ = omega arith in q))
      (whether dds),
  λ a. (exactly (import_rules_is dds room) 15).1 (here (not_both dds a)),
)
