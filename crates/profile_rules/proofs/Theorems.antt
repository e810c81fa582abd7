-- WHAT IS PROVED OF THE PROFILE, in one place: which blocks it admits, when each refusal is given and which block is named, in either form; and what
-- the small decoder shows. That it shows what the main decoder does, by that one's own promise, is in two_decoders.
-- Assumes nothing.
use mathlib.Core.Path.{◌≡◌, refl, ◌∙◌, ap, sym, subst}
use mathlib.Core.Logic.{◌↔◌, ◌≢◌, ⊎_elim}
use mathlib.Core.Bool.{true, not}
use mathlib.Core.List.{List, [], ◌∷◌}
use Prim.Native.Nat.{ℕ, ◌+◌, ◌*◌, ◌<◌}
use native.Mathlib.Decide.{ℕ_discrete}
use native.Mathlib.Omega.{arith}
use borrow.Author.Tests.{eq-eqb, ne_eqb}
use lib.Arith.{digits_lt}
use lib.ListN.{get_or, length, replicate}
use Rattle.std.specs.Prelude.{Result, Ok, Err, ⊤}
use Rattle.refusals.specs.declared.Refusal.{Refusal}
use Rattle.refusals.specs.declared.Refusal.TheVariants.{ProfileBlock}
use Rattle.refusals.proofs.Answers.{number_injective, number_not_0}
use Rattle.profile_rules.specs.declared.Breach.{Breach}
use Rattle.profile_rules.specs.declared.Breach.TheVariants.{Refused, Block}
use Rattle.profile_rules.specs.Profile.{BlockNamed, Checked, check_answered}
use Rattle.laws.specs.Refusals.{Given, Rule, accepted, handed, here, then, unless}
use Rattle.laws.proofs.Cases.{lt_or}
use Rattle.laws.proofs.Refusals.{accepted_when, alone, answer_0, by_not, decided_is, decided_so, exactly}
use Rattle.bc7_format.specs.Lines.{pixels}
use Rattle.bc7_format.proofs.Reserved.{reserved_mode}
use Rattle.head_rules.specs.declared.Form.{Form}
use Rattle.head_rules.specs.Answers.{Head}
use Rattle.head_rules.specs.Geometry.{across, blocks_of, side_shown}
use Rattle.head_rules.specs.Heads.{read_head}
use Rattle.head_rules.specs.Numbers.{Bytes}
use Rattle.head_rules.specs.Whole.{Whole, whole_refusal}
use Rattle.head_rules.proofs.Whole.{whole_when}
use Rattle.sheet_rules.specs.Calls.{WholeSheet}
use Rattle.sheet_rules.specs.SheetRows.{row_behind_whole, row_blocks, row_room, sheet_row_out, sheet_row_refusal}
use Rattle.sheet_rules.specs.Rows.{row_bytes}
use Rattle.sheet_rules.specs.Sheets.{block_by, block_in}
use Rattle.sheet_rules.proofs.SheetRows.{handing, row_drawn}
use Rattle.move_rules.specs.Moving.{move_after, move_refusal}
use Rattle.move_rules.proofs.Theorems.{head_there, same_block, whole_there}
use Rattle.move_rules.proofs.Moving.{movable}
use Rattle.profile_rules.specs.Profile.{Admitted, ChecksProfile, FirstBreaking, Keeps, Sides, admits, breaks, check_refusal, checked}
use Rattle.profile_rules.specs.Profile.{first_breaking, profile_rules, sides_refusal}
use Rattle.profile_rules.specs.Small.{DecodesSmall, ShowsSmallRow, small_pixels, small_refusal, small_row_behind_whole, small_row_out}
use Rattle.profile_rules.specs.Small.{small_row_refusal, small_row_rules}
use Rattle.profile_rules.proofs.Modes.{admits_is, is_admitted, not_admitted}
use Rattle.profile_rules.proofs.Checking.{admitted_before, breaks_there, check_handed, check_in_words, whole_below_20}
use Rattle.profile_rules.proofs.Lowest.{lowest_is, lowest_same}
use Rattle.profile_rules.proofs.SmallRows.{row_handed, row_in_words}

-- a block is admitted exactly where its mode is 4, 5 or 6; a reserved block breaks the profile
pub admitted_when : (bs : List ℕ) → (admits bs ≡ true) ↔ Admitted bs
admitted_when bs = (admits_is bs, is_admitted bs)

pub reserved_breaks : (bs : List ℕ) → get_or bs 0 0 ≡ 0 → Admitted bs → ⊥
reserved_breaks bs e a =
    let m = reserved_mode bs e in
    ⊎_elim (λ k. omega (arith, k, m)) (⊎_elim (λ k. omega (arith, k, m)) (λ k. omega (arith, k, m))) a

-- each refusal number of the check is given exactly when document 02 says (`profile_rules` has the words)
pub check_refused_when : (s : List ℕ) (n : ℕ) → (check_refusal (read_head s) s ≡ n) ↔ Given (profile_rules s) n
check_refused_when s = exactly (check_in_words s)

-- and a sheet is accepted exactly where it keeps the profile
pub check_accepts_when : (s : List ℕ) → (check_refusal (read_head s) s ≡ 0) ↔ Keeps s
check_accepts_when s =
    let a = accepted_when (check_handed (read_head s) s) in (
      λ e. let (w, (sides, (blocks, u))) = a.0 e in record { whole = (whole_when (read_head s) s).0 w; sides = sides; blocks = blocks },
      λ k. a.1 ((whole_when (read_head s) s).1 k.whole, (k.sides, (k.blocks, tt))),
    )

-- THE BLOCK THAT IS NAMED: 20 with the number b is answered exactly where a whole sheet of a good size has b as the first block that breaks the
-- profile
pub record Broken (s : List ℕ) (b : ℕ) : Type 0 where
  pub whole : Whole (read_head s) s
  pub sides : Sides (read_head s)
  pub the_first : FirstBreaking s b

past : {n m : ℕ} {Q : Type 0} {rs : List Rule} → Given (unless n Q ∷ rs) m → n ≢ m → Q × Given rs m
past (here x) ne = absurd (ne refl)
past (then q g) ne = (q, g)

last_fails : {n m : ℕ} {Q : Type 0} → Given (unless n Q ∷ []) m → m ≢ 0 → Q → ⊥
last_fails (here x) ne q = x q
last_fails (then q accepted) ne p = ne refl

module _ (s : List ℕ) where
  abbrev h : Head
  h = read_head s

  named : check_refusal h s ≡ 20 → (checked h s).block ≡ first_breaking h s
  unfolding checked
  named e = rw (eq-eqb (check_refusal h s) 20 e)

  is_first : (((b : ℕ) → b < blocks_of h → Admitted (block_in s b)) → ⊥) → FirstBreaking s (first_breaking h s)
  is_first x = ⊎_elim (λ l. record { there = l; breaks_it = breaks_there h s l; none_before = admitted_before h s })
      (λ g. absurd (x (λ b l. admitted_before h s b (omega (arith, l, g)))))
      (lt_or (first_breaking h s) (blocks_of h))

  broken : check_refusal h s ≡ 20 → Broken s (first_breaking h s)
  broken e =
      let g0 = (exactly (check_handed h s) 20).0 e in
      let (w, g1) = past g0 (λ q. omega (arith, q, whole_below_20 s)) in
      let (sides, g2) = past g1 (λ q. omega (arith, q)) in
      record { whole = (whole_when h s).0 w; sides = sides; the_first = is_first (last_fails g2 (λ q. omega (arith, q))) }

  first_is : (b : ℕ) → FirstBreaking s b → first_breaking h s ≡ b
  unfolding first_breaking breaks
  first_is b f = lowest_is (blocks_of h) (breaks h s) b (omega (arith, f.there))
      (λ l. ap not (not_admitted (block_in s b) f.breaks_it))
      (λ k l. ap not (is_admitted (block_in s k) (f.none_before k l)))

  refused_20 : (b : ℕ) → Broken s b → check_refusal h s ≡ 20
  refused_20 b k = (exactly (check_handed h s) 20).1
      (then ((whole_when h s).1 k.whole) (then k.sides (here (λ all. k.the_first.breaks_it (all b k.the_first.there)))))

  pub names_the_first : (b : ℕ) → ((check_refusal h s ≡ 20) × ((checked h s).block ≡ b)) ↔ Broken s b
  names_the_first b = (
    λ e. subst (Broken s) (sym (named e.0) ∙ e.1) (broken e.0),
    λ k. let e = refused_20 b k in (e, named e ∙ first_is b k.the_first),
  )

  -- beside every other answer the number is 0
  pub no_block_named : check_refusal h s ≢ 20 → (checked h s).block ≡ 0
  unfolding checked
  no_block_named ne = rw (ne_eqb (check_refusal h s) 20 ne)

-- IN EITHER FORM: two whole sheets of one size, whose blocks are the same by number, are answered alike; so is a sheet that is moved
module _ (s t : List ℕ) (ks : WholeSheet s) (kt : WholeSheet t) (same_width_lem : (read_head t).width ≡ (read_head s).width)
    (same_height : (read_head t).height ≡ (read_head s).height) (same_blocks : (b : ℕ) → b < blocks_of (read_head s) → block_in t b ≡ block_in s b) where
  as_many : blocks_of (read_head t) ≡ blocks_of (read_head s)
  unfolding blocks_of
  as_many = rw (same_width_lem, same_height)

  same_first : first_breaking (read_head t) t ≡ first_breaking (read_head s) s
  unfolding first_breaking breaks
  same_first = rw as_many (lowest_same (blocks_of (read_head s)) (breaks (read_head t) t) (breaks (read_head s) s)
      (λ b l. ap (λ (bs : List ℕ). not (admits bs)) (same_blocks b l)))

  same_sides : sides_refusal (read_head t) ≡ sides_refusal (read_head s)
  unfolding sides_refusal
  same_sides = rw (same_width_lem, same_height)

  whole : (x : List ℕ) → WholeSheet x → whole_refusal (read_head x) x ≡ 0
  whole x k = (whole_when (read_head x) x).1 (record { told = k.told; long = k.long })

  same_refusal : check_refusal (read_head t) t ≡ check_refusal (read_head s) s
  unfolding check_refusal
  same_refusal = rw (whole t kt, whole s ks, same_sides, same_first, as_many)

  pub same_check : checked (read_head t) t ≡ checked (read_head s) s
  unfolding checked
  same_check = rw (same_refusal, same_first)

pub moved_checks_alike : (f : Form) (s out : List ℕ) → Bytes s → move_refusal f s (length out) ≡ 0
    → checked (read_head (move_after f s out)) (move_after f s out) ≡ checked (read_head s) s
moved_checks_alike f s out y e =
    let m = movable f s (length out) e in
    let there = head_there f s out y e in
    same_check s (move_after f s out) (record { bytes = y; told = m.told; long = m.long }) (whole_there f s out y e)
    (ap (λ (h : Head). h.width) there) (ap (λ (h : Head). h.height) there) (same_block f s out y e)

-- THE SMALL DECODER: of a block that the profile admits it shows the format's pixels, any other it refuses with 20, and shows sixteen times 0 0 0 0
module _ (bs : List ℕ) where
  pub small_refused_when : (n : ℕ) → (small_refusal bs ≡ n) ↔ Given (unless 20 (Admitted bs) ∷ []) n
  unfolding small_refusal
  small_refused_when = exactly (alone (by_not tt (admits bs) (admits_is bs) (is_admitted bs)))

  pub small_admits_when : (small_refusal bs ≡ 0) ↔ Admitted bs
  unfolding small_refusal
  small_admits_when = let d = by_not {n = 20} tt (admits bs) (admits_is bs) (is_admitted bs) in (decided_is d, decided_so d)

  pub small_shows : Admitted bs → (small_refusal bs ≡ 0) × (small_pixels bs ≡ pixels bs)
  unfolding small_refusal small_pixels
  small_shows a = rw (is_admitted bs a) (refl, refl)

  pub small_refuses : (Admitted bs → ⊥) → (small_refusal bs ≡ 20) × (small_pixels bs ≡ replicate 16 (replicate 4 0))
  unfolding small_refusal small_pixels
  small_refuses n = rw (not_admitted bs n) (refl, refl)

-- A ROW BY IT: each refusal number is given exactly when the request says (`small_row_rules` has the words)
pub small_row_refused_when : (s : List ℕ) (row room n : ℕ)
    → (small_row_refusal (read_head s) s row room ≡ n) ↔ Given (small_row_rules s row room) n
small_row_refused_when s row room = exactly (row_in_words s row room)

module _ (s : List ℕ) (row : ℕ) (out : List ℕ) where
  abbrev head : Head
  head = read_head s

  -- one that is accepted is a row that the second row decoding accepts, and shows what that shows
  pub small_row_is_the_row : small_row_refusal head s row (length out) ≡ 0
      → (sheet_row_refusal s row (length out) ≡ 0) × (small_row_out s row out ≡ sheet_row_out s row out)
  unfolding small_row_out
  small_row_is_the_row e =
      let (w, (sides, (inside, (room, rest)))) = (row_handed head s row (length out)).met e in
      let same = (accepted_when (handing s row (length out))).1 (w, (inside, (room, tt))) in
      (same, answer_0 _ _ e ∙ sym (row_drawn s row out same))

  pub small_row_drawn : small_row_refusal head s row (length out) ≡ 0
      → small_row_out s row out ≡ row_bytes (read_head s).width (side_shown (read_head s).height row) (row_blocks s row)
  unfolding small_row_out
  small_row_drawn e = answer_0 _ _ e

  -- one that is refused leaves the output as it was
  pub small_row_undrawn : small_row_refusal head s row (length out) ≢ 0 → small_row_out s row out ≡ out
  unfolding small_row_out
  small_row_undrawn ne = rw (ne_eqb (small_row_refusal head s row (length out)) 0 ne)

  -- OF A SHEET THAT KEEPS THE PROFILE every row is answered and shown as by the second row decoding, whatever the row and the output
  module _ (k : Keeps s) where
    row_admitted : row < across head.height → (c : ℕ) → c < across head.width → Admitted (block_by head s (row * across head.width + c))
    unfolding blocks_of
    row_admitted inside c l = k.blocks (row * across head.width + c) (digits_lt inside l)

    is_whole : whole_refusal head s ≡ 0
    is_whole = (whole_when head s).1 k.whole

    both_answer : (n : ℕ) → Given (handed (whole_refusal head s) ∷ small_row_behind_whole head s row (length out)) n
        → Given (handed (whole_refusal head s) ∷ row_behind_whole head row (length out)) n
        → small_row_refusal head s row (length out) ≡ sheet_row_refusal s row (length out)
    both_answer n a b = (exactly (row_handed head s row (length out)) n).1 a ∙ sym ((exactly (handing s row (length out)) n).1 b)

    same_answer : small_row_refusal head s row (length out) ≡ sheet_row_refusal s row (length out)
    same_answer = ⊎_elim (λ inside. room inside (ℕ_discrete (length out) (row_room head row)))
        (λ g. both_answer 12 (then is_whole (then k.sides (here (λ q. omega (arith, q, g))))) (then is_whole (here (λ q. omega (arith, q, g)))))
        (lt_or row (across head.height))
      where
        room : row < across head.height → Dec (length out ≡ row_room head row)
            → small_row_refusal head s row (length out) ≡ sheet_row_refusal s row (length out)
        room inside (yes r) =
            both_answer 0 (then is_whole (then k.sides (then inside (then r (then (row_admitted inside) accepted)))))
            (then is_whole (then inside (then r accepted)))
        room inside (no n) =
            both_answer 11 (then is_whole (then k.sides (then inside (here n)))) (then is_whole (then inside (here n)))

    pub kept_row_is_the_row : (small_row_refusal head s row (length out) ≡ sheet_row_refusal s row (length out))
        × (small_row_out s row out ≡ sheet_row_out s row out)
    unfolding small_row_out sheet_row_out
    kept_row_is_the_row = (same_answer, rw same_answer refl)

-- what a result answers fixes it, where 20 is answered for a block alone
pub check_fixes : (a b : Result ⊤ Breach) → BlockNamed a → BlockNamed b → check_answered a ≡ check_answered b → a ≡ b
check_fixes (Ok u) (Ok v) m n e = refl
check_fixes (Ok u) (Err (Refused q)) m n e = absurd (number_not_0 q (sym (ap (λ (x : Checked). x.refusal) e)))
check_fixes (Ok u) (Err (Block c)) m n e = absurd (let z : ⊥ = omega (arith, ap (λ (x : Checked). x.refusal) e) in z)
check_fixes (Err (Refused r)) (Ok v) m n e = absurd (number_not_0 r (ap (λ (x : Checked). x.refusal) e))
check_fixes (Err (Refused r)) (Err (Refused q)) m n e = ap (λ (x : Refusal). Err (Refused x)) (number_injective (ap (λ (x : Checked). x.refusal) e))
check_fixes (Err (Refused r)) (Err (Block c)) m n e = absurd (m (number_injective {r = r} {q = ProfileBlock} (ap (λ (x : Checked). x.refusal) e)))
check_fixes (Err (Block b)) (Ok v) m n e = absurd (let z : ⊥ = omega (arith, ap (λ (x : Checked). x.refusal) e) in z)
check_fixes (Err (Block b)) (Err (Refused q)) m n e = absurd (n (number_injective {r = q} {q = ProfileBlock} (sym (ap (λ (x : Checked). x.refusal) e))))
check_fixes (Err (Block b)) (Err (Block c)) m n e = ap (λ (x : Checked). Err (Block x.block)) e

-- any two answers that a promise of check and decoder admits coincide
pub determined_check_profile : (sheet : List ℕ) (a b : Result ⊤ Breach) → ChecksProfile sheet a → ChecksProfile sheet b → a ≡ b
determined_check_profile sheet a b p q = check_fixes a b p.1 q.1 (p.0 ∙ sym q.0)

pub determined_decode_small : (block : List ℕ) (a b : ℕ) (x y : List (List ℕ)) → DecodesSmall block a x → DecodesSmall block b y
    → (a ≡ b) × (x ≡ y)
determined_decode_small block a b x y p q = (p.0 ∙ sym q.0, p.1 ∙ sym q.1)

-- and where the answer of a row is not 0, the output is as it was
pub refused_small_row_leaves : (sheet : List ℕ) (row : ℕ) (before : List ℕ) (a : ℕ) (x : List ℕ) → ShowsSmallRow sheet row before a x → a ≢ 0
    → x ≡ before
refused_small_row_leaves sheet row before a x p ne = p.1 ∙ small_row_undrawn sheet row before (λ e. ne (p.0 ∙ e))
