-- The ways of `named_block`, and of the calls that it leads to.
-- Assumes nothing.
use mathlib.Core.Path.{◌≡◌, refl, sym, ap, ap₂, ◌∙◌, subst}
use mathlib.Core.Logic.{◌≢◌}
use mathlib.Core.Bool.{Bool}
use mathlib.Core.List.{List, [], ◌∷◌}
use Prim.Native.Nat.{ℕ, ◌+◌, ◌<◌, ◌≤◌}
use native.Mathlib.Decide.{ℕ_discrete}
use native.Mathlib.Omega.{arith}
use lib.ListN.{length}
use Rattle.laws.specs.Refusals.{Given, accepted, first, handed, here, then, unless}
use Rattle.laws.proofs.First.{first_here, first_last, first_skip}
use Rattle.laws.proofs.Refusals.{accepted_when, exactly}
use Rattle.bc7_format.specs.Modes.{mode_of}
use Rattle.std.specs.Prelude.{Result, Ok, Err}
use Rattle.refusals.specs.declared.Refusal.{Refusal}
use Rattle.refusals.specs.Answers.{number_of}
use Rattle.head_rules.specs.Answers.{Head, known}
use Rattle.head_rules.specs.Geometry.{blocks_of, place_of, whole_length}
use Rattle.head_rules.specs.Heads.{read_head}
use Rattle.head_rules.proofs.Orders.{blocks_within}
use Rattle.line_rules.specs.declared.Replacement.{Replacement}
use Rattle.refusals.specs.Answers.{Answer}
use Rattle.line_rules.specs.Replace.{replaced}
use Rattle.opacity_rules.specs.Opacity.{opaque_in}
use Rattle.sheet_head.specs.Asked.{BlockAsked}
use Rattle.sheet_head.specs.Promised.{CountsBlocks}
use Rattle.bcn_format.specs.Block.{block_at}
use Rattle.head_rules.proofs.Whole.{whole_handed}
use Rattle.sheet_rules.specs.Sheets.{block_by, block_in, find_refusal, find_rules, replaced_in}
use Rattle.sheet_rules.proofs.Finding.{finding}
use Rattle.count_rules.specs.declared.Counts.{Counts}
use Rattle.count_rules.specs.Counts.{Counted}
use Rattle.count_rules.specs.Counts.{counted, is_opaque}
use Rattle.count_rules.specs.Keeping.{Keeps, ReplacesLineCounted, false_of, false_refusal, kept_answer, kept_refusal}
use Rattle.count_rules.proofs.Plain.{counts_left, counts_taken, sheet_left, sheet_taken}
use Rattle.counts.specs.declared.NamedBlock.{NamedBlock}
use Rattle.counts.specs.Blocks.{Here, Names, PutThere, ReadsWhole}
use Rattle.counts.proofs.Counting.{whole_blocks}

-- a block stands at its place
stands : (s : List ℕ) (b : ℕ) {at : ℕ} → at ≡ place_of (read_head s) b → block_at s at ≡ block_in s b
unfolding block_by
stands s b e = ap (block_at s) e

shown_as : (s : List ℕ) (b : ℕ) {block : List ℕ} {t : Bool} → t ≡ opaque_in (read_head s).width (read_head s).height b block → block ≡ block_in s b
    → t ≡ is_opaque (read_head s) s b
unfolding is_opaque
shown_as s b et eb = et ∙ ap (opaque_in (read_head s).width (read_head s).height b) eb

-- a refusal that is given goes before all that come behind it
given_before : (a b : ℕ) (rest : List ℕ) {r : ℕ} → r ≡ first (a ∷ b ∷ []) → r ≢ 0 → first (a ∷ b ∷ rest) ≡ r
given_before a b rest {r} e ne = go (ℕ_discrete a 0)
  where
    go : Dec (a ≡ 0) → first (a ∷ b ∷ rest) ≡ r
    go (yes z) =
        let is : r ≡ b = e ∙ first_skip a (b ∷ []) z ∙ first_last b in
        first_skip a (b ∷ rest) z ∙ first_here b rest (λ q. ne (is ∙ q)) ∙ sym is
    go (no na) = first_here a (b ∷ rest) na ∙ sym (e ∙ first_here a (b ∷ []) na)

-- a block of a whole sheet may be asked for, and has room
module _ (s : List ℕ) (b : ℕ) {h : Head} (w : ReadsWhole s h) (a : h.refusal ≡ 0) where
  pub asked_of : {m : ℕ} → CountsBlocks h m → b < m → BlockAsked h b
  asked_of k l = record { size = (whole_blocks s w a).sized; number = rw k.same at l }

  pub room_of : {m : ℕ} → CountsBlocks h m → b < m → {at : ℕ} → at ≡ place_of h b → at + 16 ≤ length s
  room_of k l e = omega (arith, e, (whole_blocks s w a).whole, blocks_within h b (rw k.same at l))

abbrev pub number_named : Result NamedBlock Refusal → ℕ
number_named r = number_of r

-- the named block, where there is one
abbrev pub named_in : Result NamedBlock Refusal → NamedBlock → NamedBlock
named_in (Ok v) other = v
named_in (Err r) other = other

module _ (s : List ℕ) (n : Counts) (b : ℕ) {h : Head} (w : ReadsWhole s h) where
  -- what the named block says of the block that was found
  pub record Shown (place : ℕ) (bytes : List ℕ) (kind : ℕ) (is : Bool) (k : NamedBlock) : Type 0 where
    pub head : known k.head ≡ h
    pub at : k.at ≡ place
    pub block : k.block ≡ bytes
    pub mode : k.mode ≡ kind
    pub opaque : k.opaque ≡ is

  -- the head's refusal or 10: it is what finding the block is refused for
  found_as : {r : ℕ} → r ≢ 0 → Given (handed (read_head s).refusal ∷ unless 10 (length s ≡ whole_length (read_head s)) ∷ []) r
      → Given (find_rules (read_head s) s b) r
  found_as ne (here x) = here x
  found_as ne (then p (here x)) = then p (here x)
  found_as ne (then p (then q accepted)) = absurd (ne refl)

  pub no_sheet : h.refusal ≢ 0 → {r : Result NamedBlock Refusal} → number_of r ≡ h.refusal → Names s n b r
  no_sheet ne {r} e =
      let is : h.refusal ≡ find_refusal (read_head s) s b
      = w.refusal ∙ sym ((exactly (finding s b) _).1 (found_as (λ z. ne (w.refusal ∙ z)) (whole_handed (read_head s) s).given)) in
      record {
        refusal = e ∙ is ∙ sym (first_here (find_refusal (read_head s) s b) _ (λ z. ne (is ∙ z)));
        here = λ k z. absurd (ne (sym e ∙ ap number_named z));
      }

  module _ (a : h.refusal ≡ 0) where
    pub no_block : {m : ℕ} → CountsBlocks h m → m ≤ b → {r : Result NamedBlock Refusal} → number_of r ≡ 12 → Names s n b r
    no_block {m} k l {r} e =
        let (told, (long, u)) = (whole_handed (read_head s) s).met (sym w.refusal ∙ a) in
        let l' : blocks_of (read_head s) ≤ b = rw (w.same a) at (rw k.same at l) in
        let is : find_refusal (read_head s) s b ≡ 12 = (exactly (finding s b) 12).1 (then told (then long (here (λ q. omega arith)))) in
        record {
          refusal = e ∙ sym is ∙ sym (first_here (find_refusal (read_head s) s b) _ (λ z. omega (arith, is, z)));
          here = λ g z. absurd (let q : ⊥ = omega (arith, sym e ∙ ap number_named z) in q);
        }

    pub block_named : {m : ℕ} → CountsBlocks h m → b < m → {at mode refusal : ℕ} {block : List ℕ} {opaque : Bool}
        → (r : Result NamedBlock Refusal) → number_of r ≡ refusal → ((k : NamedBlock) → r ≡ Ok k → Shown at block mode opaque k)
        → at ≡ place_of h b → block ≡ block_at s at → mode ≡ mode_of block → opaque ≡ opaque_in h.width h.height b block
        → refusal ≡ false_of m mode opaque n
        → Names s n b r
    block_named k l {at} {mode} {refusal} {block} {opaque} r is shown ea eb em eo er =
        let (told, (long, u)) = (whole_handed (read_head s) s).met (sym w.refusal ∙ a) in
        let head_is = w.same a in
        let l' : b < blocks_of (read_head s) = rw head_is at (rw k.same at l) in
        let found : find_refusal (read_head s) s b ≡ 0 = (accepted_when (finding s b)).1 (told, (long, (l', tt))) in
        let at_is : at ≡ place_of (read_head s) b = ea ∙ ap (λ (x : Head). place_of x b) head_is in
        let block_is : block ≡ block_in s b = eb ∙ stands s b at_is in
        let mode_is : mode ≡ mode_of (block_in s b) = em ∙ ap mode_of block_is in
        let opaque_is : opaque ≡ is_opaque (read_head s) s b
        = shown_as s b (eo ∙ ap (λ (x : Head). opaque_in x.width x.height b block) head_is) block_is in
        let told_is : refusal ≡ false_refusal (read_head s) s b n
        = er ∙ ap (λ (x : ℕ). false_of x mode opaque n) (k.same ∙ ap blocks_of head_is)
        ∙ ap₂ (λ (x : ℕ) (y : Bool). false_of (blocks_of (read_head s)) x y n) mode_is opaque_is in
        record {
          refusal = is ∙ told_is ∙ sym (first_skip (find_refusal (read_head s) s b) _ found ∙ first_last _);
          here = λ g z. let w = shown g z in record {
            found = found;
            true_of_it = sym told_is ∙ sym is ∙ ap number_named z;
            head = w.head ∙ head_is;
            at = w.at ∙ at_is;
            block = w.block ∙ block_is;
            mode = w.mode ∙ mode_is;
            opaque = w.opaque ∙ opaque_is;
          };
        }

-- what the two calls answer: `made` is the block's own answer
module _ (s : List ℕ) (n : Counts) (b : ℕ) (made : Answer (List ℕ)) where
  refused_as : {r : ℕ} → kept_refusal (read_head s) s n b made ≡ r → r ≢ 0 → {a : Counted} → a ≡ counted r n → Keeps s n b made a s
  unfolding kept_answer
  refused_as {r} e ne ea =
      let ne' : kept_refusal (read_head s) s n b made ≢ 0 = λ z. ne (sym e ∙ z) in (
        ea ∙ ap₂ counted (sym e) (sym (counts_left s n b made ne')),
        sym (sheet_left s n b made ne'),
      )

  pub not_named_as : {r : Result NamedBlock Refusal} → Names s n b r → number_of r ≢ 0 → {a : Counted} → a ≡ counted (number_of r) n → Keeps s n b made a s
  unfolding kept_refusal
  not_named_as k ne ea =
      refused_as (given_before (find_refusal (read_head s) s b) (false_refusal (read_head s) s b n) (made.refusal ∷ []) k.refusal ne) ne ea

  module _ {r : NamedBlock} (k : Here s n b r) where
    own_answer : kept_refusal (read_head s) s n b made ≡ made.refusal
    unfolding kept_refusal
    own_answer =
        first_skip (find_refusal (read_head s) s b) _ k.found ∙ first_skip (false_refusal (read_head s) s b n) _ k.true_of_it
        ∙ first_last made.refusal

    pub block_refused : made.refusal ≢ 0 → {a : Counted} → a ≡ counted made.refusal n → Keeps s n b made a s
    block_refused ne ea = refused_as own_answer ne ea

    pub block_put : made.refusal ≡ 0 → {c : Counts} {t : List ℕ} → PutThere s n b made.value c t → {a : Counted} → a ≡ counted 0 c
        → Keeps s n b made a t
    unfolding kept_answer
    block_put z {c} p ea =
        let e = own_answer ∙ z in (
          ea ∙ ap₂ counted (sym e) (p.counts ∙ sym (counts_taken s n b made e)),
          p.sheet ∙ sym (sheet_taken s n b made e),
        )

-- a line: what replacing in the block answers
module _ (s : List ℕ) (n : Counts) (b l : ℕ) (new : Replacement) {r : NamedBlock} (k : Here s n b r) {a : Answer (List ℕ)}
    (ea : a ≡ replaced r.block l new) where
  own_is : a ≡ replaced_in (read_head s) s b l new
  unfolding replaced_in
  own_is = ea ∙ ap (λ (x : List ℕ). replaced x l new) k.block

  pub line_refused : a.refusal ≢ 0 → {c : Counted} → c ≡ counted a.refusal n → ReplacesLineCounted s n b l new c s
  line_refused ne ec =
      let e = ap (λ (x : Answer (List ℕ)). x.refusal) own_is in
      block_refused s n b (replaced_in (read_head s) s b l new) k (λ z. ne (e ∙ z)) (ec ∙ ap (λ (x : ℕ). counted x n) e)

  pub line_put_is : a.refusal ≡ 0 → {c : Counts} {t : List ℕ} → PutThere s n b a.value c t → {w : Counted} → w ≡ counted 0 c
      → ReplacesLineCounted s n b l new w t
  line_put_is z {c} {t} p ew =
      let e = ap (λ (x : Answer (List ℕ)). x.refusal) own_is in
      block_put s n b (replaced_in (read_head s) s b l new) k (sym e ∙ z)
      (subst (λ (x : Answer (List ℕ)). PutThere s n b x.value c t) own_is p) ew
