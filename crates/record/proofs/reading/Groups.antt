-- What is read group by group is what stands at the places.
-- Assumes nothing.
use mathlib.Core.Path.{◌≡◌, refl, sym, ◌∙◌}
use mathlib.Core.List.{List, [], ◌∷◌}
use Prim.Native.Nat.{ℕ, ◌+◌, ◌*◌, ◌/◌, ◌%◌, ◌≤◌, ◌<◌}
use native.Mathlib.Nat.{add_assoc, add-zero}
use native.Mathlib.Omega.{arith}
use borrow.Author.Tests.{le-ltb, lt-ltb}
use lib.Dec.{eqb, ltb}
use lib.ListN.{replicate, set, get_or-replicate}
use Rattle.bc7_modes.specs.declared.ModeRow.{ModeRow}
use Rattle.bits.specs.declared.stream.BitStream.{BitStream}
use Rattle.bits.specs.declared.stream.Read.{Read}
use Rattle.laws.specs.Tables.{pick, table, table_from}
use Rattle.laws.proofs.Filled.{Upto, upto_next}
use Rattle.laws.proofs.Part.{part_all}
use Rattle.bcn_format.specs.Indexes.{part}
use Rattle.bits.specs.Stream.{taken}
use Rattle.record.specs.Reading.{channel_of, endpoints_of, endpoints_read, p_read}

-- the endpoints of four words
module _ (row : ModeRow) (red green blue alpha : ℕ) where
  abbrev channel : ℕ → ℕ
  channel c = channel_of red green blue alpha c

  abbrev bits : ℕ → ℕ
  bits c = pick (eqb c 3) row.alpha row.colour

  abbrev endpoint : ℕ → ℕ
  endpoint i = pick (ltb (i / 4) row.endpoints) (part (channel (i % 4)) (bits (i % 4)) (i / 4)) 0

  -- the values of the first e endpoints are there
  abbrev pub Values : ℕ → List ℕ → Type 0
  Values e out = Upto 24 0 endpoint (4 * row.endpoints) (4 * e) out

  stands : (e c : ℕ) → e < row.endpoints → c < 4 → endpoint (4 * e + c) ≡ part (channel c) (bits c) e
  stands e c he hc =
      let d : (4 * e + c) / 4 ≡ e = omega arith in
      let r : (4 * e + c) % 4 ≡ c = omega arith in
      rw (d, r, lt-ltb e row.endpoints he)

  pub values_none : Values 0 (replicate 24 0)
  values_none = record {
    long = refl;
    done = λ k l past. let h : row.endpoints ≤ k / 4 = omega (arith, past (omega arith)) in rw (le-ltb (k / 4) row.endpoints h)
        (get_or-replicate 24 k 0 0 l);
  }

  pub values_next : (e : ℕ) {out : List ℕ} {r g b a : ℕ} → e < row.endpoints → row.endpoints ≤ 6 → Values e out
      → r ≡ part red row.colour e → g ≡ part green row.colour e → b ≡ part blue row.colour e → a ≡ part alpha row.alpha e
      → Values (e + 1) (set (set (set (set out (4 * e) r) (4 * e + 1) g) (4 * e + 2) b) (4 * e + 3) a)
  values_next e {out} {r} {g} {b} {a} he six h er eg eb ea =
      let s0 : Upto 24 0 endpoint (4 * row.endpoints) (4 * e + 1) (set out (4 * e) r) =
      upto_next (4 * e) r h (omega arith) (er ∙ sym (rw add-zero at (stands e 0 he (omega arith)))) in
      let s1 = upto_next (4 * e + 1) g s0 (omega arith) (eg ∙ sym (stands e 1 he (omega arith))) in
      let s2 = upto_next (4 * e + 2) b (rw (add_assoc (4 * e) 1 1) at s1) (omega arith) (eb ∙ sym (stands e 2 he (omega arith))) in
      let s3 = upto_next (4 * e + 3) a (rw (add_assoc (4 * e) 2 1) at s2) (omega arith) (ea ∙ sym (stands e 3 he (omega arith))) in
      let z : 4 * e + 3 + 1 ≡ 4 * (e + 1) = omega arith in
      rw z at s3

  pub values_all : (e : ℕ) {out : List ℕ} → row.endpoints ≤ e → Values e out → out ≡ endpoints_of row red green blue alpha
  unfolding endpoints_of
  values_all e l h = part_all h (λ k lk q. omega arith)

-- four reads, one a channel
pub endpoints_read_is : (row : ModeRow) (s : BitStream) {r g b a : Read} {es : List ℕ} → r ≡ taken s (row.endpoints * row.colour)
    → g ≡ taken r.stream (row.endpoints * row.colour) → b ≡ taken g.stream (row.endpoints * row.colour)
    → a ≡ taken b.stream (row.endpoints * row.alpha) → es ≡ endpoints_of row r.value g.value b.value a.value
    → (es, a.stream) ≡ endpoints_read row s
unfolding endpoints_read
endpoints_read_is row s er eg eb ea ee = rw (ee, ea, eb, eg, er)

-- six parts of one read
pub p_read_is : (row : ModeRow) (s : BitStream) {x : Read} {p0 p1 p2 p3 p4 p5 : ℕ} → x ≡ taken s row.p
    → p0 ≡ part x.value 1 0 → p1 ≡ part x.value 1 1 → p2 ≡ part x.value 1 2 → p3 ≡ part x.value 1 3 → p4 ≡ part x.value 1 4
    → p5 ≡ part x.value 1 5
    → (p0 ∷ p1 ∷ p2 ∷ p3 ∷ p4 ∷ p5 ∷ [], x.stream) ≡ p_read row s
unfolding p_read table table_from
p_read_is row s ex e0 e1 e2 e3 e4 e5 = rw (e0, e1, e2, e3, e4, e5, ex)
