-- Which files import takes: the test, its words, and the grounds one by one.
-- Assumes nothing.
use mathlib.Core.Path.{◌≡◌, sym}
use mathlib.Core.Logic.{◌⊎◌, inl, inr, ⊎_elim, ◌≢◌}
use mathlib.Core.Bool.{not, true, false}
use mathlib.Core.List.{List}
use Prim.Native.Nat.{ℕ, ◌+◌, ◌≤◌}
use native.Mathlib.Decide.{ℕ_discrete}
use native.Mathlib.Omega.{arith}
use borrow.Author.Tests.{eq-eqb, eqb-true, le-leb, leb-true}
use lib.ListN.{length}
use Rattle.laws.specs.Refusals.{refuse}
use Rattle.laws.proofs.Cases.{lt_or}
use Rattle.laws.proofs.Refusals.{Decided, by_not}
use Rattle.laws.proofs.Tests.{both_true, not_so}
use Rattle.dds_rules.specs.Header.{Another, Texture, array_size, cube, cube_bit, dds_magic, dimension, dx10_code, field_in, format, format_code}
use Rattle.dds_rules.specs.Header.{format_size, header_length, header_size, is_texture, magic, mip_count, misc, other_array_size, other_code}
use Rattle.dds_rules.specs.Header.{other_dimension, other_format, other_format_size, other_header_size, other_magic, other_mip_count, short}

module _ (dds : List ℕ) where
  tested : is_texture dds ≡ true → Texture dds
  unfolding is_texture
  tested e =
      let a = both_true _ _ e in
      let b = both_true _ _ a.1 in
      let c = both_true _ _ b.1 in
      let d = both_true _ _ c.1 in
      let f = both_true _ _ d.1 in
      let g = both_true _ _ f.1 in
      let r = both_true _ _ g.0 in
      let i = both_true _ _ g.1 in
      let j = both_true _ _ i.1 in
      let k = both_true _ _ j.1 in
      record {
        long = leb-true _ _ a.0;
        magic_is = eqb-true _ _ b.0;
        header_size_is = eqb-true _ _ c.0;
        format_size_is = eqb-true _ _ d.0;
        code_is = eqb-true _ _ f.0;
        format_from = leb-true _ _ r.0;
        format_to = leb-true _ _ r.1;
        dimension_is = eqb-true _ _ i.0;
        array_size_is = eqb-true _ _ j.0;
        few_levels = leb-true _ _ k.0;
        no_cube = eqb-true _ _ k.1;
      }

  passes : Texture dds → is_texture dds ≡ true
  unfolding is_texture
  passes t =
      rw (
        le-leb header_length (length dds) t.long,
        eq-eqb _ dds_magic t.magic_is,
        eq-eqb _ 124 t.header_size_is,
        eq-eqb _ 32 t.format_size_is,
        eq-eqb _ dx10_code t.code_is,
        le-leb 98 _ t.format_from,
        le-leb _ 99 t.format_to,
        eq-eqb _ 3 t.dimension_is,
        eq-eqb _ 1 t.array_size_is,
        le-leb _ 1 t.few_levels,
        eq-eqb _ 0 t.no_cube,
      )

  -- what the code's test answers
  pub no_texture : (Texture dds → ⊥) → false ≡ is_texture dds
  no_texture x = sym (not_so (is_texture dds) (λ e. x (tested e)))

  pub a_texture : Texture dds → true ≡ is_texture dds
  a_texture t = sym (passes t)

  pub texture : is_texture dds ≡ true → Texture dds
  texture = tested

  pub texture_test : Decided (refuse 15 (not (is_texture dds))) 15 (Texture dds)
  texture_test = by_not tt (is_texture dds) tested passes

-- two numbers are not the same, or they are
differs_or : (a b : ℕ) → (a ≢ b) ⊎ (a ≡ b)
differs_or a b = go (ℕ_discrete a b)
  where
    go : Dec (a ≡ b) → (a ≢ b) ⊎ (a ≡ b)
    go (yes e) = inr e
    go (no n) = inl n

-- and neither of two neighbours, or one of them
neither_or : (a b : ℕ) → ((a ≢ b) × (a ≢ b + 1)) ⊎ ((b ≤ a) × (a ≤ b + 1))
neither_or a b =
    ⊎_elim (λ l. inl (λ e. omega arith, λ e. omega arith))
    (λ l. ⊎_elim (λ m. inl (λ e. omega arith, λ e. omega arith)) (λ m. inr (l, m)) (lt_or (b + 1) a)) (lt_or a b)

module _ (dds : List ℕ) where
  abbrev Whether : Type 0
  Whether = Another dds ⊎ Texture dds

  pub whether : Whether
  whether =
      ⊎_elim (λ x. inl (short x)) (λ a.
      ⊎_elim (λ x. inl (other_magic x)) (λ b.
      ⊎_elim (λ x. inl (other_header_size x)) (λ c.
      ⊎_elim (λ x. inl (other_format_size x)) (λ d.
      ⊎_elim (λ x. inl (other_code x)) (λ e.
      ⊎_elim (λ x. inl (other_format x.0 x.1)) (λ f.
      ⊎_elim (λ x. inl (other_dimension x)) (λ g.
      ⊎_elim (λ x. inl (other_array_size x)) (λ h.
      ⊎_elim (λ x. inl (other_mip_count x.0 x.1)) (λ i.
      ⊎_elim (λ x. inl (cube (omega arith))) (λ j. inr (record {
        long = a;
        magic_is = b;
        header_size_is = c;
        format_size_is = d;
        code_is = e;
        format_from = f.0;
        format_to = f.1;
        dimension_is = g;
        array_size_is = h;
        few_levels = i.1;
        no_cube = j;
      }))
      (differs_or (cube_bit (field_in dds misc)) 0))
      (neither_or (field_in dds mip_count) 0))
      (differs_or (field_in dds array_size) 1))
      (differs_or (field_in dds dimension) 3))
      (neither_or (field_in dds format) 98))
      (differs_or (field_in dds format_code) dx10_code))
      (differs_or (field_in dds format_size) 32))
      (differs_or (field_in dds header_size) 124))
      (differs_or (field_in dds magic) dds_magic))
      (lt_or (length dds) header_length)

  pub not_both : Another dds → Texture dds → ⊥
  not_both (short x) t = omega (arith, t.long)
  not_both (other_magic x) t = x t.magic_is
  not_both (other_header_size x) t = x t.header_size_is
  not_both (other_format_size x) t = x t.format_size_is
  not_both (other_code x) t = x t.code_is
  not_both (other_format x y) t = omega (arith, x, y, t.format_from, t.format_to)
  not_both (other_dimension x) t = x t.dimension_is
  not_both (other_array_size x) t = x t.array_size_is
  not_both (other_mip_count x y) t = omega (arith, x, y, t.few_levels)
  not_both (cube x) t = omega (arith, t.no_cube)
