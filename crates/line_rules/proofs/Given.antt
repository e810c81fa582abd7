-- A line that is put in draws what was given, turned or not.
-- Assumes nothing.
use mathlib.Core.Path.{◌≡◌, refl, sym, ◌∙◌}
use mathlib.Core.Logic.{◌≢◌}
use mathlib.Core.Bool.{Bool, true, false}
use Prim.Native.Nat.{ℕ, ◌^◌, ◌<◌, ◌≤◌}
use borrow.Author.Tests.{eqb-false, not-true}
use Rattle.bc7_format.specs.declared.Place.{Place}
use Rattle.bc7_format.specs.declared.Split.{Split}
use Rattle.laws.specs.Tables.{pick}
use Rattle.bc7_format.specs.Lines.{Line, index_place, is_drawn, line_at, line_bits, line_of, means_stored, own, p_place, rotated, shown, turned, value_place}
use Rattle.bc7_format.specs.Lines.{with_line}
use Rattle.bc7_format.specs.Modes.{channel_bits, p_count}
use Rattle.bc7_format.specs.Splits.{rotation}
use Rattle.bc7_format.specs.WellFormed.{WellFormed}
use Rattle.bc7_format.proofs.Lens.{own_same}
use Rattle.bc7_format.proofs.Meaning.{good_rotation, has_index, has_p, has_value, laid_index, laid_p, laid_value, line_bits_is, means_ext, rotated_lt}
use Rattle.bc7_format.proofs.Meaning.{turned_means}
use Rattle.line_rules.specs.Acceptable.{Acceptable}
use Rattle.line_rules.specs.Replace.{oriented, put, refusal_in, top_set}
use Rattle.line_rules.proofs.Accepting.{accepted_is}
use Rattle.line_rules.proofs.Put.{bounded}

oriented_means : (m : ℕ) (s : Split) (l : ℕ) (ln : Line) (q c : ℕ) → 2 ≤ line_bits m s l → line_bits m s l ≤ 4 → ln.index q < 2 ^ line_bits m s l
    → means_stored m s l (oriented m s l ln) q c ≡ means_stored m s l ln q c
unfolding oriented
oriented_means m s l ln q c h2 h4 hi = go (top_set m s l ln)
  where
    go : (b : Bool) → means_stored m s l (pick b (turned (line_bits m s l) ln) ln) q c ≡ means_stored m s l ln q c
    go true = turned_means m s l ln q c h2 h4 hi
    go false = refl

pub same_oriented : (m : ℕ) (s : Split) (l : ℕ) (ln : Line) → ln.p 0 ≡ ln.p 1 → (oriented m s l ln).p 0 ≡ (oriented m s l ln).p 1
unfolding oriented turned
same_oriented m s l ln e = go (top_set m s l ln)
  where
    go : (b : Bool) → (pick b (turned (line_bits m s l) ln) ln).p 0 ≡ (pick b (turned (line_bits m s l) ln) ln).p 1
    go true = sym e
    go false = e

module _ {m : ℕ} {s : Split} {f : Place → ℕ} (g : WellFormed m s f) where
  pub shown_given : (l : ℕ) (ln : Line) (q c : ℕ) → refusal_in m s l ln ≡ 0 → q < 16 → c < 4
      → is_drawn m (rotated (rotation s) c) ≡ true → line_at s q (rotated (rotation s) c) ≡ l
      → shown m s (put m s l ln f) q c ≡ means_stored m s l ln q (rotated (rotation s) c)
  unfolding shown put line_of line_at
  shown_given l ln q c e hq hc dr at_l =
      rw (dr, at_l)
      (means_ext m s l _ o q d values ps ix
      ∙ oriented_means m s l ln q d (line_bits_is g l).0 (line_bits_is g l).1 ((bounded m s l ln a.within).index q hq))
    where
      d : ℕ
      d = rotated (rotation s) c

      hd : d < 4
      hd = rotated_lt (rotation s) c (good_rotation g) hc

      a : Acceptable m s l ln
      a = accepted_is m s l ln e

      o : Line
      o = oriented m s l ln

      put_in : Place → ℕ
      put_in = with_line m s l o f

      values : (k : ℕ) → k < 2 → own m s l put_in (value_place s l k d) ≡ o.value k d
      values k hk =
          own_same m s l o f (value_place s l k d)
          (has_value g l a.line k d hk hd (eqb-false (channel_bits m d) 0 (not-true _ dr)) (λ v. rw v at at_l))
          ∙ laid_value m s l o k d hk

      ps : p_count m ≢ 0 → (k : ℕ) → k < 2 → own m s l put_in (p_place m l k) ≡ o.p k
      ps n k hk = own_same m s l o f (p_place m l k) (has_p g l a.line k hk n) ∙ laid_p m l o k hk (λ z. same_oriented m s l ln (a.same_p z))

      ix : own m s l put_in (index_place s l q) ≡ o.index q
      ix = own_same m s l o f (index_place s l q) (has_index g l a.line q hq (λ v. rw v at at_l)) ∙ laid_index m s l o q
