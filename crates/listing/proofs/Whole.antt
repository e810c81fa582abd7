-- The machine fed with an input that is there whole, round by round.
-- Assumes nothing.
use mathlib.Core.Path.{◌≡◌, ◌∙◌, ap, sym, subst}
use mathlib.Core.Logic.{⊎_elim}
use mathlib.Core.List.{List, []}
use Prim.Native.Nat.{ℕ, ◌+◌, ◌-◌, ◌*◌, ◌/◌, ◌≤◌}
use native.Mathlib.Omega.{arith}
use lib.ListN.{length, take, drop, drop_of_length-le, length-drop}
use lib.Seq.{drop-drop, length-take-le, take_all}
use Rattle.listing_rules.specs.Machine.{Machine}
use Rattle.laws.specs.Padding.{Written}
use Rattle.laws.proofs.Cases.{lt_or}
use Rattle.laws.proofs.Padding.{written_long, written_none, written_then}
use Rattle.head_rules.specs.Heads.{read_head}
use Rattle.listing_rules.specs.Listing.{listing}
use Rattle.listing_rules.specs.Machine.{NextEnd, Ready, at_start, next_of, spare_of, text_of, wanted_of}
use Rattle.listing_rules.proofs.Rounds.{done, ready_start, rest_start, rest_of, step}
use Rattle.listing.specs.Asked.{NextAsked}
use Rattle.listing.specs.Promised.{GoesOnReady, Spares}

-- the next n bytes, cut out of the input, are the next n bytes of what is left of it
module _ (s : List ℕ) (at n end : ℕ) (e : NextEnd at n (length s) end) where
  came_is : take (end - at) (drop at s) ≡ take n (drop at s)
  came_is =
      ⊎_elim (λ l. let all = e.all l in take_all (end - at) (drop at s) (omega (arith, length-drop at s)) ∙ sym
      (take_all n (drop at s) (omega (arith, length-drop at s))))
      (λ l. let all : end - at ≡ n = omega (arith, e.few) in ap (λ (k : ℕ). take k (drop at s)) all) (lt_or end (at + n))

  left_is : drop end s ≡ drop n (drop at s)
  left_is =
      ⊎_elim (λ l. let all = e.all l in none end (omega arith) ∙ sym (drop-drop n at s ∙ none (at + n) (omega arith)))
      (λ l. let all : at + n ≡ end = omega (arith, e.few) in sym (drop-drop n at s ∙ ap (λ (k : ℕ). drop k s) all)) (lt_or end (at + n))
    where
      none : (k : ℕ) → length s ≤ k → drop k s ≡ []
      none k h = drop_of_length-le s {i = k} h

  came_length : length (take (end - at) (drop at s)) ≡ end - at
  came_length = length-take-le (end - at) (drop at s) (omega (arith, length-drop at s, e.within))

-- so far: the machine is ready, there is room for what it may still say, and once that is written the listing is
pub record Fed (s out₀ out : List ℕ) (m : Machine) (at said : ℕ) : Type 0 where
  pub ready : Ready m
  pub within : at ≤ length s
  pub room : said + 40 * ((length s - at) / 16) + spare_of m ≤ length out₀
  pub long : length out ≡ length out₀
  pub rest : (after : List ℕ) (next : ℕ) → Written out said (rest_of m (drop at s)) after next → Written out₀ 0 (listing (read_head s) s) after next

pub fed_start : (s out : List ℕ) {m : Machine} → m ≡ at_start → 40 * (length s / 16) + 80 ≤ length out → Fed s out out m 0 0
fed_start s out e h =
    subst (λ (m : Machine). Fed s out out m 0 0) (sym e)
    (record { ready = ready_start; within = omega arith; room = omega arith; long = omega arith; rest = λ after next w. rw (← rest_start s) w })

-- what the machine is fed with
module _ {s out₀ out : List ℕ} {m : Machine} {at said : ℕ} (f : Fed s out₀ out m at said) where
  pub fed_asks : {end : ℕ} → NextEnd at (wanted_of m) (length s) end
      → NextAsked m (length (take (end - at) (drop at s))) said (length out)
  fed_asks {end} e =
      let l = came_length s at (wanted_of m) end e in
      record { ready = f.ready; few = omega (arith, l, e.few); fits = omega (arith, l, e.within, e.behind, f.room, f.long) }

  pub fed_round : {end : ℕ} {out' : List ℕ} {said' : ℕ} {m' : Machine} → NextEnd at (wanted_of m) (length s) end
      → let came = take (end - at) (drop at s) in
      Spares (spare_of (next_of m came)) (40 * (length came / 16) + spare_of m) said said' (Written out said (text_of m came) out' said')
      → GoesOnReady m came m' → Fed s out₀ out' m' end said'
  fed_round {end} {out'} {said'} {m'} e w n = record {
    ready = n.ready;
    within = e.within;
    room = omega (arith, came_length s at (wanted_of m) end e, e.within, e.behind, f.room, w.room, ap spare_of n.next);
    long = written_long w.text ∙ f.long;
    rest = λ after next v. f.rest after next
        (rw (step m (drop at s) f.ready, ← came_is s at (wanted_of m) end e, ← left_is s at (wanted_of m) end e, ← n.next)
        (written_then w.text v));
  }

  pub fed_whole : wanted_of m ≡ 0 → Written out₀ 0 (listing (read_head s) s) out said
  fed_whole e = f.rest out said (rw (done m (drop at s) f.ready e) written_none)
