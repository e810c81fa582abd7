-- From the mode of a block to what the small decoder shows of it.
-- Assumes nothing.
use mathlib.Core.Path.{◌≡◌, ap₂, ◌∙◌, sym}
use mathlib.Core.Logic.{◌≢◌, ⊎_elim}
use mathlib.Core.List.{List}
use Prim.Native.Nat.{ℕ, ◌<◌}
use lib.ListN.{get_or, length, replicate}
use Rattle.bcn_format.specs.Block.{number}
use Rattle.bc7_format.specs.Modes.{mode_of}
use Rattle.bc7_format.proofs.Subsets.{sixteen_bytes}
use Rattle.bc7_fields.specs.Fields.{direct_pixels}
use Rattle.bc7_fields.proofs.Showing.{pixels_are}
use Rattle.profile_rules.specs.Profile.{Admitted}
use Rattle.profile_rules.specs.Small.{DecodesSmall}
use Rattle.profile_rules.proofs.Theorems.{small_refuses, small_shows}

module _ (bs : List ℕ) {k : ℕ} (counted : k ≡ mode_of bs) where
  -- what the mode's function shows is what the small decoder promises
  pub shows : length bs ≡ 16 → ((i : ℕ) → get_or bs i 0 < 256) → {m : ℕ} → mode_of bs ≡ m → m < 8 → Admitted bs
      → {n : ℕ} → n ≡ number bs → {r : List (List ℕ)} → r ≡ direct_pixels m n → DecodesSmall bs 0 r
  shows size bytes is low a of er =
      let s = small_shows bs a in
      let drawn = er ∙ ap₂ direct_pixels (sym is) of ∙ sym (pixels_are bs (sixteen_bytes bs size (λ i h. bytes i)) (rw is low)) in
      (sym s.0, drawn ∙ sym s.1)

  pub refuses : k ≢ 4 → k ≢ 5 → k ≢ 6 → DecodesSmall bs 20 (replicate 16 (replicate 4 0))
  refuses four five six =
      let r = small_refuses bs (⊎_elim (λ e. four (counted ∙ e)) (⊎_elim (λ e. five (counted ∙ e)) (λ e. six (counted ∙ e)))) in
      (sym r.0, sym r.1)
