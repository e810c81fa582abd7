-- What `read_wanted` owes: each round's bytes stand behind those that came before.
-- Assumes nothing.
use Rattle.std.proofs.Common.{◌≡◌, ◌+◌, ◌≤◌, ℕ, List, ◌++◌, rules, arith, length, take, ap, sym, ◌∙◌, subst, length-take-le}
use Rattle.std.specs.Io.KnownBytes.{Consumes}
use Rattle.std.proofs.KnownBytes.{Consumes-trans}
use borrow.Rule.Slice.PartMut.{put_mid, post_of}
use lib.Seq.{take-append-le, take-append-add}
use Rattle.pipes.proofs.read_wanted.Goals as goal

-- the first a + n of a list into which ys came from a on are its first a and the first n of ys
take_part : (a k n : ℕ) (xs ys : List ℕ) → a ≤ length xs → n ≤ length ys → take (a + n) (put_mid a k xs ys) ≡ take a xs ++ take n ys
take_part a k n xs ys within fits =
    subst
    (λ m. take (m + n) (put_mid a k xs ys) ≡ take a xs ++ take n ys)
    (length-take-le a xs within)
    (take-append-add (take a xs) (ys ++ post_of a k xs) n ∙ ap (λ l. take a xs ++ l) (take-append-le n ys (post_of a k xs) fits))

pub loop-done-preserved : goal.loop-done-preserved
loop-done-preserved g c =
    let a = c.loop-done.done in
    let n = c.in_ok-count.count in
    let (few, long, came) = c.loop-done.invariant in
    (search rules, search rules, subst (Consumes _ _) (sym (take_part a _ n _ _ (omega arith) (search rules))) (Consumes-trans _ _ _ _ _ came c.in_ok-count.ensures.next))
