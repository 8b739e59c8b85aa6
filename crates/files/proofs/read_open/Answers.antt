-- What one more read took stands behind what was read before.
use Rattle.std.proofs.Common.{◌≡◌, ℕ, ◌+◌, ◌-◌, ◌≤◌, List, ◌++◌, rules, length, take, sym, ap, ◌∙◌, subst, length-take-le}
use Rattle.std.specs.Io.KnownBytes.{Consumes}
use Rattle.std.proofs.KnownBytes.{Consumes-trans}
use borrow.Rule.Slice.PartMut.{put_mid, post_of}
use lib.Seq.{take-append-add, take-append-le}
use Rattle.files.proofs.read_open.Goals as goal

-- what stands before a place, and the first bytes of the part that begins there
behind : (a k n : ℕ) (xs part : List ℕ) → a ≤ length xs → n ≤ length part → take (a + n) (put_mid a k xs part) ≡ take a xs ++ take n part
behind a k n xs part within fits =
    let rest = part ++ post_of a k xs in
    ap (λ m. take (m + n) (take a xs ++ rest)) (sym (length-take-le a xs within))
    ∙ take-append-add (take a xs) rest n
    ∙ ap (λ l. take a xs ++ l) (take-append-le n part (post_of a k xs) fits)

pub loop-done-preserved : goal.loop-done-preserved
loop-done-preserved g c =
    let l = c.loop-done in
    let n = c.in_ok-n.n in
    let part = c.read.new.buf in
    record {
      within = search rules;
      taken =
          subst
          (Consumes _ _)
          (sym (behind l.done (length l.buf - l.done) n l.buf part l.invariant.within c.in_ok-n.ensures.bound.0))
          (Consumes-trans _ _ _ _ _ l.invariant.taken c.in_ok-n.ensures.bytes.0);
    }
