-- a → a is refused with 13 under every single weighting, whatever its weights.
use mathlib.Core.Path.{◌≡◌, refl, ◌∙◌}
use mathlib.Core.Bool.{true, ◌&&◌}
use mathlib.Core.List.{List, [], ◌∷◌}
use Prim.Native.Nat.{ℕ, suc, ◌≤◌, ◌<◌}
use native.Mathlib.Nat.{le_refl}
use native.Mathlib.Omega.{arith}
use lib.Dec.{eqb}
use lib.ListN.{length, get_or}
use borrow.Author.Tests.{le-ltb, le-leb}
use Rattle.rewriting.proofs.Basics.{by_test}
use Rattle.records.specs.Outcomes.{passed}
use Rattle.records.specs.Records.{all_bytes}
use Rattle.packs.specs.Encoding.{pack_bytes}
use Rattle.polynomials.specs.Polynomials.{Weight, Weighting, weight}
use Rattle.polynomials.specs.Limit.{limit}
use Rattle.certificates.specs.CertificateReading.{read_certificate}
use Rattle.certificates.specs.Encoding.{no_weight, GoodCertificate}
use Rattle.certificates.proofs.OnlyEncodings.{only_encodings}
use Rattle.judging.specs.Judges.{plain}
use Rattle.judging.specs.Judge.{judged}
use Rattle.judging.specs.Check.{check}
use Rattle.judging.proofs.Checking.{check_of_read}
use Rattle.promises.specs.Examples.{loop, loop_under}
use Rattle.promises.proofs.Computed.{computed}

pub loop_judged :
    (w : Weighting) → weight w.weights 0 0 ≤ limit → weight w.marked 0 0 ≤ limit → judged loop (plain loop) (loop_under w) ≡ 13
unfolding computed
loop_judged w h k =
    simp (le-ltb _ _ h, le-ltb _ _ k, le-leb _ _ (le_refl (weight w.weights 0 0)), le-leb _ _ (le_refl (weight w.marked 0 0)), le-ltb _ _ (le_refl (weight w.marked 0 0)))

-- a weight that a record holds is within the limit
weight_within : (ws : List Weight) (f i : ℕ) → ((k : ℕ) → k < length ws → (get_or ws k no_weight).value < 65536) → weight ws f i ≤ limit
unfolding weight limit
weight_within [] f i h = omega arith
weight_within (w ∷ ws) f i h =
    by_test (eqb w.symbol f && eqb w.place i)
    (λ e. rw e (let b = h 0 (omega arith) in omega arith))
    (λ e. rw e (weight_within ws f i (λ k l. h (suc k) (omega arith))))

-- the same from the bytes of any certificate of one component with one weighting
pub loop_checked : (ds : List ℕ) (w : Weighting) → all_bytes ds ≡ true → read_certificate loop ds ≡ passed (loop_under w) → check (pack_bytes loop) ds ≡ 13
unfolding computed GoodCertificate
loop_checked ds w d e =
    let g = ((only_encodings loop ds (loop_under w) d e).1 0 (omega arith)).weightings_good 0 (omega arith) in
    check_of_read (pack_bytes loop) ds loop (loop_under w) refl e
    ∙ loop_judged w
    (weight_within w.weights 0 0 (λ k l. (g.weights_placed k l).value_fits))
    (weight_within w.marked 0 0 (λ k l. (g.marked_placed k l).value_fits))
