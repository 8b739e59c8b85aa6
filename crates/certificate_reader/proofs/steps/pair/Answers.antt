-- `certificate_reader::steps::pair` meets its contract: its tests are those of a P record, in their order.
use mathlib.Core.Path.{◌≡◌, refl, sym}
use Rattle.std.specs.Prelude.{Result, Ok, Err}
use mathlib.Core.Bool.{Bool, true, false, ◌&&◌, cond}
use Prim.Native.Nat.{ℕ, ◌<◌}
use native.Mathlib.Omega.{arith}
use borrow.Author.Tests.{eq-eqb, ne_eqb}
use lib.Dec.{eqb}
use Rattle.rewriting.specs.Pairs.{is_pair}
use Rattle.records.specs.declared.Refusal.{Refusal}
use Rattle.records.specs.declared.Refusal.TheVariants.{StrayRecord, NoSuchPair}
use Rattle.records.specs.Answers.{outcome_of}
use Rattle.records.specs.Outcomes.{refused, passed}
use Rattle.records.specs.Order.{index}
use Rattle.records.proofs.Outcomes.{not_passed}
use Rattle.pairs.specs.Listing.{a_pair}
use Rattle.pair_finder.specs.Walking.{PlaceAnswer}
use Rattle.certificates.specs.CertificateReading.{pair_read}
use Rattle.certificate_reader.specs.Working.{Tells}
use Rattle.certificate_reader.proofs.Keys.{by_key, at_most}
use Rattle.certificate_reader.proofs.Mirrored.{no_state, after_pair, stops, answers, pairs_told, pair_mirrored}
use Rattle.certificate_reader.proofs.steps.pair.Goals as goal

-- what the answer on the pair's place tells of the pair
not_named : (is : Bool) (n : ℕ) (x : Result ℕ Refusal) → ((m : ℕ) → x ≡ Ok m → ⊥) → outcome_of x ≡ cond is (passed n) (refused 7) → is ≡ false
not_named true n (Ok m) other e = absurd (other m refl)
not_named true n (Err y) other e = not_passed e
not_named false n x other e = refl

named : (is : Bool) (n k : ℕ) → passed k ≡ cond is (passed n) (refused 7) → is ≡ true
named true n k e = refl
named false n k e = not_passed (sym e)

pub returns-then-r-ne0 : goal.returns-then-r-ne0
unfolding pair_read
returns-then-r-ne0 c =
    record { on = no_state _ StrayRecord; means = λ p x d stored m is kind. rw (ne_eqb _ _ c.if-r-ne0.true) (stops StrayRecord) }

pub returns-then-r-ne0-2 : goal.returns-then-r-ne0-2
unfolding pair_read
returns-then-r-ne0-2 c =
    record {
      on = no_state _ StrayRecord;
      means = λ p x d stored m is kind. rw (eq-eqb _ _ c.if-r-ne0.false, ne_eqb _ _ c.if-r-ne0-2.true) (stops StrayRecord);
    }

pub returns-then-le : goal.returns-then-le
unfolding pair_read Tells
returns-then-le c =
    let zeros : eqb c.args.r.one 0 && eqb c.args.r.c 0 ≡ true = rw (eq-eqb _ _ c.if-r-ne0.false, eq-eqb _ _ c.if-r-ne0-2.false) in
    let small : c.args.r.b < 65536 = omega arith in
    record {
      on = no_state _ StrayRecord;
      means = λ p x d stored m is kind. rw (zeros, by_key _ _ _ _ _ _ _ (pairs_told _ x d is m) small c.key-k.ensures.is, at_most _ _ c.le.ensures c.if-le.true) (stops StrayRecord);
    }

pub returns-in_default : goal.returns-in_default
unfolding pair_read PlaceAnswer Tells
returns-in_default c =
    let zeros : eqb c.args.r.one 0 && eqb c.args.r.c 0 ≡ true = rw (eq-eqb _ _ c.if-r-ne0.false, eq-eqb _ _ c.if-r-ne0-2.false) in
    let small : c.args.r.b < 65536 = omega arith in
    record {
      on = no_state _ NoSuchPair;
      means = λ p x d stored m is kind.
          let none : is_pair p (a_pair c.args.r.a c.args.r.b) ≡ false = not_named _ _ _ c.in_default.not-Ok ((rw (c.from.ensures, c.from-2.ensures) at c.place_of.ensures) p _ _ stored) in
          rw (zeros, by_key _ _ _ _ _ _ _ (pairs_told _ x d is m) small c.key-k.ensures.is, at_most _ _ c.le.ensures c.if-le.false, none) (stops NoSuchPair);
    }

pub returns : goal.returns
unfolding pair_read PlaceAnswer index Tells
returns c =
    let zeros : eqb c.args.r.one 0 && eqb c.args.r.c 0 ≡ true = rw (eq-eqb _ _ c.if-r-ne0.false, eq-eqb _ _ c.if-r-ne0-2.false) in
    let small : c.args.r.b < 65536 = omega arith in
    record {
      on = after_pair _ _ refl refl refl;
      means = λ p x d stored m is kind.
          let one : is_pair p (a_pair c.args.r.a c.args.r.b) ≡ true = named _ _ _ ((rw (c.from.ensures, c.from-2.ensures) at c.in-Ok.ensures) p _ _ stored) in
          rw (zeros, by_key _ _ _ _ _ _ _ (pairs_told _ x d is m) small c.key-k.ensures.is, at_most _ _ c.le.ensures c.if-le.false, one, kind)
          (answers _ _ (pair_mirrored _ x d is m _ _ _ c.key-k.ensures.is small));
    }
