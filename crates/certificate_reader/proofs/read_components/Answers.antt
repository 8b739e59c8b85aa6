-- `certificate_reader::read_components` meets its contract. The loop's invariant: the state is sound, counts no more than the
-- records read, and for each system that the arrays hold it tells what the first i records are.
use mathlib.Core.Path.{◌≡◌, sym, ap, ◌∙◌, subst}
use mathlib.Core.Bool.{true}
use mathlib.Core.List.{List, ◌∷◌}
use Prim.Native.Nat.{ℕ, suc, ◌*◌, ◌/◌, ◌<◌}
use native.Mathlib.Omega.{arith}
use lib.ListN.{length, drop}
use Rattle.rewriting.specs.Terms.{System}
use Rattle.records.specs.declared.Record.{Record}
use Rattle.std.specs.Prelude.{Some}
use Rattle.records.specs.Records.{all_records}
use Rattle.records.specs.Order.{index, may_follow}
use Rattle.records.specs.Rows.{row_number}
use Rattle.records.proofs.Outcomes.{handed_on}
use Rattle.records.specs.Wanted.{wanted_at}
use Rattle.records.proofs.Bytes.{drop_records}
use Rattle.pack_reader.specs.Stored.{Stored}
use Rattle.pack_reader.proofs.Wanted.{found_at, stray_at}
use Rattle.certificate_reader.specs.declared.State.{State}
use Rattle.std.specs.Prelude.{Result, Ok}
use Rattle.records.specs.declared.Refusal.{Refusal}
use Rattle.std.specs.Prelude.{Result, Ok}
use Rattle.certificates.specs.CertificateReading.{cert_step}
use Rattle.certificate_reader.specs.Working.{StepsAs, GoesOn}
use Rattle.certificate_reader.proofs.Mirrored.{start_sound}
use Rattle.certificate_reader.proofs.Turns.{Told, told_nothing, told_refusal, told_next}
use Rattle.certificate_reader.proofs.Ends.{ends_refused, ends_stray, ends_early, ends_missing, ends_read}
use Rattle.certificate_reader.proofs.read_components.Goals as goal

-- a record r that may stand was read
module _ (ds : List ℕ) (i : ℕ) (s : State) (r : Record) (w : wanted_at ds (8 * i) (row_number s.last) s.due s.weighted ≡ Some r) where
  stands : may_follow (row_number s.last) (index r.kind) s.due s.weighted ≡ true
  stands =
      let f = found_at ds (8 * i) (row_number s.last) s.due s.weighted w in
      subst (λ (q : Record). may_follow (row_number s.last) (index q.kind) s.due s.weighted ≡ true) (sym f.1) f.0

  here : i < length ds / 8 → drop i (all_records ds) ≡ r ∷ drop (suc i) (all_records ds)
  here h =
      let f = found_at ds (8 * i) (row_number s.last) s.due s.weighted w in
      drop_records ds i h ∙ ap (λ (q : Record). q ∷ drop (suc i) (all_records ds)) (sym f.1)

pub loop-i-init : goal.loop-i-init
loop-i-init c = (start_sound, omega arith, omega arith, λ p stored. told_nothing p _)

pub returns-in_default : goal.returns-in_default
returns-in_default c =
    let l = c.loop-i in
    λ p stored.
    ends_stray p _ l.i l.s (l.invariant.3 p stored) (omega arith)
    (stray_at _ (8 * l.i) (row_number l.s.last) l.s.due l.s.weighted (sym c.read_wanted.ensures ∙ c.in_default.is))

pub step-requires : goal.step-requires
step-requires c =
    let l = c.loop-i in
    let asked = c.requires in
    record {
      symbols_few = asked.symbols_few;
      arrays = asked.arrays;
      number_small = omega (arith, l.invariant.1, asked.file.short);
      begun_small = omega (arith, l.invariant.2, asked.file.short);
      sound = l.invariant.0;
      follows = stands _ l.i l.s c.in-Some.r (sym c.read_wanted.ensures ∙ c.in-Some.is);
    }

pub returns-in_err-s : goal.returns-in_err-s
returns-in_err-s c =
    let i : ℕ = c.loop-i.i in
    let s : State = c.loop-i.s in
    let r : Record = c.in-Some.r in
    let all : List Record = all_records c.args.certificate.now in
    let Holds : System → Type 0 = (λ p. Stored p c.args.pack.now.symbols c.args.pack.now.rules c.args.pack.now.arities.now c.args.pack.now.starts.now c.args.pack.now.nodes.now c.args.pack.now.defined.now) in
    let told : (p : System) → Holds p → Told p all i s = (λ p stored. c.loop-i.invariant.3 p stored) in
    let this : drop i all ≡ r ∷ drop (suc i) all = here _ i s r (sym c.read_wanted.ensures ∙ c.in-Some.is) (omega arith) in
    let answered : (p : System) (stored : Holds p) (a : Result State Refusal) → c.step.result ≡ a → StepsAs (cert_step p r (told p stored).reading) a = (λ p stored a e. subst (λ (a : Result State Refusal). StepsAs (cert_step p r (told p stored).reading) a) e (c.step.ensures.means p (told p stored).reading stored (told p stored).mirrors)) in
    λ p stored.
    rw (handed_on c.from_residual.result c.from_residual.ensures.1) (ends_refused p _ _
    (told_refusal p all i s (told p stored) r this _ (answered p stored _ c.in_err-s.was)))

pub loop-i-preserved : goal.loop-i-preserved
unfolding GoesOn
loop-i-preserved c =
    let i : ℕ = c.loop-i.i in
    let s : State = c.loop-i.s in
    let r : Record = c.in-Some.r in
    let all : List Record = all_records c.args.certificate.now in
    let Holds : System → Type 0 = (λ p. Stored p c.args.pack.now.symbols c.args.pack.now.rules c.args.pack.now.arities.now c.args.pack.now.starts.now c.args.pack.now.nodes.now c.args.pack.now.defined.now) in
    let told : (p : System) → Holds p → Told p all i s = (λ p stored. c.loop-i.invariant.3 p stored) in
    let this : drop i all ≡ r ∷ drop (suc i) all = here _ i s r (sym c.read_wanted.ensures ∙ c.in-Some.is) (omega arith) in
    let answered : (p : System) (stored : Holds p) (a : Result State Refusal) → c.step.result ≡ a → StepsAs (cert_step p r (told p stored).reading) a = (λ p stored a e. subst (λ (a : Result State Refusal). StepsAs (cert_step p r (told p stored).reading) a) e (c.step.ensures.means p (told p stored).reading stored (told p stored).mirrors)) in
    let next = c.in_ok-s.s in
    let sound = c.step.ensures.on next c.in_ok-s.was in (
      sound.0,
      omega (arith, sound.1, c.loop-i.invariant.1),
      omega (arith, sound.2, c.loop-i.invariant.2),
      λ p stored. told_next p all i s (told p stored) r this next (answered p stored (Ok next) c.in_ok-s.was),
    )

pub returns-then-not-may_end : goal.returns-then-not-may_end
returns-then-not-may_end c =
    let l = c.loop-i in
    λ p stored.
    ends_early p _ l.i l.s (l.invariant.3 p stored) (omega arith)
    (sym c.may_end.ensures ∙ c.if-not-may_end.true)

pub returns-then-s-ne0 : goal.returns-then-s-ne0
returns-then-s-ne0 c =
    let may_end : c.may_end.result ≡ true = c.if-not-may_end.false in
    let l = c.loop-i in
    λ p stored.
    ends_missing p _ l.i l.s (l.invariant.3 p stored) (omega arith) (sym c.may_end.ensures ∙ may_end) c.if-s-ne0.true

pub returns : goal.returns
returns c =
    let may_end : c.may_end.result ≡ true = c.if-not-may_end.false in
    let l = c.loop-i in
    λ p stored.
    ends_read p _ l.i l.s (l.invariant.3 p stored) (omega arith) (sym c.may_end.ensures ∙ may_end) c.if-s-ne0.false
