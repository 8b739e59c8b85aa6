-- The certificate's refusals: their numbers are 1, 2, 3 and 7; one met at a record stands whatever follows that record;
-- and a certificate that is not refused obeys the table of what may follow what.
use mathlib.Core.Path.{◌≡◌, refl, sym, ◌∙◌}
use mathlib.Core.Bool.{Bool, true, false, cond}
use mathlib.Core.List.{List, [], ◌∷◌, ◌++◌}
use mathlib.Core.Option.{Option, none, some}
use Prim.Native.Nat.{ℕ, ◌%◌, ◌≤◌, ◌<◌}
use native.Mathlib.Omega.{arith}
use lib.Dec.{eqb}
use lib.ListN.{length}
use borrow.Author.Tests.{lt-ltb}
use Rattle.rewriting.specs.Terms.{System}
use Rattle.rewriting.specs.Systems.{member}
use Rattle.rewriting.proofs.Basics.{and_left, and_both}
use Rattle.records.specs.declared.Record.{Record}
use Rattle.records.specs.Outcomes.{Outcome, refused, passed, after, refusal}
use Rattle.records.specs.Records.{all_records, length_bad}
use Rattle.records.specs.Order.{certificate_edge, components_start, certificate_start, rows, index, obeys}
use Rattle.records.proofs.Outcomes.{test_held, test_failed, after_passed, after_same, after_after, RefusedWithin, test_within, refusal_within, wider, within}
use Rattle.records.proofs.Bytes.{records_append}
use Rattle.records.proofs.Table.{may_follow_stands, starts_agree}
use Rattle.certificates.specs.Components.{Component}
use Rattle.certificates.specs.CertificateReading.{CertificateReading, most_certificate_bytes, has_weighting, component_read, pair_read, weight_read, marked_read, weighting_read, inside_read, cert_step, cert_end, cert_from, cert_steps, components_from, read_certificate}
use Rattle.certificates.proofs.OneRecord.{nothing_read, passes_reads, reads_row}

-- THE NUMBERS

data InTable {A : Type 0} : Outcome A → Type 0 where
  stray_record : InTable (refused 2)
  out_of_range : InTable (refused 3)
  no_such_pair : InTable (refused 7)
  not_refused : (x : A) → InTable (passed x)

test_in_table : {A : Type 0} (b : Bool) (o u : Outcome A) → InTable o → InTable u → InTable (cond b o u)
test_in_table true o u h k = h
test_in_table false o u h k = k

after_in_table : {A B : Type 0} (o : Outcome A) (k : A → Outcome B) → InTable o → ((x : A) → InTable (k x)) → InTable (after o k)
after_in_table _ k stray_record f = stray_record
after_in_table _ k out_of_range f = out_of_range
after_in_table _ k no_such_pair f = no_such_pair
after_in_table _ k (not_refused x) f = f x

-- `search tabled` proves of a reading made of tests and readings that its refusals are in the table
ruleset tabled = (test_in_table, after_in_table, stray_record, out_of_range, no_such_pair, not_refused)

module _ (p : System) (r : Record) (x : CertificateReading) where
  component_tabled : InTable (component_read r x)
  unfolding component_read
  component_tabled = search tabled

  pair_tabled : (c : Component) → InTable (pair_read p r x c)
  unfolding pair_read
  pair_tabled c = search tabled

  weight_tabled : (c : Component) → InTable (weight_read p r x c)
  unfolding weight_read
  weight_tabled c = search tabled

  marked_tabled : (c : Component) → InTable (marked_read p r x c)
  unfolding marked_read
  marked_tabled c = search tabled

  weighting_tabled : (c : Component) → InTable (weighting_read r x c)
  unfolding weighting_read
  weighting_tabled c = search tabled

  inside_tabled : (begun : Option Component) → InTable (inside_read p r x begun)
  unfolding inside_read
  inside_tabled none = stray_record
  inside_tabled (some c) = search (tabled, pair_tabled, weight_tabled, marked_tabled, weighting_tabled)

  step_tabled : InTable (cert_step p r x)
  unfolding cert_step
  step_tabled = search (tabled, component_tabled, inside_tabled)

end_tabled : (x : CertificateReading) → InTable (cert_end x)
unfolding cert_end
end_tabled x = search tabled

from_tabled : (p : System) (rs : List Record) (x : CertificateReading) → InTable (cert_from p rs x)
unfolding cert_from
from_tabled p [] x = end_tabled x
from_tabled p (r ∷ rs) x = after_in_table (cert_step p r x) _ (step_tabled p r x) (λ y. from_tabled p rs y)

in_table_within : {A : Type 0} {o : Outcome A} → InTable o → RefusedWithin 2 7 o
in_table_within stray_record = search within
in_table_within out_of_range = search within
in_table_within no_such_pair = search within
in_table_within (not_refused x) = search within

in_table_number : {A : Type 0} {o : Outcome A} (cut : Bool) → InTable o → member (refusal (cond cut (refused 1) o)) (0 ∷ 1 ∷ 2 ∷ 3 ∷ 7 ∷ []) ≡ true
unfolding member
in_table_number true h = refl
in_table_number false stray_record = refl
in_table_number false out_of_range = refl
in_table_number false no_such_pair = refl
in_table_number false (not_refused x) = refl

module _ (p : System) (ds : List ℕ) where
  -- 1 is given for the length
  pub certificate_too_long : 24576 < length ds → read_certificate p ds ≡ refused 1
  unfolding read_certificate length_bad
  certificate_too_long h = rw (lt-ltb 24576 (length ds) h)

  pub length_tested : length_bad most_certificate_bytes ds ≡ false → read_certificate p ds ≡ components_from p components_start (all_records ds)
  unfolding read_certificate
  length_tested h = rw h

  -- and for nothing else
  pub length_first : length_bad most_certificate_bytes ds ≡ false → RefusedWithin 2 7 (read_certificate p ds)
  unfolding components_from read_certificate
  length_first h = rw h (in_table_within (from_tabled p (all_records ds) _))

  -- if refused, then with a number from 1 to 7, so that 0 is no refusal
  pub read_range : RefusedWithin 1 7 (read_certificate p ds)
  unfolding components_from read_certificate
  read_range = test_within (length_bad most_certificate_bytes ds) (refused 1) _ (search within) (wider (in_table_within (from_tabled p (all_records ds) _)))

  pub certificate_refusal_range : refusal (read_certificate p ds) ≤ 7
  certificate_refusal_range = refusal_within read_range

  pub certificate_refusals : member (refusal (read_certificate p ds)) (0 ∷ 1 ∷ 2 ∷ 3 ∷ 7 ∷ []) ≡ true
  unfolding components_from read_certificate
  certificate_refusals = in_table_number (length_bad most_certificate_bytes ds) (from_tabled p (all_records ds) _)

-- A REFUSAL STANDS whatever follows the record at which it was met

module _ (p : System) where
  -- the records, then the end
  pub from_steps : (rs : List Record) (x : CertificateReading) → cert_from p rs x ≡ after (cert_steps p rs x) cert_end
  unfolding cert_from cert_steps
  from_steps [] x = refl
  from_steps (r ∷ rs) x = after_same (cert_step p r x) _ _ (from_steps rs) ∙ sym (after_after (cert_step p r x) _ cert_end)

  pub steps_append : (rs more : List Record) (x : CertificateReading) → cert_steps p (rs ++ more) x ≡ after (cert_steps p rs x) (cert_steps p more)
  unfolding cert_steps
  steps_append [] more x = refl
  steps_append (r ∷ rs) more x = after_same (cert_step p r x) _ _ (steps_append rs more) ∙ sym (after_after (cert_step p r x) _ (cert_steps p more))

  pub refusal_stands : (rs more : List Record) (x : CertificateReading) (n : ℕ) → cert_steps p rs x ≡ refused n → cert_from p (rs ++ more) x ≡ refused n
  refusal_stands rs more x n e = from_steps (rs ++ more) x ∙ rw (steps_append rs more x, e)

  -- in bytes: a file of whole records that is refused within itself is refused so with whatever after it, the length allowing
  pub read_stands : (ds more : List ℕ) (n : ℕ) → length ds % 8 ≡ 0 → length_bad most_certificate_bytes (ds ++ more) ≡ false
      → cert_steps p (all_records ds) nothing_read ≡ refused n → read_certificate p (ds ++ more) ≡ refused n
  unfolding components_from read_certificate
  read_stands ds more n whole short e = rw (short, records_append ds more whole) (refusal_stands (all_records ds) (all_records more) _ n e)

  -- A CERTIFICATE THAT PASSES OBEYS THE TABLE

  pub records_obey : (rs : List Record) (x : CertificateReading) (cs : List Component) → 5 ≤ x.last → x.last < rows → cert_from p rs x ≡ passed cs
      → obeys x.last certificate_edge rs ≡ true
  unfolding cert_from cert_end cert_step obeys
  records_obey [] x cs l m e =
      may_follow_stands x.last certificate_edge x.due (has_weighting x.begun) (and_left _ (eqb x.more 0) (test_held _ _ _ e).0)
  records_obey (r ∷ rs) x cs l m e =
      let step = after_passed (cert_step p r x) _ e in
      let y : CertificateReading = step.0 in
      let next = reads_row p (passes_reads p x y r l m step.1) in
      and_both
      (may_follow_stands x.last (index r.kind) x.due (has_weighting x.begun) (test_held _ _ _ step.1).0)
      (rw next.0 at (records_obey rs y cs next.1 next.2 step.2))

  pub certificates_obey : (ds : List ℕ) (cs : List Component) → read_certificate p ds ≡ passed cs → obeys certificate_start certificate_edge (all_records ds) ≡ true
  unfolding components_from read_certificate
  certificates_obey ds cs e =
      starts_agree certificate_edge (all_records ds)
      ∙ records_obey (all_records ds) _ cs (omega arith) (omega arith) (test_failed (length_bad most_certificate_bytes ds) _ 1 e).1
