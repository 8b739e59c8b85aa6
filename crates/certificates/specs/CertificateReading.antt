-- The certificate: 1 for its length; then front to back, for each record 2, 3 and 7 in this order.
use Rattle.std.specs.Prelude.{Bool, false, ◌&&◌, not, cond, List, [], ◌∷◌, ◌++◌, ℕ, ◌-◌, ltb, leb, eqb, length, get_or}
use Rattle.std.proofs.Math.Option.{Option, none, some}
use Rattle.rewriting.specs.Terms.{System}
use Rattle.rewriting.specs.Pairs.{is_pair, defined}
use Rattle.records.specs.declared.Record.{Record}
use Rattle.records.specs.Outcomes.{Outcome, refused, passed, after, unless}
use Rattle.records.specs.Records.{all_records, length_bad}
use Rattle.records.specs.Order.{c_component, p_pair, w_weight, m_marked, certificate_edge, components_start, index, may_follow}
use Rattle.records.specs.Rising.{last_below}
use Rattle.pairs.specs.Listing.{a_pair}
use Rattle.polynomials.specs.Polynomials.{Weight}
use Rattle.polynomials.specs.Judging.{is_none}
use Rattle.certificates.specs.Components.{Component, first_weighting, with_pair, with_weighting, last_weighting, with_weight, with_marked, weight_of}

-- THE LIMITS of documents 01 and 02
abbrev pub most_certificate_bytes : ℕ
most_certificate_bytes = 24576

abbrev pub most_pairs : ℕ
most_pairs = 2048

abbrev pub most_weightings : ℕ
most_weightings = 8

-- what has been read: the last record's row of the table, the components finished, the one begun, its pairs still due and its
-- weightings still to begin
pub record CertificateReading : Type 0 where
  pub last : ℕ
  pub done : List Component
  pub begun : Option Component
  pub due : ℕ
  pub more : ℕ

abbrev pub going_on : (last : ℕ) → List Component → Component → (due more : ℕ) → CertificateReading
going_on k cs c n m = record { last = k; done = cs; begun = some c; due = n; more = m }

unfoldable pub with_begun : List Component → Option Component → List Component
with_begun cs none = cs
with_begun cs (some c) = cs ++ (c ∷ [])

unfoldable pub components_of : CertificateReading → List Component
components_of x = with_begun x.done x.begun

unfoldable pub has_weighting : Option Component → Bool
has_weighting none = false
has_weighting (some c) = not (is_none c.weightings)

-- C: its number, weightings and pairs; without a weighting there is one pair. No weighting of the component before is missing
unfoldable pub component_read : Record → CertificateReading → Outcome CertificateReading
component_read r x =
    let cs = components_of x in
    unless ((eqb x.more 0 && (eqb r.one 0 && eqb r.a (length cs))) && not (eqb r.b 0 && ltb 1 r.c)) 2
    (unless (leb r.b most_weightings && (leb 1 r.c && leb r.c most_pairs)) 3
    (passed (going_on (index r.kind) cs (record { pairs = []; weightings = first_weighting r.b }) r.c (r.b - 1))))

-- P: a rule and a place; 7 where they name no pair
unfoldable pub pair_read : System → Record → CertificateReading → Component → Outcome CertificateReading
pair_read p r x c =
    let q = a_pair r.a r.b in
    unless ((eqb r.one 0 && eqb r.c 0) && last_below (λ q. q.at_rule) (λ q. q.place) c.pairs r.a r.b) 2
    (unless (is_pair p q) 7 (passed (going_on (index r.kind) x.done (with_pair c q) (x.due - 1) x.more)))

unfoldable pub weights_below : List Weight → (symbol place : ℕ) → Bool
weights_below ws f i = last_below (λ w. w.symbol) (λ w. w.place) ws f i

-- the symbol's constant, or one of its arguments
unfoldable pub is_place : System → (symbol place : ℕ) → Bool
is_place p f i = ltb f (length p.arities) && leb i (get_or p.arities f 0)

-- W: a symbol, a place of it and the value there
unfoldable pub weight_read : System → Record → CertificateReading → Component → Outcome CertificateReading
weight_read p r x c =
    unless (eqb r.one 0 && weights_below (last_weighting c.weightings).weights r.a r.b) 2
    (unless (is_place p r.a r.b) 3 (passed (going_on (index r.kind) x.done (with_weight c (weight_of r)) 0 x.more)))

-- M: the same of a tuple symbol, which a defined symbol has
unfoldable pub marked_read : System → Record → CertificateReading → Component → Outcome CertificateReading
marked_read p r x c =
    unless (eqb r.one 0 && weights_below (last_weighting c.weightings).marked r.a r.b) 2
    (unless (is_place p r.a r.b && defined p r.a) 3
    (passed (going_on (index r.kind) x.done (with_marked c (weight_of r)) 0 x.more)))

-- L: the number of the weighting that it begins, of those still to come
unfoldable pub weighting_read : Record → CertificateReading → Component → Outcome CertificateReading
weighting_read r x c =
    unless ((eqb r.one 0 && eqb r.a (length c.weightings)) && ((eqb r.b 0 && eqb r.c 0) && leb 1 x.more)) 2
    (passed (going_on (index r.kind) x.done (with_weighting c) 0 (x.more - 1)))

-- P, W, M and L stand in the component begun; the table lets none stand before the first C
unfoldable pub inside_read : System → Record → CertificateReading → Option Component → Outcome CertificateReading
inside_read p r x none = refused 2
inside_read p r x (some c) =
    cond (eqb r.kind p_pair) (pair_read p r x c)
    (cond (eqb r.kind w_weight) (weight_read p r x c)
    (cond (eqb r.kind m_marked) (marked_read p r x c) (weighting_read r x c)))

-- one record: 2 where its kind may not stand here
unfoldable pub cert_step : System → Record → CertificateReading → Outcome CertificateReading
cert_step p r x =
    unless (may_follow x.last (index r.kind) x.due (has_weighting x.begun)) 2
    (cond (eqb r.kind c_component) (component_read r x) (inside_read p r x x.begun))

-- the end: the table lets it come, and no weighting is missing
unfoldable pub cert_end : CertificateReading → Outcome (List Component)
cert_end x =
    unless (may_follow x.last certificate_edge x.due (has_weighting x.begun) && eqb x.more 0) 2 (passed (components_of x))

unfoldable pub cert_from : System → List Record → CertificateReading → Outcome (List Component)
cert_from p [] x = cert_end x
cert_from p (r ∷ rs) x = after (cert_step p r x) (λ y. cert_from p rs y)

-- the records alone, without the end of the file
unfoldable pub cert_steps : System → List Record → CertificateReading → Outcome CertificateReading
cert_steps p [] x = passed x
cert_steps p (r ∷ rs) x = after (cert_step p r x) (λ y. cert_steps p rs y)

-- the components that stand in these records, where the table's row `row` comes before them
unfoldable pub components_from : System → (row : ℕ) → List Record → Outcome (List Component)
components_from p row rs = cert_from p rs (record { last = row; done = []; begun = none; due = 0; more = 0 })

-- the certificate of a system that was read
unfoldable pub read_certificate : System → List ℕ → Outcome (List Component)
read_certificate p ds =
    cond (length_bad most_certificate_bytes ds) (refused 1) (components_from p components_start (all_records ds))
