-- What the table tells the code's state where a record may stand: its kind, whether pairs are due and whether there is a
-- weighting. So the step of its kind is the step.
use mathlib.Core.Path.{◌≡◌, refl, sym, subst, ◌∙◌}
use mathlib.Core.Bool.{Bool, true, false≢true}
use mathlib.Core.Option.{Option, some}
use Prim.Native.Nat.{ℕ, ◌≤◌, ◌<◌}
use native.Mathlib.Omega.{arith}
use lib.Dec.{eqb}
use borrow.Author.Tests.{eqb-true, eqb-false, eq-eqb, ne_eqb, leb-true}
use Rattle.records.specs.Rows.{row_number}
use Rattle.rewriting.specs.Terms.{System}
use Rattle.rewriting.proofs.Basics.{by_test, and_left, and_right}
use Rattle.records.specs.declared.Record.{Record}
use Rattle.records.specs.Order.{c_component, p_pair, w_weight, m_marked, l_weighting, entry, order, when_in, lets, index, may_follow}
use Rattle.certificate_reader.specs.declared.State.{State}
use Rattle.std.specs.Prelude.{Result}
use Rattle.records.specs.declared.Refusal.{Refusal}
use Rattle.certificates.specs.Components.{Component}
use Rattle.certificates.specs.CertificateReading.{CertificateReading, has_weighting, component_read, pair_read, weight_read, marked_read, weighting_read, inside_read, cert_step}
use Rattle.certificate_reader.specs.Working.{SoundState, Mirrors, StepsAs}
use Rattle.certificates.proofs.OneRecord.{OwnKind, own_C, own_P, own_W, own_M, own_L, own_kind}
use Rattle.certificate_reader.proofs.Mirrored.{may_follow_mirrored}

-- THE ROWS of a certificate

data Row : ℕ → Type 0 where
  at_start : Row 5
  after_C : Row 6
  after_P : Row 7
  after_W : Row 8
  after_M : Row 9
  after_L : Row 10

row_of : (n : ℕ) → 5 ≤ n → n ≤ 10 → Row n
row_of n h k =
    is 5 at_start (λ a. is 6 after_C (λ b. is 7 after_P (λ c. is 8 after_W (λ d. is 9 after_M (λ e. is 10 after_L (λ f. absurd (omega arith)))))))
  where
    is : (m : ℕ) → Row m → ((n ≡ m → ⊥) → Row n) → Row n
    is m this other = by_test (eqb n m) (λ e. subst Row (sym (eqb-true n m e)) this) (λ e. other (eqb-false n m e))

-- where a P may stand, pairs are due
pair_row : (due : ℕ) (w : Bool) {last : ℕ} → Row last → (last ≡ 6 → 1 ≤ due) → may_follow last 7 due w ≡ true → (last ≡ 5 → ⊥) × (1 ≤ due)
unfolding may_follow entry order when_in lets
pair_row due w at_start h m = absurd (false≢true m)
pair_row due w after_C h m = (λ e. omega arith, h refl)
pair_row due w after_P h m = (λ e. omega arith, leb-true 1 due m)
pair_row due w after_W h m = absurd (false≢true m)
pair_row due w after_M h m = absurd (false≢true m)
pair_row due w after_L h m = absurd (false≢true m)

-- where a W, an M or an L may stand, none is, and there is a weighting
weight_row : (due : ℕ) (w : Bool) {last : ℕ} → Row last → (8 ≤ last → due ≡ 0) → (8 ≤ last → w ≡ true) → may_follow last 8 due w ≡ true →
    (last ≡ 5 → ⊥) × (due ≡ 0) × (w ≡ true)
unfolding may_follow entry order when_in lets
weight_row due w at_start h k m = absurd (false≢true m)
weight_row due w after_C h k m = absurd (false≢true m)
weight_row due w after_P h k m = (λ e. omega arith, eqb-true due 0 (and_left _ _ m), and_right (eqb due 0) w m)
weight_row due w after_W h k m = (λ e. omega arith, h (omega arith), k (omega arith))
weight_row due w after_M h k m = absurd (false≢true m)
weight_row due w after_L h k m = (λ e. omega arith, h (omega arith), k (omega arith))

marked_row : (due : ℕ) (w : Bool) {last : ℕ} → Row last → (8 ≤ last → due ≡ 0) → (8 ≤ last → w ≡ true) → may_follow last 9 due w ≡ true →
    (last ≡ 5 → ⊥) × (due ≡ 0) × (w ≡ true)
unfolding may_follow entry order when_in lets
marked_row due w at_start h k m = absurd (false≢true m)
marked_row due w after_C h k m = absurd (false≢true m)
marked_row due w after_P h k m = (λ e. omega arith, eqb-true due 0 (and_left _ _ m), and_right (eqb due 0) w m)
marked_row due w after_W h k m = (λ e. omega arith, h (omega arith), k (omega arith))
marked_row due w after_M h k m = (λ e. omega arith, h (omega arith), k (omega arith))
marked_row due w after_L h k m = (λ e. omega arith, h (omega arith), k (omega arith))

weighting_row : (due : ℕ) (w : Bool) {last : ℕ} → Row last → (8 ≤ last → due ≡ 0) → (8 ≤ last → w ≡ true) → may_follow last 10 due w ≡ true →
    (last ≡ 5 → ⊥) × (due ≡ 0) × (w ≡ true)
unfolding may_follow entry order when_in lets
weighting_row due w at_start h k m = absurd (false≢true m)
weighting_row due w after_C h k m = absurd (false≢true m)
weighting_row due w after_P h k m = (λ e. omega arith, eqb-true due 0 (and_left _ _ m), and_right (eqb due 0) w m)
weighting_row due w after_W h k m = (λ e. omega arith, h (omega arith), k (omega arith))
weighting_row due w after_M h k m = (λ e. omega arith, h (omega arith), k (omega arith))
weighting_row due w after_L h k m = (λ e. omega arith, h (omega arith), k (omega arith))

-- a certificate's kind above P is W
above_weight : {k : ℕ} → OwnKind k → p_pair < k → k ≡ w_weight
above_weight own_C l = absurd (omega arith)
above_weight own_P l = absurd (omega arith)
above_weight own_W l = refl
above_weight own_M l = absurd (omega arith)
above_weight own_L l = absurd (omega arith)

-- one that is not C, P or M, and not above P, is L
rest_weighting : {k : ℕ} → OwnKind k → (k ≡ c_component → ⊥) → (k ≡ p_pair → ⊥) → k ≤ p_pair → (k ≡ m_marked → ⊥) → k ≡ l_weighting
rest_weighting own_C c p w m = absurd (c refl)
rest_weighting own_P c p w m = absurd (p refl)
rest_weighting own_W c p w m = absurd (omega arith)
rest_weighting own_M c p w m = absurd (m refl)
rest_weighting own_L c p w m = refl

-- WHERE A RECORD of kind k may stand

module _ (s : State) (sound : SoundState s) (k : ℕ) (may : may_follow (row_number s.last) (index k) s.due s.weighted ≡ true) where
  row : Row (row_number s.last)
  row = row_of (row_number s.last) sound.row_low sound.row_high

  as_kind : (n : ℕ) → k ≡ n → may_follow (row_number s.last) (index n) s.due s.weighted ≡ true
  as_kind n e = subst (λ (n : ℕ). may_follow (row_number s.last) (index n) s.due s.weighted ≡ true) e may

  pub pair_may_stand : k ≡ p_pair → ((row_number s.last) ≡ 5 → ⊥) × (1 ≤ s.due)
  unfolding index
  pair_may_stand e = pair_row s.due s.weighted row sound.after_C (as_kind p_pair e)

  pub weight_may_stand : k ≡ w_weight → ((row_number s.last) ≡ 5 → ⊥) × (s.due ≡ 0) × (s.weighted ≡ true)
  unfolding index
  weight_may_stand e = weight_row s.due s.weighted row sound.none_due sound.has_one (as_kind w_weight e)

  pub marked_may_stand : k ≡ m_marked → ((row_number s.last) ≡ 5 → ⊥) × (s.due ≡ 0) × (s.weighted ≡ true)
  unfolding index
  marked_may_stand e = marked_row s.due s.weighted row sound.none_due sound.has_one (as_kind m_marked e)

  pub weighting_may_stand : k ≡ l_weighting → ((row_number s.last) ≡ 5 → ⊥) × (s.due ≡ 0) × (s.weighted ≡ true)
  unfolding index
  weighting_may_stand e = weighting_row s.due s.weighted row sound.none_due sound.has_one (as_kind l_weighting e)

  own : OwnKind k
  own = own_kind (row_number s.last) s.due s.weighted sound.row_low (omega (arith, sound.row_high)) k may

  pub only_weight : p_pair < k → k ≡ w_weight
  only_weight = above_weight own

  pub only_weighting : (k ≡ c_component → ⊥) → (k ≡ p_pair → ⊥) → k ≤ p_pair → (k ≡ m_marked → ⊥) → k ≡ l_weighting
  only_weighting = rest_weighting own

-- and then the step is the step of its kind
module _ (p : System) (r : Record) (s : State) (x : CertificateReading) (t : Result State Refusal) (m : Mirrors s x) (may : may_follow (row_number s.last) (index r.kind) s.due s.weighted ≡ true) where
  stands : may_follow x.last (index r.kind) x.due (has_weighting x.begun) ≡ true
  stands = may_follow_mirrored s x m (index r.kind) ∙ may

  pub component_steps : r.kind ≡ c_component → StepsAs (component_read r x) t → StepsAs (cert_step p r x) t
  unfolding cert_step
  component_steps e h = rw (stands, eq-eqb r.kind c_component e) h

  module _ (c : Component) (is : x.begun ≡ some c) where
    inside_steps : (r.kind ≡ c_component → ⊥) → StepsAs (inside_read p r x (some c)) t → StepsAs (cert_step p r x) t
    unfolding cert_step
    inside_steps e h =
        rw (stands, ne_eqb r.kind c_component e) (subst (λ (o : Option Component). StepsAs (inside_read p r x o) t) (sym is) h)

    pub pair_steps : r.kind ≡ p_pair → StepsAs (pair_read p r x c) t → StepsAs (cert_step p r x) t
    unfolding inside_read
    pair_steps e h = inside_steps (λ k. omega arith) (rw (eq-eqb r.kind p_pair e) h)

    pub weight_steps : r.kind ≡ w_weight → StepsAs (weight_read p r x c) t → StepsAs (cert_step p r x) t
    unfolding inside_read
    weight_steps e h = inside_steps (λ k. omega arith) (rw (ne_eqb r.kind p_pair (λ k. omega arith), eq-eqb r.kind w_weight e) h)

    pub marked_steps : r.kind ≡ m_marked → StepsAs (marked_read p r x c) t → StepsAs (cert_step p r x) t
    unfolding inside_read
    marked_steps e h =
        inside_steps (λ k. omega arith)
        (rw (ne_eqb r.kind p_pair (λ k. omega arith), ne_eqb r.kind w_weight (λ k. omega arith), eq-eqb r.kind m_marked e) h)

    pub weighting_steps : r.kind ≡ l_weighting → StepsAs (weighting_read r x c) t → StepsAs (cert_step p r x) t
    unfolding inside_read
    weighting_steps e h =
        inside_steps (λ k. omega arith)
        (rw (ne_eqb r.kind p_pair (λ k. omega arith), ne_eqb r.kind w_weight (λ k. omega arith), ne_eqb r.kind m_marked (λ k. omega arith)) h)
