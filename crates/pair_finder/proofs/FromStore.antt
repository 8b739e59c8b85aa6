-- What the pairs' functions ask of the arrays holds of a pack that was read, and what they answer is what is asked of it:
-- its pairs, where they stand, its arcs.
use mathlib.Core.Path.{◌≡◌, refl, sym, ap, ◌∙◌}
use mathlib.Core.Bool.{Bool, true, ◌&&◌}
use mathlib.Core.List.{List, [], ◌∷◌, ◌++◌, append_assoc, append-nil}
use Prim.Native.Nat.{ℕ, zero, suc, ◌+◌, ◌*◌, ◌-◌, ◌≤◌, ◌<◌}
use native.Mathlib.Nat.{add-zero, zero-add}
use native.Mathlib.Omega.{arith}
use lib.Dec.{ltb}
use lib.ListN.{length, get_or, take}
use lib.Seq.{take-suc, take-length, length-take-le}
use borrow.Author.Tests.{ltb-true}
use Rattle.rewriting.specs.Terms.{nil, Rule, no_rule, System, rule}
use Rattle.rewriting.specs.Pairs.{Pair, subterms, defined_root, pair_left, pair_right, is_pair}
use Rattle.rewriting.specs.Systems.{Good, GoodRule}
use Rattle.rewriting.proofs.Basics.{by_test, each_at}
use Rattle.rewriting.proofs.Trees.{term_well, subterms_terms}
use Rattle.terms.specs.Sides.{flat}
use Rattle.terms.specs.Kept.{Kept}
use Rattle.terms.proofs.Parsing.{length_flat}
use Rattle.pack_reader.specs.Stored.{Stored}
use Rattle.pairs.specs.Listing.{a_pair, pairs_from, pairs_of, pairs}
use Rattle.pairs.specs.Arcs.{arc}
use Rattle.pair_finder.specs.Walking.{is_defined, rule_pairs, first_pairs, Laid, KeptPack, ArcAsked}
use Rattle.pair_finder.proofs.Kept.{kept_part}
use Rattle.pair_finder.proofs.Subterms.{Stand, subterms_stand, subterm_kept, kept_defined, places_pairs}

-- an arc does not ask at which place of its rule the other pair stands
pub arc_any_place : (p : System) (q : Pair) (i k : ℕ) → arc p q (a_pair i k) ≡ arc p q (a_pair i 0)
unfolding arc pair_left
arc_any_place p q i k = refl

-- the pairs of one rule more
pairs_of_more : (p : System) (i : ℕ) (rs : List Rule) (r : Rule) →
    pairs_of i p (rs ++ (r ∷ [])) ≡ pairs_of i p rs ++ pairs_from (i + length rs) 0 p (subterms r.right)
unfolding pairs_of
pairs_of_more p i [] r = rw (add-zero i) (append-nil _)
pairs_of_more p i (q ∷ rs) r =
    let e : i + suc (length rs) ≡ suc i + length rs = omega arith in
    rw (pairs_of_more p (suc i) rs r, e) (sym (append_assoc (pairs_from i 0 p (subterms q.right)) _ _))

module _ (p : System) (symbols rules : ℕ) (ar ss ns ms : List ℕ) (s : Stored p symbols rules ar ss ns ms) where
  -- where rule i's right side begins and ends
  abbrev begins : ℕ → ℕ
  begins i = get_or ss (2 * i + 1) 0

  abbrev ends : ℕ → ℕ
  ends i = get_or ss (2 * i + 2) 0

  in_rules : {i : ℕ} → i < rules → i < length p.rules
  in_rules h = omega (arith, s.rules_are)

  pub stored_rule : {i : ℕ} → i < rules → GoodRule p (rule p i)
  unfolding Good
  stored_rule {i} h = s.good.good i (in_rules h)

  -- the right sides lie in order
  pub stored_laid : length ss ≡ 129 → Laid ss ns rules
  stored_laid long =
      record {
        few = omega (arith, s.rules_are, s.good.rule_count);
        starts_long = long;
        rises = λ i h. omega (arith, (s.rules_at i h).right_long);
        short = λ i h. omega (arith, (s.rules_at i h).right_long, s.good.rights i (in_rules h));
        within = λ i h. omega (arith, (s.rules_at i h).right_long, (s.rules_at i h).right_kept.within);
      }

  -- the pairs found are the system's
  subterms_there : {i : ℕ} → i < rules → Stand p (flat (rule p i).right) (subterms (rule p i).right)
  subterms_there h = subterms_stand p _ (stored_rule h).right_term

  stored_rule_pairs : (i : ℕ) → i < rules → rule_pairs ss ns ms i ≡ pairs_from i 0 p (subterms (rule p i).right)
  unfolding rule_pairs
  stored_rule_pairs i h =
      let at = s.rules_at i h in
      rw (kept_part ns (begins i) (ends i) (flat (rule p i).right) at.right_long at.right_kept)
      (places_pairs p ms s.flags_are s.good.symbols i 0 (subterms_there h))

  stored_first_pairs : (n : ℕ) → n ≤ rules → first_pairs ss ns ms n ≡ pairs_of 0 p (take n p.rules)
  unfolding first_pairs pairs_of rule
  stored_first_pairs zero h = refl
  stored_first_pairs (suc n) h =
      let l = in_rules h in
      let e : 0 + length (take n p.rules) ≡ n = zero-add _ ∙ length-take-le n p.rules (omega arith) in
      rw (take-suc p.rules n no_rule l, pairs_of_more p 0 (take n p.rules) (rule p n), e, stored_first_pairs n (omega arith), stored_rule_pairs n h)

  pub stored_pairs : first_pairs ss ns ms rules ≡ pairs p
  unfolding pairs
  stored_pairs =
      stored_first_pairs rules (omega arith) ∙ ap (pairs_of 0 p) (ap (λ (n : ℕ). take n p.rules) s.rules_are ∙ take-length p.rules)

  -- a pair is a rule, a place of its right side, and a defined symbol there
  pub subterm_at : (i k : ℕ) → i < rules → k < length (subterms (rule p i).right) → Kept ns (begins i + k) (flat (pair_right p (a_pair i k)))
  unfolding pair_right
  subterm_at i k h l = subterm_kept p ns (begins i) k (subterms_there h) (s.rules_at i h).right_kept l

  stored_defined : (i k : ℕ) → i < rules → k < length (subterms (rule p i).right) →
      is_defined ms (get_or ns (begins i + k) 0) ≡ defined_root p (pair_right p (a_pair i k))
  unfolding pair_right
  stored_defined i k h l =
      let term = each_at nil (subterms_terms p _ (term_well p _ (stored_rule h).right_term)) k l in
      kept_defined p ms s.flags_are s.good.symbols ns (begins i + k) _ term (subterm_at i k h l)

  pub stored_place : (i k : ℕ) → is_pair p (a_pair i k) ≡ (ltb i rules && (ltb k (ends i - begins i) && is_defined ms (get_or ns (begins i + k) 0)))
  unfolding is_pair
  stored_place i k =
      by_test (ltb i rules)
      (λ h.
      let r = ltb-true i rules h in
      let e : ends i - begins i ≡ length (subterms (rule p i).right) = omega (arith, (s.rules_at i r).right_long, length_flat (rule p i).right) in
      by_test (ltb k (length (subterms (rule p i).right)))
      (λ l. rw (← s.rules_are, e, h, l) (sym (stored_defined i k r (ltb-true _ _ l))))
      (λ l. rw (← s.rules_are, e, h, l)))
      (λ h. rw (← s.rules_are, h))

  -- of a pair and a rule an arc may be asked
  abbrev pub stored_arc : KeptPack rules ar ss ns ms → (q : Pair) (other : ℕ) → is_pair p q ≡ true → other < rules → ArcAsked ar ss ns ms (begins q.at_rule + q.place) other
  stored_arc arrays q other is h =
      record {
        rules = rules;
        kept = record { arrays = arrays; system = p; symbols = symbols; stored = s };
        pair = q;
        is = is;
        at_right = refl;
        other_rule = h;
      }

  -- and what is answered to it is the arc to each pair of that rule
  pub stored_arc_answer : KeptPack rules ar ss ns ms → (q r : Pair) → is_pair p q ≡ true → r.at_rule < rules →
      (b : Bool) → ((a : ArcAsked ar ss ns ms (begins q.at_rule + q.place) r.at_rule) → b ≡ arc a.kept.system a.pair (a_pair r.at_rule 0)) → b ≡ arc p q r
  stored_arc_answer arrays q r is h b answer = answer (stored_arc arrays q r.at_rule is h) ∙ sym (arc_any_place p q r.at_rule r.place)
