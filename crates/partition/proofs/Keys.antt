-- The keys of the rules and the lowest component of each root, one rule more, and what they say of arcs back from a pair.
use Rattle.std.proofs.Common.{◌≡◌, ℕ, ◌+◌, ◌-◌, ◌*◌, ◌%◌, ◌<◌, ◌≤◌, Bool, true, false, ◌&&◌, eqb, ltb, List, length, get_or, set, sym, refl, ap, ◌∙◌, add-one, arith, length-set, get_or-set_other, get_or-set_same, ltb-true, le-ltb, lt-ltb, eq-eqb, eqb-true}
use mathlib.Core.Bool.{and-false}
use borrow.Author.Tests.{eqb-false}
use Rattle.rewriting.proofs.Basics.{by_test, and_left, and_right}
use Rattle.rewriting.proofs.Trees.{term_not_list}
use Rattle.rewriting.proofs.Pairs.{pair_rule}
use Rattle.terms.specs.Sides.{flat}
use Rattle.terms.specs.Kept.{TermAt}
use Rattle.terms.proofs.Parsing.{flat_positive}
use Rattle.pairs.specs.Listing.{a_pair}
use Rattle.pairs.specs.Arcs.{arc, reach_arc}
use Rattle.pair_finder.specs.Walking.{is_defined, SystemKept, ArcAsked, ArcReached}
use Rattle.pair_finder.proofs.FromStore.{stored_rule, stored_place}
use Rattle.pair_finder.proofs.Asked.{right_at, no_arc, not_reached}
use Rattle.entries.specs.declared.Entry.{Entry}
use Rattle.partition.specs.Working.{named, root, back_to, Begun, Keys, Roots, Lowered, BackAsked, SearchAsked, NextReached, BackAskedOf}
use Rattle.partition.proofs.Backward.{back_to_some, no_back_to}

-- the left sides of a pack that is kept begin within the nodes
pub left_sides : {rules : ℕ} {ar ss ns ms : List ℕ} → SystemKept rules ar ss ns ms → Begun rules ss ns
left_sides k =
    record {
      few = k.arrays.laid.few;
      starts_long = k.arrays.laid.starts_long;
      within = λ i h.
          let s = k.stored in
          omega (arith, (s.rules_at i h).left_kept.within, flat_positive _ (term_not_list k.system _ (stored_rule _ _ _ _ _ _ _ s h).left_term));
    }

-- ONE RULE MORE

one_more : (P : ℕ → Type 0) (s : ℕ) → ((t : ℕ) → t < s → P t) → P s → (t : ℕ) → t < s + 1 → P t
one_more P s h k t l = by_test (eqb t s) (λ e. rw (eqb-true t s e) k) (λ e. h t (smaller (eqb-false t s e)))
  where
    smaller : (t ≡ s → ⊥) → t < s
    smaller z = omega arith

module _ (ss ns ls : List ℕ) (s : ℕ) where
  pub more_keys : (ks : List ℕ) → Keys s ss ns ls ks → s < 64 → get_or ls s 0 < 65536 → Keys (s + 1) ss ns ls (set ks s (65536 * root ss ns s + get_or ls s 0))
  more_keys ks d h l =
      let k : ℕ = 65536 * root ss ns s + get_or ls s 0 in
      let f : s < length ks = omega (arith, d.long) in
      record {
        long = simp length-set d.long;
        small = one_more (λ t. get_or ls t 0 < 65536) s d.small l;
        key =
            one_more (λ t. get_or (set ks s k) t 0 ≡ 65536 * root ss ns t + get_or ls t 0) s
            (λ t g. get_or-set_other ks s t k 0 (λ z. omega arith) ∙ d.key t g)
            (get_or-set_same ks s k 0 f);
      }

  module _ (rs now : List ℕ) (d : Roots s ss ns ls rs) (l : Lowered (root ss ns s) (get_or ls s 0) rs now) where
    no_higher : (t : ℕ) → t < 64 → get_or now t 0 ≤ get_or rs t 0
    no_higher t h =
        rw (l.lowered t (omega (arith, d.long))) (by_test (eqb (root ss ns s) t) (λ e. rw e (omega arith)) (λ e. rw e (omega arith)))

    own_root : root ss ns s < 64 → get_or now (root ss ns s) 0 ≤ get_or ls s 0
    own_root h = rw (l.lowered (root ss ns s) (omega (arith, d.long)), eq-eqb (root ss ns s) (root ss ns s) refl) (omega arith)

    pub more_roots : Roots (s + 1) ss ns ls now
    more_roots =
        record {
          long = l.long ∙ d.long;
          low =
              one_more (λ t. root ss ns t < 64 → get_or now (root ss ns t) 0 ≤ get_or ls t 0) s
              (λ t g h. omega (arith, no_higher (root ss ns t) h, d.low t g h))
              own_root;
        }

-- THE DIFFERENCE of a key and a root's first key, which wraps

abbrev difference : (key c : ℕ) → ℕ
difference key c = (key + (4294967296 - 65536 * c)) % 4294967296

module _ (key c own f low : ℕ) (is : key ≡ 65536 * f + low) (fits : key < 4294967296) (byte : c < 256) (small : low < 65536) where
  below : own < 65536 → difference key c < own → low < own
  below o h = omega arith

  not_below : own ≤ difference key c → f ≡ c → own ≤ low
  not_below h e = omega arith

-- FROM A PAIR of which arcs back are asked

-- a byte with a flag is a symbol
defined_small : (ms : List ℕ) (c : ℕ) → is_defined ms c ≡ true → c < 64
unfolding is_defined
defined_small ms c h = ltb-true c 64 (and_left _ _ h)

module _ {rules right : ℕ} {ar ss ns ms ks rs : List ℕ} (a : BackAsked rules ar ss ns ms ks rs right) where
  -- an arc to a rule may be asked of it
  abbrev pub asked_of : (s : ℕ) → s < rules → ArcAsked ar ss ns ms right s
  asked_of s h =
      record { rules = rules; kept = a.kept; pair = a.pair; is = a.is; at_right = a.at_right; other_rule = h }

  -- its own rule is one, so its right side is a term
  pub right_term : TermAt ar ns right
  right_term =
      let own : a.pair.at_rule < rules = omega (arith, pair_rule a.kept.system a.pair a.is, a.kept.stored.rules_are) in
      right_at _ _ _ _ _ _ (asked_of a.pair.at_rule own)

  -- that has a symbol as its root
  pub root_small : get_or ns right 0 < 64
  root_small =
      let q = a.pair in
      let i = q.at_rule in
      let h = sym (stored_place _ _ _ _ _ _ _ a.kept.stored i q.place) ∙ a.is in
      let ends = get_or ss (2 * i + 2) 0 - get_or ss (2 * i + 1) 0 in
      rw a.at_right (defined_small ms _ (and_right (ltb q.place ends) _ (and_right (ltb i rules) _ h)))

  module _ (own : ℕ) where
    -- an arc leads back to one of the first n rules
    abbrev back : (n : ℕ) → Bool
    back n = back_to a.kept.system a.lows own a.pair n

    -- an arc leads back to rule s
    abbrev back_there : (s : ℕ) → Bool
    back_there s = ltb (get_or a.lows s 0) own && arc a.kept.system a.pair (a_pair s 0)

    pub none_more : (s : ℕ) → back s ≡ false → back_there s ≡ false → back (s + 1) ≡ false
    unfolding back_to
    none_more s h k = rw (add-one s, h, k)

    -- none does where no arc leads
    pub no_arc_there : (s : ℕ) → arc a.kept.system a.pair (a_pair s 0) ≡ false → back_there s ≡ false
    no_arc_there s h = ap (λ (b : Bool). ltb (get_or a.lows s 0) own && b) h ∙ and-false (ltb (get_or a.lows s 0) own)

    -- nor where document 01's arc does not
    pub none_reached : (s : ℕ) → s < rules → reach_arc a.kept.system a.pair (a_pair s 0) ≡ false → back_there s ≡ false
    none_reached s h f = no_arc_there s (not_reached _ _ _ _ _ _ (asked_of s h) f)

    -- nor to a rule with another root
    not_back : (s : ℕ) → s < rules → (root ss ns s ≡ get_or ns right 0 → own ≤ get_or a.lows s 0) → back_there s ≡ false
    not_back s h low =
        by_test (eqb (root ss ns s) (get_or ns right 0))
        (λ e. ap (λ (b : Bool). b && arc a.kept.system a.pair (a_pair s 0)) (le-ltb _ _ (low (eqb-true _ _ e))))
        (λ e. no_arc_there s (no_arc _ _ _ _ _ _ (asked_of s h) (λ z. eqb-false _ _ e (sym z))))

    -- none leads back where no rule with its root has a lower component
    pub none_lower : own ≤ get_or rs (get_or ns right 0) 0 → back rules ≡ false
    none_lower h =
        no_back_to a.kept.system a.lows own a.pair rules
        (λ s l. not_back s l
        (λ e. let g : get_or rs (get_or ns right 0) 0 ≤ get_or a.lows s 0 = rw e at (a.keyed.roots_are.low s l (rw e root_small)) in omega arith))

    -- one does where an arc leads to a rule with a lower component
    pub arc_back : (s : ℕ) → s < rules → ltb (get_or a.lows s 0) own ≡ true → arc a.kept.system a.pair (a_pair s 0) ≡ true → back rules ≡ true
    arc_back s h l k = back_to_some a.kept.system a.lows own a.pair s rules h l k

    -- the difference of the rule's key and the root's first one tells
    module _ (s : ℕ) (h : s < rules) (fits : get_or ks s 0 < 4294967296) where
      abbrev keys : Keys rules ss ns a.lows ks
      keys = a.keyed.keys_are

      pub is_lower : own < 65536 → difference (get_or ks s 0) (get_or ns right 0) < own → ltb (get_or a.lows s 0) own ≡ true
      is_lower o l = lt-ltb _ _ (below _ (get_or ns right 0) own _ _ (keys.key s h) fits (omega (arith, root_small)) (keys.small s h) o l)

      pub no_lower : own ≤ difference (get_or ks s 0) (get_or ns right 0) → back_there s ≡ false
      no_lower l = not_back s h (not_below _ (get_or ns right 0) own _ _ (keys.key s h) fits (omega (arith, root_small)) (keys.small s h) l)

    -- A SEARCH from rule s on found none
    pub none_found : (end : ℕ) → ((t : TermAt ar ns right) → end ≡ right + length (flat t.term)) → (s : ℕ) →
        ((b : SearchAsked rules ar ss ns ms ks right end) → back_to b.asked.kept.system b.asked.lows own b.asked.pair s ≡ false →
        back_to b.asked.kept.system b.asked.lows own b.asked.pair rules ≡ false) → back s ≡ false → back rules ≡ false
    none_found end ends s said = said (record { roots = rs; asked = a; ends = ends })

    -- or r
    module _ (end : ℕ) (ends : (t : TermAt ar ns right) → end ≡ right + length (flat t.term)) (s r : ℕ)
        (said : (b : SearchAsked rules ar ss ns ms ks right end) → NextReached b.asked.kept.system b.asked.lows own b.asked.pair rules s r) where
      pub found_next : NextReached a.kept.system a.lows own a.pair rules s r
      found_next = said (record { roots = rs; asked = a; ends = ends })

      pub found_reached : ArcReached ar ss ns ms right end r
      found_reached = record { ended = record { asked = asked_of r found_next.within; ends = ends }; reached = found_next.reached }

      -- to which an arc leads, or not
      module _ (b : Bool) (agreed : (x : ArcReached ar ss ns ms right end r) → b ≡ arc x.ended.asked.kept.system x.ended.asked.pair (a_pair r 0)) where
        pub found_back : b ≡ true → back rules ≡ true
        unfolding found_reached
        found_back e = arc_back r found_next.within found_next.lower (sym (agreed found_reached) ∙ e)

        pub found_none : b ≡ false → back s ≡ false → back (r + 1) ≡ false
        unfolding found_reached
        found_none e none = none_more r (found_next.none_between none) (no_arc_there r (sym (agreed found_reached) ∙ e))

-- FROM THE PAIR OF AN ENTRY: it is kept at its place of its rule's right side

module _ {e : Entry} {rules : ℕ} {ar ss ns ms ks rs : List ℕ} (a : BackAskedOf e rules ar ss ns ms ks rs) where
  abbrev pub of_entry : BackAsked rules ar ss ns ms ks rs (get_or ss (2 * e.rule + 1) 0 + e.place)
  of_entry = record { kept = a.kept; lows = a.lows; keyed = a.keyed; pair = named e; is = a.is; at_right = refl }

  pub entry_rule : e.rule < rules
  entry_rule = omega (arith, pair_rule a.kept.system (named e) a.is, a.kept.stored.rules_are)
