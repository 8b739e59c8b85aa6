-- From meeting to meeting: what is asked of the terms that a variable meets later, and what the answer is of.
use mathlib.Core.Path.{◌≡◌, refl, sym, ap, ◌∙◌}
use mathlib.Core.Bool.{Bool, true, false, ◌||◌, not}
use mathlib.Core.List.{List, [], ◌∷◌}
use Prim.Native.Nat.{ℕ, ◌+◌, ◌≤◌, ◌<◌}
use native.Mathlib.Omega.{arith}
use lib.Dec.{eqb}
use lib.ListN.{length, get_or}
use borrow.Author.Tests.{eqb-true, eq-eqb, ne_eqb}
use Rattle.rewriting.specs.Terms.{Tree, System}
use Rattle.rewriting.proofs.Basics.{by_test, not_both}
use Rattle.terms.specs.Sides.{flat}
use Rattle.terms.specs.Kept.{TermAt}
use Rattle.pairs.specs.Arcs.{may_reach, compatible, Meeting, a_meeting, meetings, agrees, all_agree}
use Rattle.pair_finder.specs.Walking.{Walkable, TwoTerms, Reaching, NextMeeting, MeetingAt}
use Rattle.pair_finder.proofs.Kept.{term_within}
use Rattle.pair_finder.proofs.Walks.{ToWalk, at_hand, other_there}
use Rattle.pair_finder.proofs.Gathering.{Met, AtMeeting, gather_meets}

-- the first list may reach the other, and the answer is F of what the other's variables meet in it
abbrev pub Owed : (List Meeting → Bool) → System → (answer : Bool) → Tree → Tree → Type 0
Owed F p r ts us = (may_reach p ts us ≡ true) × (r ≡ F (meetings p ts us))

-- ONE TURN of a walk that began with these lists and has come to i and k

module _ (F : List Meeting → Bool) {ar ms ns : List ℕ} {u end v : ℕ} (o : Walkable ar ms ns ns u end v) (answer : Bool) (i k : ℕ)
    (t : ToWalk o.system ar ms ns ns end (Owed F o.system answer) i k) where
  pub still_reaching : Reaching ar ms ns i end k
  still_reaching =
      record {
        walk =
            record {
              arities_long = o.arities_long;
              flags_long = o.flags_long;
              nodes_few = o.nodes_few;
              others_few = o.others_few;
              system = o.system;
              first = t.firsts;
              other = t.others;
              lists = t.lists;
            };
        reaches = t.known.0;
      }

  -- nothing more is met
  pub none_left : ((w : Reaching ar ms ns i end k) → meetings w.walk.system w.walk.first w.walk.other ≡ []) → answer ≡ F []
  unfolding still_reaching
  none_left said = t.known.1 ∙ ap F (said still_reaching)

  -- the next meeting is at x and y
  module _ (x y : ℕ) (said : (w : Reaching ar ms ns i end k) → NextMeeting w.walk.system ar ms ns i end w.walk.first w.walk.other x y) where
    next : NextMeeting o.system ar ms ns i end t.firsts t.others x y
    unfolding still_reaching
    next = said still_reaching

    there : ToWalk o.system ar ms ns ns end (Met o.system (meetings o.system t.firsts t.others)) x y
    there = record { firsts = next.firsts; others = next.others; lists = next.lists; known = (next.reaches, next.same) }

    pub next_later : i ≤ x
    next_later = next.later

    pub next_inside : x < end
    next_inside = next.inside

    pub meets : AtMeeting o.system ar ms ns ns end (meetings o.system t.firsts t.others) x y
    meets = gather_meets _ _ _ _ _ _ _ x y there next.inside next.closed next.variable

    pub owed : answer ≡ F (a_meeting meets.variable meets.met ∷ meetings o.system meets.firsts meets.others)
    owed = t.known.1 ∙ ap F meets.first_met

    -- a term is kept at each place
    pub other_within : y < length ns
    other_within = term_within _ _ _ (other_there _ _ _ _ _ _ _ x y (at_hand _ _ _ _ _ _ _ x y there next.inside))

    pub met_there : TermAt ar ns x
    met_there =
        record {
          system = o.system;
          term = meets.met;
          arities_are = o.lists.arities_are;
          arities_few = o.lists.arities_few;
          is = meets.is;
          kept = meets.kept;
        }

    pub meeting_passed : (m : ℕ) → ((s : TermAt ar ns x) → m ≡ x + length (flat s.term)) → answer ≡ F (meetings o.system meets.firsts meets.others) →
        ToWalk o.system ar ms ns ns end (Owed F o.system answer) m (y + 1)
    meeting_passed m ends e = record { firsts = meets.firsts; others = meets.others; lists = meets.lists m ends; known = (meets.reaches, e) }

-- variables are the same exactly if their bytes are
same_byte : (x y c d : ℕ) → c ≡ 64 + x → d ≡ 64 + y → eqb x y ≡ eqb c d
same_byte x y c d e h =
    by_test (eqb c d) (λ s. let k = eqb-true c d s in rw (s, eq-eqb x y (omega arith)))
    (λ s. rw (s, ne_eqb x y (λ k. let n : c ≡ d = omega arith in not_both _ (eq-eqb c d n) s)))

-- A TERM HELD AGAINST LATER ONES

module _ (ar ms ns : List ℕ) (at d u end v : ℕ) (m : MeetingAt ar ms ns at d u end v) where
  abbrev own : Meeting
  own = a_meeting m.variable m.term

  abbrev system : System
  system = m.lists.walk.system

  abbrev pub test : List Meeting → Bool
  test = agrees system own

  -- the answer is that of the meetings still to come
  abbrev pub ToAgree : ℕ → ℕ → Type 0
  ToAgree i k = ToWalk system ar ms ns ns end (Owed test system (test (meetings system m.lists.walk.first m.lists.walk.other))) i k

  pub agreeing : ToAgree u v
  agreeing = record { firsts = m.lists.walk.first; others = m.lists.walk.other; lists = m.lists.walk.lists; known = (m.lists.reaches, refl) }

  module _ (all : List Meeting) (x y : ℕ) (a : AtMeeting system ar ms ns ns end all x y) where
    pub two_terms : TwoTerms ar ms ns at u x
    two_terms =
        let w = m.lists.walk in
        record {
          arities_long = w.arities_long;
          flags_long = w.flags_long;
          nodes_few = w.nodes_few;
          system = system;
          arities_are = w.lists.arities_are;
          arities_few = w.lists.arities_few;
          flags_are = w.lists.flags_are;
          first = m.term;
          other = a.met;
          first_is = m.is;
          other_is = a.is;
          first_kept = m.kept;
          first_ends = m.ends;
          other_kept = a.kept;
        }

    -- what `fits` said of the two is said of the meeting
    module _ (answer : Bool) (e : answer ≡ test (a_meeting a.variable a.met ∷ meetings system a.firsts a.others)) (r : Bool)
        (said : (w : TwoTerms ar ms ns at u x) → r ≡ (not (eqb (get_or ns y 0) d) || compatible w.system w.first w.other)) where
      met_said : r ≡ (not (eqb a.variable m.variable) || compatible system m.term a.met)
      unfolding two_terms
      met_said = rw (same_byte a.variable m.variable (get_or ns y 0) d a.byte m.byte) (said two_terms)

      pub agrees_not : r ≡ false → answer ≡ false
      unfolding agrees
      agrees_not f = e ∙ rw (sym met_said ∙ f)

      pub agrees_so_far : r ≡ true → answer ≡ test (meetings system a.firsts a.others)
      unfolding agrees
      agrees_so_far h = e ∙ rw (sym met_said ∙ h)

-- ALL MEETINGS

module _ (ar ms ns : List ℕ) (u end v : ℕ) (w : Reaching ar ms ns u end v) where
  abbrev lists_system : System
  lists_system = w.walk.system

  abbrev pub test_all : List Meeting → Bool
  test_all = all_agree lists_system

  abbrev pub ToAgreeAll : ℕ → ℕ → Type 0
  ToAgreeAll i k =
      ToWalk lists_system ar ms ns ns end (Owed test_all lists_system (test_all (meetings lists_system w.walk.first w.walk.other))) i k

  pub agreeing_all : ToAgreeAll u v
  agreeing_all = record { firsts = w.walk.first; others = w.walk.other; lists = w.walk.lists; known = (w.reaches, refl) }

  module _ (all : List Meeting) (x y : ℕ) (a : AtMeeting lists_system ar ms ns ns end all x y) (next : ℕ)
      (ends : (s : TermAt ar ns x) → next ≡ x + length (flat s.term)) where
    -- the term is held against what comes after it
    pub held_against : MeetingAt ar ms ns x (get_or ns y 0) next end (y + 1)
    held_against =
        record {
          lists =
              record {
                walk =
                    record {
                      arities_long = w.walk.arities_long;
                      flags_long = w.walk.flags_long;
                      nodes_few = w.walk.nodes_few;
                      others_few = w.walk.others_few;
                      system = lists_system;
                      first = a.firsts;
                      other = a.others;
                      lists = a.lists next ends;
                    };
                reaches = a.reaches;
              };
          term = a.met;
          is = a.is;
          kept = a.kept;
          ends =
              ends
              (record {
                system = lists_system;
                term = a.met;
                arities_are = w.walk.lists.arities_are;
                arities_few = w.walk.lists.arities_few;
                is = a.is;
                kept = a.kept;
              });
          variable = a.variable;
          byte = a.byte;
        }

    module _ (answer : Bool) (e : answer ≡ test_all (a_meeting a.variable a.met ∷ meetings lists_system a.firsts a.others)) (r : Bool)
        (said : (m : MeetingAt ar ms ns x (get_or ns y 0) next end (y + 1)) →
        r ≡ agrees m.lists.walk.system (a_meeting m.variable m.term) (meetings m.lists.walk.system m.lists.walk.first m.lists.walk.other)) where
      held : r ≡ agrees lists_system (a_meeting a.variable a.met) (meetings lists_system a.firsts a.others)
      unfolding held_against
      held = said held_against

      pub not_all : r ≡ false → answer ≡ false
      unfolding all_agree
      not_all f = e ∙ rw (sym held ∙ f)

      pub all_so_far : r ≡ true → answer ≡ test_all (meetings lists_system a.firsts a.others)
      unfolding all_agree
      all_so_far h = e ∙ rw (sym held ∙ h)
