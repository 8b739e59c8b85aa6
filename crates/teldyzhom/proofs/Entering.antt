-- What the readers' answers tell, and the entries' answers from them.
use mathlib.Core.Path.{◌≡◌, refl, sym, ap, ◌∙◌}
use mathlib.Core.Bool.{Bool, true, false, cond}
use mathlib.Core.List.{List, ◌++◌}
use Prim.Native.Nat.{ℕ, ◌+◌, ◌*◌, ◌/◌, ◌≤◌, ◌<◌}
use native.Mathlib.Omega.{arith}
use lib.ListN.{length, get_or, drop}
use borrow.Author.Tests.{le-leb, lt-leb, ltb-true}
use Rattle.rewriting.specs.Terms.{System}
use Rattle.rewriting.specs.Pairs.{Pair, is_pair}
use Rattle.rewriting.proofs.Basics.{ands}
use Rattle.records.specs.declared.Refusal.{Refusal}
use Rattle.records.specs.declared.Refusal.TheVariants.{ShortList}
use Rattle.std.specs.Prelude.{Result, Ok, Err}
use Rattle.records.specs.Outcomes.{Outcome, refused, passed}
use Rattle.records.specs.Answers.{number_of}
use Rattle.pack_reader.specs.declared.Pack.{Pack}
use Rattle.packs.specs.PackReading.{read_pack}
use Rattle.pack_reader.specs.Stored.{KeptIn, Room, PackReadAs}
use Rattle.pairs.specs.Listing.{a_pair, pairs, pair_bytes}
use Rattle.pairs.specs.Arcs.{arc}
use Rattle.pairs.specs.Answers.{listing, buffer_after, arc_question}
use Rattle.pairs.specs.Says.{count_outcome, ListedAs, ArcAs}
use Rattle.pair_finder.specs.Walking.{first_pairs, ArcAsked, PlaceAnswer, KeptPack, SystemKept, SystemIn}
use Rattle.pair_finder.proofs.FromStore.{arc_any_place, stored_laid, stored_pairs}

-- THE PACK

-- a pack that was read, and how it is kept
pub record KeptAs (o : Outcome System) (k : Pack) : Type 0 where
  pub system : System
  pub is : o ≡ passed system
  pub stored : KeptIn system k
  pub room : Room k

pub pack_refused : (o : Outcome System) (k : Pack) (x : Refusal) → PackReadAs o (Err x) k → o ≡ refused (number_of x)
unfolding PackReadAs
pack_refused (refused n) k x (y, e, f) = let g : y ≡ x = cc in ap refused (sym f ∙ ap number_of g)
pack_refused (passed p) k x (e, _, _) = absurd (let z : ◌≡◌ {A = ℕ} 0 1 = cc in omega arith)

pub pack_kept : (o : Outcome System) (k : Pack) (u : Unit {0}) → PackReadAs o (Ok u) k → KeptAs o k
unfolding PackReadAs
pack_kept (refused n) k u (y, e, f) = absurd (let z : ◌≡◌ {A = ℕ} 0 1 = cc in omega arith)
pack_kept (passed p) k u (e, h, room) = record { system = p; is = refl; stored = h; room = room }

pub arrays_kept : {o : Outcome System} {k : Pack} → KeptAs o k → KeptPack k.rules k.arities k.starts k.nodes k.defined
arrays_kept a =
    record {
      laid = stored_laid _ _ _ _ _ _ _ a.stored a.room.starts_long;
      arities_long = a.room.arities_long;
      flags_long = a.room.flags_long;
      nodes_long = omega (arith, a.room.nodes_long);
    }

abbrev pub system_kept : {o : Outcome System} {k : Pack} → KeptAs o k → SystemIn k
system_kept a = record { arrays = arrays_kept a; system = a.system; symbols = _; stored = a.stored }

-- THE LISTING

-- what it answers, and what it leaves of the buffer o
unfoldable pub Lists : (bs o : List ℕ) → Result ℕ Refusal → (now : List ℕ) → Type 0
Lists bs o r z = ListedAs (listing bs (length o)) r × (z ≡ buffer_after (listing bs (length o)) o)

pub lists_refused : (bs o : List ℕ) (x : Refusal) → read_pack bs ≡ refused (number_of x) → Lists bs o (Err x) o
unfolding Lists ListedAs count_outcome listing buffer_after
lists_refused bs o x e = rw e (refl, refl)

module _ (bs : List ℕ) (a : Pack) (k : KeptAs (read_pack bs) a) (o : List ℕ) (n : ℕ) (count : n ≡ length (first_pairs a.starts a.nodes a.defined a.rules)) where
  count_is : n ≡ length (pairs k.system)
  count_is = count ∙ ap length (stored_pairs _ _ _ _ _ _ _ k.stored)

  pub lists_short : length o / 8 < n → Lists bs o (Err ShortList) o
  unfolding Lists ListedAs count_outcome listing buffer_after
  lists_short h = rw (k.is, lt-leb (8 * length (pairs k.system)) (length o) (omega (arith, count_is))) (refl, refl)

  pub room_enough : n ≤ length o / 8 → 8 * length (first_pairs a.starts a.nodes a.defined a.rules) ≤ length o
  room_enough h = omega (arith, count)

  pub lists_all : n ≤ length o / 8 → (z : List ℕ) →
      z ≡ pair_bytes (first_pairs a.starts a.nodes a.defined a.rules) ++ drop (8 * length (first_pairs a.starts a.nodes a.defined a.rules)) o → Lists bs o (Ok n) z
  unfolding Lists ListedAs count_outcome listing buffer_after
  lists_all h z e =
      rw (k.is, le-leb (8 * length (pairs k.system)) (length o) (omega (arith, count_is)), count_is, e, stored_pairs _ _ _ _ _ _ _ k.stored) (refl, refl)

-- THE ARC QUESTION

pub arc_refused : (bs : List ℕ) (q r : Pair) (x : Refusal) → read_pack bs ≡ refused (number_of x) → ArcAs (arc_question bs q r) (Err x)
unfolding ArcAs arc_question
arc_refused bs q r x e = rw e

-- what was answered of a place decides whether it is a pair's
not_found : (b : Bool) (n : ℕ) (x : Refusal) → refused (number_of x) ≡ cond b (passed n) (refused 7) → (b ≡ false) × (number_of x ≡ 7)
not_found true n x h = absurd (let z : ◌≡◌ {A = ℕ} 0 1 = cc in omega arith)
not_found false n x h = (refl, cc)

found : (b : Bool) (n m : ℕ) → passed m ≡ cond b (passed n) (refused 7) → (b ≡ true) × (m ≡ n)
found true n m h = (refl, cc)
found false n m h = absurd (let z : ◌≡◌ {A = ℕ} 0 1 = cc in omega arith)

module _ (p : System) (ss : List ℕ) (i k : ℕ) where
  pub no_pair : (x : Refusal) → PlaceAnswer p ss i k (Err x) → (is_pair p (a_pair i k) ≡ false) × (number_of x ≡ 7)
  unfolding PlaceAnswer
  no_pair x says = not_found _ _ x says

  pub pair_at : (m : ℕ) → PlaceAnswer p ss i k (Ok m) → (is_pair p (a_pair i k) ≡ true) × (m ≡ get_or ss (2 * i + 1) 0 + k)
  unfolding PlaceAnswer
  pair_at m says = found _ _ m says

-- a pair is one of a rule that there is
pair_rule : (p : System) (q : Pair) → is_pair p q ≡ true → q.at_rule < length p.rules
unfolding is_pair
pair_rule p q h = ltb-true _ _ (search (h, ands))

module _ {rules : ℕ} {ar ss ns ms : List ℕ} (k : SystemKept rules ar ss ns ms) (q r : Pair) where
  pub first_missing : (x : Refusal) → (is_pair k.system q ≡ false) × (number_of x ≡ 7) →
      (bs : List ℕ) → read_pack bs ≡ passed k.system → ArcAs (arc_question bs q r) (Err x)
  unfolding ArcAs arc_question
  first_missing x h bs e = rw (e, h.0, h.1)

  module _ (m : ℕ) (first : (is_pair k.system q ≡ true) × (m ≡ get_or ss (2 * q.at_rule + 1) 0 + q.place)) where
    pub second_missing : (x : Refusal) → (is_pair k.system r ≡ false) × (number_of x ≡ 7) →
        (bs : List ℕ) → read_pack bs ≡ passed k.system → ArcAs (arc_question bs q r) (Err x)
    unfolding ArcAs arc_question
    second_missing x h bs e = rw (e, first.0, h.0, h.1)

    module _ (second : is_pair k.system r ≡ true) where
      pub may_ask : ArcAsked ar ss ns ms m r.at_rule
      may_ask =
          record {
            rules = rules;
            kept = k;
            pair = q;
            is = first.0;
            at_right = first.1;
            other_rule = omega (arith, k.stored.rules_are, pair_rule k.system r second);
          }

      -- what was said of the arc is the answer
      pub answers : (b : Bool) → ((a : ArcAsked ar ss ns ms m r.at_rule) → b ≡ arc a.kept.system a.pair (a_pair r.at_rule 0)) →
          (bs : List ℕ) → read_pack bs ≡ passed k.system → ArcAs (arc_question bs q r) (Ok b)
      unfolding may_ask ArcAs arc_question
      answers b says bs e =
          let is_arc : arc k.system q r ≡ b = arc_any_place k.system q r.at_rule r.place ∙ sym (says may_ask) in
          rw (e, first.0, second, is_arc)
