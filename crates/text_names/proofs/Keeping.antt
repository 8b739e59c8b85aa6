-- The table of names: a name's index decides whether it is kept, and a name more may be hinted at, and put in or left out.
use Rattle.std.specs.Prelude.{Option, Some, None}
use mathlib.Core.Path.{◌≡◌, refl, sym, ap, ◌∙◌}
use mathlib.Core.Bool.{true, false}
use mathlib.Core.Logic.{⊎_elim}
use mathlib.Core.List.{List, [], ◌∷◌, ◌++◌}
use Prim.Native.Nat.{ℕ, ◌+◌, ◌-◌, ◌%◌, ◌≤◌, ◌<◌}
use native.Mathlib.Omega.{arith}
use native.Mathlib.Decide.{ℕ_discrete}
use borrow.Author.Tests.{ltb-true, ltb-false, lt-ltb}
use lib.Dec.{ltb}
use lib.ListN.{length, set, length-set}
use lib.Seq.{get_or-set_same, get_or-set_other}
use Rattle.rewriting.proofs.Basics.{by_test, not_both, and_left, and_right, or_cases, or_left, or_right}
use Rattle.texts.specs.Tokens.{Name}
use Rattle.texts.specs.Spelling.{same, among}
use Rattle.texts.proofs.Names.{same_refl, same_eq, among_append}
use Rattle.texts.specs.TextReading.{listed}
use Rattle.text_tokens.specs.Told.{name_at, tokens_at}
use Rattle.text_names.specs.declared.Table.{Table}
use Rattle.text_names.specs.Table.{most_kept, hint_room, hash, less, kept, hint, hint_at, Rising, KeptAt, NamesKept, HintsKept, RestListed, Holds, PlaceOf, is_kept_at, PutIn}
use Rattle.text_names.proofs.Hashes.{hint_small, hint_is}
use Rattle.text_names.proofs.Order.{less_transitive, less_total, less_other}

-- LISTS OF NAMES

pub among_one : (n m : Name) → among n (m ∷ []) ≡ true → n ≡ m
unfolding among
among_one n m h = ⊎_elim (same_eq n m) (λ e. absurd (not_both false e refl)) (or_cases (same n m) false h)

pub among_last : (n : Name) (ns : List Name) → among n (ns ++ (n ∷ [])) ≡ true
unfolding among
among_last n ns = among_append n ns (n ∷ []) ∙ or_right (among n ns) (or_left false (same_refl n))

pub among_more : (n m : Name) (ns : List Name) → among n ns ≡ true → among n (ns ++ (m ∷ [])) ≡ true
among_more n m ns h = among_append n ns (m ∷ []) ∙ or_left (among n (m ∷ [])) h

-- what holds of each name of a list, and of one more
each_more : {P : Name → Type 0} (n : Name) (ns : List Name) → ((k : Name) → among k ns ≡ true → P k) → P n → (k : Name) → among k (ns ++ (n ∷ [])) ≡ true → P k
each_more n ns h p k e = ⊎_elim (h k) (λ t. rw (among_one k n t) p) (or_cases (among k ns) (among k (n ∷ [])) (sym (among_append k ns (n ∷ [])) ∙ e))

-- SEEKING A NAME'S INDEX

module _ (text names : List ℕ) (count : ℕ) (n : Name) where
  -- all names kept before index k are less
  abbrev pub LessBelow : (k : ℕ) → Type 0
  LessBelow k = (i : ℕ) → i < k → less (kept text names i) n ≡ true

  -- none from index k on is
  abbrev pub NotFrom : (k : ℕ) → Type 0
  NotFrom k = (i : ℕ) → k ≤ i → i < count → less (kept text names i) n ≡ false

  module _ (r : Rising text names count) (m : ℕ) (within : m < count) where
    pub less_up_to : (k : ℕ) → k ≡ m + 1 → less (kept text names m) n ≡ true → LessBelow k
    less_up_to k e h i b = go (ℕ_discrete i m)
      where
        go : Dec (i ≡ m) → less (kept text names i) n ≡ true
        go (yes z) = rw z h
        go (no z) = less_transitive _ (kept text names m) n (r.rises i m (omega (arith, z)) within) h

    pub not_from : less (kept text names m) n ≡ false → NotFrom m
    not_from h i past b = by_test (less (kept text names i) n) (λ t. absurd (not_both (less (kept text names m) n) (lower t) h)) (λ e. e)
      where
        go : Dec (i ≡ m) → less (kept text names i) n ≡ true → less (kept text names m) n ≡ true
        go (yes z) t = rw z at t
        go (no z) t = less_transitive (kept text names m) (kept text names i) n (r.rises m i (omega (arith, z)) b) t

        lower : less (kept text names i) n ≡ true → less (kept text names m) n ≡ true
        lower t = go (ℕ_discrete i m) t

  -- IS IT KEPT

  pub kept_at_index : (k : ℕ) → is_kept_at text names count n k ≡ true → KeptAt text names count n
  unfolding is_kept_at
  kept_at_index k e = record {
    index = k;
    within = ltb-true k count (and_left _ (same (kept text names k) n) e);
    is = same_eq (kept text names k) n (and_right (ltb k count) _ e);
  }

  module _ (k : ℕ) (r : Rising text names count) (p : PlaceOf text names count n k) (e : is_kept_at text names count n k ≡ false) where
    -- the names kept from its index on are greater
    pub more_from : (i : ℕ) → k ≤ i → i < count → less n (kept text names i) ≡ true
    unfolding is_kept_at
    more_from i past b = go (ℕ_discrete i k)
      where
        here : less n (kept text names k) ≡ true
        here = less_total (kept text names k) n (p.above k (omega arith) (omega arith)) (rw (lt-ltb k count (omega arith)) at e)

        go : Dec (i ≡ k) → less n (kept text names i) ≡ true
        go (yes z) = rw z here
        go (no z) = less_transitive n (kept text names k) (kept text names i) here (r.rises k i (omega (arith, z)) b)

    pub not_kept : KeptAt text names count n → ⊥
    not_kept q =
        by_test (ltb q.index k)
        (λ t. less_other _ n (p.below q.index (ltb-true _ k t)) q.is)
        (λ t. less_other n _ (more_from q.index (ltb-false _ k t) q.within) (sym q.is))

-- LOOKING A NAME UP

module _ (text : List ℕ) (table : Table) (n : Name) (ns vs : List Name) (h : Holds text table ns vs) where
  pub no_hint : (j : ℕ) → hint n ≡ j → hint_at table.hints j ≡ None → among n ns ≡ false
  no_hint j e z = by_test (among n ns) (λ t. absurd (h.hints.all n t (rw e z))) (λ f. f)

  pub hint_listed : (j s : ℕ) → hint_at table.hints j ≡ Some s → same (name_at text s) n ≡ true → among n ns ≡ true
  hint_listed j s z is = rw (same_eq (name_at text s) n is) at (h.hints.only j s z)

  pub kept_listed : KeptAt text table.names table.count n → among n ns ≡ true
  kept_listed q = rw q.is at (h.names.only q.index q.within)

  module _ (f : KeptAt text table.names table.count n → ⊥) where
    pub unkept_unlisted : table.rest ≡ None → among n ns ≡ false
    unkept_unlisted z = by_test (among n ns) (λ t. absurd (f (h.names.all z n t))) (λ e. e)

    pub unkept_left_out : (at : ℕ) → table.rest ≡ Some at → among n vs ≡ among n (listed (tokens_at text at))
    unkept_left_out at z =
        let r = h.rest at z in
        let late : among n r.early ≡ false = by_test (among n r.early) (λ t. absurd (f (r.all n t))) (λ e. e) in
        ap (among n) r.are ∙ among_append n r.early _ ∙ rw late

-- A HINT MORE: that of the name at place s

module _ (text : List ℕ) (hints : List (Option ℕ)) (s j : ℕ) (e : hint (name_at text s) ≡ j) (within : s ≤ length text) (ns : List Name) (h : HintsKept text hints ns) where
  here : hint_at (set hints j (Some s)) j ≡ Some s
  here = get_or-set_same hints j (Some s) None (omega (arith, hint_small (name_at text s), h.long))

  elsewhere : (k : ℕ) → (k ≡ j → ⊥) → hint_at (set hints j (Some s)) k ≡ hint_at hints k
  elsewhere k f = get_or-set_other hints j k (Some s) None f

  stays_hinted : (k : ℕ) → (hint_at hints k ≡ None → ⊥) → hint_at (set hints j (Some s)) k ≡ None → ⊥
  stays_hinted k f z = go (ℕ_discrete k j)
    where
      go : Dec (k ≡ j) → ⊥
      go (yes d) = let now : hint_at (set hints j (Some s)) j ≡ None = rw d at z in cc (here, now)
      go (no d) = f (sym (elsewhere k d) ∙ z)

  now_hinted : hint_at (set hints j (Some s)) (hint (name_at text s)) ≡ None → ⊥
  now_hinted z = let now : hint_at (set hints j (Some s)) j ≡ None = rw e at z in cc (here, now)

  pub hinted_more : HintsKept text (set hints j (Some s)) (ns ++ (name_at text s ∷ []))
  hinted_more = record {
    long = length-set hints j (Some s) ∙ h.long;
    all = each_more {P = λ n. hint_at (set hints j (Some s)) (hint n) ≡ None → ⊥} (name_at text s) ns (λ n t. stays_hinted (hint n) (h.all n t)) now_hinted;
    only = λ k t z. only k t z (ℕ_discrete k j);
    places = λ k t z. place_of k t z (ℕ_discrete k j);
  }
    where
      place_of : (k t : ℕ) → hint_at (set hints j (Some s)) k ≡ Some t → Dec (k ≡ j) → t ≤ length text
      place_of k t z (yes d) =
          let now : hint_at (set hints j (Some s)) j ≡ Some t = rw d at z in
          let same : s ≡ t = cc (here, now) in
          rw (← same) within
      place_of k t z (no d) = h.places k t (sym (elsewhere k d) ∙ z)

      only : (k t : ℕ) → hint_at (set hints j (Some s)) k ≡ Some t → Dec (k ≡ j) → among (name_at text t) (ns ++ (name_at text s ∷ [])) ≡ true
      only k t z (yes d) =
          let now : hint_at (set hints j (Some s)) j ≡ Some t = rw d at z in
          let same : s ≡ t = cc (here, now) in
          rw (← same) (among_last (name_at text s) ns)
      only k t z (no d) = among_more _ (name_at text s) ns (h.only k t (sym (elsewhere k d) ∙ z))

-- A NAME MORE

-- it is put in at its index
module _ (text : List ℕ) (table z : Table) (k s : ℕ) (w : PutIn table z k s) where
  -- where a name kept came from
  data Came (i : ℕ) : Type 0 where
    low : i < k → kept text z.names i ≡ kept text table.names i → Came i
    new : i ≡ k → kept text z.names i ≡ name_at text s → Came i
    moved : (b : ℕ) → i ≡ b + 1 → k ≤ b → b < table.count → kept text z.names i ≡ kept text table.names b → Came i

  put_low : (i : ℕ) → i < k → kept text z.names i ≡ kept text table.names i
  unfolding kept
  put_low i h = ap (name_at text) (w.below i h)

  put_new : (i : ℕ) → i ≡ k → kept text z.names i ≡ name_at text s
  unfolding kept
  put_new i e = rw (e, w.here)

  put_moved : (i b : ℕ) → i ≡ b + 1 → k ≤ b → b < table.count → kept text z.names i ≡ kept text table.names b
  unfolding kept
  put_moved i b e past h = rw (e, w.above b past h)

  came : (i : ℕ) → i < z.count → Came i
  came i h =
      by_test (ltb i k)
      (λ t. let l = ltb-true i k t in low l (put_low i l))
      (λ t. go (ltb-false i k t) (ℕ_discrete i k))
    where
      go : k ≤ i → Dec (i ≡ k) → Came i
      go past (yes e) = new e (put_new i e)
      go past (no e) =
          let back : i ≡ (i - 1) + 1 = omega (arith, e) in
          let within : i - 1 < table.count = omega (arith, w.counted, e) in
          let later : k ≤ i - 1 = omega (arith, e) in
          moved (i - 1) back later within (put_moved i (i - 1) back later within)

  module _ (r : Rising text table.names table.count) (room : table.count < most_kept) (p : PlaceOf text table.names table.count (name_at text s) k)
      (e : is_kept_at text table.names table.count (name_at text s) k ≡ false) where
    rises_from : (i j : ℕ) → i < j → Came i → Came j → less (kept text z.names i) (kept text z.names j) ≡ true
    rises_from i j l (low a is) (low b js) = rw (is, js) (r.rises i j l (omega (arith, p.within)))
    rises_from i j l (low a is) (new b js) = rw (is, js) (p.below i a)
    rises_from i j l (low a is) (moved b c past h js) = rw (is, js) (r.rises i b (omega arith) h)
    rises_from i j l (new a is) (low b js) = absurd (omega arith)
    rises_from i j l (new a is) (new b js) = absurd (omega arith)
    rises_from i j l (new a is) (moved b c past h js) = rw (is, js) (more_from text table.names table.count (name_at text s) k r p e b past h)
    rises_from i j l (moved a c past h is) (low b js) = absurd (omega arith)
    rises_from i j l (moved a c past h is) (new b js) = absurd (omega arith)
    rises_from i j l (moved a c past h is) (moved b d later g js) = rw (is, js) (r.rises a b (omega arith) g)

    put_rising : Rising text z.names z.count
    put_rising = record {
      long = w.long ∙ r.long;
      few = omega (arith, w.counted);
      rises = λ i j l h. rises_from i j l (came i (omega arith)) (came j h);
    }

    stays_kept : (n : Name) → KeptAt text table.names table.count n → KeptAt text z.names z.count n
    stays_kept n q =
        by_test (ltb q.index k)
        (λ t. record { index = q.index; within = omega (arith, q.within, w.counted); is = put_low q.index (ltb-true _ k t) ∙ q.is })
        (λ t. record {
          index = q.index + 1;
          within = omega (arith, q.within, w.counted);
          is = put_moved (q.index + 1) q.index refl (ltb-false _ k t) q.within ∙ q.is;
        })

    now_kept : KeptAt text z.names z.count (name_at text s)
    now_kept = record { index = k; within = omega (arith, p.within, w.counted); is = put_new k refl }

    module _ (ns : List Name) (h : NamesKept text table ns) where
      put_only : (i : ℕ) → Came i → among (kept text z.names i) (ns ++ (name_at text s ∷ [])) ≡ true
      put_only i (low a is) = rw is (among_more _ (name_at text s) ns (h.only i (omega (arith, p.within))))
      put_only i (new a is) = rw is (among_last (name_at text s) ns)
      put_only i (moved b c past l is) = rw is (among_more _ (name_at text s) ns (h.only b l))

      names_put : NamesKept text z (ns ++ (name_at text s ∷ []))
      names_put = record {
        rising = put_rising;
        only = λ i l. put_only i (came i l);
        all = λ f. each_more {P = KeptAt text z.names z.count} (name_at text s) ns (λ n t. stays_kept n (h.all (sym w.same_rest ∙ f) n t)) now_kept;
      }

    rest_put : (vs : List Name) (at : ℕ) → RestListed text table.names table.count vs at → RestListed text z.names z.count vs at
    rest_put vs at r = record { early = r.early; within = r.within; are = r.are; all = λ n t. stays_kept n (r.all n t) }

-- AS THE CODE DOES IT, with the hash h of the name at place s, which is next at place i of the list

-- what keeping a name is to come to, for all names that the table held before
abbrev pub Keeps : (text : List ℕ) → (i : ℕ) → (n : Name) → (table z : Table) → Type 0
Keeps text i n table z = (ns vs : List Name) → vs ≡ ns ++ listed (tokens_at text i) → Holds text table ns vs → Holds text z (ns ++ (n ∷ [])) vs

-- the table with the hint
abbrev pub hinted : (table : Table) → (s h : ℕ) → Table
hinted table s h = record { hints = set table.hints (h % hint_room) (Some s); names = table.names; count = table.count; rest = table.rest }

module _ (text : List ℕ) (table : Table) (s h i : ℕ) (e : h ≡ hash (name_at text s)) (within : s ≤ length text) (from : i ≤ s) where
  hints_hinted : (ns : List Name) → HintsKept text table.hints ns → HintsKept text (set table.hints (h % hint_room) (Some s)) (ns ++ (name_at text s ∷ []))
  hints_hinted = hinted_more text table.hints s (h % hint_room) (hint_is (name_at text s) h e) within

  names_hinted : (ns : List Name) → NamesKept text table ns → NamesKept text (hinted table s h) ns
  names_hinted ns m = record { rising = m.rising; only = m.only; all = m.all }

  -- it is kept already, or one before it had no room
  pub keeps_same : (table.rest ≡ None → KeptAt text table.names table.count (name_at text s)) → Keeps text i (name_at text s) table (hinted table s h)
  keeps_same f ns vs are q = record {
    names = record {
      rising = q.names.rising;
      only = λ k w. among_more _ (name_at text s) ns (q.names.only k w);
      all = λ z. each_more {P = KeptAt text table.names table.count} (name_at text s) ns (q.names.all z) (f z);
    };
    hints = hints_hinted ns q.hints;
    rest = q.rest;
  }

  -- it is the first without room: all names read before are kept
  pub keeps_left_out : table.rest ≡ None
      → Keeps text i (name_at text s) table (record { hints = set table.hints (h % hint_room) (Some s); names = table.names; count = table.count; rest = Some i })
  keeps_left_out f ns vs are q = record {
    names = record {
      rising = q.names.rising;
      only = λ k w. among_more _ (name_at text s) ns (q.names.only k w);
      all = λ z. absurd (cc z);
    };
    hints = hints_hinted ns q.hints;
    rest = λ at z. let same : i ≡ at = cc z in rw (← same) (record { early = ns; within = omega arith; are = are; all = q.names.all f });
  }

  pub keeps_put : (z : Table) (k : ℕ) → table.count < most_kept → PlaceOf text table.names table.count (name_at text s) k
      → is_kept_at text table.names table.count (name_at text s) k ≡ false → PutIn (hinted table s h) z k s → Keeps text i (name_at text s) table z
  keeps_put z k room p f w ns vs are q = record {
    names = names_put text (hinted table s h) z k s w q.names.rising room p f ns (names_hinted ns q.names);
    hints = rw w.same_hints (hints_hinted ns q.hints);
    rest = λ at t. rest_put text (hinted table s h) z k s w q.names.rising room p f vs at (q.rest at (sym w.same_rest ∙ t));
  }
