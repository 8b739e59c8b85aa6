-- The pairs present judged one after another under a weighting: what is found of them, and the number that each pair gets.
use mathlib.Core.Path.{◌≡◌, refl, sym, ap, ◌∙◌}
use mathlib.Core.Bool.{Bool, true, false, ◌||◌, not, true≢false}
use mathlib.Core.List.{List, [], ◌∷◌, ◌++◌}
use Prim.Native.Nat.{ℕ, zero, suc, ◌+◌, ◌≤◌, ◌<◌}
use native.Mathlib.Numerals.{add-one}
use native.Mathlib.Omega.{arith}
use lib.Dec.{ltb, eqb}
use lib.ListN.{length, get_or, drop, set, length-set, drop_of_length-le}
use lib.Seq.{drop-cons, get_or-set_same, get_or-set_other}
use borrow.Author.Tests.{ltb-true, ltb-false, eqb-true, eqb-false, lt-ltb, le-ltb}
use Rattle.rewriting.specs.Terms.{System}
use Rattle.rewriting.specs.Pairs.{Pair}
use Rattle.pairs.specs.Listing.{a_pair}
use Rattle.polynomials.specs.Polynomials.{Weighting}
use Rattle.polynomials.specs.Judging.{Call, any, is_none, without, call_over, call_rises, call_falls, left_under}
use Rattle.weights.specs.declared.PairVerdict.{PairVerdict}
use Rattle.weights.specs.declared.PairVerdict.TheVariants.{Over, Rises, Stays, Falls}
use Rattle.weights.specs.Working.{pair_verdict}
use Rattle.weights.proofs.Working.{pair_over_tells, pair_rises_tells, pair_stays_tells, pair_falls_tells}
use Rattle.judging.specs.Judge.{call, calls}
use Rattle.checker.specs.declared.weighing.Tally.{Tally}
use Rattle.checker.specs.Working.{present, NumbersTell, OthersAsBefore, with_verdict, number_after, TallyIs}
use Rattle.checker.proofs.Present.{left_at_most, left_snoc, has_left}

or-true : (b : Bool) → (b || true) ≡ true
or-true true = refl
or-true false = refl

or-false : (b : Bool) → (b || false) ≡ b
or-false true = refl
or-false false = refl

-- ONE CALL, by its number

module _ (done : List Weighting) (c : Call) where
  still_here : left_under done c ≡ length done → has_left done c ≡ false
  still_here e = le-ltb (left_under done c) (length done) (omega arith)

  gone : (left_under done c ≡ length done → ⊥) → has_left done c ≡ true
  gone differ = lt-ltb (left_under done c) (length done) (omega (arith, left_at_most done c))

  -- it is left out or not
  present_here : (cs : List Call) → has_left done c ≡ false → present done (c ∷ cs) ≡ c ∷ present done cs
  unfolding present without
  present_here cs e = rw e

  present_gone : (cs : List Call) → has_left done c ≡ true → present done (c ∷ cs) ≡ present done cs
  unfolding present without
  present_gone cs e = rw e

  -- what has left keeps its number
  number_kept : (w : Weighting) → has_left done c ≡ true → left_under done c ≡ left_under (done ++ (w ∷ [])) c
  number_kept w e = sym (rw e at (left_snoc done w c))

  -- what is present gets the number that its verdict gives
  number_given : (w : Weighting) (v : PairVerdict) {n : ℕ} → n ≡ length done → has_left done c ≡ false →
      v ≡ pair_verdict (call_over w c) (call_rises w c) (call_falls w c) → (t : Tally) → (with_verdict t v).over ≡ false → (with_verdict t v).rises ≡ false →
      number_after v n ≡ left_under (done ++ (w ∷ [])) c
  unfolding with_verdict number_after
  number_given w Over number e is t o r = absurd (true≢false o)
  number_given w Rises number e is t o r = absurd (true≢false r)
  number_given w Stays number e is t o r =
      let f = (pair_stays_tells (call_over w c) (call_rises w c) (call_falls w c) (sym is)).2 in
      let told : left_under (done ++ (w ∷ [])) c ≡ suc (length done) = rw (e, f) at (left_snoc done w c) in
      omega arith
  number_given w Falls number e is t o r =
      let f = (pair_falls_tells (call_over w c) (call_rises w c) (call_falls w c) (sym is)).2 in
      number ∙ sym (rw (e, f) at (left_snoc done w c))

-- WHAT IS FOUND

-- of all calls present `left` are to be judged: none before them is over, and the tally tells the rest
pub record FoundBefore (w : Weighting) (all left : List Call) (t : Tally) : Type 0 where
  pub within : t.over ≡ false
  pub overs : any (call_over w) all ≡ any (call_over w) left
  pub rising : any (call_rises w) all ≡ (t.rises || any (call_rises w) left)
  pub staying : t.rises ≡ false → not (is_none (without (call_falls w) all)) ≡ (t.stays || not (is_none (without (call_falls w) left)))
  pub falling : t.rises ≡ false → any (call_falls w) all ≡ (t.falls || any (call_falls w) left)

-- a pair more takes nothing back
rises_before : (t : Tally) (v : PairVerdict) → (with_verdict t v).rises ≡ false → t.rises ≡ false
unfolding with_verdict
rises_before t Over r = r
rises_before t Rises r = absurd (true≢false r)
rises_before t Stays r = r
rises_before t Falls r = r

module _ (w : Weighting) (all : List Call) where
  nothing_found : FoundBefore w all all (record { over = false; rises = false; stays = false; falls = false })
  nothing_found = record { within = refl; overs = refl; rising = refl; staying = λ _. refl; falling = λ _. refl }

  all_found : {t : Tally} → FoundBefore w all [] t → TallyIs w all t
  unfolding any without is_none
  all_found {t} s =
      record {
        over_is = s.within ∙ sym s.overs;
        rises_is = λ _. sym (s.rising ∙ or-false t.rises);
        stays_is = λ _ r. sym (s.staying r ∙ or-false t.stays);
        falls_is = λ _ r. sym (s.falling r ∙ or-false t.falls);
      }

  module _ (c : Call) (left : List Call) {t : Tally} (s : FoundBefore w all (c ∷ left) t) where
    -- one more call
    one_found : (v : PairVerdict) → v ≡ pair_verdict (call_over w c) (call_rises w c) (call_falls w c) → (with_verdict t v).over ≡ false →
        FoundBefore w all left (with_verdict t v)
    unfolding any without is_none with_verdict
    one_found Over is h = absurd (true≢false h)
    one_found Rises is h =
        let tells = pair_rises_tells (call_over w c) (call_rises w c) (call_falls w c) (sym is) in
        record {
          within = h;
          overs = rw tells.0 at s.overs;
          rising = (rw tells.1 at s.rising) ∙ or-true t.rises;
          staying = λ r. absurd (true≢false r);
          falling = λ r. absurd (true≢false r);
        }
    one_found Stays is h =
        let tells = pair_stays_tells (call_over w c) (call_rises w c) (call_falls w c) (sym is) in
        record {
          within = h;
          overs = rw tells.0 at s.overs;
          rising = rw tells.1 at s.rising;
          staying = λ r. (rw tells.2 at (s.staying r)) ∙ or-true t.stays;
          falling = λ r. rw tells.2 at (s.falling r);
        }
    one_found Falls is h =
        let tells = pair_falls_tells (call_over w c) (call_rises w c) (call_falls w c) (sym is) in
        record {
          within = h;
          overs = rw tells.0 at s.overs;
          rising = rw tells.1 at s.rising;
          staying = λ r. rw tells.2 at (s.staying r);
          falling = λ r. (rw tells.2 at (s.falling r)) ∙ or-true t.falls;
        }

    -- one that is over settles the tally
    one_over : (v : PairVerdict) → v ≡ pair_verdict (call_over w c) (call_rises w c) (call_falls w c) → (with_verdict t v).over ≡ true →
        TallyIs w all (with_verdict t v)
    unfolding any with_verdict
    one_over Over is h =
        let o = pair_over_tells (call_over w c) (call_rises w c) (call_falls w c) (sym is) in
        record {
          over_is = sym (rw o at s.overs);
          rises_is = λ e. absurd (true≢false e);
          stays_is = λ e. absurd (true≢false e);
          falls_is = λ e. absurd (true≢false e);
        }
    one_over Rises is h = absurd (true≢false (sym h ∙ s.within))
    one_over Stays is h = absurd (true≢false (sym h ∙ s.within))
    one_over Falls is h = absurd (true≢false (sym h ∙ s.within))

-- THE NUMBERS OUTSIDE stay while pairs are judged one after another

pub none_changed : (first end : ℕ) (lefts : List ℕ) → OthersAsBefore first end lefts lefts
none_changed first end lefts = record { long = refl; lower = λ k l. refl; higher = λ k l. refl }

pub one_changed : {first r : ℕ} {before lefts : List ℕ} (i n : ℕ) → OthersAsBefore first (first + i) before lefts → i + 1 ≤ r →
    OthersAsBefore first (first + r) before (set lefts (first + i) n)
one_changed {first} {r} {before} {lefts} i n s l =
    record {
      long = length-set lefts (first + i) n ∙ s.long;
      lower = λ k m. get_or-set_other lefts (first + i) k n 0 (λ e. omega arith) ∙ s.lower k m;
      higher = λ k m. get_or-set_other lefts (first + i) k n 0 (λ e. omega arith) ∙ s.higher k (omega arith);
    }

pub changed_within : {first i count : ℕ} {before lefts : List ℕ} → OthersAsBefore first (first + i) before lefts → i ≤ count →
    OthersAsBefore first (first + count) before lefts
changed_within s l = record { long = s.long; lower = s.lower; higher = λ k m. s.higher k (omega arith) }

-- THE PAIRS BEFORE PAIR i HAVE BEEN JUDGED: what is found of those present, and their numbers after the weighting
pub record JudgedTo (p : System) (done : List Weighting) (w : Weighting) (qs : List Pair) (first : ℕ) (lefts : List ℕ) (i : ℕ) (t : Tally) : Type 0 where
  pub found : FoundBefore w (present done (calls p qs)) (present done (calls p (drop i qs))) t
  pub told : t.rises ≡ false → (k : ℕ) → k < i → get_or lefts (first + k) 0 ≡ left_under (done ++ (w ∷ [])) (call p (get_or qs k (a_pair 0 0)))

module _ (p : System) (done : List Weighting) (qs : List Pair) where
  abbrev this : ℕ → Call
  this k = call p (get_or qs k (a_pair 0 0))

  -- the calls from one on, the first of which is present or has left
  module _ (i : ℕ) (h : i < length qs) where
    calls_from : calls p (drop i qs) ≡ this i ∷ calls p (drop (suc i) qs)
    unfolding calls
    calls_from = rw (drop-cons qs i (a_pair 0 0) h)

    from_present : has_left done (this i) ≡ false → present done (calls p (drop i qs)) ≡ this i ∷ present done (calls p (drop (suc i) qs))
    from_present e = rw calls_from (present_here done (this i) (calls p (drop (suc i) qs)) e)

    from_gone : has_left done (this i) ≡ true → present done (calls p (drop i qs)) ≡ present done (calls p (drop (suc i) qs))
    from_gone e = rw calls_from (present_gone done (this i) (calls p (drop (suc i) qs)) e)

  -- where all from one to another have left
  skipped : (n i r : ℕ) → i + n ≡ r → r ≤ length qs → ((k : ℕ) → i ≤ k → k < r → has_left done (this k) ≡ true) →
      present done (calls p (drop i qs)) ≡ present done (calls p (drop r qs))
  skipped zero i r e l all_gone = let z : i ≡ r = omega arith in ap (λ (j : ℕ). present done (calls p (drop j qs))) z
  skipped (suc n) i r e l all_gone =
      from_gone i (omega arith) (all_gone i (omega arith) (omega arith)) ∙ skipped n (suc i) r (omega arith) l (λ k m b. all_gone k (omega arith) b)

  -- before the first pair
  pub no_pair_judged : (w : Weighting) (first : ℕ) (lefts : List ℕ) →
      JudgedTo p done w qs first lefts 0 (record { over = false; rises = false; stays = false; falls = false })
  no_pair_judged w first lefts = record { found = nothing_found w (present done (calls p qs)); told = λ _ k l. absurd (omega arith) }

module _ {p : System} {done : List Weighting} {w : Weighting} {qs : List Pair} {first : ℕ} {lefts : List ℕ} {i : ℕ} {t : Tally}
    (s : JudgedTo p done w qs first lefts i t) where
  -- after the last pair
  pub judged_all : length qs ≤ i → TallyIs w (present done (calls p qs)) t
  unfolding present without calls
  judged_all h = all_found w (present done (calls p qs)) (rw (drop_of_length-le qs {i = i} h) at s.found)

  module _ {before : List ℕ} (tell : NumbersTell p done qs first before) (others : OthersAsBefore first (first + i) before lefts) where
    pub numbers_told : length qs ≤ i → t.rises ≡ false → NumbersTell p (done ++ (w ∷ [])) qs first lefts
    numbers_told h r = record { long = others.long ∙ tell.long; room = tell.room; told = λ k l. s.told r k (omega arith) }

    -- from pair i on the numbers are as they were
    still_told : (k : ℕ) → i ≤ k → k < length qs → get_or lefts (first + k) 0 ≡ left_under done (this p done qs k)
    still_told k l m = others.higher (first + k) (omega arith) ∙ tell.told k m

    module _ {n : ℕ} (number : n ≡ length done) where
      -- pair i has left before, and is passed over
      pub pair_gone : i < length qs → (get_or lefts (first + i) 0 ≡ n → ⊥) → JudgedTo p done w qs first lefts (i + 1) t
      pair_gone h other =
          record {
            found = rw (sym (skipped p done qs 1 i (i + 1) (omega arith) (omega arith) left_before)) s.found;
            told = λ e k l. by e k l (ltb k i) refl;
          }
        where
          left_before : (k : ℕ) → i ≤ k → k < i + 1 → has_left done (this p done qs k) ≡ true
          left_before k l m =
              let here : k ≡ i = omega arith in
              gone done (this p done qs k) (λ e. other (ap (λ (j : ℕ). get_or lefts (first + j) 0) (sym here) ∙ still_told k l (omega arith) ∙ e ∙ sym number))

          by : t.rises ≡ false → (k : ℕ) → k < i + 1 → (b : Bool) → ltb k i ≡ b → get_or lefts (first + k) 0 ≡ left_under (done ++ (w ∷ [])) (this p done qs k)
          by e k l true b = s.told e k (ltb-true k i b)
          by e k l false b =
              let m = ltb-false k i b in
              still_told k m (omega arith) ∙ number_kept done (this p done qs k) w (left_before k m l)

      -- pair i is present and is judged
      module _ (h : i < length qs) (here : get_or lefts (first + i) 0 ≡ n) {v : PairVerdict}
          (is : v ≡ pair_verdict (call_over w (this p done qs i)) (call_rises w (this p done qs i)) (call_falls w (this p done qs i)))
          {u : Tally} (noted : u ≡ with_verdict t v) where
        abbrev it : Call
        it = this p done qs i

        abbrev after : List Call
        after = present done (calls p (drop (suc i) qs))

        it_present : has_left done it ≡ false
        it_present = still_here done it (sym (still_told i (omega arith) h) ∙ here ∙ number)

        it_found : FoundBefore w (present done (calls p qs)) (it ∷ after) t
        it_found = rw (from_present p done qs i h it_present) at s.found

        pub pair_over : u.over ≡ true → TallyIs w (present done (calls p qs)) u
        pair_over o = rw noted (one_over w (present done (calls p qs)) it after it_found v is (rw noted at o))

        pub pair_judged : {x : ℕ} → x ≡ number_after v n → u.over ≡ false → JudgedTo p done w qs first (set lefts (first + i) x) (i + 1) u
        pair_judged {x} given o =
            record {
              found = rw (noted, add-one) (one_found w (present done (calls p qs)) it after it_found v is (rw noted at o));
              told = λ e k l. by (rw noted at o) (rw noted at e) k l (eqb k i) refl;
            }
          where
            by : (with_verdict t v).over ≡ false → (with_verdict t v).rises ≡ false → (k : ℕ) → k < i + 1 → (b : Bool) → eqb k i ≡ b →
                get_or (set lefts (first + i) x) (first + k) 0 ≡ left_under (done ++ (w ∷ [])) (this p done qs k)
            by o e k l true b =
                rw (eqb-true k i b)
                (get_or-set_same lefts (first + i) x 0 (omega (arith, others.long, tell.long, tell.room))
                ∙ given
                ∙ number_given done it w v number it_present is t o e)
            by o e k l false b =
                let differ = eqb-false k i b in
                get_or-set_other lefts (first + i) (first + k) x 0 (λ z. omega arith) ∙ s.told (rises_before t v e) k (omega arith)
