-- A kept term is weighed argument by argument: what is left of it, one argument more, and the last one.
use mathlib.Core.Path.{◌≡◌, refl, sym, ap, ◌∙◌}
use mathlib.Core.Bool.{Bool, true, false, ◌||◌, false≢true, true≢false}
use mathlib.Core.List.{List}
use Prim.Native.Nat.{ℕ, suc, ◌+◌, ◌*◌, ◌-◌, ◌≤◌, ◌<◌}
use native.Mathlib.Nat.{add-zero}
use native.Mathlib.Numerals.{add-one}
use native.Mathlib.Omega.{arith}
use lib.Dec.{ltb}
use lib.ListN.{length, get_or, set, replicate, length-append, length-set}
use borrow.Author.Tests.{lt-ltb, ltb-true, ltb-false}
use Rattle.rewriting.specs.Terms.{Tree, var, app, nil, cons, System, width, is_list}
use Rattle.rewriting.specs.Pairs.{arguments}
use Rattle.rewriting.specs.Systems.{is_app}
use Rattle.rewriting.proofs.Basics.{by_test, or_left, or_right, or_left_false}
use Rattle.rewriting.proofs.Trees.{term_not_list}
use Rattle.terms.specs.Sides.{flat}
use Rattle.terms.specs.Kept.{code_arity}
use Rattle.polynomials.specs.Polynomials.{Weight, weight, scaled_sum, polynomial_of}
use Rattle.polynomials.specs.Limit.{limit, any_above, over}
use Rattle.polynomials.proofs.Meaning.{Sixteen, combined_sixteen, polynomials_sixteen}
use Rattle.weights.specs.Table.{RowIs, TableIs, MarkedIs, row, marked_row, plain_base, marked_base}
use Rattle.weights.specs.Sums.{numbers, Sums, AddsTo, capped}
use Rattle.weights.specs.Working.{Weighable, Applied, rooted, rooted_over, KnownWithin}
use Rattle.weights.proofs.Working.{rooted_plain, rooted_over_plain}
use Rattle.weights.proofs.Arguments.{Arguments, Split, split, root_symbol, root_variable, node_within}
use Rattle.weights.proofs.Adding.{all_told, over_told, scaled_zero, scaled_once}
use Rattle.weights.proofs.Weighing.{SumsSoFar, sums_none, so_far_over, argument_over, argument_within, sums_all, variable_added, constant_added, adds_sums, numbers_over, root_tells}

pub no_arguments : (p : System) (nodes : List ℕ) (next : ℕ) (ts : Tree) → Arguments p nodes next 0 ts → ts ≡ nil
unfolding width is_list
no_arguments p nodes next (var v) a = absurd (false≢true a.rest.list)
no_arguments p nodes next (app f ts) a = absurd (false≢true a.rest.list)
no_arguments p nodes next nil a = refl
no_arguments p nodes next (cons t ts) a = absurd (omega (arith, a.rest.many))

pub rooted_sixteen : (rs ws : List Weight) (t : Tree) (f : ℕ) (ts : Tree) → t ≡ app f ts → Sixteen (rooted rs ws t)
unfolding rooted
rooted_sixteen rs ws t f ts e = rw e (combined_sixteen rs f (polynomials_sixteen ws ts))

-- a symbol's arity, as the code reads it
pub arity_is : (arities : List ℕ) (c : ℕ) → c < 64 → get_or arities c 0 ≡ code_arity arities c
unfolding code_arity
arity_is arities c h = rw (lt-ltb c 64 h)

-- where its weights are
pub plain_row : (table : List ℕ) (f first : ℕ) → first ≡ row f → f < 64 → (ws : List Weight) → TableIs table ws → RowIs table first f ws
plain_row table f first e low ws t =
    rw e
    (record {
      inside = omega arith;
      are = λ i h. ap (λ c. get_or table c 0) (let z : row f + i ≡ plain_base + (9 * f + i) = omega arith in z) ∙ t.are f i low h;
    })

pub marked_row_is : (table : List ℕ) (f first : ℕ) → first ≡ marked_row f → f < 64 → (ms : List Weight) → MarkedIs table ms → RowIs table first f ms
marked_row_is table f first e low ms t =
    rw e
    (record {
      inside = omega arith;
      are = λ i h. ap (λ c. get_or table c 0) (let z : marked_row f + i ≡ marked_base + (9 * f + i) = omega arith in z) ∙ t.are f i low h;
    })

-- ONE TERM, as an argument: weighed by the factor k, the sums were `sums` and are `after`, and the place after it is told
pub record Weighed
    (arities nodes table : List ℕ) (at left : ℕ) (v : Weighable arities nodes at left) (k : ℕ) (skips : Bool) (sums after : List ℕ) (next : ℕ) : Type 0 where
  pub read : ltb limit (get_or after 0 0) ≡ false → next ≡ at + length (flat v.term)
  pub adds :
      (ws : List Weight) → TableIs table ws → (skips ≡ true → over ws v.term ≡ false) →
      AddsTo (over ws v.term) (scaled_sum k (numbers (polynomial_of ws v.term)) sums) after
  pub long : length after ≡ 17
  pub within : ltb limit (get_or after 0 0) ≡ false → Sums after

module _ (arities nodes table : List ℕ) (at left : ℕ) (v : Weighable arities nodes at left) (k : ℕ) (skips : Bool) (sums after : List ℕ) where
  abbrev term : is_list v.term ≡ false
  term = term_not_list v.system v.term v.is

  plain_adds :
      (ws : List Weight) → AddsTo (rooted_over ws ws v.term) (scaled_sum k (numbers (rooted ws ws v.term)) sums) after →
      AddsTo (over ws v.term) (scaled_sum k (numbers (polynomial_of ws v.term)) sums) after
  plain_adds ws a = rw (← rooted_over_plain ws v.term term, ← rooted_plain ws v.term term) a

  -- a leaf
  module _ (l : length sums ≡ 17) where
    pub variable_weighed :
        64 ≤ get_or nodes at 0 → AddsTo false (set sums (get_or nodes at 0 - 63) (get_or sums (get_or nodes at 0 - 63) 0 + k)) after →
        Weighed arities nodes table at left v k skips sums after (at + 1)
    unfolding flat
    variable_weighed h a =
        let r = root_variable arities nodes at left v h in
        let e : get_or nodes at 0 - 63 ≡ suc (get_or nodes at 0 - 64) = omega arith in
        record {
          read = λ _. rw r.0;
          adds = λ ws b known. plain_adds ws (variable_added sums l ws k (get_or nodes at 0 - 64) v.term r.0 r.1 after (rw e at a));
          long = a.long;
          within = adds_sums false _ after a;
        }

    pub constant_weighed :
        get_or nodes at 0 < 64 → get_or arities (get_or nodes at 0) 0 ≡ 0 → get_or table (row (get_or nodes at 0)) 0 < 65536 →
        AddsTo false (set sums 0 (get_or sums 0 0 + k * get_or table (row (get_or nodes at 0)) 0)) after →
        Weighed arities nodes table at left v k skips sums after (at + 1)
    unfolding flat
    constant_weighed h z small a =
        let below = root_symbol arities nodes at left v h in
        let none : below.arguments ≡ nil = no_arguments v.system nodes (at + 1) below.arguments (rw (sym (arity_is arities (get_or nodes at 0) h) ∙ z) at below.are) in
        let alone : v.term ≡ app (get_or nodes at 0) nil = below.applied ∙ ap (app (get_or nodes at 0)) none in
        record {
          read = λ _. rw alone;
          adds = λ ws b known.
              let own : get_or table (row (get_or nodes at 0)) 0 ≡ weight ws (get_or nodes at 0) 0 = (rw add-zero at ((plain_row table (get_or nodes at 0) (row (get_or nodes at 0)) refl h ws b).are 0 (omega arith))) in
              plain_adds ws (constant_added sums l ws k (get_or nodes at 0) v.term alone (rw own at small) after (rw own at a));
          long = a.long;
          within = adds_sums false _ after a;
        }

  -- an application, by the function itself
  pub call_weighed :
      (next place : ℕ) → place ≡ row (get_or nodes at 0) → get_or nodes at 0 < 64 → length after ≡ 17 → (ltb limit (get_or after 0 0) ≡ false → Sums after) →
      ((w : Weighable arities nodes at left) → ltb limit (get_or after 0 0) ≡ false → next ≡ at + length (flat w.term)) →
      ((w : Weighable arities nodes at left) (rs ws : List Weight) → RowIs table place (get_or nodes at 0) rs → TableIs table ws →
      KnownWithin skips k rs ws w.term → AddsTo (rooted_over rs ws w.term) (scaled_sum k (numbers (rooted rs ws w.term)) sums) after) →
      Weighed arities nodes table at left v k skips sums after next
  unfolding over arguments
  call_weighed next place e h long within ends means =
      let below = root_symbol arities nodes at left v h in
      record {
        read = ends v;
        adds = λ ws b known.
            let o : skips ≡ true → over ws below.arguments ≡ false = λ s. or_left_false (over ws below.arguments) _ (rw below.applied at (known s)) in
            plain_adds ws
            (means v ws ws (plain_row table (get_or nodes at 0) place e h ws b) b
            (record {
              below = λ s. rw below.applied (o s);
              itself = λ s _. rooted_over_plain ws v.term term ∙ known s;
            }));
        long = long;
        within = within;
      }

-- a node's byte
pub code_small : (arities nodes : List ℕ) (at left : ℕ) → Weighable arities nodes at left → get_or nodes at 0 < 80
code_small arities nodes at left v =
    by_test (ltb (get_or nodes at 0) 64)
    (λ e. let h = ltb-true (get_or nodes at 0) 64 e in omega arith)
    (λ e. let h = (root_variable arities nodes at left v (ltb-false (get_or nodes at 0) 64 e)).1 in omega arith)

not_variable : {C : Type 0} (t : Tree) (v : ℕ) → t ≡ var v → is_app t ≡ true → C
unfolding is_app
not_variable t v e h = absurd (false≢true (rw e at h))

-- a pair's side has a symbol for its root
pub applied_low : (arities nodes : List ℕ) (at left : ℕ) → Applied arities nodes at left → get_or nodes at 0 < 64
applied_low arities nodes at left w =
    by_test (ltb (get_or nodes at 0) 64)
    (λ e. ltb-true (get_or nodes at 0) 64 e)
    (λ e. not_variable w.side.term _ (root_variable arities nodes at left w.side (ltb-false (get_or nodes at 0) 64 e)).0 w.applied)

-- A TERM AND ITS ARGUMENTS

-- what is still to be weighed of a kept application from its argument i on
pub record Unweighed
    (arities nodes table : List ℕ) (at end : ℕ) (w : Weighable arities nodes at (end - at)) (first k : ℕ) (skips : Bool) (n : ℕ) (start sums : List ℕ) (next i : ℕ) : Type 0 where
  pub rest : Tree
  pub are : Arguments w.system nodes next (suc n - i) rest
  pub ends : next + length (flat rest) ≡ at + length (flat w.term)
  pub after_root : at < next
  pub so_far :
      (rs ws : List Weight) → RowIs table first (get_or nodes at 0) rs → TableIs table ws → KnownWithin skips k rs ws w.term →
      SumsSoFar rs ws (get_or nodes at 0) k skips w.term rest start sums i

module _ (arities nodes table : List ℕ) (at end : ℕ) (w : Weighable arities nodes at (end - at)) (first k : ℕ) (skips : Bool) (start : List ℕ) where
  -- before the first
  pub unweighed_all :
      get_or nodes at 0 < 64 → length start ≡ 17 → (sums : List ℕ) → sums ≡ set start 0 (get_or start 0 0 + k * get_or table first 0) →
      Unweighed arities nodes table at end w first k skips (code_arity arities (get_or nodes at 0)) start sums (at + 1) 1
  unfolding flat
  unweighed_all low long sums e =
      let below = root_symbol arities nodes at (end - at) w low in
      let n : suc (code_arity arities (get_or nodes at 0)) - 1 ≡ code_arity arities (get_or nodes at 0) = omega arith in
      let l : length (flat w.term) ≡ suc (length (flat below.arguments)) = ap (λ (t : Tree). length (flat t)) below.applied in
      record {
        rest = below.arguments;
        are = rw n below.are;
        ends = omega arith;
        after_root = omega arith;
        so_far = λ rs ws a b known.
            let own : get_or table first 0 ≡ weight rs (get_or nodes at 0) 0 = (rw add-zero at (a.are 0 (omega arith))) in
            rw (e, own) (sums_none rs ws (get_or nodes at 0) k skips start w.term below.arguments below.applied long known.below);
      }

  module _ (n : ℕ) (sums : List ℕ) (next i : ℕ) (u : Unweighed arities nodes table at end w first k skips n start sums next i) where
    -- one is left at least
    module _ (more : i ≤ n) where
      pub head : Split w.system nodes next (n - i) u.rest
      head = split w.system nodes next (n - i) u.rest (rw (let e : suc n - i ≡ suc (n - i) = omega arith in e) at u.are)

      pub rest_long : length (flat u.rest) ≡ length (flat head.first) + length (flat head.others)
      unfolding flat
      rest_long = ap (λ (t : Tree). length (flat t)) head.are ∙ length-append (flat head.first) (flat head.others)

      -- it has fewer nodes than the term
      pub next_inside : end - next < end - at
      next_inside = let l = rest_long in omega (arith, u.ends, u.after_root, w.fits, node_within arities nodes at (end - at) w)

      unfoldable pub next_argument : Weighable arities nodes next (end - next)
      next_argument =
          record {
            system = w.system;
            term = head.first;
            arities_are = w.arities_are;
            arities_few = w.arities_few;
            arities_small = w.arities_small;
            is = head.is;
            small = head.small;
            kept = head.kept;
            fits = (let l = rest_long in omega (arith, u.ends, u.after_root, w.fits));
          }

      -- it is weighed by the factor that the code takes
      module _
          (factor : ℕ) (taken : factor ≡ capped (k * get_or table (first + i) 0)) (few : i ≤ 8) (after : List ℕ) (place : ℕ)
          (a : Weighed arities nodes table next (end - next) next_argument factor skips sums after place) where
        first_sums :
            (rs ws : List Weight) → RowIs table first (get_or nodes at 0) rs → TableIs table ws → KnownWithin skips k rs ws w.term →
            SumsSoFar rs ws (get_or nodes at 0) k skips w.term (cons head.first head.others) start sums i
        first_sums rs ws r t known = rw head.are at (u.so_far rs ws r t known)

        first_adds :
            (rs ws : List Weight) → RowIs table first (get_or nodes at 0) rs → TableIs table ws → KnownWithin skips k rs ws w.term →
            AddsTo (over ws head.first) (scaled_sum (capped (k * weight rs (get_or nodes at 0) i)) (numbers (polynomial_of ws head.first)) sums) after
        unfolding next_argument over
        first_adds rs ws r t known =
            rw (← r.are i few, ← taken)
            (a.adds ws t (λ s. or_left_false (over ws head.first) (over ws head.others) ((first_sums rs ws r t known).known s)))

        pub then_over :
            ltb limit (get_or after 0 0) ≡ true →
            (rs ws : List Weight) → RowIs table first (get_or nodes at 0) rs → TableIs table ws → KnownWithin skips k rs ws w.term →
            AddsTo (rooted_over rs ws w.term) (scaled_sum k (numbers (rooted rs ws w.term)) start) after
        then_over h rs ws r t known =
            argument_over rs ws (get_or nodes at 0) k skips start w.term head.first head.others
            (term_not_list w.system head.first head.is) i sums (first_sums rs ws r t known) after (first_adds rs ws r t known) h

        pub then_within : ltb limit (get_or after 0 0) ≡ false → Unweighed arities nodes table at end w first k skips n start after place (i + 1)
        unfolding next_argument
        then_within h =
            let l = rest_long in
            let e : suc n - (i + 1) ≡ n - i = omega arith in
            record {
              rest = head.others;
              are = rw (e, a.read h) head.after;
              ends = omega (arith, u.ends, a.read h);
              after_root = omega (arith, u.after_root, a.read h);
              so_far = λ rs ws r t known.
                  rw (add-one i)
                  (argument_within rs ws (get_or nodes at 0) k skips start w.term head.first head.others
                  (term_not_list w.system head.first head.is) i sums (first_sums rs ws r t known) after (first_adds rs ws r t known) h);
            }

    -- none is left
    module _ (done : n < i) where
      none_left : u.rest ≡ nil
      none_left = no_arguments w.system nodes next u.rest (rw (let e : suc n - i ≡ 0 = omega arith in e) at u.are)

      pub all_read : next ≡ at + length (flat w.term)
      unfolding flat
      all_read = let l : length (flat u.rest) ≡ 0 = ap (λ (t : Tree). length (flat t)) none_left in omega (arith, u.ends)

      pub all_weighed :
          get_or nodes at 0 < 64 → 1 ≤ k → length start ≡ 17 → Sums sums →
          (rs ws : List Weight) → RowIs table first (get_or nodes at 0) rs → TableIs table ws → KnownWithin skips k rs ws w.term →
          AddsTo (rooted_over rs ws w.term) (scaled_sum k (numbers (rooted rs ws w.term)) start) sums
      all_weighed low one long within rs ws r t known =
          let below = root_symbol arities nodes at (end - at) w low in
          sums_all rs ws (get_or nodes at 0) k skips start w.term i sums (rw none_left at (u.so_far rs ws r t known)) one long
          (rooted_sixteen rs ws w.term (get_or nodes at 0) below.arguments below.applied) within

-- WHAT THE FUNCTION ANSWERS

-- `after` are the sums, and `next` the place, that adding k times the application kept at `at` comes to
pub record FormedAs
    (arities nodes table : List ℕ) (at end first k : ℕ) (skips : Bool) (start after : List ℕ) (next : ℕ) : Type 0 where
  pub long : length after ≡ 17
  pub within : ltb limit (get_or after 0 0) ≡ false → Sums after
  pub ends : (w : Weighable arities nodes at (end - at)) → ltb limit (get_or after 0 0) ≡ false → next ≡ at + length (flat w.term)
  pub means :
      (w : Weighable arities nodes at (end - at)) (rs ws : List Weight) → RowIs table first (get_or nodes at 0) rs → TableIs table ws →
      KnownWithin skips k rs ws w.term → AddsTo (rooted_over rs ws w.term) (scaled_sum k (numbers (rooted rs ws w.term)) start) after

module _ (arities nodes table : List ℕ) (at end first k : ℕ) (skips : Bool) (start : List ℕ) (s : Sums start) (low : get_or nodes at 0 < 64) where
  -- UNDER THE FACTOR 0
  module _ (zero : k ≡ 0) where
    stays : (rs ws : List Weight) (t : Tree) → rooted_over rs ws t ≡ false → AddsTo (rooted_over rs ws t) (scaled_sum k (numbers (rooted rs ws t)) start) start
    stays rs ws t o = rw (o, zero, scaled_zero (numbers (rooted rs ws t)) start) (all_told start s.long s.within)

    -- the limit is known not to be passed
    pub zero_skipped :
        skips ≡ true → (next : ℕ) → ((w : Weighable arities nodes at (end - at)) → next ≡ at + length (flat w.term)) →
        FormedAs arities nodes table at end first k skips start start next
    zero_skipped e next ends =
        record {
          long = s.long;
          within = λ _. s;
          ends = λ w _. ends w;
          means = λ w rs ws r t known. stays rs ws w.term (known.itself e zero);
        }

    -- or is asked in fresh sums
    module _ (fresh : List ℕ) (next : ℕ) (f : FormedAs arities nodes table at end first 1 false (replicate 17 0) fresh next) where
      asked : (w : Weighable arities nodes at (end - at)) (rs ws : List Weight) → RowIs table first (get_or nodes at 0) rs → TableIs table ws → ltb limit (get_or fresh 0 0) ≡ rooted_over rs ws w.term
      asked w rs ws r t =
          let below = root_symbol arities nodes at (end - at) w low in
          let x = rooted rs ws w.term in
          let sixteen = rooted_sixteen rs ws w.term (get_or nodes at 0) below.arguments below.applied in
          let once : scaled_sum 1 (numbers x) (replicate 17 0) ≡ numbers x =
          ap (λ n. scaled_sum 1 (numbers x) (replicate n 0)) (sym (ap suc sixteen)) ∙ scaled_once (numbers x) in
          let a = f.means w rs ws r t (record { below = λ e. absurd (false≢true e); itself = λ e. absurd (false≢true e) }) in
          a.told ∙ ap (λ (ns : List ℕ). rooted_over rs ws w.term || any_above ns) once
          ∙ ap (λ b. rooted_over rs ws w.term || b) (numbers_over x)
          ∙ root_tells rs ws w.term (get_or nodes at 0) below.arguments below.applied

      pub zero_over : ltb limit (get_or fresh 0 0) ≡ true → FormedAs arities nodes table at end first k skips start (set start 0 (limit + 1)) next
      zero_over h =
          let past : ltb limit (get_or (set start 0 (limit + 1)) 0 0) ≡ true = (over_told true start start s.long refl).told in
          record {
            long = length-set start 0 (limit + 1) ∙ s.long;
            within = λ e. absurd (true≢false (sym past ∙ e));
            ends = λ w e. absurd (true≢false (sym past ∙ e));
            means = λ w rs ws r t known. over_told _ _ start s.long (or_left _ (sym (asked w rs ws r t) ∙ h));
          }

      pub zero_within : ltb limit (get_or fresh 0 0) ≡ false → FormedAs arities nodes table at end first k skips start start next
      zero_within h =
          record {
            long = s.long;
            within = λ _. s;
            ends = λ w _. f.ends w h;
            means = λ w rs ws r t known. stays rs ws w.term (sym (asked w rs ws r t) ∙ h);
          }

  -- THE ROOT'S CONSTANT
  module _ (sums : List ℕ) (a : AddsTo false (set start 0 (get_or start 0 0 + k * get_or table first 0)) sums) where
    pub root_over : ltb limit (get_or sums 0 0) ≡ true → (next : ℕ) → FormedAs arities nodes table at end first k skips start sums next
    root_over h next =
        record {
          long = a.long;
          within = λ e. absurd (true≢false (sym h ∙ e));
          ends = λ w e. absurd (true≢false (sym h ∙ e));
          means = λ w rs ws r t known.
              let u = unweighed_all arities nodes table at end w first k skips start low s.long _ refl in
              let past : any_above (set start 0 (get_or start 0 0 + k * get_or table first 0)) ≡ true = sym a.told ∙ h in
              let whole : (rooted_over rs ws w.term || any_above (scaled_sum k (numbers (rooted rs ws w.term)) start)) ≡ true =
              or_right (rooted_over rs ws w.term) (so_far_over rs ws (get_or nodes at 0) k skips start w.term u.rest _ 1 (u.so_far rs ws r t known) past) in
              record { long = a.long; told = h ∙ sym whole; are = λ e. absurd (true≢false (sym h ∙ e)) };
        }

    -- and no arguments
    pub root_alone :
        ltb limit (get_or sums 0 0) ≡ false → 1 ≤ k → code_arity arities (get_or nodes at 0) ≡ 0 → FormedAs arities nodes table at end first k skips start sums (at + 1)
    root_alone h one none =
        let u : (w : Weighable arities nodes at (end - at)) → Unweighed arities nodes table at end w first k skips (code_arity arities (get_or nodes at 0)) start sums (at + 1) 1 =
        λ w. unweighed_all arities nodes table at end w first k skips start low s.long sums (a.are h) in
        let within = adds_sums false _ sums a h in
        record {
          long = a.long;
          within = λ _. within;
          ends = λ w _. all_read arities nodes table at end w first k skips start _ sums (at + 1) 1 (u w) (omega arith);
          means = λ w. all_weighed arities nodes table at end w first k skips start _ sums (at + 1) 1 (u w) (omega arith) low one s.long within;
        }

  -- AN ARGUMENT
  module _
      (n : ℕ) (sums : List ℕ) (next i : ℕ) (u : (w : Weighable arities nodes at (end - at)) → Unweighed arities nodes table at end w first k skips n start sums next i)
      (more : i ≤ n) (few : i ≤ 8) (factor : ℕ) (taken : factor ≡ capped (k * get_or table (first + i) 0)) (after : List ℕ) (place : ℕ)
      (v : (w : Weighable arities nodes at (end - at)) →
      Weighed arities nodes table next (end - next) (next_argument arities nodes table at end w first k skips start n sums next i (u w) more) factor skips sums after place)
      (long : length after ≡ 17) (within : ltb limit (get_or after 0 0) ≡ false → Sums after) where
    pub argument_passes : ltb limit (get_or after 0 0) ≡ true → FormedAs arities nodes table at end first k skips start after place
    argument_passes h =
        record {
          long = long;
          within = within;
          ends = λ w e. absurd (true≢false (sym h ∙ e));
          means = λ w. then_over arities nodes table at end w first k skips start n sums next i (u w) more factor taken few after place (v w) h;
        }

    pub argument_added :
        ltb limit (get_or after 0 0) ≡ false → (w : Weighable arities nodes at (end - at)) → Unweighed arities nodes table at end w first k skips n start after place (i + 1)
    argument_added h w = then_within arities nodes table at end w first k skips start n sums next i (u w) more factor taken few after place (v w) h

    -- the last one
    pub argument_last : i ≡ n → 1 ≤ k → FormedAs arities nodes table at end first k skips start after place
    argument_last last one =
        by_test (ltb limit (get_or after 0 0))
        argument_passes
        (λ h. record {
          long = long;
          within = within;
          ends = λ w _. all_read arities nodes table at end w first k skips start n after place (i + 1) (argument_added h w) (omega arith);
          means = λ w. all_weighed arities nodes table at end w first k skips start n after place (i + 1) (argument_added h w) (omega arith) low one s.long (within h);
        })
