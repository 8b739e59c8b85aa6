-- Numbering use by use gives the numbers of first appearance, and refuses exactly what is over the limits.
--
-- Every law here speaks of the tables that the whole text comes to: `all`, the first uses of its symbols, and `xs`, the variables of
-- the rule. What is still to come leads from the tables so far to these; so a number once given stays.
use mathlib.Core.Path.{◌≡◌, refl, sym, ap, ◌∙◌}
use mathlib.Core.Bool.{Bool, true, false, ◌&&◌, cond, and-true, and-false, and_assoc, false≢true}
use mathlib.Core.List.{List, [], ◌∷◌, ◌++◌, map, append_assoc, append-nil}
use Prim.Native.Nat.{ℕ, suc, ◌+◌, ◌≤◌, ◌<◌}
use native.Mathlib.Nat.{zero-add}
use native.Mathlib.Omega.{arith}
use lib.Dec.{ltb, leb, eqb}
use lib.ListN.{length, length-append}
use borrow.Author.Tests.{ltb-true, ltb-false, leb-true, eqb-true, lt-ltb, le-leb, lt-leb, eq-eqb}
use Rattle.rewriting.proofs.Basics.{by_test, and_left, and_right, and_both}
use Rattle.records.specs.Outcomes.{Outcome, refused, passed, after, unless}
use Rattle.terms.specs.Sides.{Node, variable, symbol, flat}
use Rattle.packs.specs.PackReading.{most_symbols, most_arity, most_rules, most_nodes, variable_count}
use Rattle.texts.specs.Tokens.{Name}
use Rattle.texts.specs.Spelling.{TermPhrase, TextRule, Text, among, same, bare_in, rules_bare, variables_bare}
use Rattle.texts.specs.Numbers.{Use, uses, rule_uses, rules_uses, in_front, variable_names, symbol_uses, appearing, first_appearances, place, names, symbols_in, symbols, rule_variables, tree, numbered_rule, numbered, first_count, counts_agree, rule_within, all_within, within_limits}
use Rattle.texts.specs.Working.{Numbering, none_yet, variable_numbered, symbol_numbered, use_numbered, uses_numbered, side_numbered, new_rule, rule_numbered, rules_numbered, rules_nodes, counts, NumberedAs}
use Rattle.texts.proofs.Places.{among_new, place_new, place_stays, seen_few, table, names_append, names_long, table_names, table_first, table_counts, first_append, first_new, first_stays}
use Rattle.texts.proofs.Flat.{node_of_use, flat_uses, left_bare, right_bare, others_bare, symbols_append}

-- WHAT A STEP COMES TO: refused with 16, and the tables or the step's own test are over a limit; or passed, with the test
data Comes (few good : Bool) (P : Numbering → Type 0) : Outcome Numbering → Type 0 where
  over : few && good ≡ false → Comes few good P (refused 16)
  within : (y : Numbering) → good ≡ true → P y → Comes few good P (passed y)

-- the first test fails, so both together do
fails_first : (f a b : Bool) → f && a ≡ false → f && (a && b) ≡ false
fails_first true true b h = absurd (false≢true (sym h))
fails_first true false b h = refl
fails_first false a b h = refl

module _ {few : Bool} where
  choose : {good : Bool} {P : Numbering → Type 0} {o u : Outcome Numbering} (b : Bool) →
      (b ≡ true → Comes few good P o) → (b ≡ false → Comes few good P u) → Comes few good P (cond b o u)
  choose true f g = f refl
  choose false f g = g refl

  -- a test in front, and one step after another
  tested : {good : Bool} {P : Numbering → Type 0} {o : Outcome Numbering} (b : Bool) →
      (b ≡ true → Comes few good P o) → Comes few (b && good) P (unless b 16 o)
  tested true f = f refl
  tested false f = over (and-false few)

  then : {a b : Bool} {P Q : Numbering → Type 0} {o : Outcome Numbering} (k : Numbering → Outcome Numbering) →
      Comes few a P o → ((y : Numbering) → P y → Comes few b Q (k y)) → Comes few (a && b) Q (after o k)
  then {a} {b} k (over h) f = over (fails_first few a b h)
  then {a} {b} k (within y g h) f = rw g (f y h)

  with_more : {good : Bool} {P Q : Numbering → Type 0} {o : Outcome Numbering} →
      ((y : Numbering) → P y → Q y) → Comes few good P o → Comes few good Q o
  with_more f (over h) = over h
  with_more f (within y g h) = within y g (f y h)

of_test : {few a b : Bool} {P : Numbering → Type 0} {o : Outcome Numbering} → a ≡ b → Comes few a P o → Comes few b P o
of_test e c = rw e at c

-- a test on the tables that holds of all that passed is the step's own
own_test : {few good : Bool} (own : Bool) {P : Numbering → Type 0} {o : Outcome Numbering} →
    ((y : Numbering) → P y → own ≡ true) → Comes (few && own) good P o → Comes few (good && own) P o
own_test {few} {good} own f (over h) = over (go few good own h)
  where
    go : (a b c : Bool) → (a && c) && b ≡ false → a && (b && c) ≡ false
    go true true c h = rw (and-true c) at h
    go true false c h = refl
    go false b c h = refl
own_test own f (within y g h) = within y (and_both g (f y h)) h

-- WHERE THE NUMBERING STANDS: what is to come leads from the tables so far to the whole ones, and the limits are kept so far
record SymbolsLead (all coming seen : List Use) : Type 0 where
  leads : table seen coming ≡ all
  few : length seen ≤ most_symbols
  small : (n : Name) → first_count n seen ≤ most_arity

record VariablesLead (xs next seen : List Name) : Type 0 where
  leads : appearing seen next ≡ xs
  few : length seen ≤ variable_count

-- inside a rule, and between rules, with the nodes that were added
record Inside (all : List Use) (xs : List Name) (coming : List Use) (next : List Name) (before added : List Node) (y : Numbering) : Type 0 where
  symbols_lead : SymbolsLead all coming y.symbols
  variables_lead : VariablesLead xs next y.variables
  nodes_are : y.nodes ≡ before ++ added

record Between (all coming : List Use) (before added : List Node) (y : Numbering) : Type 0 where
  symbols_lead : SymbolsLead all coming y.symbols
  nodes_are : y.nodes ≡ before ++ added

-- nodes after nodes
more_nodes : (before added rest : List Node) {first whole : List Node} →
    first ≡ before ++ added → whole ≡ first ++ rest → whole ≡ before ++ (added ++ rest)
more_nodes before added rest e f = f ∙ rw e (append_assoc before added rest)

then_inside : {few a b : Bool} {all : List Use} {xs : List Name} {c d : List Use} {n m : List Name} {before added rest : List Node} {o : Outcome Numbering} (k : Numbering → Outcome Numbering) →
    Comes few a (Inside all xs c n before added) o →
    ((y : Numbering) → SymbolsLead all c y.symbols → VariablesLead xs n y.variables → Comes few b (Inside all xs d m y.nodes rest) (k y)) →
    Comes few (a && b) (Inside all xs d m before (added ++ rest)) (after o k)
then_inside {before = before} {added = added} {rest = rest} k c f =
    then k c
    (λ y r.
    with_more
    (λ z q.
    record {
      symbols_lead = q.symbols_lead;
      variables_lead = q.variables_lead;
      nodes_are = more_nodes before added rest r.nodes_are q.nodes_are;
    })
    (f y r.symbols_lead r.variables_lead))

abbrev few_in : List Use → List Name → Bool
few_in all xs = leb (length all) most_symbols && leb (length xs) variable_count

-- A NAME among those seen, or a new one: what is to come leads to the same, and the number stays
module _ (n : Name) (seen next xs : List Name) where
  leads_again : among n seen ≡ true → appearing seen (n ∷ next) ≡ xs → appearing seen next ≡ xs
  unfolding appearing
  leads_again h e = rw h at e

  leads_new : among n seen ≡ false → appearing seen (n ∷ next) ≡ xs → appearing (seen ++ (n ∷ [])) next ≡ xs
  unfolding appearing
  leads_new h e = rw h at e

  number_again : among n seen ≡ true → appearing seen next ≡ xs → place n seen ≡ place n xs
  number_again h e = rw (← e) (sym (place_stays n seen next h))

  number_new : among n seen ≡ false → appearing (seen ++ (n ∷ [])) next ≡ xs → length seen ≡ place n xs
  number_new h e = rw (← e) (sym (place_stays n (seen ++ (n ∷ [])) next (among_new n seen) ∙ place_new n seen h))

  longer : appearing (seen ++ (n ∷ [])) next ≡ xs → length seen < length xs
  longer e = let l = seen_few (seen ++ (n ∷ [])) next in let k = length-append seen (n ∷ []) in rw (← e) (omega arith)

-- the same of a symbol's use and the table
module _ (u : Use) (seen coming all : List Use) where
  table_again : among u.name (names seen) ≡ true → table seen (u ∷ coming) ≡ all → table seen coming ≡ all
  unfolding table
  table_again h e = rw h at e

  table_new : among u.name (names seen) ≡ false → table seen (u ∷ coming) ≡ all → table (seen ++ (u ∷ [])) coming ≡ all
  unfolding table
  table_new h e = rw h at e

  names_lead : table seen coming ≡ all → appearing (names seen) (names coming) ≡ names all
  names_lead e = sym (table_names seen coming) ∙ ap names e

  names_lead_new : table (seen ++ (u ∷ [])) coming ≡ all → appearing (names seen ++ (u.name ∷ [])) (names coming) ≡ names all
  unfolding names
  names_lead_new e =
      ap (λ (l : List Name). appearing l (names coming)) (sym (names_append seen (u ∷ [])))
      ∙ sym (table_names (seen ++ (u ∷ [])) coming) ∙ ap names e

  count_again : among u.name (names seen) ≡ true → table seen coming ≡ all → first_count u.name seen ≡ first_count u.name all
  count_again h e = rw (← e) (sym (first_stays u.name seen coming h))

  count_new : among u.name (names seen) ≡ false → table (seen ++ (u ∷ [])) coming ≡ all → u.count ≡ first_count u.name all
  count_new h e =
      rw (← e)
      (sym (table_first u.name (seen ++ (u ∷ [])) coming ∙ rw (append_assoc seen (u ∷ []) coming) (first_new seen u coming h)))

-- counts stay small
small_new : (seen : List Use) (u : Use) → ((n : Name) → first_count n seen ≤ most_arity) → u.count ≤ most_arity → (n : Name) → first_count n (seen ++ (u ∷ [])) ≤ most_arity
unfolding first_count
small_new seen u h k n = rw (first_append n seen (u ∷ [])) (go (among n (names seen)) (same n u.name))
  where
    go : (a b : Bool) → cond a (first_count n seen) (cond b u.count 0) ≤ most_arity
    go true b = h n
    go false true = k
    go false false = omega arith

-- over a limit of the tables
many_variables : (all : List Use) (xs : List Name) (good : Bool) → variable_count < length xs → few_in all xs && good ≡ false
many_variables all xs good h = rw (lt-leb (length xs) variable_count h, and-false)

many_symbols : (all : List Use) (xs : List Name) (good : Bool) → most_symbols < length all → few_in all xs && good ≡ false
many_symbols all xs good h = rw (lt-leb (length all) most_symbols h)

-- a symbol's use has the count of the first one, and a small one
abbrev agrees : List Use → Use → Bool
agrees all u = eqb u.count (first_count u.name all) && leb u.count most_arity

-- a new symbol is one too many, or has too many arguments
new_over : (all : List Use) (xs : List Name) (seen : List Use) (u : Use) → length seen < length all → ltb (length seen) most_symbols && leb u.count most_arity ≡ false →
    few_in all xs && agrees all u ≡ false
new_over all xs seen u l h =
    by_test (ltb (length seen) most_symbols)
    (λ k. rw (rw k at h, and-false (eqb u.count (first_count u.name all))) (and-false (few_in all xs)))
    (λ k. let c = ltb-false (length seen) most_symbols k in many_symbols all xs (agrees all u) (omega arith))

module _ (all : List Use) (xs : List Name) where
  -- ONE USE
  variable_comes : (n : Name) (coming : List Use) (next : List Name) (x : Numbering) → SymbolsLead all coming x.symbols → VariablesLead xs (n ∷ next) x.variables →
      Comes (few_in all xs) true (Inside all xs coming next x.nodes (variable (place n xs) ∷ [])) (variable_numbered n x)
  unfolding variable_numbered
  variable_comes n coming next x s v =
      let seen = x.variables in
      choose (among n seen)
      (λ h.
      let e = leads_again n seen next xs h v.leads in
      within _ refl
      (record {
        symbols_lead = s;
        variables_lead = record { leads = e; few = v.few };
        nodes_are = rw (number_again n seen next xs h e);
      }))
      (λ h.
      let e = leads_new n seen next xs h v.leads in
      choose (ltb (length seen) variable_count)
      (λ k.
      let l = length-append seen (n ∷ []) in
      let c = ltb-true (length seen) variable_count k in
      within _ refl
      (record {
        symbols_lead = s;
        variables_lead = record { leads = e; few = omega arith };
        nodes_are = rw (number_new n seen next xs h e);
      }))
      (λ k.
      let c = ltb-false (length seen) variable_count k in
      let l = longer n seen next xs e in
      over (many_variables all xs true (omega arith))))

  symbol_comes : (u : Use) (coming : List Use) (next : List Name) (x : Numbering) → SymbolsLead all (u ∷ coming) x.symbols → VariablesLead xs next x.variables →
      Comes (few_in all xs) (agrees all u) (Inside all xs coming next x.nodes (symbol (place u.name (names all)) ∷ [])) (symbol_numbered u x)
  unfolding symbol_numbered
  symbol_comes u coming next x s v =
      let seen = x.symbols in
      choose (among u.name (names seen))
      (λ h.
      let e = table_again u seen coming all h s.leads in
      let c = count_again u seen coming all h e in
      choose (eqb u.count (first_count u.name seen))
      (λ k.
      let l = s.small u.name in
      let z = eqb-true u.count (first_count u.name seen) k in
      within _ (and_both (eq-eqb _ _ (z ∙ c)) (le-leb u.count most_arity (omega arith)))
      (record {
        symbols_lead = record { leads = e; few = s.few; small = s.small };
        variables_lead = v;
        nodes_are = rw (number_again u.name (names seen) (names coming) (names all) h (names_lead u seen coming all e));
      }))
      (λ k. over (rw (← c, k) (and-false (few_in all xs)))))
      (λ h.
      let e = table_new u seen coming all h s.leads in
      let c = count_new u seen coming all h e in
      let to = names_lead_new u seen coming all e in
      choose (ltb (length seen) most_symbols && leb u.count most_arity)
      (λ k.
      let l = length-append seen (u ∷ []) in
      let few = ltb-true (length seen) most_symbols (and_left _ _ k) in
      let small = and_right (ltb (length seen) most_symbols) _ k in
      within _ (and_both (eq-eqb _ _ c) small)
      (record {
        symbols_lead = record { leads = e; few = omega arith; small = small_new seen u s.small (leb-true _ _ small) };
        variables_lead = v;
        nodes_are = rw (← number_new u.name (names seen) (names coming) (names all) h to, names_long seen);
      }))
      (λ k.
      let l = longer u.name (names seen) (names coming) (names all) to in
      let a = names_long seen in
      let b = names_long all in
      over (new_over all xs seen u (omega arith) k)))

-- all symbols' uses agree
abbrev agree : (variables : List Name) → List Use → List Use → Bool
agree vs all us = counts_agree all (symbol_uses vs us)

counts_append : (all us more : List Use) → counts_agree all (us ++ more) ≡ counts_agree all us && counts_agree all more
unfolding counts_agree
counts_append all [] more = refl
counts_append all (u ∷ us) more = rw (counts_append all us more) (sym (and_assoc (agrees all u) (counts_agree all us) _))

agree_append : (vs : List Name) (all us more : List Use) → agree vs all (us ++ more) ≡ agree vs all us && agree vs all more
agree_append vs all us more = rw (symbols_append vs us more) (counts_append all (symbol_uses vs us) (symbol_uses vs more))

-- and a side is no longer than it may be
abbrev side_within : (variables : List Name) → List Use → TermPhrase → Bool
side_within vs all p = leb (length (uses p)) most_nodes && agree vs all (uses p)

module _ (vs : List Name) (all : List Use) (xs : List Name) where
  use_comes : (u : Use) (later more : List Use) (x : Numbering) →
      SymbolsLead all (symbol_uses vs (u ∷ later)) x.symbols → VariablesLead xs (variable_names vs (u ∷ more)) x.variables →
      Comes (few_in all xs) (agree vs all (u ∷ []))
      (Inside all xs (symbol_uses vs later) (variable_names vs more) x.nodes (node_of_use vs (names all) xs u ∷ []))
      (use_numbered vs u x)
  unfolding use_numbered symbol_uses variable_names in_front counts_agree node_of_use
  use_comes u later more x s v =
      by_test (among u.name vs)
      (λ h. rw h (variable_comes all xs u.name _ _ x (rw h at s) (rw h at v)))
      (λ h. rw (h, and-true (agrees all u)) (symbol_comes all xs u _ _ x (rw h at s) (rw h at v)))

  -- THE USES OF A SIDE
  uses_comes : (us later more : List Use) (x : Numbering) →
      SymbolsLead all (symbol_uses vs (us ++ later)) x.symbols → VariablesLead xs (variable_names vs (us ++ more)) x.variables →
      Comes (few_in all xs) (agree vs all us)
      (Inside all xs (symbol_uses vs later) (variable_names vs more) x.nodes (map (node_of_use vs (names all) xs) us))
      (uses_numbered vs us x)
  unfolding uses_numbered counts_agree symbol_uses
  uses_comes [] later more x s v = within x refl (record { symbols_lead = s; variables_lead = v; nodes_are = sym (append-nil x.nodes) })
  uses_comes (u ∷ us) later more x s v =
      of_test (sym (agree_append vs all (u ∷ []) us))
      (then_inside (λ y. uses_numbered vs us y) (use_comes u (us ++ later) (us ++ more) x s v) (λ y t w. uses_comes us later more y t w))

  -- A SIDE
  side_comes : (p : TermPhrase) (later more : List Use) (x : Numbering) → bare_in vs p ≡ true →
      SymbolsLead all (symbol_uses vs (uses p ++ later)) x.symbols → VariablesLead xs (variable_names vs (uses p ++ more)) x.variables →
      Comes (few_in all xs) (side_within vs all p)
      (Inside all xs (symbol_uses vs later) (variable_names vs more) x.nodes (flat (tree vs (names all) xs p)))
      (side_numbered vs p x)
  unfolding side_numbered
  side_comes p later more x h s v =
      rw (flat_uses vs (names all) xs p h) (tested (leb (length (uses p)) most_nodes) (λ k. uses_comes (uses p) later more x s v))

-- A RULE
no_variables_yet : (vs : List Name) (r : TextRule) → VariablesLead (rule_variables vs r) (variable_names vs (uses r.left ++ uses r.right)) []
unfolding rule_variables first_appearances rule_uses
no_variables_yet vs r = record { leads = refl; few = omega arith }

all_variables : (xs seen : List Name) → VariablesLead xs [] seen → leb (length xs) variable_count ≡ true
unfolding appearing
all_variables xs seen v = let l = v.few in rw (← v.leads) (le-leb (length seen) variable_count l)

rule_tests : (vs : List Name) (all : List Use) (r : TextRule) →
    (side_within vs all r.left && side_within vs all r.right) && leb (length (rule_variables vs r)) variable_count
    ≡ rule_within vs r && agree vs all (rule_uses r)
unfolding rule_within rule_uses
rule_tests vs all r = rw (agree_append vs all (uses r.left) (uses r.right))
    (go (leb (length (uses r.left)) most_nodes) (agree vs all (uses r.left)) (leb (length (uses r.right)) most_nodes)
    (agree vs all (uses r.right)) (leb (length (rule_variables vs r)) variable_count))
  where
    go : (a b c d v : Bool) → ((a && b) && (c && d)) && v ≡ ((a && c) && v) && (b && d)
    go true true true d true = and-true d
    go true true true d false = and-false d
    go true true false d v = refl
    go true false c d v = sym (and-false (c && v))
    go false b c d v = refl

module _ (vs : List Name) (all : List Use) where
  rule_comes : (r : TextRule) (later : List Use) (x : Numbering) → bare_in vs r.left ≡ true → bare_in vs r.right ≡ true →
      SymbolsLead all (symbol_uses vs (rule_uses r ++ later)) x.symbols →
      Comes (leb (length all) most_symbols) (rule_within vs r && agree vs all (rule_uses r))
      (Between all (symbol_uses vs later) x.nodes (flat (numbered_rule vs (names all) r).left ++ flat (numbered_rule vs (names all) r).right))
      (rule_numbered vs r x)
  unfolding rule_numbered numbered_rule rule_uses symbol_uses variable_names
  rule_comes r later x hl hr s =
      let xs = rule_variables vs r in
      let left = uses r.left in
      let right = uses r.right in
      of_test (rule_tests vs all r)
      (with_more (λ z q. record { symbols_lead = q.symbols_lead; nodes_are = q.nodes_are })
      (own_test (leb (length xs) variable_count) (λ z q. all_variables xs z.variables q.variables_lead)
      (then_inside (λ y. side_numbered vs r.right y)
      (side_comes vs all xs r.left (right ++ later) right (new_rule x) hl (rw append_assoc at s) (no_variables_yet vs r))
      (λ y t w. side_comes vs all xs r.right later [] y hr t (rw (← append-nil right) at w)))))

-- ALL RULES
rules_tests : (k n : ℕ) (w g a b : Bool) →
    ltb k most_rules && ((w && g) && (leb (suc k + n) most_rules && (a && b))) ≡ leb (k + suc n) most_rules && ((g && a) && (w && b))
rules_tests k n w g a b =
    let same : suc k + n ≡ k + suc n = omega arith in
    by_test (leb (k + suc n) most_rules)
    (λ h. let l = leb-true (k + suc n) most_rules h in rw (same, h, lt-ltb k most_rules (omega arith)) (go w g a b))
    (λ h. rw (same, h, and-false (w && g)) (and-false (ltb k most_rules)))
  where
    go : (w g a b : Bool) → (w && g) && (a && b) ≡ (g && a) && (w && b)
    go true true a b = refl
    go true false a b = refl
    go false true a b = sym (and-false a)
    go false false a b = refl

module _ (vs : List Name) (all : List Use) where
  rules_comes : (k : ℕ) (rs : List TextRule) (x : Numbering) → k ≤ most_rules → rules_bare vs rs ≡ true →
      SymbolsLead all (symbol_uses vs (rules_uses rs)) x.symbols →
      Comes (leb (length all) most_symbols) (leb (k + length rs) most_rules && (agree vs all (rules_uses rs) && all_within vs rs))
      (Between all [] x.nodes (rules_nodes (map (numbered_rule vs (names all)) rs)))
      (rules_numbered vs k rs x)
  unfolding rules_numbered rules_nodes rules_uses all_within counts_agree symbol_uses
  rules_comes k [] x l h s =
      within x (and_both (le-leb (k + 0) most_rules (omega arith)) refl) (record { symbols_lead = s; nodes_are = sym (append-nil x.nodes) })
  rules_comes k (r ∷ rs) x l h s =
      let this = rule_comes vs all r (rules_uses rs) x (left_bare vs r rs h) (right_bare vs r rs h) s in
      let left = flat (numbered_rule vs (names all) r).left in
      let right = flat (numbered_rule vs (names all) r).right in
      let rest = rules_nodes (map (numbered_rule vs (names all)) rs) in
      of_test
      (rules_tests k (length rs) (rule_within vs r) (agree vs all (rule_uses r)) (agree vs all (rules_uses rs)) (all_within vs rs)
      ∙ rw (← agree_append vs all (rule_uses r) (rules_uses rs)))
      (tested (ltb k most_rules)
      (λ e.
      let c = ltb-true k most_rules e in
      then (λ y. rules_numbered vs (suc k) rs y) this
      (λ y q.
      with_more
      (λ z w.
      record {
        symbols_lead = w.symbols_lead;
        nodes_are = more_nodes x.nodes (left ++ right) rest q.nodes_are w.nodes_are ∙ rw (append_assoc left right rest);
      })
      (rules_comes (suc k) rs y (omega arith) (others_bare vs r rs h) q.symbols_lead))))

-- THE TEXT
module _ (t : Text) where
  -- the table that it comes to
  abbrev whole : List Use
  whole = table [] (symbols_in t)

  whole_names : names whole ≡ symbols t
  unfolding symbols first_appearances names
  whole_names = table_names [] (symbols_in t)

  whole_agrees : (us : List Use) → counts_agree whole us ≡ counts_agree (symbols_in t) us
  unfolding counts_agree
  whole_agrees [] = refl
  whole_agrees (u ∷ us) = rw (table_first u.name [] (symbols_in t), whole_agrees us)

  whole_long : length whole ≡ length (symbols t)
  whole_long = sym (names_long whole) ∙ rw whole_names

  -- its tests, and what is to be reached
  abbrev tests : Bool
  tests = leb (0 + length t.rules) most_rules && (agree t.variables whole (rules_uses t.rules) && all_within t.variables t.rules)

  abbrev Reached : Numbering → Type 0
  Reached = Between whole [] [] (rules_nodes (map (numbered_rule t.variables (names whole)) t.rules))

  whole_tests : leb (length whole) most_symbols && tests ≡ within_limits t
  unfolding within_limits symbols_in
  whole_tests = rw (whole_long, zero-add (length t.rules), whole_agrees) (sym (and_assoc (leb (length (symbols t)) most_symbols) _ _))

  start : SymbolsLead whole (symbols_in t) []
  unfolding first_count
  start = record { leads = refl; few = omega arith; small = λ n. omega arith }

  finish : {o : Outcome Numbering} → Comes (leb (length whole) most_symbols) tests Reached o → NumberedAs o t
  unfolding NumberedAs numbered table symbols first_appearances
  finish (over h) = (refl, sym whole_tests ∙ h)
  finish (within y g b) =
      let e : y.symbols ≡ whole = b.symbols_lead.leads in
      let l = b.symbols_lead.few in
      let few : leb (length whole) most_symbols ≡ true = rw (← e) (le-leb (length y.symbols) most_symbols l) in (
        sym whole_tests ∙ and_both few g,
        ap counts e ∙ table_counts (symbols_in t),
        b.nodes_are ∙ rw whole_names,
      )

pub numbering_meets : (t : Text) → variables_bare t ≡ true → NumberedAs (rules_numbered t.variables 0 t.rules none_yet) t
unfolding variables_bare symbols_in
numbering_meets t h = finish t (rules_comes t.variables (whole t) 0 t.rules none_yet (omega arith) h (start t))
