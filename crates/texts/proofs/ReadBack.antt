-- A good text's pack is good wherever 5 and 6 would not be given: its sides are terms over its symbols, with variables below 16.
use mathlib.Core.Path.{◌≡◌, refl, sym, ap, ◌∙◌}
use mathlib.Core.Bool.{Bool, true, false, ◌||◌, not, cond, false≢true}
use mathlib.Core.List.{List, [], ◌∷◌, ◌++◌, map}
use Prim.Native.Nat.{ℕ, suc, ◌≤◌, ◌<◌}
use native.Mathlib.Omega.{arith}
use lib.ListN.{length, get_or, length-map}
use borrow.Author.Tests.{not-true, lt-ltb, eq-eqb}
use Rattle.rewriting.specs.Terms.{Tree, var, app, Rule, System, rule, no_rule, width, is_list, well, is_term}
use Rattle.rewriting.specs.Systems.{is_app, variables, all_in, variables_below, Good}
use Rattle.rewriting.proofs.Basics.{by_test, and_left, and_right, and_both, Each, each_nil, each_cons, each_head, each_left, each_right, each_map, each_at}
use Rattle.rewriting.proofs.Trees.{term_by}
use Rattle.records.specs.Outcomes.{passed}
use Rattle.terms.specs.Sides.{flat}
use Rattle.packs.specs.PackReading.{most_arity, most_nodes, variable_count, read_pack}
use Rattle.packs.specs.Encoding.{pack_bytes, GoodPack}
use Rattle.packs.proofs.ReadBack as pack_back
use Rattle.texts.specs.Tokens.{Name}
use Rattle.texts.specs.Spelling.{Phrase, bare, applied, nil, cons, TermPhrase, TextRule, Text, same, among, bare_in, rules_bare, variables_bare}
use Rattle.texts.specs.Numbers.{Use, arguments, uses, rule_uses, rules_uses, in_front, variable_names, symbol_uses, first_appearances, place, names, symbols_in, symbols, rule_variables, tree, numbered_rule, first_count, numbered}
use Rattle.texts.specs.GoodTexts.{GoodTextRule, GoodText}
use Rattle.texts.proofs.Names.{same_eq}
use Rattle.texts.proofs.Places.{place_below, all_appear}
use Rattle.texts.proofs.Flat.{side_long, left_bare, right_bare, others_bare, symbols_append}
use Rattle.texts.proofs.GoodTexts.{each_member, member_each, Agrees, good_agrees}

-- NAMES AND PLACES

-- what stands at a name's place
place_at : (f : Name → ℕ) (n : Name) (ss : List Name) → among n ss ≡ true → get_or (map f ss) (place n ss) 0 ≡ f n
unfolding place among
place_at f n [] h = absurd (false≢true h)
place_at f n (s ∷ ss) h = go (same n s) refl h (place_at f n ss)
  where
    go : (b : Bool) → same n s ≡ b → b || among n ss ≡ true → (among n ss ≡ true → get_or (map f ss) (place n ss) 0 ≡ f n) →
        get_or (f s ∷ map f ss) (cond b 0 (suc (place n ss))) 0 ≡ f n
    go true e h k = rw (same_eq n s e)
    go false e h k = k h

-- a name that does not appear has no arguments
first_small : (n : Name) {all us : List Use} → Each (Agrees all) us → first_count n us ≤ most_arity
unfolding first_count
first_small n each_nil = omega arith
first_small n (each_cons u us h hs) = go (same n u.name) h.small (first_small n hs)
  where
    go : (b : Bool) → u.count ≤ most_arity → first_count n us ≤ most_arity → cond b u.count (first_count n us) ≤ most_arity
    go true h k = h
    go false h k = k

each_of_map : {A B : Type 0} {P : B → Type 0} (f : A → B) (xs : List A) → Each (λ x. P (f x)) xs → Each P (map f xs)
each_of_map f [] each_nil = each_nil
each_of_map f (x ∷ xs) (each_cons _ _ h hs) = each_cons (f x) _ h (each_of_map f xs hs)

each_name : {P : Name → Type 0} (us : List Use) → Each P (names us) → Each (λ u. P u.name) us
unfolding names
each_name [] each_nil = each_nil
each_name (u ∷ us) (each_cons _ _ h hs) = each_cons u us h (each_name us hs)

variables_append : (vs : List Name) (us more : List Use) → variable_names vs (us ++ more) ≡ variable_names vs us ++ variable_names vs more
unfolding variable_names in_front
variables_append vs [] more = refl
variables_append vs (u ∷ us) more = go (among u.name vs) (variables_append vs us more)
  where
    go : (b : Bool) → variable_names vs (us ++ more) ≡ variable_names vs us ++ variable_names vs more →
        in_front b u.name (variable_names vs (us ++ more)) ≡ in_front b u.name (variable_names vs us) ++ variable_names vs more
    go true h = rw h
    go false h = h

-- A SIDE: each symbol has its number and its arity, each variable a number below 16
record Settled (p : System) (ss : List Name) (u : Use) : Type 0 where
  known : place u.name ss < length p.arities
  counted : u.count ≡ get_or p.arities (place u.name ss) 0

record SideFits (p : System) (s : Tree) : Type 0 where
  few : length (flat s) ≤ most_nodes
  term : is_term p s ≡ true
  small : variables_below 16 s ≡ true

module _ (p : System) (vs ss xs : List Name) where
  record UsesSettled (us : List Use) : Type 0 where
    symbols_settled : Each (Settled p ss) (symbol_uses vs us)
    variables_small : Each (λ n. place n xs < variable_count) (variable_names vs us)

  settled_left : (us more : List Use) → UsesSettled (us ++ more) → UsesSettled us
  settled_left us more h =
      record {
        symbols_settled = each_left (symbol_uses vs us) (symbol_uses vs more) (rw (symbols_append vs us more) at h.symbols_settled);
        variables_small = each_left (variable_names vs us) (variable_names vs more) (rw (variables_append vs us more) at h.variables_small);
      }

  settled_right : (us more : List Use) → UsesSettled (us ++ more) → UsesSettled more
  settled_right us more h =
      record {
        symbols_settled = each_right (symbol_uses vs us) (symbol_uses vs more) (rw (symbols_append vs us more) at h.symbols_settled);
        variables_small = each_right (variable_names vs us) (variable_names vs more) (rw (variables_append vs us more) at h.variables_small);
      }

  -- the first use is a variable's, or a symbol's
  variable_small : (u : Use) (us : List Use) → among u.name vs ≡ true → UsesSettled (u ∷ us) → place u.name xs < variable_count
  unfolding variable_names in_front
  variable_small u us v h = each_head (rw v at h.variables_small)

  symbol_settled : (u : Use) (us : List Use) → among u.name vs ≡ false → UsesSettled (u ∷ us) → Settled p ss u
  unfolding symbol_uses in_front
  symbol_settled u us v h = each_head (rw v at h.symbols_settled)

  others_settled : (u : Use) (us : List Use) → UsesSettled (u ∷ us) → UsesSettled us
  others_settled u us h = settled_right (u ∷ []) us h

  abbrev as_tree : {l : Bool} → Phrase l → Tree
  as_tree q = tree vs ss xs q

  tree_list : {l : Bool} (q : Phrase l) → is_list (as_tree q) ≡ l
  unfolding is_list tree
  tree_list (bare n) = go (among n vs)
    where
      go : (b : Bool) → is_list (cond b (var (place n xs)) (app (place n ss) Tree.nil)) ≡ false
      go true = refl
      go false = refl
  tree_list (applied n ps) = refl
  tree_list nil = refl
  tree_list (cons q ps) = refl

  tree_width : (ps : Phrase true) → width (as_tree ps) ≡ arguments ps
  unfolding width tree arguments
  tree_width nil = refl
  tree_width (cons q ps) = ap suc (tree_width ps)

  symbol_well : (u : Use) (ts : Tree) → Settled p ss u → width ts ≡ u.count → is_list ts ≡ true → well p ts ≡ true → well p (app (place u.name ss) ts) ≡ true
  unfolding well
  symbol_well u ts h w l g =
      and_both (and_both (lt-ltb _ _ h.known) (eq-eqb _ _ (w ∙ h.counted))) (and_both l g)

  tree_well : {l : Bool} (q : Phrase l) → bare_in vs q ≡ true → UsesSettled (uses q) → well p (as_tree q) ≡ true
  unfolding well tree uses bare_in arguments width is_list
  tree_well (bare n) b h =
      by_test (among n vs) (λ v. rw v refl)
      (λ v. rw v (symbol_well _ Tree.nil (symbol_settled _ [] v h) refl refl refl))
  tree_well (applied n ps) b h =
      let none : among n vs ≡ false = not-true _ (and_left (not (among n vs)) _ b) in
      symbol_well (record { name = n; count = arguments ps }) (as_tree ps) (symbol_settled _ (uses ps) none h) (tree_width ps) (tree_list ps)
      (tree_well ps (and_right (not (among n vs)) _ b) (others_settled _ (uses ps) h))
  tree_well nil b h = refl
  tree_well (cons q ps) b h =
      let this = tree_well q (and_left (bare_in vs q) _ b) (settled_left (uses q) (uses ps) h) in
      let rest = tree_well ps (and_right (bare_in vs q) _ b) (settled_right (uses q) (uses ps) h) in
      rw (tree_list q, tree_list ps, this, rest) refl

  tree_small : {l : Bool} (q : Phrase l) → bare_in vs q ≡ true → UsesSettled (uses q) → variables_below 16 (as_tree q) ≡ true
  unfolding variables_below tree uses bare_in
  tree_small (bare n) b h =
      by_test (among n vs) (λ v. rw v (lt-ltb _ 16 (variable_small _ [] v h))) (λ v. rw v refl)
  tree_small (applied n ps) b h = tree_small ps (and_right (not (among n vs)) _ b) (others_settled _ (uses ps) h)
  tree_small nil b h = refl
  tree_small (cons q ps) b h =
      and_both (tree_small q (and_left (bare_in vs q) _ b) (settled_left (uses q) (uses ps) h))
      (tree_small ps (and_right (bare_in vs q) _ b) (settled_right (uses q) (uses ps) h))

  side_fits : (q : TermPhrase) → bare_in vs q ≡ true → UsesSettled (uses q) → length (uses q) ≤ most_nodes → SideFits p (as_tree q)
  side_fits q b h l =
      record {
        few = rw (side_long vs ss xs q) l;
        term = term_by p (as_tree q) (tree_list q) (tree_well q b h);
        small = tree_small q b h;
      }

-- THE RULES
record SidesFit (p : System) (u : Rule) : Type 0 where
  left : SideFits p u.left
  right : SideFits p u.right

few_variables : (vs : List Name) (r : TextRule) → length (rule_variables vs r) ≤ variable_count →
    Each (λ n. place n (rule_variables vs r) < variable_count) (variable_names vs (rule_uses r))
unfolding rule_variables first_appearances
few_variables vs r few =
    each_map (λ n h. let l = place_below n (rule_variables vs r) h in omega arith) (all_appear [] (variable_names vs (rule_uses r)))

module _ (t : Text) (p : System) (ss : List Name) where
  abbrev vs : List Name
  vs = t.variables

  rule_fits : (r : TextRule) → bare_in vs r.left ≡ true → bare_in vs r.right ≡ true → GoodTextRule t r →
      Each (Settled p ss) (symbol_uses vs (rule_uses r)) → SidesFit p (numbered_rule vs ss r)
  unfolding numbered_rule rule_uses
  rule_fits r hl hr g s =
      let xs = rule_variables vs r in
      let all : UsesSettled p vs ss xs (uses r.left ++ uses r.right) =
      record { symbols_settled = s; variables_small = few_variables vs r g.variables_few } in
      record {
        left = side_fits p vs ss xs r.left hl (settled_left p vs ss xs (uses r.left) _ all) g.left_few;
        right = side_fits p vs ss xs r.right hr (settled_right p vs ss xs (uses r.left) _ all) g.right_few;
      }

  rules_fit : (rs : List TextRule) → rules_bare vs rs ≡ true → Each (GoodTextRule t) rs → Each (Settled p ss) (symbol_uses vs (rules_uses rs)) →
      Each (SidesFit p) (map (numbered_rule vs ss) rs)
  unfolding rules_uses
  rules_fit [] b each_nil s = each_nil
  rules_fit (r ∷ rs) b (each_cons _ _ g gs) s =
      let both : Each (Settled p ss) (symbol_uses vs (rule_uses r) ++ symbol_uses vs (rules_uses rs)) =
      rw (symbols_append vs (rule_uses r) (rules_uses rs)) at s in
      each_cons _ _
      (rule_fits r (left_bare vs r rs b) (right_bare vs r rs b) g (each_left (symbol_uses vs (rule_uses r)) _ both))
      (rules_fit rs (others_bare vs r rs b) gs (each_right (symbol_uses vs (rule_uses r)) _ both))

-- THE TEXT
module _ (t : Text) (g : GoodText t) where
  abbrev all : List Use
  all = symbols_in t

  all_settled : Each (Settled (numbered t) (symbols t)) all
  unfolding numbered symbols first_appearances
  all_settled =
      let known = each_name all (all_appear [] (names all)) in
      let agree = good_agrees t g in
      member_each all
      (λ u i.
      let k = each_member known i in
      let long = length-map (symbols t) (λ (n : Name). first_count n all) in
      let l = place_below u.name (symbols t) k in
      record { known = omega arith; counted = (each_member agree i).first ∙ sym (place_at (λ n. first_count n all) u.name (symbols t) k) })

  arities_small : Each (λ n. n ≤ most_arity) (numbered t).arities
  unfolding numbered
  arities_small = each_of_map _ (symbols t) (member_each (symbols t) (λ n i. first_small n (good_agrees t g)))

  sides_fit : variables_bare t ≡ true → Each (SidesFit (numbered t)) (numbered t).rules
  unfolding numbered variables_bare symbols_in
  sides_fit b = rules_fit t (numbered t) (symbols t) t.rules b (member_each t.rules g.rules_good) all_settled

  -- what 5 and 6 ask of its rules
  abbrev No5 : Type 0
  No5 = (i : ℕ) → i < length (numbered t).rules → is_app (rule (numbered t) i).left ≡ true

  abbrev No6 : Type 0
  No6 =
      (i : ℕ) → i < length (numbered t).rules → all_in (variables (rule (numbered t) i).right) (variables (rule (numbered t) i).left) ≡ true

  pub text_pack_good : variables_bare t ≡ true → No5 → No6 → GoodPack (numbered t)
  unfolding Good rule numbered
  text_pack_good b no_5 no_6 =
      let fit = each_at no_rule (sides_fit b) in
      let symbols_few = g.symbols_few in
      let rules_few = g.rules_few in
      let arities_long = length-map (symbols t) (λ (n : Name). first_count n all) in
      let rules_long = length-map t.rules (numbered_rule t.variables (symbols t)) in
      record {
        symbols = omega arith;
        arities_small = each_at 0 arities_small;
        rule_count = omega arith;
        lefts = λ i h. (fit i h).left.few;
        rights = λ i h. (fit i h).right.few;
        good =
            λ i h.
            record {
              left_applied = no_5 i h;
              left_term = (fit i h).left.term;
              right_term = (fit i h).right.term;
              left_small = (fit i h).left.small;
              right_small = (fit i h).right.small;
              no_new = no_6 i h;
            };
      }

  pub text_read_back : variables_bare t ≡ true → No5 → No6 → read_pack (pack_bytes (numbered t)) ≡ passed (numbered t)
  text_read_back b no_5 no_6 = pack_back.read_back (numbered t) (text_pack_good b no_5 no_6)
