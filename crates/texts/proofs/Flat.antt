-- A side's nodes are its uses, each with its number; the symbols' numbers are below the limit.
use mathlib.Core.Path.{◌≡◌, refl, sym, ap}
use mathlib.Core.Bool.{Bool, true, false, ◌&&◌, not, cond}
use mathlib.Core.List.{List, [], ◌∷◌, ◌++◌, map, map-append}
use Prim.Native.Nat.{ℕ, zero, suc, ◌≤◌}
use native.Mathlib.Omega.{arith}
use lib.Dec.{leb}
use lib.ListN.{length, get_or, length-append}
use borrow.Author.Tests.{leb-true, lt-ltb, not-true}
use Rattle.rewriting.specs.Terms.{Tree, var, app, Rule, no_rule, rule}
use Rattle.rewriting.proofs.Basics.{by_test, and_left, and_right, and_both, Each, each_nil, each_cons, each_head, each_tail, each_left, each_right}
use Rattle.terms.specs.Sides.{Node, variable, symbol, flat}
use Rattle.terms.specs.Kept.{symbols_below}
use Rattle.packs.specs.PackReading.{most_symbols, most_rules}
use Rattle.texts.specs.Tokens.{Name}
use Rattle.texts.specs.Spelling.{Phrase, bare, applied, nil, cons, TextRule, Text, among, bare_in, rules_bare, variables_bare}
use Rattle.texts.specs.Numbers.{Use, uses, rule_uses, rules_uses, in_front, symbol_uses, first_appearances, place, names, symbols_in, symbols, rule_variables, tree, numbered_rule, numbered, within_limits}
use Rattle.texts.proofs.Places.{place_below, all_appear, names_append}

-- the node of a name's use
unfoldable pub node_of_use : (variables symbols numbered : List Name) → Use → Node
node_of_use vs ss xs u = cond (among u.name vs) (variable (place u.name xs)) (symbol (place u.name ss))

-- what has a list is no variable, so each use is one node
pub flat_uses : (vs ss xs : List Name) {l : Bool} (p : Phrase l) → bare_in vs p ≡ true → flat (tree vs ss xs p) ≡ map (node_of_use vs ss xs) (uses p)
unfolding flat tree uses bare_in node_of_use
flat_uses vs ss xs (bare n) h = go (among n vs)
  where
    go : (b : Bool) → flat (cond b (var (place n xs)) (app (place n ss) Tree.nil)) ≡ cond b (variable (place n xs)) (symbol (place n ss)) ∷ []
    go true = refl
    go false = refl
flat_uses vs ss xs (applied n ps) h =
    let none : among n vs ≡ false = not-true _ (and_left (not (among n vs)) _ h) in
    rw (none, flat_uses vs ss xs ps (and_right (not (among n vs)) _ h))
flat_uses vs ss xs nil h = refl
flat_uses vs ss xs (cons p ps) h =
    rw (flat_uses vs ss xs p (and_left (bare_in vs p) _ h), flat_uses vs ss xs ps (and_right (bare_in vs p) _ h))
    (sym (map-append (node_of_use vs ss xs) (uses p) (uses ps)))

-- a node for each use, whatever is a variable
pub side_long : (vs ss xs : List Name) {l : Bool} (p : Phrase l) → length (flat (tree vs ss xs p)) ≡ length (uses p)
unfolding flat tree uses
side_long vs ss xs (bare n) = go (among n vs)
  where
    go : (b : Bool) → length (flat (cond b (var (place n xs)) (app (place n ss) Tree.nil))) ≡ 1
    go true = refl
    go false = refl
side_long vs ss xs (applied n ps) = ap suc (side_long vs ss xs ps)
side_long vs ss xs nil = refl
side_long vs ss xs (cons p ps) =
    omega (
      arith,
      length-append (flat (tree vs ss xs p)) (flat (tree vs ss xs ps)),
      length-append (uses p) (uses ps),
      side_long vs ss xs p,
      side_long vs ss xs ps,
    )

-- the parts of a text's rules
module _ (vs : List Name) (r : TextRule) (rs : List TextRule) (h : rules_bare vs (r ∷ rs) ≡ true) where
  abbrev both_bare : bare_in vs r.left && bare_in vs r.right ≡ true
  unfolding rules_bare
  both_bare = and_left _ _ h

  pub left_bare : bare_in vs r.left ≡ true
  left_bare = and_left _ _ both_bare

  pub right_bare : bare_in vs r.right ≡ true
  right_bare = and_right (bare_in vs r.left) _ both_bare

  pub others_bare : rules_bare vs rs ≡ true
  unfolding rules_bare
  others_bare = and_right (bare_in vs r.left && bare_in vs r.right) _ h

-- SYMBOLS' NUMBERS

-- all that the uses name as symbols is among ss
abbrev Known : (variables symbols : List Name) → List Use → Type 0
Known vs ss us = Each (λ n. among n ss ≡ true) (names (symbol_uses vs us))

pub symbols_append : (vs : List Name) (us more : List Use) → symbol_uses vs (us ++ more) ≡ symbol_uses vs us ++ symbol_uses vs more
unfolding symbol_uses in_front
symbols_append vs [] more = refl
symbols_append vs (u ∷ us) more = go (not (among u.name vs)) (symbols_append vs us more)
  where
    go : (b : Bool) → symbol_uses vs (us ++ more) ≡ symbol_uses vs us ++ symbol_uses vs more →
        in_front b u (symbol_uses vs (us ++ more)) ≡ in_front b u (symbol_uses vs us) ++ symbol_uses vs more
    go true h = rw h
    go false h = h

known_left : (vs ss : List Name) (us more : List Use) → Known vs ss (us ++ more) → Known vs ss us
known_left vs ss us more h = each_left (names (symbol_uses vs us)) (names (symbol_uses vs more)) (rw (symbols_append vs us more, names_append) at h)

known_right : (vs ss : List Name) (us more : List Use) → Known vs ss (us ++ more) → Known vs ss more
known_right vs ss us more h = each_right (names (symbol_uses vs us)) (names (symbol_uses vs more)) (rw (symbols_append vs us more, names_append) at h)

abbrev SidesBelow : Rule → Type 0
SidesBelow r = (symbols_below (flat r.left) ≡ true) × (symbols_below (flat r.right) ≡ true)

module _ (vs ss : List Name) (few : length ss ≤ most_symbols) where
  uses_below : (xs : List Name) (us : List Use) → Known vs ss us → symbols_below (map (node_of_use vs ss xs) us) ≡ true
  unfolding symbols_below node_of_use symbol_uses in_front names
  uses_below xs [] h = refl
  uses_below xs (u ∷ us) h =
      by_test (among u.name vs)
      (λ v. rw v (uses_below xs us (rw v at h)))
      (λ v.
      let k : Each (λ n. among n ss ≡ true) (u.name ∷ names (symbol_uses vs us)) = rw v at h in
      let l = place_below u.name ss (each_head k) in
      rw v (and_both (lt-ltb (place u.name ss) most_symbols (omega arith)) (uses_below xs us (each_tail k))))

  side_below : (xs : List Name) {l : Bool} (p : Phrase l) → bare_in vs p ≡ true → Known vs ss (uses p) → symbols_below (flat (tree vs ss xs p)) ≡ true
  side_below xs p h k = rw (flat_uses vs ss xs p h) (uses_below xs (uses p) k)

  -- in each rule
  rules_below : (rs : List TextRule) → rules_bare vs rs ≡ true → Known vs ss (rules_uses rs) → Each SidesBelow (map (numbered_rule vs ss) rs)
  unfolding numbered_rule rules_uses rule_uses
  rules_below [] h k = each_nil
  rules_below (r ∷ rs) h k =
      let xs = rule_variables vs r in
      let here = known_left vs ss (rule_uses r) (rules_uses rs) k in
      let left = side_below xs r.left (left_bare vs r rs h) (known_left vs ss (uses r.left) _ here) in
      let right = side_below xs r.right (right_bare vs r rs h) (known_right vs ss (uses r.left) _ here) in
      each_cons _ _ (left, right) (rules_below rs (others_bare vs r rs h) (known_right vs ss (rule_uses r) (rules_uses rs) k))

-- all symbols' names are known
all_known : (t : Text) → Known t.variables (symbols t) (rules_uses t.rules)
unfolding symbols first_appearances symbols_in
all_known t = all_appear [] (names (symbols_in t))

few_symbols : (t : Text) → within_limits t ≡ true → length (symbols t) ≤ most_symbols
unfolding within_limits
few_symbols t h =
    let front : leb (length (symbols t)) most_symbols && leb (length t.rules) most_rules ≡ true = and_left _ _ h in
    leb-true _ _ (and_left _ _ front)

each_rule_below : (t : Text) → variables_bare t ≡ true → within_limits t ≡ true → Each SidesBelow (numbered t).rules
unfolding variables_bare numbered
each_rule_below t h k = rules_below t.variables (symbols t) (few_symbols t k) t.rules h (all_known t)

-- no rule has no nodes
rule_below : {rs : List Rule} → Each SidesBelow rs → (i : ℕ) → SidesBelow (get_or rs i no_rule)
unfolding symbols_below flat
rule_below each_nil i = (refl, refl)
rule_below (each_cons r rs h hs) zero = h
rule_below (each_cons r rs h hs) (suc i) = rule_below hs i

pub left_symbols_small : (t : Text) → variables_bare t ≡ true → within_limits t ≡ true → (i : ℕ) → symbols_below (flat (rule (numbered t) i).left) ≡ true
unfolding rule
left_symbols_small t h k i = (rule_below (each_rule_below t h k) i).0

pub right_symbols_small : (t : Text) → variables_bare t ≡ true → within_limits t ≡ true → (i : ℕ) → symbols_below (flat (rule (numbered t) i).right) ≡ true
unfolding rule
right_symbols_small t h k i = (rule_below (each_rule_below t h k) i).1
