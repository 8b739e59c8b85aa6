-- A text is within the limits exactly if it is good in document 02's words.
use mathlib.Core.Path.{◌≡◌, refl, sym, ◌∙◌}
use mathlib.Core.Bool.{true, ◌&&◌}
use mathlib.Core.List.{List, [], ◌∷◌, Memᴰ}
use Prim.Native.Nat.{◌≤◌}
use lib.Dec.{leb, eqb}
use lib.ListN.{length}
use borrow.Author.Tests.{leb-true, le-leb, eqb-true, eq-eqb}
use Rattle.rewriting.proofs.Basics.{by_test, and_left, and_right, and_both, Each, each_nil, each_cons}
use Rattle.packs.specs.PackReading.{most_symbols, most_arity, most_rules, most_nodes}
use Rattle.texts.specs.Tokens.{Name}
use Rattle.texts.specs.Spelling.{TextRule, Text, same}
use Rattle.texts.specs.Numbers.{Use, uses, symbols, symbols_in, first_count, counts_agree, rule_within, all_within, within_limits}
use Rattle.texts.specs.GoodTexts.{GoodTextRule, GoodText}
use Rattle.texts.proofs.Names.{same_refl, same_eq}

-- EACH is every member
pub each_member : {A : Type 0} {P : A → Type 0} {x : A} {xs : List A} → Each P xs → Memᴰ x xs → P x
each_member each_nil i = elim i [ ]
each_member (each_cons y ys h hs) (Memᴰ.head e) = rw e h
each_member (each_cons y ys h hs) (Memᴰ.tail i) = each_member hs i

pub member_each : {A : Type 0} {P : A → Type 0} (xs : List A) → ((x : A) → Memᴰ x xs → P x) → Each P xs
member_each [] f = each_nil
member_each (x ∷ xs) f = each_cons x xs (f x (Memᴰ.head refl)) (member_each xs (λ y i. f y (Memᴰ.tail i)))

-- COUNTS: a use agrees if it has its name's first count, and a small one
pub record Agrees (all : List Use) (u : Use) : Type 0 where
  pub first : u.count ≡ first_count u.name all
  pub small : u.count ≤ most_arity

pub agreeing : (all us : List Use) → counts_agree all us ≡ true → Each (Agrees all) us
unfolding counts_agree
agreeing all [] h = each_nil
agreeing all (u ∷ us) h =
    let this : eqb u.count (first_count u.name all) && leb u.count most_arity ≡ true = and_left _ _ h in
    let first = eqb-true u.count (first_count u.name all) (and_left _ _ this) in
    let small = leb-true u.count most_arity (and_right (eqb u.count (first_count u.name all)) _ this) in
    each_cons u us (record { first = first; small = small })
    (agreeing all us (and_right (eqb u.count (first_count u.name all) && leb u.count most_arity) _ h))

all_agree : (all us : List Use) → Each (Agrees all) us → counts_agree all us ≡ true
unfolding counts_agree
all_agree all [] each_nil = refl
all_agree all (u ∷ us) (each_cons _ _ h hs) =
    and_both (and_both (eq-eqb _ _ h.first) (le-leb _ _ h.small)) (all_agree all us hs)

-- where all uses of a name have one count, it is the first one's
first_of : (u : Use) (us : List Use) → Memᴰ u us → ((v : Use) → Memᴰ v us → u.name ≡ v.name → u.count ≡ v.count) →
    u.count ≡ first_count u.name us
unfolding first_count
first_of u [] i h = elim i [ ]
first_of u (v ∷ vs) (Memᴰ.head e) h =
    let k : same u.name v.name ≡ true = rw e (same_refl v.name) in
    rw k (h v (Memᴰ.head refl) (same_eq u.name v.name k))
first_of u (v ∷ vs) (Memᴰ.tail i) h =
    by_test (same u.name v.name)
    (λ k. rw k (h v (Memᴰ.head refl) (same_eq u.name v.name k)))
    (λ k. rw k (first_of u vs i (λ w j. h w (Memᴰ.tail j))))

-- A RULE
module _ (t : Text) where
  abbrev vs : List Name
  vs = t.variables

  rule_good : (r : TextRule) → rule_within vs r ≡ true → GoodTextRule t r
  unfolding rule_within
  rule_good r h =
      let sides : leb (length (uses r.left)) most_nodes && leb (length (uses r.right)) most_nodes ≡ true = and_left _ _ h in
      record {
        left_few = leb-true _ _ (and_left _ _ sides);
        right_few = leb-true _ _ (and_right (leb (length (uses r.left)) most_nodes) _ sides);
        variables_few = leb-true _ _ (and_right (leb (length (uses r.left)) most_nodes && leb (length (uses r.right)) most_nodes) _ h);
      }

  good_rule : (r : TextRule) → GoodTextRule t r → rule_within vs r ≡ true
  unfolding rule_within
  good_rule r g = and_both (and_both (le-leb _ _ g.left_few) (le-leb _ _ g.right_few)) (le-leb _ _ g.variables_few)

  all_good : (rs : List TextRule) → all_within vs rs ≡ true → Each (GoodTextRule t) rs
  unfolding all_within
  all_good [] h = each_nil
  all_good (r ∷ rs) h = each_cons r rs (rule_good r (and_left _ _ h)) (all_good rs (and_right (rule_within vs r) _ h))

  good_all : (rs : List TextRule) → Each (GoodTextRule t) rs → all_within vs rs ≡ true
  unfolding all_within
  good_all [] each_nil = refl
  good_all (r ∷ rs) (each_cons _ _ h hs) = and_both (good_rule r h) (good_all rs hs)

-- THE TEXT
module _ (t : Text) where
  abbrev all : List Use
  all = symbols_in t

  pub within_good : within_limits t ≡ true → GoodText t
  unfolding within_limits
  within_good h =
      let few : leb (length (symbols t)) most_symbols && leb (length t.rules) most_rules ≡ true = and_left _ _ h in
      let rest : counts_agree all all && all_within t.variables t.rules ≡ true =
      and_right (leb (length (symbols t)) most_symbols && leb (length t.rules) most_rules) _ h in
      let agree = agreeing all all (and_left _ _ rest) in
      let rules = all_good t t.rules (and_right (counts_agree all all) _ rest) in
      record {
        symbols_few = leb-true _ _ (and_left _ _ few);
        rules_few = leb-true _ _ (and_right (leb (length (symbols t)) most_symbols) _ few);
        rules_good = λ r i. each_member rules i;
        arguments_few = λ u i. (each_member agree i).small;
        one_arity = λ u v i j e. (each_member agree i).first ∙ rw e (sym (each_member agree j).first);
      }

  -- every use of a symbol in a good text agrees with the first
  pub good_agrees : GoodText t → Each (Agrees all) all
  good_agrees g =
      member_each all
      (λ u i. record { first = first_of u all i (λ v j e. g.one_arity u v i j e); small = g.arguments_few u i })

  pub good_within : GoodText t → within_limits t ≡ true
  unfolding within_limits
  good_within g =
      and_both (and_both (le-leb _ _ g.symbols_few) (le-leb _ _ g.rules_few))
      (and_both (all_agree all all (good_agrees g)) (good_all t t.rules (member_each t.rules g.rules_good)))
