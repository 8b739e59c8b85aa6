-- The packs and certificates of the documents' examples, written as systems and components.
use Rattle.std.specs.Prelude.{List, [], ◌∷◌, ℕ}
use Rattle.rewriting.specs.Terms.{Tree, var, app, nil, cons, Rule, System}
use Rattle.rewriting.specs.Pairs.{Pair}
use Rattle.records.specs.declared.Record.{Record}
use Rattle.records.specs.Records.{a_record, all_record_bytes}
use Rattle.records.specs.Order.{s_symbol, r_rule, f_application, v_variable, c_component, p_pair, w_weight, l_weighting}
use Rattle.packs.specs.Encoding.{pack_bytes}
use Rattle.pairs.specs.Listing.{a_pair}
use Rattle.polynomials.specs.Polynomials.{Weight, Weighting}
use Rattle.certificates.specs.Components.{Component}
use Rattle.certificates.specs.Encoding.{weight_records}

-- a way to write terms, rules and weights
abbrev pub constant : ℕ → Tree
constant f = app f nil

abbrev pub app₁ : ℕ → Tree → Tree
app₁ f t = app f (cons t nil)

abbrev pub app₂ : ℕ → Tree → Tree → Tree
app₂ f t u = app f (cons t (cons u nil))

abbrev pub app₃ : ℕ → Tree → Tree → Tree → Tree
app₃ f t u v = app f (cons t (cons u (cons v nil)))

abbrev pub ◌⟶◌ : Tree → Tree → Rule
l ⟶ r = record { left = l; right = r }

infix 30 ◌⟶◌
abbrev pub system : (arities : List ℕ) → List Rule → System
system ar rs = record { arities = ar; rules = rs }

abbrev pub a_weight : (symbol place value : ℕ) → Weight
a_weight f i n = record { symbol = f; place = i; value = n }

abbrev pub weighted : List Pair → (weights marked : List Weight) → Component
weighted qs ws ms = record { pairs = qs; weightings = record { weights = ws; marked = ms } ∷ [] }

abbrev pub unweighted : Pair → Component
unweighted q = record { pairs = q ∷ []; weightings = [] }

-- DIVISION, Example 2 of Arts and Giesl: 0 zero, 1 s, 2 minus, 3 quot
unfoldable pub division : System
division =
    system (0 ∷ 1 ∷ 2 ∷ 2 ∷ [])
    ((app₂ 2 (var 0) (constant 0) ⟶ var 0)
    ∷ (app₂ 2 (app₁ 1 (var 0)) (app₁ 1 (var 1)) ⟶ app₂ 2 (var 0) (var 1))
    ∷ (app₂ 3 (constant 0) (app₁ 1 (var 0)) ⟶ constant 0)
    ∷ (app₂ 3 (app₁ 1 (var 0)) (app₁ 1 (var 1)) ⟶ app₁ 1 (app₂ 3 (app₂ 2 (var 0) (var 1)) (app₁ 1 (var 1))))
    ∷ [])

-- s is 1 + its argument, minus and quot their first argument
abbrev division_weights : List Weight
division_weights = a_weight 1 0 1 ∷ a_weight 1 1 1 ∷ a_weight 2 1 1 ∷ a_weight 3 1 1 ∷ []

unfoldable pub division_shown : List Component
division_shown =
    weighted (a_pair 3 1 ∷ []) division_weights (a_weight 3 1 1 ∷ [])
    ∷ unweighted (a_pair 3 2)
    ∷ weighted (a_pair 1 0 ∷ []) division_weights (a_weight 2 1 1 ∷ [])
    ∷ []

-- the same without quot's weight in component 2
unfoldable pub division_less : List Component
division_less =
    weighted (a_pair 3 1 ∷ []) division_weights (a_weight 3 1 1 ∷ [])
    ∷ unweighted (a_pair 3 2)
    ∷ weighted (a_pair 1 0 ∷ []) (a_weight 1 0 1 ∷ a_weight 1 1 1 ∷ a_weight 2 1 1 ∷ []) (a_weight 2 1 1 ∷ [])
    ∷ []

unfoldable pub nothing : System
nothing = system [] []

-- f(f(x)) → f(g(f(x))): 0 f, 1 g
unfoldable pub nested : System
nested = system (1 ∷ 1 ∷ []) ((app₁ 0 (app₁ 0 (var 0)) ⟶ app₁ 0 (app₁ 1 (app₁ 0 (var 0)))) ∷ [])

abbrev nested_first : Component
nested_first = weighted (a_pair 0 2 ∷ []) (a_weight 0 0 1 ∷ a_weight 0 1 1 ∷ a_weight 1 1 1 ∷ []) (a_weight 0 1 1 ∷ [])

unfoldable pub nested_shown : List Component
nested_shown = nested_first ∷ unweighted (a_pair 0 0) ∷ []

unfoldable pub nested_exchanged : List Component
nested_exchanged = unweighted (a_pair 0 0) ∷ nested_first ∷ []

-- f(a,b) → f(a,c), f(c,d) → f(b,d): 0 f, 1 a, 2 b, 3 c, 4 d
unfoldable pub constants : System
constants =
    system (2 ∷ 0 ∷ 0 ∷ 0 ∷ 0 ∷ [])
    ((app₂ 0 (constant 1) (constant 2) ⟶ app₂ 0 (constant 1) (constant 3))
    ∷ (app₂ 0 (constant 3) (constant 4) ⟶ app₂ 0 (constant 2) (constant 4))
    ∷ [])

unfoldable pub constants_shown : List Component
constants_shown = unweighted (a_pair 0 0) ∷ unweighted (a_pair 1 0) ∷ []

-- f(s(x),y,y) → f(y,x,s(x)): 0 f, 1 s
unfoldable pub swapping : System
swapping =
    system (3 ∷ 1 ∷ [])
    ((app₃ 0 (app₁ 1 (var 0)) (var 1) (var 1) ⟶ app₃ 0 (var 1) (var 0) (app₁ 1 (var 0))) ∷ [])

unfoldable pub swapping_shown : List Component
swapping_shown = weighted (a_pair 0 0 ∷ []) (a_weight 1 0 1 ∷ a_weight 1 1 1 ∷ []) (a_weight 0 1 1 ∷ a_weight 0 2 1 ∷ []) ∷ []

-- a → a
unfoldable pub loop : System
loop = system (0 ∷ []) ((constant 0 ⟶ constant 0) ∷ [])

unfoldable pub loop_unweighted : List Component
loop_unweighted = unweighted (a_pair 0 0) ∷ []

unfoldable pub loop_under : Weighting → List Component
loop_under w = record { pairs = a_pair 0 0 ∷ []; weightings = w ∷ [] } ∷ []

-- f(f(x)) → f(x): the pair's right side is a proper subterm of its left side, and it stays
unfoldable pub shrinking : System
shrinking = system (1 ∷ []) ((app₁ 0 (app₁ 0 (var 0)) ⟶ app₁ 0 (var 0)) ∷ [])

unfoldable pub shrinking_pairs : List Pair
shrinking_pairs = a_pair 0 0 ∷ []

-- f(s(s(x))) → f(x), and f(s(s(s(x)))) → f(x), with s = 1 + 65,535 times its argument: 0 f, 1 s
unfoldable pub twice : System
twice = system (1 ∷ 1 ∷ []) ((app₁ 0 (app₁ 1 (app₁ 1 (var 0))) ⟶ app₁ 0 (var 0)) ∷ [])

unfoldable pub thrice : System
thrice = system (1 ∷ 1 ∷ []) ((app₁ 0 (app₁ 1 (app₁ 1 (app₁ 1 (var 0)))) ⟶ app₁ 0 (var 0)) ∷ [])

unfoldable pub heavy_s : List Component
heavy_s = weighted (a_pair 0 0 ∷ []) (a_weight 1 0 1 ∷ a_weight 1 1 65535 ∷ []) (a_weight 0 1 1 ∷ []) ∷ []

-- f(s(x),y) → f(x,s(s(y))), f(x,s(y)) → f(x,y): 0 f, 1 s. The first pair falls by the first argument, the second by the second
unfoldable pub lexicographic : System
lexicographic =
    system (2 ∷ 1 ∷ [])
    ((app₂ 0 (app₁ 1 (var 0)) (var 1) ⟶ app₂ 0 (var 0) (app₁ 1 (app₁ 1 (var 1))))
    ∷ (app₂ 0 (var 0) (app₁ 1 (var 1)) ⟶ app₂ 0 (var 0) (var 1))
    ∷ [])

-- s is 1 + its argument, and the tuple symbol of f one of its arguments
abbrev by_argument : ℕ → Weighting
by_argument i = record { weights = a_weight 1 0 1 ∷ a_weight 1 1 1 ∷ []; marked = a_weight 0 i 1 ∷ [] }

-- s is 1 + 65535 times its argument, and the tuple symbol of f twice its second: the first pair's right passes the limit
abbrev great : Weighting
great = record { weights = a_weight 1 0 1 ∷ a_weight 1 1 65535 ∷ []; marked = a_weight 0 2 2 ∷ [] }

-- a weighting under which every side is 0
abbrev idle : Weighting
idle = record { weights = []; marked = [] }

unfoldable pub lexicographic_under : List Weighting → List Component
lexicographic_under ws = record { pairs = a_pair 0 0 ∷ a_pair 1 0 ∷ []; weightings = ws } ∷ []

-- f(x,x) → f(a,b): 0 f, 1 a, 2 b
unfoldable pub same_twice : System
same_twice = system (2 ∷ 0 ∷ 0 ∷ []) ((app₂ 0 (var 0) (var 0) ⟶ app₂ 0 (constant 1) (constant 2)) ∷ [])

-- f(x,x,x) → f(g(h(a)),g(a),g(b)), h(x) → x: 0 f, 1 g, 2 h, 3 a, 4 b. Of what x meets only the second and the third differ
unfoldable pub last_two : System
last_two =
    system (3 ∷ 1 ∷ 1 ∷ 0 ∷ 0 ∷ [])
    ((app₃ 0 (var 0) (var 0) (var 0) ⟶ app₃ 0 (app₁ 1 (app₁ 2 (constant 3))) (app₁ 1 (constant 3)) (app₁ 1 (constant 4)))
    ∷ (app₁ 2 (var 0) ⟶ var 0)
    ∷ [])

-- f(x,x) → f(h(a),b), h(x) → x: 0 f, 1 h, 2 a, 3 b. What h is applied to does not matter
unfoldable pub under_defined : System
under_defined =
    system (2 ∷ 1 ∷ 0 ∷ 0 ∷ [])
    ((app₂ 0 (var 0) (var 0) ⟶ app₂ 0 (app₁ 1 (constant 2)) (constant 3)) ∷ (app₁ 1 (var 0) ⟶ var 0) ∷ [])

-- f(a,b,x) → f(x,x,x), g(x,y) → x, g(x,y) → y: 0 f, 1 a, 2 b, 3 g. Toyama's, which does not terminate (Arts and Giesl, before
-- Definition 18): the variables of the right side are three
unfoldable pub toyama : System
toyama =
    system (3 ∷ 0 ∷ 0 ∷ 2 ∷ [])
    ((app₃ 0 (constant 1) (constant 2) (var 0) ⟶ app₃ 0 (var 0) (var 0) (var 0))
    ∷ (app₂ 3 (var 0) (var 1) ⟶ var 0)
    ∷ (app₂ 3 (var 0) (var 1) ⟶ var 1)
    ∷ [])

-- THE STARRED CASES but one, a → a under any weighting: pack, certificate, and document 01's number, 0 being accepted
pub record Case : Type 0 where
  pub pack : System
  pub certificate : List Component
  pub number : ℕ

abbrev pub gives : System → List Component → ℕ → Case
gives p cs n = record { pack = p; certificate = cs; number = n }

unfoldable pub starred : List Case
starred =
    gives division division_shown 0
    ∷ gives division division_less 12
    ∷ gives division [] 8
    ∷ gives nothing [] 0
    ∷ gives nested nested_shown 0
    ∷ gives nested nested_exchanged 9
    ∷ gives constants constants_shown 0
    ∷ gives swapping swapping_shown 0
    ∷ gives loop loop_unweighted 10
    ∷ gives twice heavy_s 0
    ∷ gives thrice heavy_s 11
    ∷ []

-- THE CASES of several weightings: both accepted; either alone, and exchanged, 13; an idle one between or after 17, and
-- where a pair remains after it 13; one under which a pair passes the limit accepted once that pair has left, and 11 before
unfoldable pub several : List Case
several =
    gives lexicographic (lexicographic_under (by_argument 1 ∷ by_argument 2 ∷ [])) 0
    ∷ gives lexicographic (lexicographic_under (by_argument 1 ∷ [])) 13
    ∷ gives lexicographic (lexicographic_under (by_argument 2 ∷ [])) 13
    ∷ gives lexicographic (lexicographic_under (by_argument 2 ∷ by_argument 1 ∷ [])) 13
    ∷ gives lexicographic (lexicographic_under (by_argument 1 ∷ idle ∷ by_argument 2 ∷ [])) 17
    ∷ gives lexicographic (lexicographic_under (by_argument 1 ∷ by_argument 2 ∷ idle ∷ [])) 17
    ∷ gives lexicographic (lexicographic_under (by_argument 1 ∷ idle ∷ [])) 13
    ∷ gives lexicographic (lexicographic_under (by_argument 1 ∷ great ∷ [])) 0
    ∷ gives lexicographic (lexicographic_under (great ∷ by_argument 1 ∷ [])) 11
    ∷ []

-- THE CASES of arcs that need a unifier
unfoldable pub by_unifier : List Case
by_unifier =
    gives same_twice (unweighted (a_pair 0 0) ∷ []) 0
    ∷ gives last_two (unweighted (a_pair 0 0) ∷ unweighted (a_pair 0 2) ∷ []) 0
    ∷ gives under_defined (unweighted (a_pair 0 0) ∷ unweighted (a_pair 0 1) ∷ []) 10
    ∷ gives toyama (unweighted (a_pair 0 0) ∷ []) 10
    ∷ []

-- A PAIR OF FILES for each number from 1 to 7, for 13, and for 2 by L
pub record Files : Type 0 where
  pub pack : List ℕ
  pub certificate : List ℕ
  pub number : ℕ

abbrev bytes : List Record → List ℕ
bytes rs = all_record_bytes rs

-- a pack of these records, with an empty certificate
abbrev pack_gives : List Record → ℕ → Files
pack_gives rs n = record { pack = bytes rs; certificate = []; number = n }

-- a → a with a certificate of these records
abbrev loop_gives : List Record → ℕ → Files
loop_gives rs n = record { pack = pack_bytes loop; certificate = bytes rs; number = n }

-- the pack above with a component of two weightings, of which these records follow the pairs: an L is missing, one too many, or out of
-- sequence
abbrev weightings_give : List Record → ℕ → Files
weightings_give rs n =
    record {
      pack = pack_bytes lexicographic;
      certificate = bytes (a_record c_component 0 2 2 ∷ a_record p_pair 0 0 0 ∷ a_record p_pair 1 0 0 ∷ rs);
      number = n;
    }

-- a symbol 0 of arity n, and a rule 0 of one node a side
abbrev one_rule : ℕ → List Record → List Record
one_rule n rs = a_record s_symbol 0 n 0 ∷ a_record r_rule 0 1 1 ∷ rs

unfoldable pub others : List Files
others =
    record { pack = 0 ∷ []; certificate = []; number = 1 }
    ∷ pack_gives (a_record r_rule 0 1 1 ∷ []) 2
    ∷ pack_gives (a_record s_symbol 0 9 0 ∷ []) 3
    ∷ pack_gives (one_rule 1 (a_record f_application 0 0 0 ∷ a_record v_variable 0 0 0 ∷ [])) 4
    ∷ pack_gives (one_rule 0 (a_record v_variable 0 0 0 ∷ a_record v_variable 0 0 0 ∷ [])) 5
    ∷ pack_gives (one_rule 0 (a_record f_application 0 0 0 ∷ a_record v_variable 0 0 0 ∷ [])) 6
    ∷ loop_gives (a_record c_component 1 0 1 ∷ []) 2
    ∷ loop_gives (a_record c_component 0 9 1 ∷ []) 3
    ∷ loop_gives (a_record c_component 0 0 1 ∷ a_record p_pair 0 1 0 ∷ []) 7
    ∷ loop_gives (a_record c_component 0 1 1 ∷ a_record p_pair 0 0 0 ∷ []) 13
    ∷ weightings_give (weight_records w_weight (by_argument 1).weights) 2
    ∷ weightings_give (a_record l_weighting 1 0 0 ∷ a_record l_weighting 2 0 0 ∷ []) 2
    ∷ weightings_give (a_record l_weighting 2 0 0 ∷ []) 2
    ∷ []
