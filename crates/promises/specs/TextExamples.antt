-- Texts of rules: Division as solvers write it, and a small text for each answer.
use Rattle.std.specs.Prelude.{List, [], ◌∷◌, ℕ}
use Rattle.rewriting.specs.Terms.{var, System}
use Rattle.polynomials.specs.Polynomials.{Weight}
use Rattle.certificates.specs.Components.{Component}
use Rattle.pairs.specs.Listing.{a_pair}
use Rattle.promises.specs.Examples.{constant, app₁, app₂, ◌⟶◌, system, a_weight, weighted, unweighted}

-- as examples/division.trs has it
unfoldable pub division_text : List ℕ
division_text =
    40 ∷ 86 ∷ 65 ∷ 82 ∷ 32 ∷ 120 ∷ 32 ∷ 121 ∷ 41 ∷ 10 ∷ 40 ∷ 82 ∷ 85 ∷ 76 ∷ 69 ∷ 83 ∷ 10 ∷ 32 ∷ 32 ∷ 109 ∷ 105 ∷ 110 ∷ 117 ∷
    115 ∷ 40 ∷ 120 ∷ 44 ∷ 32 ∷ 122 ∷ 101 ∷ 114 ∷ 111 ∷ 41 ∷ 32 ∷ 45 ∷ 62 ∷ 32 ∷ 120 ∷ 10 ∷ 32 ∷ 32 ∷ 109 ∷ 105 ∷ 110 ∷ 117 ∷
    115 ∷ 40 ∷ 115 ∷ 40 ∷ 120 ∷ 41 ∷ 44 ∷ 32 ∷ 115 ∷ 40 ∷ 121 ∷ 41 ∷ 41 ∷ 32 ∷ 45 ∷ 62 ∷ 32 ∷ 109 ∷ 105 ∷ 110 ∷ 117 ∷ 115 ∷
    40 ∷ 120 ∷ 44 ∷ 32 ∷ 121 ∷ 41 ∷ 10 ∷ 32 ∷ 32 ∷ 113 ∷ 117 ∷ 111 ∷ 116 ∷ 40 ∷ 122 ∷ 101 ∷ 114 ∷ 111 ∷ 44 ∷ 32 ∷ 115 ∷ 40 ∷
    121 ∷ 41 ∷ 41 ∷ 32 ∷ 45 ∷ 62 ∷ 32 ∷ 122 ∷ 101 ∷ 114 ∷ 111 ∷ 10 ∷ 32 ∷ 32 ∷ 113 ∷ 117 ∷ 111 ∷ 116 ∷ 40 ∷ 115 ∷ 40 ∷ 120 ∷
    41 ∷ 44 ∷ 32 ∷ 115 ∷ 40 ∷ 121 ∷ 41 ∷ 41 ∷ 32 ∷ 45 ∷ 62 ∷ 32 ∷ 115 ∷ 40 ∷ 113 ∷ 117 ∷ 111 ∷ 116 ∷ 40 ∷ 109 ∷ 105 ∷ 110 ∷
    117 ∷ 115 ∷ 40 ∷ 120 ∷ 44 ∷ 32 ∷ 121 ∷ 41 ∷ 44 ∷ 32 ∷ 115 ∷ 40 ∷ 121 ∷ 41 ∷ 41 ∷ 41 ∷ 10 ∷ 41 ∷ 10 ∷ []

-- DIVISION with its symbols numbered by first appearance: 0 minus, 1 zero, 2 s, 3 quot
unfoldable pub division_read : System
division_read =
    system (2 ∷ 0 ∷ 1 ∷ 2 ∷ [])
    ((app₂ 0 (var 0) (constant 1) ⟶ var 0)
    ∷ (app₂ 0 (app₁ 2 (var 0)) (app₁ 2 (var 1)) ⟶ app₂ 0 (var 0) (var 1))
    ∷ (app₂ 3 (constant 1) (app₁ 2 (var 0)) ⟶ constant 1)
    ∷ (app₂ 3 (app₁ 2 (var 0)) (app₁ 2 (var 1)) ⟶ app₁ 2 (app₂ 3 (app₂ 0 (var 0) (var 1)) (app₁ 2 (var 1))))
    ∷ [])

-- and its certificate so renumbered: s is 1 + its argument, minus and quot their first argument
abbrev division_read_weights : List Weight
division_read_weights = a_weight 0 1 1 ∷ a_weight 2 0 1 ∷ a_weight 2 1 1 ∷ a_weight 3 1 1 ∷ []

unfoldable pub division_read_shown : List Component
division_read_shown =
    weighted (a_pair 3 1 ∷ []) division_read_weights (a_weight 3 1 1 ∷ [])
    ∷ unweighted (a_pair 3 2)
    ∷ weighted (a_pair 1 0 ∷ []) division_read_weights (a_weight 0 1 1 ∷ [])
    ∷ []

-- A SMALL TEXT for each answer: the room for its pack, and the number
pub record TextCase : Type 0 where
  pub text : List ℕ
  pub room : ℕ
  pub number : ℕ

abbrev a_text : (text : List ℕ) → (room number : ℕ) → TextCase
a_text bs n k = record { text = bs; room = n; number = k }

unfoldable pub text_cases : List TextCase
text_cases =
    -- `a()` and `a` are one constant: 32 bytes are a symbol, a rule and two nodes
    a_text
    (40 ∷ 86 ∷ 65 ∷ 82 ∷ 41 ∷ 40 ∷ 82 ∷ 85 ∷ 76 ∷ 69 ∷ 83 ∷ 32 ∷ 97 ∷ 40 ∷ 41 ∷ 45 ∷ 62 ∷ 97 ∷ 41 ∷ [])
    32 0
    -- neither names nor rules: a pack of no bytes
    ∷ a_text
    (40 ∷ 86 ∷ 65 ∷ 82 ∷ 41 ∷ 40 ∷ 82 ∷ 85 ∷ 76 ∷ 69 ∷ 83 ∷ 41 ∷ [])
    0 0
    -- VAR and RULES may be names; byte 13 is a blank
    ∷ a_text
    (40 ∷ 86 ∷ 65 ∷ 82 ∷ 32 ∷ 86 ∷ 65 ∷ 82 ∷ 41 ∷ 13 ∷ 40 ∷ 82 ∷ 85 ∷ 76 ∷ 69 ∷ 83 ∷ 32 ∷ 82 ∷ 85 ∷ 76 ∷ 69 ∷ 83 ∷ 40 ∷
    86 ∷ 65 ∷ 82 ∷ 41 ∷ 45 ∷ 62 ∷ 86 ∷ 65 ∷ 82 ∷ 41 ∷ [])
    100 0
    -- VAR may name one twice
    ∷ a_text
    (40 ∷ 86 ∷ 65 ∷ 82 ∷ 32 ∷ 120 ∷ 32 ∷ 120 ∷ 41 ∷ 40 ∷ 82 ∷ 85 ∷ 76 ∷ 69 ∷ 83 ∷ 32 ∷ 102 ∷ 40 ∷ 120 ∷ 41 ∷ 45 ∷ 62 ∷
    120 ∷ 41 ∷ [])
    100 0
    -- no text
    ∷ a_text
    ([])
    100 15
    -- a variable with an argument list
    ∷ a_text
    (40 ∷ 86 ∷ 65 ∷ 82 ∷ 32 ∷ 120 ∷ 41 ∷ 40 ∷ 82 ∷ 85 ∷ 76 ∷ 69 ∷ 83 ∷ 32 ∷ 102 ∷ 40 ∷ 120 ∷ 40 ∷ 41 ∷ 41 ∷ 45 ∷ 62 ∷ 97
    ∷ 41 ∷ [])
    100 15
    -- no argument after a comma
    ∷ a_text
    (40 ∷ 86 ∷ 65 ∷ 82 ∷ 32 ∷ 120 ∷ 41 ∷ 40 ∷ 82 ∷ 85 ∷ 76 ∷ 69 ∷ 83 ∷ 32 ∷ 102 ∷ 40 ∷ 120 ∷ 44 ∷ 41 ∷ 45 ∷ 62 ∷ 97 ∷ 41
    ∷ [])
    100 15
    -- `VARx` is another name
    ∷ a_text
    (40 ∷ 86 ∷ 65 ∷ 82 ∷ 120 ∷ 41 ∷ 40 ∷ 82 ∷ 85 ∷ 76 ∷ 69 ∷ 83 ∷ 41 ∷ [])
    100 15
    -- a blank inside an arrow
    ∷ a_text
    (40 ∷ 86 ∷ 65 ∷ 82 ∷ 41 ∷ 40 ∷ 82 ∷ 85 ∷ 76 ∷ 69 ∷ 83 ∷ 32 ∷ 97 ∷ 45 ∷ 32 ∷ 62 ∷ 97 ∷ 41 ∷ [])
    100 15
    -- a name of 25 characters
    ∷ a_text
    (40 ∷ 86 ∷ 65 ∷ 82 ∷ 41 ∷ 40 ∷ 82 ∷ 85 ∷ 76 ∷ 69 ∷ 83 ∷ 32 ∷ 97 ∷ 97 ∷ 97 ∷ 97 ∷ 97 ∷ 97 ∷ 97 ∷ 97 ∷ 97 ∷ 97 ∷ 97 ∷
    97 ∷ 97 ∷ 97 ∷ 97 ∷ 97 ∷ 97 ∷ 97 ∷ 97 ∷ 97 ∷ 97 ∷ 97 ∷ 97 ∷ 97 ∷ 97 ∷ 45 ∷ 62 ∷ 97 ∷ 41 ∷ [])
    100 15
    -- something behind the last parenthesis
    ∷ a_text
    (40 ∷ 86 ∷ 65 ∷ 82 ∷ 41 ∷ 40 ∷ 82 ∷ 85 ∷ 76 ∷ 69 ∷ 83 ∷ 41 ∷ 40 ∷ 67 ∷ 79 ∷ 77 ∷ 77 ∷ 69 ∷ 78 ∷ 84 ∷ 41 ∷ [])
    100 15
    -- a name with two arities
    ∷ a_text
    (40 ∷ 86 ∷ 65 ∷ 82 ∷ 41 ∷ 40 ∷ 82 ∷ 85 ∷ 76 ∷ 69 ∷ 83 ∷ 32 ∷ 102 ∷ 40 ∷ 97 ∷ 41 ∷ 45 ∷ 62 ∷ 102 ∷ 40 ∷ 97 ∷ 44 ∷ 97 ∷
    41 ∷ 41 ∷ [])
    100 16
    -- 15 comes before 16
    ∷ a_text
    (40 ∷ 86 ∷ 65 ∷ 82 ∷ 41 ∷ 40 ∷ 82 ∷ 85 ∷ 76 ∷ 69 ∷ 83 ∷ 32 ∷ 102 ∷ 40 ∷ 97 ∷ 41 ∷ 45 ∷ 62 ∷ 102 ∷ 40 ∷ 97 ∷ 44 ∷ 97 ∷
    41 ∷ 45 ∷ 62 ∷ 97 ∷ 41 ∷ [])
    100 15
    -- a 17th variable in a rule
    ∷ a_text
    (40 ∷ 86 ∷ 65 ∷ 82 ∷ 32 ∷ 97 ∷ 32 ∷ 98 ∷ 32 ∷ 99 ∷ 32 ∷ 100 ∷ 32 ∷ 101 ∷ 32 ∷ 102 ∷ 32 ∷ 103 ∷ 32 ∷ 104 ∷ 32 ∷ 105 ∷
    32 ∷ 106 ∷ 32 ∷ 107 ∷ 32 ∷ 108 ∷ 32 ∷ 109 ∷ 32 ∷ 110 ∷ 32 ∷ 111 ∷ 32 ∷ 112 ∷ 32 ∷ 113 ∷ 41 ∷ 40 ∷ 82 ∷ 85 ∷ 76 ∷ 69
    ∷ 83 ∷ 32 ∷ 70 ∷ 40 ∷ 71 ∷ 40 ∷ 97 ∷ 44 ∷ 98 ∷ 44 ∷ 99 ∷ 44 ∷ 100 ∷ 44 ∷ 101 ∷ 44 ∷ 102 ∷ 44 ∷ 103 ∷ 44 ∷ 104 ∷ 41
    ∷ 44 ∷ 71 ∷ 40 ∷ 105 ∷ 44 ∷ 106 ∷ 44 ∷ 107 ∷ 44 ∷ 108 ∷ 44 ∷ 109 ∷ 44 ∷ 110 ∷ 44 ∷ 111 ∷ 44 ∷ 112 ∷ 41 ∷ 44 ∷ 113 ∷
    41 ∷ 45 ∷ 62 ∷ 97 ∷ 41 ∷ [])
    1000 16
    -- a 9th argument
    ∷ a_text
    (40 ∷ 86 ∷ 65 ∷ 82 ∷ 32 ∷ 120 ∷ 41 ∷ 40 ∷ 82 ∷ 85 ∷ 76 ∷ 69 ∷ 83 ∷ 32 ∷ 102 ∷ 40 ∷ 120 ∷ 44 ∷ 120 ∷ 44 ∷ 120 ∷ 44 ∷
    120 ∷ 44 ∷ 120 ∷ 44 ∷ 120 ∷ 44 ∷ 120 ∷ 44 ∷ 120 ∷ 44 ∷ 120 ∷ 41 ∷ 45 ∷ 62 ∷ 120 ∷ 41 ∷ [])
    1000 16
    -- 31 bytes of room for a pack of 32
    ∷ a_text
    (40 ∷ 86 ∷ 65 ∷ 82 ∷ 41 ∷ 40 ∷ 82 ∷ 85 ∷ 76 ∷ 69 ∷ 83 ∷ 32 ∷ 97 ∷ 45 ∷ 62 ∷ 97 ∷ 41 ∷ [])
    31 14
    ∷ []
