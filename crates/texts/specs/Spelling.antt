-- A text is `(VAR` names `)`, then `(RULES` rules `)`. Document 02: a term is a name with an argument list, and an argument list is
-- terms parted by commas; a name may stand without a list. What a text means is said by how it is spelled: the grammar is this
-- unparser, and nothing else is a text.
use Rattle.std.specs.Prelude.{Bool, true, false, ◌&&◌, ◌||◌, not, List, [], ◌∷◌, ◌++◌, map, eqb}
use Rattle.texts.specs.Tokens.{Name, Token, name, opens, closes, comma, arrow}

-- a term of a text, and an argument list of one: the index tells which
pub data Phrase : (list : Bool) → Type 0 where
  -- a name by itself
  bare : Name → Phrase false
  -- a name and its argument list
  applied : Name → Phrase true → Phrase false
  -- the empty list
  nil : Phrase true
  -- an argument and the arguments after it
  cons : Phrase false → Phrase true → Phrase true

abbrev pub TermPhrase : Type 0
TermPhrase = Phrase false

abbrev pub ListPhrase : Type 0
ListPhrase = Phrase true

pub record TextRule : Type 0 where
  pub left : TermPhrase
  pub right : TermPhrase

pub record Text : Type 0 where
  pub variables : List Name
  pub rules : List TextRule

-- HOW IT IS SPELLED
-- a comma stands before arguments after the first
unfoldable pub parted : {l : Bool} → Phrase l → List Token
parted (bare n) = []
parted (applied n ps) = []
parted nil = []
parted (cons p ps) = comma ∷ []

unfoldable pub spelled : {l : Bool} → Phrase l → List Token
spelled (bare n) = name n ∷ []
spelled (applied n ps) = name n ∷ opens ∷ (spelled ps ++ (closes ∷ []))
spelled nil = []
spelled (cons p ps) = spelled p ++ (parted ps ++ spelled ps)

unfoldable pub spelled_rules : List TextRule → List Token
spelled_rules [] = []
spelled_rules (r ∷ rs) = spelled r.left ++ (arrow ∷ (spelled r.right ++ spelled_rules rs))

-- V, A, R
abbrev pub VAR : Name
VAR = 86 ∷ 65 ∷ 82 ∷ []

-- R, U, L, E, S
abbrev pub RULES : Name
RULES = 82 ∷ 85 ∷ 76 ∷ 69 ∷ 83 ∷ []

unfoldable pub spelled_text : Text → List Token
spelled_text t =
    opens ∷ name VAR ∷ (map name t.variables
    ++ (closes ∷ opens ∷ name RULES ∷ (spelled_rules t.rules ++ (closes ∷ []))))

-- VARIABLES take no argument list, not even an empty one
unfoldable pub same : Name → Name → Bool
same [] [] = true
same [] (d ∷ ds) = false
same (c ∷ cs) [] = false
same (c ∷ cs) (d ∷ ds) = eqb c d && same cs ds

unfoldable pub among : Name → List Name → Bool
among n [] = false
among n (m ∷ ms) = same n m || among n ms

unfoldable pub bare_in : (variables : List Name) → {l : Bool} → Phrase l → Bool
bare_in vs (bare n) = true
bare_in vs (applied n ps) = not (among n vs) && bare_in vs ps
bare_in vs nil = true
bare_in vs (cons p ps) = bare_in vs p && bare_in vs ps

unfoldable pub rules_bare : (variables : List Name) → List TextRule → Bool
rules_bare vs [] = true
rules_bare vs (r ∷ rs) = (bare_in vs r.left && bare_in vs r.right) && rules_bare vs rs

-- no variable of the text has an argument list
unfoldable pub variables_bare : Text → Bool
variables_bare t = rules_bare t.variables t.rules
