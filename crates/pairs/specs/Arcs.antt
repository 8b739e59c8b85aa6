-- Arcs: the edges of an estimate of the dependency graph (Arts and Giesl, Theorem 19), by a test that needs no substitution.
-- `ArcsExactly` says that it finds a unifier exactly where there is one.
use Rattle.std.specs.Prelude.{◌≡◌, Bool, true, false, ◌&&◌, ◌||◌, not, cond, List, [], ◌∷◌, ◌++◌, ℕ, eqb}
use Rattle.rewriting.specs.Terms.{Tree, var, app, nil, cons, System}
use Rattle.rewriting.specs.Pairs.{Pair, pair_left, pair_right, same_root, arguments, defined}

-- u may meet v: u or v is a variable, or u's root is defined or, if `both`, v's is, or the two have one root symbol and each argument
-- of u may meet that of v. Between lists: element by element.
unfoldable pub may_meet : (both : Bool) → System → (u v : Tree) → Bool
may_meet b p (var x) v = true
may_meet b p (app f ts) (var y) = true
may_meet b p (app f ts) (app g us) = defined p f || (b && defined p g || (eqb f g && may_meet b p ts us))
may_meet b p (app f ts) nil = defined p f
may_meet b p (app f ts) (cons u us) = defined p f
may_meet b p nil (var y) = true
may_meet b p nil (app g us) = b && defined p g
may_meet b p nil nil = true
may_meet b p nil (cons u us) = false
may_meet b p (cons t ts) (var y) = true
may_meet b p (cons t ts) (app g us) = b && defined p g
may_meet b p (cons t ts) nil = false
may_meet b p (cons t ts) (cons u us) = may_meet b p t u && may_meet b p ts us

-- u, whose open places are its variables and its subterms with a defined root, may reach v (document 01: may become), whose
-- open places are its variables
abbrev pub may_reach : System → (u v : Tree) → Bool
may_reach = may_meet false

-- two terms, each open at its variables and its subterms with a defined root, have a common instance
abbrev pub compatible : System → (t u : Tree) → Bool
compatible = may_meet true

-- a variable of the left side, and a term of the right side that stands at one of its places
pub record Meeting : Type 0 where
  pub variable : ℕ
  pub met : Tree

abbrev pub a_meeting : (variable : ℕ) → (met : Tree) → Meeting
a_meeting y t = record { variable = y; met = t }

-- all meetings of v's variables with what stands in u, but for open places of u, which agree with everything
unfoldable pub meetings : System → (u v : Tree) → List Meeting
meetings p (var x) v = []
meetings p (app f ts) (var y) = cond (defined p f) [] (a_meeting y (app f ts) ∷ [])
meetings p (app f ts) (app g us) = cond (defined p f) [] (meetings p ts us)
meetings p (app f ts) nil = []
meetings p (app f ts) (cons u us) = []
meetings p nil (var y) = a_meeting y nil ∷ []
meetings p nil (app g us) = []
meetings p nil nil = []
meetings p nil (cons u us) = []
meetings p (cons t ts) (var y) = a_meeting y (cons t ts) ∷ []
meetings p (cons t ts) (app g us) = []
meetings p (cons t ts) nil = []
meetings p (cons t ts) (cons u us) = meetings p t u ++ meetings p ts us

-- a meeting's term is compatible with those that the same variable meets in others
unfoldable pub agrees : System → Meeting → List Meeting → Bool
agrees p m [] = true
agrees p m (k ∷ ks) = (not (eqb k.variable m.variable) || compatible p m.met k.met) && agrees p m ks

unfoldable pub all_agree : System → List Meeting → Bool
all_agree p [] = true
all_agree p (m ∷ ms) = agrees p m ms && all_agree p ms

unfoldable pub unifies : System → (u v : Tree) → Bool
unifies p u v = may_reach p u v && all_agree p (meetings p u v)

unfoldable pub arc : System → (q r : Pair) → Bool
arc p q r =
    same_root (pair_right p q) (pair_left p r) && unifies p (arguments (pair_right p q)) (arguments (pair_left p r))

-- DOCUMENT 01'S ARCS, which ask for less: no two places of a variable are compared
unfoldable pub reach_arc : System → (q r : Pair) → Bool
reach_arc p q r =
    same_root (pair_right p q) (pair_left p r) && may_reach p (arguments (pair_right p q)) (arguments (pair_left p r))

-- document 01's sentence once more, as a relation; `may_reach` decides it
pub data Reaches (p : System) : Tree → Tree → Type 0 where
  from_variable : (x : ℕ) (v : Tree) → Reaches p (var x) v
  to_variable : (u : Tree) (y : ℕ) → Reaches p u (var y)
  from_defined : (f : ℕ) (ts v : Tree) → defined p f ≡ true → Reaches p (app f ts) v
  same_symbol : (f : ℕ) (ts us : Tree) → Reaches p ts us → Reaches p (app f ts) (app f us)
  no_arguments : Reaches p nil nil
  each_argument : (t ts u us : Tree) → Reaches p t u → Reaches p ts us → Reaches p (cons t ts) (cons u us)
