-- Which kind may stand after which: the documents' table, one for both files.
use Rattle.std.specs.Prelude.{Bool, true, false, ◌&&◌, cond, List, [], ◌∷◌, ℕ, zero, suc, ltb, leb, eqb, get_or}
use Rattle.records.specs.declared.Record.{Record}

-- the kinds, ASCII letters
abbrev pub s_symbol : ℕ
s_symbol = 83

abbrev pub r_rule : ℕ
r_rule = 82

abbrev pub f_application : ℕ
f_application = 70

abbrev pub v_variable : ℕ
v_variable = 86

abbrev pub c_component : ℕ
c_component = 67

abbrev pub p_pair : ℕ
p_pair = 80

abbrev pub w_weight : ℕ
w_weight = 87

abbrev pub m_marked : ℕ
m_marked = 77

-- document 02's
abbrev pub l_weighting : ℕ
l_weighting = 76

-- and those that no row lets come yet
abbrev pub d_counting : ℕ
d_counting = 68

abbrev pub i_innermost : ℕ
i_innermost = 73

-- a kind's row and column in the table; row 0 is the start of a pack, columns 0 and 5 are the ends of the files
abbrev pub pack_edge : ℕ
pack_edge = 0

abbrev pub certificate_edge : ℕ
certificate_edge = 5

abbrev S : ℕ
S = 1

abbrev R : ℕ
R = 2

abbrev F : ℕ
F = 3

abbrev V' : ℕ
V' = 4

abbrev C : ℕ
C = 6

abbrev P : ℕ
P = 7

abbrev W : ℕ
W = 8

abbrev M : ℕ
M = 9

abbrev L : ℕ
L = 10

abbrev D : ℕ
D = 11

abbrev I : ℕ
I = 12

-- any other byte
abbrev other : ℕ
other = 13

abbrev pub columns : ℕ
columns = 14

-- a certificate and its components start in two rows, which say the same: a record that only begins a certificate belongs in the first
abbrev pub components_start : ℕ
components_start = 5

abbrev pub certificate_start : ℕ
certificate_start = 14

abbrev pub rows : ℕ
rows = 15

unfoldable pub index : ℕ → ℕ
index k =
    cond (eqb k s_symbol) S
    (cond (eqb k r_rule) R
    (cond (eqb k f_application) F
    (cond (eqb k v_variable) V'
    (cond (eqb k c_component) C
    (cond (eqb k p_pair) P
    (cond (eqb k w_weight) W
    (cond (eqb k m_marked) M
    (cond (eqb k l_weighting) L (cond (eqb k d_counting) D (cond (eqb k i_innermost) I other))))))))))

-- What may come in a row, and when: 1 always, 2 while the count lasts (a rule's nodes, a component's pairs), 3 after it, 4 after it
-- in a component with a weighting.
pub record May : Type 0 where
  pub come : ℕ
  pub when : ℕ

abbrev always : ℕ → May
always k = record { come = k; when = 1 }

abbrev inside_count : ℕ → May
inside_count k = record { come = k; when = 2 }

abbrev after_count : ℕ → May
after_count k = record { come = k; when = 3 }

abbrev when_weighted : ℕ → May
when_weighted k = record { come = k; when = 4 }

-- THE TABLE, a row for what stands before
abbrev after_pack_start : List May
after_pack_start = always S ∷ always pack_edge ∷ []

abbrev after_S : List May
after_S = always S ∷ always R ∷ always pack_edge ∷ []

abbrev after_R : List May
after_R = always F ∷ always V' ∷ []

abbrev after_F_or_V : List May
after_F_or_V = inside_count F ∷ inside_count V' ∷ after_count R ∷ after_count pack_edge ∷ []

abbrev after_certificate_start : List May
after_certificate_start = always C ∷ always certificate_edge ∷ []

abbrev after_components_start : List May
after_components_start = always C ∷ always certificate_edge ∷ []

abbrev after_C : List May
after_C = always P ∷ []

abbrev after_P : List May
after_P = inside_count P ∷ after_count C ∷ after_count certificate_edge ∷ when_weighted W ∷ when_weighted M ∷ when_weighted L ∷ []

abbrev after_W : List May
after_W = always W ∷ always M ∷ always L ∷ always C ∷ always certificate_edge ∷ []

abbrev after_M : List May
after_M = always M ∷ always L ∷ always C ∷ always certificate_edge ∷ []

-- what may after W
abbrev after_L : List May
after_L = after_W

abbrev after_D_or_I : List May
after_D_or_I = []

abbrev after_other : List May
after_other = []

unfoldable pub order : List (List May)
order =
    after_pack_start
    ∷ after_S
    ∷ after_R
    ∷ after_F_or_V
    ∷ after_F_or_V
    ∷ after_components_start
    ∷ after_C
    ∷ after_P
    ∷ after_W
    ∷ after_M
    ∷ after_L
    ∷ after_D_or_I
    ∷ after_D_or_I
    ∷ after_other
    ∷ after_certificate_start
    ∷ []

-- when it may come in a row, 0 for never
unfoldable pub when_in : List May → ℕ → ℕ
when_in [] k = 0
when_in (m ∷ ms) k = cond (eqb m.come k) m.when (when_in ms k)

unfoldable pub entry : (before next : ℕ) → ℕ
entry before next = when_in (get_or order before []) next

-- whether an entry lets a record stand, by the count still due and whether the component has a weighting
unfoldable pub lets : ℕ → ℕ → Bool → Bool
lets zero due weighted = false
lets (suc zero) due weighted = true
lets (suc (suc zero)) due weighted = leb 1 due
lets (suc (suc (suc zero))) due weighted = eqb due 0
lets (suc (suc (suc (suc n)))) due weighted = eqb due 0 && weighted

unfoldable pub may_follow : (before next : ℕ) → (due : ℕ) → (weighted : Bool) → Bool
may_follow before next due weighted = lets (entry before next) due weighted

-- consecutive kinds obey the table, from what stands before them to the end of the file
unfoldable pub obeys : (before edge : ℕ) → List Record → Bool
obeys k e [] = ltb 0 (entry k e)
obeys k e (r ∷ rs) = ltb 0 (entry k (index r.kind)) && obeys (index r.kind) e rs

-- what stands last in records that begin after `before`: its row
unfoldable pub last_row : (before : ℕ) → List Record → ℕ
last_row k [] = k
last_row k (r ∷ rs) = last_row (index r.kind) rs
