-- Filling cells of the table from weights that rise, and clearing them: each weight has a cell of its own, which no other has.
use mathlib.Core.Path.{◌≡◌, refl, sym, ap, ◌∙◌}
use mathlib.Core.Bool.{Bool, true, false, ◌&&◌, cond}
use mathlib.Core.Logic.{⊎_elim}
use mathlib.Core.List.{List, [], ◌∷◌, ◌++◌, append_assoc, append-nil}
use Prim.Native.Nat.{ℕ, ◌+◌, ◌*◌, ◌≤◌, ◌<◌}
use native.Mathlib.Decide.{ℕ_discrete}
use native.Mathlib.Omega.{arith}
use lib.Dec.{ltb, eqb}
use lib.ListN.{get_or, set, replicate, length-set, length-replicate, get_or-replicate}
use lib.Seq.{get_or-set_same, get_or-set_other}
use borrow.Author.Tests.{ltb-true, eqb-true, eq-eqb, ne_eqb}
use Rattle.rewriting.proofs.Basics.{by_test, and_left, and_right, or_cases, Each, each_nil, each_cons, each_head, each_tail, each_right}
use Rattle.records.specs.Rising.{rises, rising}
use Rattle.polynomials.specs.Polynomials.{Weight, weight}
use Rattle.weights.specs.Table.{CellsAre, row, marked_row}
use Rattle.records.specs.Order.{w_weight}
use Rattle.checker.specs.Working.{own_base, other_base, OthersStay, put_all}

-- a weight's cell, counted from where the cells begin
abbrev pub entry : Weight → ℕ
entry w = 9 * w.symbol + w.place

abbrev pub InTable : Weight → Type 0
InTable w = (w.symbol < 64) × (w.place ≤ 8)

-- THE ENTRIES RISE

entries_rise : (a b c d : ℕ) → b ≤ 8 → rises a b c d ≡ true → 9 * a + b < 9 * c + d
unfolding rises
entries_rise a b c d small h =
    ⊎_elim
    (λ l. omega (arith, ltb-true a c l))
    (λ k. omega (arith, eqb-true a c (and_left _ _ k), ltb-true b d (and_right (eqb a c) _ k)))
    (or_cases (ltb a c) _ h)

abbrev pub Rise : List Weight → Type 0
Rise ws = rising (λ w. w.symbol) (λ w. w.place) ws ≡ true

entries_before : (xs : List Weight) (w : Weight) (ys : List Weight) → Rise (xs ++ (w ∷ ys)) → Each InTable (xs ++ (w ∷ ys)) → Each (λ x. entry x < entry w) xs
unfolding rising
entries_before [] w ys h small = each_nil
entries_before (x ∷ []) w ys h small =
    each_cons x [] (entries_rise x.symbol x.place w.symbol w.place (each_head small).1 (and_left _ _ h)) each_nil
entries_before (x ∷ y ∷ xs) w ys h small =
    let first = rises x.symbol x.place y.symbol y.place in
    let below = entries_rise x.symbol x.place y.symbol y.place (each_head small).1 (and_left first _ h) in
    let rest = entries_before (y ∷ xs) w ys (and_right first _ h) (each_tail small) in
    each_cons x (y ∷ xs) (omega (arith, each_head rest)) rest

-- so do those after the first
pub later_rise : (w : Weight) (ws : List Weight) → Rise (w ∷ ws) → Rise ws
unfolding rising
later_rise w [] h = refl
later_rise w (y ∷ ws) h = and_right (rises w.symbol w.place y.symbol y.place) _ h

-- WHAT THE WEIGHTS SAY with one more at the end

other_entry : (x : Weight) (f i : ℕ) → (entry x ≡ 9 * f + i → ⊥) → eqb x.symbol f && eqb x.place i ≡ false
other_entry x f i differ =
    by_test (eqb x.symbol f && eqb x.place i)
    (λ h.
    let same_symbol = eqb-true x.symbol f (and_left (eqb x.symbol f) (eqb x.place i) h) in
    let same_place = eqb-true x.place i (and_right (eqb x.symbol f) (eqb x.place i) h) in
    absurd (differ (omega arith)))
    (λ h. h)

last_weight : (w : Weight) {xs : List Weight} → Each (λ x. entry x < entry w) xs → weight (xs ++ (w ∷ [])) w.symbol w.place ≡ w.value
unfolding weight
last_weight w each_nil = rw (eq-eqb w.symbol w.symbol refl, eq-eqb w.place w.place refl)
last_weight w (each_cons x xs h hs) = rw (other_entry x w.symbol w.place (λ e. omega arith)) (last_weight w hs)

other_weights : (w : Weight) (f i : ℕ) → (entry w ≡ 9 * f + i → ⊥) → (xs : List Weight) → weight (xs ++ (w ∷ [])) f i ≡ weight xs f i
unfolding weight
other_weights w f i differ [] = rw (other_entry w f i differ)
other_weights w f i differ (x ∷ xs) =
    ap (cond (eqb x.symbol f && eqb x.place i) x.value) (other_weights w f i differ xs)

first_other : (w : Weight) (ws : List Weight) (f i : ℕ) → (entry w ≡ 9 * f + i → ⊥) → weight (w ∷ ws) f i ≡ weight ws f i
unfolding weight
first_other w ws f i differ = rw (other_entry w f i differ)

-- those that come after an entry say nothing of it
weightless : (f i : ℕ) (x : Weight) (ys : List Weight) → 9 * f + i < entry x → Rise (x ∷ ys) → Each InTable (x ∷ ys) → weight (x ∷ ys) f i ≡ 0
unfolding weight rising
weightless f i x [] above rise small = rw (other_entry x f i (λ e. omega arith))
weightless f i x (y ∷ ys) above rise small =
    let first = rises x.symbol x.place y.symbol y.place in
    let up = entries_rise x.symbol x.place y.symbol y.place (each_head small).1 (and_left first _ rise) in
    rw (other_entry x f i (λ e. omega arith)) (weightless f i y ys (omega (arith, up)) (and_right first _ rise) (each_tail small))

none_after : (w : Weight) (left : List Weight) → Rise (w ∷ left) → Each InTable (w ∷ left) → weight left w.symbol w.place ≡ 0
unfolding weight rising
none_after w [] rise small = refl
none_after w (y ∷ ys) rise small =
    let first = rises w.symbol w.place y.symbol y.place in
    let up = entries_rise w.symbol w.place y.symbol y.place (each_head small).1 (and_left first _ rise) in
    weightless w.symbol w.place y ys up (and_right first _ rise) (each_tail small)

-- THE TABLE

pub no_weights : (base : ℕ) → base ≤ 576 → CellsAre base (replicate 1152 0) []
unfolding weight
no_weights base h =
    record { long = length-replicate {A = ℕ} 1152 0; are = λ f i k l. get_or-replicate {A = ℕ} 1152 (base + (9 * f + i)) 0 0 (omega arith) }

pub bases_small : (kind : ℕ) → (own_base kind ≤ 576) × (other_base kind ≤ 576)
unfolding own_base other_base
bases_small k = by_test (eqb k w_weight) (λ e. rw e (omega arith, omega arith)) (λ e. rw e (omega arith, omega arith))

-- a record's cell, as the table's functions count it
pub plain_cell : (kind a b : ℕ) → kind ≡ w_weight → row a + b ≡ own_base kind + (9 * a + b)
unfolding own_base
plain_cell k a b e = rw (eq-eqb k w_weight e) (omega arith)

pub marked_cell : (kind a b : ℕ) → (kind ≡ w_weight → ⊥) → marked_row a + b ≡ own_base kind + (9 * a + b)
unfolding own_base
marked_cell k a b e = rw (ne_eqb k w_weight e) (omega arith)

-- the cells of the other kind are others
cells_apart : (kind a b f i : ℕ) → 9 * a + b < 576 → 9 * f + i < 576 → other_base kind + (9 * f + i) ≡ own_base kind + (9 * a + b) → ⊥
unfolding own_base other_base
cells_apart k a b f i h l e =
    by_test (eqb k w_weight)
    (λ t. let z = (rw t at e) in omega arith)
    (λ t. let z = (rw t at e) in omega arith)

pub others_stay : (kind : ℕ) (table : List ℕ) (a b x : ℕ) → a < 64 → b ≤ 8 → OthersStay kind table (set table (own_base kind + (9 * a + b)) x)
unfolding OthersStay
others_stay k table a b x h l vs c =
    record {
      long = length-set table _ x ∙ c.long;
      are = λ f i m n.
          get_or-set_other table (own_base k + (9 * a + b)) (other_base k + (9 * f + i)) x 0 (cells_apart k a b f i (omega arith) (omega arith)) ∙ c.are f i m n;
    }

module _ (base : ℕ) (small_base : base ≤ 576) where
  pub one_filled :
      (table : List ℕ) (done : List Weight) (w : Weight) (left : List Weight) → CellsAre base table done → Rise (done ++ (w ∷ left)) →
      Each InTable (done ++ (w ∷ left)) → InTable w → CellsAre base (set table (base + entry w) w.value) (done ++ (w ∷ []))
  one_filled table done w left t rise small in_table =
      let long = t.long in
      record { long = length-set table (base + entry w) w.value ∙ long; are = are }
    where
      are : (f i : ℕ) → f < 64 → i ≤ 8 → get_or (set table (base + entry w) w.value) (base + (9 * f + i)) 0 ≡ weight (done ++ (w ∷ [])) f i
      are f i h k = go (ℕ_discrete (9 * f + i) (entry w))
        where
          go : Dec (9 * f + i ≡ entry w) → get_or (set table (base + entry w) w.value) (base + (9 * f + i)) 0 ≡ weight (done ++ (w ∷ [])) f i
          go (yes e) =
              let same_symbol : f ≡ w.symbol = omega (arith, in_table.1) in
              let same_place : i ≡ w.place = omega (arith, in_table.1) in
              rw (same_symbol, same_place)
              (get_or-set_same table (base + entry w) w.value 0 (omega (arith, t.long, in_table.0, in_table.1))
              ∙ sym (last_weight w (entries_before done w left rise small)))
          go (no d) =
              get_or-set_other table (base + entry w) (base + (9 * f + i)) w.value 0 (λ e. d (omega arith)) ∙ t.are f i h k
              ∙ sym (other_weights w f i (λ e. d (sym e)) done)

  -- CLEARING IT, first weight first
  pub one_cleared :
      (table : List ℕ) (w : Weight) (left : List Weight) → CellsAre base table (w ∷ left) → Rise (w ∷ left) → Each InTable (w ∷ left) →
      CellsAre base (set table (base + entry w) 0) left
  one_cleared table w left t rise small =
      let long = t.long in
      record { long = length-set table (base + entry w) 0 ∙ long; are = are }
    where
      are : (f i : ℕ) → f < 64 → i ≤ 8 → get_or (set table (base + entry w) 0) (base + (9 * f + i)) 0 ≡ weight left f i
      are f i h k = go (ℕ_discrete (9 * f + i) (entry w))
        where
          go : Dec (9 * f + i ≡ entry w) → get_or (set table (base + entry w) 0) (base + (9 * f + i)) 0 ≡ weight left f i
          go (yes e) =
              let in_table = each_head small in
              let same_symbol : f ≡ w.symbol = omega (arith, in_table.1) in
              let same_place : i ≡ w.place = omega (arith, in_table.1) in
              rw (same_symbol, same_place)
              (get_or-set_same table (base + entry w) 0 0 (omega (arith, t.long, in_table.0, in_table.1)) ∙ sym (none_after w left rise small))
          go (no d) = get_or-set_other table (base + entry w) (base + (9 * f + i)) 0 0 (λ e. d (omega arith)) ∙ t.are f i h k ∙ first_other w left f i (λ e. d (sym e))

-- ALL OF THEM, one after another

module _ (base : ℕ) (small_base : base ≤ 576) where
  pub all_filled : (ws done : List Weight) (table : List ℕ) → CellsAre base table done → Rise (done ++ ws) → Each InTable (done ++ ws) →
      CellsAre base (put_all false base ws table) (done ++ ws)
  unfolding put_all
  all_filled [] done table t rise small = rw append-nil t
  all_filled (w ∷ ws) done table t rise small =
      let own : InTable w = each_head (each_right done (w ∷ ws) small) in
      let e : (done ++ (w ∷ [])) ++ ws ≡ done ++ (w ∷ ws) = append_assoc done (w ∷ []) ws in
      let more = all_filled ws (done ++ (w ∷ [])) (set table (base + entry w) w.value) (one_filled base small_base table done w ws t rise small own) (rw e rise) (rw e small) in
      rw e at more

  pub all_cleared : (ws : List Weight) (table : List ℕ) → CellsAre base table ws → Rise ws → Each InTable ws → CellsAre base (put_all true base ws table) []
  unfolding put_all
  all_cleared [] table t rise small = t
  all_cleared (w ∷ ws) table t rise small =
      all_cleared ws (set table (base + entry w) 0) (one_cleared base small_base table w ws t rise small) (later_rise w ws rise) (each_tail small)

pub all_others : (kind : ℕ) (clears : Bool) (ws : List Weight) (table : List ℕ) → Each InTable ws → OthersStay kind table (put_all clears (own_base kind) ws table)
unfolding put_all OthersStay
all_others kind clears [] table small vs h = h
all_others kind clears (w ∷ ws) table small vs h =
    all_others kind clears ws (set table (own_base kind + entry w) (cond clears 0 w.value)) (each_tail small) vs
    (others_stay kind table w.symbol w.place (cond clears 0 w.value) (each_head small).0 (each_head small).1 vs h)
