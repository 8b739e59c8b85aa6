-- The kinds of records one by one, and what the table of their order says whatever the file: what may follow has an entry
-- there, and the two files' kinds never mix.
use mathlib.Core.Path.{◌≡◌, refl, sym, subst}
use mathlib.Core.Bool.{Bool, true, false, false≢true}
use mathlib.Core.List.{List, [], ◌∷◌}
use mathlib.Core.Logic.{◌⊎◌, ⊎_elim}
use Prim.Native.Nat.{ℕ, zero, suc, ◌+◌, ◌-◌, ◌/◌, ◌%◌, ◌^◌, ◌≤◌, ◌<◌}
use native.Mathlib.Nat.{le_of_suc-le-suc}
use native.Mathlib.Omega.{arith}
use lib.Dec.{ltb, eqb}
use borrow.Author.Tests.{eqb-true, ne_eqb, lt-ltb, le-leb}
use Rattle.records.specs.Order.{s_symbol, r_rule, f_application, v_variable, c_component, p_pair, w_weight, m_marked, d_counting, i_innermost, l_weighting, columns, components_start, certificate_start, rows, index, order, when_in, entry, lets, may_follow, obeys}
use Rattle.records.specs.declared.Record.{Record}
use Rattle.records.specs.declared.order.Row.{Row}
use Rattle.records.specs.Rows.{column_at, bit, Says, RowSays}

-- a byte is one of the nine letters that may stand somewhere, or none of them
pub data Kind : ℕ → Type 0 where
  is_S : Kind s_symbol
  is_R : Kind r_rule
  is_F : Kind f_application
  is_V : Kind v_variable
  is_C : Kind c_component
  is_P : Kind p_pair
  is_W : Kind w_weight
  is_M : Kind m_marked
  is_L : Kind l_weighting
  is_other : (k : ℕ) → 11 ≤ index k → index k < columns → Kind k

letter : (k m : ℕ) → Kind m → (eqb k m ≡ false → Kind k) → Kind k
letter k m this other = go (eqb k m) refl
  where
    go : (b : Bool) → eqb k m ≡ b → Kind k
    go true e = subst Kind (sym (eqb-true k m e)) this
    go false e = other e

pub kind_of : (k : ℕ) → Kind k
unfolding index
kind_of k =
    letter k s_symbol is_S
    (λ s. letter k r_rule is_R
    (λ r. letter k f_application is_F
    (λ f. letter k v_variable is_V
    (λ v. letter k c_component is_C
    (λ c. letter k p_pair is_P
    (λ p. letter k w_weight is_W
    (λ w. letter k m_marked is_M
    (λ m. letter k l_weighting is_L
    (λ l. letter k d_counting (is_other d_counting (omega arith) (omega arith))
    (λ d. letter k i_innermost (is_other i_innermost (omega arith) (omega arith))
    (λ i.
    let e : index k ≡ 13 = rw (s, r, f, v, c, p, w, m, l, d, i) in
    is_other k (omega arith) (omega arith))))))))))))

-- THE TABLE

pub may_follow_entry : (before next due : ℕ) (weighted : Bool) → may_follow before next due weighted ≡ true → entry before next ≡ 0 → ⊥
unfolding may_follow lets
may_follow_entry before next due weighted h e = false≢true (rw e at h)

-- as `obeys` asks it of each two that stand one after the other
pub may_follow_stands : (before next due : ℕ) (weighted : Bool) → may_follow before next due weighted ≡ true → ltb 0 (entry before next) ≡ true
may_follow_stands before next due weighted h =
    let some : entry before next ≡ 0 → ⊥ = may_follow_entry before next due weighted h in
    lt-ltb 0 (entry before next) (omega arith)

-- numbers that add up to 0 are each 0: so computing one sum tells of every entry in a part of the table
unfoldable pub sum_below : ℕ → (ℕ → ℕ) → ℕ
sum_below zero f = 0
sum_below (suc n) f = f 0 + sum_below n (λ i. f (suc i))

zero_below : (n : ℕ) (f : ℕ → ℕ) → sum_below n f ≡ 0 → (i : ℕ) → i < n → f i ≡ 0
unfolding sum_below
zero_below zero f h i b = absurd (omega arith)
zero_below (suc n) f h zero b = omega arith
zero_below (suc n) f h (suc i) b = zero_below n (λ j. f (suc j)) (omega arith) i (le_of_suc-le-suc b)

-- the same of numbers in rows and columns
sum_of : (rows columns : ℕ) → (ℕ → ℕ → ℕ) → ℕ
sum_of m n f = sum_below m (λ i. sum_below n (f i))

zero_in : (m n : ℕ) (f : ℕ → ℕ → ℕ) → sum_of m n f ≡ 0 → (i j : ℕ) → i < m → j < n → f i j ≡ 0
unfolding sum_of
zero_in m n f h i j k l = zero_below n (f i) (zero_below m (λ i. sum_below n (f i)) h i k) j l

-- in a pack no kind of the certificate may stand, nor any other byte
pub pack_apart : (before next : ℕ) → before < 5 → 5 ≤ next → next < columns → entry before next ≡ 0
unfolding entry order when_in sum_below sum_of
pack_apart before next h k l =
    let f : 5 + (next - 5) ≡ next = omega arith in
    rw f at (zero_in 5 9 (λ i j. entry i (5 + j)) refl before (next - 5) h (omega arith))

-- in a certificate no kind of the pack may stand
pub certificate_apart : (before next : ℕ) → 5 ≤ before → before < rows → next < 5 → entry before next ≡ 0
unfolding entry order when_in sum_below sum_of
certificate_apart before next h k l =
    let f : 5 + (before - 5) ≡ before = omega arith in
    rw f at (zero_in 10 5 (λ i j. entry (5 + i) j) refl (before - 5) next (omega arith) l)

-- D, I and any other byte may stand nowhere
pub other_nowhere : (before next : ℕ) → before < rows → 11 ≤ next → next < columns → entry before next ≡ 0
unfolding entry order when_in sum_below sum_of
other_nowhere before next h k l =
    let f : 11 + (next - 11) ≡ next = omega arith in
    rw f at (zero_in rows 3 (λ i j. entry i (11 + j)) refl before (next - 11) h (omega arith))

-- what may begin a certificate is what may begin its components
pub starts_agree : (edge : ℕ) (rs : List Record) → obeys certificate_start edge rs ≡ obeys components_start edge rs
unfolding obeys entry order
starts_agree edge [] = refl
starts_agree edge (r ∷ rs) = refl

-- THE CODE'S TABLE: three numbers to a row, a bit to a column

-- as above, of numbers that are the same at each place
unfoldable pub distance : ℕ → ℕ → ℕ
distance m n = (m - n) + (n - m)

same_below : (n : ℕ) (f g : ℕ → ℕ) → sum_below n (λ i. distance (f i) (g i)) ≡ 0 → (i : ℕ) → i < n → f i ≡ g i
unfolding distance
same_below n f g h i b = let z : (f i - g i) + (g i - f i) ≡ 0 = zero_below n (λ i. distance (f i) (g i)) h i b in omega arith

-- how many bits of a number say something else than the table does
unfoldable pub misses : (before due : ℕ) → (weighted : Bool) → (columns : ℕ) → ℕ
misses before due weighted columns =
    sum_below 29 (λ k. distance (columns / 2 ^ k % 2) (bit (may_follow before (column_at k) due weighted)))

hits : (before due : ℕ) (weighted : Bool) (columns : ℕ) → misses before due weighted columns ≡ 0 → Says before due weighted columns
unfolding misses
hits before due weighted columns h =
    same_below 29 (λ k. columns / 2 ^ k % 2) (λ k. bit (may_follow before (column_at k) due weighted)) h

-- of a row's three numbers
unfoldable pub row_misses : (before lasts done weighted : ℕ) → ℕ
row_misses before l d w = misses before 1 false l + (misses before 0 false d + misses before 0 true w)

pub row_says : {b : ℕ} (before : ℕ) {row : Row} {l d w : ℕ} → b ≡ before → (row.lasts ≡ l) × (row.done ≡ d) × (row.weighted ≡ w)
    → row_misses before l d w ≡ 0 → RowSays b row
unfolding row_misses
row_says before {row} {l} {d} {w} e (el, ed, ew) none =
    rw e (record {
      lasts = rw el (hits before 1 false l (omega arith));
      done = rw ed (hits before 0 false d (omega arith));
      weighted = rw ew (hits before 0 true w (omega arith));
    })

-- while the count lasts, neither how much of it is left nor a weighting matters
pub while_due_same : (before next due : ℕ) (weighted : Bool) → 1 ≤ due → may_follow before next due weighted ≡ may_follow before next 1 false
unfolding may_follow lets
while_due_same before next due weighted h = same (entry before next)
  where
    same : (e : ℕ) → lets e due weighted ≡ lets e 1 false
    same zero = refl
    same (suc zero) = refl
    same (suc (suc zero)) = le-leb 1 due h
    same (suc (suc (suc zero))) = ne_eqb due 0 (λ e. omega arith)
    same (suc (suc (suc (suc e)))) = rw (ne_eqb due 0 (λ e. omega arith))

-- a byte that is no letter is no kind
pub no_kind : (k : ℕ) → ◌⊎◌ (k < 65) (91 ≤ k) → index k ≡ 13
unfolding index
no_kind k h =
    simp (
      ne_eqb k 83 (λ e. ⊎_elim (λ l. omega arith) (λ l. omega arith) h),
      ne_eqb k 82 (λ e. ⊎_elim (λ l. omega arith) (λ l. omega arith) h),
      ne_eqb k 70 (λ e. ⊎_elim (λ l. omega arith) (λ l. omega arith) h),
      ne_eqb k 86 (λ e. ⊎_elim (λ l. omega arith) (λ l. omega arith) h),
      ne_eqb k 67 (λ e. ⊎_elim (λ l. omega arith) (λ l. omega arith) h),
      ne_eqb k 80 (λ e. ⊎_elim (λ l. omega arith) (λ l. omega arith) h),
      ne_eqb k 87 (λ e. ⊎_elim (λ l. omega arith) (λ l. omega arith) h),
      ne_eqb k 77 (λ e. ⊎_elim (λ l. omega arith) (λ l. omega arith) h),
      ne_eqb k 68 (λ e. ⊎_elim (λ l. omega arith) (λ l. omega arith) h),
      ne_eqb k 73 (λ e. ⊎_elim (λ l. omega arith) (λ l. omega arith) h),
      ne_eqb k 76 (λ e. ⊎_elim (λ l. omega arith) (λ l. omega arith) h),
    )
