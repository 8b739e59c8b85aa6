-- Places among first appearances: what was seen keeps its place, what is new gets the next. And the table of symbols so far: first
-- appearances with the counts of their first uses.
use mathlib.Core.Path.{◌≡◌, refl, sym, ap, ◌∙◌}
use mathlib.Core.Bool.{Bool, true, false, ◌||◌, cond, false≢true}
use mathlib.Core.List.{List, [], ◌∷◌, ◌++◌, map, map-append, append_assoc, append-nil}
use Prim.Native.Nat.{suc, ◌≤◌, ◌<◌}
use native.Mathlib.Omega.{arith}
use lib.ListN.{length, length-append, length-map}
use Rattle.rewriting.proofs.Basics.{by_test, not_both, Each, each_nil, each_cons, each_append, or_left, or_right, or_left_false, or_right_false}
use Rattle.texts.specs.Tokens.{Name}
use Rattle.texts.specs.Spelling.{same, among}
use Rattle.texts.specs.Numbers.{Use, names, appearing, place, first_count}
use Rattle.texts.specs.Working.{counts}
use Rattle.texts.proofs.Names.{same_refl, same_eq, among_append}

-- AMONG

pub among_kept : (n : Name) (xs ys : List Name) → among n xs ≡ true → among n (xs ++ ys) ≡ true
among_kept n xs ys h = among_append n xs ys ∙ or_left _ h

pub among_new : (n : Name) (xs : List Name) → among n (xs ++ (n ∷ [])) ≡ true
unfolding among
among_new n xs = among_append n xs (n ∷ []) ∙ or_right (among n xs) (or_left false (same_refl n))

-- PLACES

pub place_kept : (n : Name) (xs ys : List Name) → among n xs ≡ true → place n (xs ++ ys) ≡ place n xs
unfolding place among
place_kept n [] ys h = absurd (false≢true h)
place_kept n (x ∷ xs) ys h = go (same n x) h (place_kept n xs ys)
  where
    go : (b : Bool) → b || among n xs ≡ true → (among n xs ≡ true → place n (xs ++ ys) ≡ place n xs) →
        cond b 0 (suc (place n (xs ++ ys))) ≡ cond b 0 (suc (place n xs))
    go true h k = refl
    go false h k = ap suc (k h)

pub place_new : (n : Name) (xs : List Name) → among n xs ≡ false → place n (xs ++ (n ∷ [])) ≡ length xs
unfolding place among
place_new n [] h = rw (same_refl n)
place_new n (x ∷ xs) h =
    rw (or_left_false (same n x) _ h) (ap suc (place_new n xs (or_right_false (same n x) _ h)))

pub place_below : (n : Name) (xs : List Name) → among n xs ≡ true → place n xs < length xs
unfolding place among
place_below n [] h = absurd (false≢true h)
place_below n (x ∷ xs) h = go (same n x) h (place_below n xs)
  where
    go : (b : Bool) → b || among n xs ≡ true → (among n xs ≡ true → place n xs < length xs) →
        cond b 0 (suc (place n xs)) < suc (length xs)
    go true h k = omega arith
    go false h k = let l = k h in omega arith

-- FIRST APPEARANCES begin with what was seen
pub seen_first : (seen ns : List Name) → (more : List Name) × (appearing seen ns ≡ seen ++ more)
unfolding appearing
seen_first seen [] = ([], sym (append-nil seen))
seen_first seen (n ∷ ns) =
    by_test (among n seen)
    (λ h. rw h (seen_first seen ns))
    (λ h.
    let rest = seen_first (seen ++ (n ∷ [])) ns in
    rw h (n ∷ rest.0, rest.1 ∙ append_assoc seen (n ∷ []) rest.0))

pub seen_few : (seen ns : List Name) → length seen ≤ length (appearing seen ns)
seen_few seen ns = let f = seen_first seen ns in rw (f.1, length-append) (omega arith)

pub among_stays : (n : Name) (seen ns : List Name) → among n seen ≡ true → among n (appearing seen ns) ≡ true
among_stays n seen ns h = let f = seen_first seen ns in rw f.1 (among_kept n seen f.0 h)

pub place_stays : (n : Name) (seen ns : List Name) → among n seen ≡ true → place n (appearing seen ns) ≡ place n seen
place_stays n seen ns h = let f = seen_first seen ns in rw f.1 (place_kept n seen f.0 h)

-- whatever appears is among them
pub all_appear : (seen ns : List Name) → Each (λ n. among n (appearing seen ns) ≡ true) ns
unfolding appearing
all_appear seen [] = each_nil
all_appear seen (n ∷ ns) =
    by_test (among n seen)
    (λ h. rw h (each_cons n ns (among_stays n seen ns h) (all_appear seen ns)))
    (λ h. rw h (each_cons n ns (among_stays n (seen ++ (n ∷ [])) ns (among_new n seen)) (all_appear (seen ++ (n ∷ [])) ns)))

-- THE TABLE: the first uses, after those seen
unfoldable pub table : (seen : List Use) → List Use → List Use
table seen [] = seen
table seen (u ∷ us) = table (cond (among u.name (names seen)) seen (seen ++ (u ∷ []))) us

pub names_append : (us vs : List Use) → names (us ++ vs) ≡ names us ++ names vs
unfolding names
names_append us vs = map-append (λ (u : Use). u.name) us vs

pub names_long : (us : List Use) → length (names us) ≡ length us
unfolding names
names_long us = length-map us (λ (u : Use). u.name)

pub table_names : (seen us : List Use) → names (table seen us) ≡ appearing (names seen) (names us)
unfolding table appearing names
table_names seen [] = refl
table_names seen (u ∷ us) = go (among u.name (names seen)) (λ l. table_names l us)
  where
    go : (b : Bool) → ((l : List Use) → names (table l us) ≡ appearing (names l) (names us)) →
        names (table (cond b seen (seen ++ (u ∷ []))) us)
        ≡ appearing (cond b (names seen) (names seen ++ (u.name ∷ []))) (names us)
    go true f = f seen
    go false f = f (seen ++ (u ∷ [])) ∙ rw (names_append seen (u ∷ []))

-- COUNTS at the first use
pub first_append : (n : Name) (us vs : List Use) →
    first_count n (us ++ vs) ≡ cond (among n (names us)) (first_count n us) (first_count n vs)
unfolding first_count names among
first_append n [] vs = refl
first_append n (u ∷ us) vs = go (same n u.name) (first_append n us vs)
  where
    go : (b : Bool) → first_count n (us ++ vs) ≡ cond (among n (names us)) (first_count n us) (first_count n vs) →
        cond b u.count (first_count n (us ++ vs))
        ≡ cond (b || among n (names us)) (cond b u.count (first_count n us)) (first_count n vs)
    go true h = refl
    go false h = h

pub first_new : (us : List Use) (u : Use) (vs : List Use) → among u.name (names us) ≡ false →
    first_count u.name (us ++ (u ∷ vs)) ≡ u.count
unfolding first_count
first_new us u vs h = first_append u.name us (u ∷ vs) ∙ rw (h, same_refl u.name)

-- a use of a name that was seen changes no count
first_again : (n : Name) (seen : List Use) (u : Use) (us : List Use) → among u.name (names seen) ≡ true →
    first_count n (seen ++ us) ≡ first_count n (seen ++ (u ∷ us))
unfolding first_count
first_again n seen u us h =
    first_append n seen us ∙ go (among n (names seen)) refl (same n u.name) refl ∙ sym (first_append n seen (u ∷ us))
  where
    go : (a : Bool) → among n (names seen) ≡ a → (b : Bool) → same n u.name ≡ b →
        cond a (first_count n seen) (first_count n us)
        ≡ cond a (first_count n seen) (cond b u.count (first_count n us))
    go true e b f = refl
    go false e false f = refl
    go false e true f = absurd (not_both (among n (names seen)) (rw (same_eq n u.name f) h) e)

-- the table has the counts of all uses
pub table_first : (n : Name) (seen us : List Use) → first_count n (table seen us) ≡ first_count n (seen ++ us)
unfolding table
table_first n seen [] = rw (append-nil seen)
table_first n seen (u ∷ us) =
    by_test (among u.name (names seen))
    (λ h. rw h (table_first n seen us ∙ first_again n seen u us h))
    (λ h. rw h (table_first n (seen ++ (u ∷ [])) us ∙ rw (append_assoc seen (u ∷ []) us)))

pub first_stays : (n : Name) (seen us : List Use) → among n (names seen) ≡ true →
    first_count n (table seen us) ≡ first_count n seen
first_stays n seen us h = table_first n seen us ∙ first_append n seen us ∙ rw h

-- each of the table's uses is the first of its name
abbrev FirstIn : List Use → Use → Type 0
FirstIn all u = u.count ≡ first_count u.name all

table_firsts : (seen us : List Use) → Each (FirstIn (table seen us)) seen → Each (FirstIn (table seen us)) (table seen us)
unfolding table
table_firsts seen [] h = h
table_firsts seen (u ∷ us) h =
    by_test (among u.name (names seen))
    (λ e. rw e (table_firsts seen us (rw e at h)))
    (λ e.
    let this = table_first u.name (seen ++ (u ∷ [])) us ∙ rw (append_assoc seen (u ∷ []) us) (first_new seen u us e) in
    rw e (table_firsts (seen ++ (u ∷ [])) us (each_append (rw e at h) (each_cons u [] (sym this) each_nil))))

counts_first : (all us : List Use) → Each (FirstIn all) us → counts us ≡ map (λ (n : Name). first_count n all) (names us)
unfolding counts names
counts_first all [] each_nil = refl
counts_first all (u ∷ us) (each_cons _ _ h hs) = rw (h, counts_first all us hs)

-- so the table's counts are the arities
pub table_counts : (us : List Use) →
    counts (table [] us) ≡ map (λ (n : Name). first_count n us) (appearing [] (names us))
unfolding names
table_counts us =
    counts_first (table [] us) (table [] us) (table_firsts [] us each_nil)
    ∙ (λ i. map (λ (n : Name). table_first n [] us i) (table_names [] us i))
