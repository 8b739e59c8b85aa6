-- What the C functions answer, from the answers of the entries; and the count of the pairs and a pack's length are small.
use mathlib.Core.Path.{◌≡◌, refl, sym, ap, ◌∙◌}
use mathlib.Core.Bool.{Bool, true, false, cond}
use mathlib.Core.List.{List, [], ◌∷◌}
use Prim.Native.Nat.{ℕ, suc, ◌*◌, ◌≤◌, ◌<◌}
use native.Mathlib.Omega.{arith}
use lib.Dec.{leb}
use lib.ListN.{length, get_or, length-append}
use Rattle.rewriting.specs.Terms.{Tree, Rule, no_rule, System, rule}
use Rattle.rewriting.specs.Pairs.{Pair, subterms, defined_root}
use Rattle.records.specs.declared.Refusal.{Refusal}
use Rattle.std.specs.Prelude.{Result, Ok, Err}
use Rattle.records.specs.Outcomes.{Outcome, refused, passed, after, unless, refusal}
use Rattle.records.specs.Answers.{number_of, outcome_of}
use Rattle.terms.proofs.Parsing.{length_flat}
use Rattle.packs.specs.Encoding.{GoodPack, pack_bytes}
use Rattle.packs.specs.PackReading.{most_pack_bytes, read_pack}
use Rattle.packs.proofs.OnlyEncodings.{pack_good}
use Rattle.pairs.specs.Listing.{a_pair, pairs_from, pairs_of, pairs}
use Rattle.pairs.specs.Answers.{listing, list_value}
use Rattle.pairs.specs.Says.{count_outcome, ListedAs, ArcAs}
use Rattle.texts.specs.TextReading.{read_text, text_pack, pack_value}
use Rattle.texts.specs.Says.{length_outcome, ReadAs}
use Rattle.texts.proofs.Sizes.{read_small}
use Rattle.teldyzhom.specs.Entries.{arc_value}

-- a pack has at most 2,048 pairs: 32 for each of its 64 rules
pairs_from_few : (i k : ℕ) (p : System) (ts : List Tree) → length (pairs_from i k p ts) ≤ length ts
unfolding pairs_from
pairs_from_few i k p [] = omega arith
pairs_from_few i k p (t ∷ ts) = go (defined_root p t) (pairs_from_few i (suc k) p ts)
  where
    go : (b : Bool) → length (pairs_from i (suc k) p ts) ≤ length ts →
        length (cond b (a_pair i k ∷ pairs_from i (suc k) p ts) (pairs_from i (suc k) p ts)) ≤ suc (length ts)
    go true h = omega arith
    go false h = omega arith

pairs_of_few : (i : ℕ) (p : System) (rs : List Rule) → ((j : ℕ) → j < length rs → length (subterms (get_or rs j no_rule).right) ≤ 32) → length (pairs_of i p rs) ≤ 32 * length rs
unfolding pairs_of
pairs_of_few i p [] short = omega arith
pairs_of_few i p (r ∷ rs) short =
    omega (
      arith,
      length-append (pairs_from i 0 p (subterms r.right)) (pairs_of (suc i) p rs),
      pairs_from_few i 0 p (subterms r.right),
      short 0 (omega arith),
      pairs_of_few (suc i) p rs (λ j h. short (suc j) (omega arith)),
    )

pub pairs_few : (p : System) → GoodPack p → length (pairs p) ≤ 2048
unfolding pairs rule
pairs_few p g = omega (arith, g.rule_count, pairs_of_few 0 p p.rules (λ j h. omega (arith, g.rights j h, length_flat (rule p j).right)))

-- the count that is answered
pub listed_few : (bs : List ℕ) (room n : ℕ) (a : Result ℕ Refusal) → ListedAs (listing bs room) a → a ≡ Ok n → n ≤ 2048
unfolding ListedAs count_outcome listing
listed_few bs room n a says e = go (read_pack bs) refl (sym (ap outcome_of e) ∙ says)
  where
    test : (p : System) → GoodPack p → (b : Bool) → passed n ≡ count_outcome (cond b (passed (pairs p)) (refused 14)) → n ≤ 2048
    test p g true h = let z : n ≡ length (pairs p) = cc in omega (arith, pairs_few p g)
    test p g false h = absurd (let z : ◌≡◌ {A = ℕ} 0 1 = cc in omega arith)

    go : (o : Outcome System) → read_pack bs ≡ o → passed n ≡ count_outcome (after o (λ p. cond (leb (8 * length (pairs p)) room) (passed (pairs p)) (refused 14))) → n ≤ 2048
    go (refused m) f h = absurd (let z : ◌≡◌ {A = ℕ} 0 1 = cc in omega arith)
    go (passed p) f h = test p (pack_good bs p f) (leb (8 * length (pairs p)) room) h

-- a refusal's number and 0
pub list_number : (o : Outcome (List Pair)) (a : Result ℕ Refusal) (x : Refusal) → ListedAs o a → a ≡ Err x → (number_of x ≡ refusal o) × (0 ≡ list_value o)
unfolding ListedAs count_outcome list_value
list_number (refused n) a x says e = let f = sym (ap outcome_of e) ∙ says in (cc, refl)
list_number (passed qs) a x says e = let f = sym (ap outcome_of e) ∙ says in absurd (let z : ◌≡◌ {A = ℕ} 0 1 = cc in omega arith)

-- 0 and the count
pub list_count : (o : Outcome (List Pair)) (a : Result ℕ Refusal) (n : ℕ) → ListedAs o a → a ≡ Ok n → (0 ≡ refusal o) × (n ≡ list_value o)
unfolding ListedAs count_outcome list_value
list_count (refused m) a n says e = let f = sym (ap outcome_of e) ∙ says in absurd (let z : ◌≡◌ {A = ℕ} 0 1 = cc in omega arith)
list_count (passed qs) a n says e = let f = sym (ap outcome_of e) ∙ says in (refl, cc)

-- the arc question's answers
pub arc_number : (o : Outcome Bool) (a : Result Bool Refusal) (x : Refusal) → ArcAs o a → a ≡ Err x → (number_of x ≡ refusal o) × (0 ≡ arc_value o)
unfolding ArcAs arc_value
arc_number o a x says e = rw (← says, e) (refl, refl)

pub arc_told : (o : Outcome Bool) (a : Result Bool Refusal) (b : Bool) → ArcAs o a → a ≡ Ok b → (◌≡◌ {A = ℕ} 0 (refusal o)) × (arc_value (passed b) ≡ arc_value o)
unfolding ArcAs
arc_told o a b says e = rw (← says, e) (refl, refl)

-- THE TEXT

-- the length that is answered
pub length_small : (bs : List ℕ) (room n : ℕ) (a : Result ℕ Refusal) → ReadAs (text_pack bs room) a → a ≡ Ok n → n ≤ most_pack_bytes
unfolding ReadAs length_outcome text_pack
length_small bs room n a says e = go (read_text bs) refl (sym (ap outcome_of e) ∙ says)
  where
    test : (p : System) → length (pack_bytes p) ≤ most_pack_bytes → (b : Bool) → passed n ≡ length_outcome (unless b 14 (passed p)) → n ≤ most_pack_bytes
    test p g true h = let z : n ≡ length (pack_bytes p) = cc in omega arith
    test p g false h = absurd (let z : ◌≡◌ {A = ℕ} 0 1 = cc in omega arith)

    go : (o : Outcome System) → read_text bs ≡ o → passed n ≡ length_outcome (after o (λ p. unless (leb (length (pack_bytes p)) room) 14 (passed p))) → n ≤ most_pack_bytes
    go (refused m) f h = absurd (let z : ◌≡◌ {A = ℕ} 0 1 = cc in omega arith)
    go (passed p) f h = test p (read_small bs p f) (leb (length (pack_bytes p)) room) h

-- a refusal's number and 0
pub text_number : (o : Outcome System) (a : Result ℕ Refusal) (x : Refusal) → ReadAs o a → a ≡ Err x → (number_of x ≡ refusal o) × (0 ≡ pack_value o)
unfolding ReadAs length_outcome pack_value
text_number (refused n) a x says e = let f = sym (ap outcome_of e) ∙ says in (cc, refl)
text_number (passed p) a x says e = let f = sym (ap outcome_of e) ∙ says in absurd (let z : ◌≡◌ {A = ℕ} 0 1 = cc in omega arith)

-- 0 and the length
pub text_length : (o : Outcome System) (a : Result ℕ Refusal) (n : ℕ) → ReadAs o a → a ≡ Ok n → (0 ≡ refusal o) × (n ≡ pack_value o)
unfolding ReadAs length_outcome pack_value
text_length (refused m) a n says e = let f = sym (ap outcome_of e) ∙ says in absurd (let z : ◌≡◌ {A = ℕ} 0 1 = cc in omega arith)
text_length (passed p) a n says e = let f = sym (ap outcome_of e) ∙ says in (refl, cc)
