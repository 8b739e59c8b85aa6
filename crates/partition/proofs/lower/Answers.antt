-- `partition::lower` meets its contract.
use Rattle.std.proofs.Common.{◌≡◌, ℕ, ◌<◌, ◌≤◌, min, cond, eqb, List, length, get_or, set, sym, refl, arith, length-set, get_or-set_other, get_or-set_same, ne_eqb, eqb-true}
use borrow.Author.Tests.{eqb-false}
use Rattle.rewriting.proofs.Basics.{by_test}
use Rattle.partition.proofs.lower.Goals as goal

module _ (ls : List ℕ) (s n t : ℕ) where
  abbrev low : ℕ
  low = cond (eqb s t) (min n (get_or ls t 0)) (get_or ls t 0)

  outside : length ls ≤ s → t < length ls → get_or ls t 0 ≡ low
  outside h k = rw (ne_eqb s t (λ e. omega arith))

  lowered : s < length ls → get_or (set ls s (min n (get_or ls s 0))) t 0 ≡ low
  lowered h =
      by_test (eqb s t)
      (λ e. let z : t ≡ s = sym (eqb-true s t e) in rw (e, z) (get_or-set_same ls s (min n (get_or ls s 0)) 0 h))
      (λ e. rw e (get_or-set_other ls s t (min n (get_or ls s 0)) 0 (λ z. eqb-false s t e (sym z))))

pub returns-then-s-lows : goal.returns-then-s-lows
returns-then-s-lows c =
    let a = c.args in record { long = simp length-set; lowered = λ t h. rw c.min.ensures (lowered a.lows.now a.s a.number t c.if-s-lows.true) }

pub returns-else-s-lows : goal.returns-else-s-lows
returns-else-s-lows c =
    let a = c.args in record { long = refl; lowered = λ t h. outside a.lows.now a.s a.number t c.if-s-lows.false h }
