-- What the code asks of the arrays is what is asked of the pack that was read: a symbol's places and its flag.
use mathlib.Core.Path.{◌≡◌, sym, ap, ◌∙◌}
use mathlib.Core.Bool.{◌&&◌}
use mathlib.Core.List.{List}
use Prim.Native.Nat.{ℕ, ◌<◌}
use native.Mathlib.Omega.{arith}
use lib.Dec.{ltb, leb}
use lib.ListN.{get_or}
use lib.Seq.{get_or-take}
use borrow.Author.Tests.{ltb-true}
use Rattle.rewriting.specs.Terms.{System}
use Rattle.rewriting.specs.Pairs.{defined}
use Rattle.rewriting.proofs.Basics.{by_test}
use Rattle.pack_reader.specs.Stored.{Stored}
use Rattle.pair_finder.specs.Walking.{is_defined}
use Rattle.pair_finder.proofs.Subterms.{symbol_defined}
use Rattle.certificates.specs.CertificateReading.{is_place}

module _ (p : System) (symbols rules : ℕ) (ar ss ns ms : List ℕ) (s : Stored p symbols rules ar ss ns ms) where
  arity_stored : (f : ℕ) → f < symbols → get_or p.arities f 0 ≡ get_or ar f 0
  arity_stored f h = ap (λ (l : List ℕ). get_or l f 0) (sym s.arities_are) ∙ get_or-take symbols ar f 0 h

  pub place_stored : (f i : ℕ) → is_place p f i ≡ (ltb f symbols && leb i (get_or ar f 0))
  unfolding is_place
  place_stored f i =
      by_test (ltb f symbols)
      (λ h. rw (← s.symbols_are, h, arity_stored f (ltb-true f symbols h)))
      (λ h. rw (← s.symbols_are, h))

  pub marked_place_stored : (f i : ℕ) → (is_place p f i && defined p f) ≡ ((ltb f symbols && leb i (get_or ar f 0)) && is_defined ms f)
  marked_place_stored f i =
      by_test (ltb f symbols)
      (λ h.
      let few = ltb-true f symbols h in
      rw (place_stored f i, symbol_defined p ms s.flags_are s.good.symbols f (omega (arith, s.symbols_are, s.good.symbols))))
      (λ h. rw (place_stored f i, h))
