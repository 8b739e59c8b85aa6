-- What the record reader's answer tells: the record at the place and that the table lets it stand there, or that it does not.
use mathlib.Core.Path.{◌≡◌, refl}
use mathlib.Core.Bool.{Bool, true, false}
use mathlib.Core.List.{List}
use Prim.Native.Nat.{ℕ}
use native.Mathlib.Omega.{arith}
use Rattle.records.specs.declared.Record.{Record}
use Rattle.std.specs.Prelude.{Some, None}
use Rattle.records.specs.Records.{record_at}
use Rattle.records.specs.Order.{index, may_follow}
use Rattle.records.specs.Wanted.{if_wanted, wanted_at}

found : (b : Bool) (x r : Record) → if_wanted b x ≡ Some r → (b ≡ true) × (r ≡ x)
unfolding if_wanted
found true x r e = (refl, cc)
found false x r e = let z : ◌≡◌ {A = ℕ} 0 1 = cc in absurd (omega arith)

stray : (b : Bool) (x : Record) → if_wanted b x ≡ None → b ≡ false
unfolding if_wanted
stray true x e = cc
stray false x e = refl

module _ (bs : List ℕ) (i before due : ℕ) (weighted : Bool) where
  pub found_at : {r : Record} → wanted_at bs i before due weighted ≡ Some r
      → (may_follow before (index (record_at bs i).kind) due weighted ≡ true) × (r ≡ record_at bs i)
  unfolding wanted_at
  found_at {r} e = found _ (record_at bs i) r e

  pub stray_at : wanted_at bs i before due weighted ≡ None → may_follow before (index (record_at bs i).kind) due weighted ≡ false
  unfolding wanted_at
  stray_at e = stray _ (record_at bs i) e
