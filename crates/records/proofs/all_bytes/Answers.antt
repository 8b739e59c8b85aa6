-- `records::all_bytes` meets its contract: each element of the slice is a byte.
use mathlib.Core.Path.{◌≡◌, refl}
use mathlib.Core.Bool.{true}
use mathlib.Core.List.{List, [], ◌∷◌}
use Prim.Native.Nat.{ℕ, suc, ◌<◌}
use lib.ListN.{get_or}
use borrow.Author.Tests.{lt-ltb}
use Rattle.records.specs.Records.{all_bytes}
use Rattle.records.proofs.all_bytes.Goals as goal

each_byte : (xs : List ℕ) → ((i : ℕ) → get_or xs i 0 < 256) → all_bytes xs ≡ true
unfolding all_bytes
each_byte [] small = refl
each_byte (x ∷ xs) small = rw (lt-ltb x 256 (small 0)) (each_byte xs (λ i. small (suc i)))

pub returns : goal.returns
returns c = each_byte c.args.s.now (λ i. (c.type_inv.s i).fits)
