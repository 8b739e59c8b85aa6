-- `text_names::Table::new` meets its contract: no name is kept, and there is no hint.
use Rattle.std.specs.Prelude.{Option, None}
use mathlib.Core.Path.{◌≡◌, refl}
use Prim.Native.Nat.{ℕ}
use native.Mathlib.Omega.{arith}
use borrow.Author.Tests.{ltb-true, ltb-false}
use lib.Dec.{ltb}
use lib.ListN.{get_or, replicate, length-replicate, get_or-replicate, get_or-eq_default}
use Rattle.rewriting.proofs.Basics.{by_test}
use Rattle.text_names.specs.Table.{most_kept, hint_room}
use Rattle.text_names.proofs.Table.new.Goals as goal

no_hint : (j : ℕ) → ◌≡◌ {A = Option ℕ} (get_or (replicate hint_room None) j None) None
no_hint j =
    by_test (ltb j hint_room)
    (λ b. get_or-replicate hint_room j None None (ltb-true j hint_room b))
    (λ b. get_or-eq_default (replicate hint_room None) None {n = j} (omega (arith, ltb-false j hint_room b, length-replicate {A = Option ℕ} hint_room None)))

pub returns : goal.returns
returns c = record {
  names_long = length-replicate {A = ℕ} most_kept 0;
  hints_long = length-replicate {A = Option ℕ} hint_room None;
  no_names = refl;
  no_hints = no_hint;
  no_rest = refl;
}
