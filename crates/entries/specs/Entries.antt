-- The pairs that a certificate names are kept as entries of rule, place and component, one after the other as they stand there.
use Rattle.std.specs.Prelude.{◌≡◌, cond, List, [], ◌∷◌, ℕ, suc, ◌%◌, ◌≤◌, ◌<◌, ltb, eqb, length, get_or, set}
use Rattle.records.specs.declared.Record.{Record}
use Rattle.records.specs.Order.{c_component, p_pair}
use Rattle.entries.specs.declared.Entry.{Entry}
use Rattle.entries.specs.declared.Store.{Store}

-- no pair is kept here
abbrev pub none : Entry
none = record { rule = 0; place = 0; component = 0; weighting = 0 }

-- the number of the component, counted from 1, that a record belongs to: C begins the next one
unfoldable pub numbered : (before : ℕ) → Record → ℕ
numbered n r = cond (eqb r.kind c_component) (suc n) n

-- what a P record names; the rules and places of pairs are below 256
abbrev pub entry : Record → (component : ℕ) → Entry
entry r n = record { rule = r.a % 256; place = r.b % 256; component = n; weighting = 0 }

-- the entries of the P records, in their order
unfoldable pub entries_of : (component : ℕ) → List Record → List Entry
entries_of n [] = []
entries_of n (r ∷ rs) = let m = numbered n r in cond (eqb r.kind p_pair) (entry r m ∷ entries_of m rs) (entries_of m rs)

-- an entry goes to its place, if there is such a place
unfoldable pub with_entry : List Entry → (at : ℕ) → Entry → List Entry
with_entry es i e = cond (ltb i (length es)) (set es i e) es

-- what is kept of the records: how many pairs they name, and the entries of all of them if there is room
pub record Keeps (rs : List Record) (s : Store) : Type 0 where
  pub counted : s.count ≡ length (entries_of 0 rs)
  pub long : length s.entries ≡ 2048
  pub are : s.count ≤ 2048 → (k : ℕ) → k < s.count → get_or s.entries k none ≡ get_or (entries_of 0 rs) k none

-- an entry, and the weighting under which its pair left
abbrev pub telling : Entry → (weighting : ℕ) → Entry
telling e n = record { rule = e.rule; place = e.place; component = e.component; weighting = n }

-- the entries of all pairs had room
pub record HasRoom (s : Store) : Type 0 where
  pub few : s.count ≤ 2048
  pub long : length s.entries ≡ 2048

-- what is kept once the weightings are told: as many entries, and in each its own
pub record Told (before : Store) (weightings : List ℕ) (s : Store) : Type 0 where
  pub counted : s.count ≡ before.count
  pub are : (k : ℕ) → k < before.count → get_or s.entries k none ≡ telling (get_or before.entries k none) (get_or weightings k 0)
