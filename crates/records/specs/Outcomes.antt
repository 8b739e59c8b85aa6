-- What reading comes to: a refusal with its number in document 01's table, or what was read.
use Rattle.std.specs.Prelude.{Bool, cond, ℕ}

pub data Outcome (A : Type 0) : Type 0 where
  refused : ℕ → Outcome A
  passed : A → Outcome A

-- what was read goes on, a refusal stands
abbrev pub after : {A B : Type 0} → Outcome A → (A → Outcome B) → Outcome B
after (refused n) k = refused n
after (passed x) k = k x

-- refused with n unless the test holds
abbrev pub unless : {A : Type 0} → Bool → ℕ → Outcome A → Outcome A
unless b n o = cond b o (refused n)

-- the refusal's number, 0 for none
abbrev pub refusal : {A : Type 0} → Outcome A → ℕ
refusal (refused n) = n
refusal (passed x) = 0
