-- The exit status of the loader's program.
use Rattle.std.specs.Prelude.{ℕ}
use Rattle.runs.specs.declared.Ended.{Ended}
use Rattle.runs.specs.declared.Ended.TheVariants.{Good, Against, Unjudged}

-- 0 for what is good, 1 for what speaks against it, 2 where nothing was judged
abbrev pub status_of : Ended → ℕ
status_of Good = 0
status_of Against = 1
status_of Unjudged = 2
