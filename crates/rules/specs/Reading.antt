-- What the reader answers where a text is a system.
use Rattle.std.specs.Prelude.{ℕ, Result, Ok}
use Rattle.rules.specs.declared.Refusal.{Refusal}
use Rattle.rules.specs.declared.System.{System}

abbrev pub system_of : ℕ → ℕ → ℕ → Result System Refusal
system_of n m k = Ok (record { n = n; m = m; k = k })
