-- What a machine holds after so many bytes, in bounds: no count passes the bytes read, and a number has ten digits at most.
use Rattle.std.specs.Prelude.{ℕ, ◌≤◌, ◌<◌, ◌^◌}
use Rattle.matrix.specs.declared.Machine.{Machine}

pub record Sound (m : Machine) (place : ℕ) : Type 0 where
  pub value : m.value < 10 ^ m.digits
  pub digits : m.digits ≤ 10
  pub equations : m.equations ≤ place
  pub inequalities : m.inequalities ≤ place
