-- Laws of the solver: the cases of a call.
pub mod Called
