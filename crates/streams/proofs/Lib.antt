-- Laws of what reads give.
pub mod Fronts
