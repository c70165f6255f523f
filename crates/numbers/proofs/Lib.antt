-- Numbers stored one behind another; and what they tell.
mod Stored
pub mod Told
