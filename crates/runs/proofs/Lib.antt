-- Runs that end without a finish.
mod Ended
