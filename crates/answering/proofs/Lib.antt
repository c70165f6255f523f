-- Laws of the whole program.
mod Solved
mod Replied
mod Rooms
