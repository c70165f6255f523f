-- "Only an end of input ends the text": what lies in the room is the whole text, or as much of it as there is room for.
use Rattle.std.specs.Prelude.{◌≡◌, ℕ, zero, suc, Result, Ok, Err, ◌≤◌, List, Option, Some, None, length, take, IfSome}

-- what a read answers: an error, whichever it is, stays one, and 0 is the end
abbrev pub meant : {E : Type 0} → Result ℕ E → Result (Option ℕ) E
meant (Ok zero) = Ok None
meant (Ok (suc k)) = Ok (Some (suc k))
meant (Err error) = Err error

-- where it is known which bytes reads will give, count of them lie at the front of the room: all of them, or a full room's
pub record Holds (text : Option (List ℕ)) (room : List ℕ) (count : ℕ) : Type 0 where
  pub inside : count ≤ length room
  pub front : IfSome text (λ bytes. take count room ≡ take (length room) bytes)
