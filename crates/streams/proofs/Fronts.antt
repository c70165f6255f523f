-- One read after another takes one piece of the text after another.
use Rattle.std.proofs.Common.{◌≡◌, ℕ, ◌+◌, ◌≤◌, List, ◌++◌, length, take, drop, sym, ap, ◌∙◌, append_assoc, subst, arith}
use Rattle.std.specs.Prelude.{zero, suc, Option, None, Some, Result, Ok, Err}
use Rattle.streams.specs.Read.{meant}
use Rattle.std.specs.Io.KnownBytes.{Consumes}
use Rattle.std.proofs.lemmas.List.{take-append-le}
use Rattle.std.proofs.Math.Seq.{take-append-add, length-take-le}
use borrow.Rule.Slice.PartMut.{put_mid}

consumed-more : (old mid new : Option (List ℕ)) (bs cs : List ℕ) → Consumes old mid bs → Consumes mid new cs → Consumes old new (bs ++ cs)
consumed-more None mid new bs cs h k = tt
consumed-more (Some xs) None new bs cs h k = absurd h
consumed-more (Some xs) (Some ys) None bs cs h k = absurd k
consumed-more (Some xs) (Some ys) (Some zs) bs cs h k = h ∙ ap (λ l. bs ++ l) k ∙ sym (append_assoc bs cs zs)

-- the part that a read writes lies behind what was read before
part : (a k m : ℕ) (xs ys : List ℕ) → a ≤ length xs → m ≤ length ys → take (a + m) (put_mid a k xs ys) ≡ take a xs ++ take m ys
part a k m xs ys h l =
    ap (λ n. take (n + m) (put_mid a k xs ys)) (sym (length-take-le a xs h))
    ∙ take-append-add (take a xs) (ys ++ drop k (drop a xs)) m
    ∙ ap (λ r. take a xs ++ r) (take-append-le m ys (drop k (drop a xs)) l)

-- the invariant of a turn of the loop
pub turned : (old mid new : Option (List ℕ)) (room buf : List ℕ) (done k more : ℕ) → done ≤ length room → more ≤ length buf
    → Consumes old mid (take done room) → Consumes mid new (take more buf) → Consumes old new (take (done + more) (put_mid done k room buf))
turned old mid new room buf done k more h l c d =
    subst (Consumes old new) (sym (part done k more room buf h l)) (consumed-more old mid new (take done room) (take more buf) c d)

-- what a read gave, where it moved some bytes and where none
pub some-read : {E : Type 0} (answer : Result ℕ E) (more : ℕ) → meant answer ≡ Ok (Some more) → (answer ≡ Ok more) × (1 ≤ more)
some-read (Ok zero) more h = (cc, cc)
some-read (Ok (suc k)) more h = let e : suc k ≡ more = cc in (ap Ok e, omega (arith, e))
some-read (Err error) more h = (cc, cc)
