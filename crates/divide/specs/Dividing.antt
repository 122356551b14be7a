-- The division of a stretch. 01, "The canonical form": "Dividing writes the lengths of the accepted files at the front and gives their number,
-- the byte where the rest begins, and the refusal and line there, counted from that byte. A rest that is refused is part of this result, and
-- the lengths are written all the same. When nothing is left, as with an empty stretch, refusal and line are both 0. 11 never occurs in it. If
-- there are more lengths than room, it gives 12 only, every other part of its answer being 0, and nothing is written." 02, Ask 9: "Demand 3 then
-- reads accepted files of both versions mixed."
use Rattle.std.specs.Prelude.{cond, List, [], ◌∷◌, ◌++◌, ◌≡◌, ℕ, zero, suc, ◌+◌, leb, length, drop}
use Rattle.lines.specs.Lent.{over}
use Rattle.header.specs.Versions.{rules_in}
use Rattle.scan.specs.Run.{scan_of}
use Rattle.scan.specs.declared.Tally.{Tally}
use Rattle.std.specs.Prelude.{Ok, Err}
use Rattle.scan.specs.Front.{Front}
use Rattle.scan.specs.Front as front
use Rattle.divide.specs.declared.Division.{Division}

-- a stretch divides into files of some kind laid end to end, by their lengths; the accepted files of both versions are `AnyFile`
pub data Divides (File : List ℕ → Type 0) : List ℕ → List ℕ → Type 0 where
  none : Divides File [] []
  one : (a : List ℕ) {b ls : List ℕ} → File a → Divides File b ls → Divides File (a ++ b) (length a ∷ ls)

-- the lengths of the accepted files at the front, and the refusal, line and column of the rest
pub record Cuts : Type 0 where
  pub lengths : List ℕ
  pub refusal : ℕ
  pub line : ℕ
  pub column : ℕ

-- nothing is left
abbrev pub no_cuts : Cuts
no_cuts = record { lengths = []; refusal = 0; line = 0; column = 0 }

-- a rest that is refused
abbrev pub refused_cuts : ℕ → ℕ → ℕ → Cuts
refused_cuts number line column = record { lengths = []; refusal = number; line = line; column = column }

-- one file before what follows it
abbrev pub after : ℕ → Cuts → Cuts
after end c = record { lengths = end ∷ c.lengths; refusal = c.refusal; line = c.line; column = c.column }

-- what stands at the front: a file, and then what follows it; or a refusal
abbrev pub cut_front : Front → (ℕ → Cuts) → Cuts
cut_front (Ok t) more = after t.end (more t.end)
cut_front (Err refusal) more = refused_cuts refusal.number refusal.line refusal.column

abbrev pub unless_empty : List ℕ → Cuts → Cuts
unless_empty [] c = no_cuts
unless_empty (b ∷ bs) c = c

-- at most so many files, each judged by the rules that its own first bytes tell
unfoldable pub cuts : ℕ → List ℕ → Cuts
cuts zero bytes = no_cuts
cuts (suc most) bytes = unless_empty bytes (cut_front (scan_of (rules_in bytes) bytes) (λ end. cuts most (drop end bytes)))

-- a file takes a byte at least, so a stretch has no more files than bytes
abbrev pub cuts_of : List ℕ → Cuts
cuts_of bytes = cuts (length bytes) bytes

unfoldable pub sum : List ℕ → ℕ
sum [] = 0
sum (n ∷ ns) = n + sum ns

abbrev pub division : ℕ → ℕ → ℕ → ℕ → ℕ → Division
division count rest number line column = record { count = count; rest = rest; refusal = number; line = line; column = column }

-- the number of the files, the byte where the rest begins, the refusal, line and column there; so many files and bytes stand before
abbrev pub division_from : ℕ → ℕ → Cuts → Division
division_from count rest c = division (count + length c.lengths) (rest + sum c.lengths) c.refusal c.line c.column

-- 12 only, every other part being 0
abbrev pub no_room : Division
no_room = division 0 0 12 0 0

unfoldable pub divide_of : List ℕ → ℕ → Division
divide_of bytes room =
    cond (leb (length (cuts_of bytes).lengths) room) (division_from 0 0 (cuts_of bytes)) no_room

-- the lengths over what was lent; nothing is written where there are more than room
unfoldable pub lengths_after : List ℕ → List ℕ → List ℕ
lengths_after bytes old =
    cond (leb (length (cuts_of bytes).lengths) (length old)) (over (cuts_of bytes).lengths old) old

-- an accepted file stands at the front, and where it ends
abbrev pub FileHere : List ℕ → Type 0
FileHere bytes = (t : Tally) × (scan_of (rules_in bytes) bytes ≡ front.File t)

abbrev pub end_of : Front → ℕ
end_of (Ok t) = t.end
end_of (Err refusal) = 0
