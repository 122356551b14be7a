-- The numbers of a row and of its note as they are, without the bound that storing them tests; of an accepted file nothing is cut off (file_laws, Exact).
use Rattle.std.specs.Prelude.{List, [], ◌∷◌, ℤ, pos, replicate}
use Rattle.field.specs.Sign.{signed_int}
use Rattle.field.specs.declared.Signed.{Signed}
use Rattle.layout.specs.Kind.{unnoted}
use Rattle.record.specs.declared.types.Row.{Row}
use Rattle.record.specs.declared.types.Note.{Note}
use Rattle.file.specs.Table.{mark_number}

-- a number with its sign, and the twelve of a row
abbrev pub exact_signed : Signed → ℤ
exact_signed s = signed_int s.negative s.magnitude

unfoldable pub exact_numbers : Row → List ℤ
exact_numbers p =
    exact_signed p.x
    ∷ exact_signed p.y
    ∷ exact_signed p.z
    ∷ exact_signed p.clock
    ∷ pos p.x_exponent
    ∷ pos p.y_exponent
    ∷ pos p.z_exponent
    ∷ pos p.clock_exponent
    ∷ pos (mark_number p.event)
    ∷ pos (mark_number p.predicted)
    ∷ pos (mark_number p.maneuver)
    ∷ pos (mark_number p.orbit_predicted)
    ∷ []

-- the eleven of its note, and where none stands
unfoldable pub exact_note : Note → List ℤ
exact_note n =
    pos 1
    ∷ pos n.x_deviation
    ∷ pos n.y_deviation
    ∷ pos n.z_deviation
    ∷ pos n.clock_deviation
    ∷ exact_signed n.xy
    ∷ exact_signed n.xz
    ∷ exact_signed n.xc
    ∷ exact_signed n.yz
    ∷ exact_signed n.yc
    ∷ exact_signed n.zc
    ∷ []

unfoldable pub exact_none : List ℤ
exact_none = pos 0 ∷ replicate 10 (pos unnoted)
