-- The row of the adjustment. 01: "The adjustment asks for a row of an accepted file and gets its three coordinates and the clock as f64 in the
-- same units, exactly, or the word absent in place of either; in mode V too this is the P row." Where a place is absent its three floats are no
-- number, where a clock is absent its float is none; a row beside a refusal has both marks.
use Rattle.std.specs.Prelude.{ℕ, suc, Bool, true, false, cond, List, drop, ℤ, pos, negsuc, Float}
use Rattle.std.specs.Float.{nan, binary64}
use Rattle.std.specs.Float.Ieee.{of_int}
use Rattle.std.specs.Float.Ieee.Exact.{HasValue}
use Rattle.lines.specs.Lines.{lines_of, nth}
use Rattle.record.specs.Absence.{place_absent, clock_absent}
use Rattle.file.specs.Table.{stored_signed}
use Rattle.field.specs.declared.Signed.{Signed}
use Rattle.record.specs.declared.types.Row.{Row}
use Rattle.float_row.specs.declared.FloatRow.{FloatRow}

-- a whole number as a float, or no number where it is absent
unfoldable pub float_unless : Bool → Signed → Float
float_unless absent s = cond absent nan (of_int binary64 (stored_signed s))

-- absence of place and absence of clock, each by itself
abbrev pub no_place : Row → Bool
no_place p = place_absent p.x.magnitude p.y.magnitude p.z.magnitude

abbrev pub no_clock : Row → Bool
no_clock p = clock_absent p.clock.negative p.clock.magnitude

unfoldable pub float_row : Row → FloatRow
float_row p = record {
  x = float_unless (no_place p) p.x;
  y = float_unless (no_place p) p.y;
  z = float_unless (no_place p) p.z;
  clock = float_unless (no_clock p) p.clock;
  place_absent = no_place p;
  clock_absent = no_clock p;
}

-- both absent
abbrev pub absent_row : FloatRow
absent_row = record { x = nan; y = nan; z = nan; clock = nan; place_absent = true; clock_absent = true }

-- the line that begins at a byte
abbrev pub line_from : ℕ → List ℕ → List ℕ
line_from at bytes = nth 0 (lines_of (drop at bytes))

-- a float is exactly a whole number: its sign and its size
abbrev pub Exactly : Float → ℤ → Type 0
Exactly v (pos n) = HasValue v false n 1
Exactly v (negsuc n) = HasValue v true (suc n) 1
