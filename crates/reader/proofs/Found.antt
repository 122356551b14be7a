-- What a judged front says, on plain values.
-- Assumes nothing.
use mathlib.Core.Path.{◌≡◌, sym, ap, ◌∙◌, subst}
use mathlib.Core.Bool.{Bool, true, false, cond}
use mathlib.Core.List.{List}
use Prim.Native.Nat.{ℕ, ◌-◌, ◌≤◌}
use native.Mathlib.Nat.{sub-zero}
use lib.ListN.{length, take}
use Rattle.lines.specs.Lines.{lines_of}
use Rattle.file.specs.Table.{header_with, header_in}
use Rattle.scan.specs.Run.{scan_of, whole_front}
use Rattle.scan_laws.proofs.Used.{accepted-front}
use Rattle.scan_laws.proofs.Local.{whole-ends}
use Rattle.header.specs.declared.types.Header.{Header}
use Rattle.header.specs.declared.types.Rules.{Rules}
use Rattle.scan.specs.declared.Tally.{Tally}
use Rattle.std.specs.Prelude.{Ok, Err}
use Rattle.scan.specs.Front.{Front}
use Rattle.scan.specs.Front as front
use Rattle.reader.specs.Reading.{refused_with, lines_to, judged, front_of, file_of, Accounted}
use Rattle.reader.specs.declared.types.Reading.{Reading}

-- the counts of what a scan found are those of the lines
accounted-front : (rules : Rules) (bytes : List ℕ) (f : Front) → scan_of rules bytes ≡ f → Accounted rules bytes f
accounted-front rules bytes (Ok t) e = let a = accepted-front rules bytes t e in (a.within, a.comments, a.rows)
accounted-front rules bytes (Err refusal) e = tt

accounted-whole : (rules : Rules) (bytes : List ℕ) (f : Front) → whole_front (length bytes) (scan_of rules bytes) ≡ f → Accounted rules bytes f
accounted-whole rules bytes (Ok t) e = accounted-front rules bytes (front.File t) (whole-ends rules bytes t e).0
accounted-whole rules bytes (Err refusal) e = tt

-- what is found: one whole file, or one at the front
module _ (whole : Bool) (rules : Rules) (bytes : List ℕ) (f : Front) where
  abbrev asked : Bool → Front
  asked b = cond b (file_of rules bytes) (front_of rules bytes)

  pub whole-found : whole ≡ true → f ≡ file_of rules bytes → (f ≡ asked whole) × Accounted rules bytes f
  whole-found w e = (e ∙ ap asked (sym w), accounted-whole rules bytes f (sym e))

  pub front-found : whole ≡ false → f ≡ front_of rules bytes → (f ≡ asked whole) × Accounted rules bytes f
  front-found w e = (e ∙ ap asked (sym w), accounted-front rules bytes f (sym e))

-- a part from the first byte on
pub front-part : (n : ℕ) (bytes : List ℕ) → take (n - 0) bytes ≡ take n bytes
front-part n bytes = ap (λ (k : ℕ). take k bytes) (sub-zero n)

-- an answer that accepts
abbrev accepted : ℕ → ℕ → Header → Reading
accepted letter length h = record { refusal = 0; line = 0; column = 0; length = length; header = h; version = letter }

module _ (rules : Rules) (bytes : List ℕ) where
  -- a refusal that was found
  pub refusal-judged : (f : Front) (number line column : ℕ) → f ≡ front.Refused number line column → refused_with number line column ≡ judged rules bytes f
  unfolding judged
  refusal-judged f number line column e = rw e

  -- the header of the lines that a file takes up
  module _ (f : Front) (t : Tally) (is : f ≡ front.File t) (accounted : Accounted rules bytes f) where
    pub file-accounted : Accounted rules bytes (front.File t)
    file-accounted = subst (Accounted rules bytes) is accounted

    pub file-within : t.end ≤ length bytes
    file-within = file-accounted.0

    header_read : (h : Header) → h ≡ header_with rules (lines_of (take (t.end - 0) bytes)) t.comments → h ≡ header_in rules (lines_to t.end bytes)
    unfolding header_in
    header_read h e =
        e
        ∙ ap (λ (b : List ℕ). header_with rules (lines_of b) t.comments) (front-part t.end bytes)
        ∙ ap (header_with rules (lines_to t.end bytes)) file-accounted.1

    pub file-judged : (h : Header) → h ≡ header_with rules (lines_of (take (t.end - 0) bytes)) t.comments
        → accepted rules.letter t.end h ≡ judged rules bytes f
    unfolding judged
    file-judged h e = ap (accepted rules.letter t.end) (header_read h e) ∙ rw is
