-- Up to 999 satellites. 02, Ask 6: "Canonical files up to 255 stay byte for byte as they are"; "Demands 2 and 3 hold for the larger set". What was
-- valid, written and accepted by the rules of before is so now, with the same form and the same table.
-- Assumes nothing.
use mathlib.Core.Path.{◌≡◌, refl, sym, ap, ◌∙◌, subst}
use mathlib.Core.Bool.{Bool, true, false}
use mathlib.Core.List.{List}
use mathlib.Core.Logic.{◌⊎◌, inl, inr}
use Prim.Native.Nat.{ℕ, ◌≤◌, ◌<◌}
use native.Mathlib.Omega.{arith}
use lib.IntN.{ℤ}
use lib.ListN.{length}
use borrow.Author.Tests.{le-leb}
use Rattle.header.specs.Rules.{d, max_satellites}
use Rattle.lines.specs.Lent.{over}
use Rattle.lines.specs.Lines.{lines_of}
use Rattle.layout.specs.Line.{padded}
use Rattle.record.specs.LineKinds.{kind_of, told_kind, satellites_kind}
use Rattle.record.specs.SlotLines.{satellites_of}
use Rattle.file.specs.Table.{header_in, slots_in, comments_in, rows_of_lines}
use Rattle.file.specs.Kinds.{kind_in}
use Rattle.file.specs.Plain.{Sound}
use Rattle.scan.specs.Run.{IsFile, AnyFile}
use Rattle.reader.specs.Reading.{refused_with, file_of, judged, enough, delivered, read_answer, identifiers_after, exponents_after, comments_after, rows_after}
use Rattle.canon.specs.Table.{Table, comments_of}
use Rattle.canon.specs.Valid.{counts_valid, valid}
use Rattle.canon.specs.Canonical.{canonical}
use Rattle.canon.specs.Measured.{measured, measured_in}
use Rattle.canon.specs.declared.types.Measured.{Measured}
use Rattle.writer.specs.Writing.{out_after}
use Rattle.canon_laws.specs.Held.{table_in, rewritten}
use Rattle.canon_laws.specs.Within.{Within}
use Rattle.canon_laws.proofs.SameForm.{form-letter, table-letter}
use Rattle.canon_laws.proofs.Wider.{same-columns, valid-by, wider}
use Rattle.canon_laws.proofs.WiderFiles.{file-wider}
use Rattle.canon_laws.proofs.Versions.{d-proper}
use Rattle.canon_laws.proofs.Trips.{form-accepted}
use Rattle.canon_laws.proofs.Rewriting.{form-again}
use Rattle.scan_laws.proofs.Files.{d-sound}
use Rattle.scan_laws.proofs.Files as files
use Rattle.scan_laws.proofs.Which.{either}
use Rattle.std.specs.Prelude.{Ok, Err}
use Rattle.scan.specs.Front.{Front}
use Rattle.scan.specs.Front as front
use Rattle.divide.specs.Dividing.{Divides}
use Rattle.divide.specs.Dividing.Divides.{none, one}
use Rattle.theorems.specs.Faults.{refused_line}
use Rattle.theorems.specs.Before.{satellites_before, before, found_before}
use Rattle.theorems.specs.Room.{found_in}
use Rattle.theorems.specs.Again.{lent_table}
use Rattle.theorems.proofs.Writing.{in-d, written-0, out-is}
use Rattle.theorems.proofs.Rewritten.{canonical-again}
use Rattle.theorems.proofs.Answers.{judge-accepts}
use Rattle.theorems.proofs.NothingElse.{Found, front-either, file-either}

-- the bounds of before lie within those of now
pub before-within : Within before d
before-within = record { satellites = omega arith; fewest = omega arith; most = omega arith; columns = omega arith }

pub before-sound : Sound before
before-sound = record { identifiers-fit = omega arith; comments-fit = omega arith }

-- EVERY TABLE HAS THE FORM THAT IT HAD.
pub forms-stay : (t : Table) → canonical d t ≡ canonical before t
forms-stay t = form-letter d before t refl

-- ONE OF UP TO 255 SATELLITES IS VALID EXACTLY WHEN IT WAS,
module _ (t : Table) (few : t.header.satellites ≤ satellites_before) where
  counts_same : counts_valid d t.header ≡ counts_valid before t.header
  unfolding counts_valid
  counts_same =
      let n = t.header.satellites in
      rw (le-leb n max_satellites (omega (arith, few)), le-leb n satellites_before few)

  pub valid_same : valid d t ≡ valid before t
  valid_same = valid-by d before t counts_same (same-columns d before refl t.header.comments (comments_of t))

  -- is answered as it was, valid or not and whatever the room, and leaves the same output.
  pub answer-stays : (room : ℕ) → measured_in d t room ≡ measured before t room
  unfolding measured
  answer-stays room = in-d t room ∙ same
    where
      same : measured d t room ≡ measured before t room
      same = rw (valid_same, forms-stay t)

  pub output-stays : (out : List ℕ) → out_after d t out ≡ out_after before t out
  unfolding out_after
  output-stays out = rw (valid_same, forms-stay t)

-- One that was valid is valid,
pub valid-stays : (t : Table) → valid before t ≡ true → valid d t ≡ true
valid-stays t ok = wider before d before-within t ok

-- and with room it is answered by 0 and the length of the form of before, which stands from the first byte of the output on.
pub writing-stays : (t : Table) → valid before t ≡ true → (out : List ℕ) → length (canonical before t) ≤ length out
    → (measured_in d t (length out) ≡ record { refusal = 0; length = length (canonical before t) }) × (out_after d t out ≡ over (canonical before t) out)
writing-stays t ok out room =
    let now = valid-stays t ok in
    let enough-now : length (canonical d t) ≤ length out = subst (λ (s : List ℕ). length s ≤ length out) (sym (forms-stay t)) room in
    let told = written-0 d-proper t out now enough-now in (
      told ∙ ap (λ (s : List ℕ). record { refusal = 0; length = length s }) (forms-stay t),
      out-is d-proper t out (ap (λ (m : Measured). m.refusal) told) ∙ ap (λ (s : List ℕ). over s out) (forms-stay t),
    )

-- CANONICAL FILES STAY BYTE FOR BYTE AS THEY ARE: each is its own rewriting,
pub files-stay : (t : Table) → valid before t ≡ true → rewritten d (canonical before t) ≡ canonical before t
files-stay t ok = ap (rewritten d) (sym (forms-stay t)) ∙ form-again d d-proper t (valid-stays t ok) ∙ forms-stay t

-- accepted,
pub canonical-accepted : (t : Table) → valid before t ≡ true → IsFile d (canonical before t)
canonical-accepted t ok =
    subst (λ (s : List ℕ). IsFile d s) (forms-stay t) ((files.accepts-exactly d d-sound (canonical d t)).1 (form-accepted d d-proper t (valid-stays t ok)))

-- and read and written it comes back: 0, its length, and its bytes.
pub bytes-stay : (t : Table) → valid before t ≡ true → (identifiers exponents comments : List ℕ) (rows : List ℤ) → let bytes = canonical before t in
    (read_answer d bytes (file_of d bytes) identifiers exponents comments rows).refusal ≡ 0 → (out : List ℕ) → length bytes ≤ length out
    → (measured_in d (lent_table d true bytes identifiers exponents comments rows) (length out) ≡ record { refusal = 0; length = length bytes })
    × (out_after d (lent_table d true bytes identifiers exponents comments rows) out ≡ over bytes out)
bytes-stay t ok identifiers exponents comments rows read out room =
    canonical-again d-proper (canonical before t) (canonical-accepted t ok) identifiers exponents comments rows read t (valid-stays t ok) (sym (forms-stay t)) out room

-- THE LINES OF ANY BYTES HAVE THE TABLE THAT THEY HAD.
pub table_stays : (bytes : List ℕ) → table_in d (lines_of bytes) ≡ table_in before (lines_of bytes)
table_stays bytes = table-letter d before (lines_of bytes) refl

-- WHAT WAS ACCEPTED IS ACCEPTED,
module _ (bytes : List ℕ) (accepted : IsFile before bytes) where
  found : file_of d bytes ≡ front.File accepted.0
  found = file-wider before d before-within refl before-sound d-sound bytes accepted.0 accepted.1

  pub accepted-stays : IsFile d bytes
  accepted-stays = (accepted.0, found)

  pub judge-stays : (judged d bytes (file_of d bytes)).refusal ≡ 0
  judge-stays = (judge-accepts d-proper bytes).1 accepted-stays

  -- what is made of the file now is what was made of it,
  as_before : {X : Type 0} (now then : Front → X) → now (front.File accepted.0) ≡ then (front.File accepted.0) → now (file_of d bytes) ≡ then (file_of before bytes)
  as_before now then same = ap now found ∙ same ∙ sym (ap then accepted.1)

  -- and so read with the same answer, its header too, into the same lists.
  module _ (identifiers exponents comments : List ℕ) (rows : List ℤ) where
    pub reading-stays : read_answer d bytes (file_of d bytes) identifiers exponents comments rows ≡ read_answer before bytes (file_of before bytes) identifiers exponents comments rows
    unfolding delivered header_in kind_of
    reading-stays = as_before (λ f. read_answer d bytes f identifiers exponents comments rows) (λ f. read_answer before bytes f identifiers exponents comments rows) refl

    pub lists-stay : (identifiers_after d bytes (file_of d bytes) identifiers exponents comments rows ≡ identifiers_after before bytes (file_of before bytes) identifiers exponents comments rows)
        × (exponents_after d bytes (file_of d bytes) identifiers exponents comments rows ≡ exponents_after before bytes (file_of before bytes) identifiers exponents comments rows)
        × (comments_after d bytes (file_of d bytes) identifiers exponents comments rows ≡ comments_after before bytes (file_of before bytes) identifiers exponents comments rows)
        × (rows_after d bytes (file_of d bytes) identifiers exponents comments rows ≡ rows_after before bytes (file_of before bytes) identifiers exponents comments rows)
    unfolding enough slots_in comments_in rows_of_lines kind_of
    lists-stay = (
      as_before (λ f. identifiers_after d bytes f identifiers exponents comments rows) (λ f. identifiers_after before bytes f identifiers exponents comments rows) refl,
      as_before (λ f. exponents_after d bytes f identifiers exponents comments rows) (λ f. exponents_after before bytes f identifiers exponents comments rows) refl,
      as_before (λ f. comments_after d bytes f identifiers exponents comments rows) (λ f. comments_after before bytes f identifiers exponents comments rows) refl,
      as_before (λ f. rows_after d bytes f identifiers exponents comments rows) (λ f. rows_after before bytes f identifiers exponents comments rows) refl,
    )

-- A stretch that was divided is divided in the same way.
pub division-stays : {bytes lengths : List ℕ} → Divides (IsFile before) bytes lengths → Divides AnyFile bytes lengths
division-stays none = none
division-stays (one a file more) = one a ((either a).1 (inr (accepted-stays a file))) (division-stays more)

-- NOTHING ELSE CHANGES: any bytes are judged as they were, but those that were refused with 7 at column 4 of a `+ ` line whose columns 4 to 6 hold more.
module _ (bytes : List ℕ) where
  same_answer : (f : Front) → judged d bytes f ≡ judged before bytes f
  unfolding judged header_in kind_of
  same_answer (Ok t) = refl
  same_answer (Err refusal) = refl

  found-either : (whole : Bool) → Found d satellites_before (omega arith) bytes (found_before whole bytes) (found_in d whole bytes)
  found-either true = file-either d satellites_before (omega arith) bytes
  found-either false = front-either d satellites_before (omega arith) bytes

  pub nothing-else : (whole : Bool) → (judged d bytes (found_in d whole bytes) ≡ judged before bytes (found_before whole bytes))
      ⊎ ((line : ℕ)
      × (judged before bytes (found_before whole bytes) ≡ refused_with 7 line 4)
      × (kind_in d (refused_line bytes line) ≡ satellites_kind)
      × (satellites_before < (satellites_of d (padded (refused_line bytes line))).count))
  unfolding judged
  nothing-else whole = go (found-either whole)
    where
      go : Found d satellites_before (omega arith) bytes (found_before whole bytes) (found_in d whole bytes)
          → (judged d bytes (found_in d whole bytes) ≡ judged before bytes (found_before whole bytes))
          ⊎ ((line : ℕ)
          × (judged before bytes (found_before whole bytes) ≡ refused_with 7 line 4)
          × (kind_in d (refused_line bytes line) ≡ satellites_kind)
          × (satellites_before < (satellites_of d (padded (refused_line bytes line))).count))
      go (inl e) = inl (ap (judged d bytes) e ∙ same_answer (found_before whole bytes))
      go (inr (line, is, (plus, more))) = inr (line, ap (judged before bytes) is, ap told_kind plus, more)
