-- The front page for the versions: which tables are valid in each, how its form is told from another's, that reading tells the version, and that what
-- was written in one reads back.
-- Assumes nothing.
use mathlib.Core.Path.{◌≡◌, refl, sym, ap, ◌∙◌, subst}
use mathlib.Core.Bool.{Bool, true, false, cond, ◌&&◌}
use mathlib.Core.List.{List, [], ◌∷◌}
use mathlib.Core.Logic.{◌↔◌}
use Prim.Native.Nat.{ℕ, zero, suc, ◌+◌, ◌*◌, ◌≤◌, ◌<◌, min}
use native.Mathlib.Omega.{arith}
use borrow.Author.Tests.{leb-true, le-leb, lt-leb}
use lib.Dec.{eqb, leb}
use lib.IntN.{ℤ}
use lib.ListN.{length, take, drop}
use lib.Seq.{drop-drop}
use Rattle.laws.specs.Texts.{every, is_printable}
use Rattle.laws.proofs.Bools.{and_left, and_right, and_both, and-false}
use Rattle.laws.proofs.Bounds.{within-true, true-within}
use Rattle.field.specs.Read.{whole_of}
use Rattle.header.specs.Rules.{c, d, slot_lines}
use Rattle.header.specs.Versions.{told_version, rules_of, rules_in}
use Rattle.header.specs.declared.types.Header.{Header}
use Rattle.header.specs.declared.types.Rules.{Rules}
use Rattle.header.specs.declared.types.Version.{Version}
use Rattle.header.specs.declared.types.Version.TheVariants as version
use Rattle.layout.specs.Fault.{keyed}
use Rattle.layout.specs.Kind.{printable}
use Rattle.layout.specs.Layout.{part_of, fault_at, fault_of}
use Rattle.layout.specs.Line.{padded, trimmed}
use Rattle.lines.specs.Lent.{over}
use Rattle.lines.specs.Lines.{lines_of, nth}
use Rattle.record.specs.LineKinds.{satellites_kind, accuracies_kind, comment_kind, told_kind, longest}
use Rattle.record.specs.Plain.{comment_items, comment_width}
use Rattle.record.specs.SlotLines.{count_item}
use Rattle.record.specs.declared.types.LineKind.TheVariants as kind
use Rattle.file.specs.Kinds.{is_kind, of_kind}
use Rattle.file.specs.Plain.{Plain, every_line, is_line, is_comment_line}
use Rattle.file.specs.Table.{count_of, header_in}
use Rattle.file_laws.proofs.Counts.{satellites-bounds, comments-bounds}
use Rattle.file_laws.proofs.Selected.{kind-comments}
use Rattle.scan.specs.Run.{IsFile}
use Rattle.scan.specs.declared.Tally.{Tally}
use Rattle.std.specs.Prelude.{Ok, Err}
use Rattle.scan.specs.Front.{Front}
use Rattle.scan.specs.Front as front
use Rattle.reader.specs.Reading.{file_of, judged, room_for, delivered, lines_to, accepted_as, refused_with, read_answer, identifiers_after, exponents_after, comments_after, rows_after}
use Rattle.reader.specs.declared.types.Reading.{Reading}
use Rattle.canon.specs.Table.{Table, table_identifiers, exponents_of, comments_of, rows_of}
use Rattle.canon.specs.declared.types.Measured.{Measured}
use Rattle.canon.specs.Valid.{counts_valid, comment_columns, comment_valid, comments_valid, valid}
use Rattle.canon.specs.Canonical.{canonical}
use Rattle.canon.specs.Measured.{measured_in}
use Rattle.canon.proofs.Parts.{parts}
use Rattle.writer.specs.Writing.{out_after}
use Rattle.scan_laws.proofs.Files.{file-plain, accepts-exactly}
use Rattle.scan_laws.proofs.Which.{rules-told}
use Rattle.canon_laws.specs.Held.{Proper, Holds, table_in}
use Rattle.canon_laws.proofs.Rewriting.{table-held, one_form}
use Rattle.canon_laws.proofs.SameForm.{second-byte}
use Rattle.canon_laws.proofs.Trips.{form-accepted, form-holds}
use Rattle.canon_laws.proofs.ValidTables.{held-valid}
use Rattle.canon_laws.proofs.Versions.{c-proper, d-proper, of-proper}
use Rattle.canon_laws.proofs.Wider.{valid-by, wider}
use Rattle.theorems.specs.Again.{told_file, lent_table, written_bytes}
use Rattle.theorems.specs.Bounds.{comment_of, Keeps}
use Rattle.theorems.specs.Files.{header}
use Rattle.theorems.specs.Room.{found_in, Room, answer}
use Rattle.theorems.proofs.Accepting.{says-satellites, says-comments}
use Rattle.theorems.proofs.Most.{lines-of-each}
use Rattle.theorems.proofs.Filled.{answer-is, length-told, version-told}
use Rattle.theorems.proofs.Writing.{written-0, out-is}
use Rattle.theorems.proofs.Rewritten.{written-accepted, room-reads, header-back, identifiers-back, exponents-back, comments-back, rows_back, lent-held}
use Rattle.std.specs.Prelude.{Some}

-- so many comments of 77 bytes, one after another
abbrev text_at : List ℕ → ℕ → List ℕ
text_at bytes i = take comment_width (drop (i * comment_width) bytes)

next-text : (bytes : List ℕ) (i : ℕ) → text_at (drop comment_width bytes) i ≡ text_at bytes (suc i)
next-text bytes i =
    let place : comment_width + i * comment_width ≡ suc i * comment_width = omega arith in
    ap (take comment_width) (drop-drop (i * comment_width) comment_width bytes ∙ ap (λ (n : ℕ). drop n bytes) place)

module _ (rules : Rules) where
  abbrev Short : List ℕ → Type 0
  Short text = length (trimmed text) ≤ comment_columns rules

  texts-short : (k : ℕ) (bytes : List ℕ) → comments_valid rules k bytes ≡ true → (i : ℕ) → i < k → Short (text_at bytes i)
  unfolding comments_valid comment_valid
  texts-short zero bytes v i h = absurd (omega arith)
  texts-short (suc k) bytes v zero h =
      let text = take comment_width bytes in
      let own = and_left (comment_valid rules text) (comments_valid rules k (drop comment_width bytes)) v in
      leb-true (length (trimmed text)) (comment_columns rules) (and_right (printable text) (leb (length (trimmed text)) (comment_columns rules)) own)
  texts-short (suc k) bytes v (suc i) h =
      let more = and_right (comment_valid rules (take comment_width bytes)) (comments_valid rules k (drop comment_width bytes)) v in
      subst Short (next-text bytes i) (texts-short k (drop comment_width bytes) more i (omega arith))

  short-texts : (k : ℕ) (bytes : List ℕ) → comments_valid d k bytes ≡ true → ((i : ℕ) → i < k → Short (text_at bytes i)) → comments_valid rules k bytes ≡ true
  unfolding comments_valid comment_valid
  short-texts zero bytes v few = refl
  short-texts (suc k) bytes v few =
      let text = take comment_width bytes in
      let others = drop comment_width bytes in
      let own = and_left (comment_valid d text) (comments_valid d k others) v in
      and_both (comment_valid rules text) (comments_valid rules k others)
      (and_both (printable text) (leb (length (trimmed text)) (comment_columns rules))
      (and_left (printable text) (leb (length (trimmed text)) (comment_columns d)) own)
      (le-leb (length (trimmed text)) (comment_columns rules) (few 0 (omega arith))))
      (short-texts k others (and_right (comment_valid d text) (comments_valid d k others) v)
      (λ i h. subst Short (sym (next-text bytes i)) (few (suc i) (omega arith))))

module _ {rules : Rules} (proper : Proper rules) where
  -- A TABLE IS VALID IN A VERSION EXACTLY WHEN IT IS VALID IN SP3-D AND KEEPS THE BOUNDS OF THE VERSION.
  pub keeps-exactly : (t : Table) → (valid rules t ≡ true) ↔ ((valid d t ≡ true) × Keeps rules t)
  unfolding counts_valid
  keeps-exactly t = (forth, λ both. back both.0 both.1)
    where
      forth : valid rules t ≡ true → (valid d t ≡ true) × Keeps rules t
      forth ok =
          let p = parts rules t ok in
          let said = within-true rules.fewest_comments rules.most_comments t.header.comments p.header.comments in (
            wider rules d proper.within_d t ok,
            record {
              satellites = p.header.satellites.1;
              fewest = said.0;
              most = said.1;
              texts = texts-short rules t.header.comments (comments_of t) p.comments;
            },
          )

      back : valid d t ≡ true → Keeps rules t → valid rules t ≡ true
      back ok keeps =
          let p = parts d t ok in
          let n = t.header.satellites in
          let k = t.header.comments in
          let some = p.header.satellites.0 in
          valid-by rules d t
          (rw (
            true-within 1 rules.most_satellites n some keeps.satellites,
            true-within rules.fewest_comments rules.most_comments k keeps.fewest keeps.most,
            true-within 1 d.most_satellites n some p.header.satellites.1,
            p.header.comments,
          ))
          (short-texts rules k (comments_of t) p.comments keeps.texts ∙ sym p.comments)
          ∙ ok

-- So in SP3-c: at most 85 satellites, four comments, and texts of at most 57 bytes.
pub valid-c : (t : Table) → (valid c t ≡ true)
    ↔ ((valid d t ≡ true) × (t.header.satellites ≤ 85) × (t.header.comments ≡ 4) × ((i : ℕ) → i < 4 → length (trimmed (comment_of t i)) ≤ 57))
valid-c t = (forth, λ all. back all.0 all.1 all.2 all.3)
  where
    forth : valid c t ≡ true
        → (valid d t ≡ true) × (t.header.satellites ≤ 85) × (t.header.comments ≡ 4) × ((i : ℕ) → i < 4 → length (trimmed (comment_of t i)) ≤ 57)
    forth ok =
        let found = (keeps-exactly c-proper t).0 ok in
        let keeps = found.1 in
        let four : t.header.comments ≡ 4 = omega (arith, keeps.fewest, keeps.most) in
        (found.0, keeps.satellites, four, λ i h. keeps.texts i (omega arith))

    back : valid d t ≡ true → t.header.satellites ≤ 85 → t.header.comments ≡ 4 → ((i : ℕ) → i < 4 → length (trimmed (comment_of t i)) ≤ 57) → valid c t ≡ true
    back ok few four short =
        (keeps-exactly c-proper t).1 (
          ok,
          record { satellites = few; fewest = omega arith; most = omega arith; texts = λ i h. short i (omega arith) },
        )

-- A NUMBER OF SATELLITES above the most of the version is 7 at column 4.
pub more-satellites-7 : (rules : Rules) (line : List ℕ) (n : ℕ) → whole_of (part_of (count_item rules) line) ≡ Some n → rules.most_satellites < n
    → fault_at (count_item rules) line ≡ keyed 7 4
more-satellites-7 rules line n is more = rw (is, lt-leb n rules.most_satellites more, and-false (leb 1 n))

-- of lines that pass a test each one does
one_of : (test : List ℕ → Bool) (ls : List (List ℕ)) → every_line test ls ≡ true → (i : ℕ) → i < length ls → test (nth i ls) ≡ true
unfolding every_line nth
one_of test [] e i h = absurd (omega arith)
one_of test (l ∷ ls) e zero h = and_left (test l) (every_line test ls) e
one_of test (l ∷ ls) e (suc i) h = one_of test ls (and_right (test l) (every_line test ls) e) i (omega arith)

module _ {rules : Rules} (proper : Proper rules) (bytes : List ℕ) (accepted : IsFile rules bytes) where
  abbrev p : Plain rules (lines_of bytes)
  p = file-plain rules proper.sound bytes accepted

  -- A FILE KEEPS THE BOUNDS OF ITS VERSION: its satellites, its comments,
  pub file-keeps : ((header rules bytes).satellites ≤ rules.most_satellites)
      × (rules.fewest_comments ≤ (header rules bytes).comments)
      × ((header rules bytes).comments ≤ rules.most_comments)
  file-keeps = rw (says-satellites p, says-comments p) ((satellites-bounds p).1, (comments-bounds p).0, (comments-bounds p).1)

  -- and each of its comment lines.
  pub comment-lines : (i : ℕ) → i < (header rules bytes).comments
      → length (nth i (of_kind rules comment_kind (lines_of bytes))) ≤ min 80 rules.comment_columns
  comment-lines i h =
      let l = nth i p.comments in
      let is = one_of (is_comment_line rules) p.comments p.are-comments i (omega (arith, h, says-comments p)) in
      let line = and_left (is_line rules kind.Comment l) (eqb (fault_of comment_items (padded l)) 0) is in
      let short = and_left (leb (length l) (longest rules kind.Comment)) (is_kind rules (told_kind kind.Comment) l)
      (and_right (every is_printable l) (leb (length l) (longest rules kind.Comment) && is_kind rules (told_kind kind.Comment) l) line) in
      rw (kind-comments p) (leb-true (length l) (longest rules kind.Comment) short)

five-lines : (n : ℕ) → n ≤ 85 → slot_lines n ≡ 5
unfolding slot_lines
five-lines n h = omega arith

-- So one of SP3-c: at most 85 satellites, five lines of each kind, four comments, and comment lines of at most 60 characters.
pub file-c : (bytes : List ℕ) → IsFile c bytes
    → ((header c bytes).satellites ≤ 85)
    × (length (of_kind c satellites_kind (lines_of bytes)) ≡ 5)
    × (length (of_kind c accuracies_kind (lines_of bytes)) ≡ 5)
    × ((header c bytes).comments ≡ 4)
    × ((i : ℕ) → i < 4 → length (nth i (of_kind c comment_kind (lines_of bytes))) ≤ 60)
file-c bytes accepted =
    let keeps = file-keeps c-proper bytes accepted in
    let many = lines-of-each c-proper bytes accepted in
    let five = five-lines (header c bytes).satellites keeps.0 in
    let four : (header c bytes).comments ≡ 4 = omega (arith, keeps.1, keeps.2) in
    (keeps.0, many.0 ∙ five, many.1 ∙ five, four, λ i h. comment-lines c-proper bytes accepted i (omega arith))

-- THE FORM IN SP3-C is that in SP3-d but for its second byte.
pub form-c : (t : Table) → canonical c t ≡ 35 ∷ 99 ∷ drop 2 (canonical d t)
form-c t = second-byte c d refl refl t

-- READING TELLS THE VERSION: a file tells the rules of its own version,
pub tells : (v : Version) (bytes : List ℕ) → IsFile (rules_of v) bytes → rules_in bytes ≡ rules_of v
tells v bytes file = rules-told v bytes file

letter-told : (v : Version) → (rules_of v).letter ≡ told_version v
letter-told version.C = refl
letter-told version.D = refl

module _ (v : Version) (bytes : List ℕ) (file : IsFile (rules_of v) bytes) where
  -- so judging it by what it tells gives the letter of its version,
  pub judge-tells : (judged (rules_in bytes) bytes (file_of (rules_in bytes) bytes)).version ≡ told_version v
  unfolding judged
  judge-tells = rw (tells v bytes file, file.1) (letter-told v)

  -- and so does reading it.
  pub read-tells : (identifiers exponents comments : List ℕ) (rows : List ℤ)
      → (read_answer (rules_in bytes) bytes (file_of (rules_in bytes) bytes) identifiers exponents comments rows).refusal ≡ 0
      → (read_answer (rules_in bytes) bytes (file_of (rules_in bytes) bytes) identifiers exponents comments rows).version ≡ told_version v
  read-tells identifiers exponents comments rows = rw (tells v bytes file) (λ read. version-told (of-proper v) bytes file identifiers exponents comments rows read ∙ letter-told v)

-- What was written in a version tells that version.
pub written-tells : (v : Version) (t : Table) (out : List ℕ) → (measured_in (rules_of v) t (length out)).refusal ≡ 0
    → rules_in (written_bytes (rules_of v) t out) ≡ rules_of v
written-tells v t out success = tells v (written_bytes (rules_of v) t out) (written-accepted (of-proper v) t out success)

-- BESIDE A REFUSAL THERE IS NO VERSION, whole files (true) and files at the front (false) at once: judging tells a blank,
module _ (rules : Rules) (whole : Bool) (bytes : List ℕ) where
  pub refused-tells-none : ((judged rules bytes (found_in rules whole bytes)).refusal ≡ 0 → ⊥) → (judged rules bytes (found_in rules whole bytes)).version ≡ 32
  unfolding judged
  refused-tells-none = go (found_in rules whole bytes)
    where
      go : (f : Front) → ((judged rules bytes f).refusal ≡ 0 → ⊥) → (judged rules bytes f).version ≡ 32
      go (Ok t) some = absurd (some refl)
      go (Err refusal) some = refl

  -- and so does reading, also where it has no room.
  pub unread-tells-none : (i x c r : ℕ) → ((answer rules whole bytes i x c r).refusal ≡ 0 → ⊥) → (answer rules whole bytes i x c r).version ≡ 32
  unfolding delivered
  unread-tells-none i x c r = go (found_in rules whole bytes)
    where
      by-room : (b : Bool) (t : Tally) → ((cond b (accepted_as rules bytes t) (refused_with 12 0 0)).refusal ≡ 0 → ⊥)
          → (cond b (accepted_as rules bytes t) (refused_with 12 0 0)).version ≡ 32
      by-room true t some = absurd (some refl)
      by-room false t some = refl

      go : (f : Front) → ((delivered rules bytes f i x c r).refusal ≡ 0 → ⊥) → (delivered rules bytes f i x c r).version ≡ 32
      go (Ok t) some = by-room (room_for (count_of rules (lines_to t.end bytes)) t i x c r) t some
      go (Err refusal) some = refl

-- an accepted file's answer, by its length, its header and its version
accepted-answer : (rules : Rules) (bytes : List ℕ) (t : Tally) (r : Reading) (n : ℕ) (h : Header) (letter : ℕ) → r ≡ accepted_as rules bytes t
    → r.length ≡ n → r.header ≡ h → r.version ≡ letter → r ≡ told_file letter n h
accepted-answer rules bytes t r n h letter is long same version =
    let long' : t.end ≡ n = sym (ap (λ (x : Reading). x.length) is) ∙ long in
    let same' : header_in rules (lines_to t.end bytes) ≡ h = sym (ap (λ (x : Reading). x.header) is) ∙ same in
    let version' : rules.letter ≡ letter = sym (ap (λ (x : Reading). x.version) is) ∙ version in
    is
    ∙ ap (λ (l : ℕ). told_file l t.end (header_in rules (lines_to t.end bytes))) version'
    ∙ ap (λ (l : ℕ). told_file letter l (header_in rules (lines_to t.end bytes))) long'
    ∙ ap (told_file letter n) same'

-- WHAT WAS WRITTEN IN A VERSION READS BACK, by the rules that it tells: 0, its length, the header and the version, and the lists of the table.
module _ (v : Version) (t : Table) (out : List ℕ) (success : (measured_in (rules_of v) t (length out)).refusal ≡ 0) where
  abbrev again : List ℕ
  again = written_bytes (rules_of v) t out

  pub written-reads-back : (identifiers exponents comments : List ℕ) (rows : List ℤ)
      → Room t.header (length identifiers) (length exponents) (length comments) (length rows)
      → let rules = rules_in again in
      (read_answer rules again (file_of rules again) identifiers exponents comments rows ≡ told_file (told_version v) (length again) t.header)
      × (identifiers_after rules again (file_of rules again) identifiers exponents comments rows ≡ over (table_identifiers t) identifiers)
      × (exponents_after rules again (file_of rules again) identifiers exponents comments rows ≡ over (exponents_of t) exponents)
      × (comments_after rules again (file_of rules again) identifiers exponents comments rows ≡ over (comments_of t) comments)
      × (rows_after rules again (file_of rules again) identifiers exponents comments rows ≡ over (rows_of t) rows)
  written-reads-back identifiers exponents comments rows room =
      let proper = of-proper v in
      let file = written-accepted proper t out success in
      let read = room-reads proper t out success identifiers exponents comments rows room in
      rw (written-tells v t out success) (
        accepted-answer (rules_of v) again file.0 _ _ _ _ (answer-is proper again file identifiers exponents comments rows read)
            (length-told proper again file identifiers exponents comments rows read)
            (header-back proper t out success identifiers exponents comments rows read)
            (version-told proper again file identifiers exponents comments rows read ∙ letter-told v),
        identifiers-back proper t out success identifiers exponents comments rows read,
        exponents-back proper t out success identifiers exponents comments rows read,
        comments-back proper t out success identifiers exponents comments rows read,
        rows_back proper t out success identifiers exponents comments rows read,
      )

-- A TABLE OF A FILE OF SP3-C GOES INTO SP3-D: it is valid there, and its form there is an accepted file that holds it.
module _ (bytes : List ℕ) (accepted : IsFile c bytes) where
  abbrev held : Table
  held = table_in c (lines_of bytes)

  its-plain : Plain c (lines_of bytes)
  its-plain = file-plain c c-proper.sound bytes accepted

  valid-d : (t : Table) → Holds c (lines_of bytes) t → valid d t ≡ true
  valid-d t holds = wider c d c-proper.within_d t (held-valid c (lines_of bytes) its-plain t holds)

  pub c-in-d : (valid d held ≡ true) × IsFile d (canonical d held) × Holds d (lines_of (canonical d held)) held
  c-in-d =
      let ok = valid-d held (table-held c (lines_of bytes) its-plain) in
      (ok, (accepts-exactly d d-proper.sound (canonical d held)).1 (form-accepted d d-proper held ok), form-holds d d-proper held ok)

  -- A reading hands it on to a writing in SP3-d, which with room for that form answers 0 and its length, and lays it.
  pub c-written-in-d : (identifiers exponents comments : List ℕ) (rows : List ℤ)
      → (read_answer c bytes (file_of c bytes) identifiers exponents comments rows).refusal ≡ 0
      → (out : List ℕ) → length (canonical d held) ≤ length out → let lent = lent_table c true bytes identifiers exponents comments rows in
      (measured_in d lent (length out) ≡ record { refusal = 0; length = length (canonical d held) }) × (out_after d lent out ≡ over (canonical d held) out)
  c-written-in-d identifiers exponents comments rows read out room =
      let lent = lent_table c true bytes identifiers exponents comments rows in
      let holds = lent-held c-proper bytes accepted identifiers exponents comments rows read in
      let same : canonical d lent ≡ canonical d held =
      second-byte d c refl refl lent
      ∙ ap (λ (s : List ℕ). 35 ∷ 100 ∷ drop 2 s) (one_form c (lines_of bytes) lent held holds (table-held c (lines_of bytes) its-plain))
      ∙ sym (second-byte d c refl refl held) in
      let enough : length (canonical d lent) ≤ length out = subst (λ (s : List ℕ). length s ≤ length out) (sym same) room in
      let wrote = written-0 d-proper lent out (valid-d lent holds) enough in (
        wrote ∙ ap (λ (s : List ℕ). record { refusal = 0; length = length s }) same,
        out-is d-proper lent out (ap (λ (m : Measured). m.refusal) wrote) ∙ ap (λ (s : List ℕ). over s out) same,
      )
