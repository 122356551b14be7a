-- Bounds within other bounds, over the rules of two versions with one letter: what is a file by the narrower is one by the wider.
-- Assumes nothing.
use mathlib.Core.Path.{◌≡◌, refl, sym, ap, subst, ◌∙◌}
use mathlib.Core.Bool.{Bool, true, false, ◌&&◌}
use mathlib.Core.List.{List, [], ◌∷◌, ◌++◌}
use Prim.Native.Nat.{ℕ, zero, suc, ◌+◌, ◌-◌, ◌≤◌}
use native.Mathlib.Nat.{le_trans}
use native.Mathlib.Omega.{arith}
use borrow.Author.Tests.{leb-true, le-leb, eqb-true, eq-eqb}
use lib.Dec.{leb, eqb}
use lib.ListN.{length}
use Rattle.laws.specs.Tests.{within}
use Rattle.laws.specs.Texts.{every, is_printable}
use Rattle.laws.proofs.Bools.{and_left, and_right, and_both}
use Rattle.laws.proofs.Bounds.{within-true, true-within}
use Rattle.layout.specs.Fault.{clean, lower}
use Rattle.layout.specs.Kind.{unless, whole_fault, identifier_code}
use Rattle.layout.specs.Kind.Kind.{unused, fixed}
use Rattle.layout.specs.Layout.{columns, column, part_at, part_of, fault_at, fault_from, fault_of}
use Rattle.layout.specs.Line.{padded}
use Rattle.layout.proofs.Again.{item-clean}
use Rattle.record.specs.LineKinds.{told_kind, kind_of, longest}
use Rattle.record.specs.Opening.{first_of, second_of, epoch_of}
use Rattle.record.specs.SlotLines.{slot_items, count_item, count_in, satellites_of, more_of}
use Rattle.record.specs.Descriptors.{descriptor_of, character_items, base_of, float_items, integer_items}
use Rattle.record.specs.Plain.{comment_items, end_items}
use Rattle.record.specs.Rows.{row_fault, cut}
use Rattle.record.specs.Notes.{note_fault}
use Rattle.record.specs.Agrees.{instant_in, second_agrees, type_agrees}
use Rattle.header.specs.declared.types.Rules.{Rules}
use Rattle.field.specs.Read.{whole_of}
use Rattle.record.specs.declared.types.First.{First}
use Rattle.record.specs.declared.types.LineKind.{LineKind}
use Rattle.record.specs.declared.types.LineKind.TheVariants as kind
use Rattle.file.specs.Kinds.{is_kind}
use Rattle.file.specs.Plain.{is_line, is_record, every_line, is_first_line, is_second_line, is_count_line, slots_of_kind, are_slots, slot_identifiers, is_comment_line, row_kind, note_kind, is_note_line, Noted, Rest, Rows, Epochs, Plain, Sound}
use Rattle.lines.specs.Lines.{lines_of}
use Rattle.machine.specs.State.{start_state, no_identifiers}
use Rattle.scan.specs.Run.{nothing_seen, counted, run, scan_of, whole_front}
use Rattle.scan.specs.declared.Tally.{Tally}
use Rattle.scan.specs.Front as front
use Rattle.scan_laws.proofs.Reaching.{counted_over}
use Rattle.scan_laws.proofs.Accepts.{run-plain, plain-run}
use Rattle.scan_laws.proofs.Local.{whole-ends}
use Rattle.canon_laws.specs.Within.{Within}
use Rattle.canon_laws.proofs.SameForm.{lettered}
use Rattle.std.specs.Prelude.{Option, Some, None}

-- every line that passes one test passes another
every-line : (t u : List ℕ → Bool) → ((l : List ℕ) → t l ≡ true → u l ≡ true) → (ls : List (List ℕ)) → every_line t ls ≡ true → every_line u ls ≡ true
unfolding every_line
every-line t u more [] v = refl
every-line t u more (l ∷ ls) v =
    and_both (u l) (every_line u ls) (more l (and_left (t l) (every_line t ls) v)) (every-line t u more ls (and_right (t l) (every_line t ls) v))

-- a test behind no fault has passed
passed : (b : Bool) → unless b 7 4 ≡ clean → b ≡ true
passed true e = refl
passed false e = absurd (omega arith)

module _ (r s : Rules) (w : Within r s) (e : r.letter ≡ s.letter) where
  -- the kind of a line and what line 1 says are told by the letter,
  kind-letter : (k : ℕ) (l : List ℕ) → is_kind r k l ≡ is_kind s k l
  unfolding kind_of
  kind-letter k l = ap (λ (letter : ℕ). is_kind (lettered letter) k l) e

  first-letter : (line : List ℕ) → first_of r line ≡ first_of s line
  first-letter line = ap (λ (letter : ℕ). first_of (lettered letter) line) e

  -- a line may be as long,
  longer : (k : LineKind) → longest r k ≤ longest s k
  longer kind.Other = omega arith
  longer kind.First = omega arith
  longer kind.Second = omega arith
  longer kind.Satellites = omega arith
  longer kind.Accuracies = omega arith
  longer kind.Characters = omega arith
  longer kind.Floats = omega arith
  longer kind.Integers = omega arith
  longer kind.Comment = omega (arith, w.columns)
  longer kind.Epoch = omega arith
  longer kind.Position = omega arith
  longer kind.Velocity = omega arith
  longer kind.PositionCorrelation = omega arith
  longer kind.VelocityCorrelation = omega arith
  longer kind.EndOfFile = omega arith

  line-wider : (k : LineKind) (l : List ℕ) → is_line r k l ≡ true → is_line s k l ≡ true
  line-wider k l v =
      let rest = and_right (every is_printable l) (leb (length l) (longest r k) && is_kind r (told_kind k) l) v in
      let short = leb-true (length l) (longest r k) (and_left (leb (length l) (longest r k)) (is_kind r (told_kind k) l) rest) in
      and_both (every is_printable l) (leb (length l) (longest s k) && is_kind s (told_kind k) l)
      (and_left (every is_printable l) (leb (length l) (longest r k) && is_kind r (told_kind k) l) v)
      (and_both (leb (length l) (longest s k)) (is_kind s (told_kind k) l) (le-leb (length l) (longest s k) (le_trans short (longer k)))
      (sym (kind-letter (told_kind k) l) ∙ and_right (leb (length l) (longest r k)) (is_kind r (told_kind k) l) rest))

  -- and so a record without fault is one where the wider have none either,
  record-wider : (k : LineKind) (f g : ℕ) (l : List ℕ) → (f ≡ 0 → g ≡ 0) → is_record r k f l ≡ true → is_record s k g l ≡ true
  record-wider k f g l none v =
      and_both (is_line s k l) (eqb g 0) (line-wider k l (and_left (is_line r k l) (eqb f 0) v))
      (eq-eqb g 0 (none (eqb-true f 0 (and_right (is_line r k l) (eqb f 0) v))))

  same-wider : (k : LineKind) (f : ℕ) (l : List ℕ) → is_record r k f l ≡ true → is_record s k f l ≡ true
  same-wider k f l v = record-wider k f f l (λ z. z) v

  also-wider : (k : LineKind) (f : ℕ) (l : List ℕ) (more : Bool) → (is_record r k f l && more) ≡ true → (is_record s k f l && more) ≡ true
  also-wider k f l more v =
      and_both (is_record s k f l) more (same-wider k f l (and_left (is_record r k f l) more v)) (and_right (is_record r k f l) more v)

  first-wider : (l : List ℕ) → is_first_line r l ≡ true → is_first_line s l ≡ true
  first-wider l v =
      record-wider kind.First (first_of r (padded l)).fault (first_of s (padded l)).fault l (λ z. sym (ap (λ (f : First). f.fault) (first-letter (padded l))) ∙ z) v

  -- the number of satellites too: what is within the narrower bound is within the wider
  number-wider : (x : Option ℕ) → whole_fault 4 1 r.most_satellites x ≡ clean → whole_fault 4 1 s.most_satellites x ≡ clean
  number-wider (Some n) z =
      let in-r = within-true 1 r.most_satellites n (passed (within 1 r.most_satellites n) z) in
      let in-s : within 1 s.most_satellites n ≡ true = true-within 1 s.most_satellites n in-r.0 (le_trans in-r.1 w.satellites) in
      rw in-s
  number-wider None z = absurd (omega arith)

  count-clean : (line : List ℕ) → (satellites_of r line).fault ≡ 0 → (satellites_of s line).fault ≡ 0
  count-clean line z =
      let before = lower (lower clean (fault_at (part_at 0 1 2 (fixed 4 (43 ∷ 32 ∷ []))) line)) (fault_at (column 3 unused) line) in
      let rest = columns 7 9 unused ∷ (slot_items false (count_in r line) ++ (columns 61 80 unused ∷ [])) in
      let own : fault_at (count_item r) line ≡ clean = item-clean (count_item r) rest line before z in
      let other : fault_at (count_item s) line ≡ clean = number-wider (whole_of (part_of (count_item r) line)) own in
      ap (λ (f : ℕ). fault_from (lower before f) rest line) (other ∙ sym own) ∙ z

  count-wider : (l : List ℕ) → is_count_line r l ≡ true → is_count_line s l ≡ true
  count-wider l v =
      record-wider kind.Satellites (satellites_of r (padded l)).fault (satellites_of s (padded l)).fault l (count-clean (padded l)) v

  slots-wider : (accuracies : Bool) (left : ℕ) (ls : List (List ℕ)) → are_slots r accuracies left ls ≡ true → are_slots s accuracies left ls ≡ true
  unfolding are_slots
  slots-wider accuracies left [] v = refl
  slots-wider accuracies left (l ∷ ls) v =
      let k = slots_of_kind accuracies in
      let f = (more_of accuracies left (padded l)).fault in
      and_both (is_record s k f l) (are_slots s accuracies (left - 17) ls)
      (same-wider k f l (and_left (is_record r k f l) (are_slots r accuracies (left - 17) ls) v))
      (slots-wider accuracies (left - 17) ls (and_right (is_record r k f l) (are_slots r accuracies (left - 17) ls) v))

  -- the rows of the epochs, with what stands after them,
  noted-wider : (v : Bool) (identifier : ℕ) (lines : List (List ℕ)) → Noted r v identifier lines → Noted s v identifier lines
  noted-wider v identifier lines n = record {
    row = n.row;
    notes = n.notes;
    lines_are = n.lines_are;
    is-row = also-wider (row_kind v) (row_fault v (padded n.row)) n.row (eqb (identifier_code (cut 2 4 (padded n.row))) identifier) n.is-row;
    are-notes =
        and_both (leb (length n.notes) 1) (every_line (is_note_line s v) n.notes)
        (and_left (leb (length n.notes) 1) (every_line (is_note_line r v) n.notes) n.are-notes)
        (every-line (is_note_line r v) (is_note_line s v) (λ l. same-wider (note_kind v) (note_fault v (padded l)) l) n.notes
        (and_right (leb (length n.notes) 1) (every_line (is_note_line r v) n.notes) n.are-notes));
  }

  rest-wider : (v : Bool) (identifier : ℕ) (lines : List (List ℕ)) → Rest r v identifier lines → Rest s v identifier lines
  rest-wider true identifier lines n = noted-wider true identifier lines n
  rest-wider false identifier lines none = none

  rows-wider : (v : Bool) (identifiers : List ℕ) (lines : List (List ℕ)) → Rows r v identifiers lines → Rows s v identifiers lines
  rows-wider v [] lines none = none
  rows-wider v (identifier ∷ identifiers) lines (own, more, lines_are, x, xs) = (
    own,
    more,
    lines_are,
    record {
      position = x.position;
      rest = x.rest;
      lines_are = x.lines_are;
      is-position = noted-wider false identifier x.position x.is-position;
      is-rest = rest-wider v identifier x.rest x.is-rest;
    },
    rows-wider v identifiers more xs,
  )

  epochs-wider : (v : Bool) (identifiers : List ℕ) (interval8 n at8 : ℕ) (lines : List (List ℕ))
      → Epochs r v identifiers interval8 n at8 lines → Epochs s v identifiers interval8 n at8 lines
  epochs-wider v identifiers interval8 zero at8 lines none = none
  epochs-wider v identifiers interval8 (suc n) at8 lines (epoch, rows, more, lines_are, is-epoch, are-rows, others) = (
    epoch,
    rows,
    more,
    lines_are,
    also-wider kind.Epoch (epoch_of (padded epoch)).fault epoch (eqb (instant_in (epoch_of (padded epoch)).moment) at8) is-epoch,
    rows-wider v identifiers rows are-rows,
    epochs-wider v identifiers interval8 n (at8 + interval8) more others,
  )

  -- THE LINES OF A FILE BY THE NARROWER BOUNDS ARE THOSE OF A FILE BY THE WIDER,
  pub plain-wider : (lines : List (List ℕ)) → Plain r lines → Plain s lines
  plain-wider lines p =
      let one = first-letter (padded p.first) in
      let n = (satellites_of r (padded p.count)).count in
      let identifiers = slot_identifiers n (p.count ∷ p.slots) in
      let interval8 = (second_of (padded p.second)).interval8 in
      let k = within-true r.fewest_comments r.most_comments (length p.comments) p.comments-many in
      record {
        first = p.first;
        second = p.second;
        count = p.count;
        slots = p.slots;
        accuracies = p.accuracies;
        descriptor = p.descriptor;
        characters = p.characters;
        bases = p.bases;
        floats = p.floats;
        integers = p.integers;
        integers' = p.integers';
        comments = p.comments;
        epochs = p.epochs;
        last = p.last;
        lines_are = p.lines_are;
        is-first = first-wider p.first p.is-first;
        is-second =
            subst (λ (f : First). is_second_line s (instant_in f.start) p.second ≡ true) one
            (also-wider kind.Second (second_of (padded p.second)).fault p.second (second_agrees (instant_in (first_of r (padded p.first)).start) (second_of (padded p.second))) p.is-second);
        is-count = count-wider p.count p.is-count;
        are-slots = slots-wider false (n - 17) p.slots p.are-slots;
        slots-many = p.slots-many;
        all-different = p.all-different;
        are-accuracies = slots-wider true n p.accuracies p.are-accuracies;
        accuracies-many = p.accuracies-many;
        is-descriptor =
            also-wider kind.Characters (descriptor_of (padded p.descriptor)).fault p.descriptor
            (type_agrees (descriptor_of (padded p.descriptor)).file_type identifiers) p.is-descriptor;
        is-characters = same-wider kind.Characters (fault_of character_items (padded p.characters)) p.characters p.is-characters;
        is-bases = same-wider kind.Floats (base_of (padded p.bases)).fault p.bases p.is-bases;
        is-floats = same-wider kind.Floats (fault_of float_items (padded p.floats)) p.floats p.is-floats;
        is-integers = same-wider kind.Integers (fault_of integer_items (padded p.integers)) p.integers p.is-integers;
        is-integers' = same-wider kind.Integers (fault_of integer_items (padded p.integers')) p.integers' p.is-integers';
        are-comments = every-line (is_comment_line r) (is_comment_line s) (λ l. same-wider kind.Comment (fault_of comment_items (padded l)) l) p.comments p.are-comments;
        comments-many =
            true-within s.fewest_comments s.most_comments (length p.comments) (le_trans w.fewest k.0) (le_trans k.1 w.most);
        are-epochs =
            subst (λ (f : First). Epochs s (eqb f.mode 86) identifiers interval8 f.epochs (instant_in f.start) p.epochs) one
            (epochs-wider (eqb (first_of r (padded p.first)).mode 86) identifiers interval8 (first_of r (padded p.first)).epochs
            (instant_in (first_of r (padded p.first)).start) p.epochs p.are-epochs);
        is_last = same-wider kind.EndOfFile (fault_of end_items (padded p.last)) p.last p.is_last;
      }

  -- and what is found by the narrower, at the front of some bytes or as the whole of them, is found by the wider, with the same tally.
  line-letter : (t : Tally) (l : List ℕ) → counted r t l ≡ counted s t l
  unfolding counted kind_of
  line-letter t l = ap (λ (letter : ℕ). counted (lettered letter) t l) e

  lines-letter : (t : Tally) (ls : List (List ℕ)) → counted_over r t ls ≡ counted_over s t ls
  unfolding counted_over
  lines-letter t [] = refl
  lines-letter t (l ∷ ls) = lines-letter (counted r t l) ls ∙ ap (λ (u : Tally). counted_over s u ls) (line-letter t l)

  module _ (sound-r : Sound r) (sound-s : Sound s) (bytes : List ℕ) (t : Tally) where
    pub front-wider : scan_of r bytes ≡ front.File t → scan_of s bytes ≡ front.File t
    front-wider found =
        let p = run-plain r sound-r (lines_of bytes) nothing_seen t found in
        ap (run s start_state no_identifiers nothing_seen) p.split
        ∙ plain-run s sound-s p.used p.rest nothing_seen (plain-wider p.used p.plain)
        ∙ ap front.File (sym (p.tally ∙ lines-letter nothing_seen p.used))

    pub file-wider : whole_front (length bytes) (scan_of r bytes) ≡ front.File t → whole_front (length bytes) (scan_of s bytes) ≡ front.File t
    file-wider found =
        let alone = (whole-ends r bytes t found).0 in
        ap (whole_front (length bytes)) (front-wider alone ∙ sym alone) ∙ found
