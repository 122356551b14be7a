-- Each number of the answers exactly when: judging, reading, the questions, the beginning of a walk and dividing; the file's own refusal first.
-- Assumes nothing.
use mathlib.Core.Path.{◌≡◌, refl, sym, ap, ◌∙◌}
use mathlib.Core.Bool.{Bool, true, false, cond, ◌&&◌, false≢true}
use mathlib.Core.Logic.{◌⊎◌, inl, inr, ◌↔◌}
use mathlib.Core.List.{List, [], ◌∷◌, ◌++◌}
use Prim.Native.Nat.{ℕ, zero, suc, ◌+◌, ◌≤◌, ◌<◌}
use native.Mathlib.Decide.{dec_le, dec_lt}
use native.Mathlib.Omega.{arith}
use borrow.Author.Tests.{lt-ltb, le-ltb, ltb-true, ltb-false, eqb-true, eq-eqb}
use lib.Dec.{eqb, ltb, leb}
use lib.IntN.{ℤ, nat_abs}
use lib.ListN.{length, get_or, take, drop, length-append, length-drop, take-append-drop}
use Rattle.header.specs.declared.types.Rules.{Rules}
use Rattle.lines.specs.Lines.{lines_of}
use Rattle.file.specs.Kinds.{of_kind}
use Rattle.scan.specs.Run.{whole_front, IsFile}
use Rattle.reader.specs.Reading.{refused_with, lines_to, front_of, file_of, judged, delivered, identifiers_of}
use Rattle.questions.specs.Questions.{text_in, no_comment, comment_line, comment_answer, comment_words, index_of, no_satellite, satellite_in, satellite_answer}
use Rattle.field.specs.Sign.{is_negative}
use Rattle.record.specs.Absence.{clock_absent, is_unknown, is_too_large}
use Rattle.layout.specs.Kind.{unnoted}
use Rattle.record.specs.Notes.{largest_deviation}
use Rattle.stored_row.specs.Stored.{is_there, number_at, is_place_absent, has_note, place_in, clock_in, exponent_read_in, flag_in, note_in, note_deviation_in, note_correlation_in}
use Rattle.scan_laws.proofs.Files.{file-plain, whole-taken}
use Rattle.scan_laws.proofs.Local.{whole-ends}
use Rattle.scan_laws.proofs.Used.{accepted-front}
use Rattle.file_laws.proofs.Selected.{kind-comments}
use Rattle.theorems.specs.Faults.{FirstFault}
use Rattle.theorems.specs.Files.{header, identifier, There}
use Rattle.theorems.specs.Room.{found_in, answer, Room, Short}
use Rattle.theorems.specs.Asked.{asked}
use Rattle.theorems.specs.Walked.{begun}
use Rattle.theorems.proofs.Accepting.{says-comments}
use Rattle.theorems.proofs.Judging.{refused-first, first-refused, refused-numbers, Followed, whole-refused, file-then-anything, front-whole}
use Rattle.theorems.proofs.Room.{header_to, short-refused, room-accepted, room-or-short}
use Rattle.theorems.proofs.Floats.{row-asked, row-not-there, row-refused}
use Rattle.theorems.proofs.Beginning.{begin-accepts, begin-short, begin-refused}
use Rattle.reader.specs.declared.types.Reading.{Reading}
use Rattle.questions.specs.declared.types.CommentAnswer.{CommentAnswer}
use Rattle.questions.specs.declared.types.SatelliteAnswer.{SatelliteAnswer}
use Rattle.questions.specs.declared.types.RowAnswer.{RowAnswer}
use Rattle.stored_row.specs.declared.types.Place.TheVariants as place
use Rattle.stored_row.specs.declared.types.ClockRead.TheVariants as clock
use Rattle.stored_row.specs.declared.types.ExponentRead.TheVariants as exponent_read
use Rattle.stored_row.specs.declared.types.Flag.TheVariants as flag
use Rattle.stored_row.specs.declared.types.NoteMark.TheVariants as note_mark
use Rattle.stored_row.specs.declared.types.NoteDeviation.TheVariants as note_deviation
use Rattle.stored_row.specs.declared.types.NoteCorrelation.TheVariants as note_correlation
use Rattle.scan.specs.declared.Tally.{Tally}
use Rattle.std.specs.Prelude.{Ok, Err}
use Rattle.scan.specs.Front.{Front}
use Rattle.scan.specs.Front as front
use Rattle.record.specs.LineKinds.{comment_kind}
use Rattle.canon_laws.specs.Held.{Proper}

module _ {rules : Rules} (proper : Proper rules) where
  -- a file that is found refused has a number from 1 to 11
  pub found-numbers : (bytes : List ℕ) (number line column : ℕ) → file_of rules bytes ≡ front.Refused number line column → (1 ≤ number) × (number ≤ 11)
  found-numbers bytes number line column e = go (whole-refused proper bytes number line column e)
    where
      go : (front_of rules bytes ≡ front.Refused number line column)
          ⊎ Followed rules bytes number line column
          → (1 ≤ number) × (number ≤ 11)
      go (inl refused) = let n = refused-numbers proper bytes number line column refused in (n.0, omega (arith, n.1))
      go (inr (t, f, h, eleven, l, c)) = (omega arith, omega arith)

  -- whole or at the front
  found-few : (whole : Bool) (bytes : List ℕ) (number line column : ℕ) → found_in rules whole bytes ≡ front.Refused number line column → number ≤ 11
  found-few true bytes number line column e = (found-numbers bytes number line column e).1
  found-few false bytes number line column e = omega (arith, (refused-numbers proper bytes number line column e).1)

  -- JUDGING answers 0 exactly for an accepted file.
  pub judge-accepts : (bytes : List ℕ) → ((judged rules bytes (file_of rules bytes)).refusal ≡ 0) ↔ IsFile rules bytes
  unfolding judged
  judge-accepts bytes = go (file_of rules bytes) refl
    where
      go : (f : Front) → file_of rules bytes ≡ f → ((judged rules bytes f).refusal ≡ 0) ↔ IsFile rules bytes
      go (Ok t) e = (λ z. (t, e), λ i. refl)
      go (Err refusal) e =
          let some = found-numbers bytes refusal.number refusal.line refusal.column e in (
            λ z. absurd (omega (arith, some.0)),
            λ i. absurd (no_both (sym i.1 ∙ e)),
          )
        where
          no_both : {t : Tally} → front.File t ≡ front.Refused refusal.number refusal.line refusal.column → ⊥
          no_both both = let z : ◌≡◌ {A = ℕ} 0 1 = cc in omega arith

  -- A file is answered by a refusal, but for 11, exactly when its line is the first that earns a fault, and of the faults that this line earns it has the
  -- lowest number and then the leftmost column; whole files and files at the front at once.
  pub judged-exactly : (whole : Bool) (bytes : List ℕ) (number line column : ℕ) → (number ≡ 11 → ⊥)
      → ((0 < number) × (judged rules bytes (found_in rules whole bytes) ≡ refused_with number line column)) ↔ FirstFault rules bytes number line column
  unfolding judged whole_front
  judged-exactly whole bytes number line column apart = (λ told. there (found_in rules whole bytes) refl told.0 told.1, λ f. back whole (first-refused proper bytes number line column f))
    where
      at_front : (w : Bool) → found_in rules w bytes ≡ front.Refused number line column → front_of rules bytes ≡ front.Refused number line column
      at_front false e = e
      at_front true e = go (whole-refused proper bytes number line column e)
        where
          go : (front_of rules bytes ≡ front.Refused number line column)
              ⊎ Followed rules bytes number line column
              → front_of rules bytes ≡ front.Refused number line column
          go (inl f) = f
          go (inr (t, f, h, n, l, c)) = absurd (apart n)

      there : (f : Front) → found_in rules whole bytes ≡ f → 0 < number → judged rules bytes f ≡ refused_with number line column → FirstFault rules bytes number line column
      there (Ok t) e some is = let z : 0 ≡ number = ap (λ (r : Reading). r.refusal) is in absurd (omega arith)
      there (Err refusal) e some is =
          let number_is : refusal.number ≡ number = ap (λ (r : Reading). r.refusal) is in
          let line-is : refusal.line ≡ line = ap (λ (r : Reading). r.line) is in
          let column-is : refusal.column ≡ column = ap (λ (r : Reading). r.column) is in
          let same : front.Refused refusal.number refusal.line refusal.column ≡ front.Refused number line column = rw (number_is, line-is, column-is) in
          refused-first proper bytes number line column (at_front whole (e ∙ same))

      back : (w : Bool) → front_of rules bytes ≡ front.Refused number line column → (0 < number) × (judged rules bytes (found_in rules w bytes) ≡ refused_with number line column)
      back false e = ((refused-numbers proper bytes number line column e).0, rw e refl)
      back true e = ((refused-numbers proper bytes number line column e).0, rw e refl)

  -- 11 exactly when an accepted file is followed by more, with the line after its last.
  pub eleven-exactly : (bytes : List ℕ) (line : ℕ) → (judged rules bytes (file_of rules bytes) ≡ refused_with 11 line 0)
      ↔ ((a : List ℕ) × (b : List ℕ) × (bytes ≡ a ++ b) × IsFile rules a × (0 < length b) × (line ≡ length (lines_of a) + 1))
  unfolding judged whole_front
  eleven-exactly bytes line = (there (file_of rules bytes) refl, back)
    where
      There' : Type 0
      There' = (a : List ℕ) × (b : List ℕ) × (bytes ≡ a ++ b) × IsFile rules a × (0 < length b) × (line ≡ length (lines_of a) + 1)

      there : (f : Front) → file_of rules bytes ≡ f → judged rules bytes f ≡ refused_with 11 line 0 → There'
      there (Ok t) e is = let z : ◌≡◌ {A = ℕ} 0 11 = ap (λ (r : Reading). r.refusal) is in absurd (omega arith)
      there (Err refusal) e is = by (whole-refused proper bytes refusal.number refusal.line refusal.column e)
        where
          eleven : refusal.number ≡ 11
          eleven = ap (λ (r : Reading). r.refusal) is

          same : refusal.line ≡ line
          same = ap (λ (r : Reading). r.line) is

          by : (front_of rules bytes ≡ front.Refused refusal.number refusal.line refusal.column)
              ⊎ Followed rules bytes refusal.number refusal.line refusal.column
              → There'
          by (inl refused) = absurd (omega (arith, (refused-numbers proper bytes refusal.number refusal.line refusal.column refused).1, eleven))
          by (inr (t, f, h, n, m, c)) = (
            take t.end bytes,
            drop t.end bytes,
            sym (take-append-drop t.end bytes),
            (t, front-whole proper bytes t f),
            omega (arith, length-drop t.end bytes),
            sym same ∙ m ∙ ap (λ (n : ℕ). n + 1) (accepted-front rules bytes t f).lines,
          )

      back : There' → judged rules bytes (file_of rules bytes) ≡ refused_with 11 line 0
      back (a, b, is, (t, f), some, l) =
          let found = file-then-anything proper a b t f in
          let after : ltb t.end (length (a ++ b)) ≡ true = lt-ltb t.end (length (a ++ b)) (omega (arith, found.1, length-append a b)) in
          let lines : t.lines ≡ length (lines_of a) =
          (accepted-front rules a t (whole-ends rules a t f).0).lines ∙ ap (λ (s : List ℕ). length (lines_of s)) (whole-taken rules a t f) in
          rw (is, found.0, after, l, sym lines)

  -- A file that is refused is answered by its own number and line, whatever the room.
  pub refused-whatever-room : (whole : Bool) (bytes : List ℕ) (number line column : ℕ) → found_in rules whole bytes ≡ front.Refused number line column
      → (i x c r : ℕ) → answer rules whole bytes i x c r ≡ refused_with number line column
  unfolding delivered
  refused-whatever-room whole bytes number line column e i x c r = rw e

  -- READING answers 12, with line 0, exactly when there is a file and some room for it is missing;
  pub reading-twelve : (whole : Bool) (bytes : List ℕ) (i x c r : ℕ)
      → ((answer rules whole bytes i x c r).refusal ≡ 12) ↔ ((t : Tally) × (found_in rules whole bytes ≡ front.File t) × Short (header_to rules bytes t) i x c r)
  reading-twelve whole bytes i x c r = (there (found_in rules whole bytes) refl, back)
    where
      there : (f : Front) → found_in rules whole bytes ≡ f → (answer rules whole bytes i x c r).refusal ≡ 12
          → (t : Tally) × (found_in rules whole bytes ≡ front.File t) × Short (header_to rules bytes t) i x c r
      there (Ok t) e twelve = by (room-or-short (header_to rules bytes t) i x c r)
        where
          by : Room (header_to rules bytes t) i x c r ⊎ Short (header_to rules bytes t) i x c r
              → (t : Tally) × (found_in rules whole bytes ≡ front.File t) × Short (header_to rules bytes t) i x c r
          by (inl room) =
              let z : ◌≡◌ {A = ℕ} 12 0 = sym twelve ∙ ap (λ (a : Reading). a.refusal) (room-accepted proper whole bytes t e i x c r room) in
              absurd (omega arith)
          by (inr short) = (t, e, short)
      there (Err refusal) e twelve =
          let n : 12 ≡ refusal.number = sym twelve ∙ ap (λ (a : Reading). a.refusal) (refused-whatever-room whole bytes refusal.number refusal.line refusal.column e i x c r) in
          absurd (omega (arith, found-few whole bytes refusal.number refusal.line refusal.column e))

      back : ((t : Tally) × (found_in rules whole bytes ≡ front.File t) × Short (header_to rules bytes t) i x c r) → (answer rules whole bytes i x c r).refusal ≡ 12
      back (t, e, short) = ap (λ (a : Reading). a.refusal) (short-refused proper whole bytes t e i x c r short)

  -- and 13 never.
  pub reading-never-13 : (whole : Bool) (bytes : List ℕ) (i x c r : ℕ) → (answer rules whole bytes i x c r).refusal ≡ 13 → ⊥
  reading-never-13 whole bytes i x c r = go (found_in rules whole bytes) refl
    where
      go : (f : Front) → found_in rules whole bytes ≡ f → (answer rules whole bytes i x c r).refusal ≡ 13 → ⊥
      go (Ok t) e thirteen = by (room-or-short (header_to rules bytes t) i x c r)
        where
          by : Room (header_to rules bytes t) i x c r ⊎ Short (header_to rules bytes t) i x c r → ⊥
          by (inl room) =
              let z : ◌≡◌ {A = ℕ} 13 0 = sym thirteen ∙ ap (λ (a : Reading). a.refusal) (room-accepted proper whole bytes t e i x c r room) in
              omega arith
          by (inr short) =
              let z : ◌≡◌ {A = ℕ} 13 12 = sym thirteen ∙ ap (λ (a : Reading). a.refusal) (short-refused proper whole bytes t e i x c r short) in
              omega arith
      go (Err refusal) e thirteen =
          let n : 13 ≡ refusal.number = sym thirteen ∙ ap (λ (a : Reading). a.refusal) (refused-whatever-room whole bytes refusal.number refusal.line refusal.column e i x c r) in
          omega (arith, found-few whole bytes refusal.number refusal.line refusal.column e)

  -- THE ROW QUESTION answers 13 exactly for an epoch or satellite that an accepted file does not have.
  pub row-thirteen : (bytes : List ℕ) (k j : ℕ) → ((asked rules bytes k j).refusal ≡ 13) ↔ (IsFile rules bytes × (There rules bytes k j → ⊥))
  row-thirteen bytes k j = (there (file_of rules bytes) refl, λ b. ap (λ (a : RowAnswer). a.refusal) (row-not-there proper bytes b.0 k j b.1))
    where
      there : (f : Front) → file_of rules bytes ≡ f → (asked rules bytes k j).refusal ≡ 13 → IsFile rules bytes × (There rules bytes k j → ⊥)
      there (Ok t) e thirteen = (
        (t, e),
        λ here.
            let z : ◌≡◌ {A = ℕ} 13 0 = sym thirteen ∙ ap (λ (a : RowAnswer). a.refusal) (row-asked proper bytes (t, e) k j here) in
            omega arith,
      )
      there (Err refusal) e thirteen =
          let n : 13 ≡ refusal.number = sym thirteen ∙ ap (λ (a : RowAnswer). a.refusal) (row-refused proper bytes refusal.number refusal.line refusal.column e k j) in
          absurd (omega (arith, (found-numbers bytes refusal.number refusal.line refusal.column e).1))

  -- THE COMMENT QUESTION: the file's own refusal first,
  pub comment-refused : (bytes : List ℕ) (number line column : ℕ) → file_of rules bytes ≡ front.Refused number line column
      → (k : ℕ) → (comment_answer rules bytes (file_of rules bytes) k ≡ no_comment number line column) × (comment_words rules bytes (file_of rules bytes) k ≡ [])
  unfolding comment_answer comment_words
  comment-refused bytes number line column e k = (rw e, rw e)

  module _ (bytes : List ℕ) (accepted : IsFile rules bytes) where
    comments-are : accepted.0.comments ≡ (header rules bytes).comments
    comments-are =
        let t = accepted.0 in
        let p = file-plain rules proper.sound bytes accepted in
        (accepted-front rules bytes t (whole-ends rules bytes t accepted.1).0).comments
        ∙ ap (λ (s : List ℕ). length (comments-in s)) (whole-taken rules bytes t accepted.1)
        ∙ ap length (kind-comments p)
        ∙ sym (says-comments p)
      where
        comments-in : List ℕ → List (List ℕ)
        comments-in s = of_kind rules comment_kind (lines_of s)

    -- then the text of the comment, columns 4 on without trailing blanks,
    pub comment-text : (k : ℕ) → k < (header rules bytes).comments → comment_words rules bytes (file_of rules bytes) k ≡ text_in (comment_line rules (lines_of bytes) k)
    unfolding comment_words
    comment-text k h =
        let t = accepted.0 in
        rw (accepted.1, lt-ltb k t.comments (omega (arith, comments-are)), whole-taken rules bytes t accepted.1)

    -- and 13 with nothing where there is none.
    pub comment-not-there : (k : ℕ) → (header rules bytes).comments ≤ k
        → (comment_answer rules bytes (file_of rules bytes) k ≡ no_comment 13 0 0) × (comment_words rules bytes (file_of rules bytes) k ≡ [])
    unfolding comment_answer comment_words
    comment-not-there k h =
        let t = accepted.0 in
        let none : ltb k t.comments ≡ false = le-ltb k t.comments (omega (arith, comments-are)) in
        (rw (accepted.1, none), rw (accepted.1, none))

  -- So 13 comes exactly where an accepted file has no comment of that number, and 12 never.
  pub comment-thirteen : (bytes : List ℕ) (k : ℕ) → ((comment_answer rules bytes (file_of rules bytes) k).refusal ≡ 13) ↔ (IsFile rules bytes × ((header rules bytes).comments ≤ k))
  unfolding comment_answer
  comment-thirteen bytes k = (
    there (file_of rules bytes) refl,
    λ b. ap (λ (a : CommentAnswer). a.refusal) (comment-not-there bytes b.0 k b.1).0,
  )
    where
      there : (f : Front) → file_of rules bytes ≡ f → (comment_answer rules bytes f k).refusal ≡ 13 → IsFile rules bytes × ((header rules bytes).comments ≤ k)
      there (Ok t) e thirteen = ((t, e), by (ltb k t.comments) refl)
        where
          by : (b : Bool) → ltb k t.comments ≡ b → (header rules bytes).comments ≤ k
          by true h = let z : ◌≡◌ {A = ℕ} 0 13 = rw h at thirteen in absurd (omega arith)
          by false h = let few = ltb-false k t.comments h in omega (arith, comments-are bytes (t, e))
      there (Err refusal) e thirteen = absurd (omega (arith, (found-numbers bytes refusal.number refusal.line refusal.column e).1))

  pub questions-never-12 : (bytes : List ℕ) (k j : ℕ)
      → ((asked rules bytes k j).refusal ≡ 12 → ⊥) × ((comment_answer rules bytes (file_of rules bytes) k).refusal ≡ 12 → ⊥)
      × ((satellite_answer rules bytes (file_of rules bytes) k).refusal ≡ 12 → ⊥)
  unfolding comment_answer satellite_answer
  questions-never-12 bytes k j = (row (file_of rules bytes) refl, comment (file_of rules bytes) refl, satellite (file_of rules bytes) refl)
    where
      row : (f : Front) → file_of rules bytes ≡ f → (asked rules bytes k j).refusal ≡ 12 → ⊥
      row (Ok t) e twelve = by (dec_lt k (header rules bytes).epochs) (dec_lt j (header rules bytes).satellites)
        where
          none : (There rules bytes k j → ⊥) → ⊥
          none missing = let z : ◌≡◌ {A = ℕ} 12 13 = sym twelve ∙ ap (λ (a : RowAnswer). a.refusal) (row-not-there proper bytes (t, e) k j missing) in omega arith

          by : Dec (k < (header rules bytes).epochs) → Dec (j < (header rules bytes).satellites) → ⊥
          by (yes some) (yes one) =
              let z : ◌≡◌ {A = ℕ} 12 0 = sym twelve ∙ ap (λ (a : RowAnswer). a.refusal) (row-asked proper bytes (t, e) k j (record { epoch = some; satellite = one })) in
              omega arith
          by (no some) one = none (λ there. some there.epoch)
          by (yes some) (no one) = none (λ there. one there.satellite)
      row (Err refusal) e twelve =
          let n : 12 ≡ refusal.number = sym twelve ∙ ap (λ (a : RowAnswer). a.refusal) (row-refused proper bytes refusal.number refusal.line refusal.column e k j) in
          omega (arith, (found-numbers bytes refusal.number refusal.line refusal.column e).1)

      comment : (f : Front) → file_of rules bytes ≡ f → (comment_answer rules bytes f k).refusal ≡ 12 → ⊥
      comment (Ok t) e twelve = by (ltb k t.comments) refl
        where
          by : (b : Bool) → ltb k t.comments ≡ b → ⊥
          by true h = let z : ◌≡◌ {A = ℕ} 0 12 = rw h at twelve in omega arith
          by false h = let z : ◌≡◌ {A = ℕ} 13 12 = rw h at twelve in omega arith
      comment (Err refusal) e twelve = omega (arith, (found-numbers bytes refusal.number refusal.line refusal.column e).1)

      satellite : (f : Front) → file_of rules bytes ≡ f → (satellite_answer rules bytes f k).refusal ≡ 12 → ⊥
      satellite (Ok t) e twelve = by (ltb (index_of k list) (length list)) refl
        where
          list : List ℕ
          list = identifiers_of rules (lines_to t.end bytes)

          by : (b : Bool) → ltb (index_of k (identifiers_of rules (lines_to t.end bytes))) (length (identifiers_of rules (lines_to t.end bytes))) ≡ b → ⊥
          by true h = let z : ◌≡◌ {A = ℕ} 0 12 = rw h at twelve in omega arith
          by false h = let z : ◌≡◌ {A = ℕ} 13 12 = rw h at twelve in omega arith
      satellite (Err refusal) e twelve = omega (arith, (found-numbers bytes refusal.number refusal.line refusal.column e).1)

  -- THE SATELLITE QUESTION: the file's own refusal first,
  pub satellite-refused : (bytes : List ℕ) (number line column : ℕ) → file_of rules bytes ≡ front.Refused number line column
      → (wanted : ℕ) → satellite_answer rules bytes (file_of rules bytes) wanted ≡ no_satellite number line column
  unfolding satellite_answer
  satellite-refused bytes number line column e wanted = rw e

  -- the first of some numbers that is this one
  index-within : (wanted : ℕ) (list : List ℕ) → index_of wanted list < length list → get_or list (index_of wanted list) 0 ≡ wanted
  unfolding index_of
  index-within wanted [] h = absurd (omega arith)
  index-within wanted (x ∷ xs) h = go (eqb wanted x) refl (λ below. index-within wanted xs below)
    where
      go : (t : Bool) → eqb wanted x ≡ t → (index_of wanted xs < length xs → get_or xs (index_of wanted xs) 0 ≡ wanted)
          → get_or (x ∷ xs) (cond t 0 (suc (index_of wanted xs))) 0 ≡ wanted
      go true e later = sym (eqb-true wanted x e)
      go false e later = let below : suc (index_of wanted xs) < suc (length xs) = rw e at h in later (omega arith)

  index-none : (wanted : ℕ) (list : List ℕ) → length list ≤ index_of wanted list → (j : ℕ) → j < length list → get_or list j 0 ≡ wanted → ⊥
  unfolding index_of
  index-none wanted [] h j below e = omega arith
  index-none wanted (x ∷ xs) h zero below e =
      let here : eqb wanted x ≡ true = eq-eqb wanted x (sym e) in
      let z : suc (length xs) ≤ 0 = rw here at h in
      omega arith
  index-none wanted (x ∷ xs) h (suc j) below e = go (eqb wanted x) refl (λ late. index-none wanted xs late j (omega arith) e)
    where
      go : (t : Bool) → eqb wanted x ≡ t → (length xs ≤ index_of wanted xs → ⊥) → ⊥
      go true f later = let z : suc (length xs) ≤ 0 = rw f at h in omega arith
      go false f later = let z : suc (length xs) ≤ suc (index_of wanted xs) = rw f at h in later (omega arith)

  module _ (bytes : List ℕ) (accepted : IsFile rules bytes) (wanted : ℕ) where
    abbrev list : List ℕ
    list = identifiers_of rules (lines_of bytes)

    answered : satellite_answer rules bytes (file_of rules bytes) wanted ≡ satellite_in wanted list
    unfolding satellite_answer
    answered = rw (accepted.1, whole-taken rules bytes accepted.0 accepted.1)

    -- then the number of the satellite that has this identifier: what is answered with 0 is in the header and has it,
    pub satellite-found : (satellite_answer rules bytes (file_of rules bytes) wanted).refusal ≡ 0
        → ((satellite_answer rules bytes (file_of rules bytes) wanted).number < length list) × (identifier rules bytes (satellite_answer rules bytes (file_of rules bytes) wanted).number ≡ wanted)
    satellite-found zero-answer = rw answered (go (ltb (index_of wanted list) (length list)) refl (rw answered at zero-answer))
      where
        go : (t : Bool) → ltb (index_of wanted list) (length list) ≡ t
            → (cond t (record { refusal = 0; line = 0; column = 0; number = index_of wanted list }) (no_satellite 13 0 0)).refusal ≡ 0
            → ((satellite_in wanted list).number < length list) × (get_or list (satellite_in wanted list).number 0 ≡ wanted)
        go true e z = rw e (ltb-true (index_of wanted list) (length list) e, index-within wanted list (ltb-true (index_of wanted list) (length list) e))
        go false e z = absurd (omega arith)

    -- and 13 exactly where none has.
    pub satellite-thirteen : (satellite_answer rules bytes (file_of rules bytes) wanted ≡ no_satellite 13 0 0) ↔ ((j : ℕ) → j < length list → identifier rules bytes j ≡ wanted → ⊥)
    satellite-thirteen = rw answered (go (ltb (index_of wanted list) (length list)) refl)
      where
        go : (t : Bool) → ltb (index_of wanted list) (length list) ≡ t
            → (satellite_in wanted list ≡ no_satellite 13 0 0) ↔ ((j : ℕ) → j < length list → get_or list j 0 ≡ wanted → ⊥)
        go true e =
            let within = ltb-true (index_of wanted list) (length list) e in (
              (λ is. let z : ◌≡◌ {A = ℕ} 0 13 = ap (λ (a : SatelliteAnswer). a.refusal) (rw e at is) in absurd (omega arith)),
              (λ none. absurd (none (index_of wanted list) within (index-within wanted list within))),
            )
        go false e = (
          (λ is. index-none wanted list (ltb-false (index_of wanted list) (length list) e)),
          (λ none. rw e),
        )

  -- THE BEGINNING OF A WALK answers 12 exactly where an accepted file has more identifiers than there is room for.
  pub begin-twelve : (bytes : List ℕ) (old : List ℕ) → ((begun rules bytes (length old)).refusal ≡ 12) ↔ (IsFile rules bytes × (length old < (header rules bytes).satellites))
  begin-twelve bytes old = (there (file_of rules bytes) refl, λ b. ap (λ (a : Reading). a.refusal) (begin-short proper bytes b.0.0 b.0.1 old b.1).0)
    where
      there : (f : Front) → file_of rules bytes ≡ f → (begun rules bytes (length old)).refusal ≡ 12 → IsFile rules bytes × (length old < (header rules bytes).satellites)
      there (Ok t) e twelve = ((t, e), by (dec_le (header rules bytes).satellites (length old)))
        where
          by : Dec ((header rules bytes).satellites ≤ length old) → length old < (header rules bytes).satellites
          by (yes h) =
              let z : ◌≡◌ {A = ℕ} 12 0 = sym twelve ∙ ap (λ (a : Reading). a.refusal) (begin-accepts proper bytes t e old h) in
              absurd (omega arith)
          by (no h) = omega arith
      there (Err refusal) e twelve =
          let n : 12 ≡ refusal.number = sym twelve ∙ ap (λ (a : Reading). a.refusal) (begin-refused proper bytes refusal.number refusal.line refusal.column e old).0 in
          absurd (omega (arith, (found-numbers bytes refusal.number refusal.line refusal.column e).1))

-- what is answered under a test is not there exactly where the test fails
not_there : {A : Type 0} (t : Bool) (found none : A) → (found ≡ none → ⊥) → (cond t found none ≡ none) ↔ (t ≡ false)
not_there true found none apart = (λ e. absurd (apart e), λ e. absurd (false≢true (sym e)))
not_there false found none apart = (λ e. refl, λ e. refl)

-- A STORED ROW is 13 exactly where the lent numbers do not have it; an exponent or flag also where it is none of the four,
pub stored-thirteen : (rows : List ℤ) (k : ℕ)
    → ((place_in rows k ≡ place.NotThere) ↔ (is_there rows k ≡ false)) × ((clock_in rows k ≡ clock.NotThere) ↔ (is_there rows k ≡ false))
unfolding place_in clock_in
stored-thirteen rows k = (
  not_there (is_there rows k) _ place.NotThere (by_place (is_place_absent rows k) (number_at rows k 0) (number_at rows k 1) (number_at rows k 2)),
  not_there (is_there rows k) _ clock.NotThere (by-clock (clock_absent (is_negative (number_at rows k 3)) (nat_abs (number_at rows k 3))) (number_at rows k 3)),
)
  where
    by_place : (a : Bool) (x y z : ℤ) → cond a place.Absent (place.At x y z) ≡ place.NotThere → ⊥
    by_place true x y z e = let n : ◌≡◌ {A = ℕ} 0 1 = cc in omega arith
    by_place false x y z e = let n : ◌≡◌ {A = ℕ} 0 1 = cc in omega arith

    by-clock : (a : Bool) (v : ℤ) → cond a clock.Absent (clock.At v) ≡ clock.NotThere → ⊥
    by-clock true v e = let z : ◌≡◌ {A = ℕ} 0 1 = cc in omega arith
    by-clock false v e = let z : ◌≡◌ {A = ℕ} 0 1 = cc in omega arith

pub stored-parts-thirteen : (rows : List ℤ) (k which : ℕ)
    → ((exponent_read_in rows k which ≡ exponent_read.NotThere) ↔ ((is_there rows k && leb which 3) ≡ false))
    × ((flag_in rows k which ≡ flag.NotThere) ↔ ((is_there rows k && leb which 3) ≡ false))
unfolding exponent_read_in flag_in
stored-parts-thirteen rows k which =
    let n = nat_abs (number_at rows k (4 + which)) in (
      not_there (is_there rows k && leb which 3) _ exponent_read.NotThere (by-exponent (is_unknown n) (is_too_large (eqb which 3) n) n),
      not_there (is_there rows k && leb which 3) _ flag.NotThere (by_flag (eqb (nat_abs (number_at rows k (8 + which))) 0)),
    )
  where
    by-exponent : (a b : Bool) (n : ℕ) → cond a exponent_read.Unknown (cond b exponent_read.TooLarge (exponent_read.Value n)) ≡ exponent_read.NotThere → ⊥
    by-exponent true b n e = let z : ◌≡◌ {A = ℕ} 0 1 = cc in omega arith
    by-exponent false true n e = let z : ◌≡◌ {A = ℕ} 0 1 = cc in omega arith
    by-exponent false false n e = let z : ◌≡◌ {A = ℕ} 0 1 = cc in omega arith

    by_flag : (a : Bool) → cond a flag.NotSet flag.Set ≡ flag.NotThere → ⊥
    by_flag true e = let z : ◌≡◌ {A = ℕ} 0 1 = cc in omega arith
    by_flag false e = let z : ◌≡◌ {A = ℕ} 0 1 = cc in omega arith

-- a deviation of its note where it is none of the four, a correlation where it is none of the six.
pub notes-thirteen : (rows : List ℤ) (k which : ℕ)
    → ((note_in rows k ≡ note_mark.NotThere) ↔ (is_there rows k ≡ false))
    × ((note_deviation_in rows k which ≡ note_deviation.NotThere) ↔ ((is_there rows k && leb which 3) ≡ false))
    × ((note_correlation_in rows k which ≡ note_correlation.NotThere) ↔ ((is_there rows k && leb which 5) ≡ false))
unfolding note_in note_deviation_in note_correlation_in
notes-thirteen rows k which =
    let n = nat_abs (number_at rows k (13 + which)) in
    let v = number_at rows k (17 + which) in (
      not_there (is_there rows k) _ note_mark.NotThere (by-mark (has_note rows k)),
      not_there (is_there rows k && leb which 3) _ note_deviation.NotThere (by-deviation (has_note rows k) (eqb n unnoted) (eqb n (largest_deviation (eqb which 3))) n),
      not_there (is_there rows k && leb which 5) _ note_correlation.NotThere (by-correlation (has_note rows k) (eqb (nat_abs v) unnoted) v),
    )
  where
    by-mark : (t : Bool) → cond t note_mark.Stands note_mark.NoRecord ≡ note_mark.NotThere → ⊥
    by-mark true e = let z : ◌≡◌ {A = ℕ} 0 1 = cc in omega arith
    by-mark false e = let z : ◌≡◌ {A = ℕ} 0 1 = cc in omega arith

    by-deviation : (t a b : Bool) (n : ℕ)
        → cond t (cond a note_deviation.Unknown (cond b note_deviation.TooLarge (note_deviation.Value n))) note_deviation.NoRecord ≡ note_deviation.NotThere → ⊥
    by-deviation true true b n e = let z : ◌≡◌ {A = ℕ} 0 1 = cc in omega arith
    by-deviation true false true n e = let z : ◌≡◌ {A = ℕ} 0 1 = cc in omega arith
    by-deviation true false false n e = let z : ◌≡◌ {A = ℕ} 0 1 = cc in omega arith
    by-deviation false a b n e = let z : ◌≡◌ {A = ℕ} 0 1 = cc in omega arith

    by-correlation : (t a : Bool) (v : ℤ) → cond t (cond a note_correlation.Unknown (note_correlation.Value v)) note_correlation.NoRecord ≡ note_correlation.NotThere → ⊥
    by-correlation true true v e = let z : ◌≡◌ {A = ℕ} 0 1 = cc in omega arith
    by-correlation true false v e = let z : ◌≡◌ {A = ℕ} 0 1 = cc in omega arith
    by-correlation false a v e = let z : ◌≡◌ {A = ℕ} 0 1 = cc in omega arith
