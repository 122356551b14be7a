-- Laws of the questions, on plain values: a text without its trailing blanks, an identifier's number, where a line lies, and what bounds the lines
-- of an accepted file. Assumes nothing.
use mathlib.Core.Path.{◌≡◌, refl, sym, ap, ap₂, ◌∙◌}
use mathlib.Core.Bool.{Bool, true, false, ◌&&◌}
use mathlib.Core.List.{List, [], ◌∷◌, ◌++◌}
use Prim.Native.Nat.{ℕ, ◌+◌, ◌*◌, ◌-◌, ◌<◌, ◌≤◌, min}
use native.Mathlib.Nat.{sub-zero, mul-le-mul}
use native.Mathlib.Omega.{arith}
use borrow.Author.Tests.{lt-ltb, le-ltb, ltb-true}
use lib.Dec.{eqb, ltb}
use lib.ListN.{length, take, drop}
use lib.Seq.{take-append_seam}
use denote.Ref.{Bor}
use Rattle.std.specs.List.{position_or_len}
use Rattle.laws.specs.Places.{byte_of}
use Rattle.laws.proofs.Places.{in-front, in-part}
use Rattle.layout.specs.Line.{trimmed}
use Rattle.lines.specs.Lent.{laid}
use Rattle.lines.proofs.Laying.{laid-fits}
use Rattle.lines.specs.Lines.{lines_of, nth, begins_from}
use Rattle.header.specs.Rules.{max_satellites, max_epochs}
use Rattle.record.specs.LineKinds.{comment_kind, position_kind}
use Rattle.file.specs.Kinds.{is_kind, of_kind}
use Rattle.file.specs.Plain.{Plain, Sound}
use Rattle.file.specs.Table.{first_in, count_of, slots_in}
use Rattle.file.proofs.Finding.{line-within}
use Rattle.scan.specs.Run.{scan_of, whole_front}
use Rattle.reader.specs.Reading.{lines_to, file_of, identifiers_of}
use Rattle.questions.specs.Questions.{text_in, no_comment, comment_line, comment_begins, comment_at, comment_answer, comment_words, index_of, satellite_in, satellite_answer, epochs_of, no_row, row_at, row_begins}
use Rattle.header.specs.declared.types.Rules.{Rules}
use Rattle.record.specs.declared.types.First.{First}
use Rattle.scan.specs.declared.Tally.{Tally}
use Rattle.scan.specs.Front.{Front}
use Rattle.scan.specs.Front as front
use Rattle.questions.specs.declared.types.CommentAnswer.{CommentAnswer}
use Rattle.questions.specs.declared.types.RowBegins.{RowBegins}
use Rattle.questions.specs.declared.types.SatelliteAnswer.{SatelliteAnswer}
use Rattle.laws.proofs.Bools.{both_true}
use Rattle.laws.proofs.Lists.{rest_part}
use Rattle.layout.proofs.Lines.{trimmed-front, trimmed-shorter}
use Rattle.scan_laws.proofs.Files.{plain-front}
use Rattle.scan_laws.proofs.Local.{whole-ends}
use Rattle.file_laws.proofs.Selected.{satellites, epochs, kind-first}
use Rattle.file_laws.proofs.Counts.{count-is, satellites-bounds, epochs-bounds, identifiers-room}

-- a comment's text by the length that is told of what stands from column 4 on
abbrev words_of : List ℕ → List ℕ
words_of line = take (length line - 3) (drop 3 line)

module _ (line : List ℕ) (n : ℕ) (told : n ≡ length (trimmed (words_of line))) where
  pub text-fits : n ≤ length (words_of line)
  text-fits = omega (arith, trimmed-shorter (words_of line))

  pub text-told : take (n - 0) (words_of line) ≡ text_in line
  text-told = ap (λ (k : ℕ). take k (words_of line)) (sub-zero n ∙ told) ∙ trimmed-front (words_of line) ∙ ap trimmed (rest_part line 3)

-- an identifier's number, by the library's search
pub index_of_place : (identifier : ℕ) (identifiers : List ℕ) → index_of identifier identifiers ≡ position_or_len (λ other. eqb identifier other) identifiers
unfolding index_of
index_of_place identifier [] = refl
index_of_place identifier (x ∷ xs) = grind (arith, index_of_place identifier xs)

-- where a comment's text lies, by its line's place, its line and the text
pub comment-told : (rules : Rules) (lines : List (List ℕ)) (k place indent : ℕ) (line text : List ℕ)
    → place ≡ comment_begins rules lines k → line ≡ comment_line rules lines k → indent ≡ min 3 (length line) → text ≡ text_in line
    → ◌≡◌ {A = CommentAnswer} (record { refusal = 0; line = 0; column = 0; at = place + indent; length = length text }) (comment_at rules lines k)
comment-told rules lines k place indent line text p l i t = rw (p, i, t, l)

-- and it begins within the bytes
pub text-within : (rules : Rules) (bytes : List ℕ) (k place indent : ℕ) (line : List ℕ)
    → place ≡ comment_begins rules (lines_of bytes) k → line ≡ comment_line rules (lines_of bytes) k → indent ≡ min 3 (length line) → place + indent ≤ length bytes
text-within rules bytes k place indent line p l i = omega (arith, ap length l, line-within (is_kind rules comment_kind) k bytes)

pub epochs-are : {rules : Rules} {lines : List (List ℕ)} (p : Plain rules lines) → epochs_of rules lines ≡ epochs p
unfolding nth
epochs-are p = rw (kind-first p)

-- an accepted file has at most so many epochs and satellites as the bounds say
module _ {rules : Rules} (sound : Sound rules) (bytes : List ℕ) (t : Tally) (e : whole_front (length bytes) (scan_of rules bytes) ≡ front.File t) where
  pub whole_plain : Plain rules (lines_to t.end bytes)
  whole_plain = plain-front rules sound bytes t (whole-ends rules bytes t e).0

  pub bounded : (epochs_of rules (lines_to t.end bytes) ≤ max_epochs) × (count_of rules (lines_to t.end bytes) ≤ max_satellites)
  bounded =
      let p = whole_plain in
      (omega (arith, epochs-are p, (epochs-bounds p).1), omega (arith, count-is p, (satellites-bounds p).1))

  -- as many identifiers as the file says
  pub identifiers-counted : length (identifiers_of rules (lines_to t.end bytes)) ≡ count_of rules (lines_to t.end bytes)
  identifiers-counted =
      let p = whole_plain in
      ap (λ (n : ℕ). length (slots_in rules false n (lines_to t.end bytes))) (count-is p) ∙ identifiers-room p ∙ sym (count-is p)

  pub identifiers-bounded : length (identifiers_of rules (lines_to t.end bytes)) ≤ max_satellites
  identifiers-bounded =
      let p = whole_plain in
      let many : length (identifiers_of rules (lines_to t.end bytes)) ≡ satellites p =
      ap (λ (n : ℕ). length (slots_in rules false n (lines_to t.end bytes))) (count-is p) ∙ identifiers-room p in
      omega (arith, many, (satellites-bounds p).1)

-- a number of a P line that is far from overflowing
module _ (f : First) (epoch satellite n : ℕ) (has : (ltb epoch f.epochs && ltb satellite n) ≡ true) (few : f.epochs ≤ max_epochs) (fewer : n ≤ max_satellites) where
  pub row-bounds : (epoch * n ≤ max_epochs * max_satellites) × (satellite < max_satellites)
  row-bounds =
      let tests = both_true (ltb epoch f.epochs) (ltb satellite n) has in
      let before : epoch ≤ max_epochs = omega (arith, ltb-true epoch f.epochs tests.0) in
      (omega (arith, mul-le-mul before fewer), omega (arith, ltb-true satellite n tests.1))

-- where a row lies, by what line 1 and the first `+ ` line say
module _ (rules : Rules) (lines : List (List ℕ)) (epoch satellite : ℕ) (f : First) (n : ℕ) (is-first : f ≡ first_in rules lines) (is-count : n ≡ count_of rules lines) where
  has-row : (b : Bool) → (ltb epoch f.epochs && ltb satellite n) ≡ b → (ltb epoch (epochs_of rules lines) && ltb satellite (count_of rules lines)) ≡ b
  has-row b e = sym (ap (λ (x : First). ltb epoch x.epochs && ltb satellite (count_of rules lines)) is-first) ∙ sym (ap (λ (m : ℕ). ltb epoch f.epochs && ltb satellite m) is-count) ∙ e

  pub row_told : (place : ℕ) → (ltb epoch f.epochs && ltb satellite n) ≡ true → place ≡ begins_from (is_kind rules position_kind) (epoch * n + satellite) 0 lines
      → ◌≡◌ {A = RowBegins} (record { refusal = 0; line = 0; column = 0; at = place }) (row_at rules lines epoch satellite)
  row_told place has e =
      ap (λ (a : ℕ). record { refusal = 0; line = 0; column = 0; at = a }) (e ∙ ap (λ (m : ℕ). begins_from (is_kind rules position_kind) (epoch * m + satellite) 0 lines) is-count)
      ∙ rw (has-row true has)

  pub row-missing : (ltb epoch f.epochs && ltb satellite n) ≡ false → no_row 13 0 0 ≡ row_at rules lines epoch satellite
  row-missing has = rw (has-row false has)

-- what was found, under the rules that were asked for
pub found_as : (given : Rules) {rules : Rules} (bytes : List ℕ) (f g : Front) → given ≡ rules → f ≡ whole_front (length bytes) (scan_of given bytes) → f ≡ g → file_of rules bytes ≡ g
found_as given bytes f g r e is = ap (λ (x : Rules). whole_front (length bytes) (scan_of x bytes)) (sym r) ∙ sym e ∙ is

-- the answers about what was found
module _ (rules : Rules) (bytes : List ℕ) (f : Front) (e : file_of rules bytes ≡ f) where
  pub comment-as : (k : ℕ) (a : CommentAnswer) → a ≡ comment_answer rules bytes f k → a ≡ comment_answer rules bytes (file_of rules bytes) k
  comment-as k a is = is ∙ ap (λ (x : Front). comment_answer rules bytes x k) (sym e)

  pub words-as : (k : ℕ) (s : List ℕ) → s ≡ comment_words rules bytes f k → s ≡ comment_words rules bytes (file_of rules bytes) k
  words-as k s is = is ∙ ap (λ (x : Front). comment_words rules bytes x k) (sym e)

  pub satellite-as : (identifier : ℕ) (a : SatelliteAnswer) → a ≡ satellite_answer rules bytes f identifier → a ≡ satellite_answer rules bytes (file_of rules bytes) identifier
  satellite-as identifier a is = is ∙ ap (λ (x : Front). satellite_answer rules bytes x identifier) (sym e)

  pub row_as : (epoch satellite : ℕ) (a : RowBegins) → a ≡ row_begins rules bytes f epoch satellite → a ≡ row_begins rules bytes (file_of rules bytes) epoch satellite
  row_as epoch satellite a is = is ∙ ap (λ (x : Front). row_begins rules bytes x epoch satellite) (sym e)

-- the answers where a file was found, of its lines
module _ (given : Rules) {rules : Rules} (r : given ≡ rules) (bytes : List ℕ) (t : Tally) where
  lines-as : lines_to (t.end - 0) bytes ≡ lines_to t.end bytes
  lines-as = ap (λ (n : ℕ). lines_to n bytes) (sub-zero t.end)

  pub comment-there : (k : ℕ) (a : CommentAnswer) → k < t.comments → a ≡ comment_at given (lines_to (t.end - 0) bytes) k → a ≡ comment_answer rules bytes (front.File t) k
  unfolding comment_answer
  comment-there k a h is = is ∙ rw (r, lines-as, lt-ltb k t.comments h)

  pub words-there : (k : ℕ) (s l : List ℕ) → k < t.comments → s ≡ text_in l → l ≡ nth k (of_kind given comment_kind (lines_to (t.end - 0) bytes)) → s ≡ comment_words rules bytes (front.File t) k
  unfolding comment_words
  words-there k s l h is line = is ∙ rw (line, r, lines-as, lt-ltb k t.comments h)

  pub row-found : (epoch satellite : ℕ) (a : RowBegins) → a ≡ row_at given (lines_to (t.end - 0) bytes) epoch satellite → a ≡ row_begins rules bytes (front.File t) epoch satellite
  unfolding row_begins
  row-found epoch satellite a is = is ∙ rw (r, lines-as)

  pub satellite-found : (identifier : ℕ) (a : SatelliteAnswer) → a ≡ satellite_in identifier (identifiers_of given (lines_to (t.end - 0) bytes)) → a ≡ satellite_answer rules bytes (front.File t) identifier
  unfolding satellite_answer
  satellite-found identifier a is = is ∙ rw (r, lines-as)

  pub counted-as : Sound rules → file_of rules bytes ≡ front.File t
      → (length (identifiers_of given (lines_to (t.end - 0) bytes)) ≡ count_of given (lines_to (t.end - 0) bytes)) × (count_of given (lines_to (t.end - 0) bytes) ≤ max_satellites)
  counted-as sound e = rw (r, lines-as) (identifiers-counted sound bytes t e, (bounded sound bytes t e).1)

  pub bounded-as : Sound rules → file_of rules bytes ≡ front.File t → (epochs_of given (lines_to (t.end - 0) bytes) ≤ max_epochs) × (count_of given (lines_to (t.end - 0) bytes) ≤ max_satellites)
  bounded-as sound e = rw (r, lines-as) (bounded sound bytes t e)

pub no-comment-there : (rules : Rules) (bytes : List ℕ) (t : Tally) (k : ℕ) (a : CommentAnswer) → t.comments ≤ k → a ≡ no_comment 13 0 0 → a ≡ comment_answer rules bytes (front.File t) k
unfolding comment_answer
no-comment-there rules bytes t k a h is = is ∙ rw (le-ltb k t.comments h)

pub no-words-there : (rules : Rules) (bytes : List ℕ) (t : Tally) (k : ℕ) → t.comments ≤ k → [] ≡ comment_words rules bytes (front.File t) k
unfolding comment_words
no-words-there rules bytes t k h = rw (le-ltb k t.comments h)

-- the text of a comment lies where the answer says
pub at-comment : (given : Rules) {rules : Rules} → given ≡ rules → (file : Bor (List ℕ)) (t : Tally) → file_of rules file.now ≡ front.File t → (k : ℕ) (line text : Bor (List ℕ)) → k < t.comments
    → line.now ≡ comment_line given (lines_to (t.end - 0) file.now) k
    → line.ref_ptr ≡ (file.ref_ptr.0, comment_begins given (lines_to (t.end - 0) file.now) k + (0 + file.ref_ptr.1))
    → text.now ≡ text_in line.now → text.ref_ptr ≡ byte_of line (min 3 (length line.now))
    → text.ref_ptr ≡ byte_of file (comment_answer rules file.now (file_of rules file.now) k).at
at-comment given {rules} r file t e k line text h is-line at-line is-text at-text =
    let lines = lines_to (t.end - 0) file.now in
    let place = comment_begins given lines k in
    let told = comment-told given lines k place (min 3 (length line.now)) line.now text.now refl is-line refl is-text in
    in-part file line text place (min 3 (length line.now)) (at-line ∙ in-front file place) at-text
    ∙ ap (λ (a : CommentAnswer). byte_of file a.at) (comment-as rules file.now (front.File t) e k _ (comment-there given r file.now t k _ h told))

-- an accepted file ends within its bytes
pub file-within : (rules : Rules) (bytes : List ℕ) (t : Tally) → file_of rules bytes ≡ front.File t → t.end ≤ length bytes
file-within rules bytes t e = omega (arith, (whole-ends rules bytes t e).1)

-- identifiers laid over the front of others, as many as there are or fewer
module _ (identifiers old now : List ℕ) (is : now ≡ laid identifiers old) (fits : length identifiers ≤ length old) where
  named : now ≡ identifiers ++ drop (length identifiers) old
  named = is ∙ laid-fits identifiers old fits

  pub first-identifiers : (n : ℕ) → n ≡ length identifiers → take n now ≡ identifiers
  first-identifiers n e = ap₂ (λ (k : ℕ) (l : List ℕ). take k l) e named ∙ take-append_seam identifiers (drop (length identifiers) old)
