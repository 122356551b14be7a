-- What the program lays into its output: the answer of reading and writing with its room, in the paper's words. With that room a reading is short of
-- comments alone (`RewriteRoom`), and what was read is a valid table, so 13 is no answer of it.
-- Assumes nothing.
use mathlib.Core.Path.{◌≡◌, refl, ap, ◌∙◌}
use mathlib.Core.Bool.{Bool, true, false, cond, ◌&&◌}
use mathlib.Core.List.{List, [], ◌∷◌, ◌++◌}
use mathlib.Core.Logic.{◌⊎◌, inl, inr}
use Prim.Native.Nat.{ℕ, ◌≤◌, ◌<◌, ◌*◌}
use native.Mathlib.Omega.{arith}
use borrow.Author.Tests.{leb-true, leb-false, le-leb, lt-leb, eq-eqb, ne_eqb}
use lib.Dec.{eqb, leb}
use lib.IntN.{ℤ}
use lib.ListN.{length, length-append}
use Rattle.header.specs.Rules.{max_satellites}
use Rattle.header.specs.Versions.{version_by, rules_of, rules_in}
use Rattle.layout.specs.Line.{Lays}
use Rattle.record.specs.Plain.{comment_width}
use Rattle.record.specs.Rows.{row_width}
use Rattle.reader.specs.Reading.{refused_with, accepted_as, file_of, delivered}
use Rattle.canon.specs.Table.{Table}
use Rattle.canon.specs.Canonical.{canonical}
use Rattle.canon.specs.Measured.{measured_in, refused_as}
use Rattle.writer.specs.Writing.{out_after}
use Rattle.theorems.specs.Files.{header}
use Rattle.theorems.specs.Room.{most_rows}
use Rattle.theorems.proofs.Room.{found-numbered}
use Rattle.theorems.proofs.RewriteRoom.{rewrite_reading, few-comments, many-comments}
use Rattle.theorems.proofs.Rewritten.{lent-valid, lent-form, lent-answer, lent_written}
use Rattle.theorems.proofs.Writing.{too-small-12, refusal-keeps-out}
use Rattle.reader.specs.declared.types.Reading.{Reading}
use Rattle.canon.specs.declared.types.Measured.{Measured}
use Rattle.scan.specs.declared.Tally.{Tally}
use Rattle.std.specs.Prelude.{Ok, Err}
use Rattle.scan.specs.Front.{Front}
use Rattle.scan.specs.Front as front
use Rattle.rewrite.specs.Printed.{most_bytes, most_comments, too_long, refused_word, line_word, column_word, number_text, said, refused_text, answered, printed}
use Rattle.rewrite.specs.Rewriting.{as_written, reading, table_read, rewrite_answer, out_rewritten}
use Rattle.rewrite.specs.declared.types.Rewritten.{Rewritten}
use Rattle.rewrite.proofs.Digits.{digits-few}
use Rattle.canon_laws.specs.Held.{Proper, rewritten}
use Rattle.canon_laws.proofs.Versions.{told-proper}
use Rattle.scan_laws.proofs.Which.{told_back}
use Rattle.header.specs.declared.types.Rules.{Rules}

-- a refusal in words has 83 bytes at most
pub few_words : (number line column : ℕ) → length (refused_text number line column) ≤ 83
unfolding refused_text
few_words number line column =
    omega (
      arith,
      length-append ((said refused_word number ++ said line_word line) ++ said column_word column) (10 ∷ []),
      length-append (said refused_word number ++ said line_word line) (said column_word column),
      length-append (said refused_word number) (said line_word line),
      length-append refused_word (number_text number),
      length-append line_word (number_text line),
      length-append column_word (number_text column),
      digits-few 20 number,
      digits-few 20 line,
      digits-few 20 column,
    )

-- a text that is laid, or a refusal whose text is still to be laid
abbrev pub Outcome : List ℕ → List ℕ → Rewritten → List ℕ → Type 0
Outcome text out done now =
    ((done.refusal ≡ 0) × Lays text out done.length now)
    ⊎ ((done.refusal ≡ 0 → ⊥) × (text ≡ refused_text done.refusal done.line done.column) × (now ≡ out))

-- Of a file of at most 65,536 bytes, with the lists and the output of the program.
module _ (bytes identifiers exponents comments : List ℕ) (rows : List ℤ) (out : List ℕ) (short : length bytes ≤ most_bytes) (room : length out ≡ most_bytes)
    (named : length identifiers ≡ max_satellites) (weighed : length exponents ≡ max_satellites) (noted : length comments ≡ most_comments * comment_width) (placed : length rows ≡ most_rows * row_width) where
  -- the rules that the bytes tell
  abbrev rules : Rules
  rules = rules_in bytes

  proper : Proper rules
  proper = told-proper bytes

  abbrev read : Reading
  read = reading bytes identifiers exponents comments rows

  abbrev table : Table
  table = table_read bytes identifiers exponents comments rows

  abbrev answer : Rewritten
  answer = rewrite_answer bytes identifiers exponents comments rows (length out)

  abbrev left : List ℕ
  left = out_rewritten bytes identifiers exponents comments rows out

  abbrev form : List ℕ
  form = rewritten rules bytes

  -- the lists are the program's room
  read_is : read ≡ rewrite_reading rules bytes
  read_is = rw (named, weighed, noted, placed)

  -- a reading that is refused
  refused : (number line column : ℕ) → 1 ≤ number → read ≡ refused_with number line column → Outcome (refused_text number line column) out answer left
  unfolding rewrite_answer out_rewritten
  refused number line column some e =
      let apart : eqb number 0 ≡ false = ne_eqb number 0 (omega arith) in
      rw (e, apart) (inr (λ zero. omega arith, refl, refl))

  -- a reading that is accepted leaves the answer to the writing
  module _ (t : Tally) (zero : read ≡ accepted_as rules bytes t) where
    version-is : rules_of (version_by read.version) ≡ rules
    version-is = ap (λ (r : Reading). rules_of (version_by r.version)) zero ∙ told_back bytes

    accepted : (m : Measured) → measured_in rules table (length out) ≡ m → (answer ≡ as_written m) × (left ≡ out_after rules table out)
    unfolding rewrite_answer out_rewritten
    accepted m is =
        let test = eq-eqb read.refusal 0 (ap (λ (r : Reading). r.refusal) zero) in (
          rw test (ap as_written (ap (λ (k : Rules). measured_in k table (length out)) version-is ∙ is)),
          rw test (ap (λ (k : Rules). out_after k table out) version-is),
        )

  -- a form that fits is laid; for one that does not the output stays as it was
  module _ (t : Tally) (file : file_of rules bytes ≡ front.File t) (whole : read ≡ accepted_as rules bytes t) where
    zero : read.refusal ≡ 0
    zero = ap (λ (r : Reading). r.refusal) whole

    fitting : length form ≤ most_bytes → Outcome form out answer left
    fitting fits =
        let enough : length form ≤ length out = omega arith in
        let told = lent-answer proper bytes (t, file) identifiers exponents comments rows zero out enough in
        let laid = lent_written proper bytes (t, file) identifiers exponents comments rows zero out enough in
        let done = accepted t whole (record { refusal = 0; length = length form }) told in
        inl (
          ap (λ (r : Rewritten). r.refusal) done.0,
          record {
            length-told = ap (λ (r : Rewritten). r.length) done.0;
            laid = done.1 ∙ laid ∙ rw (le-leb (length form) (length out) enough);
          },
        )

    too_large : most_bytes < length form → Outcome (refused_text 12 0 0) out answer left
    too_large over =
        let less : length out < length (canonical rules table) = rw (lent-form proper bytes (t, file) identifiers exponents comments rows zero) (omega arith) in
        let twelve = too-small-12 proper table out (lent-valid proper bytes (t, file) identifiers exponents comments rows zero) less in
        let kept = refusal-keeps-out proper table out (λ none. omega (arith, ap (λ (m : Measured). m.refusal) twelve)) in
        let done = accepted t whole (refused_as 12) twelve in
        rw done.0 (inr (λ none. omega arith, refl, done.1 ∙ kept))

  -- a file that is accepted
  filed : (t : Tally) → file_of rules bytes ≡ front.File t → Outcome (answered bytes (front.File t)) out answer left
  unfolding answered
  filed t file = by (leb (header rules bytes).comments most_comments) (leb (length form) most_bytes) refl refl
    where
      all_read : leb (header rules bytes).comments most_comments ≡ true → read ≡ accepted_as rules bytes t
      all_read few =
          let answers = few-comments proper bytes (t, file) short (leb-true (header rules bytes).comments most_comments few) in
          read_is ∙ answers

      by : (few fits : Bool) → leb (header rules bytes).comments most_comments ≡ few → leb (length form) most_bytes ≡ fits
          → Outcome (cond (few && fits) form (refused_text 12 0 0)) out answer left
      by true true p q = fitting t file (all_read p) (leb-true (length form) most_bytes q)
      by true false p q = too_large t file (all_read p) (leb-false (length form) most_bytes q)
      by false fits p q =
          let answers = many-comments proper bytes (t, file) short (leb-false (header rules bytes).comments most_comments p) in
          refused 12 0 0 (omega arith) (read_is ∙ answers)

  -- THE OUTCOME: what the paper says is laid, or is a refusal that is still to be said.
  outcome : Outcome (answered bytes (file_of rules bytes)) out answer left
  unfolding answered delivered
  outcome = go (file_of rules bytes) refl
    where
      go : (f : Front) → file_of rules bytes ≡ f → Outcome (answered bytes f) out answer left
      go (Ok t) e = filed t e
      go (Err refusal) e = refused refusal.number refusal.line refusal.column (found-numbered proper true bytes refusal.number refusal.line refusal.column e) (rw e)

  -- so it is of what the function answers and leaves
  pub outcome-of : {done : Rewritten} {now : List ℕ} → done ≡ answer → now ≡ left → Outcome (answered bytes (file_of rules bytes)) out done now
  outcome-of e f = rw (e, f) outcome

-- a refusal that is said is laid
pub outcome-said : (done : Rewritten) {text out now after : List ℕ} {r : ℕ} → Outcome text out done now → (done.refusal ≡ 0 → ⊥)
    → Lays (refused_text done.refusal done.line done.column) now r after → Lays text out r after
outcome-said done (inl (zero, laid)) some s = absurd (some zero)
outcome-said done (inr (apart, words, same)) some s = rw (words, ← same) s

pub outcome-laid : (done : Rewritten) {text out now : List ℕ} → Outcome text out done now → done.refusal ≡ 0 → Lays text out done.length now
outcome-laid done (inl (zero, laid)) none = laid
outcome-laid done (inr (apart, words, same)) none = absurd (apart none)

-- the answer has room
pub answer-fits : (bytes : List ℕ) (f : Front) → length (answered bytes f) ≤ most_bytes
unfolding answered
answer-fits bytes (Err refusal) = omega (arith, few_words refusal.number refusal.line refusal.column)
answer-fits bytes (Ok t) = go (leb (header (rules_in bytes) bytes).comments most_comments) (leb (length (rewritten (rules_in bytes) bytes)) most_bytes) refl
  where
    go : (few fits : Bool) → leb (length (rewritten (rules_in bytes) bytes)) most_bytes ≡ fits
        → length (cond (few && fits) (rewritten (rules_in bytes) bytes) (refused_text 12 0 0)) ≤ most_bytes
    go true true q = leb-true (length (rewritten (rules_in bytes) bytes)) most_bytes q
    go true false q = omega (arith, few_words 12 0 0)
    go false fits q = omega (arith, few_words 12 0 0)

-- PRINTED: what is laid is what the paper says, too long or not
pub printed-long : (bytes : List ℕ) → most_bytes < length bytes → too_long ≡ printed bytes
unfolding printed
printed-long bytes long = rw (lt-leb (length bytes) most_bytes long)

pub printed-short : (bytes : List ℕ) → length bytes ≤ most_bytes → answered bytes (file_of (rules_in bytes) bytes) ≡ printed bytes
unfolding printed
printed-short bytes short = rw (le-leb (length bytes) most_bytes short)
