-- What the answers of the questions mean for an accepted file.
-- Assumes nothing.
use mathlib.Core.Path.{◌≡◌, refl, sym, ap, ◌∙◌, subst}
use mathlib.Core.Bool.{true, false}
use mathlib.Core.List.{List, ◌∷◌, ◌++◌}
use Prim.Native.Nat.{ℕ, ◌+◌, ◌*◌, ◌<◌, ◌≤◌, min}
use native.Mathlib.Decide.{dec_le, dec_lt}
use native.Mathlib.Omega.{arith}
use borrow.Author.Tests.{lt-ltb, le-ltb}
use lib.ListN.{length, get_or, take, drop}
use lib.Seq.{take-append-le, drop-append-le, drop-drop}
use borrow.Fn.Kinds.{Out}
use Rattle.laws.specs.Places.{PartAt}
use Rattle.lines.specs.Lines.{lines_of, nth, begins_from}
use Rattle.header.specs.Versions.{rules_in}
use Rattle.record.specs.LineKinds.{comment_kind, position_kind}
use Rattle.file.specs.Kinds.{is_kind, of_kind}
use Rattle.file.specs.Plain.{is_row_line, Sound}
use Rattle.file.specs.Table.{count_of}
use Rattle.reader.specs.Reading.{file_of, identifiers_of}
use Rattle.questions.specs.Questions.{text_in, comment_line, comment_begins, comment_answer, comment_words, epochs_of, row_index, row_begins}
use Rattle.header.specs.declared.types.Rules.{Rules}
use Rattle.scan.specs.declared.Tally.{Tally}
use Rattle.std.specs.Prelude.{Ok, Err}
use Rattle.scan.specs.Front.{Front}
use Rattle.scan.specs.Front as front
use Rattle.laws.proofs.Lists.{rest-none}
use Rattle.layout.proofs.Lines.{trimmed-front, trimmed-shorter}
use Rattle.lines.proofs.Picking.{placed}
use Rattle.lines.proofs.Split.{first}
use Rattle.file.proofs.Finding.{line-at-place}
use Rattle.scan_laws.proofs.Files.{whole-taken, file-plain}
use Rattle.scan_laws.proofs.Which.{told-sound}
use Rattle.scan_laws.proofs.Used.{accepted-front}
use Rattle.scan_laws.proofs.Local.{whole-ends}
use Rattle.file_laws.proofs.Selected.{satellites}
use Rattle.file_laws.proofs.Counts.{count-is, identifiers-are}
use Rattle.file_laws.proofs.Rule.{EpochAt, the-rule, place_at}
use Rattle.questions.proofs.Asking.{epochs-are}
use Rattle.questions.proofs.comments.comment.Reads as comment
use Rattle.questions.proofs.comments.comment.Kinds as kinds

-- a text that begins at column 4 of a line, or at its end, is found there
text_in-line : (line rest : List ℕ) → take (length (text_in line)) (drop (min 3 (length line)) (line ++ rest)) ≡ text_in line
text_in-line line rest =
    let cut = drop (min 3 (length line)) line in
    let same : cut ≡ drop 3 line = go (dec_le 3 (length line)) in
    ap (take (length (text_in line))) (drop-append-le (min 3 (length line)) line rest (omega arith) ∙ ap (λ (s : List ℕ). s ++ rest) same)
    ∙ take-append-le (length (text_in line)) (drop 3 line) rest (trimmed-shorter (drop 3 line))
    ∙ trimmed-front (drop 3 line)
  where
    go : Dec (3 ≤ length line) → drop (min 3 (length line)) line ≡ drop 3 line
    go (yes h) = let three : min 3 (length line) ≡ 3 = omega arith in ap (λ (n : ℕ). drop n line) three
    go (no h) = rest-none line (min 3 (length line)) (omega arith) ∙ sym (rest-none line 3 (omega arith))

module _ {rules : Rules} (sound : Sound rules) where
  -- an accepted file: its lines are those of its bytes
  module _ (bytes : List ℕ) (t : Tally) (e : file_of rules bytes ≡ front.File t) where
    all-bytes : take t.end bytes ≡ bytes
    all-bytes = whole-taken rules bytes t e

    -- THE STRETCH: a comment's text is the bytes from the place that is told on, as many as are told.
    module _ (k : ℕ) (h : k < t.comments) where
      stretch : take (length (text_in (comment_line rules (lines_of bytes) k))) (drop (comment_begins rules (lines_of bytes) k + min 3 (length (comment_line rules (lines_of bytes) k))) bytes)
          ≡ text_in (comment_line rules (lines_of bytes) k)
      stretch =
          let place = comment_begins rules (lines_of bytes) k in
          let line = comment_line rules (lines_of bytes) k in
          let many = subst (λ (b : List ℕ). t.comments ≡ length (of_kind rules comment_kind (lines_of b))) all-bytes (accepted-front rules bytes t (whole-ends rules bytes t e).0).comments in
          let p = placed (is_kind rules comment_kind) k bytes (omega arith) in
          let f = first (drop place bytes) line p.more p.there in
          ap (take (length (text_in line))) (sym (drop-drop (min 3 (length line)) place bytes) ∙ ap (drop (min 3 (length line))) f.bytes-are)
          ∙ text_in-line line (10 ∷ f.rest)

      pub comment-stretch : take (comment_answer rules bytes (file_of rules bytes) k).length (drop (comment_answer rules bytes (file_of rules bytes) k).at bytes)
          ≡ comment_words rules bytes (file_of rules bytes) k
      unfolding comment_answer comment_words
      comment-stretch = rw (e, lt-ltb k t.comments h, all-bytes) stretch

    -- THE ROW: at the place that is told begins the P line numbered epoch * n + satellite. It stands among the lines of that epoch and names
    -- that satellite of the header.
    module _ (epoch satellite : ℕ) (some : epoch < epochs_of rules (lines_of bytes)) (one : satellite < count_of rules (lines_of bytes)) where
      abbrev pub told : ℕ
      told = (row_begins rules bytes (file_of rules bytes) epoch satellite).at

      place-told : told ≡ begins_from (is_kind rules position_kind) (row_index rules (lines_of bytes) epoch satellite) 0 (lines_of bytes)
      unfolding row_begins
      place-told =
          ap (λ (f : Front). (row_begins rules bytes f epoch satellite).at) e
          ∙ rw (all-bytes, lt-ltb epoch (epochs_of rules (lines_of bytes)) some, lt-ltb satellite (count_of rules (lines_of bytes)) one)

      pub row-not-refused : (row_begins rules bytes (file_of rules bytes) epoch satellite).refusal ≡ 0
      unfolding row_begins
      row-not-refused = rw (e, all-bytes, lt-ltb epoch (epochs_of rules (lines_of bytes)) some, lt-ltb satellite (count_of rules (lines_of bytes)) one)

      pub row-numbered : nth 0 (lines_of (drop told bytes)) ≡ nth (epoch * count_of rules (lines_of bytes) + satellite) (of_kind rules position_kind (lines_of bytes))
      row-numbered =
          ap (λ (n : ℕ). nth 0 (lines_of (drop n bytes))) place-told
          ∙ line-at-place (is_kind rules position_kind) (row_index rules (lines_of bytes) epoch satellite) bytes

      pub record RowThere : Type 0 where
        pub numbered : nth 0 (lines_of (drop told bytes)) ≡ nth (epoch * count_of rules (lines_of bytes) + satellite) (of_kind rules position_kind (lines_of bytes))
        pub named : is_row_line rules false (get_or (identifiers_of rules (lines_of bytes)) satellite 0) (nth 0 (lines_of (drop told bytes))) ≡ true
        pub at-epoch : EpochAt (file-plain rules sound bytes (t, e)) epoch
        pub among : nth 0 (lines_of (drop told bytes)) ≡ nth satellite (of_kind rules position_kind (at-epoch.epoch ∷ at-epoch.rows))

      pub row-there : RowThere
      row-there =
          let p = file-plain rules sound bytes (t, e) in
          let count : count_of rules (lines_of bytes) ≡ satellites p = count-is p in
          let in-time = subst (λ (n : ℕ). epoch < n) (epochs-are p) some in
          let in-header = subst (λ (n : ℕ). satellite < n) count one in
          let by-header : nth 0 (lines_of (drop told bytes)) ≡ nth (epoch * satellites p + satellite) (of_kind rules position_kind (lines_of bytes)) =
          row-numbered ∙ ap (λ (n : ℕ). nth (epoch * n + satellite) (of_kind rules position_kind (lines_of bytes))) count in
          record {
            numbered = row-numbered;
            named = rw (identifiers-are p, by-header) (place_at p epoch satellite in-time in-header);
            at-epoch = the-rule p epoch in-time;
            among = by-header ∙ (the-rule p epoch in-time).places.numbered satellite in-header;
          }

  -- so it is whatever was found
  handed : (bytes : List ℕ) (k : ℕ) (f : Front) → file_of rules bytes ≡ f
      → take (comment_answer rules bytes (file_of rules bytes) k).length (drop (comment_answer rules bytes (file_of rules bytes) k).at bytes) ≡ comment_words rules bytes (file_of rules bytes) k
  unfolding comment_answer comment_words
  handed bytes k (Ok t) e = go (dec_lt k t.comments)
    where
      go : Dec (k < t.comments) → take (comment_answer rules bytes (file_of rules bytes) k).length (drop (comment_answer rules bytes (file_of rules bytes) k).at bytes) ≡ comment_words rules bytes (file_of rules bytes) k
      go (yes h) = comment-stretch bytes t e k h
      go (no h) = rw (e, le-ltb k t.comments (omega arith))
  handed bytes k (Err refusal) e = rw e

-- what the contract of `comment` promises of a result r
abbrev pub CommentPost : Out 1 kinds.ps kinds.r
CommentPost = comment.Post

-- THE TEXT HANDED BACK is the part of the lent file that `comment_answer` names, for every file and every number.
pub comment-part : (κs : _) (a : _) (r : _) (s : _) → CommentPost κs a r s
    → PartAt a.0 (comment_answer (rules_in a.0.now) a.0.now (file_of (rules_in a.0.now) a.0.now) a.1.0).at (comment_answer (rules_in a.0.now) a.0.now (file_of (rules_in a.0.now) a.0.now) a.1.0).length r
comment-part κs a r s p = (p.0 ∙ sym (handed (told-sound a.0.now) a.0.now a.1.0 (file_of (rules_in a.0.now) a.0.now) refl), p.1)
