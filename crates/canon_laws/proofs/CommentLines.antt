-- The comments of the canonical form are such lines, and hold the bytes that they show.
-- Assumes nothing.
use mathlib.Core.Path.{◌≡◌, refl, ap, ap₂, ◌∙◌}
use mathlib.Core.Bool.{true}
use mathlib.Core.List.{List, [], ◌∷◌, ◌++◌, map, append-nil}
use Prim.Native.Nat.{ℕ, zero, suc, ◌+◌, ◌-◌, ◌*◌, ◌≤◌}
use native.Mathlib.Omega.{arith}
use borrow.Author.Tests.{le-leb, leb-true, eq-eqb}
use lib.Dec.{leb, eqb}
use lib.ListN.{length, take, drop, length-drop, take-append-drop}
use lib.Seq.{length-take-le, take_at}
use Rattle.laws.specs.Texts.{every, is_printable, blanks}
use Rattle.laws.proofs.Bools.{and_left, and_right, and_both}
use Rattle.lines.specs.Lent.{flat}
use Rattle.lines.proofs.Each.{Each}
use Rattle.layout.specs.Kind.{printable, shown_text}
use Rattle.layout.specs.Kind.Held.{words}
use Rattle.layout.specs.Layout.{can_show, fault_of, words_at}
use Rattle.layout.specs.Line.{padded, line_of, cons_trimmed, trimmed}
use Rattle.header.specs.declared.types.Rules.{Rules}
use Rattle.record.specs.LineKinds.{told_kind, kind_of, longest, comment_kind}
use Rattle.record.specs.Plain.{comment_items, comment_line, comment_width}
use Rattle.record.specs.declared.types.LineKind.TheVariants as kind
use Rattle.record.proofs.Tiled.{comment-tiled}
use Rattle.file.specs.Kinds.{is_kind}
use Rattle.file.specs.Table.{comment_text}
use Rattle.file.specs.Plain.{is_line, is_comment_line, every_line}
use Rattle.canon.specs.Valid.{comment_columns, comment_valid, comments_valid}
use Rattle.canon.specs.Canonical.{comment_lines}
use Rattle.canon_laws.proofs.Bare.{EndsLine, bare-ended, bare-is, bare-printable, bare-padded, bare-back}
use Rattle.canon_laws.specs.Held.{Proper}

-- a symbol and a blank before a text: where the text is blank, the symbol alone
symbol-length : (t : List ℕ) (n : ℕ) → length t ≤ n - 3 → 2 ≤ n → length (cons_trimmed 47 (cons_trimmed 42 (cons_trimmed 32 t))) ≤ n
symbol-length [] n h two = two
symbol-length (c ∷ cs) n h two = omega arith

module _ (rules : Rules) (proper : Proper rules) (text : List ℕ) (wide : length text ≡ comment_width) (v : comment_valid rules text ≡ true) where
  plain : printable text ≡ true
  unfolding comment_valid
  plain = and_left (printable text) _ v

  narrow : length (trimmed text) ≤ comment_columns rules
  unfolding comment_valid
  narrow = leb-true (length (trimmed text)) (comment_columns rules) (and_right (printable text) _ v)

  comment-can : can_show comment_items (words text ∷ []) ≡ true
  comment-can = rw (eq-eqb (length text) comment_width wide, plain)

  text-shown : shown_text comment_width text ≡ text
  text-shown = take_at text (blanks comment_width) comment_width wide

  short : length (line_of (comment_line text)) ≤ longest rules kind.Comment
  unfolding comment_line
  short =
      rw (bare-is comment_items (words text ∷ []) comment-tiled comment-can, text-shown, append-nil text)
      (symbol-length (trimmed text) (longest rules kind.Comment) narrow (omega (arith, proper.symbol-fits)))

  pub comment-text : comment_text (line_of (comment_line text)) ≡ text
  unfolding comment_line
  comment-text = bare-back comment_items (words text ∷ []) comment-tiled comment-can (λ fault vs. words_at vs 0)

  comment-ends : EndsLine (comment_line text)
  unfolding comment_line
  comment-ends = bare-ended comment_items (words text ∷ []) comment-tiled comment-can

  pub comment-is : is_comment_line rules (line_of (comment_line text)) ≡ true
  unfolding comment_line kind_of
  comment-is =
      let l = line_of (comment_line text) in
      let vs = words text ∷ [] in
      let of-kind : is_kind rules comment_kind l ≡ true = eq-eqb _ _ (ap (λ (s : List ℕ). told_kind (kind_of rules s)) (bare-padded comment_items vs comment-tiled comment-can)) in
      and_both (is_line rules kind.Comment l) (eqb (fault_of comment_items (padded l)) 0)
      (and_both (every is_printable l) _ (bare-printable comment_items vs comment-tiled comment-can)
      (and_both (leb (length l) (longest rules kind.Comment)) _ (le-leb (length l) (longest rules kind.Comment) short) of-kind))
      (eq-eqb (fault_of comment_items (padded l)) 0 (bare-back comment_items vs comment-tiled comment-can (λ fault vs. fault)))

-- so many comments
module _ (rules : Rules) (proper : Proper rules) where
  abbrev bare : ℕ → List ℕ → List (List ℕ)
  bare k bytes = map line_of (comment_lines k bytes)

  first-valid : (k : ℕ) (bytes : List ℕ) → comments_valid rules (suc k) bytes ≡ true → comment_valid rules (take comment_width bytes) ≡ true
  unfolding comments_valid
  first-valid k bytes v = and_left (comment_valid rules (take comment_width bytes)) _ v

  later-valid : (k : ℕ) (bytes : List ℕ) → comments_valid rules (suc k) bytes ≡ true → comments_valid rules k (drop comment_width bytes) ≡ true
  unfolding comments_valid
  later-valid k bytes v = and_right (comment_valid rules (take comment_width bytes)) _ v

  pub comments-are : (k : ℕ) (bytes : List ℕ) → length bytes ≡ k * comment_width → comments_valid rules k bytes ≡ true → every_line (is_comment_line rules) (bare k bytes) ≡ true
  unfolding every_line comment_lines
  comments-are zero bytes wide v = refl
  comments-are (suc k) bytes wide v =
      and_both (is_comment_line rules (line_of (comment_line (take comment_width bytes)))) _
      (comment-is rules proper (take comment_width bytes) (length-take-le comment_width bytes (omega arith)) (first-valid k bytes v))
      (comments-are k (drop comment_width bytes) (omega (arith, length-drop comment_width bytes)) (later-valid k bytes v))

  pub comments-end : (k : ℕ) (bytes : List ℕ) → length bytes ≡ k * comment_width → comments_valid rules k bytes ≡ true → Each EndsLine (comment_lines k bytes)
  unfolding comment_lines
  comments-end zero bytes wide v = tt
  comments-end (suc k) bytes wide v = (
    comment-ends rules proper (take comment_width bytes) (length-take-le comment_width bytes (omega arith)) (first-valid k bytes v),
    comments-end k (drop comment_width bytes) (omega (arith, length-drop comment_width bytes)) (later-valid k bytes v),
  )

  pub comments-back : (k : ℕ) (bytes : List ℕ) → length bytes ≡ k * comment_width → comments_valid rules k bytes ≡ true → flat (map comment_text (bare k bytes)) ≡ bytes
  unfolding flat comment_lines
  comments-back zero [] wide v = refl
  comments-back zero (b ∷ bytes) wide v = absurd (omega arith)
  comments-back (suc k) bytes wide v =
      ap₂ (λ (a c : List ℕ). a ++ c)
      (comment-text rules proper (take comment_width bytes) (length-take-le comment_width bytes (omega arith)) (first-valid k bytes v))
      (comments-back k (drop comment_width bytes) (omega (arith, length-drop comment_width bytes)) (later-valid k bytes v))
      ∙ take-append-drop comment_width bytes

  pub comments-many : (k : ℕ) (bytes : List ℕ) → length (bare k bytes) ≡ k
  unfolding comment_lines
  comments-many zero bytes = refl
  comments-many (suc k) bytes = ap suc (comments-many k (drop comment_width bytes))
