-- Bounds within other bounds, over the rules of two versions: a table that is valid by the narrower is valid by the wider.
-- Assumes nothing.
use mathlib.Core.Path.{◌≡◌, refl, sym, ap₂, ◌∙◌}
use mathlib.Core.Bool.{Bool, true, ◌&&◌}
use mathlib.Core.List.{List}
use Prim.Native.Nat.{ℕ, zero, suc, ◌≤◌}
use native.Mathlib.Nat.{le_trans}
use native.Mathlib.Omega.{arith}
use borrow.Author.Tests.{leb-true, le-leb}
use lib.Dec.{leb}
use lib.ListN.{length, take, drop}
use Rattle.laws.specs.Tests.{within}
use Rattle.laws.proofs.Bools.{and_left, and_right, and_both, same_truth}
use Rattle.laws.proofs.Bounds.{within-true, true-within}
use Rattle.layout.specs.Kind.{printable}
use Rattle.layout.specs.Line.{trimmed}
use Rattle.record.specs.Plain.{comment_width}
use Rattle.header.specs.declared.types.Rules.{Rules}
use Rattle.header.specs.declared.types.Header.{Header}
use Rattle.canon.specs.Table.{Table, cells_in, table_identifiers, exponents_of, comments_of, rows_of}
use Rattle.canon.specs.Valid.{comment_columns, comment_valid, comments_valid, counts_valid, times_valid, words_valid, header_valid, lists_long, counts_hold, identifiers_valid, exponents_valid, rows_valid, valid}
use Rattle.canon.proofs.Parts.{parts}
use Rattle.canon_laws.specs.Within.{Within}

-- comments that keep some columns keep more,
module _ (r s : Rules) (wide : r.comment_columns ≤ s.comment_columns) where
  comment-wider : (text : List ℕ) → comment_valid r text ≡ true → comment_valid s text ≡ true
  unfolding comment_valid
  comment-wider text v =
      let n = length (trimmed text) in
      let short = leb-true n (comment_columns r) (and_right (printable text) (leb n (comment_columns r)) v) in
      and_both (printable text) (leb n (comment_columns s)) (and_left (printable text) (leb n (comment_columns r)) v)
      (le-leb n (comment_columns s) (omega (arith, short, wide)))

  pub comments-wider : (k : ℕ) (bytes : List ℕ) → comments_valid r k bytes ≡ true → comments_valid s k bytes ≡ true
  unfolding comments_valid
  comments-wider zero bytes v = refl
  comments-wider (suc k) bytes v =
      let text = take comment_width bytes in
      let others = drop comment_width bytes in
      and_both (comment_valid s text) (comments_valid s k others) (comment-wider text (and_left (comment_valid r text) (comments_valid r k others) v))
      (comments-wider k others (and_right (comment_valid r text) (comments_valid r k others) v))

-- and by the same columns they are valid together
pub same-columns : (r s : Rules) → r.comment_columns ≡ s.comment_columns → (k : ℕ) (bytes : List ℕ) → comments_valid r k bytes ≡ comments_valid s k bytes
same-columns r s e k bytes =
    same_truth (comments_valid r k bytes) (comments_valid s k bytes) (comments-wider r s (omega (arith, e)) k bytes) (comments-wider s r (omega (arith, e)) k bytes)

-- a header keeps the counts of some rules
counts-kept : (rules : Rules) (h : Header) → 1 ≤ h.satellites → h.satellites ≤ rules.most_satellites
    → within rules.fewest_comments rules.most_comments h.comments ≡ true → counts_valid rules h ≡ true
unfolding counts_valid
counts-kept rules h some few said = rw (true-within 1 rules.most_satellites h.satellites some few, said)

module _ (r s : Rules) where
  -- A TABLE IS VALID BY RULES AS THEY TAKE ITS COUNTS AND ITS COMMENTS,
  pub valid-by : (t : Table) → counts_valid r t.header ≡ counts_valid s t.header
      → comments_valid r t.header.comments (comments_of t) ≡ comments_valid s t.header.comments (comments_of t) → valid r t ≡ valid s t
  unfolding valid counts_hold header_valid
  valid-by t counts comments =
      let h = t.header in
      ap₂
      (λ (c k : Bool). ((times_valid h && (c && words_valid h))
      && lists_long h (length t.identifiers) (length t.exponents) (length t.comments) (length t.rows))
      && (identifiers_valid h.file_type (table_identifiers t)
      && (exponents_valid (exponents_of t) && (k && rows_valid h.velocity (cells_in h) (rows_of t)))))
      counts
      comments

  -- SO WHAT IS VALID BY THE NARROWER BOUNDS IS VALID BY THE WIDER.
  pub wider : Within r s → (t : Table) → valid r t ≡ true → valid s t ≡ true
  wider w t v =
      let p = parts r t v in
      let h = t.header in
      let n = p.header.satellites in
      let k = within-true r.fewest_comments r.most_comments h.comments p.header.comments in
      let said = true-within s.fewest_comments s.most_comments h.comments (le_trans w.fewest k.0) (le_trans k.1 w.most) in
      sym
      (valid-by t (counts-kept r h n.0 n.1 p.header.comments ∙ sym (counts-kept s h n.0 (le_trans n.1 w.satellites) said))
      (p.comments ∙ sym (comments-wider r s w.columns h.comments (comments_of t) p.comments)))
      ∙ v
