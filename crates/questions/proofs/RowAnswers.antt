-- The answer of the row question, by where its line begins.
-- Assumes nothing.
use mathlib.Core.Path.{◌≡◌}
use mathlib.Core.List.{List}
use mathlib.Core.Bool.{true, false}
use Prim.Native.Nat.{ℕ}
use borrow.Author.Tests.{eq-eqb, ne_eqb}
use lib.Dec.{eqb}
use Rattle.record.specs.Rows.{row_of}
use Rattle.record.specs.declared.types.Row.{Row}
use Rattle.float_row.specs.Floats.{float_row, absent_row, line_from}
use Rattle.float_row.specs.declared.FloatRow.{FloatRow}
use Rattle.questions.specs.Questions.{row_answer}
use Rattle.questions.specs.declared.types.RowBegins.{RowBegins}
use Rattle.questions.specs.declared.types.RowAnswer.{RowAnswer}

module _ (bytes : List ℕ) {place found : RowBegins} (e : found ≡ place) {row : FloatRow} where
  pub refused_as : (found.refusal ≡ 0 → ⊥) → row ≡ absent_row
      → ◌≡◌ {A = RowAnswer} (record { refusal = found.refusal; line = found.line; column = found.column; row = row }) (row_answer bytes place)
  unfolding row_answer
  refused_as test is =
      let same : eqb place.refusal 0 ≡ false = rw e at (ne_eqb found.refusal 0 test) in
      rw (same, is, e)

  pub answered-as : {line : List ℕ} {p : Row} → found.refusal ≡ 0 → line ≡ line_from found.at bytes → p ≡ row_of false line → row ≡ float_row p
      → ◌≡◌ {A = RowAnswer} (record { refusal = 0; line = 0; column = 0; row = row }) (row_answer bytes place)
  unfolding row_answer
  answered-as test el ep er =
      let same : eqb place.refusal 0 ≡ true = rw e at (eq-eqb found.refusal 0 test) in
      rw (same, er, ep, el, e)
