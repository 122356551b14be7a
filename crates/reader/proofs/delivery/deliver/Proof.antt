-- `reader::delivery::deliver` meets its contract.
-- Assumes nothing.
use Prim.Native.Nat.{ℕ}
use Rattle.file.specs.Table.{comments_in, rows_in}
use Rattle.reader.proofs.Delivering.{file-delivered, left_alone, lists-delivered, refusal-delivered, refusal-fills-none, short-delivered}
use Rattle.reader.proofs.Found.{file-accounted, file-within}
use Rattle.reader.specs.Reading.{enough, exponents_of, identifiers_of, lines_in}
use borrow.Author.Rules.{rules}
use lib.IntN.{ℤ}
use lib.ListN.{length}
use mathlib.Core.Path.{◌∙◌, refl}
use Rattle.reader.proofs.delivery.deliver.Statement.{statement}
use Rattle.reader.proofs.delivery.deliver.Tie as tie

part-used-end : tie.Need-slice_bounds-used-end
part-used-end c = file-within c.args.rules c.args.bytes.now c.args.found c.in-Ok.tally c.in-Ok.is c.requires

returns : tie.Need-returns-then-not-enough
returns c =
    let a = c.args in
    let t = c.in-Ok.tally in (
      c.refused-then-not-enough.ensures ∙ short-delivered a.rules a.bytes.now a.found (length a.identifiers.now) (length a.exponents.now) (length a.comments.now) (length a.rows.now) t c.in-Ok.is c.requires c.count_of-n.result c.count_of-n.ensures c.has_room-enough.result c.has_room-enough.ensures (c.if-not-enough.true),
      lists-delivered a.rules a.bytes.now a.found (length a.identifiers.now) (length a.exponents.now) (length a.comments.now) (length a.rows.now) t c.in-Ok.is c.requires c.count_of-n.result c.count_of-n.ensures c.has_room-enough.result c.has_room-enough.ensures
          a.identifiers.now a.exponents.now a.comments.now _ _ _ a.rows.now _ refl refl refl refl c.fill_lists.ensures,
    )

answer-requires : tie.Need-answer-requires
answer-requires c κs =
    file-accounted c.args.rules c.args.bytes.now c.args.found c.in-Ok.tally c.in-Ok.is c.requires

returns-2 : tie.Need-returns-in-Err
returns-2 c =
    let a = c.args in
    let number = c.in-Err.refusal.number in
    let line = c.in-Err.refusal.line in
    let column = c.in-Err.refusal.column in
    let none = refusal-fills-none a.rules a.bytes.now a.found (length a.identifiers.now) (length a.exponents.now) (length a.comments.now) (length a.rows.now) number line column c.in-Err.is in
    let lines = lines_in a.bytes.now a.found in
    let still = enough a.rules a.bytes.now a.found (length a.identifiers.now) (length a.exponents.now) (length a.comments.now) (length a.rows.now) in
    (c.refused.ensures ∙ refusal-delivered a.rules a.bytes.now a.found (length a.identifiers.now) (length a.exponents.now) (length a.comments.now) (length a.rows.now) number line column c.in-Err.is, (left_alone {A = ℕ} still (identifiers_of a.rules lines) a.identifiers.now none, (left_alone {A = ℕ} still (exponents_of a.rules lines) a.exponents.now none, (left_alone {A = ℕ} still (comments_in a.rules lines) a.comments.now none, left_alone {A = ℤ} still (rows_in a.rules lines) a.rows.now none))))

returns-3 : tie.Need-returns-else-not-enough
returns-3 c =
    let a = c.args in
    let t = c.in-Ok.tally in (
      c.answer.ensures ∙ file-delivered a.rules a.bytes.now a.found (length a.identifiers.now) (length a.exponents.now) (length a.comments.now) (length a.rows.now) t c.in-Ok.is c.requires c.count_of-n.result c.count_of-n.ensures c.has_room-enough.result c.has_room-enough.ensures (c.if-not-enough.false),
      lists-delivered a.rules a.bytes.now a.found (length a.identifiers.now) (length a.exponents.now) (length a.comments.now) (length a.rows.now) t c.in-Ok.is c.requires c.count_of-n.result c.count_of-n.ensures c.has_room-enough.result c.has_room-enough.ensures
          a.identifiers.now a.exponents.now a.comments.now _ _ _ a.rows.now _ refl refl refl refl c.fill_lists.ensures,
    )

pub deliver_spec : {M : Type 1} → statement M
deliver_spec = tie.close (tie.spec (λ c. search rules) (λ c κs. search rules) (λ c. search rules) (λ c. search rules) (λ c. search rules) part-used-end (λ c κs. search rules) (λ c κs. search rules) (λ c κs. search rules) (λ c κs. search rules) (λ c. search rules) (λ c. search rules) (λ c. search rules) (λ c. search rules) returns answer-requires returns-2 (λ c. search rules) (λ c. search rules) (λ c. search rules) (λ c. search rules) returns-3)
