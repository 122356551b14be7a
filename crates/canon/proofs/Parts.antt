-- What a valid table is, part by part: its header, the lengths of what belongs to it, its identifiers, exponents, comments and rows.
-- Assumes nothing.
use mathlib.Core.Path.{◌≡◌}
use mathlib.Core.Bool.{Bool, true, false, not, ◌&&◌}
use mathlib.Core.List.{[]}
use Prim.Native.Nat.{◌*◌}
use borrow.Author.Tests.{not-true}
use lib.Dec.{leb}
use lib.ListN.{length}
use lib.Seq.{length-take-le}
use Rattle.laws.specs.Texts.{every}
use Rattle.laws.proofs.Bools.{and_left, and_right}
use Rattle.layout.specs.Kind.{is_identifier}
use Rattle.record.specs.Plain.{comment_width}
use Rattle.header.specs.declared.types.Rules.{Rules}
use Rattle.record.specs.Agrees.{repeats, type_agrees}
use Rattle.canon.specs.Table.{Table, cell_width, cells_in, table_identifiers, exponents_of, comments_of, rows_of}
use Rattle.canon.specs.Valid.{header_valid, identifiers_valid, exponents_valid, comments_valid, rows_valid, counts_hold, valid}
use Rattle.canon.proofs.Counting.{Long, long}
use Rattle.canon.proofs.HeaderBounds.{Bounded, bounded}

pub record Parts (rules : Rules) (t : Table) : Type 0 where
  pub header : Bounded rules t.header
  pub lists : Long t.header (length t.identifiers) (length t.exponents) (length t.comments) (length t.rows)
  pub identifiers-many : length (table_identifiers t) ≡ t.header.satellites
  pub exponents-many : length (exponents_of t) ≡ t.header.satellites
  pub comments-many : length (comments_of t) ≡ t.header.comments * comment_width
  pub rows-many : length (rows_of t) ≡ cells_in t.header * cell_width t.header.velocity
  pub identifiers : every is_identifier (table_identifiers t) ≡ true
  pub different : repeats [] (table_identifiers t) ≡ false
  pub agreeing : type_agrees t.header.file_type (table_identifiers t) ≡ true
  pub exponents : every (λ n. leb n 999) (exponents_of t) ≡ true
  pub comments : comments_valid rules t.header.comments (comments_of t) ≡ true
  pub rows : rows_valid t.header.velocity (cells_in t.header) (rows_of t) ≡ true

module _ (rules : Rules) (t : Table) (v : valid rules t ≡ true) where
  abbrev named : Bool
  named = identifiers_valid t.header.file_type (table_identifiers t)

  counts : counts_hold rules t ≡ true
  unfolding valid
  counts = and_left (counts_hold rules t) _ v

  lists : (named && (exponents_valid (exponents_of t) && (comments_valid rules t.header.comments (comments_of t) && rows_valid t.header.velocity (cells_in t.header) (rows_of t)))) ≡ true
  unfolding valid
  lists = and_right (counts_hold rules t) _ v

  after-identifiers : (exponents_valid (exponents_of t) && (comments_valid rules t.header.comments (comments_of t) && rows_valid t.header.velocity (cells_in t.header) (rows_of t))) ≡ true
  after-identifiers = and_right named _ lists

  after-exponents : (comments_valid rules t.header.comments (comments_of t) && rows_valid t.header.velocity (cells_in t.header) (rows_of t)) ≡ true
  after-exponents = and_right (exponents_valid (exponents_of t)) _ after-identifiers

  is-long : Long t.header (length t.identifiers) (length t.exponents) (length t.comments) (length t.rows)
  unfolding counts_hold
  is-long = long rules t.header (length t.identifiers) (length t.exponents) (length t.comments) (length t.rows) counts

  is-bounded : Bounded rules t.header
  unfolding counts_hold
  is-bounded = bounded rules t.header (and_left (header_valid rules t.header) _ counts)

  named-parts : (every is_identifier (table_identifiers t) && (not (repeats [] (table_identifiers t)) && type_agrees t.header.file_type (table_identifiers t))) ≡ true
  unfolding identifiers_valid
  named-parts = and_left named _ lists

  exponents-low : every (λ n. leb n 999) (exponents_of t) ≡ true
  unfolding exponents_valid
  exponents-low = and_left (exponents_valid (exponents_of t)) _ after-identifiers

  pub parts : Parts rules t
  parts =
      let n = t.header.satellites in
      let others = and_right (every is_identifier (table_identifiers t)) _ named-parts in
      record {
        header = is-bounded;
        lists = is-long;
        identifiers-many = length-take-le n t.identifiers is-long.named;
        exponents-many = length-take-le n t.exponents is-long.weighed;
        comments-many = length-take-le (t.header.comments * comment_width) t.comments is-long.said;
        rows-many = length-take-le (cells_in t.header * cell_width t.header.velocity) t.rows is-long.placed;
        identifiers = and_left (every is_identifier (table_identifiers t)) _ named-parts;
        different = not-true (repeats [] (table_identifiers t)) (and_left (not (repeats [] (table_identifiers t))) _ others);
        agreeing = and_right (not (repeats [] (table_identifiers t))) _ others;
        exponents = exponents-low;
        comments = and_left (comments_valid rules t.header.comments (comments_of t)) _ after-exponents;
        rows = and_right (comments_valid rules t.header.comments (comments_of t)) _ after-exponents;
      }
