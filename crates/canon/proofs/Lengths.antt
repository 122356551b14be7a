-- The canonical form of a valid table is as long as it is measured.
-- Assumes nothing.
use mathlib.Core.Bool.{true, false}
use mathlib.Core.List.{List, [], ◌∷◌, ◌++◌}
use mathlib.Core.Path.{◌≡◌, refl, ap, ap₂, ◌∙◌}
use Prim.Native.Nat.{ℕ, zero, suc, ◌+◌, ◌-◌, ◌*◌, ◌≤◌}
use native.Mathlib.Nat.{suc-mul}
use native.Mathlib.Omega.{arith}
use borrow.Author.Tests.{eqb-true}
use lib.Dec.{eqb}
use lib.ListN.{length, take, drop, length-append, length-drop}
use lib.Seq.{length-take-le}
use Rattle.laws.specs.Texts.{every}
use Rattle.layout.specs.Kind.{printable}
use Rattle.lines.specs.Lent.{flat}
use Rattle.header.specs.Rules.{slot_lines}
use Rattle.record.specs.Plain.{comment_line, end_items, comment_width}
use Rattle.record.specs.Descriptors.{fixed_line}
use Rattle.canon.specs.Table.{Table, cells_in, table_identifiers, exponents_of, comments_of, rows_of}
use Rattle.canon.specs.Valid.{text_fits, valid}
use Rattle.canon.specs.Canonical.{slot_lines_of, descriptor_shown, bases_shown, descriptor_lines, lines_before, comment_lines, epochs_lines, canonical_lines, canonical}
use Rattle.canon.specs.Measured.{first_length, opening_length, comments_length, rows_length, form_length}
use Rattle.header.specs.declared.types.Rules.{Rules}
use Rattle.header.specs.declared.types.Header.{Header}
use Rattle.laws.proofs.Bools.{and_left}
use Rattle.canon.proofs.HeaderBounds.{Bounded}
use Rattle.canon.proofs.Parts.{parts}
use Rattle.canon.proofs.FixedLengths.{second-length, first-length, comment-length, descriptor-length, character-length, base-length, float-length, integer-length, end-length}
use Rattle.canon.proofs.SlotLengths.{small, satellites-length, slot-lines-length}
use Rattle.canon.proofs.CellLengths.{flat-length, epochs-length}

-- so many comments
comments-length : (k : ℕ) (bytes : List ℕ) → length bytes ≡ k * comment_width → length (flat (comment_lines k bytes)) ≡ comments_length k bytes
unfolding flat comment_lines comments_length
comments-length zero bytes e = refl
comments-length (suc k) bytes e =
    let all = suc-mul k comment_width in
    let one = length-take-le comment_width bytes (omega arith) in
    let rest : length (drop comment_width bytes) ≡ k * comment_width = omega (arith, length-drop comment_width bytes) in
    omega (
      arith,
      length-append (comment_line (take comment_width bytes)) (flat (comment_lines k (drop comment_width bytes))),
      comment-length (take comment_width bytes) one,
      comments-length k (drop comment_width bytes) rest,
    )

-- the `%` lines
descriptors-length : (h : Header) → length (flat (descriptor_lines h)) ≡ 366
unfolding flat descriptor_lines
descriptors-length h =
    simp (length-append, descriptor-length (descriptor_shown h), character-length, base-length (bases_shown h), float-length, integer-length)

-- a text that fills its columns has so many bytes
fits : (w : ℕ) (bytes : List ℕ) → text_fits w bytes ≡ true → length bytes ≡ w
fits w bytes e = eqb-true (length bytes) w (and_left (eqb (length bytes) w) (printable bytes) e)

-- every line before the comments
some-lines : (n : ℕ) → 1 ≤ slot_lines n
unfolding slot_lines
some-lines n = omega arith

opening-length : (rules : Rules) (h : Header) (identifiers exponents : List ℕ) → Bounded rules h → every small exponents ≡ true
    → length (flat (lines_before rules h identifiers exponents)) ≡ opening_length h
unfolding flat lines_before opening_length
opening-length rules h identifiers exponents b ok =
    let s = slot_lines h.satellites in
    let more = slot_lines_of false (s - 1) (drop 17 identifiers) in
    let weights = slot_lines_of true s exponents in
    let some = some-lines h.satellites in
    let slots : length (flat (more ++ (weights ++ descriptor_lines h))) ≡ 61 * (s - 1) + (61 * s + 366) =
    flat-length more (weights ++ descriptor_lines h)
    ∙ ap₂ ◌+◌ (slot-lines-length false (s - 1) (drop 17 identifiers) refl)
    (flat-length weights (descriptor_lines h) ∙ ap₂ ◌+◌ (slot-lines-length true s exponents ok) (descriptors-length h)) in
    let sum : first_length h.texts + (61 + (61 + (61 * (s - 1) + (61 * s + 366)))) ≡ first_length h.texts + 61 * (2 * s + 7) = omega arith in
    rw (
      length-append,
      length-append,
      length-append,
      first-length rules h b.clock.epochs.1 (fits 5 h.texts.data_used b.used) (fits 5 h.texts.coordinates b.coordinates) (fits 3 h.texts.orbit b.orbit) (fits 4 h.texts.agency b.agency),
      second-length h,
      satellites-length rules h.satellites identifiers,
      slots,
    )
    sum

-- THE LENGTH of the form of a valid table
pub canonical-length : (rules : Rules) (t : Table) → valid rules t ≡ true → length (canonical rules t) ≡ form_length t
unfolding canonical canonical_lines form_length flat
canonical-length rules t v =
    let g = parts rules t v in
    let h = t.header in
    let opening = lines_before rules h (table_identifiers t) (exponents_of t) in
    let comments = comment_lines h.comments (comments_of t) in
    let epochs = epochs_lines h.velocity (table_identifiers t) h.interval8 h.epochs h.start8 (rows_of t) in
    let dated : length (flat epochs) ≡ 32 * h.epochs + rows_length h.velocity (cells_in h) (rows_of t) =
    epochs-length h.velocity (table_identifiers t) h.interval8 h.epochs h.start8 (rows_of t) (rw g.identifiers-many g.rows)
    ∙ ap (λ (n : ℕ). 32 * h.epochs + rows_length h.velocity (n * h.epochs) (rows_of t)) g.identifiers-many in
    omega (
      arith,
      flat-length opening (comments ++ (epochs ++ (fixed_line end_items ∷ []))),
      opening-length rules h (table_identifiers t) (exponents_of t) g.header g.exponents,
      flat-length comments (epochs ++ (fixed_line end_items ∷ [])),
      comments-length h.comments (comments_of t) g.comments-many,
      flat-length epochs (fixed_line end_items ∷ []),
      dated,
      length-append (fixed_line end_items) [],
      end-length,
    )
