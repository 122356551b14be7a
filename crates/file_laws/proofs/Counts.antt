-- The numbers of an accepted file: what its header lines say is what its table says and what its lines are counted to be. 01 names the room
-- that lent memory needs: n identifiers and n exponents, 77 bytes for a comment, and the numbers of a row with its note for a row.
-- Assumes nothing.
use mathlib.Core.Path.{◌≡◌, refl, ap, ◌∙◌}
use mathlib.Core.Bool.{true, false, not}
use mathlib.Core.List.{List, map}
use Prim.Native.Nat.{ℕ, ◌+◌, ◌*◌, ◌≤◌}
use native.Mathlib.Nat.{mul_comm}
use native.Mathlib.Omega.{arith}
use lib.IntN.{ℤ}
use lib.ListN.{length, drop, length-map, length-drop}
use lib.Seq.{length-take-le}
use Rattle.header.specs.Rules.{max_epochs}
use Rattle.layout.specs.Fault.{clean}
use Rattle.layout.specs.Kind.Kind.{whole}
use Rattle.layout.specs.Layout.{columns, fault_of}
use Rattle.layout.specs.Line.{padded}
use Rattle.lines.specs.Lent.{flat}
use Rattle.lines.specs.Lines.{select, nth}
use Rattle.field.specs.Read.{whole_of}
use Rattle.record.specs.Descriptors.{descriptor_of, base_of}
use Rattle.record.specs.Opening.{first_items, first_of}
use Rattle.record.specs.Rows.{cut, row_width}
use Rattle.record.specs.SlotLines.{count_item, satellite_items, satellites_of}
use Rattle.record.specs.Times.{date_fault}
use Rattle.record.specs.LineKinds.{position_kind}
use Rattle.record.specs.Plain.{comment_width}
use Rattle.header.specs.declared.types.Rules.{Rules}
use Rattle.record.specs.declared.types.LineKind.TheVariants as kind
use Rattle.file.specs.Kinds.{of_kind}
use Rattle.file.specs.Plain.{Plain}
use Rattle.file.specs.Table.{header_from, count_of, header_in, slots_in, comment_text, comments_in, rows_of_lines, row_lines, rows_in}
use Rattle.laws.proofs.Bounds.{within-true}
use Rattle.layout.proofs.Again.{lower-clean}
use Rattle.layout.proofs.Lines.{padded-length}
use Rattle.lines.proofs.Each.{each_map}
use Rattle.file.proofs.Wide as wide
use Rattle.file.proofs.Wide.{parts-wide}
use Rattle.lines.proofs.Picking.{length-flat}
use Rattle.file_laws.proofs.Sorting.{both-selected}
use Rattle.file_laws.proofs.Selected.{satellites, identifiers, velocities, interval8, epochs, by-epochs, kind-first, kind-second, kind-satellites, kind-characters, kind-floats, kind-comments, kind-rows}
use Rattle.file_laws.proofs.Slots.{identifiers-many, identifiers-in, accuracies-many}
use Rattle.file_laws.proofs.Places as place
use Rattle.file_laws.proofs.Rule.{places-many, rows-are-places, absent_in}
use Rattle.file_laws.proofs.Clean.{record-clean, item-at, whole-bounds}

-- a comment has 77 bytes
pub comment-wide : (l : List ℕ) → length (comment_text l) ≡ comment_width
comment-wide l = length-take-le comment_width (drop 3 (padded l)) (omega (arith, length-drop 3 (padded l), padded-length l))

module _ {rules : Rules} {lines : List (List ℕ)} (p : Plain rules lines) where
  -- the table's number of satellites is the header's
  pub count-is : count_of rules lines ≡ satellites p
  unfolding nth
  count-is = rw (kind-satellites p)

  -- and the identifiers by that number are the header's
  pub identifiers-are : slots_in rules false (count_of rules lines) lines ≡ identifiers p
  identifiers-are = ap (λ (n : ℕ). slots_in rules false n lines) count-is ∙ identifiers-in p

  -- the table's header has what the header lines say, and the number of the comments
  pub header_is : header_in rules lines
      ≡ header_from
      (first_of rules (padded p.first))
      (interval8 p)
      (satellites p)
      (descriptor_of (padded p.descriptor))
      (base_of (padded p.bases))
      (length p.comments)
  unfolding header_in nth
  header_is = rw (kind-first p, kind-second p, kind-satellites p, kind-characters p, kind-floats p, kind-comments p)

  -- from 1 to the most satellites that the version allows, and from 1 to 100,000 epochs
  pub satellites-bounds : (1 ≤ satellites p) × (satellites p ≤ rules.most_satellites)
  satellites-bounds =
      let line = padded p.count in
      let sound : fault_of (satellite_items rules (satellites p)) line ≡ clean =
      record-clean rules kind.Satellites (satellites_of rules line).fault p.count p.is-count in
      whole-bounds 4 1 rules.most_satellites (whole_of (cut 4 6 line))
      (item-at (satellite_items rules (satellites p)) 2 (count_item rules) line clean (omega arith) sound)

  pub epochs-bounds : (1 ≤ epochs p) × (epochs p ≤ max_epochs)
  epochs-bounds =
      let line = padded p.first in
      let sound : fault_of (first_items rules) line ≡ clean =
      (lower-clean (fault_of (first_items rules) line) (date_fault (first_of rules line).start)
      (record-clean rules kind.First (first_of rules line).fault p.first p.is-first)).0 in
      whole-bounds 33 1 max_epochs (whole_of (cut 33 39 line))
      (item-at (first_items rules) 14 (columns 33 39 (whole 1 max_epochs)) line clean (omega arith) sound)

  -- as many comments as the version allows
  pub comments-bounds : (rules.fewest_comments ≤ length p.comments) × (length p.comments ≤ rules.most_comments)
  comments-bounds = within-true rules.fewest_comments rules.most_comments (length p.comments) p.comments-many

  -- THE ROOM: n identifiers and n exponents
  pub identifiers-room : length (slots_in rules false (satellites p) lines) ≡ satellites p
  identifiers-room = ap length (identifiers-in p) ∙ identifiers-many p

  pub exponents-room : length (slots_in rules true (satellites p) lines) ≡ satellites p
  exponents-room = accuracies-many p

  -- 77 bytes for each comment
  pub comments-room : length (comments_in rules lines) ≡ comment_width * length p.comments
  unfolding comments_in
  comments-room =
      ap (λ (ls : List (List ℕ)). length (flat (map comment_text ls))) (kind-comments p)
      ∙ length-flat comment_width (map comment_text p.comments) (each_map (λ (part : List ℕ). length part ≡ comment_width) comment_text comment-wide p.comments)
      ∙ omega (arith, length-map p.comments comment_text)

  -- so many numbers for each row
  rows-room : length (rows_in rules lines) ≡ row_width * length (row_lines rules lines)
  rows-room =
      length-flat row_width (rows_of_lines rules lines) (parts-wide rules lines) ∙ omega (arith, wide.rows-many rules lines)

  -- without velocities a row for each satellite and epoch, with velocities two
  pub rows-many : velocities p ≡ false → length (row_lines rules lines) ≡ satellites p * epochs p
  rows-many alone = ap length (rows-are-places p alone) ∙ places-many p

  pub rows-many-both : velocities p ≡ true → length (row_lines rules lines) ≡ 2 * (satellites p * epochs p)
  rows-many-both both =
      ap length (kind-rows p)
      ∙ place.rows-many-both (by-epochs p) both
      ∙ ap (λ (n : ℕ). epochs p * n * 2) (identifiers-many p)
      ∙ ap (λ (n : ℕ). n * 2) (mul_comm (epochs p) (satellites p))
      ∙ mul_comm (satellites p * epochs p) 2

  pub places-room : velocities p ≡ false → length (rows_in rules lines) ≡ row_width * (satellites p * epochs p)
  places-room alone = rows-room ∙ ap (λ (n : ℕ). row_width * n) (rows-many alone)

  pub motions-room : velocities p ≡ true → length (rows_in rules lines) ≡ row_width * (2 * (satellites p * epochs p))
  motions-room both = rows-room ∙ ap (λ (n : ℕ). row_width * n) (rows-many-both both)

  -- the places that are known and those that are absent are together one for each satellite and epoch
  pub places-known-and-absent : length (select (absent_in rules) (of_kind rules position_kind lines)) + length (select (λ (l : List ℕ). not (absent_in rules l)) (of_kind rules position_kind lines))
      ≡ satellites p * epochs p
  places-known-and-absent = both-selected (absent_in rules) (of_kind rules position_kind lines) ∙ places-many p
