-- THE TABLE OF EVERY ACCEPTED FILE IS VALID. 01, "The canonical form": "A table is valid exactly when some accepted file has it": here the way
-- from the file to its table.
-- Assumes nothing.
use mathlib.Core.Path.{◌≡◌, refl, sym, ap, ap₂, ◌∙◌}
use mathlib.Core.Bool.{Bool, true, false}
use mathlib.Core.List.{List}
use Prim.Native.Nat.{ℕ, ◌*◌, ◌/◌, ◌≤◌, ◌<◌}
use native.Mathlib.Nat.{le-div_iff_mul-le}
use native.Mathlib.Omega.{arith}
use borrow.Author.Tests.{le-leb}
use lib.Dec.{leb}
use lib.IntN.{ℤ}
use lib.ListN.{length, take, length-take}
use Rattle.layout.specs.Line.{padded}
use Rattle.record.specs.Opening.{first_of}
use Rattle.record.specs.Descriptors.{descriptor_of, base_of}
use Rattle.record.specs.Plain.{comment_width}
use Rattle.header.specs.declared.types.Rules.{Rules}
use Rattle.header.specs.declared.types.Header.{Header}
use Rattle.file.specs.Plain.{Plain}
use Rattle.file.specs.Table.{header_from, slots_in, rows_in}
use Rattle.canon.specs.Table.{Table, cell_width, cells_in, table_identifiers, exponents_of, comments_of, rows_of}
use Rattle.canon.specs.Valid.{header_valid, lists_long, identifiers_valid, exponents_valid, comments_valid, rows_valid, counts_hold, valid}
use Rattle.file_laws.proofs.Selected.{satellites, identifiers, velocities, interval8, epochs}
use Rattle.file_laws.proofs.Slots.{identifiers-many}
use Rattle.file_laws.proofs.Counts as plain
use Rattle.file_laws.proofs.Counts.{count-is, exponents-room, comments-room, places-room, motions-room}
use Rattle.canon.proofs.Counting.{some-width}
use Rattle.canon_laws.specs.Held.{Holds}
use Rattle.canon_laws.proofs.ValidHeads.{header-valid}
use Rattle.canon_laws.proofs.ValidLists.{identifiers-valid, exponents-valid, comments-valid}
use Rattle.canon_laws.proofs.ValidRows.{rows-valid}

-- a list of which n places can be taken has them
has-places : {A : Type 0} (n : ℕ) (l : List A) → length (take n l) ≡ n → n ≤ length l
has-places n l e = omega (arith, length-take n l)

-- and where they are k parts of w places, it has k whole parts
has_parts : {A : Type 0} (k w : ℕ) (l : List A) → 0 < w → length (take (k * w) l) ≡ k * w → leb k (length l / w) ≡ true
has_parts k w l some e = le-leb k (length l / w) ((le-div_iff_mul-le {k = w} {x = k} {y = length l} some).1 (has-places (k * w) l e))

module _ (rules : Rules) (lines : List (List ℕ)) (p : Plain rules lines) where
  -- the rows have so many numbers as the cells of their width
  pub rows_long : length (rows_in rules lines) ≡ satellites p * epochs p * cell_width (velocities p)
  rows_long = go (velocities p) refl
    where
      go : (v : Bool) → velocities p ≡ v → length (rows_in rules lines) ≡ satellites p * epochs p * cell_width v
      go true both = motions-room p both ∙ omega arith
      go false alone = places-room p alone ∙ omega arith

  module _ (t : Table) (h : Holds rules lines t) where
    -- what its header says is what the header lines say
    said : t.header
        ≡ header_from
        (first_of rules (padded p.first))
        (interval8 p)
        (satellites p)
        (descriptor_of (padded p.descriptor))
        (base_of (padded p.bases))
        (length p.comments)
    said = sym h.header_is ∙ plain.header_is p

    satellites-are : t.header.satellites ≡ satellites p
    satellites-are = ap (λ (x : Header). x.satellites) said

    taken-are : table_identifiers t ≡ identifiers p
    taken-are = sym h.identifiers-are ∙ plain.identifiers-are p

    exponents-are : exponents_of t ≡ slots_in rules true (satellites p) lines
    exponents-are = sym h.exponents-are ∙ ap (λ (n : ℕ). slots_in rules true n lines) (count-is p)

    -- no list is shorter than its count
    lists-long : lists_long t.header (length t.identifiers) (length t.exponents) (length t.comments) (length t.rows) ≡ true
    unfolding lists_long
    lists-long =
        let x = t.header in
        let c : x.comments ≡ length p.comments = ap (λ (y : Header). y.comments) said in
        let some : leb x.satellites (length t.identifiers) ≡ true =
        le-leb x.satellites (length t.identifiers) (has-places x.satellites t.identifiers (ap length taken-are ∙ identifiers-many p ∙ sym satellites-are)) in
        let same : leb x.satellites (length t.exponents) ≡ true =
        le-leb x.satellites (length t.exponents) (has-places x.satellites t.exponents (ap length exponents-are ∙ exponents-room p ∙ sym satellites-are)) in
        let whole : leb x.comments (length t.comments / comment_width) ≡ true =
        has_parts x.comments comment_width t.comments (omega arith) (ap length (sym h.comments-are) ∙ comments-room p ∙ omega arith) in
        let each : leb (cells_in x) (length t.rows / cell_width x.velocity) ≡ true =
        has_parts (cells_in x) (cell_width x.velocity) t.rows (some-width x.velocity)
        (ap length (sym h.rows_are) ∙ rows_long ∙ ap (λ (y : Header). cells_in y * cell_width y.velocity) (sym said)) in
        rw (some, same, whole, each)

    counts-hold : counts_hold rules t ≡ true
    unfolding counts_hold
    counts-hold = rw (ap (header_valid rules) (sym h.header_is) ∙ header-valid p, lists-long)

    its-identifiers : identifiers_valid t.header.file_type (table_identifiers t) ≡ true
    its-identifiers = ap₂ identifiers_valid (ap (λ (x : Header). x.file_type) said) taken-are ∙ identifiers-valid p

    its-exponents : exponents_valid (exponents_of t) ≡ true
    its-exponents = ap exponents_valid exponents-are ∙ exponents-valid p

    its-comments : comments_valid rules t.header.comments (comments_of t) ≡ true
    its-comments = ap₂ (comments_valid rules) (ap (λ (x : Header). x.comments) said) (sym h.comments-are) ∙ comments-valid p

    its-rows : rows_valid t.header.velocity (cells_in t.header) (rows_of t) ≡ true
    its-rows =
        ap₂ (λ (x : Header) (rows : List ℤ). rows_valid x.velocity (cells_in x) rows) said (sym h.rows_are) ∙ rows-valid p

-- THE THEOREM: a table that the lines of an accepted file hold is valid.
pub held-valid : (rules : Rules) (lines : List (List ℕ)) → Plain rules lines → (t : Table) → Holds rules lines t → valid rules t ≡ true
unfolding valid
held-valid rules lines p t h =
    rw (
      counts-hold rules lines p t h,
      its-identifiers rules lines p t h,
      its-exponents rules lines p t h,
      its-comments rules lines p t h,
      its-rows rules lines p t h,
    )
