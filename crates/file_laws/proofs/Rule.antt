-- THE RULE of an accepted file. 01, "Records in order", 8 and 9: in every epoch stands a P line of every satellite, in header order, and with
-- velocities a V line after it. So where n satellites and E epochs are, the rows are numbered without a gap: epoch k and satellite j, both
-- counted from 0, have the P line k * n + j.
-- Assumes nothing.
use mathlib.Core.Path.{◌≡◌, sym, ap, ap₂, subst, ◌∙◌}
use mathlib.Core.Bool.{Bool, true, false, not}
use mathlib.Core.List.{List, [], ◌∷◌, ◌++◌, append_assoc}
use Prim.Native.Nat.{ℕ, ◌+◌, ◌*◌, ◌<◌}
use native.Mathlib.Nat.{mul_comm}
use native.Mathlib.Omega.{arith}
use lib.ListN.{length, get_or}
use Rattle.lines.specs.Lines.{select, nth}
use Rattle.record.specs.Absence.{place_absent}
use Rattle.record.specs.LineKinds.{epoch_kind, position_kind, velocity_kind}
use Rattle.header.specs.declared.types.Rules.{Rules}
use Rattle.file.specs.Kinds.{is_kind, of_kind}
use Rattle.file.specs.Plain.{is_epoch_line, is_row_line, Plain}
use Rattle.file.specs.Table.{row_in, row_lines, mark_number}
use Rattle.lines.proofs.Picking.{select-append}
use Rattle.file_laws.proofs.Sorting.{both-selected}
use Rattle.file_laws.proofs.Parted.{part_at, before, after, split}
use Rattle.file_laws.proofs.Body.{block_at, block_is}
use Rattle.file_laws.proofs.Selected.{satellites, identifiers, velocities, start8, interval8, epochs, by-epochs, kind-epochs, kind-positions, kind-velocities, kind-rows}
use Rattle.file_laws.proofs.Slots.{identifiers-many}
use Rattle.file_laws.proofs.Places as place
use Rattle.file_laws.proofs.Places.{Has, one-row, own_in}
use Rattle.file.specs.Kinds.{row_number}
use Rattle.file_laws.proofs.Instants.{header, three-parts, header-no-epoch, rows-no-epoch, epochs-before, epochs-nth}
use Rattle.file_laws.proofs.Instants as instant

-- The rows of one kind, P or V, in the k-th epoch: n of them, the j-th of the j-th satellite, and in the file it is the one numbered
-- k * n + j.
pub record InOrder {rules : Rules} {lines : List (List ℕ)} (p : Plain rules lines) (v : Bool) (k : ℕ) (block : List (List ℕ)) : Type 0 where
  pub many : length (of_kind rules (row_number v) block) ≡ satellites p
  pub each : (j : ℕ) → j < satellites p → is_row_line rules v (get_or (identifiers p) j 0) (nth j (of_kind rules (row_number v) block)) ≡ true
  pub numbered : (j : ℕ) → j < satellites p
      → nth (k * satellites p + j) (of_kind rules (row_number v) lines) ≡ nth j (of_kind rules (row_number v) block)

-- The k-th epoch: lines that stand together, of which the first and no other is an epoch line; it stands k intervals after the start, and k
-- epoch lines stand before it. They hold the P lines of all satellites in header order, and with velocities the V lines.
pub record EpochAt {rules : Rules} {lines : List (List ℕ)} (p : Plain rules lines) (k : ℕ) : Type 0 where
  pub earlier : List (List ℕ)
  pub epoch : List ℕ
  pub rows : List (List ℕ)
  pub later : List (List ℕ)
  pub lines_are : lines ≡ earlier ++ ((epoch ∷ rows) ++ later)
  pub is-epoch : is_epoch_line rules (start8 p + k * interval8 p) epoch ≡ true
  pub earlier-epochs : length (of_kind rules epoch_kind earlier) ≡ k
  pub no-other-epoch : of_kind rules epoch_kind rows ≡ []
  pub places : InOrder p false k (epoch ∷ rows)
  pub motions : velocities p ≡ true → InOrder p true k (epoch ∷ rows)

module _ {rules : Rules} {lines : List (List ℕ)} (p : Plain rules lines) where
  abbrev body : List (List ℕ)
  body = p.epochs

  of-kind : (v : Bool) → of_kind rules (row_number v) lines ≡ of_kind rules (row_number v) body
  of-kind true = kind-velocities p
  of-kind false = kind-positions p

  -- P lines, and with velocities V lines, number n * E
  rows-many : (v : Bool) → Has (velocities p) v → length (of_kind rules (row_number v) lines) ≡ satellites p * epochs p
  rows-many v has =
      ap length (of-kind v)
      ∙ place.kind-many (by-epochs p) v has
      ∙ ap (λ (n : ℕ). epochs p * n) (identifiers-many p)
      ∙ mul_comm (epochs p) (satellites p)

  pub places-many : length (of_kind rules position_kind lines) ≡ satellites p * epochs p
  places-many = rows-many false tt

  pub motions-many : velocities p ≡ true → length (of_kind rules velocity_kind lines) ≡ satellites p * epochs p
  motions-many both = rows-many true both

  -- there are E epoch lines
  pub epochs-many : length (of_kind rules epoch_kind lines) ≡ epochs p
  epochs-many = ap length (kind-epochs p) ∙ instant.epochs-many (by-epochs p)

  in_order : (v : Bool) → Has (velocities p) v → (k : ℕ) → k < epochs p → InOrder p v k (block_at (by-epochs p) k)
  in_order v has k h =
      let d = by-epochs p in
      let named : length (identifiers p) ≡ satellites p = identifiers-many p in
      record {
        many = place.kind-in-epoch d v has k h ∙ named;
        each = λ j hj.
            ap (is_row_line rules v (get_or (identifiers p) j 0)) (place.kind-own d v has k h j (omega arith))
            ∙ (one-row rules (velocities p) v has (get_or (identifiers p) j 0) (part_at (own_in (block_is d k h)) j) ((own_in (block_is d k h)).each j (omega arith))).is-row;
        numbered = λ j hj.
            ap₂ (λ (m : ℕ) (ls : List (List ℕ)). nth (k * m + j) ls) (sym named) (of-kind v)
            ∙ place.kind-nth d v has k j h (omega arith);
      }

  -- THE RULE: every epoch below E is there, with its rows in header order.
  pub the-rule : (k : ℕ) → k < epochs p → EpochAt p k
  the-rule k h =
      let d = by-epochs p in
      let b = block_is d k h in
      record {
        earlier = header p ++ before d.divided k;
        epoch = b.epoch;
        rows = b.rows;
        later = after d.divided k ++ (p.last ∷ []);
        lines_are =
            three-parts p
            ∙ ap (λ (ls : List (List ℕ)). header p ++ (ls ++ (p.last ∷ []))) (split d.divided k h)
            ∙ around (header p) (before d.divided k) (block_at d k) (after d.divided k) (p.last ∷ [])
            ∙ ap (λ (ls : List (List ℕ)). (header p ++ before d.divided k) ++ (ls ++ (after d.divided k ++ (p.last ∷ [])))) b.block-is;
        is-epoch = b.is-epoch;
        earlier-epochs =
            ap length (select-append (is_kind rules epoch_kind) (header p) (before d.divided k))
            ∙ ap (λ (ls : List (List ℕ)). length (ls ++ of_kind rules epoch_kind (before d.divided k))) (header-no-epoch p)
            ∙ epochs-before d k (omega arith);
        no-other-epoch = rows-no-epoch rules (velocities p) (identifiers p) (start8 p + k * interval8 p) (block_at d k) b;
        places = subst (InOrder p false k) b.block-is (in_order false tt k h);
        motions = λ both. subst (InOrder p true k) b.block-is (in_order true both k h);
      }
    where
      around : (a x y z l : List (List ℕ)) → a ++ ((x ++ (y ++ z)) ++ l) ≡ (a ++ x) ++ (y ++ (z ++ l))
      around a x y z l =
          ap (λ (t : List (List ℕ)). a ++ t) (append_assoc x (y ++ z) l ∙ ap (λ (t : List (List ℕ)). x ++ t) (append_assoc y z l))
          ∙ sym (append_assoc a x (y ++ (z ++ l)))

  -- the line numbered k * n + j among the P lines is the P line of satellite j, and it stands in epoch k
  pub place_at : (k j : ℕ) → k < epochs p → j < satellites p
      → is_row_line rules false (get_or (identifiers p) j 0) (nth (k * satellites p + j) (of_kind rules position_kind lines)) ≡ true
  place_at k j hk hj =
      let order = in_order false tt k hk in
      ap (is_row_line rules false (get_or (identifiers p) j 0)) (order.numbered j hj) ∙ order.each j hj

  -- the same of the V lines
  pub motion-at : velocities p ≡ true → (k j : ℕ) → k < epochs p → j < satellites p
      → is_row_line rules true (get_or (identifiers p) j 0) (nth (k * satellites p + j) (of_kind rules velocity_kind lines)) ≡ true
  motion-at both k j hk hj =
      let order = in_order true both k hk in
      ap (is_row_line rules true (get_or (identifiers p) j 0)) (order.numbered j hj) ∙ order.each j hj

  -- the k-th epoch line stands k intervals after the start
  pub instant-at : (k : ℕ) → k < epochs p → is_epoch_line rules (start8 p + k * interval8 p) (nth k (of_kind rules epoch_kind lines)) ≡ true
  instant-at k h =
      ap (is_epoch_line rules (start8 p + k * interval8 p))
      (ap (nth k) (kind-epochs p) ∙ epochs-nth (by-epochs p) k h)
      ∙ (block_is (by-epochs p) k h).is-epoch

  -- without velocities there is no V line, and the rows of the table are the P lines
  module _ (alone : velocities p ≡ false) where
    pub no-motions : of_kind rules velocity_kind lines ≡ []
    no-motions = kind-velocities p ∙ place.no-motion (by-epochs p) alone

    pub rows-are-places : row_lines rules lines ≡ of_kind rules position_kind lines
    rows-are-places =
        kind-rows p
        ∙ place.rows-are-places (by-epochs p) alone
        ∙ sym (kind-positions p)

  -- with velocities they are P and V in turn: the P line of epoch k and satellite j is row 2 * (k * n + j), its V line the row after
  module _ (both : velocities p ≡ true) (k j : ℕ) (hk : k < epochs p) (hj : j < satellites p) where
    in-turn : (v : Bool) → nth (2 * (k * satellites p + j) + mark_number v) (row_lines rules lines) ≡ nth (k * satellites p + j) (of_kind rules (row_number v) lines)
    in-turn v =
        let named : length (identifiers p) ≡ satellites p = identifiers-many p in
        ap₂ (λ (m : ℕ) (ls : List (List ℕ)). nth (2 * (k * m + j) + mark_number v) ls) (sym named) (kind-rows p)
        ∙ place.rows-nth-both (by-epochs p) both v k j hk (omega arith)
        ∙ ap₂ (λ (m : ℕ) (ls : List (List ℕ)). nth (k * m + j) ls) named (sym (of-kind v))

    pub row-begins : nth (2 * (k * satellites p + j)) (row_lines rules lines) ≡ nth (k * satellites p + j) (of_kind rules position_kind lines)
    row-begins =
        let same : 2 * (k * satellites p + j) ≡ 2 * (k * satellites p + j) + 0 = omega arith in
        ap (λ (m : ℕ). nth m (row_lines rules lines)) same ∙ in-turn false

    pub row-motion : nth (2 * (k * satellites p + j) + 1) (row_lines rules lines) ≡ nth (k * satellites p + j) (of_kind rules velocity_kind lines)
    row-motion = in-turn true

-- Known and absent are all: a row's place is there or it is absent, and the two numbers add up to that of the rows.
abbrev pub absent_in : Rules → List ℕ → Bool
absent_in rules l = place_absent (row_in rules l).x.magnitude (row_in rules l).y.magnitude (row_in rules l).z.magnitude

pub known-and-absent : (rules : Rules) (lines : List (List ℕ))
    → length (select (absent_in rules) (row_lines rules lines)) + length (select (λ (l : List ℕ). not (absent_in rules l)) (row_lines rules lines))
    ≡ length (row_lines rules lines)
known-and-absent rules lines = both-selected (absent_in rules) (row_lines rules lines)
