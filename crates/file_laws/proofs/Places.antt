-- The place of each P and V line among those of its kind: by the number of its epoch and of its satellite.
-- Assumes nothing.
use mathlib.Core.Path.{◌≡◌, refl, sym, ap, ◌∙◌}
use mathlib.Core.Bool.{Bool, true, false, cond, ◌||◌, false≢true}
use mathlib.Core.List.{List, [], ◌∷◌, ◌++◌}
use Prim.Native.Nat.{ℕ, ◌+◌, ◌*◌, ◌<◌}
use native.Mathlib.Nat.{add-mul, suc-mul, mul-zero, mul_assoc, mul-one, mul-le-mul_right}
use native.Mathlib.Omega.{arith}
use lib.Dec.{eqb}
use lib.ListN.{length, get_or}
use Rattle.lines.specs.Lines.{nth}
use Rattle.record.specs.LineKinds.{epoch_kind, position_kind, velocity_kind, position_correlation_kind, velocity_correlation_kind}
use Rattle.header.specs.declared.types.Rules.{Rules}
use Rattle.file.specs.Kinds.{is_kind, of_kind}
use Rattle.file.specs.Plain.{is_row_line, Satellite}
use Rattle.file.specs.Table.{row_lines, mark_number}
use Rattle.file_laws.proofs.Sorting.{other-selected, picked}
use Rattle.file_laws.proofs.Parted.{part_at}
use Rattle.file_laws.proofs.Body.{Block, BySatellite, by-satellite, ByEpoch, block_at, block_is, satellite-picked, width, rows-many, rows-nth, block-picked, epoch_width, body-many, body-nth, no_lines}
use Rattle.file.specs.Kinds.{row_number}

-- a file has V where its mode says so
abbrev pub Has : Bool → Bool → Type 0
Has velocities true = velocities ≡ true
Has velocities false = Unit

-- a satellite's lines have one of each kind of row
pub record OneRow (rules : Rules) (v : Bool) (identifier : ℕ) (own : List (List ℕ)) : Type 0 where
  pub row : List ℕ
  pub is-row : is_row_line rules v identifier row ≡ true
  pub alone : of_kind rules (row_number v) own ≡ row ∷ []

pub one-row : (rules : Rules) (velocity v : Bool) → Has velocity v → (identifier : ℕ) (own : List (List ℕ)) → Satellite rules velocity identifier own → OneRow rules v identifier own
one-row rules velocity false h identifier own s = record {
  row = s.is-position.row;
  is-row = s.is-position.is-row;
  alone = satellite-picked rules velocity (λ (n : ℕ). eqb n position_kind) refl refl identifier own s;
}
one-row rules true true h identifier own s = record {
  row = s.is-rest.row;
  is-row = s.is-rest.is-row;
  alone = satellite-picked rules true (λ (n : ℕ). eqb n velocity_kind) refl refl identifier own s;
}
one-row rules false true h identifier own s = absurd (false≢true h)

-- with velocities they are P, then V
has_both : (velocity : Bool) → velocity ≡ true → (v : Bool) → Has velocity v
has_both velocity both true = both
has_both velocity both false = tt

two-rows : (rules : Rules) (velocity : Bool) (both : velocity ≡ true) (v : Bool) (identifier : ℕ) (own : List (List ℕ)) (s : Satellite rules velocity identifier own)
    → nth (mark_number v) (row_lines rules own) ≡ (one-row rules velocity v (has_both velocity both v) identifier own s).row
unfolding one-row nth has_both
two-rows rules true both true identifier own s = ap (nth 1) (satellite-picked rules true (λ (n : ℕ). eqb n position_kind || eqb n velocity_kind) refl refl identifier own s)
two-rows rules true both false identifier own s = ap (nth 0) (satellite-picked rules true (λ (n : ℕ). eqb n position_kind || eqb n velocity_kind) refl refl identifier own s)
two-rows rules false both v identifier own s = absurd (false≢true both)

-- the lines of the satellites of one epoch
abbrev pub own_in : {rules : Rules} {velocity : Bool} {identifiers : List ℕ} {at8 : ℕ} {block : List (List ℕ)} (b : Block rules velocity identifiers at8 block)
    → BySatellite rules velocity identifiers b.rows
own_in {rules} {velocity} {identifiers} b = by-satellite rules velocity identifiers b.rows b.are-rows

-- A choice of kinds without epoch lines, EP and EV, of which each satellite has w lines in an epoch.
module _ {rules : Rules} {velocity : Bool} {identifiers : List ℕ} {interval8 epochs at8 : ℕ} {lines : List (List ℕ)}
    (d : ByEpoch rules velocity identifiers interval8 epochs at8 lines)
    (pick : ℕ → Bool) (no-epoch : pick epoch_kind ≡ false) (no-ep : pick position_correlation_kind ≡ false) (no-ev : pick velocity_correlation_kind ≡ false)
    (w : ℕ) (wide : width rules velocity pick no-ep no-ev ≡ w) where
  in_rows : (k : ℕ) (h : k < epochs) → picked rules pick (block_at d k) ≡ picked rules pick (block_is d k h).rows
  in_rows k h =
      block-picked rules velocity pick no-ep no-ev identifiers (at8 + k * interval8) (block_at d k) (block_is d k h)
      ∙ ap (λ (t : Bool). cond t ((block_is d k h).epoch ∷ []) [] ++ picked rules pick (block_is d k h).rows) no-epoch

  by_width : epoch_width rules velocity pick no-ep no-ev identifiers ≡ length identifiers * w
  by_width = rw (no-epoch, wide) (omega arith)

  -- an epoch has n times w, the whole file as many for each epoch
  pub epoch-many : (k : ℕ) → k < epochs → length (picked rules pick (block_at d k)) ≡ length identifiers * w
  epoch-many k h =
      ap length (in_rows k h)
      ∙ rows-many rules velocity pick no-ep no-ev identifiers (block_is d k h).rows (own_in (block_is d k h))
      ∙ ap (λ (m : ℕ). length identifiers * m) wide

  pub file-many : length (picked rules pick lines) ≡ epochs * length identifiers * w
  file-many =
      body-many rules velocity pick no-ep no-ev d
      ∙ ap (λ (m : ℕ). epochs * m) by_width
      ∙ sym (mul_assoc epochs (length identifiers) w)

  -- those of the j-th satellite stand at the j-th place of the epoch
  pub epoch-nth : (k : ℕ) (h : k < epochs) (j i : ℕ) → j < length identifiers → i < w
      → nth (j * w + i) (picked rules pick (block_at d k)) ≡ nth i (picked rules pick (part_at (own_in (block_is d k h)) j))
  epoch-nth k h j i hj hi =
      ap (nth (j * w + i)) (in_rows k h)
      ∙ ap (λ (m : ℕ). nth (j * m + i) (picked rules pick (block_is d k h).rows)) (sym wide)
      ∙ rows-nth rules velocity pick no-ep no-ev identifiers (block_is d k h).rows (own_in (block_is d k h)) j i hj (omega arith)

  -- and those of the k-th epoch at the k-th place of the file
  pub file-nth : (k j i : ℕ) → k < epochs → j < length identifiers → i < w
      → nth ((k * length identifiers + j) * w + i) (picked rules pick lines) ≡ nth (j * w + i) (picked rules pick (block_at d k))
  file-nth k j i hk hj hi =
      let place : (k * length identifiers + j) * w + i ≡ k * (length identifiers * w) + (j * w + i) =
      omega (arith, add-mul (k * length identifiers) j w, mul_assoc k (length identifiers) w) in
      let fits : j * w + i < length identifiers * w = omega (arith, mul-le-mul_right w hj, suc-mul j w) in
      ap (λ (m : ℕ). nth m (picked rules pick lines)) place
      ∙ ap (λ (m : ℕ). nth (k * m + (j * w + i)) (picked rules pick lines)) (sym by_width)
      ∙ body-nth rules velocity pick no-ep no-ev d k (j * w + i) hk (omega (arith, by_width))

-- P, or V where there are velocities: one line of each satellite in an epoch.
no-epochs : (v : Bool) → eqb epoch_kind (row_number v) ≡ false
no-epochs true = refl
no-epochs false = refl

no-notes : (v : Bool) → (eqb position_correlation_kind (row_number v) ≡ false) × (eqb velocity_correlation_kind (row_number v) ≡ false)
no-notes true = (refl, refl)
no-notes false = (refl, refl)

one-wide : (velocity v : Bool) → Has velocity v → cond (eqb position_kind (row_number v)) 1 0 + cond (eqb velocity_kind (row_number v)) (cond velocity 1 0) 0 ≡ 1
one-wide velocity false h = refl
one-wide true true h = refl
one-wide false true h = absurd (false≢true h)

module _ {rules : Rules} {velocity : Bool} {identifiers : List ℕ} {interval8 epochs at8 : ℕ} {lines : List (List ℕ)}
    (d : ByEpoch rules velocity identifiers interval8 epochs at8 lines) where
  module _ (v : Bool) (has : Has velocity v) where
    abbrev chosen : ℕ → Bool
    chosen n = eqb n (row_number v)

    pub kind-many : length (of_kind rules (row_number v) lines) ≡ epochs * length identifiers
    kind-many =
        file-many d chosen (no-epochs v) (no-notes v).0 (no-notes v).1 1 (one-wide velocity v has)
        ∙ mul-one (epochs * length identifiers)

    pub kind-in-epoch : (k : ℕ) → k < epochs → length (of_kind rules (row_number v) (block_at d k)) ≡ length identifiers
    kind-in-epoch k h =
        epoch-many d chosen (no-epochs v) (no-notes v).0 (no-notes v).1 1 (one-wide velocity v has) k h
        ∙ mul-one (length identifiers)

    -- the j-th of an epoch is the one of the j-th satellite
    pub kind-own : (k : ℕ) (h : k < epochs) (j : ℕ) (hj : j < length identifiers)
        → nth j (of_kind rules (row_number v) (block_at d k))
        ≡ (one-row rules velocity v has (get_or identifiers j 0) _ ((own_in (block_is d k h)).each j hj)).row
    unfolding nth
    kind-own k h j hj =
        let rows = own_in (block_is d k h) in
        let same : j ≡ j * 1 + 0 = omega arith in
        ap (λ (m : ℕ). nth m (of_kind rules (row_number v) (block_at d k))) same
        ∙ epoch-nth d chosen (no-epochs v) (no-notes v).0 (no-notes v).1 1 (one-wide velocity v has) k h j 0 hj (omega arith)
        ∙ ap (nth 0) (one-row rules velocity v has (get_or identifiers j 0) (part_at rows j) (rows.each j hj)).alone

    -- and that of the k-th epoch stands in the file at the place k * n + j
    pub kind-nth : (k j : ℕ) → k < epochs → j < length identifiers
        → nth (k * length identifiers + j) (of_kind rules (row_number v) lines) ≡ nth j (of_kind rules (row_number v) (block_at d k))
    kind-nth k j hk hj =
        let same : k * length identifiers + j ≡ (k * length identifiers + j) * 1 + 0 = omega arith in
        let back : j * 1 + 0 ≡ j = omega arith in
        ap (λ (m : ℕ). nth m (of_kind rules (row_number v) lines)) same
        ∙ file-nth d chosen (no-epochs v) (no-notes v).0 (no-notes v).1 1 (one-wide velocity v has) k j 0 hk hj (omega arith)
        ∙ ap (λ (m : ℕ). nth m (of_kind rules (row_number v) (block_at d k))) back

  -- With velocities the rows are P and V in turn.
  module _ (both : velocity ≡ true) where
    two-wide : cond (eqb position_kind position_kind || eqb position_kind velocity_kind) 1 0 + cond (eqb velocity_kind position_kind || eqb velocity_kind velocity_kind) (cond velocity 1 0) 0 ≡ 2
    two-wide = rw both

    pub rows-many-both : length (row_lines rules lines) ≡ epochs * length identifiers * 2
    rows-many-both =
        file-many d (λ (n : ℕ). eqb n position_kind || eqb n velocity_kind) refl refl refl 2 two-wide

    pub rows-nth-both : (v : Bool) (k j : ℕ) → k < epochs → j < length identifiers
        → nth (2 * (k * length identifiers + j) + mark_number v) (row_lines rules lines) ≡ nth (k * length identifiers + j) (of_kind rules (row_number v) lines)
    rows-nth-both v k j hk hj =
        let same : 2 * (k * length identifiers + j) + mark_number v ≡ (k * length identifiers + j) * 2 + mark_number v = omega arith in
        ap (λ (i : ℕ). nth i (row_lines rules lines)) same
        ∙ file-nth d pick refl refl refl 2 two-wide k j (mark_number v) hk hj (below_two v)
        ∙ epoch-nth d pick refl refl refl 2 two-wide k hk j (mark_number v) hj (below_two v)
        ∙ two-rows rules velocity both v (get_or identifiers j 0) (part_at (own_in (block_is d k hk)) j) ((own_in (block_is d k hk)).each j hj)
        ∙ sym (kind-own v (has_both velocity both v) k hk j hj)
        ∙ sym (kind-nth v (has_both velocity both v) k j hk hj)
      where
        pick : ℕ → Bool
        pick n = eqb n position_kind || eqb n velocity_kind

        below_two : (t : Bool) → mark_number t < 2
        below_two true = omega arith
        below_two false = omega arith

  -- Without velocities there is no V line, and the rows are the P lines.
  module _ (none : velocity ≡ false) where
    pub no-motion : of_kind rules velocity_kind lines ≡ []
    no-motion =
        let zero-wide : cond (eqb position_kind velocity_kind) 1 0 + cond (eqb velocity_kind velocity_kind) (cond velocity 1 0) 0 ≡ 0 = rw none in
        no_lines (of_kind rules velocity_kind lines)
        (file-many d (λ (n : ℕ). eqb n velocity_kind) refl refl refl 0 zero-wide ∙ mul-zero (epochs * length identifiers))

    pub rows-are-places : row_lines rules lines ≡ of_kind rules position_kind lines
    rows-are-places = other-selected (is_kind rules position_kind) (is_kind rules velocity_kind) lines no-motion
