-- The lines of the epochs: they divide into the lines of each epoch and those into the lines of each satellite, and what a choice of kinds
-- selects of them stands in the same order.
-- Assumes nothing.
use mathlib.Core.Path.{◌≡◌, refl, sym, ap, subst, ◌∙◌}
use mathlib.Core.Bool.{Bool, true, false, cond}
use mathlib.Core.List.{List, [], ◌∷◌, ◌++◌, append-nil}
use Prim.Native.Nat.{ℕ, zero, suc, ◌+◌, ◌*◌, ◌<◌, ◌≤◌}
use native.Mathlib.Nat.{zero-mul, suc-mul, mul-zero, le_of_suc-le-suc, not-suc-le-zero}
use native.Mathlib.Omega.{arith}
use lib.Dec.{leb}
use lib.ListN.{length, get_or, length-append}
use Rattle.lines.specs.Lent.{flat}
use Rattle.lines.specs.Lines.{nth}
use Rattle.record.specs.LineKinds.{no_kind, epoch_kind, position_kind, velocity_kind, position_correlation_kind, velocity_correlation_kind, told_kind}
use Rattle.header.specs.declared.types.Rules.{Rules}
use Rattle.file.specs.Kinds.{kind_in}
use Rattle.file.specs.Plain.{is_epoch_line, row_kind, note_kind, Noted, Rest, Satellite, Rows, Epochs}
use Rattle.lines.proofs.Picking.{select-append}
use Rattle.file_laws.proofs.Sorting.{row-kind, epoch-kind, notes-kind, picked, picked_of, picked-part}
use Rattle.file_laws.proofs.Parted.{Parted, part_at, before, before-many, all-many, nth-part}

pub no_lines : (ls : List (List ℕ)) → length ls ≡ 0 → ls ≡ []
no_lines [] e = refl
no_lines (l ∷ ls) e = absurd (omega arith)

-- the lines of one epoch, which stands at this instant
pub record Block (rules : Rules) (velocity : Bool) (identifiers : List ℕ) (at8 : ℕ) (block : List (List ℕ)) : Type 0 where
  pub epoch : List ℕ
  pub rows : List (List ℕ)
  pub block-is : block ≡ epoch ∷ rows
  pub is-epoch : is_epoch_line rules at8 epoch ≡ true
  pub are-rows : Rows rules velocity identifiers rows

-- the lines of so many epochs, the first of them at this instant, each an interval after the one before
pub record ByEpoch (rules : Rules) (velocity : Bool) (identifiers : List ℕ) (interval8 epochs at8 : ℕ) (lines : List (List ℕ)) : Type 0 where
  pub divided : Parted (λ (k : ℕ) (block : List (List ℕ)). Block rules velocity identifiers (at8 + k * interval8) block) epochs lines

-- the lines of the k-th of them
module _ {rules : Rules} {velocity : Bool} {identifiers : List ℕ} {interval8 epochs at8 : ℕ} {lines : List (List ℕ)}
    (d : ByEpoch rules velocity identifiers interval8 epochs at8 lines) where
  abbrev pub block_at : ℕ → List (List ℕ)
  block_at k = part_at d.divided k

  abbrev pub block_is : (k : ℕ) → k < epochs → Block rules velocity identifiers (at8 + k * interval8) (block_at k)
  block_is k h = d.divided.each k h

module _ (rules : Rules) (velocity : Bool) where
  -- the rows of an epoch: one part for each satellite, in header order
  abbrev pub BySatellite : List ℕ → List (List ℕ) → Type 0
  BySatellite identifiers lines = Parted (λ (j : ℕ) (own : List (List ℕ)). Satellite rules velocity (get_or identifiers j 0) own) (length identifiers) lines

  pub by-satellite : (identifiers : List ℕ) (lines : List (List ℕ)) → Rows rules velocity identifiers lines → BySatellite identifiers lines
  unfolding flat
  by-satellite [] lines r = record { parts = []; lines_are = r; many = refl; each = λ j h. absurd (not-suc-le-zero h) }
  by-satellite (identifier ∷ identifiers) lines r =
      let more = by-satellite identifiers r.1 r.4 in
      record {
        parts = r.0 ∷ more.parts;
        lines_are = r.2 ∙ ap (λ (t : List (List ℕ)). r.0 ++ t) more.lines_are;
        many = ap suc more.many;
        each = go r.0 more.parts r.3 more.each;
      }
    where
      go : (own : List (List ℕ)) (parts : List (List (List ℕ))) → Satellite rules velocity identifier own
          → ((j : ℕ) → j < length identifiers → Satellite rules velocity (get_or identifiers j 0) (get_or parts j []))
          → (j : ℕ) → j < suc (length identifiers) → Satellite rules velocity (get_or (identifier ∷ identifiers) j 0) (get_or (own ∷ parts) j [])
      go own parts s more zero h = s
      go own parts s more (suc j) h = more j (le_of_suc-le-suc h)

  -- the lines of the epochs: one part for each, k intervals after the first
  module _ (identifiers : List ℕ) (interval8 : ℕ) where
    divide : (n at8 : ℕ) (lines : List (List ℕ)) → Epochs rules velocity identifiers interval8 n at8 lines
        → Parted (λ (k : ℕ) (block : List (List ℕ)). Block rules velocity identifiers (at8 + k * interval8) block) n lines
    unfolding flat
    divide zero at8 lines e = record { parts = []; lines_are = e; many = refl; each = λ k h. absurd (not-suc-le-zero h) }
    divide (suc n) at8 lines e =
        let more = divide n (at8 + interval8) e.2 e.6 in
        let here : Block rules velocity identifiers at8 (e.0 ∷ e.1) = record { epoch = e.0; rows = e.1; block-is = refl; is-epoch = e.4; are-rows = e.5 } in
        record {
          parts = (e.0 ∷ e.1) ∷ more.parts;
          lines_are = e.3 ∙ ap (λ (t : List (List ℕ)). e.0 ∷ (e.1 ++ t)) more.lines_are;
          many = ap suc more.many;
          each = go (e.0 ∷ e.1) more.parts here more.each;
        }
      where
        Holds : ℕ → List (List ℕ) → Type 0
        Holds at block = Block rules velocity identifiers at block

        go : (own : List (List ℕ)) (parts : List (List (List ℕ))) → Holds at8 own
            → ((k : ℕ) → k < n → Holds (at8 + interval8 + k * interval8) (get_or parts k []))
            → (k : ℕ) → k < suc n → Holds (at8 + k * interval8) (get_or (own ∷ parts) k [])
        go own parts b more zero h =
            subst (λ (at : ℕ). Holds at own) (omega (arith, zero-mul interval8)) b
        go own parts b more (suc k) h =
            subst (λ (at : ℕ). Holds at (get_or parts k [])) (omega (arith, suc-mul k interval8)) (more k (le_of_suc-le-suc h))

    pub by-epoch : (n at8 : ℕ) (lines : List (List ℕ)) → Epochs rules velocity identifiers interval8 n at8 lines → ByEpoch rules velocity identifiers interval8 n at8 lines
    by-epoch n at8 lines e = record { divided = divide n at8 lines e }

  -- the V line of a satellite, in mode V
  abbrev pub motion_of : (v : Bool) (identifier : ℕ) (ls : List (List ℕ)) → Rest rules v identifier ls → List (List ℕ)
  motion_of true identifier ls r = r.row ∷ []
  motion_of false identifier ls r = []

  -- A choice of kinds without EP and EV.
  module _ (pick : ℕ → Bool) (no-ep : pick position_correlation_kind ≡ false) (no-ev : pick velocity_correlation_kind ≡ false) where
    noted-picked : (v : Bool) (identifier : ℕ) (ls : List (List ℕ)) (s : Noted rules v identifier ls) → pick (told_kind (note_kind v)) ≡ false
        → picked rules pick ls ≡ cond (pick (told_kind (row_kind v))) (s.row ∷ []) []
    noted-picked v identifier ls s h =
        let none : picked rules pick s.notes ≡ [] =
        picked_of rules pick (told_kind (note_kind v)) s.notes (notes-kind rules v s.notes s.are-notes) ∙ ap (λ (t : Bool). cond t s.notes []) h in
        let one = cond (pick (told_kind (row_kind v))) (s.row ∷ []) [] in
        ap (picked rules pick) s.lines_are
        ∙ picked-part rules pick (told_kind (row_kind v)) (s.row ∷ []) s.notes (row-kind rules v identifier s.row s.is-row, tt)
        ∙ ap (λ (t : List (List ℕ)). one ++ t) none
        ∙ append-nil one

    -- of a satellite's lines: P, then V
    pub satellite-picked : (identifier : ℕ) (own : List (List ℕ)) (s : Satellite rules velocity identifier own)
        → picked rules pick own ≡ cond (pick position_kind) (s.is-position.row ∷ []) [] ++ cond (pick velocity_kind) (motion_of velocity identifier s.rest s.is-rest) []
    satellite-picked identifier own s =
        let here = cond (pick position_kind) (s.is-position.row ∷ []) [] in
        ap (picked rules pick) s.lines_are
        ∙ select-append (λ (l : List ℕ). pick (kind_in rules l)) s.position s.rest
        ∙ ap (λ (t : List (List ℕ)). t ++ picked rules pick s.rest) (noted-picked false identifier s.position s.is-position no-ep)
        ∙ ap (λ (t : List (List ℕ)). here ++ t) (go velocity s.is-rest)
      where
        none : (t : Bool) → ◌≡◌ {A = List (List ℕ)} [] (cond t [] [])
        none true = refl
        none false = refl

        go : (v : Bool) (r : Rest rules v identifier s.rest) → picked rules pick s.rest ≡ cond (pick velocity_kind) (motion_of v identifier s.rest r) []
        go true r = noted-picked true identifier s.rest r no-ev
        go false r = ap (picked rules pick) r ∙ picked_of rules pick no_kind [] tt ∙ sym (none (pick no_kind)) ∙ none (pick velocity_kind)

    -- how many that is
    abbrev pub width : ℕ
    width = cond (pick position_kind) 1 0 + cond (pick velocity_kind) (cond velocity 1 0) 0

    satellite-many : (identifier : ℕ) (own : List (List ℕ)) → Satellite rules velocity identifier own → length (picked rules pick own) ≡ width
    satellite-many identifier own s =
        ap length (satellite-picked identifier own s)
        ∙ length-append (cond (pick position_kind) (s.is-position.row ∷ []) []) _
        ∙ ap (λ (n : ℕ). n + length (cond (pick velocity_kind) (motion_of velocity identifier s.rest s.is-rest) [])) (first (pick position_kind))
        ∙ ap (λ (n : ℕ). cond (pick position_kind) 1 0 + n) (second (pick velocity_kind) velocity s.is-rest)
      where
        first : (t : Bool) → length (cond t (s.is-position.row ∷ []) []) ≡ cond t 1 0
        first true = refl
        first false = refl

        second : (t v : Bool) (r : Rest rules v identifier s.rest) → length (cond t (motion_of v identifier s.rest r) []) ≡ cond t (cond v 1 0) 0
        second true true r = refl
        second true false r = refl
        second false true r = refl
        second false false r = refl

    -- of the rows of an epoch n times as many, the j-th satellite's at the j-th place
    module _ (identifiers : List ℕ) (rows : List (List ℕ)) (d : BySatellite identifiers rows) where
      pub rows-many : length (picked rules pick rows) ≡ length identifiers * width
      rows-many =
          all-many d (λ (l : List ℕ). pick (kind_in rules l)) width (λ j h. satellite-many (get_or identifiers j 0) (part_at d j) (d.each j h))

      pub rows-nth : (j i : ℕ) → j < length identifiers → i < width → nth (j * width + i) (picked rules pick rows) ≡ nth i (picked rules pick (part_at d j))
      rows-nth j i h h' =
          nth-part d (λ (l : List ℕ). pick (kind_in rules l)) width (λ m q. satellite-many (get_or identifiers m 0) (part_at d m) (d.each m q)) j i h h'

    -- of an epoch's lines: its own, then those of its rows
    pub block-picked : (identifiers : List ℕ) (at8 : ℕ) (block : List (List ℕ)) (b : Block rules velocity identifiers at8 block)
        → picked rules pick block ≡ cond (pick epoch_kind) (b.epoch ∷ []) [] ++ picked rules pick b.rows
    block-picked identifiers at8 block b =
        ap (picked rules pick) b.block-is
        ∙ picked-part rules pick epoch_kind (b.epoch ∷ []) b.rows (epoch-kind rules at8 b.epoch b.is-epoch, tt)

    -- and of all epochs together E times as many as of one, the k-th epoch's at the k-th place
    abbrev pub epoch_width : List ℕ → ℕ
    epoch_width identifiers = cond (pick epoch_kind) 1 0 + length identifiers * width

    module _ {identifiers : List ℕ} {interval8 epochs at8 : ℕ} {lines : List (List ℕ)} (d : ByEpoch rules velocity identifiers interval8 epochs at8 lines) where
      block-many : (k : ℕ) → k < epochs → length (picked rules pick (block_at d k)) ≡ epoch_width identifiers
      block-many k h =
          let b = block_is d k h in
          ap length (block-picked identifiers (at8 + k * interval8) (block_at d k) b)
          ∙ length-append (cond (pick epoch_kind) (b.epoch ∷ []) []) (picked rules pick b.rows)
          ∙ ap (λ (n : ℕ). n + length (picked rules pick b.rows)) (first (pick epoch_kind) b.epoch)
          ∙ ap (λ (n : ℕ). cond (pick epoch_kind) 1 0 + n) (rows-many identifiers b.rows (by-satellite identifiers b.rows b.are-rows))
        where
          first : (t : Bool) (l : List ℕ) → length (cond t (l ∷ []) []) ≡ cond t 1 0
          first true l = refl
          first false l = refl

      pub body-many : length (picked rules pick lines) ≡ epochs * epoch_width identifiers
      body-many = all-many d.divided (λ (l : List ℕ). pick (kind_in rules l)) (epoch_width identifiers) block-many

      -- none where neither the epochs' own lines nor P nor V are chosen
      pub body-none : pick epoch_kind ≡ false → pick position_kind ≡ false → pick velocity_kind ≡ false → picked rules pick lines ≡ []
      body-none e9 e10 e11 =
          let narrow : cond (pick position_kind) 1 0 + cond (pick velocity_kind) (cond velocity 1 0) 0 ≡ 0 = rw (e10, e11) in
          let none : cond (pick epoch_kind) 1 0 + length identifiers * width ≡ 0 = rw (e9, narrow) (omega (arith, mul-zero (length identifiers))) in
          no_lines (picked rules pick lines) (body-many ∙ ap (λ (w : ℕ). epochs * w) none ∙ mul-zero epochs)

      pub body-nth : (k i : ℕ) → k < epochs → i < epoch_width identifiers
          → nth (k * epoch_width identifiers + i) (picked rules pick lines) ≡ nth i (picked rules pick (block_at d k))
      body-nth = nth-part d.divided (λ (l : List ℕ). pick (kind_in rules l)) (epoch_width identifiers) block-many

      -- what is chosen before the k-th epoch
      pub body-before : (k : ℕ) → k ≤ epochs → length (picked rules pick (before d.divided k)) ≡ k * epoch_width identifiers
      body-before = before-many d.divided (λ (l : List ℕ). pick (kind_in rules l)) (epoch_width identifiers) block-many
