-- Where a row, a comment stands in the table: row r has as many numbers as a row has from so many times r on, comment c the 77 bytes from 77 * c
-- on. So the row of epoch k and satellite j is found by its number alone, its note after it.
-- Assumes nothing.
use mathlib.Core.Path.{◌≡◌, refl, sym, ap, ◌∙◌}
use mathlib.Core.Bool.{Bool, true, false, ◌||◌}
use mathlib.Core.List.{List, [], ◌∷◌, ◌++◌, map, append-nil}
use Prim.Native.Nat.{ℕ, zero, suc, ◌+◌, ◌*◌, ◌<◌}
use native.Mathlib.Nat.{zero-mul, suc-mul, mul_comm, mul-le-mul, le_refl, le_of_suc-le-suc, not-suc-le-zero}
use native.Mathlib.Omega.{arith}
use borrow.Author.Tests.{ne_eqb}
use lib.Dec.{eqb}
use lib.IntN.{ℤ}
use lib.ListN.{length, get_or, take, drop, length-map}
use lib.Seq.{take_at, drop-append-add, get_or-take, get_or-drop}
use Rattle.lines.specs.Lent.{flat}
use Rattle.lines.specs.Lines.{nth, after_nth}
use Rattle.record.specs.Rows.{row_of, row_width}
use Rattle.record.specs.Notes.{note_of}
use Rattle.laws.specs.Tests.{within}
use Rattle.laws.proofs.Bounds.{within-true}
use Rattle.record.specs.LineKinds.{first_kind, comment_kind, position_kind, velocity_kind, position_correlation_kind, velocity_correlation_kind}
use Rattle.record.specs.Plain.{comment_width}
use Rattle.header.specs.declared.types.Rules.{Rules}
use Rattle.file.specs.Kinds.{kind_in, is_row, is_note, of_kind}
use Rattle.lines.proofs.Each.{Each, each_map, each_weaken}
use Rattle.lines.proofs.Noted.{part_at, parts-skip, parts-append}
use Rattle.file.specs.Plain.{Plain}
use Rattle.file.specs.Table.{slot_numbers, slot_line_kind, slots_in, comment_text, comments_in, row_in, row_numbers, note_numbers, no_note, note_after, rows_of_lines, row_lines, rows_in}
use Rattle.file_laws.proofs.Selected.{satellites, identifiers, velocities, epochs, last-kind}
use Rattle.file_laws.proofs.Instants.{header, three-parts, header-kinds}
use Rattle.file_laws.proofs.Slots.{slots-wide}
use Rattle.file_laws.proofs.Rule.{place_at, motion-at, rows-are-places, row-begins, row-motion}
use Rattle.file_laws.proofs.Counts.{comment-wide, rows-many, rows-many-both}
use Rattle.file.proofs.Wide as wide
use Rattle.file.proofs.Wide.{parts-wide}
use Rattle.file_laws.proofs.Exact.{row-exact}
use Rattle.file.specs.Exact.{exact_numbers}

-- parts of one length, one after another: the k-th begins at k times that length
module _ {A : Type 0} (w : ℕ) where
  pub part-stored : (parts : List (List A)) (k : ℕ) → Each (λ (part : List A). length part ≡ w) parts → k < length parts → take w (drop (k * w) (flat parts)) ≡ get_or parts k []
  unfolding flat
  part-stored [] k wide h = absurd (not-suc-le-zero h)
  part-stored (part ∷ parts) zero wide h =
      ap (λ (m : ℕ). take w (drop m (part ++ flat parts))) (zero-mul w) ∙ take_at part (flat parts) w wide.0
  part-stored (part ∷ parts) (suc k) wide h =
      let place : suc k * w ≡ length part + k * w = omega (arith, suc-mul k w, wide.0) in
      ap (λ (m : ℕ). take w (drop m (part ++ flat parts))) place
      ∙ ap (take w) (drop-append-add part (flat parts) (k * w))
      ∙ part-stored parts k wide.1 (le_of_suc-le-suc h)

  -- those that a function makes of some lines
  module _ (f : List ℕ → List A) (wide : (l : List ℕ) → length (f l) ≡ w) where
    made_at : (ls : List (List ℕ)) (k : ℕ) → k < length ls → get_or (map f ls) k [] ≡ f (nth k ls)
    unfolding nth
    made_at [] k h = absurd (not-suc-le-zero h)
    made_at (l ∷ ls) zero h = refl
    made_at (l ∷ ls) (suc k) h = made_at ls k (le_of_suc-le-suc h)

    pub made-stored : (ls : List (List ℕ)) (k : ℕ) → k < length ls → take w (drop (k * w) (flat (map f ls))) ≡ f (nth k ls)
    made-stored ls k h =
        part-stored (map f ls) k (each_map (λ (part : List A). length part ≡ w) f wide ls) (omega (arith, length-map ls f)) ∙ made_at ls k h

module _ (rules : Rules) (lines : List (List ℕ)) where
  -- the numbers of what stands directly after the row r
  abbrev pub note_at : ℕ → List ℤ
  note_at r = note_after rules (after_nth (is_row rules) r lines)

  -- the row r of any lines, and the comment c
  pub row-stored : (r : ℕ) → r < length (row_lines rules lines)
      → take row_width (drop (row_width * r) (rows_in rules lines)) ≡ row_numbers (row_in rules (nth r (row_lines rules lines))) ++ note_at r
  unfolding rows_of_lines
  row-stored r h =
      ap (λ (m : ℕ). take row_width (drop m (rows_in rules lines))) (mul_comm row_width r)
      ∙ part-stored row_width (rows_of_lines rules lines) r (parts-wide rules lines) (omega (arith, wide.rows-many rules lines))
      ∙ part_at (is_row rules) (is_note rules) (λ (l : List ℕ). row_numbers (row_in rules l)) (λ (l : List ℕ). note_numbers (note_of l)) no_note lines r h

  pub comment-stored : (c : ℕ) → c < length (of_kind rules comment_kind lines) → take comment_width (drop (comment_width * c) (comments_in rules lines)) ≡ comment_text (nth c (of_kind rules comment_kind lines))
  unfolding comments_in
  comment-stored c h =
      ap (λ (m : ℕ). take comment_width (drop m (comments_in rules lines))) (mul_comm comment_width c)
      ∙ made-stored comment_width comment_text comment-wide (of_kind rules comment_kind lines) c h

  -- identifier or exponent 17 * k + i stands in slot i of the k-th line of its kind
  pub slot-stored : (accuracies : Bool) (n k i : ℕ) → k < length (of_kind rules (slot_line_kind accuracies) lines) → i < 17 → 17 * k + i < n
      → get_or (slots_in rules accuracies n lines) (17 * k + i) 0 ≡ get_or (slot_numbers accuracies (nth k (of_kind rules (slot_line_kind accuracies) lines))) i 0
  unfolding slots_in
  slot-stored accuracies n k i hk hi h =
      let of = of_kind rules (slot_line_kind accuracies) lines in
      let all = flat (map (slot_numbers accuracies) of) in
      let place : 17 * k + i ≡ k * 17 + i = omega arith in
      get_or-take n all (17 * k + i) 0 h
      ∙ ap (λ (m : ℕ). get_or all m 0) place
      ∙ sym (get_or-drop (k * 17) all i 0)
      ∙ sym (get_or-take 17 (drop (k * 17) all) i 0 hi)
      ∙ ap (λ (s : List ℕ). get_or s i 0) (made-stored 17 (slot_numbers accuracies) (slots-wide accuracies) of k hk)

-- The row of epoch k and satellite j.
pub below : (k e n j : ℕ) → k < e → j < n → k * n + j < n * e
below k e n j hk hj = omega (arith, mul-le-mul hk (le_refl n), suc-mul k n, mul_comm e n)

module _ {rules : Rules} {lines : List (List ℕ)} (p : Plain rules lines) (k j : ℕ) (hk : k < epochs p) (hj : j < satellites p) where
  -- its number, and the P line and V line that it is read of
  abbrev pub row_at : ℕ
  row_at = k * satellites p + j

  abbrev pub place_line : List ℕ
  place_line = nth row_at (of_kind rules position_kind lines)

  abbrev pub motion_line : List ℕ
  motion_line = nth row_at (of_kind rules velocity_kind lines)

  -- without velocities: its numbers stand at the width of a row times k * n + j, and are those of its P line and of what stands directly after
  pub place-stored : velocities p ≡ false → take row_width (drop (row_width * row_at) (rows_in rules lines)) ≡ exact_numbers (row_of false place_line) ++ note_at rules lines row_at
  place-stored alone =
      row-stored rules lines row_at (omega (arith, rows-many p alone, below k (epochs p) (satellites p) j hk hj))
      ∙ ap (λ (ls : List (List ℕ)). row_numbers (row_in rules (nth row_at ls)) ++ note_at rules lines row_at) (rows-are-places p alone)
      ∙ ap (λ (s : List ℤ). s ++ note_at rules lines row_at) (row-exact rules false (get_or (identifiers p) j 0) place_line (place_at p k j hk hj))

  -- with velocities: those of its P line at the width times 2 * (k * n + j), those of its V line after them
  module _ (both : velocities p ≡ true) where
    pub place-stored-both : take row_width (drop (row_width * (2 * row_at)) (rows_in rules lines)) ≡ exact_numbers (row_of false place_line) ++ note_at rules lines (2 * row_at)
    place-stored-both =
        row-stored rules lines (2 * row_at) (omega (arith, rows-many-both p both, below k (epochs p) (satellites p) j hk hj))
        ∙ ap (λ (l : List ℕ). row_numbers (row_in rules l) ++ note_at rules lines (2 * row_at)) (row-begins p both k j hk hj)
        ∙ ap (λ (s : List ℤ). s ++ note_at rules lines (2 * row_at)) (row-exact rules false (get_or (identifiers p) j 0) place_line (place_at p k j hk hj))

    pub motion-stored : take row_width (drop (row_width * (2 * row_at + 1)) (rows_in rules lines)) ≡ exact_numbers (row_of true motion_line) ++ note_at rules lines (2 * row_at + 1)
    motion-stored =
        row-stored rules lines (2 * row_at + 1) (omega (arith, rows-many-both p both, below k (epochs p) (satellites p) j hk hj))
        ∙ ap (λ (l : List ℕ). row_numbers (row_in rules l) ++ note_at rules lines (2 * row_at + 1)) (row-motion p both k j hk hj)
        ∙ ap (λ (s : List ℤ). s ++ note_at rules lines (2 * row_at + 1)) (row-exact rules true (get_or (identifiers p) j 0) motion_line (motion-at p both k j hk hj))

-- The rows of a file are those of its epochs: no line before them or after them is a row, and EOF is no note.
pub epochs-rows : {rules : Rules} {lines : List (List ℕ)} (p : Plain rules lines) → rows_of_lines rules lines ≡ rows_of_lines rules p.epochs
unfolding rows_of_lines
epochs-rows {rules} {lines} p =
    let row : List ℕ → List ℤ = λ (l : List ℕ). row_numbers (row_in rules l) in
    let note : List ℕ → List ℤ = λ (l : List ℕ). note_numbers (note_of l) in
    ap (rows_of_lines rules) (three-parts p)
    ∙ parts-skip (is_row rules) (is_note rules) row note no_note (header p) (p.epochs ++ (p.last ∷ [])) before
    ∙ parts-append (is_row rules) (is_note rules) row note no_note p.epochs (p.last ∷ []) (rw (ap note_is (last-kind p).0))
    ∙ ap (λ (more : List (List ℤ)). rows_of_lines rules p.epochs ++ more) (parts-skip (is_row rules) (is_note rules) row note no_note (p.last ∷ []) [] (ap row_is (last-kind p).0, tt))
    ∙ append-nil (rows_of_lines rules p.epochs)
  where
    row_is : ℕ → Bool
    row_is k = eqb k position_kind || eqb k velocity_kind

    note_is : ℕ → Bool
    note_is k = eqb k position_correlation_kind || eqb k velocity_correlation_kind

    apart : (k : ℕ) → within first_kind comment_kind k ≡ true → row_is k ≡ false
    apart k e =
        let b = within-true first_kind comment_kind k e in
        rw (ne_eqb k position_kind (λ q. omega (arith, b)), ne_eqb k velocity_kind (λ q. omega (arith, b)))

    before : Each (λ (l : List ℕ). is_row rules l ≡ false) (header p)
    before =
        each_weaken (λ (l : List ℕ). within first_kind comment_kind (kind_in rules l) ≡ true) (λ (l : List ℕ). is_row rules l ≡ false)
        (λ l e. apart (kind_in rules l) e) (header p) (header-kinds p)
