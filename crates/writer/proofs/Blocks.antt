-- Lists walked block by block: what is left of them from a place on, and the lines that are still to be laid.
-- Assumes nothing.
use mathlib.Core.Path.{◌≡◌, refl, sym, ap, ap₂, ◌∙◌}
use mathlib.Core.Bool.{Bool, true, false}
use mathlib.Core.List.{List, [], ◌∷◌, ◌++◌}
use Prim.Native.Nat.{ℕ, suc, ◌+◌, ◌-◌, ◌*◌, ◌≤◌, ◌<◌, min}
use native.Mathlib.Nat.{suc-mul}
use native.Mathlib.Decide.{dec_le}
use native.Mathlib.Omega.{arith}
use lib.IntN.{ℤ}
use lib.ListN.{length, take, drop, get_or, length-drop, drop_of_length-le}
use lib.Seq.{take_all, take-take}
use Rattle.laws.proofs.Lists.{rest-step, front_rest}
use Rattle.lines.specs.Lent.{flat}
use Rattle.record.specs.Opening.{epoch_line}
use Rattle.record.specs.Plain.{comment_line, comment_width}
use Rattle.record.specs.SlotLines.{more_line}
use Rattle.record.specs.Rows.{row_line, bare_width, note_width, row_width, both_width}
use Rattle.record.specs.Notes.{note_line}
use Rattle.canon.specs.Table.{cell_width}
use Rattle.canon.specs.Valid.{is_noted}
use Rattle.canon.specs.Canonical.{row_shown, note_shown, slots_shown, slot_lines_of, comment_lines, note_lines, noted_lines, cell_lines, cells_lines, epoch_shown, epochs_lines}
use Rattle.layout.specs.Line.{Lays}
use Rattle.writer.proofs.Laying.{Laying, then, first-room, laying-as, laying-room, laying-more, one_line}

-- one of so many and the others
one_more : (more : ℕ) → 0 < more → more ≡ suc (more - 1)
one_more more some = omega arith

pub less_one : (more width : ℕ) → 0 < more → more * width ≡ width + (more - 1) * width
less_one more width some = ap (λ (n : ℕ). n * width) (one_more more some) ∙ suc-mul (more - 1) width ∙ omega arith

-- past its end a list has nothing, however far
pub rest-past : {A : Type 0} (l : List A) (k : ℕ) → drop (min k (length l)) l ≡ drop k l
rest-past l k = go (dec_le k (length l))
  where
    go : Dec (k ≤ length l) → drop (min k (length l)) l ≡ drop k l
    go (yes h) =
        let same : min k (length l) ≡ k = omega arith in
        rw same
    go (no h) =
        let same : min k (length l) ≡ length l = omega arith in
        rw (same, drop_of_length-le l {i = k} (omega arith), drop_of_length-le l {i = length l} (omega arith))

-- the satellites of one epoch have no rows past its own
pub cells-front : (velocity : Bool) (identifiers : List ℕ) (rows : List ℤ) (n : ℕ) → length identifiers * cell_width velocity ≤ n
    → cells_lines velocity identifiers rows ≡ cells_lines velocity identifiers (take n rows)
unfolding cells_lines
cells-front velocity [] rows n h = refl
cells-front velocity (identifier ∷ identifiers) rows n h =
    let w = cell_width velocity in
    let more = suc-mul (length identifiers) w in
    ap₂ (λ (here there : List (List ℕ)). here ++ there)
    (ap (cell_lines velocity identifier) (sym (take-take w n rows (omega arith))))
    (cells-front velocity identifiers (drop w rows) (n - w) (omega arith) ∙ ap (cells_lines velocity identifiers) (sym (front_rest w n rows)))

-- What is still to be laid, as the next line or lines and the others.
module _ (more : ℕ) (some : 0 < more) where
  -- the next comment
  pub comments-next : (bytes : List ℕ) → comment_lines more bytes ≡ comment_line (take comment_width bytes) ∷ comment_lines (more - 1) (drop comment_width bytes)
  unfolding comment_lines
  comments-next bytes = ap (λ (n : ℕ). comment_lines n bytes) (one_more more some)

  -- the next line of slots
  pub slots_next : (accuracies : Bool) (numbers : List ℕ)
      → slot_lines_of accuracies more numbers
      ≡ more_line accuracies (length numbers) (slots_shown numbers) ∷ slot_lines_of accuracies (more - 1) (drop (min (length numbers) 17) numbers)
  unfolding slot_lines_of
  slots_next accuracies numbers =
      let turned : min 17 (length numbers) ≡ min (length numbers) 17 = omega arith in
      ap (λ (n : ℕ). slot_lines_of accuracies n numbers) (one_more more some)
      ∙ ap (λ (rest : List ℕ). more_line accuracies (length numbers) (slots_shown numbers) ∷ slot_lines_of accuracies (more - 1) rest)
      (sym (rest-past numbers 17) ∙ ap (λ (n : ℕ). drop n numbers) turned)

  -- the next epoch
  pub epochs-next : (velocity : Bool) (identifiers : List ℕ) (interval8 at8 : ℕ) (rows : List ℤ) (width : ℕ) → width ≡ length identifiers * cell_width velocity
      → epochs_lines velocity identifiers interval8 more at8 rows
      ≡ (epoch_line (epoch_shown at8) ∷ cells_lines velocity identifiers (take width rows))
      ++ epochs_lines velocity identifiers interval8 (more - 1) (at8 + interval8) (drop width rows)
  unfolding epochs_lines
  epochs-next velocity identifiers interval8 at8 rows width e =
      ap (λ (n : ℕ). epochs_lines velocity identifiers interval8 n at8 rows) (one_more more some)
      ∙ ap₂ (λ (cells : List (List ℕ)) (rest : List ℤ). (epoch_line (epoch_shown at8) ∷ cells) ++ epochs_lines velocity identifiers interval8 (more - 1) (at8 + interval8) rest)
      (cells-front velocity identifiers rows width (omega (arith, e)))
      (ap (λ (n : ℕ). drop n rows) (sym e))

-- the lines of the next satellite
pub cells-next : (velocity : Bool) (identifiers : List ℕ) (rows : List ℤ) (j : ℕ) → j < length identifiers
    → cells_lines velocity (drop j identifiers) rows
    ≡ cell_lines velocity (get_or identifiers j 0) (take (cell_width velocity) rows) ++ cells_lines velocity (drop (j + 1) identifiers) (drop (cell_width velocity) rows)
unfolding cells_lines
cells-next velocity identifiers rows j h = rw (rest-step identifiers j h)

-- the lines of a row: its own, and that of its note where there is one
module _ (velocity : Bool) (identifier : ℕ) (row : List ℤ) (size : length row ≡ row_width) where
  pub note-whole : take note_width (drop bare_width row) ≡ drop bare_width row
  note-whole = take_all note_width (drop bare_width row) (omega (arith, size, length-drop bare_width row))

  pub noted-alone : {noted : Bool} → noted ≡ is_noted (take note_width (drop bare_width row)) → noted ≡ false
      → noted_lines velocity identifier row ≡ row_line velocity (row_shown identifier row) ∷ []
  unfolding noted_lines note_lines
  noted-alone e none =
      let no : is_noted (drop bare_width row) ≡ false = ap is_noted (sym note-whole) ∙ sym e ∙ none in
      rw no

  pub noted-both : {noted : Bool} → noted ≡ is_noted (take note_width (drop bare_width row)) → noted ≡ true
      → noted_lines velocity identifier row
      ≡ row_line velocity (row_shown identifier row) ∷ note_line velocity (note_shown (take note_width (drop bare_width row))) ∷ []
  unfolding noted_lines note_lines
  noted-both e some =
      let yes : is_noted (drop bare_width row) ≡ true = ap is_noted (sym note-whole) ∙ sym e ∙ some in
      rw (yes, note-whole)

-- the rows of one satellite: P alone, or P and V
module _ (velocity : Bool) (cell : List ℤ) (size : length cell ≡ cell_width velocity) where
  pub cell-long : row_width ≤ length cell
  cell-long = go velocity size
    where
      go : (v : Bool) → length cell ≡ cell_width v → row_width ≤ length cell
      go true e = omega arith
      go false e = omega arith

  pub cell-wide : velocity ≡ true → length cell ≡ both_width
  cell-wide e = size ∙ ap cell_width e

  pub cell-placed : (identifier : ℕ) → velocity ≡ false → cell_lines velocity identifier cell ≡ noted_lines false identifier (take row_width cell)
  unfolding cell_lines
  cell-placed identifier e =
      let one : length cell ≡ row_width = size ∙ ap cell_width e in
      rw (e, take_all row_width cell (omega arith))

  pub cell-moved : (identifier : ℕ) → velocity ≡ true
      → cell_lines velocity identifier cell ≡ noted_lines false identifier (take row_width cell) ++ noted_lines true identifier (take row_width (drop row_width cell))
  unfolding cell_lines
  cell-moved identifier e = rw (e, take_all row_width (drop row_width cell) (omega (arith, cell-wide e, length-drop row_width cell)))

  -- there is room for those of P
  pub cell_room : (identifier : ℕ) (out : List ℕ) → length (flat (cell_lines velocity identifier cell)) ≤ length out
      → length (flat (noted_lines false identifier (take row_width cell))) ≤ length out
  cell_room identifier out h = go velocity refl
    where
      go : (v : Bool) → velocity ≡ v → length (flat (noted_lines false identifier (take row_width cell))) ≤ length out
      go true e = first-room (noted_lines false identifier (take row_width cell)) (noted_lines true identifier (take row_width (drop row_width cell))) out (rw (cell-moved identifier e) at h)
      go false e = rw (cell-placed identifier e) at h

-- the part of the output from the next free byte on
abbrev pub free : ℕ → List ℕ → List ℕ
free at now = take (length now - at) (drop at now)

-- What is laid once the next of them is laid behind the others.
pub comment-laid : {all : List (List ℕ)} {entry now part : List ℕ} {at r : ℕ} (more : ℕ) (bytes : List ℕ) → 0 < more
    → Laying all entry at now (comment_lines more bytes) → Lays (comment_line (take comment_width bytes)) (free at now) r part
    → Laying all entry (at + r) (then at now part) (comment_lines (more - 1) (drop comment_width bytes))
comment-laid more bytes some s l =
    let line = comment_line (take comment_width bytes) in
    laying-more (line ∷ []) (comment_lines (more - 1) (drop comment_width bytes)) (laying-as (comments-next more some bytes) s) (one_line line l)

pub slots-laid : {all : List (List ℕ)} {entry now part : List ℕ} {at r : ℕ} (accuracies : Bool) (more : ℕ) (numbers : List ℕ) → 0 < more
    → Laying all entry at now (slot_lines_of accuracies more numbers) → Lays (more_line accuracies (length numbers) (slots_shown numbers)) (free at now) r part
    → Laying all entry (at + r) (then at now part) (slot_lines_of accuracies (more - 1) (drop (min (length numbers) 17) numbers))
slots-laid accuracies more numbers some s l =
    let line = more_line accuracies (length numbers) (slots_shown numbers) in
    laying-more (line ∷ []) (slot_lines_of accuracies (more - 1) (drop (min (length numbers) 17) numbers))
    (laying-as (slots_next more some accuracies numbers) s) (one_line line l)

pub cell-fits : {all : List (List ℕ)} {entry now : List ℕ} {at : ℕ} (velocity : Bool) (identifiers : List ℕ) (rows : List ℤ) (j : ℕ) → j < length identifiers
    → Laying all entry at now (cells_lines velocity (drop j identifiers) rows)
    → length (flat (cell_lines velocity (get_or identifiers j 0) (take (cell_width velocity) rows))) ≤ length (free at now)
cell-fits velocity identifiers rows j some s =
    laying-room (cell_lines velocity (get_or identifiers j 0) (take (cell_width velocity) rows))
    (cells_lines velocity (drop (j + 1) identifiers) (drop (cell_width velocity) rows)) (laying-as (cells-next velocity identifiers rows j some) s)

pub cell-laid : {all : List (List ℕ)} {entry now part : List ℕ} {at r : ℕ} (velocity : Bool) (identifiers : List ℕ) (rows : List ℤ) (j : ℕ) → j < length identifiers
    → Laying all entry at now (cells_lines velocity (drop j identifiers) rows)
    → Lays (flat (cell_lines velocity (get_or identifiers j 0) (take (cell_width velocity) rows))) (free at now) r part
    → Laying all entry (at + r) (then at now part) (cells_lines velocity (drop (j + 1) identifiers) (drop (cell_width velocity) rows))
cell-laid velocity identifiers rows j some s l =
    laying-more (cell_lines velocity (get_or identifiers j 0) (take (cell_width velocity) rows))
    (cells_lines velocity (drop (j + 1) identifiers) (drop (cell_width velocity) rows)) (laying-as (cells-next velocity identifiers rows j some) s) l

module _ (velocity : Bool) (identifiers : List ℕ) (interval8 more at8 : ℕ) (rows : List ℤ) (width : ℕ)
    (wide : width ≡ length identifiers * cell_width velocity) (some : 0 < more) where
  abbrev pub epoch : List (List ℕ)
  epoch = epoch_line (epoch_shown at8) ∷ cells_lines velocity identifiers (take width rows)

  abbrev pub others : List (List ℕ)
  others = epochs_lines velocity identifiers interval8 (more - 1) (at8 + interval8) (drop width rows)

  pub epoch-fits : {all : List (List ℕ)} {entry now : List ℕ} {at : ℕ} → Laying all entry at now (epochs_lines velocity identifiers interval8 more at8 rows)
      → length (flat epoch) ≤ length (free at now)
  epoch-fits s = laying-room epoch others (laying-as (epochs-next more some velocity identifiers interval8 at8 rows width wide) s)

  pub epoch-laid : {all : List (List ℕ)} {entry now part : List ℕ} {at r : ℕ} → Laying all entry at now (epochs_lines velocity identifiers interval8 more at8 rows)
      → Lays (flat epoch) (free at now) r part → Laying all entry (at + r) (then at now part) others
  epoch-laid s l = laying-more epoch others (laying-as (epochs-next more some velocity identifiers interval8 at8 rows width wide) s) l
