-- Turns of the loop that fills rows.
-- Assumes nothing.
use mathlib.Core.Path.{◌≡◌, refl, sym, ap, subst, ◌∙◌}
use mathlib.Core.Bool.{true, false}
use mathlib.Core.List.{List, [], ◌∷◌, ◌++◌}
use Prim.Native.Nat.{ℕ, zero, suc, ◌+◌, ◌-◌, ◌/◌, ◌<◌, ◌≤◌, zero-le}
use native.Mathlib.Nat.{div-eq_of_lt, div-eq-sub-div, div-mul-le_self}
use native.Mathlib.Numerals.{add-one}
use native.Mathlib.Omega.{arith}
use borrow.Rule.Slice.PartMut.{put_mid}
use lib.IntN.{ℤ}
use lib.ListN.{length, take, drop, length-take, length-drop, take-append-drop}
use Rattle.lines.specs.Lent.{laid, over, flat}
use Rattle.lines.specs.Lines.{lines_of}
use Rattle.record.specs.Rows.{row_width}
use Rattle.lines.proofs.Laying.{Laying, laying-all, laying-as, laying-block, laying-none, laid-fits}
use Rattle.lines.proofs.Picking.{length-flat}
use Rattle.lines.proofs.Each.{Each, each-front}
use Rattle.header.specs.declared.types.Rules.{Rules}
use Rattle.record.specs.declared.types.Row.{Row}
use Rattle.file.proofs.Wide.{part-wide, parts-wide}
use Rattle.file.specs.Kinds.{is_row}
use Rattle.file.specs.Table.{row_in, row_numbers, note_after, rows_of_lines}

-- Rows with what stands directly after them, as many whole rows as there is room for.
abbrev pub rows_left : Rules → ℕ → List (List ℕ) → List ℤ
rows_left rules n ls = flat (take n (rows_of_lines rules ls))

rows_none : (rules : Rules) (n : ℕ) → rows_left rules n [] ≡ []
unfolding rows_of_lines flat
rows_none rules zero = refl
rows_none rules (suc n) = refl

rows-spent : (rules : Rules) (n : ℕ) (ls : List (List ℕ)) → n ≡ 0 → rows_left rules n ls ≡ []
unfolding flat
rows-spent rules n ls e = rw e

rows_other : (rules : Rules) (n : ℕ) (l : List ℕ) (ls : List (List ℕ)) → is_row rules l ≡ false → rows_left rules n (l ∷ ls) ≡ rows_left rules n ls
unfolding rows_of_lines
rows_other rules n l ls is = rw is

rows-one : (rules : Rules) (n : ℕ) (l : List ℕ) (ls : List (List ℕ)) → is_row rules l ≡ true
    → rows_left rules (n + 1) (l ∷ ls) ≡ (row_numbers (row_in rules l) ++ note_after rules ls) ++ rows_left rules n ls
unfolding rows_of_lines flat
rows-one rules n l ls is = rw (is, add-one n)

-- the rows that have room
abbrev pub room_for : ℕ → ℕ → ℕ
room_for size stored = (size - stored) / row_width

abbrev pub rows_for : Rules → List ℕ → ℕ → List ℤ
rows_for rules bytes size = rows_left rules (size / row_width) (lines_of bytes)

rows_fit : (rules : Rules) (bytes : List ℕ) (size : ℕ) → length (rows_for rules bytes size) ≤ size
rows_fit rules bytes size =
    let parts = rows_of_lines rules (lines_of bytes) in
    let n = size / row_width in
    let each : Each (λ (part : List ℤ). length part ≡ row_width) (take n parts ++ drop n parts) =
    subst (Each (λ (part : List ℤ). length part ≡ row_width)) (sym (take-append-drop n parts)) (parts-wide rules (lines_of bytes)) in
    omega (
      arith,
      length-flat row_width (take n parts) (each-front (λ (part : List ℤ). length part ≡ row_width) (take n parts) (drop n parts) each),
      length-take n parts,
      div-mul-le_self size row_width,
    )

-- The lines `ls` are still to be walked, and the rows among them that have room are still to be laid.
pub record RowsFilling (rules : Rules) (all old now : List ℤ) (ls : List (List ℕ)) (stored : ℕ) : Type 0 where
  pub room : stored ≤ length now
  pub has : Laying all old now stored (rows_left rules (room_for (length now) stored) ls)

pub rows-first : (rules : Rules) (bytes : List ℕ) (old : List ℤ) → RowsFilling rules (rows_for rules bytes (length old)) old old (lines_of bytes) 0
rows-first rules bytes old =
    let whole : length old ≡ length old - 0 = omega arith in
    record {
      room = zero-le;
      has = laying-as (ap (λ (n : ℕ). rows_left rules (n / row_width) (lines_of bytes)) whole) (laying-none (rows_for rules bytes (length old)) old);
    }

module _ (rules : Rules) (bytes : List ℕ) (old now : List ℤ) (ls : List (List ℕ)) (stored : ℕ)
    (f : RowsFilling rules (rows_for rules bytes (length old)) old now ls stored) where
  abbrev all : List ℤ
  all = rows_for rules bytes (length old)

  abbrev room-now : ℕ
  room-now = room_for (length now) stored

  -- nothing is left to be laid
  whole-rows : rows_left rules room-now ls ≡ [] → now ≡ over all old
  whole-rows none = laying-all (laying-as none f.has) ∙ laid-fits all old (rows_fit rules bytes (length old))

  pub rows_end : ls ≡ [] → now ≡ over all old
  rows_end e = whole-rows (ap (rows_left rules room-now) e ∙ rows_none rules room-now)

  -- no room for a row
  pub rows-full : length now - stored < row_width → now ≡ over all old
  rows-full r = whole-rows (rows-spent rules room-now ls (div-eq_of_lt r))

  module _ (line : List ℕ) (more : List (List ℕ)) (e : ls ≡ line ∷ more) where
    here : Laying all old now stored (rows_left rules room-now (line ∷ more))
    here = laying-as (ap (rows_left rules room-now) e) f.has

    -- no row
    pub rows-passed : is_row rules line ≡ false → RowsFilling rules all old now more stored
    rows-passed is = record { room = f.room; has = laying-as (rows_other rules room-now line more is) here }

    -- a row more
    module _ (is : is_row rules line ≡ true) (r : row_width ≤ length now - stored) (row : Row) (taken : row ≡ row_in rules line) {part : List ℤ}
        (b : part ≡ over (row_numbers row ++ note_after rules more) (take (length now - stored) (drop stored now))) where
      abbrev numbers : List ℤ
      numbers = row_numbers row ++ note_after rules more

      abbrev then : List ℤ
      then = put_mid stored (length now - stored) now part

      room-less : room-now ≡ room_for (length now) (stored + row_width) + 1
      room-less =
          let less : length now - stored - row_width ≡ length now - (stored + row_width) = omega arith in
          div-eq-sub-div (omega arith) r ∙ ap (λ (n : ℕ). n / row_width + 1) less

      rows-here : rows_left rules room-now (line ∷ more) ≡ numbers ++ rows_left rules (room_for (length now) (stored + row_width)) more
      rows-here =
          ap (λ (n : ℕ). rows_left rules n (line ∷ more)) room-less
          ∙ rows-one rules (room_for (length now) (stored + row_width)) line more is
          ∙ ap (λ (p : Row). (row_numbers p ++ note_after rules more) ++ rows_left rules (room_for (length now) (stored + row_width)) more) (sym taken)

      laid-row : part ≡ laid numbers (take (length now - stored) (drop stored now))
      laid-row =
          b ∙ sym (laid-fits numbers (take (length now - stored) (drop stored now))
          (omega (arith, part-wide rules row more, length-take (length now - stored) (drop stored now), length-drop stored now)))

      laid_more : Laying all old then (stored + length numbers) (rows_left rules (room_for (length now) (stored + row_width)) more)
      laid_more =
          laying-block numbers (rows_left rules (room_for (length now) (stored + row_width)) more) (laying-as rows-here here) f.room laid-row

      rows-kept : length then ≡ length now
      rows-kept = laid_more.kept ∙ sym f.has.kept

      pub rows_more : RowsFilling rules all old then more (stored + row_width)
      rows_more =
          let next : Laying all old then (stored + row_width) (rows_left rules (room_for (length now) (stored + row_width)) more) =
          rw (part-wide rules row more) at laid_more in
          record {
            room = omega (arith, rows-kept);
            has = laying-as (ap (λ (n : ℕ). rows_left rules (room_for n (stored + row_width)) more) (sym rows-kept)) next;
          }
