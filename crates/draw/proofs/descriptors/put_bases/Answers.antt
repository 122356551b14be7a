use Rattle.std.proofs.Common.{◌≡◌, List, [], ◌∷◌, length, take, refl, sym, ◌∙◌, arith, rules}
use Rattle.field.specs.Show.{show_integer, fits_integer, show_decimal, fits_decimal}
use Rattle.layout.specs.Kind.Kind.{unused, fixed, decimal}
use Rattle.layout.specs.Layout.{Item, column, columns, show_line}
use Rattle.record.specs.Descriptors.{later_floats, base_values}
use Rattle.layout.proofs.Ends.{line-end}
use Rattle.layout.proofs.Inking.{ink, inked-all, inks, inked-line, past-whole}
use Rattle.draw.proofs.descriptors.put_bases.Goals as goal

-- the parts that are put show what the line's items show
abbrev parts : List Item
parts =
    columns 1 3 (fixed 4 (37 ∷ 102 ∷ 32 ∷ []))
    ∷ columns 4 13 (decimal 7 0 0)
    ∷ column 14 unused
    ∷ columns 15 26 (decimal 9 0 0)
    ∷ columns 27 60 (fixed 5 (take 34 (show_line later_floats [])))
    ∷ columns 61 80 unused
    ∷ []

pub returns : goal.returns
unfolding show_integer fits_integer show_decimal fits_decimal
returns c =
    let values = base_values c.args.b in
    let line = c.args.line.now in
    let same : length c.ink_fixed-2.new.line ≡ length line = search rules in
    inks parts values line
    (ink c.ink_fixed.ensures
    (ink c.ink_decimal.ensures
    (ink c.ink_blank.ensures
    (ink c.ink_decimal-2.ensures
    (ink c.ink_fixed-2.ensures
    (ink (sym (past-whole 61 80 _ _ (omega (arith, same, c.requires))))
    inked-all))))))
    ∙ inked-line parts values line refl (c.requires ∙ sym (line-end parts values refl))
