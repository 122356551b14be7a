use Rattle.std.proofs.Common.{◌≡◌, List, [], ◌∷◌, length, take, refl, sym, ◌∙◌, arith, rules}
use Rattle.header.specs.Letters.{file_types, time_systems}
use Rattle.layout.specs.Kind.Kind.{unused, fixed, letter, listed}
use Rattle.layout.specs.Layout.{Item, columns, show_line}
use Rattle.record.specs.Descriptors.{later_characters, descriptor_values}
use Rattle.layout.proofs.Ends.{line-end}
use Rattle.layout.proofs.Inking.{ink, inked-all, inks, inked-line, past-whole}
use Rattle.draw.proofs.descriptors.put_descriptor.Goals as goal

-- the parts that are put show what the line's items show
abbrev parts : List Item
parts =
    columns 1 3 (fixed 4 (37 ∷ 99 ∷ 32 ∷ []))
    ∷ columns 4 5 (letter file_types)
    ∷ columns 6 9 (fixed 5 (32 ∷ 99 ∷ 99 ∷ 32 ∷ []))
    ∷ columns 10 12 (listed time_systems)
    ∷ columns 13 60 (fixed 5 (take 48 (show_line later_characters [])))
    ∷ columns 61 80 unused
    ∷ []

pub returns : goal.returns
returns c =
    let values = descriptor_values c.args.d in
    let line = c.args.line.now in
    let same : length c.ink_fixed-3.new.line ≡ length line = search rules in
    inks parts values line
    (ink c.ink_fixed.ensures
    (ink c.ink_letter.ensures
    (ink c.ink_fixed-2.ensures
    (ink c.ink_text.ensures
    (ink c.ink_fixed-3.ensures
    (ink (sym (past-whole 61 80 _ _ (omega (arith, same, c.requires))))
    inked-all))))))
    ∙ inked-line parts values line refl (c.requires ∙ sym (line-end parts values refl))
