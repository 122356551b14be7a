use Rattle.std.proofs.Common.{◌≡◌, Bool, true, false, List, ℕ, refl, ap, ◌∙◌}
use Rattle.layout.specs.Kind.{shown_text}
use Rattle.layout.specs.Layout.{ones_of}
use Rattle.layout.specs.Inking.{text_end}
use Rattle.record.specs.SlotLines.{slot_items, slot_symbol, more_items}
use Rattle.layout.proofs.Ends.{end-item, end-several, ended-all, line-ends}
use Rattle.record.proofs.Tiled.{more-tiled}
use Rattle.draw.proofs.slots.more_end.Goals as goal

-- a symbol fills its columns
symbol_end : (accuracies : Bool) → text_end 0 (shown_text 2 (slot_symbol accuracies)) 0 ≡ text_end 0 (slot_symbol accuracies) 0
symbol_end true = refl
symbol_end false = refl

pub returns : goal.returns
returns c =
    let a = c.args in
    line-ends (more_items a.accuracies a.left) (ones_of a.s.values) (more-tiled a.accuracies a.left)
    (end-item (c.text_end-first.ensures ∙ ap (λ (l : List ℕ). text_end 0 (shown_text 2 l) 0) c.symbol_of-symbol.ensures ∙ symbol_end a.accuracies)
    (end-item refl
    (end-several (slot_items a.accuracies a.left) c.slots_end.ensures
    (end-item refl
    ended-all))))
