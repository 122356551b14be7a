use Rattle.std.proofs.Common.{◌≡◌, Bool, true, false, refl}
use Rattle.layout.specs.Inking.{text_end}
use Rattle.record.specs.Notes.{correlation_symbol, deviation_items, correlation_items, note_values}
use Rattle.layout.proofs.Ends.{end-item, end-several, ended-all, line-ends}
use Rattle.record.proofs.Tiled.{correlation-tiled}
use Rattle.draw.proofs.notes.note_end.Goals as goal

-- the symbol has two columns
symbol-ends : (velocity : Bool) → 2 ≡ text_end 0 (correlation_symbol velocity) 0
symbol-ends true = refl
symbol-ends false = refl

pub returns : goal.returns
returns c =
    let a = c.args in
    line-ends (correlation_items a.velocity) (note_values a.n) (correlation-tiled a.velocity)
    (end-item (symbol-ends a.velocity)
    (end-several deviation_items c.deviations_end-none.ensures
    (end-item refl
    (end-item c.correlation_end-xy.ensures
    (end-item refl
    (end-item c.correlation_end-xz.ensures
    (end-item refl
    (end-item c.correlation_end-xc.ensures
    (end-item refl
    (end-item c.correlation_end-yz.ensures
    (end-item refl
    (end-item c.correlation_end-yc.ensures
    (end-item refl
    (end-item c.correlation_end.ensures
    ended-all))))))))))))))
