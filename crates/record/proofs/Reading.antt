-- A whole line judged by its layout: the steps of the field readers, one after the other.
-- Assumes nothing.
use mathlib.Core.Path.{◌≡◌, refl, ap, ap₂, ◌∙◌}
use mathlib.Core.List.{List, [], ◌∷◌, ◌++◌}
use Prim.Native.Nat.{ℕ}
use denote.Ref.{Bor}
use Rattle.layout.specs.Fault.{clean, lower}
use Rattle.layout.specs.Layout.{Item, fault_from, fault_of}
use Rattle.record.specs.Times.{date_fault}
use Rattle.record.specs.Steps.{after, after_all}
use Rattle.header.specs.declared.types.Moment.{Moment}
use Rattle.record.specs.declared.fields.Judge.{Judge}

fault-after : (items : List Item) (judge : Judge) → (after_all items judge).fault ≡ fault_from judge.fault items judge.line.now
unfolding after
fault-after [] judge = refl
fault-after (item ∷ items) judge = fault-after items (after item judge)

-- the fault of a line that was judged from its first column to its last
pub judged : (items : List Item) (judge : Judge) {line : Bor (List ℕ)} {start : Judge} → start ≡ record { line = line; fault = clean } → judge ≡ after_all items start
    → judge.fault ≡ fault_of items line.now
judged items judge {line} {start} s e = rw (e, s) (fault-after items (record { line = line; fault = clean }))

-- the line stays as it is
pub line_after : (item : Item) (judge : Judge) → (after item judge).line ≡ judge.line
unfolding after
line_after item judge = refl

lines-after : (items : List Item) (judge : Judge) → (after_all items judge).line ≡ judge.line
lines-after [] judge = refl
lines-after (item ∷ items) judge = lines-after items (after item judge) ∙ line_after item judge

pub kept : (items : List Item) (judge : Judge) {line : Bor (List ℕ)} {start : Judge} → start ≡ record { line = line; fault = clean } → judge ≡ after_all items start
    → judge.line ≡ line
kept items judge {line} {start} s e = ap (λ (j : Judge). j.line) e ∙ lines-after items start ∙ ap (λ (j : Judge). j.line) s

-- a layout in two parts is judged part by part
pub after-parts : (items more : List Item) (judge : Judge) → after_all (items ++ more) judge ≡ after_all more (after_all items judge)
after-parts [] more judge = refl
after-parts (item ∷ items) more judge = after-parts items more (after item judge)

-- and the fault of its date, which is judged last
pub dated : {judge last : Judge} {fault : ℕ} {m n : Moment} → last ≡ record judge { fault = lower judge.fault (date_fault m) } → judge.fault ≡ fault → m ≡ n
    → last.fault ≡ lower fault (date_fault n)
dated e f g = ap (λ (j : Judge). j.fault) e ∙ ap₂ (λ (k : ℕ) (t : Moment). lower k (date_fault t)) f g
