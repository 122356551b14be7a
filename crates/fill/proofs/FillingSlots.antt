-- Turns of the loop that fills identifiers or exponents.
-- Assumes nothing.
use mathlib.Core.Path.{◌≡◌, refl, sym, ap, ◌∙◌}
use mathlib.Core.Bool.{Bool, true, false, ◌||◌}
use mathlib.Core.Logic.{◌⊎◌, inl, inr}
use mathlib.Core.List.{List, [], ◌∷◌, ◌++◌, map}
use Prim.Native.Nat.{ℕ, zero, suc, ◌+◌, ◌-◌, ◌≤◌}
use native.Mathlib.Decide.{dec_le}
use native.Mathlib.Omega.{arith}
use borrow.Rule.Slice.PartMut.{put_mid}
use lib.Dec.{leb}
use lib.ListN.{length, take, drop, length-take}
use lib.Seq.{take-nil}
use Rattle.layout.specs.Layout.{slots_from}
use Rattle.layout.specs.Line.{padded}
use Rattle.lines.specs.Lent.{laid, flat}
use Rattle.lines.specs.Lines.{select}
use Rattle.record.specs.SlotLines.{more_of}
use Rattle.header.specs.declared.types.Rules.{Rules}
use Rattle.file.specs.Kinds.{is_kind, of_kind}
use Rattle.file.specs.Table.{slot_numbers, slot_line_kind, slots_in}
use Rattle.fill.proofs.Filling.{Filling, either-met, filling-first, filling-full, filling-kept, filling-last, filling-more, filling-none, neither-met}

-- Slots: so many numbers of the lines, seventeen to a line.
abbrev pub slots_left : Bool → ℕ → List (List ℕ) → List ℕ
slots_left accuracies n ls = take n (flat (map (slot_numbers accuracies) ls))

pub slots_length : (accuracies : Bool) (columns : List ℕ) → length (more_of accuracies 17 columns).values ≡ 17
unfolding slots_from
slots_length true columns = refl
slots_length false columns = refl

front-append : {A : Type 0} (n : ℕ) (a b : List A) → take n (a ++ b) ≡ take n a ++ take (n - length a) b
front-append {A} zero a b = ap (λ (k : ℕ). take k b) (zero-less (length a))
  where
    zero-less : (k : ℕ) → ◌≡◌ {A = ℕ} 0 (0 - k)
    zero-less k = omega arith
front-append (suc n) [] b = ap (λ (k : ℕ). take k b) (same (suc n))
  where
    same : (k : ℕ) → k ≡ k - 0
    same k = omega arith
front-append {A} (suc n) (x ∷ a) b =
    ap (λ (t : List A). x ∷ t) (front-append n a b ∙ ap (λ (k : ℕ). take n a ++ take k b) (less n (length a)))
  where
    less : (m k : ℕ) → m - k ≡ suc m - suc k
    less m k = omega arith

slots-one : (accuracies : Bool) (n : ℕ) (l : List ℕ) (ls : List (List ℕ))
    → slots_left accuracies n (l ∷ ls) ≡ take n (slot_numbers accuracies l) ++ slots_left accuracies (n - 17) ls
unfolding flat
slots-one accuracies n l ls =
    front-append n (slot_numbers accuracies l) (flat (map (slot_numbers accuracies) ls))
    ∙ ap (λ (k : ℕ). take n (slot_numbers accuracies l) ++ take (n - k) (flat (map (slot_numbers accuracies) ls))) (slots_length accuracies (padded l))

slots-none : (accuracies : Bool) (n : ℕ) → slots_left accuracies n [] ≡ []
unfolding flat
slots-none accuracies n = take-nil n

slots-spent : (accuracies : Bool) (n : ℕ) (ls : List (List ℕ)) → n ≤ 17 → slots_left accuracies (n - 17) ls ≡ []
slots-spent accuracies n ls h =
    let none : n - 17 ≡ 0 = omega arith in
    ap (λ (k : ℕ). slots_left accuracies k ls) none

pub slots-first : (rules : Rules) (accuracies : Bool) (kind n : ℕ) (ls : List (List ℕ)) (old : List ℕ) → kind ≡ slot_line_kind accuracies
    → Filling (is_kind rules kind) (slots_left accuracies) (slots_in rules accuracies n ls) old old ls 0 n
unfolding slots_in
slots-first rules accuracies kind n ls old e =
    filling-first (is_kind rules kind) (slots_left accuracies) (slots_in rules accuracies n ls) old ls n
    (ap (λ (k : ℕ). slots_left accuracies n (of_kind rules k ls)) (sym e))

module _ (accuracies : Bool) {test : List ℕ → Bool} {all old now : List ℕ} {ls : List (List ℕ)} {stored left : ℕ}
    (f : Filling test (slots_left accuracies) all old now ls stored left) where
  pub slots_end : ls ≡ [] → now ≡ laid all old
  slots_end e = filling-none f (slots-none accuracies left) e

  module _ (line : List ℕ) (more : List (List ℕ)) (e : ls ≡ line ∷ more) (is : test line ≡ true) {part : List ℕ}
      (b : part ≡ laid (take left (slot_numbers accuracies line)) (take (length now - stored) (drop stored now))) where
    abbrev slots : List ℕ
    slots = slot_numbers accuracies line

    abbrev then : List ℕ
    then = put_mid stored (length now - stored) now part

    slots-here : slots_left accuracies left (line ∷ select test more) ≡ take left slots ++ slots_left accuracies (left - 17) (select test more)
    slots-here = slots-one accuracies left line (select test more)

    slots-size : 17 ≤ left → length (take left slots) ≡ 17
    slots-size m = omega (arith, length-take left slots, slots_length accuracies (padded line))

    slots_kept : length then ≡ length now
    slots_kept = filling-kept f line more e is (take left slots) (left - 17) slots-here b

    -- the last of them
    pub slots-done : (leb left 17 || leb (length then - stored) 17) ≡ true → then ≡ laid all old
    slots-done flag = go (dec_le left 17) (either-met left 17 (length then - stored) 17 flag)
      where
        go : Dec (left ≤ 17) → (left ≤ 17) ⊎ (length then - stored ≤ 17) → then ≡ laid all old
        go (yes m) w = filling-last f line more e is (take left slots) (left - 17) slots-here b (slots-spent accuracies left (select test more) m)
        go (no m) (inl w) = absurd (m w)
        go (no m) (inr w) =
            filling-full f line more e is (take left slots) (left - 17) slots-here b (omega (arith, slots-size (omega arith), slots_kept))

    -- and more
    pub slots-more : (leb left 17 || leb (length then - stored) 17) ≡ false
        → Filling test (slots_left accuracies) all old then more (stored + 17) (left - 17)
    slots-more flag =
        let both = neither-met left 17 (length then - stored) 17 flag in
        let size = slots-size (omega (arith, both.0)) in
        rw size at (filling-more f line more e is (take left slots) (left - 17) slots-here b (omega (arith, both.1, slots_kept)))
