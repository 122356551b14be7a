-- A line read field by field: each field's contract is one step, and the steps together say what the layout reads.
-- Assumes nothing.
use mathlib.Core.Path.{◌≡◌, refl, sym, ap, ap₂, ◌∙◌, subst}
use mathlib.Core.Bool.{Bool, true, false}
use mathlib.Core.List.{List, [], ◌∷◌, ◌++◌}
use Prim.Native.Nat.{ℕ}
use Rattle.layout.specs.Fault.{clean, lower}
use Rattle.layout.specs.Kind.{Held, silent}
use Rattle.layout.specs.Layout.{Item, Values, fault_at, held_at, entered, fault_from, fault_of, values_of}

-- reading the items after a fault found before gives this fault and these values
pub record Reads (items : List Item) (line : List ℕ) (lowest fault : ℕ) (vs : Values) : Type 0 where
  pub at-fault : fault ≡ fault_from lowest items line
  pub values : vs ≡ values_of items line

pub done : {line : List ℕ} {lowest : ℕ} → Reads [] line lowest lowest []
done = record { at-fault = refl; values = refl }

-- a field that holds nothing
pub skip : {item : Item} {items : List Item} {line : List ℕ} {lowest next fault : ℕ} {vs : Values}
    → next ≡ lower lowest (fault_at item line) → silent item.kind ≡ true
    → Reads items line next fault vs → Reads (item ∷ items) line lowest fault vs
skip {item} {items} {line} {lowest} {next} {fault} {vs} e s r = record {
  at-fault = subst (λ (n : ℕ). fault ≡ fault_from n items line) e r.at-fault;
  values = r.values ∙ ap (λ (t : Bool). entered t (held_at item line) (values_of items line)) (sym s);
}

-- a field that holds v
pub keep : {item : Item} {items : List Item} {line : List ℕ} {lowest next fault : ℕ} {v : Held} {vs : Values}
    → next ≡ lower lowest (fault_at item line) → v ≡ held_at item line → silent item.kind ≡ false
    → Reads items line next fault vs → Reads (item ∷ items) line lowest fault (v ∷ vs)
keep {item} {items} {line} {lowest} {next} {fault} {v} {vs} e h s r = record {
  at-fault = subst (λ (n : ℕ). fault ≡ fault_from n items line) e r.at-fault;
  values = ap (λ (w : Held). w ∷ vs) h ∙ ap (λ (ws : Values). held_at item line ∷ ws) r.values
      ∙ ap (λ (t : Bool). entered t (held_at item line) (values_of items line)) (sym s);
}

-- a layout in two parts is read part by part
pub fault-parts : (items more : List Item) (line : List ℕ) (lowest : ℕ) → fault_from lowest (items ++ more) line ≡ fault_from (fault_from lowest items line) more line
fault-parts [] more line lowest = refl
fault-parts (item ∷ items) more line lowest = fault-parts items more line (lower lowest (fault_at item line))

entered-parts : (t : Bool) (v : Held) (vs ws : Values) → entered t v (vs ++ ws) ≡ entered t v vs ++ ws
entered-parts true v vs ws = refl
entered-parts false v vs ws = refl

pub values-parts : (items more : List Item) (line : List ℕ) → values_of (items ++ more) line ≡ values_of items line ++ values_of more line
values-parts [] more line = refl
values-parts (item ∷ items) more line =
    ap (entered (silent item.kind) (held_at item line)) (values-parts items more line)
    ∙ entered-parts (silent item.kind) (held_at item line) (values_of items line) (values_of more line)

-- items that another function read, as one step of a reading
pub several : (items : List Item) {more : List Item} {line : List ℕ} {lowest next fault : ℕ} {vs ws : Values}
    → next ≡ fault_from lowest items line → vs ≡ values_of items line
    → Reads more line next fault ws → Reads (items ++ more) line lowest fault (vs ++ ws)
several items {more} {line} {lowest} {next} {fault} {vs} {ws} e h r = record {
  at-fault = r.at-fault ∙ ap (λ (n : ℕ). fault_from n more line) e ∙ sym (fault-parts items more line lowest);
  values = ap₂ (λ (us ts : Values). us ++ ts) h r.values ∙ sym (values-parts items more line);
}

-- whatever is made of the fault and the values
pub made_after : {X : Type 0} (make : ℕ → Values → X) (items : List Item) (line : List ℕ) (lowest : ℕ) {fault : ℕ} {vs : Values}
    → Reads items line lowest fault vs → make fault vs ≡ make (fault_from lowest items line) (values_of items line)
made_after make items line lowest {fault} {vs} r = ap (λ (n : ℕ). make n vs) r.at-fault ∙ ap (make (fault_from lowest items line)) r.values

pub made : {X : Type 0} (make : ℕ → Values → X) (items : List Item) (line : List ℕ) {fault : ℕ} {vs : Values}
    → Reads items line clean fault vs → make fault vs ≡ make (fault_of items line) (values_of items line)
made make items line r = made_after make items line clean r

-- Where nothing is kept: judging the items after a fault found before gives this fault.
pub record Judges (items : List Item) (line : List ℕ) (lowest fault : ℕ) : Type 0 where
  pub told : fault ≡ fault_from lowest items line

pub judged : {line : List ℕ} {lowest : ℕ} → Judges [] line lowest lowest
judged = record { told = refl }

-- one more item
pub past : {item : Item} {items : List Item} {line : List ℕ} {lowest next fault : ℕ}
    → next ≡ lower lowest (fault_at item line) → Judges items line next fault → Judges (item ∷ items) line lowest fault
past {item} {items} {line} {lowest} {next} {fault} e r = record { told = subst (λ (n : ℕ). fault ≡ fault_from n items line) e r.told }

-- several that another function judged
pub past-several : (items : List Item) {more : List Item} {line : List ℕ} {lowest next fault : ℕ}
    → next ≡ fault_from lowest items line → Judges more line next fault → Judges (items ++ more) line lowest fault
past-several items {more} {line} {lowest} e r = record {
  told = r.told ∙ ap (λ (n : ℕ). fault_from n more line) e ∙ sym (fault-parts items more line lowest);
}

-- all of them
pub judges : (items : List Item) (line : List ℕ) (lowest : ℕ) {fault : ℕ} → Judges items line lowest fault → fault ≡ fault_from lowest items line
judges items line lowest r = r.told
