-- The column of a refusal, by its number. 02: "the byte for 2, column 81 for 3, for 5 the unused column or the placeholder's first, the field's first column
-- for 6 and 7 (column 4 for any fault of year, month or day), otherwise 0. Several faults of the deciding number: the leftmost."
-- Assumes nothing.
use mathlib.Core.Path.{◌≡◌, refl, subst, ap, ◌∙◌}
use mathlib.Core.Logic.{◌⊎◌, inl, inr}
use mathlib.Core.Bool.{Bool, true, false, cond}
use mathlib.Core.List.{List}
use Prim.Native.Nat.{ℕ, ◌+◌, ◌-◌, ◌≤◌, ◌<◌, min}
use native.Mathlib.Omega.{arith}
use lib.Dec.{eqb}
use lib.ListN.{length}
use Rattle.layout.specs.Fault.{keyed}
use Rattle.layout.specs.Kind.{is_unused}
use Rattle.layout.specs.Layout.{Item, fault_at}
use Rattle.lines.specs.Lines.{lines_of}
use Rattle.header.specs.Rules.{c, d}
use Rattle.header.specs.declared.types.Rules.{Rules}
use Rattle.record.specs.LineKinds.{comment_kind, told_kind, longest}
use Rattle.file.specs.Kinds.{is_kind}
use Rattle.record.specs.declared.types.LineKind.{LineKind}
use Rattle.record.specs.declared.types.LineKind.TheVariants as kind
use Rattle.reader.specs.Reading.{front_of}
use Rattle.scan.specs.Run.{Going}
use Rattle.scan.specs.Front as front
use Rattle.machine.specs.declared.types.State.{State}
use Rattle.scan_laws.specs.Earned.{Among, items_at, kind_at, byte_at, field_number, field_column, Before}
use Rattle.scan_laws.specs.Earned.Earns.{by_byte, by_length, by_kind, by-unused, by_field, by-check}
use Rattle.scan_laws.proofs.Blamed.{stands_right, layouts-right, among-right, unused-named, field-earned}
use Rattle.scan_laws.proofs.Lowest.{two-column, three-column, field-column, no-column, earned-numbered}
use Rattle.theorems.specs.Faults.{after, Earned, Decided, FirstFault, refused_line, Outside, InColumns}
use Rattle.theorems.specs.Room.{found_in}
use Rattle.theorems.proofs.Judging.{refused-first, Followed, whole-refused}
use Rattle.canon_laws.specs.Held.{Proper}
use Rattle.canon_laws.proofs.Versions.{c-proper, d-proper}

-- a line may have 80 characters, a comment the columns that its version allows
longest-told : (rules : Rules) (k : LineKind) → longest rules k ≡ cond (eqb (told_kind k) comment_kind) (min 80 rules.comment_columns) 80
longest-told rules kind.Other = refl
longest-told rules kind.First = refl
longest-told rules kind.Second = refl
longest-told rules kind.Satellites = refl
longest-told rules kind.Accuracies = refl
longest-told rules kind.Characters = refl
longest-told rules kind.Floats = refl
longest-told rules kind.Integers = refl
longest-told rules kind.Comment = refl
longest-told rules kind.Epoch = refl
longest-told rules kind.Position = refl
longest-told rules kind.Velocity = refl
longest-told rules kind.PositionCorrelation = refl
longest-told rules kind.VelocityCorrelation = refl
longest-told rules kind.EndOfFile = refl

module _ {rules : Rules} (proper : Proper rules) where
  module _ (bytes : List ℕ) (number line column : ℕ) where
    -- it is decided by this fault, or the lines have run out
    abbrev Why : Type 0
    Why = ((number ≡ 1) × (column ≡ 0)) ⊎ Decided rules bytes (line - 1) number column

    why : front_of rules bytes ≡ front.Refused number line column → Why
    why e = go (refused-first proper bytes number line column e)
      where
        go : FirstFault rules bytes number line column → Why
        go f = by f.why
          where
            place : f.k ≡ line - 1
            place = omega (arith, f.line-is)

            by : ((f.k ≡ length (lines_of bytes)) × (number ≡ 1) × (column ≡ 0)) ⊎ ((f.k < length (lines_of bytes)) × Decided rules bytes f.k number column) → Why
            by (inl (_, n, c)) = inl (n, c)
            by (inr (_, decided)) = inr (subst (λ (k : ℕ). (Decided rules) bytes k number column) place decided)

    -- of a whole file it is that of its front, or 11 and no column
    why-found : (whole : Bool) → found_in rules whole bytes ≡ front.Refused number line column → Why ⊎ ((number ≡ 11) × (column ≡ 0))
    why-found false e = inl (why e)
    why-found true e = go (whole-refused proper bytes number line column e)
      where
        go : (front_of rules bytes ≡ front.Refused number line column)
            ⊎ Followed rules bytes number line column
            → Why ⊎ ((number ≡ 11) × (column ≡ 0))
        go (inl f) = inl (why f)
        go (inr (t, _, _, n, _, c)) = inr (n, c)

    module _ (whole : Bool) (found : found_in rules whole bytes ≡ front.Refused number line column) where
      abbrev text : List ℕ
      text = refused_line bytes line

      abbrev g : Going
      g = after rules bytes (line - 1)

      -- a number other than 1 and 11 is that of the fault which decides the line
      by-line : (number ≡ 1 → ⊥) → (number ≡ 11 → ⊥) → Decided rules bytes (line - 1) number column
      by-line not-one not-eleven = go (why-found whole found)
        where
          go : Why ⊎ ((number ≡ 11) × (column ≡ 0)) → Decided rules bytes (line - 1) number column
          go (inl (inl (one, _))) = absurd (not-one one)
          go (inl (inr decided)) = decided
          go (inr (eleven, _)) = absurd (not-eleven eleven)

      -- 2: the first byte of the line that is outside 32 to 126,
      pub two-byte : number ≡ 2 → Outside text column × ((e : ℕ) → Outside text e → column ≤ e)
      two-byte n = (
        two-column rules g.state g.identifiers text column (subst (λ (m : ℕ). (Earned rules) bytes (line - 1) m column) n decided.earned),
        λ e outside. left e (decided.before 2 e (by_byte outside.0 outside.1 outside.2 refl)),
      )
        where
          decided : Decided rules bytes (line - 1) number column
          decided = by-line (λ one. omega arith) (λ eleven. omega arith)

          left : (e : ℕ) → Before number column 2 e → column ≤ e
          left e (inl less) = absurd (omega arith)
          left e (inr (_, so)) = so

      -- 3: column 81, or of a `/*` line the first after those that its version allows,
      pub three-after : number ≡ 3 → column ≡ cond (is_kind rules comment_kind text) (min 80 rules.comment_columns) 80 + 1
      three-after n =
          let decided = by-line (λ one. omega arith) (λ eleven. omega arith) in
          three-column rules g.state g.identifiers text column (subst (λ (m : ℕ). Earned rules bytes (line - 1) m column) n decided.earned)
          ∙ ap (λ (m : ℕ). m + 1) (longest-told rules (kind_at rules text))

      -- 5, 6 and 7: one of the 80 columns, by what stands in them,
      pub field-80 : 5 ≤ number → number ≤ 7 → (1 ≤ column) × (column ≤ 80) × InColumns rules bytes (line - 1) number column
      field-80 p q =
          let decided = by-line (λ one. omega arith) (λ eleven. omega arith) in
          let columns = field-column rules g.state g.identifiers text number column p q decided.earned in
          (columns.0, columns.1, by decided.earned)
        where
          by : Earned rules bytes (line - 1) number column → InColumns rules bytes (line - 1) number column
          by (by_byte _ _ _ n) = absurd (omega arith)
          by (by_length _ n _) = absurd (omega arith)
          by (by_kind _ n _) = absurd (omega arith)
          by (by-unused b n) = inl (b, n)
          by (by_field w) = inr (inl w)
          by (by-check f) = inr (inr f)

      -- every other number: none.
      pub others-none : (number ≡ 1) ⊎ ((number ≡ 4) ⊎ (8 ≤ number)) → column ≡ 0
      others-none other = go other (why-found whole found)
        where
          go : (number ≡ 1) ⊎ ((number ≡ 4) ⊎ (8 ≤ number)) → Why ⊎ ((number ≡ 11) × (column ≡ 0)) → column ≡ 0
          go _ (inl (inl (_, c))) = c
          go _ (inr (_, c)) = c
          go (inr h) (inl (inr decided)) = no-column rules g.state g.identifiers text number column h decided.earned
          go (inl one) (inl (inr decided)) = absurd (omega (arith, (earned-numbered rules g.state g.identifiers text number column decided.earned).0))

-- So in SP3-d it is column 81 of every line,
pub three-81 : (bytes : List ℕ) (number line column : ℕ) (whole : Bool) → found_in d whole bytes ≡ front.Refused number line column → number ≡ 3 → column ≡ 81
three-81 bytes number line column whole found n =
    three-after d-proper bytes number line column whole found n ∙ either (is_kind d comment_kind (refused_line bytes line))
  where
    either : (t : Bool) → cond t 80 80 + 1 ≡ 81
    either true = refl
    either false = refl

-- and in SP3-c column 61 of a `/*` line, 81 of any other.
pub three-61 : (bytes : List ℕ) (number line column : ℕ) (whole : Bool) → found_in c whole bytes ≡ front.Refused number line column → number ≡ 3
    → column ≡ cond (is_kind c comment_kind (refused_line bytes line)) 61 81
three-61 bytes number line column whole found n =
    three-after c-proper bytes number line column whole found n ∙ either (is_kind c comment_kind (refused_line bytes line))
  where
    either : (t : Bool) → cond t 60 80 + 1 ≡ cond t 61 81
    either true = refl
    either false = refl

-- WHICH COLUMN EACH FIELD BLAMES, over every layout: an unused column the one that is not blank, any other field the one that 02 gives its number.
module _ (k : LineKind) (rules : Rules) (s : State) (line : List ℕ) (item : Item) (listed : Among item (items_at k rules s line)) where
  right : stands_right k item ≡ true
  right = among-right k (items_at k rules s line) item listed (layouts-right k rules s line)

  pub unused-blames : is_unused item.kind ≡ true → 0 < fault_at item line
      → (column : ℕ) × (item.first ≤ column) × (column ≤ item.last) × (eqb (byte_at column line) 32 ≡ false) × (fault_at item line ≡ keyed 5 column)
  unused-blames u some = unused-named k item line right u some

  pub field-blames : is_unused item.kind ≡ false → 0 < field_number item line
      → fault_at item line ≡ keyed (field_number item line) (field_column k item (field_number item line))
  field-blames u some = (field-earned k item line right u some).2
