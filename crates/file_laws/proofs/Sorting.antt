-- The lines of an accepted file by their kinds: each part consists of lines of its kind, so selecting a kind gives that part.
-- Assumes nothing.
use mathlib.Core.Path.{◌≡◌, refl, sym, ap, ◌∙◌}
use mathlib.Core.Bool.{Bool, true, false, cond, not, ◌||◌}
use mathlib.Core.List.{List, [], ◌∷◌, ◌++◌}
use Prim.Native.Nat.{ℕ, suc, ◌+◌, ◌-◌}
use native.Mathlib.Omega.{arith}
use borrow.Author.Tests.{eqb-true}
use lib.Dec.{leb, eqb}
use lib.ListN.{length}
use Rattle.laws.specs.Texts.{every, is_printable}
use Rattle.layout.specs.Kind.{identifier_code}
use Rattle.layout.specs.Layout.{fault_of}
use Rattle.layout.specs.Line.{padded}
use Rattle.lines.specs.Lines.{select}
use Rattle.record.specs.Agrees.{instant_in}
use Rattle.record.specs.LineKinds.{told_kind, longest, comment_kind, epoch_kind}
use Rattle.record.specs.Opening.{epoch_of}
use Rattle.record.specs.Plain.{comment_items}
use Rattle.record.specs.Rows.{row_fault, cut}
use Rattle.record.specs.Notes.{note_fault}
use Rattle.record.specs.SlotLines.{more_of}
use Rattle.header.specs.declared.types.Rules.{Rules}
use Rattle.record.specs.declared.types.LineKind.{LineKind}
use Rattle.record.specs.declared.types.LineKind.TheVariants as kind
use Rattle.file.specs.Kinds.{kind_in, is_kind}
use Rattle.file.specs.Plain.{is_line, is_record, every_line, is_comment_line, is_epoch_line, row_kind, is_row_line, note_kind, is_note_line, are_notes, slots_of_kind, are_slots}
use Rattle.laws.proofs.Bools.{and_left, and_right}
use Rattle.lines.proofs.Each.{Each}
use Rattle.lines.proofs.Picking.{select-append}

-- Any test: where every line passes, all are selected; where none does, none.
module _ (test : List ℕ → Bool) where
  pub all-selected : (ls : List (List ℕ)) → Each (λ (l : List ℕ). test l ≡ true) ls → select test ls ≡ ls
  unfolding select
  all-selected [] p = refl
  all-selected (l ∷ ls) p = rw p.0 (ap (λ (more : List (List ℕ)). l ∷ more) (all-selected ls p.1))

  pub none-selected : (ls : List (List ℕ)) → Each (λ (l : List ℕ). test l ≡ false) ls → select test ls ≡ []
  unfolding select
  none-selected [] p = refl
  none-selected (l ∷ ls) p = rw p.0 (none-selected ls p.1)

-- a second test that no line passes adds nothing
pub other-selected : (test other : List ℕ → Bool) (ls : List (List ℕ)) → select other ls ≡ []
    → select (λ (l : List ℕ). test l || other l) ls ≡ select test ls
unfolding select
other-selected test other [] e = refl
other-selected test other (l ∷ ls) e = go (test l) (other l) refl (other-selected test other ls) e
  where
    either : List (List ℕ)
    either = select (λ (m : List ℕ). test m || other m) ls

    go : (t u : Bool) → other l ≡ u → (select other ls ≡ [] → either ≡ select test ls) → cond u (l ∷ select other ls) (select other ls) ≡ []
        → cond (t || u) (l ∷ either) either ≡ cond t (l ∷ select test ls) (select test ls)
    go true true is more none = absurd (let z : ◌≡◌ {A = ℕ} (suc (length (select other ls))) 0 = ap length none in omega arith)
    go false true is more none = absurd (let z : ◌≡◌ {A = ℕ} (suc (length (select other ls))) 0 = ap length none in omega arith)
    go true false is more none = ap (λ (ms : List (List ℕ)). l ∷ ms) (more none)
    go false false is more none = more none

-- the lines that pass a test and those that do not are together all of them
pub both-selected : (test : List ℕ → Bool) (ls : List (List ℕ)) → length (select test ls) + length (select (λ (l : List ℕ). not (test l)) ls) ≡ length ls
unfolding select
both-selected test [] = refl
both-selected test (l ∷ ls) = go (test l) (both-selected test ls)
  where
    Rest : Type 0
    Rest = length (select test ls) + length (select (λ (m : List ℕ). not (test m)) ls) ≡ length ls

    go : (t : Bool) → Rest
        → length (cond t (l ∷ select test ls) (select test ls)) + length (cond (not t) (l ∷ select (λ (m : List ℕ). not (test m)) ls) (select (λ (m : List ℕ). not (test m)) ls))
        ≡ suc (length ls)
    go true more = omega arith
    go false more = omega arith

module _ (rules : Rules) where
  -- a line of one kind is of no other
  pub one-kind : (k m : ℕ) (l : List ℕ) → is_kind rules k l ≡ true → is_kind rules m l ≡ true → k ≡ m
  one-kind k m l e f = sym (eqb-true (kind_in rules l) k e) ∙ eqb-true (kind_in rules l) m f

  -- a line that passes the test of its record is of that kind
  pub line-kind : (kind : LineKind) (l : List ℕ) → is_line rules kind l ≡ true → kind_in rules l ≡ told_kind kind
  line-kind kind l e =
      eqb-true (kind_in rules l) (told_kind kind)
      (and_right (leb (length l) (longest rules kind)) (is_kind rules (told_kind kind) l) (and_right (every is_printable l) _ e))

  pub record-kind : (kind : LineKind) (fault : ℕ) (l : List ℕ) → is_record rules kind fault l ≡ true → kind_in rules l ≡ told_kind kind
  record-kind kind fault l e = line-kind kind l (and_left (is_line rules kind l) (eqb fault 0) e)

  -- so are a P or V line, an epoch line and a comment
  pub row-record : (v : Bool) (identifier : ℕ) (l : List ℕ) → is_row_line rules v identifier l ≡ true → is_record rules (row_kind v) (row_fault v (padded l)) l ≡ true
  row-record v identifier l e = and_left (is_record rules (row_kind v) (row_fault v (padded l)) l) (eqb (identifier_code (cut 2 4 (padded l))) identifier) e

  pub row-kind : (v : Bool) (identifier : ℕ) (l : List ℕ) → is_row_line rules v identifier l ≡ true → kind_in rules l ≡ told_kind (row_kind v)
  row-kind v identifier l e = record-kind (row_kind v) (row_fault v (padded l)) l (row-record v identifier l e)

  pub epoch-record : (at8 : ℕ) (l : List ℕ) → is_epoch_line rules at8 l ≡ true → is_record rules kind.Epoch (epoch_of (padded l)).fault l ≡ true
  epoch-record at8 l e = and_left (is_record rules kind.Epoch (epoch_of (padded l)).fault l) (eqb (instant_in (epoch_of (padded l)).moment) at8) e

  pub epoch-kind : (at8 : ℕ) (l : List ℕ) → is_epoch_line rules at8 l ≡ true → kind_in rules l ≡ epoch_kind
  epoch-kind at8 l e = record-kind kind.Epoch (epoch_of (padded l)).fault l (epoch-record at8 l e)

  pub note-kind : (v : Bool) (l : List ℕ) → is_note_line rules v l ≡ true → kind_in rules l ≡ told_kind (note_kind v)
  note-kind v l e = record-kind (note_kind v) (note_fault v (padded l)) l e

  pub comment-kind : (l : List ℕ) → is_comment_line rules l ≡ true → kind_in rules l ≡ comment_kind
  comment-kind l e = record-kind kind.Comment (fault_of comment_items (padded l)) l e

  -- lines that are all of one kind
  abbrev pub Of : ℕ → List (List ℕ) → Type 0
  Of k ls = Each (λ (l : List ℕ). kind_in rules l ≡ k) ls

  pub records-kind : (kind : LineKind) (fault : List ℕ → ℕ) (ls : List (List ℕ)) → every_line (λ (l : List ℕ). is_record rules kind (fault l) l) ls ≡ true
      → Of (told_kind kind) ls
  unfolding every_line
  records-kind kind fault [] e = tt
  records-kind kind fault (l ∷ ls) e = (
    record-kind kind (fault l) l (and_left (is_record rules kind (fault l) l) _ e),
    records-kind kind fault ls (and_right (is_record rules kind (fault l) l) _ e),
  )

  -- what stands after a row is EP or EV
  pub notes-kind : (v : Bool) (ls : List (List ℕ)) → are_notes rules v ls ≡ true → Of (told_kind (note_kind v)) ls
  notes-kind v ls e = records-kind (note_kind v) (λ (l : List ℕ). note_fault v (padded l)) ls (and_right (leb (length ls) 1) (every_line (is_note_line rules v) ls) e)

  pub slots-kind : (accuracies : Bool) (left : ℕ) (ls : List (List ℕ)) → are_slots rules accuracies left ls ≡ true
      → Of (told_kind (slots_of_kind accuracies)) ls
  unfolding are_slots
  slots-kind accuracies left [] e = tt
  slots-kind accuracies left (l ∷ ls) e =
      let fault = (more_of accuracies left (padded l)).fault in (
        record-kind (slots_of_kind accuracies) fault l (and_left (is_record rules (slots_of_kind accuracies) fault l) _ e),
        slots-kind accuracies (left - 17) ls (and_right (is_record rules (slots_of_kind accuracies) fault l) _ e),
      )

  -- the lines whose kind passes a test, such as P, or P and V
  module _ (pick : ℕ → Bool) where
    abbrev pub picked : List (List ℕ) → List (List ℕ)
    picked ls = select (λ (l : List ℕ). pick (kind_in rules l)) ls

    -- of lines that are all of one kind it is all or none, since a line has one kind
    pub picked_of : (k : ℕ) (ls : List (List ℕ)) → Of k ls → picked ls ≡ cond (pick k) ls []
    picked_of k ls p = go (pick k) refl
      where
        each : (t : Bool) → pick k ≡ t → (ms : List (List ℕ)) → Of k ms → Each (λ (l : List ℕ). pick (kind_in rules l) ≡ t) ms
        each t e [] q = tt
        each t e (m ∷ ms) q = (ap pick q.0 ∙ e, each t e ms q.1)

        go : (t : Bool) → pick k ≡ t → picked ls ≡ cond t ls []
        go true e = all-selected (λ (l : List ℕ). pick (kind_in rules l)) ls (each true e ls p)
        go false e = none-selected (λ (l : List ℕ). pick (kind_in rules l)) ls (each false e ls p)

    -- so lines of one kind with others after them
    pub picked-part : (k : ℕ) (ls more : List (List ℕ)) → Of k ls → picked (ls ++ more) ≡ cond (pick k) ls [] ++ picked more
    picked-part k ls more p =
        select-append (λ (l : List ℕ). pick (kind_in rules l)) ls more ∙ ap (λ (a : List (List ℕ)). a ++ picked more) (picked_of k ls p)
