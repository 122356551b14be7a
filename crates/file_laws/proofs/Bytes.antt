-- How many bytes an accepted file has at least: a P or V line reaches column 54, the point of its clock, an epoch line column 31 and a comment column 2, each with its
-- LF. So whatever is counted of a file is less than its bytes.
-- Assumes nothing.
use mathlib.Core.Path.{◌≡◌, refl, sym, ap, subst}
use mathlib.Core.Bool.{Bool, true, false, cond, ◌||◌, false≢true}
use mathlib.Core.List.{List, [], ◌∷◌}
use Prim.Native.Nat.{ℕ, suc, ◌+◌, ◌*◌, ◌≤◌}
use native.Mathlib.Omega.{arith}
use borrow.Author.Tests.{eqb-true}
use lib.Dec.{eqb}
use lib.ListN.{length}
use Rattle.layout.specs.Fault.{clean}
use Rattle.layout.specs.Kind.Kind.{clock, decimal}
use Rattle.layout.specs.Layout.{columns, fault_of}
use Rattle.layout.specs.Line.{padded}
use Rattle.lines.specs.Lines.{bytes_in, select}
use Rattle.record.specs.LineKinds.{comment_kind, epoch_kind, told_kind}
use Rattle.record.specs.Opening.{epoch_items, epoch_of}
use Rattle.record.specs.Plain.{comment_items}
use Rattle.record.specs.Rows.{shortest_row}
use Rattle.record.specs.Times.{date_fault}
use Rattle.header.specs.declared.types.Rules.{Rules}
use Rattle.record.specs.declared.types.LineKind.TheVariants as kind
use Rattle.file.specs.Kinds.{kind_in, of_kind}
use Rattle.file.specs.Plain.{is_comment_line, is_epoch_line, row_kind, is_row_line, note_kind, Plain, Accepted}
use Rattle.file.specs.Table.{row_lines}
use Rattle.layout.proofs.Again.{lower-clean}
use Rattle.lines.proofs.Each.{Each}
use Rattle.lines.proofs.Split.{bytes-in}
use Rattle.file_laws.proofs.Sorting.{row-kind, epoch-record, epoch-kind, comment-kind, note-kind}
use Rattle.file_laws.proofs.Selected.{kind-comments, epochs}
use Rattle.file_laws.proofs.Rule.{epochs-many}
use Rattle.file_laws.proofs.Clean.{record-clean, item-at}
use Rattle.file_laws.proofs.Reach.{reaches, decimal-reaches, symbol-reaches}
use Rattle.file_laws.proofs.Exact.{clock-point}
use Rattle.file_laws.proofs.Walk.{is_other, other-apart, Covers, every-line}

-- a P or V line has with its LF at least so many bytes: the point of its clock is no blank
pub row-long : (rules : Rules) (v : Bool) (identifier : ℕ) (l : List ℕ) → is_row_line rules v identifier l ≡ true → shortest_row ≤ suc (length l)
row-long rules v identifier l e =
    let point = clock-point rules v identifier l e in
    omega (arith, reaches l 53 (omega arith) (λ blank. omega (arith, point, blank)))

-- an epoch line at least 31
pub epoch-long : (rules : Rules) (at8 : ℕ) (l : List ℕ) → is_epoch_line rules at8 l ≡ true → 31 ≤ length l
epoch-long rules at8 l e =
    let line = padded l in
    let fault = (epoch_of line).fault in
    let sound : fault_of epoch_items line ≡ clean =
    (lower-clean (fault_of epoch_items line) (date_fault (epoch_of line).moment)
    (record-clean rules kind.Epoch fault l (epoch-record rules at8 l e))).0 in
    decimal-reaches l 21 31 (omega arith) (omega arith) (omega arith) 8 false 21 0 5_999_999_999 (omega arith)
    (item-at epoch_items 12 (columns 21 31 (decimal 8 0 5_999_999_999)) line clean (omega arith) sound)

-- a comment at least 2
pub comment-long : (rules : Rules) (l : List ℕ) → is_comment_line rules l ≡ true → 2 ≤ length l
comment-long rules l e =
    symbol-reaches l 47 42 4 0 (omega arith) (λ same. omega arith)
    (item-at comment_items 0 (columns 47 60 (clock 6)) (padded l) clean (omega arith) (record-clean rules kind.Comment (fault_of comment_items (padded l)) l e))

-- the bytes that a line of a kind has at least, where it is counted
abbrev pub weight : ℕ → ℕ
weight k = cond (eqb k 10 || eqb k 11) shortest_row (cond (eqb k 9) 32 (cond (eqb k 8) 3 0))

module _ (rules : Rules) where
  abbrev pub Long : List ℕ → Type 0
  Long l = weight (kind_in rules l) ≤ suc (length l)

  long : (k : ℕ) (l : List ℕ) → kind_in rules l ≡ k → weight k ≤ suc (length l) → Long l
  long k l e h = subst (λ (n : ℕ). weight n ≤ suc (length l)) (sym e) h

  -- each line of an accepted file is so long
  lengths : Covers rules Long
  lengths = record {
    row = λ v identifier l e. long (told_kind (row_kind v)) l (row-kind rules v identifier l e) (omega (arith, row-weight v, row-long rules v identifier l e));
    epoch = λ at8 l e. long 9 l (epoch-kind rules at8 l e) (omega (arith, epoch-long rules at8 l e));
    comment = λ l e. long 8 l (comment-kind rules l e) (omega (arith, comment-long rules l e));
    note = λ v l e. long (told_kind (note_kind v)) l (note-kind rules v l e) (omega (arith, note-weight v));
    other = λ l e. omega (arith, other-weight (kind_in rules l) e);
  }
    where
      note-weight : (v : Bool) → weight (told_kind (note_kind v)) ≡ 0
      note-weight true = refl
      note-weight false = refl

      row-weight : (v : Bool) → weight (told_kind (row_kind v)) ≡ shortest_row
      row-weight true = refl
      row-weight false = refl

      -- the kinds 8 to 11 are counted, and no other
      other-weight : (k : ℕ) → is_other k ≡ true → weight k ≡ 0
      other-weight k e = rw (other-apart k 10 e refl, other-apart k 11 e refl, other-apart k 9 e refl, other-apart k 8 e refl)

  -- what is counted of such lines is at most their bytes
  pub counted : (ls : List (List ℕ)) → Each Long ls
      → shortest_row * length (row_lines rules ls) + 32 * length (of_kind rules epoch_kind ls) + 3 * length (of_kind rules comment_kind ls) ≤ bytes_in ls
  unfolding select bytes_in
  counted [] p = omega arith
  counted (l ∷ ls) p =
      let k = kind_in rules l in
      go (eqb k 10 || eqb k 11) (eqb k 9) (eqb k 8)
      (λ e. ap (λ (n : ℕ). eqb n 10 || eqb n 11) (eqb-true k 9 e))
      (λ e. ap (λ (n : ℕ). eqb n 10 || eqb n 11) (eqb-true k 8 e))
      (λ e. ap (λ (n : ℕ). eqb n 9) (eqb-true k 8 e))
      p.0
      (counted ls p.1)
    where
      Rest' : Type 0
      Rest' = shortest_row * length (row_lines rules ls) + 32 * length (of_kind rules epoch_kind ls) + 3 * length (of_kind rules comment_kind ls) ≤ bytes_in ls

      go : (r e c : Bool) → (e ≡ true → r ≡ false) → (c ≡ true → r ≡ false) → (c ≡ true → e ≡ false) → cond r shortest_row (cond e 32 (cond c 3 0)) ≤ suc (length l) → Rest'
          → shortest_row * length (cond r (l ∷ row_lines rules ls) (row_lines rules ls))
          + 32 * length (cond e (l ∷ of_kind rules epoch_kind ls) (of_kind rules epoch_kind ls))
          + 3 * length (cond c (l ∷ of_kind rules comment_kind ls) (of_kind rules comment_kind ls))
          ≤ suc (length l) + bytes_in ls
      go true true c x y z h more = absurd (false≢true (sym (x refl)))
      go true false true x y z h more = absurd (false≢true (sym (y refl)))
      go true false false x y z h more = omega arith
      go false true true x y z h more = absurd (false≢true (sym (z refl)))
      go false true false x y z h more = omega arith
      go false false true x y z h more = omega arith
      go false false false x y z h more = omega arith

module _ {rules : Rules} {lines : List (List ℕ)} (p : Plain rules lines) where
  -- 55 bytes for each row, 32 for each epoch and 3 for each comment are in the file
  pub bytes-enough : shortest_row * length (row_lines rules lines) + 32 * epochs p + 3 * length p.comments ≤ bytes_in lines
  bytes-enough =
      omega (arith, counted rules lines (every-line rules (Long rules) (lengths rules) lines p), epochs-many p, ap length (kind-comments p))

-- the same of the bytes of an accepted file
pub file-bytes : {rules : Rules} {bytes : List ℕ} (a : Accepted rules bytes)
    → shortest_row * length (row_lines rules a.0) + 32 * epochs a.2 + 3 * length a.2.comments ≤ length bytes
file-bytes a = omega (arith, bytes-enough a.2, bytes-in a.0, ap length a.1)
