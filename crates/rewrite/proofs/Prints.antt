-- What is printed, case by case, and that what was printed is printed again as it is.
-- Assumes nothing.
use mathlib.Core.Path.{◌≡◌, sym, ap, subst, ◌∙◌}
use mathlib.Core.List.{List}
use Prim.Native.Nat.{ℕ, ◌≤◌, ◌<◌}
use native.Mathlib.Omega.{arith}
use borrow.Author.Tests.{le-leb, lt-leb}
use lib.Dec.{leb}
use lib.ListN.{length}
use Rattle.laws.proofs.Bools.{and-false}
use Rattle.header.specs.Versions.{rules_in}
use Rattle.scan.specs.Run.{IsFile, AnyFile}
use Rattle.reader.specs.Reading.{file_of}
use Rattle.scan_laws.proofs.Files.{accepts-exactly}
use Rattle.scan_laws.proofs.Which.{told-again}
use Rattle.canon_laws.specs.Held.{rewritten}
use Rattle.canon_laws.proofs.Versions.{told-proper}
use Rattle.canon_laws.proofs.Rewriting as rewriting
use Rattle.theorems.specs.Files.{header}
use Rattle.header.specs.declared.types.Header.{Header}
use Rattle.header.specs.declared.types.Rules.{Rules}
use Rattle.scan.specs.Front as front
use Rattle.rewrite.specs.Printed.{most_bytes, most_comments, too_long, refused_text, form_of, answered, printed}
use Rattle.rewrite.proofs.Answering.{printed-long, printed-short}

-- More than 65,536 bytes are too long, whatever they are;
pub prints-too-long : (bytes : List ℕ) → most_bytes < length bytes → printed bytes ≡ too_long
prints-too-long bytes long = sym (printed-long bytes long)

module _ (bytes : List ℕ) (short : length bytes ≤ most_bytes) where
  -- else a file that is refused is answered by its number, line and column,
  pub prints-refusal : (number line column : ℕ) → file_of (rules_in bytes) bytes ≡ front.Refused number line column → printed bytes ≡ refused_text number line column
  unfolding answered
  prints-refusal number line column e = sym (printed-short bytes short) ∙ ap (answered bytes) e

  module _ (accepted : IsFile (rules_in bytes) bytes) where
    -- one that is accepted and has more than 800 comments by 12,
    pub prints-12 : most_comments < (header (rules_in bytes) bytes).comments → printed bytes ≡ refused_text 12 0 0
    unfolding answered
    prints-12 many =
        sym (printed-short bytes short) ∙ ap (answered bytes) accepted.1 ∙ rw (lt-leb (header (rules_in bytes) bytes).comments most_comments many)

    -- as is one whose form has more than 65,536 bytes,
    pub prints-12-long : most_bytes < length (rewritten (rules_in bytes) bytes) → printed bytes ≡ refused_text 12 0 0
    unfolding answered
    prints-12-long long =
        sym (printed-short bytes short)
        ∙ ap (answered bytes) accepted.1
        ∙ rw (lt-leb (length (rewritten (rules_in bytes) bytes)) most_bytes long, and-false (leb (header (rules_in bytes) bytes).comments most_comments))

    -- and any other by its form.
    pub prints-form : (header (rules_in bytes) bytes).comments ≤ most_comments → length (rewritten (rules_in bytes) bytes) ≤ most_bytes → printed bytes ≡ rewritten (rules_in bytes) bytes
    unfolding answered
    prints-form few fits =
        sym (printed-short bytes short)
        ∙ ap (answered bytes) accepted.1
        ∙ rw (le-leb (header (rules_in bytes) bytes).comments most_comments few, le-leb (length (rewritten (rules_in bytes) bytes)) most_bytes fits)

-- REWRITTEN TWICE: a form that was printed is an accepted file of the same version, and taken in again it is printed as it is.
pub prints-again : (bytes : List ℕ) → AnyFile bytes → (header (rules_in bytes) bytes).comments ≤ most_comments → length (form_of bytes) ≤ most_bytes
    → printed (form_of bytes) ≡ form_of bytes
prints-again bytes accepted few fits =
    let rules = rules_in bytes in
    let proper = told-proper bytes in
    let form = form_of bytes in
    let file = (accepts-exactly rules proper.sound bytes).0 accepted in
    let again : IsFile rules form = (accepts-exactly rules proper.sound form).1 (rewriting.rewritten-accepted rules proper bytes file) in
    let own : rules_in form ≡ rules = told-again bytes form again in
    let same : header rules form ≡ header rules bytes = (rewriting.rewritten-holds rules proper bytes file).header_is in
    let twice : form_of form ≡ form = ap (λ (k : Rules). rewritten k form) own ∙ rewriting.rewritten-twice rules proper bytes file in
    let said : (header (rules_in form) form).comments ≡ (header rules bytes).comments =
    ap (λ (k : Rules). (header k form).comments) own ∙ ap (λ (h : Header). h.comments) same in
    let told : AnyFile form = subst (λ (k : Rules). IsFile k form) (sym own) again in
    prints-form form fits told (omega arith) (omega (arith, ap length twice)) ∙ twice
