-- Every line of an accepted file: what holds of each P, V, epoch and comment line that passes its test, and of each line of another kind, holds
-- of all.
-- Assumes nothing.
use mathlib.Core.Path.{◌≡◌, refl, sym, ap, subst, ◌∙◌}
use mathlib.Core.Bool.{Bool, true, false, ◌||◌, false≢true}
use mathlib.Core.List.{List, [], ◌∷◌, ◌++◌}
use Prim.Native.Nat.{ℕ, zero, suc, ◌+◌}
use borrow.Author.Tests.{ne_eqb}
use lib.Dec.{leb, eqb}
use lib.ListN.{length}
use Rattle.laws.specs.Tests.{within}
use Rattle.record.specs.LineKinds.{first_kind, second_kind, satellites_kind, accuracies_kind, characters_kind, floats_kind, integers_kind, end_kind}
use Rattle.header.specs.declared.types.Rules.{Rules}
use Rattle.file.specs.Kinds.{kind_in}
use Rattle.file.specs.Plain.{every_line, is_comment_line, is_epoch_line, is_row_line, is_note_line, Noted, Rest, Rows, Epochs, Plain}
use Rattle.laws.proofs.Bools.{and_left, and_right}
use Rattle.lines.proofs.Each.{Each, each_append, each_weaken}
use Rattle.file_laws.proofs.Sorting.{Of}
use Rattle.file_laws.proofs.Selected.{velocities, identifiers, interval8, epochs, start8, first-kind, second-kind, identifiers-kind, accuracies-kind, characters-kind, floats-kind, integers-kind, last-kind}

-- the kinds of the other lines: the header without its comments, EOF
abbrev pub is_other : ℕ → Bool
is_other k = within first_kind integers_kind k || eqb k end_kind

pub other-apart : (k i : ℕ) → is_other k ≡ true → is_other i ≡ false → eqb k i ≡ false
other-apart k i e t = ne_eqb k i (λ same. false≢true (sym t ∙ ap is_other (sym same) ∙ e))

-- what holds of each line that may stand in an accepted file
pub record Covers (rules : Rules) (holds : List ℕ → Type 0) : Type 0 where
  pub row : (v : Bool) (identifier : ℕ) (l : List ℕ) → is_row_line rules v identifier l ≡ true → holds l
  pub note : (v : Bool) (l : List ℕ) → is_note_line rules v l ≡ true → holds l
  pub epoch : (at8 : ℕ) (l : List ℕ) → is_epoch_line rules at8 l ≡ true → holds l
  pub comment : (l : List ℕ) → is_comment_line rules l ≡ true → holds l
  pub other : (l : List ℕ) → is_other (kind_in rules l) ≡ true → holds l

module _ (rules : Rules) (holds : List ℕ → Type 0) (c : Covers rules holds) where
  of_other : (k : ℕ) (ls : List (List ℕ)) → is_other k ≡ true → Of rules k ls → Each holds ls
  of_other k ls t p = each_weaken (λ (l : List ℕ). kind_in rules l ≡ k) holds (λ l e. c.other l (ap is_other e ∙ t)) ls p

  comments-hold : (ls : List (List ℕ)) → every_line (is_comment_line rules) ls ≡ true → Each holds ls
  unfolding every_line
  comments-hold [] e = tt
  comments-hold (l ∷ ls) e = (
    c.comment l (and_left (is_comment_line rules l) (every_line (is_comment_line rules) ls) e),
    comments-hold ls (and_right (is_comment_line rules l) (every_line (is_comment_line rules) ls) e),
  )

  notes-hold : (v : Bool) (ls : List (List ℕ)) → every_line (is_note_line rules v) ls ≡ true → Each holds ls
  unfolding every_line
  notes-hold v [] e = tt
  notes-hold v (l ∷ ls) e = (
    c.note v l (and_left (is_note_line rules v l) (every_line (is_note_line rules v) ls) e),
    notes-hold v ls (and_right (is_note_line rules v l) (every_line (is_note_line rules v) ls) e),
  )

  noted-hold : (v : Bool) (identifier : ℕ) (ls : List (List ℕ)) → Noted rules v identifier ls → Each holds ls
  noted-hold v identifier ls s =
      let notes = notes-hold v s.notes (and_right (leb (length s.notes) 1) (every_line (is_note_line rules v) s.notes) s.are-notes) in
      let both : Each holds (s.row ∷ s.notes) = (c.row v identifier s.row s.is-row, notes) in
      subst (Each holds) (sym s.lines_are) both

  rest-hold : (v : Bool) (identifier : ℕ) (ls : List (List ℕ)) → Rest rules v identifier ls → Each holds ls
  rest-hold true identifier ls r = noted-hold true identifier ls r
  rest-hold false identifier ls r = subst (Each holds) (sym r) tt

  rows-hold : (velocity : Bool) (identifiers : List ℕ) (ls : List (List ℕ)) → Rows rules velocity identifiers ls → Each holds ls
  rows-hold velocity [] ls r = subst (Each holds) (sym r) tt
  rows-hold velocity (identifier ∷ identifiers) ls r =
      let s = r.3 in
      let own : Each holds (s.position ++ s.rest) =
      each_append holds s.position s.rest
      (noted-hold false identifier s.position s.is-position)
      (rest-hold velocity identifier s.rest s.is-rest) in
      let more = rows-hold velocity identifiers r.1 r.4 in
      subst (Each holds) (sym r.2) (each_append holds r.0 r.1 (subst (Each holds) (sym s.lines_are) own) more)

  epochs-hold : (velocity : Bool) (identifiers : List ℕ) (interval8 n at8 : ℕ) (ls : List (List ℕ)) → Epochs rules velocity identifiers interval8 n at8 ls → Each holds ls
  epochs-hold velocity identifiers interval8 zero at8 ls e = subst (Each holds) (sym e) tt
  epochs-hold velocity identifiers interval8 (suc n) at8 ls e =
      let rest : Each holds (e.1 ++ e.2) =
      each_append holds e.1 e.2 (rows-hold velocity identifiers e.1 e.5) (epochs-hold velocity identifiers interval8 n (at8 + interval8) e.2 e.6) in
      let all : Each holds (e.0 ∷ (e.1 ++ e.2)) = (c.epoch at8 e.0 e.4, rest) in
      subst (Each holds) (sym e.3) all

  -- the law of every accepted file
  pub every-line : (lines : List (List ℕ)) → Plain rules lines → Each holds lines
  every-line lines p =
      let l9 = p.epochs ++ (p.last ∷ []) in
      let l8 = p.comments ++ l9 in
      let l7 = p.integers ∷ p.integers' ∷ l8 in
      let l6 = p.bases ∷ p.floats ∷ l7 in
      let l5 = p.descriptor ∷ p.characters ∷ l6 in
      let l4 = p.accuracies ++ l5 in
      let l3 = p.count ∷ (p.slots ++ l4) in
      let e9 = join p.epochs (p.last ∷ [])
      (epochs-hold (velocities p) (identifiers p) (interval8 p) (epochs p) (start8 p) p.epochs p.are-epochs)
      (of_other end_kind (p.last ∷ []) refl (last-kind p)) in
      let e8 = join p.comments l9 (comments-hold p.comments p.are-comments) e9 in
      let e7 = join (p.integers ∷ p.integers' ∷ []) l8 (of_other integers_kind (p.integers ∷ p.integers' ∷ []) refl (integers-kind p)) e8 in
      let e6 = join (p.bases ∷ p.floats ∷ []) l7 (of_other floats_kind (p.bases ∷ p.floats ∷ []) refl (floats-kind p)) e7 in
      let e5 = join (p.descriptor ∷ p.characters ∷ []) l6 (of_other characters_kind (p.descriptor ∷ p.characters ∷ []) refl (characters-kind p)) e6 in
      let e4 = join p.accuracies l5 (of_other accuracies_kind p.accuracies refl (accuracies-kind p)) e5 in
      let e3 = join (p.count ∷ p.slots) l4 (of_other satellites_kind (p.count ∷ p.slots) refl (identifiers-kind p)) e4 in
      let e2 = join (p.second ∷ []) l3 (of_other second_kind (p.second ∷ []) refl (second-kind p)) e3 in
      subst (Each holds) (sym p.lines_are) (join (p.first ∷ []) (p.second ∷ l3) (of_other first_kind (p.first ∷ []) refl (first-kind p)) e2)
    where
      join : (a b : List (List ℕ)) → Each holds a → Each holds b → Each holds (a ++ b)
      join = each_append holds
