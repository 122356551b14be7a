-- EP and EV lines are skipped: of two files that differ only in what stands in them one is accepted where the other is.
-- Assumes nothing.
use mathlib.Core.Path.{◌≡◌, refl, sym, ap, subst, ◌∙◌}
use mathlib.Core.Logic.{inl, inr}
use mathlib.Core.Bool.{Bool, true, false, false≢true}
use mathlib.Core.List.{List, [], ◌∷◌, ◌++◌}
use Prim.Native.Nat.{ℕ, zero, suc, ◌+◌}
use native.Mathlib.Omega.{arith}
use lib.Dec.{leb}
use lib.ListN.{length}
use Rattle.laws.specs.Tests.{within}
use Rattle.record.specs.LineKinds.{first_kind, comment_kind, position_correlation_kind, velocity_correlation_kind, told_kind}
use Rattle.header.specs.declared.types.Rules.{Rules}
use Rattle.file.specs.Kinds.{kind_in}
use Rattle.file.specs.Plain.{every_line, row_kind, is_row_line, is_note_line, Noted, Rest, Satellite, Rows, Epochs, Plain}
use Rattle.laws.proofs.Bools.{and_left, and_right, and_both}
use Rattle.laws.proofs.Bounds.{within-true, below-within}
use Rattle.lines.proofs.Each.{Each, each_weaken}
use Rattle.file_laws.proofs.Sorting.{note-kind, row-kind, epoch-kind}
use Rattle.file_laws.proofs.Selected.{velocities, identifiers, interval8, epochs, start8, last-kind}
use Rattle.file_laws.proofs.Instants.{header, header-with, three-parts, header-kinds}
use Rattle.file_laws.proofs.Notes.{beside-turned, SameLine, SameBut}

module _ (rules : Rules) where
  -- lines that stand before others
  record Divided (x y b : List (List ℕ)) : Type 0 where
    front : List (List ℕ)
    back : List (List ℕ)
    lines_are : b ≡ front ++ back
    same-front : SameBut rules x front
    same_back : SameBut rules y back

  divided : (x y b : List (List ℕ)) → SameBut rules (x ++ y) b → Divided x y b
  divided [] y b s = record { front = []; back = b; lines_are = refl; same-front = tt; same_back = s }
  divided (l ∷ x) y [] s = absurd s
  divided (l ∷ x) y (m ∷ b) s =
      let more = divided x y b s.1 in
      record {
        front = m ∷ more.front;
        back = more.back;
        lines_are = ap (λ (ls : List (List ℕ)). m ∷ ls) more.lines_are;
        same-front = (s.0, more.same-front);
        same_back = more.same_back;
      }

  -- a line of another kind is the same
  abbrev Ordinary : List ℕ → Type 0
  Ordinary l = within position_correlation_kind velocity_correlation_kind (kind_in rules l) ≡ false

  same_line : (l m : List ℕ) → Ordinary l → SameLine rules l m → l ≡ m
  same_line l m o (inl e) = e
  same_line l m o (inr (inl both)) = absurd (false≢true (sym o ∙ ap (within position_correlation_kind velocity_correlation_kind) (note-kind rules false l both.0)))
  same_line l m o (inr (inr both)) = absurd (false≢true (sym o ∙ ap (within position_correlation_kind velocity_correlation_kind) (note-kind rules true l both.0)))

  same_lines : (a b : List (List ℕ)) → Each Ordinary a → SameBut rules a b → a ≡ b
  same_lines [] [] o s = refl
  same_lines [] (m ∷ b) o s = absurd s
  same_lines (l ∷ a) [] o s = absurd s
  same_lines (l ∷ a) (m ∷ b) o s = rw (same_line l m o.0 s.0, same_lines a b o.1 s.1)

  same_length : (a b : List (List ℕ)) → SameBut rules a b → length a ≡ length b
  same_length [] [] s = refl
  same_length [] (m ∷ b) s = absurd s
  same_length (l ∷ a) [] s = absurd s
  same_length (l ∷ a) (m ∷ b) s = ap suc (same_length a b s.1)

  no_more : (b : List (List ℕ)) → SameBut rules [] b → b ≡ []
  no_more [] s = refl
  no_more (m ∷ b) s = absurd s

  same_first : (l : List ℕ) (a b : List (List ℕ)) → Ordinary l → SameBut rules (l ∷ a) b → (rest : List (List ℕ)) × (b ≡ l ∷ rest) × SameBut rules a rest
  same_first l a [] o s = absurd s
  same_first l a (m ∷ b) o s = (b, ap (λ (x : List ℕ). x ∷ b) (sym (same_line l m o s.0)), s.1)

  -- a note stays a note
  note-line : (v : Bool) (l m : List ℕ) → is_note_line rules v l ≡ true → SameLine rules l m → is_note_line rules v m ≡ true
  note-line v l m h (inl e) = subst (λ (x : List ℕ). is_note_line rules v x ≡ true) e h
  note-line true l m h (inr (inl both)) = let z : ◌≡◌ {A = ℕ} 13 12 = sym (note-kind rules true l h) ∙ note-kind rules false l both.0 in absurd (omega arith)
  note-line false l m h (inr (inl both)) = both.1
  note-line true l m h (inr (inr both)) = both.1
  note-line false l m h (inr (inr both)) = let z : ◌≡◌ {A = ℕ} 12 13 = sym (note-kind rules false l h) ∙ note-kind rules true l both.0 in absurd (omega arith)

  note-lines : (v : Bool) (a b : List (List ℕ)) → every_line (is_note_line rules v) a ≡ true → SameBut rules a b → every_line (is_note_line rules v) b ≡ true
  unfolding every_line
  note-lines v [] [] h s = refl
  note-lines v [] (m ∷ b) h s = absurd s
  note-lines v (l ∷ a) [] h s = absurd s
  note-lines v (l ∷ a) (m ∷ b) h s =
      and_both (is_note_line rules v m) (every_line (is_note_line rules v) b)
      (note-line v l m (and_left (is_note_line rules v l) (every_line (is_note_line rules v) a) h) s.0)
      (note-lines v a b (and_right (is_note_line rules v l) (every_line (is_note_line rules v) a) h) s.1)

  -- so do the lines of a satellite, of an epoch and of all epochs
  row-ordinary : (v : Bool) (identifier : ℕ) (l : List ℕ) → is_row_line rules v identifier l ≡ true → Ordinary l
  row-ordinary v identifier l e =
      ap (within position_correlation_kind velocity_correlation_kind) (row-kind rules v identifier l e) ∙ go v
    where
      go : (t : Bool) → within position_correlation_kind velocity_correlation_kind (told_kind (row_kind t)) ≡ false
      go true = refl
      go false = refl

  same_noted : (v : Bool) (identifier : ℕ) (a b : List (List ℕ)) → Noted rules v identifier a → SameBut rules a b → Noted rules v identifier b
  same_noted v identifier a b n s =
      let more = same_first n.row n.notes b (row-ordinary v identifier n.row n.is-row) (subst (λ (ls : List (List ℕ)). SameBut rules ls b) n.lines_are s) in
      let few : leb (length more.0) 1 ≡ true =
      ap (λ (k : ℕ). leb k 1) (sym (same_length n.notes more.0 more.2))
      ∙ and_left (leb (length n.notes) 1) (every_line (is_note_line rules v) n.notes) n.are-notes in
      record {
        row = n.row;
        notes = more.0;
        lines_are = more.1;
        is-row = n.is-row;
        are-notes =
            and_both (leb (length more.0) 1) (every_line (is_note_line rules v) more.0) few
            (note-lines v n.notes more.0 (and_right (leb (length n.notes) 1) (every_line (is_note_line rules v) n.notes) n.are-notes) more.2);
      }

  same_rest : (v : Bool) (identifier : ℕ) (a b : List (List ℕ)) → Rest rules v identifier a → SameBut rules a b → Rest rules v identifier b
  same_rest true identifier a b r s = same_noted true identifier a b r s
  same_rest false identifier a b r s = no_more b (subst (λ (ls : List (List ℕ)). SameBut rules ls b) r s)

  same-satellite : (v : Bool) (identifier : ℕ) (a b : List (List ℕ)) → Satellite rules v identifier a → SameBut rules a b → Satellite rules v identifier b
  same-satellite v identifier a b t s =
      let d = divided t.position t.rest b (subst (λ (ls : List (List ℕ)). SameBut rules ls b) t.lines_are s) in
      record {
        position = d.front;
        rest = d.back;
        lines_are = d.lines_are;
        is-position = same_noted false identifier t.position d.front t.is-position d.same-front;
        is-rest = same_rest v identifier t.rest d.back t.is-rest d.same_back;
      }

  same-in-epoch : (v : Bool) (identifiers : List ℕ) (a b : List (List ℕ)) → Rows rules v identifiers a → SameBut rules a b → Rows rules v identifiers b
  same-in-epoch v [] a b r s = no_more b (subst (λ (ls : List (List ℕ)). SameBut rules ls b) r s)
  same-in-epoch v (identifier ∷ identifiers) a b r s =
      let d = divided r.0 r.1 b (subst (λ (ls : List (List ℕ)). SameBut rules ls b) r.2 s) in (
        d.front,
        d.back,
        d.lines_are,
        same-satellite v identifier r.0 d.front r.3 d.same-front,
        same-in-epoch v identifiers r.1 d.back r.4 d.same_back,
      )

  same-epochs : (v : Bool) (identifiers : List ℕ) (interval8 n at8 : ℕ) (a b : List (List ℕ)) → Epochs rules v identifiers interval8 n at8 a → SameBut rules a b
      → Epochs rules v identifiers interval8 n at8 b
  same-epochs v identifiers interval8 zero at8 a b e s = no_more b (subst (λ (ls : List (List ℕ)). SameBut rules ls b) e s)
  same-epochs v identifiers interval8 (suc n) at8 a b e s =
      let l = e.0 in
      let one = same_first l (e.1 ++ e.2) b (ap (within position_correlation_kind velocity_correlation_kind) (epoch-kind rules at8 l e.4)) (subst (λ (ls : List (List ℕ)). SameBut rules ls b) e.3 s) in
      let d = divided e.1 e.2 one.0 one.2 in (
        l,
        d.front,
        d.back,
        one.1 ∙ ap (λ (ls : List (List ℕ)). l ∷ ls) d.lines_are,
        e.4,
        same-in-epoch v identifiers e.1 d.front e.5 d.same-front,
        same-epochs v identifiers interval8 n (at8 + interval8) e.2 d.back e.6 d.same_back,
      )

-- ONE IS ACCEPTED WHERE THE OTHER IS.
pub same-plain : (rules : Rules) (a b : List (List ℕ)) → SameBut rules a b → Plain rules a → Plain rules b
same-plain rules a b s p =
    let ordinary : Each (Ordinary rules) (header p) = each_weaken (λ (l : List ℕ). within first_kind comment_kind (kind_in rules l) ≡ true) (Ordinary rules) (λ l e. apart (kind_in rules l) e) (header p) (header-kinds p) in
    let d = divided rules (header p) (p.epochs ++ (p.last ∷ [])) b (subst (λ (ls : List (List ℕ)). SameBut rules ls b) (three-parts p) s) in
    let e = divided rules p.epochs (p.last ∷ []) d.back d.same_back in
    let before : header p ≡ d.front = same_lines rules (header p) d.front ordinary d.same-front in
    let after : p.last ∷ [] ≡ e.back = same_lines rules (p.last ∷ []) e.back (ap (within position_correlation_kind velocity_correlation_kind) (last-kind p).0, tt) e.same_back in
    record {
      first = p.first;
      second = p.second;
      count = p.count;
      slots = p.slots;
      accuracies = p.accuracies;
      descriptor = p.descriptor;
      characters = p.characters;
      bases = p.bases;
      floats = p.floats;
      integers = p.integers;
      integers' = p.integers';
      comments = p.comments;
      epochs = e.front;
      last = p.last;
      lines_are =
          d.lines_are
          ∙ ap (λ (ls : List (List ℕ)). ls ++ d.back) (sym before)
          ∙ ap (λ (ls : List (List ℕ)). header p ++ ls) (e.lines_are ∙ ap (λ (ls : List (List ℕ)). e.front ++ ls) (sym after))
          ∙ header-with p (e.front ++ (p.last ∷ []));
      is-first = p.is-first;
      is-second = p.is-second;
      is-count = p.is-count;
      are-slots = p.are-slots;
      slots-many = p.slots-many;
      all-different = p.all-different;
      are-accuracies = p.are-accuracies;
      accuracies-many = p.accuracies-many;
      is-descriptor = p.is-descriptor;
      is-characters = p.is-characters;
      is-bases = p.is-bases;
      is-floats = p.is-floats;
      is-integers = p.is-integers;
      is-integers' = p.is-integers';
      are-comments = p.are-comments;
      comments-many = p.comments-many;
      are-epochs = same-epochs rules (velocities p) (identifiers p) (interval8 p) (epochs p) (start8 p) p.epochs e.front p.are-epochs e.same-front;
      is_last = p.is_last;
    }
  where
    apart : (k : ℕ) → within first_kind comment_kind k ≡ true → within position_correlation_kind velocity_correlation_kind k ≡ false
    apart k e = below-within position_correlation_kind velocity_correlation_kind k (omega (arith, within-true first_kind comment_kind k e))

-- and the other where the one is
pub plain-same : (rules : Rules) (a b : List (List ℕ)) → SameBut rules a b → Plain rules b → Plain rules a
plain-same rules a b s p = same-plain rules b a (beside-turned (SameLine rules) (SameLine rules) turned a b s) p
  where
    turned : (l m : List ℕ) → SameLine rules l m → SameLine rules m l
    turned l m (inl e) = inl (sym e)
    turned l m (inr (inl both)) = inr (inl (both.1, both.0))
    turned l m (inr (inr both)) = inr (inr (both.1, both.0))
