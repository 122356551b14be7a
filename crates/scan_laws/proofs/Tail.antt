-- The lines of a file from the `++` lines on: the machine ends a file with every such part, and a run to a file has read one.
-- Assumes nothing.
use mathlib.Core.Path.{◌≡◌, refl, sym, ◌∙◌, subst}
use mathlib.Core.Bool.{true}
use mathlib.Core.List.{List, [], ◌∷◌, ◌++◌}
use Prim.Native.Nat.{ℕ, suc, ◌+◌, ◌-◌, ◌≤◌}
use native.Mathlib.Omega.{arith}
use lib.ListN.{length}
use borrow.Author.Tests.{ne_eqb}
use Rattle.laws.specs.Tests.{within}
use Rattle.laws.proofs.Bounds.{within-true, true-within}
use Rattle.header.specs.Rules.{slot_lines}
use Rattle.record.specs.LineKinds.{no_kind, accuracies_kind, characters_kind, integers_kind}
use Rattle.header.specs.declared.types.Rules.{Rules}
use Rattle.machine.specs.Next.{expect, allow, leave, comments_due}
use Rattle.machine.specs.declared.types.State.{State}
use Rattle.file.specs.Plain.{every_line, are_slots, is_descriptor_line, is_characters_line, is_bases_line, is_floats_line, is_integers_line, is_comment_line, Epochs, is_last_line}
use Rattle.scan.specs.Run.{run}
use Rattle.scan.specs.declared.Tally.{Tally}
use Rattle.scan.specs.Front as front
use Rattle.scan_laws.proofs.Reaching.{counted_over, Reach, Ends, reach-end, Ending, ending-on}
use Rattle.scan_laws.proofs.Epochs.{epoch_due, epochs-reach, last-run, Ended, epochs-read}
use Rattle.scan_laws.proofs.Comments.{comments-reach, Commented, comments-read}
use Rattle.scan_laws.proofs.Accuracies.{accuracies-reach, Rated, accuracies-read}
use Rattle.scan_laws.proofs.Descriptors.{six-reach, Six, six-read}

some-lines : (n : ℕ) → slot_lines n ≡ suc (slot_lines n - 1)
unfolding slot_lines
some-lines n = omega arith

module _ (rules : Rules) (s : State) (known rest : List ℕ) (many : length known ≡ s.satellites) (some : 1 ≤ length known) (begins : 1 ≤ s.epochs) where
  abbrev identifiers : List ℕ
  identifiers = known ++ rest

  -- the records 4 to 10, for the header that the lines before have said
  pub record Tail (lines : List (List ℕ)) : Type 0 where
    pub accuracies : List (List ℕ)
    pub descriptor : List ℕ
    pub characters : List ℕ
    pub bases : List ℕ
    pub floats : List ℕ
    pub integers : List ℕ
    pub integers' : List ℕ
    pub comments : List (List ℕ)
    pub epochs : List (List ℕ)
    pub last : List ℕ
    pub lines_are :
        lines ≡ accuracies ++ (descriptor ∷ characters ∷ bases ∷ floats ∷ integers ∷ integers' ∷ (comments ++ (epochs ++ (last ∷ []))))
    pub are-accuracies : are_slots rules true s.satellites accuracies ≡ true
    pub accuracies-many : length accuracies ≡ slot_lines s.satellites
    pub is-descriptor : is_descriptor_line rules known descriptor ≡ true
    pub is-characters : is_characters_line rules characters ≡ true
    pub is-bases : is_bases_line rules bases ≡ true
    pub is-floats : is_floats_line rules floats ≡ true
    pub is-integers : is_integers_line rules integers ≡ true
    pub is-integers' : is_integers_line rules integers' ≡ true
    pub are-comments : every_line (is_comment_line rules) comments ≡ true
    pub comments-many : within rules.fewest_comments rules.most_comments (length comments) ≡ true
    pub are-epochs : Epochs rules s.velocity known s.interval8 s.epochs (s.at8 + s.gap8) epochs
    pub is_last : is_last_line rules last ≡ true

  -- where the comments are due, and where they are read
  abbrev in_comments : ℕ → State
  in_comments over = expect integers_kind 1 (leave over s)

  epochs-due : (c over : ℕ) → (comments_due 0 c (in_comments over)).due ≡ epoch_due s.epochs
  unfolding comments_due
  epochs-due c over = rw (ne_eqb s.epochs 0 (λ e. omega arith))

  -- the epochs and the last line
  end-ends : (c over : ℕ) (epochs : List (List ℕ)) (last : List ℕ) → Epochs rules s.velocity known s.interval8 s.epochs (s.at8 + s.gap8) epochs
      → is_last_line rules last ≡ true → Ends rules (comments_due 0 c (in_comments over)) identifiers (epochs ++ (last ∷ []))
  unfolding comments_due counted_over
  end-ends c over epochs last are is =
      let before = comments_due 0 c (in_comments over) in
      let r = epochs-reach rules identifiers known rest refl some s.epochs before (s.at8 + s.gap8) epochs (epochs-due c over) refl (sym many) refl are in
      reach-end rules before r.0 identifiers identifiers epochs (last ∷ []) r.2
      (record { runs = λ t more. last-run rules identifiers known rest refl some r.0 t last more r.1 is })

  pub tail-ends : (lines : List (List ℕ)) → Tail lines → Ends rules (leave s.satellites (expect accuracies_kind (slot_lines s.satellites) s)) identifiers lines
  tail-ends lines p =
      let n = s.satellites in
      let rated = accuracies-reach rules s identifiers (slot_lines n - 1) n p.accuracies (p.accuracies-many ∙ some-lines n) p.are-accuracies in
      let over = rated.0 in
      let first : Reach rules (leave n (expect accuracies_kind (slot_lines n) s)) identifiers p.accuracies (leave over (expect characters_kind 2 s)) identifiers =
      subst (λ (k : ℕ). Reach rules (leave n (expect accuracies_kind k s)) identifiers p.accuracies (leave over (expect characters_kind 2 s)) identifiers) (sym (some-lines n)) rated.1 in
      let six =
      six-reach rules (leave over s) known rest many p.descriptor p.characters p.bases p.floats p.integers p.integers'
      p.is-descriptor p.is-characters p.is-bases p.is-floats p.is-integers p.is-integers' in
      let fits = within-true rules.fewest_comments rules.most_comments (length p.comments) p.comments-many in
      let noted = comments-reach rules (in_comments over) identifiers p.comments rules.fewest_comments rules.most_comments fits.0 fits.1 p.are-comments in
      let due = comments_due rules.fewest_comments rules.most_comments (in_comments over) in
      let done = comments_due 0 noted.0 (in_comments over) in
      let end = p.epochs ++ (p.last ∷ []) in
      let from-comments = reach-end rules due done identifiers identifiers p.comments end noted.1 (end-ends noted.0 over p.epochs p.last p.are-epochs p.is_last) in
      let six-lines = p.descriptor ∷ p.characters ∷ p.bases ∷ p.floats ∷ p.integers ∷ p.integers' ∷ [] in
      let from-six = reach-end rules (expect characters_kind 2 (leave over s)) due identifiers identifiers six-lines (p.comments ++ end) six from-comments in
      subst (λ (x : List (List ℕ)). Ends rules (leave n (expect accuracies_kind (slot_lines n) s)) identifiers x) (sym p.lines_are)
      (reach-end rules (leave n (expect accuracies_kind (slot_lines n) s)) (leave over (expect characters_kind 2 s)) identifiers identifiers p.accuracies (six-lines ++ (p.comments ++ end)) first from-six)

  -- such lines at the front of those that a run to a file has read
  pub record TailRead (t t' : Tally) (ls : List (List ℕ)) : Type 0 where
    pub used : List (List ℕ)
    pub more : List (List ℕ)
    pub tail : Tail used
    pub ending : Ending rules t t' ls used more

  end_read : (c over : ℕ) (t t' : Tally) (ls : List (List ℕ)) → run rules (allow no_kind (comments_due 0 c (in_comments over))) identifiers t ls ≡ front.File t'
      → Ended rules identifiers known rest refl some s.velocity s.interval8 s.epochs (s.at8 + s.gap8) t t' ls
  unfolding comments_due
  end_read c over t t' ls e =
      epochs-read rules identifiers known rest refl some s.epochs (allow no_kind (comments_due 0 c (in_comments over))) (s.at8 + s.gap8) t t' ls
      (epochs-due c over) refl refl (sym many) refl e

  -- the parts that were read, put together
  joined : (t t' : Tally) (ls : List (List ℕ)) (x : Rated rules s identifiers (slot_lines s.satellites) s.satellites t t' ls)
      (y : Six rules (leave x.over s) known rest many (counted_over rules t x.used) t' x.more)
      (z : Commented rules (in_comments x.over) identifiers rules.fewest_comments rules.most_comments
      (counted_over rules (counted_over rules t x.used) (y.descriptor ∷ y.characters ∷ y.bases ∷ y.floats ∷ y.integers ∷ y.integers' ∷ [])) t' y.more)
      → Ended rules identifiers known rest refl some s.velocity s.interval8 s.epochs (s.at8 + s.gap8)
      (counted_over rules
      (counted_over rules (counted_over rules t x.used) (y.descriptor ∷ y.characters ∷ y.bases ∷ y.floats ∷ y.integers ∷ y.integers' ∷ []))
      z.comments) t' z.more
      → TailRead t t' ls
  joined t t' ls x y z w =
      let end = w.epochs ++ (w.last ∷ []) in
      let six-lines = y.descriptor ∷ y.characters ∷ y.bases ∷ y.floats ∷ y.integers ∷ y.integers' ∷ [] in
      let t₁ = counted_over rules t x.used in
      let t₂ = counted_over rules t₁ six-lines in
      let t₃ = counted_over rules t₂ z.comments in
      let from_end : Ending rules t₃ t' z.more end w.more = record { split = w.split; tally = w.tally } in
      let from-comments : Ending rules t₂ t' y.more (z.comments ++ end) w.more = ending-on rules t₂ t' y.more z.comments z.more end w.more z.split from_end in
      let from-six : Ending rules t₁ t' x.more (six-lines ++ (z.comments ++ end)) w.more = ending-on rules t₁ t' x.more six-lines y.more (z.comments ++ end) w.more y.split from-comments in
      record {
        used = x.used ++ (six-lines ++ (z.comments ++ end));
        more = w.more;
        tail = record {
          accuracies = x.used;
          descriptor = y.descriptor;
          characters = y.characters;
          bases = y.bases;
          floats = y.floats;
          integers = y.integers;
          integers' = y.integers';
          comments = z.comments;
          epochs = w.epochs;
          last = w.last;
          lines_are = refl;
          are-accuracies = x.are;
          accuracies-many = x.many;
          is-descriptor = y.is-descriptor;
          is-characters = y.is-characters;
          is-bases = y.is-bases;
          is-floats = y.is-floats;
          is-integers = y.is-integers;
          is-integers' = y.is-integers';
          are-comments = z.are-comments;
          comments-many = true-within rules.fewest_comments rules.most_comments (length z.comments) z.enough z.few;
          are-epochs = w.are-epochs;
          is_last = w.is_last;
        };
        ending = ending-on rules t t' ls x.used x.more (six-lines ++ (z.comments ++ end)) w.more x.split from-six;
      }

  rated : (t t' : Tally) (ls : List (List ℕ)) → run rules (leave s.satellites (expect accuracies_kind (slot_lines s.satellites) s)) identifiers t ls ≡ front.File t'
      → Rated rules s identifiers (slot_lines s.satellites) s.satellites t t' ls
  rated t t' ls e =
      let n = s.satellites in
      subst (λ (k : ℕ). Rated rules s identifiers k n t t' ls) (sym (some-lines n))
      (accuracies-read rules s identifiers (slot_lines n - 1) n t t' ls (subst (λ (k : ℕ). run rules (leave n (expect accuracies_kind k s)) identifiers t ls ≡ front.File t') (some-lines n) e))

  pub tail-read : (t t' : Tally) (ls : List (List ℕ)) → rules.fewest_comments ≤ rules.most_comments
      → run rules (leave s.satellites (expect accuracies_kind (slot_lines s.satellites) s)) identifiers t ls ≡ front.File t' → TailRead t t' ls
  tail-read t t' ls fit e = from-rated (rated t t' ls e)
    where
      from-six : (x : Rated rules s identifiers (slot_lines s.satellites) s.satellites t t' ls)
          → Six rules (leave x.over s) known rest many (counted_over rules t x.used) t' x.more → TailRead t t' ls
      from-six x y =
          let z = comments-read rules (in_comments x.over) identifiers y.more rules.fewest_comments rules.most_comments
          (counted_over rules (counted_over rules t x.used) (y.descriptor ∷ y.characters ∷ y.bases ∷ y.floats ∷ y.integers ∷ y.integers' ∷ [])) t' fit y.goes in
          joined t t' ls x y z (end_read z.spare x.over _ t' z.more z.goes)

      from-rated : Rated rules s identifiers (slot_lines s.satellites) s.satellites t t' ls → TailRead t t' ls
      from-rated x = from-six x (six-read rules (leave x.over s) known rest many (counted_over rules t x.used) t' x.more x.goes)
