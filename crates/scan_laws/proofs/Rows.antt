-- The rows of an epoch: lines as the plain definition has them take the machine from the first satellite to after the last, and a run to a
-- file has read such lines.
-- Assumes nothing.
use mathlib.Core.Path.{◌≡◌, refl, sym, ap, ◌∙◌, subst}
use mathlib.Core.Bool.{Bool, true, false, cond}
use mathlib.Core.List.{List, [], ◌∷◌, ◌++◌, append_assoc, append-nil}
use Prim.Native.Nat.{ℕ, suc, ◌+◌, ◌-◌}
use native.Mathlib.Omega.{arith}
use lib.Dec.{eqb}
use lib.ListN.{length, get_or}
use lib.Seq.{get_or_at}
use borrow.Author.Tests.{eqb-true, ne_eqb}
use Rattle.laws.proofs.Bools.{and_left, and_right}
use Rattle.laws.proofs.Lists.{one_less, snoc-length}
use Rattle.layout.specs.Kind.{identifier_code, unless}
use Rattle.layout.specs.Line.{padded}
use Rattle.layout.proofs.Again.{lower-clean, passed}
use Rattle.record.specs.LineKinds.{no_kind, satellites_kind, epoch_kind, position_kind, velocity_kind, position_correlation_kind, velocity_correlation_kind, end_kind, told_kind}
use Rattle.record.specs.Rows.{row_fault, cut}
use Rattle.header.specs.declared.types.Rules.{Rules}
use Rattle.record.specs.declared.types.LineKind.TheVariants as kind
use Rattle.machine.specs.State.{identifier_due}
use Rattle.machine.specs.Faults.{named_fault, record_fault}
use Rattle.machine.specs.Next.{expect, allow, leave, row_due, satellite_done, after_position, next_of}
use Rattle.machine.specs.Step.{identifiers_brought}
use Rattle.machine.specs.declared.types.State.{State}
use Rattle.machine.specs.declared.types.Verdict.TheVariants as verdict
use Rattle.file.specs.Plain.{is_line, is_record, row_kind, is_row_line, note_kind, Noted, Satellite, Rows}
use Rattle.scan.specs.Run.{run, counted}
use Rattle.scan.specs.declared.Tally.{Tally}
use Rattle.scan.specs.Front as front
use Rattle.scan_laws.proofs.Reaching.{counted_over, Reach, reach-none, reach-append, reach-one, identifiers-kept, due-line, Read, split-on, goes_on}
use Rattle.scan_laws.proofs.Notes.{notes-reach, notes-read}

-- where so many satellites have their rows still to come
abbrev pub rows_left : ℕ → ℕ → State → State
rows_left also left s = leave left (allow also (expect (row_due left s.epochs) 1 s))

-- no identifiers are brought by rows
row-not-identifiers : (velocity : Bool) → eqb (told_kind (row_kind velocity)) satellites_kind ≡ false
row-not-identifiers true = refl
row-not-identifiers false = refl

left-not-identifiers : (left epochs : ℕ) → eqb (row_due left epochs) satellites_kind ≡ false
left-not-identifiers left epochs = go (eqb left 0) (eqb epochs 0)
  where
    go : (a b : Bool) → eqb (cond a (cond b end_kind epoch_kind) position_kind) satellites_kind ≡ false
    go true true = refl
    go true false = refl
    go false b = refl

-- a satellite is left
row-due : (k epochs : ℕ) → row_due (suc k) epochs ≡ position_kind
row-due k epochs = rw (ne_eqb (suc k) 0 (λ e. omega arith))

-- the fault of a row of 80 columns is that of its columns and of its identifier
row-fault : (velocity : Bool) (rules : Rules) (s : State) (identifiers p : List ℕ) → record_fault (row_kind velocity) rules s identifiers p ≡ named_fault velocity s identifiers p
row-fault true rules s identifiers p = refl
row-fault false rules s identifiers p = refl

named-clean : (velocity : Bool) (s : State) (identifiers p : List ℕ) → row_fault velocity p ≡ 0 → eqb (identifier_code (cut 2 4 p)) (identifier_due s identifiers) ≡ true
    → named_fault velocity s identifiers p ≡ 0
unfolding named_fault
named-clean velocity s identifiers p fault identifier = rw (identifier, fault)

clean-named : (velocity : Bool) (s : State) (identifiers p : List ℕ) → named_fault velocity s identifiers p ≡ 0
    → (row_fault velocity p ≡ 0) × (eqb (identifier_code (cut 2 4 p)) (identifier_due s identifiers) ≡ true)
unfolding named_fault
clean-named velocity s identifiers p e =
    let same = eqb (identifier_code (cut 2 4 p)) (identifier_due s identifiers) in
    let parts = lower-clean (row_fault velocity p) (unless same 10 0) e in
    (parts.0, passed same 10 0 (omega arith) parts.1)

module _ (rules : Rules) (identifiers : List ℕ) where
  -- P or V with what may stand after it
  module _ (velocity : Bool) (s next : State) (identifier : ℕ) (due : s.due ≡ told_kind (row_kind velocity)) (identifier-due : identifier_due s identifiers ≡ identifier)
      (nexts : (p : List ℕ) → next_of (row_kind velocity) rules s p ≡ verdict.Next next) (also : next.also ≡ told_kind (note_kind velocity))
      (other : eqb next.due satellites_kind ≡ false) where
    kept : (l : List ℕ) → identifiers_brought rules s identifiers l ≡ identifiers
    kept l = identifiers-kept rules s identifiers l (ap (λ (d : ℕ). eqb d satellites_kind) due ∙ row-not-identifiers velocity)

    row-reach : (l : List ℕ) → is_row_line rules velocity identifier l ≡ true → Reach rules s identifiers (l ∷ []) next identifiers
    row-reach l is =
        let p = padded l in
        let whole = and_left (is_record rules (row_kind velocity) (row_fault velocity p) l) _ is in
        let named : eqb (identifier_code (cut 2 4 p)) identifier ≡ true = and_right (is_record rules (row_kind velocity) (row_fault velocity p) l) _ is in
        let fault : row_fault velocity p ≡ 0 = eqb-true (row_fault velocity p) 0 (and_right (is_line rules (row_kind velocity) l) _ whole) in
        reach-one rules (row_kind velocity) s next identifiers identifiers l due (and_left (is_line rules (row_kind velocity) l) _ whole)
        (row-fault velocity rules s identifiers p ∙ named-clean velocity s identifiers p fault (ap (eqb (identifier_code (cut 2 4 p))) identifier-due ∙ named)) (nexts p) (kept l)

    pub noted-reach : (ls : List (List ℕ)) → Noted rules velocity identifier ls → (a : ℕ) × Reach rules s identifiers ls (allow a next) identifiers
    noted-reach ls n =
        let after = notes-reach rules next identifiers velocity n.notes also other n.are-notes in (
          after.0,
          subst (λ (x : List (List ℕ)). Reach rules s identifiers x (allow after.0 next) identifiers) (sym n.lines_are)
              (reach-append rules s next (allow after.0 next) identifiers identifiers identifiers (n.row ∷ []) n.notes (row-reach n.row n.is-row) after.1),
        )

    -- and what a run to a file has read
    pub noted_read : (t t' : Tally) (ls : List (List ℕ)) → s.also ≡ no_kind → run rules s identifiers t ls ≡ front.File t'
        → Read rules (Noted rules velocity identifier) (allow no_kind next) identifiers t t' ls
    unfolding counted_over
    noted_read t t' ls none e =
        let x = due-line rules (row_kind velocity) s identifiers t t' ls due none e in
        let p = padded x.line in
        let parts = clean-named velocity s identifiers p (sym (row-fault velocity rules s identifiers p) ∙ x.clean) in
        let goes : run rules next identifiers (counted rules t x.line) x.others ≡ front.File t' = rw (nexts p, kept x.line) at x.goes in
        let y = notes-read rules next identifiers velocity (counted rules t x.line) t' x.others also other goes in
        record {
          used = x.line ∷ y.used;
          more = y.more;
          split = x.split ∙ ap (λ (r : List (List ℕ)). x.line ∷ r) y.split;
          holds = record {
            row = x.line;
            notes = y.used;
            lines_are = refl;
            is-row = rw (x.is-kind, parts.0, sym (ap (eqb (identifier_code (cut 2 4 p))) identifier-due) ∙ parts.1);
            are-notes = y.holds;
          };
          goes = y.goes;
        }

  -- the state of a satellite whose P has been read, in mode V
  abbrev row_done : ℕ → ℕ → State → State
  row_done also left s = allow also (expect velocity_kind 1 (rows_left no_kind left s))

  module _ (s : State) where
    done-position : (a k : ℕ) → s.velocity ≡ false → after_position (rows_left a (suc k) s) ≡ rows_left position_correlation_kind k s
    unfolding after_position satellite_done
    done-position a k v = rw (v, one_less k)

    half-position : (a k : ℕ) → s.velocity ≡ true → after_position (rows_left a (suc k) s) ≡ row_done position_correlation_kind (suc k) s
    unfolding after_position
    half-position a k v = rw v

    done-velocity : (a k : ℕ) → satellite_done velocity_correlation_kind (row_done a (suc k) s) ≡ rows_left velocity_correlation_kind k s
    unfolding satellite_done
    done-velocity a k = rw (one_less k)

    -- the lines of one satellite
    satellite-reach : (velocity : Bool) (a k identifier : ℕ) (ls : List (List ℕ)) → s.velocity ≡ velocity → identifier_due (rows_left a (suc k) s) identifiers ≡ identifier
        → Satellite rules velocity identifier ls → (b : ℕ) × Reach rules (rows_left a (suc k) s) identifiers ls (rows_left b k s) identifiers
    satellite-reach false a k identifier ls v identifier-due sat =
        let p =
        noted-reach false (rows_left a (suc k) s) (rows_left position_correlation_kind k s) identifier (row-due k s.epochs) identifier-due (λ p. ap verdict.Next (done-position a k v)) refl
        (left-not-identifiers k s.epochs) sat.position sat.is-position in
        let none : ls ≡ sat.position = sat.lines_are ∙ ap (λ (r : List (List ℕ)). sat.position ++ r) sat.is-rest ∙ append-nil sat.position in
        (p.0, subst (λ (x : List (List ℕ)). Reach rules (rows_left a (suc k) s) identifiers x (rows_left p.0 k s) identifiers) (sym none) p.1)
    satellite-reach true a k identifier ls v identifier-due sat =
        let p =
        noted-reach false (rows_left a (suc k) s) (row_done position_correlation_kind (suc k) s) identifier (row-due k s.epochs) identifier-due (λ p. ap verdict.Next (half-position a k v)) refl
        refl sat.position sat.is-position in
        let q =
        noted-reach true (row_done p.0 (suc k) s) (rows_left velocity_correlation_kind k s) identifier refl identifier-due (λ q. ap verdict.Next (done-velocity p.0 k)) refl
        (left-not-identifiers k s.epochs) sat.rest sat.is-rest in (
          q.0,
          subst (λ (x : List (List ℕ)). Reach rules (rows_left a (suc k) s) identifiers x (rows_left q.0 k s) identifiers) (sym sat.lines_are)
              (reach-append rules (rows_left a (suc k) s) (row_done p.0 (suc k) s) (rows_left q.0 k s) identifiers identifiers identifiers sat.position sat.rest p.1 q.1),
        )

    satellite-read : (velocity : Bool) (k identifier : ℕ) (t t' : Tally) (ls : List (List ℕ)) → s.velocity ≡ velocity → identifier_due (rows_left no_kind (suc k) s) identifiers ≡ identifier
        → run rules (rows_left no_kind (suc k) s) identifiers t ls ≡ front.File t' → Read rules (Satellite rules velocity identifier) (rows_left no_kind k s) identifiers t t' ls
    satellite-read false k identifier t t' ls v identifier-due e =
        let p =
        noted_read false (rows_left no_kind (suc k) s) (rows_left position_correlation_kind k s) identifier (row-due k s.epochs) identifier-due (λ p. ap verdict.Next (done-position 0 k v)) refl
        (left-not-identifiers k s.epochs) t t' ls refl e in
        record {
          used = p.used;
          more = p.more;
          split = p.split;
          holds = record { position = p.used; rest = []; lines_are = sym (append-nil p.used); is-position = p.holds; is-rest = refl };
          goes = p.goes;
        }
    satellite-read true k identifier t t' ls v identifier-due e =
        let p =
        noted_read false (rows_left no_kind (suc k) s) (row_done position_correlation_kind (suc k) s) identifier (row-due k s.epochs) identifier-due (λ p. ap verdict.Next (half-position 0 k v)) refl
        refl t t' ls refl e in
        let q =
        noted_read true (row_done no_kind (suc k) s) (rows_left velocity_correlation_kind k s) identifier refl identifier-due (λ q. ap verdict.Next (done-velocity 0 k)) refl
        (left-not-identifiers k s.epochs) (counted_over rules t p.used) t' p.more refl p.goes in
        record {
          used = p.used ++ q.used;
          more = q.more;
          split = split-on rules ls p.used q.used p.more q.more p.split q.split;
          holds = record { position = p.used; rest = q.used; lines_are = refl; is-position = p.holds; is-rest = q.holds };
          goes = goes_on rules (rows_left no_kind k s) identifiers t t' p.used q.used q.more q.goes;
        }

    -- the identifier of the satellite whose row comes next
    next-identifier : (a : ℕ) (before after : List ℕ) (identifier : ℕ) (rest : List ℕ) → identifiers ≡ before ++ (identifier ∷ (after ++ rest))
        → s.satellites ≡ length before + suc (length after) → identifier_due (rows_left a (suc (length after)) s) identifiers ≡ identifier
    next-identifier a before after identifier rest are many =
        ap (λ (x : List ℕ). get_or x (s.satellites - suc (length after)) 0) are
        ∙ get_or_at before identifier (after ++ rest) 0 (s.satellites - suc (length after)) (omega (arith, many))

    one_on : (before after : List ℕ) (identifier : ℕ) (rest : List ℕ) → identifiers ≡ before ++ (identifier ∷ (after ++ rest)) → identifiers ≡ (before ++ (identifier ∷ [])) ++ (after ++ rest)
    one_on before after identifier rest are = are ∙ sym (append_assoc before (identifier ∷ []) (after ++ rest))

    many-on : (before after : List ℕ) (identifier : ℕ) → s.satellites ≡ length before + suc (length after) → s.satellites ≡ length (before ++ (identifier ∷ [])) + length after
    many-on before after identifier many = omega (arith, many, snoc-length before identifier)

    -- the lines of each satellite in header order
    pub rows-reach : (after before rest : List ℕ) (a : ℕ) (ls : List (List ℕ)) → identifiers ≡ before ++ (after ++ rest) → s.satellites ≡ length before + length after
        → Rows rules s.velocity after ls → (b : ℕ) × Reach rules (rows_left a (length after) s) identifiers ls (rows_left b 0 s) identifiers
    rows-reach [] before rest a ls are many rows =
        (a, subst (λ (x : List (List ℕ)). Reach rules (rows_left a 0 s) identifiers x (rows_left a 0 s) identifiers) (sym rows) (reach-none rules (rows_left a 0 s) identifiers))
    rows-reach (identifier ∷ after) before rest a ls are many (own, more, lines_are, sat, rows) =
        let p = satellite-reach s.velocity a (length after) identifier own refl (next-identifier a before after identifier rest are many) sat in
        let q = rows-reach after (before ++ (identifier ∷ [])) rest p.0 more (one_on before after identifier rest are) (many-on before after identifier many) rows in (
          q.0,
          subst (λ (x : List (List ℕ)). Reach rules (rows_left a (suc (length after)) s) identifiers x (rows_left q.0 0 s) identifiers) (sym lines_are)
              (reach-append rules (rows_left a (suc (length after)) s) (rows_left p.0 (length after) s) (rows_left q.0 0 s) identifiers identifiers identifiers own more p.1 q.1),
        )

    pub rows-read : (after before rest : List ℕ) (t t' : Tally) (ls : List (List ℕ)) → identifiers ≡ before ++ (after ++ rest) → s.satellites ≡ length before + length after
        → run rules (rows_left no_kind (length after) s) identifiers t ls ≡ front.File t' → Read rules (Rows rules s.velocity after) (rows_left no_kind 0 s) identifiers t t' ls
    unfolding counted_over
    rows-read [] before rest t t' ls are many e = record { used = []; more = ls; split = refl; holds = refl; goes = e }
    rows-read (identifier ∷ after) before rest t t' ls are many e =
        let p = satellite-read s.velocity (length after) identifier t t' ls refl (next-identifier 0 before after identifier rest are many) e in
        let q =
        rows-read after (before ++ (identifier ∷ [])) rest (counted_over rules t p.used) t' p.more (one_on before after identifier rest are)
        (many-on before after identifier many) p.goes in
        record {
          used = p.used ++ q.used;
          more = q.more;
          split = split-on rules ls p.used q.used p.more q.more p.split q.split;
          holds = (p.used, q.used, refl, p.holds, q.holds);
          goes = goes_on rules (rows_left no_kind 0 s) identifiers t t' p.used q.used q.more q.goes;
        }
