-- The epochs of a file and its last line: lines as the plain definition has them take the machine to the end, and a run to a file has read
-- such lines.
-- Assumes nothing.
use mathlib.Core.Path.{◌≡◌, refl, sym, ap, ◌∙◌, subst}
use mathlib.Core.Bool.{Bool, true, cond}
use mathlib.Core.List.{List, [], ◌∷◌, ◌++◌, append_assoc}
use Prim.Native.Nat.{ℕ, zero, suc, ◌+◌, ◌≤◌}
use native.Mathlib.Omega.{arith}
use lib.Dec.{eqb}
use lib.ListN.{length}
use borrow.Author.Tests.{eqb-true, ne_eqb}
use Rattle.laws.proofs.Bools.{and_left, and_right}
use Rattle.layout.specs.Kind.{unless}
use Rattle.layout.specs.Layout.{fault_of}
use Rattle.layout.specs.Line.{padded}
use Rattle.layout.proofs.Again.{lower-clean, passed}
use Rattle.record.specs.Opening.{epoch_of}
use Rattle.record.specs.Plain.{end_items}
use Rattle.record.specs.LineKinds.{no_kind, satellites_kind, epoch_kind, end_kind}
use Rattle.header.specs.declared.types.Rules.{Rules}
use Rattle.record.specs.declared.types.LineKind.TheVariants as kind
use Rattle.record.specs.Agrees.{instant_in}
use Rattle.machine.specs.Faults.{epoch_fault}
use Rattle.machine.specs.Next.{after_epoch}
use Rattle.machine.specs.declared.types.State.{State}
use Rattle.machine.specs.declared.types.Verdict.TheVariants as verdict
use Rattle.file.specs.Plain.{is_line, is_record, is_epoch_line, is_last_line, Rows, Epochs}
use Rattle.scan.specs.Run.{run, counted}
use Rattle.scan.specs.declared.Tally.{Tally}
use Rattle.scan.specs.Front as front
use Rattle.scan_laws.proofs.Passing.{pass}
use Rattle.scan_laws.proofs.Reaching.{counted_over, counted-append, Reach, reach-none, reach-append, reach-one, identifiers-kept, due-line, split-on}
use Rattle.scan_laws.proofs.Rows.{rows_left, rows-reach, rows-read}

-- what is due where so many epochs are still to come: an epoch, or EOF
abbrev pub epoch_due : ℕ → ℕ
epoch_due epochs = cond (eqb epochs 0) end_kind epoch_kind

pub epoch-due : (n : ℕ) → epoch_due (suc n) ≡ epoch_kind
epoch-due n = rw (ne_eqb (suc n) 0 (λ e. omega arith))

-- after an epoch line the rows of all satellites are due
module _ (s : State) (at : ℕ) where
  rows-due : (n : ℕ) → s.satellites ≡ n → 1 ≤ n → after_epoch at s ≡ rows_left no_kind n (after_epoch at s)
  unfolding after_epoch
  rows-due n many some = rw (many, ne_eqb n 0 (λ e. omega arith))

  after-epochs : (b n : ℕ) → s.epochs ≡ suc n → (rows_left b 0 (after_epoch at s)).epochs ≡ n
  unfolding after_epoch
  after-epochs b n e = omega (arith, e)

  after-due : (b n : ℕ) → s.epochs ≡ suc n → (rows_left b 0 (after_epoch at s)).due ≡ epoch_due n
  after-due b n e = ap epoch_due (after-epochs b n e)

  after-many : (b n : ℕ) → s.satellites ≡ n → (rows_left b 0 (after_epoch at s)).satellites ≡ n
  unfolding after_epoch
  after-many b n e = e

module _ (rules : Rules) (identifiers known rest : List ℕ) (are : identifiers ≡ known ++ rest) (some : 1 ≤ length known) where
  -- the line of an epoch
  epoch-reach : (s : State) (at : ℕ) (l : List ℕ) → s.due ≡ epoch_kind → s.at8 + s.gap8 ≡ at → is_epoch_line rules at l ≡ true → Reach rules s identifiers (l ∷ []) (after_epoch at s) identifiers
  unfolding epoch_fault
  epoch-reach s at l due here is =
      let e = epoch_of (padded l) in
      let whole = and_left (is_record rules kind.Epoch e.fault l) _ is in
      let now : eqb (instant_in e.moment) at ≡ true = and_right (is_record rules kind.Epoch e.fault l) _ is in
      let fault : e.fault ≡ 0 = eqb-true e.fault 0 (and_right (is_line rules kind.Epoch l) _ whole) in
      let clean : epoch_fault s (padded l) ≡ 0 = rw (here, now, fault) in
      reach-one rules kind.Epoch s (after_epoch at s) identifiers identifiers l due (and_left (is_line rules kind.Epoch l) _ whole) clean
      (ap (λ (x : ℕ). verdict.Next (after_epoch x s)) (eqb-true (instant_in e.moment) at now))
      (identifiers-kept rules s identifiers l (ap (λ (d : ℕ). eqb d satellites_kind) due))

  -- all epochs, up to where EOF is due
  pub epochs-reach : (n : ℕ) (s : State) (at : ℕ) (ls : List (List ℕ)) → s.due ≡ epoch_due n → s.epochs ≡ n → s.satellites ≡ length known → s.at8 + s.gap8 ≡ at
      → Epochs rules s.velocity known s.interval8 n at ls → (s' : State) × (s'.due ≡ end_kind) × Reach rules s identifiers ls s' identifiers
  unfolding after_epoch
  epochs-reach zero s at ls due epochs many here none =
      (s, due, subst (λ (x : List (List ℕ)). Reach rules s identifiers x s identifiers) (sym none) (reach-none rules s identifiers))
  epochs-reach (suc n) s at ls due epochs many here (epoch, rows, more, lines_are, is-epoch, are-rows, are-more) =
      let s₁ = after_epoch at s in
      let first = epoch-reach s at epoch (due ∙ epoch-due n) here is-epoch in
      let all-many : s.satellites ≡ 0 + length known = omega (arith, many) in
      let next = rows-reach rules identifiers s₁ known [] rest 0 rows are all-many are-rows in
      let s₂ = rows_left next.0 0 s₁ in
      let others = epochs-reach n s₂ (at + s.interval8) more (after-due s at next.0 n epochs) (after-epochs s at next.0 n epochs) many refl are-more in
      let inner : Reach rules s₁ identifiers rows s₂ identifiers = subst (λ (x : State). Reach rules x identifiers rows s₂ identifiers) (sym (rows-due s at (length known) many some)) next.1 in
      let rest_of = reach-append rules s₁ s₂ others.0 identifiers identifiers identifiers rows more inner others.2 in (
        others.0,
        others.1,
        subst (λ (x : List (List ℕ)). Reach rules s identifiers x others.0 identifiers) (sym lines_are)
            (reach-append rules s s₁ others.0 identifiers identifiers identifiers (epoch ∷ []) (rows ++ more) first rest_of),
      )

  -- the last line
  pub last-run : (s : State) (t : Tally) (l : List ℕ) (more : List (List ℕ)) → s.due ≡ end_kind → is_last_line rules l ≡ true → run rules s identifiers t (l ∷ more) ≡ front.File (counted rules t l)
  last-run s t l more due is =
      pass rules kind.EndOfFile s identifiers t l more due (and_left (is_line rules kind.EndOfFile l) _ is)
      (eqb-true (fault_of end_items (padded l)) 0 (and_right (is_line rules kind.EndOfFile l) _ is))

  -- the lines of a run to a file from its epochs on
  pub record Ended (velocity : Bool) (interval8 n at : ℕ) (t t' : Tally) (ls : List (List ℕ)) : Type 0 where
    pub epochs : List (List ℕ)
    pub last : List ℕ
    pub more : List (List ℕ)
    pub split : ls ≡ (epochs ++ (last ∷ [])) ++ more
    pub are-epochs : Epochs rules velocity known interval8 n at epochs
    pub is_last : is_last_line rules last ≡ true
    pub tally : t' ≡ counted_over rules t (epochs ++ (last ∷ []))

  last-read : (s : State) (at : ℕ) (t t' : Tally) (ls : List (List ℕ)) → s.due ≡ end_kind → s.also ≡ no_kind → run rules s identifiers t ls ≡ front.File t'
      → Ended s.velocity s.interval8 0 at t t' ls
  unfolding counted_over
  last-read s at t t' ls due also e =
      let x = due-line rules kind.EndOfFile s identifiers t t' ls due also e in
      let is-file : front.File (counted rules t x.line) ≡ front.File t' = x.goes in
      let is : counted rules t x.line ≡ t' = cc in
      record {
        epochs = [];
        last = x.line;
        more = x.others;
        split = x.split;
        are-epochs = refl;
        is_last = rw (x.is-kind, x.clean);
        tally = sym is;
      }

  -- the line of an epoch in a run to a file
  record Begun (s : State) (at : ℕ) (t t' : Tally) (ls : List (List ℕ)) : Type 0 where
    line : List ℕ
    others : List (List ℕ)
    split : ls ≡ line ∷ others
    is-epoch : is_epoch_line rules at line ≡ true
    goes : run rules (rows_left no_kind (length known) (after_epoch at s)) identifiers (counted rules t line) others ≡ front.File t'

  epoch-read : (s : State) (at : ℕ) (t t' : Tally) (ls : List (List ℕ)) → s.due ≡ epoch_kind → s.also ≡ no_kind → s.satellites ≡ length known → s.at8 + s.gap8 ≡ at
      → run rules s identifiers t ls ≡ front.File t' → Begun s at t t' ls
  unfolding epoch_fault
  epoch-read s at t t' ls due also many here e =
      let x = due-line rules kind.Epoch s identifiers t t' ls due also e in
      let m = epoch_of (padded x.line) in
      let same = eqb (instant_in m.moment) (s.at8 + s.gap8) in
      let parts = lower-clean m.fault (unless same 9 0) x.clean in
      let now : eqb (instant_in m.moment) at ≡ true = sym (ap (eqb (instant_in m.moment)) here) ∙ passed same 9 0 (omega arith) parts.1 in
      let kept = identifiers-kept rules s identifiers x.line (ap (λ (d : ℕ). eqb d satellites_kind) due) in
      let instant = eqb-true (instant_in m.moment) at now in
      let went : run rules (after_epoch at s) identifiers (counted rules t x.line) x.others ≡ front.File t' = rw (instant, kept) at x.goes in
      record {
        line = x.line;
        others = x.others;
        split = x.split;
        is-epoch = rw (x.is-kind, parts.0, now);
        goes = subst (λ (y : State). run rules y identifiers (counted rules t x.line) x.others ≡ front.File t') (rows-due s at (length known) many some) went;
      }

  -- an epoch more in front
  ended-more : (velocity : Bool) (interval8 n at : ℕ) (t t' : Tally) (line : List ℕ) (ls others rows more : List (List ℕ)) → ls ≡ line ∷ others → others ≡ rows ++ more
      → is_epoch_line rules at line ≡ true → Rows rules velocity known rows → Ended velocity interval8 n (at + interval8) (counted_over rules (counted rules t line) rows) t' more
      → Ended velocity interval8 (suc n) at t t' ls
  unfolding counted_over
  ended-more velocity interval8 n at t t' line ls others rows more split split_rows is-epoch are-rows z =
      let end = z.last ∷ [] in
      let joined : rows ++ (z.epochs ++ end) ≡ (rows ++ z.epochs) ++ end = sym (append_assoc rows z.epochs end) in
      let all : others ≡ ((rows ++ z.epochs) ++ end) ++ z.more =
      split-on rules others rows (z.epochs ++ end) more z.more split_rows z.split ∙ ap (λ (r : List (List ℕ)). r ++ z.more) joined in
      record {
        epochs = line ∷ (rows ++ z.epochs);
        last = z.last;
        more = z.more;
        split = split ∙ ap (λ (r : List (List ℕ)). line ∷ r) all;
        are-epochs = (line, rows, z.epochs, refl, is-epoch, are-rows, z.are-epochs);
        is_last = z.is_last;
        tally = z.tally ∙ sym (counted-append rules (counted rules t line) rows (z.epochs ++ end)) ∙ ap (counted_over rules (counted rules t line)) joined;
      }

  pub epochs-read : (n : ℕ) (s : State) (at : ℕ) (t t' : Tally) (ls : List (List ℕ)) → s.due ≡ epoch_due n → s.also ≡ no_kind → s.epochs ≡ n
      → s.satellites ≡ length known → s.at8 + s.gap8 ≡ at → run rules s identifiers t ls ≡ front.File t' → Ended s.velocity s.interval8 n at t t' ls
  unfolding after_epoch
  epochs-read zero s at t t' ls due also epochs many here e = last-read s at t t' ls due also e
  epochs-read (suc n) s at t t' ls due also epochs many here e =
      let x = epoch-read s at t t' ls (due ∙ epoch-due n) also many here e in
      let all-many : s.satellites ≡ 0 + length known = omega (arith, many) in
      let y = rows-read rules identifiers (after_epoch at s) known [] rest (counted rules t x.line) t' x.others are all-many x.goes in
      ended-more s.velocity s.interval8 n at t t' x.line ls x.others y.used y.more x.split y.split x.is-epoch y.holds
      (epochs-read n (rows_left no_kind 0 (after_epoch at s)) (at + s.interval8) (counted_over rules (counted rules t x.line) y.used) t' y.more
      (after-due s at 0 n epochs) refl (after-epochs s at 0 n epochs) many refl y.goes)
