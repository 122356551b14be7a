-- Any two outcomes that a contract allows agree, in the result and in the identifiers lent. Of the functions over a walker it is said
-- of the clauses themselves, that two outcomes which they allow are the same.
-- Assumes nothing.
use mathlib.Core.Path.{◌≡◌, sym, ap₂, ◌∙◌}
use mathlib.Core.List.{List}
use Prim.Native.Nat.{ℕ}
use seplogic.Ra.Ura.{Ura}
use base.Logic.{SProp, ent, sep}
use contract.Fact.{fact}
use contract.Lifetimes.{Lfts}
use contract.Monad.{Fun}
use denote.Ref.{Bor}
use denote.Triple.Clauses.{Ended, Clauses, AtExit}
use denote.Triple.Entry.{Args, Res}
use types.Logic.{Logic}
use prog.Memory.{Memory}
use prog.Routine.{Routine}
use Rattle.machine.proofs.Told.{told_read-one}
use Rattle.line_walk.specs.declared.Spot.{Spot}
use Rattle.line_walk.specs.declared.Walker.{Walker}
use Rattle.line_walk.proofs.Facts.{both, both-pairs}
use Rattle.line_walk.proofs.first_spot.Reads as first-spot
use Rattle.line_walk.proofs.read_at.Reads as read_at
use Rattle.line_walk.proofs.gone_to.Reads as gone-to
use Rattle.line_walk.proofs.spot_after.Reads as spot-after
use Rattle.line_walk.specs.contracts.new as new
use Rattle.line_walk.specs.contracts.next as next
use Rattle.line_walk.specs.contracts.moved as moved
use Rattle.line_walk.specs.contracts.spot_of as spot_of_lem
use Rattle.line_walk.specs.contracts.after_lines as after-lines

pub first-spot-determined : (κs : _) (a : _) (r r' : _) (s s' : _) → first-spot.Post κs a r s → first-spot.Post κs a r' s' → r ≡ r'
first-spot-determined κs a r r' s s' p q = p ∙ sym q

pub read-at-determined : (κs : _) (a : _) (r r' : _) (s s' : _) → read_at.Post κs a r s → read_at.Post κs a r' s' → (r ≡ r') × (s.1.1.0.now ≡ s'.1.1.0.now)
read-at-determined κs a r r' s s' p q = (told_read-one r r' (p.0 ∙ sym q.0), p.1 ∙ sym q.1)

pub gone-to-determined : (κs : _) (a : _) (r r' : _) (s s' : _) → gone-to.Post κs a r s → gone-to.Post κs a r' s' → r ≡ r'
gone-to-determined κs a r r' s s' p q = p ∙ sym q

pub spot-after-determined : (κs : _) (a : _) (r r' : _) (s s' : _) → spot-after.Post κs a r s → spot-after.Post κs a r' s' → (r ≡ r') × (s.1.1.0.now ≡ s'.1.1.0.now)
spot-after-determined κs a r r' s s' p q = (p.0 ∙ sym q.0, p.1 ∙ sym q.1)

-- a walker by its two parts
abbrev walker_of : Bor (List ℕ) → Spot → Walker
walker_of file spot = record { file = file; spot = spot }

same-walker : (v w : Walker) → v.file ≡ w.file → v.spot ≡ w.spot → v ≡ w
same-walker v w file spot = ap₂ walker_of file spot

-- a contract without a ghost: two outcomes at the same arguments, r with s at exit and r' with s', agree
abbrev Agree : {M : Type 1} (𝓤 : Ura M) (T : Ended) (c : Clauses 𝓤 T) (κs : Lfts T.signature.lifetimes) (a : Args T.signature κs) (g : (c κs a).ghost)
    → (Res T.signature κs → Res T.signature κs → AtExit T κs → AtExit T κs → Type 0) → Type 1
Agree 𝓤 T c κs a g Same =
    (r r' : Res T.signature κs) (s s' : AtExit T κs) → ent 𝓤 (sep 𝓤 ((c κs a).ensures g r s) ((c κs a).ensures g r' s')) (fact 𝓤 (Same r r' s s'))

pub new-determined : {M : Type 1} {𝓤 : Ura M} (𝓛 : Logic 𝓤) (mem : Memory → SProp 𝓤) (run : Routine → Fun 𝓤) (κs : Lfts 1) (a : Args new.signature κs)
    → Agree 𝓤 new.ended (new.clauses 𝓛 mem run) κs a tt (λ r r' s s'. r ≡ r')
new-determined {𝓤 = 𝓤} 𝓛 mem run κs a r r' s s' = both 𝓤 _ _ (r ≡ r') (λ p q. same-walker r r' (p.0 ∙ sym q.0) (p.1 ∙ sym q.1))

pub next-determined : {M : Type 1} {𝓤 : Ura M} (𝓛 : Logic 𝓤) (mem : Memory → SProp 𝓤) (run : Routine → Fun 𝓤) (κs : Lfts 2) (a : Args next.signature κs)
    → Agree 𝓤 next.ended (next.clauses 𝓛 mem run) κs a tt (λ r r' s s'. (r ≡ r') × (s.1.0.now ≡ s'.1.0.now))
next-determined {𝓤 = 𝓤} 𝓛 mem run κs a r r' s s' =
    both-pairs 𝓤 _ _ _ _ ((r ≡ r') × (s.1.0.now ≡ s'.1.0.now)) (λ p q. (told_read-one r r' (p.0 ∙ sym q.0), p.1 ∙ sym q.1))

pub moved-determined : {M : Type 1} {𝓤 : Ura M} (𝓛 : Logic 𝓤) (mem : Memory → SProp 𝓤) (run : Routine → Fun 𝓤) (κs : Lfts 2) (a : Args moved.signature κs)
    → Agree 𝓤 moved.ended (moved.clauses 𝓛 mem run) κs a tt (λ r r' s s'. (r ≡ r') × (s.1.0.now ≡ s'.1.0.now))
moved-determined {𝓤 = 𝓤} 𝓛 mem run κs a r r' s s' =
    both-pairs 𝓤 _ _ _ _ ((r ≡ r') × (s.1.0.now ≡ s'.1.0.now))
    (λ p q. (same-walker r r' (p.0.0 ∙ sym q.0.0) (p.0.1 ∙ sym q.0.1), p.1 ∙ sym q.1))

pub spot-of-determined : {M : Type 1} {𝓤 : Ura M} (𝓛 : Logic 𝓤) (mem : Memory → SProp 𝓤) (run : Routine → Fun 𝓤) (κs : Lfts 1) (a : Args spot_of_lem.signature κs)
    → Agree 𝓤 spot_of_lem.ended (spot_of_lem.clauses 𝓛 mem run) κs a tt (λ r r' s s'. r ≡ r')
spot-of-determined {𝓤 = 𝓤} 𝓛 mem run κs a r r' s s' = both 𝓤 _ _ (r ≡ r') (λ p q. p ∙ sym q)

pub after-lines-determined : {M : Type 1} {𝓤 : Ura M} (𝓛 : Logic 𝓤) (mem : Memory → SProp 𝓤) (run : Routine → Fun 𝓤) (κs : Lfts 2) (a : Args after-lines.signature κs)
    → Agree 𝓤 after-lines.ended (after-lines.clauses 𝓛 mem run) κs a tt (λ r r' s s'. (r ≡ r') × (s.1.1.1.0.now ≡ s'.1.1.1.0.now))
after-lines-determined {𝓤 = 𝓤} 𝓛 mem run κs a r r' s s' =
    both-pairs 𝓤 _ _ _ _ ((r ≡ r') × (s.1.1.1.0.now ≡ s'.1.1.1.0.now)) (λ p q. (p.0 ∙ sym q.0, p.1 ∙ sym q.1))
