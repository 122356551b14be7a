-- What the contracts of `new` and `moved` promise of a walker, as facts on plain values: their clauses entail them.
-- Assumes nothing.
use mathlib.Core.Path.{◌≡◌}
use mathlib.Core.List.{List}
use Prim.Native.Nat.{ℕ}
use seplogic.Ra.Ura.{Ura}
use base.Logic.{SProp, ent, id⊢}
use contract.Fact.{fact, fact_i, fact_use}
use contract.Lifetimes.{Lfts}
use contract.Monad.{Fun}
use denote.Ref.{Bor}
use denote.Triple.Clauses.{AtExit}
use denote.Triple.Entry.{Args, Res}
use types.Logic.{Logic}
use prog.Memory.{Memory}
use prog.Routine.{Routine}
use Rattle.header.specs.Versions.{rules_in}
use Rattle.machine.specs.Step.{line_identifiers}
use Rattle.line_walk.specs.Spots.{spot_after}
use Rattle.line_walk.specs.declared.Spot.{Spot}
use Rattle.line_walk.specs.declared.Walker.{Walker}
use Rattle.line_walk.proofs.Facts.{both}
use Rattle.line_walk.specs.contracts.new as new
use Rattle.line_walk.specs.contracts.moved as moved

-- a new walker holds the file and the spot that it was made of
pub record Begins (file : Bor (List ℕ)) (spot : Spot) (w : Walker) : Type 0 where
  pub file-is : w.file ≡ file
  pub spot_is : w.spot ≡ spot

-- a walker v, moved from w with these identifiers, which are then `kept`: the same file, the spot after the line, the list after it
pub record Moves (w : Walker) (identifiers : List ℕ) (v : Walker) (kept : List ℕ) : Type 0 where
  pub file : v.file ≡ w.file
  pub spot : v.spot ≡ spot_after (rules_in w.file.now) w.file.now identifiers w.spot
  pub identifiers-are : kept ≡ line_identifiers (rules_in w.file.now) w.file.now w.spot.at w.spot.state identifiers

module _ {M : Type 1} {𝓤 : Ura M} (𝓛 : Logic 𝓤) (mem : Memory → SProp 𝓤) (run : Routine → Fun 𝓤) where
  -- THE CONTRACT OF `new`: of every outcome that it allows this is so
  pub new-begins : (κs : Lfts 1) (a : Args new.signature κs) (w : Res new.signature κs) (s : AtExit new.ended κs)
      → ent 𝓤 ((new.clauses 𝓛 mem run κs a).ensures tt w s) (fact 𝓤 (Begins a.0 a.1.0 w))
  new-begins κs a w s =
      fact_use 𝓤 ((w.file ≡ a.0) × (w.spot ≡ a.1.0)) (id⊢ 𝓤 _)
      (λ p. fact_i 𝓤 (Begins a.0 a.1.0 w) _ (record { file-is = p.0; spot_is = p.1 }))

  -- THE CONTRACT OF `moved`: likewise
  pub moved-moves : (κs : Lfts 2) (a : Args moved.signature κs) (v : Res moved.signature κs) (s : AtExit moved.ended κs)
      → ent 𝓤 ((moved.clauses 𝓛 mem run κs a).ensures tt v s) (fact 𝓤 (Moves a.0 a.1.0.now v s.1.0.now))
  moved-moves κs a v s =
      both 𝓤 _ _ (Moves a.0 a.1.0.now v s.1.0.now) (λ p q. record { file = p.0; spot = p.1; identifiers-are = q })
