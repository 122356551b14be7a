-- The header of an accepted file's table says what its lines say.
-- Assumes nothing.
use mathlib.Core.Path.{◌≡◌, ap}
use mathlib.Core.List.{List}
use Prim.Native.Nat.{ℕ}
use lib.ListN.{length}
use Rattle.header.specs.declared.types.Rules.{Rules}
use Rattle.file.specs.Plain.{Plain}
use Rattle.file.specs.Table.{header_in}
use Rattle.file_laws.proofs.Counts.{header_is}
use Rattle.file_laws.proofs.Selected.{satellites, velocities, start8, interval8, epochs}
use Rattle.header.specs.declared.types.Header.{Header}

module _ {rules : Rules} {lines : List (List ℕ)} (p : Plain rules lines) where
  pub says-satellites : (header_in rules lines).satellites ≡ satellites p
  says-satellites = ap (λ (h : Header). h.satellites) (header_is p)

  pub says-epochs : (header_in rules lines).epochs ≡ epochs p
  says-epochs = ap (λ (h : Header). h.epochs) (header_is p)

  pub says-start : (header_in rules lines).start8 ≡ start8 p
  says-start = ap (λ (h : Header). h.start8) (header_is p)

  pub says-interval : (header_in rules lines).interval8 ≡ interval8 p
  says-interval = ap (λ (h : Header). h.interval8) (header_is p)

  pub says-velocity : (header_in rules lines).velocity ≡ velocities p
  says-velocity = ap (λ (h : Header). h.velocity) (header_is p)

  pub says-comments : (header_in rules lines).comments ≡ length p.comments
  says-comments = ap (λ (h : Header). h.comments) (header_is p)
