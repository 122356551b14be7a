-- `header::making::letters_listed` meets its contract: each letter and word by its own answer.
-- Assumes nothing.
use mathlib.Core.List.{List}
use mathlib.Core.Path.{◌≡◌, ap, ◌∙◌}
use Prim.Native.Nat.{ℕ}
use borrow.Author.Rules.{rules}
use lib.ListN.{length}
use Rattle.layout.specs.Kind.{is_listed}
use Rattle.header.specs.Header.{letters_listed}
use Rattle.header.specs.Letters.{time_systems}
use Rattle.header.proofs.Tests.{all-four, three-bytes}
use Rattle.header.proofs.making.letters_listed.Statement.{statement}
use Rattle.header.proofs.making.letters_listed.Tie as tie

returns : tie.Need-returns
unfolding letters_listed
returns c =
    let timed = c in
    let start = c in
    let e : length start.args.time_system ≡ 3 = search rules in
    all-four _ _ _ _ _ _ _ _ c.is_mode.ensures c.is_file_type.ensures
    (timed.is_time_system-timed.ensures ∙ ap (λ (s : List ℕ). is_listed s time_systems) (three-bytes start.args.time_system e))
    c.texts_printable.ensures

pub letters_listed_spec : {M : Type 1} → statement M
letters_listed_spec =
    tie.close
    (tie.spec
    (λ c. search rules)
    (λ c. search rules)
    (λ c. search rules)
    (λ c κs. search rules)
    (λ c κs. search rules)
    (λ c κs. search rules)
    (λ c κs. search rules)
    returns)
