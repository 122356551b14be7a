-- `reader::delivery::read_front` meets its contract.
-- Assumes nothing.
use Rattle.file.specs.Table.{comments_in, rows_in}
use Rattle.header.specs.Versions.{rules_in}
use Rattle.header.specs.declared.types.Rules.{Rules}
use Rattle.reader.proofs.Delivering.{answered, listed}
use Rattle.reader.specs.Reading.{exponents_of, front_of, identifiers_of}
use borrow.Author.Rules.{rules}
use lib.ListN.{length}
use mathlib.Core.Path.{◌∙◌, ◌≡◌, ap}
use Rattle.reader.proofs.delivery.read_front.Statement.{statement}
use Rattle.reader.proofs.delivery.read_front.Tie as tie

deliver-requires : tie.Need-deliver-requires
deliver-requires c κs = c.found_in-found.ensures.1

returns : tie.Need-returns
returns c =
    let done = c in
    let looked = c in
    let ruled = c in
    let a = ruled.args in
    let same : looked.found_in-found.result ≡ front_of (rules_in a.stretch.now) a.stretch.now = looked.found_in-found.ensures.0 ∙ ap (λ (k : Rules). front_of k a.stretch.now) ruled.told_by-rules.ensures in
    let p = done.deliver.ensures in (
      answered a.stretch.now (length a.identifiers.now) (length a.exponents.now) (length a.comments.now) (length a.rows.now) ruled.told_by-rules.result (rules_in a.stretch.now) looked.found_in-found.result (front_of (rules_in a.stretch.now) a.stretch.now) ruled.told_by-rules.ensures same done.deliver.result p.0,
      (
        listed a.stretch.now (length a.identifiers.now) (length a.exponents.now) (length a.comments.now) (length a.rows.now) ruled.told_by-rules.result (rules_in a.stretch.now) looked.found_in-found.result (front_of (rules_in a.stretch.now) a.stretch.now) ruled.told_by-rules.ensures same identifiers_of a.identifiers.now _ p.1.0,
        (
          listed a.stretch.now (length a.identifiers.now) (length a.exponents.now) (length a.comments.now) (length a.rows.now) ruled.told_by-rules.result (rules_in a.stretch.now) looked.found_in-found.result (front_of (rules_in a.stretch.now) a.stretch.now) ruled.told_by-rules.ensures same exponents_of a.exponents.now _ p.1.1.0,
          (
            listed a.stretch.now (length a.identifiers.now) (length a.exponents.now) (length a.comments.now) (length a.rows.now) ruled.told_by-rules.result (rules_in a.stretch.now) looked.found_in-found.result (front_of (rules_in a.stretch.now) a.stretch.now) ruled.told_by-rules.ensures same comments_in a.comments.now _ p.1.1.1.0,
            listed a.stretch.now (length a.identifiers.now) (length a.exponents.now) (length a.comments.now) (length a.rows.now) ruled.told_by-rules.result (rules_in a.stretch.now) looked.found_in-found.result (front_of (rules_in a.stretch.now) a.stretch.now) ruled.told_by-rules.ensures same rows_in a.rows.now _ p.1.1.1.1,
          ),
        ),
      ),
    )

pub read_front_spec : {M : Type 1} → statement M
read_front_spec = tie.close (tie.spec (λ c κs. search rules) (λ c κs. search rules) deliver-requires (λ c. search rules) (λ c. search rules) (λ c. search rules) (λ c. search rules) returns)
