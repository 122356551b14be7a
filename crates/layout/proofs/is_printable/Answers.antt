use Rattle.std.proofs.Common.{rules, tests, subst, ◌≡◌}
use Rattle.laws.specs.Texts.{every, is_printable}
use Rattle.laws.proofs.Flags.{fold_all}
use Rattle.layout.proofs.is_printable.Goals as goal

pub returns : goal.returns
returns c = record {
  result = subst (λ s. c.fold.result ≡ every is_printable s) c.iter.ensures.rest
      (fold_all is_printable _ _ c.iter.result c.fold.result c.fold.ensures.ran (λ flag x b f' k. search (rules, tests)));
}
