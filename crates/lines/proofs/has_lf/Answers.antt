use Rattle.std.proofs.Common.{rules, tests, subst, ◌≡◌}
use Rattle.laws.proofs.Flags.{fold_any}
use Rattle.lines.specs.Lines.{is_lf, has_lf}
use Rattle.lines.proofs.has_lf.Goals as goal

pub returns : goal.returns
unfolding has_lf
returns c = subst (λ s. c.fold.result ≡ has_lf s) c.iter.ensures.rest
    (fold_any is_lf _ _ c.iter.result c.fold.result c.fold.ensures.ran (λ flag x b f' k. search (rules, tests)))
