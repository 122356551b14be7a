use Rattle.std.proofs.Common.{rules, tests, subst, ◌≡◌}
use Rattle.laws.specs.Texts.{every}
use Rattle.laws.proofs.Flags.{fold_all}
use Rattle.marks.specs.Marks.{is_markable}
use Rattle.marks.proofs.have_marks.Goals as goal

pub returns : goal.returns
returns c = subst (λ s. c.fold.result ≡ every is_markable s) c.iter.ensures.rest
    (fold_all is_markable _ _ c.iter.result c.fold.result c.fold.ensures.ran (λ flag x b f' k. search (rules, tests)))
