-- `scan::scan_whole` meets its contract: at each way out the tests that led there say which case holds.
-- Assumes nothing.
use Rattle.std.proofs.Common.{◌≡◌, sym, ◌∙◌, ap, ◌<◌, ◌≤◌, ℕ, List, length, arith, Ok, Err}
use Rattle.std.proofs.lemmas.Result.{err_from_is_err_and}
use borrow.Author.Tests.{lt-ltb, le-ltb}
use Rattle.scan.specs.Front.{Front}
use Rattle.scan.specs.Run.{scan_of, whole_front}
use Rattle.scan.specs.Told.{told_front}
use Rattle.scan.proofs.Told.{told_front-one}
use Rattle.scan.proofs.Turn.{lines-within}
use Rattle.scan.proofs.scan_whole.Goals as goal

-- what stands at the front, where that was told of an answer
found : (a b f : Front) → told_front a ≡ told_front b → a ≡ f → b ≡ f
found a b f e is = sym (told_front-one a b e) ∙ is

pub overflow_add-tally : goal.overflow_add-tally
overflow_add-tally c =
    let t = lines-within c.args.rules c.args.bytes.now c.in_ok-tally.tally (found _ _ _ c.scan_front.ensures.result c.in_ok-tally.was) in
    omega arith

pub returns-in_err-tally : goal.returns-in_err-tally
unfolding whole_front
returns-in_err-tally c =
    let handed = err_from_is_err_and c.from_residual.result c.from_residual.ensures.1 in
    record { result = rw (handed.1, handed.2, found _ _ _ c.scan_front.ensures.result c.in_err-tally.was) }

pub returns-then-tally-bytes : goal.returns-then-tally-bytes
unfolding whole_front
returns-then-tally-bytes c =
    record {
      result = rw (
        c.refused.ensures,
        found _ _ _ c.scan_front.ensures.result c.in_ok-tally.was,
        lt-ltb c.in_ok-tally.tally.end (length c.args.bytes.now) c.if-tally-bytes.true,
      );
    }

pub returns : goal.returns
unfolding whole_front
returns c =
    record {
      result = rw (
        found _ _ _ c.scan_front.ensures.result c.in_ok-tally.was,
        le-ltb c.in_ok-tally.tally.end (length c.args.bytes.now) c.if-tally-bytes.false,
      );
    }
