use Rattle.std.proofs.Common.{◌≡◌, ◌<◌, ◌-◌, ◌/◌, ◌∙◌, length, set, length-set, arith}
use Rattle.laws.proofs.Lent.{kept-turn, stands}
use Rattle.field.proofs.Backward.{digits-pair, kept_pair, pair_fits, digits-turn, digits-done, shorter-fits}
use Rattle.field.proofs.Texts.{column-before}
use Rattle.field.proofs.write.put_digits.Goals as goal

-- three digits or more leave a column before the last two
pub loop-rest-preserved : goal.loop-rest-preserved
loop-rest-preserved c =
    let l = c.loop-rest in
    let now = l.invariant in
    let two : 2 < l.i = omega (arith, column-before (l.i - 1) (l.rest / 10) (omega arith) (shorter-fits l.i l.rest now.some now.fits)) in
    record {
      some = omega arith;
      within = omega (arith, c.put_pair.auto.out);
      fits = pair_fits l.i l.rest (omega arith) now.fits;
      text = digits-pair l.out _ l.i l.rest (omega arith) now.within c.put_pair.ensures _ c.loop-rest-test.true now.text;
      kept = kept_pair l.out _ l.i l.rest (omega arith) now.within c.put_pair.ensures _ now.kept;
    }

pub returns-then-rest-lt10-clause-out_after : goal.returns-then-rest-lt10-clause-out_after
returns-then-rest-lt10-clause-out_after c =
    let l = c.loop-rest in
    let now = l.invariant in
    let b = c.last_digit in
    (stands (set l.out (l.i - 1) b.result) c.args.out.now _ (l.i - 1)
    (omega (arith, length-set l.out (l.i - 1) b.result))
    (length-set l.out (l.i - 1) b.result ∙ l.auto.out)
    (digits-done _ l.out l.i l.rest b.result now.some now.within b.ensures (omega arith) now.text)
    (kept-turn l.out c.args.out.now l.i b.result now.kept)).1

-- two digits have a column before the last
pub returns-clause-value : goal.returns-clause-value
returns-clause-value c =
    let l = c.loop-rest in
    let now = l.invariant in
    let b = c.last_digit in
    let d = c.first_digit in
    let put = set l.out (l.i - 1) b.result in
    let room : 1 < l.i = column-before l.i l.rest (omega arith) now.fits in
    let once = digits-turn _ l.out l.i l.rest b.result now.some now.within b.ensures (omega arith) now.text in
    let long = length-set l.out (l.i - 1) b.result in
    let both : length (set put (l.i - 1 - 1) d.result) ≡ length l.out = length-set put (l.i - 1 - 1) d.result ∙ long in
    (stands (set put (l.i - 1 - 1) d.result) c.args.out.now _ (l.i - 1 - 1)
    (omega (arith, both))
    (both ∙ l.auto.out)
    (digits-done _ put (l.i - 1) (l.rest / 10) d.result (omega arith) (omega (arith, long)) (omega arith) (omega arith) once)
    (kept-turn put c.args.out.now (l.i - 1) d.result (kept-turn l.out c.args.out.now l.i b.result now.kept))).0

pub returns-clause-out_after : goal.returns-clause-out_after
returns-clause-out_after c =
    let l = c.loop-rest in
    let now = l.invariant in
    let b = c.last_digit in
    let d = c.first_digit in
    let put = set l.out (l.i - 1) b.result in
    let room : 1 < l.i = column-before l.i l.rest (omega arith) now.fits in
    let once = digits-turn _ l.out l.i l.rest b.result now.some now.within b.ensures (omega arith) now.text in
    let long = length-set l.out (l.i - 1) b.result in
    let both : length (set put (l.i - 1 - 1) d.result) ≡ length l.out = length-set put (l.i - 1 - 1) d.result ∙ long in
    (stands (set put (l.i - 1 - 1) d.result) c.args.out.now _ (l.i - 1 - 1)
    (omega (arith, both))
    (both ∙ l.auto.out)
    (digits-done _ put (l.i - 1) (l.rest / 10) d.result (omega arith) (omega (arith, long)) (omega arith) (omega arith) once)
    (kept-turn put c.args.out.now (l.i - 1) d.result (kept-turn l.out c.args.out.now l.i b.result now.kept))).1
