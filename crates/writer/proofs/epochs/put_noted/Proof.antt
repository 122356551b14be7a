-- `writer::epochs::put_noted` meets its contract: a row's line, and the line of its note directly after it.
-- Assumes nothing.
use mathlib.Core.Path.{◌≡◌}
use mathlib.Core.List.{List, [], ◌∷◌}
use Prim.Native.Nat.{ℕ, ◌+◌}
use native.Mathlib.Omega.{arith}
use borrow.Author.Rules.{rules}
use lib.ListN.{take, drop}
use Rattle.record.specs.Rows.{row_line, bare_width, note_width}
use Rattle.record.specs.Notes.{note_line}
use Rattle.canon.specs.Canonical.{row_shown, note_shown, noted_lines}
use Rattle.writer.proofs.Blocks.{noted-alone, noted-both}
use Rattle.writer.proofs.Laying.{Laying, then, laying-first, laying-within, laying-fits, laying-more, laying-end, one_line}
use Rattle.writer.proofs.epochs.put_noted.Statement.{statement}
use Rattle.writer.proofs.epochs.put_noted.Tie as tie

abbrev line : tie.Start → List ℕ
line c = row_line c.args.velocity (row_shown c.args.identifier c.args.row.now)

abbrev note : tie.Start → List ℕ
note c = note_line c.args.velocity (note_shown (take note_width (drop bare_width c.args.row.now)))

abbrev Laid : tie.Start → ℕ → List ℕ → List (List ℕ) → Type 0
Laid c at now rest = Laying (line c ∷ note c ∷ []) c.args.out.now at now rest

returns : tie.Need-returns-then-not-flag_at
returns c =
    let start = c.before.before.before.before.before.before.before.before.before in
    rw (noted-alone start.args.velocity start.args.identifier start.args.row.now start.requires.0 c.flag_at.ensures (c.if-not-flag_at.true))
    (one_line (line start) (rw c.row_shown.ensures at c.write_row-at.ensures))

-- its note stood there
both : (c : tie.Else-not-flag_at) → noted_lines c.args.velocity c.args.identifier c.args.row.now ≡ line c.before.before.before.before.before.before.before.before.before ∷ note c.before.before.before.before.before.before.before.before.before ∷ []
both c =
    let start = c in
    noted-both start.args.velocity start.args.identifier start.args.row.now start.requires.0 c.flag_at.ensures (c.if-not-flag_at.false)

first-laid : (c : tie.Else-not-flag_at) → Laid c.before.before.before.before.before.before.before.before.before c.write_row-at.result c.write_row-at.new.out (note c.before.before.before.before.before.before.before.before.before ∷ [])
first-laid c =
    let start = c.before.before.before.before.before.before.before.before.before in
    laying-first (line start ∷ []) (note start ∷ []) (rw (both c) at start.requires.1)
    (one_line (line start) (rw c.row_shown.ensures at c.write_row-at.ensures))

both-laid : (c : tie.After-write_note)
    → Laid c.before.before.before.before.before.before.before.before.before.before.before.before (c.write_row-at.result + c.write_note.result)
    (then c.write_row-at.result c.write_row-at.new.out c.write_note.new.out) []
both-laid c =
    laying-more (note c.before.before.before.before.before.before.before.before.before.before.before.before ∷ []) [] (first-laid c.before.before.before)
    (one_line (note c.before.before.before.before.before.before.before.before.before.before.before.before) (rw c.note_shown.ensures at c.write_note.ensures))

returns-2 : tie.Need-returns
returns-2 c = rw (both c.before.before.before.before.before) (laying-end (both-laid c.before.before))

pub put_noted_spec : {M : Type 1} → statement M
put_noted_spec =
    tie.close
    (tie.spec
    (λ c. search rules)
    (λ c. search rules)
    (λ c. search rules)
    (λ c κs. search rules)
    (λ c κs. search rules)
    (λ c κs. search rules)
    (λ c. search rules)
    returns
    (λ c κs. search rules)
    (λ c. laying-within (first-laid c.before))
    (λ c. laying-within (first-laid c.before))
    (λ c. search rules)
    (λ c κs. search rules)
    (λ c. omega (arith, c.well_formed, laying-fits (both-laid c.before.before)))
    (λ c. search rules)
    returns-2)
