-- What must stand after a line without fault. 01, "Records in order".
use Rattle.std.specs.Prelude.{ℕ, ◌-◌, cond, List, ◌==◌}
use Rattle.header.specs.Rules.{slot_lines}
use Rattle.record.specs.LineKinds.{no_kind, second_kind, satellites_kind, accuracies_kind, characters_kind, floats_kind, integers_kind, comment_kind, epoch_kind, position_kind, velocity_kind, position_correlation_kind, velocity_correlation_kind, end_kind}
use Rattle.record.specs.Opening.{first_of, second_of, epoch_of}
use Rattle.record.specs.SlotLines.{satellites_of}
use Rattle.header.specs.declared.types.Rules.{Rules}
use Rattle.record.specs.declared.types.First.{First}
use Rattle.record.specs.declared.types.LineKind.{LineKind}
use Rattle.record.specs.declared.types.LineKind.TheVariants as kind
use Rattle.record.specs.Agrees.{instant_in}
use Rattle.machine.specs.State.{is_first}
use Rattle.machine.specs.declared.types.State.{State}
use Rattle.machine.specs.declared.types.Verdict.{Verdict}
use Rattle.machine.specs.declared.types.Verdict.TheVariants as verdict

-- a line of this kind must come, so many of them, and nothing else may stand
abbrev pub expect : ℕ → ℕ → State → State
expect due lines s = record {
  due = due;
  also = no_kind;
  lines = lines;
  left = s.left;
  comments = s.comments;
  velocity = s.velocity;
  satellites = s.satellites;
  epochs = s.epochs;
  at8 = s.at8;
  gap8 = s.gap8;
  interval8 = s.interval8;
}

-- what else may stand here
abbrev pub allow : ℕ → State → State
allow also s = record {
  due = s.due;
  also = also;
  lines = s.lines;
  left = s.left;
  comments = s.comments;
  velocity = s.velocity;
  satellites = s.satellites;
  epochs = s.epochs;
  at8 = s.at8;
  gap8 = s.gap8;
  interval8 = s.interval8;
}

-- of so many satellites a slot or a row is still to come
abbrev pub leave : ℕ → State → State
leave left s = record {
  due = s.due;
  also = s.also;
  lines = s.lines;
  left = left;
  comments = s.comments;
  velocity = s.velocity;
  satellites = s.satellites;
  epochs = s.epochs;
  at8 = s.at8;
  gap8 = s.gap8;
  interval8 = s.interval8;
}

-- `#d`: mode, start and epochs are known; `##` must come
unfoldable pub after_first : First → State → State
after_first f s = record {
  due = second_kind;
  also = no_kind;
  lines = 1;
  left = s.left;
  comments = s.comments;
  velocity = (f.mode == 86);
  satellites = 0;
  epochs = f.epochs;
  at8 = instant_in f.start;
  gap8 = 0;
  interval8 = s.interval8;
}

-- `##`: the interval is known; the first `+ ` must come
unfoldable pub after_second : ℕ → State → State
after_second interval8 s = record {
  due = satellites_kind;
  also = no_kind;
  lines = s.lines;
  left = s.left;
  comments = s.comments;
  velocity = s.velocity;
  satellites = s.satellites;
  epochs = s.epochs;
  at8 = s.at8;
  gap8 = s.gap8;
  interval8 = interval8;
}

-- the first `+ `: n is known, and with it the number of `+ ` lines
unfoldable pub after_count : ℕ → State → State
after_count n s = record {
  due = satellites_kind;
  also = no_kind;
  lines = slot_lines n - 1;
  left = n - 17;
  comments = s.comments;
  velocity = s.velocity;
  satellites = n;
  epochs = s.epochs;
  at8 = s.at8;
  gap8 = s.gap8;
  interval8 = s.interval8;
}

-- one line less of a kind, and after the last of them so many of the next kind
abbrev pub line_less : ℕ → ℕ → State → State
line_less next many s = cond (s.lines - 1 == 0) (expect next many s) (expect s.due (s.lines - 1) s)

-- a further `+ `: seventeen slots less; after the last line as many `++` lines, with the slots of all satellites
unfoldable pub after_identifiers : State → State
after_identifiers s =
    cond (s.lines - 1 == 0)
    (leave s.satellites (expect accuracies_kind (slot_lines s.satellites) s))
    (leave (s.left - 17) (expect satellites_kind (s.lines - 1) s))

-- `+ `: the first, or a further one
unfoldable pub after_satellites : Rules → State → List ℕ → State
after_satellites rules s line = cond (is_first s) (after_count (satellites_of rules line).count s) (after_identifiers s)

-- `++`: seventeen slots less; after the last line two `%c`
unfoldable pub after_accuracies : State → State
after_accuracies s = leave (s.left - 17) (line_less characters_kind 2 s)

-- `/*`: comments are due as long as some must come; then epochs are due, and comments may stand as long as the version has more
unfoldable pub comments_due : ℕ → ℕ → State → State
comments_due needed allowed s = record {
  due = cond (needed == 0) epoch_kind comment_kind;
  also = cond (needed == 0) (cond (allowed == 0) no_kind comment_kind) no_kind;
  lines = needed;
  left = s.left;
  comments = allowed;
  velocity = s.velocity;
  satellites = s.satellites;
  epochs = s.epochs;
  at8 = s.at8;
  gap8 = s.gap8;
  interval8 = s.interval8;
}

-- `%i`: after the second the comments
unfoldable pub after_integers : Rules → State → State
after_integers rules s =
    cond (s.lines - 1 == 0) (comments_due rules.fewest_comments rules.most_comments s) (expect integers_kind (s.lines - 1) s)

-- `* `: an epoch less; the row of the first satellite must come, and the next epoch is an interval later
unfoldable pub after_epoch : ℕ → State → State
after_epoch at8 s = record {
  due = position_kind;
  also = no_kind;
  lines = 1;
  left = s.satellites;
  comments = s.comments;
  velocity = s.velocity;
  satellites = s.satellites;
  epochs = s.epochs - 1;
  at8 = at8;
  gap8 = s.interval8;
  interval8 = s.interval8;
}

-- the row of the next satellite, or the next epoch, or EOF
abbrev pub row_due : ℕ → ℕ → ℕ
row_due left epochs = cond (left == 0) (cond (epochs == 0) end_kind epoch_kind) position_kind

-- the rows of a satellite are read; the correlation record of the last of them may stand
unfoldable pub satellite_done : ℕ → State → State
satellite_done also s = leave (s.left - 1) (allow also (expect (row_due (s.left - 1) s.epochs) 1 s))

-- P: in mode V the same satellite's V must come; one EP may stand
unfoldable pub after_position : State → State
after_position s = cond s.velocity (allow position_correlation_kind (expect velocity_kind 1 s)) (satellite_done position_correlation_kind s)

-- what a line of 80 columns without fault does, by its kind
abbrev pub next_of : LineKind → Rules → State → List ℕ → Verdict
next_of kind.Other rules s line = verdict.Next s
next_of kind.First rules s line = verdict.Next (after_first (first_of rules line) s)
next_of kind.Second rules s line = verdict.Next (after_second (second_of line).interval8 s)
next_of kind.Satellites rules s line = verdict.Next (after_satellites rules s line)
next_of kind.Accuracies rules s line = verdict.Next (after_accuracies s)
next_of kind.Characters rules s line = verdict.Next (line_less floats_kind 2 s)
next_of kind.Floats rules s line = verdict.Next (line_less integers_kind 2 s)
next_of kind.Integers rules s line = verdict.Next (after_integers rules s)
next_of kind.Comment rules s line = verdict.Next (comments_due (s.lines - 1) (s.comments - 1) s)
next_of kind.Epoch rules s line = verdict.Next (after_epoch (instant_in (epoch_of line).moment) s)
next_of kind.Position rules s line = verdict.Next (after_position s)
next_of kind.Velocity rules s line = verdict.Next (satellite_done velocity_correlation_kind s)
next_of kind.PositionCorrelation rules s line = verdict.Next (allow no_kind s)
next_of kind.VelocityCorrelation rules s line = verdict.Next (allow no_kind s)
next_of kind.EndOfFile rules s line = verdict.Finished
