-- The kind of a line. 01, "Lines": "The kind of a line is told by columns 1 and 2; for P and V by column 1, for EOF by columns 1 to 3."
-- The first line's second column has the letter of the version. What is no kind is `Other`.
use Rattle.std.specs.Prelude.{cond, ◌&&◌, List, ℕ, min, eqb, get_or}
use Rattle.header.specs.declared.types.Rules.{Rules}
use Rattle.record.specs.declared.types.LineKind.{LineKind}
use Rattle.record.specs.declared.types.LineKind.TheVariants as kind

-- a number for each kind, in the order of the records, and 0 for none: `#d`, `##`, `+ `, `++`, `%c`, `%f`, `%i`, `/*`, `* `, P, V, EP, EV, EOF
abbrev pub no_kind : ℕ
no_kind = 0

abbrev pub first_kind : ℕ
first_kind = 1

abbrev pub second_kind : ℕ
second_kind = 2

abbrev pub satellites_kind : ℕ
satellites_kind = 3

abbrev pub accuracies_kind : ℕ
accuracies_kind = 4

abbrev pub characters_kind : ℕ
characters_kind = 5

abbrev pub floats_kind : ℕ
floats_kind = 6

abbrev pub integers_kind : ℕ
integers_kind = 7

abbrev pub comment_kind : ℕ
comment_kind = 8

abbrev pub epoch_kind : ℕ
epoch_kind = 9

abbrev pub position_kind : ℕ
position_kind = 10

abbrev pub velocity_kind : ℕ
velocity_kind = 11

abbrev pub position_correlation_kind : ℕ
position_correlation_kind = 12

abbrev pub velocity_correlation_kind : ℕ
velocity_correlation_kind = 13

abbrev pub end_kind : ℕ
end_kind = 14

-- the number of a kind
abbrev pub told_kind : LineKind → ℕ
told_kind kind.Other = no_kind
told_kind kind.First = first_kind
told_kind kind.Second = second_kind
told_kind kind.Satellites = satellites_kind
told_kind kind.Accuracies = accuracies_kind
told_kind kind.Characters = characters_kind
told_kind kind.Floats = floats_kind
told_kind kind.Integers = integers_kind
told_kind kind.Comment = comment_kind
told_kind kind.Epoch = epoch_kind
told_kind kind.Position = position_kind
told_kind kind.Velocity = velocity_kind
told_kind kind.PositionCorrelation = position_correlation_kind
told_kind kind.VelocityCorrelation = velocity_correlation_kind
told_kind kind.EndOfFile = end_kind

-- `#`: the first line by its version's letter, or `##`
abbrev pub hash_kind : ℕ → ℕ → LineKind
hash_kind letter second = cond (eqb second 35) kind.Second (cond (eqb second letter) kind.First kind.Other)

-- `+`: identifiers, or `++` accuracies
abbrev pub plus_kind : ℕ → LineKind
plus_kind second = cond (eqb second 32) kind.Satellites (cond (eqb second 43) kind.Accuracies kind.Other)

-- `* `: an epoch
abbrev pub star_kind : ℕ → LineKind
star_kind second = cond (eqb second 32) kind.Epoch kind.Other

-- `/*`: a comment
abbrev pub slash_kind : ℕ → LineKind
slash_kind second = cond (eqb second 42) kind.Comment kind.Other

-- `%`: characters, floats or integers
abbrev pub percent_kind : ℕ → LineKind
percent_kind second =
    cond (eqb second 99) kind.Characters (cond (eqb second 102) kind.Floats (cond (eqb second 105) kind.Integers kind.Other))

-- `E`: correlations, or the end of the file, which has three letters
abbrev pub e_kind : ℕ → ℕ → LineKind
e_kind second third =
    cond (eqb second 80) kind.PositionCorrelation
    (cond (eqb second 86) kind.VelocityCorrelation (cond (eqb second 79 && eqb third 70) kind.EndOfFile kind.Other))

-- by the bytes of columns 1, 2 and 3
abbrev pub kind_by : ℕ → ℕ → ℕ → ℕ → LineKind
kind_by letter first second third =
    cond (eqb first 80) kind.Position
    (cond (eqb first 86) kind.Velocity
    (cond (eqb first 42) (star_kind second)
    (cond (eqb first 69) (e_kind second third)
    (cond (eqb first 43) (plus_kind second)
    (cond (eqb first 47) (slash_kind second)
    (cond (eqb first 37) (percent_kind second) (cond (eqb first 35) (hash_kind letter second) kind.Other)))))))

-- the kind of a line of 80 columns
unfoldable pub kind_of : Rules → List ℕ → LineKind
kind_of rules line = kind_by rules.letter (get_or line 0 0) (get_or line 1 0) (get_or line 2 0)

-- the columns that a line of a kind may have: 80, or fewer of a comment where the version says so
abbrev pub longest : Rules → LineKind → ℕ
longest rules kind.Other = 80
longest rules kind.First = 80
longest rules kind.Second = 80
longest rules kind.Satellites = 80
longest rules kind.Accuracies = 80
longest rules kind.Characters = 80
longest rules kind.Floats = 80
longest rules kind.Integers = 80
longest rules kind.Comment = min 80 rules.comment_columns
longest rules kind.Epoch = 80
longest rules kind.Position = 80
longest rules kind.Velocity = 80
longest rules kind.PositionCorrelation = 80
longest rules kind.VelocityCorrelation = 80
longest rules kind.EndOfFile = 80
