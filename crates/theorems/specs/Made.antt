-- Tables made up to show that something exists, as the front page speaks of them: one of one row, and one of so many satellites.
use Rattle.std.specs.Prelude.{false, List, [], ◌∷◌, ◌++◌, ℕ, zero, suc, ◌+◌, ◌*◌, ◌/◌, ◌%◌, ℤ, pos, replicate}
use Rattle.layout.specs.Kind.{unnoted}
use Rattle.canon.specs.Table.{Table, table_of}
use Rattle.header.specs.declared.types.Header.{Header}

-- the header of the paper's own file: mode P, 2013-04-03, one epoch, 900 s, one satellite, four comments, type G, GPS
unfoldable pub paper_header : Header
paper_header = record {
  velocity = false;
  start8 = 56385 * 8_640_000_000_000;
  epochs = 1;
  interval8 = 90_000_000_000;
  texts = record {
    data_used = 79 ∷ 82 ∷ 66 ∷ 73 ∷ 84 ∷ [];
    coordinates = 87 ∷ 71 ∷ 83 ∷ 56 ∷ 52 ∷ [];
    orbit = 66 ∷ 67 ∷ 84 ∷ [];
    agency = 80 ∷ 79 ∷ 82 ∷ 84 ∷ [];
  };
  satellites = 1;
  comments = 4;
  file_type = 71;
  time_system = 71 ∷ 80 ∷ 83 ∷ [];
  bases = record { place = 12_500_000; clock = 1_025_000_000 };
}

-- its table with this x and this mark of a note: G07, no exponent known, no flag, nothing known of the note
unfoldable pub one_row : ℤ → ℤ → Table
one_row x mark =
    table_of paper_header (7107 ∷ []) (0 ∷ []) (replicate 308 32)
    (x ∷ pos 0 ∷ pos 0 ∷ pos 999_999_999_999 ∷ pos 1000 ∷ pos 1000 ∷ pos 1000 ∷ pos 1000 ∷ pos 0 ∷ pos 0 ∷ pos 0 ∷ pos 0 ∷ mark ∷ replicate 10 (pos unnoted))

-- the identifier of number k, by letter and then number: A01 to A99, B01 and so on
unfoldable pub nth_identifier : ℕ → ℕ
nth_identifier k = (65 + k / 99) * 100 + 1 + k % 99

-- so many of them, from number k on
unfoldable pub identifiers_from : ℕ → ℕ → List ℕ
identifiers_from k zero = []
identifiers_from k (suc n) = nth_identifier k ∷ identifiers_from (suc k) n

-- a row of which nothing is known: no place, no clock, no exponent, no flag, no note
abbrev pub absent_row : List ℤ
absent_row =
    pos 0 ∷ pos 0 ∷ pos 0 ∷ pos 999_999_999_999 ∷ pos 1000 ∷ pos 1000 ∷ pos 1000 ∷ pos 1000 ∷ pos 0 ∷ pos 0 ∷ pos 0 ∷ pos 0 ∷ pos 0 ∷ replicate 10 (pos unnoted)

unfoldable pub absent_rows : ℕ → List ℤ
absent_rows zero = []
absent_rows (suc n) = absent_row ++ absent_rows n

-- the paper's own header with n satellites, of type M (77)
abbrev pub header_of_many : ℕ → Header
header_of_many n = record {
  velocity = false;
  start8 = paper_header.start8;
  epochs = 1;
  interval8 = paper_header.interval8;
  texts = paper_header.texts;
  satellites = n;
  comments = 4;
  file_type = 77;
  time_system = paper_header.time_system;
  bases = paper_header.bases;
}

-- so many exponents of 0, and four blank comments
abbrev pub zeros : ℕ → List ℕ
zeros n = replicate n 0

abbrev pub four_blank : List ℕ
four_blank = replicate 308 32

-- the table of n such satellites, of one epoch
abbrev pub table_of_many : ℕ → Table
table_of_many n = table_of (header_of_many n) (identifiers_from 0 n) (zeros n) four_blank (absent_rows n)
