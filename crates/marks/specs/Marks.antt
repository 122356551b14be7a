-- Marks of identifiers: a byte for each number from A00 to Z99, 0 where it was not named yet. They tell quickly whether an identifier repeats; what it
-- is to repeat is said elsewhere (record, Agrees), and no answer is defined by marks.
use Rattle.std.specs.Prelude.{◌≡◌, Bool, true, false, cond, ◌&&◌, List, [], ◌∷◌, ℕ, ◌-◌, eqb, leb, ltb, length, get_or, set, replicate}
use Rattle.laws.specs.Tests.{within}
use Rattle.layout.specs.Kind.{is_one_of}

-- the first and the last number that has a mark, A00 and Z99, and how many there are
abbrev pub first_marked : ℕ
first_marked = 6500

abbrev pub last_marked : ℕ
last_marked = 9099

abbrev pub marks_many : ℕ
marks_many = 2600

-- a number from the first to the last
abbrev pub is_markable : ℕ → Bool
is_markable n = within first_marked last_marked n

-- before the first identifier
abbrev pub no_marks : List ℕ
no_marks = replicate marks_many 0

-- among some marks there is one of a number
abbrev pub has_mark : List ℕ → ℕ → Bool
has_mark marks n = leb first_marked n && ltb (n - first_marked) (length marks)

-- it has a mark, which is not set
unfoldable pub is_new : List ℕ → ℕ → Bool
is_new marks n = has_mark marks n && eqb (get_or marks (n - first_marked) 0) 0

-- the marks after a number; one that has no mark changes none
unfoldable pub marked_with : ℕ → List ℕ → List ℕ
marked_with n marks = cond (has_mark marks n) (set marks (n - first_marked) 1) marks

-- the marks after some numbers, one after the other
unfoldable pub marked_all : List ℕ → List ℕ → List ℕ
marked_all [] marks = marks
marked_all (n ∷ ns) marks = marked_all ns (marked_with n marks)

-- each of them was new where it came
unfoldable pub all_new : List ℕ → List ℕ → Bool
all_new marks [] = true
all_new marks (n ∷ ns) = is_new marks n && all_new (marked_with n marks) ns

-- the marks cover some numbers: none of these is new
abbrev pub Covers : List ℕ → List ℕ → Type 0
Covers known marks = (n : ℕ) → is_one_of n known ≡ true → is_new marks n ≡ false
