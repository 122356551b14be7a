-- A reading into lent memory, on plain values: what is refused leaves every list as it was; what has room is filled.
-- Assumes nothing.
use mathlib.Core.Path.{◌≡◌, refl, sym, ap, ap₂, ◌∙◌}
use mathlib.Core.Bool.{Bool, true, false, ◌&&◌}
use mathlib.Core.List.{List, ◌++◌, map}
use Prim.Native.Nat.{ℕ, ◌-◌, ◌*◌, ◌/◌, ◌≤◌}
use native.Mathlib.Decide.{dec_le}
use native.Mathlib.Omega.{arith}
use borrow.Author.Tests.{leb-true}
use lib.Dec.{leb}
use lib.IntN.{ℤ}
use lib.ListN.{length, take, length-take, length-map, drop_of_length-le}
use lib.Seq.{take_all}
use Rattle.laws.proofs.Bools.{and_left, and_right}
use Rattle.lines.specs.Lent.{over, laid, flat}
use Rattle.lines.specs.Lines.{lines_of}
use Rattle.record.specs.LineKinds.{comment_kind}
use Rattle.record.specs.Plain.{comment_width}
use Rattle.record.specs.Rows.{row_width}
use Rattle.lines.proofs.Each.{each_map}
use Rattle.lines.proofs.Laying.{laid-fits}
use Rattle.lines.proofs.Picking.{length-flat}
use Rattle.file.specs.Kinds.{of_kind}
use Rattle.file.specs.Table.{count_of, slot_numbers, slot_line_kind, slots_in, comment_text, comments_in, rows_of_lines, rows_in}
use Rattle.file.proofs.Wide.{rows-many}
use Rattle.file_laws.proofs.Counts.{comment-wide}
use Rattle.header.specs.declared.types.Rules.{Rules}
use Rattle.scan.specs.declared.Tally.{Tally}
use Rattle.scan.specs.Front.{Front}
use Rattle.scan.specs.Front as front
use Rattle.reader.specs.Reading.{refused_with, lines_to, judged, Accounted, room_for, enough, delivered, lines_in, filled, identifiers_of, exponents_of}
use Rattle.reader.specs.declared.types.Reading.{Reading}
use Rattle.reader.proofs.Found.{front-part, file-accounted}

-- a list that is left as it was
pub left_alone : {A : Type 0} (room : Bool) (new old : List A) → room ≡ false → old ≡ filled room new old
left_alone room new old e = rw e

-- a list that is filled
filled-all : {A : Type 0} (room : Bool) (new old now : List A) → room ≡ true → now ≡ over new old → now ≡ filled room new old
filled-all room new old now e is = is ∙ rw e

-- what is laid is laid over as many places as there are
laid-over : {A : Type 0} (new old : List A) → laid new old ≡ over (take (length old) new) old
laid-over {A} new old = go (dec_le (length new) (length old))
  where
    go : Dec (length new ≤ length old) → laid new old ≡ over (take (length old) new) old
    go (yes h) = laid-fits new old h ∙ ap (λ (some : List A). over some old) (sym (take_all (length old) new h))
    go (no h) =
        ap (λ (t : List A). take (length old) new ++ t)
        (drop_of_length-le old {i = length new} (omega arith) ∙ sym (drop_of_length-le old {i = length (take (length old) new)} (omega (arith, length-take (length old) new))))

laid-all : {A : Type 0} (room : Bool) (new old now : List A) → room ≡ true → now ≡ laid new old → now ≡ filled room (take (length old) new) old
laid-all room new old now e is = filled-all room (take (length old) new) old now e (is ∙ laid-over new old)

-- where there is room, what fits is all
filled-same : {A : Type 0} (room : Bool) (some all old : List A) → (room ≡ true → some ≡ all) → filled room some old ≡ filled room all old
filled-same true some all old h = ap (λ new. over new old) (h refl)
filled-same false some all old h = refl

-- the four lists, which a flag fills with what fits of some lines, or leaves as they were
module _ (room : Bool) (rules : Rules) (n count : ℕ) (used : List (List ℕ)) (identifiers exponents comments : List ℕ) (rows : List ℤ) where
  abbrev pub Filled : List ℕ → List ℕ → List ℕ → List ℤ → Type 0
  Filled identifiers' exponents' comments' rows' =
      (identifiers' ≡ filled room (take (length identifiers) (slots_in rules false n used)) identifiers)
      × ((exponents' ≡ filled room (take (length exponents) (slots_in rules true n used)) exponents)
      × ((comments' ≡ filled room (take (length comments) (flat (map comment_text (take count (of_kind rules comment_kind used))))) comments)
      × (rows' ≡ filled room (flat (take (length rows / row_width) (rows_of_lines rules used))) rows)))

  pub lists-left : room ≡ false → Filled identifiers exponents comments rows
  lists-left e = (rw e, (rw e, (rw e, rw e)))

  pub lists_filled : (identifiers' exponents' comments' : List ℕ) (rows' : List ℤ) → room ≡ true
      → identifiers' ≡ laid (slots_in rules false n used) identifiers
      → exponents' ≡ laid (slots_in rules true n used) exponents
      → comments' ≡ laid (flat (map comment_text (take count (of_kind rules comment_kind used)))) comments
      → rows' ≡ over (flat (take (length rows / row_width) (rows_of_lines rules used))) rows
      → Filled identifiers' exponents' comments' rows'
  lists_filled identifiers' exponents' comments' rows' e i x c r = (
    laid-all room _ identifiers identifiers' e i,
    (
      laid-all room _ exponents exponents' e x,
      (laid-all room _ comments comments' e c, r ∙ rw e),
    ),
  )

-- n slots at most
slots-fewer : (rules : Rules) (accuracies : Bool) (n : ℕ) (ls : List (List ℕ)) → length (slots_in rules accuracies n ls) ≤ n
unfolding slots_in
slots-fewer rules accuracies n ls =
    omega (arith, length-take n (flat (map (slot_numbers accuracies) (of_kind rules (slot_line_kind accuracies) ls))))

-- 77 bytes for each comment
abbrev comment_bytes : Rules → List (List ℕ) → List ℕ
comment_bytes rules ls = flat (map comment_text (of_kind rules comment_kind ls))

comments-are : (rules : Rules) (ls : List (List ℕ)) → comment_bytes rules ls ≡ comments_in rules ls
unfolding comments_in
comments-are rules ls = refl

comments-wide : (rules : Rules) (ls : List (List ℕ)) → length (comments_in rules ls) ≡ length (of_kind rules comment_kind ls) * comment_width
unfolding comments_in
comments-wide rules ls =
    length-flat comment_width (map comment_text (of_kind rules comment_kind ls)) (each_map (λ (part : List ℕ). length part ≡ comment_width) comment_text comment-wide (of_kind rules comment_kind ls))
    ∙ ap (λ (k : ℕ). k * comment_width) (length-map (of_kind rules comment_kind ls) comment_text)

-- as many whole parts as fit
comments-within : (k n : ℕ) → k ≤ n / comment_width → k * comment_width ≤ n
comments-within k n h = omega arith

module _ (rules : Rules) (bytes : List ℕ) (f : Front) (i x c r : ℕ) where
  -- a refusal that was found
  module _ (number line column : ℕ) (e : f ≡ front.Refused number line column) where
    pub refusal-delivered : refused_with number line column ≡ delivered rules bytes f i x c r
    unfolding delivered
    refusal-delivered = rw e

    pub refusal-fills-none : enough rules bytes f i x c r ≡ false
    unfolding enough
    refusal-fills-none = rw e

  -- a file: so many satellites, and whether there is room
  module _ (t : Tally) (is : f ≡ front.File t) (accounted : Accounted rules bytes f) (n : ℕ) (count : n ≡ count_of rules (lines_of (take (t.end - 0) bytes)))
      (room : Bool) (asked : room ≡ room_for n t i x c r) where
    abbrev lines : List (List ℕ)
    lines = lines_to t.end bytes

    -- the lines of the file, as they are read
    abbrev used : List (List ℕ)
    used = lines_of (take (t.end - 0) bytes)

    counts : Accounted rules bytes (front.File t)
    counts = file-accounted rules bytes f t is accounted

    n-is : n ≡ count_of rules lines
    n-is = count ∙ ap (λ (b : List ℕ). count_of rules (lines_of b)) (front-part t.end bytes)

    used-lines : used ≡ lines_in bytes f
    used-lines = ap lines_of (front-part t.end bytes) ∙ sym (ap (lines_in bytes) is)

    room-is : room ≡ room_for (count_of rules lines) t i x c r
    room-is = asked ∙ ap (λ (k : ℕ). room_for k t i x c r) n-is

    room-enough : enough rules bytes f i x c r ≡ room
    unfolding enough
    room-enough = rw is (sym room-is)

    pub short-delivered : room ≡ false → refused_with 12 0 0 ≡ delivered rules bytes f i x c r
    unfolding delivered
    short-delivered e = rw (is, sym room-is ∙ e)

    pub file-delivered : room ≡ true → judged rules bytes (front.File t) ≡ delivered rules bytes f i x c r
    unfolding delivered judged
    file-delivered e = rw (is, sym room-is ∙ e)

    -- what fits is all, where there is room
    module _ (e : room ≡ true) where
      roomy : room_for n t i x c r ≡ true
      roomy = sym asked ∙ e

      identifiers-fit : n ≤ i
      unfolding room_for
      identifiers-fit = leb-true n i (and_left (leb n i) (leb n x) (and_left (leb n i && leb n x) _ roomy))

      exponents-fit : n ≤ x
      unfolding room_for
      exponents-fit = leb-true n x (and_right (leb n i) (leb n x) (and_left (leb n i && leb n x) _ roomy))

      comments-fit : t.comments ≤ c / comment_width
      unfolding room_for
      comments-fit = leb-true t.comments (c / comment_width) (and_left (leb t.comments (c / comment_width)) _ (and_right (leb n i && leb n x) _ roomy))

      rows_fit : t.rows ≤ r / row_width
      unfolding room_for
      rows_fit = leb-true t.rows (r / row_width) (and_right (leb t.comments (c / comment_width)) _ (and_right (leb n i && leb n x) _ roomy))

      slots-all : (accuracies : Bool) (old : List ℕ) → n ≤ length old
          → take (length old) (slots_in rules accuracies n used) ≡ slots_in rules accuracies (count_of rules (lines_in bytes f)) (lines_in bytes f)
      slots-all accuracies old fits =
          take_all (length old) (slots_in rules accuracies n used) (omega (arith, slots-fewer rules accuracies n used))
          ∙ ap₂ (λ (k : ℕ) (ls : List (List ℕ)). slots_in rules accuracies k ls) (n-is ∙ sym (ap (λ (g : Front). count_of rules (lines_in bytes g)) is)) used-lines

      comments-all : (old : List ℕ) → length old ≡ c → take (length old) (flat (map comment_text (take t.comments (of_kind rules comment_kind used)))) ≡ comments_in rules (lines_in bytes f)
      comments-all old size =
          ap (λ (ls : List (List ℕ)). take (length old) (flat (map comment_text ls))) all
          ∙ ap (λ (g : Front). take (length old) (comment_bytes rules (lines_in bytes g))) (sym is)
          ∙ ap (take (length old)) (comments-are rules (lines_in bytes f))
          ∙ take_all (length old) (comments_in rules (lines_in bytes f)) wide
        where
          all : take t.comments (of_kind rules comment_kind used) ≡ of_kind rules comment_kind lines
          all =
              ap (λ (b : List ℕ). take t.comments (of_kind rules comment_kind (lines_of b))) (front-part t.end bytes)
              ∙ take_all t.comments (of_kind rules comment_kind lines) (omega (arith, counts.1))

          wide : length (comments_in rules (lines_in bytes f)) ≤ length old
          wide = omega (arith, size, ap (λ (g : Front). length (comments_in rules (lines_in bytes g))) is, comments-wide rules lines, counts.1, comments-within t.comments c comments-fit)

      rows_all : (old : List ℤ) → length old ≡ r → flat (take (length old / row_width) (rows_of_lines rules used)) ≡ rows_in rules (lines_in bytes f)
      rows_all old size = ap flat all ∙ ap (λ (g : Front). rows_in rules (lines_in bytes g)) (sym is)
        where
          all : take (length old / row_width) (rows_of_lines rules used) ≡ rows_of_lines rules lines
          all =
              ap (λ (b : List ℕ). take (length old / row_width) (rows_of_lines rules (lines_of b))) (front-part t.end bytes)
              ∙ take_all (length old / row_width) (rows_of_lines rules lines)
              (omega (arith, ap (λ (k : ℕ). k / row_width) size, rows-many rules lines, counts.2, rows_fit))

    -- so a list that the flag fills, or leaves, is as it is delivered
    delivers : {A : Type 0} (some all old now : List A) → (room ≡ true → some ≡ all) → now ≡ filled room some old → now ≡ filled (enough rules bytes f i x c r) all old
    delivers {A} some all old now h e = e ∙ filled-same room some all old h ∙ ap (λ (b : Bool). filled b all old) (sym room-enough)

    pub lists-delivered : (identifiers exponents comments identifiers' exponents' comments' : List ℕ) (rows rows' : List ℤ)
        → length identifiers ≡ i → length exponents ≡ x → length comments ≡ c → length rows ≡ r
        → Filled room rules n t.comments used identifiers exponents comments rows identifiers' exponents' comments' rows'
        → (identifiers' ≡ filled (enough rules bytes f i x c r) (identifiers_of rules (lines_in bytes f)) identifiers)
        × ((exponents' ≡ filled (enough rules bytes f i x c r) (exponents_of rules (lines_in bytes f)) exponents)
        × ((comments' ≡ filled (enough rules bytes f i x c r) (comments_in rules (lines_in bytes f)) comments)
        × (rows' ≡ filled (enough rules bytes f i x c r) (rows_in rules (lines_in bytes f)) rows)))
    lists-delivered identifiers exponents comments identifiers' exponents' comments' rows rows' si sx sc sr (pi, (px, (pc, pr))) = (
      delivers _ _ identifiers identifiers' (λ e. slots-all e false identifiers (omega (arith, identifiers-fit e))) pi,
      (
        delivers _ _ exponents exponents' (λ e. slots-all e true exponents (omega (arith, exponents-fit e))) px,
        (
          delivers _ _ comments comments' (λ e. comments-all e comments sc) pc,
          delivers _ _ rows rows' (λ e. rows_all e rows sr) pr,
        ),
      ),
    )

-- The same for rules and a front that are known by equations.
module _ (bytes : List ℕ) (i x c r : ℕ) (rules rules' : Rules) (f f' : Front) (same : rules ≡ rules') (found : f ≡ f') where
  pub answered : (v : Reading) → v ≡ delivered rules bytes f i x c r → v ≡ delivered rules' bytes f' i x c r
  answered v e = e ∙ ap₂ (λ (k : Rules) (g : Front). delivered k bytes g i x c r) same found

  pub listed : {A : Type 0} (new : Rules → List (List ℕ) → List A) (old now : List A)
      → now ≡ filled (enough rules bytes f i x c r) (new rules (lines_in bytes f)) old
      → now ≡ filled (enough rules' bytes f' i x c r) (new rules' (lines_in bytes f')) old
  listed new old now e = e ∙ ap₂ (λ (k : Rules) (g : Front). filled (enough k bytes g i x c r) (new k (lines_in bytes g)) old) same found
