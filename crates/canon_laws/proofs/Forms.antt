-- The lines of a valid table's canonical form are those of an accepted file.
-- Assumes nothing.
use mathlib.Core.Path.{◌≡◌, refl, sym, ap, ◌∙◌, subst}
use mathlib.Core.Bool.{Bool, true, false, cond}
use mathlib.Core.List.{List, [], ◌∷◌, ◌++◌, map, map-append, append_assoc}
use Prim.Native.Nat.{ℕ, suc, ◌-◌}
use native.Mathlib.Omega.{arith}
use lib.Dec.{eqb}
use lib.ListN.{drop, length-drop}
use Rattle.laws.specs.Tests.{within}
use Rattle.layout.specs.Line.{padded, line_of}
use Rattle.header.specs.Rules.{slot_lines}
use Rattle.header.specs.declared.types.Rules.{Rules}
use Rattle.header.specs.declared.types.Header.{Header}
use Rattle.record.specs.Opening.{first_of, first_line, second_of, second_line}
use Rattle.record.specs.SlotLines.{satellites_of, satellites_line}
use Rattle.record.specs.Descriptors.{descriptor_line, character_items, base_line, float_items, integer_items, fixed_line}
use Rattle.record.specs.Plain.{end_items}
use Rattle.record.specs.declared.types.First.{First}
use Rattle.record.specs.declared.types.Second.{Second}
use Rattle.record.specs.declared.types.Satellites.{Satellites}
use Rattle.record.specs.Agrees.{instant_in, repeats}
use Rattle.file.specs.Plain.{Plain, Epochs, are_slots, slot_identifiers, is_second_line, is_descriptor_line}
use Rattle.canon.specs.Table as table
use Rattle.canon.specs.Table.{Table}
use Rattle.canon.specs.Canonical.{moment_of, first_shown, second_shown, satellites_shown, slot_lines_of, descriptor_shown, bases_shown, descriptor_lines, lines_before, comment_lines, epochs_lines, canonical_lines}
use Rattle.canon.proofs.HeaderBounds.{Bounded}
use Rattle.canon_laws.specs.Held.{Proper}
use Rattle.canon.proofs.Parts.{Parts}
use Rattle.canon_laws.proofs.Moments.{moment-is, moment-fits, moment-back}
use Rattle.canon_laws.proofs.FirstLines.{first_read, first-is, second-read, second_is}
use Rattle.canon_laws.proofs.IdentifiersShown.{count-read, count-is, identifiers-hold}
use Rattle.canon.proofs.Parted.{every_drop}
use Rattle.canon_laws.proofs.SlotsShown.{slots-are, slots-many}
use Rattle.canon_laws.proofs.DescriptorLines.{descriptor-is, characters-is, bases-is, floats-is, integers-is, last-is}
use Rattle.canon_laws.proofs.CommentLines as comment

pub mode-back : (velocity : Bool) → eqb (cond velocity 86 80) 86 ≡ velocity
mode-back true = refl
mode-back false = refl

-- there are five lines at least
pub lines-back : (n : ℕ) → suc (slot_lines n - 1) ≡ slot_lines n
unfolding slot_lines
lines-back n = omega arith

module _ (rules : Rules) (proper : Proper rules) (t : Table) (v : Parts rules t) where
  abbrev h : Header
  h = t.header

  abbrev n : ℕ
  n = h.satellites

  abbrev identifiers : List ℕ
  identifiers = table.table_identifiers t

  abbrev bound : Bounded rules h
  bound = v.header

  -- the lines without their LF
  abbrev first : List ℕ
  first = line_of (first_line rules (first_shown h))

  abbrev second : List ℕ
  second = line_of (second_line (second_shown h))

  abbrev count : List ℕ
  count = line_of (satellites_line rules (satellites_shown n identifiers))

  abbrev slots : List (List ℕ)
  slots = map line_of (slot_lines_of false (slot_lines n - 1) (drop 17 identifiers))

  abbrev accuracies : List (List ℕ)
  accuracies = map line_of (slot_lines_of true (slot_lines n) (table.exponents_of t))

  abbrev descriptor : List ℕ
  descriptor = line_of (descriptor_line (descriptor_shown h))

  abbrev bases : List ℕ
  bases = line_of (base_line (bases_shown h))

  abbrev comments : List (List ℕ)
  comments = map line_of (comment_lines h.comments (table.comments_of t))

  abbrev pub epochs : List (List ℕ)
  epochs = map line_of (epochs_lines h.velocity identifiers h.interval8 h.epochs h.start8 (table.rows_of t))

  -- all of them
  abbrev pub form_lines : List (List ℕ)
  form_lines = map line_of (canonical_lines rules t)

  pub lines_are : form_lines
      ≡ first
      ∷ second
      ∷ count
      ∷ (slots
      ++ (accuracies
      ++ (descriptor
      ∷ line_of (fixed_line character_items)
      ∷ bases
      ∷ line_of (fixed_line float_items)
      ∷ line_of (fixed_line integer_items)
      ∷ line_of (fixed_line integer_items)
      ∷ (comments ++ (epochs ++ (line_of (fixed_line end_items) ∷ []))))))
  unfolding canonical_lines lines_before descriptor_lines
  lines_are =
      let said = comment_lines h.comments (table.comments_of t) in
      let dated = epochs_lines h.velocity identifiers h.interval8 h.epochs h.start8 (table.rows_of t) in
      let rest = said ++ (dated ++ (fixed_line end_items ∷ [])) in
      let plus = slot_lines_of false (slot_lines n - 1) (drop 17 identifiers) in
      let doubles = slot_lines_of true (slot_lines n) (table.exponents_of t) in
      let rest-is : map line_of rest ≡ comments ++ (epochs ++ (line_of (fixed_line end_items) ∷ [])) =
      map-append line_of said (dated ++ (fixed_line end_items ∷ []))
      ∙ ap (λ (ls : List (List ℕ)). comments ++ ls) (map-append line_of dated (fixed_line end_items ∷ [])) in
      ap (λ (ls : List (List ℕ)). first ∷ second ∷ count ∷ map line_of ls) (append_assoc plus (doubles ++ descriptor_lines h) rest)
      ∙ ap (λ (ls : List (List ℕ)). first ∷ second ∷ count ∷ map line_of (plus ++ ls)) (append_assoc doubles (descriptor_lines h) rest)
      ∙ ap (λ (ls : List (List ℕ)). first ∷ second ∷ count ∷ ls) (map-append line_of plus (doubles ++ (descriptor_lines h ++ rest)))
      ∙ ap (λ (ls : List (List ℕ)). first ∷ second ∷ count ∷ (slots ++ ls)) (map-append line_of doubles (descriptor_lines h ++ rest))
      ∙ ap
      (λ (ls : List (List ℕ)). first
      ∷ second
      ∷ count
      ∷ (slots
      ++ (accuracies
      ++ (descriptor
      ∷ line_of (fixed_line character_items)
      ∷ bases
      ∷ line_of (fixed_line float_items)
      ∷ line_of (fixed_line integer_items)
      ∷ line_of (fixed_line integer_items)
      ∷ ls))))
      rest-is

  -- what the first lines say
  pub reads_first : first_of rules (padded first) ≡ first_shown h
  reads_first = first_read rules proper h bound (moment-fits (moment_of h.start8) (moment-is h.start8 bound.clock.start))

  pub says-start : instant_in (first_of rules (padded first)).start ≡ h.start8
  unfolding first_shown
  says-start = ap (λ (f : First). instant_in f.start) reads_first ∙ moment-back h.start8 bound.clock.start

  pub says-mode : eqb (first_of rules (padded first)).mode 86 ≡ h.velocity
  unfolding first_shown
  says-mode = ap (λ (f : First). eqb f.mode 86) reads_first ∙ mode-back h.velocity

  pub says-epochs : (first_of rules (padded first)).epochs ≡ h.epochs
  unfolding first_shown
  says-epochs = ap (λ (f : First). f.epochs) reads_first

  pub says-interval : (second_of (padded second)).interval8 ≡ h.interval8
  unfolding second_shown
  says-interval = ap (λ (s : Second). s.interval8) (second-read rules h bound)

  pub says-count : (satellites_of rules (padded count)).count ≡ n
  unfolding satellites_shown
  says-count = ap (λ (s : Satellites). s.count) (count-read rules proper n identifiers bound.satellites v.identifiers-many v.identifiers)

  pub says-identifiers : slot_identifiers (satellites_of rules (padded count)).count (count ∷ slots) ≡ identifiers
  says-identifiers = ap (λ (k : ℕ). slot_identifiers k (count ∷ slots)) says-count ∙ identifiers-hold rules proper n identifiers bound.satellites v.identifiers-many v.identifiers

  pub further-are : are_slots rules false (n - 17) slots ≡ true
  further-are =
      ap (λ (k : ℕ). are_slots rules false k slots) (sym (length-drop 17 identifiers ∙ ap (λ (k : ℕ). k - 17) v.identifiers-many))
      ∙ slots-are false rules (slot_lines n - 1) (drop 17 identifiers) (every_drop _ 17 identifiers v.identifiers)

  pub accuracies-are : are_slots rules true n accuracies ≡ true
  accuracies-are =
      ap (λ (k : ℕ). are_slots rules true k accuracies) (sym v.exponents-many)
      ∙ slots-are true rules (slot_lines n) (table.exponents_of t) v.exponents

  -- THE FORM: its lines are those of an accepted file
  unfoldable pub form-plain : Epochs rules h.velocity identifiers h.interval8 h.epochs h.start8 epochs → Plain rules form_lines
  form-plain dated = record {
    first = first;
    second = second;
    count = count;
    slots = slots;
    accuracies = accuracies;
    descriptor = descriptor;
    characters = line_of (fixed_line character_items);
    bases = bases;
    floats = line_of (fixed_line float_items);
    integers = line_of (fixed_line integer_items);
    integers' = line_of (fixed_line integer_items);
    comments = comments;
    epochs = epochs;
    last = line_of (fixed_line end_items);
    lines_are = lines_are;
    is-first = first-is rules proper h bound (moment-fits (moment_of h.start8) (moment-is h.start8 bound.clock.start));
    is-second = ap (λ (at8 : ℕ). is_second_line rules at8 second) says-start ∙ second_is rules h bound;
    is-count = count-is rules proper n identifiers bound.satellites v.identifiers-many v.identifiers;
    are-slots = ap (λ (k : ℕ). are_slots rules false (k - 17) slots) says-count ∙ further-are;
    slots-many = ap suc (slots-many false (slot_lines n - 1) (drop 17 identifiers)) ∙ lines-back n ∙ ap slot_lines (sym says-count);
    all-different = ap (repeats []) says-identifiers ∙ v.different;
    are-accuracies = ap (λ (k : ℕ). are_slots rules true k accuracies) says-count ∙ accuracies-are;
    accuracies-many = slots-many true (slot_lines n) (table.exponents_of t) ∙ ap slot_lines (sym says-count);
    is-descriptor = ap (λ (ns : List ℕ). is_descriptor_line rules ns descriptor) says-identifiers ∙ descriptor-is rules h bound identifiers v.agreeing;
    is-characters = characters-is rules;
    is-bases = bases-is rules h bound;
    is-floats = floats-is rules;
    is-integers = integers-is rules;
    is-integers' = integers-is rules;
    are-comments = comment.comments-are rules proper h.comments (table.comments_of t) v.comments-many v.comments;
    comments-many =
        ap (within rules.fewest_comments rules.most_comments) (comment.comments-many rules proper h.comments (table.comments_of t))
        ∙ bound.comments;
    are-epochs =
        subst (λ (b : Bool). Epochs rules b (slot_identifiers (satellites_of rules (padded count)).count (count ∷ slots)) (second_of (padded second)).interval8 (first_of rules (padded first)).epochs (instant_in (first_of rules (padded first)).start) epochs) (sym says-mode)
        (subst (λ (ns : List ℕ). Epochs rules h.velocity ns (second_of (padded second)).interval8 (first_of rules (padded first)).epochs (instant_in (first_of rules (padded first)).start) epochs) (sym says-identifiers)
        (subst (λ (i : ℕ). Epochs rules h.velocity identifiers i (first_of rules (padded first)).epochs (instant_in (first_of rules (padded first)).start) epochs) (sym says-interval)
        (subst (λ (k : ℕ). Epochs rules h.velocity identifiers h.interval8 k (instant_in (first_of rules (padded first)).start) epochs) (sym says-epochs)
        (subst (λ (at8 : ℕ). Epochs rules h.velocity identifiers h.interval8 h.epochs at8 epochs) (sym says-start) dated))));
    is_last = last-is rules;
  }
