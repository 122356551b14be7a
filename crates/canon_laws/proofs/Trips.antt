-- THE CANONICAL FORM, over the rules of a version: a valid table's form is accepted, whole, and holds exactly that table.
-- Assumes nothing.
use mathlib.Core.Path.{◌≡◌, sym, ap, ap₂, ◌∙◌, subst}
use mathlib.Core.Bool.{Bool, true, false}
use mathlib.Core.List.{List, [], ◌∷◌, ◌++◌, map}
use Prim.Native.Nat.{ℕ, ◌-◌, ◌*◌, ◌≤◌}
use native.Mathlib.Omega.{arith}
use lib.ListN.{length, take, drop}
use Rattle.lines.specs.Lent.{flat}
use Rattle.lines.specs.Lines.{lines_of, join_lines}
use Rattle.lines.proofs.Each.{Each, each_append}
use Rattle.layout.specs.Line.{padded}
use Rattle.header.specs.Rules.{slot_lines}
use Rattle.header.specs.declared.types.Rules.{Rules}
use Rattle.header.specs.declared.types.Header.{Header}
use Rattle.record.specs.Descriptors.{descriptor_of, base_of, fixed_line}
use Rattle.record.specs.Plain.{end_items}
use Rattle.record.specs.declared.types.First.{First}
use Rattle.record.specs.declared.types.Descriptor.{Descriptor}
use Rattle.record.specs.declared.types.BaseLine.{BaseLine}
use Rattle.file.specs.Table.{header_from, header_in, count_of, slots_in, comments_in, rows_in, slot_numbers, comment_text}
use Rattle.file.specs.Plain.{Plain, Accepted}
use Rattle.file_laws.proofs.Counts as plain
use Rattle.file_laws.proofs.Selected.{satellites, kind-accuracies, kind-comments}
use Rattle.file_laws.proofs.Stored.{epochs-rows}
use Rattle.scan_laws.proofs.Files.{plain_lines}
use Rattle.canon.specs.Table as table
use Rattle.canon.specs.Table.{Table}
use Rattle.canon.specs.Valid.{valid}
use Rattle.canon.specs.Canonical.{moment_of, first_shown, descriptor_shown, bases_shown, slot_lines_of, descriptor_lines, lines_before, comment_lines, epochs_lines, canonical_lines, canonical}
use Rattle.canon_laws.proofs.Bare.{EndsLine, lines-joined}
use Rattle.canon_laws.specs.Held.{Proper}
use Rattle.canon.proofs.Parts.{Parts, parts}
use Rattle.canon_laws.proofs.Moments.{moment-is, moment-fits, moment-back}
use Rattle.canon_laws.proofs.FirstLines.{first_ends, second-ends}
use Rattle.canon_laws.proofs.IdentifiersShown.{count-ends}
use Rattle.canon.proofs.Parted.{every_drop}
use Rattle.canon_laws.proofs.SlotsShown.{slots_end, slots-hold}
use Rattle.canon_laws.proofs.DescriptorLines.{descriptor-read, bases-read, descriptors-end, last-ends}
use Rattle.canon_laws.proofs.CommentLines as comment
use Rattle.canon_laws.proofs.TableLines.{table-epochs}
use Rattle.canon_laws.proofs.Forms.{form_lines, form-plain, mode-back, reads_first, says-interval, says-count, says-identifiers}
use Rattle.canon_laws.specs.Held.{Holds}

-- so many `++` lines have room for the exponents
room-all : (n : ℕ) → n ≤ 17 * slot_lines n
unfolding slot_lines
room-all n = omega arith

module _ (rules : Rules) (proper : Proper rules) (t : Table) (ok : valid rules t ≡ true) where
  abbrev v : Parts rules t
  v = parts rules t ok

  abbrev h : Header
  h = t.header

  abbrev bare : List (List ℕ)
  bare = form_lines rules proper t v

  abbrev pub its-plain : Plain rules bare
  its-plain = form-plain rules proper t v (table-epochs rules t v).are

  -- each line of the form ends in its LF
  all_end : Each EndsLine (canonical_lines rules t)
  unfolding canonical_lines lines_before
  all_end =
      let bound = v.header in
      let identifiers = table.table_identifiers t in
      let exponents = table.exponents_of t in
      let fits = moment-fits (moment_of h.start8) (moment-is h.start8 bound.clock.start) in
      let plus = slot_lines_of false (slot_lines h.satellites - 1) (drop 17 identifiers) in
      let doubles = slot_lines_of true (slot_lines h.satellites) exponents in
      let said = comment_lines h.comments (table.comments_of t) in
      let dated = epochs_lines h.velocity identifiers h.interval8 h.epochs h.start8 (table.rows_of t) in
      let last = fixed_line end_items ∷ [] in
      each_append EndsLine (lines_before rules h identifiers exponents) (said ++ (dated ++ last)) (
        first_ends rules proper h bound fits,
        (
          second-ends rules h bound,
          (
            count-ends rules proper h.satellites identifiers bound.satellites v.identifiers-many v.identifiers,
            each_append EndsLine plus (doubles ++ descriptor_lines h) (slots_end false (slot_lines h.satellites - 1) (drop 17 identifiers) (every_drop _ 17 identifiers v.identifiers))
                (each_append EndsLine doubles (descriptor_lines h) (slots_end true (slot_lines h.satellites) exponents v.exponents) (descriptors-end rules h bound)),
          ),
        ),
      )
      (each_append EndsLine said (dated ++ last) (comment.comments-end rules proper h.comments (table.comments_of t) v.comments-many v.comments)
      (each_append EndsLine dated last (table-epochs rules t v).ends (last-ends, tt)))

  form-joined : canonical rules t ≡ join_lines bare
  unfolding canonical
  form-joined = lines-joined (canonical_lines rules t) all_end

  -- A valid table's canonical bytes are accepted,
  pub form-accepted : Accepted rules (canonical rules t)
  form-accepted = (bare, form-joined, its-plain)

  pub form-lines : lines_of (canonical rules t) ≡ bare
  form-lines = ap lines_of form-joined ∙ plain_lines rules proper.sound bare its-plain

  -- what its header lines say is the header
  whole-header : header_from (first_shown h) h.interval8 h.satellites (descriptor_shown h) (bases_shown h) h.comments ≡ h
  unfolding first_shown descriptor_shown bases_shown
  whole-header =
      ap₂
      (λ (velocity : Bool) (start8 : ℕ). header_from' velocity start8)
      (mode-back h.velocity)
      (moment-back h.start8 v.header.clock.start)
    where
      header_from' : Bool → ℕ → Header
      header_from' velocity start8 = record {
        velocity = velocity;
        start8 = start8;
        epochs = h.epochs;
        interval8 = h.interval8;
        texts = h.texts;
        satellites = h.satellites;
        comments = h.comments;
        file_type = h.file_type;
        time_system = h.time_system;
        bases = h.bases;
      }

  header-same : header_in rules bare ≡ h
  unfolding form-plain
  header-same =
      plain.header_is its-plain
      ∙ ap₂ (λ (f : First) (i : ℕ). header_from f i (satellites its-plain) (descriptor_of (padded its-plain.descriptor)) (base_of (padded its-plain.bases)) (length its-plain.comments))
      (reads_first rules proper t v) (says-interval rules proper t v)
      ∙ ap₂ (λ (n k : ℕ). header_from (first_shown h) h.interval8 n (descriptor_of (padded its-plain.descriptor)) (base_of (padded its-plain.bases)) k)
      (says-count rules proper t v) (comment.comments-many rules proper h.comments (table.comments_of t))
      ∙ ap₂ (λ (x : Descriptor) (b : BaseLine). header_from (first_shown h) h.interval8 h.satellites x b h.comments)
      (descriptor-read rules h v.header) (bases-read rules h v.header)
      ∙ whole-header

  count_same : count_of rules bare ≡ h.satellites
  unfolding form-plain
  count_same = plain.count-is its-plain ∙ says-count rules proper t v

  exponents-same : slots_in rules true h.satellites bare ≡ table.exponents_of t
  unfolding slots_in form-plain
  exponents-same =
      ap (λ (ls : List (List ℕ)). take h.satellites (flat (map (slot_numbers true) ls))) (kind-accuracies its-plain)
      ∙ ap (λ (n : ℕ). take n (flat (map (slot_numbers true) its-plain.accuracies))) (sym v.exponents-many)
      ∙ slots-hold true (slot_lines h.satellites) (table.exponents_of t) v.exponents (omega (arith, v.exponents-many, room-all h.satellites))

  comments-same : comments_in rules bare ≡ table.comments_of t
  unfolding comments_in form-plain
  comments-same =
      ap (λ (ls : List (List ℕ)). flat (map comment_text ls)) (kind-comments its-plain)
      ∙ comment.comments-back rules proper h.comments (table.comments_of t) v.comments-many v.comments

  rows_same : rows_in rules bare ≡ table.rows_of t
  unfolding form-plain
  rows_same = ap flat (epochs-rows its-plain) ∙ (table-epochs rules t v).stored

  -- and hold exactly that table.
  pub form-holds : Holds rules (lines_of (canonical rules t)) t
  unfolding form-plain
  form-holds = subst (λ (ls : List (List ℕ)). Holds rules ls t) (sym form-lines) (record {
    header_is = header-same;
    identifiers-are = plain.identifiers-are its-plain ∙ says-identifiers rules proper t v;
    exponents-are = ap (λ (n : ℕ). slots_in rules true n bare) count_same ∙ exponents-same;
    comments-are = comments-same;
    rows_are = rows_same;
  })
