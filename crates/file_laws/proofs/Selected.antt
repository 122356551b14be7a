-- What selecting a kind of lines gives of an accepted file: each part of the header, the comments, and the lines of the epochs.
-- Assumes nothing.
use mathlib.Core.Path.{◌≡◌, refl, sym, ap, ◌∙◌}
use mathlib.Core.Bool.{Bool, true, false, cond, ◌||◌, false≢true}
use mathlib.Core.List.{List, [], ◌∷◌, ◌++◌, append-nil}
use Prim.Native.Nat.{ℕ}
use borrow.Author.Tests.{ne_eqb}
use lib.Dec.{eqb}
use Rattle.laws.specs.Tests.{within}
use Rattle.layout.specs.Layout.{fault_of}
use Rattle.layout.specs.Line.{padded}
use Rattle.record.specs.Agrees.{instant_in, second_agrees, type_agrees}
use Rattle.record.specs.Descriptors.{descriptor_of, character_items, base_of, float_items, integer_items}
use Rattle.record.specs.Opening.{first_of, second_of}
use Rattle.record.specs.Plain.{comment_items, end_items}
use Rattle.record.specs.SlotLines.{satellites_of, count_in}
use Rattle.record.specs.LineKinds.{first_kind, second_kind, satellites_kind, accuracies_kind, characters_kind, floats_kind, integers_kind, comment_kind, epoch_kind, position_kind, velocity_kind, position_correlation_kind, velocity_correlation_kind, end_kind}
use Rattle.header.specs.declared.types.Rules.{Rules}
use Rattle.record.specs.declared.types.LineKind.TheVariants as kind
use Rattle.file.specs.Kinds.{kind_in, of_kind}
use Rattle.file.specs.Plain.{slot_identifiers, Plain}
use Rattle.file.specs.Table.{row_lines}
use Rattle.laws.proofs.Bools.{and_left}
use Rattle.lines.proofs.Picking.{select-append}
use Rattle.file_laws.proofs.Sorting.{record-kind, records-kind, slots-kind, Of, picked, picked_of, picked-part}
use Rattle.file_laws.proofs.Body.{ByEpoch, by-epoch, body-none}

module _ {rules : Rules} {lines : List (List ℕ)} (p : Plain rules lines) where
  -- What the header says: the number of satellites and their identifiers in header order, whether there are velocities, the start, the interval and
  -- the number of epochs.
  abbrev pub satellites : ℕ
  satellites = count_in rules (padded p.count)

  abbrev pub identifiers : List ℕ
  identifiers = slot_identifiers satellites (p.count ∷ p.slots)

  abbrev pub velocities : Bool
  velocities = eqb (first_of rules (padded p.first)).mode 86

  abbrev pub start8 : ℕ
  start8 = instant_in (first_of rules (padded p.first)).start

  abbrev pub interval8 : ℕ
  interval8 = (second_of (padded p.second)).interval8

  abbrev pub epochs : ℕ
  epochs = (first_of rules (padded p.first)).epochs

  -- the lines of the epochs, divided
  pub by-epochs : ByEpoch rules velocities identifiers interval8 epochs start8 p.epochs
  by-epochs = by-epoch rules velocities identifiers interval8 epochs start8 p.epochs p.are-epochs

  -- the parts of the header, each of its kind
  pub first-kind : Of rules first_kind (p.first ∷ [])
  first-kind = (record-kind rules kind.First (first_of rules (padded p.first)).fault p.first p.is-first, tt)

  pub second-kind : Of rules second_kind (p.second ∷ [])
  second-kind = (record-kind rules kind.Second (second_of (padded p.second)).fault p.second (and_left _ (second_agrees start8 (second_of (padded p.second))) p.is-second), tt)

  pub identifiers-kind : Of rules satellites_kind (p.count ∷ p.slots)
  identifiers-kind = (
    record-kind rules kind.Satellites (satellites_of rules (padded p.count)).fault p.count p.is-count,
    slots-kind rules false _ p.slots p.are-slots,
  )

  pub accuracies-kind : Of rules accuracies_kind p.accuracies
  accuracies-kind = slots-kind rules true satellites p.accuracies p.are-accuracies

  pub characters-kind : Of rules characters_kind (p.descriptor ∷ p.characters ∷ [])
  characters-kind = (
    record-kind rules kind.Characters (descriptor_of (padded p.descriptor)).fault p.descriptor (and_left _ (type_agrees (descriptor_of (padded p.descriptor)).file_type identifiers) p.is-descriptor),
    (record-kind rules kind.Characters (fault_of character_items (padded p.characters)) p.characters p.is-characters, tt),
  )

  pub floats-kind : Of rules floats_kind (p.bases ∷ p.floats ∷ [])
  floats-kind = (
    record-kind rules kind.Floats (base_of (padded p.bases)).fault p.bases p.is-bases,
    (record-kind rules kind.Floats (fault_of float_items (padded p.floats)) p.floats p.is-floats, tt),
  )

  pub integers-kind : Of rules integers_kind (p.integers ∷ p.integers' ∷ [])
  integers-kind = (
    record-kind rules kind.Integers (fault_of integer_items (padded p.integers)) p.integers p.is-integers,
    (record-kind rules kind.Integers (fault_of integer_items (padded p.integers')) p.integers' p.is-integers', tt),
  )

  pub comments-kind : Of rules comment_kind p.comments
  comments-kind = records-kind rules kind.Comment (λ (l : List ℕ). fault_of comment_items (padded l)) p.comments p.are-comments

  pub last-kind : Of rules end_kind (p.last ∷ [])
  last-kind = (record-kind rules kind.EndOfFile (fault_of end_items (padded p.last)) p.last p.is_last, tt)

  -- any choice of kinds, part by part
  module _ (pick : ℕ → Bool) where
    abbrev part : ℕ → List (List ℕ) → List (List ℕ)
    part k ls = cond (pick k) ls []

    abbrev tail : List (List ℕ)
    tail = picked rules pick p.epochs ++ part end_kind (p.last ∷ [])

    whole-picked : picked rules pick lines
        ≡ part first_kind (p.first ∷ [])
        ++ (part second_kind (p.second ∷ [])
        ++ (part satellites_kind (p.count ∷ p.slots)
        ++ (part accuracies_kind p.accuracies
        ++ (part characters_kind (p.descriptor ∷ p.characters ∷ [])
        ++ (part floats_kind (p.bases ∷ p.floats ∷ []) ++ (part integers_kind (p.integers ∷ p.integers' ∷ []) ++ (part comment_kind p.comments ++ tail)))))))
    whole-picked =
        ap (picked rules pick) p.lines_are
        ∙ next first_kind (p.first ∷ []) _ _ first-kind
        (next second_kind (p.second ∷ []) _ _ second-kind
        (next satellites_kind (p.count ∷ p.slots) _ _ identifiers-kind
        (next accuracies_kind p.accuracies _ _ accuracies-kind
        (next characters_kind (p.descriptor ∷ p.characters ∷ []) _ _ characters-kind
        (next floats_kind (p.bases ∷ p.floats ∷ []) _ _ floats-kind
        (next integers_kind (p.integers ∷ p.integers' ∷ []) _ _ integers-kind
        (next comment_kind p.comments _ _ comments-kind
        (select-append (λ (l : List ℕ). pick (kind_in rules l)) p.epochs (p.last ∷ [])
        ∙ ap (λ (t : List (List ℕ)). picked rules pick p.epochs ++ t) (picked_of rules pick end_kind (p.last ∷ []) last-kind)))))))))
      where
        next : (k : ℕ) (ls more after : List (List ℕ)) → Of rules k ls → picked rules pick more ≡ after → picked rules pick (ls ++ more) ≡ part k ls ++ after
        next k ls more after h e = picked-part rules pick k ls more h ∙ ap (λ (t : List (List ℕ)). part k ls ++ t) e

  -- a kind that no line of the epochs has
  none-among : (k : ℕ) → within epoch_kind velocity_correlation_kind k ≡ false → of_kind rules k p.epochs ≡ []
  none-among k h =
      body-none rules velocities (λ (n : ℕ). eqb n k) (other position_correlation_kind refl) (other velocity_correlation_kind refl) by-epochs
      (other epoch_kind refl) (other position_kind refl) (other velocity_kind refl)
    where
      other : (i : ℕ) → within epoch_kind velocity_correlation_kind i ≡ true → eqb i k ≡ false
      other i t = ne_eqb i k (λ e. false≢true (sym h ∙ ap (within epoch_kind velocity_correlation_kind) (sym e) ∙ t))

  -- THE KINDS: what each selection gives. In words: the first line is the only one of its kind, and so on.
  pub kind-first : of_kind rules first_kind lines ≡ p.first ∷ []
  kind-first = whole-picked (λ (n : ℕ). eqb n first_kind) ∙ rw (none-among first_kind refl)

  pub kind-second : of_kind rules second_kind lines ≡ p.second ∷ []
  kind-second = whole-picked (λ (n : ℕ). eqb n second_kind) ∙ rw (none-among second_kind refl)

  pub kind-satellites : of_kind rules satellites_kind lines ≡ p.count ∷ p.slots
  kind-satellites =
      whole-picked (λ (n : ℕ). eqb n satellites_kind)
      ∙ rw (none-among satellites_kind refl) (append-nil (p.count ∷ p.slots))

  pub kind-accuracies : of_kind rules accuracies_kind lines ≡ p.accuracies
  kind-accuracies =
      whole-picked (λ (n : ℕ). eqb n accuracies_kind)
      ∙ rw (none-among accuracies_kind refl) (append-nil p.accuracies)

  pub kind-characters : of_kind rules characters_kind lines ≡ p.descriptor ∷ p.characters ∷ []
  kind-characters = whole-picked (λ (n : ℕ). eqb n characters_kind) ∙ rw (none-among characters_kind refl)

  pub kind-floats : of_kind rules floats_kind lines ≡ p.bases ∷ p.floats ∷ []
  kind-floats = whole-picked (λ (n : ℕ). eqb n floats_kind) ∙ rw (none-among floats_kind refl)

  pub kind-integers : of_kind rules integers_kind lines ≡ p.integers ∷ p.integers' ∷ []
  kind-integers = whole-picked (λ (n : ℕ). eqb n integers_kind) ∙ rw (none-among integers_kind refl)

  pub kind-comments : of_kind rules comment_kind lines ≡ p.comments
  kind-comments =
      whole-picked (λ (n : ℕ). eqb n comment_kind)
      ∙ rw (none-among comment_kind refl) (append-nil p.comments)

  pub kind-end : of_kind rules end_kind lines ≡ p.last ∷ []
  kind-end = whole-picked (λ (n : ℕ). eqb n end_kind) ∙ rw (none-among end_kind refl)

  -- epochs, P, V, EP and EV stand in the part of the epochs alone
  pub kind-epochs : of_kind rules epoch_kind lines ≡ of_kind rules epoch_kind p.epochs
  kind-epochs = whole-picked (λ (n : ℕ). eqb n epoch_kind) ∙ append-nil (of_kind rules epoch_kind p.epochs)

  pub kind-positions : of_kind rules position_kind lines ≡ of_kind rules position_kind p.epochs
  kind-positions = whole-picked (λ (n : ℕ). eqb n position_kind) ∙ append-nil (of_kind rules position_kind p.epochs)

  pub kind-velocities : of_kind rules velocity_kind lines ≡ of_kind rules velocity_kind p.epochs
  kind-velocities = whole-picked (λ (n : ℕ). eqb n velocity_kind) ∙ append-nil (of_kind rules velocity_kind p.epochs)

  pub kind-position-correlations : of_kind rules position_correlation_kind lines ≡ of_kind rules position_correlation_kind p.epochs
  kind-position-correlations = whole-picked (λ (n : ℕ). eqb n position_correlation_kind) ∙ append-nil (of_kind rules position_correlation_kind p.epochs)

  pub kind-velocity-correlations : of_kind rules velocity_correlation_kind lines ≡ of_kind rules velocity_correlation_kind p.epochs
  kind-velocity-correlations = whole-picked (λ (n : ℕ). eqb n velocity_correlation_kind) ∙ append-nil (of_kind rules velocity_correlation_kind p.epochs)

  pub kind-rows : row_lines rules lines ≡ row_lines rules p.epochs
  kind-rows = whole-picked (λ (n : ℕ). eqb n position_kind || eqb n velocity_kind) ∙ append-nil (row_lines rules p.epochs)
