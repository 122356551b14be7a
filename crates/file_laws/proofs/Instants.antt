-- The epoch lines of an accepted file: one for each epoch, in their order, and none among the header lines.
-- Assumes nothing.
use mathlib.Core.Path.{◌≡◌, refl, sym, ap, ◌∙◌}
use mathlib.Core.Bool.{Bool, true}
use mathlib.Core.List.{List, [], ◌∷◌, ◌++◌, append_assoc}
use Prim.Native.Nat.{ℕ, ◌+◌, ◌*◌, ◌<◌, ◌≤◌}
use native.Mathlib.Nat.{mul-zero, mul-one}
use native.Mathlib.Omega.{arith}
use lib.Dec.{eqb}
use lib.ListN.{length, length-append}
use Rattle.laws.specs.Tests.{within}
use Rattle.lines.specs.Lines.{nth}
use Rattle.record.specs.LineKinds.{first_kind, second_kind, satellites_kind, accuracies_kind, characters_kind, floats_kind, integers_kind, comment_kind, epoch_kind}
use Rattle.header.specs.declared.types.Rules.{Rules}
use Rattle.file.specs.Kinds.{kind_in, is_kind, of_kind}
use Rattle.file.specs.Plain.{Plain}
use Rattle.lines.proofs.Each.{Each, each_append, each_weaken}
use Rattle.lines.proofs.Picking.{select-append}
use Rattle.file_laws.proofs.Parted.{before}
use Rattle.file_laws.proofs.Body.{Block, by-satellite, ByEpoch, block_at, block_is, rows-many, block-picked, body-many, body-nth, body-before, no_lines}
use Rattle.file_laws.proofs.Sorting.{Of}
use Rattle.file_laws.proofs.Selected.{first-kind, second-kind, identifiers-kind, accuracies-kind, characters-kind, floats-kind, integers-kind, comments-kind, kind-epochs}

abbrev is_epoch_kind : ℕ → Bool
is_epoch_kind n = eqb n epoch_kind

module _ (rules : Rules) (velocity : Bool) (identifiers : List ℕ) where
  -- in an epoch its first line alone
  pub rows-no-epoch : (at8 : ℕ) (block : List (List ℕ)) (b : Block rules velocity identifiers at8 block) → of_kind rules epoch_kind b.rows ≡ []
  rows-no-epoch at8 block b =
      no_lines (of_kind rules epoch_kind b.rows)
      (rows-many rules velocity is_epoch_kind refl refl identifiers b.rows (by-satellite rules velocity identifiers b.rows b.are-rows) ∙ mul-zero (length identifiers))

  pub epoch-alone : (at8 : ℕ) (block : List (List ℕ)) (b : Block rules velocity identifiers at8 block) → of_kind rules epoch_kind block ≡ b.epoch ∷ []
  epoch-alone at8 block b =
      block-picked rules velocity is_epoch_kind refl refl identifiers at8 block b
      ∙ ap (λ (ls : List (List ℕ)). b.epoch ∷ ls) (rows-no-epoch at8 block b)

module _ {rules : Rules} {velocity : Bool} {identifiers : List ℕ} {interval8 epochs at8 : ℕ} {lines : List (List ℕ)}
    (d : ByEpoch rules velocity identifiers interval8 epochs at8 lines) where
  one-wide : 1 + length identifiers * 0 ≡ 1
  one-wide = omega (arith, mul-zero (length identifiers))

  pub epochs-many : length (of_kind rules epoch_kind lines) ≡ epochs
  epochs-many =
      body-many rules velocity is_epoch_kind refl refl d
      ∙ ap (λ (w : ℕ). epochs * w) one-wide
      ∙ mul-one epochs

  pub epochs-before : (k : ℕ) → k ≤ epochs → length (of_kind rules epoch_kind (before d.divided k)) ≡ k
  epochs-before k h =
      body-before rules velocity is_epoch_kind refl refl d k h
      ∙ ap (λ (w : ℕ). k * w) one-wide
      ∙ mul-one k

  pub epochs-nth : (k : ℕ) (h : k < epochs) → nth k (of_kind rules epoch_kind lines) ≡ (block_is d k h).epoch
  unfolding nth
  epochs-nth k h =
      let place : k ≡ k * (1 + length identifiers * 0) + 0 = sym (ap (λ (w : ℕ). k * w + 0) one-wide ∙ omega arith) in
      ap (λ (m : ℕ). nth m (of_kind rules epoch_kind lines)) place
      ∙ body-nth rules velocity is_epoch_kind refl refl d k 0 h (omega (arith, one-wide))
      ∙ ap (nth 0) (epoch-alone rules velocity identifiers (at8 + k * interval8) (block_at d k) (block_is d k h))

module _ {rules : Rules} {lines : List (List ℕ)} (p : Plain rules lines) where
  -- the lines before the first epoch
  abbrev pub header : List (List ℕ)
  header =
      p.first
      ∷ p.second
      ∷ p.count
      ∷ (p.slots
      ++ (p.accuracies
      ++ (p.descriptor ∷ p.characters ∷ p.bases ∷ p.floats ∷ p.integers ∷ p.integers' ∷ p.comments)))

  -- and whatever stands after them
  pub header-with : (rest : List (List ℕ))
      → header ++ rest
      ≡ p.first
      ∷ p.second
      ∷ p.count
      ∷ (p.slots
      ++ (p.accuracies
      ++ (p.descriptor ∷ p.characters ∷ p.bases ∷ p.floats ∷ p.integers ∷ p.integers' ∷ (p.comments ++ rest))))
  header-with rest =
      let more = p.descriptor ∷ p.characters ∷ p.bases ∷ p.floats ∷ p.integers ∷ p.integers' ∷ p.comments in
      ap (λ (ls : List (List ℕ)). p.first ∷ p.second ∷ p.count ∷ ls)
      (append_assoc p.slots (p.accuracies ++ more) rest ∙ ap (λ (ls : List (List ℕ)). p.slots ++ ls) (append_assoc p.accuracies more rest))

  pub three-parts : lines ≡ header ++ (p.epochs ++ (p.last ∷ []))
  three-parts = p.lines_are ∙ sym (header-with (p.epochs ++ (p.last ∷ [])))

  -- their kinds are 1 to 8
  pub header-kinds : Each (λ (l : List ℕ). within first_kind comment_kind (kind_in rules l) ≡ true) header
  header-kinds =
      let middle = p.descriptor ∷ p.characters ∷ p.bases ∷ p.floats ∷ p.integers ∷ p.integers' ∷ [] in
      let five = told characters_kind (p.descriptor ∷ p.characters ∷ []) refl (characters-kind p) in
      let six = told floats_kind (p.bases ∷ p.floats ∷ []) refl (floats-kind p) in
      let seven = told integers_kind (p.integers ∷ p.integers' ∷ []) refl (integers-kind p) in
      let three = told satellites_kind (p.count ∷ p.slots) refl (identifiers-kind p) in (
        (told first_kind (p.first ∷ []) refl (first-kind p)).0,
        (
          (told second_kind (p.second ∷ []) refl (second-kind p)).0,
          (
            three.0,
            each_append Told p.slots (p.accuracies ++ (middle ++ p.comments)) three.1
                (each_append Told p.accuracies (middle ++ p.comments) (told accuracies_kind p.accuracies refl (accuracies-kind p))
                (each_append Told middle p.comments (five.0, (five.1.0, (six.0, (six.1.0, (seven.0, (seven.1.0, tt)))))) (told comment_kind p.comments refl (comments-kind p)))),
          ),
        ),
      )
    where
      Told : List ℕ → Type 0
      Told l = within first_kind comment_kind (kind_in rules l) ≡ true

      told : (k : ℕ) (ls : List (List ℕ)) → within first_kind comment_kind k ≡ true → Of rules k ls → Each Told ls
      told k ls t h = each_weaken (λ (l : List ℕ). kind_in rules l ≡ k) Told (λ l e. ap (within first_kind comment_kind) e ∙ t) ls h

  -- no epoch line is among them
  pub header-no-epoch : of_kind rules epoch_kind header ≡ []
  header-no-epoch =
      let rest = p.epochs ++ (p.last ∷ []) in
      let all : length (of_kind rules epoch_kind lines) ≡ length (of_kind rules epoch_kind header) + length (of_kind rules epoch_kind rest) =
      ap (λ (ls : List (List ℕ)). length (of_kind rules epoch_kind ls)) three-parts
      ∙ ap length (select-append (is_kind rules epoch_kind) header rest)
      ∙ length-append (of_kind rules epoch_kind header) (of_kind rules epoch_kind rest) in
      let more : length (of_kind rules epoch_kind rest) ≡ length (of_kind rules epoch_kind p.epochs) + length (of_kind rules epoch_kind (p.last ∷ [])) =
      ap length (select-append (is_kind rules epoch_kind) p.epochs (p.last ∷ []))
      ∙ length-append (of_kind rules epoch_kind p.epochs) (of_kind rules epoch_kind (p.last ∷ [])) in
      no_lines (of_kind rules epoch_kind header) (omega (arith, all, more, ap length (kind-epochs p)))
