-- A flag carried over a slice to its end, with no way out: `fold` gives what `all` or `any` would.
-- Assumes nothing.
use mathlib.Core.Path.{◌≡◌, refl, sym, ap₂, ◌∙◌}
use mathlib.Core.Bool.{Bool, true, false, ◌&&◌, ◌||◌, or-false}
use mathlib.Core.List.{List, [], ◌∷◌, ◌++◌}
use denote.Param.Members.{Mut}
use denote.Ref.{Bor}
use Rattle.std.specs.Fn.{Called}
use Rattle.std.specs.Iterator.{FoldsItems}
use Rattle.std.specs.List.{list_all, list_any}
use Rattle.std.proofs.lemmas.Fn.{fold_over, slice_gives, fronts}
use Rattle.std.proofs.lemmas.List.Folds.{list_all-append, list_any-append}
use Rattle.std.specs.declared.slice.Iter.{Iter}
use Rattle.laws.proofs.Bools.{and-true}

module _ {A F : Type 0} (test : A → Bool) (g : Mut F (Bool × (Bor A × Unit {0})) Bool) (f : F) (s : Iter A) (r : Bool) where
  pub fold_all : FoldsItems fronts g s f true r
      → ((flag : Bool) (x : Bor A) (b : Bool) (f' : F) → Called g f (flag, (x, tt)) b f' → (b ≡ (flag && test x.now)) × (f' ≡ f))
      → r ≡ list_all test s.rest.now
  fold_all ran step = fold_over fronts (λ y. y.now) g (λ ys b. b ≡ list_all test ys) f one s s.rest.now true r (slice_gives s) refl ran
    where
      one : (ys : List A) (a : Bool) (x : Bor A) (b : Bool) (f' : F) → a ≡ list_all test ys → Called g f (a, (x, tt)) b f'
          → (b ≡ list_all test (ys ++ (x.now ∷ []))) × (f' ≡ f)
      one ys a x b f' e k =
          let t = step a x b f' k in
          (t.0 ∙ ap₂ (λ (p q : Bool). p && q) e (sym (and-true (test x.now))) ∙ sym (list_all-append test ys (x.now ∷ [])), t.1)

  pub fold_any : FoldsItems fronts g s f false r
      → ((flag : Bool) (x : Bor A) (b : Bool) (f' : F) → Called g f (flag, (x, tt)) b f' → (b ≡ (flag || test x.now)) × (f' ≡ f))
      → r ≡ list_any test s.rest.now
  fold_any ran step = fold_over fronts (λ y. y.now) g (λ ys b. b ≡ list_any test ys) f one s s.rest.now false r (slice_gives s) refl ran
    where
      one : (ys : List A) (a : Bool) (x : Bor A) (b : Bool) (f' : F) → a ≡ list_any test ys → Called g f (a, (x, tt)) b f'
          → (b ≡ list_any test (ys ++ (x.now ∷ []))) × (f' ≡ f)
      one ys a x b f' e k =
          let t = step a x b f' k in
          (t.0 ∙ ap₂ (λ (p q : Bool). p || q) e (sym (or-false (test x.now))) ∙ sym (list_any-append test ys (x.now ∷ [])), t.1)
