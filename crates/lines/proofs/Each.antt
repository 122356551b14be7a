-- What holds of each element of a list.
-- Assumes nothing.
use mathlib.Core.List.{List, [], ◌∷◌, ◌++◌, map}

-- it holds of each element
abbrev pub Each : {A : Type 0} → (A → Type 0) → List A → Type 0
Each holds [] = Unit
Each holds (a ∷ xs) = holds a × Each holds xs

module _ {A : Type 0} (holds : A → Type 0) where
  pub each_append : (xs ys : List A) → Each holds xs → Each holds ys → Each holds (xs ++ ys)
  each_append [] ys p q = q
  each_append (a ∷ xs) ys p q = (p.0, each_append xs ys p.1 q)

  pub each-front : (xs ys : List A) → Each holds (xs ++ ys) → Each holds xs
  each-front [] ys p = tt
  each-front (a ∷ xs) ys p = (p.0, each-front xs ys p.1)

  pub each_back : (xs ys : List A) → Each holds (xs ++ ys) → Each holds ys
  each_back [] ys p = p
  each_back (a ∷ xs) ys p = each_back xs ys p.1

  -- of each that a function makes
  pub each_map : {B : Type 0} (f : B → A) → ((b : B) → holds (f b)) → (ys : List B) → Each holds (map f ys)
  each_map f p [] = tt
  each_map f p (b ∷ ys) = (p b, each_map f p ys)

-- one follows from another
pub each_weaken : {A : Type 0} (holds also : A → Type 0) → ((a : A) → holds a → also a) → (xs : List A) → Each holds xs → Each also xs
each_weaken holds also w [] p = tt
each_weaken holds also w (a ∷ xs) p = (w a p.0, each_weaken holds also w xs p.1)

pub each-map-of : {A B : Type 0} (holds : A → Type 0) (also : B → Type 0) (f : A → B) → ((a : A) → holds a → also (f a)) → (xs : List A) → Each holds xs
    → Each also (map f xs)
each-map-of holds also f w [] p = tt
each-map-of holds also f w (a ∷ xs) p = (w a p.0, each-map-of holds also f w xs p.1)
