-- Lent memory that is filled from its first place on, of any element type. `Laying all old now n left` is what a loop or a walk that fills says:
-- the first n elements of `all` are laid over `old`, and `left` is what is still to be laid.
-- Assumes nothing.
use mathlib.Core.Path.{◌≡◌, refl, sym, ap, ap₂, ◌∙◌}
use mathlib.Core.List.{List, [], ◌∷◌, ◌++◌, append-nil, append_assoc}
use Prim.Native.Nat.{ℕ, ◌+◌, ◌-◌, ◌<◌, ◌≤◌, min, zero-le}
use native.Mathlib.Decide.{dec_le}
use native.Mathlib.Numerals.{add-one}
use native.Mathlib.Omega.{arith}
use borrow.Rule.Slice.PartMut.{put_mid, Post-is}
use lib.ListN.{length, take, drop, set, length-append, length-take, length-drop, drop_of_length-le, take-append-drop}
use lib.Seq.{take_all, take_at, drop_at, take-add, drop-drop, take-take, take-append-add, drop-append-le, drop-length, length-take-le, set_split}
use Rattle.lines.specs.Lent.{over, laid}

module _ {A : Type 0} where
  -- the part `&mut s[a..]`: what was lent, and what it holds now follows what stands before it
  pub rest-lent : (a : ℕ) (s : List A) → take (length s - a) (drop a s) ≡ drop a s
  rest-lent a s = take_all (length s - a) (drop a s) (omega (arith, length-drop a s))

  pub rest_back : (a : ℕ) (s part : List A) → a ≤ length s → put_mid a (length s - a) s part ≡ take a s ++ part
  rest_back a s part h =
      ap (λ (t : List A). take a s ++ (part ++ t)) (Post-is a (length s) s h ∙ drop-length s)
      ∙ ap (λ (t : List A). take a s ++ t) (append-nil part)

  -- what has room is laid whole
  pub laid-fits : (new old : List A) → length new ≤ length old → laid new old ≡ over new old
  laid-fits new old h = ap (λ (t : List A). t ++ drop (length new) old) (take_all (length old) new h)

  -- as many places as there were
  pub laid-length : (new old : List A) → length (laid new old) ≡ length old
  laid-length new old =
      length-append (take (length old) new) (drop (length new) old)
      ∙ omega (arith, length-take (length old) new, length-drop (length new) old)

  -- nothing is laid
  pub laid_none : (old : List A) → laid [] old ≡ old
  laid_none old = laid-fits [] old zero-le

  -- one part, then another behind it
  pub laid-append : (a b old : List A) → length a ≤ length old → laid (a ++ b) old ≡ a ++ laid b (drop (length a) old)
  laid-append a b old h =
      let left : length old ≡ length a + length (drop (length a) old) = omega (arith, length-drop (length a) old) in
      let front : take (length old) (a ++ b) ≡ a ++ take (length (drop (length a) old)) b =
      ap (λ (n : ℕ). take n (a ++ b)) left ∙ take-append-add a b (length (drop (length a) old)) in
      let back : drop (length (a ++ b)) old ≡ drop (length b) (drop (length a) old) =
      ap (λ (n : ℕ). drop n old) (length-append a b) ∙ sym (drop-drop (length b) (length a) old) in
      ap₂ (λ (x y : List A). x ++ y) front back
      ∙ append_assoc a (take (length (drop (length a) old)) b) (drop (length b) (drop (length a) old))

  -- what has room in a front leaves what stands behind it
  pub laid-within : (new front back : List A) → length new ≤ length front → laid new front ++ back ≡ laid new (front ++ back)
  laid-within new front back h =
      ap (λ (t : List A). t ++ back) (laid-fits new front h)
      ∙ append_assoc new (drop (length new) front) back
      ∙ ap (λ (t : List A). new ++ t) (sym (drop-append-le (length new) front back h))
      ∙ sym (laid-fits new (front ++ back) (omega (arith, length-append front back)))

  -- past the last place nothing more is laid
  pub laid-past : (all old : List A) (n : ℕ) → length old ≤ n → n ≤ length all → laid (take n all) old ≡ laid all old
  laid-past all old n h k =
      let size : length (take n all) ≡ n = length-take-le n all k in
      ap₂ (λ (x y : List A). x ++ y)
      (take-take (length old) n all h)
      (drop_of_length-le old {i = length (take n all)} (omega arith) ∙ sym (drop_of_length-le old {i = length all} (omega arith)))

pub record Laying {A : Type 0} (all old now : List A) (n : ℕ) (left : List A) : Type 0 where
  pub kept : length now ≡ length old
  pub so_far : now ≡ laid (take n all) old
  pub rest : left ≡ drop n all
  pub count : n ≤ length all

module _ {A : Type 0} where
  pub laying-none : (all old : List A) → Laying all old old 0 all
  laying-none all old = record { kept = refl; so_far = sym (laid_none old); rest = refl; count = zero-le }

  -- the first block, laid over all of it
  pub laying-start : (block left old : List A) {now : List A} → now ≡ laid block old → Laying (block ++ left) old now (length block) left
  laying-start block left old e =
      record {
        kept = ap length e ∙ laid-length block old;
        so_far = e ∙ ap (λ (t : List A). laid t old) (sym (take_at block left (length block) refl));
        rest = sym (drop_at block left (length block) refl);
        count = omega (arith, length-append block left);
      }

  -- the same, with what is left said in another way
  pub laying-as : {all old now : List A} {n : ℕ} {left left' : List A} → left ≡ left' → Laying all old now n left → Laying all old now n left'
  laying-as e s = record { kept = s.kept; so_far = s.so_far; rest = sym e ∙ s.rest; count = s.count }

  module _ {all old now : List A} {n : ℕ} where
    -- no place is left
    pub laying-full : {left : List A} → length old ≤ n → Laying all old now n left → now ≡ laid all old
    laying-full h s = s.so_far ∙ laid-past all old n h s.count

    -- nothing is left
    pub laying-all : Laying all old now n [] → now ≡ laid all old
    laying-all s =
        let none : 0 ≡ length all - n = ap length s.rest ∙ length-drop n all in
        s.so_far ∙ ap (λ (t : List A). laid t old) (take_all n all (omega arith))

    -- no place is left, or nothing
    pub laying-most : {left : List A} → min (length old) (length all) ≤ n → Laying all old now n left → now ≡ laid all old
    laying-most {left} h s = go (dec_le (length old) n)
      where
        go : Dec (length old ≤ n) → now ≡ laid all old
        go (yes p) = laying-full p s
        go (no p) = s.so_far ∙ ap (λ (t : List A). laid t old) (take_all n all (omega arith))

    -- what is laid, and what is not yet
    module _ {left : List A} (s : Laying all old now n left) (h : n ≤ length now) where
      laying-size : length (take n all) ≡ n
      laying-size = length-take-le n all s.count

      laying-is : now ≡ take n all ++ drop n old
      laying-is =
          s.so_far ∙ laid-fits (take n all) old (omega (arith, laying-size, s.kept))
          ∙ ap (λ (k : ℕ). take n all ++ drop k old) laying-size

      pub laying-front : take n now ≡ take n all
      laying-front = ap (take n) laying-is ∙ take_at (take n all) (drop n old) n laying-size

      pub laying-back : drop n now ≡ drop n old
      laying-back = ap (drop n) laying-is ∙ drop_at (take n all) (drop n old) n laying-size

  -- a block more: what it is laid over stands behind what is laid
  module _ {all old now : List A} {n : ℕ} (block left : List A) (s : Laying all old now n (block ++ left)) where
    more-count : n + length block ≤ length all
    more-count = omega (arith, ap length s.rest, length-append block left, length-drop n all, s.count)

    more-rest : left ≡ drop (n + length block) all
    more-rest =
        sym (drop_at block left (length block) refl) ∙ ap (drop (length block)) s.rest ∙ drop-drop (length block) n all

    more-front : take (n + length block) all ≡ take n all ++ block
    more-front =
        take-add n (length block) all
        ∙ ap (λ (t : List A). take n all ++ t) (ap (take (length block)) (sym s.rest) ∙ take_at block left (length block) refl)

    pub laying-next : {now' : List A} → n ≤ length now → now' ≡ take n now ++ laid block (drop n now) → Laying all old now' (n + length block) left
    laying-next {now'} h e =
        let size : length (take n all) ≡ n = length-take-le n all s.count in
        let fits : length (take n all) ≤ length old = omega (arith, size, s.kept) in
        let so : now' ≡ laid (take (n + length block) all) old =
        e ∙ ap₂ (λ (x y : List A). x ++ laid block y) (laying-front s h) (laying-back s h)
        ∙ ap (λ (k : ℕ). take n all ++ laid block (drop k old)) (sym size)
        ∙ sym (laid-append (take n all) block old fits)
        ∙ ap (λ (t : List A). laid t old) (sym more-front) in
        record { kept = ap length so ∙ laid-length (take (n + length block) all) old; so_far = so; rest = more-rest; count = more-count }

    -- laid into `&mut out[n..]`
    pub laying-block : {part : List A} → n ≤ length now → part ≡ laid block (take (length now - n) (drop n now))
        → Laying all old (put_mid n (length now - n) now part) (n + length block) left
    laying-block {part} h e =
        laying-next h
        (rest_back n now part h ∙ ap (λ (t : List A). take n now ++ t) (e ∙ ap (λ (t : List A). laid block t) (rest-lent n now)))

    -- laid into `&mut out[n..end]`, where it has room
    pub laying-block-within : {part : List A} (end : ℕ) → n + length block ≤ end → end ≤ length now → part ≡ laid block (take (end - n) (drop n now))
        → Laying all old (put_mid n (end - n) now part) (n + length block) left
    laying-block-within {part} end room within e =
        let size : length (take (end - n) (drop n now)) ≡ end - n = length-take-le (end - n) (drop n now) (omega (arith, length-drop n now)) in
        laying-next (omega arith)
        (ap (λ (t : List A). take n now ++ (t ++ drop (end - n) (drop n now))) e
        ∙ ap (λ (t : List A). take n now ++ t)
        (laid-within block (take (end - n) (drop n now)) (drop (end - n) (drop n now)) (omega arith)
        ∙ ap (λ (t : List A). laid block t) (take-append-drop (end - n) (drop n now))))

    -- no place is left for it
    pub laying-past : length now ≤ n → Laying all old now (n + length block) left
    laying-past h =
        let full : length old ≤ n = omega (arith, s.kept) in
        record {
          kept = s.kept;
          so_far = s.so_far ∙ laid-past all old n full s.count ∙ sym (laid-past all old (n + length block) (omega arith) more-count);
          rest = more-rest;
          count = more-count;
        }

  -- one element more, stored
  pub laying-one : {all old now : List A} {n : ℕ} {v : A} {left left' : List A} → n < length now → left ≡ v ∷ left' → Laying all old now n left
      → Laying all old (set now n v) (n + 1) left'
  laying-one {all} {old} {now} {n} {v} {left} {left'} h e s =
      let room : 1 ≤ length (drop n now) = omega (arith, length-drop n now) in
      laying-next (v ∷ []) left' (laying-as e s) (omega arith)
      (set_split now n v h
      ∙ ap (λ (t : List A). take n now ++ (v ∷ t)) (ap (λ (k : ℕ). drop k now) (sym (add-one n)) ∙ sym (drop-drop 1 n now))
      ∙ ap (λ (t : List A). take n now ++ t) (sym (laid-fits (v ∷ []) (drop n now) room)))
