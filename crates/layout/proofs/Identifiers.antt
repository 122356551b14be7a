-- An identifier as one number: its letter and two digits, and back.
-- Assumes nothing.
use mathlib.Core.Path.{◌≡◌}
use mathlib.Core.Bool.{true, ◌&&◌}
use mathlib.Core.List.{List}
use Prim.Native.Nat.{ℕ, ◌+◌, ◌*◌, ◌/◌, ◌%◌, ◌<◌, ◌≤◌}
use native.Mathlib.Nat.{mod-lt, mod-eq_of_lt, div-add-mod'}
use native.Mathlib.Omega.{arith}
use borrow.Author.Tests.{leb-true, ltb-true, lt-ltb}
use lib.Dec.{leb, ltb, lit<}
use lib.ListN.{get_or}
use Rattle.field.specs.Digits.{is_digit}
use Rattle.laws.specs.Tests.{within}
use Rattle.layout.specs.Kind.{named, identifier_number, identifier_code, show_identifier, is_identifier, printable}
use Rattle.laws.proofs.Bools.{and_left, and_right}
use Rattle.laws.proofs.Bounds.{true-within, within-true}
use Rattle.layout.proofs.Shown.{printable-byte}

digit-is : (d : ℕ) → d < 10 → is_digit (48 + d) ≡ true
digit-is d h = true-within 48 57 (48 + d) (omega arith) (omega arith)

-- an identifier's number within its bounds
module _ (code : ℕ) (h : is_identifier code ≡ true) where
  capital : within 65 90 (code / 10 / 10) ≡ true
  capital = and_left (within 65 90 (code / 10 / 10)) (ltb 0 (code / 10 % 10 * 10 + code % 10)) h

  low : 65 ≤ code / 10 / 10
  low = leb-true 65 (code / 10 / 10) (and_left (leb 65 (code / 10 / 10)) (leb (code / 10 / 10) 90) capital)

  high : code / 10 / 10 ≤ 90
  high = leb-true (code / 10 / 10) 90 (and_right (leb 65 (code / 10 / 10)) (leb (code / 10 / 10) 90) capital)

  some : 0 < code / 10 % 10 * 10 + code % 10
  some = ltb-true 0 (code / 10 % 10 * 10 + code % 10) (and_right (within 65 90 (code / 10 / 10)) (ltb 0 (code / 10 % 10 * 10 + code % 10)) h)

  byte : code / 10 / 10 % 128 ≡ code / 10 / 10
  byte = mod-eq_of_lt (omega (arith, high))

  tens : code / 10 % 10 < 10
  tens = mod-lt (code / 10) (lit< tt)

  ones : code % 10 < 10
  ones = mod-lt code (lit< tt)

  pub identifier-named : named (show_identifier code) ≡ true
  identifier-named = rw (byte, capital, digit-is (code / 10 % 10) tens, digit-is (code % 10) ones)

  pub identifier-number : identifier_number (show_identifier code) ≡ code / 10 % 10 * 10 + code % 10
  identifier-number = omega arith

  pub identifier-bounds : within 1 99 (identifier_number (show_identifier code)) ≡ true
  identifier-bounds = rw identifier-number (true-within 1 99 (code / 10 % 10 * 10 + code % 10) (omega (arith, some)) (omega (arith, tens, ones)))

  pub identifier-code : identifier_code (show_identifier code) ≡ code
  identifier-code = rw byte (omega (arith, identifier-number, div-add-mod' code 10, div-add-mod' (code / 10) 10))

  pub identifier-printable : printable (show_identifier code) ≡ true
  identifier-printable =
      rw (
        byte,
        printable-byte (code / 10 / 10) (omega (arith, low)) (omega (arith, high)),
        printable-byte (48 + code / 10 % 10) (omega arith) (omega (arith, tens)),
        printable-byte (48 + code % 10) (omega arith) (omega (arith, ones)),
      )

-- the digits of what is an identifier
pub named-digits : (bs : List ℕ) → named bs ≡ true → (48 ≤ get_or bs 1 0) × (get_or bs 1 0 ≤ 57) × (48 ≤ get_or bs 2 0) × (get_or bs 2 0 ≤ 57)
named-digits bs h =
    let b = get_or bs 1 0 in
    let c = get_or bs 2 0 in
    let digits = and_right (within 65 90 (get_or bs 0 0)) (is_digit b && is_digit c) h in
    let first = and_left (is_digit b) (is_digit c) digits in
    let second = and_right (is_digit b) (is_digit c) digits in (
      leb-true 48 b (and_left (leb 48 b) (leb b 57) first),
      leb-true b 57 (and_right (leb 48 b) (leb b 57) first),
      leb-true 48 c (and_left (leb 48 c) (leb c 57) second),
      leb-true c 57 (and_right (leb 48 c) (leb c 57) second),
    )

-- what was read as an identifier within its bounds is one
module _ (bs : List ℕ) (h : named bs ≡ true) (bounds : within 1 99 (identifier_number bs) ≡ true) where
  code-letter : identifier_code bs / 10 / 10 ≡ get_or bs 0 0
  code-letter = let d = named-digits bs h in omega arith

  code-number : identifier_code bs / 10 % 10 * 10 + identifier_code bs % 10 ≡ identifier_number bs
  code-number = let d = named-digits bs h in omega arith

  pub identifier-again : is_identifier (identifier_code bs) ≡ true
  identifier-again =
      let some = within-true 1 99 (identifier_number bs) bounds in
      rw (code-letter, and_left (within 65 90 (get_or bs 0 0)) (is_digit (get_or bs 1 0) && is_digit (get_or bs 2 0)) h, code-number, lt-ltb 0 (identifier_number bs) (omega arith))
