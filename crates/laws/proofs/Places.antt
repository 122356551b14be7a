-- Where a part of a part lies, and two references to one stretch of memory.
-- Assumes nothing.
use mathlib.Core.Path.{◌≡◌, ap, ap₂, ◌∙◌}
use mathlib.Core.List.{List}
use Prim.Native.Nat.{ℕ, ◌+◌}
use native.Mathlib.Omega.{arith}
use denote.Ref.{Bor}
use denote.Slice.{shr_slice_vals}
use Rattle.laws.specs.Places.{byte_of, Same}

-- a byte of a part that begins where the lent bytes begin
pub in-front : (lent : Bor (List ℕ)) (i : ℕ) → ◌≡◌ {A = ℕ × ℕ} (lent.ref_ptr.0, i + (0 + lent.ref_ptr.1)) (byte_of lent i)
in-front lent i =
    let same : i + (0 + lent.ref_ptr.1) ≡ i + lent.ref_ptr.1 = omega arith in
    ap (λ (n : ℕ). (lent.ref_ptr.0, n)) same

-- a part of a part: the two counts together
pub in-part : (lent part text : Bor (List ℕ)) (from i : ℕ) → part.ref_ptr ≡ byte_of lent from → text.ref_ptr ≡ byte_of part i → text.ref_ptr ≡ byte_of lent (from + i)
in-part lent part text from i p t =
    let same : i + (from + lent.ref_ptr.1) ≡ (from + i) + lent.ref_ptr.1 = omega arith in
    t ∙ ap (λ (a : ℕ × ℕ). (a.0, i + a.1)) p ∙ ap (λ (n : ℕ). (lent.ref_ptr.0, n)) same

-- two references to one stretch of memory are one machine value: a pointer and a count of bytes
pub same-value : (r s : Bor (List ℕ)) → Same r s → shr_slice_vals r ≡ shr_slice_vals s
same-value r s e = ap₂ (λ (a : ℕ × ℕ) (bytes : List ℕ). shr_slice_vals (record { ref_ptr = a; now = bytes })) e.1 e.0
