-- Where a part of lent bytes lies. A reference to lent bytes is an address, a block of memory and a byte in it, and the bytes that stand there; its
-- third member, a ghost name, has no machine value.
use Rattle.std.specs.Prelude.{◌≡◌, List, ℕ, ◌+◌, take, drop}
use Rattle.std.specs.Borrow.{Bor}

-- the address of a byte of some lent bytes, counted from 0
abbrev pub byte_of : Bor (List ℕ) → ℕ → ℕ × ℕ
byte_of lent i = (lent.ref_ptr.0, i + lent.ref_ptr.1)

-- r is the part of some lent bytes from a byte on, of n bytes
abbrev pub PartAt : Bor (List ℕ) → ℕ → ℕ → Bor (List ℕ) → Type 0
PartAt lent from n r = (r.now ≡ take n (drop from lent.now)) × (r.ref_ptr ≡ byte_of lent from)

-- two references to one stretch of memory: the same bytes at the same address
abbrev pub Same : Bor (List ℕ) → Bor (List ℕ) → Type 0
Same r s = (r.now ≡ s.now) × (r.ref_ptr ≡ s.ref_ptr)
