-- Bytes laid one after another into lent output.
-- Assumes nothing.
use mathlib.Core.Path.{◌≡◌, refl, sym, ap, ◌∙◌}
use mathlib.Core.List.{List, ◌++◌}
use Prim.Native.Nat.{ℕ, ◌+◌, ◌-◌, ◌≤◌}
use native.Mathlib.Omega.{arith}
use borrow.Author.Tests.{le-leb}
use lib.ListN.{length, take, drop, length-append, length-drop}
use lib.Seq.{take_at}
use Rattle.laws.proofs.Lists.{rest_part}
use Rattle.io.specs.Counts.{IsPrefixLen}
use Rattle.layout.specs.Line.{Lays}
use Rattle.layout.proofs.Lines.{copied-whole, lays-after}
use Rattle.writer.proofs.Laying.{then, lays-over}

-- bytes that were copied to the front are laid there
pub copied : (bytes out now : List ℕ) → length bytes ≤ length out → now ≡ take (length out) bytes ++ drop (length bytes) out
    → Lays bytes out (length bytes) now
copied bytes out now room e = record { length-told = refl; laid = e ∙ copied-whole bytes out room ∙ rw (le-leb (length bytes) (length out) room) }

-- bytes that are laid leave as many places as there were
pub kept : {bytes out now : List ℕ} {r : ℕ} → length bytes ≤ length out → Lays bytes out r now → length now ≡ length out
kept {bytes} {out} room s =
    ap length (lays-over bytes out room s) ∙ omega (arith, length-append bytes (drop (length bytes) out), length-drop (length bytes) out)

-- after bytes that are laid, more of them
pub record Next (a b out : List ℕ) (n : ℕ) (mid : List ℕ) : Type 0 where
  pub within : n ≤ length mid
  pub ends : n + length b ≤ length out
  pub room : length b ≤ length (take (length mid - n) (drop n mid))
  pub both : {m : ℕ} {part : List ℕ} → Lays b (take (length mid - n) (drop n mid)) m part → Lays (a ++ b) out (n + m) (then n mid part)

pub next : (a b out : List ℕ) {n : ℕ} {mid : List ℕ} → length (a ++ b) ≤ length out → Lays a out n mid → Next a b out n mid
next a b out {n} {mid} room s =
    let long = length-append a b in
    let same = kept (omega arith) s in
    record {
      within = omega (arith, s.length-told);
      ends = omega (arith, s.length-told);
      room = rw (rest_part mid n) (omega (arith, s.length-told, length-drop n mid));
      both = λ {m} {part} t. lays-after a b out mid part n m room s t;
    }

-- what a caller sees of bytes that are laid: they are the first of the output, and how many they are
pub seen : {bytes bytes' out now : List ℕ} {r : ℕ} → bytes ≡ bytes' → length bytes ≤ length out → Lays bytes out r now
    → (take r now ≡ bytes') × IsPrefixLen r now
seen {bytes} {bytes'} {out} {now} {r} same room s =
    let front : take r now ≡ bytes =
    rw (s.length-told, lays-over bytes out room s) (take_at bytes (drop (length bytes) out) (length bytes) refl) in
    (front ∙ same, (omega (arith, s.length-told, kept room s), s.length-told ∙ sym (ap length front)))
