-- What the facts of two clauses say together.
-- Assumes nothing.
use seplogic.Ra.Ura.{Ura}
use base.Logic.{ent, sep, via, fst∗, snd∗, mono∗}
use contract.Fact.{fact, fact_i, fact_use}

-- what two facts say together
pub both : {M : Type 1} (𝓤 : Ura M) (P Q R : Type 0) → (P → Q → R) → ent 𝓤 (sep 𝓤 (fact 𝓤 P) (fact 𝓤 Q)) (fact 𝓤 R)
both 𝓤 P Q R f =
    fact_use 𝓤 P (fst∗ 𝓤 (fact 𝓤 P) (fact 𝓤 Q)) (λ p. fact_use 𝓤 Q (snd∗ 𝓤 (fact 𝓤 P) (fact 𝓤 Q)) (λ q. fact_i 𝓤 R (sep 𝓤 (fact 𝓤 P) (fact 𝓤 Q)) (f p q)))

-- and what two pairs of them do
pub both-pairs : {M : Type 1} (𝓤 : Ura M) (P P' Q Q' R : Type 0) → (P × P' → Q × Q' → R)
    → ent 𝓤 (sep 𝓤 (sep 𝓤 (fact 𝓤 P) (fact 𝓤 P')) (sep 𝓤 (fact 𝓤 Q) (fact 𝓤 Q'))) (fact 𝓤 R)
both-pairs 𝓤 P P' Q Q' R f =
    via 𝓤 (sep 𝓤 (fact 𝓤 (P × P')) (fact 𝓤 (Q × Q')))
    (mono∗ 𝓤 (both 𝓤 P P' (P × P') (λ p p'. (p, p'))) (both 𝓤 Q Q' (Q × Q') (λ q q'. (q, q'))))
    (both 𝓤 (P × P') (Q × Q') R f)
