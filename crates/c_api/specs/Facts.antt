-- Facts that are said side by side, for the proofs by hand: each beside those after it, and all of them beside what is had.
use seplogic.Ra.Ura.{Ura}
use base.Logic.{SProp, ent, sep, emp, emp∗, via, mono_l, mono_r, comm∗}
use contract.Monad.{fact, fact_i}

module _ {M : Type 1} (𝓤 : Ura M) where
  pub also : {a : Type 0} {P : SProp 𝓤} → a → ent 𝓤 (emp 𝓤) P → ent 𝓤 (emp 𝓤) (sep 𝓤 (fact 𝓤 a) P)
  also {a} {P} x p = via 𝓤 (sep 𝓤 (emp 𝓤) (emp 𝓤)) (emp∗ 𝓤 (emp 𝓤)) (via 𝓤 (sep 𝓤 (fact 𝓤 a) (emp 𝓤)) (mono_l 𝓤 (emp 𝓤) (fact_i 𝓤 a (emp 𝓤) x)) (mono_r 𝓤 (fact 𝓤 a) p))

  pub beside : {P Q : SProp 𝓤} → ent 𝓤 (emp 𝓤) Q → ent 𝓤 P (sep 𝓤 P Q)
  beside {P} {Q} q = via 𝓤 (sep 𝓤 (emp 𝓤) P) (emp∗ 𝓤 P) (via 𝓤 (sep 𝓤 Q P) (mono_l 𝓤 P q) (comm∗ 𝓤 Q P))
