-- With more clauses to look up, a chain stays a chain.
use Rattle.std.proofs.Common.{List, [], ◌∷◌, ◌++◌, inl, inr, ⊎_elim}
use Rattle.std.specs.Prelude.{map}
use Rattle.cnf_base.specs.Literals.{Literal, negated}
use Rattle.cnf_base.specs.declared.clause.ClauseId.{ClauseId}
use Rattle.hint_chain.specs.Chains.{Lookup, ChainFrom, IsChain, FindsMore}

pub ChainFrom-grows : (look more : Lookup) → FindsMore look more → (trues : List Literal) (hints : List ClauseId) → ChainFrom look trues hints → ChainFrom more trues hints
ChainFrom-grows look more g trues [] c = c
ChainFrom-grows look more g trues (i ∷ []) c = (c.0, g i c.0 c.1, c.2)
ChainFrom-grows look more g trues (i ∷ j ∷ is) c = (c.0, c.1, g i c.0 c.2, c.3, ChainFrom-grows look more g (trues ++ c.1 ∷ []) (j ∷ is) c.4)

pub IsChain-grows : (look more : Lookup) → FindsMore look more → (clause : List Literal) (hints : List ClauseId) → IsChain look clause hints → IsChain more clause hints
IsChain-grows look more g clause hints c =
    ⊎_elim (λ p. inl p) (λ p. inr (p.0, ChainFrom-grows look more g (map negated clause) hints p.1)) c
