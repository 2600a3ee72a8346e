-- A chain is sound.
use Rattle.std.proofs.Common.{◌≡◌, ℕ, Bool, true, false, not, List, [], ◌∷◌, ◌++◌, Some, sym, ap, ◌∙◌, ⊎_elim}
use Rattle.std.specs.Prelude.{◌⊎◌, All, Contains, map}
use Rattle.std.proofs.lemmas.List.Elements.{All-push, All-contains, All-head, All-tail, All-cons, All-nil, Contains-append_right}
use Rattle.cnf_base.specs.Literals.{Literal, negated}
use Rattle.cnf_base.specs.Clauses.{lit_true, clause_true}
use Rattle.cnf_base.specs.declared.clause.ClauseId.{ClauseId}
use Rattle.cnf_base.proofs.Truth.{lit_true-negated}
use Rattle.hint_chain.specs.Chains.{IsFalse, IsFalseClause, HasPair, Lookup, ChainFrom, IsChain, Follows}
use Rattle.std.proofs.lemmas.Bool.{or_cases, or_parts, true_from_ne_false}
use Rattle.cnf_base.proofs.Lists.{Contains-first}

not_both : (b : Bool) → b ≡ true → not b ≡ true → ⊥
not_both true p q = cc
not_both false p q = cc

-- what is false under true literals is false
is_false-lit : (v : ℕ → Bool) (ts : List Literal) (l : Literal) → All (λ t. lit_true v t ≡ true) ts → IsFalse ts l → lit_true v l ≡ true → ⊥
is_false-lit v ts l trues f t =
    not_both (lit_true v l) t (sym (lit_true-negated v l) ∙ All-contains (λ k. lit_true v k ≡ true) ts (negated l) trues f)

-- a true clause has no row of literals that all are false
not_all_false : (v : ℕ → Bool) (ts clause : List Literal) → All (λ t. lit_true v t ≡ true) ts → IsFalseClause ts clause → clause_true v clause ≡ true → ⊥
not_all_false v ts [] trues f t = cc
not_all_false v ts (l ∷ ls) trues f t =
    let here = is_false-lit v ts l trues (All-head (IsFalse ts) l ls f) in
    let later = not_all_false v ts ls trues (All-tail (IsFalse ts) l ls f) in
    ⊎_elim here later (or_cases (lit_true v l) (clause_true v ls) t)

-- a true clause, all of whose literals but one are false, has that one true
unit_true : (v : ℕ → Bool) (ts clause : List Literal) (l : Literal) → All (λ t. lit_true v t ≡ true) ts → All (λ k. (k ≡ l) ⊎ IsFalse ts k) clause → clause_true v clause ≡ true → lit_true v l ≡ true
unit_true v ts [] l trues u t = cc
unit_true v ts (k ∷ ks) l trues u t =
    let P : Literal → Type 0 = λ j. (j ≡ l) ⊎ IsFalse ts j in
    let later = unit_true v ts ks l trues (All-tail P k ks u) in
    let here : lit_true v k ≡ true → lit_true v l ≡ true =
    λ tk. ⊎_elim (λ e. ap (lit_true v) (sym e) ∙ tk) (λ f. absurd (is_false-lit v ts k trues f tk)) (All-head P k ks u) in
    ⊎_elim here later (or_cases (lit_true v k) (clause_true v ks) t)

-- each clause that the hints name is true
abbrev pub AreTrue : (ℕ → Bool) → Lookup → List ClauseId → Type 0
AreTrue v look hints = (i : ClauseId) (h : List Literal) → Contains hints i → look i ≡ Some h → clause_true v h ≡ true

fewer_true : (v : ℕ → Bool) (look : Lookup) (i : ClauseId) (is : List ClauseId) → AreTrue v look (i ∷ is) → AreTrue v look is
fewer_true v look i is known j h c = known j h (Contains-append_right (i ∷ []) is j c)

chain_contradicts : (v : ℕ → Bool) (look : Lookup) (ts : List Literal) (hints : List ClauseId) → AreTrue v look hints → All (λ t. lit_true v t ≡ true) ts → ChainFrom look ts hints → ⊥
chain_contradicts v look ts [] known trues c = c
chain_contradicts v look ts (i ∷ []) known trues c = not_all_false v ts c.0 trues c.2 (known i c.0 (Contains-first i []) c.1)
chain_contradicts v look ts (i ∷ j ∷ is) known trues c =
    let unit = c.3 in
    let t = unit_true v ts c.0 c.1 trues unit.others (known i c.0 (Contains-first i (j ∷ is)) c.2) in
    chain_contradicts v look (ts ++ c.1 ∷ []) (j ∷ is) (fewer_true v look i (j ∷ is) known) (All-push (λ k. lit_true v k ≡ true) ts c.1 trues t) c.4

-- where a clause is false, the opposites of its literals are true
opposites_true : (v : ℕ → Bool) (clause : List Literal) → clause_true v clause ≡ false → All (λ t. lit_true v t ≡ true) (map negated clause)
opposites_true v [] f = All-nil (λ t. lit_true v t ≡ true)
opposites_true v (l ∷ ls) f =
    let p = or_parts (lit_true v l) (clause_true v ls) f in
    All-cons (λ t. lit_true v t ≡ true) (negated l) (map negated ls) (lit_true-negated v l ∙ ap not p.0) (opposites_true v ls p.1)

all_false_members : (v : ℕ → Bool) (clause : List Literal) → clause_true v clause ≡ false → All (λ t. lit_true v t ≡ false) clause
all_false_members v [] f = All-nil (λ t. lit_true v t ≡ false)
all_false_members v (l ∷ ls) f =
    let p = or_parts (lit_true v l) (clause_true v ls) f in
    All-cons (λ t. lit_true v t ≡ false) l ls p.0 (all_false_members v ls p.1)

no_false_pair : (v : ℕ → Bool) (clause : List Literal) → HasPair clause → clause_true v clause ≡ false → ⊥
no_false_pair v clause p f =
    let P : Literal → Type 0 = λ t. lit_true v t ≡ false in
    let all = all_false_members v clause f in
    let one = All-contains P clause p.0 all p.1 in
    let two = All-contains P clause (negated p.0) all p.2 in
    let three = sym two ∙ (lit_true-negated v p.0 ∙ ap not one) in
    cc

pub IsChain-follows : (look : Lookup) (clause : List Literal) (hints : List ClauseId) → IsChain look clause hints → Follows look clause hints
IsChain-follows look clause hints c v known =
    true_from_ne_false (clause_true v clause) (λ f.
    ⊎_elim
    (λ p. no_false_pair v clause p.0 f)
    (λ p. chain_contradicts v look (map negated clause) hints known (opposites_true v clause f) p.1)
    c)
