-- One hint, and those after it.
use Rattle.std.proofs.Common.{◌≡◌, ℕ, ◌+◌, ◌<◌, List, [], ◌∷◌, ◌++◌, length, get_or, drop, Some, None, refl, sym, ap, ◌∙◌, subst, inl, inr, ⊎_elim, arith}
use Rattle.std.specs.Prelude.{◌≢◌, Result, Ok, Err, MatchResult, OnOk, map}
use Rattle.std.proofs.lemmas.List.{drop_more, drop_all}
use Rattle.std.proofs.lemmas.List.Elements.{All-contains}
use Rattle.std.proofs.lemmas.Bool.{cases_lt}
use Rattle.std.proofs.Math.Numerals.{add-one}
use Rattle.cnf_base.specs.Literals.{Literal, negated}
use Rattle.cnf_base.specs.declared.clause.ClauseId.{ClauseId}
use Rattle.hint_chain.specs.declared.fault.ChainFault.{ChainFault}
use Rattle.hint_chain.specs.declared.fault.FaultKind.TheVariants.{Missing, Wide, Early, Loose}
use Rattle.hint_chain.specs.declared.shape.Shape.{Shape}
use Rattle.hint_chain.specs.declared.shape.Shape.TheVariants.{AllFalse, OneOpen, Many}
use Rattle.hint_chain.specs.Chains.{IsFalse, IsFalseClause, HasPair, Lookup, ChainFrom, IsChain, Follows}
use Rattle.hint_chain.specs.Faults.{FaultFrom, FirstFault, HasShape, fault_at}
use Rattle.hint_chain.proofs.Sound.{IsChain-follows}

-- the hint of number k, which was read
abbrev pub IsAt : List ClauseId → ℕ → ClauseId → Type 0
IsAt hints k i = drop k hints ≡ i ∷ drop (k + 1) hints

one_left : (hints : List ClauseId) (k : ℕ) (i : ClauseId) → IsAt hints k i → k + 1 ≡ length hints → drop k hints ≡ i ∷ []
one_left hints k i at e = at ∙ ap (λ t. i ∷ t) (drop_all (k + 1) hints (omega arith))

two_left : (hints : List ClauseId) (k : ℕ) (i : ClauseId) → IsAt hints k i → k + 1 < length hints → drop k hints ≡ i ∷ get_or hints (k + 1) i ∷ drop (k + 1 + 1) hints
two_left hints k i at h = at ∙ ap (λ t. i ∷ t) (drop_more hints (k + 1) i h)

-- a clause that is looked up, and how it stands
abbrev pub Seen : Lookup → List Literal → ClauseId → Shape → Type 0
Seen look ts i s = (h : List Literal) × (look i ≡ Some h) × HasShape ts h s

-- what stands at a clause of this shape, if it is the last
pub at_last : (look : Lookup) (ts : List Literal) (hints : List ClauseId) (k : ℕ) (i : ClauseId) (s : Shape) (o : Result (Unit {0}) ChainFault) → IsAt hints k i → k + 1 ≡ length hints → Seen look ts i s → MatchResult o (λ _. s ≡ AllFalse) (λ f. (s ≢ AllFalse) × (f ≡ fault_at k Loose)) → MatchResult o (λ _. ChainFrom look ts (drop k hints)) (FaultFrom look ts k (drop k hints))
at_last look ts hints k i s (Ok u) at e seen r =
    subst (ChainFrom look ts) (sym (one_left hints k i at e)) (seen.0, seen.1, subst (HasShape ts seen.0) r seen.2)
at_last look ts hints k i AllFalse (Err f) at e seen r = absurd (r.0 refl)
at_last look ts hints k i (OneOpen l) (Err f) at e seen r =
    let not_false : ¬ (IsFalseClause ts seen.0) = λ a. seen.2.open_yet (All-contains (IsFalse ts) seen.0 l a seen.2.among) in
    subst (λ t. FaultFrom look ts k t f) (sym (one_left hints k i at e)) (inr (seen.0, seen.1, not_false, r.1))
at_last look ts hints k i Many (Err f) at e seen r =
    let not_false : ¬ (IsFalseClause ts seen.0) = λ a. seen.2.first_open (All-contains (IsFalse ts) seen.0 seen.2.first a seen.2.has_first) in
    subst (λ t. FaultFrom look ts k t f) (sym (one_left hints k i at e)) (inr (seen.0, seen.1, not_false, r.1))

pub at_missing : (look : Lookup) (ts : List Literal) (hints : List ClauseId) (k : ℕ) (i : ClauseId) → IsAt hints k i → k < length hints → look i ≡ None → FaultFrom look ts k (drop k hints) (fault_at k Missing)
at_missing look ts hints k i at within none =
    ⊎_elim
    (λ lt. subst (λ t. FaultFrom look ts k t (fault_at k Missing)) (sym (two_left hints k i at lt)) (inl (none, refl)))
    (λ le. subst (λ t. FaultFrom look ts k t (fault_at k Missing)) (sym (one_left hints k i at (omega arith))) (inl (none, refl)))
    (cases_lt (k + 1) (length hints))

pub at_early : (look : Lookup) (ts : List Literal) (hints : List ClauseId) (k : ℕ) (i : ClauseId) → IsAt hints k i → k + 1 < length hints → Seen look ts i AllFalse → FaultFrom look ts k (drop k hints) (fault_at k Early)
at_early look ts hints k i at lt seen =
    subst (λ t. FaultFrom look ts k t (fault_at k Early)) (sym (two_left hints k i at lt)) (inr (inl (seen.0, seen.1, seen.2, refl)))

pub at_wide : (look : Lookup) (ts : List Literal) (hints : List ClauseId) (k : ℕ) (i : ClauseId) → IsAt hints k i → k + 1 < length hints → Seen look ts i Many → FaultFrom look ts k (drop k hints) (fault_at k Wide)
at_wide look ts hints k i at lt seen =
    subst (λ t. FaultFrom look ts k t (fault_at k Wide)) (sym (two_left hints k i at lt)) (inr (inr (inl (seen.0, seen.1, seen.2, refl))))

-- a hint that adds a literal: what the rest does, all do
pub chain_more : (look : Lookup) (ts : List Literal) (hints : List ClauseId) (k : ℕ) (i : ClauseId) (l : Literal) → IsAt hints k i → k + 1 < length hints → Seen look ts i (OneOpen l) → ChainFrom look (ts ++ l ∷ []) (drop (k + 1) hints) → ChainFrom look ts (drop k hints)
chain_more look ts hints k i l at lt seen rest =
    let rest' = subst (ChainFrom look (ts ++ l ∷ [])) (drop_more hints (k + 1) i lt) rest in
    subst (ChainFrom look ts) (sym (two_left hints k i at lt)) (seen.0, l, seen.1, seen.2, rest')

pub fault_more : (look : Lookup) (ts : List Literal) (hints : List ClauseId) (k : ℕ) (i : ClauseId) (l : Literal) → IsAt hints k i → k + 1 < length hints → Seen look ts i (OneOpen l) → (f : ChainFault) → FaultFrom look (ts ++ l ∷ []) (k + 1) (drop (k + 1) hints) f → FaultFrom look ts k (drop k hints) f
fault_more look ts hints k i l at lt seen f rest =
    let rest' = subst (λ t. FaultFrom look (ts ++ l ∷ []) (k + 1) t f) (drop_more hints (k + 1) i lt) rest in
    let rest'' = subst (λ n. FaultFrom look (ts ++ l ∷ []) n (get_or hints (k + 1) i ∷ drop (k + 1 + 1) hints) f) (add-one k) rest' in
    subst (λ t. FaultFrom look ts k t f) (sym (two_left hints k i at lt)) (inr (inr (inr (seen.0, l, seen.1, seen.2, rest''))))

pub match_more : {A E : Type 0} (o : Result A E) (P P' : A → Type 0) (Q Q' : E → Type 0) → ((x : A) → P x → P' x) → ((x : E) → Q x → Q' x) → MatchResult o P Q → MatchResult o P' Q'
match_more (Ok x) P P' Q Q' p q h = p x h
match_more (Err x) P P' Q Q' p q h = q x h

-- ---- all hints

pub read_whole : (look : Lookup) (clause : List Literal) (hints : List ClauseId) (r : Result (Unit {0}) ChainFault) → ¬ (HasPair clause) → MatchResult r (λ _. ChainFrom look (map negated clause) hints) (FaultFrom look (map negated clause) 0 hints) → MatchResult r (λ _. IsChain look clause hints) (FirstFault look clause hints)
read_whole look clause hints (Ok u) alone h = inr (alone, h)
read_whole look clause hints (Err f) alone h = inr (alone, h)

pub read_sound : (look : Lookup) (clause : List Literal) (hints : List ClauseId) (r : Result (Unit {0}) ChainFault) → MatchResult r (λ _. IsChain look clause hints) (FirstFault look clause hints) → OnOk r (Follows look clause hints)
read_sound look clause hints (Ok u) h = IsChain-follows look clause hints h
read_sound look clause hints (Err f) h = tt
