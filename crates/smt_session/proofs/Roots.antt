-- The terms of live assertions, and of assumptions.
use Rattle.std.proofs.Common.{◌≡◌, ℕ, ◌<◌, true, length, map, ap}
use Rattle.std.specs.Prelude.{All}
use Rattle.std.proofs.lemmas.List.Elements.{All-from_recursion, recursion_from_All}
use Rattle.smt_terms.specs.declared.sort.Sort.TheVariants as sort
use Rattle.smt_terms.specs.Ranks as ranks
use Rattle.smt_terms.specs.Terms.{sort_of}
use Rattle.scope_selectors.specs.declared.live.Live.{Live}
use Rattle.script_state.specs.declared.answer.Asked.{Asked}
use Rattle.script_state.specs.States.{StateValue, IsState, assumptions, roots}
use Rattle.cnf_base.proofs.Lists.{each_append, each_front, each_behind, each_map, each_mapped}

abbrev term_of : Live → ℕ
term_of a = a.term

abbrev term_asked : Asked → ℕ
term_asked a = a.term

roots_all : (P : ℕ → Type 0) (s : StateValue) → All (λ (a : Live). P a.term) s.scopes.live → All (λ (a : Asked). P a.term) (assumptions s) → All P (roots s)
roots_all P s live asked =
    All-from_recursion P (roots s)
    (each_append P (map term_of s.scopes.live) (map term_asked (assumptions s))
    (each_map term_of P s.scopes.live (recursion_from_All (λ (a : Live). P a.term) s.scopes.live live))
    (each_map term_asked P (assumptions s) (recursion_from_All (λ (a : Asked). P a.term) (assumptions s) asked)))

-- what holds of all holds of each kind
pub roots_live : (P : ℕ → Type 0) (s : StateValue) → All P (roots s) → All (λ (a : Live). P a.term) s.scopes.live
roots_live P s h = All-from_recursion (λ (a : Live). P a.term) s.scopes.live (each_mapped term_of P s.scopes.live (each_front P (map term_of s.scopes.live) (map term_asked (assumptions s)) (recursion_from_All P (roots s) h)))

pub roots_assumed : (P : ℕ → Type 0) (s : StateValue) → All P (roots s) → All (λ (a : Asked). P a.term) (assumptions s)
roots_assumed P s h = All-from_recursion (λ (a : Asked). P a.term) (assumptions s) (each_mapped term_asked P (assumptions s) (each_behind P (map term_of s.scopes.live) (map term_asked (assumptions s)) (recursion_from_All P (roots s) h)))

-- they are held
pub roots_held : (s : StateValue) → IsState s → All (λ t. t < length s.terms.nodes) (roots s)
roots_held s is = roots_all (λ t. t < length s.terms.nodes) s is.held (λ k a lt. (is.assumed k a lt).held)

-- they are Bools
pub roots_true : (s : StateValue) → IsState s → All (λ t. sort_of s.terms.nodes t ≡ sort.Bool) (roots s)
roots_true s is = roots_all (λ t. sort_of s.terms.nodes t ≡ sort.Bool) s is.truths (λ k a lt. (is.assumed k a lt).truth)

pub roots_sorted : (s : StateValue) → IsState s → All (λ t. ranks.is_plain (sort_of s.terms.nodes t) ≡ true) (roots s)
roots_sorted s is =
    roots_all (λ t. ranks.is_plain (sort_of s.terms.nodes t) ≡ true) s (λ k a lt. ap ranks.is_plain (is.truths k a lt))
    (λ k a lt. ap ranks.is_plain (is.assumed k a lt).truth)
