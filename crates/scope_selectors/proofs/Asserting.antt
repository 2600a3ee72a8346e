-- The terms of assertions, once one more was made.
use Rattle.std.proofs.Common.{◌≡◌, ℕ, ◌+◌, ◌-◌, ◌≤◌, ◌<◌, arith, ap, ◌∙◌, List, [], ◌∷◌, ◌++◌, length, refl, Option, Some}
use Rattle.std.specs.Prelude.{slice_get, All}
use Rattle.std.proofs.lemmas.List.{length_push}
use Rattle.std.proofs.lemmas.List.Elements.{All-weaker, All-append, All-cons, All-nil}
use Rattle.std.proofs.lemmas.List.Quantifiers.{all_pairs_push}
use Rattle.std.proofs.lemmas.List.Sorted.{IsNonDecreasingBy-push}
use Rattle.cnf_base.proofs.Lists.{slice_get-push, slice_get-longer}
use Rattle.scope_selectors.specs.declared.live.Live.{Live}
use Rattle.scope_selectors.specs.Scopes.{ScopesValue, AreScopes, asserted}

-- each live assertion has its term, also the one that was made last
pub known_more : (live : List Live) (terms : List ℕ) (made : ℕ) (a : Live) → length terms ≡ made → a.assertion ≡ made → All (λ (b : Live). slice_get terms b.assertion ≡ Some b.term) live → All (λ (b : Live). slice_get (terms ++ a.term ∷ []) b.assertion ≡ Some b.term) (live ++ a ∷ [])
known_more live terms made a count number known = All-append (λ (b : Live). slice_get (terms ++ a.term ∷ []) b.assertion ≡ Some b.term) live (a ∷ [])
    (All-weaker (λ (b : Live). slice_get terms b.assertion ≡ Some b.term) (λ (b : Live). slice_get (terms ++ a.term ∷ []) b.assertion ≡ Some b.term) (λ b h. slice_get-longer terms (a.term ∷ []) b.assertion b.term h) live known)
    (All-cons (λ (b : Live). slice_get (terms ++ a.term ∷ []) b.assertion ≡ Some b.term) a [] (rw (number, ← count) (slice_get-push terms a.term)) (All-nil _))

-- one assertion more
pub one_more : (v : ScopesValue) (term : ℕ) (name : Option (List ℕ)) → AreScopes v → AreScopes (asserted v term name)
one_more v term name are =
    let a : Live = record { assertion = v.made; term = term; name = name; level = v.levels } in
    record {
      numbered = all_pairs_push (λ (a b : Live). a.assertion < b.assertion) v.live a are.numbered (λ k d lt. are.made k d lt);
      made = All-append (λ (b : Live). b.assertion < v.made + 1) v.live (a ∷ []) (All-weaker (λ (b : Live). b.assertion < v.made) (λ (b : Live). b.assertion < v.made + 1) (λ b h. omega (arith, h)) v.live are.made) (All-cons (λ (b : Live). b.assertion < v.made + 1) a [] (omega arith) (All-nil (λ (b : Live). b.assertion < v.made + 1)));
      counted = length_push v.terms term ∙ ap (λ n. n + 1) are.counted;
      known = known_more v.live v.terms v.made a are.counted refl are.known;
      leveled = IsNonDecreasingBy-push (λ (b : Live). b.level) v.live a are.leveled (λ d lt. are.standing (length v.live - 1) d (omega (arith, lt)));
      standing = All-append (λ (b : Live). b.level ≤ v.levels) v.live (a ∷ []) are.standing (All-cons (λ (b : Live). b.level ≤ v.levels) a [] (omega arith) (All-nil (λ (b : Live). b.level ≤ v.levels)));
      within = are.within;
    }
