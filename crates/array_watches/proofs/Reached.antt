-- Exactly the terms that are reached are among those below a number, in rising order.
use Rattle.std.proofs.Common.{◌≡◌, ℕ, zero, suc, ◌<◌, ◌≤◌, Bool, true, false, List, [], ◌∷◌, ◌++◌, length, get_or, refl, sym, ◌∙◌, subst, ⊎_elim, arith}
use Rattle.std.specs.Prelude.{All, Contains, if◌then◌else◌}
use Rattle.std.proofs.lemmas.Bool.{cases_lt}
use Rattle.std.proofs.lemmas.List.Elements.{All-contains, Contains-append_cases, Contains-append_left, Contains-append_right, Contains-push, Contains-push_cases, Contains-get_or}
use Rattle.std.proofs.lemmas.List.Quantifiers.{all_pairs_push}
use Rattle.cnf_base.proofs.Lists.{Contains-nil}
use Rattle.smt_terms.specs.declared.node.Node.{Node}
use Rattle.smt_terms.specs.Terms.{IsTermList}
use Rattle.term_reach.specs.Reach.{arguments, IsReached}
use Rattle.term_reach.proofs.Ways.{root_reached, reached_closed, argument_earlier, arguments_below}
use Rattle.term_reach.proofs.Rising.{Rises}
use Rattle.array_watches.specs.Reaching.{is_among, reached_below, reached}
use Rattle.array_watches.proofs.Members.{among}

module _ (nodes : List Node) (list : IsTermList nodes) where
  abbrev next : ℕ → List ℕ
  next = arguments nodes

  from_arguments : (from : List ℕ) (u t : ℕ) → Contains from u → IsReached next (next u ++ from) t → IsReached next from t
  from_arguments from u t c r =
      ⊎_elim
      (λ (p : Contains (next u) r.0). (u, c, (r.0 ∷ r.2.0, (p, r.2.1))))
      (λ (p : Contains from r.0). (r.0, p, r.2))
      (Contains-append_cases (next u) from r.0 r.1)

  abbrev Found : ℕ → List ℕ → ℕ → Type 0
  Found n from t = Contains (reached_below nodes n from) t → (t < n) × IsReached next from t

  below_only : (n : ℕ) (from : List ℕ) (t : ℕ) → Found n from t
  unfolding reached_below
  below_only zero from t c = absurd (Contains-nil t c)
  below_only (suc n) from t c = go (is_among from n) refl (λ f. below_only n f t) c
    where
      go : (b : Bool) → is_among from n ≡ b → ((f : List ℕ) → Found n f t) → Contains (if b then reached_below nodes n (next n ++ from) ++ n ∷ [] else reached_below nodes n from) t → (t < suc n) × IsReached next from t
      go true e ih k = ⊎_elim
          (λ p. (let h = ih (next n ++ from) p in (omega (arith, h.0), from_arguments from n t ((among from n).0 e) h.1)))
          (λ (same : n ≡ t). (omega (arith, same), subst (IsReached next from) same (root_reached next from n ((among from n).0 e))))
          (Contains-push_cases (reached_below nodes n (next n ++ from)) n t k)
      go false e ih k = let h = ih from k in (omega (arith, h.0), h.1)

  -- with each of these numbers from a number on are its arguments
  abbrev IsClosedFrom : ℕ → List ℕ → Type 0
  IsClosedFrom n from = (r a : ℕ) → Contains from r → n ≤ r → Contains (next r) a → Contains from a

  held_from : (n : ℕ) (from : List ℕ) → IsClosedFrom n from → (u : ℕ) → IsReached next from u → n ≤ u → Contains from u
  held_from n from closed u r = reached_closed next (λ v. n ≤ v → Contains from v) from
      (λ a b is c le. (let lt = argument_earlier nodes list a b c in let up : n ≤ a = omega (arith, lt, le) in closed a b (is up) up c))
      (λ v c le. c) u r

  closed_more : (n : ℕ) (from : List ℕ) → IsClosedFrom (suc n) from → IsClosedFrom n (next n ++ from)
  closed_more n from closed r a c le k =
      ⊎_elim
      (λ (p : Contains (next n) r). (let lt = argument_earlier nodes list n r p in absurd (omega (arith, lt, le))))
      (λ (p : Contains from r). ⊎_elim
      (λ (lt : n < r). Contains-append_right (next n) from a (closed r a p (omega (arith, lt)) k))
      (λ (ge : r ≤ n). (let same : r ≡ n = omega (arith, le, ge) in Contains-append_left (next n) from a (subst (λ x. Contains (next x) a) same k)))
      (cases_lt n r))
      (Contains-append_cases (next n) from r c)

  closed_less : (n : ℕ) (from : List ℕ) → IsClosedFrom (suc n) from → (Contains from n → ⊥) → IsClosedFrom n from
  closed_less n from closed none r a c le k =
      ⊎_elim
      (λ (lt : n < r). closed r a c (omega (arith, lt)) k)
      (λ (ge : r ≤ n). (let same : r ≡ n = omega (arith, le, ge) in absurd (none (subst (Contains from) same c))))
      (cases_lt n r)

  abbrev Finds : ℕ → List ℕ → ℕ → Type 0
  Finds n from t = IsClosedFrom n from → t < n → IsReached next from t → Contains (reached_below nodes n from) t

  below_all : (n : ℕ) (from : List ℕ) (t : ℕ) → Finds n from t
  unfolding reached_below
  below_all zero from t closed lt r = absurd (omega (arith, lt))
  below_all (suc n) from t closed lt r = go (is_among from n) refl (λ f. below_all n f t)
    where
      go : (b : Bool) → is_among from n ≡ b → ((f : List ℕ) → Finds n f t) → Contains (if b then reached_below nodes n (next n ++ from) ++ n ∷ [] else reached_below nodes n from) t
      go true e ih = ⊎_elim
          (λ (less : t < n). Contains-append_left (reached_below nodes n (next n ++ from)) (n ∷ []) t
          (ih (next n ++ from) (closed_more n from closed) less (r.0, Contains-append_right (next n) from r.0 r.1, r.2)))
          (λ (le : n ≤ t). (let same : n ≡ t = omega (arith, lt, le) in
          subst (Contains (reached_below nodes n (next n ++ from) ++ n ∷ [])) same (Contains-push (reached_below nodes n (next n ++ from)) n)))
          (cases_lt t n)
      go false e ih =
          let none : Contains from n → ⊥ = λ c. (let p : true ≡ false = sym ((among from n).1 c) ∙ e in let q : ⊥ = cc in q) in
          let less = closed_less n from closed none in
          ⊎_elim
          (λ (lower : t < n). ih from less lower r)
          (λ (le : n ≤ t). (let same : t ≡ n = omega (arith, lt, le) in absurd (none (subst (Contains from) same (held_from n from less t r le)))))
          (cases_lt t n)

  below_rises : (n : ℕ) (from : List ℕ) → Rises (reached_below nodes n from)
  unfolding reached_below
  below_rises zero from = λ i j d lt within. absurd (omega (arith, within))
  below_rises (suc n) from = go (is_among from n) (λ f. below_rises n f)
    where
      go : (b : Bool) → ((f : List ℕ) → Rises (reached_below nodes n f)) → Rises (if b then reached_below nodes n (next n ++ from) ++ n ∷ [] else reached_below nodes n from)
      go true ih =
          let front = reached_below nodes n (next n ++ from) in
          all_pairs_push (λ x y. x < y) front n (ih (next n ++ from)) (λ k d lt. (below_only n (next n ++ from) (get_or front k d) (Contains-get_or front k d lt)).0)
      go false ih = ih from

  module _ (roots : List ℕ) where
    pub reached_only : (t : ℕ) → Contains (reached nodes roots) t → IsReached next roots t
    reached_only t c = (below_only (length nodes) roots t c).1

    pub reached_held : (t : ℕ) → Contains (reached nodes roots) t → t < length nodes
    reached_held t c = (below_only (length nodes) roots t c).0

    pub reached_rises : Rises (reached nodes roots)
    reached_rises = below_rises (length nodes) roots

    module _ (held : All (λ t. t < length nodes) roots) where
      pub all_held : (t : ℕ) → IsReached next roots t → t < length nodes
      all_held t r = reached_closed next (λ u. u < length nodes) roots
          (λ a b is c. arguments_below nodes list a b c)
          (λ u c. All-contains (λ a. a < length nodes) roots u held c) t r

      pub reached_all : (t : ℕ) → IsReached next roots t → Contains (reached nodes roots) t
      reached_all t r = below_all (length nodes) roots t
          (λ u a c le k. (let lt = All-contains (λ x. x < length nodes) roots u held c in absurd (omega (arith, lt, le))))
          (all_held t r) r
