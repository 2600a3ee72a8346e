-- The literals of a clause, each once, one literal after the other, and what is the same for them.
use Rattle.std.proofs.Common.{◌≡◌, ℕ, ◌+◌, ◌<◌, Bool, true, false, List, [], ◌∷◌, ◌++◌, length, get_or, sym, ap, ◌∙◌, subst, ⊎_elim, arith}
use Rattle.std.specs.Prelude.{◌⊎◌, ◌≢◌, ◌↔◌, Contains, MatchBool}
use Rattle.std.proofs.Math.Seq.{get_or-append_seam}
use Rattle.std.proofs.lemmas.Bool.{cases_lt}
use Rattle.std.proofs.lemmas.List.{get_or_default, get_or_append_left, length_push}
use Rattle.std.proofs.lemmas.List.Elements.{Contains-append_left, Contains-push, Contains-push_cases}
use Rattle.cnf_base.specs.Literals.{Literal, negated}
use Rattle.hint_chain.specs.Chains.{Lookup, HasPair}
use Rattle.diary_checker.specs.Tables.{Stamps, number_of, IsSetOf, AreDifferent, AreEach}
use Rattle.diary_checker.specs.Uses.{IsApart}
use Rattle.diary_checker.proofs.Sets.{set_none, set_more}

-- ---- one literal more

different_more : (ls : List Literal) (l : Literal) → ¬ (Contains ls l) → AreDifferent ls → AreDifferent (ls ++ l ∷ [])
different_more ls l out different i j d lt within e =
    let size = length_push ls l in
    ⊎_elim
    (λ early. different i j d lt early (sym (get_or_append_left ls (l ∷ []) d i (omega arith)) ∙ (e ∙ get_or_append_left ls (l ∷ []) d j early)))
    (λ late.
    let end : j ≡ length ls = omega arith in
    let before : i < length ls = omega arith in
    let last : get_or (ls ++ l ∷ []) j d ≡ l = ap (λ k. get_or (ls ++ l ∷ []) k d) end ∙ get_or-append_seam ls l [] d in
    let here : get_or ls i d ≡ l = sym (get_or_append_left ls (l ∷ []) d i before) ∙ (e ∙ last) in
    out (i, before, get_or_default ls i l d before ∙ here))
    (cases_lt j (length ls))

push_both : (xs ys : List Literal) (l k : Literal) → (Contains xs k → Contains ys k) → Contains (xs ++ l ∷ []) k → Contains (ys ++ l ∷ []) k
push_both xs ys l k f c =
    ⊎_elim (λ old. Contains-append_left ys (l ∷ []) k (f old)) (λ e. subst (Contains (ys ++ l ∷ [])) e (Contains-push ys l)) (Contains-push_cases xs l k c)

pub each_none : (t : Stamps) (each : List Literal) → ((l : Literal) → number_of t l ≡ 0) → each ≡ [] → AreEach t each []
each_none t each h e = subst (λ ls. AreEach t ls []) (sym e) (record {
  table = set_none t [] h;
  same = λ l. ((λ c. c), (λ c. c));
  once = λ i j d lt within. absurd (omega (arith, within));
})

pub each_new : (t t' : Stamps) (each clause : List Literal) (l : Literal) → number_of t l ≡ 0 → number_of t' l ≡ 1 → ((k : Literal) → k ≢ l → number_of t' k ≡ number_of t k) → AreEach t each clause → AreEach t' (each ++ l ∷ []) (clause ++ l ∷ [])
each_new t t' each clause l zero here others h = record {
  table = set_more t t' each l h.table here others;
  same = λ k. (push_both each clause l k (h.same k).0, push_both clause each l k (h.same k).1);
  once = different_more each l (λ c. let lt = (h.table l).1 c in absurd (omega arith)) h.once;
}

pub each_old : (t : Stamps) (each clause : List Literal) (l : Literal) → 0 < number_of t l → AreEach t each clause → AreEach t each (clause ++ l ∷ [])
each_old t each clause l lt h = record {
  table = h.table;
  same = λ k. (
    (λ c. Contains-append_left clause (l ∷ []) k ((h.same k).0 c)),
    (λ c. ⊎_elim (h.same k).1 (λ e. subst (Contains each) e ((h.table l).0 lt)) (Contains-push_cases clause l k c)),
  );
  once = h.once;
}

-- ---- the same literals

apart_same : (look : Lookup) (held : ℕ → Bool) (given each clause : List Literal) → ((l : Literal) → Contains each l ↔ Contains clause l) → IsApart look held given each → IsApart look held given clause
apart_same look held given each clause same a = record {
  no_pair = λ p. a.no_pair (p.0, (same p.0).1 p.1, (same (negated p.0)).1 p.2);
  is_new = λ id c is_held is within. a.is_new id c is_held is (λ l cl. (same l).1 (within l cl));
  not_given = λ l cl. a.not_given l ((same l).1 cl);
}

pub apart_by_each : (look : Lookup) (held : ℕ → Bool) (given each clause : List Literal) (b : Bool) → ((l : Literal) → Contains each l ↔ Contains clause l) →
    MatchBool b (IsApart look held given each) (¬ (IsApart look held given each)) →
    MatchBool b (IsApart look held given clause) (¬ (IsApart look held given clause))
apart_by_each look held given each clause true same a = apart_same look held given each clause same a
apart_by_each look held given each clause false same not_apart = λ a. not_apart (apart_same look held given clause each (λ l. ((same l).1, (same l).0)) a)
