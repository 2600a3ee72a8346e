-- Where the literals of hints stand, and whether each hint is used.
use Rattle.std.proofs.Common.{◌≡◌, ℕ, zero, suc, ◌+◌, ◌<◌, ◌≤◌, List, [], ◌∷◌, ◌++◌, length, take, drop, get_or, Option, Some, None, refl, sym, ap, ◌∙◌, subst, inl, inr, ⊎_elim, arith}
use Rattle.std.specs.Prelude.{◌⊎◌, ◌≢◌, ◌↔◌, Contains, Result, Ok, Err, OnOk, MatchOption}
use Rattle.std.proofs.lemmas.Bool.{cases_lt}
use Rattle.std.proofs.lemmas.List.{drop_more, drop_all, get_or_default}
use Rattle.std.proofs.lemmas.List.Elements.{Contains-append_left, Contains-push, Contains-get_or}
use Rattle.cnf_base.specs.Literals.{Literal, negated}
use Rattle.cnf_base.specs.Clauses.{no_id}
use Rattle.cnf_base.specs.declared.clause.ClauseId.{ClauseId}
use Rattle.cnf_base.proofs.Rows.{take_at}
use Rattle.hint_chain.specs.Chains.{IsFalse, IsUnit, Lookup}
use Rattle.proof_log.specs.Diaries.{StandsIn, EachIsUsed}
use Rattle.diary_checker.specs.Tables.{Stamps, number_of, IsSetOf}
use Rattle.diary_checker.specs.Uses.{AreLasts, HasIn, IsGiven, StandsFrom}
use Rattle.diary_checker.proofs.Sets.{in_more}
use Rattle.cnf_base.proofs.Codes.{same_literal_or_not}
use Rattle.cnf_base.proofs.Options.{same_found}
use Rattle.hint_chain.proofs.Exact.{only_open}

pub on_ok : {E : Type 0} (r : Result (Unit {0}) E) (P Q : Type 0) → (P → Q) → OnOk r P → OnOk r Q
on_ok (Ok u) P Q f h = f h
on_ok (Err e) P Q f h = tt

-- ---- numbers of a clause's literals

pub given_none : (t : Stamps) (xs : List Literal) (n : ℕ) (k : Literal) → IsGiven (Contains (take 0 xs) k) n t t k
given_none t xs n k = inr ((λ c. absurd (omega (arith, c.1))), refl)

pub given_step : (t t1 t2 : Stamps) (xs : List Literal) (i : ℕ) (x : Literal) (n : ℕ) → i < length xs → x ≡ get_or xs i x → ((k : Literal) → IsGiven (Contains (take i xs) k) n t t1 k) → number_of t2 x ≡ n → ((k : Literal) → k ≢ x → number_of t2 k ≡ number_of t1 k) → (k : Literal) → IsGiven (Contains (take (i + 1) xs) k) n t t2 k
given_step t t1 t2 xs i x n lt e h here others k =
    ⊎_elim
    (λ same. inl (subst (λ zs. Contains zs k) (sym (take_at xs i x lt e)) (subst (Contains (take i xs ++ x ∷ [])) (sym same) (Contains-push (take i xs) x)), ap (number_of t2) same ∙ here))
    (λ ne.
    ⊎_elim
    (λ p. inl (subst (λ zs. Contains zs k) (sym (take_at xs i x lt e)) (Contains-append_left (take i xs) (x ∷ []) k p.0), others k ne ∙ p.1))
    (λ p. inr ((λ c. ⊎_elim p.0 (λ q. ne (sym q)) (in_more xs i x k lt e c)), others k ne ∙ p.1))
    (h k))
    (same_literal_or_not k x)

pub given_hint : (look : Lookup) (id : ClauseId) (h : List Literal) (n : ℕ) (old new : Stamps) (l : Literal) → look id ≡ Some h → IsGiven (Contains h l) n old new l → IsGiven (HasIn look id l) n old new l
given_hint look id h n old new l e g =
    ⊎_elim
    (λ p. inl ((h, e, p.0), p.1))
    (λ p. inr ((λ q. p.0 (subst (λ hs. Contains hs l) (same_found (look id) q.0 h q.1 e) q.2)), p.1))
    g

-- ---- the last hint with a literal

pub lasts_none : (look : Lookup) (hints : List ClauseId) (t : Stamps) → ((l : Literal) → number_of t l ≡ 0) → (x : Literal) (j : ℕ) → (j < number_of t x) ↔ StandsFrom look hints j 0 x
lasts_none look hints t h x j = ((λ lt. let e = h x in absurd (omega arith)), (λ s. absurd (omega (arith, s.2))))

lasts_to : (look : Lookup) (hints : List ClauseId) (k n o : ℕ) (x : Literal) (j : ℕ) → (j < o → StandsFrom look hints j k x) → (HasIn look (get_or hints k no_id) x × (n ≡ k + 1)) ⊎ ((¬ (HasIn look (get_or hints k no_id) x)) × (n ≡ o)) → j < n → StandsFrom look hints j (k + 1) x
lasts_to look hints k n o x j old g lt =
    ⊎_elim
    (λ p. (k, (let e = p.1 in omega arith), omega arith, p.0))
    (λ p. let s = old (let e = p.1 in omega arith) in (s.0, s.1, omega (arith, s.2), s.3))
    g

lasts_from : (look : Lookup) (hints : List ClauseId) (k n o : ℕ) (x : Literal) (j : ℕ) → (StandsFrom look hints j k x → j < o) → (HasIn look (get_or hints k no_id) x × (n ≡ k + 1)) ⊎ ((¬ (HasIn look (get_or hints k no_id) x)) × (n ≡ o)) → StandsFrom look hints j (k + 1) x → j < n
lasts_from look hints k n o x j old g s =
    ⊎_elim
    (λ p. let e = p.1 in omega (arith, s.1, s.2))
    (λ p. let e = p.1 in
    ⊎_elim
    (λ lt. let f = old (s.0, s.1, lt, s.3) in omega arith)
    (λ le. let same : s.0 ≡ k = omega (arith, s.2) in absurd (p.0 (subst (λ i. HasIn look (get_or hints i no_id) x) same s.3)))
    (cases_lt s.0 k))
    g

pub lasts_step : (look : Lookup) (hints : List ClauseId) (k : ℕ) (t t' : Stamps) → ((x : Literal) (j : ℕ) → (j < number_of t x) ↔ StandsFrom look hints j k x) → ((x : Literal) → IsGiven (HasIn look (get_or hints k no_id) x) (k + 1) t t' x) → (x : Literal) (j : ℕ) → (j < number_of t' x) ↔ StandsFrom look hints j (k + 1) x
lasts_step look hints k t t' h g x j = (
  lasts_to look hints k (number_of t' x) (number_of t x) x j (h x j).0 (g x),
  lasts_from look hints k (number_of t' x) (number_of t x) x j (h x j).1 (g x),
)

contains_drop : {A : Type 0} (xs : List A) (j i : ℕ) (d : A) → j ≤ i → i < length xs → Contains (drop j xs) (get_or xs i d)
contains_drop [] j i d le lt = absurd (omega arith)
contains_drop (x ∷ xs) zero i d le lt = Contains-get_or (x ∷ xs) i d lt
contains_drop (x ∷ xs) (suc j) zero d le lt = absurd (omega arith)
contains_drop (x ∷ xs) (suc j) (suc i) d le lt = contains_drop xs j i d (omega arith) (omega arith)

drop_contains : {A : Type 0} (xs : List A) (j : ℕ) (y d : A) → Contains (drop j xs) y → (i : ℕ) × (j ≤ i) × (i < length xs) × (get_or xs i d ≡ y)
drop_contains [] zero y d c = absurd (omega (arith, c.1))
drop_contains [] (suc j) y d c = absurd (omega (arith, c.1))
drop_contains (x ∷ xs) zero y d c = (c.0, omega arith, c.1, get_or_default (x ∷ xs) c.0 d y c.1 ∙ c.2)
drop_contains (x ∷ xs) (suc j) y d c = let r = drop_contains xs j y d c in (suc r.0, omega (arith, r.1), omega (arith, r.2), r.3)

pub from_in : (look : Lookup) (hints : List ClauseId) (j : ℕ) (l : Literal) → StandsFrom look hints j (length hints) l ↔ StandsIn look (drop j hints) l
from_in look hints j l = (
  (λ s. (get_or hints s.0 no_id, s.3.0, contains_drop hints j s.0 no_id s.1 s.2, s.3.1, s.3.2)),
  (λ s.
      let r = drop_contains hints j s.0 no_id s.2 in
      (r.0, r.1, r.2, subst (λ id. HasIn look id l) (sym r.3) (s.1, s.3, s.4))),
)

-- all hints were gone over
pub lasts_all : (look : Lookup) (hints : List ClauseId) (k : ℕ) (t : Stamps) → length hints ≤ k → k ≤ length hints → ((x : Literal) (j : ℕ) → (j < number_of t x) ↔ StandsFrom look hints j k x) → AreLasts look t hints
lasts_all look hints k t le ge h l j =
    let same : k ≡ length hints = omega arith in
    let all = subst (λ n. (j < number_of t l) ↔ StandsFrom look hints j n l) same (h l j) in
    ((λ lt. (from_in look hints j l).0 (all.0 lt)), (λ s. all.1 ((from_in look hints j l).1 s)))

-- ---- the literal that is open

pub none_open : (t : Stamps) (known clause : List Literal) → IsSetOf t known → ((k : Literal) → Contains clause k → 0 < number_of t (negated k)) → (l : Literal) → ¬ (IsUnit known clause l)
none_open t known clause set h l u = u.open_yet ((set (negated l)).0 (h l u.among))

open_of : (t : Stamps) (known : List Literal) (l : Literal) → IsSetOf t known → number_of t (negated l) ≡ 0 → ¬ (IsFalse known l)
open_of t known l set e f = let lt = (set (negated l)).1 f in absurd (omega arith)

pub two_open : (t : Stamps) (known clause : List Literal) (k l : Literal) → IsSetOf t known → Contains clause l → number_of t (negated l) ≡ 0 → Contains clause k → k ≢ l → number_of t (negated k) ≡ 0 → (m : Literal) → ¬ (IsUnit known clause m)
two_open t known clause k l set in_l open_l in_k ne open_k m u =
    ne (only_open known clause m k u in_k (open_of t known k set open_k) ∙ sym (only_open known clause m l u in_l (open_of t known l set open_l)))

pub one_open : (t : Stamps) (known clause : List Literal) (l : Literal) → IsSetOf t known → Contains clause l → number_of t (negated l) ≡ 0 → ((k : Literal) → Contains clause k → (k ≡ l) ⊎ (0 < number_of t (negated k))) → IsUnit known clause l
one_open t known clause l set among e others = record {
  among = among;
  open_yet = open_of t known l set e;
  others = λ i d lt. ⊎_elim (λ same. inl same) (λ pos. inr ((set (negated (get_or clause i d))).0 pos)) (others (get_or clause i d) (Contains-get_or clause i d lt));
}

pub unit_at : (look : Lookup) (id : ClauseId) (h known : List Literal) (o : Option Literal) → look id ≡ Some h → MatchOption o ((l : Literal) → ¬ (IsUnit known h l)) (IsUnit known h) → MatchOption o ((h' : List Literal) (l : Literal) → look id ≡ Some h' → ¬ (IsUnit known h' l)) (λ l. (h' : List Literal) × (look id ≡ Some h') × IsUnit known h' l)
unit_at look id h known None e m = λ h' l e' u. m l (subst (λ hs. IsUnit known hs l) (same_found (look id) h' h e' e) u)
unit_at look id h known (Some l) e m = (h, e, m)

-- ---- each hint is used

two_left : (hints : List ClauseId) (k : ℕ) → k + 1 < length hints → drop k hints ≡ get_or hints k no_id ∷ get_or hints (k + 1) no_id ∷ drop (k + 1 + 1) hints
two_left hints k h = drop_more hints k no_id (omega arith) ∙ ap (λ t. get_or hints k no_id ∷ t) (drop_more hints (k + 1) no_id h)

pub used_last : (look : Lookup) (ts : List Literal) (hints : List ClauseId) (k : ℕ) → k + 1 ≡ length hints → EachIsUsed look ts (drop k hints)
used_last look ts hints k e =
    let left : drop k hints ≡ get_or hints k no_id ∷ [] = drop_more hints k no_id (omega arith) ∙ ap (λ t. get_or hints k no_id ∷ t) (drop_all (k + 1) hints (omega arith)) in
    subst (EachIsUsed look ts) (sym left) tt

pub used_none : (look : Lookup) (ts : List Literal) (hints : List ClauseId) (k : ℕ) → k + 1 < length hints → ((h : List Literal) (l : Literal) → look (get_or hints k no_id) ≡ Some h → ¬ (IsUnit ts h l)) → ¬ (EachIsUsed look ts (drop k hints))
used_none look ts hints k lt none u =
    let v = subst (EachIsUsed look ts) (two_left hints k lt) u in
    none v.0 v.1 v.2 v.3

-- the literal that the hint adds
abbrev pub Adds : Lookup → List Literal → ClauseId → Literal → Type 0
Adds look ts id l = (h : List Literal) × (look id ≡ Some h) × IsUnit ts h l

same_unit : (look : Lookup) (ts : List Literal) (id : ClauseId) (l m : Literal) (h : List Literal) → Adds look ts id l → look id ≡ Some h → IsUnit ts h m → m ≡ l
same_unit look ts id l m h a e u =
    let v = subst (λ hs. IsUnit ts hs m) (same_found (look id) h a.0 e a.1) u in
    only_open ts a.0 l m a.2 v.among v.open_yet

pub used_unused : (look : Lookup) (ts : List Literal) (hints : List ClauseId) (k : ℕ) (l : Literal) → k + 1 < length hints → Adds look ts (get_or hints k no_id) l → ¬ (StandsIn look (drop (k + 1) hints) (negated l)) → ¬ (EachIsUsed look ts (drop k hints))
used_unused look ts hints k l lt a without u =
    let v = subst (EachIsUsed look ts) (two_left hints k lt) u in
    let same = same_unit look ts (get_or hints k no_id) l v.1 v.0 a v.2 v.3 in
    without (subst (λ m. StandsIn look (drop (k + 1) hints) (negated m)) same (subst (λ ids. StandsIn look ids (negated v.1)) (sym (drop_more hints (k + 1) no_id lt)) v.4))

pub used_more : (look : Lookup) (ts : List Literal) (hints : List ClauseId) (k : ℕ) (l : Literal) → k + 1 < length hints → Adds look ts (get_or hints k no_id) l → StandsIn look (drop (k + 1) hints) (negated l) → EachIsUsed look (ts ++ l ∷ []) (drop (k + 1) hints) → EachIsUsed look ts (drop k hints)
used_more look ts hints k l lt a stands rest =
    let more = drop_more hints (k + 1) no_id lt in
    let stands' = subst (λ ids. StandsIn look ids (negated l)) more stands in
    let rest' = subst (EachIsUsed look (ts ++ l ∷ [])) more rest in
    subst (EachIsUsed look ts) (sym (two_left hints k lt)) (a.0, l, a.1, a.2, stands', rest')

pub used_rest : (look : Lookup) (ts : List Literal) (hints : List ClauseId) (k : ℕ) (l : Literal) → k + 1 < length hints → Adds look ts (get_or hints k no_id) l → EachIsUsed look ts (drop k hints) → EachIsUsed look (ts ++ l ∷ []) (drop (k + 1) hints)
used_rest look ts hints k l lt a u =
    let v = subst (EachIsUsed look ts) (two_left hints k lt) u in
    let same = same_unit look ts (get_or hints k no_id) l v.1 v.0 a v.2 v.3 in
    let rest = subst (λ m. EachIsUsed look (ts ++ m ∷ []) (get_or hints (k + 1) no_id ∷ drop (k + 1 + 1) hints)) same v.5 in
    subst (EachIsUsed look (ts ++ l ∷ [])) (sym (drop_more hints (k + 1) no_id lt)) rest
