-- A line is good exactly where the first of its hints are a chain.
use Rattle.std.proofs.Common.{◌≡◌, ℕ, zero, suc, ◌<◌, length, get_or, arith, Bool, true, false, cond, List, [], ◌∷◌, ◌++◌, Option, Some, None, refl, sym, ap, ◌∙◌, subst, inl, inr, ⊎_elim, append_assoc, append-nil, eqb}
use Rattle.std.specs.Prelude.{◌⊎◌, ◌↔◌, Contains, map}
use Rattle.std.proofs.lemmas.Bool.{or_cases, eqb-true, eq-eqb}
use Rattle.std.proofs.Math.Bool.{or-true}
use Rattle.std.proofs.lemmas.List.{map-append}
use Rattle.std.proofs.lemmas.List.Elements.{All-nil, All-push, All-weaker, All-contains, Contains-append_left, Contains-append_right, Contains-push}
use Rattle.cnf_base.specs.Literals.{Literal, negated, code_of}
use Rattle.cnf_base.proofs.Codes.{code_of-injective}
use Rattle.hint_chain.specs.Chains.{IsFalse, IsFalseClause, IsUnit, IsWide, HasPair, ChainFrom, IsChain}
use Rattle.hint_chain.proofs.Marking.{opposite_in, in_opposite, pair_more}
use Rattle.dimacs_front.specs.declared.number.Number.{Number}
use Rattle.dimacs_front.specs.declared.shape.Shape.{Shape}
use Rattle.dimacs_front.specs.declared.shape.Shape.TheVariants.{AllFalse, OneOpen, Many}
use Rattle.dimacs_front.specs.Lrat.{TableValue, among, joined, shape_from, opposites, by_shape, by_hint, leads, leads_from, is_good, held}
use Rattle.dimacs_front.specs.Chains.{name_of, look_in, BeginsWithChain}

-- ---- the literals of a list

in_none : (l : Literal) → Contains [] l → ⊥
in_none l c = absurd (let h = c.1 in omega arith)

in_rest : (k l : Literal) (ls : List Literal) → Contains ls l → Contains (k ∷ ls) l
in_rest k l ls c = (suc c.0, (let h = c.1 in omega arith), c.2)

in_front : (k : Literal) (ls : List Literal) → Contains (k ∷ ls) k
in_front k ls = (0, omega arith, refl)

contains_among : (ls : List Literal) (l : Literal) → among ls l ≡ true → Contains ls l
contains_among [] l e = let q : ⊥ = cc in absurd q
contains_among (k ∷ ls) l e =
    ⊎_elim
    (λ q. subst (Contains (k ∷ ls)) (code_of-injective k l (eqb-true _ _ q)) (in_front k ls))
    (λ q. in_rest k l ls (contains_among ls l q))
    (or_cases (eqb (code_of k) (code_of l)) (among ls l) e)

among_at : (ls : List Literal) (i : ℕ) (l : Literal) → i < length ls → get_or ls i l ≡ l → among ls l ≡ true
among_at [] i l h e = absurd (omega arith)
among_at (k ∷ ls) zero l h e = let q : eqb (code_of k) (code_of l) ≡ true = eq-eqb _ _ (ap code_of e) in rw q refl
among_at (k ∷ ls) (suc i) l h e = rw (among_at ls i l (omega arith) e) (or-true (eqb (code_of k) (code_of l)))

among_contains : (ls : List Literal) (l : Literal) → Contains ls l → among ls l ≡ true
among_contains ls l c = among_at ls c.0 l c.1 c.2

not_among : (ls : List Literal) (l : Literal) → among ls l ≡ false → ¬ (Contains ls l)
not_among ls l e c = let t = among_contains ls l c in let q : ⊥ = cc in q

-- ---- shapes

-- how a clause of this shape stands
abbrev Stands : List Literal → List Literal → Shape → Type 0
Stands ts c AllFalse = IsFalseClause ts c
Stands ts c (OneOpen l) = IsUnit ts c l
Stands ts c Many = IsWide ts c

false_unit : (ts h : List Literal) (l : Literal) → IsFalseClause ts h → IsUnit ts h l → ⊥
false_unit ts h l f u = u.open_yet (All-contains (IsFalse ts) h l f u.among)

false_wide : (ts h : List Literal) → IsFalseClause ts h → IsWide ts h → ⊥
false_wide ts h f w = w.first_open (All-contains (IsFalse ts) h w.first f w.has_first)

only_open : (ts h : List Literal) (l m : Literal) → IsUnit ts h l → Contains h m → ¬ (IsFalse ts m) → m ≡ l
only_open ts h l m u among open_yet =
    ⊎_elim (λ e. e) (λ f. absurd (open_yet f)) (All-contains (λ k. (k ≡ l) ⊎ IsFalse ts k) h m u.others among)

unit_wide : (ts h : List Literal) (l : Literal) → IsUnit ts h l → IsWide ts h → ⊥
unit_wide ts h l u w =
    w.differ (only_open ts h l w.first u w.has_first w.first_open ∙ sym (only_open ts h l w.second u w.has_second w.second_open))

wider : (ts xs : List Literal) (l : Literal) → IsWide ts xs → IsWide ts (xs ++ l ∷ [])
wider ts xs l h = record {
  first = h.first;
  second = h.second;
  has_first = Contains-append_left xs (l ∷ []) h.first h.has_first;
  has_second = Contains-append_left xs (l ∷ []) h.second h.has_second;
  differ = h.differ;
  first_open = h.first_open;
  second_open = h.second_open;
}

stands_false : (ts xs : List Literal) (l : Literal) (s : Shape) → Stands ts xs s → IsFalse ts l → Stands ts (xs ++ l ∷ []) s
stands_false ts xs l AllFalse h f = All-push (IsFalse ts) xs l h f
stands_false ts xs l (OneOpen m) h f = record {
  among = Contains-append_left xs (l ∷ []) m h.among;
  open_yet = h.open_yet;
  others = All-push (λ k. (k ≡ m) ⊎ IsFalse ts k) xs l h.others (inr f);
}
stands_false ts xs l Many h f = wider ts xs l h

stands_open : (ts xs : List Literal) (l : Literal) (s : Shape) → Stands ts xs s → ¬ (IsFalse ts l) → Stands ts (xs ++ l ∷ []) (joined s l)
stands_open ts xs l AllFalse h f = record {
  among = Contains-push xs l;
  open_yet = f;
  others = All-push (λ k. (k ≡ l) ⊎ IsFalse ts k) xs l (All-weaker (IsFalse ts) (λ k. (k ≡ l) ⊎ IsFalse ts k) (λ k p. inr p) xs h) (inl refl);
}
stands_open ts xs l (OneOpen m) h f = chosen (eqb (code_of m) (code_of l)) refl
  where
    chosen : (q : Bool) → eqb (code_of m) (code_of l) ≡ q → Stands ts (xs ++ l ∷ []) (cond q (OneOpen m) Many)
    chosen true e = record {
      among = Contains-append_left xs (l ∷ []) m h.among;
      open_yet = h.open_yet;
      others = All-push (λ k. (k ≡ m) ⊎ IsFalse ts k) xs l h.others (inl (sym (code_of-injective m l (eqb-true _ _ e))));
    }
    chosen false e = record {
      first = m;
      second = l;
      has_first = Contains-append_left xs (l ∷ []) m h.among;
      has_second = Contains-push xs l;
      differ = λ same. let t = eq-eqb _ _ (ap code_of same) in let z : ⊥ = cc in z;
      first_open = h.open_yet;
      second_open = f;
    }
stands_open ts xs l Many h f = wider ts xs l h

shape_stands : (ts seen : List Literal) (s : Shape) (rest : List Literal) → Stands ts seen s → Stands ts (seen ++ rest) (shape_from ts s rest)
unfolding shape_from
shape_stands ts seen s [] h = subst (λ c. Stands ts c s) (sym (append-nil seen)) h
shape_stands ts seen s (l ∷ ls) h = subst (λ c. Stands ts c (shape_from ts s (l ∷ ls))) (append_assoc seen (l ∷ []) ls)
    (chosen (among ts (negated l)) refl (λ r k. shape_stands ts (seen ++ l ∷ []) r ls k))
  where
    chosen : (q : Bool) → among ts (negated l) ≡ q → ((r : Shape) → Stands ts (seen ++ l ∷ []) r → Stands ts ((seen ++ l ∷ []) ++ ls) (shape_from ts r ls)) → Stands ts ((seen ++ l ∷ []) ++ ls) (shape_from ts (cond q s (joined s l)) ls)
    chosen true e more = more s (stands_false ts seen l s h (contains_among ts (negated l) e))
    chosen false e more = more (joined s l) (stands_open ts seen l s h (not_among ts (negated l) e))

shape_found : (ts c : List Literal) → Stands ts c (shape_from ts AllFalse c)
shape_found ts c = shape_stands ts [] AllFalse c (All-nil (IsFalse ts))

found_false : (ts c : List Literal) (s : Shape) → Stands ts c s → IsFalseClause ts c → s ≡ AllFalse
found_false ts c AllFalse h f = refl
found_false ts c (OneOpen l) h f = absurd (false_unit ts c l f h)
found_false ts c Many h f = absurd (false_wide ts c f h)

found_unit : (ts c : List Literal) (s : Shape) (l : Literal) → Stands ts c s → IsUnit ts c l → s ≡ OneOpen l
found_unit ts c AllFalse l h u = absurd (false_unit ts c l h u)
found_unit ts c (OneOpen m) l h u = ap OneOpen (only_open ts c l m u h.among h.open_yet)
found_unit ts c Many l h u = absurd (unit_wide ts c l u h)

-- ---- the opposites of a clause's literals

abbrev AreOpposites : List Literal → Option (List Literal) → Type 0
AreOpposites c None = HasPair c
AreOpposites c (Some ts) = (ts ≡ map negated c) × (¬ (HasPair c))

opposites_are : (seen rest : List Literal) → ¬ (HasPair seen) → AreOpposites (seen ++ rest) (opposites (map negated seen) rest)
unfolding opposites
opposites_are seen [] alone = subst (λ c. AreOpposites c (Some (map negated seen))) (sym (append-nil seen)) (refl, alone)
opposites_are seen (l ∷ ls) alone = chosen (among (map negated seen) l) refl (λ k. opposites_are (seen ++ l ∷ []) ls k)
  where
    chosen : (q : Bool) → among (map negated seen) l ≡ q → (¬ (HasPair (seen ++ l ∷ [])) → AreOpposites ((seen ++ l ∷ []) ++ ls) (opposites (map negated (seen ++ l ∷ [])) ls)) → AreOpposites (seen ++ l ∷ ls) (cond q None (opposites (map negated seen ++ negated l ∷ []) ls))
    chosen true e next = (l, Contains-append_right seen (l ∷ ls) l (in_front l ls), Contains-append_left seen (l ∷ ls) (negated l) (opposite_in seen l (contains_among (map negated seen) l e)))
    chosen false e next =
        let without : ¬ (Contains seen (negated l)) = λ c. not_among (map negated seen) l e (in_opposite seen l c) in
        let more : AreOpposites ((seen ++ l ∷ []) ++ ls) (opposites (map negated (seen ++ l ∷ [])) ls) = next (pair_more seen l alone without) in
        let same : map negated (seen ++ l ∷ []) ≡ map negated seen ++ negated l ∷ [] = map-append negated seen (l ∷ []) in
        subst (λ c. AreOpposites c (opposites (map negated seen ++ negated l ∷ []) ls)) (append_assoc seen (l ∷ []) ls)
        (subst (λ ts. AreOpposites ((seen ++ l ∷ []) ++ ls) (opposites ts ls)) same more)

opposites_found : (c : List Literal) → AreOpposites c (opposites [] c)
opposites_found c = opposites_are [] c (λ p. in_none p.0 p.1)

-- ---- hints

-- the first of the hints lead from these literals to a false clause
record Leads (t : TableValue) (ts : List Literal) (hints : List Number) : Type 0 where
  front : List Number
  rest : List Number
  hints_are : hints ≡ front ++ rest
  chain : ChainFrom (look_in t) ts (map name_of front)

one_more : (t : TableValue) (ts c : List Literal) (l : Literal) (n : Number) (ns : List Number) → held t n.size ≡ Some c → IsUnit ts c l → Leads t (ts ++ l ∷ []) ns → Leads t ts (n ∷ ns)
one_more t ts c l n ns e u k = go k.front k.hints_are k.chain
  where
    go : (front : List Number) → ns ≡ front ++ k.rest → ChainFrom (look_in t) (ts ++ l ∷ []) (map name_of front) → Leads t ts (n ∷ ns)
    go [] q chain = absurd chain
    go (m ∷ ms) q chain = record { front = n ∷ m ∷ ms; rest = k.rest; hints_are = ap (λ x. n ∷ x) q; chain = (c, l, e, u, chain) }

leads_chain : (t : TableValue) (ts : List Literal) (ns : List Number) → leads t ts ns ≡ true → Leads t ts ns
unfolding leads
leads_chain t ts [] h = let z : ⊥ = cc in absurd z
leads_chain t ts (n ∷ ns) h = by_held (held t n.size) refl (λ l k. leads_chain t (ts ++ l ∷ []) ns k) h
  where
    Behind : Type 0
    Behind = (l : Literal) → leads t (ts ++ l ∷ []) ns ≡ true → Leads t (ts ++ l ∷ []) ns

    by_found : (c : List Literal) (s : Shape) → Behind → held t n.size ≡ Some c → Stands ts c s → by_shape s (λ l. leads t (ts ++ l ∷ []) ns) ≡ true → Leads t ts (n ∷ ns)
    by_found c AllFalse behind e k q = record { front = n ∷ []; rest = ns; hints_are = refl; chain = (c, e, k) }
    by_found c (OneOpen l) behind e k q = one_more t ts c l n ns e k (behind l q)
    by_found c Many behind e k q = let z : ⊥ = cc in absurd z

    by_held : (o : Option (List Literal)) → held t n.size ≡ o → Behind → by_hint o ts (λ l. leads t (ts ++ l ∷ []) ns) ≡ true → Leads t ts (n ∷ ns)
    by_held None e behind q = let z : ⊥ = cc in absurd z
    by_held (Some c) e behind q = by_found c (shape_from ts AllFalse c) behind e (shape_found ts c) q

chain_leads : (t : TableValue) (ts : List Literal) (front rest : List Number) → ChainFrom (look_in t) ts (map name_of front) → leads t ts (front ++ rest) ≡ true
unfolding leads
chain_leads t ts [] rest k = absurd k
chain_leads t ts (n ∷ []) rest k =
    let s : shape_from ts AllFalse k.0 ≡ AllFalse = found_false ts k.0 _ (shape_found ts k.0) k.2 in
    let e : held t n.size ≡ Some k.0 = k.1 in
    rw (e, s) refl
chain_leads t ts (n ∷ m ∷ ms) rest k =
    let s : shape_from ts AllFalse k.0 ≡ OneOpen k.1 = found_unit ts k.0 _ k.1 (shape_found ts k.0) k.3 in
    let e : held t n.size ≡ Some k.0 = k.2 in
    let more : leads t (ts ++ k.1 ∷ []) (m ∷ ms ++ rest) ≡ true = chain_leads t (ts ++ k.1 ∷ []) (m ∷ ms) rest k.4 in
    rw (e, s) more

-- ---- lines

good_begins : (t : TableValue) (clause : List Literal) (hints : List Number) → is_good t clause hints ≡ true → BeginsWithChain t clause hints
good_begins t clause hints h = go (opposites [] clause) (opposites_found clause) h
  where
    go : (o : Option (List Literal)) → AreOpposites clause o → leads_from t o hints ≡ true → BeginsWithChain t clause hints
    go None p h = record { front = []; rest = hints; hints_are = refl; chain = inl (p, refl) }
    go (Some ts) p h =
        let k : Leads t (map negated clause) hints = leads_chain t (map negated clause) hints (subst (λ x. leads t x hints ≡ true) p.0 h) in
        record { front = k.front; rest = k.rest; hints_are = k.hints_are; chain = inr (p.1, k.chain) }

begins_good : (t : TableValue) (clause : List Literal) (hints : List Number) → BeginsWithChain t clause hints → is_good t clause hints ≡ true
begins_good t clause hints b = go (opposites [] clause) (opposites_found clause) b.chain
  where
    go : (o : Option (List Literal)) → AreOpposites clause o → IsChain (look_in t) clause (map name_of b.front) → leads_from t o hints ≡ true
    go None p k = refl
    go (Some ts) p k =
        ⊎_elim
        (λ pair. absurd (p.1 pair.0))
        (λ alone. subst (λ x. leads t x hints ≡ true) (sym p.0) (subst (λ x. leads t (map negated clause) x ≡ true) (sym b.hints_are) (chain_leads t (map negated clause) b.front b.rest alone.1)))
        k

pub good_is_begun : (t : TableValue) (clause : List Literal) (hints : List Number) → (is_good t clause hints ≡ true) ↔ BeginsWithChain t clause hints
good_is_begun t clause hints = (good_begins t clause hints, begins_good t clause hints)
