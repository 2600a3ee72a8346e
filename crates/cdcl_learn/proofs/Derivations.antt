-- Analysis of a conflict: whichever literals are resolved, the hints derive what is left.
use Rattle.std.proofs.Common.{ℕ, ◌≡◌, ◌≢◌, ◌<◌, ◌++◌, Bool, false, List, [], ◌∷◌, Some, None, length, reverse, map, refl, sym, ap, ◌∙◌, inl, inr, arith}
use Rattle.std.specs.Prelude.{Contains, IsSome}
use Rattle.std.proofs.Math.ListN.{get_or, set, length-set}
use Rattle.std.proofs.lemmas.List.{reverse-append}
use Rattle.std.proofs.lemmas.Bool.Decides.{eqb_tells}
use Rattle.std.proofs.lemmas.List.Elements.{All-contains, All-map, Contains-get_or, Contains-push, Contains-push_cases, Contains-append_left}
use Rattle.cnf_base.specs.Literals.{Literal, negated}
use Rattle.cnf_base.specs.declared.clause.ClauseId.{ClauseId}
use Rattle.cnf_base.proofs.Codes.{negated-negated, same_literal_or_not}
use Rattle.hint_chain.specs.Chains.{Lookup, IsUnit, HasPair, ChainFrom, IsChain}
use Rattle.cdcl_core.specs.Levels.{Row}
use Rattle.cdcl_learn.specs.Rows.{literal_at, reason_at, IsFalseBefore, IsHistory}
use Rattle.cdcl_learn.specs.Puts.{StandsIn, UsesEach}
use Rattle.cdcl_learn.specs.Walks.{IsSet, IsMarked, IsDerived, IsResolved}
use Rattle.cdcl_learn.proofs.Lists.{member_cases, put_cases, unset, set_inside}
use Rattle.cnf_base.proofs.Lists.{Contains-nil, Contains-map, Contains-first, Contains-later}
use Rattle.cnf_base.proofs.Options.{IsSome-from}
use Rattle.std.proofs.lemmas.Option.{same_Some}

uses_more : (look : Lookup) (a : List Literal) (id : ClauseId) (hints : List ClauseId) (c : List Literal) (l : Literal) → look id ≡ Some c → IsUnit a c l → StandsIn look hints (negated l) → UsesEach look (a ++ l ∷ []) hints → UsesEach look a (id ∷ hints)
uses_more look a id [] c l at unit stands rest = absurd rest
uses_more look a id (j ∷ is) c l at unit stands rest = (c, (l, (at, (unit, (stands, rest)))))

stands_later : (look : Lookup) (id : ClauseId) (hints : List ClauseId) (l : Literal) → StandsIn look hints l → StandsIn look (id ∷ hints) l
stands_later look id hints l s = (s.0, (s.1.0, (Contains-later id s.0 hints s.1.1.0, (s.1.1.1.0, s.1.1.1.1))))

-- the conflict alone derives itself
pub derived_start : (look : Lookup) (rows : List Row) (old new : List Bool) (id : ClauseId) (c : List Literal) → look id ≡ Some c → ((m : Literal) → Contains c m → IsFalseBefore rows (length rows) m) → ((p : ℕ) → IsSet old p → ⊥) → IsMarked rows c old new → IsDerived look rows new (id ∷ [])
derived_start look rows old new id c at f clear k = record {
  derives = λ a sub all. (
    c,
    (
      at,
      λ i d h.
          let m : Literal = get_or c i d in
          let has : Contains c m = Contains-get_or c i d h in
          let p : IsFalseBefore rows (length rows) m = f m has in
          let back : negated (literal_at rows p.0) ≡ m = ap negated p.1.1 ∙ negated-negated m in
          let has2 : Contains c (negated (literal_at rows p.0)) = rw back has in
          let on : Contains a (literal_at rows p.0) = all p.0 p.1.0 (k.joined p.0 p.1.0 has2) in
          rw p.1.1 at on,
    ),
  );
  stands = λ p h s. elim (k.from p s) [
    | inl o ↦ absurd (clear p o)
    | inr o ↦ (id, (c, (Contains-first id [], (at, o))))
  ];
}

-- one resolution, with the clause that forced the literal of a marked place
module _ (look : Lookup) (rows : List Row) (old cut new : List Bool) (hints : List ClauseId) (i : ℕ) (id : ClauseId) (c : List Literal) (history : IsHistory look rows) (within : i < length rows) (at : look id ≡ Some c) (has : Contains c (literal_at rows i)) (others : (m : Literal) → Contains c m → m ≢ literal_at rows i → IsFalseBefore rows i m) (marked : IsSet old i) (gone : IsSet cut i → ⊥) (kept : (p : ℕ) → p ≢ i → IsSet old p → IsSet cut p) (less : (p : ℕ) → IsSet cut p → IsSet old p) (k : IsMarked rows c cut new) where
  -- a literal of the clause other than the forced one is false before it
  not_forced : (p : ℕ) → p < length rows → Contains c (negated (literal_at rows p)) → negated (literal_at rows p) ≢ literal_at rows i
  not_forced p h m q = history.apart i p within h (sym q)

  pub new_below : (p : ℕ) → p < length rows → Contains c (negated (literal_at rows p)) → p < i
  new_below p h m =
      let f : IsFalseBefore rows i (negated (literal_at rows p)) = others (negated (literal_at rows p)) m (not_forced p h m) in
      let same : literal_at rows f.0 ≡ literal_at rows p = f.1.1 ∙ negated-negated (literal_at rows p) in
      let q : f.0 ≡ p = history.once f.0 p (omega (arith, f.1.0, within)) h same in
      omega (arith, q, f.1.0)

  pub resolved_more : ((p : ℕ) → IsSet new p → p < length rows) → IsResolved i old new
  resolved_more inside = record {
    gone = λ s. elim (k.from i s) [ inl o ↦ gone o | inr o ↦ omega (arith, new_below i within o) ];
    kept = λ p ne s. k.kept p (kept p ne s);
    from = λ p s. elim (k.from p s) [
      | inl o ↦ inl ((λ q. gone (rw q at o)), less p o)
      | inr o ↦ inr (new_below p (inside p s) o)
    ];
  }

  pub derived_more : IsDerived look rows old hints → IsDerived look rows new (id ∷ hints)
  derived_more d = record {
    derives = λ a sub all.
        let unit : IsUnit a c (literal_at rows i) = record {
          among = has;
          open_yet = λ x. let q : (j : ℕ) × ((j < length rows) × (literal_at rows j ≡ negated (literal_at rows i))) = sub (negated (literal_at rows i)) x in history.apart q.0 i q.1.0 within q.1.1;
          others = λ j dd h.
              let m : Literal = get_or c j dd in
              let mem : Contains c m = Contains-get_or c j dd h in
              elim (same_literal_or_not m (literal_at rows i)) [
                | inl y ↦ inl y
                | inr y ↦
                    let f : IsFalseBefore rows i m = others m mem y in
                    let back : negated (literal_at rows f.0) ≡ m = ap negated f.1.1 ∙ negated-negated m in
                    let mem2 : Contains c (negated (literal_at rows f.0)) = rw back mem in
                    let low : f.0 < length rows = omega (arith, f.1.0, within) in
                    let on : Contains a (literal_at rows f.0) = all f.0 low (k.joined f.0 low mem2) in
                    inr (rw f.1.1 at on)
              ];
        } in
        uses_more look a id hints c (literal_at rows i) at unit (d.stands i within marked) (d.derives (a ++ literal_at rows i ∷ [])
        (λ l m. elim (Contains-push_cases a (literal_at rows i) l m) [ inl y ↦ sub l y | inr y ↦ (i, (within, y)) ])
        (λ p h s. elim (eqb_tells p i) [
          | inl q ↦ rw q.1 (Contains-push a (literal_at rows i))
          | inr q ↦ Contains-append_left a (literal_at rows i ∷ []) (literal_at rows p) (all p h (k.kept p (kept p q.1 s)))
        ]));
    stands = λ p h s. elim (k.from p s) [
      | inl o ↦ stands_later look id hints (negated (literal_at rows p)) (d.stands p h (less p o))
      | inr o ↦ (id, (c, (Contains-first id hints, (at, o))))
    ];
  }

-- each hint is held
pub uses_held : (look : Lookup) (a : List Literal) (hints : List ClauseId) (id : ClauseId) → UsesEach look a hints → Contains hints id → IsSome (look id)
uses_held look a [] id u h = absurd u
uses_held look a (i ∷ []) id u h = elim (member_cases i id [] h) [ inl e ↦ rw (← e) (IsSome-from (look i) u.0 u.1.0) | inr m ↦ absurd (Contains-nil id m) ]
uses_held look a (i ∷ j ∷ is) id u h = elim (member_cases i id (j ∷ is) h) [
  | inl e ↦ rw (← e) (IsSome-from (look i) u.0 u.1.1.0)
  | inr m ↦ uses_held look (a ++ u.1.0 ∷ []) (j ∷ is) id u.1.1.1.1.1 m
]

uses_chain : (look : Lookup) (a : List Literal) (hints : List ClauseId) → UsesEach look a hints → ChainFrom look a hints
uses_chain look a [] u = u
uses_chain look a (i ∷ []) u = (u.0, u.1.0, u.1.1)
uses_chain look a (i ∷ j ∷ is) u = (u.0, u.1.0, u.1.1.0, u.1.1.1.0, uses_chain look (a ++ u.1.0 ∷ []) (j ∷ is) u.1.1.1.1.1)

-- the clause of what is left
pub record IsClauseOf (rows : List Row) (marks : List Bool) (c : List Literal) : Type 0 where
  pub each : (p : ℕ) → p < length rows → IsSet marks p → Contains c (negated (literal_at rows p))
  pub only : (l : Literal) → Contains c l → (p : ℕ) × ((p < length rows) × (IsSet marks p × (l ≡ negated (literal_at rows p))))

pub clause_uses : (look : Lookup) (rows : List Row) (marks : List Bool) (hints : List ClauseId) (c : List Literal) → IsDerived look rows marks hints → IsClauseOf rows marks c → UsesEach look (map negated c) hints
clause_uses look rows marks hints c d k = d.derives (map negated c)
    (λ l m. All-contains (λ x. (q : ℕ) × ((q < length rows) × (literal_at rows q ≡ x))) (map negated c) l (All-map (λ x. (q : ℕ) × ((q < length rows) × (literal_at rows q ≡ x))) negated c
    (λ i dd h. let o : (p : ℕ) × ((p < length rows) × (IsSet marks p × (get_or c i dd ≡ negated (literal_at rows p)))) = k.only (get_or c i dd) (Contains-get_or c i dd h) in
    (o.0, (o.1.0, sym (ap negated o.1.1.1 ∙ negated-negated (literal_at rows o.0)))))) m)
    (λ p h s. let on : Contains (map negated c) (negated (negated (literal_at rows p))) = Contains-map negated c (negated (literal_at rows p)) (k.each p h s) in rw (negated-negated (literal_at rows p)) at on)

pub no_pair : (look : Lookup) (rows : List Row) (marks : List Bool) (c : List Literal) → IsHistory look rows → IsClauseOf rows marks c → HasPair c → ⊥
no_pair look rows marks c history k pair =
    let l : Literal = pair.0 in
    let p : (p : ℕ) × ((p < length rows) × (IsSet marks p × (l ≡ negated (literal_at rows p)))) = k.only l pair.1 in
    let q : (p : ℕ) × ((p < length rows) × (IsSet marks p × (negated l ≡ negated (literal_at rows p)))) = k.only (negated l) pair.2 in
    let back : literal_at rows q.0 ≡ l = sym (ap negated q.1.1.1 ∙ negated-negated (literal_at rows q.0)) ∙ negated-negated l in
    history.apart q.0 p.0 q.1.0 p.1.0 (back ∙ p.1.1.1)

pub clause_chain : (look : Lookup) (rows : List Row) (marks : List Bool) (hints : List ClauseId) (c : List Literal) → IsHistory look rows → IsDerived look rows marks hints → IsClauseOf rows marks c → IsChain look c hints
clause_chain look rows marks hints c history d k = inr (no_pair look rows marks c history k, uses_chain look (map negated c) hints (clause_uses look rows marks hints c d k))

-- the mark of one place is taken away
cut_cases : (ms : List Bool) (i p : ℕ) → i < length ms → IsSet (set ms i false) p → (p ≢ i) × IsSet ms p
cut_cases ms i p h s = elim (put_cases ms i false p h) [ inl q ↦ unset (get_or (set ms i false) p false) q.1 s | inr q ↦ (q.0, sym q.1 ∙ s) ]

cut_kept : (ms : List Bool) (i p : ℕ) → i < length ms → p ≢ i → IsSet ms p → IsSet (set ms i false) p
cut_kept ms i p h ne s = elim (put_cases ms i false p h) [ inl q ↦ absurd (ne q.0) | inr q ↦ q.1 ∙ s ]

pub nothing : {X A : Type 0} (x : X) → None ≡ Some x → A
nothing x e = absurd cc

-- what one resolution keeps
pub record IsResolution (look : Lookup) (rows : List Row) (i : ℕ) (old new : List Bool) (hints : List ClauseId) : Type 0 where
  pub derived : IsDerived look rows new hints
  pub resolved : IsResolved i old new

pub resolution : (look : Lookup) (rows : List Row) (i : ℕ) (id : ClauseId) (c : List Literal) (old new : List Bool) (hints more : List ClauseId) → IsHistory look rows → i < length rows → length old ≡ length rows → IsSet old i → reason_at rows i ≡ Some id → look id ≡ Some c →
    IsMarked rows c (set old i false) new → IsDerived look rows old (reverse hints) → more ≡ hints ++ id ∷ [] → IsResolution look rows i old new (reverse more)
resolution look rows i id c old new hints more history within wide marked reason at k d is =
    let f = history.forced i id within reason in
    let e : f.0 ≡ c = same_Some f.0 c (sym f.1.0 ∙ at) in
    let room : i < length old = omega (arith, wide, within) in
    let has : Contains c (literal_at rows i) = (let a : Contains f.0 (literal_at rows i) = f.1.1.0 in rw e at a) in
    let others : (m : Literal) → Contains c m → m ≢ literal_at rows i → IsFalseBefore rows i m = λ m mem ne. f.1.1.1 m (rw e mem) ne in
    let gone : IsSet (set old i false) i → ⊥ = λ s. (cut_cases old i i room s).0 refl in
    let kept : (p : ℕ) → p ≢ i → IsSet old p → IsSet (set old i false) p = λ p ne s. cut_kept old i p room ne s in
    let less : (p : ℕ) → IsSet (set old i false) p → IsSet old p = λ p s. (cut_cases old i p room s).1 in
    let size : length new ≡ length rows = (let a : length new ≡ length (set old i false) = k.size in rw length-set at a) ∙ wide in
    let turned : reverse more ≡ id ∷ reverse hints = ap reverse is ∙ reverse-append hints (id ∷ []) in
    record {
      derived = rw turned (derived_more look rows old (set old i false) new (reverse hints) i id c history within at has others marked gone kept less k d);
      resolved = resolved_more look rows old (set old i false) new (reverse hints) i id c history within at has others marked gone kept less k (λ p s. omega (arith, size, set_inside new p s));
    }
