-- A clause of one literal follows from the clause that forced it and from those of one literal by which the others are false.
use Rattle.std.proofs.Common.{ℕ, ◌≡◌, ◌+◌, ◌<◌, ◌⊎◌, ◌++◌, Bool, true, false, not, List, [], ◌∷◌, Some, length, take, refl, sym, ap, ◌∙◌, subst, inl, inr, arith}
use Rattle.std.specs.Prelude.{Contains}
use Rattle.std.proofs.Math.ListN.{get_or}
use Rattle.std.proofs.lemmas.Bool.{both_ways}
use Rattle.std.proofs.lemmas.List.Elements.{Contains-get_or, Contains-push, Contains-push_cases, Contains-append_left}
use Rattle.std.proofs.lemmas.Option.{same_Some}
use Rattle.cnf_base.specs.Literals.{Literal, negated}
use Rattle.cnf_base.specs.declared.clause.ClauseId.{ClauseId}
use Rattle.cnf_base.proofs.Codes.{negated-negated, same_literal_or_not}
use Rattle.cnf_base.proofs.Lists.{Contains-nil, Contains-first, Contains-later, Contains-one}
use Rattle.hint_chain.specs.Chains.{Lookup, IsFalse, ChainFrom}
use Rattle.cdcl_core.specs.Levels.{Row}
use Rattle.cdcl_learn.specs.Rows.{literal_at, IsHistory}
use Rattle.cdcl_learn.specs.Units.{StandsBefore, AreUnits, IsUnitAt}
use Rattle.cdcl_learn.proofs.Lists.{member_cases, front_cases}

-- a clause of one literal in front of a chain
chain_more : (look : Lookup) (trues : List Literal) (id : ClauseId) (rest : List ClauseId) (m : Literal) → look id ≡ Some (m ∷ []) → (IsFalse trues m → ⊥) → ChainFrom look (trues ++ m ∷ []) rest → ChainFrom look trues (id ∷ rest)
chain_more look trues id [] m at unset k = absurd k
chain_more look trues id (j ∷ is) m at unset k = (
  m ∷ [],
  m,
  at,
  record {
    among = Contains-first m [];
    open_yet = unset;
    others = λ i d h. inl (sym (Contains-one m (get_or (m ∷ []) i d) (Contains-get_or (m ∷ []) i d h)));
  },
  k,
)

-- what is true while the chain is followed: the opposite of the literal, and what stands before it
abbrev IsAmong : List Row → ℕ → Literal → Literal → Type 0
IsAmong rows place l x = (x ≡ negated l) ⊎ StandsBefore rows place x

own : (b : Bool) → not b ≡ b → ⊥
own true q = both_ways false refl q
own false q = both_ways true q refl

not_own : (l : Literal) → negated l ≡ l → ⊥
not_own l e = own l.positive (ap (λ (x : Literal). x.positive) e)

module _ (look : Lookup) (rows : List Row) (place : ℕ) (l : Literal) (history : IsHistory look rows) (within : place < length rows) (here : literal_at rows place ≡ l) where
  -- the literal does not stand before its place
  not_before : StandsBefore rows place l → ⊥
  not_before s = let e : s.0 ≡ place = history.once s.0 place (omega (arith, s.1.0, within)) within (s.1.1 ∙ sym here) in omega (arith, e, s.1.0)

  not_both : (x : Literal) → IsAmong rows place l x → IsAmong rows place l (negated x) → ⊥
  not_both x (inl a) (inl b) = not_own x (b ∙ sym a)
  not_both x (inl a) (inr b) = not_before (subst (StandsBefore rows place) (ap negated a ∙ negated-negated l) b)
  not_both x (inr a) (inl b) = not_before (subst (StandsBefore rows place) (sym (negated-negated x) ∙ (ap negated b ∙ negated-negated l)) a)
  not_both x (inr a) (inr b) = history.apart b.0 a.0 (omega (arith, b.1.0, within)) (omega (arith, a.1.0, within)) (b.1.1 ∙ ap negated (sym a.1.1))

  module _ (id : ClauseId) (c : List Literal) (at : look id ≡ Some c) where
    -- each literal of the last clause is false, or the clause of its opposite is still to come
    chain_units : (trues : List Literal) (units : List ClauseId) → ((x : Literal) → Contains trues x → IsAmong rows place l x) → ((i : ClauseId) → Contains units i → (m : Literal) × ((look i ≡ Some (m ∷ [])) × StandsBefore rows place m)) → ((x : Literal) → Contains c x → (IsFalse trues x) ⊎ ((i : ClauseId) × (Contains units i × (look i ≡ Some (negated x ∷ []))))) → ChainFrom look trues (units ++ id ∷ [])
    chain_units trues [] among each all = (
      c,
      at,
      λ i d h. elim (all (get_or c i d) (Contains-get_or c i d h)) [
        | inl f ↦ f
        | inr f ↦ absurd (Contains-nil f.0 f.1.0)
      ],
    )
    chain_units trues (u ∷ us) among each all =
        let s = each u (Contains-first u us) in
        chain_more look trues u (us ++ id ∷ []) s.0 s.1.0 (λ f. not_both s.0 (inr s.1.1) (among (negated s.0) f))
        (chain_units (trues ++ s.0 ∷ []) us
        (λ x h. elim (Contains-push_cases trues s.0 x h) [ inl a ↦ among x a | inr a ↦ inr (subst (StandsBefore rows place) a s.1.1) ])
        (λ i h. each i (Contains-later u i us h))
        (λ x h. elim (all x h) [
          | inl f ↦ inl (Contains-append_left trues (s.0 ∷ []) (negated x) f)
          | inr f ↦ elim (member_cases u f.0 us f.1.0) [
            | inl e ↦
                let same : s.0 ∷ [] ≡ negated x ∷ [] = same_Some _ _ (sym s.1.0 ∙ (ap look e ∙ f.1.1)) in
                let first : s.0 ≡ negated x = ap (λ (xs : List Literal). get_or xs 0 s.0) same in
                inl (subst (Contains (trues ++ s.0 ∷ [])) first (Contains-push trues s.0))
            | inr e ↦ inr (f.0, (e, f.1.1))
          ]
        ]))

    pub unit_at : (units : List ClauseId) → Contains c l → AreUnits look rows place c l units → IsUnitAt look rows place (l ∷ []) (units ++ id ∷ [])
    unit_at units has k = record {
      within = within;
      one = ap (λ (x : Literal). x ∷ []) (sym here);
      chain = inr (
        (λ p. not_own p.0 (sym (Contains-one l (negated p.0) p.2) ∙ Contains-one l p.0 p.1)),
        chain_units (negated l ∷ []) units (λ x h. inl (sym (Contains-one (negated l) x h))) k.each
            (λ x h. elim (same_literal_or_not x l) [
              | inl e ↦ inl (subst (λ y. Contains (negated l ∷ []) (negated y)) (sym e) (Contains-first (negated l) []))
              | inr e ↦ inr (k.all x h e)
            ]),
      );
      stands = λ x h. (id, (c, (Contains-push units id, (at, subst (Contains c) (Contains-one l x h) has))));
    }

-- no literal was gone over, and one more was
pub units_none : (look : Lookup) (rows : List Row) (end : ℕ) (l : Literal) → AreUnits look rows end [] l []
units_none look rows end l = record { each = λ i h. absurd (Contains-nil i h); all = λ m h ne. absurd (Contains-nil m h) }

pub units_skip : (look : Lookup) (rows : List Row) (end i : ℕ) (c : List Literal) (l m : Literal) (units : List ClauseId) → i < length c → m ≡ get_or c i m → m ≡ l → AreUnits look rows end (take i c) l units → AreUnits look rows end (take (i + 1) c) l units
units_skip look rows end i c l m units h is e k = record {
  each = k.each;
  all = λ x has ne. elim (front_cases c i m x h has) [
    | inl a ↦ k.all x a ne
    | inr a ↦ absurd (ne (sym a ∙ (sym is ∙ e)))
  ];
}

pub units_push : (look : Lookup) (rows : List Row) (end i : ℕ) (c : List Literal) (l m : Literal) (units : List ClauseId) (id : ClauseId) → i < length c → m ≡ get_or c i m → look id ≡ Some (negated m ∷ []) → StandsBefore rows end (negated m) → AreUnits look rows end (take i c) l units → AreUnits look rows end (take (i + 1) c) l (units ++ id ∷ [])
units_push look rows end i c l m units id h is at s k = record {
  each = λ j has. elim (Contains-push_cases units id j has) [
    | inl a ↦ k.each j a
    | inr a ↦ (negated m, (ap look (sym a) ∙ at, s))
  ];
  all = λ x has ne. elim (front_cases c i m x h has) [
    | inl a ↦ let r = k.all x a ne in (r.0, (Contains-append_left units (id ∷ []) r.0 r.1.0, r.1.1))
    | inr a ↦ (id, (Contains-push units id, at ∙ ap (λ (y : Literal). Some (negated y ∷ [])) (is ∙ a)))
  ];
}

-- a clause of one literal, read
pub one_of : (xs : List Literal) (x l : Literal) → length xs ≡ 1 → x ≡ get_or xs 0 x → x ≡ l → xs ≡ l ∷ []
one_of [] x l h is e = absurd (omega (arith, h))
one_of (y ∷ []) x l h is e = ap (λ (z : Literal). z ∷ []) (sym is ∙ e)
one_of (y ∷ z ∷ zs) x l h is e = absurd (omega (arith, h))
