-- Clauses that a search is told, position by position.
use Rattle.std.proofs.Common.{◌≡◌, ℕ, zero, suc, ◌+◌, ◌<◌, ◌≤◌, List, [], ◌∷◌, ◌++◌, length, take, get_or, Some, None, refl, sym, ap, ◌∙◌, subst, inl, inr, ⊎_elim, arith}
use Rattle.std.specs.Prelude.{◌≢◌, ◌⊎◌, Contains, slice_get}
use Rattle.std.proofs.lemmas.Bool.{cases_lt, cases_eq}
use Rattle.std.proofs.lemmas.List.{take_more}
use Rattle.std.proofs.lemmas.List.Elements.{Contains-append_left, Contains-push, Contains-push_cases}
use Rattle.std.proofs.lemmas.Option.{slice_get_within}
use Rattle.cnf_base.specs.Literals.{Literal}
use Rattle.cnf_base.specs.declared.clause.ClauseId.{ClauseId}
use Rattle.cnf_base.proofs.Lists.{Contains-nil}
use Rattle.proof_log.specs.Logs.{clause_in, clause_at}
use Rattle.proof_log.proofs.Growing.{clause_row}
use Rattle.variable_list.specs.Variables.{IsListed}
use Rattle.cdcl_core.specs.declared.watches.Watches.{Watches}
use Rattle.cdcl_core.specs.Search.{clause_of, held_of}
use Rattle.cdcl_loop.specs.Engines.{IsSameStore, IsSameBut}
use Rattle.cdcl_learn.proofs.Lists.{front_cases}
use Rattle.cube_search.specs.Holding.{AreAmong, IsLonger, IsListing, IsBringing, IsBrought, IsHolding, IsFilling}
use Rattle.cube_search.proofs.Told.{longer_has, longer_same, longer_then, occurs_here, told_more}

pub same_id : (a b : ClauseId) → (a ≡ b) ⊎ (a ≢ b)
same_id a b = elim (cases_eq a.pos b.pos) [
  | inl p ↦ elim (cases_eq a.part b.part) [
    | inl q ↦ inl (λ i. record { pos = p i; part = q i })
    | inr q ↦ inr (λ e. q (ap (λ (x : ClauseId). x.part) e))
  ]
  | inr p ↦ inr (λ e. p (ap (λ (x : ClauseId). x.pos) e))
]

-- ---- variables that are listed

pub listing_none : (xs : List ℕ) → IsListing xs [] xs
listing_none xs = record { longer = longer_same xs xs refl; only = λ x k. inl k; among = λ l k. absurd (Contains-nil l k) }

pub listing_more : (old xs ys : List ℕ) (c : List Literal) (i : ℕ) (l : Literal) → i < length c → l ≡ get_or c i l → IsListed xs l.variable ys → IsListing old (take i c) xs → IsListing old (take (i + 1) c) ys
listing_more old xs ys c i l lt is listed h = record {
  longer = longer_then old xs ys h.longer longer;
  only = λ x k. elim (came x k) [
    | inl a ↦ ⊎_elim (λ b. inl b) (λ m. inr (m.0, front m.0 m.1, m.2)) (h.only x a)
    | inr a ↦ inr (l, here, sym a)
  ];
  among = λ m k. elim (front_cases c i l m lt k) [
    | inl a ↦ longer_has xs ys m.variable longer (h.among m a)
    | inr a ↦ subst (λ (n : Literal). Contains ys n.variable) (is ∙ a) there
  ];
}
  where
    longer : IsLonger xs ys
    longer = ⊎_elim (λ s. longer_same xs ys s.1) (λ s. (l.variable ∷ [], s.1)) listed

    there : Contains ys l.variable
    there = ⊎_elim (λ s. subst (λ (zs : List ℕ). Contains zs l.variable) (sym s.1) s.0) (λ s. subst (λ (zs : List ℕ). Contains zs l.variable) (sym s.1) (Contains-push xs l.variable)) listed

    came : (x : ℕ) → Contains ys x → Contains xs x ⊎ (x ≡ l.variable)
    came x k = ⊎_elim
        (λ s. inl (subst (λ (zs : List ℕ). Contains zs x) s.1 k))
        (λ s. ⊎_elim (λ a. inl a) (λ a. inr (sym a)) (Contains-push_cases xs l.variable x (subst (λ (zs : List ℕ). Contains zs x) s.1 k)))
        listed

    front : (m : Literal) → Contains (take i c) m → Contains (take (i + 1) c) m
    front m k = subst (λ (ls : List Literal). Contains ls m) (sym (take_more c i l lt)) (Contains-append_left (take i c) (get_or c i l ∷ []) m k)

    here : Contains (take (i + 1) c) l
    here = subst (λ (ls : List Literal). Contains ls l) (sym (take_more c i l lt)) (subst (λ (m : Literal). Contains (take i c ++ get_or c i l ∷ []) m) (sym is) (Contains-push (take i c) (get_or c i l)))

-- ---- one position more

pub bringing_start : (w : Watches) (rows : List (List (List Literal))) (variables : List ℕ) (pos : ℕ) → ((id : ClauseId) (c : List Literal) → clause_of w id ≡ Some c → clause_at rows id ≡ Some c) → IsBringing (λ part. part < 0) w w rows variables variables pos
bringing_start w rows variables pos sound = record {
  longer = longer_same variables variables refl;
  only = λ x k. inl k;
  kept = λ id ne. refl;
  others = λ id ne. refl;
  sound = sound;
  held = λ id c p lt e. absurd (omega (arith, lt));
  among = λ id c p lt e. absurd (omega (arith, lt));
}

-- the next part is held from here on
pub bringing_more : (first w v : Watches) (rows : List (List (List Literal))) (variables xs ys : List ℕ) (id : ClauseId) (clause : List Literal) → clause_at rows id ≡ Some clause → clause_of v id ≡ Some clause → held_of v id ≡ Some clause → IsSameBut id w v → IsListing xs clause ys → IsBringing (λ part. part < id.part) first w rows variables xs id.pos → IsBringing (λ part. part < id.part + 1) first v rows variables ys id.pos
bringing_more first w v rows variables xs ys id clause at kept held others listing h = record {
  longer = longer_then variables xs ys h.longer listing.longer;
  only = λ x k. ⊎_elim (λ old. h.only x old) (λ l. inr (occurs_here rows id clause l.0 x at l.1 l.2)) (listing.only x k);
  kept = λ q ne. others.kept q (λ e. ne (ap (λ (x : ClauseId). x.pos) e)) ∙ h.kept q ne;
  others = λ q ne. others.held q (λ e. ne (ap (λ (x : ClauseId). x.pos) e)) ∙ h.others q ne;
  sound = λ q c e. elim (same_id q id) [
    | inl a ↦ ap (clause_at rows) a ∙ at ∙ sym (ap (clause_of v) a ∙ kept) ∙ e
    | inr a ↦ h.sound q c (sym (others.kept q a) ∙ e)
  ];
  held = λ q c p lt e. elim (same_id q id) [
    | inl a ↦ ap (held_of v) a ∙ held ∙ sym at ∙ ap (clause_at rows) (sym a) ∙ e
    | inr a ↦ others.held q a ∙ h.held q c p (before q p lt a) e
  ];
  among = λ q c p lt e. elim (same_id q id) [
    | inl a ↦ (let r : Some clause ≡ Some c = sym at ∙ ap (clause_at rows) (sym a) ∙ e in let s : clause ≡ c = cc in subst (AreAmong ys) s listing.among)
    | inr a ↦ (λ l k. longer_has xs ys l.variable listing.longer (h.among q c p (before q p lt a) e l k))
  ];
}
  where
    before : (q : ClauseId) → q.pos ≡ id.pos → q.part < id.part + 1 → q ≢ id → q.part < id.part
    before q p lt a = ⊎_elim (λ less. less) (λ ge. absurd (a (λ i. record { pos = p i; part = (let r : q.part ≡ id.part = omega (arith, lt, ge) in r) i }))) (cases_lt q.part id.part)

-- no part has a clause after one that has none
pub no_later : (rows : List (List (List Literal))) (pos part k : ℕ) (c : List Literal) → clause_at rows (record { pos = pos; part = part }) ≡ None → part ≤ k → clause_at rows (record { pos = pos; part = k }) ≡ Some c → ⊥
no_later rows pos part k c none le e =
    let r = clause_row rows (record { pos = pos; part = k }) c e in
    let low : k < length (r.0) = slice_get_within r.0 k c r.2 in
    go r.0 (sym (ap (λ o. clause_in o part) r.1) ∙ none) low
  where
    go : (row : List (List Literal)) → slice_get row part ≡ None → k < length row → ⊥
    go row n lt = inside row part n (omega (arith, le, lt))
      where
        inside : (xs : List (List Literal)) (i : ℕ) → slice_get xs i ≡ None → i < length xs → ⊥
        inside [] i n lt = absurd (omega (arith, lt))
        inside (x ∷ xs) zero n lt = cc
        inside (x ∷ xs) (suc i) n lt = inside xs i n (omega (arith, lt))

pub bringing_all : (first w : Watches) (rows : List (List (List Literal))) (variables xs : List ℕ) (pos part : ℕ) → clause_at rows (record { pos = pos; part = part }) ≡ None → IsBringing (λ k. k < part) first w rows variables xs pos → IsBrought first w rows variables xs pos
bringing_all first w rows variables xs pos part none h = record {
  longer = h.longer;
  only = h.only;
  kept = h.kept;
  others = h.others;
  sound = h.sound;
  held = λ id c p u e. h.held id c p (before id c p e) e;
  among = λ id c p u e. h.among id c p (before id c p e) e;
}
  where
    before : (id : ClauseId) (c : List Literal) → id.pos ≡ pos → clause_at rows id ≡ Some c → id.part < part
    before id c p e = ⊎_elim
        (λ less. less)
        (λ ge. absurd (no_later rows pos part id.part c none ge (ap (λ n. clause_at rows (record { pos = n; part = id.part })) (sym p) ∙ e)))
        (cases_lt id.part part)

pub brought_same : (first w v : Watches) (rows : List (List (List Literal))) (variables xs ys : List ℕ) (pos : ℕ) → IsSameStore w v → ys ≡ xs → IsBrought first w rows variables xs pos → IsBrought first v rows variables ys pos
brought_same first w v rows variables xs ys pos same e h = subst (λ (zs : List ℕ). IsBrought first v rows variables zs pos) (sym e) (record {
  longer = h.longer;
  only = h.only;
  kept = λ id ne. same.kept id ∙ h.kept id ne;
  others = λ id ne. same.held id ∙ h.others id ne;
  sound = λ id c q. h.sound id c (sym (same.kept id) ∙ q);
  held = λ id c p u q. same.held id ∙ h.held id c p u q;
  among = h.among;
})

-- ---- the positions so far

-- what is kept was kept, or is of the position
pub brought_kept : (w v : Watches) (rows : List (List (List Literal))) (xs ys : List ℕ) (pos : ℕ) → IsBrought w v rows xs ys pos → (id : ClauseId) (c : List Literal) → clause_of v id ≡ Some c → (clause_of w id ≡ Some c) ⊎ (id.pos ≡ pos)
brought_kept w v rows xs ys pos h id c e = ⊎_elim (λ p. inr p) (λ ne. inl (sym (h.kept id ne) ∙ e)) (cases_eq id.pos pos)

pub filling_more : (w v : Watches) (rows : List (List (List Literal))) (xs ys opening ends needed taken : List ℕ) (pos : ℕ) → Contains needed pos → IsBrought w v rows xs ys pos → IsFilling w rows xs opening ends needed taken → IsFilling v rows ys (opening ++ pos ∷ []) (ends ++ length xs ∷ []) needed taken
filling_more w v rows xs ys opening ends needed taken pos has b h = record {
  sound = b.sound;
  covered = λ id c e. ⊎_elim (λ p. inl (subst (Contains needed) (sym p) has)) (λ ne. h.covered id c (sym (b.others id ne) ∙ e)) (cases_eq id.pos pos);
  complete = λ id c k e. ⊎_elim
      (λ p. b.held id c p tt e)
      (λ ne. b.others id ne ∙ ⊎_elim (λ old. h.complete id c old e) (λ p. absurd (ne (sym p))) (Contains-push_cases opening pos id.pos k))
      (cases_eq id.pos pos);
  told = told_more rows xs opening ends h.told ys pos b.longer b.only (λ id c p e. b.among id c p tt e);
}

pub holding_same : (w v : Watches) (rows : List (List (List Literal))) (variables variables' opening taken : List ℕ) → IsSameStore w v → variables' ≡ variables → IsHolding w rows variables opening taken → IsHolding v rows variables' opening taken
holding_same w v rows variables variables' opening taken same e h = subst (λ (xs : List ℕ). IsHolding v rows xs opening taken) (sym e) (record {
  sound = λ id c q. h.sound id c (sym (same.kept id) ∙ q);
  among = λ id c q. h.among id c (sym (same.held id) ∙ q);
  covered = λ id c q. h.covered id c (sym (same.held id) ∙ q);
  complete = λ id c k q. same.held id ∙ h.complete id c k q;
  waiting = λ id c k q. ⊎_elim (λ x. inl (same.held id ∙ x)) (λ x. inr x) (h.waiting id c k (sym (same.kept id) ∙ q));
  occurs = h.occurs;
})
