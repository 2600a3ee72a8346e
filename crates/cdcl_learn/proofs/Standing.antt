-- Each literal of a learnt clause stands in a hint that is held.
use Rattle.std.proofs.Common.{ℕ, ◌≡◌, ◌≢◌, ◌<◌, ◌≤◌, ◌⊎◌, ◌++◌, Bool, List, [], ◌∷◌, Some, None, length, reverse, sym, ap, ◌∙◌, inl, inr, arith}
use Rattle.std.specs.Prelude.{slice_get, Contains}
use Rattle.std.proofs.lemmas.Bool.{cases_lt}
use Rattle.std.proofs.lemmas.Bool.Decides.{eqb_tells}
use Rattle.std.proofs.lemmas.Option.{slice_get-get_or, same_Some}
use Rattle.std.proofs.lemmas.List.Elements.{Contains-push_cases}
use Rattle.std.proofs.lemmas.List.Sorted.{Contains-permutation, IsPermutation-reverse, IsPermutation-sym}
use Rattle.cnf_base.specs.Literals.{Literal, negated}
use Rattle.cnf_base.specs.declared.clause.ClauseId.{ClauseId}
use Rattle.cnf_base.proofs.Codes.{negated-negated}
use Rattle.cnf_base.proofs.Lists.{Contains-nil}
use Rattle.cdcl_core.specs.declared.trail.Trail.{Trail}
use Rattle.cdcl_core.specs.declared.watches.Watches.{Watches}
use Rattle.cdcl_core.specs.Levels.{Row}
use Rattle.cdcl_core.specs.Search.{literals_of, level_of, clause_of, held_of, IsConflict}
use Rattle.cdcl_core.specs.State.{no_row, IsSettled}
use Rattle.cdcl_core.proofs.Held.{held_kept}
use Rattle.cdcl_core.proofs.Forced.{reason_held}
use Rattle.cdcl_learn.specs.Rows.{row_at, literal_at, level_at, reason_at, IsFalseBefore, IsHistory, IsReasonOf, AreRaised}
use Rattle.cdcl_learn.specs.Puts.{StandsIn}
use Rattle.cdcl_learn.specs.Walks.{IsSet, IsUnique, MeetsReasons}
use Rattle.cdcl_learn.proofs.Lists.{member_cases}
use Rattle.cdcl_learn.proofs.Facts.{history_of, rising_of}
use Rattle.cdcl_learn.proofs.Derivations.{IsClauseOf}

pub meets_more : (rows : List Row) (a b c : List ClauseId) → MeetsReasons rows a b → MeetsReasons rows b c → MeetsReasons rows a c
meets_more rows a b c x y id m = elim (y id m) [ inl o ↦ x id o | inr r ↦ inr r ]

-- one hint more
pub meets_one : (rows : List Row) (old new : List ClauseId) (i : ℕ) (id : ClauseId) → i < length rows → reason_at rows i ≡ Some id → new ≡ old ++ id ∷ [] → MeetsReasons rows old new
meets_one rows old new i id within reason is q m = elim (Contains-push_cases old id q (rw is at m)) [ inl o ↦ inl o | inr e ↦ inr (i, (within, reason ∙ ap Some e)) ]

-- the hints in the order of a chain are the conflict and reasons
pub hints_met : (rows : List Row) (conflict : ClauseId) (hints : List ClauseId) (id : ClauseId) → MeetsReasons rows (conflict ∷ []) hints → Contains (reverse hints) id → (conflict ≡ id) ⊎ (IsReasonOf rows id)
hints_met rows conflict hints id met m = elim (met id (Contains-permutation (reverse hints) hints id (IsPermutation-sym hints (reverse hints) (IsPermutation-reverse hints)) m)) [
  | inr r ↦ inr r
  | inl o ↦ elim (member_cases conflict id [] o) [ inl e ↦ inl e | inr n ↦ absurd (Contains-nil id n) ]
]

module _ (w : Watches) (t : Trail) (conflict : ClauseId) (marks : List Bool) (place : ℕ) (c : List Literal) (hints : List ClauseId) (st : IsSettled w t) (above : 0 < level_of t) (clash : IsConflict w t conflict) (raised : AreRaised (literals_of t)) (unique : IsUnique (literals_of t) marks (level_of t) place)
    (low : (p : ℕ) → p < place → level_at (literals_of t) p ≡ 0 → IsSet marks p → reason_at (literals_of t) p ≡ None)
    (met : (id : ClauseId) → Contains hints id → (conflict ≡ id) ⊎ (IsReasonOf (literals_of t) id))
    (stands : (l : Literal) → Contains c l → StandsIn (clause_of w) hints l)
    (clause : IsClauseOf (literals_of t) marks c) where
  history : IsHistory (clause_of w) (literals_of t)
  history = history_of w t st

  -- no marked literal is of level 0
  above_zero : (p : ℕ) → p < length (literals_of t) → IsSet marks p → 0 < level_at (literals_of t) p
  above_zero p within s = elim (cases_lt p place) [
    | inr u ↦ elim (eqb_tells p place) [
      | inl e ↦ rw e.1 (omega (arith, unique.stands_at, above))
      | inr e ↦ absurd (unique.above p (omega (arith, u, e.1)) s)
    ]
    | inl u ↦ elim (cases_lt 0 (level_at (literals_of t) p)) [
      | inl h ↦ h
      | inr h ↦ raised p within (low p u (omega arith) s)
    ]
  ]

  -- a reason with the opposite of a literal that is above level 0 forced a literal that is above level 0 too
  later : (id : ClauseId) (h : List Literal) (p : ℕ) → p < length (literals_of t) → 0 < level_at (literals_of t) p → clause_of w id ≡ Some h → Contains h (negated (literal_at (literals_of t) p)) → IsReasonOf (literals_of t) id → held_of w id ≡ clause_of w id
  later id h p within pos kept mem r =
      let i : ℕ = r.0 in
      let inside : i < length (literals_of t) = r.1.0 in
      let f = history.forced i id inside r.1.1 in
      let same : f.0 ≡ h = same_Some f.0 h (sym f.1.0 ∙ kept) in
      let mem2 : Contains f.0 (negated (literal_at (literals_of t) p)) = rw same mem in
      let other : negated (literal_at (literals_of t) p) ≢ literal_at (literals_of t) i = λ e. history.apart i p inside within (sym e) in
      let before : IsFalseBefore (literals_of t) i (negated (literal_at (literals_of t) p)) = f.1.1.1 (negated (literal_at (literals_of t) p)) mem2 other in
      let there : before.0 < length (literals_of t) = omega (arith, before.1.0, inside) in
      let place_is : before.0 ≡ p = history.once before.0 p there within (before.1.1 ∙ negated-negated (literal_at (literals_of t) p)) in
      let up : level_at (literals_of t) p ≤ level_at (literals_of t) i = (rising_of w t st).rise p i (omega (arith, place_is, before.1.0)) inside in
      let high : 0 < level_at (literals_of t) i = omega (arith, pos, up) in
      let row : Row = row_at (literals_of t) i in
      let found : slice_get (literals_of t) i ≡ Some (row.0, row.1, Some id) = slice_get-get_or (literals_of t) i no_row inside ∙ ap (λ x. Some (row.0, row.1, x)) r.1.1 in
      reason_held w t st i row.0 row.1 id found high

  held_hint : (id : ClauseId) (h : List Literal) (p : ℕ) → p < length (literals_of t) → 0 < level_at (literals_of t) p → Contains hints id → clause_of w id ≡ Some h → Contains h (negated (literal_at (literals_of t) p)) → held_of w id ≡ Some h
  held_hint id h p within pos hint kept mem = elim (met id hint) [
    | inl e ↦
        let same : clause_of w conflict ≡ Some h = rw e kept in
        rw (← e) (clash.1.0 ∙ (sym (held_kept w conflict clash.0 clash.1.0) ∙ same))
    | inr r ↦ later id h p within pos kept mem r ∙ kept
  ]

  pub stands_held : (l : Literal) → Contains c l → StandsIn (held_of w) hints l
  stands_held l m =
      let p : (p : ℕ) × ((p < length (literals_of t)) × (IsSet marks p × (l ≡ negated (literal_at (literals_of t) p)))) = clause.only l m in
      let s : StandsIn (clause_of w) hints l = stands l m in
      let mem : Contains s.1.0 (negated (literal_at (literals_of t) p.0)) = rw (← p.1.1.1) s.1.1.1.1 in
      (s.0, (s.1.0, (s.1.1.0, (held_hint s.0 s.1.0 p.0 p.1.0 (above_zero p.0 p.1.0 p.1.1.0) s.1.1.0 s.1.1.1.0 mem, s.1.1.1.1))))
