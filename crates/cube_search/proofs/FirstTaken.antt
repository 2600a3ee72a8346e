-- Equalities are taken before what is put behind them.
use Rattle.std.proofs.Common.{◌≡◌, ℕ, zero, suc, ◌≤◌, ◌<◌, true, false, List, [], ◌∷◌, ◌++◌, length, append_assoc, Option, Some, None, refl, sym, ap, ◌∙◌, subst, inl, inr, ⊎_elim, arith}
use Rattle.std.specs.Prelude.{◌⊎◌, Contains, slice_get}
use Rattle.std.proofs.lemmas.Bool.{cases_lt}
use Rattle.std.proofs.lemmas.List.Elements.{Contains-append_right}
use Rattle.cnf_base.specs.Literals.{Literal, true_literal, negative_of}
use Rattle.cnf_base.specs.Choices.{equal_gates}
use Rattle.cnf_base.specs.Gates.{gates_clauses}
use Rattle.cnf_base.proofs.Lists.{Contains-nil, Contains-first, slice_get-at, each_slice_get}
use Rattle.cnf_base.proofs.Options.{some_value}
use Rattle.smt_terms.specs.declared.node.Node.{Node}
use Rattle.smt_terms.specs.declared.sort.Sort.{Sort}
use Rattle.smt_terms.specs.declared.sort.Sort.TheVariants as sort
use Rattle.smt_terms.specs.Terms.{sort_of, IsSort, IsTermList}
use Rattle.smt_terms.proofs.Widths.{sort_bounded}
use Rattle.proof_log.specs.declared.entry.Entry.{Entry}
use Rattle.proof_log.specs.declared.entry.Entry.TheVariants as step
use Rattle.proof_log.specs.declared.diary.DiaryLine.{DiaryLine}
use Rattle.proof_log.specs.declared.diary.DiaryLine.TheVariants.{Take, Put, Drop}
use Rattle.proof_log.specs.Logs.{LogState, IsEqual, plain_width, clause_in, clause_at, entry_at, start, after, state_of, IsLog}
use Rattle.proof_log.specs.Boards.{Grows, IsOfSearch}
use Rattle.proof_log.specs.Diaries.{Subject, is_chain, DiaryState, line_after, AreLines}
use Rattle.proof_log.proofs.Growth.{entry_within, entry_stays, positions, equal_row, row_of, step_adds, steps_rows}
use Rattle.proof_log.proofs.Placed.{later_at}
use Rattle.proof_log.proofs.Standing.{bits_width}
use Rattle.proof_log.proofs.Staying.{state_from-append, steps_parts}
use Rattle.cdcl_learn.proofs.Lists.{member_cases}
use Rattle.cube_search.specs.Holding.{AreOwnHeld}
use Rattle.cube_search.specs.Keeping.{AreEqualitiesFirst, IsInOrder}

-- ---- puts

-- what is put is a chain
pub put_chain : (g : Subject) (s : DiaryState) (ls : List DiaryLine) → AreLines g s ls → (p : ℕ) → Contains ls (Put p) → is_chain (entry_at g.log p) ≡ true
put_chain g s [] h p c = absurd (Contains-nil (Put p) c)
put_chain g s (Take q ∷ ls) h p c = ⊎_elim (λ e. let f : ⊥ = cc in absurd f) (λ k. put_chain g (line_after g s (Take q)) ls h.1 p k) (member_cases (Take q) (Put p) ls c)
put_chain g s (Put q ∷ ls) h p c = ⊎_elim
    (λ e. let same : q ≡ p = cc in subst (λ x. is_chain (entry_at g.log x) ≡ true) same (ap is_chain h.0.2))
    (λ k. put_chain g (line_after g s (Put q)) ls h.1 p k)
    (member_cases (Put q) (Put p) ls c)
put_chain g s (Drop q ∷ ls) h p c = ⊎_elim (λ e. let f : ⊥ = cc in absurd f) (λ k. put_chain g (line_after g s (Drop q)) ls h.1 p k) (member_cases (Drop q) (Put p) ls c)

chain_is_within : (log : List Entry) (p : ℕ) → is_chain (entry_at log p) ≡ true → p ≤ length log
chain_is_within log p h = go (entry_at log p) refl h
  where
    go : (o : Option Entry) → entry_at log p ≡ o → is_chain o ≡ true → p ≤ length log
    go None q e = let f : ⊥ = cc in absurd f
    go (Some x) q e = entry_within log p x q

pub put_within : (g : Subject) (s : DiaryState) (ls : List DiaryLine) → AreLines g s ls → (p : ℕ) → Contains ls (Put p) → p ≤ length g.log
put_within g s ls h p c = chain_is_within g.log p (put_chain g s ls h p c)

-- ---- one line more

pub split_has : (lines before behind : List DiaryLine) (p : ℕ) → lines ≡ before ++ Put p ∷ behind → Contains lines (Put p)
split_has lines before behind p e = subst (λ (ls : List DiaryLine). Contains ls (Put p)) (sym e) (Contains-append_right before (Put p ∷ behind) (Put p) (Contains-first (Put p) behind))

-- where an element stands in a list with one more at its end
split_last : {A : Type 0} (xs before behind : List A) (x y : A) → xs ++ x ∷ [] ≡ before ++ y ∷ behind → ((more : List A) × (xs ≡ before ++ y ∷ more)) ⊎ ((xs ≡ before) × (x ≡ y))
split_last [] [] behind x y e = let q : x ≡ y = cc in inr (refl, q)
split_last [] (b ∷ []) behind x y e = let f : ⊥ = cc in absurd f
split_last [] (b ∷ c ∷ before) behind x y e = let f : ⊥ = cc in absurd f
split_last (a ∷ xs) [] behind x y e = let q : a ≡ y = cc in inl (xs, ap (λ z. z ∷ xs) q)
split_last (a ∷ xs) (b ∷ before) behind x y e =
    let q : a ≡ b = cc in
    let r : xs ++ x ∷ [] ≡ before ++ y ∷ behind = cc in
    ⊎_elim
    (λ k. inl (k.0, ap (λ z. z ∷ xs) q ∙ ap (λ zs. b ∷ zs) k.1))
    (λ k. inr (ap (λ z. z ∷ xs) q ∙ ap (λ zs. b ∷ zs) k.0, k.1))
    (split_last xs before behind x y r)

pub first_more : (log : List Entry) (from : ℕ) (lines : List DiaryLine) (l : DiaryLine) → AreEqualitiesFirst log from lines
    → ((p q t u : ℕ) → l ≡ Put p → from ≤ q → q < p → entry_at log q ≡ Some (step.Equal t u) → Contains lines (Take q)) → AreEqualitiesFirst log from (lines ++ l ∷ [])
first_more log from lines l h k = λ before behind p q t u e le lt there. ⊎_elim
    (λ old. h before old.0 p q t u old.1 le lt there)
    (λ new. subst (λ (ls : List DiaryLine). Contains ls (Take q)) new.0 (k p q t u new.1 le lt there))
    (split_last lines before behind l (Put p) e)

-- a line that is no put
pub first_take : (log : List Entry) (from : ℕ) (lines : List DiaryLine) (at : ℕ) → AreEqualitiesFirst log from lines → AreEqualitiesFirst log from (lines ++ Take at ∷ [])
first_take log from lines at h = first_more log from lines (Take at) h (λ p q t u e le lt there. let f : ⊥ = cc in absurd f)

pub first_drop : (log : List Entry) (from : ℕ) (lines : List DiaryLine) (at : ℕ) → AreEqualitiesFirst log from lines → AreEqualitiesFirst log from (lines ++ Drop at ∷ [])
first_drop log from lines at h = first_more log from lines (Drop at) h (λ p q t u e le lt there. let f : ⊥ = cc in absurd f)

pub first_put : (log : List Entry) (from : ℕ) (lines : List DiaryLine) (at : ℕ) → ((q t u : ℕ) → from ≤ q → q < at → entry_at log q ≡ Some (step.Equal t u) → Contains lines (Take q)) → AreEqualitiesFirst log from lines → AreEqualitiesFirst log from (lines ++ Put at ∷ [])
first_put log from lines at all h = first_more log from lines (Put at) h (λ p q t u e le lt there. let r : at ≡ p = cc in all q t u le (omega (arith, lt, r)) there)

-- nothing was put
pub first_none : (log : List Entry) (from : ℕ) (lines : List DiaryLine) → ((p : ℕ) → Contains lines (Put p) → ⊥) → AreEqualitiesFirst log from lines
first_none log from lines none = λ before behind p q t u e le lt there. absurd (none p (split_has lines before behind p e))

-- ---- over a longer log, which is the same as far as something was put

pub first_longer : (log log' : List Entry) (from : ℕ) (lines : List DiaryLine) → ((p : ℕ) → Contains lines (Put p) → p ≤ length log) → ((q : ℕ) → q ≤ length log → entry_at log' q ≡ entry_at log q) → AreEqualitiesFirst log from lines → AreEqualitiesFirst log' from lines
first_longer log log' from lines within same h = λ before behind p q t u e le lt there.
    let far = within p (split_has lines before behind p e) in
    h before behind p q t u e le lt (sym (same q (omega (arith, lt, far))) ∙ there)

pub order_longer : (g : Subject) (s : DiaryState) (log' : List Entry) (low : ℕ) (lines : List DiaryLine) → AreLines g s lines → ((q : ℕ) → q ≤ length g.log → entry_at log' q ≡ entry_at g.log q) → IsInOrder g.log low lines → IsInOrder log' low lines
order_longer g s log' low lines stand same h = record {
  later = h.later;
  first = first_longer g.log log' low lines (put_within g s lines stand) same h.first;
}

-- ---- a log to which chains were added

pub own_grown : (log log' : List Entry) (positions : List ℕ) (from : ℕ) → Grows log log' → AreOwnHeld log positions from → AreOwnHeld log' positions from
own_grown log log' positions from g h = λ p le within plain. ⊎_elim
    (λ far. absurd (new_chain p far within plain))
    (λ near. h p le near (sym (ap is_chain (entry_stays log log' p g near)) ∙ plain))
    (cases_lt (length log) p)
  where
    entry_is : (es : List Entry) (k : ℕ) → k < length es → (e : Entry) × (slice_get es k ≡ Some e)
    entry_is [] k lt = absurd (omega (arith, lt))
    entry_is (e ∷ es) zero lt = (e, refl)
    entry_is (e ∷ es) (suc k) lt = entry_is es k (omega (arith, lt))

    new_chain : (p : ℕ) → length log < p → p ≤ length log' → is_chain (entry_at log' p) ≡ false → ⊥
    new_chain zero far within plain = absurd (omega (arith, far))
    new_chain (suc p) far within plain =
        let k = entry_is log' p (omega (arith, within)) in
        let there : entry_at (log ++ g.more) (suc p) ≡ Some k.0 = ap (λ l. entry_at l (suc p)) (sym g.is) ∙ k.1 in
        let i = later_at log g.more (suc p) k.0 there (omega (arith, far)) in
        let c : is_chain (Some k.0) ≡ true = each_slice_get IsOfSearch g.more i.0 k.0 g.of_search i.1 in
        let f : true ≡ false = sym c ∙ sym (ap is_chain k.1) ∙ plain in
        let x : ⊥ = cc in x

-- ---- an equality has a clause

width_some : (s : Sort) (n : ℕ) → IsSort s → plain_width s ≡ Some n → 0 < n
width_some sort.Bool n h e = let q : 1 ≡ n = cc in omega arith
width_some (sort.Word m) n h e = let q : m ≡ n = cc in omega (arith, h.0)
width_some (sort.Array m k) n h e = let q : ⊥ = cc in absurd q

some_gate : (next : ℕ) (a b : List Literal) → 0 < length a → 0 < length b → (c : List Literal) × (slice_get (gates_clauses next (equal_gates next true_literal a b)) 0 ≡ Some c)
some_gate next [] b le lt = absurd (omega (arith, le))
some_gate next (x ∷ a) [] le lt = absurd (omega (arith, lt))
some_gate next (x ∷ a) (y ∷ b) le lt = (negative_of next ∷ x ∷ y ∷ [], refl)

-- the first clause of an equality that may stand behind a log
some_row : (nodes : List Node) (log : List Entry) (t u : ℕ) → IsTermList nodes → IsLog nodes log → IsEqual nodes (state_of nodes log) t u → (c : List Literal) × (slice_get (row_of nodes (state_of nodes log) (step.Equal t u)) 0 ≡ Some c)
some_row nodes log t u all stands h =
    let s = state_of nodes log in
    let a = some_value (s.bits t) h.pair.left in
    let b = some_value (s.bits u) h.pair.right in
    let few : t < length nodes = (let x = h.pair.lower in let y = h.pair.term in omega (arith, x, y)) in
    let one = width_some (sort_of nodes t) (length a.0) (sort_bounded nodes all t few) (bits_width nodes log t a.0 all stands a.1) in
    let two = width_some (sort_of nodes u) (length b.0) (sort_bounded nodes all u h.pair.term) (bits_width nodes log u b.0 all stands b.1) in
    let k = some_gate s.next a.0 b.0 one two in
    (k.0, ap (λ o. slice_get (equal_row s o (s.bits u)) 0) a.1 ∙ ap (λ o. slice_get (equal_row s (Some a.0) o) 0) b.1 ∙ k.1)

-- the rows of a log with a step among others
row_here : (nodes : List Node) (log rest : List Entry) (e : Entry) → (more : List (List (List Literal))) × ((state_of nodes (log ++ e ∷ rest)).clauses ≡ (state_of nodes log).clauses ++ row_of nodes (state_of nodes log) e ∷ more)
row_here nodes log rest e =
    let s = state_of nodes log in
    let k = steps_rows nodes (after nodes s e) rest in
    (k.0, ap (λ (r : LogState). r.clauses) (state_from-append nodes start log (e ∷ rest)) ∙ k.1 ∙ ap (λ rows. rows ++ k.0) (step_adds nodes s e) ∙ append_assoc s.clauses (row_of nodes s e ∷ []) k.0)

pub split_at : (log : List Entry) (k : ℕ) (e : Entry) → slice_get log k ≡ Some e → (before : List Entry) × (rest : List Entry) × (log ≡ before ++ e ∷ rest) × (length before ≡ k)
split_at [] k e h = let f : ⊥ = cc in absurd f
split_at (x ∷ log) zero e h = let q : x ≡ e = cc in ([], log, ap (λ z. z ∷ log) q, refl)
split_at (x ∷ log) (suc k) e h = let r = split_at log k e h in (x ∷ r.0, r.1, ap (λ zs. x ∷ zs) r.2, ap suc r.3)

pub equality_clause : (nodes : List Node) (log : List Entry) (q t u : ℕ) → IsTermList nodes → IsLog nodes log → entry_at log q ≡ Some (step.Equal t u) → (c : List Literal) × (clause_at (state_of nodes log).clauses (record { pos = q; part = 0 }) ≡ Some c)
equality_clause nodes log zero t u all stands e = let f : ⊥ = cc in absurd f
equality_clause nodes log (suc k) t u all stands e =
    let r = split_at log k (step.Equal t u) e in
    let before = r.0 in
    let parts = steps_parts nodes start before (step.Equal t u ∷ r.1) (subst (IsLog nodes) r.2 stands) in
    let row = some_row nodes before t u all parts.0 parts.1.0 in
    let here = row_here nodes before r.1 (step.Equal t u) in
    let rows = (state_of nodes before).clauses in
    let own = row_of nodes (state_of nodes before) (step.Equal t u) in
    let place : suc k ≡ length rows = omega (arith, positions nodes before, r.3) in (
      row.0,
      ap (λ l. clause_at (state_of nodes l).clauses (record { pos = suc k; part = 0 })) r.2
          ∙ ap (λ rs. clause_in (slice_get rs (suc k)) 0) here.1
          ∙ ap (λ i. clause_in (slice_get (rows ++ own ∷ here.0) i) 0) place
          ∙ ap (λ o. clause_in o 0) (slice_get-at rows own here.0)
          ∙ row.1,
    )
