-- The steps that give the equalities of terms their variables.
use Rattle.std.proofs.Common.{◌≡◌, ℕ, zero, suc, ◌+◌, Bool, true, false, List, [], ◌∷◌, ◌++◌, length, Option, Some, None, refl, sym, ap, ◌∙◌, subst, arith}
use Rattle.std.specs.Prelude.{◌==◌, ◌&&◌, if◌then◌else◌, IsSome, slice_get}
use Rattle.std.specs.List.{AllByRecursion}
use Rattle.std.proofs.lemmas.Bool.{eqb-true, eq-eqb, and_parts}
use Rattle.cnf_base.specs.Literals.{Literal, true_literal}
use Rattle.cnf_base.specs.Choices.{equal_bit}
use Rattle.cnf_base.proofs.Lists.{each_member}
use Rattle.smt_terms.specs.declared.node.Node.{Node}
use Rattle.proof_log.specs.declared.equals.EqualRow.{EqualRow}
use Rattle.proof_log.specs.declared.entry.Entry.{Entry}
use Rattle.proof_log.specs.declared.entry.Entry.TheVariants as step
use Rattle.proof_log.specs.Pairs.{with_pair, found}
use Rattle.proof_log.specs.Logs.{LogState, start, entry_at, IsStep, IsEqual, equal_after, after, state_from, state_of, AreSteps, IsLog}
use Rattle.proof_log.specs.Places.{is_equality, place_from, place_of_pair}
use Rattle.proof_log.specs.Stored.{LogValue, row_literal, row_place, pair_place, Stands}
use Rattle.proof_log.proofs.Selecting.{log_pairs}
use Rattle.proof_log.proofs.Standing.{stands_over}
use Rattle.proof_log.proofs.Staying.{step_holds, steps_hold}

-- ---- which step is one

pub equality_here : (t u : ℕ) → is_equality t u (step.Equal t u) ≡ true
equality_here t u = (λ i. eq-eqb t t refl i && eq-eqb u u refl i)

pub equality_is : (t u : ℕ) (e : Entry) → is_equality t u e ≡ true → e ≡ step.Equal t u
equality_is t u (step.Equal x y) h =
    let p = and_parts (x == t) (y == u) h in
    ap (λ z. step.Equal z y) (eqb-true x t p.0) ∙ ap (step.Equal t) (eqb-true y u p.1)
equality_is t u e h = let f : ⊥ = cc in absurd f

-- ---- where none stands

none_each : (p : ℕ) (log : List Entry) (t u : ℕ) → place_from p log t u ≡ None → AllByRecursion (λ e. is_equality t u e ≡ false) log
none_each p [] t u h = tt
none_each p (e ∷ log) t u h = go (none_each (suc p) log t u) (is_equality t u e) refl
  where
    go : (place_from (suc p) log t u ≡ None → AllByRecursion (λ x. is_equality t u x ≡ false) log)
        → (b : Bool) → is_equality t u e ≡ b → (is_equality t u e ≡ false) × AllByRecursion (λ x. is_equality t u x ≡ false) log
    go rest true q = let r : Some p ≡ None = subst (λ c. (if c then Some p else place_from (suc p) log t u) ≡ None) q h in let f : ⊥ = cc in absurd f
    go rest false q = (q, rest (subst (λ c. (if c then Some p else place_from (suc p) log t u) ≡ None) q h))

-- in whatever list of steps, a pair of which no step stands has no variable
pub no_variable : (nodes : List Node) (log : List Entry) (t u : ℕ) → place_of_pair log t u ≡ None → (state_of nodes log).equals t u ≡ None
no_variable nodes log t u h = go ((state_of nodes log).equals t u) refl
  where
    go : (o : Option Literal) → (state_of nodes log).equals t u ≡ o → (state_of nodes log).equals t u ≡ None
    go None q = q
    go (Some l) q =
        let r : is_equality t u (step.Equal t u) ≡ false =
        each_member (λ e. is_equality t u e ≡ false) log (step.Equal t u) (none_each 1 log t u h) (log_pairs nodes log t u l q) in
        let s : true ≡ false = sym (equality_here t u) ∙ r in
        let f : ⊥ = cc in absurd f

-- ---- one step more

abbrev pub first_of : Option ℕ → Option ℕ → Option ℕ
first_of None o = o
first_of (Some p) o = Some p

-- the position, if the step is of the pair
abbrev pub place_at : Bool → ℕ → Option ℕ
place_at true p = Some p
place_at false p = None

place_push : (p : ℕ) (log : List Entry) (e : Entry) (t u : ℕ) → place_from p (log ++ e ∷ []) t u ≡ first_of (place_from p log t u) (place_at (is_equality t u e) (p + length log))
place_push p [] e t u = go (is_equality t u e) ∙ ap (place_at (is_equality t u e)) (let q : p ≡ p + 0 = omega arith in q)
  where
    go : (b : Bool) → (let o : Option ℕ = if b then Some p else None in o) ≡ place_at b p
    go true = refl
    go false = refl
place_push p (d ∷ log) e t u =
    go
    (place_push (suc p) log e t u
    ∙ ap (λ n. first_of (place_from (suc p) log t u) (place_at (is_equality t u e) n)) (let q : suc p + length log ≡ p + suc (length log) = omega arith in q))
    (is_equality t u d)
  where
    go : place_from (suc p) (log ++ e ∷ []) t u ≡ first_of (place_from (suc p) log t u) (place_at (is_equality t u e) (p + suc (length log)))
        → (b : Bool) → (if b then Some p else place_from (suc p) (log ++ e ∷ []) t u) ≡ first_of (if b then Some p else place_from (suc p) log t u) (place_at (is_equality t u e) (p + suc (length log)))
    go next true = refl
    go next false = next

-- the position of a pair where one step more stands
pub place_more : (log : List Entry) (e : Entry) (t u : ℕ) → place_of_pair (log ++ e ∷ []) t u ≡ first_of (place_of_pair log t u) (place_at (is_equality t u e) (suc (length log)))
place_more log e t u =
    place_push 1 log e t u ∙ ap (λ n. first_of (place_of_pair log t u) (place_at (is_equality t u e) n)) (let q : 1 + length log ≡ suc (length log) = omega arith in q)

pub first_none : (o : Option ℕ) → first_of o None ≡ o
first_none None = refl
first_none (Some p) = refl

-- a step of no equality leaves the positions
pub place_stays : (log : List Entry) (e : Entry) (t u : ℕ) → is_equality t u e ≡ false → place_of_pair (log ++ e ∷ []) t u ≡ place_of_pair log t u
place_stays log e t u h =
    place_more log e t u ∙ ap (λ b. first_of (place_of_pair log t u) (place_at b (suc (length log)))) h ∙ first_none (place_of_pair log t u)

-- ---- valid steps

pair_here : {A : Type 0} (f : ℕ → ℕ → Option A) (t u : ℕ) (a : A) → with_pair f t u a t u ≡ Some a
pair_here f t u a = (λ i. if eq-eqb t t refl i && eq-eqb u u refl i then Some a else f t u)

paired : (s : LogState) (t u : ℕ) (o p : Option (List Literal)) → IsSome o → IsSome p → (l : Literal) × ((equal_after s t u o p).equals t u ≡ Some l)
paired s t u None p h k = let f : ⊥ = cc in absurd f
paired s t u (Some a) None h k = let f : ⊥ = cc in absurd f
paired s t u (Some a) (Some b) h k = (equal_bit s.next true_literal a b, pair_here s.equals t u (equal_bit s.next true_literal a b))

variable_from : (nodes : List Node) (s : LogState) (log : List Entry) (i t u : ℕ) → AreSteps nodes s log → slice_get log i ≡ Some (step.Equal t u) → (l : Literal) × ((state_from nodes s log).equals t u ≡ Some l)
variable_from nodes s [] i t u h e = let f : ⊥ = cc in absurd f
variable_from nodes s (d ∷ log) zero t u h e =
    let q : d ≡ step.Equal t u = cc in
    let v : IsEqual nodes s t u = subst (IsStep nodes s) q h.0 in
    let k = paired s t u (s.bits t) (s.bits u) v.pair.left v.pair.right in
    (k.0, (steps_hold nodes (after nodes s d) log h.1).equals t u k.0 (subst (λ x. (after nodes s x).equals t u ≡ Some k.0) (sym q) k.1))
variable_from nodes s (d ∷ log) (suc i) t u h e = variable_from nodes (after nodes s d) log i t u h.1 e

-- a pair of which a step of the log stands has a variable
pub variable_there : (nodes : List Node) (log : List Entry) (p t u : ℕ) → IsLog nodes log → entry_at log p ≡ Some (step.Equal t u) → (l : Literal) × ((state_of nodes log).equals t u ≡ Some l)
variable_there nodes log zero t u h e = let f : ⊥ = cc in absurd f
variable_there nodes log (suc p) t u h e = variable_from nodes start log p t u h e

-- a pair that has a variable gets no second one
no_second : (nodes : List Node) (s : LogState) (log : List Entry) (i t u : ℕ) (l : Literal) → AreSteps nodes s log → s.equals t u ≡ Some l → slice_get log i ≡ Some (step.Equal t u) → ⊥
no_second nodes s [] i t u l h k e = cc
no_second nodes s (d ∷ log) zero t u l h k e =
    let q : d ≡ step.Equal t u = cc in
    let v : IsEqual nodes s t u = subst (IsStep nodes s) q h.0 in
    let n : s.equals t u ≡ None = v.new in
    cc
no_second nodes s (d ∷ log) (suc i) t u l h k e = no_second nodes (after nodes s d) log i t u l h.1 ((step_holds nodes s d h.0).equals t u l k) e

place_found : (nodes : List Node) (s : LogState) (log : List Entry) (p i t u : ℕ) → AreSteps nodes s log → slice_get log i ≡ Some (step.Equal t u) → place_from p log t u ≡ Some (p + i)
place_found nodes s [] p i t u h e = let f : ⊥ = cc in absurd f
place_found nodes s (d ∷ log) p zero t u h e =
    let q : d ≡ step.Equal t u = cc in
    let y : is_equality t u d ≡ true = ap (is_equality t u) q ∙ equality_here t u in
    let n : p ≡ p + 0 = omega arith in
    ap (λ b. if b then Some p else place_from (suc p) log t u) y ∙ ap Some n
place_found nodes s (d ∷ log) p (suc i) t u h e = go (place_found nodes (after nodes s d) log (suc p) i t u h.1 e) (is_equality t u d) refl
  where
    go : place_from (suc p) log t u ≡ Some (suc p + i) → (b : Bool) → is_equality t u d ≡ b → (if is_equality t u d then Some p else place_from (suc p) log t u) ≡ Some (p + suc i)
    go rest true y =
        let k = variable_from nodes s (d ∷ []) 0 t u (h.0, tt) (ap Some (equality_is t u d y)) in
        absurd (no_second nodes (after nodes s d) log i t u k.0 h.1 k.1 e)
    go rest false y =
        let n : suc p + i ≡ p + suc i = omega arith in
        ap (λ b. if b then Some p else place_from (suc p) log t u) y ∙ rest ∙ ap Some n

-- the step at this position is the only one of its pair
pub place_there : (nodes : List Node) (log : List Entry) (p t u : ℕ) → IsLog nodes log → entry_at log p ≡ Some (step.Equal t u) → place_of_pair log t u ≡ Some p
place_there nodes log zero t u h e = let f : ⊥ = cc in absurd f
place_there nodes log (suc p) t u h e = let n : 1 + p ≡ suc p = omega arith in place_found nodes start log 1 p t u h e ∙ ap Some n

-- the step that a position is that of
step_from : (p : ℕ) (log : List Entry) (t u q : ℕ) → place_from p log t u ≡ Some q → (i : ℕ) × (q ≡ p + i) × (slice_get log i ≡ Some (step.Equal t u))
step_from p [] t u q h = let f : ⊥ = cc in absurd f
step_from p (d ∷ log) t u q h = go (step_from (suc p) log t u q) (is_equality t u d) refl
  where
    go : (place_from (suc p) log t u ≡ Some q → (i : ℕ) × (q ≡ suc p + i) × (slice_get log i ≡ Some (step.Equal t u)))
        → (b : Bool) → is_equality t u d ≡ b → (i : ℕ) × (q ≡ p + i) × (slice_get (d ∷ log) i ≡ Some (step.Equal t u))
    go rest true y =
        let r : Some p ≡ Some q = subst (λ c. (if c then Some p else place_from (suc p) log t u) ≡ Some q) y h in
        let n : p ≡ q = cc in
        (0, omega (arith, n), ap Some (equality_is t u d y))
    go rest false y =
        let k = rest (subst (λ c. (if c then Some p else place_from (suc p) log t u) ≡ Some q) y h) in
        (suc k.0, omega (arith, k.1), k.2)

pub place_step : (log : List Entry) (t u q : ℕ) → place_of_pair log t u ≡ Some q → entry_at log q ≡ Some (step.Equal t u)
place_step log t u q h =
    let k = step_from 1 log t u q h in
    let n : q ≡ suc k.0 = omega (arith, k.1) in
    ap (entry_at log) n ∙ k.2

-- ---- a stored log

pub row_found : (o : Option EqualRow) (p : ℕ) → row_place o ≡ Some p → (r : EqualRow) × (o ≡ Some r) × (r.place ≡ p)
row_found None p h = let f : ⊥ = cc in absurd f
row_found (Some r) p h = let q : r.place ≡ p = cc in (r, refl, q)

no_row : (o : Option EqualRow) → row_place o ≡ None → row_literal o ≡ None
no_row None h = refl
no_row (Some r) h = let f : ⊥ = cc in absurd f

-- what is kept of a pair is the position of its step
pub held_place : (nodes : List Node) (l : LogValue) (t u p : ℕ) → Stands nodes l → pair_place l.equals t u ≡ Some p → entry_at l.entries p ≡ Some (step.Equal t u)
held_place nodes l t u p h e =
    let k = stands_over nodes l h in
    let r = row_found (found l.equals t u) p e in
    subst (λ q. entry_at l.entries q ≡ Some (step.Equal t u)) r.2 (k.pairs t u r.0 r.1)

-- and where nothing is kept it has no variable
pub no_held : (nodes : List Node) (l : LogValue) (t u : ℕ) → Stands nodes l → pair_place l.equals t u ≡ None → (state_of nodes l.entries).equals t u ≡ None
no_held nodes l t u h e = let k = stands_over nodes l h in sym (k.equals t u) ∙ no_row (found l.equals t u) e

pub held_is_place : (nodes : List Node) (l : LogValue) (t u : ℕ) → Stands nodes l → pair_place l.equals t u ≡ place_of_pair l.entries t u
held_is_place nodes l t u h = go (pair_place l.equals t u) refl
  where
    steps : IsLog nodes l.entries
    steps = (stands_over nodes l h).steps

    none : (o : Option ℕ) → place_of_pair l.entries t u ≡ o → (state_of nodes l.entries).equals t u ≡ None → None ≡ place_of_pair l.entries t u
    none None q n = sym q
    none (Some p) q n =
        let k = variable_there nodes l.entries p t u steps (place_step l.entries t u p q) in
        let r : None ≡ Some k.0 = sym n ∙ k.1 in
        let f : ⊥ = cc in absurd f

    go : (o : Option ℕ) → pair_place l.equals t u ≡ o → pair_place l.equals t u ≡ place_of_pair l.entries t u
    go (Some p) q = q ∙ sym (place_there nodes l.entries p t u steps (held_place nodes l t u p h q))
    go None q = q ∙ none (place_of_pair l.entries t u) refl (no_held nodes l t u h q)
