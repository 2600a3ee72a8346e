-- A check over all steps of a log that are no chains is one that may be searched.
use Rattle.std.proofs.Common.{◌≡◌, ℕ, zero, suc, ◌+◌, ◌<◌, ◌≤◌, Bool, true, false, not, List, [], length, Some, refl, sym, ap, ◌∙◌, subst, inl, inr, ⊎_elim, arith}
use Rattle.std.specs.Prelude.{◌⊎◌, Contains, All, IsTrue, slice_get}
use Rattle.std.proofs.lemmas.Bool.{cases_lt}
use Rattle.std.proofs.lemmas.Option.{slice_get_past}
use Rattle.cnf_base.specs.Literals.{Literal}
use Rattle.cnf_base.specs.Assignments.{AreBelow}
use Rattle.smt_terms.specs.declared.node.Node.{Node}
use Rattle.proof_log.specs.declared.entry.Entry.{Entry}
use Rattle.proof_log.specs.Logs.{entry_at, state_of}
use Rattle.proof_log.specs.Stored.{LogValue, Stands}
use Rattle.proof_log.specs.Diaries.{is_chain}
use Rattle.proof_log.proofs.Standing.{stands_over}
use Rattle.cube_workers.specs.declared.kept.KeptSearch.{KeptSearch}
use Rattle.cube_workers.specs.Searched.{IsProblem, problem}
use Rattle.cube_workers.specs.Crews.{AreAtRest}
use Rattle.workers_client.specs.declared.steps.Asked.{Asked}
use Rattle.workers_client.specs.Asking.{ArePlainBelow, ArePlain, IsAsked}

-- ---- the positions

none_plain : (log : List Entry) → ArePlainBelow log [] 0
none_plain log = record {
  below = λ p h. let lt = h.1 in absurd (omega (arith, lt));
  plain = λ p h. let lt = h.1 in absurd (omega (arith, lt));
  all = λ p lt none. absurd (omega (arith, lt));
}

pub plain_none : (log : List Entry) (positions : List ℕ) → positions ≡ [] → ArePlainBelow log positions 0
plain_none log positions is = subst (λ ps. ArePlainBelow log ps 0) (sym is) (none_plain log)

true_is : (b : Bool) → IsTrue (not b) → b ≡ false
true_is true h = let e : false ≡ true = h in let f : ⊥ = cc in absurd f
true_is false h = refl

is_true : (b : Bool) → b ≡ false → IsTrue (not b)
is_true b e = ap not e

-- one position more was looked at
pub plain_more : (log : List Entry) (at : ℕ) (old new : List ℕ) (b : Bool) → b ≡ is_chain (entry_at log at) → ((p : ℕ) → Contains old p → Contains new p) → (IsTrue (not b) → Contains new at)
    → ((p : ℕ) → Contains new p → Contains old p ⊎ ((p ≡ at) × IsTrue (not b))) → ArePlainBelow log old at → ArePlainBelow log new (at + 1)
plain_more log at old new b is kept here only h = record {
  below = λ p k. ⊎_elim (λ was. let lt = h.below p was in omega (arith, lt)) (λ (now : (p ≡ at) × IsTrue (not b)). let same = now.0 in omega (arith, same)) (only p k);
  plain = λ p k. ⊎_elim
      (λ was. h.plain p was)
      (λ (now : (p ≡ at) × IsTrue (not b)). ap (λ q. is_chain (entry_at log q)) now.0 ∙ sym is ∙ true_is b now.1)
      (only p k);
  all = λ p lt none. ⊎_elim
      (λ (before : p < at). kept p (h.all p before none))
      (λ (now : p ≡ at). subst (Contains new) (sym now) (here (is_true b (is ∙ ap (λ q. is_chain (entry_at log q)) (sym now) ∙ none))))
      (below_or p at lt);
}
  where
    below_or : (p at : ℕ) → p < at + 1 → (p < at) ⊎ (p ≡ at)
    below_or p at lt = ⊎_elim (λ less. inl less) (λ (ge : at ≤ p). inr (omega (arith, lt, ge))) (cases_lt p at)

pub plain_all : (log : List Entry) (positions : List ℕ) (at : ℕ) → at ≡ suc (length log) → ArePlainBelow log positions at → ArePlain log positions
plain_all log positions at is h = subst (ArePlainBelow log positions) is h

-- ---- the problem

-- behind the last step there is none
none_behind : (log : List Entry) (at : ℕ) (e : Entry) → suc (length log) ≤ at → entry_at log at ≡ Some e → ⊥
none_behind log zero e le h = omega (arith, le)
none_behind log (suc p) e le h = let no = sym (slice_get_past log p (omega (arith, le))) ∙ h in let f : ⊥ = cc in f

pub problem_of_all : (nodes : List Node) (log : LogValue) (places variables : List ℕ) (given : List Literal) (budget : ℕ) (a : Asked) → Stands nodes log → IsAsked log a → places ≡ a.positions.items → variables ≡ a.tree → given ≡ a.assumed.items → IsProblem (problem nodes log.entries places variables given budget) log.entries
problem_of_all nodes log places variables given budget a stands h positions tree assumed =
    let next = (stands_over nodes log stands).next in
    record {
      positions = λ at among. h.positions.below at (subst (λ l. Contains l at) positions among);
      begun = omega arith;
      from = omega arith;
      plain = λ at among. h.positions.plain at (subst (λ l. Contains l at) positions among);
      chains = λ at e le here. absurd (none_behind log.entries at e le here);
      separate = λ id c lt none found. inl (subst (λ l. Contains l id.pos) (sym positions) (h.positions.all id.pos lt none));
      variables = subst (λ n. All (λ x. x < n) variables) next (subst (λ l. All (λ x. x < log.next) l) (sym tree) h.variables);
      assumed = subst (λ n. AreBelow n given) next (subst (AreBelow log.next) (sym assumed) h.assumed);
    }

pub none_rest : (log : LogValue) (xs : List KeptSearch) → xs ≡ [] → AreAtRest log xs
none_rest log xs is i s e = let no = sym (ap (λ l. slice_get l i) is) ∙ e in let f : ⊥ = cc in absurd f
