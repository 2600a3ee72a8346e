-- Logs that grow by joining.
use Rattle.std.proofs.Common.{◌≡◌, ℕ, suc, ◌<◌, List, [], ◌∷◌, ◌++◌, length, Some, refl, sym, ap, ◌∙◌, subst, ⊎_elim}
use Rattle.std.specs.Prelude.{Contains}
use Rattle.std.proofs.lemmas.List.Elements.{All-contains, recursion_from_All, All-from_recursion}
use Rattle.cnf_base.specs.Literals.{Literal}
use Rattle.cnf_base.specs.Assignments.{AreBelow}
use Rattle.cnf_base.specs.declared.clause.ClauseId.{ClauseId}
use Rattle.cnf_base.proofs.Lists.{slice_get-at}
use Rattle.smt_terms.specs.declared.node.Node.{Node}
use Rattle.smt_terms.specs.Terms.{TermsValue, IsTermList}
use Rattle.hint_chain.specs.Chains.{IsChain, FindsMore}
use Rattle.proof_log.specs.declared.entry.Entry.{Entry}
use Rattle.proof_log.specs.declared.entry.Entry.TheVariants as step
use Rattle.proof_log.specs.Logs.{clause_at, entry_at, state_of}
use Rattle.proof_log.specs.Boards.{Grows}
use Rattle.proof_log.specs.Faults.{IsValid}
use Rattle.proof_log.specs.Stored.{LogValue, Stands, IsPushed}
use Rattle.proof_log.proofs.Growth.{grows_one, grown_holds, chain_clause}
use Rattle.proof_log.proofs.Standing.{stands_over, clauses_below}
use Rattle.cube_tree.specs.Closing.{first_of}
use Rattle.cube_tree.specs.Resolvents.{IsResolvent, AreHintsOf}
use Rattle.cube_tree.proofs.Resolving.{members, is_chain}

pub grows_chain : (old new : List Entry) (c : List Literal) (hints : List ClauseId) → new ≡ old ++ step.Chain c hints ∷ [] → Grows old new
grows_chain old new c hints e = subst (Grows old) (sym e) (grows_one old (step.Chain c hints) refl)

-- what could be looked up still can
pub finds_more : (nodes : List Node) (old new : LogValue) → Stands nodes old → Stands nodes new → Grows old.entries new.entries → FindsMore (clause_at old.clauses) (clause_at new.clauses)
finds_more nodes old new h k g id c e =
    let a = stands_over nodes old h in
    let b = stands_over nodes new k in
    let was = (grown_holds nodes old.entries new.entries g b.steps).clauses id c (ap (λ rows. clause_at rows id) (sym a.clauses) ∙ e) in
    ap (λ rows. clause_at rows id) b.clauses ∙ was

-- the clause of a chain that was put has the name of the next position
pub put_found : (nodes : List Node) (old new : LogValue) (c : List Literal) (hints : List ClauseId) (p : ℕ) → IsPushed nodes old new (step.Chain c hints) p → clause_at new.clauses (first_of p) ≡ Some c
put_found nodes old new c hints p k =
    let b = stands_over nodes new k.stands in
    let there : entry_at new.entries p ≡ Some (step.Chain c hints) = ap (entry_at new.entries) k.position ∙ ap (λ l. entry_at l (suc (length old.entries))) k.entries ∙ slice_get-at old.entries (step.Chain c hints) [] in
    ap (λ rows. clause_at rows (first_of p)) b.clauses ∙ chain_clause nodes new.entries p c hints there

-- a resolvent of two clauses of the log is a valid chain
pub resolvent_valid : (v : TermsValue) (log : LogValue) (first second clause : List Literal) (l : Literal) (a b : ClauseId) (hints : List ClauseId) → IsTermList v.nodes → Stands v.nodes log
    → clause_at log.clauses a ≡ Some first → clause_at log.clauses b ≡ Some second → IsResolvent first second clause l → Contains first l → AreHintsOf clause l a b hints
    → IsValid v (state_of v.nodes log.entries) (step.Chain clause hints)
resolvent_valid v log first second clause l a b hints listed h e0 e1 r has are =
    let kept = stands_over v.nodes log h in
    let P : Literal → Type 0 = λ k. k.variable < log.next in
    let h0 = All-from_recursion P first (clauses_below v.nodes log a first listed kept e0) in
    let h1 = All-from_recursion P second (clauses_below v.nodes log b second listed kept e1) in
    let below : AreBelow log.next clause = recursion_from_All P clause (members P clause (λ k inside. ⊎_elim (λ p. All-contains P first k h0 p.0) (λ p. All-contains P second k h1 p.0) (r.only k inside))) in
    let chain = is_chain (clause_at log.clauses) first second clause l a b e0 e1 r has hints are in
    (subst (λ n. AreBelow n clause) kept.next below, subst (λ rows. IsChain (clause_at rows) clause hints) kept.clauses chain)
