use Rattle.std.proofs.Common.{◌≡◌, ℕ, List, ap, ◌∙◌, subst, sym, ⊎_elim, inl, inr, arith}
use Rattle.std.specs.Prelude.{Contains}
use Rattle.proof_log.specs.Logs.{state_of}
use Rattle.cdcl_core.specs.Search.{clause_of}
use Rattle.cube_search.specs.Holding.{IsTold, IsFilling, AreLeft}
use Rattle.cube_search.specs.Running.{IsSearchOf}
use Rattle.cube_search.proofs.Waking.{retargeted}
use Rattle.cube_search.proofs.search.Search.retarget.Goals as goal

pub returns-clause-search : goal.returns-clause-search
returns-clause-search g c =
    let nodes = g.B.Board.nodes c.args.board.now in
    let log = g.B.Board.log c.args.board.now in
    let rows = (state_of nodes log).clauses in
    let old = c.args.self.now in
    let b = c.go_on.new.self in
    let n = c.sort_chains.new.engine in
    let ps = c.args.positions.now in
    let same : b.opening.items ≡ ps = c.in_ok-go_on.ensures.opening in
    let was : c.as_slice.result.now ≡ old.taken.items = c.as_slice.ensures.value ∙ ap (λ v. v.items) (c.in_ok-go_on.ensures.taken ∙ c.in_ok-stay.ensures.taken) in
    let filling : IsFilling b.engine.watches rows b.engine.agenda.list ps b.ends.items ps old.taken.items =
    subst (λ (os : List ℕ). IsFilling b.engine.watches rows b.engine.agenda.list os b.ends.items ps old.taken.items) same
    (subst (λ (ts : List ℕ). IsFilling b.engine.watches rows b.engine.agenda.list b.opening.items b.ends.items ps ts) (ap (λ v. v.items) c.in_ok-stay.ensures.taken) c.in_ok-go_on.ensures.filling) in
    let listed : n.agenda.list ≡ b.engine.agenda.list = c.in_ok-self.ensures.listed in
    let left = c.in_ok-self.field-0.items in
    let search : IsSearchOf n.watches b.engine.agenda.list ps left c.args.from c.args.from nodes log =
    retargeted nodes log old.engine.watches b.engine.watches n.watches b.engine.agenda.list ps b.ends.items old.taken.items left c.args.from c.args.from c.requires.listed c.requires.stands
    (λ p k. let lt = c.requires.below p k in omega (arith, lt, c.requires.from)) c.requires.plain c.requires.resting.chains c.requires.resting.stored
    (λ id d e not_chain. inl (c.requires.stored id d e not_chain))
    (λ id d e. ⊎_elim (λ x. inl (c.in_ok-stay.ensures.fewer id d x)) (λ k. inr k) (c.in_ok-go_on.ensures.came id d e))
    filling c.in_ok-self.ensures.kept
    (λ q un. c.in_ok-self.ensures.others q (λ k. un (subst (λ (ts : List ℕ). Contains ts q.pos) was k)))
    (λ q d e. ⊎_elim (λ x. inl x) (λ k. inr (subst (λ (ts : List ℕ). Contains ts q.pos) was k)) (c.in_ok-self.ensures.came q d e))
    (λ p k. c.in_ok-self.ensures.sorted p (subst (λ (ts : List ℕ). Contains ts p) (sym was) k))
    (subst (λ (ts : List ℕ). AreLeft (clause_of b.engine.watches) ts left) was c.in_ok-self.ensures.left)
    (omega arith) c.requires.from in (
      c.in_ok-self.ensures.engine,
      subst (λ (xs : List ℕ). IsSearchOf n.watches xs b.opening.items left c.args.from c.args.from nodes log) (sym listed)
          (subst (λ (os : List ℕ). IsSearchOf n.watches b.engine.agenda.list os left c.args.from c.args.from nodes log) (sym same) search),
      subst (λ (xs : List ℕ). IsTold rows xs b.opening.items b.ends.items) (sym listed)
          (subst (λ (os : List ℕ). IsTold rows b.engine.agenda.list os b.ends.items) (sym same) filling.told),
    )
