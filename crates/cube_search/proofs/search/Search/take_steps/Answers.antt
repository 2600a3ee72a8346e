use Rattle.std.proofs.Common.{◌≡◌, ℕ, List, refl, sym, ap, ◌∙◌, subst, inl, inr, ⊎_elim}
use Rattle.std.specs.Prelude.{Contains}
use Rattle.proof_log.specs.Logs.{state_of}
use Rattle.cdcl_core.specs.Search.{clause_of}
use Rattle.cdcl_loop.specs.declared.engine.Engine.{Engine}
use Rattle.cube_search.specs.declared.search.Search.{Search}
use Rattle.cube_search.specs.Holding.{IsTold, AreLeft}
use Rattle.cube_search.specs.Running.{variables_in, IsSearchOf}
use Rattle.cube_search.proofs.Adding.{began_filling, began_search, added_search, kept_added}
use Rattle.cube_search.proofs.Moving.{search_moved, kept_moved}
use Rattle.cube_search.proofs.search.Search.take_steps.Goals as goal

pub hold_steps-requires-clause-filling : goal.hold_steps-requires-clause-filling
hold_steps-requires-clause-filling g c = began_filling c.args.self.now c.go_back.new.self (g.B.Board.nodes c.args.board.now) (g.B.Board.log c.args.board.now) (ap (λ (x : Engine). x.watches) c.go_back.ensures.same) c.go_back.ensures.task.listed c.requires.search

pub returns-clause-search : goal.returns-clause-search
returns-clause-search g c =
    let nodes = g.B.Board.nodes c.args.board.now in
    let log = g.B.Board.log c.args.board.now in
    let rows = (state_of nodes log).clauses in
    let s = c.args.self.now in
    let b = c.hold_steps.new.self in
    let n = c.sort_chains.new.engine in
    let left = c.in_ok-self.field-0.items in
    let listed : n.agenda.list ≡ b.engine.agenda.list = c.in_ok-self.ensures.listed in
    let was = c.as_slice.ensures.value in
    let search : IsSearchOf n.watches (variables_in b) b.opening.items left b.from b.seen nodes log =
    added_search nodes log (record s { engine = c.go_back.new.self }) b n.watches left
    (began_search s c.go_back.new.self nodes log (ap (λ (x : Engine). x.watches) c.go_back.ensures.same) c.go_back.ensures.task.listed c.requires.search)
    c.in_ok-hold_steps.ensures.adding c.in_ok-self.ensures.kept
    (λ q un. c.in_ok-self.ensures.others q (λ k. un (subst (λ (ts : List ℕ). Contains ts q.pos) was k)))
    (λ q d e. ⊎_elim (λ x. inl x) (λ k. inr (subst (λ (ts : List ℕ). Contains ts q.pos) was k)) (c.in_ok-self.ensures.came q d e))
    (λ p k. c.in_ok-self.ensures.sorted p (subst (λ (ts : List ℕ). Contains ts p) (sym was) k))
    (subst (λ (ts : List ℕ). AreLeft (clause_of b.engine.watches) ts left) was c.in_ok-self.ensures.left) in (
      c.in_ok-self.ensures.engine,
      subst (λ (xs : List ℕ). IsSearchOf n.watches xs b.opening.items left b.from b.seen nodes log) (sym listed) search,
      subst (λ (xs : List ℕ). IsTold rows xs b.opening.items b.ends.items) (sym listed) c.in_ok-hold_steps.ensures.adding.filling.told,
    )

pub returns-clause-from : goal.returns-clause-from
returns-clause-from g c = c.in_ok-hold_steps.ensures.adding.from

pub returns-clause-given : goal.returns-clause-given
returns-clause-given g c = ap (λ v. v.items) (c.in_ok-self.ensures.given ∙ c.in_ok-hold_steps.ensures.adding.given ∙ c.go_back.ensures.task.given)

pub returns-clause-longer : goal.returns-clause-longer
returns-clause-longer g c = c.in_ok-hold_steps.ensures.adding.opening

pub returns-clause-only : goal.returns-clause-only
returns-clause-only g c = c.in_ok-hold_steps.ensures.adding.only

pub returns-clause-came : goal.returns-clause-came
returns-clause-came g c = c.in_ok-hold_steps.ensures.came

pub returns-clause-all : goal.returns-clause-all
returns-clause-all g c = c.in_ok-hold_steps.ensures.all

pub returns-clause-lined : goal.returns-clause-lined
returns-clause-lined g c = (c.in_ok-hold_steps.ensures.adding.noted c.args.self.now.engine.given.items c.args.self.now.from).lined

pub returns-clause-writing : goal.returns-clause-writing
returns-clause-writing g c = λ w separate.
    let nodes = g.B.Board.nodes c.args.board.now in
    let log = g.B.Board.log c.args.board.now in
    let s = c.args.self.now in
    let a : Search = record s { engine = c.go_back.new.self } in
    let b = c.hold_steps.new.self in
    let n = c.sort_chains.new.engine in
    let left = c.in_ok-self.field-0.items in
    let was = c.as_slice.ensures.value in
    let adding = c.in_ok-hold_steps.ensures.adding in
    let watches = ap (λ (x : Engine). x.watches) c.go_back.ensures.same in
    let before = began_search s c.go_back.new.self nodes log watches c.go_back.ensures.task.listed c.requires.search in
    let are : AreLeft (clause_of b.engine.watches) b.taken.items left = subst (λ (ts : List ℕ). AreLeft (clause_of b.engine.watches) ts left) was c.in_ok-self.ensures.left in
    let now : IsSearchOf n.watches (variables_in b) b.opening.items left b.from b.seen nodes log =
    added_search nodes log a b n.watches left before adding c.in_ok-self.ensures.kept
    (λ q un. c.in_ok-self.ensures.others q (λ k. un (subst (λ (ts : List ℕ). Contains ts q.pos) was k)))
    (λ q d e. ⊎_elim (λ x. inl x) (λ k. inr (subst (λ (ts : List ℕ). Contains ts q.pos) was k)) (c.in_ok-self.ensures.came q d e))
    (λ p k. c.in_ok-self.ensures.sorted p (subst (λ (ts : List ℕ). Contains ts p) (sym was) k))
    are in
    kept_moved nodes log s.engine.given.items n.given.items s.from b.from n.watches n.watches (variables_in b) n.agenda.list b.diary s.seen b.seen
    (ap (λ v. v.items) (c.in_ok-self.ensures.given ∙ adding.given ∙ c.go_back.ensures.task.given)) adding.from refl c.in_ok-self.ensures.listed adding.seen
    (kept_added nodes log s.engine.given.items s.from s.seen a b n.watches left before adding c.in_ok-self.ensures.kept
    (subst (λ (ts : List ℕ). AreLeft (clause_of b.engine.watches) ts left) (ap (λ v. v.items) adding.taken) are)
    (search_moved n.watches n.watches (variables_in b) (variables_in b) b.opening.items b.opening.items left left b.from s.from b.seen s.seen nodes log refl refl refl refl (sym adding.from) (sym adding.seen) now)
    separate
    (kept_moved nodes log s.engine.given.items s.engine.given.items s.from s.from s.engine.watches c.go_back.new.self.watches (variables_in s) c.go_back.new.self.agenda.list s.diary s.seen s.seen refl refl watches c.go_back.ensures.task.listed refl w))
