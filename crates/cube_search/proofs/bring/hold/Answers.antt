use Rattle.std.proofs.Common.{◌≡◌, List, Some, sym, ap, ◌∙◌, subst}
use Rattle.cnf_base.specs.Literals.{Literal}
use Rattle.cdcl_core.specs.Search.{clause_of, held_of}
use Rattle.cdcl_loop.specs.declared.engine.Engine.{Engine}
use Rattle.cube_search.specs.Holding.{IsListing}
use Rattle.cube_search.proofs.bring.hold.Goals as goal

pub returns-clause-listing : goal.returns-clause-listing
returns-clause-listing c =
    let old = c.args.engine.now in
    let first = c.list_all.new.engine in
    subst (λ xs. IsListing old.agenda.list c.args.clause.now xs) (sym (ap (λ (e : Engine). e.agenda.list) c.wake.ensures.same ∙ ap (λ (e : Engine). e.agenda.list) c.store.ensures.same))
    (subst (λ (ls : List Literal). IsListing old.agenda.list ls first.agenda.list) c.literals.ensures c.in_ok-list_all.ensures.listed)

pub returns-clause-held : goal.returns-clause-held
returns-clause-held c = λ sound.
    let kept : clause_of c.store.new.engine.watches c.args.id ≡ Some c.args.clause.now =
    c.in_ok-store.ensures.kept (λ d e. sound d (sym (ap (λ (x : Engine). clause_of x.watches c.args.id) c.in_ok-list_all.ensures.same) ∙ e)) in
    (c.wake.ensures.kept c.args.id ∙ kept, c.wake.ensures.held ∙ kept)

pub returns-clause-others : goal.returns-clause-others
returns-clause-others c =
    let same = c.in_ok-list_all.ensures.same in
    record {
      kept = λ q ne. c.wake.ensures.kept q ∙ c.store.ensures.others.kept q ne ∙ ap (λ (e : Engine). clause_of e.watches q) same;
      held = λ q ne. c.wake.ensures.others q ne ∙ c.store.ensures.others.held q ne ∙ ap (λ (e : Engine). held_of e.watches q) same;
    }
