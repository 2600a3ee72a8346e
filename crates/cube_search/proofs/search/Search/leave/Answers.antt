use Rattle.std.proofs.Common.{◌≡◌, ◌≤◌, ℕ, List, length, take, sym, ap, ◌∙◌, subst}
use Rattle.std.specs.Prelude.{Contains}
use Rattle.proof_log.specs.Logs.{state_of}
use Rattle.cdcl_core.specs.declared.watches.Watches.{Watches}
use Rattle.cdcl_core.specs.Search.{clause_of}
use Rattle.cdcl_loop.specs.declared.engine.Engine.{Engine}
use Rattle.cube_search.specs.Holding.{IsThinned, listed_before}
use Rattle.cube_search.proofs.Leaving.{thinned_then}
use Rattle.cube_search.proofs.Waking.{thinned_gapless, left_filling}
use Rattle.cube_search.proofs.search.Search.leave.Goals as goal

pub returns-clause-opening : goal.returns-clause-opening
returns-clause-opening g c = c.truncate.ensures.items ∙ ap (λ (ls : List ℕ). take c.shared-stay.result ls) (sym c.as_slice.ensures.value) ∙ c.shared-stay.ensures.same

pub returns-clause-filling : goal.returns-clause-filling
returns-clause-filling g c =
    let s = c.args.self.now in
    let log = g.B.Board.log c.args.board.now in
    let rows = (state_of (g.B.Board.nodes c.args.board.now) log).clauses in
    let v = c.forget.new.engine.watches in
    let w = c.park_others.new.engine.watches in
    let thinned : IsThinned log s.engine.watches v = thinned_then log s.engine.watches c.thin.new.engine.watches v
    (subst (λ (u : Watches). IsThinned log u c.thin.new.engine.watches) c.renew.ensures.watches c.in_ok-thin.ensures.thinned) c.forget.ensures.thinned in
    let parked = c.in_ok-park_others.ensures.parked (λ p k. thinned_gapless s rows log c.requires.resting v w thinned c.park_others.ensures.parking p (subst (λ (ls : List ℕ). Contains ls p) c.as_slice-3.ensures.value k)) in
    let list : c.park_others.new.engine.agenda.list ≡ take (listed_before s.engine.agenda.list s.ends.items c.shared-stay.result) s.engine.agenda.list =
    ap (λ (e : Engine). e.agenda.list) c.park_others.ensures.same ∙ ap (λ (e : Engine). e.agenda.list) c.forget.ensures.same ∙ c.in_ok-thin.ensures.listed ∙ c.renew.ensures.listed ∙ ap (λ n. take n s.engine.agenda.list) c.listed_before-count.ensures in
    left_filling s rows log c.requires.resting v w thinned c.park_others.ensures.parking c.note.new.needed c.args.positions.now c.in_ok-note.ensures.has c.in_ok-note.ensures.only c.park_others.ensures.needed
    (λ q k. parked q (subst (λ (ls : List ℕ). Contains ls q.pos) (sym c.as_slice-3.ensures.value) k))
    c.shared-stay.result (subst (λ (ls : List ℕ). c.shared-stay.result ≤ length ls) c.as_slice.ensures.value c.shared-stay.ensures.old)
    (ap (λ (ls : List ℕ). take c.shared-stay.result ls) (sym c.as_slice.ensures.value) ∙ c.shared-stay.ensures.same) _ _ _ list c.truncate.ensures.items c.truncate-2.ensures.items

pub returns-clause-fewer : goal.returns-clause-fewer
returns-clause-fewer g c = λ id d e. ap (λ (w : Watches). clause_of w id) (sym c.renew.ensures.watches) ∙ c.in_ok-thin.ensures.thinned.kept id d (c.forget.ensures.thinned.kept id d (sym (c.park_others.ensures.parking.kept id) ∙ e))
