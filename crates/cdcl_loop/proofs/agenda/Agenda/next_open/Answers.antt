use Rattle.std.proofs.Common.{ℕ, ◌<◌, List, length, ap, ◌∙◌, arith}
use Rattle.std.specs.Prelude.{slice_index}
use Rattle.cnf_base.specs.Literals.{Literal}
use Rattle.cdcl_core.specs.Search.{literals_of, level_of}
use Rattle.cdcl_loop.proofs.Agendas.{variable_at, listed_at, cursor_within, scanned_moved, all_valued}
use Rattle.cdcl_loop.proofs.agenda.Agenda.next_open.Goals as goal

pub first_open-place-requires-clause-start : goal.first_open-place-requires-clause-start
first_open-place-requires-clause-start c = cursor_within c.args.self.now (literals_of c.args.trail.now) (level_of c.args.trail.now) c.requires.scanned

pub returns-then-place-end-clause-scanned : goal.returns-then-place-end-clause-scanned
returns-then-place-end-clause-scanned c = scanned_moved c.args.self.now (literals_of c.args.trail.now) (level_of c.args.trail.now) c.requires.scanned c.first_open-place.result c.first_open-place.ensures.end c.first_open-place.ensures.valued

pub returns-then-place-end-clause-next : goal.returns-then-place-end-clause-next
returns-then-place-end-clause-next c =
    all_valued c.args.self.now (literals_of c.args.trail.now) (level_of c.args.trail.now) c.requires.scanned c.first_open-place.result c.first_open-place.ensures.end c.first_open-place.ensures.valued
    (omega (arith, c.if-place-end.true, ap length c.as_slice-variables.ensures.items))

pub new-requires-clause-from_one : goal.new-requires-clause-from_one
new-requires-clause-from_one c = (variable_at c.args.self.now.list c.as_slice-variables.result.now c.first_open-place.result c.as_slice-variables.ensures.items (omega (arith, c.if-place-end.false)) c.as_slice-variables.ensures.variables).0

pub new-requires-clause-bound : goal.new-requires-clause-bound
new-requires-clause-bound c = (variable_at c.args.self.now.list c.as_slice-variables.result.now c.first_open-place.result c.as_slice-variables.ensures.items (omega (arith, c.if-place-end.false)) c.as_slice-variables.ensures.variables).1

pub returns-clause-scanned : goal.returns-clause-scanned
returns-clause-scanned c = scanned_moved c.args.self.now (literals_of c.args.trail.now) (level_of c.args.trail.now) c.requires.scanned c.first_open-place.result c.first_open-place.ensures.end c.first_open-place.ensures.valued

pub returns-clause-next : goal.returns-clause-next
returns-clause-next c =
    let lt : c.first_open-place.result < length c.args.self.now.list = omega (arith, c.if-place-end.false, ap length c.as_slice-variables.ensures.items) in
    let e = ap (λ (l : Literal). l.variable) c.new.ensures ∙ ap (λ (xs : List ℕ). slice_index xs c.first_open-place.result) c.as_slice-variables.ensures.items in
    (listed_at c.args.self.now.list c.first_open-place.result c.new.result.variable lt e, c.first_open-place.ensures.unset c.new.result lt e)
