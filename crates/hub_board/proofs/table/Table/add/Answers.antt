use Rattle.std.proofs.Common.{rules}
use Rattle.hub_board.proofs.Filing.{event_filed, call_failed}
use Rattle.hub_board.proofs.table.Table.add.Goals as goal

pub returns-in_err-add_call-clause-filed : goal.returns-in_err-add_call-clause-filed
returns-in_err-add_call-clause-filed c = λ seen here h.
    call_failed c.args.self.now c.add_call.new.self seen c.args.event.now here h c.add_call.ensures.same c.add_call.ensures.kept c.add_call.ensures.right c.in_err-add_call.ensures.err.0 c.in_err-add_call.ensures.err.1

pub returns-clause-filed : goal.returns-clause-filed
returns-clause-filed c = λ seen here h.
    event_filed c.args.self.now c.add_call.new.self c.in-Some.filed seen c.args.event.now here h c.add_call.ensures.same c.add_call.ensures.kept c.add_call.ensures.right
    c.in_ok-add_call.ensures.next c.in_ok-add_call.ensures.found c.in_ok-add_call.ensures.full (search rules)
