use Rattle.std.proofs.Common.{arith}
use Rattle.std.proofs.lemmas.Result.{on_ok_weaker}
use Rattle.smt_text.proofs.Decimals.{last_digit}
use Rattle.smt_text.proofs.number.+push_wide.Goals as goal

pub returns-clause-ok : goal.returns-clause-ok
returns-clause-ok t c =
    on_ok_weaker c.push.result (last_digit c.args.out.now c.push_wide.new.out c.push.new.self c.args.n (omega arith) (omega arith) c.in_ok-push_wide.ensures.ok) c.push.ensures.ok
