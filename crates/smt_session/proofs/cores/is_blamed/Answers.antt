use Rattle.smt_session.proofs.Coring.{blamed_by, not_blamed, code_stands}
use Rattle.smt_session.proofs.cores.is_blamed.Goals as goal

pub returns-in-Some : goal.returns-in-Some
returns-in-Some c = λ nodes clause h codes.
    blamed_by nodes c.args.log.now h clause c.args.assertion.now c.in-Some.selector c.contains.result c.in-Some.ensures
    (code_stands c.args.codes.now clause c.in-Some.selector c.negated.result c.code.result c.contains.result codes c.negated.ensures c.code.ensures.code c.contains.ensures)

pub returns-in-None : goal.returns-in-None
returns-in-None c = λ nodes clause h codes. not_blamed nodes c.args.log.now h clause c.args.assertion.now c.in-None.ensures
