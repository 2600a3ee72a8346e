use Rattle.proof_file.proofs.Calls.{noted_start, noted_more, noted_all}
use Rattle.proof_file.proofs.stale.StaleChains.note_literals.Goals as goal

pub literals-init : goal.literals-init
literals-init c = noted_start c.args.self.now c.args.position

pub literals-preserved : goal.literals-preserved
literals-preserved c = noted_more c.args.literals.now c.literals.literal-index c.args.position c.literal-item.result c.args.self.now c.literals.self c.note_literal.new.self c.literals-test.true c.literal-item.is c.in_ok-note_literal.ensures c.literals.invariant

pub returns : goal.returns
returns c = noted_all c.args.literals.now c.literals.literal-index c.args.position c.args.self.now c.literals.self c.literals-test.false c.literals.invariant
