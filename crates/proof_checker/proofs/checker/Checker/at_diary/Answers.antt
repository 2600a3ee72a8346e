use Rattle.proof_checker.proofs.Noting.{takes, puts, drops}
use Rattle.proof_checker.proofs.checker.Checker.at_diary.Goals as goal

pub returns-in-Take : goal.returns-in-Take
returns-in-Take c = rw c.in-Take.is (takes c.args.self c.args.self.judging.owed _ c.note.result c.requires.lines c.note.ensures)

pub returns-in-Put : goal.returns-in-Put
returns-in-Put c = rw c.in-Put.is (puts c.args.self c.args.self.judging.owed _ c.note-in-Put.result c.requires.lines c.note-in-Put.ensures)

pub returns-in-Drop : goal.returns-in-Drop
returns-in-Drop c = rw c.in-Drop.is (drops c.args.self c.args.self.judging.owed _ c.note-in-Drop.result c.requires.lines c.note-in-Drop.ensures)
