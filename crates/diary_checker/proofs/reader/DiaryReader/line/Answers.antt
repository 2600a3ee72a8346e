use Rattle.diary_checker.proofs.Reading.{read_line}
use Rattle.diary_checker.proofs.reader.DiaryReader.line.Goals as goal

pub returns : goal.returns
returns c = λ deleted g lines about read. read_line deleted g lines c.args.self.now c.decide.new.self c.args.line c.decide.result read (c.decide.ensures g about read.set_up)
