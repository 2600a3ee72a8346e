use Rattle.std.proofs.Common.{List, subst}
use Rattle.cnf_base.specs.Literals.{Literal}
use Rattle.proof_file.specs.Noting.{DenyAmong, HasNoted}
use Rattle.proof_file.proofs.Noted.{noted_is}
use Rattle.proof_file.proofs.stale.StaleChains.note.Goals as goal

pub returns : goal.returns
returns c = noted_is c.args.self.now c.note_literals.new.self c.args.position c.args.clause.now
    (subst (λ (l : List Literal). HasNoted c.args.position (DenyAmong c.args.self.now.selected l) c.args.self.now c.note_literals.new.self) c.literals.ensures c.in_ok-note_literals.ensures)
