use Rattle.std.proofs.Common.{sym}
use Rattle.proof_file.specs.Held.{file_in}
use Rattle.proof_file.proofs.Files.{keeps_one}
use Rattle.proof_file.proofs.writing.write_step.Goals as goal

pub returns-clause-index : goal.returns-clause-index
returns-clause-index c =
    keeps_one c.args.log.now.entries (file_in c.args.places.now) (file_in c.put.new.self) c.args.at c.in-Some.entry.now c.args.chains.now c.note.new.chains
    (sym c.in-Some.ensures) c.in_ok-note-in-Some.ensures c.in_ok-put-in-Some.ensures
