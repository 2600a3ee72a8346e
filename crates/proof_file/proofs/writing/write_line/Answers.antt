use Rattle.proof_file.proofs.Lining.{entry_text, entry_readable}
use Rattle.proof_file.proofs.writing.write_line.Goals as goal

pub returns-clause-text : goal.returns-clause-text
returns-clause-text c = entry_text c.args.entry.now c.args.out.now c.write_entry.new.out c.requires c.in_ok-write_entry.ensures.ok

pub returns-clause-line : goal.returns-clause-line
returns-clause-line c = entry_readable c.args.entry.now c.in_ok-write_entry.ensures.line
