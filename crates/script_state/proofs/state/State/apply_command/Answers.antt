use Rattle.std.proofs.Common.{◌≡◌, true, false, sym, ◌∙◌}
use Rattle.smt_syntax.specs.Sexps.{group, signs_of}
use Rattle.script_state.specs.Readings.{is_list}
use Rattle.script_state.proofs.Lists.{spells_list}
use Rattle.script_state.proofs.Applying.{applies_bad, applies_no_list, applies_fault, applies_command}
use Rattle.script_state.proofs.state.State.apply_command.Goals as goal

pub returns-then-not-is_list : goal.returns-then-not-is_list
returns-then-not-is_list c =
    let other : is_list (signs_of c.in-Ok.all) ≡ false = sym c.is_list.ensures ∙ c.if-not-is_list.true in
    applies_no_list c.args.chunk.now c.args.self.now c.requires.balanced c.in-Ok.all c.in-Ok.ensures other

pub obey-requires-clause-arguments : goal.obey-requires-clause-arguments
obey-requires-clause-arguments c =
    let listed : is_list (signs_of c.in-Ok.all) ≡ true = sym c.is_list.ensures ∙ c.if-not-is_list.false in
    let list = spells_list (signs_of c.in-Ok.all) listed in
    let reads = c.in-Ok-read_command.ensures (group list.0) list.1 in
    (reads.0, reads.2)

pub obey-requires-clause-known : goal.obey-requires-clause-known
obey-requires-clause-known c =
    let listed : is_list (signs_of c.in-Ok.all) ≡ true = sym c.is_list.ensures ∙ c.if-not-is_list.false in
    let list = spells_list (signs_of c.in-Ok.all) listed in
    (c.in-Ok-read_command.ensures (group list.0) list.1).3

pub returns-in-Ok-read_command : goal.returns-in-Ok-read_command
returns-in-Ok-read_command c =
    let listed : is_list (signs_of c.in-Ok.all) ≡ true = sym c.is_list.ensures ∙ c.if-not-is_list.false in
    let list = spells_list (signs_of c.in-Ok.all) listed in
    let reads = c.in-Ok-read_command.ensures (group list.0) list.1 in
    applies_command c.args.chunk.now c.args.self.now c.requires.balanced c.in-Ok.all c.in-Ok.ensures listed c.in-Ok-read_command.command reads.0 c.obey.result c.obey.new.self reads.1 (c.obey.ensures reads.0 reads.2)

pub returns-in-Err-Bad : goal.returns-in-Err-Bad
returns-in-Err-Bad c = applies_bad c.args.chunk.now c.args.self.now c.requires.balanced c.in-Err-Bad.field-0-0.place (rw c.in-Err-Bad.field-0-is at c.in-Err-Bad.ensures)

pub returns : goal.returns
returns c =
    let listed : is_list (signs_of c.in-Ok.all) ≡ true = sym c.is_list.ensures ∙ c.if-not-is_list.false in
    let list = spells_list (signs_of c.in-Ok.all) listed in
    let reads = rw c.in-Err-Fault.field-0-is at c.in-Err-Fault.ensures in
    applies_fault c.args.chunk.now c.args.self.now c.requires.balanced c.in-Ok.all c.in-Ok.ensures listed c.in-Err-Fault.fault _ (rw c.in-Err-Fault.field-0-is at c.syntax_error.ensures) (reads (group list.0) list.1)
