use Rattle.std.proofs.Common.{[], ap, ◌∙◌, subst, sym}
use Rattle.smt_terms.specs.Terms.{TermsValue}
use Rattle.proof_file.specs.Files.{file_of}
use Rattle.smt_session.specs.Sessions.{limits_of}
use Rattle.smt_session.proofs.Filing.{filed_before, part_before, within}
use Rattle.smt_session.proofs.Leading.{led_steps}
use Rattle.smt_session.proofs.Turning.{log_lined}
use Rattle.smt_session.proofs.Showing.{shown_digits}
use Rattle.smt_session.proofs.check.run_check.Goals as goal

pub write_part-requires-clause-within : goal.write_part-requires-clause-within
write_part-requires-clause-within g c = within c.args.state.now c.check.new.state c.args.workspace.now.log c.check.new.workspace.log c.requires.kept.session c.in_ok-shown.ensures.checked.leads c.len-from.result c.len-from.ensures

pub write_part-requires-clause-file : goal.write_part-requires-clause-file
write_part-requires-clause-file g c =
    rw c.terms.ensures.terms
    (filed_before c.args.state.now c.check.new.state c.args.workspace.now.log c.check.new.workspace.log c.requires.kept.session c.in_ok-shown.ensures.checked.leads c.len-from.result c.len-from.ensures
    c.more_terms_keep_files.ensures c.in_ok-shown.ensures.kept.session.state.terms c.args.file.now c.requires.file)

pub write_part-requires-clause-listed : goal.write_part-requires-clause-listed
write_part-requires-clause-listed g c = rw c.terms.ensures.terms c.in_ok-shown.ensures.kept.session.state.terms

pub write_part-requires-clause-lined : goal.write_part-requires-clause-lined
write_part-requires-clause-lined g c = log_lined c.check.new.state c.check.new.workspace.log.entries (led_steps c.args.state.now c.check.new.state c.args.workspace.now.log c.check.new.workspace.log c.requires.kept.session.each c.in_ok-shown.ensures.checked.leads)

pub write_part-requires-clause-digits : goal.write_part-requires-clause-digits
write_part-requires-clause-digits g c = shown_digits (limits_of c.args.settings) c.args.state.now c.check.new.state.terms.nodes c.check.new.workspace.log.entries c.in_ok-shown.shown c.in_ok-shown.ensures.checked.shown

pub returns-clause-part : goal.returns-clause-part
returns-clause-part g c =
    part_before c.args.state.now c.check.new.state c.args.workspace.now.log c.check.new.workspace.log c.requires.kept.session c.in_ok-shown.ensures.checked.leads c.len-from.result c.len-from.ensures
    c.live.result.now c.in_ok-shown.shown (file_of c.args.file.now) (file_of c.write_part.new.self) c.write_part.new.out c.live.ensures.live
    (rw (c.terms.ensures.terms, c.new-text.ensures) at c.in_ok-write_part.ensures.part)
