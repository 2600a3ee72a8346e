use Rattle.std.proofs.Common.{[], take, drop, sym, append-nil, take-append-drop}
use Rattle.proof_text.specs.declared.line.Format.TheVariants.{Two}
use Rattle.accepted_proof.specs.Answers.{header_of}
use Rattle.smt_session.specs.Sessions.{limits_of}
use Rattle.smt_run.proofs.running.open_proof.Goals as goal

pub returns-in-Ok-clause-ok : goal.returns-in-Ok-clause-ok
returns-in-Ok-clause-ok g c = rw (c.as_slice.ensures, c.in_ok-push_header.ensures, c.new-text.ensures) at c.in-Ok.ensures.bytes

pub returns-in-Ok-clause-added : goal.returns-in-Ok-clause-added
returns-in-Ok-clause-added g c =
    let header = header_of Two (limits_of c.args.settings.now) in
    (header, [], rw (c.as_slice.ensures, c.in_ok-push_header.ensures, c.new-text.ensures) at c.in-Ok.ensures.bytes, sym (append-nil header))

pub returns-clause-added : goal.returns-clause-added
returns-clause-added g c =
    let header = header_of Two (limits_of c.args.settings.now) in
    let b = rw (c.as_slice.ensures, c.in_ok-push_header.ensures, c.new-text.ensures) at c.in-Err.ensures.bytes in
    (take b.0 header, drop b.0 header, b.2, sym (take-append-drop b.0 header))
