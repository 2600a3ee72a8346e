use Rattle.std.proofs.Common.{Result, subst}
use Rattle.proof_text.specs.Held.{Answers}
use Rattle.proof_text.specs.declared.line.Line.{Line}
use Rattle.proof_text.specs.declared.reader.LineFault.{LineFault}
use Rattle.proof_conversion.proofs.Headings.{header_read, header_missing}
use Rattle.proof_conversion.proofs.header.read_header.Goals as goal

pub returns-in-Some-Ok : goal.returns-in-Some-Ok
returns-in-Some-Ok c =
    let e = rw c.in-Some-Ok.is at c.in_ok-line.ensures.ok in
    let a = subst (λ (x : Result Line LineFault). Answers x c.args.reader.now.line e.0) c.in-Some-Ok.field-0-is e.2 in
    header_read c.numbers_of.result c.args.reader.now c.next.new.self e.0 c.in-Some-Ok.line c.requires e.1 a c.numbers_of.ensures

pub returns-in-Some-Err : goal.returns-in-Some-Err
returns-in-Some-Err c =
    let e = rw c.in-Some-Err.is at c.in_ok-line.ensures.ok in
    let a = subst (λ (x : Result Line LineFault). Answers x c.args.reader.now.line e.0) c.in-Some-Err.field-0-is e.2 in
    header_missing c.args.reader.now c.next.new.self e.0 e.1 a.1
