use Rattle.std.proofs.Common.{◌-◌, ℕ, length, sym, ap, ◌∙◌, subst, Result}
use Rattle.proof_text.specs.Held.{Answers}
use Rattle.proof_text.specs.Lines.{line_text}
use Rattle.proof_text.specs.declared.line.Line.{Line}
use Rattle.proof_text.specs.declared.reader.LineFault.{LineFault}
use Rattle.proof_conversion.specs.declared.kind.Kind.{Kind}
use Rattle.proof_conversion.specs.Parts.{owed_behind}
use Rattle.proof_conversion.proofs.Firsts.{next_is, split_front, split_behind}
use Rattle.proof_conversion.proofs.Reading.{more_progress, bad_next, bad_place}
use Rattle.proof_conversion.proofs.scanning.scan_parts.Goals as goal

pub returns-in-Err : goal.returns-in-Err
returns-in-Err c =
    let e = rw c.in-Some.is at c.in_ok-answer.ensures.ok in
    let a = subst (λ (x : Result Line LineFault). Answers x c.lines.reader.line e.0) c.in-Err.is e.2 in
    bad_next c.args.text.now c.lines.rest.now e.0 c.lines.reader c.next.new.self c.lines.scan c.lines.number c.in-Err.fault.line c.refused.result c.lines.invariant e.1 a c.refused.ensures

pub returns-in_default-owed_behind : goal.returns-in_default-owed_behind
returns-in_default-owed_behind c =
    let e = rw c.in-Some.is at c.in_ok-answer.ensures.ok in
    let a = subst (λ (x : Result Line LineFault). Answers x c.lines.reader.line e.0) c.in-Ok.is e.2 in
    bad_place c.args.text.now c.lines.rest.now e.0 c.lines.reader c.next.new.self c.lines.scan c.lines.number c.in-Ok.line c.refused-in_default-owed_behind.result c.lines.invariant e.1 a
    (ap (λ (x : Kind). owed_behind c.lines.scan.owed x) (sym c.kind_of-kind.ensures) ∙ sym c.owed_behind.ensures ∙ c.in_default-owed_behind.is)
    c.refused-in_default-owed_behind.ensures

pub take-requires-clause-bytes : goal.take-requires-clause-bytes
take-requires-clause-bytes c =
    let e = rw c.in-Some.is at c.in_ok-answer.ensures.ok in
    let a = subst (λ (x : Result Line LineFault). Answers x c.lines.reader.line e.0) c.in-Ok.is e.2 in
    c.split_at.ensures.front
    ∙ split_front c.lines.rest.now (line_text c.in-Ok.line) c.next.new.self.bytes _ (c.lines.invariant.rest_is ∙ next_is c.lines.reader c.next.new.self e.0 c.in-Ok.line e.1 a.1)
    (ap (λ (x : ℕ). length c.lines.rest.now - x) c.held.ensures)

pub lines-preserved : goal.lines-preserved
lines-preserved c =
    let e = rw c.in-Some.is at c.in_ok-answer.ensures.ok in
    let a = subst (λ (x : Result Line LineFault). Answers x c.lines.reader.line e.0) c.in-Ok.is e.2 in
    more_progress c.args.text.now e.0 c.lines.rest.now c.split_at.result.1.now c.lines.reader c.next.new.self c.lines.scan c.take.new.self c.lines.number c.in_ok-number.number c.in-Ok.line c.in-Some-owed_behind.owed c.lines.invariant e.1 a
    (ap (λ (x : Kind). owed_behind c.lines.scan.owed x) (sym c.kind_of-kind.ensures) ∙ sym c.owed_behind.ensures ∙ c.in-Some-owed_behind.is)
    c.in_ok-take.ensures c.in_ok-number.ensures
    (c.split_at.ensures.back
    ∙ split_behind c.lines.rest.now (line_text c.in-Ok.line) c.next.new.self.bytes _ (c.lines.invariant.rest_is ∙ next_is c.lines.reader c.next.new.self e.0 c.in-Ok.line e.1 a.1)
    (ap (λ (x : ℕ). length c.lines.rest.now - x) c.held.ensures))
