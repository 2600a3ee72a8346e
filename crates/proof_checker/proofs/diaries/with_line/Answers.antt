use Rattle.std.proofs.Common.{refl, sym, ◌∙◌}
use Rattle.accepted_proof.specs.Searching.{subject_of}
use Rattle.proof_text.specs.Deletions.{is_deleted}
use Rattle.proof_checker.proofs.Noting.{is_about, line_told, names_line}
use Rattle.proof_checker.proofs.diaries.with_line.Goals as goal

pub returns-then-names_deleted : goal.returns-then-names_deleted
returns-then-names_deleted c = λ limits s stands noted.
    names_line limits s c.args.log.now.entries c.args.deleted.now c.args.noting c.args.line (sym c.names_deleted.ensures ∙ c.if-names_deleted.true)

pub returns : goal.returns
returns c = λ limits s stands noted.
    let old = c.args.noting in
    let deleted = c.args.deleted.now in
    let g = subject_of limits s s.terms.nodes c.args.log.now.entries old.cube old.start in
    line_told limits s c.args.log.now deleted old (record { cube = old.cube; start = old.start; left = old.left; lines = c.push.new.self; reader = c.line.new.self }) c.args.line c.in_ok-stands.stands
    noted.1 (sym c.names_deleted.ensures ∙ c.if-names_deleted.false)
    refl refl refl c.in_ok-push.ensures.ok (c.in_ok-stands.ensures (is_deleted deleted) g old.lines (is_about limits s c.args.log.now old.cube old.start stands) noted.0)
