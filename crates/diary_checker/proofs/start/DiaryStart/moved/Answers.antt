use Rattle.std.proofs.Common.{drop, not, sym, subst}
use Rattle.std.specs.Prelude.{ltb}
use Rattle.proof_log.specs.Logs.{clause_at, entry_at}
use Rattle.proof_log.specs.Diaries.{is_chain}
use Rattle.proof_text.specs.Deletions.{is_deleted}
use Rattle.diary_checker.specs.Tables.{bit_in}
use Rattle.diary_checker.specs.Starts.{IsStart}
use Rattle.diary_checker.proofs.Starting.{moved_out, filed_fewer, rest_all}
use Rattle.diary_checker.proofs.start.DiaryStart.moved.Goals as goal

pub hold_from-requires-clause-before : goal.hold_from-requires-clause-before
hold_from-requires-clause-before c = λ p.
    let before = c.start.inside in
    let is = subst (IsStart c.args.places.now c.args.log.now) (sym c.start.view_is) (c.not_past-start.ensures.start c.args.places.now c.args.log.now c.requires.start) in
    moved_out c.args.places.now before.known (bit_in c.args.deleted.now) (ltb p before.from) (is_chain (entry_at c.args.log.now.entries p)) (bit_in before.held p) (bit_in c.leave_out.new.held p) p (c.requires.places p) (is.held p) (rw (rest_all c.args.places.now before.known) at (c.in_ok-leave_out.ensures p))

pub hold_from-requires-clause-filed : goal.hold_from-requires-clause-filed
hold_from-requires-clause-filed c =
    let before = c.start.inside in
    let is = subst (IsStart c.args.places.now c.args.log.now) (sym c.start.view_is) (c.not_past-start.ensures.start c.args.places.now c.args.log.now c.requires.start) in
    filed_fewer (clause_at c.args.log.now.clauses) (bit_in before.held) (bit_in c.leave_out.new.held) (λ p. not (is_deleted (drop before.known c.args.places.now) p)) before.watches (λ p. rw (rest_all c.args.places.now before.known) at (c.in_ok-leave_out.ensures p)) is.filed
