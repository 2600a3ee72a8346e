use Rattle.std.proofs.Common.{◌≡◌, suc, length, ap, ◌∙◌}
use Rattle.cube_workers.proofs.Starting.{fresh_rests, fresh_idle, fresh_quiet, fresh_spent, opening_known, opening_plain, opening_below, opening_from}
use Rattle.hub_board.proofs.Seen.{board_log}
use Rattle.hub_board.specs.Boards.{base_of}
use Rattle.cube_workers.specs.Workers.{problem_in}
use Rattle.cube_workers.proofs.crew.WorkerWork.worked.Goals as goal

pub go_over-requires-clause-resting : goal.go_over-requires-clause-resting
go_over-requires-clause-resting g c = fresh_rests c.args.self.board c.args.self.kept.search c.facts.ensures c.requires.fresh c.requires.resting

pub go_over-requires-clause-known : goal.go_over-requires-clause-known
go_over-requires-clause-known g c = λ p among. opening_known c.args.self.board c.args.self.check p c.requires.open_for among

pub go_over-requires-clause-plain : goal.go_over-requires-clause-plain
go_over-requires-clause-plain g c = λ p among. opening_plain c.args.self.board c.args.self.check p c.requires.fresh c.requires.open_for among

pub go_over-requires-clause-below : goal.go_over-requires-clause-below
go_over-requires-clause-below g c =
    let from : c.len-from.result ≡ base_of c.args.self.board = c.len-from.ensures ∙ ap (λ l. suc (length l.entries)) (c.log.ensures.log ∙ ap (λ l. l.log) (c.law.ensures ∙ ap (λ h. h.law) c.hist.ensures)) in
    λ p among. opening_below c.args.self.board c.args.self.check c.len-from.result p from c.requires.open_for among

pub go_over-requires-clause-from : goal.go_over-requires-clause-from
go_over-requires-clause-from g c =
    let from : c.len-from.result ≡ base_of c.args.self.board = c.len-from.ensures ∙ ap (λ l. suc (length l.entries)) (c.log.ensures.log ∙ ap (λ l. l.log) (c.law.ensures ∙ ap (λ h. h.law) c.hist.ensures)) in
    opening_from c.args.self.board c.len-from.result from c.requires.fresh

pub go_over-requires-clause-listed : goal.go_over-requires-clause-listed
go_over-requires-clause-listed g c = c.facts.ensures.opened.listed

pub go_over-requires-clause-stands : goal.go_over-requires-clause-stands
go_over-requires-clause-stands g c = board_log c.args.self.board c.facts.ensures

pub work_cubes-board-requires-clause-about : goal.work_cubes-board-requires-clause-about
work_cubes-board-requires-clause-about g c =
    let from : c.len-from.result ≡ base_of c.args.self.board = c.len-from.ensures ∙ ap (λ l. suc (length l.entries)) (c.log.ensures.log ∙ ap (λ l. l.log) (c.law.ensures ∙ ap (λ h. h.law) c.hist.ensures)) in
    record { search = c.in-Ok.ensures.search; positions = c.in-Ok.ensures.opening; from = c.in-Ok.ensures.from ∙ from }

pub work_cubes-board-requires-clause-rest : goal.work_cubes-board-requires-clause-rest
work_cubes-board-requires-clause-rest g c = (
  fresh_idle c.args.self.board c.requires.fresh,
  fresh_quiet c.args.self.board c.requires.fresh,
  fresh_spent (problem_in c.args.self.board.hist.law c.args.self.check) c.args.self.board c.requires.fresh,
)
