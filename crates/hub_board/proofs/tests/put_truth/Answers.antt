use Rattle.std.proofs.Common.{sym, subst}
use Rattle.proof_log.specs.declared.entry.Entry.TheVariants as step
use Rattle.proof_log.specs.Logs.{state_of, IsStep}
use Rattle.hub_board.specs.Boards.{view_in}
use Rattle.hub_board.proofs.Seen.{board_log}
use Rattle.hub_board.proofs.Worked.{truth_is_valid}
use Rattle.hub_board.proofs.tests.put_truth.Goals as goal

pub put-requires-clause-valid : goal.put-requires-clause-valid
put-requires-clause-valid g c =
    rw (c.in_ok-clause.ensures, c.in_ok-hints.ensures)
    (truth_is_valid c.args.board.now.hist.law.nodes (view_in c.args.board.now).log (board_log c.args.board.now c.facts.ensures))
