use Rattle.std.proofs.Common.{◌≤◌, suc, length, ap, ◌∙◌, subst, arith}
use Rattle.std.specs.Option.{option_copied}
use Rattle.proof_log.specs.Logs.{entry_at}
use Rattle.proof_log.specs.Boards.{IsEntryOf}
use Rattle.hub_board.specs.Boards.{BoardValue, view_in, base_of, Knows}
use Rattle.hub_board.proofs.Seen.{shown_old_entry, shown_new_entry}
use Rattle.hub_board.proofs.board.HubBoardBoard.entry.Goals as goal

pub returns-then-at-len : goal.returns-then-at-len
returns-then-at-len g c =
    let b : BoardValue = record { hist = c.self.inside.hist.now; pass = c.self.inside.pass; table = c.self.inside.table; news = c.self.inside.news } in
    let log = c.log-log.ensures.log ∙ ap (λ l. l.log) c.law.ensures in
    subst (λ (v : BoardValue). IsEntryOf (view_in v).log (Knows v) c.args.at (option_copied c.entry.result)) c.self.view_is
    (shown_old_entry b c.args.at (option_copied c.entry.result) c.self.invariant
    (let lt = c.if-at-len.true in let is = c.len.ensures in let same = ap (λ l. length l.entries) log in omega (arith, lt, is, same))
    (c.entry.ensures ∙ ap (λ l. entry_at l.entries c.args.at) log))

pub returns : goal.returns
returns g c =
    let base = c.len.ensures ∙ ap (λ l. suc (length l.entries)) (c.log-log.ensures.log ∙ ap (λ l. l.log) c.law.ensures) ∙ ap base_of c.self.view_is in
    let le : base_of c.args.self.now ≤ c.args.at = let ge = c.if-at-len.false in omega (arith, ge, base) in
    shown_new_entry c.args.self.now c.args.at (option_copied c.row.result) c.row.ensures.board le c.row.ensures.there c.row.ensures.only
