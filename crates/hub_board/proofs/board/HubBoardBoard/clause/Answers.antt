use Rattle.std.proofs.Common.{◌≤◌, suc, length, sym, ap, ◌∙◌, subst, arith}
use Rattle.std.specs.Option.{option_copied}
use Rattle.proof_log.specs.Logs.{clause_at}
use Rattle.proof_log.specs.Boards.{IsClauseOf}
use Rattle.hub_board.specs.Boards.{BoardValue, view_in, base_of, Knows}
use Rattle.hub_board.proofs.Seen.{shown_old_clause, shown_row_clause, unread_clause}
use Rattle.hub_board.proofs.board.HubBoardBoard.clause.Goals as goal

pub returns-then-id-len : goal.returns-then-id-len
returns-then-id-len g c =
    let b : BoardValue = record { hist = c.self.inside.hist.now; pass = c.self.inside.pass; table = c.self.inside.table; news = c.self.inside.news } in
    let log = c.log-log.ensures.log ∙ ap (λ l. l.log) c.law.ensures in
    subst (λ (v : BoardValue). IsClauseOf v.hist.law.nodes (view_in v).log (Knows v) c.args.id (option_copied c.clause.result)) c.self.view_is
    (shown_old_clause b c.args.id (option_copied c.clause.result) c.self.invariant
    (let lt = c.if-id-len.true in let is = c.len.ensures in let same = ap (λ l. length l.entries) log in omega (arith, lt, is, same))
    (c.clause.ensures.clause ∙ ap (λ l. clause_at l.clauses c.args.id) log))

pub returns-in-Some : goal.returns-in-Some
returns-in-Some g c =
    let base = c.len.ensures ∙ ap (λ l. suc (length l.entries)) (c.log-log.ensures.log ∙ ap (λ l. l.log) c.law.ensures) ∙ ap base_of c.self.view_is in
    let le : base_of c.args.self.now ≤ c.args.id.pos = let ge = c.if-id-len.false in omega (arith, ge, base) in
    shown_row_clause c.args.self.now c.args.id c.in-Some.entry.now (option_copied c.chain_clause.result) c.row.ensures.board le (c.row.ensures.only c.in-Some.entry.now (ap option_copied c.in-Some.is)) c.chain_clause.ensures

pub returns-in-None : goal.returns-in-None
returns-in-None g c =
    let base = c.len.ensures ∙ ap (λ l. suc (length l.entries)) (c.log-log.ensures.log ∙ ap (λ l. l.log) c.law.ensures) ∙ ap base_of c.self.view_is in
    let le : base_of c.args.self.now ≤ c.args.id.pos = let ge = c.if-id-len.false in omega (arith, ge, base) in
    unread_clause c.args.self.now c.args.id le (λ e q. let x = sym (ap option_copied c.in-None.is) ∙ c.row.ensures.there e q in let f : ⊥ = cc in f)
