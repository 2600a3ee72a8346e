use Rattle.std.proofs.Common.{Some, refl, sym, ◌∙◌, subst}
use Rattle.proof_log.specs.declared.entry.Entry.TheVariants as step
use Rattle.hub_board.specs.Boards.{IsBoard}
use Rattle.hub_board.proofs.Seen.{later_same, put_moved, put_later, put_done, put_knows, put_at, put_place}
use Rattle.hub_board.proofs.board.HubBoard.put_chain.Goals as goal

pub returns-in_err-copy-clause-later : goal.returns-in_err-copy-clause-later
returns-in_err-copy-clause-later g c = later_same c.args.self.now c.args.self.now refl refl refl (subst IsBoard c.self.view_is c.self.invariant)

pub returns-in_err-copy-2-clause-later : goal.returns-in_err-copy-2-clause-later
returns-in_err-copy-2-clause-later g c = later_same c.args.self.now c.args.self.now refl refl refl (subst IsBoard c.self.view_is c.self.invariant)

pub returns-in_default-clause-later : goal.returns-in_default-clause-later
returns-in_default-clause-later g c = later_same c.args.self.now c.step.new.self c.in_default.ensures.same.0 c.in_default.ensures.step.1 c.in_default.ensures.same.1 c.in_default.ensures.board.1

pub keep-requires-clause-behind : goal.keep-requires-clause-behind
keep-requires-clause-behind g c =
    (put_place c.args.self.now c.step.new.self c.args.clause c.args.hints c.in-At.at c.in-Ok.ensures.board.0.chains c.in-Ok.ensures.board.1.chains c.in-Ok.ensures.same.0
    (put_at c.args.self.now c.step.new.self c.args.clause c.args.hints c.in-Ok.reply c.in-At.at c.in-Ok.ensures.board.1.chains c.in-Ok.ensures.same.0 c.in-At.is c.in-Ok.ensures.step)).0

pub keep-requires-clause-there : goal.keep-requires-clause-there
keep-requires-clause-there g c =
    (put_place c.args.self.now c.step.new.self c.args.clause c.args.hints c.in-At.at c.in-Ok.ensures.board.0.chains c.in-Ok.ensures.board.1.chains c.in-Ok.ensures.same.0
    (put_at c.args.self.now c.step.new.self c.args.clause c.args.hints c.in-Ok.reply c.in-At.at c.in-Ok.ensures.board.1.chains c.in-Ok.ensures.same.0 c.in-At.is c.in-Ok.ensures.step)).1
    ∙ (λ i. Some (step.Chain (sym c.in_ok-copy.ensures i) (sym c.in_ok-copy-2.ensures i)))

pub returns-in_err-keep-clause-moved : goal.returns-in_err-keep-clause-moved
returns-in_err-keep-clause-moved g c =
    put_moved c.args.self.now c.step.new.self c.keep.new.self c.args.clause c.args.hints c.in-Ok.reply c.keep.ensures.board c.in-Ok.ensures.same.0 c.in-Ok.ensures.same.1 c.in-Ok.ensures.same.2 c.in-Ok.ensures.step c.keep.ensures.same.0 c.keep.ensures.same.1

pub returns-in_err-keep-clause-later : goal.returns-in_err-keep-clause-later
returns-in_err-keep-clause-later g c =
    put_later c.args.self.now c.step.new.self c.keep.new.self c.args.clause c.args.hints c.in-Ok.reply c.keep.ensures.board c.in-Ok.ensures.same.0 c.in-Ok.ensures.same.1 c.in-Ok.ensures.same.2 c.in-Ok.ensures.step c.keep.ensures.same.0 c.keep.ensures.same.1 c.keep.ensures.kept

pub returns-clause-moved : goal.returns-clause-moved
returns-clause-moved g c =
    put_moved c.args.self.now c.step.new.self c.keep.new.self c.args.clause c.args.hints c.in-Ok.reply c.keep.ensures.board c.in-Ok.ensures.same.0 c.in-Ok.ensures.same.1 c.in-Ok.ensures.same.2 c.in-Ok.ensures.step c.keep.ensures.same.0 c.keep.ensures.same.1

pub returns-clause-later : goal.returns-clause-later
returns-clause-later g c =
    put_later c.args.self.now c.step.new.self c.keep.new.self c.args.clause c.args.hints c.in-Ok.reply c.keep.ensures.board c.in-Ok.ensures.same.0 c.in-Ok.ensures.same.1 c.in-Ok.ensures.same.2 c.in-Ok.ensures.step c.keep.ensures.same.0 c.keep.ensures.same.1 c.keep.ensures.kept

pub returns-clause-put : goal.returns-clause-put
returns-clause-put g c =
    put_done c.args.self.now c.step.new.self c.keep.new.self c.args.clause c.args.hints c.in-Ok.reply c.keep.ensures.board c.in-Ok.ensures.same.0 c.in-Ok.ensures.same.1 c.in-Ok.ensures.same.2 c.in-Ok.ensures.step c.keep.ensures.same.0 c.keep.ensures.same.1 c.in-At.at c.in-At.is

pub returns-clause-known : goal.returns-clause-known
returns-clause-known g c =
    put_knows c.args.self.now c.step.new.self c.keep.new.self c.args.clause c.args.hints c.in-Ok.reply c.keep.ensures.board c.in-Ok.ensures.same.0 c.in-Ok.ensures.same.1 c.in-Ok.ensures.same.2 c.in-Ok.ensures.step c.keep.ensures.same.0 c.keep.ensures.same.1 c.in-At.at c.in-At.is
    c.in_ok-keep.ensures.there c.keep.ensures.only
