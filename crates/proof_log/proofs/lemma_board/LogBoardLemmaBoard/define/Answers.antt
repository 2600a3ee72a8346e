use Rattle.std.proofs.Common.{◌≡◌, Some, None, ◌<◌, suc, length, refl, sym, ap, ◌∙◌, subst}
use Rattle.proof_log.specs.declared.entry.Entry.TheVariants as step
use Rattle.proof_log.specs.Logs.{state_of, IsPair}
use Rattle.proof_log.specs.Stored.{pair_place}
use Rattle.proof_log.specs.Boards.{LogBoardValue}
use Rattle.proof_log.specs.LemmaBoards.{IsLaterByMore}
use Rattle.proof_log.proofs.Adding.{more_same, more_later, held_known, pair_is_new, pushed_entries}
use Rattle.proof_log.proofs.lemma_board.LogBoardLemmaBoard.define.Goals as goal

pub returns-in-Some-clause-later : goal.returns-in-Some-clause-later
returns-in-Some-clause-later c =
    subst
    (λ (v : LogBoardValue). IsLaterByMore v.terms.nodes v.terms.nodes v.log.entries v.log.entries (λ p. p < suc (length v.log.entries)) (λ p. p < suc (length v.log.entries)))
    c.self.view_is
    (more_same c.self.inside.terms.now.nodes c.self.inside.log c.self.invariant)

pub returns-in-Some-clause-known : goal.returns-in-Some-clause-known
returns-in-Some-clause-known c =
    let held : pair_place c.self.inside.log.equals c.args.lower c.args.upper ≡ Some c.in-Some.at =
    ap (λ e. pair_place e c.args.lower c.args.upper) (sym c.equals.ensures) ∙ sym c.place_of.ensures ∙ c.in-Some.is in
    subst (λ (v : LogBoardValue). c.in-Some.at < suc (length v.log.entries)) c.self.view_is
    (held_known c.self.inside.terms.now.nodes c.self.inside.log c.args.lower c.args.upper c.in-Some.at c.self.invariant held)

pub push-requires-clause-valid : goal.push-requires-clause-valid
push-requires-clause-valid c =
    let none : pair_place c.self.inside.log.equals c.args.lower c.args.upper ≡ None =
    ap (λ e. pair_place e c.args.lower c.args.upper) (sym c.equals.ensures) ∙ sym c.place_of.ensures ∙ c.in_default.is in
    pair_is_new c.self.inside.terms.now.nodes c.self.inside.log c.args.lower c.args.upper c.self.invariant
    (subst (λ (v : LogBoardValue). IsPair v.terms.nodes (state_of v.terms.nodes v.log.entries) c.args.lower c.args.upper) (sym c.self.view_is) c.requires.pair)
    none

pub returns-clause-later : goal.returns-clause-later
returns-clause-later c =
    subst
    (λ (v : LogBoardValue). IsLaterByMore v.terms.nodes c.self.inside.terms.now.nodes v.log.entries c.push.new.self.entries (λ p. p < suc (length v.log.entries)) (λ p. p < suc (length c.push.new.self.entries)))
    c.self.view_is
    (more_later c.self.inside.terms.now.nodes c.self.inside.log c.push.new.self (step.Equal c.args.lower c.args.upper) c.push.result c.self.invariant refl c.push.ensures.pushed c.push.ensures.err)

pub returns-clause-defined : goal.returns-clause-defined
returns-clause-defined c =
    pushed_entries c.self.inside.terms.now.nodes c.self.inside.log c.push.new.self (step.Equal c.args.lower c.args.upper) c.push.result c.push.ensures.pushed
