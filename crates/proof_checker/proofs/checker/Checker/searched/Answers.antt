use Rattle.std.proofs.Common.{◌≡◌, IfOk, MatchOption, subst}
use Rattle.proof_checker.specs.Checkers.{CheckerValue, MaySearch, given_in}
use Rattle.proof_checker.proofs.checker.Checker.searched.Goals as goal

pub search_from-requires : goal.search_from-requires
search_from-requires c = rw (c.deref.ensures, c.deref-2.ensures) c.self.invariant.0

pub returns-clause-search : goal.returns-clause-search
returns-clause-search c =
    subst
    (λ (x : CheckerValue).
    IfOk c.search_from.result (λ o. MatchOption o (MaySearch x.judging c.args.cube c.args.start → ⊥) (λ g. MaySearch x.judging c.args.cube c.args.start × (g.items ≡ given_in x.judging c.args.cube))))
    c.self.view_is
    (rw (c.deref.ensures, c.deref-2.ensures) at c.search_from.ensures)
