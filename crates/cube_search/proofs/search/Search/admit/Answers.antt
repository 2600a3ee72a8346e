use Rattle.std.proofs.Common.{List, Some, inl, inr, ap, ◌∙◌, subst}
use Rattle.cnf_base.specs.Literals.{Literal}
use Rattle.cube_search.specs.Holding.{AreAmong, IsForeign}
use Rattle.cube_search.specs.Running.{variables_in}
use Rattle.cube_search.proofs.search.Search.admit.Goals as goal

pub returns-then-not-are_listed-clause-admitted : goal.returns-then-not-are_listed-clause-admitted
returns-then-not-are_listed-clause-admitted c = record {
  others = c.store.ensures.others;
  kept = c.in_ok-store.ensures.kept ∙ ap Some c.in_ok-own.ensures;
  came = inr (c.store.ensures.parked, subst (λ (ls : List Literal). IsForeign (variables_in c.args.self.now) ls) c.literals.ensures c.if-not-are_listed.ensures);
}

pub returns-clause-admitted : goal.returns-clause-admitted
returns-clause-admitted c = record {
  others = c.admit.ensures.others;
  kept = c.in_ok-admit.ensures.kept ∙ ap Some c.in_ok-own.ensures;
  came = inl (
    c.in_ok-admit.ensures.held ∙ ap Some c.in_ok-own.ensures,
    subst (λ (ls : List Literal). AreAmong (variables_in c.args.self.now) ls) c.literals.ensures c.if-not-are_listed.ensures,
  );
}
