use Rattle.std.proofs.Common.{List, ℕ, inl, inr, ⊎_elim, subst, sym}
use Rattle.std.specs.Prelude.{Contains}
use Rattle.std.proofs.lemmas.List.Elements.{Contains-push_cases}
use Rattle.cube_search.proofs.Adding.{adding_none}
use Rattle.cube_search.proofs.search.Search.take_step.Goals as goal

pub returns-then-not-is_theory-clause-adding : goal.returns-then-not-is_theory-clause-adding
returns-then-not-is_theory-clause-adding g c = adding_none (g.B.Board.nodes c.args.board.now) (g.B.Board.log c.args.board.now) c.args.self.now c.requires.filling

pub returns-then-not-is_theory-clause-came : goal.returns-then-not-is_theory-clause-came
returns-then-not-is_theory-clause-came g c = λ p k. inl k

pub returns-clause-came : goal.returns-clause-came
returns-clause-came g c = λ p k. ⊎_elim (λ old. inl old) (λ e. inr (sym e)) (Contains-push_cases c.args.self.now.opening.items c.args.at p (subst (λ (ps : List ℕ). Contains ps p) c.in_ok-hold_step.ensures.pushed k))
