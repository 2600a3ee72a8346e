use Rattle.std.proofs.Common.{List, ℕ, sym, subst}
use Rattle.smt_terms.specs.Bits.{bits_in}
use Rattle.proof_log.specs.Logs.{state_of}
use Rattle.cube_search.specs.Holding.{IsHolding}
use Rattle.variable_list.specs.Variables.{IsListed}
use Rattle.theory_search.specs.Theories.{IsNaming}
use Rattle.theory_search.proofs.Listed.{listed_all}
use Rattle.theory_search.proofs.theory.variables_of.Goals as goal

pub returns : goal.returns
returns g c =
    listed_all (g.B.Board.nodes c.args.board.now) (g.B.Board.log c.args.board.now) (bits_in c.bits-bits.result.now) c.bits-bits.ensures.bits
    c.add.new.self c.list_terms.new.variables c.args.reached.now c.args.search.now.opening.items
    c.args.search.now.engine.watches c.variables.result.now c.args.search.now.taken.items
    (subst (λ (xs : List ℕ). IsHolding c.args.search.now.engine.watches (state_of (g.B.Board.nodes c.args.board.now) (g.B.Board.log c.args.board.now)).clauses xs c.args.search.now.opening.items c.args.search.now.taken.items) (sym c.variables.ensures) c.requires.search.1.holding)
    (subst (λ (xs : List ℕ). IsListed xs 1 c.add.new.self) c.in_ok-variables.ensures c.in_ok-add.ensures.listed)
    (subst (λ (ts : List ℕ). IsNaming (bits_in c.bits-bits.result.now) c.add.new.self c.list_terms.new.variables ts) c.terms-live.ensures.terms c.in_ok-list_terms.ensures)
