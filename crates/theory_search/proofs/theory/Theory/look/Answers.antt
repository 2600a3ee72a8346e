use Rattle.std.proofs.Common.{List, ℕ, sym, subst}
use Rattle.smt_terms.specs.Bits.{image_in}
use Rattle.term_reach.specs.Reach.{IsReach}
use Rattle.bit_blast.specs.Assigned.{assigned}
use Rattle.access_tables.specs.Leading.{leads}
use Rattle.access_walk.specs.Walked.{IsWalkable}
use Rattle.access_walk.specs.declared.walking.Walked.TheVariants as of
use Rattle.access_walk.specs.Searched.{IsWalked}
use Rattle.smt_terms.specs.declared.node.Node.{Node}
use Rattle.smt_values.specs.Held.{interpretation_of}
use Rattle.theory_search.specs.Ends.{IsModelOf}
use Rattle.theory_search.specs.Looks.{AreLemmas}
use Rattle.cube_search.specs.Running.{given_in, subject_of, valuation_of}
use Rattle.theory_search.proofs.Looked.{look_at, walks, reaches, is_prepared, words_have_values, values_linked, table_bits, table_satisfied, table_model, conflicts_ready}
use Rattle.theory_search.proofs.theory.Theory.look.Goals as goal

pub walk-requires-clause-walkable : goal.walk-requires-clause-walkable
walk-requires-clause-walkable g c = subst (λ (l : List ℕ). IsWalkable c.args.terms.now.nodes c.bits-bits.result.now l) (sym c.as_slice.ensures.value) (walks c.args.terms.now.nodes (g.B.Board.log c.args.board.now) c.args.search.now.opening.items (given_in c.args.search.now) (valuation_of c.args.search.now) c.bits-bits.result.now c.args.self.now (assigned c.in_ok-assignment.assignment) (look_at (g.B.Board.nodes c.args.board.now) c.args.terms.now (g.B.Board.log c.args.board.now) c.args.search.now.opening.items (given_in c.args.search.now) (valuation_of c.args.search.now) c.bits-bits.result.now c.args.self.now (assigned c.in_ok-assignment.assignment) c.requires.nodes c.len-count.ensures.terms c.bits-bits.ensures.stands c.bits-bits.ensures.bits c.bits-bits.ensures.images c.requires.model c.requires.theory c.in_ok-assignment.ensures))

pub walk-requires-clause-reach : goal.walk-requires-clause-reach
walk-requires-clause-reach g c = subst (λ (l : List ℕ). IsReach (leads c.args.terms.now.nodes (image_in c.bits-bits.result.now)) l c.args.self.now.reached) (sym c.as_slice.ensures.value) (reaches c.args.terms.now.nodes (g.B.Board.log c.args.board.now) c.args.search.now.opening.items (given_in c.args.search.now) (valuation_of c.args.search.now) c.bits-bits.result.now c.args.self.now (assigned c.in_ok-assignment.assignment) (look_at (g.B.Board.nodes c.args.board.now) c.args.terms.now (g.B.Board.log c.args.board.now) c.args.search.now.opening.items (given_in c.args.search.now) (valuation_of c.args.search.now) c.bits-bits.result.now c.args.self.now (assigned c.in_ok-assignment.assignment) c.requires.nodes c.len-count.ensures.terms c.bits-bits.ensures.stands c.bits-bits.ensures.bits c.bits-bits.ensures.images c.requires.model c.requires.theory c.in_ok-assignment.ensures))

pub walk-requires-clause-prepared : goal.walk-requires-clause-prepared
walk-requires-clause-prepared g c = is_prepared c.args.terms.now.nodes (g.B.Board.log c.args.board.now) c.args.search.now.opening.items (given_in c.args.search.now) (valuation_of c.args.search.now) c.bits-bits.result.now c.args.self.now (assigned c.in_ok-assignment.assignment) (look_at (g.B.Board.nodes c.args.board.now) c.args.terms.now (g.B.Board.log c.args.board.now) c.args.search.now.opening.items (given_in c.args.search.now) (valuation_of c.args.search.now) c.bits-bits.result.now c.args.self.now (assigned c.in_ok-assignment.assignment) c.requires.nodes c.len-count.ensures.terms c.bits-bits.ensures.stands c.bits-bits.ensures.bits c.bits-bits.ensures.images c.requires.model c.requires.theory c.in_ok-assignment.ensures)

pub walk-requires-clause-values : goal.walk-requires-clause-values
walk-requires-clause-values g c = words_have_values c.args.terms.now.nodes (g.B.Board.log c.args.board.now) c.args.search.now.opening.items (given_in c.args.search.now) (valuation_of c.args.search.now) c.bits-bits.result.now c.args.self.now (assigned c.in_ok-assignment.assignment) (look_at (g.B.Board.nodes c.args.board.now) c.args.terms.now (g.B.Board.log c.args.board.now) c.args.search.now.opening.items (given_in c.args.search.now) (valuation_of c.args.search.now) c.bits-bits.result.now c.args.self.now (assigned c.in_ok-assignment.assignment) c.requires.nodes c.len-count.ensures.terms c.bits-bits.ensures.stands c.bits-bits.ensures.bits c.bits-bits.ensures.images c.requires.model c.requires.theory c.in_ok-assignment.ensures)

pub walk-requires-clause-linked : goal.walk-requires-clause-linked
walk-requires-clause-linked g c = values_linked c.args.terms.now.nodes (g.B.Board.log c.args.board.now) c.args.search.now.opening.items (given_in c.args.search.now) (valuation_of c.args.search.now) c.bits-bits.result.now c.args.self.now (assigned c.in_ok-assignment.assignment) (look_at (g.B.Board.nodes c.args.board.now) c.args.terms.now (g.B.Board.log c.args.board.now) c.args.search.now.opening.items (given_in c.args.search.now) (valuation_of c.args.search.now) c.bits-bits.result.now c.args.self.now (assigned c.in_ok-assignment.assignment) c.requires.nodes c.len-count.ensures.terms c.bits-bits.ensures.stands c.bits-bits.ensures.bits c.bits-bits.ensures.images c.requires.model c.requires.theory c.in_ok-assignment.ensures)

pub build-requires-clause-bits : goal.build-requires-clause-bits
build-requires-clause-bits g c = table_bits c.args.terms.now.nodes (g.B.Board.log c.args.board.now) c.args.search.now.opening.items (given_in c.args.search.now) (valuation_of c.args.search.now) c.bits-bits.result.now c.args.self.now (assigned c.in_ok-assignment.assignment) (look_at (g.B.Board.nodes c.args.board.now) c.args.terms.now (g.B.Board.log c.args.board.now) c.args.search.now.opening.items (given_in c.args.search.now) (valuation_of c.args.search.now) c.bits-bits.result.now c.args.self.now (assigned c.in_ok-assignment.assignment) c.requires.nodes c.len-count.ensures.terms c.bits-bits.ensures.stands c.bits-bits.ensures.bits c.bits-bits.ensures.images c.requires.model c.requires.theory c.in_ok-assignment.ensures) c.in-Table.table (subst (λ (l : List ℕ). IsWalked c.args.terms.now.nodes c.bits-bits.result.now (assigned c.in_ok-assignment.assignment) l c.args.self.now.reached (of.Table c.in-Table.table)) c.as_slice.ensures.value (subst (IsWalked c.args.terms.now.nodes c.bits-bits.result.now (assigned c.in_ok-assignment.assignment) c.as_slice.result.now c.args.self.now.reached) c.in-Table.is c.in_ok-walked.ensures))

pub build-requires-clause-satisfied : goal.build-requires-clause-satisfied
build-requires-clause-satisfied g c = table_satisfied c.args.terms.now.nodes (g.B.Board.log c.args.board.now) c.args.search.now.opening.items (given_in c.args.search.now) (valuation_of c.args.search.now) c.bits-bits.result.now c.args.self.now (assigned c.in_ok-assignment.assignment) (look_at (g.B.Board.nodes c.args.board.now) c.args.terms.now (g.B.Board.log c.args.board.now) c.args.search.now.opening.items (given_in c.args.search.now) (valuation_of c.args.search.now) c.bits-bits.result.now c.args.self.now (assigned c.in_ok-assignment.assignment) c.requires.nodes c.len-count.ensures.terms c.bits-bits.ensures.stands c.bits-bits.ensures.bits c.bits-bits.ensures.images c.requires.model c.requires.theory c.in_ok-assignment.ensures) c.in-Table.table (subst (λ (l : List ℕ). IsWalked c.args.terms.now.nodes c.bits-bits.result.now (assigned c.in_ok-assignment.assignment) l c.args.self.now.reached (of.Table c.in-Table.table)) c.as_slice.ensures.value (subst (IsWalked c.args.terms.now.nodes c.bits-bits.result.now (assigned c.in_ok-assignment.assignment) c.as_slice.result.now c.args.self.now.reached) c.in-Table.is c.in_ok-walked.ensures))

pub returns-in-Table-clause-looked : goal.returns-in-Table-clause-looked
returns-in-Table-clause-looked g c =
    subst (λ (ns : List Node). IsModelOf (subject_of c.args.search.now ns (g.B.Board.log c.args.board.now)) c.args.self.now.live.items c.args.search.now.opening.items (valuation_of c.args.search.now) (interpretation_of c.in_ok-model-in-Table.model)) (sym c.requires.nodes)
    (table_model c.args.terms.now.nodes (g.B.Board.log c.args.board.now) c.args.search.now.opening.items (given_in c.args.search.now) (valuation_of c.args.search.now) c.bits-bits.result.now c.args.self.now (assigned c.in_ok-assignment.assignment) (look_at (g.B.Board.nodes c.args.board.now) c.args.terms.now (g.B.Board.log c.args.board.now) c.args.search.now.opening.items (given_in c.args.search.now) (valuation_of c.args.search.now) c.bits-bits.result.now c.args.self.now (assigned c.in_ok-assignment.assignment) c.requires.nodes c.len-count.ensures.terms c.bits-bits.ensures.stands c.bits-bits.ensures.bits c.bits-bits.ensures.images c.requires.model c.requires.theory c.in_ok-assignment.ensures) c.in-Table.table (subst (λ (l : List ℕ). IsWalked c.args.terms.now.nodes c.bits-bits.result.now (assigned c.in_ok-assignment.assignment) l c.args.self.now.reached (of.Table c.in-Table.table)) c.as_slice.ensures.value (subst (IsWalked c.args.terms.now.nodes c.bits-bits.result.now (assigned c.in_ok-assignment.assignment) c.as_slice.result.now c.args.self.now.reached) c.in-Table.is c.in_ok-walked.ensures)) c.args.search.now.from (interpretation_of c.in_ok-model-in-Table.model) c.in_ok-model-in-Table.ensures.model)

pub returns-clause-looked : goal.returns-clause-looked
returns-clause-looked g c =
    subst (λ (ns : List Node). AreLemmas ns (g.B.Board.log c.args.board.now) c.in-Conflicts.found) (sym c.requires.nodes)
    (conflicts_ready c.args.terms.now.nodes (g.B.Board.log c.args.board.now) c.args.search.now.opening.items (given_in c.args.search.now) (valuation_of c.args.search.now) c.bits-bits.result.now c.args.self.now (assigned c.in_ok-assignment.assignment) (look_at (g.B.Board.nodes c.args.board.now) c.args.terms.now (g.B.Board.log c.args.board.now) c.args.search.now.opening.items (given_in c.args.search.now) (valuation_of c.args.search.now) c.bits-bits.result.now c.args.self.now (assigned c.in_ok-assignment.assignment) c.requires.nodes c.len-count.ensures.terms c.bits-bits.ensures.stands c.bits-bits.ensures.bits c.bits-bits.ensures.images c.requires.model c.requires.theory c.in_ok-assignment.ensures) c.in-Conflicts.found (subst (λ (l : List ℕ). IsWalked c.args.terms.now.nodes c.bits-bits.result.now (assigned c.in_ok-assignment.assignment) l c.args.self.now.reached (of.Conflicts c.in-Conflicts.found)) c.as_slice.ensures.value (subst (IsWalked c.args.terms.now.nodes c.bits-bits.result.now (assigned c.in_ok-assignment.assignment) c.as_slice.result.now c.args.self.now.reached) c.in-Conflicts.is c.in_ok-walked.ensures)))
