use Rattle.std.proofs.Common.{◌≡◌, Some, ◌∙◌, sym}
use Rattle.std.proofs.lemmas.Bool.{iff_false}
use Rattle.proof_log.specs.Logs.{clause_at}
use Rattle.cube_tree.proofs.Growing.{grows_chain, put_found, resolvent_valid}
use Rattle.cube_tree.specs.Closing.{first_of}
use Rattle.cube_tree.proofs.Resolving.{first_closes, second_closes, resolvent_closes}
use Rattle.cube_tree.proofs.joining.resolve.Goals as goal

pub returns-then-not-has-clause-closes : goal.returns-then-not-has-clause-closes
returns-then-not-has-clause-closes c = λ assumed cube h0 h1.
    let e0 : clause_at c.args.log.now.clauses (first_of c.args.left) ≡ Some c.in-Some-Some.first.now = sym c.in-Some-Some.ensures.clause in
    let absent = rw c.new-literal.ensures at (rw c.literals.ensures at (iff_false c.has.ensures c.if-not-has.true)) in
    first_closes (clause_at c.args.log.now.clauses) assumed c.args.variable cube c.args.left c.in-Some-Some.first.now e0 absent h0

pub returns-then-not-has-2-clause-closes : goal.returns-then-not-has-2-clause-closes
returns-then-not-has-2-clause-closes c = λ assumed cube h0 h1.
    let e1 : clause_at c.args.log.now.clauses (first_of c.args.right) ≡ Some c.in-Some-Some.second.now = sym c.in-Some-Some.ensures'.clause in
    let absent = rw c.new-literal.ensures at (rw c.negated.ensures at (rw c.literals-2.ensures at (iff_false c.has-2.ensures c.if-not-has-2.true))) in
    second_closes (clause_at c.args.log.now.clauses) assumed c.args.variable cube c.args.right c.in-Some-Some.second.now e1 absent h1

pub push-requires-clause-valid : goal.push-requires-clause-valid
push-requires-clause-valid c =
    let e0 : clause_at c.args.log.now.clauses (first_of c.args.left) ≡ Some c.in-Some-Some.first.now = sym c.in-Some-Some.ensures.clause in
    let e1 : clause_at c.args.log.now.clauses (first_of c.args.right) ≡ Some c.in-Some-Some.second.now = sym c.in-Some-Some.ensures'.clause in
    let follows = rw (c.literals-3.ensures, c.literals-4.ensures) at c.in_ok-clause.ensures in
    let has = rw c.literals.ensures at (c.has.ensures.0 c.if-not-has.false) in
    let hints = rw (sym (c.in_ok-hints.ensures ∙ c.as_slice.ensures.value)) at (rw c.literals-5.ensures at c.in_ok-names.ensures) in
    resolvent_valid c.args.terms.now c.args.log.now c.in-Some-Some.first.now c.in-Some-Some.second.now c.in_ok-clause.clause c.new-literal.result _ _ c.in_ok-hints.hints c.requires.listed c.requires.stands e0 e1 follows has hints

pub returns-clause-grows : goal.returns-clause-grows
returns-clause-grows c = grows_chain c.args.log.now.entries c.push.new.self.entries c.in_ok-clause.clause c.in_ok-hints.hints c.in_ok-place.ensures.pushed.entries

pub returns-clause-found : goal.returns-clause-found
returns-clause-found c = (c.in_ok-clause.clause, put_found c.args.terms.now.nodes c.args.log.now c.push.new.self c.in_ok-clause.clause c.in_ok-hints.hints c.in_ok-place.place c.in_ok-place.ensures.pushed)

pub returns-clause-closes : goal.returns-clause-closes
returns-clause-closes c = λ assumed cube h0 h1.
    let e0 : clause_at c.args.log.now.clauses (first_of c.args.left) ≡ Some c.in-Some-Some.first.now = sym c.in-Some-Some.ensures.clause in
    let e1 : clause_at c.args.log.now.clauses (first_of c.args.right) ≡ Some c.in-Some-Some.second.now = sym c.in-Some-Some.ensures'.clause in
    let follows = rw c.new-literal.ensures at (rw (c.literals-3.ensures, c.literals-4.ensures) at c.in_ok-clause.ensures) in
    let found = put_found c.args.terms.now.nodes c.args.log.now c.push.new.self c.in_ok-clause.clause c.in_ok-hints.hints c.in_ok-place.place c.in_ok-place.ensures.pushed in
    resolvent_closes (clause_at c.args.log.now.clauses) (clause_at c.push.new.self.clauses) assumed c.args.variable cube c.args.left c.args.right c.in_ok-place.place c.in-Some-Some.first.now c.in-Some-Some.second.now c.in_ok-clause.clause e0 e1 follows found h0 h1
