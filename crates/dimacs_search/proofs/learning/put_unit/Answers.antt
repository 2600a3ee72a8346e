use Rattle.std.proofs.Common.{◌≡◌, ◌+◌, ◌++◌, refl, ap, ◌∙◌, sym, subst, arith, append_assoc}
use Rattle.std.specs.Prelude.{IfSome}
use Rattle.cdcl_core.specs.declared.watches.Watches.{Watches}
use Rattle.cdcl_core.specs.Search.{literals_of, level_of, clause_of}
use Rattle.cdcl_learn.specs.Units.{IsUnitAt}
use Rattle.cdcl_loop.specs.declared.engine.Engine.{Engine}
use Rattle.cdcl_loop.specs.Engines.{IsSameBut}
use Rattle.dimacs_search.specs.Writing.{added_text}
use Rattle.dimacs_search.specs.Searching.{at_number, IsRead}
use Rattle.dimacs_search.proofs.Telling.{read_more, read_same, learnt_of}
use Rattle.dimacs_search.proofs.Holding.{more_by, held_still}
use Rattle.dimacs_search.proofs.learning.put_unit.Goals as goal

pub returns-then-is_some-clause-read : goal.returns-then-is_some-clause-read
returns-then-is_some-clause-read c = λ cnf told r. read_same cnf (clause_of c.args.engine.now.watches) (clause_of c.propagate.new.self.watches) c.args.number (told ++ c.args.lines.now) c.propagate.ensures.store.kept r

pub returns-in_default-clause-read : goal.returns-in_default-clause-read
returns-in_default-clause-read c = λ cnf told r. read_same cnf (clause_of c.args.engine.now.watches) (clause_of c.next_unit.new.self.watches) c.args.number (told ++ c.args.lines.now)
    (λ id. ap (λ (e : Engine). clause_of e.watches id) c.next_unit.ensures.same ∙ c.propagate.ensures.store.kept id) r

pub keep_unit-requires-clause-fresh : goal.keep_unit-requires-clause-fresh
keep_unit-requires-clause-fresh c =
    let id = at_number c.args.number in
    ap (λ (e : Engine). clause_of e.watches id) c.next_unit.ensures.same ∙ (c.propagate.ensures.store.kept id ∙ c.requires.fresh id (omega arith))

pub returns-clause-held : goal.returns-clause-held
returns-clause-held c = λ id d e.
    let n = c.args.number in
    let w : Watches = c.propagate.new.self.watches in
    let same : c.next_unit.new.self.watches ≡ w = ap (λ (e : Engine). e.watches) c.next_unit.ensures.same in
    let others : IsSameBut (at_number n) w c.keep_unit.new.self.watches = subst (λ v. IsSameBut (at_number n) v c.keep_unit.new.self.watches) same c.keep_unit.ensures.others in
    held_still w c.keep_unit.new.self.watches n (c.propagate.ensures.store.kept (at_number n) ∙ c.requires.fresh (at_number n) (omega arith)) others id d (c.propagate.ensures.store.held id ∙ e)

pub returns-clause-read : goal.returns-clause-read
returns-clause-read c = λ cnf told r.
    let n = c.args.number in
    let lines = c.args.lines.now in
    let clause = c.in-Some.clause in
    let hints = c.in-Some.hints.items in
    let w : Watches = c.propagate.new.self.watches in
    let rows = literals_of c.propagate.new.self.trail in
    let same : c.next_unit.new.self.watches ≡ w = ap (λ (e : Engine). e.watches) c.next_unit.ensures.same in
    let others : IsSameBut (at_number n) w c.keep_unit.new.self.watches = subst (λ v. IsSameBut (at_number n) v c.keep_unit.new.self.watches) same c.keep_unit.ensures.others in
    let unit = subst (λ o. IfSome o (λ r. (level_of c.propagate.new.self.trail ≡ 0) × IsUnitAt (clause_of w) rows r.0 r.1 r.2.items)) c.in-Some.is c.in_ok-place.ensures.unit in
    let first : IsRead cnf (clause_of w) n (told ++ lines) = read_same cnf (clause_of c.args.engine.now.watches) (clause_of w) n (told ++ lines) c.propagate.ensures.store.kept r in
    let among = learnt_of cnf (clause_of w) n (told ++ lines) clause hints first unit.1.stands in
    let read = read_more cnf (clause_of w) (clause_of c.keep_unit.new.self.watches) n (told ++ lines) clause hints first unit.1.chain among c.requires.number (more_by w c.keep_unit.new.self.watches n clause c.in_ok-keep_unit.ensures.kept others) in
    let pushed : c.push_added.new.out ≡ lines ++ added_text n clause hints = c.in_ok-push_added.ensures ∙ rw (c.literals.ensures, c.as_slice.ensures.value) refl in
    subst (IsRead cnf (clause_of c.keep_unit.new.self.watches) (n + 1))
    (append_assoc told lines (added_text n clause hints) ∙ ap (λ x. told ++ x) (sym pushed)) read
