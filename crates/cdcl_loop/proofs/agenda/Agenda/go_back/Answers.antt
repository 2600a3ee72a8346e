use Rattle.std.proofs.Common.{ℕ, List, ◌≤◌, length, refl, subst}
use Rattle.cdcl_loop.proofs.Agendas.{scanned_still, scanned_back, mark_at}
use Rattle.cdcl_loop.proofs.agenda.Agenda.go_back.Goals as goal

pub returns-in_default-clause-scanned : goal.returns-in_default-clause-scanned
returns-in_default-clause-scanned c = λ rows top le h.
    scanned_still c.args.self.now rows top c.args.level le (subst (λ (xs : List ℕ). length xs ≤ c.args.level) c.deref.ensures.value c.in_default.ensures.lookup.3) h

pub returns-clause-scanned : goal.returns-clause-scanned
returns-clause-scanned c = λ rows top le h.
    let found = c.in-Some.ensures.lookup in
    scanned_back c.args.self.now rows top h c.args.level le (record c.args.self.now { cursor = c.in-Some.mark.now; marks = c.truncate.new.self }) refl
    (mark_at c.args.self.now c.deref.result.now c.args.level c.in-Some.mark.now c.deref.ensures.value found.3.0 found.1) c.truncate.ensures.items
