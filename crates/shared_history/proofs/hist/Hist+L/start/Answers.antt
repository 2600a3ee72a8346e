use Rattle.std.proofs.Common.{rules, ◌≡◌, [], ◌∷◌, Some, sym, subst}
use Rattle.atomic_table.specs.Table.{opening}
use Rattle.shared_history.specs.Rule.{first_view, Kept}
use Rattle.shared_history.proofs.Keeps.{begins}
use Rattle.shared_history.proofs.Passes.{start_pass}
use Rattle.shared_history.proofs.hist.Hist+L.start.Goals as goal

pub new-requires-2 : goal.new-requires-2
new-requires-2 g c =
    let items : c.push.new.self.items ≡ Some (record { state = c.in-Ok.state; entries = c.new.result }) ∷ [] = search rules in
    subst (λ l. Kept g.L.Law.by g.L.Law.stands c.args.law (opening (0 ∷ 0 ∷ []) l (first_view c.args.law))) (sym items) (begins g.L.Law.by g.L.Law.stands c.args.law (record { state = c.in-Ok.state; entries = c.new.result }) c.new.ensures (search rules))

pub invariant_of-first : goal.invariant_of-first
invariant_of-first g c = start_pass g.L.Law.by g.L.Law.stands c.args.law c.in-Ok-new.seat (search rules)
