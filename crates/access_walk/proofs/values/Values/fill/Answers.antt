use Rattle.std.proofs.Common.{map, sym, ap, ◌∙◌, subst}
use Rattle.bit_blast.specs.Assigned.{assigned}
use Rattle.access_tables.specs.Held.{assigned_value}
use Rattle.access_walk.specs.Maps.{gate_of}
use Rattle.access_walk.specs.Valuing.{AreValues}
use Rattle.access_walk.proofs.Permuted.{entries_permuted, are_values}
use Rattle.access_walk.proofs.values.Values.fill.Goals as goal

pub returns : goal.returns
returns c =
    let nodes = c.args.terms.now.nodes in
    let bits = c.args.bits.now in
    let f = assigned c.args.assignment.now in
    let n = c.args.network.now in
    let sorted = c.sort.new.entries.items in
    let are = entries_permuted nodes bits f c.args.reached.now n c.enter.new.self.entries.items sorted c.sort.ensures.same c.in_ok-enter.ensures in
    let gates = c.in_ok-put_gates.ensures ∙ ap (map (gate_of (assigned_value nodes bits f))) c.deref.ensures.value in
    let values = are_values nodes bits f c.args.reached.now n c.requires.network sorted are c.requires.words c.requires.values c.requires.linked c.put_gates.new.gates.items gates c.sort.ensures.rising c.start.new.self.starts.items c.in_ok-start.ensures.starts in
    subst (λ es. AreValues nodes bits f c.args.reached.now n es c.put_gates.new.gates.items c.start.new.self.starts.items) (sym c.in_ok-start.ensures.entries) values
