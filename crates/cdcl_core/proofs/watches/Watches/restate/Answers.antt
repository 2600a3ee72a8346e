use Rattle.std.proofs.Common.{◌≡◌, ◌<◌, ◌≤◌, Some, length, get_or, sym, ap, ◌∙◌, arith}
use Rattle.std.proofs.Math.ListN.{set}
use Rattle.std.proofs.lemmas.List.{get_or_read, get_or-take}
use Rattle.cnf_base.specs.Clauses.{no_id}
use Rattle.cnf_base.specs.Literals.{literal_of}
use Rattle.cnf_base.specs.declared.clause.ClauseId.{ClauseId}
use Rattle.cdcl_core.specs.Levels.{Row}
use Rattle.cdcl_core.specs.Slots.{slot_in}
use Rattle.cdcl_core.specs.State.{no_row}
use Rattle.cdcl_core.proofs.Bridge.{literals_length, rows_len}
use Rattle.cdcl_core.proofs.Finding.{reason_within}
use Rattle.cdcl_core.proofs.Restating.{IsRestated, restated_settled, restated_literals, stands_as, one_code, named_code}
use Rattle.cdcl_core.proofs.Trails.{trail_len}
use Rattle.cdcl_core.proofs.watches.Watches.restate.Goals as goal

pub restate-requires-clause-codes : goal.restate-requires-clause-codes
restate-requires-clause-codes c =
    let s = c.requires.settled in
    let t = c.args.trail.now in
    let within : c.args.place < t.len = rw (literals_length t s.trail s.shown) at c.requires.within in
    omega (arith, within, trail_len t.stamps.items t.codes.items t.len t.head t.level s.trail)

pub restate-requires-clause-reasons : goal.restate-requires-clause-reasons
restate-requires-clause-reasons c =
    let s = c.requires.settled in
    let t = c.args.trail.now in
    let within : c.args.place < t.len = rw (literals_length t s.trail s.shown) at c.requires.within in
    reason_within c.args.self.now t c.args.place s within

pub restate-requires-clause-named : goal.restate-requires-clause-named
restate-requires-clause-named c =
    let s = c.requires.settled in
    let t = c.args.trail.now in
    let within : c.args.place < t.len = rw (literals_length t s.trail s.shown) at c.requires.within in
    named_code c.args.self.now t c.args.place s within

restated : (c : goal.After-restate) → IsRestated c.args.self.now c.args.trail.now c.restate.new.t c.args.place c.in-Some.slot c.args.id
restated c =
    let s = c.requires.settled in
    let w = c.args.self.now in
    let t = c.args.trail.now in
    let p = c.args.place in
    let within : p < t.len = rw (literals_length t s.trail s.shown) at c.requires.within in
    let rows : t.len ≤ length t.rows.items = rows_len t s.trail s.shown in
    let found : slot_in w.slots c.args.id ≡ Some c.in-Some.slot = sym c.in-Some.ensures in
    let high : c.in-Some.slot < length w.kinds.items = s.named.high c.args.id c.in-Some.slot found in
    let room : c.in-Some.slot < length w.ids.items = omega (arith, high, s.named.rows) in
    let name : c.index.result.now ≡ c.args.id = get_or_read w.ids.items c.in-Some.slot c.index.result.now room c.index.ensures no_id ∙ s.named.name c.args.id c.in-Some.slot found in
    record {
      settled = s;
      within = within;
      room = omega (arith, within, rows);
      level = ap (λ (r : Row). r.1) (sym (get_or-take t.len t.rows.items p no_row within)) ∙ c.requires.level;
      found = found;
      clause = one_code w t p c.in-Some.slot c.args.id s within found c.requires.clause;
      same = c.restate.ensures.same;
      reasons = c.restate.ensures.reasons;
      rows = c.restate.ensures.rows ∙ ap (λ (q : ClauseId). set t.rows.items p (literal_of (get_or t.codes.items p 0), 0, Some q)) name;
    }

pub returns-clause-settled : goal.returns-clause-settled
returns-clause-settled c = restated_settled c.args.self.now c.args.trail.now c.restate.new.t c.args.place c.in-Some.slot c.args.id (restated c)

pub returns-clause-literals : goal.returns-clause-literals
returns-clause-literals c =
    let s = c.requires.settled in
    let t = c.args.trail.now in
    let within : c.args.place < t.len = rw (literals_length t s.trail s.shown) at c.requires.within in
    rw (stands_as t c.args.place s.shown within) (restated_literals c.args.self.now t c.restate.new.t c.args.place c.in-Some.slot c.args.id (restated c))
