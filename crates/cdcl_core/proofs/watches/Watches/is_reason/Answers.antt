use Rattle.std.proofs.Common.{◌≡◌, ◌<◌, Some, [], length, get_or, sym, ◌∙◌, arith, below_more}
use Rattle.std.specs.Prelude.{Contains}
use Rattle.std.proofs.lemmas.List.{get_or_read}
use Rattle.cnf_base.specs.Literals.{Literal, literal_of}
use Rattle.cdcl_core.specs.Slots.{slot_in}
use Rattle.cdcl_core.specs.State.{HasForced}
use Rattle.cdcl_core.proofs.Clauses.{codes_length}
use Rattle.cdcl_core.proofs.Trails.{trail_len}
use Rattle.cdcl_core.proofs.Placing.{no_reason, forced_reason, reason_forced}
use Rattle.cdcl_core.proofs.watches.Watches.is_reason.Goals as goal

pub returns-in_default : goal.returns-in_default
returns-in_default c = no_reason c.args.self.now c.args.trail.now c.args.id c.requires (sym c.in_default.ensures)

pub has_forced-requires-clause-reasons : goal.has_forced-requires-clause-reasons
has_forced-requires-clause-reasons c =
    let t = c.args.trail.now in
    omega (arith, trail_len t.stamps.items t.codes.items t.len t.head t.level c.requires.trail, c.requires.reasoned.width)

pub returns-then-has_forced : goal.returns-then-has_forced
returns-then-has_forced c = forced_reason c.args.self.now c.args.trail.now c.l-item.result c.in-Some.slot c.args.id c.requires (sym c.in-Some.ensures) c.if-has_forced.ensures

pub loop-l-preserved : goal.loop-l-preserved
loop-l-preserved c =
    let item : c.l-item.result ≡ get_or c.literals-clause.result.now c.loop-l.l-index (literal_of 0) = get_or_read c.literals-clause.result.now c.loop-l.l-index c.l-item.result c.loop-l-test.true c.l-item.is (literal_of 0) in
    let here : HasForced c.args.trail.now c.in-Some.slot (get_or c.literals-clause.result.now c.loop-l.l-index (literal_of 0)) → ⊥ = λ f. c.if-has_forced.ensures (rw item f) in
    below_more _ _ c.loop-l.invariant here

pub returns : goal.returns
returns c = λ r.
    let found : slot_in c.args.self.now.slots c.args.id ≡ Some c.in-Some.slot = sym c.in-Some.ensures in
    let high : c.in-Some.slot < length c.args.self.now.kinds.items = c.requires.named.high c.args.id c.in-Some.slot found in
    let within : c.in-Some.slot < length c.args.self.now.clauses.items = omega (arith, high, c.requires.watched.clauses, codes_length c.args.self.now.clauses.items) in
    let read : c.literals-clause.result.now ≡ get_or c.args.self.now.clauses.items c.in-Some.slot [] = c.literals-clause.ensures ∙ get_or_read c.args.self.now.clauses.items c.in-Some.slot c.index.result.now within c.index.ensures [] in
    let f : (l : Literal) × (Contains (get_or c.args.self.now.clauses.items c.in-Some.slot []) l × HasForced c.args.trail.now c.in-Some.slot l) = reason_forced c.args.self.now c.args.trail.now c.in-Some.slot c.args.id c.requires found r in
    let mem : Contains c.literals-clause.result.now f.0 = rw read f.1.0 in
    let item : f.0 ≡ get_or c.literals-clause.result.now mem.0 (literal_of 0) = get_or_read c.literals-clause.result.now mem.0 f.0 mem.1 (sym mem.2) (literal_of 0) in
    c.loop-l.invariant mem.0 (omega (arith, mem.1, c.loop-l-test.false)) (rw (← item) f.1.1)
