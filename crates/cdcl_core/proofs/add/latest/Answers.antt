use Rattle.std.proofs.Common.{◌≡◌, ◌<◌, length, get_or, arith}
use Rattle.std.proofs.lemmas.List.{length-map}
use Rattle.cdcl_core.specs.Stamps.{codes, Has}
use Rattle.cdcl_core.proofs.Clauses.{code_read, code_in}
use Rattle.cdcl_core.proofs.Ranks.{IsLatest, latest_start, latest_taken, latest_kept, latest_none, latest_above}
use Rattle.cdcl_core.proofs.add.latest.Goals as goal
use Rattle.cdcl_core.proofs.add.latest.Goals.{then-code-except+then-highest-own, else-code-except, else-code-except-via-then-code-except+else-highest-own, else-code-except-via-else-code-except}

pub loop-l-init : goal.loop-l-init
loop-l-init c = latest_start (codes c.args.clause.now) c.args.stamps.now c.args.except

pub loop-l-preserved : goal.loop-l-preserved
loop-l-preserved c =
    let has : Has (codes c.args.clause.now) c.code-code.result = code_in c.args.clause.now c.loop-l.l-index c.l-item.result c.code-code.result c.loop-l-test.true c.l-item.is c.code-code.ensures.code in
    let read : get_or (codes c.args.clause.now) c.loop-l.l-index 0 ≡ c.code-code.result = code_read c.args.clause.now c.loop-l.l-index c.l-item.result c.code-code.result c.loop-l-test.true c.l-item.is c.code-code.ensures.code in
    let within : c.loop-l.l-index < length (codes c.args.clause.now) = rw length-map c.loop-l-test.true in
    elim c.if-code-except.branch [
      | then-code-except+then-highest-own w ↦ rw (w.found-is, w.highest-is) (latest_taken (codes c.args.clause.now) c.args.stamps.now c.args.except c.loop-l.l-index c.loop-l.found c.loop-l.highest c.code-code.result c.rank_of-own.result within read c.loop-l.invariant has c.code-code.ensures.from_two w.if-code-except.true c.rank_of-own.ensures w.if-highest-own.true)
      | else-code-except w ↦ rw (w.found-is, w.highest-is) (latest_kept (codes c.args.clause.now) c.args.stamps.now c.args.except c.loop-l.l-index c.loop-l.found c.loop-l.highest c.code-code.result within read c.loop-l.invariant
          (elim w.else-code-except.branch [
            | else-code-except-via-then-code-except+else-highest-own v ↦ (λ _. omega (arith, v.if-highest-own.false, c.rank_of-own.ensures))
            | else-code-except-via-else-code-except v ↦ (λ ne. absurd (ne v.if-code-except.false))
          ]))
    ]

pub returns-clause-none : goal.returns-clause-none
returns-clause-none c =
    let done : IsLatest (codes c.args.clause.now) c.args.stamps.now c.args.except (length (codes c.args.clause.now)) c.loop-l.found c.loop-l.highest = (let e : c.loop-l.l-index ≡ length (codes c.args.clause.now) = rw length-map (omega (arith, c.loop-l-test.false, c.loop-l.auto.l-index-end)) in rw e at c.loop-l.invariant) in
    λ z l h. latest_none (codes c.args.clause.now) c.args.stamps.now c.args.except c.loop-l.found c.loop-l.highest l done z h

pub returns-clause-latest : goal.returns-clause-latest
returns-clause-latest c =
    let done : IsLatest (codes c.args.clause.now) c.args.stamps.now c.args.except (length (codes c.args.clause.now)) c.loop-l.found c.loop-l.highest = (let e : c.loop-l.l-index ≡ length (codes c.args.clause.now) = rw length-map (omega (arith, c.loop-l-test.false, c.loop-l.auto.l-index-end)) in rw e at c.loop-l.invariant) in
    λ l h ne. latest_above (codes c.args.clause.now) c.args.stamps.now c.args.except c.loop-l.found c.loop-l.highest l done h ne
