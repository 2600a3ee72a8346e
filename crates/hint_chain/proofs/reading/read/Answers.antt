use Rattle.std.proofs.Common.{◌≡◌, ◌+◌, ◌<◌, length, [], ◌∷◌, ◌++◌, ◌∙◌, subst, refl, inl, inr, length-set, arith}
use Rattle.hint_chain.specs.Faults.{HasShape}
use Rattle.hint_chain.proofs.Stepping.{at_last, at_missing, at_early, at_wide, chain_more, fault_more, match_more}
use Rattle.hint_chain.proofs.Marking.{agrees_mark, room_same}
use Rattle.hint_chain.proofs.Packing.{drop_at_hint}
use Rattle.hint_chain.proofs.reading.read.Goals as goal

pub loop-k-init : goal.loop-k-init
loop-k-init g c = record { room = refl; more = inl refl; rest = λ ts a. record { now = ts; agrees = a; chain = λ r. r; fault = λ f r. r } }

pub shape_at-requires : goal.shape_at-requires
shape_at-requires g c = λ i h e. room_same c.args.trues.now c.loop-k.trues h c.loop-k.invariant.room (c.requires i h e)

pub returns-in_default-clause-exactly : goal.returns-in_default-clause-exactly
returns-in_default-clause-exactly g c = λ ts a.
    let look = g.C.Clauses.look c.args.clauses.now in
    let hints = c.args.hints.now in
    let k = c.loop-k.k in
    let inv = c.loop-k.invariant.rest ts a in
    let here = drop_at_hint hints k c.hint.result c.hint.ensures in
    let within : k < length hints = omega arith in
    rw c.at.ensures (inv.fault _ (at_missing look inv.now hints k c.hint.result here within c.in_default.ensures.shape))

pub returns-then-k-count-clause-exactly : goal.returns-then-k-count-clause-exactly
returns-then-k-count-clause-exactly g c = λ ts a.
    let look = g.C.Clauses.look c.args.clauses.now in
    let hints = c.args.hints.now in
    let k = c.loop-k.k in
    let inv = c.loop-k.invariant.rest ts a in
    let seen = c.in-Some.ensures.shape in
    let here = drop_at_hint hints k c.hint.result c.hint.ensures in
    let whole : k + 1 ≡ length hints = omega arith in
    match_more c.last.result _ _ _ _ (λ u. inv.chain) inv.fault
    (at_last look inv.now hints k c.hint.result c.in-Some.shape c.last.result here whole (seen.0, seen.1, seen.2 inv.now inv.agrees) c.last.ensures)

pub returns-in-AllFalse-clause-exactly : goal.returns-in-AllFalse-clause-exactly
returns-in-AllFalse-clause-exactly g c = λ ts a.
    let look = g.C.Clauses.look c.args.clauses.now in
    let hints = c.args.hints.now in
    let k = c.loop-k.k in
    let inv = c.loop-k.invariant.rest ts a in
    let seen = c.in-Some.ensures.shape in
    let here = drop_at_hint hints k c.hint.result c.hint.ensures in
    let more : k + 1 < length hints = omega arith in
    rw c.at-in-AllFalse.ensures (inv.fault _ (at_early look inv.now hints k c.hint.result here more (seen.0, seen.1, subst (HasShape inv.now seen.0) c.in-AllFalse.is (seen.2 inv.now inv.agrees))))

pub returns-in-Many-clause-exactly : goal.returns-in-Many-clause-exactly
returns-in-Many-clause-exactly g c = λ ts a.
    let look = g.C.Clauses.look c.args.clauses.now in
    let hints = c.args.hints.now in
    let k = c.loop-k.k in
    let inv = c.loop-k.invariant.rest ts a in
    let seen = c.in-Some.ensures.shape in
    let here = drop_at_hint hints k c.hint.result c.hint.ensures in
    let more : k + 1 < length hints = omega arith in
    rw c.at-in-Many.ensures (inv.fault _ (at_wide look inv.now hints k c.hint.result here more (seen.0, seen.1, subst (HasShape inv.now seen.0) c.in-Many.is (seen.2 inv.now inv.agrees))))

pub loop-k-preserved : goal.loop-k-preserved
loop-k-preserved g c =
    let look = g.C.Clauses.look c.args.clauses.now in
    let hints = c.args.hints.now in
    let k = c.loop-k.k in
    let l = c.in-OneOpen.l in
    let seen = c.in-Some.ensures.shape in
    let here = drop_at_hint hints k c.hint.result c.hint.ensures in
    let more : k + 1 < length hints = omega arith in
    rw c.mark.ensures (record {
      room = length-set c.loop-k.trues.stamps _ _ ∙ c.loop-k.invariant.room;
      more = inr more;
      rest = λ ts a.
          let inv = c.loop-k.invariant.rest ts a in
          let unit = subst (HasShape inv.now seen.0) c.in-OneOpen.is (seen.2 inv.now inv.agrees) in
          record {
            now = inv.now ++ l ∷ [];
            agrees = agrees_mark c.loop-k.trues inv.now l inv.agrees (c.in-Some.ensures.room l c.in-OneOpen.is);
            chain = λ r. inv.chain (chain_more look inv.now hints k c.hint.result l here more (seen.0, seen.1, unit) r);
            fault = λ f r. inv.fault f (fault_more look inv.now hints k c.hint.result l here more (seen.0, seen.1, unit) f r);
          };
    })
