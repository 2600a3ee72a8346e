use Rattle.std.proofs.Common.{length, ap, arith}
use Rattle.array_watches.specs.Needed.{watched}
use Rattle.array_watches.proofs.Growing.{long_count}
use Rattle.array_watches.proofs.Putting.{all_fails}
use Rattle.array_watches.proofs.Steps.{err_extends}
use Rattle.array_watches.proofs.watches.make_watches.Goals as goal

pub cut-requires : goal.cut-requires
cut-requires c =
    let e = err_extends (watched c.args.terms.now.nodes c.args.roots.now) c.args.terms.now c.make_all.new.terms c.in-Err.error c.in-Err.ensures in
    let le = long_count c.args.terms.now.nodes c.make_all.new.terms.nodes (e.more, e.nodes) in
    let is = c.len-held.ensures.length in
    omega (arith, le, is)

pub returns-in-Err : goal.returns-in-Err
returns-in-Err c =
    all_fails (watched c.args.terms.now.nodes c.args.roots.now) c.args.terms.now c.make_all.new.terms c.cut.new.self c.in-Err.error c.len-held.result c.in-Err.ensures c.len-held.ensures.length c.cut.ensures

pub returns-in-Ok : goal.returns-in-Ok
returns-in-Ok c =
    let is = c.in-Ok.ensures in
    let within = c.len-count.ensures.terms.within in
    let nodes = ap (λ t. length t.nodes) is in
    let limit = ap (λ t. t.limit) is in
    (omega (arith, within, nodes, limit), is)
