use Rattle.std.proofs.Common.{length, ap, arith}
use Rattle.array_watches.specs.Needed.{watched}
use Rattle.array_watches.proofs.Growing.{long_count, watched_long, made_extends}
use Rattle.array_watches.proofs.Putting.{cut_back}
use Rattle.array_watches.proofs.watches.count_watches.Goals as goal

pub cut-requires : goal.cut-requires
cut-requires c =
    let le = long_count c.args.terms.now.nodes (watched c.args.terms.now.nodes c.args.roots.now) (watched_long c.args.terms.now.nodes c.args.roots.now) in
    let made = ap (λ t. length t.nodes) c.in_ok-make_watches.ensures.1 in
    let is = c.len-before.ensures.length in
    omega (arith, le, made, is)

pub overflow_sub-count : goal.overflow_sub-count
overflow_sub-count c =
    let le = long_count c.args.terms.now.nodes (watched c.args.terms.now.nodes c.args.roots.now) (watched_long c.args.terms.now.nodes c.args.roots.now) in
    let made = ap (λ t. length t.nodes) c.in_ok-make_watches.ensures.1 in
    let is = c.len-before.ensures.length in
    let now = c.len.ensures.length in
    omega (arith, le, made, is, now)

pub returns-clause-count : goal.returns-clause-count
returns-clause-count c =
    let le = long_count c.args.terms.now.nodes (watched c.args.terms.now.nodes c.args.roots.now) (watched_long c.args.terms.now.nodes c.args.roots.now) in
    let made = ap (λ t. length t.nodes) c.in_ok-make_watches.ensures.1 in
    let is = c.len-before.ensures.length in
    let now = c.len.ensures.length in
    (c.in_ok-make_watches.ensures.0, omega (arith, le, made, is, now))

pub returns-clause-kept : goal.returns-clause-kept
returns-clause-kept c =
    cut_back c.args.terms.now c.make_watches.new.terms c.cut.new.self c.len-before.result
    (made_extends c.args.terms.now c.make_watches.new.terms (watched c.args.terms.now.nodes c.args.roots.now) c.in_ok-make_watches.ensures.1 (watched_long c.args.terms.now.nodes c.args.roots.now))
    c.len-before.ensures.length c.cut.ensures
