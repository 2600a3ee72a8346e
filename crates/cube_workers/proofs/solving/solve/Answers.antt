use Rattle.std.proofs.Common.{◌≡◌, ◌<◌, ◌≤◌, ◌^◌, length, take, drop, sym, subst, arith, rules}
use Rattle.std.specs.Prelude.{min}
use Rattle.std.proofs.Math.Nat.{min-le_left}
use Rattle.proof_log.proofs.Growth.{grows_same}
use Rattle.cube_workers.specs.Crews.{AreAtRest}
use Rattle.cube_workers.specs.Workers.{problem_over}
use Rattle.cube_workers.proofs.Settling.{some_workers, rest_taken, rest_dropped, rest_longer, found_front}
use Rattle.cube_workers.proofs.solving.solve.Goals as goal

pub returns-in_default-clause-lost : goal.returns-in_default-clause-lost
returns-in_default-clause-lost g c = (c.requires.stands, grows_same c.args.log.entries, c.fill.ensures.resting c.args.log c.requires.resting)

pub split_off-requires : goal.split_off-requires
split_off-requires g c =
    let k = c.args.check.now in
    let le = min-le_left k.settings.workers (2 ^ length k.tree.now) in
    let is : c.workers.result ≡ min k.settings.workers (2 ^ length k.tree.now) = c.workers.ensures in
    let long : length c.fill.new.searches.items ≡ k.settings.workers = search rules in
    omega (arith, le, is, long)

pub returns-in_default-split_off-clause-lost : goal.returns-in_default-split_off-clause-lost
returns-in_default-split_off-clause-lost g c =
    let same : c.split_off.new.self.items ≡ c.fill.new.searches.items = search rules in
    (c.requires.stands, grows_same c.args.log.entries, subst (AreAtRest c.args.log) (sym same) (c.fill.ensures.resting c.args.log c.requires.resting))

pub solve_by-requires-clause-some : goal.solve_by-requires-clause-some
solve_by-requires-clause-some g c κs within =
    let k = c.args.check.now in
    let le = min-le_left k.settings.workers (2 ^ length k.tree.now) in
    let some = some_workers k.settings.workers (length k.tree.now) c.requires.workers.0 in
    let few = c.requires.workers.1 in
    let is : c.workers.result ≡ min k.settings.workers (2 ^ length k.tree.now) = c.workers.ensures in
    let long : length c.split_off.new.self.items ≡ c.workers.result = search rules in
    (omega (arith, some, is, long), omega (arith, le, few, is, long))

pub solve_by-requires-clause-resting : goal.solve_by-requires-clause-resting
solve_by-requires-clause-resting g c κs within =
    let taken : c.split_off.new.self.items ≡ take c.workers.result c.fill.new.searches.items = search rules in
    rest_taken c.args.log c.workers.result c.fill.new.searches.items c.split_off.new.self.items taken (c.fill.ensures.resting c.args.log c.requires.resting)

pub returns-in-Ok-put_behind-clause-resting : goal.returns-in-Ok-put_behind-clause-resting
returns-in-Ok-put_behind-clause-resting g c =
    let log = c.in-Ok-solve_by.found.log in
    let others : c.in-Ok-split_off.others.items ≡ drop c.workers.result c.fill.new.searches.items = search rules in
    let behind = rest_longer c.args.terms.now.nodes c.args.log log c.in-Ok-split_off.others.items c.requires.stands c.in-Ok-solve_by.ensures.stands c.in-Ok-solve_by.ensures.grows
    (rest_dropped c.args.log c.workers.result c.fill.new.searches.items c.in-Ok-split_off.others.items others (c.fill.ensures.resting c.args.log c.requires.resting)) in
    c.put_behind.ensures.resting log c.in-Ok-solve_by.ensures.resting behind

pub returns-in-Ok-put_behind-clause-count : goal.returns-in-Ok-put_behind-clause-count
returns-in-Ok-put_behind-clause-count g c =
    let k = c.args.check.now in
    let all : length c.fill.new.searches.items ≡ k.settings.workers = search rules in
    let le = min-le_left k.settings.workers (2 ^ length k.tree.now) in
    let is : c.workers.result ≡ min k.settings.workers (2 ^ length k.tree.now) = c.workers.ensures in
    let tail = c.in-Ok-split_off.ensures.tail_len in
    let own : length c.split_off.new.self.items ≡ c.workers.result = search rules in
    let behind = c.in-Ok-put_behind.ensures.count in
    let kept = c.in-Ok-solve_by.ensures.count in
    omega (arith, all, le, is, tail, own, behind, kept)

pub returns-in-Ok-put_behind-clause-by : goal.returns-in-Ok-put_behind-clause-by
returns-in-Ok-put_behind-clause-by g c =
    let behind = c.in-Ok-put_behind.ensures.count in
    let by = c.in-Ok-solve_by.ensures.by in
    omega (arith, behind, by)

pub returns-in-Ok-put_behind-clause-found : goal.returns-in-Ok-put_behind-clause-found
returns-in-Ok-put_behind-clause-found g c =
    let r = c.in-Ok-solve_by.found in
    found_front (problem_over c.args.terms.now.nodes c.args.log.entries c.args.check.now) r.log.entries r.searches.items c.put_behind.new.searches.items r.by r.outcome c.put_behind.ensures.front c.in-Ok-solve_by.ensures.by c.in-Ok-solve_by.ensures.found

pub returns-in-Err-put_behind-clause-lost : goal.returns-in-Err-put_behind-clause-lost
returns-in-Err-put_behind-clause-lost g c =
    let log = c.in-Ok-solve_by.found.log in
    let others : c.in-Ok-split_off.others.items ≡ drop c.workers.result c.fill.new.searches.items = search rules in
    let behind = rest_longer c.args.terms.now.nodes c.args.log log c.in-Ok-split_off.others.items c.requires.stands c.in-Ok-solve_by.ensures.stands c.in-Ok-solve_by.ensures.grows
    (rest_dropped c.args.log c.workers.result c.fill.new.searches.items c.in-Ok-split_off.others.items others (c.fill.ensures.resting c.args.log c.requires.resting)) in
    (c.in-Ok-solve_by.ensures.stands, c.in-Ok-solve_by.ensures.grows, c.put_behind.ensures.resting log c.in-Ok-solve_by.ensures.resting behind)

pub returns-in-Err-clause-lost : goal.returns-in-Err-clause-lost
returns-in-Err-clause-lost g c =
    let lost = c.in-Err.lost in
    let h = c.in-Err.ensures.lost in
    let others : c.in-Ok-split_off.others.items ≡ drop c.workers.result c.fill.new.searches.items = search rules in
    let behind = rest_longer c.args.terms.now.nodes c.args.log lost.log c.in-Ok-split_off.others.items c.requires.stands h.0 h.1
    (rest_dropped c.args.log c.workers.result c.fill.new.searches.items c.in-Ok-split_off.others.items others (c.fill.ensures.resting c.args.log c.requires.resting)) in
    (h.0, h.1, c.put_behind-in-Err.ensures.resting lost.log h.2 behind)
