use Rattle.std.proofs.Common.{rules, ◌≡◌, ◌<◌, ◌≤◌, length, get_or, vec_len, arith}
use Rattle.std.proofs.lemmas.List.{get_or_read, get_or_past}
use Rattle.cnf_base.specs.Literals.{code_of}
use Rattle.cdcl_core.specs.Stamps.{neg as neg_of}
use Rattle.cdcl_core.proofs.Counting.{neg_below, neg_past}
use Rattle.cdcl_core.proofs.Bridge.{true_rows, false_rows, unset_open}
use Rattle.cdcl_core.proofs.trail.Trail.value.Goals as goal

pub index-requires-then-code-len : goal.index-requires-then-code-len
index-requires-then-code-len c =
    let within : c.code-code.result < length c.args.self.now.stamps.items = (let size : vec_len c.args.self.now.stamps ≡ length c.args.self.now.stamps.items = search rules in omega (arith, c.if-code-len.true, c.len.ensures, size)) in
    let code : c.code-code.result ≡ code_of c.args.l = c.code-code.ensures.code in
    let other : c.neg.result < length c.args.self.now.stamps.items = rw c.neg.ensures (neg_below c.code-code.result (length c.args.self.now.stamps.items) within c.requires.0.even) in
    search rules

pub returns-then-index-ne0 : goal.returns-then-index-ne0
returns-then-index-ne0 c =
    let within : c.code-code.result < length c.args.self.now.stamps.items = (let size : vec_len c.args.self.now.stamps ≡ length c.args.self.now.stamps.items = search rules in omega (arith, c.if-code-len.true, c.len.ensures, size)) in
    let code : c.code-code.result ≡ code_of c.args.l = c.code-code.ensures.code in
    let stamp : c.index.result.now ≡ get_or c.args.self.now.stamps.items c.code-code.result 0 = get_or_read c.args.self.now.stamps.items c.code-code.result c.index.result.now within c.index.ensures 0 in
    let set : 0 < get_or c.args.self.now.stamps.items (code_of c.args.l) 0 = rw (← code) (omega (arith, stamp, c.if-index-ne0.true)) in
    true_rows c.args.self.now c.args.self.now.level c.args.l c.requires.0 c.requires.1 (set, c.requires.0.top (code_of c.args.l))

pub returns-then-index-ne0-2 : goal.returns-then-index-ne0-2
returns-then-index-ne0-2 c =
    let within : c.code-code.result < length c.args.self.now.stamps.items = (let size : vec_len c.args.self.now.stamps ≡ length c.args.self.now.stamps.items = search rules in omega (arith, c.if-code-len.true, c.len.ensures, size)) in
    let code : c.code-code.result ≡ code_of c.args.l = c.code-code.ensures.code in
    let other : c.neg.result < length c.args.self.now.stamps.items = rw c.neg.ensures (neg_below c.code-code.result (length c.args.self.now.stamps.items) within c.requires.0.even) in
    let stamp : c.index-then-code-len.result.now ≡ get_or c.args.self.now.stamps.items c.neg.result 0 = get_or_read c.args.self.now.stamps.items c.neg.result c.index-then-code-len.result.now other c.index-then-code-len.ensures 0 in
    let set : 0 < get_or c.args.self.now.stamps.items (neg_of (code_of c.args.l)) 0 = rw (← code, ← c.neg.ensures) (omega (arith, stamp, c.if-index-ne0-2.true)) in
    false_rows c.args.self.now c.args.self.now.level c.args.l c.requires.0 c.requires.1 (set, c.requires.0.top (neg_of (code_of c.args.l)))

pub returns-else-index-ne0-2 : goal.returns-else-index-ne0-2
returns-else-index-ne0-2 c =
    let within : c.code-code.result < length c.args.self.now.stamps.items = (let size : vec_len c.args.self.now.stamps ≡ length c.args.self.now.stamps.items = search rules in omega (arith, c.if-code-len.true, c.len.ensures, size)) in
    let code : c.code-code.result ≡ code_of c.args.l = c.code-code.ensures.code in
    let other : c.neg.result < length c.args.self.now.stamps.items = rw c.neg.ensures (neg_below c.code-code.result (length c.args.self.now.stamps.items) within c.requires.0.even) in
    let stamp : c.index.result.now ≡ get_or c.args.self.now.stamps.items c.code-code.result 0 = get_or_read c.args.self.now.stamps.items c.code-code.result c.index.result.now within c.index.ensures 0 in
    let stamp2 : c.index-then-code-len.result.now ≡ get_or c.args.self.now.stamps.items c.neg.result 0 = get_or_read c.args.self.now.stamps.items c.neg.result c.index-then-code-len.result.now other c.index-then-code-len.ensures 0 in
    let unset : get_or c.args.self.now.stamps.items (code_of c.args.l) 0 ≡ 0 = rw (← code) (omega (arith, stamp, c.if-index-ne0.false)) in
    let unset2 : get_or c.args.self.now.stamps.items (neg_of (code_of c.args.l)) 0 ≡ 0 = rw (← code, ← c.neg.ensures) (omega (arith, stamp2, c.if-index-ne0-2.false)) in
    unset_open c.args.self.now c.args.l c.requires.0 c.requires.1 unset unset2

pub returns-else-code-len : goal.returns-else-code-len
returns-else-code-len c =
    let past : length c.args.self.now.stamps.items ≤ code_of c.args.l = (let size : vec_len c.args.self.now.stamps ≡ length c.args.self.now.stamps.items = search rules in omega (arith, c.if-code-len.false, c.len.ensures, size, c.code-code.ensures.code)) in
    let past2 : length c.args.self.now.stamps.items ≤ neg_of (code_of c.args.l) = neg_past (code_of c.args.l) (length c.args.self.now.stamps.items) past c.requires.0.even in
    unset_open c.args.self.now c.args.l c.requires.0 c.requires.1 (get_or_past c.args.self.now.stamps.items (code_of c.args.l) 0 past) (get_or_past c.args.self.now.stamps.items (neg_of (code_of c.args.l)) 0 past2)
