use Rattle.std.proofs.Common.{◌≡◌, ◌<◌, ℕ, Bool, true, false, not, [], length, vec_len, subst, sym, ap, List, arith, rules}
use Rattle.std.specs.Prelude.{◌==◌, Contains, slice_index_or, slice_set}
use Rattle.std.proofs.lemmas.Bool.{eq-eqb, ne_eqb}
use Rattle.cnf_base.specs.declared.clause.ClauseId.{ClauseId}
use Rattle.diary_checker.specs.Tables.{filed_under, row_of}
use Rattle.diary_checker.proofs.Removing.{passes, passed}
use Rattle.diary_checker.proofs.Tables.{set_keeps, set_only, set_comes}
use Rattle.diary_checker.proofs.watches.Watches.remove.Goals as goal

pub returns-then-row-len-clause-kept : goal.returns-then-row-len-clause-kept
returns-then-row-len-clause-kept c = λ k i ne h.
    let stays = λ (id : ClauseId). not (id.pos == c.args.at) in
    let size : vec_len c.self.inside.lists ≡ length c.self.inside.lists.items = search rules in
    let here : c.row-row.result < length c.self.inside.lists.items = omega (arith, size, c.if-row-len.true, c.len.ensures) in
    set_keeps c.self.inside.lists.items c.row-row.result (row_of k) c.index_mut.result.now c.remove.new.self i here c.index_mut.ensures.value
    (λ o. subst (λ (xs : List ClauseId). Contains xs i) (sym c.remove.ensures) (passes stays c.index_mut.result.now i o (ap not (ne_eqb i.pos c.args.at ne))))
    (subst (λ (xs : List (List ClauseId)). Contains (filed_under xs k) i) (sym c.self.view_is) h)

only_row : (lists : List (List ClauseId)) (row at : ℕ) → row ≡ at → (new : List ClauseId) (id : ClauseId) → row < length lists → Contains (slice_index_or (slice_set lists row new) at []) id → Contains new id
only_row lists row at e new id lt h = set_only lists row new id lt (subst (λ k. Contains (slice_index_or (slice_set lists row new) k []) id) (sym e) h)

not_here : (here : Bool) → not here ≡ true → here ≡ true → ⊥
not_here true h e = cc
not_here false h e = cc

pub returns-then-row-len-clause-gone : goal.returns-then-row-len-clause-gone
returns-then-row-len-clause-gone c = λ i h e.
    let stays = λ (id : ClauseId). not (id.pos == c.args.at) in
    let size : vec_len c.self.inside.lists ≡ length c.self.inside.lists.items = search rules in
    let here : c.row-row.result < length c.self.inside.lists.items = omega (arith, size, c.if-row-len.true, c.len.ensures) in
    let left = only_row c.self.inside.lists.items c.row-row.result (row_of c.args.key) c.row-row.ensures c.remove.new.self i here h in
    let stay = passed stays c.index_mut.result.now i (subst (λ (xs : List ClauseId). Contains xs i) c.remove.ensures left) in
    not_here (i.pos == c.args.at) stay.1 (eq-eqb i.pos c.args.at e)

pub returns-then-row-len-clause-none : goal.returns-then-row-len-clause-none
returns-then-row-len-clause-none c = λ k i h.
    let stays = λ (id : ClauseId). not (id.pos == c.args.at) in
    let size : vec_len c.self.inside.lists ≡ length c.self.inside.lists.items = search rules in
    let here : c.row-row.result < length c.self.inside.lists.items = omega (arith, size, c.if-row-len.true, c.len.ensures) in
    let was = set_comes c.self.inside.lists.items c.row-row.result (row_of k) c.index_mut.result.now c.remove.new.self i here c.index_mut.ensures.value
    (λ o. (passed stays c.index_mut.result.now i (subst (λ (xs : List ClauseId). Contains xs i) c.remove.ensures o)).0) h in
    subst (λ (xs : List (List ClauseId)). Contains (filed_under xs k) i) c.self.view_is was
