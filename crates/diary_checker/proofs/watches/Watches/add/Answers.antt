use Rattle.std.proofs.Common.{◌≡◌, ◌<◌, ℕ, [], length, subst, sym, List}
use Rattle.std.specs.Prelude.{Contains, slice_index_or, slice_set, Result, Ok, Err, OnOk}
use Rattle.cnf_base.specs.declared.clause.ClauseId.{ClauseId}
use Rattle.diary_checker.specs.Tables.{filed_under, row_of}
use Rattle.diary_checker.proofs.Tables.{set_keeps, set_has}
use Rattle.diary_checker.proofs.watches.Watches.add.Goals as goal

pub returns-clause-kept : goal.returns-clause-kept
returns-clause-kept c = λ k i h.
    set_keeps c.grow.new.lists.items c.row-at.result (row_of k) c.index_mut.result.now c.push.new.self i c.in_ok-grow.ensures.room c.index_mut.ensures.value (c.push.ensures.kept i)
    (rw (c.grow.ensures.same (row_of k)) (subst (λ (xs : List (List ClauseId)). Contains (filed_under xs k) i) (sym c.self.view_is) h))

has_row : (lists : List (List ClauseId)) (row at : ℕ) → row ≡ at → (new : List ClauseId) (id : ClauseId) → row < length lists → Contains new id → Contains (slice_index_or (slice_set lists row new) at []) id
has_row lists row at e new id lt h = subst (λ k. Contains (slice_index_or (slice_set lists row new) k []) id) e (set_has lists row new id lt h)

on_ok : {E : Type 0} (r : Result (Unit {0}) E) (P Q : Type 0) → (P → Q) → OnOk r P → OnOk r Q
on_ok (Ok u) P Q f h = f h
on_ok (Err e) P Q f h = tt

pub returns-clause-ok : goal.returns-clause-ok
returns-clause-ok c =
    on_ok c.push.result _ _ (has_row c.grow.new.lists.items c.row-at.result (row_of c.args.key) c.row-at.ensures c.push.new.self c.args.id c.in_ok-grow.ensures.room) c.push.ensures.ok
