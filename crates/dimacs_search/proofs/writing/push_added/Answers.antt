use Rattle.std.proofs.Common.{◌≡◌, ◌∷◌, ◌++◌, [], List, ℕ, sym, subst, append-nil}
use Rattle.std.specs.Prelude.{map}
use Rattle.dimacs_search.specs.Writing.{number_in, hint_in, ended, added_text}
use Rattle.dimacs_search.proofs.Pushing.{AreWritten, none_written, row_ended, line_written, ok_more}
use Rattle.dimacs_search.proofs.writing.push_added.Goals as goal

pub literals-init : goal.literals-init
literals-init c = none_written _ _ _ c.in_ok-push_number.ensures.ok

pub names-init : goal.names-init
names-init c =
    subst (λ (ws : List (List ℕ)). AreWritten c.args.out.now c.args.number ws c.push_word-2.new.out) (sym (append-nil (ended (map number_in c.args.clause.now))))
    (row_ended number_in c.args.out.now c.literals.out c.push_word-2.new.out c.args.number [] c.args.clause.now c.literals.literal-index c.literals-test.false c.literals.invariant c.in_ok-push_word-2.ensures)

pub returns : goal.returns
returns c =
    ok_more c.push.result (c.push.new.self ≡ c.push_word-3.new.out ++ 10 ∷ []) (c.push.new.self ≡ c.args.out.now ++ added_text c.args.number c.args.clause.now c.args.hints.now)
    (λ e. line_written c.args.out.now c.push_word-3.new.out c.push.new.self c.args.number c.args.clause.now c.args.hints.now
    (row_ended hint_in c.args.out.now c.names.out c.push_word-3.new.out c.args.number (ended (map number_in c.args.clause.now)) c.args.hints.now c.names.id-index c.names-test.false c.names.invariant c.in_ok-push_word-4.ensures) e)
    c.push.ensures.ok
