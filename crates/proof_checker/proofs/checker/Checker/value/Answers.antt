use Rattle.std.proofs.Common.{◌≡◌, ◌∷◌, ◌++◌, [], length, get_or, Some, IfOk, sym, ap, ap₂, ◌∙◌, subst, arith}
use Rattle.smt_build.specs.declared.symbols.LiveName.{LiveName}
use Rattle.script_state.specs.States.{StateValue}
use Rattle.proof_text.specs.declared.line.Line.TheVariants as line
use Rattle.accepted_proof.specs.Judged.{refused, MovesBy}
use Rattle.accepted_proof.specs.declared.refusal.RuleName.TheVariants as rule
use Rattle.check_cubes.specs.Searches.{limits_of}
use Rattle.proof_checker.specs.Checkers.{CheckerValue, GoesTo, IsOwedValues, judged_so}
use Rattle.proof_checker.proofs.Moving.{value_refused, value_pushed, one_more_kept}
use Rattle.proof_checker.proofs.checker.Checker.value.Goals as goal

pub returns-in_default-found : goal.returns-in_default-found
returns-in_default-found c =
    let before = c.self.inside in
    let next = c.index-declared-len.result in
    let live = c.declared.ensures ∙ ap (λ (x : StateValue). x.symbols.live) c.deref.ensures in
    let count : c.len.result ≡ length before.values.items = omega arith in
    let at : next ≡ get_or before.state.value.symbols.live (length before.values.items) next = c.index-declared-len.is ∙ ap₂ (λ xs k. get_or xs k next) live count in
    subst (λ (x : CheckerValue). GoesTo (MovesBy x.judging.owed x.judging (Some (line.Value c.args.declaration c.args.written.now))) x c.refuse.result) c.self.view_is
    (value_refused before.format (limits_of before.limits) before.state.value before.log.value.entries before.deleted before.due before.line before.verdicts.items before.values.items next c.args.declaration c.args.written.now c.refuse.result
    (subst (λ (x : CheckerValue). IsOwedValues x.judging.owed) (sym c.self.view_is) c.requires.values) at
    (λ v is. (rw (c.deref-2.ensures, c.in_default-found.is) at c.in-Ok.ensures) next v (ap (λ (x : LiveName). x.declaration) c.index-declared-len.is) is)
    (subst (λ (x : CheckerValue). c.refuse.result ≡ judged_so x (refused x.judging rule.Sat)) (sym c.self.view_is) c.refuse.ensures))

pub returns : goal.returns
returns c =
    let before = c.self.inside in
    let next = c.index-declared-len.result in
    let live = c.declared.ensures ∙ ap (λ (x : StateValue). x.symbols.live) c.deref.ensures in
    let count : c.len.result ≡ length before.values.items = omega arith in
    let at : next ≡ get_or before.state.value.symbols.live (length before.values.items) next = c.index-declared-len.is ∙ ap₂ (λ xs k. get_or xs k next) live count in
    let named = ap (λ (x : LiveName). x.declaration) c.index-declared-len.is in
    subst (λ (x : CheckerValue). IfOk c.go_to_values.result (λ to. GoesTo (MovesBy x.judging.owed x.judging (Some (line.Value c.args.declaration c.args.written.now))) x to)) c.self.view_is
    (value_pushed before.format (limits_of before.limits) before.state.value before.log.value.entries before.deleted before.due before.line before.verdicts.items before.values.items c.push.new.self.items next c.args.declaration c.args.written.now c.in-Some.value c.go_to_values.result
    (subst (λ (x : CheckerValue). IsOwedValues x.judging.owed) (sym c.self.view_is) c.requires.values) at
    ((rw (c.deref-2.ensures, c.in-Some.is) at c.in-Ok.ensures) next named)
    (c.in-Ok-push.ensures.items ∙ ap (λ n. before.values.items ++ (n, c.in-Some.value) ∷ []) (sym named))
    c.go_to_values.ensures)

pub go_to_values-requires-clause-kept : goal.go_to_values-requires-clause-kept
go_to_values-requires-clause-kept c =
    let before = c.self.inside in
    let next = c.index-declared-len.result in
    let named = ap (λ (x : LiveName). x.declaration) c.index-declared-len.is in
    one_more_kept before.state.value before.due before.values.items c.push.new.self.items next c.args.declaration c.args.written.now c.in-Some.value
    (subst (λ (x : CheckerValue). IsOwedValues x.judging.owed) (sym c.self.view_is) c.requires.values) c.self.invariant.4
    ((rw (c.deref-2.ensures, c.in-Some.is) at c.in-Ok.ensures) next named)
    (c.in-Ok-push.ensures.items ∙ ap (λ n. before.values.items ++ (n, c.in-Some.value) ∷ []) (sym named))
