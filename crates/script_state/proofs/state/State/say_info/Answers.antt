use Rattle.std.proofs.Common.{ap, ◌∙◌}
use Rattle.script_state.specs.States.{StateValue}
use Rattle.script_state.proofs.Telling.{tested, tells_name, tells_version, tells_behavior, tells_levels}
use Rattle.script_state.proofs.state.State.say_info.Goals as goal

pub returns-then-eq : goal.returns-then-eq
returns-then-eq c = tells_name c.args.self.now c.args.keyword.now c.say.result (tested _ _ _ _ _ c.eq.ensures c.as_slice.ensures c.if-eq.true) (c.say.ensures c.args.self.now)

pub returns-then-eq-2 : goal.returns-then-eq-2
returns-then-eq-2 c =
    let name = tested _ _ _ _ _ c.eq.ensures c.as_slice.ensures c.if-eq.false in
    tells_version c.args.self.now c.args.keyword.now c.say-then-eq-2.result name (tested _ _ _ _ _ c.eq-else-eq.ensures c.as_slice-else-eq.ensures c.if-eq-2.true) (c.say-then-eq-2.ensures c.args.self.now)

pub returns-then-eq-3 : goal.returns-then-eq-3
returns-then-eq-3 c =
    let name = tested _ _ _ _ _ c.eq.ensures c.as_slice.ensures c.if-eq.false in
    let version = tested _ _ _ _ _ c.eq-else-eq.ensures c.as_slice-else-eq.ensures c.if-eq-2.false in
    tells_behavior c.args.self.now c.args.keyword.now c.say-then-eq-3.result name version (tested _ _ _ _ _ c.eq-else-eq-2.ensures c.as_slice-else-eq-2.ensures c.if-eq-3.true) (c.say-then-eq-3.ensures c.args.self.now)

pub returns-then-eq-4 : goal.returns-then-eq-4
returns-then-eq-4 c =
    let name = tested _ _ _ _ _ c.eq.ensures c.as_slice.ensures c.if-eq.false in
    let version = tested _ _ _ _ _ c.eq-else-eq.ensures c.as_slice-else-eq.ensures c.if-eq-2.false in
    let behavior = tested _ _ _ _ _ c.eq-else-eq-2.ensures c.as_slice-else-eq-2.ensures c.if-eq-3.false in
    tells_levels c.args.self.now c.args.keyword.now c.say_levels.result name version behavior (tested _ _ _ _ _ c.eq-else-eq-3.ensures c.as_slice-else-eq-3.ensures c.if-eq-4.true) c.levels.result (c.levels.ensures ∙ ap (λ (s : StateValue). s.scopes.levels) c.self.view_is) (c.say_levels.ensures c.args.self.now)
