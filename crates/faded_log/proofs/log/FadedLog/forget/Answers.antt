use Rattle.std.proofs.Common.{take, sym, subst}
use Rattle.faded_log.specs.Faded.{FadedValue, IsFaded, is_among}
use Rattle.faded_log.proofs.Fading.{faded_none, faded_more, held_faded}
use Rattle.faded_log.proofs.log.FadedLog.forget.Goals as goal

pub loop-at-init : goal.loop-at-init
loop-at-init c = subst (λ (l : FadedValue). IsFaded (is_among (take 0 c.args.places.now)) l c.self.inside.rows) c.self.view_is (faded_none c.args.places.now c.self.inside.rows)

pub loop-at-preserved : goal.loop-at-preserved
loop-at-preserved c = faded_more c.args.places.now c.loop-at.at-index _ c.args.self.now c.loop-at.self-inside.rows c.forget.new.self c.loop-at-test.true c.loop-at.invariant c.forget.ensures

pub returns-clause-held : goal.returns-clause-held
returns-clause-held c = λ nodes h. held_faded (is_among (take c.loop-at.at-index c.args.places.now)) nodes c.args.self.now c.loop-at.self-inside.rows c.loop-at.invariant h
