use Rattle.std.proofs.Common.{◌≤◌, length, drop}
use Rattle.script_state.proofs.Gathering.{Gathered}
use Rattle.script_state.proofs.asked.ask_all.Given as goal

abbrev pub invariant-loop-span : goal.invariant-loop-span
invariant-loop-span l = Gathered l.purpose l.symbols l.tokens l.fn.terms l.spans (drop l.first l.items) l.terms (drop l.span-index l.spans) (drop l.place l.items) l.asked.items × (l.place ≤ length l.items)
