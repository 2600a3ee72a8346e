use Rattle.std.proofs.Common.{◌≡◌, ◌++◌, take}
use Rattle.std.specs.List.{flat_map}
use Rattle.std.specs.Prelude.{slice_get}
use Rattle.smt_values.specs.Held.{set_for}
use Rattle.smt_build.specs.declared.symbols.LiveName.{LiveName}
use Rattle.accepted_proof.specs.Answers.{definition_by}
use Rattle.smt_session.proofs.texts.push_definitions.Given as goal

abbrev pub invariant-live : goal.invariant-live
invariant-live l = l.out ≡ l.fn.out ++ flat_map (λ (x : LiveName). definition_by x.name (slice_get l.state.symbols.signatures x.declaration) (set_for l.values x.declaration)) (take l.live-index l.state.symbols.live)
