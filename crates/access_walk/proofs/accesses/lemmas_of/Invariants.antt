use Rattle.std.proofs.Common.{◌≡◌, ℕ, length, Some}
use Rattle.std.specs.Prelude.{slice_get}
use Rattle.theory_terms.specs.declared.lemma.Lemma.{Lemma}
use Rattle.access_spread.specs.declared.spreading.Refusal.{Refusal}
use Rattle.access_walk.specs.Spread.{IsClashLemma}
use Rattle.access_walk.proofs.accesses.lemmas_of.Given as goal

abbrev pub invariant-loop-place : goal.invariant-loop-place
invariant-loop-place l = record {
  rows : l.state.rows.items ≡ l.fn.state.rows.items;
  refused : l.state.refused.items ≡ l.fn.state.refused.items;
  count : length l.lemmas.items ≡ l.place;
  each : (k : ℕ) (c : Refusal) (m : Lemma) → slice_get l.fn.state.refused.items k ≡ Some c → slice_get l.lemmas.items k ≡ Some m → IsClashLemma l.network l.values.entries.items l.values.gates.items l.values.starts.items l.fn.state.rows.items c m;
}
