use Rattle.std.proofs.Common.{ℕ, ◌<◌, ◌≤◌, List, ◌∷◌, length, map, refl, sym, arith}
use Rattle.std.proofs.lemmas.Option.{get_or_from_slice_get}
use Rattle.cnf_base.specs.Clauses.{no_id}
use Rattle.cnf_base.specs.declared.clause.ClauseId.{ClauseId}
use Rattle.cnf_base.proofs.Lists.{each_map}
use Rattle.proof_text.specs.Lines.{spaced, hint_text, IsHint}
use Rattle.proof_text.specs.Entries.{written_hint}
use Rattle.proof_text.proofs.Appending.{text_more}
use Rattle.proof_text.proofs.Readable.{each_more, each_all}
use Rattle.proof_text.proofs.entry.push_hints.Goals as goal

pub loop-k-preserved : goal.loop-k-preserved
loop-k-preserved c =
    let within : c.loop-k.k < length c.args.hints.now = omega arith in
    let same = sym (get_or_from_slice_get c.args.hints.now c.loop-k.k c.hint.result no_id c.hint.ensures) in
    record {
      text =
          text_more (λ (xs : List ClauseId). spaced (map hint_text (map written_hint xs))) (λ (x : ClauseId). 32 ∷ hint_text (written_hint x)) refl (λ _ _. refl)
          c.args.hints.now c.loop-k.k no_id _ _ _ within c.loop-k.invariant.text (rw same at c.in_ok-push_hint.ensures.ok);
      hints = each_more (λ (x : ClauseId). IsHint (written_hint x)) c.args.hints.now c.loop-k.k no_id within c.loop-k.invariant.hints (rw same at c.in_ok-push_hint.ensures.hint);
    }

pub returns-clause-hints : goal.returns-clause-hints
returns-clause-hints c =
    let past : length c.args.hints.now ≤ c.loop-k.k = omega arith in
    each_map written_hint IsHint c.args.hints.now
    (each_all (λ (x : ClauseId). IsHint (written_hint x)) c.args.hints.now c.loop-k.k past c.loop-k.invariant.hints)
