-- What is accepted of fronts of two texts is right.
use Rattle.std.proofs.Common.{◌≡◌, ℕ, List, [], ◌∷◌, ◌++◌, map, Option, Some, None, refl, sym, ap, ◌∙◌, subst, inl, inr, append_assoc}
use Rattle.std.specs.Prelude.{IfSome}
use Rattle.std.specs.List.{flat_map}
use Rattle.cnf_base.proofs.Lists.{each_front}
use Rattle.script_state.specs.declared.answer.Verdict.{Verdict}
use Rattle.script_state.specs.States.{no_state}
use Rattle.proof_text.specs.declared.line.Line.{Line}
use Rattle.proof_text.specs.declared.line.Line.TheVariants as line
use Rattle.proof_text.specs.Lines.{line_text, IsLine}
use Rattle.accepted_proof.specs.Searching.{Limits}
use Rattle.accepted_proof.specs.Turns.{Turn, part_lines, turn_of}
use Rattle.accepted_proof.specs.Answers.{written_of}
use Rattle.accepted_proof.specs.Accepted.{AcceptedSoFar}
use Rattle.accepted_proof.specs.Right.{AreRight}
use Rattle.accepted_proof.specs.Judged.{judging_from, AreReadable}
use Rattle.accepted_proof.proofs.Answering.{start_parts_are_right}
use Rattle.accepted_proof.proofs.Beginning.{judged_begins}
use Rattle.accepted_proof.proofs.Fronts.{front_fewer}
use Rattle.proof_checker.specs.Checked.{AreLines, IsAcceptedSoFar, verdicts_of}
use Rattle.proof_checker.proofs.Passing.{header_told, lines_readable}
use Rattle.proof_checker.proofs.Verdicts.{judged_of, proof_verdicts, line_verdict, of_parts}

-- a text begins with its first lines, where these can be read
begins_with_lines : (ls : List Line) (later : List (Option Line)) (text : List ℕ) → AreLines text (map (λ l. Some l) ls ++ later) → (rest : List ℕ) × (text ≡ flat_map line_text ls ++ rest)
begins_with_lines [] later text h = (text, refl)
begins_with_lines (l ∷ ls) later text (inl h) =
    let r = begins_with_lines ls later h.0 h.2 in (
      r.0,
      h.1.cut
          ∙ sym (append_assoc h.1.before (10 ∷ []) h.0)
          ∙ ap (λ x. x ++ h.0) h.1.line_is.1
          ∙ ap (λ x. line_text l ++ x) r.1
          ∙ sym (append_assoc (line_text l) (flat_map line_text ls) r.0),
    )
begins_with_lines (l ∷ ls) later text (inr h) = absurd (line_there l h.1)
  where
    line_there : (l : Line) → ◌≡◌ {A = Option Line} (Some l) None → ⊥
    line_there l e = cc

pub fronts_right : (script proof : List ℕ) (vs : List Verdict) → IsAcceptedSoFar script proof vs
    → (limits : Limits) × (turns : List Turn) × AcceptedSoFar limits script proof turns × AreRight no_state turns × (vs ≡ verdicts_of turns)
fronts_right script proof vs h =
    let m = header_told h.lines h.says vs h.told in
    let readable : AreReadable m.rest = (subst AreReadable m.header (each_front (λ l. IfSome l IsLine) h.lines h.later (lines_readable (h.lines ++ h.later) proof h.split))).1 in
    let t = judged_begins m.format m.limits script h.chunks h.says m.rest m.allowed (front_fewer script h.chunks h.behind (inr h.cut)) h.read readable (judged_of m.rest (judging_from m.format m.limits) h.says vs None m.told) in
    let header : Line = line.Header m.format m.limits.cubes m.limits.budget in
    let turns = map turn_of t.0 in
    let lines : h.lines ≡ map (λ l. Some l) (header ∷ flat_map part_lines t.0) = m.header ∙ ap (λ ls. Some header ∷ ls) t.1 in
    let text = begins_with_lines (header ∷ flat_map part_lines t.0) h.later proof (subst (λ ls. AreLines proof (ls ++ h.later)) lines h.split) in
    let front = t.2 in
    let whole = written_of front.format m.limits front.parts in
    let begun : AcceptedSoFar m.limits script proof turns = record {
      allowed = front.allowed;
      chunks = front.chunks;
      rest = front.rest ++ text.0;
      front = front.front;
      read = front.read;
      last = front.last;
      format = front.format;
      parts = front.parts;
      turns_are = front.turns_are;
      run = front.run;
      lines = text.1 ∙ ap (λ x. x ++ text.0) front.lines ∙ append_assoc whole front.rest text.0;
    } in
    (m.limits, turns, begun, start_parts_are_right begun.format m.limits begun.parts turns begun.turns_are begun.run, proof_verdicts m.format m.limits m.rest h.says vs m.told ∙ ap (flat_map line_verdict) t.1 ∙ of_parts t.0)
