-- One command and its answer.
use Rattle.std.proofs.Common.{◌≡◌, ℕ, ◌<◌, List, [], ◌∷◌, length, take, drop, Option, refl, sym, ap, ◌∙◌, subst, append-nil, inl, inr, take-append-drop, arith, length-drop}
use Rattle.std.specs.Prelude.{◌||◌}
use Rattle.std.specs.List.{flat_map}
use Rattle.std.specs.Io.KnownBytes.{Appends}
use Rattle.std.proofs.KnownBytes.{Appends-nil}
use Rattle.smt_text.specs.declared.chunk.Chunk.{Chunk}
use Rattle.proof_text.specs.Lines.{line_text}
use Rattle.script_state.specs.Steps.{ends}
use Rattle.accepted_proof.specs.Turns.{part_lines}
use Rattle.accepted_proof.specs.Answers.{turn_text, is_refused}
use Rattle.smt_session.specs.declared.response.Response.{Response}
use Rattle.smt_session.specs.declared.response.Stop.{Stop}
use Rattle.smt_session.specs.declared.response.Stop.TheVariants.{Failed, NoMemory}
use Rattle.proof_file.specs.Held.{file_in}
use Rattle.smt_session.specs.Sessions.{SessionValue, IsAnswered, CutsTurn, Leaves}
use Rattle.smt_check.specs.Runs.{AddsTo}
use Rattle.smt_run.specs.declared.answering.Answered.{Answered}
use Rattle.smt_run.specs.Adding.{Filed, Moment, moment_of, answers_at, Follow, streams, lines_of, Advances, BreaksAt}
use Rattle.smt_run.proofs.Turning.{Follow-none, or_false}

module _ (chunk : Chunk) (old new : SessionValue) (r : Response) (p p' : Option (List ℕ)) (w : IsAnswered chunk old new r p p') where
  abbrev one : Filed
  one = record { turn = w.turn; part = w.part; file = file_in new.file }

  turn_follows : Follow (moment_of old) (chunk ∷ []) (one ∷ [])
  turn_follows = record { read = (w.line, w.reads, tt); last = (λ e. refl, tt); run = (w.stands, tt); filed = (w.trims, tt); taken = (w.taken, tt) }

  one_text : answers_at (moment_of old) (one ∷ []) ≡ r.text
  one_text = append-nil (turn_text old.state old.log.entries old.shown w.turn) ∙ sym w.text

  one_proof : lines_of (one ∷ []) ≡ flat_map line_text (part_lines w.part)
  one_proof = ap (flat_map line_text) (append-nil (part_lines w.part))

  pub turn_advances : (so_far answered : Answered) (a a' : Option (List ℕ)) → so_far.session ≡ old → answered.session ≡ new → answered.refused ≡ (so_far.refused || r.error) → answered.ended ≡ r.ends → Appends a a' r.text
      → Advances (moment_of so_far.session) so_far.refused answered (streams a p) (streams a' p') (chunk ∷ [])
  turn_advances so_far answered a a' e f b g t =
      rw (e, f) (record {
        done = one ∷ [];
        adds = record {
          follow = turn_follows;
          answers = subst (Appends a a') (sym (append-nil (answers_at (moment_of old) (one ∷ [])) ∙ one_text)) t;
          proof = subst (Appends p p') (sym (append-nil (lines_of (one ∷ [])) ∙ one_proof)) w.lines;
          thorough = (w.thorough, tt);
        };
        after_is = (λ i. record { state = w.state i; log = w.log i; file = file_in new.file; shown = w.shown i; limits = w.limits i });
        refused_is = b ∙ ap (λ x. so_far.refused || x) (w.error ∙ or_false (is_refused w.turn));
        ended_is = g ∙ w.ends ∙ or_false (ends w.turn.says);
      })

  pub turn_breaks : (so_far : Answered) (n : ℕ) (a a' : Option (List ℕ)) → so_far.session ≡ old → n < length r.text → Appends a a' (take n r.text)
      → BreaksAt (moment_of so_far.session) (streams a p) (streams a' p') (chunk ∷ [])
  turn_breaks so_far n a a' e h t =
      rw e (record {
        next = chunk ∷ [];
        next_is = inr refl;
        breaks = record {
          done = [];
          begun = take n r.text;
          more = flat_map line_text (part_lines w.part);
          adds = record { follow = Follow-none (moment_of old); answers = t; proof = w.lines; thorough = tt };
          going = refl;
          coming = one ∷ [];
          rest = drop n r.text;
          left = [];
          follow = turn_follows;
          answer = one_text ∙ sym (take-append-drop n r.text);
          lines = one_proof ∙ sym (append-nil (flat_map line_text (part_lines w.part)));
          unfinished = inr (record { command = one; one = refl; unfinished = inr (refl, omega (arith, h, length-drop n r.text)) });
        };
      })

-- what is left in the proof where a write failed, and where memory is wanting
pub left_at_failure : (stop : Stop) (front : Type 0) (p p' : Option (List ℕ)) → stop ≡ Failed → Leaves stop front p p' → front
left_at_failure stop front p p' e h = subst (λ s. Leaves s front p p') e h

pub left_at_want : (stop : Stop) (front : Type 0) (p p' : Option (List ℕ)) → stop ≡ NoMemory → Leaves stop front p p' → Appends p p' []
left_at_want stop front p p' e h = subst (λ s. Leaves s front p p') e h

-- a command of which nothing was written
pub silent_breaks : (m : Moment) (chunks : List Chunk) (a p p' : Option (List ℕ)) → Appends p p' [] → BreaksAt m (streams a p) (streams a p') chunks
silent_breaks m chunks a p p' h = record {
  next = [];
  next_is = inl refl;
  breaks = record {
    done = [];
    begun = [];
    more = [];
    adds = record { follow = Follow-none m; answers = Appends-nil a; proof = h; thorough = tt };
    going = refl;
    coming = [];
    rest = [];
    left = [];
    follow = Follow-none m;
    answer = refl;
    lines = refl;
    unfinished = inl (refl, refl);
  };
}

-- a command of whose part a front was written
pub cut_breaks : (old : SessionValue) (chunk : Chunk) (a p p' : Option (List ℕ)) → CutsTurn chunk old p p' → BreaksAt (moment_of old) (streams a p) (streams a p') (chunk ∷ [])
cut_breaks old chunk a p p' w =
    let one : Filed = record { turn = w.turn; part = w.part; file = w.file } in
    record {
      next = chunk ∷ [];
      next_is = inr refl;
      breaks = record {
        done = [];
        begun = [];
        more = w.lines.front;
        adds = record { follow = Follow-none (moment_of old); answers = Appends-nil a; proof = w.lines.added; thorough = tt };
        going = refl;
        coming = one ∷ [];
        rest = answers_at (moment_of old) (one ∷ []);
        left = w.lines.left;
        follow = record { read = (w.line, w.reads, tt); last = (λ e. refl, tt); run = (w.stands, tt); filed = (w.trims, tt); taken = (w.taken, tt) };
        answer = refl;
        lines = ap (flat_map line_text) (append-nil (part_lines w.part)) ∙ w.lines.parts;
        unfinished = inr (record { command = one; one = refl; unfinished = inl (refl, w.lines.unfinished) });
      };
    }

pub cut_adds : (old : SessionValue) (chunk : Chunk) (p p' : Option (List ℕ)) → CutsTurn chunk old p p' → AddsTo p p'
cut_adds old chunk p p' w = (w.lines.front, w.lines.added)

pub answer_adds : (chunk : Chunk) (old new : SessionValue) (r : Response) (p p' : Option (List ℕ)) → IsAnswered chunk old new r p p' → AddsTo p p'
answer_adds chunk old new r p p' w = (flat_map line_text (part_lines w.part), w.lines)
