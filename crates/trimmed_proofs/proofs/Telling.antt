-- The parts of a trimmed file are accepted, and tell of the turns.
use Rattle.std.proofs.Common.{◌≡◌, ℕ, suc, Bool, List, [], ◌∷◌, ◌++◌, length, map, Option, Some, None, refl, sym, ap, ap₂, subst, ◌∙◌, arith, inl, inr, ⊎_elim, append-nil}
use Rattle.std.specs.Prelude.{◌⊎◌, ◌||◌, slice_get, option_map}
use Rattle.std.specs.List.{AllByRecursion}
use Rattle.script_state.specs.Readings.{Reading}
use Rattle.script_state.specs.declared.answer.Answer.{Answer}
use Rattle.script_state.specs.declared.answer.Answer.TheVariants.{Done, Refused, Check, Says, Model, Values, Core, Assumptions, Exit}
use Rattle.script_state.specs.declared.answer.Verdict.{Verdict}
use Rattle.script_state.specs.States.{StateValue, concluded, no_state}
use Rattle.script_state.specs.Steps.{ends, settled, step}
use Rattle.proof_log.specs.declared.entry.Entry.{Entry}
use Rattle.proof_log.specs.Logs.{entry_at, start, state_of}
use Rattle.proof_log.specs.Diaries.{is_chain}
use Rattle.proof_text.specs.declared.line.Format.TheVariants.{Two}
use Rattle.proof_text.specs.declared.record.Record.{Record}
use Rattle.proof_text.specs.Lines.{IsLine}
use Rattle.proof_text.specs.Deletions.{is_deletable}
use Rattle.accepted_proof.specs.Searching.{Limits}
use Rattle.accepted_proof.specs.Turns.{Item, Part, Turn, AreParts, AreStepsOf, AreTurns, HasPart, HasProof, IsShown, IsTurn, concluded_by, deleted_behind, part_lines, state_after, steps_in, turn_of, verdict_of, with_steps}
use Rattle.accepted_proof.specs.Accepted.{has_ended, has_error, readings_of}
use Rattle.accepted_proof.specs.Answers.{answer_text, answers_from, is_error, last_shown, shown_text, verdict_text}
use Rattle.accepted_proof.proofs.Reaching.{reached_by_record, reached_first}
use Rattle.accepted_proof.proofs.Settling.{settled_by}
use Rattle.proof_file.specs.Equalities.{HasTakenFirst}
use Rattle.proof_file.specs.Places.{FileValue, no_file}
use Rattle.proof_file.specs.Trimmed.{AreTrimmed, IsTrimmed, IsTrimmedTo}
use Rattle.trimmed_proofs.specs.Laws.{HaveTakenFirst, TellsOf, shown_of}
use Rattle.trimmed_proofs.proofs.States.{same_bare}
use Rattle.trimmed_proofs.proofs.Filing.{IsPlacing}
use Rattle.trimmed_proofs.proofs.Walking.{AreBeside}
use Rattle.trimmed_proofs.proofs.Accepting.{alike_command, beside_command, check_alike, check_beside, check_part, check_record, check_state, check_verdict}
use Rattle.trimmed_proofs.proofs.Answering.{AreAlike, alike_none, same_answer}

-- ---- turns that are no check

-- no steps and no record
record IsIdle (limits : Limits) (s : StateValue) (steps : List Entry) (a : Answer) (o : Option Record) : Type 0 where
  pub no_steps : steps ≡ []
  pub no_record : o ≡ None
  pub stays : (file : List Entry) (deleted : List ℕ) → HasPart Two limits a s file deleted [] None

record IsCheck (limits : Limits) (s : StateValue) (log steps : List Entry) (a : Answer) (o : Option Record) : Type 0 where
  pub record_of : Record
  pub is_check : a ≡ Check
  pub is_some : o ≡ Some record_of
  pub valid : AreStepsOf s log steps
  pub shows : IsShown limits s (with_steps s steps).terms.nodes (log ++ steps) record_of

of_proof : (limits : Limits) (s : StateValue) (log steps : List Entry) (a : Answer) (o : Option Record) → HasProof limits a s log steps o → IsIdle limits s steps a o ⊎ IsCheck limits s log steps a o
of_proof limits s log steps Done o h = inl (record { no_steps = h.0; no_record = h.1; stays = λ l d. (refl, refl) })
of_proof limits s log steps (Refused e) o h = inl (record { no_steps = h.0; no_record = h.1; stays = λ l d. (refl, refl) })
of_proof limits s log steps (Says text) o h = inl (record { no_steps = h.0; no_record = h.1; stays = λ l d. (refl, refl) })
of_proof limits s log steps Model o h = inl (record { no_steps = h.0; no_record = h.1; stays = λ l d. (refl, refl) })
of_proof limits s log steps (Values asked) o h = inl (record { no_steps = h.0; no_record = h.1; stays = λ l d. (refl, refl) })
of_proof limits s log steps Core o h = inl (record { no_steps = h.0; no_record = h.1; stays = λ l d. (refl, refl) })
of_proof limits s log steps Assumptions o h = inl (record { no_steps = h.0; no_record = h.1; stays = λ l d. (refl, refl) })
of_proof limits s log steps Exit o h = inl (record { no_steps = h.0; no_record = h.1; stays = λ l d. (refl, refl) })
of_proof limits s log steps Check None h = absurd h
of_proof limits s log steps Check (Some r) h = inr (record { record_of = r; is_check = refl; is_some = refl; valid = h.0; shows = h.1 })

-- ---- one turn

-- the state after a command that is answered so
abbrev then_state : StateValue → Reading → Answer → List Entry → Option Record → StateValue
then_state s says a steps o = settled s a (concluded_by (with_steps (step s says).1 steps) o)

-- these items and this record tell of the turn
pub record IsTold (limits : Limits) (s : StateValue) (log file : List Entry) (deleted : List ℕ) (new : FileValue) (last shown : Option Record) (line : ℕ) (says : Reading) (a : Answer) (steps : List Entry) (r : Option Record) (items : List Item) (o : Option Record) : Type 0 where
  pub part : HasPart Two limits a (step s says).1 file deleted items o
  pub state : then_state s says a (steps_in items) o ≡ then_state s says a steps r
  pub beside : AreBeside (then_state s says a steps r) (log ++ steps) (file ++ steps_in items) (deleted_behind deleted items) new
  pub alike : AreAlike (state_of (then_state s says a steps r).terms.nodes (log ++ steps)) (state_of (then_state s says a steps r).terms.nodes (file ++ steps_in items)) (last_shown last r) (last_shown shown o)
  pub text : answer_text line a (step s says).1 file shown o ≡ answer_text line a (step s says).1 log last r
  pub verdict : option_map verdict_of o ≡ option_map verdict_of r

some_back : {A : Type 0} (a b : A) → Some a ≡ Some b → a ≡ b
some_back a b e = cc

concluded_same : (s : StateValue) (r : Record) (o : Option Record) → option_map verdict_of o ≡ Some (verdict_of r) → concluded_by s o ≡ concluded s (verdict_of r)
concluded_same s r None e = let z : ⊥ = cc in absurd z
concluded_same s r (Some q) e = ap (concluded s) (some_back (verdict_of q) (verdict_of r) e)

shown_same : (r : Record) (o : Option Record) → option_map verdict_of o ≡ Some (verdict_of r) → shown_text o ≡ shown_text (Some r)
shown_same r None e = let z : ⊥ = cc in absurd z
shown_same r (Some q) e = ap verdict_text (some_back (verdict_of q) (verdict_of r) e)

last_is : (shown o : Option Record) (q : Record) → o ≡ Some q → last_shown shown o ≡ o
last_is shown o q e = ap (last_shown shown) e ∙ sym e

module _ (limits : Limits) (s : StateValue) (log file : List Entry) (deleted : List ℕ) (old : FileValue) (last shown : Option Record) (line : ℕ) (says : Reading) (h : AreBeside s log file deleted old) (alike : AreAlike (state_of s.terms.nodes log) (state_of s.terms.nodes file) last shown) where
  now : AreBeside (step s says).1 log file deleted old
  now = beside_command s log file deleted old says h

  alike_now : AreAlike (state_of (step s says).1.terms.nodes log) (state_of (step s says).1.terms.nodes file) last shown
  alike_now = alike_command s log file deleted old says h last shown alike

  idle_told : (a : Answer) → HasPart Two limits a (step s says).1 file deleted [] None → IsTold limits s log file deleted old last shown line says a [] None [] None
  idle_told a part = record {
    part = part;
    state = refl;
    beside =
        subst (λ (l : List Entry). AreBeside (then_state s says a [] None) l (file ++ []) deleted old) (sym (append-nil log))
        (subst (λ (l : List Entry). AreBeside (then_state s says a [] None) log l deleted old) (sym (append-nil file))
        (settled_by (λ u. AreBeside u log file deleted old) s (step s says).1 a (λ asked e. h) now));
    alike =
        subst (λ (l : List Entry). AreAlike (state_of (then_state s says a [] None).terms.nodes l) (state_of (then_state s says a [] None).terms.nodes (file ++ [])) last shown) (sym (append-nil log))
        (subst (λ (l : List Entry). AreAlike (state_of (then_state s says a [] None).terms.nodes log) (state_of (then_state s says a [] None).terms.nodes l) last shown) (sym (append-nil file))
        (settled_by (λ u. AreAlike (state_of u.terms.nodes log) (state_of u.terms.nodes file) last shown) s (step s says).1 a (λ asked e. alike) alike_now));
    text = same_answer (step s says).1 log file last shown (same_bare (step s says).1.terms.nodes log file h.made) alike_now line a None None refl;
    verdict = refl;
  }

  told_none : (a : Answer) (steps : List Entry) (r : Option Record) (new : FileValue) (items : List Item) (o : Option Record) → IsIdle limits (step s says).1 steps a r → (new ≡ old) × (items ≡ []) × (o ≡ None) → IsTold limits s log file deleted new last shown line says a steps r items o
  told_none a steps r new items o i e =
      subst (λ (x : List Entry). IsTold limits s log file deleted new last shown line says a x r items o) (sym i.no_steps)
      (subst (λ (x : Option Record). IsTold limits s log file deleted new last shown line says a [] x items o) (sym i.no_record)
      (subst (λ (x : FileValue). IsTold limits s log file deleted x last shown line says a [] None items o) (sym e.0)
      (subst (λ (x : List Item). IsTold limits s log file deleted old last shown line says a [] None x o) (sym e.1)
      (subst (λ (x : Option Record). IsTold limits s log file deleted old last shown line says a [] None [] x) (sym e.2) (idle_told a (i.stays file deleted))))))

  check_told : (steps : List Entry) (r : Record) (new : FileValue) (items : List Item) (o : Option Record) → AreStepsOf (step s says).1 log steps → IsShown limits (step s says).1 (with_steps (step s says).1 steps).terms.nodes (log ++ steps) r → HasTakenFirst (suc (length log)) (log ++ steps) (Some r)
      → IsTrimmedTo (step s says).1.terms.nodes (step s says).1.scopes.live log steps (Some r) old new items o → IsTold limits s log file deleted new last shown line says Check steps (Some r) items o
  check_told steps r new items o v shows first t = record {
    part = check_part limits (step s says).1 log steps file deleted old new r items o now v shows first t;
    state =
        ap (λ (x : StateValue). concluded_by x o) (check_state limits (step s says).1 log steps file deleted old new r items o now v shows first t)
        ∙ concluded_same (with_steps (step s says).1 steps) r o verdict;
    beside = record {
      log_reached = reached_by_record (with_steps (step s says).1 steps) (log ++ steps) (Some r) b.log_reached;
      file_reached = reached_by_record (with_steps (step s says).1 steps) (file ++ steps_in items) (Some r) b.file_reached;
      made = b.made;
      keeps = b.keeps;
      placing = b.placing;
    };
    alike = subst (λ (x : Option Record). AreAlike (state_of (with_steps (step s says).1 steps).terms.nodes (log ++ steps)) (state_of (with_steps (step s says).1 steps).terms.nodes (file ++ steps_in items)) (Some r) x) (sym (last_is shown o _ (check_record limits (step s says).1 log steps file deleted old new r items o now v shows first t))) (check_alike limits (step s says).1 log steps file deleted old new r items o now v shows first t);
    text = shown_same r o verdict;
    verdict = verdict;
  }
    where
      b : AreBeside (with_steps (step s says).1 steps) (log ++ steps) (file ++ steps_in items) (deleted_behind deleted items) new
      b = check_beside limits (step s says).1 log steps file deleted old new r items o now v shows first t

      verdict : option_map verdict_of o ≡ Some (verdict_of r)
      verdict = check_verdict limits (step s says).1 log steps file deleted old new r items o now v shows first t

  told_check : (a : Answer) (steps : List Entry) (r : Option Record) (new : FileValue) (items : List Item) (o : Option Record) → IsCheck limits (step s says).1 log steps a r → HasTakenFirst (suc (length log)) (log ++ steps) r
      → IsTrimmedTo (step s says).1.terms.nodes (step s says).1.scopes.live log steps r old new items o → IsTold limits s log file deleted new last shown line says a steps r items o
  told_check a steps r new items o c first t =
      subst (λ (x : Answer). IsTold limits s log file deleted new last shown line says x steps r items o) (sym c.is_check)
      (subst (λ (x : Option Record). IsTold limits s log file deleted new last shown line says Check steps x items o) (sym c.is_some)
      (check_told steps c.record_of new items o c.valid c.shows
      (subst (λ (x : Option Record). HasTakenFirst (suc (length log)) (log ++ steps) x) c.is_some first)
      (subst (λ (x : Option Record). IsTrimmedTo (step s says).1.terms.nodes (step s says).1.scopes.live log steps x old new items o) c.is_some t)))

  pub turn_told : (a : Answer) (steps : List Entry) (r : Option Record) (new : FileValue) (items : List Item) (o : Option Record) → HasProof limits a (step s says).1 log steps r → HasTakenFirst (suc (length log)) (log ++ steps) r
      → IsTrimmedTo (step s says).1.terms.nodes (step s says).1.scopes.live log steps r old new items o → IsTold limits s log file deleted new last shown line says a steps r items o
  turn_told a steps r new items o proof first t =
      ⊎_elim
      (λ i. told_none a steps r new items o i (subst (λ (x : Option Record). IsTrimmedTo (step s says).1.terms.nodes (step s says).1.scopes.live log steps x old new items o) i.no_record t))
      (λ c. told_check a steps r new items o c first t) (of_proof limits (step s says).1 log steps a r proof)

-- ---- all turns

pub record AreTold (limits : Limits) (s : StateValue) (log file : List Entry) (deleted : List ℕ) (last shown : Option Record) (turns : List Turn) (parts : List Part) : Type 0 where
  pub run : AreParts Two limits s file deleted parts
  pub answers : answers_from s file shown (map turn_of parts) ≡ answers_from s log last turns
  pub readings : readings_of (map turn_of parts) ≡ readings_of turns
  pub shown_are : shown_of (map turn_of parts) ≡ shown_of turns
  pub ended : has_ended (map turn_of parts) ≡ has_ended turns
  pub error : has_error (map turn_of parts) ≡ has_error turns

-- what the file has for a turn
abbrev part_for : ℕ → Reading → Answer → List Item → Option Record → Part
part_for line says a items o = record { line = line; says = says; answer = a; items = items; shown = o }

part_is : (t : Turn) (p : Part) → p.line ≡ t.line → p.says ≡ t.says → p.answer ≡ t.answer → part_for t.line t.says t.answer p.items p.shown ≡ p
part_is t p l r a =
    ap (λ (x : ℕ). part_for x t.says t.answer p.items p.shown) (sym l)
    ∙ ap (λ (x : Reading). part_for p.line x t.answer p.items p.shown) (sym r)
    ∙ ap (λ (x : Answer). part_for p.line p.says x p.items p.shown) (sym a)

one_more : (limits : Limits) (s : StateValue) (log file : List Entry) (deleted : List ℕ) (new : FileValue) (last shown : Option Record) (t : Turn) (items : List Item) (o : Option Record) (ts : List Turn) (ps : List Part) → IsTurn limits s log t → IsTold limits s log file deleted new last shown t.line t.says t.answer t.steps t.shown items o → AllByRecursion IsLine (part_lines (part_for t.line t.says t.answer items o))
    → AreTold limits (state_after s t) (log ++ t.steps) (file ++ steps_in items) (deleted_behind deleted items) (last_shown last t.shown) (last_shown shown o) ts ps → AreTold limits s log file deleted last shown (t ∷ ts) (part_for t.line t.says t.answer items o ∷ ps)
one_more limits s log file deleted new last shown t items o ts ps turn told readable rest = record {
  run = (
    record { answer = turn.answer; proof = told.part; readable = readable },
    subst (λ (x : StateValue). AreParts Two limits x (file ++ steps_in items) (deleted_behind deleted items) ps) (sym told.state) rest.run,
  );
  answers = ap₂ (λ (x y : List ℕ). x ++ y) told.text (ap (λ (x : StateValue). answers_from x (file ++ steps_in items) (last_shown shown o) (map turn_of ps)) told.state ∙ rest.answers);
  readings = ap (λ (xs : List (ℕ × Reading)). (t.line, t.says) ∷ xs) rest.readings;
  shown_are = ap₂ (λ (x : Option Verdict) (xs : List (Answer × Option Verdict)). (t.answer, x) ∷ xs) told.verdict rest.shown_are;
  ended = ap (λ (b : Bool). ends t.says || b) rest.ended;
  error = ap (λ (b : Bool). is_error t.answer || b) rest.error;
}

pub all_told : (limits : Limits) (turns : List Turn) (parts : List Part) (s : StateValue) (log file : List Entry) (deleted : List ℕ) (f : FileValue) (last shown : Option Record) → AreBeside s log file deleted f → AreAlike (state_of s.terms.nodes log) (state_of s.terms.nodes file) last shown
    → AreTurns limits s log turns → HaveTakenFirst log turns → AreTrimmed s log f turns parts → AreTold limits s log file deleted last shown turns parts
all_told limits [] [] s log file deleted f last shown h alike are first trimmed = record { run = tt; answers = refl; readings = refl; shown_are = refl; ended = refl; error = refl }
all_told limits [] (p ∷ ps) s log file deleted f last shown h alike are first trimmed = absurd trimmed
all_told limits (t ∷ ts) [] s log file deleted f last shown h alike are first trimmed = absurd trimmed
all_told limits (t ∷ ts) (p ∷ ps) s log file deleted f last shown h alike are first trimmed =
    let here : IsTrimmed s log f trimmed.0 t p = trimmed.1 in
    let told = turn_told limits s log file deleted f last shown t.line t.says h alike t.answer t.steps t.shown trimmed.0 p.items p.shown are.0.proof first.0 here.check in
    subst (λ (x : Part). AreTold limits s log file deleted last shown (t ∷ ts) (x ∷ ps)) (part_is t p here.line here.says here.answer)
    (one_more limits s log file deleted trimmed.0 last shown t p.items p.shown ts ps are.0 told here.readable
    (all_told limits ts ps (state_after s t) (log ++ t.steps) (file ++ steps_in p.items) (deleted_behind deleted p.items) trimmed.0 (last_shown last t.shown) (last_shown shown p.shown) told.beside told.alike are.1 first.1 trimmed.2))

-- ---- the law

nothing_filed : IsPlacing no_state.terms.nodes [] [] [] no_file
nothing_filed = record {
  count = refl;
  zero_is = refl;
  within = λ p. omega arith;
  known = λ p some. absurd (omega (arith, some));
  once = λ p q some e. absurd (omega (arith, some));
  rows = λ p has. ⊎_elim (λ z. ap (λ (x : ℕ). slice_get start.clauses x) (sym z)) (λ some. absurd (omega (arith, some))) has;
  chains = λ p has. ⊎_elim (λ z. ap (λ (x : ℕ). is_chain (entry_at [] x)) (sym z)) (λ some. absurd (omega (arith, some))) has;
  kinds = λ p has. ⊎_elim (λ z. ap (λ (x : ℕ). is_deletable (entry_at [] x)) (sym z)) (λ some. absurd (omega (arith, some))) has;
  left = λ p. refl;
  every = λ q le n. (0, (let z : 0 ≡ q = omega (arith, le) in z), inl refl, omega arith);
  gone = λ q lt. refl;
}

nothing_beside : AreBeside no_state [] [] [] no_file
nothing_beside = record { log_reached = reached_first; file_reached = reached_first; made = refl; keeps = λ p le n. inl (let z : p ≡ 0 = omega (arith, le) in z); placing = nothing_filed }

pub trimmed_accepted : (limits : Limits) (turns : List Turn) (parts : List Part) → AreTurns limits no_state [] turns → HaveTakenFirst [] turns → AreTrimmed no_state [] no_file turns parts → TellsOf limits turns parts
trimmed_accepted limits turns parts are first trimmed =
    let told = all_told limits turns parts no_state [] [] [] no_file None None nothing_beside (alike_none (state_of no_state.terms.nodes []) (state_of no_state.terms.nodes [])) are first trimmed in
    record { run = told.run; answers = told.answers; readings = told.readings; shown = told.shown_are; ended = told.ended; error = told.error }
