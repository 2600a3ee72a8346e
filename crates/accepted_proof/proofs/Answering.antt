-- Answers are right where turns follow one after the other.
use Rattle.std.proofs.Common.{◌≡◌, ℕ, List, [], ◌∷◌, ◌++◌, map, ap, sym, subst, append-nil, Option, Some, None}
use Rattle.script_state.specs.declared.answer.Answer.{Answer}
use Rattle.script_state.specs.declared.answer.Answer.TheVariants.{Done, Refused, Check, Says, Model, Values, Core, Assumptions, Exit}
use Rattle.script_state.specs.declared.answer.Asked.{Asked}
use Rattle.script_state.specs.States.{StateValue, no_state}
use Rattle.script_state.specs.Steps.{step}
use Rattle.proof_log.specs.declared.entry.Entry.{Entry}
use Rattle.proof_text.specs.declared.line.Format.{Format}
use Rattle.proof_text.specs.declared.record.Record.{Record}
use Rattle.proof_text.specs.declared.record.Record.TheVariants.{Sat, Unsat, Unknown}
use Rattle.accepted_proof.specs.Searching.{Limits}
use Rattle.accepted_proof.specs.Models.{IsWrittenModel}
use Rattle.accepted_proof.specs.Turns.{Turn, Item, Part, HasProof, HasPart, IsTurn, AreTurns, AreParts, AreStepsOf, IsRefutation, concluded_by, deleted_behind, state_after, steps_in, turn_of, with_steps}
use Rattle.accepted_proof.specs.Right.{IsRight, AreRight}
use Rattle.accepted_proof.proofs.Reaching.{IsReached, reached_by_command, reached_by_record, reached_by_steps, reached_first}
use Rattle.accepted_proof.proofs.Refuting.{refuted}
use Rattle.accepted_proof.proofs.Settling.{settled_by}

-- what a turn shows, whatever was deleted: nothing is asked of the diary of a cube
abbrev Shows : Answer → StateValue → List Entry → List Entry → Option Record → Type 0
Shows Check s log steps None = ⊥
Shows Check s log steps (Some (Sat values)) = AreStepsOf s log steps × IsWrittenModel s values
Shows Check s log steps (Some (Unsat p)) = AreStepsOf s log steps × IsRefutation s (with_steps s steps).terms.nodes (log ++ steps) p
Shows Check s log steps (Some (Unknown d)) = AreStepsOf s log steps × Unit {0}
Shows _ s log steps shown = (steps ≡ []) × (shown ≡ None)

of_proof : (limits : Limits) (a : Answer) (s : StateValue) (log steps : List Entry) (shown : Option Record) → HasProof limits a s log steps shown → Shows a s log steps shown
of_proof limits Done s log steps shown h = h
of_proof limits (Refused e) s log steps shown h = h
of_proof limits (Says text) s log steps shown h = h
of_proof limits Model s log steps shown h = h
of_proof limits (Values asked) s log steps shown h = h
of_proof limits Core s log steps shown h = h
of_proof limits Assumptions s log steps shown h = h
of_proof limits Exit s log steps shown h = h
of_proof limits Check s log steps None h = h
of_proof limits Check s log steps (Some (Sat values)) h = (h.0, h.1.1)
of_proof limits Check s log steps (Some (Unsat p)) h = h
of_proof limits Check s log steps (Some (Unknown d)) h = (h.0, tt)

no_items : (s : StateValue) (log : List Entry) (items : List Item) (shown : Option Record) → (items ≡ []) × (shown ≡ None) → (steps_in items ≡ []) × (shown ≡ None)
no_items s log items shown h = (ap steps_in h.0, h.1)

of_part : (format : Format) (limits : Limits) (a : Answer) (s : StateValue) (log : List Entry) (deleted : List ℕ) (items : List Item) (shown : Option Record) → HasPart format limits a s log deleted items shown → Shows a s log (steps_in items) shown
of_part format limits Done s log deleted items shown h = no_items s log items shown h
of_part format limits (Refused e) s log deleted items shown h = no_items s log items shown h
of_part format limits (Says text) s log deleted items shown h = no_items s log items shown h
of_part format limits Model s log deleted items shown h = no_items s log items shown h
of_part format limits (Values asked) s log deleted items shown h = no_items s log items shown h
of_part format limits Core s log deleted items shown h = no_items s log items shown h
of_part format limits Assumptions s log deleted items shown h = no_items s log items shown h
of_part format limits Exit s log deleted items shown h = no_items s log items shown h
of_part format limits Check s log deleted items None h = h
of_part format limits Check s log deleted items (Some (Sat values)) h = (h.0, h.2.1)
of_part format limits Check s log deleted items (Some (Unsat p)) h = (h.0, h.2.1)
of_part format limits Check s log deleted items (Some (Unknown d)) h = (h.0, tt)

-- the steps of a turn are those of a check, or there are none
steps_of : (a : Answer) (s : StateValue) (log steps : List Entry) (shown : Option Record) → Shows a s log steps shown → AreStepsOf s log steps
steps_of Done s log steps shown h = subst (AreStepsOf s log) (sym h.0) tt
steps_of (Refused e) s log steps shown h = subst (AreStepsOf s log) (sym h.0) tt
steps_of (Says text) s log steps shown h = subst (AreStepsOf s log) (sym h.0) tt
steps_of Model s log steps shown h = subst (AreStepsOf s log) (sym h.0) tt
steps_of (Values asked) s log steps shown h = subst (AreStepsOf s log) (sym h.0) tt
steps_of Core s log steps shown h = subst (AreStepsOf s log) (sym h.0) tt
steps_of Assumptions s log steps shown h = subst (AreStepsOf s log) (sym h.0) tt
steps_of Exit s log steps shown h = subst (AreStepsOf s log) (sym h.0) tt
steps_of Check s log steps None h = absurd h
steps_of Check s log steps (Some (Sat values)) h = h.0
steps_of Check s log steps (Some (Unsat p)) h = h.0
steps_of Check s log steps (Some (Unknown d)) h = h.0

shows_right : (a : Answer) (s : StateValue) (log steps : List Entry) (shown : Option Record) → IsReached s log → Shows a s log steps shown → IsRight s shown
shows_right Done s log steps shown reached h = subst (IsRight s) (sym h.1) tt
shows_right (Refused e) s log steps shown reached h = subst (IsRight s) (sym h.1) tt
shows_right (Says text) s log steps shown reached h = subst (IsRight s) (sym h.1) tt
shows_right Model s log steps shown reached h = subst (IsRight s) (sym h.1) tt
shows_right (Values asked) s log steps shown reached h = subst (IsRight s) (sym h.1) tt
shows_right Core s log steps shown reached h = subst (IsRight s) (sym h.1) tt
shows_right Assumptions s log steps shown reached h = subst (IsRight s) (sym h.1) tt
shows_right Exit s log steps shown reached h = subst (IsRight s) (sym h.1) tt
shows_right Check s log steps None reached h = absurd h
shows_right Check s log steps (Some (Sat values)) reached h = h.1
shows_right Check s log steps (Some (Unsat p)) reached h = refuted s log steps p reached h.0 h.1
shows_right Check s log steps (Some (Unknown d)) reached h = tt

-- no step is made where values are asked for
no_steps : (a : Answer) (asked : List Asked) (s : StateValue) (log steps : List Entry) (shown : Option Record) → a ≡ Values asked → Shows a s log steps shown → steps ≡ []
no_steps a asked s log steps shown e h = (subst (λ b. Shows b s log steps shown) e h).0

-- what is shown leads from what is reached to what is reached
reached_by : (s : StateValue) (log : List Entry) (t : Turn) → IsReached s log → Shows t.answer (step s t.says).1 log t.steps t.shown → IsReached (state_after s t) (log ++ t.steps)
reached_by s log t reached h =
    let new = (step s t.says).1 in
    let here = reached_by_command s log t.says reached in
    let are = steps_of t.answer new log t.steps t.shown h in
    settled_by (λ u. IsReached u (log ++ t.steps)) s (concluded_by (with_steps new t.steps) t.shown) t.answer
    (λ asked e. subst (λ x. IsReached s (log ++ x)) (sym (no_steps t.answer asked new log t.steps t.shown e h)) (subst (IsReached s) (sym (append-nil log)) reached))
    (reached_by_record (with_steps new t.steps) (log ++ t.steps) t.shown (reached_by_steps new log t.steps here are))

turn_shows : (limits : Limits) (s : StateValue) (log : List Entry) (t : Turn) → IsTurn limits s log t → Shows t.answer (step s t.says).1 log t.steps t.shown
turn_shows limits s log t turn = of_proof limits t.answer (step s t.says).1 log t.steps t.shown turn.proof

-- a turn leads from what is reached to what is reached
pub reached_by_turn : (limits : Limits) (s : StateValue) (log : List Entry) (t : Turn) → IsReached s log → IsTurn limits s log t → IsReached (state_after s t) (log ++ t.steps)
reached_by_turn limits s log t reached turn = reached_by s log t reached (turn_shows limits s log t turn)

pub turns_are_right : (limits : Limits) (s : StateValue) (log : List Entry) (turns : List Turn) → IsReached s log → AreTurns limits s log turns → AreRight s turns
turns_are_right limits s log [] reached are = tt
turns_are_right limits s log (t ∷ ts) reached are =
    (shows_right t.answer (step s t.says).1 log t.steps t.shown (reached_by_command s log t.says reached) (turn_shows limits s log t are.0), turns_are_right limits (state_after s t) (log ++ t.steps) ts (reached_by_turn limits s log t reached are.0) are.1)

pub first_turns_are_right : (limits : Limits) (turns : List Turn) → AreTurns limits no_state [] turns → AreRight no_state turns
first_turns_are_right limits turns are = turns_are_right limits no_state [] turns reached_first are

parts_are_right : (format : Format) (limits : Limits) (s : StateValue) (log : List Entry) (deleted : List ℕ) (parts : List Part) → IsReached s log → AreParts format limits s log deleted parts → AreRight s (map turn_of parts)
parts_are_right format limits s log deleted [] reached are = tt
parts_are_right format limits s log deleted (p ∷ ps) reached are =
    let t = turn_of p in
    let shows = of_part format limits p.answer (step s p.says).1 log deleted p.items p.shown are.0.proof in
    (shows_right t.answer (step s t.says).1 log t.steps t.shown (reached_by_command s log t.says reached) shows, parts_are_right format limits (state_after s t) (log ++ t.steps) (deleted_behind deleted p.items) ps (reached_by s log t reached shows) are.1)

pub start_parts_are_right : (format : Format) (limits : Limits) (parts : List Part) (turns : List Turn) → map turn_of parts ≡ turns → AreParts format limits no_state [] [] parts → AreRight no_state turns
start_parts_are_right format limits parts turns e are = subst (AreRight no_state) e (parts_are_right format limits no_state [] [] parts reached_first are)
