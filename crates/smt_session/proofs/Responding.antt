-- What is answered and written is that of a turn.
use Rattle.std.proofs.Common.{◌≡◌, ℕ, Bool, true, false, suc, List, [], ◌∷◌, ◌++◌, length, drop, Option, Some, None, refl, sym, ap, ◌∙◌, subst, append-nil, arith}
use Rattle.std.specs.List.{flat_map, AllByRecursion}
use Rattle.std.specs.Io.KnownBytes.{Appends}
use Rattle.std.proofs.KnownBytes.{Appends-nil}
use Rattle.std.proofs.lemmas.List.{drop_at}
use Rattle.smt_text.specs.declared.chunk.Chunk.{Chunk}
use Rattle.script_state.specs.declared.answer.Answer.{Answer}
use Rattle.script_state.specs.declared.answer.Answer.TheVariants.{Done, Refused, Check, Says, Model, Values, Core, Assumptions, Exit}
use Rattle.script_state.specs.declared.answer.Asked.{Asked}
use Rattle.script_state.specs.declared.error_text.ErrorText.{ErrorText}
use Rattle.script_state.specs.Readings.{Reading, ReadsAs}
use Rattle.script_state.specs.States.{StateValue, concluded}
use Rattle.script_state.specs.Steps.{Step, step, settled}
use Rattle.proof_log.specs.declared.entry.Entry.{Entry}
use Rattle.proof_log.specs.Logs.{state_of}
use Rattle.proof_log.specs.Stored.{LogValue}
use Rattle.proof_text.specs.declared.record.Record.{Record}
use Rattle.proof_text.specs.declared.line.Line.{Line}
use Rattle.proof_text.specs.Lines.{line_text, IsLine}
use Rattle.accepted_proof.specs.Searching.{Limits}
use Rattle.accepted_proof.specs.Turns.{Part, Turn, IsShown, HasProof, with_steps, concluded_by, item_lines, shown_lines, verdict_of}
use Rattle.accepted_proof.specs.Answers.{answer_text, error_text, verdict_text, done_text, model_text, values_text, core_text, assumptions_text, is_error}
use Rattle.accepted_proof.specs.Cores.{refuting_clause}
use Rattle.proof_file.specs.Equalities.{HasTakenFirst}
use Rattle.proof_file.specs.Files.{IsWrittenPart}
use Rattle.proof_file.specs.Places.{FileValue}
use Rattle.proof_file.specs.Trimmed.{IsTrimmed, IsTrimmedCheck, IsTrimmedTo}
use Rattle.smt_session.specs.declared.response.Response.{Response}
use Rattle.smt_session.specs.declared.response.Stop.{Stop}
use Rattle.smt_session.specs.declared.response.Stop.TheVariants.{Failed, NoMemory}
use Rattle.smt_session.specs.Thorough.{IsThorough}
use Rattle.proof_file.specs.Held.{PlacesValue, file_in}
use Rattle.smt_session.specs.Sessions.{IsChecked, IsFiled, Responds, IsAnswered, CutsCheck, CutsTurn, Leaves, WritesFront, response, asks_values, is_end}
use Rattle.smt_session.proofs.Ending.{ends_is}

-- an answer without steps and a record
module _ (limits : Limits) (line : ℕ) (a : Answer) (s : StateValue) (l : LogValue) (f : FileValue) (last : Option Record) (r : Response) (w : Option (List ℕ)) where
  silent : HasProof limits a s l.entries [] None → (text : List ℕ) (error ends : Bool) → r ≡ response text error ends
      → text ≡ answer_text line a s l.entries last None → error ≡ is_error a → ends ≡ is_end a → Responds limits line a s s l l f f last last r w w
  silent proof text error ends e is_text error_is ends_is = record {
    steps = [];
    shown = None;
    proof = proof;
    thorough = record { terms = λ t le lt. absurd (omega (arith, le, lt)); simple = tt; cubes = tt };
    state = refl;
    log = sym (append-nil l.entries);
    kept = refl;
    lines = [];
    filed = record { items = []; placed = None; trims = (refl, refl, refl); taken = tt; lines_are = refl; readable = tt };
    added = Appends-nil w;
    text = ap (λ x. x.text) e ∙ is_text;
    error = ap (λ x. x.error) e ∙ error_is;
    ends = ap (λ x. x.ends) e ∙ ends_is;
  }

module _ (limits : Limits) (line : ℕ) (s : StateValue) (l : LogValue) (f : FileValue) (last : Option Record) (r : Response) (w : Option (List ℕ)) (a : Answer) where
  -- the same of an answer that this is
  of_answer : (b : Answer) → a ≡ b → Responds limits line b s s l l f f last last r w w → Responds limits line a s s l l f f last last r w w
  of_answer b e h = subst (λ x. Responds limits line x s s l l f f last last r w w) (sym e) h

  pub done_responds : a ≡ Done → r ≡ response (done_text s.options) false false → Responds limits line a s s l l f f last last r w w
  done_responds is e = of_answer Done is (silent limits line Done s l f last r w (refl, refl) (done_text s.options) false false e refl refl refl)

  pub refused_responds : (e : ErrorText) → a ≡ Refused e → r ≡ response (error_text line e) true false → Responds limits line a s s l l f f last last r w w
  refused_responds x is e = of_answer (Refused x) is (silent limits line (Refused x) s l f last r w (refl, refl) (error_text line x) true false e refl refl refl)

  pub says_responds : (x : List ℕ) → a ≡ Says x → r ≡ response (x ++ 10 ∷ []) false false → Responds limits line a s s l l f f last last r w w
  says_responds x is e = of_answer (Says x) is (silent limits line (Says x) s l f last r w (refl, refl) (x ++ 10 ∷ []) false false e refl refl refl)

  pub model_responds : a ≡ Model → r ≡ response (model_text s last) false false → Responds limits line a s s l l f f last last r w w
  model_responds is e = of_answer Model is (silent limits line Model s l f last r w (refl, refl) (model_text s last) false false e refl refl refl)

  pub values_responds : (asked : List Asked) → a ≡ Values asked → r ≡ response (values_text s.terms.nodes asked last) false false → Responds limits line a s s l l f f last last r w w
  values_responds asked is e = of_answer (Values asked) is (silent limits line (Values asked) s l f last r w (refl, refl) (values_text s.terms.nodes asked last) false false e refl refl refl)

  pub core_responds : a ≡ Core → r ≡ response (core_text s (state_of s.terms.nodes l.entries) (refuting_clause (state_of s.terms.nodes l.entries) last)) false false → Responds limits line a s s l l f f last last r w w
  core_responds is e = of_answer Core is (silent limits line Core s l f last r w (refl, refl) (core_text s (state_of s.terms.nodes l.entries) (refuting_clause (state_of s.terms.nodes l.entries) last)) false false e refl refl refl)

  pub assumptions_responds : a ≡ Assumptions → r ≡ response (assumptions_text s (state_of s.terms.nodes l.entries) (refuting_clause (state_of s.terms.nodes l.entries) last)) false false → Responds limits line a s s l l f f last last r w w
  assumptions_responds is e = of_answer Assumptions is (silent limits line Assumptions s l f last r w (refl, refl) (assumptions_text s (state_of s.terms.nodes l.entries) (refuting_clause (state_of s.terms.nodes l.entries) last)) false false e refl refl refl)

  pub exit_responds : a ≡ Exit → r ≡ response (done_text s.options) false true → Responds limits line a s s l l f f last last r w w
  exit_responds is e = of_answer Exit is (silent limits line Exit s l f last r w (refl, refl) (done_text s.options) false true e refl refl refl)

pub checks_nothing : (a : Answer) → a ≡ Check → asks_values a ≡ true → ⊥
checks_nothing a e h = let k : false ≡ true = subst (λ x. asks_values x ≡ true) e h in let f : ⊥ = cc in f

-- an answer to a check is one to what is a check
pub of_check : (limits : Limits) (line : ℕ) (s t : StateValue) (l m : LogValue) (f g : FileValue) (last now : Option Record) (r : Response) (w x : Option (List ℕ)) (a : Answer) → a ≡ Check
    → Responds limits line Check s t l m f g last now r w x → Responds limits line a s t l m f g last now r w x
of_check limits line s t l m f g last now r w x a e h = subst (λ b. Responds limits line b s t l m f g last now r w x) (sym e) h

module _ (limits : Limits) (s s' : StateValue) (old new : LogValue) (shown : Record) (checked : IsChecked limits s s' old new shown) where
  added_is : drop (length old.entries) new.entries ≡ checked.leads.added
  added_is = ap (drop (length old.entries)) checked.leads.entries ∙ drop_at old.entries checked.leads.added (length old.entries) refl

  -- the steps of a check and its record are those of a proof
  check_proof : HasProof limits Check s old.entries checked.leads.added (Some shown)
  check_proof =
      let nodes : IsShown limits s (with_steps s checked.leads.added).terms.nodes new.entries shown = subst (λ (q : StateValue). IsShown limits s q.terms.nodes new.entries shown) checked.leads.state checked.shown in
      (checked.leads.steps, subst (λ es. IsShown limits s (with_steps s checked.leads.added).terms.nodes es shown) checked.leads.entries nodes)

  module _ (file file' : FileValue) (text : List ℕ) (part : IsWrittenPart s.terms.nodes s.scopes.live old.entries (drop (length old.entries) new.entries) shown file file' [] text) where
    abbrev part_lines_of : List Line
    part_lines_of = flat_map item_lines part.items ++ shown_lines (Some part.placed)

    -- what the file gets for the check
    check_filed : IsFiled s old.entries checked.leads.added (Some shown) file file' part_lines_of
    check_filed = record {
      items = part.items;
      placed = Some part.placed;
      trims = subst (λ (es : List Entry). IsTrimmedCheck s.terms.nodes s.scopes.live old.entries es shown file file' part.items (Some part.placed)) added_is part.trimmed;
      taken = subst (λ (es : List Entry). HasTakenFirst (suc (length old.entries)) es (Some shown)) checked.leads.entries checked.taken;
      lines_are = refl;
      readable = part.readable;
    }

pub check_responds : (limits : Limits) (line : ℕ) (s s' new_state : StateValue) (old new : LogValue) (file file' : FileValue) (shown : Record) (text : List ℕ) (r : Response) (w x : Option (List ℕ)) (last : Option Record)
    → IsChecked limits s s' old new shown
    → IsWrittenPart s.terms.nodes s.scopes.live old.entries (drop (length old.entries) new.entries) shown file file' [] text
    → Appends w x text → r ≡ response (verdict_text (verdict_of shown)) false false → new_state ≡ concluded s' (verdict_of shown)
    → Responds limits line Check s new_state old new file file' last (Some shown) r w x
check_responds limits line s s' new_state old new file file' shown text r w x last checked part appended answered stands = record {
  steps = checked.leads.added;
  shown = Some shown;
  thorough = checked.thorough;
  proof = check_proof limits s s' old new shown checked;
  state = stands ∙ ap (λ q. concluded q (verdict_of shown)) checked.leads.state;
  log = checked.leads.entries;
  kept = refl;
  lines = flat_map item_lines part.items ++ shown_lines (Some part.placed);
  filed = check_filed limits s s' old new shown checked file file' text part;
  added = subst (Appends w x) part.text appended;
  text = ap (λ q. q.text) answered;
  error = ap (λ q. q.error) answered;
  ends = ap (λ q. q.ends) answered;
}

-- where a write failed, a front of what the file gets stands
pub check_cut : (limits : Limits) (s s' : StateValue) (old new : LogValue) (file file' : FileValue) (shown : Record) (text : List ℕ) (w x : Option (List ℕ)) → IsChecked limits s s' old new shown
    → IsWrittenPart s.terms.nodes s.scopes.live old.entries (drop (length old.entries) new.entries) shown file file' [] text
    → WritesFront text w x → CutsCheck limits Check s old.entries file w x
check_cut limits s s' old new file file' shown text w x checked part written = record {
  steps = checked.leads.added;
  shown = Some shown;
  proof = check_proof limits s s' old new shown checked;
  file' = file';
  lines = flat_map item_lines part.items ++ shown_lines (Some part.placed);
  filed = check_filed limits s s' old new shown checked file file' text part;
  front = subst (λ t. WritesFront t w x) part.text written;
}

-- what is cut off of a check is that of what is one
pub cut_of_check : (limits : Limits) (s : StateValue) (log : List Entry) (f : FileValue) (w x : Option (List ℕ)) (a : Answer) (stop : Stop) → a ≡ Check → Leaves stop (CutsCheck limits Check s log f w x) w x → Leaves stop (CutsCheck limits a s log f w x) w x
cut_of_check limits s log f w x a stop e h = subst (λ b. Leaves stop (CutsCheck limits b s log f w x) w x) (sym e) h

-- ---- turns

-- what the file gets for a command is the part of its turn
module _ (line : ℕ) (s mid : StateValue) (log : List Entry) (file file' : FileValue) (a : Answer) (es : Reading) (steps : List Entry) (shown : Option Record) (lines : List Line)
    (there : mid ≡ (step s es).1) (h : IsFiled mid log steps shown file file' lines) where
  abbrev turn_part : Part
  turn_part = record { line = line; says = es; answer = a; items = h.items; shown = h.placed }

  turn_trims : IsTrimmed s log file file' (record { line = line; says = es; answer = a; steps = steps; shown = shown }) turn_part
  turn_trims = record {
    line = refl;
    says = refl;
    answer = refl;
    check = subst (λ (q : StateValue). IsTrimmedTo q.terms.nodes q.scopes.live log steps shown file file' h.items h.placed) there h.trims;
    readable = subst (AllByRecursion IsLine) h.lines_are h.readable;
  }

pub is_answered : (limits : Limits) (chunk : Chunk) (s mid last final : StateValue) (l new : LogValue) (file file' : PlacesValue) (before now : Option Record) (a : Answer) (es : Reading) (r : Response) (w x : Option (List ℕ)) → ReadsAs chunk es → ◌≡◌ {A = Step} (step s es) (a, mid) → Responds limits chunk.line a mid last l new (file_in file) (file_in file') before now r w x
    → final ≡ settled s a last → IsAnswered chunk (record { state = s; log = l; file = file; shown = before; limits = limits }) (record { state = final; log = new; file = file'; shown = now; limits = limits }) r w x
is_answered limits chunk s mid last final l new file file' before now a es r w x reads e h settles =
    let there : mid ≡ (step s es).1 = sym (ap (λ (to : Step). to.1) e) in
    let own : a ≡ (step s es).0 = sym (ap (λ (to : Step). to.0) e) in
    record {
      turn = record { line = chunk.line; says = es; answer = a; steps = h.steps; shown = h.shown };
      line = refl;
      reads = reads;
      thorough = subst (λ q. IsThorough limits q l.entries h.steps h.shown) there h.thorough;
      stands = record { answer = own; proof = subst (λ q. HasProof limits a q l.entries h.steps h.shown) there h.proof };
      state = settles ∙ ap (settled s a) (h.state ∙ ap (λ q. concluded_by (with_steps q h.steps) h.shown) there);
      log = h.log;
      shown = h.kept;
      limits = refl;
      part = turn_part chunk.line s mid l.entries (file_in file) (file_in file') a es h.steps h.shown h.lines there h.filed;
      trims = turn_trims chunk.line s mid l.entries (file_in file) (file_in file') a es h.steps h.shown h.lines there h.filed;
      taken = h.filed.taken;
      lines = subst (λ (ls : List Line). Appends w x (flat_map line_text ls)) h.filed.lines_are h.added;
      text = h.text ∙ ap (λ q. answer_text chunk.line a q l.entries before h.shown) there;
      error = h.error;
      ends = h.ends ∙ ap is_end own ∙ ends_is s es;
    }

-- where a check was cut off, so was its turn
pub is_cut : (limits : Limits) (chunk : Chunk) (s mid : StateValue) (l : LogValue) (file : PlacesValue) (before : Option Record) (a : Answer) (es : Reading) (w x : Option (List ℕ)) (stop : Stop) → ReadsAs chunk es → ◌≡◌ {A = Step} (step s es) (a, mid)
    → Leaves stop (CutsCheck limits a mid l.entries (file_in file) w x) w x → Leaves stop (CutsTurn chunk (record { state = s; log = l; file = file; shown = before; limits = limits }) w x) w x
is_cut limits chunk s mid l file before a es w x NoMemory reads e h = h
is_cut limits chunk s mid l file before a es w x Failed reads e h =
    let there : mid ≡ (step s es).1 = sym (ap (λ (to : Step). to.1) e) in
    record {
      turn = record { line = chunk.line; says = es; answer = a; steps = h.steps; shown = h.shown };
      line = refl;
      reads = reads;
      stands = record {
        answer = sym (ap (λ (to : Step). to.0) e);
        proof = subst (λ q. HasProof limits a q l.entries h.steps h.shown) there h.proof;
      };
      file = h.file';
      part = turn_part chunk.line s mid l.entries (file_in file) h.file' a es h.steps h.shown h.lines there h.filed;
      trims = turn_trims chunk.line s mid l.entries (file_in file) h.file' a es h.steps h.shown h.lines there h.filed;
      taken = h.filed.taken;
      lines = subst (λ (ls : List Line). WritesFront (flat_map line_text ls) w x) h.filed.lines_are h.front;
    }
