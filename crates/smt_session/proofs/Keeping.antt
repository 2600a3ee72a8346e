-- What is kept from check to check.
use Rattle.std.proofs.Common.{◌≡◌, ℕ, Bool, true, false, List, [], ◌++◌, length, get_or, Option, Some, None, refl, sym, ap, ◌∙◌, subst, append-nil}
use Rattle.std.specs.Prelude.{if◌then◌else◌, slice_get}
use Rattle.smt_terms.specs.declared.node.Node.{Node}
use Rattle.smt_terms.specs.declared.sort.Signature.{Signature}
use Rattle.smt_terms.specs.Terms.{IsTermList}
use Rattle.smt_values.specs.declared.value.Value.{Value}
use Rattle.smt_build.specs.Names.{SymbolsValue}
use Rattle.script_state.specs.Readings.{Reading}
use Rattle.script_state.specs.declared.answer.Answer.{Answer}
use Rattle.script_state.specs.declared.answer.Answer.TheVariants.{Check}
use Rattle.script_state.specs.declared.answer.Verdict.{Verdict}
use Rattle.script_state.specs.States.{StateValue, IsState, WatchesFit, concluded}
use Rattle.script_state.specs.Steps.{Step, step, forgotten}
use Rattle.script_state.proofs.Asserting.{standing_state}
use Rattle.script_state.proofs.Deciding.{checks_fit}
use Rattle.proof_log.specs.declared.entry.Entry.{Entry}
use Rattle.proof_log.specs.Stored.{LogValue, Stands}
use Rattle.proof_log.proofs.Standing.{stands_over}
use Rattle.proof_text.specs.declared.record.Record.{Record}
use Rattle.proof_text.specs.declared.record.Record.TheVariants.{Sat, Unsat, Unknown}
use Rattle.accepted_proof.specs.Models.{IsOfSignature}
use Rattle.accepted_proof.specs.Searching.{Limits}
use Rattle.accepted_proof.proofs.Following.{same_symbols}
use Rattle.opening_positions.specs.Reading.{ReadSteps, IsRead}
use Rattle.opening_positions.proofs.Kept.{more_keep_read}
use Rattle.session_terms.specs.Placed.{IsInOrder}
use Rattle.proof_file.specs.Files.{KeptFile, IsFileOf}
use Rattle.smt_session.specs.declared.workspace.Workspace.{Workspace}
use Rattle.smt_session.specs.Parts.{IsKept}
use Rattle.smt_session.specs.Tabled.{IsSortedRecord}
use Rattle.smt_session.specs.Sessions.{IsSession, IsChecked, asks_values}
use Rattle.smt_session.proofs.Going.{goes_on, more_steps, still_session}
use Rattle.smt_session.proofs.Ordered.{order_still}
use Rattle.smt_session.proofs.Settling.{forgotten_is}

-- ---- behind a command

-- where a command begins a check, the terms that it makes before all else can be made
pub begun_fits : (s mid : StateValue) (a : Answer) (r : Reading) → ◌≡◌ {A = Step} (step s r) (a, mid) → a ≡ Check → WatchesFit mid
begun_fits s mid a r e check = subst WatchesFit (ap (λ (to : Step). to.1) e) (checks_fit s r (ap (λ (to : Step). to.0) e ∙ check))

-- what was read of a log was read of it over more terms
read_over : (nodes more over : List Node) (log : LogValue) (read : ReadSteps) → over ≡ nodes ++ more → IsTermList nodes → Stands nodes log → IsRead nodes log.entries read → IsRead over log.entries read
read_over nodes more over log read same terms stands h =
    subst (λ ns. IsRead ns log.entries read) (sym same)
    (subst (λ (es : List Entry). IsRead (nodes ++ more) es read) (append-nil log.entries) (more_keep_read nodes more log.entries [] read terms (stands_over nodes log stands).steps h))

pub kept_still : (s mid : StateValue) (w : Workspace) (a : Answer) (r : Reading) → IsKept s w → ◌≡◌ {A = Step} (step s r) (a, mid) → IsKept mid w
kept_still s mid w a r h e =
    let g = goes_on s mid a r h.session.state e in
    record {
      session = still_session s mid w.log a r h.session e;
      order = order_still s mid w.log a r h.session e h.order;
      read = read_over s.terms.nodes g.keeps.behind mid.terms.nodes w.log w.steps g.keeps.nodes h.session.state.terms h.session.stands h.read;
      resting = h.resting;
    }

-- ---- behind a check

pub kept_concluded : (s : StateValue) (w : Workspace) (v : Verdict) → IsKept s w → IsKept (concluded s v) w
kept_concluded s w v h = record {
  session = record {
    state = standing_state s (Some v) h.session.state;
    stands = h.session.stands;
    each = more_steps s (concluded s v) w.log.entries (λ d g q. q) (λ a t q. q) h.session.each;
  };
  order = h.order;
  read = h.read;
  resting = h.resting;
}

-- ---- once a command is answered

module _ (s mid last final : StateValue) (old new : Workspace) (a : Answer) (r : Reading) (asked : Bool) (n : ℕ)
    (kept : IsKept s old) (does : ◌≡◌ {A = Step} (step s r) (a, mid)) (told : asked ≡ asks_values a) (count : n ≡ length s.terms.nodes)
    (still : asks_values a ≡ true → (last ≡ mid) × (new.log ≡ old.log) × (new.steps ≡ old.steps)) where
  kept_by : (b : Bool) → asks_values a ≡ b → final ≡ (if b then forgotten last n else last) → IsKept last new → IsKept final new
  kept_by true q e h =
      let same = still q in
      subst (λ (x : StateValue). IsKept x new) (sym (e ∙ forgotten_is s mid last final a r asked n kept.session.state does told count (λ k. (still k).0) q))
      (record {
        session = subst (IsSession s) (sym same.1) kept.session;
        order = subst (λ (l : LogValue). IsInOrder s.terms.nodes l.bits) (sym same.1) kept.order;
        read = subst (IsRead s.terms.nodes new.log.entries) (sym same.2) (subst (λ (l : LogValue). IsRead s.terms.nodes l.entries old.steps) (sym same.1) kept.read);
        resting = h.resting;
      })
  kept_by false q e h = subst (λ (x : StateValue). IsKept x new) (sym e) h

  pub kept_settled : final ≡ (if asked then forgotten last n else last) → IsKept last new → IsKept final new
  kept_settled e h = kept_by (asks_values a) refl (e ∙ ap (λ b. if b then forgotten last n else last) told) h

  filed_by : (f g : KeptFile) → IsFileOf s.terms.nodes old.log.entries f → (asks_values a ≡ true → g ≡ f) → (b : Bool) → asks_values a ≡ b → final ≡ (if b then forgotten last n else last) → IsFileOf last.terms.nodes new.log.entries g → IsFileOf final.terms.nodes new.log.entries g
  filed_by f g file same true q e h =
      subst (λ (x : StateValue). IsFileOf x.terms.nodes new.log.entries g) (sym (e ∙ forgotten_is s mid last final a r asked n kept.session.state does told count (λ k. (still k).0) q))
      (subst (λ (l : LogValue). IsFileOf s.terms.nodes l.entries g) (sym (still q).1) (subst (IsFileOf s.terms.nodes old.log.entries) (sym (same q)) file))
  filed_by f g file same false q e h = subst (λ (x : StateValue). IsFileOf x.terms.nodes new.log.entries g) (sym e) h

-- the file stays one of the log
pub filed_settled : (s mid last final : StateValue) (old new : Workspace) (f g : KeptFile) (a : Answer) (r : Reading) (asked : Bool) (n : ℕ) → IsKept s old → IsFileOf s.terms.nodes old.log.entries f → ◌≡◌ {A = Step} (step s r) (a, mid) → asked ≡ asks_values a → n ≡ length s.terms.nodes
    → (asks_values a ≡ true → (last ≡ mid) × (new.log ≡ old.log) × (new.steps ≡ old.steps)) → (asks_values a ≡ true → g ≡ f) → final ≡ (if asked then forgotten last n else last) → IsFileOf last.terms.nodes new.log.entries g → IsFileOf final.terms.nodes new.log.entries g
filed_settled s mid last final old new f g a r asked n kept file does told count still same e h =
    filed_by s mid last final old new a r asked n kept does told count still f g file same (asks_values a) refl (e ∙ ap (λ b. if b then forgotten last n else last) told) h

-- ---- the record of the last check

-- a value of a declaration's signature is one where there are more declarations
longer_signatures : (old new : List Signature) (v : Value) (d : ℕ) → ((g : Signature) → slice_get old d ≡ Some g → slice_get new d ≡ Some g) → IsOfSignature v (slice_get old d) → IsOfSignature v (slice_get new d)
longer_signatures old new v d more h = go (slice_get old d) refl h
  where
    go : (o : Option Signature) → slice_get old d ≡ o → IsOfSignature v o → IsOfSignature v (slice_get new d)
    go None e k = absurd k
    go (Some g) e k = subst (IsOfSignature v) (sym (more g e)) k

pub sorted_still : (s mid : StateValue) (a : Answer) (r : Reading) (o : Option Record) → IsState s → ◌≡◌ {A = Step} (step s r) (a, mid) → IsSortedRecord s.symbols.signatures o → IsSortedRecord mid.symbols.signatures o
sorted_still s mid a r None is e h = tt
sorted_still s mid a r (Some (Sat values)) is e h =
    let g = goes_on s mid a r is e in
    λ k d lt. longer_signatures s.symbols.signatures mid.symbols.signatures (get_or values k d).1 (get_or values k d).0 (λ q. g.keeps.signatures (get_or values k d).0 q) (h k d lt)
sorted_still s mid a r (Some (Unsat p)) is e h = tt
sorted_still s mid a r (Some (Unknown d)) is e h = tt

-- the values that a check found
pub sorted_checked : (limits : Limits) (s s' : StateValue) (old new : LogValue) (shown : Record) → IsChecked limits s s' old new shown → IsSortedRecord s'.symbols.signatures (Some shown)
sorted_checked limits s s' old new (Sat values) h =
    let symbols : s'.symbols ≡ s.symbols = ap (λ (x : StateValue). x.symbols) h.leads.state ∙ same_symbols s h.leads.added in
    subst (λ (v : SymbolsValue). IsSortedRecord v.signatures (Some (Sat values))) (sym symbols) h.shown.1.sorted
sorted_checked limits s s' old new (Unsat p) h = tt
sorted_checked limits s s' old new (Unknown d) h = tt

-- where terms are forgotten, no declaration is
pub sorted_settled : (last final : StateValue) (asked : Bool) (n : ℕ) (o : Option Record) → final ≡ (if asked then forgotten last n else last) → IsSortedRecord last.symbols.signatures o → IsSortedRecord final.symbols.signatures o
sorted_settled last final true n o e h = subst (λ (x : StateValue). IsSortedRecord x.symbols.signatures o) (sym e) h
sorted_settled last final false n o e h = subst (λ (x : StateValue). IsSortedRecord x.symbols.signatures o) (sym e) h
