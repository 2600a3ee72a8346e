-- The proof file of a session, and what it gets for a check.
use Rattle.std.proofs.Common.{◌≡◌, ℕ, suc, ◌-◌, ◌≤◌, List, [], ◌++◌, length, take, drop, refl, sym, ap, ◌∙◌, subst, arith, length-append}
use Rattle.std.proofs.lemmas.List.{take_at}
use Rattle.std.proofs.lemmas.List.Elements.{All-weaker}
use Rattle.cnf_base.specs.Literals.{Literal}
use Rattle.smt_terms.specs.declared.node.Node.{Node}
use Rattle.smt_terms.specs.Terms.{IsTermList}
use Rattle.scope_selectors.specs.declared.live.Live.{Live}
use Rattle.scope_selectors.specs.Scopes.{ScopesValue}
use Rattle.script_state.specs.Readings.{Reading}
use Rattle.script_state.specs.declared.answer.Answer.{Answer}
use Rattle.script_state.specs.States.{StateValue}
use Rattle.script_state.specs.Steps.{Step, step}
use Rattle.proof_log.specs.declared.entry.Entry.{Entry}
use Rattle.proof_log.specs.Logs.{LogState, IsLog, start, state_of}
use Rattle.proof_log.specs.Stored.{LogValue}
use Rattle.proof_log.proofs.Standing.{stands_over}
use Rattle.proof_log.proofs.Staying.{same_state, steps_parts}
use Rattle.proof_text.specs.declared.record.Record.{Record}
use Rattle.accepted_proof.proofs.Following.{same_scopes}
use Rattle.proof_file.specs.Files.{KeptFile, IsFileOf, IsWrittenPart}
use Rattle.proof_file.specs.Places.{FileValue}
use Rattle.proof_file.specs.Stale.{RestsOnGone, IsStale, AreStale}
use Rattle.smt_session.specs.Growing.{LeadsTo}
use Rattle.smt_session.specs.Sessions.{IsSession}
use Rattle.smt_session.proofs.Going.{goes_on, still_session}
use Rattle.smt_session.proofs.Leading.{behind_of}

-- ---- what is stale, over fewer terms

module _ (nodes more : List Node) (log : List Entry) (live : List Live) (is : IsLog nodes log) where
  same : state_of (nodes ++ more) log ≡ state_of nodes log
  same = same_state nodes more start log is

  rests_back : (c : List Literal) → RestsOnGone (nodes ++ more) log live c → RestsOnGone nodes log live c
  rests_back c h = record {
    assertion = h.assertion;
    selector = h.selector;
    made = sym (ap (λ (x : LogState). x.selectors h.assertion) same) ∙ h.made;
    negation = h.negation;
    gone = h.gone;
  }

  rests_on : (c : List Literal) → RestsOnGone nodes log live c → RestsOnGone (nodes ++ more) log live c
  rests_on c h = record {
    assertion = h.assertion;
    selector = h.selector;
    made = ap (λ (x : LogState). x.selectors h.assertion) same ∙ h.made;
    negation = h.negation;
    gone = h.gone;
  }

  stale_back : (places : ℕ → ℕ) (q : ℕ) → IsStale (nodes ++ more) log live places q → IsStale nodes log live places q
  stale_back places q h = record { written = h.written; position = h.position; place = h.place; clause = h.clause; hints = h.hints; chain = h.chain; rests = rests_back h.clause h.rests }

  stale_on : (places : ℕ → ℕ) (q : ℕ) → IsStale nodes log live places q → IsStale (nodes ++ more) log live places q
  stale_on places q h = record { written = h.written; position = h.position; place = h.place; clause = h.clause; hints = h.hints; chain = h.chain; rests = rests_on h.clause h.rests }

  are_stale_back : (places : ℕ → ℕ) (qs : List ℕ) → AreStale (nodes ++ more) log live places qs → AreStale nodes log live places qs
  are_stale_back places qs h = record {
    rise = h.rise;
    each = All-weaker (IsStale (nodes ++ more) log live places) (IsStale nodes log live places) (stale_back places) qs h.each;
    every = λ q k. h.every q (stale_on places q k);
  }

  part_back : (steps : List Entry) (r : Record) (old new : FileValue) (before after : List ℕ) → IsWrittenPart (nodes ++ more) live log steps r old new before after → IsWrittenPart nodes live log steps r old new before after
  part_back steps r old new before after h =
      let t = h.trimmed in
      record {
        items = h.items;
        placed = h.placed;
        trimmed = record {
          stale = t.stale;
          needed = t.needed;
          gone = are_stale_back old.places t.stale t.gone;
          wanted = t.wanted;
          file = t.file;
          items_are = t.items_are;
          record_is = t.record_is;
        };
        text = h.text;
        readable = h.readable;
      }

-- ---- the file stays one of the log

-- a file of a log over terms is one over more of them
abbrev pub FilesLaw : Type 0
FilesLaw =
    (nodes more : List Node) (log : List Entry) (file : KeptFile) → IsTermList nodes → IsTermList (nodes ++ more) → IsLog nodes log → IsLog (nodes ++ more) log → IsFileOf nodes log file → IsFileOf (nodes ++ more) log file

file_over : FilesLaw → (nodes more over : List Node) (log : List Entry) (f : KeptFile) → over ≡ nodes ++ more → IsTermList nodes → IsTermList over → IsLog nodes log → IsLog over log → IsFileOf nodes log f → IsFileOf over log f
file_over law nodes more over log f e low high is all h =
    subst (λ (ns : List Node). IsFileOf ns log f) (sym e) (law nodes more log f low (subst IsTermList e high) is (subst (λ (ns : List Node). IsLog ns log) e all) h)

-- behind a command
pub filed_still : FilesLaw → (s mid : StateValue) (log : LogValue) (f : KeptFile) (a : Answer) (r : Reading) → IsSession s log → ◌≡◌ {A = Step} (step s r) (a, mid) → IsFileOf s.terms.nodes log.entries f → IsFileOf mid.terms.nodes log.entries f
filed_still law s mid log f a r session e h =
    let g = goes_on s mid a r session.state e in
    let now = still_session s mid log a r session e in
    file_over law s.terms.nodes g.keeps.behind mid.terms.nodes log.entries f g.keeps.nodes session.state.terms now.state.terms (stands_over s.terms.nodes log session.stands).steps (stands_over mid.terms.nodes log now.stands).steps h

-- ---- a check

module _ (s s' : StateValue) (old new : LogValue) (session : IsSession s old) (l : LeadsTo s old s' new) (from : ℕ) (e : from ≡ suc (length old.entries)) where
  first : from - 1 ≡ length old.entries
  first = omega (arith, e)

  -- the log before the check
  before_is : take (from - 1) new.entries ≡ old.entries
  before_is = ap (λ n. take n new.entries) first ∙ ap (take (length old.entries)) l.entries ∙ take_at old.entries l.added (length old.entries) refl

  added_is : drop (from - 1) new.entries ≡ drop (length old.entries) new.entries
  added_is = ap (λ n. drop n new.entries) first

  pub filed_before : FilesLaw → IsTermList s'.terms.nodes → (f : KeptFile) → IsFileOf s.terms.nodes old.entries f → IsFileOf s'.terms.nodes (take (from - 1) new.entries) f
  filed_before law listed f h =
      let b = behind_of s s' old new l in
      let all = subst (IsLog s'.terms.nodes) l.entries (stands_over s'.terms.nodes new l.stands).steps in
      subst (λ (es : List Entry). IsFileOf s'.terms.nodes es f) (sym before_is)
      (file_over law s.terms.nodes b.0 s'.terms.nodes old.entries f b.1 session.state.terms listed (stands_over s.terms.nodes old session.stands).steps (steps_parts s'.terms.nodes start old.entries l.added all).0 h)

  -- what was written over the terms behind the check is what the file gets for it
  pub part_before : (live : List Live) (r : Record) (f g : FileValue) (text : List ℕ) → live ≡ s'.scopes.live → IsWrittenPart s'.terms.nodes live (take (from - 1) new.entries) (drop (from - 1) new.entries) r f g [] text
      → IsWrittenPart s.terms.nodes s.scopes.live old.entries (drop (length old.entries) new.entries) r f g [] text
  part_before live r f g text same h =
      let b = behind_of s s' old new l in
      let scopes : s'.scopes ≡ s.scopes = ap (λ (x : StateValue). x.scopes) l.state ∙ same_scopes s l.added in
      let here : live ≡ s.scopes.live = same ∙ ap (λ (x : ScopesValue). x.live) scopes in
      part_back s.terms.nodes b.0 old.entries s.scopes.live (stands_over s.terms.nodes old session.stands).steps (drop (length old.entries) new.entries) r f g [] text
      (subst (λ (ns : List Node). IsWrittenPart ns s.scopes.live old.entries (drop (length old.entries) new.entries) r f g [] text) b.1
      (subst (λ (a : List Live). IsWrittenPart s'.terms.nodes a old.entries (drop (length old.entries) new.entries) r f g [] text) here
      (subst (λ (es : List Entry). IsWrittenPart s'.terms.nodes live old.entries es r f g [] text) added_is
      (subst (λ (es : List Entry). IsWrittenPart s'.terms.nodes live es (drop (from - 1) new.entries) r f g [] text) before_is h))))

  -- the check's steps stand in the log
  pub within : from ≤ suc (length new.entries)
  within = omega (arith, e, ap length l.entries, length-append old.entries l.added)
