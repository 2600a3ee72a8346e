-- What is printed is the same beside the file as beside the log.
use Rattle.std.proofs.Common.{◌≡◌, ℕ, List, Option, Some, None, refl, sym, ap, ap₂, ◌∙◌, inl, inr, ⊎_elim}
use Rattle.std.specs.Prelude.{◌⊎◌}
use Rattle.cnf_base.specs.Literals.{Literal}
use Rattle.smt_terms.specs.declared.node.Node.{Node}
use Rattle.script_state.specs.declared.answer.Answer.{Answer}
use Rattle.script_state.specs.declared.answer.Answer.TheVariants.{Done, Refused, Check, Says, Model, Values, Core, Assumptions, Exit}
use Rattle.script_state.specs.declared.answer.Asked.{Asked}
use Rattle.script_state.specs.States.{StateValue}
use Rattle.proof_log.specs.declared.entry.Entry.{Entry}
use Rattle.proof_log.specs.declared.diary.Diary.{Diary}
use Rattle.proof_log.specs.Logs.{LogState, clause_at, state_of}
use Rattle.proof_log.proofs.Staying.{Holds}
use Rattle.proof_text.specs.declared.record.Record.{Record}
use Rattle.proof_text.specs.declared.record.Record.TheVariants.{Unsat, Unknown}
use Rattle.accepted_proof.specs.Answers.{answer_text, assumptions_text, core_text, model_text, shown_text, values_text}
use Rattle.accepted_proof.specs.Cores.{refuting_clause}
use Rattle.trimmed_proofs.proofs.States.{bare}

-- ---- the last record

-- Both records tell of the same models, and have the same refuting clause or none.
pub record AreAlike (log file : LogState) (last shown : Option Record) : Type 0 where
  pub models : (s : StateValue) → model_text s shown ≡ model_text s last
  pub values : (nodes : List Node) (asked : List Asked) → values_text nodes asked shown ≡ values_text nodes asked last
  pub clause : (((s : LogState) → refuting_clause s last ≡ None) × ((s : LogState) → refuting_clause s shown ≡ None))
      ⊎ ((p : ℕ) × (q : ℕ) × (c : List Literal) × (last ≡ Some (Unsat p)) × (shown ≡ Some (Unsat q)) × (clause_at log.clauses (record { pos = p; part = 0 }) ≡ Some c) × (clause_at file.clauses (record { pos = q; part = 0 }) ≡ Some c))

pub alike_none : (log file : LogState) → AreAlike log file None None
alike_none log file = record { models = λ s. refl; values = λ ns a. refl; clause = inl (λ s. refl, λ s. refl) }

pub alike_sat : (log file : LogState) (last shown : Option Record) → shown ≡ last → ((s : LogState) → refuting_clause s last ≡ None) → AreAlike log file last shown
alike_sat log file last shown e n = record {
  models = λ s. ap (model_text s) e;
  values = λ ns a. ap (values_text ns a) e;
  clause = inl (n, λ s. ap (refuting_clause s) e ∙ n s);
}

pub alike_unsat : (log file : LogState) (p q : ℕ) (c : List Literal) → clause_at log.clauses (record { pos = p; part = 0 }) ≡ Some c → clause_at file.clauses (record { pos = q; part = 0 }) ≡ Some c → AreAlike log file (Some (Unsat p)) (Some (Unsat q))
alike_unsat log file p q c a b = record { models = λ s. refl; values = λ ns x. refl; clause = inr (p, q, c, refl, refl, a, b) }

pub alike_unknown : (log file : LogState) (d e : Diary) → AreAlike log file (Some (Unknown d)) (Some (Unknown e))
alike_unknown log file d e = record { models = λ s. refl; values = λ ns x. refl; clause = inl (λ s. refl, λ s. refl) }

-- so they stay where both states have more
pub alike_later : (log file log' file' : LogState) (last shown : Option Record) → Holds log log' → Holds file file' → AreAlike log file last shown → AreAlike log' file' last shown
alike_later log file log' file' last shown h k a = record {
  models = a.models;
  values = a.values;
  clause = ⊎_elim (λ n. inl n) (λ u. inr (u.0, u.1, u.2, u.3, u.4, h.clauses (record { pos = u.0; part = 0 }) u.2 u.5, k.clauses (record { pos = u.1; part = 0 }) u.2 u.6)) a.clause;
}

same_clause : (log file : LogState) (last shown : Option Record) → AreAlike log file last shown → refuting_clause file shown ≡ refuting_clause log last
same_clause log file last shown a =
    ⊎_elim (λ n. n.1 file ∙ sym (n.0 log)) (λ u. ap (refuting_clause file) u.4 ∙ u.6 ∙ sym (ap (refuting_clause log) u.3 ∙ u.5)) a.clause

-- ---- texts

core_bare : (s : StateValue) (log : LogState) (o : Option (List Literal)) → core_text s log o ≡ core_text s (bare log) o
core_bare s log None = refl
core_bare s log (Some c) = refl

assumptions_bare : (s : StateValue) (log : LogState) (o : Option (List Literal)) → assumptions_text s log o ≡ assumptions_text s (bare log) o
assumptions_bare s log None = refl
assumptions_bare s log (Some c) = refl

module _ (s : StateValue) (log file : List Entry) (last shown : Option Record) (same : bare (state_of s.terms.nodes file) ≡ bare (state_of s.terms.nodes log)) (a : AreAlike (state_of s.terms.nodes log) (state_of s.terms.nodes file) last shown) where
  clause_is : refuting_clause (state_of s.terms.nodes file) shown ≡ refuting_clause (state_of s.terms.nodes log) last
  clause_is = same_clause (state_of s.terms.nodes log) (state_of s.terms.nodes file) last shown a

  core_same : core_text s (state_of s.terms.nodes file) (refuting_clause (state_of s.terms.nodes file) shown) ≡ core_text s (state_of s.terms.nodes log) (refuting_clause (state_of s.terms.nodes log) last)
  core_same =
      core_bare s (state_of s.terms.nodes file) (refuting_clause (state_of s.terms.nodes file) shown)
      ∙ ap₂ (λ (x : LogState) (o : Option (List Literal)). core_text s x o) same clause_is
      ∙ sym (core_bare s (state_of s.terms.nodes log) (refuting_clause (state_of s.terms.nodes log) last))

  assumptions_same : assumptions_text s (state_of s.terms.nodes file) (refuting_clause (state_of s.terms.nodes file) shown) ≡ assumptions_text s (state_of s.terms.nodes log) (refuting_clause (state_of s.terms.nodes log) last)
  assumptions_same =
      assumptions_bare s (state_of s.terms.nodes file) (refuting_clause (state_of s.terms.nodes file) shown)
      ∙ ap₂ (λ (x : LogState) (o : Option (List Literal)). assumptions_text s x o) same clause_is
      ∙ sym (assumptions_bare s (state_of s.terms.nodes log) (refuting_clause (state_of s.terms.nodes log) last))

  -- the answer to a command is the same
  pub same_answer : (line : ℕ) (answer : Answer) (own other : Option Record) → shown_text other ≡ shown_text own → answer_text line answer s file shown other ≡ answer_text line answer s log last own
  same_answer line Done own other e = refl
  same_answer line (Refused x) own other e = refl
  same_answer line Check own other e = e
  same_answer line (Says text) own other e = refl
  same_answer line Model own other e = a.models s
  same_answer line (Values asked) own other e = a.values s.terms.nodes asked
  same_answer line Core own other e = core_same
  same_answer line Assumptions own other e = assumptions_same
  same_answer line Exit own other e = refl
