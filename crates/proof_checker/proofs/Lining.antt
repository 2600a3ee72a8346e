-- Which steps lines say.
use Rattle.std.proofs.Common.{◌≡◌, ℕ, zero, suc, ◌<◌, ◌≤◌, ◌^◌, List, [], ◌∷◌, ◌++◌, length, map, get_or, slice_get, Bool, true, false, MatchBool, MatchOption, Option, Some, None, Result, Ok, Err, refl, sym, ap, ◌∙◌, subst, arith, ⊎_elim, length-append}
use Rattle.std.specs.List.{AllByRecursion}
use Rattle.std.specs.Prelude.{IfOk, OnErr}
use Rattle.std.proofs.lemmas.Bool.{false≢true}
use Rattle.std.proofs.lemmas.List.{length-map}
use Rattle.cnf_base.specs.Literals.{Literal, negated}
use Rattle.cnf_base.specs.Assignments.{AreBelow}
use Rattle.cnf_base.specs.Clauses.{no_id}
use Rattle.cnf_base.specs.declared.clause.ClauseId.{ClauseId}
use Rattle.cnf_base.proofs.Options.{same_found}
use Rattle.hint_chain.specs.Chains.{Lookup, ChainFrom, IsChain}
use Rattle.smt_terms.specs.declared.sort.Signature.{Signature}
use Rattle.smt_terms.specs.declared.node.Op.{Op}
use Rattle.smt_terms.specs.declared.node.Op.TheVariants as op
use Rattle.smt_terms.specs.declared.node.Node.{Node}
use Rattle.smt_terms.specs.Terms.{TermsValue, IsTermList, with_node}
use Rattle.smt_terms.proofs.Growing.{node_last}
use Rattle.smt_build.specs.Names.{IsDeclared}
use Rattle.smt_build.proofs.Longer.{list_made}
use Rattle.script_state.specs.States.{StateValue, RestValue, with_terms, IsState, Fit}
use Rattle.script_state.proofs.Keeping.{fit_more}
use Rattle.proof_log.specs.declared.entry.Entry.{Entry}
use Rattle.proof_log.specs.declared.entry.Entry.TheVariants as entry
use Rattle.proof_log.specs.Logs.{state_of, clause_at}
use Rattle.faded_log.specs.Faded.{FadedValue, IsHeld, IsTried}
use Rattle.proof_log.specs.Faults as faults
use Rattle.proof_log.specs.Faults.{IsNewNode, IsValid, terms_after}
use Rattle.faded_log.proofs.Weaving.{held_kept}
use Rattle.proof_text.specs.declared.list.WrittenLiteral.{WrittenLiteral}
use Rattle.proof_text.specs.declared.list.WrittenHint.{WrittenHint}
use Rattle.proof_text.specs.declared.line.Head.{Head}
use Rattle.proof_text.specs.declared.line.Head.TheVariants as head
use Rattle.proof_text.specs.declared.line.Line.{Line}
use Rattle.proof_text.specs.declared.line.Line.TheVariants as line
use Rattle.proof_text.specs.Deletions.{cites}
use Rattle.proof_text.specs.Entries.{head_of, written_literal, written_hint, entry_line}
use Rattle.accepted_proof.specs.Turns.{IsOfScript}
use Rattle.accepted_proof.specs.Judged.{IsStepOf}
use Rattle.accepted_proof.proofs.Good.{step_grows, step_list}
use Rattle.accepted_proof.proofs.Once.{is_lemma, is_lemma_in, lemma_is_one, same_entry, term_line}
use Rattle.proof_checker.specs.Checkers.{IsChainOf, IsTaken}

-- ---- steps

pub declared_step : (s : StateValue) (e : Entry) → IsState s → IsOfScript s e → faults.IsDeclared s.terms e
declared_step s (entry.Node n) is of = λ t d p q. same_found (slice_get s.symbols.signatures d) _ _ (is.declared.each t d p) (of.each d q)
declared_step s e is of = tt

pub fit_step : (t w : TermsValue) (r : RestValue) (log : List Entry) (e : Entry) → Fit t r → IsValid t (state_of t.nodes log) e → IsOfScript (with_terms r t) e → w ≡ terms_after t e → Fit w r
fit_step t w r log e fit valid of same = subst (λ x. Fit x r) (sym same) (fit_more t (terms_after t e) r (step_grows (with_terms r t) log e valid of) (step_list (with_terms r t) log e fit.state valid) fit)

-- the step of a line was tried
pub tried : (s t : StateValue) (l : Line) (log longer : FadedValue) (deleted : List ℕ) (e : Entry) (b : Bool) → entry_line e ≡ Some l → IsOfScript s e → cites deleted e ≡ false
    → MatchBool b (IsValid s.terms (state_of s.terms.nodes log.entries) e × IsTaken s log e t longer) ((IsValid s.terms (state_of s.terms.nodes log.entries) e → ⊥) × (t ≡ s) × (longer ≡ log))
    → MatchBool b ((d : Entry) × IsStepOf s log.entries deleted l d × IsTaken s log d t longer) (((d : Entry) → IsStepOf s log.entries deleted l d → ⊥) × (t ≡ s) × (longer ≡ log))
tried s t l log longer deleted e true w of left h = (e, record { written = w; script = of; valid = h.0; left = left }, h.1)
tried s t l log longer deleted e false w of left h = (λ d is. h.0 (subst (IsValid s.terms (state_of s.terms.nodes log.entries)) (same_entry s l d e is.written w is.script of) is.valid), h.1, h.2)

-- the same, where memory may be wanting
pub tried_in : {E : Type 0} (s t : StateValue) (l : Line) (log longer : FadedValue) (deleted : List ℕ) (e : Entry) → entry_line e ≡ Some l → IsOfScript s e → cites deleted e ≡ false → (r : Result Bool E)
    → IfOk r (λ b. MatchBool b (IsValid s.terms (state_of s.terms.nodes log.entries) e × IsTaken s log e t longer) ((IsValid s.terms (state_of s.terms.nodes log.entries) e → ⊥) × (t ≡ s) × (longer ≡ log)))
    → IfOk r (λ b. MatchBool b ((d : Entry) × IsStepOf s log.entries deleted l d × IsTaken s log d t longer) (((d : Entry) → IsStepOf s log.entries deleted l d → ⊥) × (t ≡ s) × (longer ≡ log)))
tried_in s t l log longer deleted e w of left (Ok b) h = tried s t l log longer deleted e b w of left h
tried_in s t l log longer deleted e w of left (Err f) h = tt

-- ---- a step over the terms of a state

module _ {E : Type 0} (t w : TermsValue) (r : RestValue) (log longer : FadedValue) (e : Entry) where
  -- the terms behind a step that was tried fit the rest
  pub fit_tried : (p : Result Bool E) → Fit t r → IsOfScript (with_terms r t) e → IfOk p (IsTried t w log longer e) → OnErr p ((w ≡ t) × (longer ≡ log)) → Fit w r
  fit_tried (Ok true) fit of h k = fit_step t w r log.entries e fit h.0 of h.1
  fit_tried (Ok false) fit of h k = subst (λ x. Fit x r) (sym h.1) fit
  fit_tried (Err f) fit of h k = subst (λ x. Fit x r) (sym k.0) fit

  -- what is told of them is told of the state
  pub tried_state : (s u : StateValue) (p : Result Bool E) → s ≡ with_terms r t → u ≡ with_terms r w → IfOk p (IsTried t w log longer e)
      → IfOk p (λ b. MatchBool b (IsValid s.terms (state_of s.terms.nodes log.entries) e × IsTaken s log e u longer) ((IsValid s.terms (state_of s.terms.nodes log.entries) e → ⊥) × (u ≡ s) × (longer ≡ log)))
  tried_state s u (Ok true) before after h =
      subst (λ (x : StateValue). IsValid x.terms (state_of x.terms.nodes log.entries) e × IsTaken x log e u longer) (sym before)
      (h.0, record { state = after ∙ ap (with_terms r) h.1; entries = h.2; held = subst (λ (x : StateValue). IsHeld x.terms.nodes longer) (sym after) h.3 })
  tried_state s u (Ok false) before after h =
      (subst (λ (x : StateValue). IsValid x.terms (state_of x.terms.nodes log.entries) e → ⊥) (sym before) h.0, after ∙ ap (with_terms r) h.1 ∙ sym before, h.2)
  tried_state s u (Err f) before after h = tt

  pub kept_state : (s u : StateValue) (p : Result Bool E) → s ≡ with_terms r t → u ≡ with_terms r w → OnErr p ((w ≡ t) × (longer ≡ log)) → OnErr p ((u ≡ s) × (longer ≡ log))
  kept_state s u (Ok b) before after h = tt
  kept_state s u (Err f) before after h = (after ∙ ap (with_terms r) h.0 ∙ sym before, h.1)

-- ---- terms

-- no operator is an application of a declaration that was not made
pub no_apply : (d : ℕ) (signatures : List Signature) (o : Op) → slice_get signatures d ≡ None → IsDeclared signatures o → head_of o ≡ Some (head.Apply d) → ⊥
no_apply d signatures (op.Plain o) n i e = let f : ⊥ = cc in f
no_apply d signatures (op.Word m x) n i e = let f : ⊥ = cc in f
no_apply d signatures (op.Extract k j) n i e = let f : ⊥ = cc in f
no_apply d signatures (op.ZeroExtend k) n i e = let f : ⊥ = cc in f
no_apply d signatures (op.SignExtend k) n i e = let f : ⊥ = cc in f
no_apply d signatures (op.RotateLeft k) n i e = let f : ⊥ = cc in f
no_apply d signatures (op.RotateRight k) n i e = let f : ⊥ = cc in f
no_apply d signatures (op.Repeat k) n i e = let f : ⊥ = cc in f
no_apply d signatures (op.ConstantArray k) n i e = let f : ⊥ = cc in f
no_apply d signatures (op.Constant k s) n i e = let f : ⊥ = cc in f
no_apply d signatures (op.Param k s) n i e = let f : ⊥ = cc in f
no_apply d signatures (op.Apply k s) n i e =
    let same : k ≡ d = cc in
    let found : slice_get signatures d ≡ Some s = subst (λ x. slice_get signatures x ≡ Some s) same (i.each k refl) in
    let f : ⊥ = cc in f

-- an application of a declaration that was made
pub an_apply : (d k : ℕ) (signatures : List Signature) (s : Signature) → k ≡ d → slice_get signatures d ≡ Some s → (head_of (op.Apply k s) ≡ Some (head.Apply d)) × IsDeclared signatures (op.Apply k s)
an_apply d k signatures s e found = (
  ap (λ x. Some (head.Apply x)) e,
  record { each = λ x h. let same : k ≡ x = cc in subst (λ y. slice_get signatures y ≡ Some s) (sym e ∙ same) found },
)

-- where a place is past the end, so are those behind it
pub past_end : {A : Type 0} (xs : List A) (k n : ℕ) → slice_get xs k ≡ None → k ≤ n → slice_get xs n ≡ None
past_end [] k n e le = refl
past_end (x ∷ xs) zero n e le = let f : ⊥ = cc in absurd f
past_end (x ∷ xs) (suc k) zero e le = absurd (omega arith)
past_end (x ∷ xs) (suc k) (suc n) e le = past_end xs k n e (omega arith)

-- a new node is over held terms
pub new_args : (v : TermsValue) (n : Node) → IsTermList v.nodes → IsNewNode v n → AllByRecursion (λ a. a < length v.nodes) n.args
new_args v n list new =
    let more : IsTermList (v.nodes ++ n ∷ []) = list_made v (with_node v n) n (length v.nodes) new.made list in
    let last = more (length v.nodes) (omega (arith, length-append v.nodes (n ∷ []))) in
    subst (λ (m : Node). AllByRecursion (λ a. a < length v.nodes) m.args) (node_last v.nodes n) last.earlier

-- where a term's line is that of a node, the node is of its head and arguments
pub term_head : (n : Node) (h : Head) (args : List ℕ) → entry_line (entry.Node n) ≡ Some (line.Term h args) → (head_of n.op ≡ Some h) × (n.args ≡ args)
term_head n h args e =
    let t = term_line (head_of n.op) n.args (line.Term h args) e in
    let w : line.Term h args ≡ line.Term t.head n.args = t.written in
    let p : h ≡ t.head = cc in
    let q : n.args ≡ args = cc in
    (t.some ∙ ap Some (sym p), q)

pub no_args : (s : StateValue) (h : Head) (numbers : List ℕ) (held : ℕ) → IsState s → held ≡ length s.terms.nodes → (AllByRecursion (λ a. a < held) numbers → ⊥)
    → (n : Node) → entry_line (entry.Node n) ≡ Some (line.Term h numbers) → IsDeclared s.symbols.signatures n.op → IsNewNode s.terms n → ⊥
no_args s h numbers held is count none n e of new =
    none (subst (λ k. AllByRecursion (λ a. a < k) numbers) (sym count)
    (subst (AllByRecursion (λ a. a < length s.terms.nodes)) (term_head n h numbers e).1 (new_args s.terms n is.terms new)))

-- ---- chains

pub chain_parts : (c : List Literal) (names : List ClauseId) (literals : List WrittenLiteral) (hints : List WrittenHint) → entry_line (entry.Chain c names) ≡ Some (line.Chain literals hints) → (map written_literal c ≡ literals) × (map written_hint names ≡ hints)
chain_parts c names literals hints e =
    let p : map written_literal c ≡ literals = cc in
    let q : map written_hint names ≡ hints = cc in
    (p, q)

-- a variable is written that is not below another
pub none_below : (next : ℕ) (ws : List WrittenLiteral) (k : ℕ) (d : WrittenLiteral) → k < length ws → next ≤ (get_or ws k d).variable → (c : List Literal) → map written_literal c ≡ ws → AreBelow next c → ⊥
none_below next [] k d lt le c e h = omega (arith, lt)
none_below next (w ∷ ws) k d lt le [] e h = let f : ⊥ = cc in f
none_below next (w ∷ ws) zero d lt le (l ∷ c) e h =
    let q : written_literal l ≡ w = cc in
    let v : l.variable ≡ w.variable = ap (λ (x : WrittenLiteral). x.variable) q in
    let b : l.variable < next = h.0 in
    omega (arith, v, b, le)
none_below next (w ∷ ws) (suc k) d lt le (l ∷ c) e h =
    let q : map written_literal c ≡ ws = cc in
    none_below next ws k d (omega (arith, lt)) le c q h.1

-- the name that a hint is written for
named_at : (ws : List WrittenHint) (names : List ClauseId) (k : ℕ) (d : WrittenHint) (x : ClauseId) → map written_hint names ≡ ws → k < length ws → get_or names k x ≡ record { pos = (get_or ws k d).pos; part = (get_or ws k d).part }
named_at [] names k d x e lt = absurd (omega (arith, lt))
named_at (w ∷ ws) [] k d x e lt = let f : ⊥ = cc in absurd f
named_at (w ∷ ws) (n ∷ ns) zero d x e lt = let q : written_hint n ≡ w = cc in (λ i. record { pos = (q i).pos; part = (q i).part })
named_at (w ∷ ws) (n ∷ ns) (suc k) d x e lt = let q : map written_hint ns ≡ ws = cc in named_at ws ns k d x q (omega (arith, lt))

-- each hint of a chain names a clause
chain_finds : (look : Lookup) (trues : List Literal) (names : List ClauseId) (k : ℕ) (x : ClauseId) → ChainFrom look trues names → k < length names → look (get_or names k x) ≡ None → ⊥
chain_finds look trues [] k x h lt e = h
chain_finds look trues (i ∷ []) zero x h lt e =
    let p : look i ≡ Some h.0 = h.1 in
    let q : look i ≡ None = e in
    let f : ⊥ = cc in f
chain_finds look trues (i ∷ []) (suc k) x h lt e = omega (arith, lt)
chain_finds look trues (i ∷ j ∷ is) zero x h lt e =
    let p : look i ≡ Some h.0 = h.2 in
    let q : look i ≡ None = e in
    let f : ⊥ = cc in f
chain_finds look trues (i ∷ j ∷ is) (suc k) x h lt e = chain_finds look (trues ++ h.1 ∷ []) (j ∷ is) k x h.4 (omega (arith, lt)) e

pub no_chain : (rows : List (List (List Literal))) (hints : List WrittenHint) (k : ℕ) (d : WrittenHint) → k < length hints
    → ((part : ℕ) → 2 ^ 32 ≤ part → clause_at rows (record { pos = (get_or hints k d).pos; part = part }) ≡ None) → 2 ^ 32 ≤ (get_or hints k d).part
    → (c : List Literal) (names : List ClauseId) → map written_hint names ≡ hints → IsChain (clause_at rows) c names → ⊥
no_chain rows hints k d lt none wide c names e chain =
    let within : k < length names = omega (arith, lt, ap length e, length-map names written_hint) in
    let x = no_id in
    ⊎_elim
    (λ p. let empty : length names ≡ 0 = ap length p.1 in omega (arith, empty, within))
    (λ p. chain_finds (clause_at rows) (map negated c) names k x p.1 within (ap (clause_at rows) (named_at hints names k d x e lt) ∙ none (get_or hints k d).part wide))
    chain

-- a hint is written of a part that no position has
pub no_hints : {E : Type 0} (rows : List (List (List Literal))) (hints : List WrittenHint) (k : ℕ) (d : WrittenHint) → k < length hints → 2 ^ 32 ≤ (get_or hints k d).part → (r : Result (Option (List ClauseId)) E)
    → IfOk r (λ o. (o ≡ None) × ((part : ℕ) → 2 ^ 32 ≤ part → clause_at rows (record { pos = (get_or hints k d).pos; part = part }) ≡ None))
    → IfOk r (λ o. MatchOption o ((c : List Literal) (names : List ClauseId) → map written_hint names ≡ hints → IsChain (clause_at rows) c names → ⊥) (λ h. map written_hint h ≡ hints))
no_hints rows hints k d lt wide (Ok None) h = no_chain rows hints k d lt h.1 wide
no_hints rows hints k d lt wide (Ok (Some x)) h = let f : ⊥ = (let q : Some x ≡ None = h.0 in cc) in absurd f
no_hints rows hints k d lt wide (Err f) h = tt

-- ---- lines

-- a line that is none of a term's is that of no node
no_node : (n : Node) (l : Line) → entry_line (entry.Node n) ≡ Some l → ((h : Head) (args : List ℕ) → l ≡ line.Term h args → ⊥) → ⊥
no_node n l e other = let t = term_line (head_of n.op) n.args l e in other t.head n.args t.written

module _ (s : StateValue) (log : List Entry) (l : Line) where
  pub chain_line : (literals : List WrittenLiteral) (hints : List WrittenHint) (e : Entry) → l ≡ line.Chain literals hints → IsChainOf literals hints e → (entry_line e ≡ Some l) × IsOfScript s e
  chain_line literals hints (entry.Chain c names) w is = (ap (λ x. Some (line.Chain x (map written_hint names))) is.0 ∙ ap (λ x. Some (line.Chain literals x)) is.1 ∙ ap Some (sym w), tt)
  chain_line literals hints e w is = absurd is

-- a chain over a stored log
pub no_chain_line : (s : StateValue) (log : FadedValue) (l : Line) (literals : List WrittenLiteral) (hints : List WrittenHint) → IsHeld s.terms.nodes log → l ≡ line.Chain literals hints
    → ((c : List Literal) (names : List ClauseId) → entry_line (entry.Chain c names) ≡ Some (line.Chain literals hints) → AreBelow log.base.next c → IsChain (clause_at log.clauses) c names → ⊥)
    → (deleted : List ℕ) (e : Entry) → IsStepOf s log.entries deleted l e → ⊥
no_chain_line s log l literals hints stands w none deleted (entry.Node n) is = no_node n l is.written (λ h args p. let f : ⊥ = cc in f)
no_chain_line s log l literals hints stands w none deleted (entry.Leaf t) is = let p : Some (line.Leaf t) ≡ Some l = is.written in let f : ⊥ = cc in f
no_chain_line s log l literals hints stands w none deleted (entry.Encode t) is = let p : Some (line.Encode t) ≡ Some l = is.written in let f : ⊥ = cc in f
no_chain_line s log l literals hints stands w none deleted (entry.Selector a t) is = let p : Some (line.Selector a) ≡ Some l = is.written in let f : ⊥ = cc in f
no_chain_line s log l literals hints stands w none deleted (entry.Chain c names) is =
    let kept = held_kept s.terms.nodes log stands in
    none c names (is.written ∙ ap Some w)
    (subst (λ k. AreBelow k c) (sym kept.next) is.valid.0)
    (subst (λ rows. IsChain (clause_at rows) c names) (sym kept.clauses) is.valid.1)
no_chain_line s log l literals hints stands w none deleted (entry.Rewrite r) is = let p : Some (line.Rewrite r.rule r.from r.to) ≡ Some l = is.written in let f : ⊥ = cc in f
no_chain_line s log l literals hints stands w none deleted (entry.Equal t u) is = let p : Some (line.Equal t u) ≡ Some l = is.written in let f : ⊥ = cc in f
no_chain_line s log l literals hints stands w none deleted (entry.Lemma a) is = false≢true (sym (ap is_lemma w) ∙ sym (ap is_lemma_in is.written) ∙ (lemma_is_one a).0)

-- the step that the line of a chain says, where memory may be wanting
pub chain_told : {E : Type 0} (s : StateValue) (log : FadedValue) (l : Line) (literals clause : List WrittenLiteral) (hints names : List WrittenHint) → IsHeld s.terms.nodes log → l ≡ line.Chain literals hints → clause ≡ literals → names ≡ hints → (r : Result (Option Entry) E)
    → IfOk r (λ o. MatchOption o ((c : List Literal) (is : List ClauseId) → entry_line (entry.Chain c is) ≡ Some (line.Chain clause names) → AreBelow log.base.next c → IsChain (clause_at log.clauses) c is → ⊥) (λ e. IsChainOf clause names e))
    → IfOk r (λ o. MatchOption o ((deleted : List ℕ) (e : Entry) → IsStepOf s log.entries deleted l e → ⊥) (λ e. (entry_line e ≡ Some l) × IsOfScript s e))
chain_told s log l literals clause hints names stands w p q (Ok None) h = no_chain_line s log l clause names stands (w ∙ ap (λ x. line.Chain x hints) (sym p) ∙ ap (line.Chain clause) (sym q)) h
chain_told s log l literals clause hints names stands w p q (Ok (Some e)) h = chain_line s log.entries l clause names e (w ∙ ap (λ x. line.Chain x hints) (sym p) ∙ ap (line.Chain clause) (sym q)) h
chain_told s log l literals clause hints names stands w p q (Err f) h = tt
