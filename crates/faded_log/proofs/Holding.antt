-- One step more, of which the log without chains has those that are none.
use Rattle.std.proofs.Common.{◌≡◌, ℕ, zero, suc, ◌<◌, ◌≤◌, Bool, true, false, List, [], ◌∷◌, ◌++◌, length, take, Option, Some, None, Result, Ok, Err, IfOk, refl, sym, ap, ◌∙◌, subst, arith, append-nil, length-append}
use Rattle.std.specs.Prelude.{slice_get}
use Rattle.std.specs.List.{AllByRecursion}
use Rattle.cnf_base.specs.Literals.{Literal}
use Rattle.cnf_base.specs.Assignments.{AreBelow}
use Rattle.cnf_base.specs.declared.clause.ClauseId.{ClauseId}
use Rattle.cnf_base.proofs.Agreeing.{AreBelow-more}
use Rattle.cnf_base.proofs.Lists.{each_append, slice_get-push}
use Rattle.smt_terms.specs.declared.node.Node.{Node}
use Rattle.smt_terms.specs.Terms.{TermsValue}
use Rattle.hint_chain.specs.Chains.{IsChain}
use Rattle.proof_log.specs.declared.entry.Entry.{Entry}
use Rattle.proof_log.specs.declared.entry.Entry.TheVariants as step
use Rattle.proof_log.specs.Diaries.{is_chain}
use Rattle.proof_log.specs.Logs.{LogState, start, clause_in, clause_at, state_of, IsLog}
use Rattle.proof_log.specs.Stored.{LogValue, Stands, IsKept, IsPushed, clauses_of}
use Rattle.proof_log.specs.Faults.{IsValid, terms_after}
use Rattle.proof_log.proofs.Growth.{positions, row_of, step_adds}
use Rattle.proof_log.proofs.Standing.{stands_over, stands_longer, clauses_below}
use Rattle.proof_log.proofs.Staying.{state_from-append, log_stays}
use Rattle.faded_log.specs.Faded.{FadedValue, plain_steps, first_of, behind_first, woven, with_chains, IsHeld, IsLonger, IsTried}
use Rattle.faded_log.specs.Slots.{or_none, IsTriedPlain}
use Rattle.faded_log.proofs.States.{with_clauses, valid_with}
use Rattle.faded_log.proofs.Weaving.{plain_chain, plain_other, woven_chain, woven_other, held_state, held_clauses, held_next}

-- ---- lists of steps

pub plain_snoc_chain : (es : List Entry) (e : Entry) → is_chain (Some e) ≡ true → plain_steps (es ++ e ∷ []) ≡ plain_steps es
plain_snoc_chain [] e h = plain_chain e [] h
plain_snoc_chain (x ∷ es) e h = by_kind (plain_snoc_chain es e h) (is_chain (Some x)) refl
  where
    by_kind : plain_steps (es ++ e ∷ []) ≡ plain_steps es → (b : Bool) → is_chain (Some x) ≡ b → plain_steps ((x ∷ es) ++ e ∷ []) ≡ plain_steps (x ∷ es)
    by_kind rest true k = plain_chain x (es ++ e ∷ []) k ∙ rest ∙ sym (plain_chain x es k)
    by_kind rest false k = plain_other x (es ++ e ∷ []) k ∙ ap (λ l. x ∷ l) rest ∙ sym (plain_other x es k)

pub plain_snoc : (es : List Entry) (e : Entry) → is_chain (Some e) ≡ false → plain_steps (es ++ e ∷ []) ≡ plain_steps es ++ e ∷ []
plain_snoc [] e h = plain_other e [] h
plain_snoc (x ∷ es) e h = by_kind (plain_snoc es e h) (is_chain (Some x)) refl
  where
    by_kind : plain_steps (es ++ e ∷ []) ≡ plain_steps es ++ e ∷ [] → (b : Bool) → is_chain (Some x) ≡ b → plain_steps ((x ∷ es) ++ e ∷ []) ≡ plain_steps (x ∷ es) ++ e ∷ []
    by_kind rest true k = plain_chain x (es ++ e ∷ []) k ∙ rest ∙ ap (λ l. l ++ e ∷ []) (sym (plain_chain x es k))
    by_kind rest false k = plain_other x (es ++ e ∷ []) k ∙ ap (λ l. x ∷ l) rest ∙ ap (λ l. l ++ e ∷ []) (sym (plain_other x es k))

woven_snoc_chain : (es : List Entry) (rows : List (List (List Literal))) (e : Entry) → is_chain (Some e) ≡ true → woven (es ++ e ∷ []) rows ≡ woven es rows ++ clauses_of e [] ∷ []
woven_snoc_chain [] rows e h = woven_chain rows e [] h
woven_snoc_chain (x ∷ es) rows e h = by_kind (λ rs. woven_snoc_chain es rs e h) (is_chain (Some x)) refl
  where
    by_kind : ((rs : List (List (List Literal))) → woven (es ++ e ∷ []) rs ≡ woven es rs ++ clauses_of e [] ∷ []) → (b : Bool) → is_chain (Some x) ≡ b → woven ((x ∷ es) ++ e ∷ []) rows ≡ woven (x ∷ es) rows ++ clauses_of e [] ∷ []
    by_kind rest true k = woven_chain rows x (es ++ e ∷ []) k ∙ ap (λ l. clauses_of x [] ∷ l) (rest rows) ∙ ap (λ l. l ++ clauses_of e [] ∷ []) (sym (woven_chain rows x es k))
    by_kind rest false k =
        woven_other rows x (es ++ e ∷ []) k ∙ ap (λ l. first_of rows ∷ l) (rest (behind_first rows)) ∙ ap (λ l. l ++ clauses_of e [] ∷ []) (sym (woven_other rows x es k))

no_rows : (rows : List (List (List Literal))) → length rows ≡ 0 → rows ≡ []
no_rows [] h = refl
no_rows (row ∷ rows) h = absurd (omega (arith, h))

woven_snoc : (es : List Entry) (rows : List (List (List Literal))) (e : Entry) (row : List (List Literal)) → is_chain (Some e) ≡ false → length rows ≡ length (plain_steps es) → woven (es ++ e ∷ []) (rows ++ row ∷ []) ≡ woven es rows ++ row ∷ []
woven_snoc [] rows e row h n = woven_other (rows ++ row ∷ []) e [] h ∙ ap (λ rs. first_of (rs ++ row ∷ []) ∷ []) (no_rows rows n)
woven_snoc (x ∷ es) rows e row h n = by_kind (λ rs m. woven_snoc es rs e row h m) (is_chain (Some x)) refl rows n
  where
    by_kind : ((rs : List (List (List Literal))) → length rs ≡ length (plain_steps es) → woven (es ++ e ∷ []) (rs ++ row ∷ []) ≡ woven es rs ++ row ∷ []) → (b : Bool) → is_chain (Some x) ≡ b → (rs : List (List (List Literal))) → length rs ≡ length (plain_steps (x ∷ es)) → woven ((x ∷ es) ++ e ∷ []) (rs ++ row ∷ []) ≡ woven (x ∷ es) rs ++ row ∷ []
    by_kind rest true k rs m =
        let fewer : length rs ≡ length (plain_steps es) = m ∙ ap length (plain_chain x es k) in
        woven_chain (rs ++ row ∷ []) x (es ++ e ∷ []) k ∙ ap (λ l. clauses_of x [] ∷ l) (rest rs fewer) ∙ ap (λ l. l ++ row ∷ []) (sym (woven_chain rs x es k))
    by_kind rest false k [] m = let bad : 0 ≡ suc (length (plain_steps es)) = m ∙ ap length (plain_other x es k) in absurd (omega (arith, bad))
    by_kind rest false k (r ∷ rs) m =
        let whole : suc (length rs) ≡ suc (length (plain_steps es)) = m ∙ ap length (plain_other x es k) in
        let fewer : length rs ≡ length (plain_steps es) = omega (arith, whole) in
        woven_other (r ∷ (rs ++ row ∷ [])) x (es ++ e ∷ []) k ∙ ap (λ l. r ∷ l) (rest rs fewer) ∙ ap (λ l. l ++ row ∷ []) (sym (woven_other (r ∷ rs) x es k))

chains_snoc : (es : List Entry) (rows : List (List (List Literal))) (e : Entry) (row : List (List Literal)) → is_chain (Some e) ≡ false → length rows ≡ suc (length (plain_steps es)) → with_chains (es ++ e ∷ []) (rows ++ row ∷ []) ≡ with_chains es rows ++ row ∷ []
chains_snoc es [] e row h n = absurd (omega (arith, n))
chains_snoc es (first ∷ rows) e row h n = ap (λ l. first ∷ l) (woven_snoc es rows e row h (omega (arith, n)))

-- ---- the log without chains

-- the terms after a step begin with those before it
pub more_terms : (v : TermsValue) (e : Entry) → (more : List Node) × ((terms_after v e).nodes ≡ v.nodes ++ more)
more_terms v (step.Node n) = (n ∷ [], refl)
more_terms v e = ([], sym (append-nil v.nodes))

-- one step more, over more terms
pub record HasRow (old new : LogValue) : Type 0 where
  pub row : List (List Literal)
  pub clauses : new.clauses ≡ old.clauses ++ row ∷ []
  pub places : length old.clauses ≡ suc (length old.entries)
  pub next : old.next ≤ new.next

pub has_row : (nodes more : List Node) (old new : LogValue) (e : Entry) → Stands nodes old → Stands (nodes ++ more) new → new.entries ≡ old.entries ++ e ∷ [] → HasRow old new
has_row nodes more old new e before after entries = record {
  row = row_of all (state_of all old.entries) e;
  clauses =
      kept.clauses
      ∙ ap (λ (s : LogState). s.clauses) (ap (state_of all) entries ∙ state_from-append all start old.entries (e ∷ []))
      ∙ step_adds all (state_of all old.entries) e
      ∙ ap (λ rs. rs ++ row_of all (state_of all old.entries) e ∷ []) (sym over.clauses);
  places = ap length over.clauses ∙ positions all old.entries;
  next =
      let stays = log_stays all old.entries (e ∷ []) (subst (IsLog all) entries kept.steps) in
      let first : old.next ≡ (state_of all old.entries).next = over.next in
      let last : new.next ≡ (state_of all (old.entries ++ e ∷ [])).next = kept.next ∙ ap (λ es. (state_of all es).next) entries in
      let le : (state_of all old.entries).next ≤ (state_of all (old.entries ++ e ∷ [])).next = stays.next in
      omega (arith, first, last, le);
}
  where
    all : List Node
    all = nodes ++ more

    over : IsKept all old
    over = stands_over all old (stands_longer nodes more old before)

    kept : IsKept all new
    kept = stands_over all new after

-- each clause of a position has variables alone that there are
row_below : (rows : List (List (List Literal))) (p n : ℕ) (row : List (List Literal)) → slice_get rows p ≡ Some row → ((id : ClauseId) (c : List Literal) → clause_at rows id ≡ Some c → AreBelow n c) → AllByRecursion (AreBelow n) row
row_below rows p n row is h = from_places row (λ k c e. h (record { pos = p; part = k }) c (ap (λ o. clause_in o k) is ∙ e))
  where
    from_places : (cs : List (List Literal)) → ((k : ℕ) (c : List Literal) → slice_get cs k ≡ Some c → AreBelow n c) → AllByRecursion (AreBelow n) cs
    from_places [] g = tt
    from_places (c ∷ cs) g = (g zero c refl, from_places cs (λ k d e. g (suc k) d e))

rows_more : (n m : ℕ) → n ≤ m → (rows : List (List (List Literal))) → AllByRecursion (AllByRecursion (AreBelow n)) rows → AllByRecursion (AllByRecursion (AreBelow m)) rows
rows_more n m le [] h = tt
rows_more n m le (row ∷ rows) h = (row_more row h.0, rows_more n m le rows h.1)
  where
    row_more : (cs : List (List Literal)) → AllByRecursion (AreBelow n) cs → AllByRecursion (AreBelow m) cs
    row_more [] g = tt
    row_more (c ∷ cs) g = (AreBelow-more n m le c g.0, row_more cs g.1)

-- ---- what stays held

pub held_longer : (nodes more : List Node) (l : FadedValue) → IsHeld nodes l → IsHeld (nodes ++ more) l
held_longer nodes more l h = record { base = stands_longer nodes more l.base h.base; steps = h.steps; clauses = h.clauses; below = h.below }

pub held_chain : (nodes : List Node) (old new : FadedValue) (c : List Literal) (hints : List ClauseId) → IsHeld nodes old → IsLonger old new (step.Chain c hints) → AreBelow old.base.next c → IsHeld nodes new
held_chain nodes old new c hints h longer below = record {
  base = subst (Stands nodes) (sym longer.base) h.base;
  steps = ap (λ (b : LogValue). b.entries) longer.base ∙ h.steps ∙ sym (plain_snoc_chain old.entries (step.Chain c hints) refl) ∙ ap plain_steps (sym longer.entries);
  clauses =
      longer.clauses
      ∙ ap (λ rs. rs ++ (c ∷ []) ∷ []) h.clauses
      ∙ ap (λ l. first_of old.base.clauses ∷ l) (sym (woven_snoc_chain old.entries (behind_first old.base.clauses) (step.Chain c hints) refl))
      ∙ ap (λ es. with_chains es old.base.clauses) (sym longer.entries)
      ∙ ap (λ (b : LogValue). with_chains new.entries b.clauses) (sym longer.base);
  below =
      subst (λ (b : LogValue). AllByRecursion (AllByRecursion (AreBelow b.next)) new.clauses) (sym longer.base)
      (subst (AllByRecursion (AllByRecursion (AreBelow old.base.next))) (sym longer.clauses)
      (each_append (AllByRecursion (AreBelow old.base.next)) old.clauses ((c ∷ []) ∷ []) h.below ((below, tt), tt)));
}

module _ (v w : TermsValue) (old new : FadedValue) (e : Entry) (p : ℕ) (plain : is_chain (Some e) ≡ false) (h : IsHeld v.nodes old) (terms : w ≡ terms_after v e) (pushed : IsPushed w.nodes old.base new.base e p) where
  more : (ns : List Node) × (w.nodes ≡ v.nodes ++ ns)
  more = let m = more_terms v e in (m.0, ap (λ (x : TermsValue). x.nodes) terms ∙ m.1)

  grown : HasRow old.base new.base
  grown = has_row v.nodes more.0 old.base new.base e h.base (subst (λ ns. Stands ns new.base) more.1 pushed.stands) pushed.entries

  row_there : slice_get new.base.clauses p ≡ Some grown.row
  row_there =
      let at : p ≡ length old.base.clauses = pushed.position ∙ sym grown.places in
      ap (slice_get new.base.clauses) at ∙ ap (λ rs. slice_get rs (length old.base.clauses)) grown.clauses ∙ slice_get-push old.base.clauses grown.row

  pub held_plain : new.entries ≡ old.entries ++ e ∷ [] → new.clauses ≡ old.clauses ++ or_none (slice_get new.base.clauses p) ∷ [] → IsHeld w.nodes new
  held_plain entries clauses = record {
    base = pushed.stands;
    steps = pushed.entries ∙ ap (λ es. es ++ e ∷ []) h.steps ∙ sym (plain_snoc old.entries e plain) ∙ ap plain_steps (sym entries);
    clauses =
        rows
        ∙ ap (λ rs. rs ++ grown.row ∷ []) h.clauses
        ∙ sym (chains_snoc old.entries old.base.clauses e grown.row plain (grown.places ∙ ap (λ es. suc (length es)) h.steps))
        ∙ ap (with_chains (old.entries ++ e ∷ [])) (sym grown.clauses)
        ∙ ap (λ es. with_chains es new.base.clauses) (sym entries);
    below =
        subst (AllByRecursion (AllByRecursion (AreBelow new.base.next))) (sym rows)
        (each_append (AllByRecursion (AreBelow new.base.next)) old.clauses (grown.row ∷ []) (rows_more old.base.next new.base.next grown.next old.clauses h.below) (own, tt));
  }
    where
      rows : new.clauses ≡ old.clauses ++ grown.row ∷ []
      rows = clauses ∙ ap (λ o. old.clauses ++ or_none o ∷ []) row_there

      own : AllByRecursion (AreBelow new.base.next) grown.row
      own =
          let s = pushed.stands in
          row_below new.base.clauses p new.base.next grown.row row_there (λ id c is. clauses_below (take new.base.over w.nodes) new.base id c s.terms s.kept is)

-- ---- what is valid

-- a step that is no chain is valid where it is behind those that are none
pub valid_held : (v : TermsValue) (l : FadedValue) (e : Entry) → IsHeld v.nodes l → is_chain (Some e) ≡ false → IsValid v (state_of v.nodes l.base.entries) e → IsValid v (state_of v.nodes l.entries) e
valid_held v l e h plain i = subst (λ (s : LogState). IsValid v s e) (sym (held_state v.nodes l h)) (valid_with (state_of v.nodes l.base.entries) l.clauses v e plain i)

pub valid_base : (v : TermsValue) (l : FadedValue) (e : Entry) → IsHeld v.nodes l → is_chain (Some e) ≡ false → IsValid v (state_of v.nodes l.entries) e → IsValid v (state_of v.nodes l.base.entries) e
valid_base v l e h plain i =
    let s = state_of v.nodes l.base.entries in
    valid_with (with_clauses s l.clauses) s.clauses v e plain (subst (λ (x : LogState). IsValid v x e) (held_state v.nodes l h) i)

pub tried_plain : (v w : TermsValue) (old new : FadedValue) (e : Entry) (b : Bool) → is_chain (Some e) ≡ false → IsHeld v.nodes old → IsTriedPlain v w old new e b → IsTried v w old new e b
tried_plain v w old new e true plain h t = (valid_held v old e h plain t.1, t.2, t.4, held_plain v w old new e t.0 plain h t.2 t.3 t.4 t.5)
tried_plain v w old new e false plain h t = ((λ i. t.0 (valid_base v old e h plain i)), t.1, t.2)

-- a chain, where it is founded on the clauses that are kept
pub chain_valid : (v : TermsValue) (l : FadedValue) (c : List Literal) (hints : List ClauseId) → IsHeld v.nodes l → AreBelow l.base.next c × IsChain (clause_at l.clauses) c hints → IsValid v (state_of v.nodes l.entries) (step.Chain c hints)
chain_valid v l c hints h i =
    (subst (λ n. AreBelow n c) (held_next v.nodes l h) i.0, subst (λ rs. IsChain (clause_at rs) c hints) (held_clauses v.nodes l h) i.1)

pub chain_founded : (v : TermsValue) (l : FadedValue) (c : List Literal) (hints : List ClauseId) → IsHeld v.nodes l → IsValid v (state_of v.nodes l.entries) (step.Chain c hints) → AreBelow l.base.next c × IsChain (clause_at l.clauses) c hints
chain_founded v l c hints h i =
    (subst (λ n. AreBelow n c) (sym (held_next v.nodes l h)) i.0, subst (λ rs. IsChain (clause_at rs) c hints) (sym (held_clauses v.nodes l h)) i.1)

pub tried_chain : (v : TermsValue) (old new : FadedValue) (c : List Literal) (hints : List ClauseId) → IsHeld v.nodes old → AreBelow old.base.next c × IsChain (clause_at old.clauses) c hints → IsLonger old new (step.Chain c hints) → IsTried v v old new (step.Chain c hints) true
tried_chain v old new c hints h i longer = (chain_valid v old c hints h i, refl, longer.entries, held_chain v.nodes old new c hints h longer i.0)

pub refused_chain : (v : TermsValue) (old new : FadedValue) (c : List Literal) (hints : List ClauseId) → IsHeld v.nodes old → ¬ (AreBelow old.base.next c × IsChain (clause_at old.clauses) c hints) → new ≡ old → IsTried v v old new (step.Chain c hints) false
refused_chain v old new c hints h free same = ((λ i. free (chain_founded v old c hints h i)), refl, same)

-- ---- no step

first_below : (nodes : List Node) (b : LogValue) → Stands nodes b → (rows : List (List (List Literal))) → b.clauses ≡ rows → AllByRecursion (AreBelow b.next) (first_of rows)
first_below nodes b s [] e = tt
first_below nodes b s (row ∷ rows) e =
    row_below b.clauses zero b.next row (ap (λ rs. slice_get rs zero) e) (λ id c is. clauses_below (take b.over nodes) b id c s.terms s.kept is)

pub held_new : (nodes : List Node) (b : LogValue) → Stands nodes b → b.entries ≡ [] → IsHeld nodes (record { base = b; entries = []; clauses = first_of b.clauses ∷ [] })
held_new nodes b s e = record { base = s; steps = e; clauses = refl; below = (first_below nodes b s b.clauses refl, tt) }

-- ---- steps that are tried

pub no_chain : (e : Entry) → ((c : List Literal) (hints : List ClauseId) → e ≡ step.Chain c hints → ⊥) → is_chain (Some e) ≡ false
no_chain (step.Chain c hints) h = absurd (h c hints refl)
no_chain (step.Node n) h = refl
no_chain (step.Leaf t) h = refl
no_chain (step.Encode t) h = refl
no_chain (step.Selector a t) h = refl
no_chain (step.Rewrite r) h = refl
no_chain (step.Equal t u) h = refl
no_chain (step.Lemma l) h = refl

pub tried_plain_in : {E : Type 0} (v w : TermsValue) (old new : FadedValue) (e : Entry) → is_chain (Some e) ≡ false → IsHeld v.nodes old → (r : Result Bool E) → IfOk r (IsTriedPlain v w old new e) → IfOk r (IsTried v w old new e)
tried_plain_in v w old new e plain h (Ok b) t = tried_plain v w old new e b plain h t
tried_plain_in v w old new e plain h (Err f) t = tt

pub pushed_row : (v w : TermsValue) (old new : LogValue) (e : Entry) (p : ℕ) → Stands v.nodes old → w ≡ terms_after v e → IsPushed w.nodes old new e p → HasRow old new
pushed_row v w old new e p stands terms pushed =
    let m = more_terms v e in
    let nodes : w.nodes ≡ v.nodes ++ m.0 = ap (λ (x : TermsValue). x.nodes) terms ∙ m.1 in
    has_row v.nodes m.0 old new e stands (subst (λ ns. Stands ns new) nodes pushed.stands) pushed.entries
