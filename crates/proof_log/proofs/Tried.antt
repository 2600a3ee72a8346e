-- What trying a step tells.
use Rattle.std.proofs.Common.{◌≡◌, ℕ, suc, ◌<◌, ◌≤◌, Bool, true, false, List, [], ◌∷◌, ◌++◌, length, Option, Some, None, Result, Ok, Err, refl, sym, ap, ◌∙◌, subst, inl, inr, ⊎_elim, arith, position}
use Rattle.std.specs.Prelude.{◌&&◌, Contains, IsSome, MatchOption, is_some}
use Rattle.std.proofs.lemmas.Bool.{and_parts}
use Rattle.std.proofs.lemmas.List.Elements.{Contains-push}
use Rattle.cnf_base.specs.Literals.{Literal}
use Rattle.cnf_base.specs.Assignments.{AreBelow}
use Rattle.cnf_base.specs.declared.clause.ClauseId.{ClauseId}
use Rattle.cnf_base.proofs.Agreeing.{AreBelow-more}
use Rattle.cnf_base.proofs.Options.{none_from}
use Rattle.smt_terms.specs.declared.sort.Sort.TheVariants as sort
use Rattle.smt_terms.specs.declared.node.Node.{Node}
use Rattle.smt_terms.specs.declared.fault.MakeFault.{MakeFault}
use Rattle.smt_terms.specs.Same.{same_node}
use Rattle.smt_terms.specs.Nodes.{node_at}
use Rattle.smt_terms.specs.Terms.{TermsValue, AreTerms, IsTermList, make, sort_of, with_node}
use Rattle.smt_terms.specs.Bits.{TermBits, bits_in, image_in}
use Rattle.smt_terms.proofs.Made.{made, no_place}
use Rattle.bv_rules.specs.declared.rule.Rule.{Rule}
use Rattle.bv_rules.specs.Numbers.{number_of}
use Rattle.bv_rules.specs.Matches.{matches}
use Rattle.bit_blast.specs.Blocks.{Block, block_of}
use Rattle.hint_chain.specs.Chains.{IsChain}
use Rattle.hint_chain.proofs.Exact.{IsChain-no_fault}
use Rattle.theory_terms.specs.declared.lemma.Lemma.{Lemma}
use Rattle.theory_lemmas.specs.declared.fault.LemmaFault.{LemmaFault}
use Rattle.theory_lemmas.specs.Clauses.{clause_of}
use Rattle.proof_log.specs.declared.equals.EqualRow.{EqualRow}
use Rattle.proof_log.specs.declared.entry.RuleUse.{RuleUse}
use Rattle.proof_log.specs.declared.entry.Entry.{Entry}
use Rattle.proof_log.specs.declared.entry.Entry.TheVariants as step
use Rattle.proof_log.specs.declared.fault.StepKind.TheVariants as kind
use Rattle.proof_log.specs.declared.fault.Kept.{Kept}
use Rattle.proof_log.specs.declared.fault.Kept.TheVariants as kept
use Rattle.proof_log.specs.declared.fault.PushError.{PushError}
use Rattle.proof_log.specs.declared.fault.PushError.TheVariants as push
use Rattle.proof_log.specs.Pairs.{found}
use Rattle.proof_log.specs.Logs.{clause_at, leaf_width, IsRuled, IsRewrite, IsStep, IsLeaf, IsEncoding, IsSelector, IsLemma, state_of}
use Rattle.proof_log.specs.Stored.{LogValue, StepsValue, with_step, selector_in, IsKept, Stands, with_leaf, with_block, with_lemma, with_rewrite, with_plain, EqualRows, row_literal, equal_in, HaveEqualBits, IsPaired, Encodes, IsSelected, IsPushed}
use Rattle.proof_log.specs.Faults.{IsGiven, IsValid, terms_after, MakesNoTerm, kind_of, Shows, ShowsRewrite, ShowsChain, IsFault, Tried, Answers}
use Rattle.proof_log.proofs.Standing.{stands_over, stands_all, stands_longer, kept_plain, kept_leaf, kept_block, kept_selector, kept_equal, kept_lemma, kept_rewrite, pair_bits, no_literal, some_literal}
use Rattle.proof_log.proofs.Growing.{below_member}
use Rattle.proof_log.proofs.Rules.{same_rule}

pushed : (nodes : List Node) (old new : LogValue) (e : Entry) → IsTermList nodes → new.entries ≡ old.entries ++ e ∷ [] → new.over ≡ length nodes → IsKept nodes new → IsPushed nodes old new e (suc (length old.entries))
pushed nodes old new e all es o k = record { position = refl; entries = es; over = o; stands = stands_all nodes new o all k }

-- ---- leaves

pub leaf_done : (v : TermsValue) (old new : LogValue) (t n : ℕ) → AreTerms v → Stands v.nodes old → t < length v.nodes → is_some (bits_in old.bits t) ≡ false → leaf_width v.nodes t ≡ Some n → new ≡ with_leaf old (length v.nodes) t n → Tried v (step.Leaf t) old new None
leaf_done v old new t n all h within test w e =
    let none = none_from (bits_in old.bits t) test in
    let k = stands_over v.nodes old h in
    let i : IsLeaf v.nodes (state_of v.nodes old.entries) t = record { term = within; new = sym (k.bits t) ∙ none; width = n; constant = w } in
    (i, subst (λ l. IsPushed v.nodes old l (step.Leaf t) (suc (length old.entries))) (sym e) (pushed v.nodes old (with_leaf old (length v.nodes) t n) (step.Leaf t) all.list refl refl (kept_leaf v.nodes old t n all.list k i w)))

-- a term that has bits has no step that gives it some
has_bits : (v : TermsValue) (old : LogValue) (t : ℕ) → Stands v.nodes old → is_some (bits_in old.bits t) ≡ true → (state_of v.nodes old.entries).bits t ≡ None → ⊥
has_bits v old t h e n =
    let k = stands_over v.nodes old h in
    let q : true ≡ false = sym e ∙ ap is_some (k.bits t ∙ n) in
    let f : ⊥ = cc in f

pub leaf_past : (v : TermsValue) (old : LogValue) (t : ℕ) → length v.nodes ≤ t → Tried v (step.Leaf t) old old (Some (kept.Term t))
leaf_past v old t le = ((λ i. let lt = i.term in omega arith), refl, refl)

pub leaf_held : (v : TermsValue) (old : LogValue) (t : ℕ) → Stands v.nodes old → is_some (bits_in old.bits t) ≡ true → Tried v (step.Leaf t) old old (Some (kept.Term t))
leaf_held v old t h e = ((λ i. has_bits v old t h e i.new), refl, refl)

pub leaf_other : (v : TermsValue) (old : LogValue) (t : ℕ) → leaf_width v.nodes t ≡ None → Tried v (step.Leaf t) old old (Some (kept.Term t))
leaf_other v old t e = ((λ i. let w = i.constant in cc), refl, refl)

-- ---- circuits

pub encode_past : (v : TermsValue) (old : LogValue) (t : ℕ) → length v.nodes ≤ t → Tried v (step.Encode t) old old (Some (kept.Term t))
encode_past v old t le = ((λ i. let lt = i.term in omega arith), refl, refl)

pub encode_held : (v : TermsValue) (old : LogValue) (t : ℕ) → Stands v.nodes old → is_some (bits_in old.bits t) ≡ true → Tried v (step.Encode t) old old (Some (kept.Term t))
encode_held v old t h e = ((λ i. has_bits v old t h e i.new), refl, refl)

-- the block over what is kept is that over what the log has
same_block : (nodes : List Node) (l : LogValue) (n : Node) → IsKept nodes l → block_of l.next (bits_in l.bits) n ≡ block_of (state_of nodes l.entries).next (state_of nodes l.entries).bits n
same_block nodes l n k =
    let s = state_of nodes l.entries in
    let e : bits_in l.bits ≡ (state_of nodes l.entries).bits = λ i t. k.bits t i in
    ap (λ x. block_of x (bits_in l.bits) n) k.next ∙ ap (λ f. block_of s.next f n) e

encodes_true : (o : Option Block) (over t : ℕ) (old new : LogValue) → Encodes o true over t old new → (b : Block) × (o ≡ Some b) × (new ≡ with_block old over t b)
encodes_true None over t old new h = let p = h.0 in let q : ⊥ = cc in absurd q
encodes_true (Some b) over t old new h = (b, refl, h.1)

encodes_false : (o : Option Block) (over t : ℕ) (old new : LogValue) → Encodes o false over t old new → (o ≡ None) × (new ≡ old)
encodes_false None over t old new h = (refl, h.1)
encodes_false (Some b) over t old new h = let p = h.0 in let q : ⊥ = cc in absurd q

pub encode_done : (v : TermsValue) (old new : LogValue) (t : ℕ) (d : Bool) → AreTerms v → Stands v.nodes old → t < length v.nodes → is_some (bits_in old.bits t) ≡ false → Encodes (block_of old.next (bits_in old.bits) (node_at v.nodes t)) d (length v.nodes) t old new → d ≡ true → Tried v (step.Encode t) old new None
encode_done v old new t d all h within test e is =
    let none = none_from (bits_in old.bits t) test in
    let k = stands_over v.nodes old h in
    let b = encodes_true (block_of old.next (bits_in old.bits) (node_at v.nodes t)) (length v.nodes) t old new (subst (λ d. Encodes (block_of old.next (bits_in old.bits) (node_at v.nodes t)) d (length v.nodes) t old new) is e) in
    let w = sym (same_block v.nodes old (node_at v.nodes t) k) ∙ b.1 in
    let i : IsEncoding v.nodes (state_of v.nodes old.entries) t = record { term = within; new = sym (k.bits t) ∙ none; block = b.0; circuit = w } in
    (i, subst (λ l. IsPushed v.nodes old l (step.Encode t) (suc (length old.entries))) (sym b.2) (pushed v.nodes old (with_block old (length v.nodes) t b.0) (step.Encode t) all.list refl refl (kept_block v.nodes old t b.0 all.list k i w)))

pub encode_none : (v : TermsValue) (old new : LogValue) (t : ℕ) (d : Bool) → Stands v.nodes old → Encodes (block_of old.next (bits_in old.bits) (node_at v.nodes t)) d (length v.nodes) t old new → d ≡ false → Tried v (step.Encode t) old new (Some (kept.Term t))
encode_none v old new t d h e is =
    let k = stands_over v.nodes old h in
    let b = encodes_false (block_of old.next (bits_in old.bits) (node_at v.nodes t)) (length v.nodes) t old new (subst (λ d. Encodes (block_of old.next (bits_in old.bits) (node_at v.nodes t)) d (length v.nodes) t old new) is e) in
    let w = sym (same_block v.nodes old (node_at v.nodes t) k) ∙ b.0 in
    ((λ i. let c = i.circuit in cc), refl, b.1)

-- ---- selectors

pub select_done : (v : TermsValue) (old new : LogValue) (a t : ℕ) (bit : Literal) → AreTerms v → Stands v.nodes old → t < length v.nodes → sort_of v.nodes t ≡ sort.Bool → selector_in old.selectors a ≡ None → bits_in old.bits t ≡ Some (bit ∷ []) → IsSelected old new (length v.nodes) a t bit → Tried v (step.Selector a t) old new None
select_done v old new a t bit all h within bool none e made =
    let k = stands_over v.nodes old h in
    let w = sym (k.bits t) ∙ e in
    let i : IsSelector v.nodes (state_of v.nodes old.entries) a t = record { term = within; sort = bool; new = no_literal _ (sym (k.selectors a) ∙ none); bit = bit; encoded = w } in
    (i, pushed v.nodes old new (step.Selector a t) all.list made.entries made.terms (kept_selector v.nodes old new a t bit k i w made))

pub select_held : (v : TermsValue) (old : LogValue) (a t x : ℕ) (l : Literal) → Stands v.nodes old → selector_in old.selectors a ≡ Some l → x ≡ l.variable → Tried v (step.Selector a t) old old (Some (kept.Variable x))
select_held v old a t x l h e q =
    let k = stands_over v.nodes old h in
    let r = some_literal _ l (sym (k.selectors a) ∙ e) in
    ((λ i. let n = i.new in let p = r.1 in cc), (r.0, r.1, ap (λ y. y.variable) r.2 ∙ sym q), refl)

pub select_past : (v : TermsValue) (old : LogValue) (a t : ℕ) → length v.nodes ≤ t → Tried v (step.Selector a t) old old (Some (kept.Term t))
select_past v old a t le = ((λ i. let lt = i.term in omega arith), refl, refl)

pub select_other : (v : TermsValue) (old : LogValue) (a t : ℕ) → (sort_of v.nodes t ≡ sort.Bool → ⊥) → Tried v (step.Selector a t) old old (Some (kept.Term t))
select_other v old a t ne = ((λ i. ne i.sort), refl, refl)

pub select_none : (v : TermsValue) (old : LogValue) (a t : ℕ) → Stands v.nodes old → ((l : Literal) → bits_in old.bits t ≡ Some (l ∷ []) → ⊥) → Tried v (step.Selector a t) old old (Some (kept.Term t))
select_none v old a t h no_bit = let k = stands_over v.nodes old h in ((λ i. no_bit i.bit (k.bits t ∙ i.encoded)), refl, refl)

-- ---- chains

same_step : (v : TermsValue) (old : LogValue) (c : List Literal) (hints : List ClauseId) → IsKept v.nodes old → AreBelow old.next c → IsChain (clause_at old.clauses) c hints → IsStep v.nodes (state_of v.nodes old.entries) (step.Chain c hints)
same_step v old c hints k below chain =
    (subst (λ n. AreBelow n c) k.next below, subst (λ cs. IsChain (clause_at cs) c hints) k.clauses chain)

pub chain_done : (v : TermsValue) (old new : LogValue) (c : List Literal) (hints : List ClauseId) → AreTerms v → Stands v.nodes old → AreBelow old.next c → IsChain (clause_at old.clauses) c hints → new ≡ with_plain old (length v.nodes) (step.Chain c hints) → Tried v (step.Chain c hints) old new None
chain_done v old new c hints all h below chain e =
    let k = stands_over v.nodes old h in
    let i = same_step v old c hints k below chain in
    (i, subst (λ l. IsPushed v.nodes old l (step.Chain c hints) (suc (length old.entries))) (sym e) (pushed v.nodes old (with_plain old (length v.nodes) (step.Chain c hints)) (step.Chain c hints) all.list refl refl (kept_plain v.nodes old (step.Chain c hints) k i refl)))

same_shown : (v : TermsValue) (old : LogValue) (c : List Literal) (hints : List ClauseId) (k : Kept) → IsKept v.nodes old → ShowsChain old.next old.clauses c hints k → Shows v (state_of v.nodes old.entries) (step.Chain c hints) k
same_shown v old c hints k h s =
    subst (λ n. ShowsChain n (state_of v.nodes old.entries).clauses c hints k) h.next (subst (λ rows. ShowsChain old.next rows c hints k) h.clauses s)

-- what is shown leaves no chain
no_chain : (next : ℕ) (rows : List (List (List Literal))) (c : List Literal) (hints : List ClauseId) (k : Kept) → ShowsChain next rows c hints k → AreBelow next c × IsChain (clause_at rows) c hints → ⊥
no_chain next rows c hints (kept.Variable x) s i = let lt = below_member next c s.0 i.0 s.1 in let e = s.2 in let le = s.3 in omega arith
no_chain next rows c hints (kept.Chain f) s i = IsChain-no_fault (clause_at rows) c hints f i.1 s.1
no_chain next rows c hints k s i = s

pub chain_shown : (v : TermsValue) (old new : LogValue) (c : List Literal) (hints : List ClauseId) (o : Option Kept) (k : Kept) → Stands v.nodes old
    → MatchOption o (AreBelow old.next c × IsChain (clause_at old.clauses) c hints) (ShowsChain old.next old.clauses c hints) → o ≡ Some k → new ≡ old → Tried v (step.Chain c hints) old new (Some k)
chain_shown v old new c hints o k h m e same =
    let s = state_of v.nodes old.entries in
    let shown = same_shown v old c hints k (stands_over v.nodes old h) (subst (λ o. MatchOption o (AreBelow old.next c × IsChain (clause_at old.clauses) c hints) (ShowsChain old.next old.clauses c hints)) e m) in
    (no_chain s.next s.clauses c hints k shown, shown, same)

pub chain_found : (v : TermsValue) (old mid new : LogValue) (c : List Literal) (hints : List ClauseId) (o : Option Kept) (over : ℕ) → AreTerms v → Stands v.nodes old
    → MatchOption o (AreBelow old.next c × IsChain (clause_at old.clauses) c hints) (ShowsChain old.next old.clauses c hints) → o ≡ None → mid ≡ old → over ≡ length v.nodes → new ≡ with_plain mid over (step.Chain c hints) → Tried v (step.Chain c hints) old new None
chain_found v old mid new c hints o over all h m e same count put =
    let i = subst (λ o. MatchOption o (AreBelow old.next c × IsChain (clause_at old.clauses) c hints) (ShowsChain old.next old.clauses c hints)) e m in
    chain_done v old new c hints all h i.0 i.1 (put ∙ ap (λ l. with_plain l over (step.Chain c hints)) same ∙ ap (λ n. with_plain old n (step.Chain c hints)) count)

-- ---- equalities

pub equal_other : (v : TermsValue) (old : LogValue) (t u : ℕ) → ((t < u) × (u < length v.nodes) × (sort_of v.nodes t ≡ sort_of v.nodes u) → ⊥) → Tried v (step.Equal t u) old old (Some (kept.Terms t u))
equal_other v old t u none = ((λ i. none (i.pair.lower, i.pair.term, i.pair.sort)), (refl, refl), refl)

-- where one of the terms has no bits
pub equal_without : (v : TermsValue) (old : LogValue) (t u : ℕ) → Stands v.nodes old → (is_some (bits_in old.bits t) && is_some (bits_in old.bits u)) ≡ false → Tried v (step.Equal t u) old old (Some (kept.Terms t u))
equal_without v old t u h none =
    let k = stands_over v.nodes old h in (
      (λ i.
          let left : is_some (bits_in old.bits t) ≡ true = ap is_some (k.bits t) ∙ i.pair.left in
          let right : is_some (bits_in old.bits u) ≡ true = ap is_some (k.bits u) ∙ i.pair.right in
          let both : (is_some (bits_in old.bits t) && is_some (bits_in old.bits u)) ≡ true = ap (λ b. b && is_some (bits_in old.bits u)) left ∙ right in
          let q : true ≡ false = sym both ∙ none in
          let f : ⊥ = cc in f),
      (refl, refl),
      refl,
    )

pub equal_held : (v : TermsValue) (old : LogValue) (t u x : ℕ) (r : EqualRow) → Stands v.nodes old → found old.equals t u ≡ Some r → x ≡ r.literal.variable → Tried v (step.Equal t u) old old (Some (kept.Variable x))
equal_held v old t u x r h e q =
    let k = stands_over v.nodes old h in
    let held : (state_of v.nodes old.entries).equals t u ≡ Some r.literal = sym (k.equals t u) ∙ ap row_literal e in
    ((λ i. let n = i.new in let z : None ≡ Some r.literal = sym n ∙ held in let f : ⊥ = cc in f), (r.literal, held, sym q), refl)

-- two terms of one sort with bits, whose equality has no variable
pub is_equal : (v : TermsValue) (old : LogValue) (t u : ℕ) → Stands v.nodes old → (t < u) × (u < length v.nodes) × (sort_of v.nodes t ≡ sort_of v.nodes u) → (is_some (bits_in old.bits t) && is_some (bits_in old.bits u)) ≡ true → found old.equals t u ≡ None → IsStep v.nodes (state_of v.nodes old.entries) (step.Equal t u)
is_equal v old t u h pair both none =
    let k = stands_over v.nodes old h in
    let bits = and_parts (is_some (bits_in old.bits t)) (is_some (bits_in old.bits u)) both in
    record {
      pair = record { lower = pair.0; term = pair.1; sort = pair.2; left = ap is_some (sym (k.bits t)) ∙ bits.0; right = ap is_some (sym (k.bits u)) ∙ bits.1 };
      new = sym (k.equals t u) ∙ ap row_literal none;
    }

pub equal_bits : (v : TermsValue) (old : LogValue) (t u : ℕ) → AreTerms v → Stands v.nodes old → IsStep v.nodes (state_of v.nodes old.entries) (step.Equal t u) → HaveEqualBits old.bits t u
equal_bits v old t u all h i = pair_bits v.nodes old t u all.list (stands_over v.nodes old h) i.pair

pub equal_done : (v : TermsValue) (old new : LogValue) (t u : ℕ) → AreTerms v → Stands v.nodes old → IsStep v.nodes (state_of v.nodes old.entries) (step.Equal t u) → IsPaired old new (length v.nodes) t u → Tried v (step.Equal t u) old new None
equal_done v old new t u all h i put =
    let b = equal_bits v old t u all h i in
    let k = stands_over v.nodes old h in
    let p = put b.0 b.1 b.2 b.3 in
    (i, pushed v.nodes old new (step.Equal t u) all.list p.entries p.terms (kept_equal v.nodes old new t u b.0 b.1 k i b.2 b.3 p))

-- ---- lemmas

same_clause : (v : TermsValue) (old : LogValue) (a : Lemma) → IsKept v.nodes old → clause_of v.nodes (bits_in old.bits) (equal_in old.equals) a ≡ clause_of v.nodes (state_of v.nodes old.entries).bits (state_of v.nodes old.entries).equals a
same_clause v old a k =
    let bits : bits_in old.bits ≡ (state_of v.nodes old.entries).bits = λ i t. k.bits t i in
    let equals : equal_in old.equals ≡ (state_of v.nodes old.entries).equals = λ i t u. k.equals t u i in
    ap (λ f. clause_of v.nodes f (equal_in old.equals) a) bits ∙ ap (λ f. clause_of v.nodes (state_of v.nodes old.entries).bits f a) equals

pub lemma_done : (v : TermsValue) (old new : LogValue) (a : Lemma) (c : List Literal) → AreTerms v → Stands v.nodes old → Ok c ≡ clause_of v.nodes (bits_in old.bits) (equal_in old.equals) a → new ≡ with_lemma old (length v.nodes) a c → Tried v (step.Lemma a) old new None
lemma_done v old new a c all h is e =
    let k = stands_over v.nodes old h in
    let clause : clause_of v.nodes (state_of v.nodes old.entries).bits (state_of v.nodes old.entries).equals a ≡ Ok c = sym (is ∙ same_clause v old a k) in
    let i : IsLemma v.nodes (state_of v.nodes old.entries) a = record { clause = c; is = clause } in
    (i, subst (λ l. IsPushed v.nodes old l (step.Lemma a) (suc (length old.entries))) (sym e) (pushed v.nodes old (with_lemma old (length v.nodes) a c) (step.Lemma a) all.list refl refl (kept_lemma v.nodes old a c k i clause)))

pub lemma_fault : (v : TermsValue) (old : LogValue) (a : Lemma) (f : LemmaFault) → Stands v.nodes old → Err f ≡ clause_of v.nodes (bits_in old.bits) (equal_in old.equals) a → Tried v (step.Lemma a) old old (Some (kept.Lemma f))
lemma_fault v old a f h is =
    let k = stands_over v.nodes old h in
    let fault : clause_of v.nodes (state_of v.nodes old.entries).bits (state_of v.nodes old.entries).equals a ≡ Err f = sym (is ∙ same_clause v old a k) in
    ((λ i. let z : Err f ≡ Ok i.clause = sym fault ∙ i.is in let g : ⊥ = cc in g), fault, refl)

-- ---- rewriting

-- the images that are kept are those that the log has
same_images : (nodes : List Node) (l : LogValue) → IsKept nodes l → image_in l.bits ≡ (state_of nodes l.entries).images
same_images nodes l k = λ i t. k.images t i

-- no other rule has the number
other_rule : (nodes : List Node) (images : ℕ → Option ℕ) (r : RuleUse) (rule : Rule) → number_of rule ≡ r.rule → matches nodes images rule r.from r.to ≡ false → IsRuled nodes images r → ⊥
other_rule nodes images r rule e none i =
    let same : i.rule ≡ rule = same_rule i.rule rule (i.number ∙ sym e) in
    let some : matches nodes images rule r.from r.to ≡ true = subst (λ k. matches nodes images k r.from r.to ≡ true) same i.takes in
    let q : true ≡ false = sym some ∙ none in
    let f : ⊥ = cc in f

abbrev pub IsRefused : List Node → LogValue → RuleUse → Kept → Type 0
IsRefused nodes l r k = (IsRewrite nodes (state_of nodes l.entries) r → ⊥) × ShowsRewrite nodes (state_of nodes l.entries) r k

pub no_match : (nodes : List Node) (l : LogValue) (r : RuleUse) (rule : Rule) → Stands nodes l → number_of rule ≡ r.rule → matches nodes (image_in l.bits) rule r.from r.to ≡ false → IsRefused nodes l r (kept.Terms r.from r.to)
no_match nodes l r rule h e test =
    let none : matches nodes (state_of nodes l.entries).images rule r.from r.to ≡ false = subst (λ f. matches nodes f rule r.from r.to ≡ false) (same_images nodes l (stands_over nodes l h)) test in
    ((λ i. other_rule nodes (state_of nodes l.entries).images r rule e none i.ruled), (refl, refl, rule, e, none))

pub held_from : (nodes : List Node) (l : LogValue) (r : RuleUse) → Stands nodes l → is_some (bits_in l.bits r.from) ≡ true → IsRefused nodes l r (kept.Term r.from)
held_from nodes l r h has =
    let held : IsSome ((state_of nodes l.entries).bits r.from) = ap is_some (sym ((stands_over nodes l h).bits r.from)) ∙ has in
    ((λ i. let q : true ≡ false = sym held ∙ ap is_some i.new in let f : ⊥ = cc in f), inl (refl, held))

pub held_to : (nodes : List Node) (l : LogValue) (r : RuleUse) → Stands nodes l → is_some (bits_in l.bits r.to) ≡ false → IsRefused nodes l r (kept.Term r.to)
held_to nodes l r h none =
    let absent : (state_of nodes l.entries).bits r.to ≡ None = sym ((stands_over nodes l h).bits r.to) ∙ none_from (bits_in l.bits r.to) none in
    ((λ i. let q : true ≡ false = sym i.held ∙ ap is_some absent in let f : ⊥ = cc in f), inr (refl, absent))

pub is_rewrite : (nodes : List Node) (l : LogValue) (r : RuleUse) (rule : Rule) → Stands nodes l → number_of rule ≡ r.rule → matches nodes (image_in l.bits) rule r.from r.to ≡ true → is_some (bits_in l.bits r.from) ≡ false → is_some (bits_in l.bits r.to) ≡ true → IsRewrite nodes (state_of nodes l.entries) r
is_rewrite nodes l r rule h e test from to =
    let k = stands_over nodes l h in
    record {
      ruled = record { rule = rule; number = e; takes = subst (λ f. matches nodes f rule r.from r.to ≡ true) (same_images nodes l k) test };
      new = sym (k.bits r.from) ∙ none_from (bits_in l.bits r.from) from;
      held = ap is_some (sym (k.bits r.to)) ∙ to;
    }

pub rewrite_refused : (v : TermsValue) (old : LogValue) (r : RuleUse) (k : Kept) → IsRefused v.nodes old r k → Tried v (step.Rewrite r) old old (Some k)
rewrite_refused v old r k i = (i.0, i.1, refl)

-- the terms of a valid step: the first has no bits, the second has some
pub from_is_new : (nodes : List Node) (l : LogValue) (r : RuleUse) → Stands nodes l → IsRewrite nodes (state_of nodes l.entries) r → bits_in l.bits r.from ≡ None
from_is_new nodes l r h i = (stands_over nodes l h).bits r.from ∙ i.new

pub to_is_held : (nodes : List Node) (l : LogValue) (r : RuleUse) → Stands nodes l → IsRewrite nodes (state_of nodes l.entries) r → IsSome (bits_in l.bits r.to)
to_is_held nodes l r h i = ap is_some ((stands_over nodes l h).bits r.to) ∙ i.held

pub rewrite_done : (v : TermsValue) (old new : LogValue) (r : RuleUse) (over : ℕ) → AreTerms v → Stands v.nodes old → IsRewrite v.nodes (state_of v.nodes old.entries) r → over ≡ length v.nodes → new ≡ with_rewrite old over r → Tried v (step.Rewrite r) old new None
rewrite_done v old new r over all h i count e =
    let put : new ≡ with_rewrite old (length v.nodes) r = e ∙ ap (λ n. with_rewrite old n r) count in (
      i,
      subst (λ l. IsPushed v.nodes old l (step.Rewrite r) (suc (length old.entries))) (sym put)
          (pushed v.nodes old (with_rewrite old (length v.nodes) r) (step.Rewrite r) all.list refl refl (kept_rewrite v.nodes old r all.list (stands_over v.nodes old h) i)),
    )

-- ---- what follows from trying

pub tried_valid : (v : TermsValue) (e : Entry) (old new : LogValue) (o : Option Kept) → IsValid v (state_of v.nodes old.entries) e → Tried v e old new o → IsPushed v.nodes old new e (suc (length old.entries))
tried_valid v e old new None i h = h.1
tried_valid v e old new (Some k) i h = absurd (h.0 i)

pub plain_pushed : (v : TermsValue) (c : List Literal) (hints : List ClauseId) (old new : LogValue) (over : ℕ) → AreTerms v → Stands v.nodes old → IsValid v (state_of v.nodes old.entries) (step.Chain c hints) → over ≡ length v.nodes → new ≡ with_plain old over (step.Chain c hints) → IsPushed v.nodes old new (step.Chain c hints) (suc (length old.entries))
plain_pushed v c hints old new over all h i count e =
    let k = stands_over v.nodes old h in
    subst (λ l. IsPushed v.nodes old l (step.Chain c hints) (suc (length old.entries))) (sym (e ∙ ap (λ n. with_plain old n (step.Chain c hints)) count)) (pushed v.nodes old (with_plain old (length v.nodes) (step.Chain c hints)) (step.Chain c hints) all.list refl refl (kept_plain v.nodes old (step.Chain c hints) k i refl))

-- the answer of a step that makes no term
pub answered : (v : TermsValue) (e : Entry) (old new : LogValue) (o : Option Kept) (p : ℕ) (r : Result ℕ PushError) → MakesNoTerm e → p ≡ suc (length old.entries) → Tried v e old new o
    → MatchOption o (r ≡ Ok p) (λ k. r ≡ Err (push.Fault (record { kind = kind_of e; kept = k }))) → Answers v v e old new r
answered v e old new None p r m at h a =
    subst (Answers v v e old new) (sym a) (h.0, same_terms v e m, subst (IsPushed v.nodes old new e) (sym at) h.1)
  where
    same_terms : (v : TermsValue) (e : Entry) → MakesNoTerm e → v ≡ terms_after v e
    same_terms v (step.Node n) m = absurd (m refl)
    same_terms v e m = refl
answered v e old new (Some k) p r m at h a =
    subst (Answers v v e old new) (sym a) (record { invalid = h.0; kind = refl; shown = h.1 }, refl, h.2)

pub answers_err : (v w : TermsValue) (e : Entry) (old new : LogValue) (x : PushError) → Answers v w e old new (Err x) → (w ≡ v) × (new ≡ old)
answers_err v w e old new (push.Fault f) h = (h.1, h.2)
answers_err v w e old new push.NoMemory h = h

-- ---- terms

pub node_given : (v : TermsValue) (n : Node) (old : LogValue) → IsGiven n.op → IsFault v (state_of v.nodes old.entries) (step.Node n) (record { kind = kind.Node; kept = kept.Operator })
node_given v n old g = record { invalid = λ i. i.operator g; kind = refl; shown = g }

pub node_held : (v : TermsValue) (n : Node) (old : LogValue) (t : ℕ) → position (same_node n) v.nodes ≡ Some t → IsFault v (state_of v.nodes old.entries) (step.Node n) (record { kind = kind.Node; kept = kept.Term t })
node_held v n old t e = record { invalid = λ i. let p = i.new in cc; kind = refl; shown = e }

pub node_fault : (v : TermsValue) (n : Node) (old : LogValue) (f : MakeFault) → make v n ≡ Err f → IsFault v (state_of v.nodes old.entries) (step.Node n) (record { kind = kind.Node; kept = kept.Make f })
node_fault v n old f e = record { invalid = λ i. let p = sym i.made ∙ e in let q : ⊥ = cc in q; kind = refl; shown = e }

-- a node that is new gets the next number
pub new_node : (v w : TermsValue) (n : Node) (t : ℕ) → position (same_node n) v.nodes ≡ None → make v n ≡ Ok (t, w) → (t ≡ length v.nodes) × (w ≡ with_node v n)
new_node v w n t e m =
    let h = made v w n t m in
    ⊎_elim
    (λ same. let within : t < length v.nodes = subst (λ u. t < length u.nodes) same h.within in
    absurd (no_place v.nodes n e t within (subst (λ u. node_at u.nodes t ≡ n) same h.node)))
    (λ new. (new.number, new.pushed))
    h.grown

pub node_done : (v w : TermsValue) (n : Node) (old new : LogValue) (p : ℕ) → AreTerms w → Stands v.nodes old → ¬ (IsGiven n.op) → position (same_node n) v.nodes ≡ None → (t : ℕ) × (make v n ≡ Ok (t, w)) → p ≡ suc (length old.entries) → new ≡ with_plain old (length w.nodes) (step.Node n) → Answers v w (step.Node n) old new (Ok p)
node_done v w n old new p all h given e m at x =
    let q = new_node v w n m.0 e m.1 in
    let made : make v n ≡ Ok (length v.nodes, with_node v n) = m.1 ∙ ap (λ k. Ok (k, w)) q.0 ∙ ap (λ u. Ok (length v.nodes, u)) q.1 in
    let k = subst (λ u. IsKept u.nodes old) (sym q.1) (stands_over (v.nodes ++ n ∷ []) old (stands_longer v.nodes (n ∷ []) old h)) in
    let among : Contains w.nodes n = subst (λ u. Contains u.nodes n) (sym q.1) (Contains-push v.nodes n) in (
      record { operator = given; new = e; made = made },
      q.1,
      subst (IsPushed w.nodes old new (step.Node n)) (sym at)
          (subst (λ l. IsPushed w.nodes old l (step.Node n) (suc (length old.entries))) (sym x)
          (pushed w.nodes old (with_plain old (length w.nodes) (step.Node n)) (step.Node n) all.list refl refl (kept_plain w.nodes old (step.Node n) k among refl))),
    )

-- marks for the variables below b are marks for a clause below a
pub room_for : (a b m : ℕ) (c : List Literal) → a ≡ b → a ≤ m → AreBelow b c → AreBelow m c
room_for a b m c e le h = AreBelow-more b m (omega arith) c h

pub no_some : {A : Type 0} (o : Option A) → ((x : A) → o ≡ Some x → ⊥) → o ≡ None
no_some None h = refl
no_some (Some x) h = absurd (h x refl)

-- the log with one step more, part by part
view_of : ℕ → ℕ → List TermBits → List (Option Literal) → EqualRows → StepsValue → LogValue
view_of next over bits selectors equals s = record { next = next; over = over; bits = bits; selectors = selectors; equals = equals; entries = s.entries; clauses = s.clauses }

pub node_new : (next before over count : ℕ) (bits : List TermBits) (selectors : List (Option Literal)) (equals : EqualRows) (s t : StepsValue) (old : LogValue) (n : Node)
    → (let l : LogValue = record { next = next; over = before; bits = bits; selectors = selectors; equals = equals; entries = s.entries; clauses = s.clauses } in l) ≡ old
    → t ≡ with_step s (step.Node n) [] → over ≡ count
    → (let l : LogValue = record { next = next; over = over; bits = bits; selectors = selectors; equals = equals; entries = t.entries; clauses = t.clauses } in l) ≡ with_plain old count (step.Node n)
unfolding view_of
node_new next before over count bits selectors equals s t old n v e c =
    ap (λ t. view_of next over bits selectors equals t) e ∙ ap (λ o. view_of next o bits selectors equals (with_step s (step.Node n) [])) c ∙ ap (λ l. with_plain l count (step.Node n)) v

pub plain_added : (v : TermsValue) (e : Entry) (c : List Literal) (hints : List ClauseId) (old new : LogValue) (over p : ℕ) → e ≡ step.Chain c hints → AreTerms v → Stands v.nodes old → IsValid v (state_of v.nodes old.entries) e → over ≡ length v.nodes → new ≡ with_plain old over (step.Chain c hints) → p ≡ suc (length old.entries) → IsPushed v.nodes old new e p
plain_added v e c hints old new over p q all h i count x at =
    let k = plain_pushed v c hints old new over all h (subst (IsValid v (state_of v.nodes old.entries)) q i) count x in
    subst (λ e. IsPushed v.nodes old new e p) (sym q) (subst (IsPushed v.nodes old new (step.Chain c hints)) (sym at) k)
