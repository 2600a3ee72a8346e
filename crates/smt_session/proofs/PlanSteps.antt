-- A log that takes the steps of a plan.
use Rattle.std.proofs.Common.{◌≡◌, ℕ, zero, suc, ◌+◌, ◌<◌, ◌≤◌, Bool, true, false, List, [], ◌∷◌, ◌++◌, length, length-append, get_or, take, Option, Some, None, Ok, refl, sym, ap, ◌∙◌, subst, append_assoc, arith}
use Rattle.std.specs.Prelude.{◌⊎◌, is_some, All, Contains, IsSome, drop, slice_get}
use Rattle.std.specs.List.{AllByRecursion}
use Rattle.std.proofs.lemmas.Bool.{eqb-true}
use Rattle.std.proofs.lemmas.List.{take_all, take_more, take-append-drop}
use Rattle.std.proofs.lemmas.Option.{slice_get-get_or}
use Rattle.std.proofs.lemmas.List.Elements.{All-contains, All-from_recursion, Contains-append_left, Contains-append_right}
use Rattle.cnf_base.proofs.Lists.{each_append}
use Rattle.cnf_base.proofs.Options.{some_value, IsSome-from}
use Rattle.smt_terms.specs.declared.node.Node.{Node}
use Rattle.smt_terms.specs.Bits.{TermBits, bits_in, image_in}
use Rattle.smt_terms.specs.Nodes.{node_at}
use Rattle.smt_terms.specs.Ranks.{is_plain}
use Rattle.smt_terms.specs.Terms.{TermsValue, sort_of}
use Rattle.smt_terms.proofs.Growing.{sort_longer}
use Rattle.smt_build.specs.Names.{IsDeclared}
use Rattle.script_state.specs.States.{StateValue, RestValue, with_terms, Fit}
use Rattle.script_state.proofs.Keeping.{fit_more}
use Rattle.bv_rules.proofs.Keeping.{matched}
use Rattle.bv_rules.proofs.Known.{or_cases}
use Rattle.bv_rewrite.specs.declared.simplifying.Use.{Use}
use Rattle.bv_rewrite.specs.Simplifying.{IsNeeded}
use Rattle.reached_images.specs.declared.plan.Planned.{Planned}
use Rattle.reached_images.specs.Plans.{is_for, planned_in, uses_of, AreNext, IsKnown, IsPlan}
use Rattle.reached_images.specs.Settled.{AreOwn, KeepsItself}
use Rattle.proof_log.specs.declared.entry.RuleUse.{RuleUse}
use Rattle.proof_log.specs.declared.entry.Entry.{Entry}
use Rattle.proof_log.specs.declared.entry.Entry.TheVariants as step
use Rattle.proof_log.specs.Faults.{IsValid, terms_after, Answers}
use Rattle.proof_log.specs.Logs.{LogState, start, state_of, IsLog, IsStep}
use Rattle.proof_log.specs.Places.{IsForTerm}
use Rattle.proof_log.specs.Stored.{LogValue, Stands}
use Rattle.proof_log.proofs.Standing.{stands_longer, stands_over}
use Rattle.proof_log.proofs.Staying.{log_stays, state_from-append}
use Rattle.accepted_proof.specs.Turns.{IsOfScript, with_step}
use Rattle.accepted_proof.proofs.Good.{step_grows, step_list}
use Rattle.smt_session.specs.Growing.{GivesNoBits, HasBits, LeadsTo}
use Rattle.smt_session.specs.Planning.{grown_by, AddsTerms, AreTaken, AreTakenOver, Encodes, IsForPlanned, IsPlanned, IsTaken}
use Rattle.smt_session.specs.Thorough.{AreSimplified, IsSeenAs, IsUsed}
use Rattle.smt_session.proofs.Leading.{behind_of, leads_more, leads_none, leads_one, limit_led}
use Rattle.smt_session.proofs.Reasons.{keeps_planned, leaves_bits, plan_take, reason_at, seen_array, seen_same, seen_step, simplified_append, simplified_bare}

-- ---- bits

-- a term keeps its bits
pub led_bits : (s s' : StateValue) (old new : LogValue) (t : ℕ) → Stands s.terms.nodes old → LeadsTo s old s' new → HasBits old t → HasBits new t
led_bits s s' old new t stands l has =
    let more = behind_of s s' old new l in
    let nodes = s'.terms.nodes in
    let before : Stands s'.terms.nodes old = subst (λ ns. Stands ns old) (sym more.1) (stands_longer s.terms.nodes more.0 old stands) in
    let a = stands_over s'.terms.nodes old before in
    let b = stands_over s'.terms.nodes new l.stands in
    let r = some_value (bits_in old.bits t) has in
    let stays = log_stays s'.terms.nodes old.entries l.added (subst (IsLog s'.terms.nodes) l.entries b.steps) in
    IsSome-from (bits_in new.bits t) r.0
    (b.bits t ∙ ap (λ es. (state_of nodes es).bits t) l.entries ∙ stays.bits t r.0 (sym (a.bits t) ∙ r.1))

-- ---- taking

-- steps that were taken before others
taken_earlier : (over : List Node) (t u : StateValue) (b c : LogValue) (added : List Entry) (l : LeadsTo t b u c) → Stands t.terms.nodes b → (ps : List Planned) → AllByRecursion (IsTaken over b added) ps → AllByRecursion (IsTaken over c (added ++ l.added)) ps
taken_earlier over t u b c added l h [] k = tt
taken_earlier over t u b c added l h (x ∷ ps) k = (
  record {
    bits = λ plain. led_bits t u b c x.term h l (k.0.bits plain);
    used = λ y e. (let w = k.0.used y e in (w.0, Contains-append_left added l.added (step.Rewrite w.0) w.1, w.2));
  },
  taken_earlier over t u b c added l h ps k.1,
)

taken_later : (over : List Node) (c : LogValue) (added more : List Entry) (ps : List Planned) → AllByRecursion (IsTaken over c more) ps → AllByRecursion (IsTaken over c (added ++ more)) ps
taken_later over c added more [] k = tt
taken_later over c added more (x ∷ ps) k = (
  record {
    bits = k.0.bits;
    used = λ y e. (let w = k.0.used y e in (w.0, Contains-append_right added more (step.Rewrite w.0) w.1, w.2));
  },
  taken_later over c added more ps k.1,
)

abbrev taken_more : (over : List Node) (s t u : StateValue) (a b c : LogValue) (p q : List Planned) → AreTaken over s a t b p → AreTaken over t b u c q → AreTaken over s a u c (p ++ q)
taken_more over s t u a b c p q g h = record {
  leads = leads_more s t u a b c g.leads h.leads;
  each = each_append (IsTaken over c (g.leads.added ++ h.leads.added)) p q (taken_earlier over t u b c g.leads.added h.leads g.leads.stands p g.each) (taken_later over c g.leads.added h.leads.added q h.each);
}

-- terms more behind these steps
abbrev taken_on : (over : List Node) (s t u : StateValue) (a b c : LogValue) (p : List Planned) → AreTaken over s a t b p → LeadsTo t b u c → AreTaken over s a u c p
taken_on over s t u a b c p g h = record { leads = leads_more s t u a b c g.leads h; each = taken_earlier over t u b c g.leads.added h g.leads.stands p g.each }

module _ (v : TermsValue) (bits : List TermBits) where
  pub over_none : (s : StateValue) (l : LogValue) → Stands s.terms.nodes l → IsSeenAs v.nodes bits [] (bits_in l.bits) (image_in l.bits) → AreTakenOver v bits [] s l s l []
  over_none s l h seen = record { taken = record { leads = leads_none s l h; each = tt }; simple = tt; seen = seen }

  over_more : (s t u : StateValue) (a b c : LogValue) (x p q : List Planned) → AreTakenOver v bits x s a t b p → AreTakenOver v bits (x ++ p) t b u c q → AreTakenOver v bits x s a u c (p ++ q)
  over_more s t u a b c x p q g h = record {
    taken = taken_more v.nodes s t u a b c p q g.taken h.taken;
    simple = simplified_append v a.entries g.taken.leads.added h.taken.leads.added g.simple (subst (λ l. AreSimplified v l h.taken.leads.added) g.taken.leads.entries h.simple);
    seen = subst (λ l. IsSeenAs v.nodes bits l (bits_in c.bits) (image_in c.bits)) (append_assoc x p q) h.seen;
  }

  pub over_adds : (s t u : StateValue) (a b c : LogValue) (x p : List Planned) → AreTakenOver v bits x s a t b p → AddsTerms t b u c → AreTakenOver v bits x s a u c p
  over_adds s t u a b c x p g d = record {
    taken = taken_on v.nodes s t u a b c p g.taken d.leads;
    simple = simplified_append v a.entries g.taken.leads.added d.leads.added g.simple (simplified_bare v (a.entries ++ g.taken.leads.added) d.leads.added d.bare);
    seen = seen_same v.nodes bits (x ++ p) b c d.bits d.images g.seen;
  }

  -- one of these steps more
  pub over_next : (s t u : StateValue) (a b c e : LogValue) (steps : List Planned) (k : ℕ) (d p : Planned) (rest : List Node) → AreTakenOver v bits [] s a t b (take k steps) → AddsTerms t b u c → v.nodes ≡ u.terms.nodes ++ rest → IsPlan v.nodes bits steps → AreOwn v bits steps → k < length steps → p ≡ get_or steps k d
      → ((w : TermsValue) (held : List TermBits) (before : List Planned) (rest : List Node) → w.nodes ≡ u.terms.nodes ++ rest → IsPlan w.nodes held before → IsSeenAs w.nodes held before (bits_in c.bits) (image_in c.bits) → (p.used ≡ None → KeepsItself w held before p.term) → AreTakenOver w held before u c u e (p ∷ []))
      → AreTakenOver v bits [] s a u e (take (k + 1) steps)
  over_next s t u a b c e steps k d p rest g l nodes plan own lt is one =
      let mid = over_adds s t u a b c [] (take k steps) g l in
      let at : slice_get steps k ≡ Some p = slice_get-get_or steps k d lt ∙ ap Some (sym is) in
      subst (AreTakenOver v bits [] s a u e) (ap (λ x. take k steps ++ x ∷ []) is ∙ sym (take_more steps k d lt))
      (over_more s u u a c e [] (take k steps) (p ∷ []) mid (one v bits (take k steps) rest nodes (plan_take v.nodes bits k steps plan) mid.seen (own k p at)))

  -- all of these steps
  pub over_all : (s t : StateValue) (a b : LogValue) (steps : List Planned) (k : ℕ) → length steps ≤ k → AreTakenOver v bits [] s a t b (take k steps) → AreTakenOver v bits [] s a t b steps
  over_all s t a b steps k le h = subst (AreTakenOver v bits [] s a t b) (take_all k steps le) h

-- so many of the terms of a plan are made
pub made_parts : (base made now : List Node) (k : ℕ) → now ≡ base ++ take k made → base ++ made ≡ now ++ drop k made
made_parts base made now k e =
    ap (λ l. base ++ l) (sym (take-append-drop k made))
    ∙ sym (append_assoc base (take k made) (drop k made))
    ∙ ap (λ l. l ++ drop k made) (sym e)

-- ---- a term more

pub node_fits : (t w : TermsValue) (r : RestValue) (old new : LogValue) (n : Node) (p : ℕ) → Fit t r → IsDeclared r.symbols.signatures n.op → Answers t w (step.Node n) old new (Ok p) → Fit w r
node_fits t w r old new n p fit of h =
    subst (λ x. Fit x r) (sym h.1)
    (fit_more t (terms_after t (step.Node n)) r (step_grows (with_terms r t) old.entries (step.Node n) h.0 of) (step_list (with_terms r t) old.entries (step.Node n) fit.state h.0) fit)

same_bits : (nodes : List Node) (old new : LogValue) (n : Node) → Stands nodes old → Stands nodes new → new.entries ≡ old.entries ++ step.Node n ∷ [] → (t : ℕ) → (bits_in new.bits t ≡ bits_in old.bits t) × (image_in new.bits t ≡ image_in old.bits t)
same_bits nodes old new n a b entries t =
    let there = ap (state_of nodes) entries ∙ state_from-append nodes start old.entries (step.Node n ∷ []) in
    let k = stands_over nodes old a in
    let l = stands_over nodes new b in
    (l.bits t ∙ ap (λ r. r.bits t) there ∙ sym (k.bits t), l.images t ∙ ap (λ r. r.images t) there ∙ sym (k.images t))

pub node_adds : (s s' : StateValue) (t w : TermsValue) (r : RestValue) (old new : LogValue) (n : Node) (p : ℕ) → s ≡ with_terms r t → s' ≡ with_terms r w → IsDeclared r.symbols.signatures n.op → Stands t.nodes old → Answers t w (step.Node n) old new (Ok p) → AddsTerms s old s' new
node_adds s s' t w r old new n p before behind of stands h =
    let more : w.nodes ≡ t.nodes ++ n ∷ [] = ap (λ (x : TermsValue). x.nodes) h.1 in
    let same = same_bits w.nodes old new n (subst (λ ns. Stands ns old) (sym more) (stands_longer t.nodes (n ∷ []) old stands)) h.2.stands h.2.entries in
    subst (λ x. AddsTerms x old s' new) (sym before)
    (subst (λ x. AddsTerms (with_terms r t) old x new) (sym behind)
    (record {
      leads = leads_one (with_terms r t) (with_terms r w) old new (step.Node n) h.0 of (ap (with_terms r) h.1) h.2.entries h.2.stands;
      bare = ((λ x e. let f : ⊥ = cc in f), tt);
      bits = λ x. (same x).0;
      images = λ x. (same x).1;
    }))

pub adds_none : (s : StateValue) (l : LogValue) → Stands s.terms.nodes l → AddsTerms s l s l
adds_none s l h = record { leads = leads_none s l h; bare = tt; bits = λ t. refl; images = λ t. refl }

pub adds_more : (s t u : StateValue) (a b c : LogValue) → AddsTerms s a t b → AddsTerms t b u c → AddsTerms s a u c
adds_more s t u a b c g h = record {
  leads = leads_more s t u a b c g.leads h.leads;
  bare = each_append GivesNoBits g.leads.added h.leads.added g.bare h.bare;
  bits = λ x. h.bits x ∙ g.bits x;
  images = λ x. h.images x ∙ g.images x;
}

pub node_made : (s s' : StateValue) (t w : TermsValue) (r : RestValue) (old new : LogValue) (n : Node) (p : ℕ) → s ≡ with_terms r t → s' ≡ with_terms r w → Answers t w (step.Node n) old new (Ok p) → s'.terms.nodes ≡ s.terms.nodes ++ n ∷ []
node_made s s' t w r old new n p before behind h =
    ap (λ (x : StateValue). x.terms.nodes) behind ∙ ap (λ (x : TermsValue). x.nodes) h.1 ∙ ap (λ (x : StateValue). x.terms.nodes ++ n ∷ []) (sym before)

-- one of these terms more
pub nodes_more : (base made mid new : List Node) (k : ℕ) (d n : Node) → mid ≡ base ++ take k made → k < length made → n ≡ get_or made k d → new ≡ mid ++ n ∷ [] → new ≡ base ++ take (k + 1) made
nodes_more base made mid new k d n h lt own e =
    e ∙ ap (λ l. l ++ n ∷ []) h ∙ append_assoc base (take k made) (n ∷ []) ∙ ap (λ x. base ++ (take k made ++ x ∷ [])) own ∙ ap (λ l. base ++ l) (sym (take_more made k d lt))

-- ---- a step of a plan

bits_step : (v : TermsValue) (s : LogState) (t : ℕ) (e : Entry) → IsForTerm t e → IsValid v s e → IsStep v.nodes s e
bits_step v s t (step.Node n) h i = let f : ⊥ = cc in absurd f
bits_step v s t e h i = i

bits_script : (s : StateValue) (t : ℕ) (e : Entry) → IsForTerm t e → IsOfScript s e
bits_script s t (step.Node n) h = let f : ⊥ = cc in absurd f
bits_script s t (step.Selector a x) h = let f : ⊥ = cc in absurd f
bits_script s t e h = tt

bits_state : (s : StateValue) (t : ℕ) (e : Entry) → IsForTerm t e → s ≡ with_step s e
bits_state s t (step.Node n) h = let f : ⊥ = cc in absurd f
bits_state s t e h = refl

abbrev step_taken : (s : StateValue) (v : TermsValue) (old new : LogValue) (p : Planned) (e : Entry) (at : ℕ) → v ≡ s.terms → IsForPlanned p e → Answers v v e old new (Ok at) → (over : List Node) → AreTaken over s old s new (p ∷ [])
step_taken s v old new p e at same i h over =
    let valid : IsValid s.terms (state_of s.terms.nodes old.entries) e = subst (λ (x : TermsValue). IsValid x (state_of x.nodes old.entries) e) same h.0 in
    let stands : Stands s.terms.nodes new = subst (λ (x : TermsValue). Stands x.nodes new) same h.2.stands in
    record {
      leads = leads_one s s old new e valid (bits_script s p.term e i.term) (bits_state s p.term e i.term) h.2.entries stands;
      each = (
        record {
          bits = λ plain. leaves_bits s.terms.nodes old new p.term e stands h.2.entries (bits_step s.terms (state_of s.terms.nodes old.entries) p.term e i.term valid) i.term;
          used = λ u is. (let w = i.used u is in (w.0, (0, omega arith, w.1), w.2));
        },
        tt,
      );
    }

-- a term that gets bits is a Bool or a word, where one that gets bits of its own is
plain_planned : (nodes : List Node) (s : LogState) (p : Planned) (e : Entry) → IsForPlanned p e → IsStep nodes s e → (p.used ≡ None → is_plain (sort_of nodes p.term) ≡ true) → is_plain (sort_of nodes p.term) ≡ true
plain_planned nodes s p e i valid own = go p.used refl where
  ruled : (r : RuleUse) → IsForTerm p.term (step.Rewrite r) → IsStep nodes s (step.Rewrite r) → is_plain (sort_of nodes p.term) ≡ true
  ruled r f is =
      let same : r.from ≡ p.term = cc in
      subst (λ t. is_plain (sort_of nodes t) ≡ true) same (matched nodes s.images is.ruled.rule r.from r.to is.ruled.takes).plain

  go : (o : Option Use) → p.used ≡ o → is_plain (sort_of nodes p.term) ≡ true
  go None q = own q
  go (Some u) q = let w = i.used u q in ruled w.0 (subst (IsForTerm p.term) w.1 i.term) (subst (IsStep nodes s) w.1 valid)

-- what is a Bool or a word, or no such term, is so among more terms
pub sorted_over : (nodes over rest : List Node) (t : ℕ) (b : Bool) → over ≡ nodes ++ rest → t < length nodes → is_plain (sort_of nodes t) ≡ b → is_plain (sort_of over t) ≡ b
sorted_over nodes over rest t b e lt h = ap (λ (ns : List Node). is_plain (sort_of ns t)) e ∙ ap is_plain (sort_longer nodes rest t lt) ∙ h

-- a step for an array is none of the log
pub array_over : (s : StateValue) (x : TermsValue) (log : LogValue) (p : Planned) → x ≡ s.terms → Stands s.terms.nodes log → p.term < length s.terms.nodes → (p.used ≡ None) × (is_plain (sort_of x.nodes p.term) ≡ false)
    → (v : TermsValue) (bits : List TermBits) (before : List Planned) (rest : List Node) → v.nodes ≡ s.terms.nodes ++ rest → IsPlan v.nodes bits before → IsSeenAs v.nodes bits before (bits_in log.bits) (image_in log.bits) → (p.used ≡ None → KeepsItself v bits before p.term) → AreTakenOver v bits before s log s log (p ∷ [])
array_over s x log p same stands held own v bits before rest nodes plan seen keeps =
    let array : is_plain (sort_of v.nodes p.term) ≡ false = sorted_over s.terms.nodes v.nodes rest p.term false nodes held (subst (λ (y : TermsValue). is_plain (sort_of y.nodes p.term) ≡ false) same own.1) in
    record {
      taken = record {
        leads = leads_none s log stands;
        each = (
          record {
            bits = λ plain. (let q : true ≡ false = sym plain ∙ array in let f : ⊥ = cc in absurd f);
            used = λ u e. (let q : None ≡ Some u = sym own.0 ∙ e in let f : ⊥ = cc in absurd f);
          },
          tt,
        );
      };
      simple = tt;
      seen = seen_array v.nodes bits before p log own.0 array seen;
    }

-- behind others of a plan
pub step_over : (s : StateValue) (x : TermsValue) (old new : LogValue) (p : Planned) (e : Entry) (at : ℕ) → x ≡ s.terms → Stands s.terms.nodes old → p.term < length s.terms.nodes → IsForPlanned p e → (p.used ≡ None → is_plain (sort_of x.nodes p.term) ≡ true) → Answers x x e old new (Ok at)
    → (v : TermsValue) (bits : List TermBits) (before : List Planned) (rest : List Node) → v.nodes ≡ s.terms.nodes ++ rest → IsPlan v.nodes bits before → IsSeenAs v.nodes bits before (bits_in old.bits) (image_in old.bits) → (p.used ≡ None → KeepsItself v bits before p.term) → AreTakenOver v bits before s old s new (p ∷ [])
step_over s x old new p e at same stands held i sorted h v bits before rest nodes plan seen own =
    let valid : IsValid s.terms (state_of s.terms.nodes old.entries) e = subst (λ (y : TermsValue). IsValid y (state_of y.nodes old.entries) e) same h.0 in
    let behind : Stands s.terms.nodes new = subst (λ (y : TermsValue). Stands y.nodes new) same h.2.stands in
    let over : Stands v.nodes old = subst (λ ns. Stands ns old) (sym nodes) (stands_longer s.terms.nodes rest old stands) in
    let is = bits_step s.terms (state_of s.terms.nodes old.entries) p.term e i.term valid in
    let plain : is_plain (sort_of s.terms.nodes p.term) ≡ true =
    plain_planned s.terms.nodes (state_of s.terms.nodes old.entries) p e i is (subst (λ (y : TermsValue). p.used ≡ None → is_plain (sort_of y.nodes p.term) ≡ true) same sorted) in
    record {
      taken = step_taken s x old new p e at same i h v.nodes;
      simple = (keeps_planned v old.entries p e i (λ none. reason_at v old bits before p.term over plan seen (own none)), tt);
      seen = seen_step v.nodes s.terms.nodes old new bits before p e stands behind h.2.entries is i (sorted_over s.terms.nodes v.nodes rest p.term true nodes held plain) seen;
    }

-- ---- plans

held_from : (nodes : List Node) (bits : List TermBits) (before steps : List Planned) → AreNext nodes bits before steps → AllByRecursion (λ (p : Planned). p.term < length nodes) steps
held_from nodes bits before [] h = tt
held_from nodes bits before (p ∷ ps) h = (h.0.held, held_from nodes bits (before ++ p ∷ []) ps h.1)

-- the terms of a plan's steps are held
pub plan_held : (v : TermsValue) (made : List Node) (log : LogValue) (roots : List ℕ) (steps : List Planned) → IsPlanned v log made roots steps → All (λ (p : Planned). p.term < length v.nodes + length made) steps
plan_held v made log roots steps h =
    subst (λ n. All (λ (p : Planned). p.term < n) steps) (length-append v.nodes made)
    (All-from_recursion (λ (p : Planned). p.term < length (v.nodes ++ made)) steps (held_from (v.nodes ++ made) log.bits [] steps h.plan))

-- a use of the plan is that of a step
use_among : (steps : List Planned) (u : Use) → Contains (uses_of steps) u → (p : Planned) × Contains steps p × (p.used ≡ Some u)
use_among [] u c = absurd (omega (arith, c.1))
use_among (p ∷ ps) u c =
    go p.used refl (λ k. (let r = use_among ps u k in (r.0, (suc r.1.0, omega (arith, r.1.1), r.1.2), r.2))) c
  where
    -- a use of one step more
    one : (x : Use) (xs : List Use) → p.used ≡ Some x → (Contains xs u → (q : Planned) × Contains (p ∷ ps) q × (q.used ≡ Some u)) → Contains (x ∷ xs) u → (q : Planned) × Contains (p ∷ ps) q × (q.used ≡ Some u)
    one x xs e rest (zero, lt, same) = (p, (0, omega arith, refl), e ∙ ap Some same)
    one x xs e rest (suc j, lt, same) = rest (j, omega (arith, lt), same)

    go : (o : Option Use) → p.used ≡ o → (Contains (uses_of ps) u → (q : Planned) × Contains (p ∷ ps) q × (q.used ≡ Some u)) → Contains (uses_of (p ∷ ps)) u → (q : Planned) × Contains (p ∷ ps) q × (q.used ≡ Some u)
    go None e rest k = rest (rw e at k)
    go (Some x) e rest k = one x (uses_of ps) e rest (rw e at k)

-- a step of the plan for a term is among the steps
step_among : (steps : List Planned) (t : ℕ) → IsSome (planned_in steps t) → (p : Planned) × Contains steps p × (p.term ≡ t)
step_among [] t h = let f : ⊥ = cc in absurd f
step_among (p ∷ ps) t h =
    go (is_for t p) refl (λ k. (let r = step_among ps t k in (r.0, (suc r.1.0, omega (arith, r.1.1), r.1.2), r.2))) h
  where
    go : (b : Bool) → is_for t p ≡ b → (IsSome (planned_in ps t) → (q : Planned) × Contains (p ∷ ps) q × (q.term ≡ t)) → IsSome (planned_in (p ∷ ps) t) → (q : Planned) × Contains (p ∷ ps) q × (q.term ≡ t)
    go true e rest k = (p, (0, omega arith, refl), eqb-true p.term t e)
    go false e rest k = rest (rw e at k)

module _ (s s' : StateValue) (old new : LogValue) (made : List Node) (roots : List ℕ) (steps : List Planned) (stands : Stands s.terms.nodes old) (planned : IsPlanned s.terms old made roots steps) (over : AreTakenOver (grown_by s.terms made) old.bits [] s old s' new steps) (nodes : s'.terms.nodes ≡ s.terms.nodes ++ made) where
  abbrev taken : AreTaken (s.terms.nodes ++ made) s old s' new steps
  taken = over.taken

  taken_of : (p : Planned) → Contains steps p → IsTaken (s.terms.nodes ++ made) new taken.leads.added p
  taken_of p c = All-contains (IsTaken (s.terms.nodes ++ made) new taken.leads.added) steps p (All-from_recursion (IsTaken (s.terms.nodes ++ made) new taken.leads.added) steps taken.each) c

  pub encoded : Encodes s old s' new
  encoded = record {
    leads = taken.leads;
    used = λ t le lt. used_by t (planned.needed t le (subst (λ (ns : List Node). t < length ns) nodes lt));
    simple = subst (λ v. AreSimplified v old.entries taken.leads.added) same_terms over.simple;
  }
    where
      same_terms : grown_by s.terms made ≡ s'.terms
      same_terms =
          let limit : s'.terms.limit ≡ s.terms.limit = ap (λ (x : StateValue). x.terms.limit) taken.leads.state ∙ limit_led s taken.leads.added in
          (λ i. record { nodes = sym nodes i; limit = sym limit i })

      used_by : (t : ℕ) → IsNeeded (s.terms.nodes ++ made) (uses_of steps) t → IsUsed s'.terms.nodes taken.leads.added t
      used_by t n =
          let p = use_among steps n.by n.among in
          let w = (taken_of p.0 p.1).used n.by p.2 in
          subst (λ ns. IsUsed ns taken.leads.added t) (sym nodes)
          (record { by = w.0; among = w.1; is = subst (λ u. (u ≡ t) ⊎ Contains (node_at (s.terms.nodes ++ made) u).args t) (sym w.2) n.is })

  root_bits : (t : ℕ) → is_plain (sort_of (s.terms.nodes ++ made) t) ≡ true → IsKnown old.bits steps t → HasBits new t
  root_bits t plain known =
      or_cases (is_some (bits_in old.bits t)) (is_some (planned_in steps t)) known
      (λ has. led_bits s s' old new t stands taken.leads has)
      (λ has. (let p = step_among steps t has in subst (HasBits new) p.2 ((taken_of p.0 p.1).bits (subst (λ u. is_plain (sort_of (s.terms.nodes ++ made) u) ≡ true) (sym p.2) plain))))

  pub roots_taken : All (λ t. t < length s.terms.nodes) roots → All (λ t. is_plain (sort_of s.terms.nodes t) ≡ true) roots → All (HasBits new) roots
  roots_taken held plain k d lt =
      root_bits (get_or roots k d) (sorted_over s.terms.nodes (s.terms.nodes ++ made) made (get_or roots k d) true refl (held k d lt) (plain k d lt)) (planned.known k d lt)
