-- What a good line adds is true where the held clauses are, so a refutation is right.
use Rattle.std.proofs.Common.{◌≡◌, ℕ, zero, suc, ◌+◌, ◌-◌, ◌<◌, Bool, true, false, cond, not, List, [], ◌∷◌, ◌++◌, length, refl, sym, ap, subst, ◌∙◌, arith, Option, Some, None, Result, Ok, Err, inl, inr, ⊎_elim, eqb, leb, length-set, length-append}
use Rattle.std.specs.Prelude.{◌⊎◌, ◌||◌, slice_get, slice_set}
use Rattle.std.specs.List.{list_any}
use Rattle.std.proofs.lemmas.Bool.{or_cases, or_parts, and_parts, cases_eq, eqb-true, ne_eqb}
use Rattle.std.proofs.lemmas.List.{length-map}
use Rattle.std.proofs.lemmas.Option.{slice_get_within}
use Rattle.cnf_base.specs.Literals.{Literal, negated, code_of}
use Rattle.cnf_base.specs.Clauses.{lit_true, clause_true, all_true}
use Rattle.cnf_base.proofs.Codes.{code_of-injective}
use Rattle.cnf_base.proofs.Truth.{lit_true-negated}
use Rattle.cnf_base.proofs.Lists.{slice_get-set_same, slice_get-set_other, slice_get-append_left, slice_get-push}
use Rattle.dimacs_front.specs.Cnf.{CnfValue, IsUnsatisfiable, and_then}
use Rattle.dimacs_front.specs.Words.{begins_with, words_of}
use Rattle.dimacs_front.specs.declared.number.Number.{Number}
use Rattle.dimacs_front.specs.declared.shape.Shape.{Shape}
use Rattle.dimacs_front.specs.declared.shape.Shape.TheVariants.{AllFalse, OneOpen, Many}
use Rattle.dimacs_front.specs.declared.step.Step.{Step}
use Rattle.dimacs_front.specs.declared.step.Step.TheVariants.{Add, Delete}
use Rattle.dimacs_front.specs.declared.lrat.LratKind.{LratKind}
use Rattle.dimacs_front.specs.declared.lrat.LratFault.{LratFault}
use Rattle.dimacs_front.specs.declared.lrat.LratKind.TheVariants as fault
use Rattle.dimacs_front.specs.Lrat.{TableValue, Judging, among, joined, shape_from, opposites, by_shape, by_hint, leads, leads_from, is_good, held, is_live, without, with_clause, padded, is_empty, beginning, added, are_signed, with_added, with_step, by_words, judge_line, judge_lines, at_line, step_of, lrat_of}

-- ---- truth

not_both : (b : Bool) → b ≡ true → not b ≡ true → ⊥
not_both true p q = cc
not_both false p q = cc

-- each of these is true
abbrev pub AreTrue : (ℕ → Bool) → List Literal → Type 0
AreTrue v ls = (l : Literal) → among ls l ≡ true → lit_true v l ≡ true

among_cases : (ls : List Literal) (l k : Literal) → among (ls ++ l ∷ []) k ≡ true → (among ls k ≡ true) ⊎ (l ≡ k)
among_cases [] l k h = ⊎_elim (λ e. inr (code_of-injective l k (eqb-true _ _ e))) (λ e. let q : ⊥ = cc in absurd q) (or_cases (eqb (code_of l) (code_of k)) false h)
among_cases (m ∷ ls) l k h =
    ⊎_elim
    (λ e. inl (rw e refl))
    (λ e. ⊎_elim (λ a. inl (or_right (eqb (code_of m) (code_of k)) _ a)) (λ q. inr q) (among_cases ls l k e))
    (or_cases (eqb (code_of m) (code_of k)) (among (ls ++ l ∷ []) k) h)
  where
    or_right : (a b : Bool) → b ≡ true → (a || b) ≡ true
    or_right true b e = refl
    or_right false b e = e

true_more : (v : ℕ → Bool) (ls : List Literal) (l : Literal) → AreTrue v ls → lit_true v l ≡ true → AreTrue v (ls ++ l ∷ [])
true_more v ls l a t k h = ⊎_elim (λ old. a k old) (λ e. ap (lit_true v) (sym e) ∙ t) (among_cases ls l k h)

-- ---- shapes

-- a literal that was counted may be true
abbrev may_hold : (ℕ → Bool) → Shape → Bool
may_hold v AllFalse = false
may_hold v (OneOpen l) = lit_true v l
may_hold v Many = true

joined_holds : (v : ℕ → Bool) (s : Shape) (l : Literal) → (may_hold v s ≡ true) ⊎ (lit_true v l ≡ true) → may_hold v (joined s l) ≡ true
joined_holds v AllFalse l h = ⊎_elim (λ e. let q : ⊥ = cc in absurd q) (λ e. e) h
joined_holds v (OneOpen k) l h = chosen (eqb (code_of k) (code_of l)) refl
  where
    chosen : (q : Bool) → eqb (code_of k) (code_of l) ≡ q → may_hold v (cond q (OneOpen k) Many) ≡ true
    chosen true e = ⊎_elim (λ t. t) (λ t. ap (lit_true v) (code_of-injective k l (eqb-true _ _ e)) ∙ t) h
    chosen false e = refl
joined_holds v Many l h = refl

shape_holds : (v : ℕ → Bool) (ts : List Literal) (s : Shape) (ls : List Literal) → AreTrue v ts → (may_hold v s ≡ true) ⊎ (clause_true v ls ≡ true) → may_hold v (shape_from ts s ls) ≡ true
unfolding shape_from
shape_holds v ts s [] a h = ⊎_elim (λ e. e) (λ e. let q : ⊥ = cc in absurd q) h
shape_holds v ts s (l ∷ ls) a h = chosen (among ts (negated l)) refl (λ k. shape_holds v ts s ls a k) (λ k. shape_holds v ts (joined s l) ls a k)
  where
    chosen : (q : Bool) → among ts (negated l) ≡ q
        → ((may_hold v s ≡ true) ⊎ (clause_true v ls ≡ true) → may_hold v (shape_from ts s ls) ≡ true)
        → ((may_hold v (joined s l) ≡ true) ⊎ (clause_true v ls ≡ true) → may_hold v (shape_from ts (joined s l) ls) ≡ true)
        → may_hold v (shape_from ts (cond q s (joined s l)) ls) ≡ true
    chosen true e same more =
        same
        (⊎_elim
        (λ k. inl k)
        (λ k. ⊎_elim
        (λ t. absurd (not_both (lit_true v l) t (sym (lit_true-negated v l) ∙ a (negated l) e)))
        (λ t. inr t)
        (or_cases (lit_true v l) (clause_true v ls) k))
        h)
    chosen false e same more =
        more
        (⊎_elim
        (λ k. inl (joined_holds v s l (inl k)))
        (λ k. ⊎_elim (λ t. inl (joined_holds v s l (inr t))) (λ t. inr t) (or_cases (lit_true v l) (clause_true v ls) k))
        h)

-- ---- hints

-- what is held is true
abbrev pub HeldAreTrue : (ℕ → Bool) → TableValue → Type 0
HeldAreTrue v t = (n : ℕ) (h : List Literal) → held t n ≡ Some h → clause_true v h ≡ true

no_lead : (v : ℕ → Bool) (t : TableValue) (ts : List Literal) (ns : List Number) → HeldAreTrue v t → AreTrue v ts → leads t ts ns ≡ true → ⊥
unfolding leads
no_lead v t ts [] known a h = cc
no_lead v t ts (n ∷ ns) known a h = by_held (held t n.size) refl (λ l q. no_lead v t (ts ++ l ∷ []) ns known q) h
  where
    Rest : Type 0
    Rest = (l : Literal) → AreTrue v (ts ++ l ∷ []) → leads t (ts ++ l ∷ []) ns ≡ true → ⊥

    by_open : (c : List Literal) (s : Shape) → clause_true v c ≡ true → shape_from ts AllFalse c ≡ s → Rest → by_shape s (λ l. leads t (ts ++ l ∷ []) ns) ≡ true → ⊥
    by_open c AllFalse k e more h = let q : may_hold v AllFalse ≡ true = subst (λ r. may_hold v r ≡ true) e (shape_holds v ts AllFalse c a (inr k)) in cc
    by_open c (OneOpen l) k e more h =
        let q : may_hold v (OneOpen l) ≡ true = subst (λ r. may_hold v r ≡ true) e (shape_holds v ts AllFalse c a (inr k)) in
        more l (true_more v ts l a q) h
    by_open c Many k e more h = cc

    by_held : (o : Option (List Literal)) → held t n.size ≡ o → Rest → by_hint o ts (λ l. leads t (ts ++ l ∷ []) ns) ≡ true → ⊥
    by_held None e more h = cc
    by_held (Some c) e more h = by_open c (shape_from ts AllFalse c) (known n.size c e) refl more h

-- where a clause is false, the opposites of its literals are true
opposites_hold : (v : ℕ → Bool) (ts ls : List Literal) → AreTrue v ts → clause_true v ls ≡ false → (os : List Literal) × (opposites ts ls ≡ Some os) × AreTrue v os
unfolding opposites
opposites_hold v ts [] a f = (ts, refl, a)
opposites_hold v ts (l ∷ ls) a f =
    let p = or_parts (lit_true v l) (clause_true v ls) f in
    let n : lit_true v (negated l) ≡ true = lit_true-negated v l ∙ ap not p.0 in
    let r = opposites_hold v (ts ++ negated l ∷ []) ls (true_more v ts (negated l) a n) p.1 in
    (r.0, chosen (among ts l) refl p.0 r.0 r.1, r.2)
  where
    chosen : (q : Bool) → among ts l ≡ q → lit_true v l ≡ false → (os : List Literal) → opposites (ts ++ negated l ∷ []) ls ≡ Some os → cond q None (opposites (ts ++ negated l ∷ []) ls) ≡ Some os
    chosen true e f os r = let q : lit_true v l ≡ true = a l e in let z : ⊥ = cc in absurd z
    chosen false e f os r = r

none_true : (v : ℕ → Bool) → AreTrue v []
none_true v l h = let q : ⊥ = cc in absurd q

good_holds : (v : ℕ → Bool) (t : TableValue) (clause : List Literal) (ns : List Number) → HeldAreTrue v t → is_good t clause ns ≡ true → clause_true v clause ≡ true
good_holds v t clause ns known g = chosen (clause_true v clause) refl
  where
    chosen : (q : Bool) → clause_true v clause ≡ q → q ≡ true
    chosen true e = refl
    chosen false e =
        let r = opposites_hold v [] clause (none_true v) e in
        absurd (no_lead v t r.0 ns known r.2 (subst (λ o. leads_from t o ns ≡ true) r.1 g))

-- ---- tables

-- each number has a clause, and what is held is true
pub record IsTrueTable (v : ℕ → Bool) (t : TableValue) : Type 0 where
  pub size : length t.live ≡ length t.clauses
  pub known : HeldAreTrue v t

live_place : (live : List Bool) (place : ℕ) → is_live (slice_get live place) ≡ true → slice_get live place ≡ Some true
live_place live place h = chosen (slice_get live place) h
  where
    chosen : (o : Option Bool) → is_live o ≡ true → o ≡ Some true
    chosen None h = cc
    chosen (Some true) h = refl
    chosen (Some false) h = cc

-- a number is held where its place is live and has a clause
held_parts : (t : TableValue) (n : ℕ) (h : List Literal) → held t n ≡ Some h → (is_live (slice_get t.live (n - 1)) ≡ true) × (slice_get t.clauses (n - 1) ≡ Some h)
held_parts t n h e = chosen (is_live (slice_get t.live (n - 1))) e
  where
    chosen : (q : Bool) → cond q (slice_get t.clauses (n - 1)) None ≡ Some h → (q ≡ true) × (slice_get t.clauses (n - 1) ≡ Some h)
    chosen true e = (refl, e)
    chosen false e = cc

held_from : (t : TableValue) (n : ℕ) (h : List Literal) → is_live (slice_get t.live (n - 1)) ≡ true → slice_get t.clauses (n - 1) ≡ Some h → held t n ≡ Some h
held_from t n h l e = rw l e

one_without : (v : ℕ → Bool) (t : TableValue) (place : ℕ) → IsTrueTable v t → IsTrueTable v (record { clauses = t.clauses; live = slice_set t.live place false })
one_without v t place k = record {
  size = length-set t.live place false ∙ k.size;
  known = λ n h e.
      let p = held_parts _ n h e in
      ⊎_elim
      (λ same. absurd (dead n same p.0))
      (λ other. k.known n h (held_from t n h (sym (ap is_live (slice_get-set_other t.live place (n - 1) false other)) ∙ p.0) p.1))
      (cases_eq (n - 1) place);
}
  where
    gone : (o : Option Bool) → o ≡ Some false → is_live o ≡ true → ⊥
    gone o e h = let q : is_live (Some false) ≡ true = subst (λ r. is_live r ≡ true) e h in cc

    dead : (n : ℕ) → (n - 1) ≡ place → is_live (slice_get (slice_set t.live place false) (n - 1)) ≡ true → ⊥
    dead n same h =
        let l = live_place _ (n - 1) h in
        let w = slice_get_within (slice_set t.live place false) (n - 1) true l in
        let s = length-set t.live place false in
        let w2 : place < length t.live = omega (arith, w, s, same) in
        gone _ (ap (slice_get (slice_set t.live place false)) same ∙ slice_get-set_same t.live place false w2) h

without_true : (v : ℕ → Bool) (t : TableValue) (ns : List Number) → IsTrueTable v t → IsTrueTable v (without t ns)
unfolding without
without_true v t [] k = k
without_true v t (n ∷ ns) k = without_true v (record { clauses = t.clauses; live = slice_set t.live (n.size - 1) false }) ns (one_without v t (n.size - 1) k)

push_true : (v : ℕ → Bool) (t : TableValue) (c : List Literal) (b : Bool) → (b ≡ true → clause_true v c ≡ true) → IsTrueTable v t → IsTrueTable v (with_clause t c b)
push_true v t c b good k = record {
  size = rw (length-append, length-append, k.size) refl;
  known = λ n h e.
      let p = held_parts _ n h e in
      let l = live_place _ (n - 1) p.0 in
      let w = slice_get_within (t.live ++ b ∷ []) (n - 1) true l in
      ⊎_elim
      (λ same. last n h same l p.1)
      (λ other.
      let longer : length (t.live ++ b ∷ []) ≡ length t.live + 1 = rw length-append refl in
      let before : n - 1 < length t.live = omega (arith, w, longer, other) in
      let cb : n - 1 < length t.clauses = omega (arith, k.size) in
      k.known n h (held_from t n h (ap is_live (sym (slice_get-append_left t.live (b ∷ []) (n - 1) before)) ∙ p.0) (sym (slice_get-append_left t.clauses (c ∷ []) (n - 1) cb) ∙ p.1)))
      (cases_eq (n - 1) (length t.live));
}
  where
    last : (n : ℕ) (h : List Literal) → (n - 1) ≡ length t.live → slice_get (t.live ++ b ∷ []) (n - 1) ≡ Some true → slice_get (t.clauses ++ c ∷ []) (n - 1) ≡ Some h → clause_true v h ≡ true
    last n h same l e =
        let lb : Some b ≡ Some true = sym (ap (slice_get (t.live ++ b ∷ [])) same ∙ slice_get-push t.live b) ∙ l in
        let hc : Some c ≡ Some h = sym (ap (slice_get (t.clauses ++ c ∷ [])) (same ∙ k.size) ∙ slice_get-push t.clauses c) ∙ e in
        let bt : b ≡ true = cc in
        let ch : c ≡ h = cc in
        ap (clause_true v) (sym ch) ∙ good bt

padded_true : (v : ℕ → Bool) (n : ℕ) (t : TableValue) → IsTrueTable v t → IsTrueTable v (padded n t)
unfolding padded
padded_true v zero t k = k
padded_true v (suc n) t k = padded_true v n (with_clause t [] false) (push_true v t [] false (λ e. let q : ⊥ = cc in absurd q) k)

-- ---- texts

-- what is held is true, and there was no empty clause
pub record IsTrueSoFar (v : ℕ → Bool) (j : Judging) : Type 0 where
  pub table : IsTrueTable v j.table
  pub unrefuted : j.is_refuted ≡ false

not_empty : (v : ℕ → Bool) (c : List Literal) → clause_true v c ≡ true → is_empty c ≡ false
not_empty v [] h = cc
not_empty v (l ∷ ls) h = ne_eqb (suc (length ls)) 0 (λ (e : suc (length ls) ≡ 0). omega arith)

clause_at_true : (v : ℕ → Bool) (cs : List (List Literal)) (k : ℕ) (h : List Literal) → all_true v cs ≡ true → slice_get cs k ≡ Some h → clause_true v h ≡ true
clause_at_true v [] k h a e = cc
clause_at_true v (c ∷ cs) zero h a e = let q : c ≡ h = cc in ap (clause_true v) (sym q) ∙ (and_parts _ _ a).0
clause_at_true v (c ∷ cs) (suc k) h a e = clause_at_true v cs k h (and_parts _ _ a).1 e

none_empty : (v : ℕ → Bool) (cs : List (List Literal)) → all_true v cs ≡ true → list_any is_empty cs ≡ false
none_empty v [] a = refl
none_empty v (c ∷ cs) a = let p = and_parts _ _ a in rw (not_empty v c p.0) (none_empty v cs p.1)

beginning_true : (v : ℕ → Bool) (cnf : CnfValue) → all_true v cnf.clauses ≡ true → IsTrueSoFar v (beginning cnf)
beginning_true v cnf a = record {
  table = record { size = length-map cnf.clauses _; known = λ n h e. clause_at_true v cnf.clauses (n - 1) h a (held_parts _ n h e).1 };
  unrefuted = none_empty v cnf.clauses a;
}

-- a judgement that is Ok leaves what is held true
abbrev Keeps : (ℕ → Bool) → Result Judging LratKind → Type 0
Keeps v r = (j : Judging) → r ≡ Ok j → IsTrueSoFar v j

added_keeps : (v : ℕ → Bool) (j : Judging) (n : ℕ) (c : List Literal) (ns : List Number) → IsTrueSoFar v j → Keeps v (with_added j n c ns)
added_keeps v j n c ns k = by_order (leb n (length j.table.clauses))
  where
    by_good : (q : Bool) → is_good j.table c ns ≡ q → Keeps v (cond q (Ok (added j n c)) (Err fault.Chain))
    by_good true g m e =
        let t = good_holds v j.table c ns k.table.known g in
        let q : added j n c ≡ m = cc in
        subst (IsTrueSoFar v) q (record { table = push_true v _ c true (λ _. t) (padded_true v _ j.table k.table); unrefuted = rw (k.unrefuted, not_empty v c t) refl })
    by_good false g m e = cc

    by_sign : (q : Bool) → Keeps v (cond q (Err fault.Rat) (cond (is_good j.table c ns) (Ok (added j n c)) (Err fault.Chain)))
    by_sign true m e = cc
    by_sign false m e = by_good (is_good j.table c ns) refl m e

    by_order : (q : Bool) → Keeps v (cond q (Err fault.Order) (cond (are_signed ns) (Err fault.Rat) (cond (is_good j.table c ns) (Ok (added j n c)) (Err fault.Chain))))
    by_order true m e = cc
    by_order false m e = by_sign (are_signed ns) m e

step_keeps : (v : ℕ → Bool) (j : Judging) (o : Option Step) → IsTrueSoFar v j → Keeps v (with_step j o)
step_keeps v j None k m e = cc
step_keeps v j (Some (Delete ns)) k m e =
    let q : record { table = without j.table ns; is_refuted = j.is_refuted } ≡ m = cc in
    subst (IsTrueSoFar v) q (record { table = without_true v j.table ns k.table; unrefuted = k.unrefuted })
step_keeps v j (Some (Add n c ns)) k m e = added_keeps v j n c ns k m e

words_keep : (v : ℕ → Bool) (variables : ℕ) (j : Judging) (ws : List (List ℕ)) → IsTrueSoFar v j → Keeps v (by_words variables j ws)
words_keep v variables j [] k m e = let q : j ≡ m = cc in subst (IsTrueSoFar v) q k
words_keep v variables j (w ∷ ws) k m e = step_keeps v j (step_of variables (w ∷ ws)) k m e

line_keeps : (v : ℕ → Bool) (variables : ℕ) (j : Judging) (line : List ℕ) → IsTrueSoFar v j → Keeps v (judge_line variables j line)
line_keeps v variables j line k = chosen (begins_with 99 line)
  where
    chosen : (q : Bool) → Keeps v (cond q (Ok j) (by_words variables j (words_of line)))
    chosen true m e = let q : j ≡ m = cc in subst (IsTrueSoFar v) q k
    chosen false m e = words_keep v variables j (words_of line) k m e

no_refutation : (v : ℕ → Bool) (variables n : ℕ) (j : Judging) (ls : List (List ℕ)) → IsTrueSoFar v j → judge_lines variables n j ls ≡ Ok tt → ⊥
unfolding judge_lines
no_refutation v variables n j [] k e = ended j.is_refuted k.unrefuted e
  where
    ended : (q : Bool) → q ≡ false → cond {A = Result Unit LratFault} q (Ok tt) (Err (record { line = n + 1; kind = fault.Empty })) ≡ Ok tt → ⊥
    ended true f e = cc
    ended false f e = cc
no_refutation v variables n j (l ∷ ls) k e = next (judge_line variables j l) refl (λ m q. no_refutation v variables (n + 1) m ls q) e
  where
    next : (r : Result Judging LratKind) → judge_line variables j l ≡ r
        → ((m : Judging) → IsTrueSoFar v m → judge_lines variables (n + 1) m ls ≡ Ok tt → ⊥)
        → and_then (at_line (n + 1) r) (λ more. judge_lines variables (n + 1) more ls) ≡ Ok tt → ⊥
    next (Ok m) q more e = more m (line_keeps v variables j l k m q) e
    next (Err f) q more e = cc

pub refutation_is_right : (cnf : CnfValue) (text : List ℕ) → lrat_of cnf text ≡ Ok tt → IsUnsatisfiable cnf
refutation_is_right cnf text e v a = no_refutation v cnf.variables 0 (beginning cnf) _ (beginning_true v cnf a) e
