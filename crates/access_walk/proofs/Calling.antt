-- Applications as they are found, their keys as they are put one behind another, and neighbours of sorted calls.
use Rattle.std.proofs.Common.{◌≡◌, ℕ, zero, suc, ◌+◌, ◌-◌, ◌<◌, ◌≤◌, Bool, true, false, not, ◌&&◌, List, [], ◌∷◌, ◌++◌, length, take, drop, Option, Some, None, refl, sym, ap, ◌∙◌, subst, inl, inr, ⊎_elim, arith, Ordering, Less, Equal, Greater, nat_cmp, is_lt, is_eq}
use Rattle.std.specs.Prelude.{◌⊎◌, ◌==◌, slice_get, slice_index_or, Contains, MatchOption, option_to_list, IsPermutation}
use Rattle.std.specs.Cmp.{IsStrictWeakOrder}
use Rattle.std.specs.Fn.{Called, ComparesAs}
use denote.Param.Members.{Mut}
use denote.Ref.{Bor}
use Rattle.std.specs.Ordering.{ordering_reverse}
use Rattle.std.proofs.lemmas.Fn.{always_returns_same}
use Rattle.std.specs.Cmp.Lexicographic.{slice_cmp}
use Rattle.std.specs.List.Sorted.{IsSortedBy}
use Rattle.std.proofs.lemmas.Bool.{cases_lt, and_parts, eqb-true, eq-eqb}
use Rattle.std.proofs.lemmas.Cmp.{nat_list_cmp_total}
use Rattle.std.proofs.lemmas.List.{drop-append-le, take-append-le, length-append, length-drop}
use Rattle.std.proofs.lemmas.List.Sorted.{sorted_far, ranks_by, Contains-permutation, IsPermutation-sym}
use Rattle.std.proofs.lemmas.Map.Lookups.{exact_bytes}
use Rattle.std.proofs.Math.Seq.{drop-append_seam, take-length}
use Rattle.smt_terms.specs.declared.node.Node.{Node}
use Rattle.smt_terms.specs.Bits.{TermBits, image_in}
use Rattle.smt_terms.specs.Terms.{IsTermList, HaveOneSignature}
use Rattle.smt_terms.specs.Values.{Value}
use Rattle.theory_terms.specs.declared.shape.Shape.TheVariants.{Applying}
use Rattle.theory_terms.specs.declared.lemma.Lemma.{Lemma}
use Rattle.theory_terms.specs.declared.lemma.Lemma.TheVariants.{Congruence}
use Rattle.theory_terms.specs.Shapes.{shape_at}
use Rattle.access_tables.specs.Held.{assigned_value}
use Rattle.access_walk.specs.declared.congruence.Application.{Application}
use Rattle.access_walk.specs.declared.congruence.Call.{Call}
use Rattle.access_walk.specs.Congruent.{IsScalarTerm, IsApplied, IsNoApplication, AreApplications, code_of, key_of, AreAlike, IsCongruenceConflict, HasConflict, AreCongruenceConflicts}
use Rattle.access_walk.specs.Called.{key_in, call_cmp, IsCallOf, AreCalls, IsWhole, IsBroken}
use Rattle.access_walk.proofs.Lists.{append_nil, place_of, at_place, within, same_at, some_at, read, not_nil, old_member, new_member, member_cases}
use Rattle.access_walk.proofs.Applied.{alike, conflict, equal, one_key}

-- ---- applications

module _ (nodes : List Node) (bits : List TermBits) (Here : ℕ → Type 0) where
  -- those of the terms before a place
  pub record AreApplicationsTo (terms : List ℕ) (count : ℕ) (found : List Application) : Type 0 where
    pub each : (a : Application) → Contains found a → IsApplied nodes bits Here a
    pub all : (k t d : ℕ) → k < count → slice_get terms k ≡ Some t → image_in bits t ≡ None → shape_at nodes t ≡ Applying d → Contains found (record { term = t; declaration = d })

  pub applications_none : (terms : List ℕ) → AreApplicationsTo terms 0 []
  applications_none terms = record { each = λ a c. absurd (not_nil a c); all = λ k t d lt. absurd (omega (arith, lt)) }

  applications_kept : (terms : List ℕ) (count t : ℕ) (found : List Application) → AreApplicationsTo terms count found → slice_get terms count ≡ Some t → IsNoApplication nodes bits t → AreApplicationsTo terms (count + 1) found
  applications_kept terms count t found h e none = record {
    each = h.each;
    all = λ k u d lt at free shape. ⊎_elim (λ less. h.all k u d less at free shape)
        (λ le.
        let here : u ≡ t = same_at terms count u t (subst (λ i. slice_get terms i ≡ Some u) (let q : k ≡ count = omega (arith, lt, le) in q) at) e in
        absurd (none d (ap (image_in bits) (sym here) ∙ free) (ap (shape_at nodes) (sym here) ∙ shape)))
        (cases_lt k count);
  }

  applications_more : (terms : List ℕ) (count t : ℕ) (found new : List Application) (a : Application) → AreApplicationsTo terms count found → slice_get terms count ≡ Some t → IsApplied nodes bits Here a → a.term ≡ t → new ≡ found ++ a ∷ [] → AreApplicationsTo terms (count + 1) new
  applications_more terms count t found new a h e is same push = record {
    each = λ x c. ⊎_elim (λ old. h.each x old) (λ (q : a ≡ x). subst (IsApplied nodes bits Here) q is) (member_cases found new a x push c);
    all = λ k u d lt at free shape. ⊎_elim (λ less. old_member found new a (record { term = u; declaration = d }) push (h.all k u d less at free shape))
        (λ le.
        let here : u ≡ t = same_at terms count u t (subst (λ i. slice_get terms i ≡ Some u) (let q : k ≡ count = omega (arith, lt, le) in q) at) e in
        let shapes : Applying a.declaration ≡ Applying d = sym is.shape ∙ ap (shape_at nodes) (same ∙ sym here) ∙ shape in
        let one : a.declaration ≡ d = cc in
        let terms_one : a.term ≡ u = same ∙ sym here in
        subst (λ (x : ℕ). Contains new (record { term = x; declaration = d })) terms_one (subst (λ (y : ℕ). Contains new (record { term = a.term; declaration = y })) one (new_member found new a push)))
        (cases_lt k count);
  }

  pub applications_step : (terms : List ℕ) (count t : ℕ) (found new : List Application) (o : Option Application) → AreApplicationsTo terms count found → slice_get terms count ≡ Some t
      → MatchOption o (IsNoApplication nodes bits t) (λ a. IsApplied nodes bits Here a × (a.term ≡ t)) → new ≡ found ++ option_to_list o → AreApplicationsTo terms (count + 1) new
  applications_step terms count t found new None h e is push = subst (AreApplicationsTo terms (count + 1)) (sym (push ∙ append_nil found)) (applications_kept terms count t found h e is)
  applications_step terms count t found new (Some a) h e is push = applications_more terms count t found new a h e is.0 is.1 push

  pub applications_all : (terms : List ℕ) → ((t : ℕ) → Here t → Contains terms t) → (count : ℕ) (found : List Application) → AreApplicationsTo terms count found → length terms ≤ count → AreApplications nodes bits Here found
  applications_all terms back count found h past = record {
    each = h.each;
    all = λ t d own shape.
        let at = at_place terms t (back t own.0) in
        let inside = within terms at.0 t at.1 in
        h.all at.0 t d (omega (arith, inside, past)) at.1 own.1 shape;
  }

-- ---- keys

module _ {A : Type 0} where
  pub part_kept : (xs ys : List A) (from to : ℕ) → from ≤ to → to ≤ length xs → take (to - from) (drop from (xs ++ ys)) ≡ take (to - from) (drop from xs)
  part_kept xs ys from to up in' =
      let first : from ≤ length xs = omega (arith, up, in') in
      let long = length-drop from xs in
      let room : to - from ≤ length (drop from xs) = omega (arith, long, up, in') in
      ap (take (to - from)) (drop-append-le from xs ys first) ∙ take-append-le (to - from) (drop from xs) ys room

  pub part_new : (xs ys : List A) (from to : ℕ) → from ≡ length xs → to ≡ length (xs ++ ys) → take (to - from) (drop from (xs ++ ys)) ≡ ys
  part_new xs ys from to is end =
      let long = length-append xs ys in
      let count : to - from ≡ length ys = omega (arith, is, end, long) in
      ap (λ k. take k (drop from (xs ++ ys))) count ∙ ap (λ k. take (length ys) (drop k (xs ++ ys))) is ∙ ap (take (length ys)) (drop-append_seam xs ys) ∙ take-length ys

-- ---- calls

module _ (nodes : List Node) (val : ℕ → Value) where
  call_kept : (keys more new : List ℕ) (a : Application) (c : Call) → new ≡ keys ++ more → IsCallOf nodes val keys a c → IsCallOf nodes val new a c
  call_kept keys more new a c e h = subst (λ ks. IsCallOf nodes val ks a c) (sym e) (record {
    term = h.term;
    rising = h.rising;
    within = (let w = h.within in let long = length-append keys more in omega (arith, w, long));
    key = part_kept keys more c.from c.to h.rising h.within ∙ h.key;
  })

  call_new : (keys new : List ℕ) (a : Application) (c : Call) → new ≡ keys ++ key_of nodes val a → c.term ≡ a.term → c.from ≡ length keys → c.to ≡ length new → IsCallOf nodes val new a c
  call_new keys new a c e t from to = subst (λ ks. IsCallOf nodes val ks a c) (sym e) (
      let end : c.to ≡ length (keys ++ key_of nodes val a) = to ∙ ap length e in
      let long = length-append keys (key_of nodes val a) in
      record {
        term = t;
        rising = omega (arith, from, end, long);
        within = omega (arith, end);
        key = part_new keys (key_of nodes val a) c.from c.to from end;
      })

  -- those of the applications before a place
  pub record AreCallsTo (applications : List Application) (count : ℕ) (keys : List ℕ) (calls : List Call) : Type 0 where
    pub each : (c : Call) → Contains calls c → (a : Application) × Contains applications a × IsCallOf nodes val keys a c
    pub all : (k : ℕ) (a : Application) → k < count → slice_get applications k ≡ Some a → (c : Call) × Contains calls c × IsCallOf nodes val keys a c

  pub calls_none : (applications : List Application) (keys : List ℕ) → AreCallsTo applications 0 keys []
  calls_none applications keys = record { each = λ c i. absurd (not_nil c i); all = λ k a lt. absurd (omega (arith, lt)) }

  pub calls_more : (applications : List Application) (count : ℕ) (a : Application) (c : Call) (keys new : List ℕ) (calls more : List Call) → AreCallsTo applications count keys calls → slice_get applications count ≡ Some a
      → new ≡ keys ++ key_of nodes val a → c.term ≡ a.term → c.from ≡ length keys → c.to ≡ length new → more ≡ calls ++ c ∷ [] → AreCallsTo applications (count + 1) new more
  calls_more applications count a c keys new calls more h at e t from to push =
      let own : IsCallOf nodes val new a c = call_new keys new a c e t from to in
      record {
        each = λ d i. ⊎_elim
            (λ old. (let r = h.each d old in (r.0, r.1, call_kept keys (key_of nodes val a) new r.0 d e r.2)))
            (λ (q : c ≡ d). (a, place_of applications count a at, subst (IsCallOf nodes val new a) q own))
            (member_cases calls more c d push i);
        all = λ k b lt here. ⊎_elim
            (λ less. (let r = h.all k b less here in (r.0, old_member calls more c r.0 push r.1, call_kept keys (key_of nodes val a) new b r.0 e r.2)))
            (λ le.
            let same : a ≡ b = same_at applications count a b at (subst (λ i. slice_get applications i ≡ Some b) (let q : k ≡ count = omega (arith, lt, le) in q) here) in
            (c, new_member calls more c push, subst (λ x. IsCallOf nodes val new x c) same own))
            (cases_lt k count);
      }

  pub calls_all : (applications : List Application) (count : ℕ) (keys : List ℕ) (calls : List Call) → AreCallsTo applications count keys calls → length applications ≤ count → AreCalls nodes val applications keys calls
  calls_all applications count keys calls h past = record {
    each = h.each;
    all = λ a i. let at = at_place applications a i in let inside = within applications at.0 a at.1 in h.all at.0 a (omega (arith, inside, past)) at.1;
  }

  pub calls_moved : (applications : List Application) (keys : List ℕ) (old new : List Call) → IsPermutation old new → AreCalls nodes val applications keys old → AreCalls nodes val applications keys new
  calls_moved applications keys old new p h = record {
    each = λ c i. h.each c (Contains-permutation new old c (IsPermutation-sym old new p) i);
    all = λ a i. (let r = h.all a i in (r.0, Contains-permutation old new r.0 p r.1, r.2));
  }

-- ---- neighbours

neither : (a b : Ordering) → a ≡ ordering_reverse b → is_lt a ≡ false → is_lt b ≡ false → a ≡ Equal
neither Less b e p q = let f : ⊥ = cc in absurd f
neither Equal b e p q = refl
neither Greater Less e p q = let f : ⊥ = cc in absurd f
neither Greater Equal e p q = let f : ⊥ = cc in absurd f
neither Greater Greater e p q = let f : ⊥ = cc in absurd f

-- a key between two that are equal
between : (x y z : List ℕ) → is_lt (slice_cmp nat_cmp y x) ≡ false → is_lt (slice_cmp nat_cmp z y) ≡ false → z ≡ x → y ≡ x
between x y z p q e = exact_bytes y x (neither (slice_cmp nat_cmp y x) (slice_cmp nat_cmp x y) (nat_list_cmp_total.antisymm y x) p (subst (λ k. is_lt (slice_cmp nat_cmp k y) ≡ false) e q))

abbrev pub no_call : Call
no_call = record { term = 0; from = 0; to = 0 }

abbrev pub call_at : List Call → ℕ → Call
call_at calls k = slice_index_or calls k no_call

module _ (val : ℕ → Value) (keys : List ℕ) (calls : List Call) (lemmas : List Lemma) where
  -- neighbours of one key have one number, or their lemma is there
  abbrev pub IsPassed : ℕ → ℕ → Type 0
  IsPassed k j = key_in keys (call_at calls k) ≡ key_in keys (call_at calls j)
      → (code_of (val (call_at calls k).term) ≡ code_of (val (call_at calls j).term)) ⊎ Contains lemmas (Congruence (call_at calls k).term (call_at calls j).term)

  abbrev pub ArePassed : ℕ → Type 0
  ArePassed count = (k j : ℕ) → j ≡ k + 1 → j < count → IsPassed k j

  -- the lemma of some neighbours of this key
  abbrev pub IsFound : ℕ → Type 0
  IsFound i = (k : ℕ) × (j : ℕ) × (k < length calls) × (key_in keys (call_at calls k) ≡ key_in keys (call_at calls i)) × Contains lemmas (Congruence (call_at calls k).term (call_at calls j).term)

  module _ (sorted : IsSortedBy (λ a b. is_lt (call_cmp keys a b)) calls) (passed : ArePassed (length calls)) where
    -- calls of one key, the later by so many places
    run : (n i j : ℕ) → j ≡ i + n → j < length calls → key_in keys (call_at calls j) ≡ key_in keys (call_at calls i)
        → (code_of (val (call_at calls i).term) ≡ code_of (val (call_at calls j).term)) ⊎ IsFound i
    run zero i j is lt e = inl (ap (λ k. code_of (val (call_at calls k).term)) (let q : i ≡ j = omega (arith, is) in q))
    run (suc n) i j is lt e =
        let next : j ≡ (i + n) + 1 = omega (arith, is) in
        let order = ranks_by nat_list_cmp_total (key_in keys) in
        let up = sorted_far (λ a b. is_lt (call_cmp keys a b)) order calls sorted i (i + n) no_call (omega arith) (omega (arith, lt, next)) in
        let far = sorted_far (λ a b. is_lt (call_cmp keys a b)) order calls sorted (i + n) j no_call (omega (arith, next)) lt in
        let near : key_in keys (call_at calls (i + n)) ≡ key_in keys (call_at calls i) = between (key_in keys (call_at calls i)) (key_in keys (call_at calls (i + n))) (key_in keys (call_at calls j)) up far e in
        ⊎_elim
        (λ same. ⊎_elim (λ last. inl (same ∙ last)) (λ c. inr (i + n, j, omega (arith, lt, next), near, c)) (passed (i + n) j next lt (near ∙ sym e)))
        (λ found. inr found)
        (run n i (i + n) refl (omega (arith, lt, next)) near)

    pub ran : (i j : ℕ) → i ≤ j → j < length calls → key_in keys (call_at calls j) ≡ key_in keys (call_at calls i) → (code_of (val (call_at calls i).term) ≡ code_of (val (call_at calls j).term)) ⊎ IsFound i
    ran i j le lt e = run (j - i) i j (omega (arith, le)) lt e

-- ---- conflicts

-- those of the neighbours before a place
pub record AreConflictsTo (nodes : List Node) (bits : List TermBits) (f : ℕ → Bool) (Here : ℕ → Type 0) (keys : List ℕ) (calls : List Call) (count : ℕ) (lemmas : List Lemma) : Type 0 where
  pub each : (l : Lemma) → Contains lemmas l → IsCongruenceConflict nodes bits f Here l
  pub passed : ArePassed (assigned_value nodes bits f) keys calls lemmas count

module _ (nodes : List Node) (bits : List TermBits) (f : ℕ → Bool) (list : IsTermList nodes) (one : HaveOneSignature nodes) (Here : ℕ → Type 0) (applications : List Application) (found : AreApplications nodes bits Here applications)
    (keys : List ℕ) (calls : List Call) (are : AreCalls nodes (assigned_value nodes bits f) applications keys calls) where
  call_of : (k : ℕ) → k < length calls → (a : Application) × IsApplied nodes bits Here a × IsCallOf nodes (assigned_value nodes bits f) keys a (call_at calls k)
  call_of k lt = let r = are.each (call_at calls k) (place_of calls k (call_at calls k) (some_at calls k no_call lt)) in (r.0, found.each r.0 r.1, r.2)

  -- a call's term is a Bool or a word that has bits
  pub call_scalar : (k : ℕ) → k < length calls → IsScalarTerm nodes bits (call_at calls k).term
  call_scalar k lt = let r = call_of k lt in subst (IsScalarTerm nodes bits) (sym r.2.term) r.1.held

  -- two calls of one key and different numbers
  pub broken : (k j : ℕ) → k < length calls → j < length calls → key_in keys (call_at calls k) ≡ key_in keys (call_at calls j)
      → (code_of (assigned_value nodes bits f (call_at calls k).term) ≡ code_of (assigned_value nodes bits f (call_at calls j).term) → ⊥) → IsCongruenceConflict nodes bits f Here (Congruence (call_at calls k).term (call_at calls j).term)
  broken k j lk lj e apart =
      let a = call_of k lk in
      let b = call_of j lj in
      let key : key_of nodes (assigned_value nodes bits f) a.0 ≡ key_of nodes (assigned_value nodes bits f) b.0 = sym a.2.key ∙ e ∙ b.2.key in
      let at : IsCongruenceConflict nodes bits f Here (Congruence a.0.term b.0.term) = conflict nodes bits f list one Here a.0 b.0 a.1 b.1 (alike nodes bits f list one Here a.0 b.0 a.1 b.1 key)
      (λ same. apart (ap (λ t. code_of (assigned_value nodes bits f t)) a.2.term ∙ same ∙ ap (λ t. code_of (assigned_value nodes bits f t)) (sym b.2.term))) in
      subst (λ t. IsCongruenceConflict nodes bits f Here (Congruence t (call_at calls j).term)) (sym a.2.term) (subst (λ t. IsCongruenceConflict nodes bits f Here (Congruence a.0.term t)) (sym b.2.term) at)

  module _ (sorted : IsSortedBy (λ a b. is_lt (call_cmp keys a b)) calls) (lemmas : List Lemma) (passed : ArePassed (assigned_value nodes bits f) keys calls lemmas (length calls)) where
    pub are_all : ((l : Lemma) → Contains lemmas l → IsCongruenceConflict nodes bits f Here l) → AreCongruenceConflicts nodes bits f Here lemmas
    are_all each = record { each = each; all = λ t u h. all t u h } where
      all : (t u : ℕ) → AreAlike nodes bits Here (assigned_value nodes bits f) t u → (assigned_value nodes bits f t ≡ assigned_value nodes bits f u) ⊎ HasConflict nodes bits f Here lemmas t
      all t u h = ⊎_elim (λ lt. forth lt) (λ le. back le) (cases_lt i j) where
        a : Application
        a = record { term = t; declaration = h.declaration }

        b : Application
        b = record { term = u; declaration = h.declaration }

        ia : Contains applications a
        ia = found.all t h.declaration h.left h.left_shape

        ib : Contains applications b
        ib = found.all u h.declaration h.right h.right_shape

        ca : (c : Call) × Contains calls c × IsCallOf nodes (assigned_value nodes bits f) keys a c
        ca = are.all a ia

        cb : (c : Call) × Contains calls c × IsCallOf nodes (assigned_value nodes bits f) keys b c
        cb = are.all b ib

        pa : (k : ℕ) × (slice_get calls k ≡ Some ca.0)
        pa = at_place calls ca.0 ca.1

        pb : (k : ℕ) × (slice_get calls k ≡ Some cb.0)
        pb = at_place calls cb.0 cb.1

        i : ℕ
        i = pa.0

        j : ℕ
        j = pb.0

        at_i : call_at calls i ≡ ca.0
        at_i = read calls i ca.0 no_call pa.1

        at_j : call_at calls j ≡ cb.0
        at_j = read calls j cb.0 no_call pb.1

        li : i < length calls
        li = within calls i ca.0 pa.1

        lj : j < length calls
        lj = within calls j cb.0 pb.1

        key_i : key_in keys (call_at calls i) ≡ key_of nodes (assigned_value nodes bits f) a
        key_i = ap (key_in keys) at_i ∙ ca.2.key

        key_j : key_in keys (call_at calls j) ≡ key_of nodes (assigned_value nodes bits f) b
        key_j = ap (key_in keys) at_j ∙ cb.2.key

        keys_one : key_in keys (call_at calls j) ≡ key_in keys (call_at calls i)
        keys_one = key_j ∙ sym (one_key nodes bits f Here t u h) ∙ sym key_i

        term_i : (call_at calls i).term ≡ t
        term_i = ap (λ (c : Call). c.term) at_i ∙ ca.2.term

        term_j : (call_at calls j).term ≡ u
        term_j = ap (λ (c : Call). c.term) at_j ∙ cb.2.term

        codes_equal : code_of (assigned_value nodes bits f (call_at calls i).term) ≡ code_of (assigned_value nodes bits f (call_at calls j).term) → assigned_value nodes bits f t ≡ assigned_value nodes bits f u
        codes_equal e = equal nodes bits f list one Here a b (found.each a ia) (found.each b ib) h (ap (λ x. code_of (assigned_value nodes bits f x)) (sym term_i) ∙ e ∙ ap (λ x. code_of (assigned_value nodes bits f x)) term_j)

        of_found : (n : ℕ) → key_in keys (call_at calls n) ≡ key_in keys (call_at calls i) → IsFound (assigned_value nodes bits f) keys calls lemmas n → HasConflict nodes bits f Here lemmas t
        of_found n same w =
            let c = call_of w.0 w.2 in
            let key : key_of nodes (assigned_value nodes bits f) a ≡ key_of nodes (assigned_value nodes bits f) c.0 = sym key_i ∙ sym same ∙ sym w.3 ∙ c.2.key in
            let like : AreAlike nodes bits Here (assigned_value nodes bits f) t c.0.term = alike nodes bits f list one Here a c.0 (found.each a ia) c.1 key in
            ((call_at calls w.0).term, (call_at calls w.1).term, w.4, subst (AreAlike nodes bits Here (assigned_value nodes bits f) t) (sym c.2.term) like)

        forth : i < j → (assigned_value nodes bits f t ≡ assigned_value nodes bits f u) ⊎ HasConflict nodes bits f Here lemmas t
        forth lt = ⊎_elim (λ e. inl (codes_equal e)) (λ w. inr (of_found i refl w)) (ran (assigned_value nodes bits f) keys calls lemmas sorted passed i j (omega (arith, lt)) lj keys_one)

        back : j ≤ i → (assigned_value nodes bits f t ≡ assigned_value nodes bits f u) ⊎ HasConflict nodes bits f Here lemmas t
        back le = ⊎_elim (λ e. inl (codes_equal (sym e))) (λ w. inr (of_found j keys_one w)) (ran (assigned_value nodes bits f) keys calls lemmas sorted passed j i le li (sym keys_one))

  -- ---- the loop over neighbours

  pub conflicts_none : (count : ℕ) → count ≤ 1 → AreConflictsTo nodes bits f Here keys calls count []
  conflicts_none count le = record { each = λ l c. absurd (not_nil l c); passed = λ k j is lt. absurd (omega (arith, is, lt, le)) }

  -- nothing is broken
  conflicts_kept : (count k : ℕ) (lemmas : List Lemma) → count ≡ k + 1 → AreConflictsTo nodes bits f Here keys calls count lemmas → IsWhole (assigned_value nodes bits f) keys (call_at calls k) (call_at calls count) → AreConflictsTo nodes bits f Here keys calls (count + 1) lemmas
  conflicts_kept count k lemmas is h whole = record {
    each = h.each;
    passed = λ i j next lt. ⊎_elim (λ less. h.passed i j next less)
        (λ le.
        let q : count ≡ j = omega (arith, lt, le) in
        let p : k ≡ i = omega (arith, is, q, next) in
        subst (λ n. IsPassed (assigned_value nodes bits f) keys calls lemmas n j) p (subst (IsPassed (assigned_value nodes bits f) keys calls lemmas k) q (λ e. inl (whole e))))
        (cases_lt j count);
  }

  -- one more conflict
  conflicts_more : (count k : ℕ) (lemmas new : List Lemma) (l : Lemma) → count ≡ k + 1 → count < length calls → AreConflictsTo nodes bits f Here keys calls count lemmas → IsBroken (assigned_value nodes bits f) keys (call_at calls k) (call_at calls count)
      → l ≡ Congruence (call_at calls k).term (call_at calls count).term → new ≡ lemmas ++ l ∷ [] → AreConflictsTo nodes bits f Here keys calls (count + 1) new
  conflicts_more count k lemmas new l is lt h apart e push =
      let own : IsCongruenceConflict nodes bits f Here l = subst (IsCongruenceConflict nodes bits f Here) (sym e) (broken k count (omega (arith, is, lt)) lt apart.0 apart.1) in
      record {
        each = λ x c. ⊎_elim (λ old. h.each x old) (λ (q : l ≡ x). subst (IsCongruenceConflict nodes bits f Here) q own) (member_cases lemmas new l x push c);
        passed = λ i j next less. ⊎_elim
            (λ before same. ⊎_elim (λ r. inl r) (λ c. inr (old_member lemmas new l (Congruence (call_at calls i).term (call_at calls j).term) push c)) (h.passed i j next before same))
            (λ le.
            let q : count ≡ j = omega (arith, less, le) in
            let p : k ≡ i = omega (arith, is, q, next) in
            subst (λ n. IsPassed (assigned_value nodes bits f) keys calls new n j) p (subst (IsPassed (assigned_value nodes bits f) keys calls new k) q (λ same. inr (subst (Contains new) e (new_member lemmas new l push)))))
            (cases_lt j count);
      }

  pub conflicts_step : (count k : ℕ) (lemmas new : List Lemma) (o : Option Lemma) → count ≡ k + 1 → count < length calls → AreConflictsTo nodes bits f Here keys calls count lemmas
      → MatchOption o (IsWhole (assigned_value nodes bits f) keys (call_at calls k) (call_at calls count)) (λ l. IsBroken (assigned_value nodes bits f) keys (call_at calls k) (call_at calls count) × (l ≡ Congruence (call_at calls k).term (call_at calls count).term))
      → new ≡ lemmas ++ option_to_list o → AreConflictsTo nodes bits f Here keys calls (count + 1) new
  conflicts_step count k lemmas new None is lt h e push = subst (AreConflictsTo nodes bits f Here keys calls (count + 1)) (sym (push ∙ append_nil lemmas)) (conflicts_kept count k lemmas is h e)
  conflicts_step count k lemmas new (Some l) is lt h e push = conflicts_more count k lemmas new l is lt h e.0 e.1 push

  pub conflicts_all : IsSortedBy (λ a b. is_lt (call_cmp keys a b)) calls → (count : ℕ) (lemmas : List Lemma) → AreConflictsTo nodes bits f Here keys calls count lemmas → length calls ≤ count → AreCongruenceConflicts nodes bits f Here lemmas
  conflicts_all sorted count lemmas h past = are_all sorted lemmas (λ k j is lt. h.passed k j is (omega (arith, lt, past))) h.each

-- ---- the test of neighbours

pub same_key : (keys : List ℕ) (a b : Call) → is_eq (call_cmp keys a b) ≡ true → key_in keys a ≡ key_in keys b
same_key keys a b e = exact_bytes (key_in keys a) (key_in keys b) (is_equal (slice_cmp nat_cmp (key_in keys a) (key_in keys b)) e) where
  is_equal : (o : Ordering) → is_eq o ≡ true → o ≡ Equal
  is_equal Equal q = refl
  is_equal Less q = let f : ⊥ = cc in absurd f
  is_equal Greater q = let f : ⊥ = cc in absurd f

key_itself : (xs : List ℕ) → is_eq (slice_cmp nat_cmp xs xs) ≡ true
key_itself xs = go (slice_cmp nat_cmp xs xs) (nat_list_cmp_total.antisymm xs xs) where
  go : (o : Ordering) → o ≡ ordering_reverse o → is_eq o ≡ true
  go Equal e = refl
  go Less e = let f : ⊥ = cc in absurd f
  go Greater e = let f : ⊥ = cc in absurd f

pub is_broken : (keys : List ℕ) (a b : Call) (x y : ℕ) → (is_eq (call_cmp keys a b) && not (x == y)) ≡ true → (key_in keys a ≡ key_in keys b) × (x ≡ y → ⊥)
is_broken keys a b x y e =
    let p = and_parts (is_eq (call_cmp keys a b)) (not (x == y)) e in
    (same_key keys a b p.0, λ q. (let t : (x == y) ≡ true = eq-eqb x y q in let z : false ≡ true = ap not (sym t) ∙ p.1 in let f : ⊥ = cc in f))

pub is_whole : (keys : List ℕ) (a b : Call) (x y : ℕ) → (is_eq (call_cmp keys a b) && not (x == y)) ≡ false → key_in keys a ≡ key_in keys b → x ≡ y
is_whole keys a b x y e same =
    let yes : is_eq (call_cmp keys a b) ≡ true = subst (λ k. is_eq (slice_cmp nat_cmp (key_in keys a) k) ≡ true) same (key_itself (key_in keys a)) in
    go (x == y) refl (sym (ap (λ t. t && not (x == y)) yes) ∙ e) where
      go : (t : Bool) → (x == y) ≡ t → not (x == y) ≡ false → x ≡ y
      go true q n = eqb-true x y q
      go false q n = let z : true ≡ false = sym (ap not q) ∙ n in let f : ⊥ = cc in absurd f

-- ---- the order

pub sorted_by_key : (keys : List ℕ) {F : Type 0} {g : Mut F (Bor Call × (Bor Call × Unit {0})) Ordering} {f : F} (calls : List Call)
    → ((lt : Call → Call → Bool) → IsStrictWeakOrder lt → ComparesAs g lt f → IsSortedBy lt calls) → ((a : Bor Call × (Bor Call × Unit {0})) (r : Ordering) (f' : F) → Called g f a r f' → (r ≡ call_cmp keys a.0.now a.1.0.now) × (f' ≡ f))
    → IsSortedBy (λ a b. is_lt (call_cmp keys a b)) calls
sorted_by_key keys calls sorted answers = sorted (λ a b. is_lt (call_cmp keys a b)) (ranks_by nat_list_cmp_total (key_in keys)) (always_returns_same _ _ _ (λ a r f' k. (ap is_lt (answers a r f' k).0, (answers a r f' k).1)))
