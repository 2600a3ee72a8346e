-- Equalities of arrays, and the lemmas of those that are false although the selects at their witness agree.
use Rattle.std.proofs.Common.{◌≡◌, ℕ, ◌+◌, ◌<◌, ◌≤◌, Bool, true, false, not, ◌||◌, List, [], ◌∷◌, ◌++◌, length, Option, Some, None, refl, sym, ap, ◌∙◌, subst, inl, inr, ⊎_elim, arith}
use Rattle.std.specs.Prelude.{◌⊎◌, ◌==◌, ◌↔◌, slice_get, Contains, IsSome, MatchOption, option_to_list}
use Rattle.std.proofs.lemmas.Bool.{cases_lt, eqb-true, eqb-false}
use Rattle.std.proofs.lemmas.List.Elements.{Contains-append_right}
use Rattle.smt_terms.specs.declared.sort.Sort.TheVariants as sort
use Rattle.smt_terms.specs.declared.node.Node.{Node}
use Rattle.smt_terms.specs.Bits.{TermBits, image_in}
use Rattle.smt_terms.specs.Nodes.{node_at}
use Rattle.smt_terms.specs.Terms.{sort_of, IsTermList}
use Rattle.smt_terms.specs.Values.{Interpretation, no_value, value, is_true, number_of, same_value}
use Rattle.smt_terms.proofs.Evaluating.{value_is_evaluation}
use Rattle.theory_terms.specs.declared.shape.Shape.{Shape}
use Rattle.theory_terms.specs.declared.shape.Shape.TheVariants.{Equating, Selecting, Other}
use Rattle.theory_terms.specs.declared.lemma.Lemma.{Lemma}
use Rattle.theory_terms.specs.declared.lemma.Lemma.TheVariants.{Witness}
use Rattle.theory_terms.specs.declared.atom.Watch.{Watch}
use Rattle.theory_terms.specs.declared.atom.Atom.TheVariants.{Holds, Differ}
use Rattle.theory_terms.specs.Shapes.{IsPlain, shape_at}
use Rattle.theory_terms.specs.Lemmas.{watch, watch_atoms, witness_atoms}
use Rattle.theory_terms.proofs.Shapes.{FactsOf, facts, shape_within}
use Rattle.theory_terms.proofs.Sound.{watch_is, same_refl}
use Rattle.term_reach.specs.Reach.{IsClosed}
use Rattle.access_tables.specs.Leading.{leads, leads_by, watched, selects_of}
use Rattle.access_tables.specs.Encoded.{HaveBits}
use Rattle.access_tables.specs.Ready.{IsOwn}
use Rattle.access_tables.specs.Held.{assigned_value}
use Rattle.access_walk.specs.declared.witnesses.Watched.{Watched}
use Rattle.access_walk.specs.Networks.{AreApart}
use Rattle.access_walk.specs.Watched.{HaveWatches, IsNoEquality, IsWatched, AreWatches, IsJoined, IsWitnessConflict, AreApartAt, AreWitnessConflicts}
use Rattle.access_walk.proofs.Lists.{append_nil, at_place, within, same_at, not_nil, old_member, new_member, member_cases}
use Rattle.access_walk.proofs.Words.{word_value, equal_words}

nothing : Interpretation
nothing = record { constants = λ d. no_value; functions = λ d vs. no_value }

module _ (nodes : List Node) (list : IsTermList nodes) where
  fact : (t : ℕ) (k : Shape) → shape_at nodes t ≡ k → FactsOf nothing (sort_of nodes) (value nothing nodes) t (node_at nodes t) k
  fact t k e = subst (FactsOf nothing (sort_of nodes) (value nothing nodes) t (node_at nodes t)) e (facts nothing nodes (value nothing nodes) list (value_is_evaluation nothing nodes list) t)

  pub left_within : (t a b : ℕ) → shape_at nodes t ≡ Equating a b → a < length nodes
  left_within t a b e =
      let lt = (fact t (Equating a b) e).left_lt in
      let here = shape_within nodes t (λ o. (let z : Equating a b ≡ Other = sym e ∙ o in let f : ⊥ = cc in f)) in
      omega (arith, lt, here)

  module _ (bits : List TermBits) where
    pub image_none : (t u : ℕ) → image_in bits t ≡ Some u → IsNoEquality nodes bits t
    image_none t u e = λ a b n m i s q. let z : Some u ≡ None = sym e ∙ i in let f : ⊥ = cc in f

    pub sort_none : (t l r : ℕ) → shape_at nodes t ≡ Equating l r → ((n m : ℕ) → sort_of nodes l ≡ sort.Array n m → ⊥) → IsNoEquality nodes bits t
    sort_none t l r e none = λ a b n m i s q.
        let z : Equating l r ≡ Equating a b = sym e ∙ s in
        let same : l ≡ a = cc in
        none n m (ap (sort_of nodes) same ∙ q)

    module _ (Here : ℕ → Type 0) (have : HaveBits nodes bits Here) (closed : IsClosed (leads nodes (image_in bits)) Here) (t l r n m : ℕ) (here : Here t) (free : image_in bits t ≡ None) (e : shape_at nodes t ≡ Equating l r) (array : sort_of nodes l ≡ sort.Array n m) where
      pub watch_there : HaveWatches nodes bits Here → watch nodes l r ≡ None → ⊥
      watch_there have' none = let s : false ≡ true = subst IsSome none (have' t l r n m (here, free) e array) in let f : ⊥ = cc in f

      pub is_watched : (w : Watch) → watch nodes l r ≡ Some w → IsWatched nodes bits Here (record { equality = t; watch = w })
      is_watched w is =
          let f = fact t (Equating l r) e in
          let k = watch_is nodes l r w is in
          let left = fact w.left (Selecting l w.witness) k.left in
          let right = fact w.right (Selecting r w.witness) k.right in
          let la : sort.Array left.index left.element ≡ sort.Array n m = sym left.array_sort ∙ array in
          let ra : sort.Array right.index right.element ≡ sort.Array n m = sym right.array_sort ∙ sym f.same ∙ array in
          let le : left.element ≡ m = cc in
          let re : right.element ≡ m = cc in
          let ls : sort_of nodes w.left ≡ sort.Word m = left.sort ∙ ap sort.Word le in
          let rs : sort_of nodes w.right ≡ sort.Word m = right.sort ∙ ap sort.Word re in
          let next : leads nodes (image_in bits) t ≡ (node_at nodes t).args ++ w.left ∷ w.right ∷ [] = ap (leads_by nodes t) free ∙ ap (λ s. (node_at nodes t).args ++ watched nodes s) e ∙ ap (λ o. (node_at nodes t).args ++ selects_of o) is in
          let hl : Here w.left = closed t w.left here (subst (λ xs. Contains xs w.left) (sym next) (Contains-append_right (node_at nodes t).args (w.left ∷ w.right ∷ []) w.left (0, omega arith, refl))) in
          let hr : Here w.right = closed t w.right here (subst (λ xs. Contains xs w.right) (sym next) (Contains-append_right (node_at nodes t).args (w.left ∷ w.right ∷ []) w.right (1, omega arith, refl))) in
          record {
            left = l;
            right = r;
            index = n;
            element = m;
            own = (here, free);
            shape = e;
            sides = array;
            is = is;
            truth = f.sort;
            left_sort = ls;
            right_sort = rs;
            equality_bits = have.rows t here (subst IsPlain (sym f.sort) tt);
            left_bits = have.rows w.left hl (subst IsPlain (sym ls) tt);
            right_bits = have.rows w.right hr (subst IsPlain (sym rs) tt);
          }

-- ---- the loops

module _ (nodes : List Node) (bits : List TermBits) (Here : ℕ → Type 0) where
  -- the equalities among the terms before a place
  abbrev pub AreWatchesTo : List ℕ → ℕ → List Watched → Type 0
  AreWatchesTo terms count ws =
      ((w : Watched) → Contains ws w → IsWatched nodes bits Here w)
      × ((k t a b n m : ℕ) → k < count → slice_get terms k ≡ Some t → image_in bits t ≡ None → shape_at nodes t ≡ Equating a b → sort_of nodes a ≡ sort.Array n m → (w : Watched) × Contains ws w × (w.equality ≡ t))

  pub watches_none : (terms : List ℕ) → AreWatchesTo terms 0 []
  watches_none terms = (λ w c. absurd (not_nil w c), λ k t a b n m lt. absurd (omega (arith, lt)))

  pub watches_kept : (terms : List ℕ) (count t : ℕ) (ws : List Watched) → AreWatchesTo terms count ws → slice_get terms count ≡ Some t → IsNoEquality nodes bits t → AreWatchesTo terms (count + 1) ws
  watches_kept terms count t ws h e none = (
    h.0,
    λ k u a b n m lt at free shape sides.
        ⊎_elim (λ less. h.1 k u a b n m less at free shape sides)
        (λ le.
        let here : u ≡ t = same_at terms count u t (subst (λ i. slice_get terms i ≡ Some u) (let q : k ≡ count = omega (arith, lt, le) in q) at) e in
        absurd (none a b n m (ap (image_in bits) (sym here) ∙ free) (ap (shape_at nodes) (sym here) ∙ shape) sides))
        (cases_lt k count),
  )

  pub watches_more : (terms : List ℕ) (count t : ℕ) (ws new : List Watched) (w : Watched) → AreWatchesTo terms count ws → slice_get terms count ≡ Some t → IsWatched nodes bits Here w → w.equality ≡ t → new ≡ ws ++ w ∷ [] → AreWatchesTo terms (count + 1) new
  watches_more terms count t ws new w h e is same push = (
    λ x c. ⊎_elim (λ old. h.0 x old) (λ (q : w ≡ x). subst (IsWatched nodes bits Here) q is) (member_cases ws new w x push c),
    λ k u a b n m lt at free shape sides.
        ⊎_elim (λ less. (let r = h.1 k u a b n m less at free shape sides in (r.0, old_member ws new w r.0 push r.1, r.2)))
        (λ le. (w, new_member ws new w push, same ∙ sym (same_at terms count u t (subst (λ i. slice_get terms i ≡ Some u) (let q : k ≡ count = omega (arith, lt, le) in q) at) e)))
        (cases_lt k count),
  )

  pub watches_step : (terms : List ℕ) (count t : ℕ) (ws new : List Watched) (o : Option Watched) → AreWatchesTo terms count ws → slice_get terms count ≡ Some t → MatchOption o (IsNoEquality nodes bits t) (λ w. IsWatched nodes bits Here w × (w.equality ≡ t)) → new ≡ ws ++ option_to_list o → AreWatchesTo terms (count + 1) new
  watches_step terms count t ws new None h e is push = subst (AreWatchesTo terms (count + 1)) (sym (push ∙ append_nil ws)) (watches_kept terms count t ws h e is)
  watches_step terms count t ws new (Some w) h e is push = watches_more terms count t ws new w h e is.0 is.1 push

  pub watches_all : (terms : List ℕ) → ((t : ℕ) → Contains terms t → Here t) → ((t : ℕ) → Here t → Contains terms t) → (count : ℕ) (ws : List Watched) → AreWatchesTo terms count ws → length terms ≤ count → AreWatches nodes bits Here ws
  watches_all terms forth back count ws h past = record {
    each = h.0;
    all = λ t a b n m own shape sides.
        let at = at_place terms t (back t own.0) in
        let inside = within terms at.0 t at.1 in
        h.1 at.0 t a b n m (omega (arith, inside, past)) at.1 own.1 shape sides;
  }

module _ (nodes : List Node) (bits : List TermBits) (f : ℕ → Bool) (Here : ℕ → Type 0) where
  -- words of one width with one number are one value
  pub joined_from : (w : Watched) → IsWatched nodes bits Here w → is_true (assigned_value nodes bits f w.equality) ≡ false → number_of (assigned_value nodes bits f w.watch.left) ≡ number_of (assigned_value nodes bits f w.watch.right) → IsJoined (assigned_value nodes bits f) w
  joined_from w h denied same = (denied, equal_words h.element (assigned_value nodes bits f w.watch.left) (assigned_value nodes bits f w.watch.right) (word_value nodes bits f w.watch.left h.element h.left_sort h.left_bits) (word_value nodes bits f w.watch.right h.element h.right_sort h.right_bits) same)

  pub conflict : (w : Watched) → IsWatched nodes bits Here w → IsJoined (assigned_value nodes bits f) w → IsWitnessConflict nodes bits f Here (Witness w.equality)
  conflict w h joined = record {
    equality = w.equality;
    is = refl;
    falses = record {
      atoms = Holds w.equality ∷ Differ w.watch.left w.watch.right ∷ [];
      are = ap (witness_atoms nodes w.equality) h.shape ∙ ap (watch_atoms w.equality) h.is;
      falses = none (is_true (assigned_value nodes bits f w.equality)) (same_value (assigned_value nodes bits f w.watch.left) (assigned_value nodes bits f w.watch.right)) joined.0
          (ap (same_value (assigned_value nodes bits f w.watch.left)) (sym joined.1) ∙ same_refl (assigned_value nodes bits f w.watch.left));
      encoded = (h.equality_bits, ((h.left_bits, h.right_bits, h.left_sort ∙ sym h.right_sort), tt));
    };
    never = λ apart.
        let d = apart w.equality h.left h.right h.index h.element h.own h.shape h.sides joined.0 in
        let same : d.0 ≡ w.watch = let z : Some d.0 ≡ Some w.watch = sym d.1 ∙ h.is in cc in
        d.2 (subst (λ (x : Watch). assigned_value nodes bits f x.left ≡ assigned_value nodes bits f x.right) (sym same) joined.1);
  } where
    none : (a b : Bool) → a ≡ false → b ≡ true → (a || (not b || false)) ≡ false
    none a b p q = rw (p, q) refl

  apart_at : (ws : List Watched) → AreWatches nodes bits Here ws → (t a b n m : ℕ) → IsOwn Here (image_in bits) t → shape_at nodes t ≡ Equating a b → sort_of nodes a ≡ sort.Array n m
      → (w : Watched) × Contains ws w × (w.equality ≡ t) × (watch nodes a b ≡ Some w.watch)
  apart_at ws all t a b n m own shape sides =
      let w = all.all t a b n m own shape sides in
      let h = all.each w.0 w.1 in
      let shapes : Equating h.left h.right ≡ Equating a b = sym h.shape ∙ ap (shape_at nodes) w.2 ∙ shape in
      let left : h.left ≡ a = cc in
      let right : h.right ≡ b = cc in
      let is : watch nodes a b ≡ Some w.0.watch = ap (λ x. watch nodes x b) (sym left) ∙ ap (watch nodes h.left) (sym right) ∙ h.is in
      (w.0, w.1, w.2, is)

  decided : (w : Watched) → IsWatched nodes bits Here w → is_true (assigned_value nodes bits f w.equality) ≡ false → IsJoined (assigned_value nodes bits f) w ⊎ (assigned_value nodes bits f w.watch.left ≡ assigned_value nodes bits f w.watch.right → ⊥)
  decided w h denied = go (number_of (assigned_value nodes bits f w.watch.left) == number_of (assigned_value nodes bits f w.watch.right)) refl where
    go : (q : Bool) → (number_of (assigned_value nodes bits f w.watch.left) == number_of (assigned_value nodes bits f w.watch.right)) ≡ q → IsJoined (assigned_value nodes bits f) w ⊎ (assigned_value nodes bits f w.watch.left ≡ assigned_value nodes bits f w.watch.right → ⊥)
    go true e = inl (joined_from w h denied (eqb-true (number_of (assigned_value nodes bits f w.watch.left)) (number_of (assigned_value nodes bits f w.watch.right)) e))
    go false e = inr (λ same. eqb-false (number_of (assigned_value nodes bits f w.watch.left)) (number_of (assigned_value nodes bits f w.watch.right)) e (ap number_of same))

  -- the conflicts of the watches before a place
  pub record AreConflictsTo (ws : List Watched) (count : ℕ) (lemmas : List Lemma) : Type 0 where
    pub each : (l : Lemma) → Contains lemmas l → IsWitnessConflict nodes bits f Here l
    pub all : (k : ℕ) (w : Watched) → k < count → slice_get ws k ≡ Some w → IsJoined (assigned_value nodes bits f) w → Contains lemmas (Witness w.equality)

  pub conflicts_none : (ws : List Watched) → AreConflictsTo ws 0 []
  conflicts_none ws = record { each = λ l c. absurd (not_nil l c); all = λ k w lt. absurd (omega (arith, lt)) }

  conflicts_kept : (ws : List Watched) (count : ℕ) (w : Watched) (lemmas : List Lemma) → AreConflictsTo ws count lemmas → slice_get ws count ≡ Some w → (IsJoined (assigned_value nodes bits f) w → ⊥) → AreConflictsTo ws (count + 1) lemmas
  conflicts_kept ws count w lemmas h e none = record {
    each = h.each;
    all = λ k x lt at joined. ⊎_elim (λ less. h.all k x less at joined)
        (λ le. absurd (none (subst (IsJoined (assigned_value nodes bits f)) (same_at ws count x w (subst (λ i. slice_get ws i ≡ Some x) (let q : k ≡ count = omega (arith, lt, le) in q) at) e) joined)))
        (cases_lt k count);
  }

  conflicts_more : (ws : List Watched) (count : ℕ) (w : Watched) (lemmas new : List Lemma) (l : Lemma) → AreConflictsTo ws count lemmas → slice_get ws count ≡ Some w → IsWatched nodes bits Here w → IsJoined (assigned_value nodes bits f) w → l ≡ Witness w.equality → new ≡ lemmas ++ l ∷ [] → AreConflictsTo ws (count + 1) new
  conflicts_more ws count w lemmas new l h e is joined same push =
      let own : IsWitnessConflict nodes bits f Here l = subst (IsWitnessConflict nodes bits f Here) (sym same) (conflict w is joined) in
      record {
        each = λ x c. ⊎_elim (λ old. h.each x old) (λ (q : l ≡ x). subst (IsWitnessConflict nodes bits f Here) q own) (member_cases lemmas new l x push c);
        all = λ k x lt at other. ⊎_elim (λ less. old_member lemmas new l (Witness x.equality) push (h.all k x less at other))
            (λ le.
            let here : w ≡ x = same_at ws count w x e (subst (λ i. slice_get ws i ≡ Some x) (let q : k ≡ count = omega (arith, lt, le) in q) at) in
            subst (λ (y : Watched). Contains new (Witness y.equality)) here (subst (Contains new) same (new_member lemmas new l push)))
            (cases_lt k count);
      }

  pub conflicts_step : (ws : List Watched) (count : ℕ) (w : Watched) (lemmas new : List Lemma) (o : Option Lemma) → AreConflictsTo ws count lemmas → slice_get ws count ≡ Some w → IsWatched nodes bits Here w
      → MatchOption o (IsJoined (assigned_value nodes bits f) w → ⊥) (λ l. IsJoined (assigned_value nodes bits f) w × (l ≡ Witness w.equality)) → new ≡ lemmas ++ option_to_list o → AreConflictsTo ws (count + 1) new
  conflicts_step ws count w lemmas new None h at is e push = subst (AreConflictsTo ws (count + 1)) (sym (push ∙ append_nil lemmas)) (conflicts_kept ws count w lemmas h at e)
  conflicts_step ws count w lemmas new (Some l) h at is e push = conflicts_more ws count w lemmas new l h at is e.0 e.1 push

  pub conflicts_all : (ws : List Watched) → AreWatches nodes bits Here ws → (count : ℕ) (lemmas : List Lemma) → AreConflictsTo ws count lemmas → length ws ≤ count → AreWitnessConflicts nodes bits f Here lemmas
  conflicts_all ws watches count lemmas h past = record { each = h.each; all = λ t a b n m own shape sides denied. all t a b n m own shape sides denied } where
    all : (t a b n m : ℕ) → IsOwn Here (image_in bits) t → shape_at nodes t ≡ Equating a b → sort_of nodes a ≡ sort.Array n m → is_true (assigned_value nodes bits f t) ≡ false → AreApartAt nodes (assigned_value nodes bits f) a b ⊎ Contains lemmas (Witness t)
    all t a b n m own shape sides denied =
        let w = apart_at ws watches t a b n m own shape sides in
        let false_here : is_true (assigned_value nodes bits f w.0.equality) ≡ false = ap (λ x. is_true (assigned_value nodes bits f x)) w.2 ∙ denied in
        let at = at_place ws w.0 w.1 in
        let inside = within ws at.0 w.0 at.1 in
        ⊎_elim (λ joined. inr (subst (λ x. Contains lemmas (Witness x)) w.2 (h.all at.0 w.0 (omega (arith, inside, past)) at.1 joined))) (λ apart. inl (w.0.watch, w.3, apart)) (decided w.0 (watches.each w.0 w.1) false_here)

  -- none exactly where arrays that are said to differ do
  pub none_where_apart : (lemmas : List Lemma) → AreWitnessConflicts nodes bits f Here lemmas → (lemmas ≡ []) ↔ AreApart nodes (image_in bits) Here (assigned_value nodes bits f)
  none_where_apart lemmas h = (
    λ none t a b n m own shape sides denied. ⊎_elim (λ apart. apart) (λ c. absurd (not_nil (Witness t) (subst (λ xs. Contains xs (Witness t)) none c))) (h.all t a b n m own shape sides denied),
    λ apart. go lemmas (λ l c. (h.each l c).never apart),
  ) where
    go : (ls : List Lemma) → ((l : Lemma) → Contains ls l → ⊥) → ls ≡ []
    go [] none = refl
    go (l ∷ ls) none = absurd (none l (0, omega arith, refl))
