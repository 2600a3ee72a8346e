-- A map is a network under each assignment.
use Rattle.std.proofs.Common.{◌≡◌, ℕ, zero, suc, Bool, true, false, not, List, [], ◌∷◌, length, Option, Some, None, refl, sym, ap, ◌∙◌, subst, inl, inr, ⊎_elim, ◌<◌, ◌≤◌, arith}
use Rattle.std.specs.Prelude.{◌==◌, map, slice_get}
use Rattle.std.proofs.lemmas.Bool.{eq-eqb, eqb-true, not-true}
use Rattle.std.proofs.lemmas.Option.{slice_get-get_or}
use Rattle.smt_terms.specs.declared.sort.Sort.TheVariants as sort
use Rattle.smt_terms.specs.declared.node.Node.{Node}
use Rattle.smt_terms.specs.Terms.{sort_of}
use Rattle.smt_terms.specs.Ranks.{index_sort, is_array}
use Rattle.smt_terms.specs.declared.sort.Sort.{Sort}
use Rattle.smt_terms.specs.Values.{Value, HasSort, is_true, number_of}
use Rattle.theory_terms.specs.declared.lemma.Move.{Move}
use Rattle.theory_terms.specs.declared.atom.Landing.{Landing}
use Rattle.theory_terms.specs.Lemmas.{atom_true, start_of, turn_of}
use Rattle.theory_terms.specs.Shapes.{shape_at}
use Rattle.access_tables.proofs.Closed.{other_numbers}
use Rattle.access_spread.specs.declared.graph.Edge.{Edge}
use Rattle.access_spread.specs.declared.graph.Gate.{Gate}
use Rattle.access_spread.specs.declared.graph.Gate.TheVariants.{Open, Shut}
use Rattle.access_spread.specs.declared.graph.Graph.{Graph}
use Rattle.access_spread.specs.declared.spreading.Start.{Start}
use Rattle.access_spread.specs.Graphs.{passes, gate_at}
use Rattle.access_walk.specs.declared.guard.Guard.{Guard}
use Rattle.access_walk.specs.declared.guard.Guard.TheVariants.{Differs, Holds, Fails}
use Rattle.access_walk.specs.Maps.{when, gate_of, unless_of, HasIndex, Becomes, AreLinked, AreAllIndexes, IsMap, IsValued}
use Rattle.access_tables.specs.Ready.{IsOwn}
use Rattle.access_tables.specs.Tables.{IsTaken, IsSpare}
use Rattle.theory_terms.specs.declared.lemma.Start as of
use Rattle.std.specs.Prelude.{◌⊎◌, Contains, get_or, option_to_list}
use Rattle.cnf_base.proofs.Lists.{Contains-nil, Contains-one}
use Rattle.term_reach.proofs.Ways.{way_closed}
use Rattle.std.proofs.lemmas.Bool.{cases_lt}
use Rattle.indexmap.proofs.IndexTableLemmas.Probe.{pigeonhole}
use Rattle.access_walk.specs.Networks.{IsIndexOf, IsNetwork}
use Rattle.access_walk.proofs.Closing.{read_is}
use Rattle.access_walk.proofs.Clashing.{same_words}

-- where the gate lets the index pass, the atom is false
open_false : (val : ℕ → Value) (i : ℕ) (u : Guard) → passes (gate_of val u) (number_of (val i)) ≡ true → atom_true val (unless_of i u) ≡ false
open_false val i (Differs j) h = other_numbers (val i) (val j) (λ e. let t = eq-eqb (number_of (val i)) (number_of (val j)) e in let z : true ≡ false = sym t ∙ not-true (number_of (val i) == number_of (val j)) h in let f : ⊥ = cc in f)
open_false val i (Holds c) h = go (is_true (val c)) h where
  go : (b : Bool) → passes (when b Open Shut) (number_of (val i)) ≡ true → not b ≡ false
  go true h = refl
  go false h = let f : ⊥ = cc in absurd f
open_false val i (Fails c) h = go (is_true (val c)) h where
  go : (b : Bool) → passes (when b Shut Open) (number_of (val i)) ≡ true → b ≡ false
  go true h = let f : ⊥ = cc in absurd f
  go false h = refl

-- and where the atom is false, an index of the array's width passes
false_open : (nodes : List Node) (val : ℕ → Value) (a i : ℕ) (u : Guard) → ((j n : ℕ) → u ≡ Differs j → sort_of nodes j ≡ sort.Word n → HasSort (sort.Word n) (val j)) → IsIndexOf nodes val i a → HasIndex nodes a u → atom_true val (unless_of i u) ≡ false → passes (gate_of val u) (number_of (val i)) ≡ true
false_open nodes val a i (Differs j) sorted x y h = go (number_of (val i) == number_of (val j)) refl where
  width : x.width ≡ y.width
  width = let z : sort.Word x.width ≡ sort.Word y.width = sym x.array ∙ y.array in cc

  go : (b : Bool) → (number_of (val i) == number_of (val j)) ≡ b → not b ≡ true
  go false e = refl
  go true e =
      let I : HasSort (sort.Word y.width) (val i) = subst (λ n. HasSort (sort.Word n) (val i)) width x.index in
      let same = same_words y.width (val i) (val j) I (sorted j y.width refl y.index) (eqb-true (number_of (val i)) (number_of (val j)) e) in
      let z : true ≡ false = sym same ∙ h in let f : ⊥ = cc in absurd f
false_open nodes val a i (Holds c) sorted x y h = go (is_true (val c)) h where
  go : (b : Bool) → not b ≡ false → passes (when b Open Shut) (number_of (val i)) ≡ true
  go true h = refl
  go false h = let f : ⊥ = cc in absurd f
false_open nodes val a i (Fails c) sorted x y h = go (is_true (val c)) h where
  go : (b : Bool) → b ≡ false → passes (when b Shut Open) (number_of (val i)) ≡ true
  go true h = let f : ⊥ = cc in absurd f
  go false h = refl

array_of : (s : Sort) (n : ℕ) → index_sort s ≡ sort.Word n → is_array s ≡ true
array_of sort.Bool n e = let f : ⊥ = cc in absurd f
array_of (sort.Word k) n e = let f : ⊥ = cc in absurd f
array_of (sort.Array k l) n e = refl

get_map : (f : Guard → Gate) (us : List Guard) (j : ℕ) (u : Guard) → slice_get us j ≡ Some u → slice_get (map f us) j ≡ Some (f u)
get_map f [] j u e = let z : ⊥ = cc in absurd z
get_map f (x ∷ us) zero u e = let same : x ≡ u = cc in ap (λ k. Some (f k)) same
get_map f (x ∷ us) (suc j) u e = get_map f us j u e

-- ---- the spare number is at most the number of the indexes

-- what a term becomes has its value
became_same : (image : ℕ → Option ℕ) (val : ℕ → Value) → AreLinked image val → (t u : ℕ) → Becomes image t u → val t ≡ val u
became_same image val linked t u b =
    way_closed (λ x. option_to_list (image x)) (λ x. val t ≡ val x) (λ x y e c. e ∙ linked x y (listed (image x) y c)) t b.0 u b.1 refl where
      listed : (o : Option ℕ) (y : ℕ) → Contains (option_to_list o) y → o ≡ Some y
      listed None y c = absurd (Contains-nil y c)
      listed (Some x) y c = ap Some (Contains-one x y c)

module _ (nodes : List Node) (image : ℕ → Option ℕ) (Here : ℕ → Type 0) (val : ℕ → Value) (n : ℕ) (indexes : List ℕ)
    (linked : AreLinked image val) (among : AreAllIndexes nodes image Here n indexes)
    (s : ℕ) (spare : IsSpare nodes Here image val n s) where
  term_for : (i : ℕ) → i < s → (j : ℕ) × Contains indexes j × (number_of (val j) ≡ i)
  term_for i lt = let k = spare.least i lt in let j = among k.0 k.1 k.2 k.3 k.4 in (j.0, j.1, ap number_of (sym (became_same image val linked k.1.index j.0 j.2)) ∙ k.5)

  place_of : ℕ → ℕ
  place_of i = ⊎_elim (λ lt. (term_for i lt).1.0) (λ le. 0) (cases_lt i s)

  place_is : (i : ℕ) → i < s → (lt : i < s) × (place_of i ≡ (term_for i lt).1.0)
  unfolding place_of
  place_is i less = go (cases_lt i s) where
    go : (c : (i < s) ⊎ (s ≤ i)) → (lt : i < s) × (⊎_elim (λ lt. (term_for i lt).1.0) (λ le. 0) c ≡ (term_for i lt).1.0)
    go (inl lt) = (lt, refl)
    go (inr le) = absurd (omega (arith, less, le))

  into : (i : ℕ) → i < s → place_of i < length indexes
  into i less = let p = place_is i less in subst (λ k. k < length indexes) (sym p.1) (term_for i p.0).1.1

  number_at : (i : ℕ) → i < s → number_of (val (get_or indexes (place_of i) 0)) ≡ i
  number_at i less =
      let p = place_is i less in
      let t = term_for i p.0 in
      let at : get_or indexes t.1.0 0 ≡ t.0 = read_is indexes t.1.0 t.0 0 (slice_get-get_or indexes t.1.0 t.0 t.1.1 ∙ ap Some t.1.2) in
      ap (λ k. number_of (val (get_or indexes k 0))) p.1 ∙ ap (λ x. number_of (val x)) at ∙ t.2

  one : (i j : ℕ) → i < s → j < s → place_of i ≡ place_of j → i ≡ j
  one i j p q e = sym (number_at i p) ∙ ap (λ k. number_of (val (get_or indexes k 0))) e ∙ number_at j q

  pub few : s ≤ length indexes
  few = pigeonhole s (length indexes) place_of into one

module _ (nodes : List Node) (image : ℕ → Option ℕ) (Here : ℕ → Type 0) (val : ℕ → Value) (arrays : List ℕ) (moves : List Move) (guards : List Guard) (origins : List of.Start) (landings : List Landing) (g : Graph) (gates : List Gate) (starts : List Start)
    (net : IsMap nodes image Here arrays moves guards origins landings g) (valued : IsValued nodes image Here val arrays guards landings gates starts) where
  gate_is : (j : ℕ) (e : Edge) (u : Guard) → e.gate ≡ j → slice_get guards j ≡ Some u → gate_at gates e.gate ≡ gate_of val u
  gate_is j e u p q = ap (gate_at gates) p ∙ ap (λ xs. gate_at xs j) valued.gates_are ∙ read_is (map (gate_of val) guards) j (gate_of val u) Open (get_map (gate_of val) guards j u q)

  pub network : IsNetwork nodes image Here val arrays moves origins landings g gates starts
  network = record {
    numbers = net.numbers;
    count = valued.count;
    landed = λ s l e.
        let h = net.landed s l e in
        let v = valued.starts_are s l e in
        (h.0, h.1, record { starts = h.2; array = v.0; index = v.1; value = v.2; sort = record { width = h.3.width; array = h.3.array; word = h.3.index; index = valued.indexes s h.3.width l e h.3.index } });
    started = net.started;
    filled = λ t x n m k h e s a. ⊎_elim
        (λ (c : IsTaken nodes Here image val n k).
        let own = net.started c.0 c.1 c.2 c.3 in
        let w = net.everywhere t x n own.0 c.1 h e (ap index_sort s) own.1 c.4 in
        (w.0, w.1, w.2, w.3, w.4, ap (λ y. number_of (val y)) w.5 ∙ c.5))
        (λ (c : IsSpare nodes Here image val n k).
        let first = net.words t x n m h e s in
        let w = first.words k c.within (few nodes image Here val n first.indexes valued.linked first.among k c) in
        (w.0, w.1, w.2, w.3, w.4, valued.words t x n m k w.1.index h e s c w.5))
        a;
    everywhere = net.everywhere;
    edges = λ j e at.
        let h = net.arcs j e at in
        let arc = h.5 in
        let gate = gate_is j e h.1 h.4 h.3 in (
          h.0,
          h.2,
          record {
            from = arc.from;
            to = arc.to;
            is_from = arc.is_from;
            is_to = arc.is_to;
            same = arc.same;
            turns = λ i. (record { to = arc.to; unless = unless_of i h.1 }, arc.turns i, refl, λ p. open_false val i h.1 (ap (λ x. passes x (number_of (val i))) (sym gate) ∙ p));
          },
        );
    moved = λ here i a m w at index reached turn never.
        let h = net.moved here i a m w at (array_of (sort_of nodes a) index.width index.array) reached turn in
        let k = net.arcs h.0 h.1 h.2 in
        let arc = k.5 in
        let same-move : k.0 ≡ m = let z : Some k.0 ≡ Some m = sym k.2 ∙ h.4 in cc in
        let from : arc.from ≡ a = let z : Some arc.from ≡ Some a = sym arc.is_from ∙ ap (slice_get arrays) h.3 ∙ at in cc in
        let own : turn_of nodes i a m ≡ Some (record { to = arc.to; unless = unless_of i k.1 }) = ap (λ x. turn_of nodes i x m) (sym from) ∙ ap (turn_of nodes i arc.from) (sym same-move) ∙ arc.turns i in
        let is : w ≡ record { to = arc.to; unless = unless_of i k.1 } = let z : Some w ≡ Some (record { to = arc.to; unless = unless_of i k.1 }) = sym turn ∙ own in cc in
        let falses : atom_true val (unless_of i k.1) ≡ false = ap (λ x. atom_true val x.unless) (sym is) ∙ never in
        let pass = false_open nodes val a i k.1 (λ y n q s. valued.guarded h.0 y n (k.3 ∙ ap Some q) s) index (subst (λ x. HasIndex nodes x k.1) from arc.index) falses in
        (h.0, h.1, h.2, h.3, arc.is_to ∙ ap Some (ap (λ x. x.to) (sym is)), ap (λ x. passes x (number_of (val i))) (gate_is h.0 h.1 k.1 k.4 k.3) ∙ pass, h.4);
  }
