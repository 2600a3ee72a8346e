-- A session that made its watches before it rewrote has them where a walk goes by images.
use Rattle.std.proofs.Common.{◌≡◌, ℕ, zero, suc, ◌<◌, ◌≤◌, ◌^◌, true, List, [], ◌∷◌, length, map, refl, sym, ap, ◌∙◌, subst, arith, Option, Some, None, Ok}
use Rattle.std.specs.Prelude.{Contains, is_some, option_to_list, nat_lt}
use Rattle.std.proofs.lemmas.List.{length-map}
use Rattle.std.proofs.lemmas.List.Elements.{All-contains}
use Rattle.cnf_base.proofs.Options.{some_value}
use Rattle.cnf_base.proofs.Lists.{Contains-map}
use Rattle.smt_terms.specs.declared.sort.Sort.TheVariants as sort
use Rattle.smt_terms.specs.declared.node.Op.TheVariants.{Word}
use Rattle.smt_terms.specs.declared.node.Node.{Node}
use Rattle.smt_terms.specs.declared.fault.MakeFault.TheVariants.{WrongSort}
use Rattle.smt_terms.specs.Nodes.{node_at, leaf}
use Rattle.smt_terms.specs.Ranks.{is_array, word_sort}
use Rattle.smt_terms.specs.Terms.{op_rank, sort_of, IsTermList}
use Rattle.smt_terms.proofs.Growing.{node_longer, sort_longer, list_shorter}
use Rattle.smt_terms.proofs.Made.{at_place}
use Rattle.smt_terms.proofs.Typing.{guard_ok, word_sort_ok}
use Rattle.theory_terms.specs.declared.shape.Shape.{Shape}
use Rattle.theory_terms.specs.declared.shape.Shape.TheVariants.{Selecting, Storing, Equating, Witnessing}
use Rattle.theory_terms.specs.declared.atom.Watch.{Watch}
use Rattle.theory_terms.specs.Shapes.{shape_of, shape_at, term_of}
use Rattle.theory_terms.specs.Lemmas.{watch, witness_node, select_node}
use Rattle.theory_terms.proofs.Shapes.{WitnessFacts}
use Rattle.term_reach.specs.Reach.{arguments, IsWay, IsReached}
use Rattle.term_reach.proofs.Ways.{reaches_itself, argument_earlier}
use Rattle.access_tables.specs.Leading.{leads, leads_by}
use Rattle.access_tables.proofs.Building.{args_at}
use Rattle.array_watches.specs.Needed.{watched, index_by, index_at}
use Rattle.array_watches.specs.Watched.{Reached, IsEquality, IsConstant, IsWatched}
use Rattle.array_watches.proofs.Growing.{IsLonger, long_long, long_count, watched_long}
use Rattle.array_watches.proofs.Whole.{longer_found, watch_is, watches_are_made}
use Rattle.array_images.specs.Covered.{IsCovered}
use Rattle.array_images.specs.Brought.{followed, Becomes}
use Rattle.array_images.specs.Walking.{IsRewritten, HasMadeWords, HasWatches}
use Rattle.array_images.proofs.Under.{some_in, reaches_next}
use Rattle.array_images.proofs.Covered.{watch_found, fact, led_is_covered}

-- ---- where images end

abbrev or_on : ℕ → Option ℕ → (ℕ → ℕ) → ℕ
or_on t None f = t
or_on t (Some u) f = f u

end_by : (ℕ → Option ℕ) → ℕ → ℕ → ℕ
end_by image zero t = t
end_by image (suc k) t = or_on t (image t) (end_by image k)

-- the last of the images of a term
record IsLast (image : ℕ → Option ℕ) (t e : ℕ) : Type 0 where
  none : image e ≡ None
  becomes : Becomes image t e

module _ (image : ℕ → Option ℕ) where
  -- two ways along images meet
  meets : (t : ℕ) (way : List ℕ) (u : ℕ) (rest : List ℕ) (e : ℕ) → IsWay (followed image) t way u → IsWay (followed image) t rest e → image e ≡ None → Becomes image u e
  meets t [] u rest e h k none = subst (λ x. Becomes image x e) h (rest, k)
  meets t (y ∷ way) u [] e h k none =
      let z : None ≡ Some y = sym none ∙ ap image (sym k) ∙ some_in (image t) y h.0 in
      let f : ⊥ = cc in absurd f
  meets t (y ∷ way) u (z ∷ rest) e h k none =
      let same : y ≡ z = (let q : Some y ≡ Some z = sym (some_in (image t) y h.0) ∙ some_in (image t) z k.0 in cc) in
      meets y way u rest e h.1 (subst (λ x. IsWay (followed image) x rest e) (sym same) k.1) none

  module _ (rank : ℕ → ℕ) (falls : (t u : ℕ) → image t ≡ Some u → rank u < rank t) where
    is_last : (k t : ℕ) → rank t ≤ k → IsLast image t (end_by image k t)
    unfolding end_by
    is_last zero t le = record { none = go (image t) refl; becomes = reaches_itself (followed image) t }
      where
        go : (o : Option ℕ) → image t ≡ o → image t ≡ None
        go None e = e
        go (Some u) e = let f = falls t u e in absurd (omega (arith, f, le))
    is_last (suc k) t le = go (image t) refl (λ u less. is_last k u less)
      where
        go : (o : Option ℕ) → image t ≡ o → ((u : ℕ) → rank u ≤ k → IsLast image u (end_by image k u)) → IsLast image t (or_on t o (end_by image k))
        go None e f = record { none = e; becomes = reaches_itself (followed image) t }
        go (Some u) e f =
            let less = falls t u e in
            let h = f u (omega (arith, less, le)) in
            record { none = h.none; becomes = reaches_next (followed image) t u (end_by image k u) (subst (λ o. Contains (option_to_list o) u) (sym e) (0, omega arith, refl)) h.becomes }

    last : ℕ → ℕ
    last t = end_by image (rank t) t

    -- what a term becomes goes on to its last image
    becomes_last : (t u : ℕ) → Becomes image t u → Becomes image u (last t)
    unfolding last
    becomes_last t u r =
        let h = is_last (rank t) t (omega arith) in
        meets t r.0 u h.becomes.0 (end_by image (rank t) t) r.1 h.becomes.1 h.none

-- ---- terms and what was made before

record IsWordAt (nodes : List Node) (n k w : ℕ) : Type 0 where
  held : w < length nodes
  node : node_at nodes w ≡ leaf (Word n k)
  sort : sort_of nodes w ≡ sort.Word n

word_at : (nodes : List Node) → IsTermList nodes → (n k w : ℕ) → term_of nodes (leaf (Word n k)) ≡ Some w → IsWordAt nodes n k w
word_at nodes list n k w e =
    let h = at_place nodes (leaf (Word n k)) w e in
    let rank : op_rank (Word n k) [] ≡ Ok (sort_of nodes w) = ap (λ (x : Node). op_rank x.op (map (sort_of nodes) x.args)) (sym h.1) ∙ (list w h.0).rank in
    let g = guard_ok (nat_lt k (2 ^ n)) (word_sort n) (WrongSort 0) (sort_of nodes w) rank in
    record { held = h.0; node = h.1; sort = sym (word_sort_ok n (sort_of nodes w) g.1).0 }

module _ (old nodes : List Node) (image : ℕ → Option ℕ) (roots : List ℕ) (h : IsRewritten old nodes image roots) where
  abbrev made : List Node
  made = watched old roots

  made_longer : IsLonger made nodes
  made_longer = (h.more, h.begins)

  longer : IsLonger old nodes
  longer = long_long old made nodes (watched_long old roots) made_longer

  old_list : IsTermList old
  old_list = let l = long_long old made nodes (watched_long old roots) made_longer in list_shorter old l.0 (subst IsTermList l.1 h.list)

  are_made : IsWatched old made roots
  are_made = watches_are_made old roots old_list h.held

  node_there : (xs : List Node) → IsLonger xs nodes → (t : ℕ) → t < length xs → node_at nodes t ≡ node_at xs t
  node_there xs l t lt = ap (λ ns. node_at ns t) l.1 ∙ node_longer xs l.0 t lt

  sort_there : (xs : List Node) → IsLonger xs nodes → (t : ℕ) → t < length xs → sort_of nodes t ≡ sort_of xs t
  sort_there xs l t lt = ap (λ ns. sort_of ns t) l.1 ∙ sort_longer xs l.0 t lt

  shape_there : (xs : List Node) → IsLonger xs nodes → (t : ℕ) → t < length xs → shape_at nodes t ≡ shape_at xs t
  shape_there xs l t lt = ap (λ (n : Node). shape_of n.op n.args) (node_there xs l t lt)

  -- what is reached through arguments was there, and was reached
  record WasReached (t : ℕ) : Type 0 where
    held : t < length old
    reached : Reached old roots t

  was_reached : (t : ℕ) → Reached nodes roots t → WasReached t
  was_reached t r =
      let w = go r.0 r.2.0 r.2.1 (All-contains (λ x. x < length old) roots r.0 h.held r.1) in
      record { held = w.1; reached = (r.0, r.1, (r.2.0, w.0)) }
    where
      go : (x : ℕ) (way : List ℕ) → IsWay (arguments nodes) x way t → x < length old → IsWay (arguments old) x way t × (t < length old)
      go x [] e lt = (e, subst (λ y. y < length old) e lt)
      go x (y ∷ way) w lt =
          let c : Contains (arguments old x) y = subst (λ (n : Node). Contains n.args y) (node_there old longer x lt) w.0 in
          let less = argument_earlier old old_list x y c in
          let rest = go y way w.1 (omega (arith, less, lt)) in
          ((c, rest.0), rest.1)

  covered : (t : ℕ) → IsReached (leads nodes image) roots t → IsCovered nodes image roots t
  covered t r = led_is_covered nodes h.list image h.brought roots t r

  -- ---- watches

  equality_there : (t a b : ℕ) → WasReached t → shape_at nodes t ≡ Equating a b → is_array (sort_of nodes a) ≡ true → IsEquality old roots t a b
  equality_there t a b w shape arrays =
      let own = sym (shape_there old longer t w.held) ∙ shape in
      let less = argument_earlier old old_list t a (subst (λ l. Contains l a) (sym (args_at old t (Equating a b) own)) (0, omega arith, refl)) in
      let lt = w.held in
      record { here = w.reached; shape = own; arrays = ap is_array (sym (sort_there old longer a (omega (arith, less, lt)))) ∙ arrays }

  watch_there : (a b : ℕ) (w : Watch) → watch made a b ≡ Some w → watch nodes a b ≡ Some w
  watch_there a b w e =
      let f = watch_found made a b (term_of made (witness_node a b)) w e in
      watch_is nodes a b w.witness (record {
        l = w.left;
        r = w.right;
        witness = longer_found made nodes (witness_node a b) w.witness made_longer f.0;
        left = longer_found made nodes (select_node a w.witness) w.left made_longer f.1;
        right = longer_found made nodes (select_node b w.witness) w.right made_longer f.2;
      })

  watched_there : (t a b : ℕ) → WasReached t → shape_at nodes t ≡ Equating a b → is_array (sort_of nodes a) ≡ true → (w : Watch) × (watch made a b ≡ Some w)
  watched_there t a b was shape arrays = some_value (watch made a b) (are_made.watches t a b (equality_there t a b was shape arrays))

  -- ---- index words

  record WasIndex (t i : ℕ) : Type 0 where
    is : index_at made t ≡ Some i
    held : i < length made

  old_made : length old ≤ length made
  old_made = long_count old made (watched_long old roots)

  shape_made : (t : ℕ) → t < length old → shape_at made t ≡ shape_at nodes t
  shape_made t lt = let le = old_made in sym (shape_there made made_longer t (omega (arith, lt, le)))

  was_index : (t i : ℕ) (k : Shape) → WasReached t → shape_at nodes t ≡ k → index_by nodes k ≡ Some i → WasIndex t i
  was_index t i (Selecting a j) was e q =
      let own = shape_made t was.held ∙ e in
      let same : j ≡ i = cc in
      let less = argument_earlier nodes h.list t j (subst (λ l. Contains l j) (sym (args_at nodes t (Selecting a j) e)) (1, omega arith, refl)) in
      let lt = was.held in
      let le = old_made in
      record { is = ap (index_by made) own ∙ ap Some same; held = omega (arith, less, lt, le, same) }
  was_index t i (Storing b j v) was e q =
      let own = shape_made t was.held ∙ e in
      let same : j ≡ i = cc in
      let less = argument_earlier nodes h.list t j (subst (λ l. Contains l j) (sym (args_at nodes t (Storing b j v) e)) (1, omega arith, refl)) in
      let lt = was.held in
      let le = old_made in
      record { is = ap (index_by made) own ∙ ap Some same; held = omega (arith, less, lt, le, same) }
  was_index t i (Equating a b) was e q =
      let own = shape_made t was.held ∙ e in
      let p = at_place nodes (witness_node a b) i q in
      let facts : WitnessFacts (sort_of nodes) i a b = fact nodes h.list i (Witnessing a b) (ap (λ (n : Node). shape_of n.op n.args) p.1) in
      let w = watched_there t a b was e (ap is_array facts.left_sort) in
      let found = watch_found made a b (term_of made (witness_node a b)) w.0 w.1 in
      let there = longer_found made nodes (witness_node a b) w.0.witness made_longer found.0 in
      let same : w.0.witness ≡ i = (let z : Some w.0.witness ≡ Some i = sym there ∙ q in cc) in
      record { is = ap (index_by made) own ∙ found.0 ∙ ap Some same; held = subst (λ x. x < length made) same (at_place made (witness_node a b) w.0.witness found.0).0 }
  was_index t i k was e q = let f : ⊥ = cc in absurd f

  becomes_sort : (t u : ℕ) → Becomes image t u → sort_of nodes t ≡ sort_of nodes u
  becomes_sort t u r = go t r.0 r.1
    where
      go : (x : ℕ) (way : List ℕ) → IsWay (followed image) x way u → sort_of nodes x ≡ sort_of nodes u
      go x [] e = ap (sort_of nodes) e
      go x (y ∷ way) w = sym (h.images.sort x y (some_in (image x) y w.0)) ∙ go y way w.1

  rank : ℕ → ℕ
  rank = h.acyclic.0

  rank_falls : (t u : ℕ) → image t ≡ Some u → rank u < rank t
  unfolding rank
  rank_falls t u e = h.acyclic.1 t u (subst (λ o. Contains (leads_by nodes t o) u) (sym e) (0, omega arith, refl))

  abbrev end : ℕ → ℕ
  end = last image rank rank_falls

  in_map : (xs : List ℕ) (x : ℕ) → Contains xs x → Contains (map end xs) (end x)
  in_map xs x c = Contains-map end xs x c

  held_words : (t n : ℕ) → IsConstant old roots t n → HasMadeWords old nodes image roots n
  held_words t n constant =
      let k = are_made.words t n constant in
      record {
        indexes = map end k.indexes;
        among = λ u l own start width.
            let c = (covered u own.0).index l start in
            let was = was_reached c.term c.reached in
            let i = was_index c.term c.old (shape_at nodes c.term) was refl c.is in
            let s = sym (sort_there made made_longer c.old i.held) ∙ becomes_sort c.old l.index c.becomes ∙ width in
            (end c.old, in_map k.indexes c.old (k.are.all c.term c.old was.reached i.is s), becomes_last image rank rank_falls c.old l.index c.becomes);
        words = λ x lt le.
            let less : x ≤ length k.indexes = subst (λ m. x ≤ m) (length-map k.indexes end) le in
            let w = some_value (term_of made (leaf (Word n x))) (k.words x lt less) in
            let found = longer_found made nodes (leaf (Word n x)) w.0 made_longer w.1 in
            let at = word_at nodes h.list n x w.0 found in (
              w.0,
              record {
                held = at.held;
                found = found;
                sort = at.sort;
                is = record { width = n; number = x; array = t; constant = constant; indexes = k.indexes; are = k.are; within = (lt, less); is = at.node };
              },
            );
      }

  pub has_watches : HasWatches old nodes image roots
  has_watches = record {
    watches = λ t a b n m own shape sides.
        let arrays = ap is_array sides in
        let w = watched_there t a b (was_reached t ((covered t own.0).equality a b shape arrays)) shape arrays in
        ap is_some (watch_there a b w.0 w.1);
    words = λ t x n m own shape array.
        let was = was_reached t ((covered t own.0).array (ap is_array array)) in
        held_words t n (record { element = x; width = m; here = was.reached; shape = sym (shape_there old longer t was.held) ∙ shape; sort = sym (sort_there old longer t was.held) ∙ array });
  }
