-- Where no array is reached a check makes nothing before all else.
use Rattle.std.proofs.Common.{◌≡◌, ℕ, zero, suc, Bool, true, false, List, [], ◌∷◌, refl, sym, ap, ◌∙◌, subst}
use Rattle.std.specs.Prelude.{Contains, if◌then◌else◌}
use Rattle.std.specs.List.{filter, filter_map}
use Rattle.cnf_base.proofs.Lists.{Contains-first, Contains-later}
use Rattle.smt_terms.specs.declared.operator.Operator.TheVariants as plain
use Rattle.smt_terms.specs.declared.node.Op.{Op}
use Rattle.smt_terms.specs.declared.node.Op.TheVariants.{Plain, ConstantArray}
use Rattle.smt_terms.specs.declared.node.Node.{Node}
use Rattle.smt_terms.specs.Nodes.{node_at}
use Rattle.smt_terms.specs.Ranks.{is_array}
use Rattle.smt_terms.specs.Terms.{sort_of, IsTermList}
use Rattle.theory_terms.specs.declared.shape.Shape.TheVariants.{Equating}
use Rattle.theory_terms.specs.Shapes.{shape_of, shape_at}
use Rattle.term_reach.specs.Reach.{arguments, IsReached}
use Rattle.term_reach.proofs.Ways.{reached_further}
use Rattle.array_watches.specs.Reaching.{reached}
use Rattle.array_watches.specs.Needed.{is_array_equality, equalities, with_watches, filled_at, is_filled, with_words, index_count, with_index_words, watched}
use Rattle.array_watches.proofs.Members.{among, found}
use Rattle.array_watches.proofs.Reached.{reached_only}
use Rattle.array_watches.proofs.Steps.{equality_by}
use Rattle.array_watches.proofs.Whole.{filled_is}

-- the sides of an equality are its arguments
equating_args : (op : Op) (args : List ℕ) (a b : ℕ) → shape_of op args ≡ Equating a b → args ≡ a ∷ b ∷ []
equating_args (Plain plain.Equal) (x ∷ y ∷ []) a b e = let p : x ≡ a = cc in let q : y ≡ b = cc in cc
equating_args (Plain plain.Ite) (x ∷ y ∷ z ∷ []) a b e = let f : ⊥ = cc in absurd f
equating_args (Plain plain.Store) (x ∷ y ∷ z ∷ []) a b e = let f : ⊥ = cc in absurd f
equating_args (Plain plain.Select) (x ∷ y ∷ []) a b e = let f : ⊥ = cc in absurd f
equating_args (Plain plain.Witness) (x ∷ y ∷ []) a b e = let f : ⊥ = cc in absurd f
equating_args (ConstantArray k) (x ∷ []) a b e = let f : ⊥ = cc in absurd f
equating_args op args a b e = let f : ⊥ = cc in absurd f

filter_none : (p : ℕ → Bool) (xs : List ℕ) → ((x : ℕ) → Contains xs x → p x ≡ false) → filter p xs ≡ []
filter_none p [] h = refl
filter_none p (x ∷ xs) h = ap (λ b. if b then x ∷ filter p xs else filter p xs) (h x (Contains-first x xs)) ∙ filter_none p xs (λ y c. h y (Contains-later x y xs c))

none_filled : (made : List Node) (terms : List ℕ) (n : ℕ) → ((k : ℕ) → is_filled made terms k ≡ false) → with_index_words made terms n ≡ made
none_filled made terms zero h = refl
none_filled made terms (suc n) h =
    ap (λ b. if b then with_words (with_index_words made terms n) (suc n) (suc (index_count made terms (suc n))) else with_index_words made terms n) (h (suc n))
    ∙ none_filled made terms n h

module _ (nodes : List Node) (roots : List ℕ) (list : IsTermList nodes) (none : (t : ℕ) → IsReached (arguments nodes) roots t → is_array (sort_of nodes t) ≡ false) where
  no_equality : (t : ℕ) → Contains (reached nodes roots) t → is_array_equality nodes t ≡ false
  no_equality t c = go (is_array_equality nodes t) refl
    where
      go : (b : Bool) → is_array_equality nodes t ≡ b → b ≡ false
      go false e = refl
      go true e =
          let k = equality_by (sort_of nodes) (shape_at nodes t) e in
          let args : arguments nodes t ≡ k.0 ∷ k.1 ∷ [] = equating_args (node_at nodes t).op (node_at nodes t).args k.0 k.1 k.2 in
          let left : Contains (arguments nodes t) k.0 = subst (λ l. Contains l k.0) (sym args) (Contains-first k.0 (k.1 ∷ [])) in
          let here = reached_further (arguments nodes) roots t k.0 (reached_only nodes list roots t c) left in
          let f : true ≡ false = sym k.3 ∙ none k.0 here in
          let z : ⊥ = cc in absurd z

  no_constant : (n : ℕ) → is_filled nodes (reached nodes roots) n ≡ false
  no_constant n = go (is_filled nodes (reached nodes roots) n) refl
    where
      go : (b : Bool) → is_filled nodes (reached nodes roots) n ≡ b → b ≡ false
      go false e = refl
      go true e =
          let f = found (filled_at nodes) (reached nodes roots) n ((among (filter_map (filled_at nodes) (reached nodes roots)) n).0 e) in
          let u = filled_is (shape_at nodes f.0) (sort_of nodes f.0) n f.2 in
          let g : true ≡ false = sym (ap is_array u.3) ∙ none f.0 (reached_only nodes list roots f.0 f.1) in
          let z : ⊥ = cc in absurd z

pub words_need_no_watches : (nodes : List Node) (roots : List ℕ) → IsTermList nodes → ((t : ℕ) → IsReached (arguments nodes) roots t → is_array (sort_of nodes t) ≡ false) → watched nodes roots ≡ nodes
unfolding watched
words_need_no_watches nodes roots list none =
    let empty : equalities nodes roots ≡ [] = filter_none (is_array_equality nodes) (reached nodes roots) (no_equality nodes roots list none) in
    ap (λ ts. with_index_words (with_watches nodes ts) (reached nodes roots) 128) empty
    ∙ none_filled nodes (reached nodes roots) 128 (no_constant nodes roots list none)
