-- Values of terms at places.
use Rattle.std.proofs.Common.{◌≡◌, ℕ, suc, ◌+◌, ◌<◌, ◌≤◌, false, List, [], ◌∷◌, ◌++◌, length, map, get_or, take, Option, Some, None, refl, sym, ap, ◌∙◌, subst, ⊎_elim, arith, length-append}
use Rattle.std.specs.Prelude.{All, Contains, is_ok}
use Rattle.std.specs.List.{AllByRecursion}
use Rattle.std.proofs.lemmas.Option.{slice_get_within, slice_get-get_or}
use Rattle.std.proofs.lemmas.List.Elements.{Contains-get_or}
use Rattle.std.specs.Prelude.{slice_get, MatchOption}
use Rattle.std.proofs.lemmas.List.{get_or_append_left, take_more}
use Rattle.std.proofs.Math.Seq.{get_or-append_seam}
use Rattle.std.proofs.lemmas.Bool.{cases_lt}
use Rattle.smt_terms.specs.declared.node.Node.{Node}
use Rattle.smt_terms.specs.Nodes.{node_at}
use Rattle.smt_terms.specs.Terms.{IsTermList, op_rank, sort_of}
use Rattle.smt_terms.specs.Values as of
use Rattle.smt_terms.proofs.Typing.{typed, value_is}
use Rattle.smt_values.specs.declared.value.Value.{Value}
use Rattle.smt_values.specs.declared.value.Value.TheVariants as held
use Rattle.smt_values.specs.Held.{meaning, IsOfSort}
use Rattle.smt_eval.specs.Evaluated.{held_value, is_table, kind_of, IsTyped, given, AreTaken, IsGiven}
use Rattle.term_reach.specs.Reach.{IsOnce}
use Rattle.smt_eval.specs.Asked.{AreValuesOf, IsValueAt, AreAtPlaces, AreComputed}
use Rattle.smt_eval.proofs.Evaluating.{kind_is, of_kind}

-- the values of so many of the terms are computed, the first ones first
pub record IsComputing (M : of.Interpretation) (nodes : List Node) (reached : List ℕ) (values : List Value) (done : ℕ) : Type 0 where
  pub count : length values ≡ done
  pub placed : (k t : ℕ) → k < done → slice_get reached k ≡ Some t → IsValueAt M nodes values t k

-- the values of terms have these places
abbrev pub ArePlaced : of.Interpretation → List Node → List Value → List ℕ → List ℕ → Type 0
ArePlaced M nodes values [] [] = Unit {0}
ArePlaced M nodes values [] (p ∷ ps) = ⊥
ArePlaced M nodes values (t ∷ ts) [] = ⊥
ArePlaced M nodes values (t ∷ ts) (p ∷ ps) = IsValueAt M nodes values t p × ArePlaced M nodes values ts ps

pub at_places_more : (reached terms out : List ℕ) (t p : ℕ) → AreAtPlaces reached terms out → slice_get reached p ≡ Some t → AreAtPlaces reached (terms ++ t ∷ []) (out ++ p ∷ [])
at_places_more reached [] [] t p h e = (e, tt)
at_places_more reached [] (q ∷ out) t p h e = absurd h
at_places_more reached (u ∷ terms) [] t p h e = absurd h
at_places_more reached (u ∷ terms) (q ∷ out) t p h e = (h.0, at_places_more reached terms out t p h.1 e)

-- terms that stand before the next one are computed
pub placed_from : (M : of.Interpretation) (nodes : List Node) (reached : List ℕ) (values : List Value) (done : ℕ) (args ps : List ℕ) → IsComputing M nodes reached values done → IsOnce reached
    → ((a : ℕ) → Contains args a → (j : ℕ) × (j < done) × (slice_get reached j ≡ Some a)) → AreAtPlaces reached args ps → ArePlaced M nodes values args ps
placed_from M nodes reached values done [] [] h once before at = tt
placed_from M nodes reached values done [] (p ∷ ps) h once before at = absurd at
placed_from M nodes reached values done (a ∷ args) [] h once before at = absurd at
placed_from M nodes reached values done (a ∷ args) (p ∷ ps) h once before at =
    let first : Contains (a ∷ args) a = Contains-get_or (a ∷ args) 0 a (omega arith) in
    let j = before a first in
    let same : p ≡ j.0 = once p j.0 a at.0 j.2 in
    let lt : p < done = omega (arith, same, j.1) in
    (h.placed p a lt at.0, placed_from M nodes reached values done args ps h once (λ b c. (let more : suc c.0 < length (a ∷ args) = omega (arith, c.1) in before b (suc c.0, more, c.2))) at.1)

module _ (M : of.Interpretation) (nodes : List Node) (terms : IsTermList nodes) (values : List Value) where
  sorted : (a p : ℕ) → a < length nodes → IsValueAt M nodes values a p → of.HasSort (sort_of nodes a) (meaning (held_value values p))
  sorted a p lt v = subst (of.HasSort (sort_of nodes a)) (sym v.means) (typed M nodes terms a lt)

  kind : (a p : ℕ) → a < length nodes → IsValueAt M nodes values a p → kind_of (held_value values p) ≡ sort_of nodes a
  kind a p lt v = kind_is (sort_of nodes a) (held_value values p) v.plain (sorted a p lt v)

  -- the values of arguments at their places
  record AreAt (args ps : List ℕ) : Type 0 where
    pub within : AllByRecursion (λ p. p < length values) ps
    pub typed : AllByRecursion IsTyped (given values ps)
    pub kinds : map kind_of (given values ps) ≡ map (sort_of nodes) args
    pub means : map meaning (given values ps) ≡ map (of.value M nodes) args

  are_at : (args ps : List ℕ) → AllByRecursion (λ a. a < length nodes) args → ArePlaced M nodes values args ps → AreAt args ps
  are_at [] [] held e = record { within = tt; typed = tt; kinds = refl; means = refl }
  are_at [] (p ∷ ps) held e = absurd e
  are_at (a ∷ args) [] held e = absurd e
  are_at (a ∷ args) (p ∷ ps) held e =
      let r = are_at args ps held.1 e.1 in
      let v = e.0 in
      let k = kind a p held.0 v in
      record {
        within = (v.within, r.within);
        typed = (record { plain = v.plain; sorted = subst (λ s. of.HasSort s (meaning (held_value values p))) (sym k) (sorted a p held.0 v) }, r.typed);
        kinds = rw (k, r.kinds) refl;
        means = rw (v.means, r.means) refl;
      }

  arguments_at : (t : ℕ) (args ps : List ℕ) → t < length nodes → args ≡ (node_at nodes t).args → ArePlaced M nodes values args ps → AreAt (node_at nodes t).args ps
  arguments_at t args ps lt are e =
      are_at (node_at nodes t).args ps (below (node_at nodes t).args (terms t lt).earlier) (subst (λ xs. ArePlaced M nodes values xs ps) are e)
    where
      below : (xs : List ℕ) → AllByRecursion (λ a. a < t) xs → AllByRecursion (λ a. a < length nodes) xs
      below [] h = tt
      below (x ∷ xs) h = (omega (arith, h.0, lt), below xs h.1)

  pub next_within : (t : ℕ) (args ps : List ℕ) → t < length nodes → args ≡ (node_at nodes t).args → ArePlaced M nodes values args ps → AllByRecursion (λ p. p < length values) ps
  next_within t args ps lt are e = (arguments_at t args ps lt are e).within

  -- the next term's arguments are taken
  pub next_taken : (t : ℕ) (args ps : List ℕ) → t < length nodes → args ≡ (node_at nodes t).args → ArePlaced M nodes values args ps → AreTaken (node_at nodes t).op (given values ps)
  next_taken t args ps lt are e =
      let r = arguments_at t args ps lt are e in
      record { typed = r.typed; rank = ap is_ok (ap (op_rank (node_at nodes t).op) r.kinds ∙ (terms t lt).rank) }

  -- what is given for them is its value
  pub next_value : (t : ℕ) (args ps : List ℕ) (v : Value) → t < length nodes → args ≡ (node_at nodes t).args → ArePlaced M nodes values args ps → IsGiven M (node_at nodes t).op (given values ps) v → meaning v ≡ of.value M nodes t
  next_value t args ps v lt are e g = g.value ∙ ap (of.op_value M (node_at nodes t).op) (arguments_at t args ps lt are e).means ∙ sym (value_is M nodes t (terms t lt))

-- ---- one value more

value_stays : (M : of.Interpretation) (nodes : List Node) (values : List Value) (v : Value) (t p : ℕ) → IsValueAt M nodes values t p → IsValueAt M nodes (values ++ v ∷ []) t p
value_stays M nodes values v t p h =
    let same : held_value (values ++ v ∷ []) p ≡ held_value values p = get_or_append_left values (v ∷ []) (held.Bool false) p h.within in
    record {
      within = omega (arith, h.within, length-append values (v ∷ []));
      plain = ap is_table same ∙ h.plain;
      means = ap meaning same ∙ h.means;
    }

value_here : (M : of.Interpretation) (nodes : List Node) (values : List Value) (v : Value) (t : ℕ) → is_table v ≡ false → meaning v ≡ of.value M nodes t → IsValueAt M nodes (values ++ v ∷ []) t (length values)
value_here M nodes values v t plain means =
    let same : held_value (values ++ v ∷ []) (length values) ≡ v = get_or-append_seam values v [] (held.Bool false) in
    record {
      within = omega (arith, length-append values (v ∷ []));
      plain = ap is_table same ∙ plain;
      means = ap meaning same ∙ means;
    }

-- one term more
pub computing_more : (M : of.Interpretation) (nodes : List Node) (reached : List ℕ) (values more : List Value) (done t : ℕ) (v : Value) → IsComputing M nodes reached values done → slice_get reached done ≡ Some t
    → is_table v ≡ false → meaning v ≡ of.value M nodes t → more ≡ values ++ v ∷ [] → IsComputing M nodes reached more (done + 1)
computing_more M nodes reached values more done t v h at plain means e =
    subst (λ vs. IsComputing M nodes reached vs (done + 1)) (sym e)
    (record {
      count = omega (arith, length-append values (v ∷ []), h.count);
      placed = λ k u lt q. ⊎_elim
          (λ (less : k < done). value_stays M nodes values v u k (h.placed k u less q))
          (λ (le : done ≤ k).
          (let same : k ≡ done = omega (arith, le, lt) in
          let both : Some u ≡ Some t = sym q ∙ ap (slice_get reached) same ∙ at in
          let own : u ≡ t = cc in
          subst (λ x. IsValueAt M nodes (values ++ v ∷ []) x k) (sym own) (subst (IsValueAt M nodes (values ++ v ∷ []) t) (h.count ∙ sym same) (value_here M nodes values v t plain means))))
          (cases_lt k done);
    })

pub computed_all : (M : of.Interpretation) (nodes : List Node) (reached : List ℕ) (values : List Value) (done : ℕ) → IsComputing M nodes reached values done → length reached ≤ done → AreComputed M nodes reached values
computed_all M nodes reached values done h le k t e = (let lt = slice_get_within reached k t e in h.placed k t (omega (arith, lt, le)) e)

-- ---- the values that are asked for

pub asked_none : (M : of.Interpretation) (nodes : List Node) (values : List Value) → values ≡ [] → AreValuesOf M nodes [] values
asked_none M nodes values e = record { count = ap length e; means = λ k lt. absurd (omega (arith, lt)); sorted = λ k lt. absurd (omega (arith, lt)) }

pub asked_more : (M : of.Interpretation) (nodes : List Node) (asked : List ℕ) (kept values more : List Value) (k p : ℕ) (v : Value) → IsTermList nodes → All (λ t. t < length nodes) asked
    → AreValuesOf M nodes (take k asked) values → k < length asked → IsValueAt M nodes kept (get_or asked k 0) p → v ≡ held_value kept p → more ≡ values ++ v ∷ [] → AreValuesOf M nodes (take (k + 1) asked) more
asked_more M nodes asked kept values more k p v terms within are lt at_place here e =
    let t = get_or asked k 0 in
    let means : meaning v ≡ of.value M nodes (get_or asked k 0) = ap meaning here ∙ at_place.means in
    let kind : IsOfSort (sort_of nodes (get_or asked k 0)) v = of_kind (sort_of nodes t) v (ap is_table here ∙ at_place.plain) (subst (of.HasSort (sort_of nodes t)) (sym means) (typed M nodes terms t (within k 0 lt))) in
    subst (AreValuesOf M nodes (take (k + 1) asked)) (sym e)
    (subst (λ ts. AreValuesOf M nodes ts (values ++ v ∷ [])) (sym (take_more asked k 0 lt)) (pushed (take k asked) (get_or asked k 0) are means kind))
  where
    pushed : (ts : List ℕ) (t : ℕ) → AreValuesOf M nodes ts values → meaning v ≡ of.value M nodes t → IsOfSort (sort_of nodes t) v → AreValuesOf M nodes (ts ++ t ∷ []) (values ++ v ∷ [])
    pushed ts t are means kind = record {
      count = length-append values (v ∷ []) ∙ ap (λ n. n + 1) are.count ∙ sym (length-append ts (t ∷ []));
      means = λ j less. each (λ x w. meaning w ≡ of.value M nodes x) are.means means j less;
      sorted = λ j less. each (λ x w. IsOfSort (sort_of nodes x) w) are.sorted kind j less;
    }
      where
        each : (P : ℕ → Value → Type 0) → ((j : ℕ) → j < length ts → P (get_or ts j 0) (held_value values j)) → P t v → (j : ℕ) → j < length (ts ++ t ∷ []) → P (get_or (ts ++ t ∷ []) j 0) (held_value (values ++ v ∷ []) j)
        each P old new j less = ⊎_elim
            (λ (before : j < length ts).
            subst (λ x. P x (held_value (values ++ v ∷ []) j)) (sym (get_or_append_left ts (t ∷ []) 0 j before))
            (subst (P (get_or ts j 0)) (sym (get_or_append_left values (v ∷ []) (held.Bool false) j (omega (arith, before, are.count)))) (old j before)))
            (λ (after : length ts ≤ j).
            let last : length ts ≡ j = omega (arith, after, less, length-append ts (t ∷ [])) in
            let same : length values ≡ j = are.count ∙ last in
            subst (λ i. P (get_or (ts ++ t ∷ []) i 0) (held_value (values ++ v ∷ []) j)) last
            (subst (λ x. P x (held_value (values ++ v ∷ []) j)) (sym (get_or-append_seam ts t [] 0))
            (subst (λ i. P t (held_value (values ++ v ∷ []) i)) same
            (subst (P t) (sym (get_or-append_seam values v [] (held.Bool false))) new))))
            (cases_lt j (length ts))

-- ---- what the code reads

pub next_at : (reached items : List ℕ) (k : ℕ) → items ≡ reached → k < length items → slice_get reached k ≡ Some (get_or items k 0)
next_at reached items k e lt = ap (λ xs. slice_get xs k) (sym e) ∙ slice_get-get_or items k 0 lt

pub found_at : (reached : List ℕ) (o : Option ℕ) (t p : ℕ) → MatchOption o (Contains reached t → ⊥) (λ k. slice_get reached k ≡ Some t) → o ≡ Some p → slice_get reached p ≡ Some t
found_at reached None t p h e = let q : ⊥ = cc in absurd q
found_at reached (Some k) t p h e = let own : k ≡ p = cc in subst (λ x. slice_get reached x ≡ Some t) own h
