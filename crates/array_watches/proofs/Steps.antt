-- The steps of making: a watch, the watches of equalities one after the other, and words width by width.
use Rattle.std.proofs.Common.{◌≡◌, ℕ, suc, ◌+◌, ◌<◌, ◌≤◌, Bool, true, false, List, ◌∷◌, length, get_or, drop, Result, Ok, Err, refl, sym, ap, ◌∙◌, subst, ⊎_elim, arith}
use Rattle.std.specs.Prelude.{◌^◌, ◌==◌, Contains, MatchBool, if◌then◌else◌}
use Rattle.std.specs.List.{filter, filter_map, IsDistinct}
use Rattle.std.proofs.lemmas.Bool.{lt-ltb, le-ltb, cases_lt}
use Rattle.std.proofs.lemmas.List.{drop_all}
use Rattle.std.proofs.Math.Seq.{drop-cons}
use Rattle.std.specs.Bool.{one_answer}
use Rattle.smt_terms.specs.declared.sort.Sort.{Sort}
use Rattle.smt_terms.specs.declared.node.Op.TheVariants.{Word}
use Rattle.smt_terms.specs.declared.node.Node.{Node}
use Rattle.smt_terms.specs.declared.fault.MakeError.{MakeError}
use Rattle.smt_terms.specs.declared.fault.MakeError.TheVariants.{NoMemory, Fault}
use Rattle.smt_terms.specs.Nodes.{leaf}
use Rattle.smt_terms.specs.Ranks.{is_array}
use Rattle.smt_terms.specs.Terms.{TermsValue, IsTermList, sort_of}
use Rattle.smt_terms.proofs.Growing.{node_longer}
use Rattle.theory_terms.specs.declared.shape.Shape.{Shape}
use Rattle.theory_terms.specs.declared.shape.Shape.TheVariants.{Equating}
use Rattle.theory_terms.specs.Shapes.{shape_of, shape_at}
use Rattle.theory_terms.specs.Lemmas.{witness_node, select_node}
use Rattle.array_watches.specs.Reaching.{is_among}
use Rattle.array_watches.specs.Needed.{with_node, with_watch, with_watch_by, with_watches, equates_arrays, is_array_equality, index_at, filled_at, is_filled, has_width, index_count, with_word, with_words, with_index_words}
use Rattle.array_watches.specs.Making.{AreSame, IsWellSorted, value_of, Extends, with_width_words, IsPut, IsRefused, IsMaking}
use Rattle.array_watches.proofs.Members.{among}
use Rattle.array_watches.proofs.Growing.{IsLonger, same_long, node_long, selects_long, watches_long, words_long, words_up, index_words_long, same_terms, more_terms, made_extends}
use Rattle.array_watches.proofs.Sorted.{AreArrays, sides, arrays_longer, first, at, second, left_sorted, right_sorted}
use Rattle.array_watches.proofs.Putting.{put_fails, part_fails, put_on}
use Rattle.array_watches.proofs.Counting.{count_same, count_longer, indexes_held, same_same}

-- ---- a watch

module _ (old : TermsValue) (list : IsTermList old.nodes) (a b : ℕ) (are : AreArrays old.nodes a b) where
  abbrev W : Node
  W = witness_node a b

  abbrev Goal : List Node
  Goal = with_watch old.nodes a b

  abbrev One : List Node
  One = first old.nodes list a b are

  abbrev At : ℕ
  At = at old.nodes list a b are

  abbrev Two : List Node
  Two = second old.nodes list a b are

  pub second_at : (w : ℕ) (mid : TermsValue) → IsPut old W (Ok w) mid → IsWellSorted mid.nodes (select_node a w)
  second_at w mid p =
      subst (λ (t : TermsValue). IsWellSorted t.nodes (select_node a w)) (sym p.1)
      (subst (λ k. IsWellSorted One (select_node a k)) (sym p.0) (left_sorted old.nodes list a b are))

  second_is : (w l : ℕ) (mid next : TermsValue) → IsPut old W (Ok w) mid → IsPut mid (select_node a w) (Ok l) next → next ≡ value_of Two old.limit
  second_is w l mid next p q =
      q.1 ∙ ap (λ (t : TermsValue). value_of (with_node t.nodes (select_node a w)) t.limit) p.1
      ∙ ap (λ k. value_of (with_node One (select_node a k)) old.limit) p.0

  pub third_at : (w l : ℕ) (mid next : TermsValue) → IsPut old W (Ok w) mid → IsPut mid (select_node a w) (Ok l) next → IsWellSorted next.nodes (select_node b w)
  third_at w l mid next p q =
      subst (λ (t : TermsValue). IsWellSorted t.nodes (select_node b w)) (sym (second_is w l mid next p q))
      (subst (λ k. IsWellSorted Two (select_node b k)) (sym p.0) (right_sorted old.nodes list a b are))

  pub first_fails : (e : MakeError) (new : TermsValue) → IsPut old W (Err e) new → IsRefused Goal e old new
  first_fails e new p = put_fails Goal old old W e new (same_terms old) p (selects_long One a b At)

  pub second_fails : (w : ℕ) (mid : TermsValue) (e : MakeError) (new : TermsValue) → IsPut old W (Ok w) mid → IsPut mid (select_node a w) (Err e) new → IsRefused Goal e old new
  second_fails w mid e new p q = put_fails Goal old mid (select_node a w) e new (put_on old W w mid p) q
      (subst (λ (t : TermsValue). IsLonger (with_node t.nodes (select_node a w)) Goal) (sym p.1)
      (subst (λ k. IsLonger (with_node One (select_node a k)) Goal) (sym p.0) (node_long Two (select_node b At))))

  pub third_fails : (w l : ℕ) (mid next : TermsValue) (e : MakeError) (new : TermsValue) → IsPut old W (Ok w) mid → IsPut mid (select_node a w) (Ok l) next → IsPut next (select_node b w) (Err e) new → IsRefused Goal e old new
  third_fails w l mid next e new p q r = put_fails Goal old next (select_node b w) e new (more_terms old mid next (put_on old W w mid p) (put_on mid (select_node a w) l next q)) r
      (subst (λ (t : TermsValue). IsLonger (with_node t.nodes (select_node b w)) Goal) (sym (second_is w l mid next p q))
      (subst (λ k. IsLonger (with_node Two (select_node b k)) Goal) (sym p.0) (same_long Goal)))

  pub all_put : (w l r : ℕ) (mid next new : TermsValue) → IsPut old W (Ok w) mid → IsPut mid (select_node a w) (Ok l) next → IsPut next (select_node b w) (Ok r) new → new ≡ value_of Goal old.limit
  all_put w l r mid next new p q k =
      k.1 ∙ ap (λ (t : TermsValue). value_of (with_node t.nodes (select_node b w)) t.limit) (second_is w l mid next p q)
      ∙ ap (λ i. value_of (with_node Two (select_node b i)) old.limit) p.0

-- ---- equalities

pub equality_by : (s : ℕ → Sort) (k : Shape) → equates_arrays s k ≡ true → (a : ℕ) × (b : ℕ) × (k ≡ Equating a b) × (is_array (s a) ≡ true)
equality_by s (Equating a b) e = (a, b, refl, e)
equality_by s k e = let f : ⊥ = cc in absurd f

pub equality_arrays : (nodes : List Node) → IsTermList nodes → (t a b : ℕ) → Equating a b ≡ shape_at nodes t → is_array_equality nodes t ≡ true → AreArrays nodes a b
equality_arrays nodes list t a b e is = sides nodes list t a b (sym e) (ap (equates_arrays (sort_of nodes)) e ∙ is)

pub shape_longer : (nodes more : List Node) → IsLonger nodes more → (t : ℕ) → t < length nodes → shape_at more t ≡ shape_at nodes t
shape_longer nodes more h t lt = ap (λ l. shape_at l t) h.1 ∙ ap (λ (n : Node). shape_of n.op n.args) (node_longer nodes h.0 t lt)

-- an equality of arrays is one in longer terms
pub equality_longer : (nodes more : List Node) → IsTermList nodes → IsLonger nodes more → (t : ℕ) → t < length nodes → is_array_equality nodes t ≡ true → is_array_equality more t ≡ true
equality_longer nodes more list h t lt e =
    let k = equality_by (sort_of nodes) (shape_at nodes t) e in
    let are = arrays_longer nodes more h k.0 k.1 (sides nodes list t k.0 k.1 k.2 k.3) in
    ap (equates_arrays (sort_of more)) (shape_longer nodes more h t lt ∙ k.2) ∙ ap is_array are.left

drop_next : (xs : List ℕ) (i d : ℕ) → i < length xs → drop i xs ≡ get_or xs i d ∷ drop (i + 1) xs
drop_next xs i d lt = let e : suc i ≡ i + 1 = omega arith in drop-cons xs i d lt ∙ ap (λ k. get_or xs i d ∷ drop k xs) e

module _ (goal : List Node) (ts : List ℕ) (i d : ℕ) (cur : TermsValue) (lt : i < length ts) (rest : with_watches cur.nodes (drop i ts) ≡ goal) where
  abbrev Part : List Node
  Part = with_watch_by cur.nodes (shape_at cur.nodes (get_or ts i d))

  onwards : with_watches Part (drop (i + 1) ts) ≡ goal
  onwards = ap (with_watches cur.nodes) (sym (drop_next ts i d lt)) ∙ rest

  pub watches_next : (new : TermsValue) → new ≡ value_of Part cur.limit → with_watches new.nodes (drop (i + 1) ts) ≡ goal
  watches_next new e = ap (λ (t : TermsValue). with_watches t.nodes (drop (i + 1) ts)) e ∙ onwards

  pub part_long : IsLonger Part goal
  part_long = subst (IsLonger Part) onwards (watches_long Part (drop (i + 1) ts))

pub watches_end : (goal : List Node) (ts : List ℕ) (i : ℕ) (old cur : TermsValue) → length ts ≤ i → with_watches cur.nodes (drop i ts) ≡ goal → Extends old cur → cur ≡ value_of goal old.limit
watches_end goal ts i old cur le rest h =
    let nodes : cur.nodes ≡ goal = ap (with_watches cur.nodes) (sym (drop_all i ts le)) ∙ rest in
    (λ j. record { nodes = nodes j; limit = h.limit j })

-- ---- words

pub word_in : (nodes : List Node) (n x : ℕ) → x < 2 ^ n → with_word nodes n x ≡ with_node nodes (leaf (Word n x))
word_in nodes n x lt = ap (λ b. if b then with_node nodes (leaf (Word n x)) else nodes) (lt-ltb x (2 ^ n) lt)

pub word_out : (nodes : List Node) (n x : ℕ) → (x < 2 ^ n → ⊥) → with_word nodes n x ≡ nodes
word_out nodes n x none = ap (λ b. if b then with_node nodes (leaf (Word n x)) else nodes) (le-ltb x (2 ^ n) (⊎_elim (λ lt. absurd (none lt)) (λ le. le) (cases_lt x (2 ^ n))))

module _ (old cur new : TermsValue) (n x : ℕ) (e : cur ≡ value_of (with_words old.nodes n x) old.limit) where
  pub words_next : new ≡ value_of (with_word cur.nodes n x) cur.limit → new ≡ value_of (with_words old.nodes n (x + 1)) old.limit
  words_next h =
      let one : suc x ≡ x + 1 = omega arith in
      h ∙ ap (λ (t : TermsValue). value_of (with_word t.nodes n x) t.limit) e ∙ ap (λ k. value_of (with_words old.nodes n k) old.limit) one

  pub words_fail : (err : MakeError) (count : ℕ) → x < count → IsRefused (with_word cur.nodes n x) err cur new → IsRefused (with_words old.nodes n count) err old new
  words_fail err count lt h =
      let long : IsLonger (with_word (with_words old.nodes n x) n x) (with_words old.nodes n count) = words_up old.nodes n (suc x) count (omega (arith, lt)) in
      part_fails (with_word cur.nodes n x) (with_words old.nodes n count) old cur err new
      (made_extends old cur (with_words old.nodes n x) e (words_long old.nodes n x)) h
      (subst (λ (t : TermsValue). IsLonger (with_word t.nodes n x) (with_words old.nodes n count)) (sym e) long)

pub has_is : (b : Bool) (ws : List ℕ) (n : ℕ) → MatchBool b (Contains ws n) (Contains ws n → ⊥) → b ≡ is_among ws n
has_is true ws n h = sym ((among ws n).1 h)
has_is false ws n h = go (is_among ws n) refl
  where
    go : (b : Bool) → is_among ws n ≡ b → false ≡ b
    go true e = absurd (h ((among ws n).0 e))
    go false e = refl

-- the words of one width more
module _ (made : List Node) (list : IsTermList made) (terms among_them ts indexes widths : List ℕ) (n : ℕ) (cur : List Node)
    (held : (t : ℕ) → Contains among_them t → t < length made) (same : AreSame ts among_them)
    (apart : IsDistinct (λ x y. x == y) indexes) (are : AreSame indexes (filter_map (index_at made) among_them)) (wide : AreSame widths (filter_map (filled_at made) among_them))
    (is : cur ≡ with_index_words made ts n) where
  filled : is_among widths (suc n) ≡ is_filled made ts (suc n)
  filled =
      let to = same_same (filled_at made) widths among_them ts wide same in
      one_answer (is_among widths (suc n)) (is_filled made ts (suc n)) (among widths (suc n))
      ((λ e. (to (suc n)).1 ((among (filter_map (filled_at made) ts) (suc n)).0 e)), (λ c. (among (filter_map (filled_at made) ts) (suc n)).1 ((to (suc n)).0 c)))

  counted : length (filter (has_width cur (suc n)) indexes) ≡ index_count made ts (suc n)
  counted =
      let long : IsLonger made cur = subst (IsLonger made) (sym is) (index_words_long made ts n) in
      ap length (count_longer made cur indexes (suc n) long (indexes_held made list among_them indexes held are))
      ∙ count_same (has_width made (suc n)) indexes (filter_map (index_at made) ts) apart (same_same (index_at made) indexes among_them ts are same)

  pub width_step : with_width_words cur indexes widths (suc n) ≡ with_index_words made ts (suc n)
  width_step =
      ap (λ b. if b then with_words cur (suc n) (suc (length (filter (has_width cur (suc n)) indexes))) else cur) filled
      ∙ ap (λ k. if is_filled made ts (suc n) then with_words cur (suc n) (suc k) else cur) counted
      ∙ ap (λ l. if is_filled made ts (suc n) then with_words l (suc n) (suc (index_count made ts (suc n))) else l) is

-- ---- all together

pub whole : {X : Type 0} (goal : List Node) (old mid new : TermsValue) (r : Result X MakeError) → Extends old mid → IsMaking goal r mid new → IsMaking goal r old new
whole goal old mid new (Ok u) h p = p ∙ ap (value_of goal) h.limit
whole goal old mid new (Err (Fault f)) h p =
    let lim = h.limit in
    let lt = p.1 in
    let over : old.limit < length goal = omega (arith, lim, lt) in
    (p.0, over, more_terms old mid new h p.2)
whole goal old mid new (Err NoMemory) h p = more_terms old mid new h p

pub err_extends : (goal : List Node) (old new : TermsValue) (e : MakeError) → IsRefused goal e old new → Extends old new
err_extends goal old new (Fault f) h = h.2
err_extends goal old new NoMemory h = h

pub width_in : (nodes : List Node) (indexes widths : List ℕ) (n : ℕ) → is_among widths n ≡ true → with_width_words nodes indexes widths n ≡ with_words nodes n (suc (length (filter (has_width nodes n) indexes)))
width_in nodes indexes widths n e = ap (λ b. if b then with_words nodes n (suc (length (filter (has_width nodes n) indexes))) else nodes) e

pub width_out : (nodes : List Node) (indexes widths : List ℕ) (n : ℕ) → is_among widths n ≡ false → with_width_words nodes indexes widths n ≡ nodes
width_out nodes indexes widths n e = ap (λ b. if b then with_words nodes n (suc (length (filter (has_width nodes n) indexes))) else nodes) e

pub width_long : (nodes : List Node) (indexes widths : List ℕ) (n : ℕ) → IsLonger nodes (with_width_words nodes indexes widths n)
width_long nodes indexes widths n = go (is_among widths n)
  where
    go : (b : Bool) → IsLonger nodes (if b then with_words nodes n (suc (length (filter (has_width nodes n) indexes))) else nodes)
    go true = words_long nodes n (suc (length (filter (has_width nodes n) indexes)))
    go false = same_long nodes
