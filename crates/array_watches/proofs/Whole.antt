-- What a check can rely on that has made its watches.
use Rattle.std.proofs.Common.{◌≡◌, ℕ, zero, suc, ◌<◌, ◌≤◌, Bool, true, false, List, [], ◌∷◌, ◌++◌, length, Option, Some, None, refl, sym, ap, ◌∙◌, subst, inl, inr, ⊎_elim, arith, length-append, position}
use Rattle.std.specs.Prelude.{◌⊎◌, ◌^◌, All, Contains, nat_lt, if◌then◌else◌}
use Rattle.std.specs.List.{filter, filter_map, position_or_len}
use Rattle.std.proofs.lemmas.Bool.{cases_lt, lt-ltb}
use Rattle.std.proofs.lemmas.List.{get_or_append_left}
use Rattle.std.proofs.lemmas.List.Sums.{position_or_len_is}
use Rattle.std.proofs.lemmas.List.Quantifiers.{position-Some}
use Rattle.cnf_base.proofs.Lists.{Contains-nil, Contains-first, Contains-later}
use Rattle.cnf_base.proofs.Options.{IsSome-from}
use Rattle.smt_terms.specs.declared.sort.Sort.{Sort}
use Rattle.smt_terms.specs.declared.sort.Sort.TheVariants as sort
use Rattle.smt_terms.specs.declared.node.Op.TheVariants.{Word}
use Rattle.smt_terms.specs.declared.node.Node.{Node}
use Rattle.smt_terms.specs.Nodes.{no_node, node_at, leaf}
use Rattle.smt_terms.specs.Same.{same_sort, sort_same, sort_itself, same_node, node_same, node_itself}
use Rattle.smt_terms.specs.Ranks.{is_array}
use Rattle.smt_terms.specs.Terms.{sort_of, IsTermList, IsSort}
use Rattle.smt_terms.specs.Values.{value}
use Rattle.smt_terms.proofs.Growing.{node_longer, sort_longer, node_last}
use Rattle.smt_terms.proofs.Made.{at_place, no_place}
use Rattle.smt_terms.proofs.Evaluating.{value_is_evaluation}
use Rattle.smt_terms.proofs.Widths.{sort_bounded}
use Rattle.theory_terms.specs.declared.shape.Shape.{Shape}
use Rattle.theory_terms.specs.declared.shape.Shape.TheVariants.{Selecting, Storing, Filling, Equating, Witnessing}
use Rattle.theory_terms.specs.declared.atom.Watch.{Watch}
use Rattle.theory_terms.specs.Shapes.{shape_of, shape_at, term_of}
use Rattle.theory_terms.specs.Lemmas.{witness_node, select_node, watch_of, watch_at, watch}
use Rattle.theory_terms.proofs.Shapes.{FactsOf, EqualFacts, WitnessFacts, facts}
use Rattle.term_reach.specs.Reach.{arguments, IsReached, IsOnce}
use Rattle.term_reach.proofs.Rising.{all_apart}
use Rattle.term_reach.proofs.Tables.{contains_at}
use Rattle.array_watches.specs.Reaching.{is_among, reached}
use Rattle.array_watches.specs.Needed.{or_next, with_new, number_in, with_node, with_watch, with_watch_by, equates_arrays, is_array_equality, equalities, with_watches, index_by, index_at, has_width, index_count, filled_by, filled_at, is_filled, with_words, with_index_words, watched}
use Rattle.array_watches.specs.Making.{AreSame}
use Rattle.array_watches.specs.Watched.{IsEquality, IsConstant, AreIndexes, HasIndexWords, IsIndexWord, IsOfWatch, IsWatched}
use Rattle.array_watches.proofs.Rising.{cons_cases}
use Rattle.array_watches.proofs.Members.{among, passed, passes, found, finds}
use Rattle.array_watches.proofs.Reached.{reached_only, reached_held, reached_all, all_held}
use Rattle.array_watches.proofs.Growing.{IsLonger, long_count, long_long, node_long, selects_long, watch_by_long, watches_long, word_long, words_long, index_words_long, index_words_up}
use Rattle.array_watches.proofs.Sorted.{any_interpretation, put_list, word_sorted, watch_list}
use Rattle.array_watches.proofs.Counting.{count_all, index_held}
use Rattle.array_watches.proofs.Steps.{equality_arrays, equality_by, shape_longer, equality_longer, word_in, word_out}

-- ---- a node that is put is found

place_stays : (p : Node → Bool) (xs ys : List Node) (i : ℕ) → position p xs ≡ Some i → position p (xs ++ ys) ≡ Some i
place_stays p xs ys i e =
    let f = position-Some p xs i no_node e in
    let long = length-append xs ys in
    let lt = f.0 in
    let within : i < length (xs ++ ys) = omega (arith, long, lt) in
    let le : i ≤ length (xs ++ ys) = omega (arith, within) in
    let is : position_or_len p (xs ++ ys) ≡ i =
    position_or_len_is p (xs ++ ys) i no_node le
    (λ k less. ap p (get_or_append_left xs ys no_node k (omega (arith, less, lt))) ∙ f.2 k less)
    (λ _. ap p (get_or_append_left xs ys no_node i lt) ∙ f.1) in
    ap (λ k. if nat_lt k (length (xs ++ ys)) then Some k else None) is ∙ ap (λ b. if b then Some i else None) (lt-ltb i (length (xs ++ ys)) within)

pub longer_found : (nodes more : List Node) (n : Node) (t : ℕ) → IsLonger nodes more → term_of nodes n ≡ Some t → term_of more n ≡ Some t
longer_found nodes more n t h e = ap (λ l. term_of l n) h.1 ∙ place_stays (same_node n) nodes h.0 t e

pub put_found : (nodes : List Node) (n : Node) → term_of (with_node nodes n) n ≡ Some (number_in nodes n)
put_found nodes n = by (term_of nodes n) refl
  where
    other : term_of nodes n ≡ None → (k : ℕ) → k < length nodes → same_node n (node_at nodes k) ≡ false
    other e k lt = go (same_node n (node_at nodes k)) refl
      where
        go : (b : Bool) → same_node n (node_at nodes k) ≡ b → b ≡ false
        go true q = absurd (no_place nodes n e k lt (sym (node_same n (node_at nodes k) q)))
        go false q = refl

    by : (o : Option ℕ) → term_of nodes n ≡ o → term_of (with_new nodes n o) n ≡ Some (or_next (length nodes) o)
    by (Some t) e = e
    by None e =
        let long = length-append nodes (n ∷ []) in
        let within : length nodes < length (nodes ++ n ∷ []) = omega (arith, long) in
        let le : length nodes ≤ length (nodes ++ n ∷ []) = omega (arith, within) in
        let is : position_or_len (same_node n) (nodes ++ n ∷ []) ≡ length nodes =
        position_or_len_is (same_node n) (nodes ++ n ∷ []) (length nodes) no_node le
        (λ k less. ap (same_node n) (node_longer nodes (n ∷ []) k less) ∙ other e k less)
        (λ _. ap (same_node n) (node_last nodes n) ∙ node_itself n) in
        ap (λ k. if nat_lt k (length (nodes ++ n ∷ [])) then Some k else None) is ∙ ap (λ b. if b then Some (length nodes) else None) (lt-ltb (length nodes) (length (nodes ++ n ∷ [])) within)

-- ---- watches

-- the witness of two arrays and their selects there are found
pub record IsFoundWatch (made : List Node) (a b w : ℕ) : Type 0 where
  pub l : ℕ
  pub r : ℕ
  pub witness : term_of made (witness_node a b) ≡ Some w
  pub left : term_of made (select_node a w) ≡ Some l
  pub right : term_of made (select_node b w) ≡ Some r

pub watch_is : (made : List Node) (a b w : ℕ) (h : IsFoundWatch made a b w) → watch made a b ≡ Some (record { witness = w; left = h.l; right = h.r })
watch_is made a b w h =
    ap (watch_at made a b) h.witness
    ∙ ap (λ o. watch_of w o (term_of made (select_node b w))) h.left
    ∙ ap (watch_of w (Some h.l)) h.right

watch_longer : (nodes more : List Node) (a b w : ℕ) → IsLonger nodes more → IsFoundWatch nodes a b w → IsFoundWatch more a b w
watch_longer nodes more a b w h f = record {
  l = f.l;
  r = f.r;
  witness = longer_found nodes more (witness_node a b) w h f.witness;
  left = longer_found nodes more (select_node a w) f.l h f.left;
  right = longer_found nodes more (select_node b w) f.r h f.right;
}

watch_put : (nodes : List Node) (a b : ℕ) → IsFoundWatch (with_watch nodes a b) a b (number_in nodes (witness_node a b))
watch_put nodes a b =
    let w = number_in nodes (witness_node a b) in
    let one = with_node nodes (witness_node a b) in
    let two = with_node one (select_node a w) in
    record {
      l = number_in one (select_node a w);
      r = number_in two (select_node b w);
      witness = longer_found one (with_watch nodes a b) (witness_node a b) w (selects_long one a b w) (put_found nodes (witness_node a b));
      left = longer_found two (with_watch nodes a b) (select_node a w) (number_in one (select_node a w)) (node_long two (select_node b w)) (put_found one (select_node a w));
      right = put_found two (select_node b w);
    }

-- these terms are held equalities of arrays
abbrev pub AreEqualities : List Node → List ℕ → Type 0
AreEqualities nodes ts = (t : ℕ) → Contains ts t → (t < length nodes) × (is_array_equality nodes t ≡ true)

-- ---- terms that are new

-- each term behind these has such a node
abbrev pub AllNew : List Node → List Node → (Node → Type 0) → Type 0
AllNew nodes made P = (t : ℕ) → length nodes ≤ t → t < length made → P (node_at made t)

module _ (P : Node → Type 0) where
  none_new : (nodes : List Node) → AllNew nodes nodes P
  none_new nodes t le lt = absurd (omega (arith, le, lt))

  new_new : (a b c : List Node) → IsLonger b c → AllNew a b P → AllNew b c P → AllNew a c P
  new_new a b c h f g t le lt =
      ⊎_elim
      (λ (less : t < length b). subst P (sym (ap (λ l. node_at l t) h.1 ∙ node_longer b h.0 t less)) (f t le less))
      (λ (ge : length b ≤ t). g t ge lt)
      (cases_lt t (length b))

  new_by : (nodes : List Node) (n : Node) (o : Option ℕ) → P n → AllNew nodes (with_new nodes n o) P
  new_by nodes n (Some t) h = none_new nodes
  new_by nodes n None h = λ t le lt.
      let long = length-append nodes (n ∷ []) in
      let last : length nodes ≡ t = omega (arith, long, le, lt) in
      subst (λ k. P (node_at (nodes ++ n ∷ []) k)) last (subst P (sym (node_last nodes n)) h)

  new_node : (nodes : List Node) (n : Node) → P n → AllNew nodes (with_node nodes n) P
  new_node nodes n h = new_by nodes n (term_of nodes n) h

  new_watch : (nodes : List Node) (a b : ℕ) → P (witness_node a b) → P (select_node a (number_in nodes (witness_node a b))) → P (select_node b (number_in nodes (witness_node a b))) → AllNew nodes (with_watch nodes a b) P
  new_watch nodes a b h l r =
      let w = number_in nodes (witness_node a b) in
      let one = with_node nodes (witness_node a b) in
      let two = with_node one (select_node a w) in
      new_new nodes one (with_watch nodes a b) (selects_long one a b w) (new_node nodes (witness_node a b) h)
      (new_new one two (with_watch nodes a b) (node_long two (select_node b w)) (new_node one (select_node a w) l) (new_node two (select_node b w) r))

  new_words : (nodes : List Node) (n count : ℕ) → ((x : ℕ) → x < count → x < 2 ^ n → P (leaf (Word n x))) → AllNew nodes (with_words nodes n count) P
  new_words nodes n zero f = none_new nodes
  new_words nodes n (suc x) f =
      let before = with_words nodes n x in
      new_new nodes before (with_words nodes n (suc x)) (word_long before n x) (new_words nodes n x (λ y lt. f y (omega (arith, lt))))
      (⊎_elim
      (λ (lt : x < 2 ^ n). subst (λ l. AllNew before l P) (sym (word_in before n x lt)) (new_node before (leaf (Word n x)) (f x (omega arith) lt)))
      (λ (ge : 2 ^ n ≤ x). subst (λ l. AllNew before l P) (sym (word_out before n x (λ lt. omega (arith, lt, ge)))) (none_new before))
      (cases_lt x (2 ^ n)))

  new_index_words : (made : List Node) (terms : List ℕ) (n : ℕ) → ((k x : ℕ) → is_filled made terms (suc k) ≡ true → x ≤ index_count made terms (suc k) → x < 2 ^ suc k → P (leaf (Word (suc k) x))) → AllNew made (with_index_words made terms n) P
  new_index_words made terms zero f = none_new made
  new_index_words made terms (suc n) f =
      let before = with_index_words made terms n in
      let count = suc (index_count made terms (suc n)) in
      go before count (new_index_words made terms n f) (is_filled made terms (suc n)) refl
    where
      go : (before : List Node) (count : ℕ) → AllNew made before P → (b : Bool) → is_filled made terms (suc n) ≡ b → AllNew made (if b then with_words before (suc n) (suc (index_count made terms (suc n))) else before) P
      go before count ih true e =
          new_new made before (with_words before (suc n) (suc (index_count made terms (suc n)))) (words_long before (suc n) (suc (index_count made terms (suc n)))) ih
          (new_words before (suc n) (suc (index_count made terms (suc n))) (λ x lt fits. f n x e (omega (arith, lt)) fits))
      go before count ih false e = ih

-- ---- the watches of equalities

module _ (nodes : List Node) (list : IsTermList nodes) (t : ℕ) (lt : t < length nodes) (is : is_array_equality nodes t ≡ true) where
  shape_list : IsTermList (with_watch_by nodes (shape_at nodes t))
  shape_list =
      let k = equality_by (sort_of nodes) (shape_at nodes t) is in
      subst (λ s. IsTermList (with_watch_by nodes s)) (sym k.2) (watch_list nodes list k.0 k.1 (equality_arrays nodes list t k.0 k.1 (sym k.2) is))

  longer_equalities : (ts : List ℕ) → AreEqualities nodes ts → AreEqualities (with_watch_by nodes (shape_at nodes t)) ts
  longer_equalities ts held u c =
      let more = with_watch_by nodes (shape_at nodes t) in
      let long = watch_by_long nodes (shape_at nodes t) in
      let h = held u c in
      let le = long_count nodes more long in
      let l = h.0 in
      (omega (arith, l, le), equality_longer nodes more list long u h.0 h.1)

pub watches_list : (nodes : List Node) → IsTermList nodes → (ts : List ℕ) → AreEqualities nodes ts → IsTermList (with_watches nodes ts)
watches_list nodes list [] held = list
watches_list nodes list (t ∷ ts) held =
    let h = held t (Contains-first t ts) in
    watches_list (with_watch_by nodes (shape_at nodes t)) (shape_list nodes list t h.0 h.1) ts (longer_equalities nodes list t h.0 h.1 ts (λ u c. held u (Contains-later t u ts c)))

-- each equality has its watch
pub watches_found : (nodes : List Node) → IsTermList nodes → (ts : List ℕ) → AreEqualities nodes ts → (t a b : ℕ) → Contains ts t → shape_at nodes t ≡ Equating a b → (w : ℕ) × IsFoundWatch (with_watches nodes ts) a b w
watches_found nodes list [] held t a b c e = absurd (Contains-nil t c)
watches_found nodes list (u ∷ ts) held t a b c e =
    let h = held u (Contains-first u ts) in
    let first = with_watch_by nodes (shape_at nodes u) in
    let rest = longer_equalities nodes list u h.0 h.1 ts (λ v k. held v (Contains-later u v ts k)) in
    ⊎_elim
    (λ (same : u ≡ t).
    let shape : shape_at nodes u ≡ Equating a b = ap (shape_at nodes) same ∙ e in
    let w = number_in nodes (witness_node a b) in
    (w, watch_longer first (with_watches first ts) a b w (watches_long first ts) (subst (λ s. IsFoundWatch (with_watch_by nodes s) a b w) (sym shape) (watch_put nodes a b))))
    (λ (k : Contains ts t).
    watches_found first (shape_list nodes list u h.0 h.1) ts rest t a b k (shape_longer nodes first (watch_by_long nodes (shape_at nodes u)) t (held t (Contains-later u t ts k)).0 ∙ e))
    (cons_cases u ts t c)

-- what is new is of the watch of one of the equalities
pub new_watches : (P : Node → Type 0) (nodes : List Node) → IsTermList nodes → (ts : List ℕ) → AreEqualities nodes ts
    → ((t a b w : ℕ) → Contains ts t → shape_at nodes t ≡ Equating a b → term_of (with_watches nodes ts) (witness_node a b) ≡ Some w → P (witness_node a b) × P (select_node a w) × P (select_node b w))
    → AllNew nodes (with_watches nodes ts) P
new_watches P nodes list [] held f = none_new P nodes
new_watches P nodes list (t ∷ ts) held f =
    let h = held t (Contains-first t ts) in
    let k = equality_by (sort_of nodes) (shape_at nodes t) h.1 in
    let first = with_watch_by nodes (shape_at nodes t) in
    let rest = longer_equalities nodes list t h.0 h.1 ts (λ u c. held u (Contains-later t u ts c)) in
    let w = number_in nodes (witness_node k.0 k.1) in
    let put : IsFoundWatch first k.0 k.1 w = subst (λ s. IsFoundWatch (with_watch_by nodes s) k.0 k.1 w) (sym k.2) (watch_put nodes k.0 k.1) in
    let own = f t k.0 k.1 w (Contains-first t ts) k.2 (longer_found first (with_watches first ts) (witness_node k.0 k.1) w (watches_long first ts) put.witness) in
    new_new P nodes first (with_watches first ts) (watches_long first ts)
    (subst (λ s. AllNew nodes (with_watch_by nodes s) P) (sym k.2) (new_watch P nodes k.0 k.1 own.0 own.1 own.2))
    (new_watches P first (shape_list nodes list t h.0 h.1) ts rest
    (λ u a b v c e found. f u a b v (Contains-later t u ts c) (sym (shape_longer nodes first (watch_by_long nodes (shape_at nodes t)) u (held u (Contains-later t u ts c)).0) ∙ e) found))

-- ---- index words

words_list : (nodes : List Node) → IsTermList nodes → (n count : ℕ) → 1 ≤ n → n ≤ 128 → IsTermList (with_words nodes n count)
words_list nodes list n zero low high = list
words_list nodes list n (suc x) low high =
    let before = with_words nodes n x in
    let ih = words_list nodes list n x low high in
    ⊎_elim
    (λ (lt : x < 2 ^ n). subst IsTermList (sym (word_in before n x lt)) (put_list before ih (leaf (Word n x)) (sort.Word n) (word_sorted before n x low high lt)))
    (λ (ge : 2 ^ n ≤ x). subst IsTermList (sym (word_out before n x (λ lt. omega (arith, lt, ge)))) ih)
    (cases_lt x (2 ^ n))

index_words_list : (made : List Node) → IsTermList made → (terms : List ℕ) (n : ℕ) → n ≤ 128 → IsTermList (with_index_words made terms n)
index_words_list made list terms zero high = list
index_words_list made list terms (suc n) high = go (with_index_words made terms n) (index_words_list made list terms n (omega (arith, high))) (is_filled made terms (suc n))
  where
    go : (before : List Node) → IsTermList before → (b : Bool) → IsTermList (if b then with_words before (suc n) (suc (index_count made terms (suc n))) else before)
    go before ih true = words_list before ih (suc n) (suc (index_count made terms (suc n))) (omega arith) high
    go before ih false = ih

words_found : (nodes : List Node) (n count x : ℕ) → x < count → x < 2 ^ n → (w : ℕ) × (term_of (with_words nodes n count) (leaf (Word n x)) ≡ Some w)
words_found nodes n zero x lt fits = absurd (omega (arith, lt))
words_found nodes n (suc k) x lt fits =
    let before = with_words nodes n k in
    ⊎_elim
    (λ (less : x < k).
    let h = words_found nodes n k x less fits in
    (h.0, longer_found before (with_words nodes n (suc k)) (leaf (Word n x)) h.0 (word_long before n k) h.1))
    (λ (ge : k ≤ x).
    let same : k ≡ x = omega (arith, ge, lt) in
    let fit : k < 2 ^ n = subst (λ y. y < 2 ^ n) (sym same) fits in (
      number_in before (leaf (Word n k)),
      subst (λ y. term_of (with_words nodes n (suc k)) (leaf (Word n y)) ≡ Some (number_in before (leaf (Word n k)))) same
          (ap (λ l. term_of l (leaf (Word n k))) (word_in before n k fit) ∙ put_found before (leaf (Word n k))),
    ))
    (cases_lt x k)

index_words_found : (made : List Node) (terms : List ℕ) (n x : ℕ) → suc n ≤ 128 → is_filled made terms (suc n) ≡ true → x ≤ index_count made terms (suc n) → x < 2 ^ suc n → (w : ℕ) × (term_of (with_index_words made terms 128) (leaf (Word (suc n) x)) ≡ Some w)
index_words_found made terms n x high is le fits =
    let before = with_index_words made terms n in
    let count = suc (index_count made terms (suc n)) in
    let h = words_found before (suc n) (suc (index_count made terms (suc n))) x (omega (arith, le)) fits in
    let step : with_index_words made terms (suc n) ≡ with_words before (suc n) (suc (index_count made terms (suc n))) =
    ap (λ b. if b then with_words before (suc n) (suc (index_count made terms (suc n))) else before) is in (
      h.0,
      longer_found (with_index_words made terms (suc n)) (with_index_words made terms 128) (leaf (Word (suc n) x)) h.0 (index_words_up made terms (suc n) 128 high)
          (ap (λ l. term_of l (leaf (Word (suc n) x))) step ∙ h.1),
    )

-- ---- different numbers

once_first : (x : ℕ) (ns : List ℕ) → IsOnce ns → (Contains ns x → ⊥) → IsOnce (x ∷ ns)
once_first x ns once none zero zero t e f = refl
once_first x ns once none zero (suc k) t e f = let q : x ≡ t = cc in absurd (none (subst (Contains ns) (sym q) (contains_at ns k t f)))
once_first x ns once none (suc j) zero t e f = let q : x ≡ t = cc in absurd (none (subst (Contains ns) (sym q) (contains_at ns j t e)))
once_first x ns once none (suc j) (suc k) t e f = ap suc (once j k t e f)

pub once_list : (xs : List ℕ) → (ns : List ℕ) × IsOnce ns × AreSame ns xs
once_list [] = ([], (λ j k t e f. let q : ⊥ = cc in absurd q), (λ x. ((λ c. c), (λ c. c))))
once_list (x ∷ xs) = go (once_list xs) (is_among xs x) refl
  where
    go : (ns : List ℕ) × IsOnce ns × AreSame ns xs → (b : Bool) → is_among xs x ≡ b → (ns : List ℕ) × IsOnce ns × AreSame ns (x ∷ xs)
    go h true e = (
      h.0,
      h.1,
      (λ y. (
        (λ c. Contains-later x y xs ((h.2 y).0 c)),
        (λ c. ⊎_elim (λ (q : x ≡ y). (h.2 y).1 (subst (Contains xs) q ((among xs x).0 e))) (λ k. (h.2 y).1 k) (cons_cases x xs y c)),
      )),
    )
    go h false e = (
      x ∷ h.0,
      once_first x h.0 h.1 (λ c. (let p : true ≡ false = sym ((among xs x).1 ((h.2 x).0 c)) ∙ e in let q : ⊥ = cc in q)),
      (λ y. (
        (λ c. ⊎_elim (λ (q : x ≡ y). subst (Contains (x ∷ xs)) q (Contains-first x xs)) (λ k. Contains-later x y xs ((h.2 y).0 k)) (cons_cases x h.0 y c)),
        (λ c. ⊎_elim (λ (q : x ≡ y). subst (Contains (x ∷ h.0)) q (Contains-first x h.0)) (λ k. Contains-later x y h.0 ((h.2 y).1 k)) (cons_cases x xs y c)),
      )),
    )

-- ---- all together

pub filled_is : (s : Shape) (q : Sort) (n : ℕ) → filled_by s q ≡ Some n → (x : ℕ) × (m : ℕ) × (s ≡ Filling x) × (q ≡ sort.Array n m)
filled_is (Filling x) (sort.Array k m) n e = let r : k ≡ n = cc in (x, m, refl, ap (λ i. sort.Array i m) r)
filled_is (Filling x) sort.Bool n e = let f : ⊥ = cc in absurd f
filled_is (Filling x) (sort.Word k) n e = let f : ⊥ = cc in absurd f
filled_is s q n e = let f : ⊥ = cc in absurd f

module _ (nodes : List Node) (roots : List ℕ) (list : IsTermList nodes) (held : All (λ t. t < length nodes) roots) where
  abbrev ts : List ℕ
  ts = reached nodes roots

  abbrev eqs : List ℕ
  eqs = equalities nodes roots

  abbrev mid : List Node
  mid = with_watches nodes eqs

  abbrev made : List Node
  made = with_index_words mid ts 128

  are_equalities : AreEqualities nodes eqs
  are_equalities t c = let p = passed (is_array_equality nodes) ts t c in (reached_held nodes list roots t p.0, p.1)

  mid_list : IsTermList mid
  mid_list = watches_list nodes list eqs are_equalities

  mid_long : IsLonger nodes mid
  mid_long = watches_long nodes eqs

  made_long : IsLonger mid made
  made_long = index_words_long mid ts 128

  made_list : IsTermList made
  made_list = index_words_list mid mid_list ts 128 (omega arith)

  held_mid : (t : ℕ) → t < length nodes → t < length mid
  held_mid t lt = let le = long_count nodes mid mid_long in omega (arith, lt, le)

  same_shape : (t : ℕ) → t < length nodes → shape_at mid t ≡ shape_at nodes t
  same_shape t lt = shape_longer nodes mid mid_long t lt

  same_sorts : (t : ℕ) → t < length nodes → sort_of mid t ≡ sort_of nodes t
  same_sorts t lt = ap (λ l. sort_of l t) mid_long.1 ∙ sort_longer nodes mid_long.0 t lt

  is_among_them : (t a b : ℕ) → IsEquality nodes roots t a b → Contains eqs t
  is_among_them t a b e =
      let one : equates_arrays (sort_of nodes) (shape_at nodes t) ≡ is_array (sort_of nodes a) = ap (equates_arrays (sort_of nodes)) e.shape in
      passes (is_array_equality nodes) ts t (reached_all nodes list roots held t e.here) (one ∙ e.arrays)

  watch_found : (t a b : ℕ) → IsEquality nodes roots t a b → (w : ℕ) × IsFoundWatch made a b w
  watch_found t a b e =
      let h = watches_found nodes list eqs are_equalities t a b (is_among_them t a b e) e.shape in
      (h.0, watch_longer mid made a b h.0 made_long h.1)

  made_sort : (t : ℕ) → t < length mid → sort_of made t ≡ sort_of mid t
  made_sort t lt = ap (λ l. sort_of l t) made_long.1 ∙ sort_longer mid made_long.0 t lt

  -- ---- indexes

  forward_by : (s : Shape) (i : ℕ) → index_by mid s ≡ Some i → index_by made s ≡ Some i
  forward_by (Equating a b) i e = longer_found mid made (witness_node a b) i made_long e
  forward_by (Selecting a j) i e = e
  forward_by (Storing b j x) i e = e
  forward_by s i e = let f : ⊥ = cc in absurd f

  made_shape : (t : ℕ) → t < length nodes → shape_at made t ≡ shape_at mid t
  made_shape t lt = shape_longer mid made made_long t (held_mid t lt)

  forward : (t i : ℕ) → t < length nodes → index_at mid t ≡ Some i → index_at made t ≡ Some i
  forward t i lt e = ap (index_by made) (made_shape t lt) ∙ forward_by (shape_at mid t) i e

  -- only arrays have a witness
  arrays_of : (a b i : ℕ) → term_of made (witness_node a b) ≡ Some i → is_array (sort_of made a) ≡ true
  arrays_of a b i e =
      let p = at_place made (witness_node a b) i e in
      let all = facts any_interpretation made (value any_interpretation made) made_list (value_is_evaluation any_interpretation made made_list) i in
      let shape : shape_at made i ≡ Witnessing a b = ap (λ (n : Node). shape_of n.op n.args) p.1 in
      let own : WitnessFacts (sort_of made) i a b = subst (FactsOf any_interpretation (sort_of made) (value any_interpretation made) i (node_at made i)) shape all in
      ap is_array own.left_sort

  array_before : (t a b i : ℕ) → t < length nodes → shape_at nodes t ≡ Equating a b → term_of made (witness_node a b) ≡ Some i → is_array (sort_of nodes a) ≡ true
  array_before t a b i lt shape e =
      let all = facts any_interpretation nodes (value any_interpretation nodes) list (value_is_evaluation any_interpretation nodes list) t in
      let own : EqualFacts (sort_of nodes) (value any_interpretation nodes) t a b = subst (FactsOf any_interpretation (sort_of nodes) (value any_interpretation nodes) t (node_at nodes t)) shape all in
      let l = own.left_lt in
      let la : a < length nodes = omega (arith, l, lt) in
      sym (ap is_array (made_sort a (held_mid a la) ∙ same_sorts a la)) ∙ arrays_of a b i e

  backward_by : (t i : ℕ) (s : Shape) → IsReached (arguments nodes) roots t → t < length nodes → shape_at nodes t ≡ s → index_by made s ≡ Some i → index_by mid s ≡ Some i
  backward_by t i (Equating a b) here lt shape e =
      let q : IsEquality nodes roots t a b = record { here = here; shape = shape; arrays = array_before t a b i lt shape e } in
      let h = watches_found nodes list eqs are_equalities t a b (is_among_them t a b q) shape in
      let both : Some h.0 ≡ Some i = sym (longer_found mid made (witness_node a b) h.0 made_long h.1.witness) ∙ e in
      h.1.witness ∙ both
  backward_by t i (Selecting a j) here lt shape e = e
  backward_by t i (Storing b j x) here lt shape e = e
  backward_by t i s here lt shape e = let f : ⊥ = cc in absurd f

  backward : (t i : ℕ) → IsReached (arguments nodes) roots t → t < length nodes → index_at made t ≡ Some i → index_at mid t ≡ Some i
  backward t i here lt e =
      ap (index_by mid) (same_shape t lt)
      ∙ backward_by t i (shape_at nodes t) here lt refl (sym (ap (index_by made) (made_shape t lt ∙ same_shape t lt)) ∙ e)

  abbrev wide_indexes : ℕ → List ℕ
  wide_indexes n = filter (has_width mid n) (filter_map (index_at mid) ts)

  counted : (n : ℕ) → length (once_list (wide_indexes n)).0 ≡ index_count mid ts n
  counted n =
      let o = once_list (wide_indexes n) in
      count_all o.0 (wide_indexes n) (all_apart o.0 o.1) o.2

  are_indexes : (n : ℕ) → AreIndexes nodes made roots n (once_list (wide_indexes n)).0
  are_indexes n =
      let o = once_list (wide_indexes n) in
      record {
        once = o.1;
        all = λ t i here e srt.
            (let lt = all_held nodes list roots held t here in
            let back = backward t i here lt e in
            let within = index_held mid mid_list t i (held_mid t lt) back in
            let own : sort_of mid i ≡ sort.Word n = sym (made_sort i within) ∙ srt in
            let wide : has_width mid n i ≡ true = ap (same_sort (sort.Word n)) own ∙ sort_itself (sort.Word n) in
            (o.2 i).1 (passes (has_width mid n) (filter_map (index_at mid) ts) i (finds (index_at mid) ts t i (reached_all nodes list roots held t here) back) wide));
        only = λ i c.
            (let p = passed (has_width mid n) (filter_map (index_at mid) ts) i ((o.2 i).0 c) in
            let f = found (index_at mid) ts i p.0 in
            let lt = reached_held nodes list roots f.0 f.1 in
            let within = index_held mid mid_list f.0 i (held_mid f.0 lt) f.2 in
            (f.0, reached_only nodes list roots f.0 f.1, forward f.0 i lt f.2, made_sort i within ∙ sym (sort_same (sort.Word n) (sort_of mid i) p.1)));
      }

  words_of : (n : ℕ) → 1 ≤ n → n ≤ 128 → is_filled mid ts n ≡ true → HasIndexWords nodes made roots n
  words_of zero low high is = absurd (omega (arith, low))
  words_of (suc k) low high is =
      let same = counted (suc k) in
      record {
        indexes = (once_list (wide_indexes (suc k))).0;
        are = are_indexes (suc k);
        words = λ x fits le.
            (let h = index_words_found mid ts k x high is (omega (arith, le, same)) fits in
            IsSome-from (term_of made (leaf (Word (suc k) x))) h.0 h.1);
      }

  constant_words : (t n : ℕ) → IsConstant nodes roots t n → HasIndexWords nodes made roots n
  constant_words t n e =
      let lt = all_held nodes list roots held t e.here in
      let own : filled_at mid t ≡ Some n =
      ap (λ s. filled_by s (sort_of mid t)) (same_shape t lt ∙ e.shape) ∙ ap (filled_by (Filling e.element)) (same_sorts t lt ∙ e.sort) in
      let is : is_filled mid ts n ≡ true = (among (filter_map (filled_at mid) ts) n).1 (finds (filled_at mid) ts t n (reached_all nodes list roots held t e.here) own) in
      let bounded : IsSort (sort.Array n e.width) = subst IsSort e.sort (sort_bounded nodes list t lt) in
      words_of n bounded.0 bounded.1 is

  abbrev IsNeeded : Node → Type 0
  IsNeeded n = IsOfWatch nodes made roots n ⊎ IsIndexWord nodes made roots n

  of_watches : (t a b w : ℕ) → Contains eqs t → shape_at nodes t ≡ Equating a b → term_of mid (witness_node a b) ≡ Some w → IsNeeded (witness_node a b) × IsNeeded (select_node a w) × IsNeeded (select_node b w)
  of_watches t a b w c shape there =
      let p = passed (is_array_equality nodes) ts t c in
      let one : equates_arrays (sort_of nodes) (shape_at nodes t) ≡ is_array (sort_of nodes a) = ap (equates_arrays (sort_of nodes)) shape in
      let e : IsEquality nodes roots t a b = record { here = reached_only nodes list roots t p.0; shape = shape; arrays = sym one ∙ p.1 } in
      let h = watch_found t a b e in
      let both : Some h.0 ≡ Some w = sym h.1.witness ∙ longer_found mid made (witness_node a b) w made_long there in
      let q : h.0 ≡ w = cc in
      let own : Watch = record { witness = h.0; left = h.1.l; right = h.1.r } in
      let of : (n : Node) → (n ≡ witness_node a b) ⊎ ((n ≡ select_node a h.0) ⊎ (n ≡ select_node b h.0)) → IsNeeded n = λ n is.
      inl (record { equality = t; left = a; right = b; is_equality = e; found = own; is_found = watch_is made a b h.0 h.1; is = is }) in
      (of (witness_node a b) (inl refl), of (select_node a w) (inr (inl (ap (select_node a) (sym q)))), of (select_node b w) (inr (inr (ap (select_node b) (sym q)))))

  of_words : (k x : ℕ) → is_filled mid ts (suc k) ≡ true → x ≤ index_count mid ts (suc k) → x < 2 ^ suc k → IsNeeded (leaf (Word (suc k) x))
  of_words k x is le fits =
      let f = found (filled_at mid) ts (suc k) ((among (filter_map (filled_at mid) ts) (suc k)).0 is) in
      let lt = reached_held nodes list roots f.0 f.1 in
      let u = filled_is (shape_at mid f.0) (sort_of mid f.0) (suc k) f.2 in
      let same = counted (suc k) in
      let constant : IsConstant nodes roots f.0 (suc k) = record {
        element = u.0;
        width = u.1;
        here = reached_only nodes list roots f.0 f.1;
        shape = sym (same_shape f.0 lt) ∙ u.2;
        sort = sym (same_sorts f.0 lt) ∙ u.3;
      } in
      inr (record {
        width = suc k;
        number = x;
        array = f.0;
        constant = constant;
        indexes = (once_list (wide_indexes (suc k))).0;
        are = are_indexes (suc k);
        within = (fits, omega (arith, le, same));
        is = refl;
      })

  all_made : IsWatched nodes made roots
  all_made = record {
    list = made_list;
    more = (long_long nodes mid made mid_long made_long).0;
    begins = (long_long nodes mid made mid_long made_long).1;
    watches = λ t a b e. (let h = watch_found t a b e in IsSome-from (watch made a b) (record { witness = h.0; left = h.1.l; right = h.1.r }) (watch_is made a b h.0 h.1));
    words = constant_words;
    only = new_new IsNeeded nodes mid made made_long (new_watches IsNeeded nodes list eqs are_equalities of_watches) (new_index_words IsNeeded mid ts 128 of_words);
  }

pub watches_are_made : (nodes : List Node) (roots : List ℕ) → IsTermList nodes → All (λ t. t < length nodes) roots → IsWatched nodes (watched nodes roots) roots
unfolding watched
watches_are_made nodes roots list held = all_made nodes roots list held
