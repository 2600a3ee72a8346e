-- How many indexes of a width there are, and where index words are wanted.
use Rattle.std.proofs.Common.{◌≡◌, ℕ, suc, ◌<◌, Bool, true, false, List, [], ◌∷◌, length, get_or, Option, Some, refl, sym, ap, ◌∙◌, subst, arith, eq-eqb}
use Rattle.std.specs.Prelude.{◌==◌, ◌≢◌, All, AllPairs, Contains, if◌then◌else◌}
use Rattle.std.specs.List.{filter, filter_map, IsDistinct, dedup}
use Rattle.std.specs.List.Retain.{IsFiltered, DiffersFromLast}
use Rattle.std.specs.Ordering.{nat_cmp}
use Rattle.std.specs.List.Sorted.{IsPermutation, IsNonDecreasing, IsSorted}
use Rattle.std.specs.Cmp.{IsEquivalence}
use Rattle.std.specs.Bool.{one_answer}
use Rattle.std.specs.Set.{distinct_count}
use Rattle.std.proofs.lemmas.Bool.{eqb-true}
use Rattle.std.proofs.lemmas.List.Elements.{Contains-get_or}
use Rattle.std.proofs.lemmas.List.Kept.{AllPairs-filter, AllPairs-from_increasing, Contains-dedup_nat, Contains-from_dedup}
use Rattle.std.proofs.lemmas.List.Sorted.{Contains-permutation, IsPermutation-sym}
use Rattle.std.proofs.lemmas.Map.Made.{length-from_keys, IsDistinct-from_AllPairs, AllPairs-from_IsDistinct}
use Rattle.std.proofs.lemmas.List.Filters.{dedup_is}
use Rattle.std.proofs.lemmas.Map.Keys.{IsDistinct-IsPermutation, IsStrictlyIncreasing-dedup}
use Rattle.cnf_base.proofs.Lists.{Contains-first, Contains-later}
use Rattle.smt_terms.specs.declared.sort.Sort.TheVariants as sort
use Rattle.smt_terms.specs.declared.node.Node.{Node}
use Rattle.smt_terms.specs.Nodes.{node_at}
use Rattle.smt_terms.specs.Equivalences.{equivalence_by}
use Rattle.smt_terms.specs.Same.{same_sort}
use Rattle.smt_terms.specs.Terms.{sort_of, IsTermList}
use Rattle.smt_terms.specs.Values.{value}
use Rattle.smt_terms.proofs.Growing.{sort_longer}
use Rattle.smt_terms.proofs.Made.{at_place}
use Rattle.smt_terms.proofs.Evaluating.{value_is_evaluation}
use Rattle.theory_terms.specs.declared.shape.Shape.{Shape}
use Rattle.theory_terms.specs.declared.shape.Shape.TheVariants.{Selecting, Storing, Equating}
use Rattle.theory_terms.specs.Shapes.{shape_at}
use Rattle.theory_terms.specs.Lemmas.{witness_node}
use Rattle.theory_terms.proofs.Shapes.{FactsOf, SelectFacts, StoreFacts, facts}
use Rattle.term_reach.specs.Reach.{IsOnce}
use Rattle.term_reach.proofs.Rising.{Rises, equal_flips, sorted_rises, all_apart}
use Rattle.array_watches.specs.Reaching.{is_among}
use Rattle.array_watches.specs.Needed.{index_by, index_at, has_width, index_count, filled_at, is_filled, with_words, with_index_words}
use Rattle.array_watches.specs.Making.{AreSame}
use Rattle.array_watches.proofs.Rising.{one_rising}
use Rattle.array_watches.proofs.Members.{same_number, among, passed, passes, found, found_same}
use Rattle.array_watches.proofs.Growing.{IsLonger}
use Rattle.array_watches.proofs.Sorted.{any_interpretation}

numbers_equal : IsEquivalence (λ (x y : ℕ). x == y)
numbers_equal = equivalence_by (λ x y. x == y) (λ a b e. eqb-true a b e) (λ a. eq-eqb a a refl)

-- two lists have the same of the numbers that pass a test
filtered_same : (p : ℕ → Bool) (xs ys : List ℕ) → AreSame xs ys → (q : ℕ) → is_among (filter p xs) q ≡ is_among (filter p ys) q
filtered_same p xs ys same q = one_answer (is_among (filter p xs) q) (is_among (filter p ys) q) (among (filter p xs) q)
    ((λ e. over xs ys (λ x. (same x).1) ((among (filter p ys) q).0 e)), (λ c. (among (filter p ys) q).1 (over ys xs (λ x. (same x).0) c)))
  where
    -- (members of the second list's numbers are members of the first's)
    over : (us bs : List ℕ) → ((x : ℕ) → Contains bs x → Contains us x) → Contains (filter p bs) q → Contains (filter p us) q
    over us bs f c = let h = passed p bs q c in passes p us q (f q h.0) h.1

-- different numbers that pass a test are as many as the numbers that are different
pub count_same : (p : ℕ → Bool) (ns xs : List ℕ) → IsDistinct (λ x y. x == y) ns → AreSame ns xs → length (filter p ns) ≡ distinct_count (λ x y. x == y) (filter p xs)
count_same p ns xs apart same =
    length-from_keys numbers_equal (filter p ns) (filter p xs)
    (IsDistinct-from_AllPairs same_number (filter p ns) (AllPairs-filter (λ x y. x ≢ y) p ns (AllPairs-from_IsDistinct same_number ns apart)))
    (filtered_same p ns xs same)

-- different numbers are as many as the numbers that are different
pub count_all : (ns xs : List ℕ) → IsDistinct (λ x y. x == y) ns → AreSame ns xs → length ns ≡ distinct_count (λ x y. x == y) xs
count_all ns xs apart same = length-from_keys numbers_equal ns xs apart
    (λ q. one_answer (is_among ns q) (is_among xs q) (among ns q) ((λ e. (same q).1 ((among xs q).0 e)), (λ c. (among xs q).1 ((same q).0 c))))

pub filter_same : (p q : ℕ → Bool) (xs : List ℕ) → ((x : ℕ) → Contains xs x → p x ≡ q x) → filter p xs ≡ filter q xs
filter_same p q [] h = refl
filter_same p q (x ∷ xs) h = rw (h x (Contains-first x xs), filter_same p q xs (λ y c. h y (Contains-later x y xs c))) refl

-- ---- indexes

index_held_by : (nodes : List Node) → IsTermList nodes → (t i : ℕ) (s : Shape) → t < length nodes → FactsOf any_interpretation (sort_of nodes) (value any_interpretation nodes) t (node_at nodes t) s → index_by nodes s ≡ Some i → i < length nodes
index_held_by nodes list t i (Selecting a j) lt f e =
    let own : SelectFacts (sort_of nodes) (value any_interpretation nodes) t a j = f in
    let q : j ≡ i = cc in
    let l = own.index_lt in omega (arith, l, lt, q)
index_held_by nodes list t i (Storing b j x) lt f e =
    let own : StoreFacts (sort_of nodes) (value any_interpretation nodes) t b j x = f in
    let q : j ≡ i = cc in
    let l = own.index_lt in omega (arith, l, lt, q)
index_held_by nodes list t i (Equating a b) lt f e = (at_place nodes (witness_node a b) i e).0
index_held_by nodes list t i s lt f e = let z : ⊥ = cc in absurd z

pub index_held : (nodes : List Node) → IsTermList nodes → (t i : ℕ) → t < length nodes → index_at nodes t ≡ Some i → i < length nodes
index_held nodes list t i lt e = index_held_by nodes list t i (shape_at nodes t) lt (facts any_interpretation nodes (value any_interpretation nodes) list (value_is_evaluation any_interpretation nodes list) t) e

pub indexes_held : (nodes : List Node) → IsTermList nodes → (terms indexes : List ℕ) → ((t : ℕ) → Contains terms t → t < length nodes) → AreSame indexes (filter_map (index_at nodes) terms) → (i : ℕ) → Contains indexes i → i < length nodes
indexes_held nodes list terms indexes held same i c =
    let h = found (index_at nodes) terms i ((same i).0 c) in
    index_held nodes list h.0 i (held h.0 h.1) h.2

-- in longer terms as many of them have a width
pub count_longer : (nodes more : List Node) (indexes : List ℕ) (n : ℕ) → IsLonger nodes more → ((i : ℕ) → Contains indexes i → i < length nodes) → filter (has_width more n) indexes ≡ filter (has_width nodes n) indexes
count_longer nodes more indexes n h held = filter_same (has_width more n) (has_width nodes n) indexes
    (λ i c. ap (same_sort (sort.Word n)) (ap (λ l. sort_of l i) h.1 ∙ sort_longer nodes h.0 i (held i c)))

pub same_same : (h : ℕ → Option ℕ) (ns xs ys : List ℕ) → AreSame ns (filter_map h xs) → AreSame ys xs → AreSame ns (filter_map h ys)
same_same h ns xs ys a b x = ((λ c. found_same h xs ys (λ y. (b y).1) x ((a x).0 c)), (λ c. (a x).1 (found_same h ys xs (λ y. (b y).0) x c)))

-- ---- one width more

module _ (made : List Node) (terms widths : List ℕ) (n : ℕ) (same : AreSame widths (filter_map (filled_at made) terms)) where
  filled : Contains widths (suc n) → is_filled made terms (suc n) ≡ true
  filled c = (among (filter_map (filled_at made) terms) (suc n)).1 ((same (suc n)).0 c)

  not_filled : (Contains widths (suc n) → ⊥) → is_filled made terms (suc n) ≡ false
  not_filled none = go (is_filled made terms (suc n)) refl
    where
      go : (b : Bool) → is_filled made terms (suc n) ≡ b → b ≡ false
      go true e = absurd (none ((same (suc n)).1 ((among (filter_map (filled_at made) terms) (suc n)).0 e)))
      go false e = refl

  pub words_in : Contains widths (suc n) → with_index_words made terms (suc n) ≡ with_words (with_index_words made terms n) (suc n) (suc (index_count made terms (suc n)))
  words_in c = ap (λ b. if b then with_words (with_index_words made terms n) (suc n) (suc (index_count made terms (suc n))) else with_index_words made terms n) (filled c)

  pub words_out : (Contains widths (suc n) → ⊥) → with_index_words made terms (suc n) ≡ with_index_words made terms n
  words_out c = ap (λ b. if b then with_words (with_index_words made terms n) (suc n) (suc (index_count made terms (suc n))) else with_index_words made terms n) (not_filled c)

-- ---- sorted numbers

pub sorted_is : (p : ℕ → Bool) (walked among_them sorted order : List ℕ) → IsOnce walked → Rises order → AreSame order walked → among_them ≡ filter p walked → IsPermutation among_them sorted → IsNonDecreasing sorted → sorted ≡ filter p order
sorted_is p walked them sorted order once rises same is moved_them sorts =
    let moved : IsPermutation (filter p walked) sorted = subst (λ l. IsPermutation l sorted) is moved_them in
    let apart : IsDistinct (λ x y. x == y) (filter p walked) = IsDistinct-from_AllPairs same_number (filter p walked) (AllPairs-filter (λ x y. x ≢ y) p walked (AllPairs-from_IsDistinct same_number walked (all_apart walked once))) in
    one_rising sorted (filter p order)
    (sorted_rises sorted sorts (IsDistinct-IsPermutation (λ x y. x == y) equal_flips (filter p walked) sorted moved apart))
    (AllPairs-filter (λ x y. x < y) p order rises)
    (λ z c. (let h = passed p walked z (Contains-permutation sorted (filter p walked) z (IsPermutation-sym (filter p walked) sorted moved) c) in passes p order z ((same z).1 h.0) h.1))
    (λ z c. (let h = passed p order z c in Contains-permutation (filter p walked) sorted z moved (passes p walked z ((same z).0 h.0) h.1)))

pub all_of : (xs : List ℕ) (P : ℕ → Type 0) → ((x : ℕ) → Contains xs x → P x) → All P xs
all_of xs P h k d lt = h (get_or xs k d) (Contains-get_or xs k d lt)

-- ---- numbers that are sorted and then left once

module _ (sorted left : List ℕ) (filtered : IsFiltered (DiffersFromLast (λ (x y : ℕ). x == y)) [] sorted left) where
  left_is : left ≡ dedup (λ (x y : ℕ). x == y) sorted
  left_is = dedup_is (λ (x y : ℕ). x == y) sorted left filtered

  apart_by : IsSorted nat_cmp sorted → IsDistinct (λ x y. x == y) left
  apart_by h =
      let rises : AllPairs (λ x y. x < y) left = subst (AllPairs (λ x y. x < y)) (sym left_is) (AllPairs-from_increasing (dedup (λ (x y : ℕ). x == y) sorted) (IsStrictlyIncreasing-dedup sorted h)) in
      IsDistinct-from_AllPairs same_number left (λ i j d lt within e. (let r = rises i j d lt within in omega (arith, r, e)))

  same_by : (old : List ℕ) → IsPermutation old sorted → AreSame left old
  same_by old moved x = (
    (λ c. Contains-permutation sorted old x (IsPermutation-sym old sorted moved) (Contains-from_dedup (λ (a b : ℕ). a == b) sorted x (subst (λ l. Contains l x) left_is c))),
    (λ c. subst (λ l. Contains l x) (sym left_is) (Contains-dedup_nat sorted x (Contains-permutation old sorted x moved c))),
  )

pub once_apart : (sorted left : List ℕ) → IsSorted nat_cmp sorted → IsFiltered (DiffersFromLast (λ (x y : ℕ). x == y)) [] sorted left → IsDistinct (λ x y. x == y) left
once_apart sorted left h f = apart_by sorted left f h

pub once_same : (old sorted left : List ℕ) → IsPermutation old sorted → IsFiltered (DiffersFromLast (λ (x y : ℕ). x == y)) [] sorted left → AreSame left old
once_same old sorted left moved f = same_by sorted left f old moved
