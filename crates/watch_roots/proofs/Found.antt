-- What is put behind others, one after the other.
use Rattle.std.proofs.Common.{◌≡◌, ℕ, ◌+◌, ◌<◌, ◌≤◌, Bool, true, false, List, [], ◌∷◌, ◌++◌, length, get_or, take, Option, Some, None, Ok, Err, refl, sym, ap, ◌∙◌, subst, ⊎_elim, arith}
use Rattle.std.specs.Prelude.{◌^◌, ◌⊎◌, nat_lt, if◌then◌else◌, is_some, map, All, Contains, IsSome}
use Rattle.std.proofs.lemmas.Bool.{cases_eq, cases_lt}
use Rattle.std.proofs.lemmas.List.{take_all}
use Rattle.std.proofs.lemmas.List.Elements.{All-append, All-contains, All-more, All-push, All-weaker, Contains-append_left, Contains-append_right, Contains-get_or, Contains-push}
use Rattle.smt_terms.specs.declared.sort.Sort.{Sort}
use Rattle.smt_terms.specs.declared.node.Op.TheVariants.{Word}
use Rattle.smt_terms.specs.declared.node.Node.{Node}
use Rattle.smt_terms.specs.declared.fault.MakeFault.{MakeFault}
use Rattle.smt_terms.specs.declared.fault.MakeFault.TheVariants.{WrongSort}
use Rattle.smt_terms.specs.Nodes.{node_at, leaf}
use Rattle.smt_terms.specs.Ranks.{is_plain, literal_sort, word_sort}
use Rattle.smt_terms.specs.Terms.{op_rank, sort_of, IsTermList}
use Rattle.smt_terms.specs.Values.{value}
use Rattle.smt_terms.proofs.Evaluating.{value_is_evaluation}
use Rattle.smt_terms.proofs.Made.{at_place}
use Rattle.smt_terms.proofs.Typing.{word_sort_ok}
use Rattle.term_reach.specs.Reach.{arguments, IsReach, IsReached}
use Rattle.theory_terms.specs.declared.shape.Shape.TheVariants.{Equating, Other, Selecting}
use Rattle.theory_terms.specs.declared.atom.Watch.{Watch}
use Rattle.theory_terms.specs.Shapes.{shape_at, term_of}
use Rattle.theory_terms.specs.Lemmas.{watch}
use Rattle.theory_terms.proofs.Shapes.{FactsOf, SelectFacts, facts, shape_within}
use Rattle.theory_terms.proofs.Sound.{watch_is}
use Rattle.array_watches.specs.Needed.{filled_at}
use Rattle.array_watches.proofs.Sorted.{any_interpretation}
use Rattle.watch_roots.specs.Roots.{AreFound, AreHeld, AreKept, AreLive, HasIndexWords, HasSelects, HasWords, IsScalar}

-- ---- Bools and words

guarded : (b : Bool) (n : ℕ) (f : MakeFault) (q : Sort) → (if b then word_sort n else Err f) ≡ Ok q → is_plain q ≡ true
guarded true n f q e = ap is_plain (sym (word_sort_ok n q e).0)
guarded false n f q e = let z : ⊥ = cc in absurd z

module _ (nodes : List Node) (list : IsTermList nodes) where
  pub word_scalar : (n k x : ℕ) → term_of nodes (leaf (Word n k)) ≡ Some x → IsScalar nodes x
  word_scalar n k x e =
      let p = at_place nodes (leaf (Word n k)) x e in
      let rank : op_rank (Word n k) [] ≡ Ok (sort_of nodes x) = subst (λ (m : Node). op_rank m.op (map (sort_of nodes) m.args) ≡ Ok (sort_of nodes x)) p.1 (list x p.0).rank in
      record { held = p.0; plain = guarded (nat_lt k (2 ^ n)) n (WrongSort 0) (sort_of nodes x) rank }

  select_scalar : (a i x : ℕ) → shape_at nodes x ≡ Selecting a i → IsScalar nodes x
  select_scalar a i x e =
      let lt = shape_within nodes x (λ o. let z : Selecting a i ≡ Other = sym e ∙ o in let y : ⊥ = cc in y) in
      let all = facts any_interpretation nodes (value any_interpretation nodes) list (value_is_evaluation any_interpretation nodes list) x in
      let own : SelectFacts (sort_of nodes) (value any_interpretation nodes) x a i = subst (FactsOf any_interpretation (sort_of nodes) (value any_interpretation nodes) x (node_at nodes x)) e all in
      record { held = lt; plain = ap is_plain own.sort }

  pub watch_scalars : (a b : ℕ) (w : Watch) → watch nodes a b ≡ Some w → IsScalar nodes w.left × IsScalar nodes w.right
  watch_scalars a b w e = let h = watch_is nodes a b w e in (select_scalar a w.witness w.left h.left, select_scalar b w.witness w.right h.right)

-- ---- one more behind others

pub kept_same : (found : List ℕ) → AreKept found found
kept_same found x c = c

pub kept_more : (a b c : List ℕ) → AreKept a b → AreKept b c → AreKept a c
kept_more a b c f g x h = g x (f x h)

pub kept_push : (old found new : List ℕ) (x : ℕ) → new ≡ found ++ x ∷ [] → AreKept old found → AreKept old new
kept_push old found new x e f y c = subst (λ l. Contains l y) (sym e) (Contains-append_left found (x ∷ []) y (f y c))

pub here_push : (found new : List ℕ) (x : ℕ) → new ≡ found ++ x ∷ [] → Contains new x
here_push found new x e = subst (λ l. Contains l x) (sym e) (Contains-push found x)

pub scalars_push : (nodes : List Node) (found new : List ℕ) (x : ℕ) → new ≡ found ++ x ∷ [] → IsScalar nodes x → All (IsScalar nodes) found → All (IsScalar nodes) new
scalars_push nodes found new x e own h = subst (All (IsScalar nodes)) (sym e) (All-push (IsScalar nodes) found x h own)

-- ---- words

-- the words below a number are found
abbrev pub WordsSoFar : List Node → ℕ → List ℕ → ℕ → Type 0
WordsSoFar nodes n found i = (k x : ℕ) → k < i → term_of nodes (leaf (Word n k)) ≡ Some x → Contains found x

pub words_more : (nodes : List Node) (n i x : ℕ) (found new : List ℕ) → new ≡ found ++ x ∷ [] → term_of nodes (leaf (Word n i)) ≡ Some x → WordsSoFar nodes n found i → WordsSoFar nodes n new (i + 1)
words_more nodes n i x found new is here h k y lt e =
    ⊎_elim
    (λ (less : k < i). kept_push found found new x is (kept_same found) y (h k y less e))
    (λ (le : i ≤ k). last (omega arith))
    (cases_lt k i)
  where
    last : k ≡ i → Contains new y
    last q =
        let same : Some x ≡ Some y = sym here ∙ ap (λ j. term_of nodes (leaf (Word n j))) (sym q) ∙ e in
        let one : x ≡ y = cc in
        subst (Contains new) one (here_push found new x is)

-- the next is not held
pub words_missing : (nodes : List Node) (n i : ℕ) (found : List ℕ) → term_of nodes (leaf (Word n i)) ≡ None → WordsSoFar nodes n found i → HasWords nodes found n
words_missing nodes n i found none h k x le held e =
    ⊎_elim
    (λ (less : k < i). h k x less e)
    (λ (more : i ≤ k). ⊎_elim (λ (same : i ≡ k). absurd (there same)) (λ (other : i ≡ k → ⊥). absurd (before (omega (arith, more, other)))) (cases_eq i k))
    (cases_lt k i)
  where
    there : i ≡ k → ⊥
    there q =
        let bad : None ≡ Some x = sym none ∙ ap (λ j. term_of nodes (leaf (Word n j))) q ∙ e in
        let f : ⊥ = cc in
        f

    before : i < k → ⊥
    before lt =
        let some : is_some (term_of nodes (leaf (Word n i))) ≡ true = held i lt in
        let bad : true ≡ false = sym some ∙ ap is_some none in
        let f : ⊥ = cc in
        f

-- as many as there are terms, and one more
pub words_done : (nodes : List Node) (n i : ℕ) (found : List ℕ) → length nodes + 1 ≤ i → WordsSoFar nodes n found i → HasWords nodes found n
words_done nodes n i found far h k x le held e = h k x (omega (arith, far, le)) e

pub words_kept : (nodes : List Node) (n : ℕ) (old new : List ℕ) → AreKept old new → HasWords nodes old n → HasWords nodes new n
words_kept nodes n old new f h k x le held e = f x (h k x le held e)

pub widths_kept : (nodes : List Node) (old new widths : List ℕ) → AreKept old new → All (HasWords nodes old) widths → All (HasWords nodes new) widths
widths_kept nodes old new widths f h = All-weaker (HasWords nodes old) (HasWords nodes new) (λ n. words_kept nodes n old new f) widths h

pub widths_push : (nodes : List Node) (found widths new : List ℕ) (n : ℕ) → new ≡ widths ++ n ∷ [] → HasWords nodes found n → All (HasWords nodes found) widths → All (HasWords nodes found) new
widths_push nodes found widths new n e own h = subst (All (HasWords nodes found)) (sym e) (All-push (HasWords nodes found) widths n h own)

-- ---- what terms need

pub selects_kept : (nodes : List Node) (t : ℕ) (old new : List ℕ) → AreKept old new → HasSelects nodes old t → HasSelects nodes new t
selects_kept nodes t old new f h a b w shape is = let p = h a b w shape is in (f w.left p.0, f w.right p.1)

pub index_words_kept : (nodes : List Node) (t : ℕ) (old new : List ℕ) → AreKept old new → HasIndexWords nodes old t → HasIndexWords nodes new t
index_words_kept nodes t old new f h n e = words_kept nodes n old new f (h n e)

-- of the terms so far
pub record FoundSoFar (nodes : List Node) (among : List ℕ) (i : ℕ) (widths found : List ℕ) : Type 0 where
  pub selects : All (HasSelects nodes found) (take i among)
  pub words : All (HasIndexWords nodes found) (take i among)
  pub scalars : All (IsScalar nodes) found
  pub widths_are : All (HasWords nodes found) widths

pub found_more : (nodes : List Node) (among : List ℕ) (i d : ℕ) (widths found widths' new : List ℕ) → i < length among → FoundSoFar nodes among i widths found → AreKept found new → HasSelects nodes new (get_or among i d) → HasIndexWords nodes new (get_or among i d)
    → (All (IsScalar nodes) found → All (IsScalar nodes) new) → All (HasWords nodes new) widths' → FoundSoFar nodes among (i + 1) widths' new
found_more nodes among i d widths found widths' new lt h f selects words scalars own = record {
  selects = All-more (HasSelects nodes new) among i d lt (All-weaker (HasSelects nodes found) (HasSelects nodes new) (λ t. selects_kept nodes t found new f) (take i among) h.selects) selects;
  words = All-more (HasIndexWords nodes new) among i d lt (All-weaker (HasIndexWords nodes found) (HasIndexWords nodes new) (λ t. index_words_kept nodes t found new f) (take i among) h.words) words;
  scalars = scalars h.scalars;
  widths_are = own;
}

pub found_all : (nodes : List Node) (among : List ℕ) (i : ℕ) (widths found : List ℕ) → length among ≤ i → FoundSoFar nodes among i widths found → AreFound nodes among found
found_all nodes among i widths found le h = record {
  selects = subst (All (HasSelects nodes found)) (take_all i among le) h.selects;
  words = subst (All (HasIndexWords nodes found)) (take_all i among le) h.words;
  scalars = h.scalars;
}

-- ---- the terms of a check behind them

pub live_found : (nodes : List Node) (roots reached found live : List ℕ) → IsReach (arguments nodes) roots reached → AreFound nodes reached found → All (IsScalar nodes) roots → live ≡ found ++ roots → AreLive nodes roots live
live_found nodes roots reached found live r h scalars e =
    let kept : AreKept found live = λ x c. subst (λ l. Contains l x) (sym e) (Contains-append_left found roots x c) in
    record {
      selects = λ t is. selects_kept nodes t found live kept (All-contains (HasSelects nodes found) reached t h.selects (r.all t is));
      words = λ t is. index_words_kept nodes t found live kept (All-contains (HasIndexWords nodes found) reached t h.words (r.all t is));
      own = λ k d lt. subst (λ l. Contains l (get_or roots k d)) (sym e) (Contains-append_right found roots (get_or roots k d) (Contains-get_or roots k d lt));
      scalars = subst (All (IsScalar nodes)) (sym e) (All-append (IsScalar nodes) found roots h.scalars scalars);
    }
