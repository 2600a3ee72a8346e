-- A search that took what was put.
use Rattle.std.proofs.Common.{◌≡◌, ℕ, zero, suc, ◌≤◌, ◌<◌, true, false, List, [], ◌∷◌, ◌++◌, length, Some, refl, sym, ap, ◌∙◌, subst, inl, inr, ⊎_elim, arith}
use Rattle.std.specs.Prelude.{◌⊎◌, Contains, slice_get}
use Rattle.std.specs.List.{AllByRecursion}
use Rattle.cnf_base.specs.Literals.{Literal}
use Rattle.cnf_base.specs.declared.clause.ClauseId.{ClauseId}
use Rattle.smt_terms.specs.declared.node.Node.{Node}
use Rattle.proof_log.specs.declared.entry.Entry.{Entry}
use Rattle.proof_log.specs.declared.entry.Entry.TheVariants as step
use Rattle.proof_log.specs.Logs.{clause_at, entry_at, state_of, IsLog}
use Rattle.proof_log.specs.Boards.{IsAdded, IsOfSearch, Grows, IsLater}
use Rattle.proof_log.specs.LemmaBoards.{Adds, IsLaterByMore}
use Rattle.proof_log.specs.Diaries.{is_chain}
use Rattle.proof_log.proofs.Placed.{later_at}
use Rattle.cube_search.specs.declared.search.Search.{Search}
use Rattle.cube_search.specs.Holding.{AreSeparate, IsLonger}
use Rattle.cube_search.specs.Keeping.{is_theory}
use Rattle.cube_search.specs.Running.{IsSearch, IsWriting}
use Rattle.cube_search.proofs.Adding.{theory_plain, writing_added, search_more}
use Rattle.cube_search.proofs.Steps.{still_search}
use Rattle.cube_search.proofs.Told.{longer_same}
use Rattle.theory_search.specs.Theories.{AreKnown, IsApart}
use Rattle.theory_search.proofs.Apart.{apart_all, apart_more}
use Rattle.theory_search.proofs.Grown.{adds_chains, adds_then}

-- ---- steps that are added

in_all : (P : Entry → Type 0) (xs : List Entry) (i : ℕ) (e : Entry) → AllByRecursion P xs → slice_get xs i ≡ Some e → P e
in_all P [] i e h q = let f : ⊥ = cc in absurd f
in_all P (x ∷ xs) zero e h q = let same : x ≡ e = cc in subst P same h.0
in_all P (x ∷ xs) (suc i) e h q = in_all P xs i e h.1 q

added_is : (e : Entry) → IsAdded e → is_chain (Some e) ≡ false → is_theory (Some e) ≡ true
added_is (step.Chain c hints) h q = let f : ⊥ = cc in absurd f
added_is (step.Equal t u) h q = refl
added_is (step.Lemma l) h q = refl
added_is e h q = let f : ⊥ = cc in absurd f

entry_is : (log : List Entry) (p : ℕ) → 0 < p → p ≤ length log → (e : Entry) × (entry_at log p ≡ Some e)
entry_is log zero lt le = absurd (omega (arith, lt))
entry_is [] (suc p) lt le = absurd (omega (arith, le))
entry_is (e ∷ log) (suc zero) lt le = (e, refl)
entry_is (e ∷ log) (suc (suc p)) lt le = entry_is log (suc p) (omega arith) (omega (arith, le))

-- the step at a position behind the old ones
new_entry : (P : Entry → Type 0) (log log' more : List Entry) → log' ≡ log ++ more → AllByRecursion P more → (p : ℕ) → length log < p → p ≤ length log' → (e : Entry) × (entry_at log' p ≡ Some e) × P e
new_entry P log log' more is h p lt le =
    let k = entry_is log' p (omega (arith, lt)) le in
    let at : entry_at (log ++ more) p ≡ Some k.0 = ap (λ l. entry_at l p) (sym is) ∙ k.1 in
    let i = later_at log more p k.0 at (omega (arith, lt)) in
    (k.0, k.1, in_all P more i.0 k.0 h i.1)

pub new_theory : (log log' : List Entry) → Adds log log' → (p : ℕ) → length log < p → p ≤ length log' → is_chain (entry_at log' p) ≡ false → is_theory (entry_at log' p) ≡ true
new_theory log log' g p lt le plain =
    let k = new_entry IsAdded log log' g.more g.is g.added p lt le in
    subst (λ o. is_theory o ≡ true) (sym k.1) (added_is k.0 k.2 (subst (λ o. is_chain o ≡ false) k.1 plain))

new_chain : (log log' : List Entry) → Grows log log' → (p : ℕ) → length log < p → p ≤ length log' → is_chain (entry_at log' p) ≡ false → ⊥
new_chain log log' g p lt le plain =
    let k = new_entry IsOfSearch log log' g.more g.is g.of_search p lt le in
    let f : true ≡ false = sym k.2 ∙ subst (λ o. is_chain o ≡ false) k.1 plain in
    let x : ⊥ = cc in x

-- ---- chains alone

pub apart_chains : (nodes : List Node) (log log' : List Entry) → Grows log log' → (variables : List ℕ) (next : ℕ) (opening : List ℕ) (from : ℕ) → from ≤ suc (length log) → ((p : ℕ) → Contains opening p → p ≤ length log) → IsApart nodes log variables next opening from → IsApart nodes log' variables next opening from
apart_chains nodes log log' g variables next opening from within places h =
    apart_more nodes log log' (adds_chains log log' g) variables next opening opening from (longer_same opening opening refl) (λ p k. inl k)
    (λ p lt le plain. absurd (new_chain log log' g p lt le plain))
    (λ id c lt le plain e. absurd (new_chain log log' g id.pos lt le plain))
    within places h

-- ---- what a search took

module _ (nodes : List Node) (log log' : List Entry) (g : Adds log log') (variables : List ℕ) (next upto : ℕ) (s n : Search)
    (search : IsSearch s nodes log)
    (whole : upto ≡ suc (length log'))
    (from : n.from ≡ s.from)
    (longer : IsLonger s.opening.items n.opening.items)
    (only : (p : ℕ) → Contains n.opening.items p → Contains s.opening.items p ⊎ (is_theory (entry_at log' p) ≡ true))
    (came : (p : ℕ) → Contains n.opening.items p → Contains s.opening.items p ⊎ ((s.seen ≤ p) × (p < upto)))
    (all : (p : ℕ) → s.seen ≤ p → p < upto → is_theory (entry_at log' p) ≡ true → Contains n.opening.items p)
    (known : (id : ClauseId) (c : List Literal) → suc (length log) ≤ id.pos → id.pos < upto → is_chain (entry_at log' id.pos) ≡ false → clause_at (state_of nodes log').clauses id ≡ Some c → AreKnown variables next c)
    (h : IsApart nodes log variables next s.opening.items s.from) where
  both : (p : ℕ) → Contains n.opening.items p → Contains s.opening.items p ⊎ ((s.from ≤ p) × (p ≤ length log') × (is_chain (entry_at log' p) ≡ false))
  both p k = ⊎_elim
      (λ old. inl old)
      (λ e. ⊎_elim
      (λ old. inl old)
      (λ q. inr ((let low = search.1.placed.from_seen in let high = q.0 in omega (arith, low, high)), (let less = q.1 in omega (arith, less, whole)), theory_plain (entry_at log' p) e))
      (came p k))
      (only p k)

  pub apart_taken : IsApart nodes log' variables next n.opening.items n.from
  apart_taken = subst (λ (f : ℕ). IsApart nodes log' variables next n.opening.items f) (sym from)
      (apart_more nodes log log' g variables next s.opening.items n.opening.items s.from longer both
      (λ p lt le plain. all p (let seen = search.1.placed.within in omega (arith, seen, lt)) (omega (arith, le, whole)) (new_theory log log' g p lt le plain))
      (λ id c lt le plain e. known id c (omega (arith, lt)) (omega (arith, le, whole)) plain e)
      (let a = search.1.placed.from_seen in let b = search.1.placed.within in omega (arith, a, b))
      (λ p k. (let lt = search.1.placed.before p k in omega (arith, lt)))
      h)

  pub separate_taken : AreSeparate (state_of nodes log').clauses log' n.opening.items (suc (length log'))
  separate_taken = apart_all nodes log' variables next n.opening.items n.from apart_taken

-- the diary is kept meanwhile
pub still_writing : (s : Search) (own nodes : List Node) (log log' : List Entry) → own ≡ nodes → Adds log log' → IsLog nodes log' → IsSearch s own log → IsWriting s own log → IsWriting s nodes log'
still_writing s own nodes log log' e g stands h w =
    writing_added s nodes log log' g stands (subst (λ n. IsSearch s n log) e h) (subst (λ n. IsWriting s n log) e w)

-- between parts of a run: a log that chains, and then equalities and lemmas, were added to
module _ (n0 n1 n2 : List Node) (l0 l1 l2 : List Entry) (p q r : ℕ → Type 0) (first : IsLater n0 n1 l0 l1 p q) (more : IsLaterByMore n1 n2 l1 l2 q r) (s : Search) (search : IsSearch s n0 l0) where
  pub search_between : IsSearch s n2 l1
  search_between = subst (λ (n : List Node). IsSearch s n l1) (sym more.nodes) (still_search s n0 n1 l0 l1 p q first search)

  pub search_behind : IsSearch s n2 l2
  search_behind = search_more s n1 n2 l1 l2 q r more (still_search s n0 n1 l0 l1 p q first search)

  pub apart_between : (variables : List ℕ) (next : ℕ) → IsApart n0 l0 variables next s.opening.items s.from → IsApart n2 l1 variables next s.opening.items s.from
  apart_between variables next h =
      subst (λ (n : List Node). IsApart n l1 variables next s.opening.items s.from) (sym (more.nodes ∙ first.nodes))
      (apart_chains n0 l0 l1 first.grows variables next s.opening.items s.from
      (let a = search.1.placed.from_seen in let b = search.1.placed.within in omega (arith, a, b))
      (λ x k. (let lt = search.1.placed.before x k in omega (arith, lt)))
      h)

  pub writing_behind : IsWriting s n0 l0 → IsWriting s n2 l2
  writing_behind w =
      subst (λ (n : List Node). IsWriting s n l2) (sym (more.nodes ∙ first.nodes))
      (writing_added s n0 l0 l2 (adds_then l0 l1 l2 (adds_chains l0 l1 first.grows) more.adds) (subst (λ (n : List Node). IsLog n l2) (more.nodes ∙ first.nodes) more.stands) search w)

-- the same of what was taken, on a board
module _ (own nodes : List Node) (old log' : List Entry) (p q : ℕ → Type 0) (later : IsLater own nodes old log' p q) (variables : List ℕ) (next upto : ℕ) (s n : Search)
    (whole : upto ≡ suc (length log'))
    (from : n.from ≡ s.from)
    (longer : IsLonger s.opening.items n.opening.items)
    (only : (p : ℕ) → Contains n.opening.items p → Contains s.opening.items p ⊎ (is_theory (entry_at log' p) ≡ true))
    (came : (p : ℕ) → Contains n.opening.items p → Contains s.opening.items p ⊎ ((s.seen ≤ p) × (p < upto)))
    (all : (p : ℕ) → s.seen ≤ p → p < upto → is_theory (entry_at log' p) ≡ true → Contains n.opening.items p)
    (log : List Entry) (adds : Adds log old) (first : ℕ) (is : first ≡ suc (length log))
    (known : (id : ClauseId) (c : List Literal) → first ≤ id.pos → id.pos < upto → is_chain (entry_at log' id.pos) ≡ false → clause_at (state_of nodes log').clauses id ≡ Some c → AreKnown variables next c)
    (search : IsSearch s own log) (h : IsApart own log variables next s.opening.items s.from) where
  here : IsSearch s nodes log
  here = subst (λ (n : List Node). IsSearch s n log) (sym later.nodes) search

  known_here : (id : ClauseId) (c : List Literal) → suc (length log) ≤ id.pos → id.pos < upto → is_chain (entry_at log' id.pos) ≡ false → clause_at (state_of nodes log').clauses id ≡ Some c → AreKnown variables next c
  known_here id c le lt plain e = known id c (omega (arith, le, is)) lt plain e

  pub board_apart : IsApart nodes log' variables next n.opening.items n.from
  board_apart =
      apart_taken nodes log log' (adds_then log old log' adds (adds_chains old log' later.grows)) variables next upto s n here whole from longer only came all known_here
      (subst (λ (ns : List Node). IsApart ns log variables next s.opening.items s.from) (sym later.nodes) h)

  pub board_separate : AreSeparate (state_of nodes log').clauses log' n.opening.items (suc (length log'))
  board_separate = apart_all nodes log' variables next n.opening.items n.from board_apart
