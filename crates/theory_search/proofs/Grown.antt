-- A log that equalities, lemmas and chains were added to.
use Rattle.std.proofs.Common.{◌≡◌, ℕ, ◌≤◌, List, [], ◌∷◌, ◌++◌, length, Option, Some, None, Result, Ok, Err, refl, sym, ap, ◌∙◌, subst, arith}
use Rattle.std.specs.Prelude.{Contains, IsSome}
use Rattle.std.specs.List.{AllByRecursion}
use Rattle.std.proofs.Common.{append_assoc, append-nil}
use Rattle.std.proofs.lemmas.List.Elements.{Contains-append_left}
use Rattle.cnf_base.specs.Literals.{Literal}
use Rattle.cnf_base.specs.declared.clause.ClauseId.{ClauseId}
use Rattle.smt_terms.specs.declared.node.Node.{Node}
use Rattle.theory_lemmas.specs.declared.fault.LemmaFault.{LemmaFault}
use Rattle.theory_lemmas.specs.Clauses.{clause_of}
use Rattle.theory_terms.specs.declared.lemma.Lemma.{Lemma}
use Rattle.proof_log.specs.declared.entry.Entry.{Entry}
use Rattle.proof_log.specs.declared.entry.Entry.TheVariants as step
use Rattle.proof_log.specs.Logs.{LogState, start, clause_at, entry_at, equal_after, lemma_after, after, state_from, state_of, IsLog}
use Rattle.proof_log.specs.Boards.{IsAdded, IsOfSearch, Grows, IsLater}
use Rattle.proof_log.specs.LemmaBoards.{Adds, IsLaterByMore}
use Rattle.proof_log.proofs.Growth.{added_keeps, chain_is_added, clause_place, entry_within}
use Rattle.proof_log.proofs.Staying.{state_from-append}
use Rattle.cube_search.specs.Holding.{IsLonger}
use Rattle.cube_search.proofs.Longer.{log_longer, entry_longer, clause_longer}
use Rattle.smt_terms.specs.Bits.{image_in}
use Rattle.term_reach.specs.Reach.{IsReach}
use Rattle.access_tables.specs.Leading.{leads}
use Rattle.access_walk.specs.Walked.{IsWalkable}
use Rattle.access_walk.specs.Searched.{IsPrepared}
use Rattle.theory_search.specs.Theories.{IsGiven, IsTheory, IsNamed, IsReady}
use Rattle.theory_search.specs.declared.theory.Theory.{Theory}

-- ---- steps that are added

all_append : (P : Entry → Type 0) (xs ys : List Entry) → AllByRecursion P xs → AllByRecursion P ys → AllByRecursion P (xs ++ ys)
all_append P [] ys h k = k
all_append P (x ∷ xs) ys h k = (h.0, all_append P xs ys h.1 k)

all_added : (xs : List Entry) → AllByRecursion IsOfSearch xs → AllByRecursion IsAdded xs
all_added [] h = tt
all_added (x ∷ xs) h = (chain_is_added x h.0, all_added xs h.1)

pub adds_chains : (log log' : List Entry) → Grows log log' → Adds log log'
adds_chains log log' g = record { more = g.more; is = g.is; added = all_added g.more g.of_search }

pub adds_none : (log : List Entry) → Adds log log
adds_none log = record { more = []; is = sym (append-nil log); added = tt }

pub adds_then : (a b c : List Entry) → Adds a b → Adds b c → Adds a c
adds_then a b c g h = record {
  more = g.more ++ h.more;
  is = h.is ∙ ap (λ l. l ++ h.more) g.is ∙ append_assoc a g.more h.more;
  added = all_append IsAdded g.more h.more g.added h.added;
}

pub longer_by_chains : (nodes nodes' : List Node) (log log' : List Entry) (p q : ℕ → Type 0) → IsLater nodes nodes' log log' p q → IsLaterByMore nodes nodes' log log' p q
longer_by_chains nodes nodes' log log' p q h = record { nodes = h.nodes; adds = adds_chains log log' h.grows; knows = h.knows; stands = h.stands }

pub more_same : (nodes : List Node) (log : List Entry) (known : ℕ → Type 0) → IsLog nodes log → IsLaterByMore nodes nodes log log known known
more_same nodes log known h = record { nodes = refl; adds = adds_none log; knows = λ p k. k; stands = h }

pub more_then : (a b c : List Node) (l m n : List Entry) (p q r : ℕ → Type 0) → IsLaterByMore a b l m p q → IsLaterByMore b c m n q r → IsLaterByMore a c l n p r
more_then a b c l m n p q r g h = record {
  nodes = h.nodes ∙ g.nodes;
  adds = adds_then l m n g.adds h.adds;
  knows = λ x k. h.knows x (g.knows x k);
  stands = h.stands;
}

-- ---- what stays

equal_images : (s : LogState) (t u : ℕ) (o p : Option (List Literal)) → (equal_after s t u o p).images ≡ s.images
equal_images s t u None p = refl
equal_images s t u (Some a) None = refl
equal_images s t u (Some a) (Some b) = refl

lemma_images : (s : LogState) (o : Result (List Literal) LemmaFault) → (lemma_after s o).images ≡ s.images
lemma_images s (Err f) = refl
lemma_images s (Ok c) = refl

step_images : (nodes : List Node) (s : LogState) (e : Entry) → IsAdded e → (after nodes s e).images ≡ s.images
step_images nodes s (step.Chain c hints) h = refl
step_images nodes s (step.Equal t u) h = equal_images s t u (s.bits t) (s.bits u)
step_images nodes s (step.Lemma l) h = lemma_images s (clause_of nodes s.bits s.equals l)
step_images nodes s e h = let f : ⊥ = cc in absurd f

steps_keep : (nodes : List Node) (s : LogState) (more : List Entry) → AllByRecursion IsAdded more → ((state_from nodes s more).bits ≡ s.bits) × ((state_from nodes s more).images ≡ s.images)
steps_keep nodes s [] h = (refl, refl)
steps_keep nodes s (e ∷ more) h =
    let k = steps_keep nodes (after nodes s e) more h.1 in
    (k.0 ∙ (added_keeps nodes s e h.0).0, k.1 ∙ step_images nodes s e h.0)

module _ (nodes : List Node) (log log' : List Entry) (g : Adds log log') where
  same : state_of nodes log' ≡ state_from nodes (state_of nodes log) g.more
  same = ap (state_of nodes) g.is ∙ state_from-append nodes start log g.more

  pub added_bits : (state_of nodes log').bits ≡ (state_of nodes log).bits
  added_bits = ap (λ s. s.bits) same ∙ (steps_keep nodes (state_of nodes log) g.more g.added).0

  pub added_images : (state_of nodes log').images ≡ (state_of nodes log).images
  added_images = ap (λ s. s.images) same ∙ (steps_keep nodes (state_of nodes log) g.more g.added).1

  -- a clause of an earlier position
  pub clause_before : (id : ClauseId) (c : List Literal) → id.pos ≤ length log → clause_at (state_of nodes log').clauses id ≡ Some c → clause_at (state_of nodes log).clauses id ≡ Some c
  clause_before id c le e = sym (clause_longer nodes log log' g.more g.is id le) ∙ e

  pub clause_after : (id : ClauseId) (c : List Literal) → clause_at (state_of nodes log).clauses id ≡ Some c → clause_at (state_of nodes log').clauses id ≡ Some c
  clause_after id c e = clause_longer nodes log log' g.more g.is id (clause_place nodes log id c e) ∙ e

  pub entry_same : (p : ℕ) → p ≤ length log → entry_at log' p ≡ entry_at log p
  entry_same p le = entry_longer log log' g.more g.is p le

  pub longer_log : length log ≤ length log'
  longer_log = log_longer log log' g.more g.is

  -- ---- a lemma, and what is kept for walks

  pub still_ready : (l : Lemma) → IsReady nodes log l → IsReady nodes log' l
  still_ready l h = record { atoms = h.atoms; are = h.are; named = subst (λ f. AllByRecursion (IsNamed nodes f) h.atoms) (sym added_bits) h.named }

  module _ (variables opening opening' : List ℕ) (longer : IsLonger opening opening') where
    still_held : (p : ℕ) → Contains opening p → Contains opening' p
    still_held p k = subst (λ ps. Contains ps p) (sym longer.1) (Contains-append_left opening longer.0 p k)

    still_given : (t : ℕ) → IsGiven nodes log variables opening t → IsGiven nodes log' variables opening' t
    still_given t h =
        let within = entry_within log h.place h.gives.0 h.gives.1 in
        record {
          place = h.place;
          gives = (h.gives.0, entry_same h.place within ∙ h.gives.1, h.gives.2);
          held = still_held h.place h.held;
          clauses = λ id c at e. h.clauses id c at (clause_before id c (omega (arith, at, within)) e);
          bits = λ row e. h.bits row (sym (ap (λ f. f t) added_bits) ∙ e);
        }

  pub still_theory : (t : Theory) (opening opening' : List ℕ) → IsLonger opening opening' → IsTheory nodes log opening t → IsTheory nodes log' opening' t
  still_theory t opening opening' longer h = record {
    bits = h.bits;
    are = λ u. h.are u ∙ sym (ap (λ f. f u) added_bits);
    images = λ u. h.images u ∙ sym (ap (λ f. f u) added_images);
    walkable = h.walkable;
    numbered = h.numbered;
    reach = h.reach;
    prepared = h.prepared;
    first = still_held t.variables opening opening' longer 0 h.first;
    one = h.one;
    given = λ u k has. still_given t.variables opening opening' longer u (h.given u k (subst (λ f. IsSome (f u)) added_bits has));
  }

-- the same on a board
pub theory_more : (t : Theory) (nodes nodes' : List Node) (log log' : List Entry) (p q : ℕ → Type 0) (opening opening' : List ℕ) → IsLaterByMore nodes nodes' log log' p q → IsLonger opening opening' → IsTheory nodes log opening t → IsTheory nodes' log' opening' t
theory_more t nodes nodes' log log' p q opening opening' later longer h =
    subst (λ n. IsTheory n log' opening' t) (sym later.nodes) (still_theory nodes log log' later.adds t opening opening' longer h)

pub ready_more : (l : Lemma) (nodes nodes' : List Node) (log log' : List Entry) (p q : ℕ → Type 0) → IsLaterByMore nodes nodes' log log' p q → IsReady nodes log l → IsReady nodes' log' l
ready_more l nodes nodes' log log' p q later h = subst (λ n. IsReady n log' l) (sym later.nodes) (still_ready nodes log log' later.adds l h)

-- the theory whose other fields are the same
pub theory_like : (t u : Theory) (nodes : List Node) (log : List Entry) (opening : List ℕ) → u.live ≡ t.live → u.reached ≡ t.reached → u.prepared ≡ t.prepared → u.variables ≡ t.variables → IsTheory nodes log opening t → IsTheory nodes log opening u
theory_like t u nodes log opening live reached prepared variables h = record {
  bits = h.bits;
  are = h.are;
  images = h.images;
  walkable = subst (λ v. IsWalkable nodes h.bits v.items) (sym live) h.walkable;
  numbered = h.numbered;
  reach = subst (λ v. IsReach (leads nodes (image_in h.bits)) v.items u.reached) (sym live) (subst (λ r. IsReach (leads nodes (image_in h.bits)) t.live.items r) (sym reached) h.reach);
  prepared = subst (λ r. IsPrepared nodes h.bits r u.prepared) (sym reached) (subst (λ q. IsPrepared nodes h.bits t.reached q) (sym prepared) h.prepared);
  first = h.first;
  one = subst (λ vs. Contains vs 1) (sym variables) h.one;
  given = λ x k has. subst (λ vs. IsGiven nodes log vs opening x) (sym variables) (h.given x (subst (λ (r : List ℕ). Contains r x) reached k) has);
}
