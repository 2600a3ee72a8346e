-- Which terms are plain stays so as terms are made and forgotten, and follows from the arguments.
use Rattle.std.proofs.Common.{◌≡◌, ℕ, ◌+◌, ◌<◌, ◌≤◌, Bool, true, false, ◌&&◌, List, [], ◌∷◌, ◌++◌, length, take, drop, get_or, refl, sym, ap, ◌∙◌, arith, ⊎_elim, length-append}
use Rattle.std.specs.Prelude.{slice_index_or}
use Rattle.std.specs.List.{list_all, AllByRecursion}
use Rattle.std.proofs.lemmas.Bool.{cases_lt}
use Rattle.std.proofs.lemmas.List.{get_or_append_left, get_or-take, length-take, take-append-drop, take_all}
use Rattle.std.proofs.Math.Seq.{get_or-append_seam}
use Rattle.std.proofs.lemmas.List.Folds.{list_all-map, list_all_more, list_all_at}
use Rattle.smt_terms.specs.declared.sort.Signature.{Signature}
use Rattle.smt_terms.specs.declared.node.Node.{Node}
use Rattle.smt_terms.specs.Nodes.{node_at}
use Rattle.smt_terms.specs.Terms.{TermsValue, IsTerm, IsTermList}
use Rattle.smt_terms.proofs.Recursion.{same_map, at_term_is, at_term_longer}
use Rattle.smt_build.specs.Building.{Grows}
use Rattle.script_state.specs.Plain.{is_plain_op, is_plain, HavePlain}

pub plain_longer : (nodes more : List Node) (t : ℕ) → t < length nodes → is_plain (nodes ++ more) t ≡ is_plain nodes t
plain_longer nodes more t lt = at_term_longer false (λ u op args. is_plain_op op && list_all (λ b. b) args) nodes more t lt

-- a term is plain where its operator is and each argument
pub plain_is : (nodes : List Node) (t : ℕ) → IsTerm nodes t → is_plain nodes t ≡ (is_plain_op (node_at nodes t).op && list_all (is_plain nodes) (node_at nodes t).args)
plain_is nodes t is =
    at_term_is false (λ u op args. is_plain_op op && list_all (λ b. b) args) nodes t is.earlier
    ∙ ap (λ b. is_plain_op (node_at nodes t).op && b) (list_all-map (λ b. b) (is_plain nodes) (node_at nodes t).args)

-- what is kept of the arguments
pub marked_args : (nodes : List Node) (marks : List Bool) (args : List ℕ) → HavePlain nodes marks → AllByRecursion (λ a. a < length marks) args → list_all (λ a. slice_index_or marks a false) args ≡ list_all (is_plain nodes) args
marked_args nodes marks args have h =
    sym (list_all-map (λ b. b) (λ a. slice_index_or marks a false) args)
    ∙ ap (list_all (λ b. b)) (same_map (λ a. a < length marks) (λ a. slice_index_or marks a false) (is_plain nodes) have.each args h)
    ∙ list_all-map (λ b. b) (is_plain nodes) args

-- one term more
pub plain_pushed : (nodes : List Node) (marks : List Bool) (b : Bool) → HavePlain nodes marks → length marks < length nodes → b ≡ is_plain nodes (length marks) → HavePlain nodes (marks ++ b ∷ [])
plain_pushed nodes marks b have lt e = record { within = omega (arith, length-append marks (b ∷ []), lt); each = each } where
  each : (t : ℕ) → t < length (marks ++ b ∷ []) → slice_index_or (marks ++ b ∷ []) t false ≡ is_plain nodes t
  each t h =
      ⊎_elim
      (λ less. get_or_append_left marks (b ∷ []) false t less ∙ have.each t less)
      (λ le. let q : t ≡ length marks = omega (arith, length-append marks (b ∷ []), h) in rw q (get_or-append_seam marks b [] false ∙ e))
      (cases_lt t (length marks))

-- no term is kept
pub plain_none : (nodes : List Node) → HavePlain nodes []
plain_none nodes = record { within = omega arith; each = λ t lt. absurd (omega (arith, lt)) }

-- more terms
pub plain_grown : (nodes more : List Node) (marks : List Bool) → HavePlain nodes marks → HavePlain (nodes ++ more) marks
plain_grown nodes more marks have = record {
  within = omega (arith, length-append nodes more, have.within);
  each = λ t lt. have.each t lt ∙ sym (plain_longer nodes more t (omega (arith, lt, have.within)));
}

pub plain_grows : (signatures : List Signature) (old new : TermsValue) (marks : List Bool) → Grows signatures old new → HavePlain old.nodes marks → HavePlain new.nodes marks
plain_grows signatures old new marks grows have = rw grows.nodes (plain_grown old.nodes grows.behind marks have)

-- the last terms are forgotten
pub plain_cut : (nodes : List Node) (marks : List Bool) (len : ℕ) → HavePlain nodes marks → len ≤ length nodes → HavePlain (take len nodes) (take len marks)
plain_cut nodes marks len have le = record { within = omega (arith, length-take len nodes, length-take len marks, have.within); each = each } where
  each : (t : ℕ) → t < length (take len marks) → slice_index_or (take len marks) t false ≡ is_plain (take len nodes) t
  each t lt =
      let below : (t < len) × (t < length marks) = grind (arith, lt, length-take len marks) in
      let held : t < length (take len nodes) = grind (arith, length-take len nodes, below, have.within) in
      get_or-take len marks t false below.0
      ∙ have.each t below.1
      ∙ sym (ap (λ ns. is_plain ns t) (take-append-drop len nodes))
      ∙ plain_longer (take len nodes) (drop len nodes) t held

-- ---- loops

-- of the arguments so far each is kept as plain
abbrev pub MarkedSoFar : List Bool → List ℕ → ℕ → Type 0
MarkedSoFar marks args i = list_all (λ a. slice_index_or marks a false) (take i args) ≡ true

pub marked_more : (marks : List Bool) (args : List ℕ) (i d : ℕ) → i < length args → MarkedSoFar marks args i → slice_index_or marks (get_or args i d) false ≡ true → MarkedSoFar marks args (i + 1)
marked_more marks args i d lt so_far here =
    list_all_more (λ a. slice_index_or marks a false) args i d lt ∙ rw (so_far, here) refl

pub marked_all : (marks : List Bool) (args : List ℕ) (i : ℕ) → length args ≤ i → MarkedSoFar marks args i → true ≡ list_all (λ a. slice_index_or marks a false) args
marked_all marks args i le so_far = sym so_far ∙ ap (list_all (λ a. slice_index_or marks a false)) (take_all i args le)

pub marked_not : (marks : List Bool) (args : List ℕ) (i d : ℕ) → i < length args → slice_index_or marks (get_or args i d) false ≡ false → false ≡ list_all (λ a. slice_index_or marks a false) args
marked_not marks args i d lt here = sym (list_all_at (λ a. slice_index_or marks a false) args i d lt here)

-- the terms before this one are kept
pub record PlainSoFar (nodes : List Node) (marks : List Bool) (term : ℕ) : Type 0 where
  pub have : HavePlain nodes marks
  pub count : length marks ≡ term

pub plain_more : (nodes : List Node) (marks : List Bool) (term : ℕ) (b : Bool) → IsTermList nodes → PlainSoFar nodes marks term → term < length nodes → b ≡ (is_plain_op (node_at nodes term).op && list_all (λ a. slice_index_or marks a false) (node_at nodes term).args) → HavePlain nodes (marks ++ b ∷ [])
plain_more nodes marks term b list so_far lt e =
    let earlier = (list term lt).earlier in
    let args = marked_args nodes marks (node_at nodes term).args so_far.have (rw so_far.count earlier) in
    let here : b ≡ is_plain nodes term = e ∙ ap (λ c. is_plain_op (node_at nodes term).op && c) args ∙ sym (plain_is nodes term (list term lt)) in
    plain_pushed nodes marks b so_far.have (rw so_far.count lt) (rw so_far.count here)
