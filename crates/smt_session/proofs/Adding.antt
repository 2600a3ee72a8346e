-- What the steps that searches add leave: chains, equalities and lemmas.
use Rattle.std.proofs.Common.{◌≡◌, ℕ, zero, suc, ◌≤◌, List, [], ◌∷◌, ◌++◌, length, take, Option, Some, refl, sym, ap, ◌∙◌, subst, arith}
use Rattle.std.specs.Prelude.{◌&&◌, is_some, if◌then◌else◌, slice_get}
use Rattle.std.specs.List.{AllByRecursion, flat_map}
use Rattle.cnf_base.specs.Literals.{Literal}
use Rattle.cnf_base.proofs.Lists.{each_slice_get}
use Rattle.smt_terms.specs.declared.node.Node.{Node}
use Rattle.smt_terms.specs.Nodes.{node_at}
use Rattle.smt_terms.specs.Terms.{TermsValue}
use Rattle.script_state.specs.States.{StateValue, roots}
use Rattle.proof_log.specs.declared.entry.Entry.{Entry}
use Rattle.proof_log.specs.declared.entry.Entry.TheVariants as step
use Rattle.proof_log.specs.declared.entry.Role.TheVariants as role
use Rattle.proof_log.specs.Boards.{IsAdded, Grows as Prolongs}
use Rattle.proof_log.specs.LemmaBoards.{Adds}
use Rattle.proof_log.specs.Faults.{MakesNoTerm}
use Rattle.proof_log.specs.Logs.{LogState, start, constant_width, entry_at, after, state_from, state_of}
use Rattle.proof_log.specs.Stored.{LogValue, Stands}
use Rattle.proof_log.proofs.Growth.{added_keeps}
use Rattle.proof_log.proofs.Staying.{state_from-append}
use Rattle.theory_cubes.proofs.Resting.{adds_chains}
use Rattle.accepted_proof.specs.Searching.{Limits, is_reached, variables_of, leaf_variables, cube_variables}
use Rattle.smt_session.specs.Growing.{AreStepsFor, GivesNoBits, Grows, IsStepFor}

-- ---- the steps

-- such a step names nothing of the script, and has a line
added_for : (s : StateValue) (e : Entry) → IsAdded e → IsStepFor s e
added_for s (step.Chain c hints) h = (tt, refl)
added_for s (step.Equal t u) h = (tt, refl)
added_for s (step.Lemma l) h = (tt, refl)
added_for s e h = let f : ⊥ = cc in absurd f

added_still : (e : Entry) → IsAdded e → MakesNoTerm e
added_still e h term = let q : role.Search ≡ role.Term = sym h ∙ term in let f : ⊥ = cc in f

added_bare : (e : Entry) → IsAdded e → GivesNoBits e
added_bare e h t bits = let q : role.Search ≡ role.Bits t = sym h ∙ bits in let f : ⊥ = cc in f

all_for : (s : StateValue) (es : List Entry) → AllByRecursion IsAdded es → AreStepsFor s es
all_for s [] h = tt
all_for s (e ∷ es) h = (added_for s e h.0, all_for s es h.1)

all_still : (es : List Entry) → AllByRecursion IsAdded es → AllByRecursion MakesNoTerm es
all_still [] h = tt
all_still (e ∷ es) h = (added_still e h.0, all_still es h.1)

all_bare : (es : List Entry) → AllByRecursion IsAdded es → AllByRecursion GivesNoBits es
all_bare [] h = tt
all_bare (e ∷ es) h = (added_bare e h.0, all_bare es h.1)

-- a log that searches added to
pub grows_by_adds : (s : StateValue) (old new : LogValue) → Adds old.entries new.entries → Stands s.terms.nodes new → Grows s old new
grows_by_adds s old new g h = record { added = g.more; entries = g.is; each = all_for s g.more g.added; still = all_still g.more g.added; bare = all_bare g.more g.added; stands = h }

-- one that gained chains, over the terms that a check looked up
pub grows_by_chains : (s : StateValue) (terms : TermsValue) (old new : LogValue) → terms ≡ s.terms → Prolongs old.entries new.entries → Stands terms.nodes new → Grows s old new
grows_by_chains s terms old new own g h = grows_by_adds s old new (adds_chains old.entries new.entries g) (subst (λ (t : TermsValue). Stands t.nodes new) own h)

-- ---- where they stand

added_in : (log more : List Entry) (k : ℕ) (e : Entry) → AllByRecursion IsAdded more → length log ≤ k → slice_get (log ++ more) k ≡ Some e → IsAdded e
added_in [] more k e h le q = each_slice_get IsAdded more k e h q
added_in (x ∷ log) more zero e h le q = absurd (omega (arith, le))
added_in (x ∷ log) more (suc k) e h le q = added_in log more k e h (omega (arith, le)) q

-- what is behind the old log was added
pub added_behind : (log log' : List Entry) (at : ℕ) (e : Entry) → Adds log log' → suc (length log) ≤ at → entry_at log' at ≡ Some e → IsAdded e
added_behind log log' zero e g le q = absurd (omega (arith, le))
added_behind log log' (suc k) e g le q = added_in log g.more k e g.added (omega (arith, le)) (ap (λ l. slice_get l k) (sym g.is) ∙ q)

-- ---- what stays

steps_keep : (nodes : List Node) (s : LogState) (more : List Entry) → AllByRecursion IsAdded more → (state_from nodes s more).bits ≡ s.bits
steps_keep nodes s [] h = refl
steps_keep nodes s (e ∷ more) h = steps_keep nodes (after nodes s e) more h.1 ∙ (added_keeps nodes s e h.0).0

added_bits : (nodes : List Node) (log log' : List Entry) → Adds log log' → (state_of nodes log').bits ≡ (state_of nodes log).bits
added_bits nodes log log' g = ap (λ es. (state_of nodes es).bits) g.is ∙ ap (λ (r : LogState). r.bits) (state_from-append nodes start log g.more) ∙ steps_keep nodes (state_of nodes log) g.more g.added

module _ (from : List ℕ) (nodes : List Node) (s s' : LogState) (same : s'.bits ≡ s.bits) where
  same_leaf : (e : Entry) → leaf_variables from nodes s' e ≡ leaf_variables from nodes s e
  same_leaf (step.Leaf t) = ap (λ (bits : ℕ → Option (List Literal)). if is_some (constant_width (node_at nodes t).op) && is_reached from nodes t then variables_of (bits t) else []) same
  same_leaf e = refl

  added_split : (more : List Entry) → AllByRecursion IsAdded more → flat_map (leaf_variables from nodes s') more ≡ []
  added_split [] h = refl
  added_split (step.Leaf t ∷ more) h = let q = h.0 in let f : ⊥ = cc in absurd f
  added_split (e ∷ more) h = added_split more h.1

  same_split : (log more : List Entry) → AllByRecursion IsAdded more → flat_map (leaf_variables from nodes s') (log ++ more) ≡ flat_map (leaf_variables from nodes s) log
  same_split [] more h = added_split more h
  same_split (e ∷ log) more h = ap (λ xs. xs ++ flat_map (leaf_variables from nodes s') (log ++ more)) (same_leaf e) ∙ ap (λ xs. leaf_variables from nodes s e ++ xs) (same_split log more h)

-- the variables that split a check stay
pub variables_stay : (limits : Limits) (s : StateValue) (nodes : List Node) (log log' : List Entry) → Adds log log' → cube_variables limits s nodes log' ≡ cube_variables limits s nodes log
variables_stay limits s nodes log log' g =
    ap (take limits.cubes)
    (ap (λ es. flat_map (leaf_variables (roots s) nodes (state_of nodes log')) es) g.is
    ∙ same_split (roots s) nodes (state_of nodes log) (state_of nodes log') (added_bits nodes log log' g) log g.more g.added)

pub still_split : (limits : Limits) (s : StateValue) (nodes : List Node) (log log' : List Entry) (variables : List ℕ) → Adds log log' → variables ≡ cube_variables limits s nodes log → variables ≡ cube_variables limits s nodes log'
still_split limits s nodes log log' variables g e = e ∙ sym (variables_stay limits s nodes log log' g)
