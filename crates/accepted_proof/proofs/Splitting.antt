-- The variables by which a check may be split rise, since each step draws its own above those of the steps before it.
use Rattle.std.proofs.Common.{◌≡◌, ℕ, zero, suc, ◌+◌, ◌<◌, ◌≤◌, ◌^◌, Bool, true, false, List, [], ◌∷◌, ◌++◌, map, flat_map, take, Some, refl, sym, ap, subst, arith}
use Rattle.std.specs.Prelude.{◌&&◌, is_some, if◌then◌else◌}
use Rattle.std.proofs.lemmas.Bool.{eq-eqb}
use Rattle.cnf_base.specs.Literals.{Literal}
use Rattle.cnf_base.specs.Assignments.{fresh_bits}
use Rattle.smt_terms.specs.declared.node.Node.{Node}
use Rattle.smt_terms.specs.Nodes.{node_at}
use Rattle.proof_log.specs.declared.entry.Entry.{Entry}
use Rattle.proof_log.specs.declared.entry.Entry.TheVariants as entry
use Rattle.proof_log.specs.Logs.{LogState, with_value, constant_width, IsLeaf, IsStep, leaf_after, after, state_from, AreSteps}
use Rattle.proof_log.proofs.Staying.{Holds, Holds-then, step_holds, steps_hold}
use Rattle.cube_tree.specs.Cubes.{AreVariables}
use Rattle.accepted_proof.specs.Searching.{is_reached, variables_of, leaf_variables, Rise}

-- ---- numbers that rise

rise_from : (low a high : ℕ) (xs : List ℕ) → low ≤ a → Rise a high xs → Rise low high xs
rise_from low a high [] le h = omega arith
rise_from low a high (x ∷ xs) le h = let first = h.0 in (omega arith, h.1)

pub rise_ends : (low high : ℕ) (xs : List ℕ) → Rise low high xs → low ≤ high
rise_ends low high [] h = h
rise_ends low high (x ∷ xs) h = let first = h.0 in let rest = rise_ends (suc x) high xs h.1 in omega (arith, first, rest)

rise_append : (low mid high : ℕ) (xs ys : List ℕ) → Rise low mid xs → Rise mid high ys → Rise low high (xs ++ ys)
rise_append low mid high [] ys h k = rise_from low mid high ys h k
rise_append low mid high (x ∷ xs) ys h k = (h.0, rise_append (suc x) mid high xs ys h.1 k)

rise_fresh : (g n : ℕ) → Rise g (g + n) (map (λ (l : Literal). l.variable) (fresh_bits g n))
rise_fresh g zero = omega arith
rise_fresh g (suc n) =
    let same : suc g + n ≡ g + suc n = omega arith in
    (omega arith, subst (λ k. Rise (suc g) k (map (λ (l : Literal). l.variable) (fresh_bits (suc g) n))) same (rise_fresh (suc g) n))

pub rise_take : (low high n : ℕ) (xs : List ℕ) → Rise low high xs → Rise low high (take n xs)
rise_take low high zero xs h = rise_ends low high xs h
rise_take low high (suc n) [] h = h
rise_take low high (suc n) (x ∷ xs) h = (h.0, rise_take (suc x) high n xs h.1)

-- each is the variable of a literal
pub rise_variables : (low high : ℕ) (xs : List ℕ) → 0 < low → high ≤ 2 ^ 63 → Rise low high xs → AreVariables xs
rise_variables low high [] some bound h = tt
rise_variables low high (x ∷ xs) some bound h =
    let first = h.0 in
    let last : suc x ≤ high = rise_ends (suc x) high xs h.1 in
    ((omega (arith, some, first), omega (arith, last, bound)), rise_variables (suc x) high xs (omega arith) bound h.1)

-- ---- steps

-- the variables that a leaf drew
leaf_rises : (roots : List ℕ) (nodes : List Node) (final s : LogState) (t : ℕ) → IsLeaf nodes s t → Holds (after nodes s (entry.Leaf t)) final → Rise s.next (after nodes s (entry.Leaf t)).next (leaf_variables roots nodes final (entry.Leaf t))
leaf_rises roots nodes final s t i =
    subst (λ o. Holds (leaf_after s t o) final → Rise s.next (leaf_after s t o).next (leaf_variables roots nodes final (entry.Leaf t))) (sym i.constant)
    (by_choice i.width (is_some (constant_width (node_at nodes t).op) && is_reached roots nodes t))
  where
    own : (n : ℕ) → with_value s.bits t (fresh_bits s.next n) t ≡ Some (fresh_bits s.next n)
    own n = ap (λ (b : Bool). if b then Some (fresh_bits s.next n) else s.bits t) (eq-eqb t t refl)

    by_choice : (n : ℕ) (chosen : Bool) → Holds (leaf_after s t (Some n)) final → Rise s.next (s.next + n) (if chosen then variables_of (final.bits t) else [])
    by_choice n true h = subst (λ b. Rise s.next (s.next + n) (variables_of b)) (sym (h.bits t (fresh_bits s.next n) (own n))) (rise_fresh s.next n)
    by_choice n false h = omega arith

step_rises : (roots : List ℕ) (nodes : List Node) (final s : LogState) (e : Entry) → IsStep nodes s e → Holds (after nodes s e) final → Rise s.next (after nodes s e).next (leaf_variables roots nodes final e)
step_rises roots nodes final s (entry.Leaf t) i h = leaf_rises roots nodes final s t i h
step_rises roots nodes final s e i h = (step_holds nodes s e i).next

pub steps_rise : (roots : List ℕ) (nodes : List Node) (final s : LogState) (log : List Entry) → AreSteps nodes s log → Holds (state_from nodes s log) final → Rise s.next (state_from nodes s log).next (flat_map (leaf_variables roots nodes final) log)
steps_rise roots nodes final s [] h k = omega arith
steps_rise roots nodes final s (e ∷ log) h k =
    let rest = steps_hold nodes (after nodes s e) log h.1 in
    rise_append s.next (after nodes s e).next (state_from nodes (after nodes s e) log).next (leaf_variables roots nodes final e) (flat_map (leaf_variables roots nodes final) log)
    (step_rises roots nodes final s e h.0 (Holds-then (after nodes s e) (state_from nodes (after nodes s e) log) final rest k))
    (steps_rise roots nodes final (after nodes s e) log h.1 k)
