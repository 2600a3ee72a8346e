-- Which terms a check reaches by images and arguments.
use Rattle.std.proofs.Common.{◌≡◌, ℕ, zero, suc, ◌<◌, List, [], ◌∷◌, length, get_or, Option, Some, None, refl, subst, arith}
use Rattle.std.specs.Prelude.{All, Contains}
use Rattle.cnf_base.proofs.Options.{some_value}
use Rattle.cube_tree.proofs.Resolving.{members}
use Rattle.smt_terms.specs.declared.node.Node.{Node}
use Rattle.smt_terms.specs.Bits.{bits_in, image_in}
use Rattle.smt_terms.specs.Terms.{IsTermList, AreDifferent}
use Rattle.term_reach.specs.Reach.{IsReach, LeadsBelow}
use Rattle.term_reach.proofs.Ways.{arguments_below, reached_further, root_reached}
use Rattle.proof_log.specs.Assigned.{AreClosed, stands_on}
use Rattle.proof_log.specs.Stored.{LogValue, Stands}
use Rattle.proof_log.proofs.Linked.{stored_images_are}
use Rattle.proof_log.proofs.Settled.{stands_settled}
use Rattle.session_terms.specs.Placed.{by_images}
use Rattle.smt_session.specs.Growing.{HasBits}

module _ (nodes : List Node) (log : LogValue) (all : IsTermList nodes) (stands : Stands nodes log) where
  -- images are terms
  pub images_below : AreDifferent nodes → LeadsBelow (length nodes) (by_images nodes (image_in log.bits))
  images_below different t u c = go (image_in log.bits t) refl c
    where
      go : (o : Option ℕ) → image_in log.bits t ≡ o → Contains (stands_on nodes t (image_in log.bits t)) u → u < length nodes
      go None e k = arguments_below nodes all t u (subst (λ o. Contains (stands_on nodes t o) u) e k)
      go (Some x) e k = one (subst (λ o. Contains (stands_on nodes t o) u) e k)
        where
          one : Contains (x ∷ []) u → u < length nodes
          one (zero, lt, same) = subst (λ y. y < length nodes) same (stored_images_are nodes log all different stands t x e).to
          one (suc k, lt, same) = absurd (omega (arith, lt))

  -- terms with bits are held
  pub with_bits_held : (roots : List ℕ) → All (HasBits log) roots → All (λ t. t < length nodes) roots
  with_bits_held roots h k d lt =
      let b = some_value (bits_in log.bits (get_or roots k d)) (h k d lt) in
      ((stands_settled nodes log all stands).bits (get_or roots k d) b.0 b.1).0

  module _ (roots reached : List ℕ) (r : IsReach (by_images nodes (image_in log.bits)) roots reached) where
    pub reached_is_closed : AreClosed nodes (image_in log.bits) (Contains reached)
    reached_is_closed t u c k = r.all u (reached_further (by_images nodes (image_in log.bits)) roots t u (r.only t c) k)

    pub roots_reached : All (Contains reached) roots
    roots_reached = members (Contains reached) roots (λ u c. r.all u (root_reached (by_images nodes (image_in log.bits)) roots u c))
