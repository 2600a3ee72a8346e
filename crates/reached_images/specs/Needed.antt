-- Which steps of a plan some terms need.
use Rattle.std.specs.Prelude.{ℕ, Bool, true, false, is_some, if◌then◌else◌, List, [], ◌∷◌, map, Option, Some, None}
use Rattle.smt_terms.specs.declared.node.Node.{Node}
use Rattle.smt_terms.specs.Nodes.{node_at}
use Rattle.smt_terms.specs.Bits.{TermBits, bits_in}
use Rattle.bv_rules.specs.declared.rule.Rule.{Rule}
use Rattle.bv_rules.specs.declared.rule.Rule.TheVariants.{Inner}
use Rattle.bv_rewrite.specs.declared.simplifying.Use.{Use}
use Rattle.reached_images.specs.declared.plan.Planned.{Planned}
use Rattle.reached_images.specs.Plans.{planned_in, step_image}

-- the rule on arguments, which looks through their images
abbrev pub is_inner : Rule → Bool
is_inner Inner = true
is_inner _ = false

-- the term has an image by these steps
abbrev pub is_used : List Planned → ℕ → Bool
is_used steps t = is_some (step_image (planned_in steps t))

-- an argument that has an image by these steps; any other is not looked through, and the term to which the use leads is in its place
abbrev pub looked_through : List Planned → ℕ → ℕ → ℕ
looked_through steps to a = if is_used steps a then a else to

-- of a term with these arguments, the term to which a use leads from it, and the arguments through which it looks
abbrev pub use_needs : List Planned → List ℕ → Use → List ℕ
use_needs steps args u = u.to ∷ (if is_inner u.rule then map (looked_through steps u.to) args else [])

-- what a use needs, or a term with these arguments that gets bits of its own
abbrev pub own_needs : List Planned → List ℕ → Option Use → List ℕ
own_needs steps args None = args
own_needs steps args (Some u) = use_needs steps args u

abbrev pub step_needs : List Planned → List ℕ → Option Planned → List ℕ
step_needs steps args None = []
step_needs steps args (Some p) = own_needs steps args p.used

-- the terms that the step of a term needs, where the term has no bits
abbrev pub needs : List Node → List TermBits → List Planned → ℕ → List ℕ
needs nodes bits steps t = if is_some (bits_in bits t) then [] else step_needs steps (node_at nodes t).args (planned_in steps t)
