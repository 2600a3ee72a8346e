-- Which terms are to get bits, in which order, and what they become.
use Rattle.std.specs.Prelude.{◌≡◌, ◌<◌, ◌==◌, ℕ, zero, suc, Bool, true, ◌||◌, is_some, if◌then◌else◌, List, [], ◌∷◌, ◌++◌, All, Contains, length, slice_get, Option, Some, None, IsSome}
use Rattle.std.specs.List.{find, filter_map}
use Rattle.smt_terms.specs.declared.node.Node.{Node}
use Rattle.smt_terms.specs.Nodes.{node_at}
use Rattle.smt_terms.specs.Bits.{TermBits, bits_in, image_in}
use Rattle.bv_rules.specs.declared.rule.Rule.TheVariants.{Inner}
use Rattle.bv_rules.specs.Matches.{matches}
use Rattle.bv_rewrite.specs.declared.simplifying.Use.{Use}
use Rattle.bv_rewrite.specs.Kept.{stays_difference}
use Rattle.reached_images.specs.declared.plan.Planned.{Planned}

-- ---- the steps of a plan

abbrev pub is_for : ℕ → Planned → Bool
is_for t p = p.term == t

-- the step for a term
abbrev pub planned_in : List Planned → ℕ → Option Planned
planned_in steps t = find (is_for t) steps

-- the steps, and perhaps more behind them
abbrev pub IsLater : List Planned → List Planned → Type 0
IsLater old new = (more : List Planned) × (new ≡ old ++ more)

-- the uses of the steps, in their order
abbrev pub uses_of : List Planned → List Use
uses_of steps = filter_map (λ p. p.used) steps

-- each of these uses is one of those
abbrev pub AreAmong : List Use → List Use → Type 0
AreAmong uses all = (s : Use) → Contains uses s → Contains all s

-- ---- what is known

-- the term has bits, or a step
abbrev pub is_known : List TermBits → List Planned → ℕ → Bool
is_known bits steps t = is_some (bits_in bits t) || is_some (planned_in steps t)

abbrev pub IsKnown : List TermBits → List Planned → ℕ → Type 0
IsKnown bits steps t = is_known bits steps t ≡ true

-- one step more, unless its term is known
abbrev pub with_step : List TermBits → List Planned → Planned → List Planned
with_step bits steps p = if is_known bits steps p.term then steps else steps ++ p ∷ []

-- the term to which a use leads
abbrev pub led_to : Option Use → Option ℕ
led_to None = None
led_to (Some u) = Some u.to

abbrev pub step_image : Option Planned → Option ℕ
step_image None = None
step_image (Some p) = led_to p.used

-- the image of a term: that which its bits tell, where it has some, and else that of its step
abbrev pub known_image : List TermBits → List Planned → ℕ → Option ℕ
known_image bits steps t = if is_some (bits_in bits t) then image_in bits t else step_image (planned_in steps t)

-- the image of a term has bits
abbrev pub ImagesHaveBits : List TermBits → Type 0
ImagesHaveBits bits = (t u : ℕ) → image_in bits t ≡ Some u → IsSome (bits_in bits u)

-- terms that are known are kept, and differences whose sums no rule takes further
abbrev pub keeps_known : List TermBits → List Planned → List Node → ℕ → Bool
keeps_known bits steps nodes t = is_known bits steps t || stays_difference nodes t

-- the arguments of a term that is not known
abbrev pub open_arguments : List Node → List TermBits → List Planned → ℕ → List ℕ
open_arguments nodes bits steps t = if is_known bits steps t then [] else (node_at nodes t).args

-- ---- plans

-- What a step needs is known: the arguments of a term that gets bits of its own, and of any other the term to which a rule leads
-- from it, over the images that are known.
abbrev pub HasWhatItNeeds : List Node → List TermBits → List Planned → ℕ → Option Use → Type 0
HasWhatItNeeds nodes bits before t None = All (IsKnown bits before) (node_at nodes t).args
HasWhatItNeeds nodes bits before t (Some u) = (matches nodes (known_image bits before) u.rule t u.to ≡ true) × IsKnown bits before u.to

-- the step may stand behind these: it is for a held term that is not known
pub record IsNext (nodes : List Node) (bits : List TermBits) (before : List Planned) (p : Planned) : Type 0 where
  pub held : p.term < length nodes
  pub new : (is_known bits before p.term ≡ true) → ⊥
  pub needs : HasWhatItNeeds nodes bits before p.term p.used

-- each may stand behind these and those before it
abbrev pub AreNext : List Node → List TermBits → List Planned → List Planned → Type 0
AreNext nodes bits before [] = Unit {0}
AreNext nodes bits before (p ∷ ps) = IsNext nodes bits before p × AreNext nodes bits (before ++ p ∷ []) ps

abbrev pub IsPlan : List Node → List TermBits → List Planned → Type 0
IsPlan nodes bits steps = AreNext nodes bits [] steps

-- the use is of the rule on arguments, which looks through their images
abbrev pub IsOnArguments : Option Use → Type 0
IsOnArguments None = ⊥
IsOnArguments (Some u) = u.rule ≡ Inner

-- the step may stand behind these, and where it looks through the images of its term's arguments, these are known
pub record IsNextWhole (nodes : List Node) (bits : List TermBits) (before : List Planned) (p : Planned) : Type 0 where
  pub next : IsNext nodes bits before p
  pub arguments : IsOnArguments p.used → All (IsKnown bits before) (node_at nodes p.term).args

abbrev pub AreNextWhole : List Node → List TermBits → List Planned → List Planned → Type 0
AreNextWhole nodes bits before [] = Unit {0}
AreNextWhole nodes bits before (p ∷ ps) = IsNextWhole nodes bits before p × AreNextWhole nodes bits (before ++ p ∷ []) ps

-- a plan in which no image comes behind a use that looks through it
abbrev pub IsWholePlan : List Node → List TermBits → List Planned → Type 0
IsWholePlan nodes bits steps = AreNextWhole nodes bits [] steps

-- there is such a plan, which has these steps and more behind them, so that the term is known
pub record IsPlannedBy (nodes : List Node) (bits : List TermBits) (old new : List Planned) (t : ℕ) : Type 0 where
  pub plan : IsPlan nodes bits new
  pub later : IsLater old new
  pub known : IsKnown bits new t

-- no use but the first is of the rule on arguments
abbrev pub AreInnerFirst : List Use → Type 0
AreInnerFirst uses = (k : ℕ) (s : Use) → slice_get uses (suc k) ≡ Some s → s.rule ≡ Inner → ⊥

-- the steps are such a plan, where the old ones are
abbrev pub StaysWhole : List Node → List TermBits → List Planned → List Planned → Type 0
StaysWhole nodes bits old new = IsWholePlan nodes bits old → IsWholePlan nodes bits new

-- the arguments of the term are known
abbrev pub HasKnownArguments : List Node → List TermBits → List Planned → ℕ → Type 0
HasKnownArguments nodes bits steps t = All (IsKnown bits steps) (node_at nodes t).args

-- the term from which the use at a place leads, where the first leads from t
abbrev pub start_at : ℕ → List Use → ℕ → ℕ
start_at t [] k = t
start_at t (s ∷ ss) zero = t
start_at t (s ∷ ss) (suc k) = start_at s.to ss k
