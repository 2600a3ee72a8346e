-- What the plan of a check says, and what a log has that took steps of it.
use Rattle.std.specs.List.{AllByRecursion}
use Rattle.std.specs.Prelude.{◌≡◌, ℕ, Bool, true, false, List, ◌++◌, All, Contains, length, Some, None}
use Rattle.smt_terms.specs.declared.node.Node.{Node}
use Rattle.smt_terms.specs.Bits.{TermBits, bits_in, image_in}
use Rattle.smt_terms.specs.Ranks.{is_plain}
use Rattle.smt_terms.specs.Terms.{TermsValue, sort_of}
use Rattle.bv_rewrite.specs.declared.simplifying.Use.{Use}
use Rattle.bv_rewrite.specs.Simplifying.{AreNeeded}
use Rattle.reached_images.specs.declared.plan.Planned.{Planned}
use Rattle.reached_images.specs.Plans.{IsKnown, IsPlan, uses_of}
use Rattle.reached_images.specs.Settled.{AreOwn}
use Rattle.script_state.specs.States.{StateValue}
use Rattle.proof_log.specs.declared.entry.RuleUse.{RuleUse}
use Rattle.proof_log.specs.declared.entry.Entry.{Entry}
use Rattle.proof_log.specs.declared.entry.Entry.TheVariants as step
use Rattle.proof_log.specs.Places.{IsForTerm}
use Rattle.proof_log.specs.Stored.{LogValue}
use Rattle.smt_session.specs.Growing.{GivesNoBits, HasBits, LeadsTo}
use Rattle.smt_session.specs.Thorough.{AreSimplified, AreUsed, AreWanted, IsSeenAs}

-- the terms, and these behind them
abbrev pub grown_by : TermsValue → List Node → TermsValue
grown_by v made = record { nodes = v.nodes ++ made; limit = v.limit }

-- With these terms behind those that there are, the steps are a plan, after which the roots have bits; each of these terms is
-- needed by a use of the plan, and what keeps its operator has to.
pub record IsPlanned (v : TermsValue) (log : LogValue) (made : List Node) (roots : List ℕ) (steps : List Planned) : Type 0 where
  pub plan : IsPlan (v.nodes ++ made) log.bits steps
  pub known : All (IsKnown log.bits steps) roots
  pub needed : AreNeeded (length v.nodes) (v.nodes ++ made) (uses_of steps)
  pub own : AreOwn (grown_by v made) log.bits steps

-- a step among these is the use of a rule that leads to the term
abbrev pub IsWritten : List Entry → ℕ → Type 0
IsWritten added t = (r : RuleUse) × Contains added (step.Rewrite r) × (r.to ≡ t)

-- the step of a plan was taken: its term has bits, where it is a Bool or a word, and its use is written
pub record IsTaken (nodes : List Node) (new : LogValue) (added : List Entry) (p : Planned) : Type 0 where
  pub bits : is_plain (sort_of nodes p.term) ≡ true → HasBits new p.term
  pub used : (u : Use) → p.used ≡ Some u → IsWritten added u.to

-- these steps of a plan over these terms were taken, which led from the one state to the other
pub record AreTaken (nodes : List Node) (s : StateValue) (old : LogValue) (s' : StateValue) (new : LogValue) (steps : List Planned) : Type 0 where
  pub leads : LeadsTo s old s' new
  pub each : AllByRecursion (IsTaken nodes new leads.added) steps

-- such steps behind others of the plan, which are what is seen of the log: what got bits of its own had to, over these terms
pub record AreTakenOver (v : TermsValue) (bits : List TermBits) (before : List Planned) (s : StateValue) (old : LogValue) (s' : StateValue) (new : LogValue) (steps : List Planned) : Type 0 where
  pub taken : AreTaken v.nodes s old s' new steps
  pub simple : AreSimplified v old.entries taken.leads.added
  pub seen : IsSeenAs v.nodes bits (before ++ steps) (bits_in new.bits) (image_in new.bits)

-- steps that make terms, and give none bits: bits and images are what they were
pub record AddsTerms (s : StateValue) (old : LogValue) (s' : StateValue) (new : LogValue) : Type 0 where
  pub leads : LeadsTo s old s' new
  pub bare : AllByRecursion GivesNoBits leads.added
  pub bits : (t : ℕ) → bits_in new.bits t ≡ bits_in old.bits t
  pub images : (t : ℕ) → image_in new.bits t ≡ image_in old.bits t

-- the step gives a term the bits of its own operator
abbrev pub gives_own : Entry → Bool
gives_own (step.Leaf t) = true
gives_own (step.Encode t) = true
gives_own _ = false

-- the step gives the term of a plan's step its bits: by the planned use of a rule, or its own
pub record IsForPlanned (p : Planned) (e : Entry) : Type 0 where
  pub term : IsForTerm p.term e
  pub used : (u : Use) → p.used ≡ Some u → (r : RuleUse) × (e ≡ step.Rewrite r) × (r.to ≡ u.to)
  pub own : p.used ≡ None → gives_own e ≡ true

-- Steps that give terms bits: they lead from the one state to the other, no term is made but what uses of rules among them lead to,
-- and their arguments, and what gets bits of its own has to.
pub record Encodes (s : StateValue) (old : LogValue) (s' : StateValue) (new : LogValue) : Type 0 where
  pub leads : LeadsTo s old s' new
  pub used : AreUsed (length s.terms.nodes) s'.terms.nodes leads.added
  pub simple : AreSimplified s'.terms old.entries leads.added

-- The steps of a check before its search: they lead from the one state to the other, no term is made but those that watch the arrays
-- of the check, what uses of rules among them lead to, and the arguments of these, and what gets bits of its own has to.
pub record Prepares (s : StateValue) (old : LogValue) (s' : StateValue) (new : LogValue) : Type 0 where
  pub leads : LeadsTo s old s' new
  pub wanted : AreWanted s s'.terms.nodes leads.added
  pub simple : AreSimplified s'.terms old.entries leads.added
