-- What a check does beside what its proof shows: it makes no term but those that watch its arrays and those of its uses of rules,
-- simplifies what gets bits, and searches each of its cubes.
use Rattle.std.specs.Prelude.{◌≡◌, ◌⊎◌, ℕ, ◌<◌, ◌≤◌, ◌^◌, true, List, [], ◌∷◌, ◌++◌, length, All, Contains, Option, Some, is_some}
use Rattle.cnf_base.specs.Literals.{Literal, negated}
use Rattle.smt_terms.specs.declared.node.Node.{Node}
use Rattle.smt_terms.specs.Nodes.{node_at}
use Rattle.smt_terms.specs.Bits.{TermBits}
use Rattle.smt_terms.specs.Ranks.{is_plain}
use Rattle.smt_terms.specs.Terms.{TermsValue, sort_of}
use Rattle.reached_images.specs.declared.plan.Planned.{Planned}
use Rattle.reached_images.specs.Plans.{is_known, known_image, IsPlan}
use Rattle.reached_images.specs.Settled.{KeepsItself}
use Rattle.array_watches.specs.Needed.{watched}
use Rattle.array_watches.specs.Watched.{IsIndexWord, IsOfWatch}
use Rattle.script_state.specs.States.{StateValue, roots}
use Rattle.script_state.specs.Steps.{step}
use Rattle.proof_log.specs.declared.entry.RuleUse.{RuleUse}
use Rattle.proof_log.specs.declared.entry.Entry.{Entry}
use Rattle.proof_log.specs.declared.entry.Entry.TheVariants as entry
use Rattle.proof_log.specs.declared.diary.Diary.{Diary}
use Rattle.proof_log.specs.Logs.{clause_at, state_of}
use Rattle.proof_text.specs.declared.record.Record.{Record}
use Rattle.proof_text.specs.declared.record.Record.TheVariants.{Unknown}
use Rattle.accepted_proof.specs.Searching.{Limits, cube_variables, given_literals, IsUnknown}
use Rattle.accepted_proof.specs.Turns.{Turn, with_steps, state_after}

-- the cube is closed: the first clause of a position has only opposites of what its search takes as true
pub record IsClosedCube (limits : Limits) (s : StateValue) (nodes : List Node) (log : List Entry) (cube : ℕ) : Type 0 where
  pub at : ℕ
  pub clause : List Literal
  pub stands : clause_at (state_of nodes log).clauses (record { pos = at; part = 0 }) ≡ Some clause
  pub against : All (λ l. Contains (given_literals limits s nodes log cube) (negated l)) clause

-- the budget was spent on the cube
abbrev pub HasSpent : Limits → StateValue → List Node → List Entry → ℕ → Type 0
HasSpent limits s nodes log cube = (d : Diary) × (d.cube ≡ cube) × IsUnknown limits s nodes log d

-- Each cube below that of the diary is closed, and each above it closed or spent: a spent cube does not stop the later ones.
pub record AreOthersSearched (limits : Limits) (s : StateValue) (nodes : List Node) (log : List Entry) (d : Diary) : Type 0 where
  pub lower : (n : ℕ) → n < d.cube → IsClosedCube limits s nodes log n
  pub later : (n : ℕ) → d.cube < n → n < 2 ^ length (cube_variables limits s nodes log)
      → IsClosedCube limits s nodes log n ⊎ HasSpent limits s nodes log n

-- where the answer is `unknown`, all cubes were searched
abbrev pub AreSearched : Limits → StateValue → List Node → List Entry → Option Record → Type 0
AreSearched limits s nodes log (Some (Unknown d)) = AreOthersSearched limits s nodes log d
AreSearched limits s nodes log _ = Unit {0}

-- a use of a rule among these steps leads to the term, or to one that has it as an argument
pub record IsUsed (nodes : List Node) (steps : List Entry) (t : ℕ) : Type 0 where
  pub by : RuleUse
  pub among : Contains steps (entry.Rewrite by)
  pub is : (by.to ≡ t) ⊎ Contains (node_at nodes by.to).args t

-- each term that is not among the first so many is used so
abbrev pub AreUsed : ℕ → List Node → List Entry → Type 0
AreUsed count nodes steps = (t : ℕ) → count ≤ t → t < length nodes → IsUsed nodes steps t

-- the node watches the arrays of a check of these terms, which makes it before all else: it is the witness of a reached equality of
-- arrays, the select of one of its sides there, or an index word of a reached constant array
abbrev pub IsWatching : List Node → List ℕ → Node → Type 0
IsWatching nodes roots n = IsOfWatch nodes (watched nodes roots) roots n ⊎ IsIndexWord nodes (watched nodes roots) roots n

-- each term behind those of the state watches the arrays of its check, or is used so
abbrev pub AreWanted : StateValue → List Node → List Entry → Type 0
AreWanted s nodes steps = (t : ℕ) → length s.terms.nodes ≤ t → t < length nodes → IsWatching s.terms.nodes (roots s) (node_at nodes t) ⊎ IsUsed nodes steps t

-- The Bools and words that have bits, and their images, are what is known behind these steps of a plan, and its images. An array has no
-- bits.
pub record IsSeenAs (nodes : List Node) (bits : List TermBits) (steps : List Planned) (has : ℕ → Option (List Literal)) (images : ℕ → Option ℕ) : Type 0 where
  pub known : (t : ℕ) → is_plain (sort_of nodes t) ≡ true → is_known bits steps t ≡ is_some (has t)
  pub becomes : (t : ℕ) → known_image bits steps t ≡ images t

-- Behind these steps of a log the term has to keep its operator: no rule but that on arguments takes it further (or it is a
-- difference whose sum none does), or what it becomes over the images that there are then finds no room or no place.
pub record HasReason (v : TermsValue) (log : List Entry) (t : ℕ) : Type 0 where
  pub bits : List TermBits
  pub steps : List Planned
  pub plan : IsPlan v.nodes bits steps
  pub seen : IsSeenAs v.nodes bits steps (state_of v.nodes log).bits (state_of v.nodes log).images
  pub keeps : KeepsItself v bits steps t

-- where the step gives a term the bits of its own operator, it has to
abbrev pub KeepsForReason : TermsValue → List Entry → Entry → Type 0
KeepsForReason v log (entry.Leaf t) = HasReason v log t
KeepsForReason v log (entry.Encode t) = HasReason v log t
KeepsForReason v log _ = Unit {0}

-- so it is of each of these steps, behind the log and those before it
abbrev pub AreSimplified : TermsValue → List Entry → List Entry → Type 0
AreSimplified v log [] = Unit {0}
AreSimplified v log (e ∷ es) = KeepsForReason v log e × AreSimplified v (log ++ e ∷ []) es

-- No term is made but those that watch the arrays of the check, what uses of rules lead to, and the arguments of these: a check needs
-- none but those of its own text and these, so no idle term is told. What gets bits of its own was simplified before. And all cubes
-- were searched.
pub record IsThorough (limits : Limits) (s : StateValue) (log steps : List Entry) (shown : Option Record) : Type 0 where
  pub terms : AreWanted s (with_steps s steps).terms.nodes steps
  pub simple : AreSimplified (with_steps s steps).terms log steps
  pub cubes : AreSearched limits s (with_steps s steps).terms.nodes (log ++ steps) shown

-- the same of each of the turns
abbrev pub AreThorough : Limits → StateValue → List Entry → List Turn → Type 0
AreThorough limits s log [] = Unit {0}
AreThorough limits s log (t ∷ ts) = IsThorough limits (step s t.says).1 log t.steps t.shown × AreThorough limits (state_after s t) (log ++ t.steps) ts
