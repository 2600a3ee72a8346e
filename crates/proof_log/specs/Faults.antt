-- Which steps are valid against a list of terms and a log, and what shows that one is not.
use Rattle.std.specs.Prelude.{◌≡◌, ◌≢◌, ◌⊎◌, ℕ, suc, false, ◌≤◌, List, length, position, Option, Some, None, Result, Ok, Err, IsSome, Contains}
use Rattle.cnf_base.specs.Literals.{Literal}
use Rattle.cnf_base.specs.Assignments.{AreBelow}
use Rattle.cnf_base.specs.declared.clause.ClauseId.{ClauseId}
use Rattle.smt_terms.specs.declared.node.Op.{Op}
use Rattle.smt_terms.specs.declared.node.Op.TheVariants.{Plain, Word, Extract, ZeroExtend, SignExtend, RotateLeft, RotateRight, Repeat, ConstantArray, Constant, Apply, Param}
use Rattle.smt_terms.specs.declared.node.Node.{Node}
use Rattle.smt_terms.specs.declared.fault.MakeFault.{MakeFault}
use Rattle.smt_terms.specs.declared.fault.MakeError.{MakeError}
use Rattle.smt_terms.specs.declared.fault.MakeError.TheVariants.{NoMemory, Fault}
use Rattle.smt_terms.specs.Same.{same_node}
use Rattle.smt_terms.specs.Terms.{TermsValue, Agrees, make, with_node}
use Rattle.bv_rules.specs.declared.rule.Rule.{Rule}
use Rattle.bv_rules.specs.Numbers.{number_of}
use Rattle.bv_rules.specs.Matches.{matches}
use Rattle.hint_chain.specs.Faults.{FirstFault}
use Rattle.theory_terms.specs.declared.lemma.Lemma.{Lemma}
use Rattle.theory_lemmas.specs.Clauses.{clause_of}
use Rattle.proof_log.specs.declared.entry.RuleUse.{RuleUse}
use Rattle.proof_log.specs.declared.entry.Entry.{Entry}
use Rattle.proof_log.specs.declared.entry.Entry.TheVariants as step
use Rattle.proof_log.specs.declared.entry.Role.TheVariants as role
use Rattle.proof_log.specs.declared.fault.StepKind.{StepKind}
use Rattle.proof_log.specs.declared.fault.StepKind.TheVariants as kind
use Rattle.proof_log.specs.declared.fault.Kept.{Kept}
use Rattle.proof_log.specs.declared.fault.StepFault.{StepFault}
use Rattle.proof_log.specs.declared.fault.Kept.TheVariants as kept
use Rattle.proof_log.specs.declared.fault.PushError.{PushError}
use Rattle.proof_log.specs.declared.fault.PushError.TheVariants as push
use Rattle.proof_log.specs.Roles.{role_of}
use Rattle.proof_log.specs.Logs.{Asserted, LogState, clause_at, state_of, IsStep}
use Rattle.proof_log.specs.Stored.{LogValue, IsPushed}

-- the operator is made by no step: it is a declared constant, or the parameter of a definition
abbrev pub IsGiven : Op → Type 0
IsGiven (Plain o) = ⊥
IsGiven (Word n x) = ⊥
IsGiven (Extract i j) = ⊥
IsGiven (ZeroExtend i) = ⊥
IsGiven (SignExtend i) = ⊥
IsGiven (RotateLeft i) = ⊥
IsGiven (RotateRight i) = ⊥
IsGiven (Repeat i) = ⊥
IsGiven (ConstantArray k) = ⊥
IsGiven (Constant d s) = Unit {0}
IsGiven (Apply d s) = ⊥
IsGiven (Param k s) = Unit {0}

-- a new node, which is well sorted and for which there is room
pub record IsNewNode (v : TermsValue) (n : Node) : Type 0 where
  pub operator : ¬ (IsGiven n.op)
  pub new : position (same_node n) v.nodes ≡ None
  pub made : make v n ≡ Ok (length v.nodes, with_node v n)

-- the step is valid against these terms and what the log has
abbrev pub IsValid : TermsValue → LogState → Entry → Type 0
IsValid v s (step.Node n) = IsNewNode v n
IsValid v s e = IsStep v.nodes s e

-- the terms after the step
abbrev pub terms_after : TermsValue → Entry → TermsValue
terms_after v (step.Node n) = with_node v n
terms_after v _ = v

-- the step makes no term
abbrev pub MakesNoTerm : Entry → Type 0
MakesNoTerm e = role_of e ≢ role.Term

-- a term that the step makes gives its declaration no other signature than the terms do
abbrev pub IsDeclared : TermsValue → Entry → Type 0
IsDeclared v (step.Node n) = Agrees v.nodes n.op
IsDeclared v _ = Unit {0}

abbrev pub kind_of : Entry → StepKind
kind_of (step.Node n) = kind.Node
kind_of (step.Leaf t) = kind.Leaf
kind_of (step.Encode t) = kind.Encode
kind_of (step.Selector a t) = kind.Selector
kind_of (step.Chain c hints) = kind.Chain
kind_of (step.Rewrite r) = kind.Rewrite
kind_of (step.Equal t u) = kind.Equal
kind_of (step.Lemma l) = kind.Lemma

-- ---- what shows that a step is not valid

-- the operator, the fault of the node, or the term that it is
abbrev pub ShowsNode : TermsValue → Node → Kept → Type 0
ShowsNode v n kept.Operator = IsGiven n.op
ShowsNode v n (kept.Make f) = make v n ≡ Err f
ShowsNode v n (kept.Term t) = position (same_node n) v.nodes ≡ Some t
ShowsNode v n _ = ⊥

-- the term, where no step has what it asks for
abbrev pub ShowsTerm : ℕ → Kept → Type 0
ShowsTerm t k = k ≡ kept.Term t

-- the term, which is no Bool with a bit, or the variable that is the assertion's selector
abbrev pub ShowsSelector : LogState → ℕ → ℕ → Kept → Type 0
ShowsSelector s a t (kept.Term u) = u ≡ t
ShowsSelector s a t (kept.Variable x) = (r : Asserted) × (s.selectors a ≡ Some r) × (r.literal.variable ≡ x)
ShowsSelector s a t _ = ⊥

-- the terms, which are no pair, or the variable of their equality
abbrev pub ShowsEqual : LogState → ℕ → ℕ → Kept → Type 0
ShowsEqual s t u (kept.Terms x y) = (x ≡ t) × (y ≡ u)
ShowsEqual s t u (kept.Variable x) = (l : Literal) × (s.equals t u ≡ Some l) × (l.variable ≡ x)
ShowsEqual s t u _ = ⊥

-- the fault of the lemma
abbrev pub ShowsLemma : List Node → LogState → Lemma → Kept → Type 0
ShowsLemma nodes s l (kept.Lemma f) = clause_of nodes s.bits s.equals l ≡ Err f
ShowsLemma nodes s l _ = ⊥

-- a variable of the clause that no step made, or the first fault of the hints
abbrev pub ShowsChain : ℕ → List (List (List Literal)) → List Literal → List ClauseId → Kept → Type 0
ShowsChain next rows c hints (kept.Variable x) = (l : Literal) × Contains c l × (l.variable ≡ x) × (next ≤ x)
ShowsChain next rows c hints (kept.Chain f) = AreBelow next c × FirstFault (clause_at rows) c hints f
ShowsChain next rows c hints _ = ⊥

-- The number that no rule has; the terms of which the rule does not take the one to the other; or the term that has bits, or
-- its image that has none.
abbrev pub ShowsRewrite : List Node → LogState → RuleUse → Kept → Type 0
ShowsRewrite nodes s r (kept.NoRule n) = (n ≡ r.rule) × ((rule : Rule) → number_of rule ≡ n → ⊥)
ShowsRewrite nodes s r (kept.Terms t u) = (t ≡ r.from) × (u ≡ r.to) × (rule : Rule) × (number_of rule ≡ r.rule) × (matches nodes s.images rule t u ≡ false)
ShowsRewrite nodes s r (kept.Term t) = ((t ≡ r.from) × IsSome (s.bits t)) ⊎ ((t ≡ r.to) × (s.bits t ≡ None))
ShowsRewrite nodes s r _ = ⊥

abbrev pub Shows : TermsValue → LogState → Entry → Kept → Type 0
Shows v s (step.Node n) k = ShowsNode v n k
Shows v s (step.Leaf t) k = ShowsTerm t k
Shows v s (step.Encode t) k = ShowsTerm t k
Shows v s (step.Selector a t) k = ShowsSelector s a t k
Shows v s (step.Chain c hints) k = ShowsChain s.next s.clauses c hints k
Shows v s (step.Rewrite r) k = ShowsRewrite v.nodes s r k
Shows v s (step.Equal t u) k = ShowsEqual s t u k
Shows v s (step.Lemma l) k = ShowsLemma v.nodes s l k

-- the step is not valid, and the fault says of what kind it is and what shows it
pub record IsFault (v : TermsValue) (s : LogState) (e : Entry) (f : StepFault) : Type 0 where
  pub invalid : ¬ (IsValid v s e)
  pub kind : f.kind ≡ kind_of e
  pub shown : Shows v s e f.kept

-- ---- what calls tell

-- The node was made, or it has a fault, or memory was wanting; in the last two cases the terms are as before.
abbrev pub NodeIsMade : Result (ℕ × TermsValue) MakeFault → Result (Unit {0}) MakeError → TermsValue → TermsValue → Type 0
NodeIsMade made (Ok u) old new = (t : ℕ) × (made ≡ Ok (t, new))
NodeIsMade made (Err (Fault f)) old new = (made ≡ Err f) × (new ≡ old)
NodeIsMade made (Err NoMemory) old new = new ≡ old

-- The step was tried over these terms: it was valid, and is added; or it is not, as what is kept shows, and the log is
-- as before.
abbrev pub Tried : TermsValue → Entry → LogValue → LogValue → Option Kept → Type 0
Tried v e old new None = IsValid v (state_of v.nodes old.entries) e × IsPushed v.nodes old new e (suc (length old.entries))
Tried v e old new (Some k) = (¬ (IsValid v (state_of v.nodes old.entries) e)) × Shows v (state_of v.nodes old.entries) e k × (new ≡ old)

-- The answer of a step that was tried: its position, where it is valid, and then the terms are those after it; a fault
-- exactly where it is not. After a fault, and for want of memory, the log and the terms are as before.
abbrev pub Answers : TermsValue → TermsValue → Entry → LogValue → LogValue → Result ℕ PushError → Type 0
Answers v w e old new (Ok p) = IsValid v (state_of v.nodes old.entries) e × (w ≡ terms_after v e) × IsPushed w.nodes old new e p
Answers v w e old new (Err (push.Fault f)) = IsFault v (state_of v.nodes old.entries) e f × (w ≡ v) × (new ≡ old)
Answers v w e old new (Err push.NoMemory) = (w ≡ v) × (new ≡ old)
