-- Logs: which steps may stand after others, and what they leave.
use Rattle.std.specs.Prelude.{◌≡◌, ℕ, zero, suc, true, ◌+◌, ◌<◌, ◌==◌, ◌&&◌, ltb, if◌then◌else◌, List, [], ◌∷◌, ◌++◌, length, Option, Some, None, Result, Ok, Err, IsSome, Contains, slice_get}
use Rattle.cnf_base.specs.Literals.{Literal, positive_of, negative_of, true_literal}
use Rattle.cnf_base.specs.Assignments.{AreBelow, fresh_bits}
use Rattle.cnf_base.specs.Choices.{equal_gates, equal_bit}
use Rattle.cnf_base.specs.Gates.{gates_clauses}
use Rattle.cnf_base.specs.declared.clause.ClauseId.{ClauseId}
use Rattle.smt_terms.specs.declared.sort.Sort.{Sort}
use Rattle.smt_terms.specs.declared.sort.Sort.TheVariants as sort
use Rattle.smt_terms.specs.declared.node.Op.{Op}
use Rattle.smt_terms.specs.declared.node.Op.TheVariants.{Plain, Word, Extract, ZeroExtend, SignExtend, RotateLeft, RotateRight, Repeat, ConstantArray, Constant, Apply, Param}
use Rattle.smt_terms.specs.declared.node.Node.{Node}
use Rattle.smt_terms.specs.Nodes.{node_at}
use Rattle.smt_terms.specs.Ranks.{is_array}
use Rattle.smt_terms.specs.Terms.{sort_of}
use Rattle.bv_rules.specs.declared.rule.Rule.{Rule}
use Rattle.bv_rules.specs.Numbers.{number_of}
use Rattle.bv_rules.specs.Matches.{matches}
use Rattle.bit_blast.specs.Blocks.{Block, block_of}
use Rattle.hint_chain.specs.Chains.{IsChain}
use Rattle.theory_terms.specs.declared.shape.Shape.{Shape}
use Rattle.theory_terms.specs.declared.shape.Shape.TheVariants.{Selecting, Storing, Filling, Choosing, Equating, Witnessing, Applying, Declaring, Other}
use Rattle.theory_terms.specs.declared.lemma.Lemma.{Lemma}
use Rattle.theory_terms.specs.Shapes.{shape_at}
use Rattle.theory_lemmas.specs.declared.fault.LemmaFault.{LemmaFault}
use Rattle.theory_lemmas.specs.Clauses.{clause_of}
use Rattle.proof_log.specs.declared.entry.RuleUse.{RuleUse}
use Rattle.proof_log.specs.declared.entry.Entry.{Entry}
use Rattle.proof_log.specs.declared.entry.Entry.TheVariants as step
use Rattle.proof_log.specs.Pairs.{with_pair}

-- ---- what a log leaves

-- the literal that stands for an assertion, and the assertion's term
pub record Asserted : Type 0 where
  pub literal : Literal
  pub term : ℕ

-- The next variable, the bits of terms, their images, the selectors of assertions, the literals of equalities, by the lower
-- and the upper term, and the clauses of each position.
pub record LogState : Type 0 where
  pub next : ℕ
  pub bits : ℕ → Option (List Literal)
  pub images : ℕ → Option ℕ
  pub selectors : ℕ → Option Asserted
  pub equals : ℕ → ℕ → Option Literal
  pub clauses : List (List (List Literal))

-- before the first step: position 0 has the clause that variable 1 is true
abbrev pub start : LogState
start = record { next = 2; bits = λ t. None; images = λ t. None; selectors = λ a. None; equals = λ t u. None; clauses = ((true_literal ∷ []) ∷ []) ∷ [] }

abbrev pub clause_in : Option (List (List Literal)) → ℕ → Option (List Literal)
clause_in None k = None
clause_in (Some row) k = slice_get row k

-- the clause of a name: of the position, and which of its clauses
abbrev pub clause_at : List (List (List Literal)) → ClauseId → Option (List Literal)
clause_at rows id = clause_in (slice_get rows id.pos) id.part

-- the step at a position: position 0 is no step
abbrev pub entry_at : List Entry → ℕ → Option Entry
entry_at log zero = None
entry_at log (suc p) = slice_get log p

-- one more value of a partial function
abbrev pub with_value : {A : Type 0} → (ℕ → Option A) → ℕ → A → ℕ → Option A
with_value f x a y = if y == x then Some a else f y

-- one position more, which has these clauses
abbrev pub with_row : LogState → List (List Literal) → LogState
with_row s row = record s { clauses = s.clauses ++ row ∷ [] }

-- ---- steps

-- how many bits a Bool or a word has
abbrev pub plain_width : Sort → Option ℕ
plain_width sort.Bool = Some 1
plain_width (sort.Word n) = Some n
plain_width (sort.Array n m) = None

-- how many bits a declared constant has, if the operator is one of a Bool or a word
abbrev pub constant_width : Op → Option ℕ
constant_width (Plain o) = None
constant_width (Word n x) = None
constant_width (Extract i j) = None
constant_width (ZeroExtend i) = None
constant_width (SignExtend i) = None
constant_width (RotateLeft i) = None
constant_width (RotateRight i) = None
constant_width (Repeat i) = None
constant_width (ConstantArray k) = None
constant_width (Constant d s) = plain_width s
constant_width (Apply d s) = None
constant_width (Param k s) = None

-- How many bits a leaf gives a term of this shape, if it may be one: a declared constant, an element of an array, a witness or
-- an application that is a Bool or a word, and an equality of arrays, which names an earlier term.
abbrev pub width_by : List Node → ℕ → Shape → Option ℕ
width_by nodes t (Declaring d s) = plain_width s
width_by nodes t (Selecting a i) = plain_width (sort_of nodes t)
width_by nodes t (Witnessing a b) = plain_width (sort_of nodes t)
width_by nodes t (Applying d) = plain_width (sort_of nodes t)
width_by nodes t (Equating a b) = if ltb a t && is_array (sort_of nodes a) then Some 1 else None
width_by nodes t (Storing a i v) = None
width_by nodes t (Filling x) = None
width_by nodes t (Choosing c a b) = None
width_by nodes t Other = None

abbrev pub leaf_width : List Node → ℕ → Option ℕ
leaf_width nodes t = width_by nodes t (shape_at nodes t)

-- a leaf that has no bits
pub record IsLeaf (nodes : List Node) (s : LogState) (t : ℕ) : Type 0 where
  pub term : t < length nodes
  pub new : s.bits t ≡ None
  pub width : ℕ
  pub constant : leaf_width nodes t ≡ Some width

-- a term without bits whose operator has a circuit over the bits of its arguments
pub record IsEncoding (nodes : List Node) (s : LogState) (t : ℕ) : Type 0 where
  pub term : t < length nodes
  pub new : s.bits t ≡ None
  pub block : Block
  pub circuit : block_of s.next s.bits (node_at nodes t) ≡ Some block

-- an assertion without a selector, whose term is a Bool with a bit
pub record IsSelector (nodes : List Node) (s : LogState) (a t : ℕ) : Type 0 where
  pub term : t < length nodes
  pub sort : sort_of nodes t ≡ sort.Bool
  pub new : s.selectors a ≡ None
  pub bit : Literal
  pub encoded : s.bits t ≡ Some (bit ∷ [])

-- two terms, the lower first, of one sort, which have bits
pub record IsPair (nodes : List Node) (s : LogState) (t u : ℕ) : Type 0 where
  pub lower : t < u
  pub term : u < length nodes
  pub sort : sort_of nodes t ≡ sort_of nodes u
  pub left : IsSome (s.bits t)
  pub right : IsSome (s.bits u)

-- such terms, whose equality has no variable
pub record IsEqual (nodes : List Node) (s : LogState) (t u : ℕ) : Type 0 where
  pub pair : IsPair nodes s t u
  pub new : s.equals t u ≡ None

-- a lemma that has a clause
pub record IsLemma (nodes : List Node) (s : LogState) (l : Lemma) : Type 0 where
  pub clause : List Literal
  pub is : clause_of nodes s.bits s.equals l ≡ Ok clause

-- the rule of this number takes the one term to the other, over images that earlier steps gave
pub record IsRuled (nodes : List Node) (images : ℕ → Option ℕ) (r : RuleUse) : Type 0 where
  pub rule : Rule
  pub number : number_of rule ≡ r.rule
  pub takes : matches nodes images rule r.from r.to ≡ true

-- a term without bits, which a rule takes to one that has bits
pub record IsRewrite (nodes : List Node) (s : LogState) (r : RuleUse) : Type 0 where
  pub ruled : IsRuled nodes s.images r
  pub new : s.bits r.from ≡ None
  pub held : IsSome (s.bits r.to)

-- the step may stand after what the log has, over these terms, among which the term of a Node step is
abbrev pub IsStep : List Node → LogState → Entry → Type 0
IsStep nodes s (step.Node n) = Contains nodes n
IsStep nodes s (step.Leaf t) = IsLeaf nodes s t
IsStep nodes s (step.Encode t) = IsEncoding nodes s t
IsStep nodes s (step.Selector a t) = IsSelector nodes s a t
IsStep nodes s (step.Chain c hints) = AreBelow s.next c × IsChain (clause_at s.clauses) c hints
IsStep nodes s (step.Rewrite r) = IsRewrite nodes s r
IsStep nodes s (step.Equal t u) = IsEqual nodes s t u
IsStep nodes s (step.Lemma l) = IsLemma nodes s l

-- ---- what a step leaves

abbrev pub leaf_after : LogState → ℕ → Option ℕ → LogState
leaf_after s t None = with_row s []
leaf_after s t (Some n) = record {
  next = s.next + n;
  bits = with_value s.bits t (fresh_bits s.next n);
  images = s.images;
  selectors = s.selectors;
  equals = s.equals;
  clauses = s.clauses ++ [] ∷ [];
}

abbrev pub block_after : LogState → ℕ → Option Block → LogState
block_after s t None = with_row s []
block_after s t (Some b) = record {
  next = s.next + length b.gates;
  bits = with_value s.bits t b.bits;
  images = s.images;
  selectors = s.selectors;
  equals = s.equals;
  clauses = s.clauses ++ gates_clauses s.next b.gates ∷ [];
}

-- the clause that an assertion's selector implies its bit
abbrev pub selector_clause : ℕ → Literal → List Literal
selector_clause x bit = negative_of x ∷ bit ∷ []

abbrev pub selector_after : LogState → ℕ → ℕ → Option (List Literal) → LogState
selector_after s a t None = with_row s []
selector_after s a t (Some []) = with_row s []
selector_after s a t (Some (bit ∷ bits)) = record {
  next = suc s.next;
  bits = s.bits;
  images = s.images;
  selectors = with_value s.selectors a (record { literal = positive_of s.next; term = t });
  equals = s.equals;
  clauses = s.clauses ++ (selector_clause s.next bit ∷ []) ∷ [];
}

-- the variable of the equality of two terms, by the circuit of `=` over their bits
abbrev pub equal_after : LogState → ℕ → ℕ → Option (List Literal) → Option (List Literal) → LogState
equal_after s t u None o = with_row s []
equal_after s t u (Some a) None = with_row s []
equal_after s t u (Some a) (Some b) = record {
  next = s.next + length (equal_gates s.next true_literal a b);
  bits = s.bits;
  images = s.images;
  selectors = s.selectors;
  equals = with_pair s.equals t u (equal_bit s.next true_literal a b);
  clauses = s.clauses ++ gates_clauses s.next (equal_gates s.next true_literal a b) ∷ [];
}

-- the clause of a lemma
abbrev pub lemma_after : LogState → Result (List Literal) LemmaFault → LogState
lemma_after s (Err f) = with_row s []
lemma_after s (Ok c) = with_row s (c ∷ [])

-- the term gets the bits of the one to which it is taken, its image
abbrev pub rewrite_after : LogState → RuleUse → Option (List Literal) → LogState
rewrite_after s r None = with_row s []
rewrite_after s r (Some bits) = record {
  next = s.next;
  bits = with_value s.bits r.from bits;
  images = with_value s.images r.from r.to;
  selectors = s.selectors;
  equals = s.equals;
  clauses = s.clauses ++ [] ∷ [];
}

-- what the log has after the step
abbrev pub after : List Node → LogState → Entry → LogState
after nodes s (step.Leaf t) = leaf_after s t (leaf_width nodes t)
after nodes s (step.Encode t) = block_after s t (block_of s.next s.bits (node_at nodes t))
after nodes s (step.Selector a t) = selector_after s a t (s.bits t)
after nodes s (step.Chain c hints) = with_row s (c ∷ [])
after nodes s (step.Rewrite r) = rewrite_after s r (s.bits r.to)
after nodes s (step.Equal t u) = equal_after s t u (s.bits t) (s.bits u)
after nodes s (step.Lemma l) = lemma_after s (clause_of nodes s.bits s.equals l)
after nodes s _ = with_row s []

-- what it has after all steps
abbrev pub state_from : List Node → LogState → List Entry → LogState
state_from nodes s [] = s
state_from nodes s (e ∷ es) = state_from nodes (after nodes s e) es

abbrev pub state_of : List Node → List Entry → LogState
state_of nodes log = state_from nodes start log

-- each step may stand after those before it
abbrev pub AreSteps : List Node → LogState → List Entry → Type 0
AreSteps nodes s [] = Unit {0}
AreSteps nodes s (e ∷ es) = IsStep nodes s e × AreSteps nodes (after nodes s e) es

abbrev pub IsLog : List Node → List Entry → Type 0
IsLog nodes log = AreSteps nodes start log
