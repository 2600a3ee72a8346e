-- What the variables of a log mean under an interpretation, and what is sound.
use Rattle.std.specs.Prelude.{◌≡◌, ℕ, suc, ◌<◌, ◌≤◌, ◌==◌, Bool, true, List, [], ◌∷◌, ◌++◌, take, length, Option, Some, None, IsSome, All, Contains, slice_get}
use Rattle.cnf_base.specs.Literals.{Literal, true_literal}
use Rattle.cnf_base.specs.Clauses.{lit_true, clause_true, bit}
use Rattle.cnf_base.specs.Assignments.{AgreeBelow, AreBelow, with_variable, with_number, with_gates}
use Rattle.cnf_base.specs.Choices.{equal_gates}
use Rattle.cnf_base.specs.declared.clause.ClauseId.{ClauseId}
use Rattle.smt_terms.specs.declared.node.Node.{Node}
use Rattle.smt_terms.specs.Nodes.{node_at}
use Rattle.smt_terms.specs.Terms.{sort_of}
use Rattle.smt_terms.specs.Values.{Value, VBool, VWord, VArray, Interpretation, is_true, same_value, value}
use Rattle.bv_rules.specs.Matches.{KeepValues}
use Rattle.bit_blast.specs.Blocks.{Block, block_of}
use Rattle.bit_blast.specs.Meanings.{AreBitsOf}
use Rattle.hint_chain.specs.Chains.{FindsMore}
use Rattle.proof_log.specs.declared.entry.Entry.{Entry}
use Rattle.proof_log.specs.declared.entry.Entry.TheVariants as step
use Rattle.proof_log.specs.Logs.{Asserted, LogState, start, clause_at, leaf_width, after, state_of, IsLog}

-- ---- the meaning of variables

-- the number whose low bits are those of a Bool or of a word
abbrev pub bits_number : Value → ℕ
bits_number (VBool b) = bit b
bits_number (VWord n x) = x
bits_number (VArray n m f) = 0

abbrev pub leaf_mean : (ℕ → Bool) → ℕ → Option ℕ → Value → ℕ → Bool
leaf_mean f g None v = f
leaf_mean f g (Some n) v = with_number f g n (bits_number v)

abbrev pub block_mean : (ℕ → Bool) → ℕ → Option Block → ℕ → Bool
block_mean f g None = f
block_mean f g (Some b) = with_gates f g b.gates

abbrev pub equal_mean : (ℕ → Bool) → ℕ → Option (List Literal) → Option (List Literal) → ℕ → Bool
equal_mean f g None o = f
equal_mean f g (Some a) None = f
equal_mean f g (Some a) (Some b) = with_gates f g (equal_gates g true_literal a b)

-- What the variables mean after a step, if they meant f before it: those of a leaf the bits of its value, those of a
-- circuit their gates, a selector the value of its assertion's term.
abbrev pub mean_after : Interpretation → List Node → LogState → (ℕ → Bool) → Entry → ℕ → Bool
mean_after M nodes s f (step.Leaf t) = leaf_mean f s.next (leaf_width nodes t) (value M nodes t)
mean_after M nodes s f (step.Encode t) = block_mean f s.next (block_of s.next s.bits (node_at nodes t))
mean_after M nodes s f (step.Selector a t) = with_variable f s.next (is_true (value M nodes t))
mean_after M nodes s f (step.Equal t u) = equal_mean f s.next (s.bits t) (s.bits u)
mean_after M nodes s f _ = f

abbrev pub mean_from : Interpretation → List Node → LogState → (ℕ → Bool) → List Entry → ℕ → Bool
mean_from M nodes s f [] = f
mean_from M nodes s f (e ∷ es) = mean_from M nodes (after nodes s e) (mean_after M nodes s f e) es

-- what each variable of a log means under an interpretation; variable 1 is true
abbrev pub meaning : Interpretation → List Node → List Entry → ℕ → Bool
meaning M nodes log = mean_from M nodes start (λ x. x == 1) log

-- ---- soundness

-- in every interpretation a literal of the clause is true
abbrev pub IsSound : List Node → List Entry → List Literal → Type 0
IsSound nodes log clause = (M : Interpretation) → clause_true (meaning M nodes log) clause ≡ true

-- In every interpretation each clause is true, the bits of a term are those of its value, a term has the value of its image,
-- the selector of an assertion is the value of its term, and the literal of an equality tells whether two terms have one
-- value.
pub record LogIsSound (nodes : List Node) (log : List Entry) : Type 0 where
  pub clauses : (id : ClauseId) (c : List Literal) → clause_at (state_of nodes log).clauses id ≡ Some c → IsSound nodes log c
  pub bits : (M : Interpretation) (t : ℕ) (b : List Literal) → (state_of nodes log).bits t ≡ Some b →
      AreBitsOf (meaning M nodes log) (sort_of nodes t) b (value M nodes t)
  pub images : (M : Interpretation) → KeepValues nodes (value M nodes) (state_of nodes log).images
  pub selectors : (M : Interpretation) (a : ℕ) (r : Asserted) → (state_of nodes log).selectors a ≡ Some r →
      lit_true (meaning M nodes log) r.literal ≡ is_true (value M nodes r.term)
  pub equals : (M : Interpretation) (t u : ℕ) (l : Literal) → (state_of nodes log).equals t u ≡ Some l →
      lit_true (meaning M nodes log) l ≡ same_value (value M nodes t) (value M nodes u)

-- the step with number p, counted from 0, made the variable
pub record Owns (nodes : List Node) (log : List Entry) (p x : ℕ) : Type 0 where
  pub step : p < length log
  pub from : (state_of nodes (take p log)).next ≤ x
  pub upto : x < (state_of nodes (take (suc p) log)).next

-- What is named was made before: the literals of clauses, bits, selectors and equalities are of variables that there are,
-- each of which but the first one step made; a selector is a variable, and so is the literal of an equality, and a step of
-- the log made it; and the hints of the step at a position name earlier positions.
pub record LogIsOrdered (nodes : List Node) (log : List Entry) : Type 0 where
  pub clauses : (id : ClauseId) (c : List Literal) → clause_at (state_of nodes log).clauses id ≡ Some c → AreBelow (state_of nodes log).next c
  pub bits : (t : ℕ) (b : List Literal) → (state_of nodes log).bits t ≡ Some b → (t < length nodes) × AreBelow (state_of nodes log).next b
  pub selectors : (a : ℕ) (r : Asserted) → (state_of nodes log).selectors a ≡ Some r →
      (r.literal.positive ≡ true) × (r.literal.variable < (state_of nodes log).next) × Contains log (step.Selector a r.term)
  pub equals : (t u : ℕ) (l : Literal) → (state_of nodes log).equals t u ≡ Some l →
      (l.positive ≡ true) × (l.variable < (state_of nodes log).next) × Contains log (step.Equal t u)
  pub owned : (x : ℕ) → 1 < x → x < (state_of nodes log).next → (p : ℕ) × Owns nodes log p x
  pub once : (x p q : ℕ) → Owns nodes log p x → Owns nodes log q x → p ≡ q
  pub hints : (p : ℕ) (c : List Literal) (hints : List ClauseId) → slice_get log p ≡ Some (step.Chain c hints) → All (λ id. id.pos ≤ p) hints

-- ---- images

-- A term and its image: a step names both, and gave the term the bits that the image had before that step.
pub record IsLinked (nodes : List Node) (log : List Entry) (t u : ℕ) : Type 0 where
  pub before : List Entry
  pub more : List Entry
  pub rule : ℕ
  pub parts : log ≡ before ++ step.Rewrite (record { rule = rule; from = t; to = u }) ∷ more
  pub bits : List Literal
  pub earlier : (state_of nodes before).bits u ≡ Some bits
  pub own : (state_of nodes log).bits t ≡ Some bits

-- so it is of each term with an image
abbrev pub AreLinked : List Node → List Entry → Type 0
AreLinked nodes log = (t u : ℕ) → (state_of nodes log).images t ≡ Some u → IsLinked nodes log t u

-- ---- what stays

-- what the one partial function gives, the other gives
abbrev pub GivesMore : {A : Type 0} → (ℕ → Option A) → (ℕ → Option A) → Type 0
GivesMore {A} f g = (x : ℕ) (a : A) → f x ≡ Some a → g x ≡ Some a

-- the same of functions of two numbers
abbrev pub GivesMorePairs : {A : Type 0} → (ℕ → ℕ → Option A) → (ℕ → ℕ → Option A) → Type 0
GivesMorePairs {A} f g = (x y : ℕ) (a : A) → f x y ≡ Some a → g x y ≡ Some a

-- more steps keep the clauses, the bits, the images of terms with bits, the selectors, the equalities, and the meaning of the
-- variables
pub record StaysLog (nodes : List Node) (log more : List Entry) : Type 0 where
  pub steps : IsLog nodes log
  pub next : (state_of nodes log).next ≤ (state_of nodes (log ++ more)).next
  pub clauses : FindsMore (clause_at (state_of nodes log).clauses) (clause_at (state_of nodes (log ++ more)).clauses)
  pub bits : GivesMore (state_of nodes log).bits (state_of nodes (log ++ more)).bits
  pub images : (t : ℕ) → IsSome ((state_of nodes log).bits t) → (state_of nodes (log ++ more)).images t ≡ (state_of nodes log).images t
  pub selectors : GivesMore (state_of nodes log).selectors (state_of nodes (log ++ more)).selectors
  pub equals : GivesMorePairs (state_of nodes log).equals (state_of nodes (log ++ more)).equals
  pub meaning : (M : Interpretation) → AgreeBelow (state_of nodes log).next (meaning M nodes log) (meaning M nodes (log ++ more))

-- more terms change neither what a log has nor what its variables mean
pub record IsLogOver (nodes more : List Node) (log : List Entry) : Type 0 where
  pub steps : IsLog (nodes ++ more) log
  pub state : state_of (nodes ++ more) log ≡ state_of nodes log
  pub meaning : (M : Interpretation) → meaning M (nodes ++ more) log ≡ meaning M nodes log
