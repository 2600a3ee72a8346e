-- What an assignment of the variables says of terms of a log, where it makes the clauses of their steps true.
use Rattle.std.specs.Prelude.{◌≡◌, ℕ, Bool, true, List, [], ◌∷◌, Option, Some, None, Contains}
use Rattle.cnf_base.specs.Literals.{Literal}
use Rattle.cnf_base.specs.Clauses.{lit_true, clause_true}
use Rattle.smt_terms.specs.declared.node.Node.{Node}
use Rattle.smt_terms.specs.Nodes.{node_at}
use Rattle.smt_terms.specs.Terms.{sort_of}
use Rattle.smt_terms.specs.Bits.{bits_in, image_in}
use Rattle.smt_terms.specs.Values.{Interpretation, is_true, value}
use Rattle.bit_blast.specs.Meanings.{AreBitsOf}
use Rattle.proof_log.specs.declared.entry.Entry.TheVariants as step
use Rattle.proof_log.specs.Logs.{Asserted, clause_at, entry_at, state_of}
use Rattle.proof_log.specs.Places.{GivesBits, GivesSelector}
use Rattle.proof_log.specs.Stored.{LogValue}

-- the clauses of the position are true
abbrev pub IsTrueAt : LogValue → (ℕ → Bool) → ℕ → Type 0
IsTrueAt log v p = (k : ℕ) (c : List Literal) → clause_at log.clauses (record { pos = p; part = k }) ≡ Some c → clause_true v c ≡ true

-- the terms on whose bits those of a term stand: its image, or its arguments where it has none
abbrev pub stands_on : List Node → ℕ → Option ℕ → List ℕ
stands_on nodes t None = (node_at nodes t).args
stands_on nodes t (Some u) = u ∷ []

-- with a term are all on which it stands, over these images
abbrev pub AreClosed : List Node → (ℕ → Option ℕ) → (ℕ → Type 0) → Type 0
AreClosed nodes images reached = (t u : ℕ) → reached t → Contains (stands_on nodes t (images t)) u → reached u

-- Of these terms, which are closed under images and arguments, each got its bits by a step whose clauses are true under the
-- assignment, and the bits of each that got them as a leaf are those of its value. Position 0 has the clause that variable 1
-- is true.
pub record Satisfies (M : Interpretation) (nodes : List Node) (reached : ℕ → Type 0) (log : LogValue) (v : ℕ → Bool) : Type 0 where
  pub first : IsTrueAt log v 0
  pub closed : AreClosed nodes (image_in log.bits) reached
  pub steps : (t : ℕ) → reached t → (p : ℕ) × GivesBits log.entries t p × IsTrueAt log v p
  pub leaves : (t p : ℕ) (b : List Literal) → reached t → entry_at log.entries p ≡ Some (step.Leaf t) → bits_in log.bits t ≡ Some b → AreBitsOf v (sort_of nodes t) b (value M nodes t)

-- Under the assignment the bits of each of these terms are those of its value. Where the selector of an assertion of such
-- a term is true, and the clauses of the step that made it, the term is true.
pub record AreValues (M : Interpretation) (nodes : List Node) (reached : ℕ → Type 0) (log : LogValue) (v : ℕ → Bool) : Type 0 where
  pub bits : (t : ℕ) (b : List Literal) → reached t → bits_in log.bits t ≡ Some b → AreBitsOf v (sort_of nodes t) b (value M nodes t)
  pub selectors : (a p : ℕ) (r : Asserted) → reached r.term → (state_of nodes log.entries).selectors a ≡ Some r → GivesSelector log.entries a p → IsTrueAt log v p
      → lit_true v r.literal ≡ true → is_true (value M nodes r.term) ≡ true
