-- Terms over the live declarations (SMT-LIB 2.6, section 4.2.3: a declaration is known until its level is popped), in which
-- no witness stands: a script cannot write one.
use Rattle.std.specs.Prelude.{◌≡◌, ℕ, ◌==◌, Bool, true, false, not, ◌&&◌, List, Option, Some, None}
use Rattle.std.specs.List.{list_all, list_any, AllByRecursion}
use Rattle.smt_terms.specs.declared.node.Op.{Op}
use Rattle.smt_terms.specs.declared.node.Node.{Node}
use Rattle.smt_terms.specs.Nodes.{at_term}
use Rattle.smt_terms.specs.Terms.{declaration_of}
use Rattle.smt_terms.specs.Evaluations.{is_witness}
use Rattle.smt_build.specs.declared.definition.Definition.{Definition}
use Rattle.smt_build.specs.declared.symbols.LiveName.{LiveName}
use Rattle.smt_build.specs.Names.{Meanings}

abbrev pub is_live : List LiveName → ℕ → Bool
is_live live d = list_any (λ (l : LiveName). l.declaration == d) live

-- no declaration is named, or one that is live
abbrev pub names_live : List LiveName → Option ℕ → Bool
names_live live None = true
names_live live (Some d) = is_live live d

-- the operator is no witness, and names no declaration, or one that is live
abbrev pub is_scripted : List LiveName → Op → Bool
is_scripted live op = not (is_witness op) && names_live live (declaration_of op)

-- the term is no witness and names live declarations alone, and so it is with its arguments
abbrev pub is_over : List LiveName → List Node → ℕ → Bool
is_over live nodes t = at_term false (λ u op args. is_scripted live op && list_all (λ b. b) args) nodes t

-- the bodies of definitions are over the live declarations
abbrev pub AreOver : List LiveName → List Node → Meanings Definition → Type 0
AreOver live nodes definitions = AllByRecursion (λ (m : List ℕ × Definition). is_over live nodes m.1.body ≡ true) definitions
