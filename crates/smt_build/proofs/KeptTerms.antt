-- Properties that terms keep as more are made, and that a term has where those that it is made of have them.
use Rattle.std.proofs.Common.{◌≡◌, ℕ, ◌<◌, Bool, true, false, List, [], ◌∷◌, ◌++◌, length, refl, sym, subst, ⊎_elim, None, Result, Ok, Err}
use Rattle.std.specs.Prelude.{if◌then◌else◌}
use Rattle.std.specs.List.{AllByRecursion}
use Rattle.smt_syntax.specs.Walk.{◌>>=◌}
use Rattle.smt_terms.specs.declared.sort.Signature.{Signature}
use Rattle.smt_terms.specs.declared.operator.Operator.{Operator}
use Rattle.smt_terms.specs.declared.node.Op.{Op}
use Rattle.smt_terms.specs.declared.node.Op.TheVariants.{Plain, Word}
use Rattle.smt_terms.specs.declared.node.Node.{Node}
use Rattle.smt_terms.specs.declared.fault.MakeFault.{MakeFault}
use Rattle.smt_terms.specs.Nodes.{node_of, node_at, leaf}
use Rattle.smt_terms.specs.Terms.{TermsValue, IsTermList, make, declaration_of}
use Rattle.smt_terms.specs.Evaluations.{is_witness}
use Rattle.smt_terms.proofs.Growing.{list_push, list_shorter}
use Rattle.smt_terms.proofs.Made as making
use Rattle.smt_build.specs.declared.fault.BuildFault.{BuildFault}
use Rattle.smt_build.specs.declared.definition.Definition.{Definition}
use Rattle.smt_build.specs.Names.{Meanings, SymbolsValue, AreDeclared, IsDeclared}
use Rattle.smt_build.specs.Scoped.{is_scripted}
use Rattle.smt_build.specs.Building.{Built, Grows, as_built, made}
use Rattle.smt_build.specs.Grouping.{Listed}
use Rattle.smt_build.proofs.Growth.{grows_none, grows_both, remade_grows, names_none}

-- the terms begin with those before, and are well sorted where those are
pub record GoOn (signatures : List Signature) (old new : TermsValue) : Type 0 where
  pub grows : Grows signatures old new
  pub list : IsTermList old.nodes → IsTermList new.nodes

pub go_none : (signatures : List Signature) (v : TermsValue) → GoOn signatures v v
go_none signatures v = record { grows = grows_none signatures v; list = λ h. h }

pub go_both : (signatures : List Signature) (u v w : TermsValue) → GoOn signatures u v → GoOn signatures v w → GoOn signatures u w
go_both signatures u v w p q = record { grows = grows_both signatures u v w p.grows q.grows; list = λ h. q.list (p.list h) }

-- a node is made
pub list_made : (old new : TermsValue) (n : Node) (t : ℕ) → make old n ≡ Ok (t, new) → IsTermList old.nodes → IsTermList new.nodes
list_made old new n t e h =
    let m = making.made old new n t e in
    ⊎_elim
    (λ same. subst (λ (v : TermsValue). IsTermList v.nodes) (sym same) h)
    (λ fresh. subst (λ (v : TermsValue). IsTermList v.nodes) (sym fresh.pushed) (list_push old.nodes n m.sort m.rank h))
    m.grown

pub go_made : (signatures : List Signature) (old new : TermsValue) (n : Node) (t : ℕ) → (AreDeclared signatures old.nodes → IsDeclared signatures n.op) → make old n ≡ Ok (t, new) → GoOn signatures old new
go_made signatures old new n t k e = record { grows = remade_grows signatures old n k t new e; list = list_made old new n t e }

-- the terms before are well sorted where those behind are
pub list_before : (signatures : List Signature) (old new : TermsValue) → GoOn signatures old new → IsTermList new.nodes → IsTermList old.nodes
list_before signatures old new p list = list_shorter old.nodes p.grows.behind (subst IsTermList p.grows.nodes list)

-- what follows where there is no fault
abbrev pub Follows : {E A : Type 0} → (A → Type 0) → Result A E → Type 0
Follows P (Ok r) = P r
Follows P (Err f) = Unit {0}

-- ---- what a node may name

abbrev pub IsNoWitness : Operator → Type 0
IsNoWitness o = is_witness (Plain o) ≡ false

-- an operator is no witness, and names no declaration, or one that was made and is live
pub record MayStand (symbols : SymbolsValue) (op : Op) : Type 0 where
  pub declared : IsDeclared symbols.signatures op
  pub scripted : is_scripted symbols.live op ≡ true

pub none_stands : (symbols : SymbolsValue) (op : Op) → declaration_of op ≡ None → is_witness op ≡ false → MayStand symbols op
none_stands symbols op none other = record { declared = names_none symbols.signatures op none; scripted = rw (other, none) refl }

-- ---- properties

-- What has the property has it among more terms, and the arguments of a term that has it have it. A node has it whose
-- arguments have it, where its operator may stand, or is that of a term with the property. It is a property of held terms,
-- and else only of those that are well sorted.
pub record IsKept (symbols : SymbolsValue) (Has : TermsValue → ℕ → Type 0) : Type 0 where
  pub on : (old new : TermsValue) (t : ℕ) → GoOn symbols.signatures old new → Has old t → Has new t
  pub parts : (terms : TermsValue) (t : ℕ) → IsTermList terms.nodes → Has terms t → AllByRecursion (Has terms) (node_at terms.nodes t).args
  pub made : (old new : TermsValue) (n : Node) (t : ℕ) → MayStand symbols n.op → AllByRecursion (Has old) n.args → make old n ≡ Ok (t, new) → Has new t
  pub again : (first old new : TermsValue) (u : ℕ) (args : List ℕ) (t : ℕ) → GoOn symbols.signatures first old → GoOn symbols.signatures old new → IsTermList new.nodes → Has first u → AllByRecursion (Has old) args → make old (node_of (node_at first.nodes u).op args) ≡ Ok (t, new) → Has new t
  pub sorted : (terms : TermsValue) (t : ℕ) → t < length terms.nodes → (IsTermList terms.nodes → Has terms t) → Has terms t

module _ (symbols : SymbolsValue) (Has : TermsValue → ℕ → Type 0) where
  -- more terms may stand behind them
  abbrev pub Longer : TermsValue → TermsValue → Type 0
  Longer v w = GoOn symbols.signatures v w

  abbrev pub AllHave : TermsValue → List ℕ → Type 0
  AllHave v ts = AllByRecursion (Has v) ts

  -- the bodies of definitions have it
  abbrev pub BodiesHave : TermsValue → Meanings Definition → Type 0
  BodiesHave v definitions = AllByRecursion (λ (m : List ℕ × Definition). Has v m.1.body) definitions

  -- the term then has it, and those before stand
  abbrev pub Keeps : TermsValue → Built → Type 0
  Keeps v r = Follows (λ r. Longer v r.1 × Has r.1 r.0) r

  -- so have the terms of the list
  abbrev pub Collects : TermsValue → Listed → Type 0
  Collects v r = Follows (λ r. Longer v r.1 × AllHave r.1 r.0) r

  pub all_push : (v : TermsValue) (ts : List ℕ) (t : ℕ) → AllHave v ts → Has v t → AllHave v (ts ++ t ∷ [])
  all_push v [] t h k = (k, tt)
  all_push v (u ∷ ts) t h k = (h.0, all_push v ts t h.1 k)

  pub keeps_if : (v : TermsValue) (b : Bool) (f : BuildFault) (r : Built) → Keeps v r → Keeps v (if b then r else Err f)
  keeps_if v true f r h = h
  keeps_if v false f r h = tt

  pub keeps_further : (u v : TermsValue) (r : Built) → Longer u v → Keeps v r → Keeps u r
  keeps_further u v (Ok r) p h = (go_both symbols.signatures u v r.1 p h.0, h.1)
  keeps_further u v (Err e) p h = tt

  pub collects_further : (u v : TermsValue) (r : Listed) → Longer u v → Collects v r → Collects u r
  collects_further u v (Ok r) p h = (go_both symbols.signatures u v r.1 p h.0, h.1)
  collects_further u v (Err e) p h = tt

  pub keeps_bind : (v : TermsValue) (r : Built) (f : ℕ × TermsValue → Built) → Keeps v r → ((a : ℕ × TermsValue) → Longer v a.1 → Has a.1 a.0 → Keeps a.1 (f a)) → Keeps v (r >>= f)
  keeps_bind v (Ok a) f h k = keeps_further v a.1 (f a) h.0 (k a h.0 h.1)
  keeps_bind v (Err e) f h k = tt

  -- the terms of a list, and what is made of them
  pub lists_bind : (v : TermsValue) (r : Listed) (f : List ℕ × TermsValue → Built) → Collects v r → ((a : List ℕ × TermsValue) → AllHave a.1 a.0 → Keeps a.1 (f a)) → Keeps v (r >>= f)
  lists_bind v (Ok a) f h k = keeps_further v a.1 (f a) h.0 (k a h.1)
  lists_bind v (Err e) f h k = tt

  module _ (kept : IsKept symbols Has) where
    pub all_on : (v w : TermsValue) (ts : List ℕ) → Longer v w → AllHave v ts → AllHave w ts
    all_on v w [] p h = tt
    all_on v w (t ∷ ts) p h = (kept.on v w t p h.0, all_on v w ts p h.1)

    pub bodies_on : (v w : TermsValue) (ds : Meanings Definition) → Longer v w → BodiesHave v ds → BodiesHave w ds
    bodies_on v w [] p h = tt
    bodies_on v w (d ∷ ds) p h = (kept.on v w d.1.body p h.0, bodies_on v w ds p h.1)

    -- ---- nodes

    pub keeps_made : (terms : TermsValue) (n : Node) → MayStand symbols n.op → AllHave terms n.args → Keeps terms (made terms n)
    unfolding made
    keeps_made terms n k h = go (make terms n) refl where
      go : (r : Result (ℕ × TermsValue) MakeFault) → make terms n ≡ r → Keeps terms (as_built r)
      go (Ok r) e = (go_made symbols.signatures terms r.1 n r.0 (λ _. k.declared) e, kept.made terms r.1 n r.0 k h e)
      go (Err f) e = tt

    pub keeps_operator : (o : Operator) (terms : TermsValue) (args : List ℕ) → IsNoWitness o → AllHave terms args → Keeps terms (made terms (node_of (Plain o) args))
    keeps_operator o terms args other h = keeps_made terms (node_of (Plain o) args) (none_stands symbols (Plain o) refl other) h

    pub keeps_literal : (terms : TermsValue) (n x : ℕ) → Keeps terms (made terms (leaf (Word n x)))
    keeps_literal terms n x = keeps_made terms (leaf (Word n x)) (none_stands symbols (Word n x) refl refl) tt
