-- Making terms only appends, and names only declarations that were made.
use Rattle.std.proofs.Common.{◌≡◌, ℕ, ◌≤◌, Bool, true, false, List, [], ◌∷◌, ◌++◌, length, refl, ap, sym, ◌∙◌, subst, arith, ⊎_elim, append_assoc, append-nil, length-append, Option, Some, None, Result, Ok, Err}
use Rattle.std.proofs.Math.Seq.{take-append_seam}
use Rattle.std.specs.Prelude.{nat_lt, take, position, slice_get, if◌then◌else◌}
use Rattle.smt_terms.specs.declared.sort.Sort.{Sort}
use Rattle.smt_terms.specs.declared.sort.Signature.{Signature}
use Rattle.smt_terms.specs.declared.operator.Operator.{Operator}
use Rattle.smt_terms.specs.declared.node.Op.{Op}
use Rattle.smt_terms.specs.declared.node.Op.TheVariants.{Plain, Word, Constant, Apply}
use Rattle.smt_terms.specs.declared.node.Node.{Node}
use Rattle.smt_terms.specs.declared.fault.MakeFault.{MakeFault}
use Rattle.smt_terms.specs.declared.fault.MakeFault.TheVariants.{TermLimit}
use Rattle.smt_terms.specs.Same.{same_node}
use Rattle.smt_terms.specs.Ranks.{and_then}
use Rattle.smt_terms.specs.Terms.{TermsValue, make, numbered, node_sort, cut_at, Agrees, declaration_of, signature_of, constant_signature}
use Rattle.smt_terms.specs.Nodes.{node_at}
use Rattle.smt_terms.proofs.Growing.{pushed}
use Rattle.smt_build.specs.Names.{AreDeclared, IsDeclared}
use Rattle.smt_build.specs.Building.{Grows}

pub grows_none : (signatures : List Signature) (v : TermsValue) → Grows signatures v v
grows_none signatures v = record { behind = []; nodes = sym (append-nil v.nodes); limit = refl; declared = λ h. h }

pub grows_same : (signatures : List Signature) (old new : TermsValue) → new ≡ old → Grows signatures old new
grows_same signatures old new e = subst (Grows signatures old) (sym e) (grows_none signatures old)

pub grows_both : (signatures : List Signature) (a b c : TermsValue) → Grows signatures a b → Grows signatures b c → Grows signatures a c
grows_both signatures a b c p q = record {
  behind = p.behind ++ q.behind;
  nodes = q.nodes ∙ ap (λ l. l ++ q.behind) p.nodes ∙ append_assoc a.nodes p.behind q.behind;
  limit = q.limit ∙ p.limit;
  declared = λ h. q.declared (p.declared h);
}

-- terms grow, whatever is declared
abbrev pub AllGrow : TermsValue → TermsValue → Type 0
AllGrow old new = (signatures : List Signature) → Grows signatures old new

pub all_grow : (a b c : TermsValue) → AllGrow a b → AllGrow b c → AllGrow a c
all_grow a b c p q signatures = grows_both signatures a b c (p signatures) (q signatures)

-- ---- what a node may name

pub none_declared : (signatures : List Signature) → AreDeclared signatures []
none_declared signatures = record { each = λ t d e. absurd (let z : ⊥ = cc in z) }

pub agrees : (signatures : List Signature) (terms : TermsValue) (op : Op) → AreDeclared signatures terms.nodes → IsDeclared signatures op → Agrees terms.nodes op
agrees signatures terms op h k t d e f = let p = h.each t d e in let q = k.each d f in cc

pub operator_declared : (signatures : List Signature) (o : Operator) → IsDeclared signatures (Plain o)
operator_declared signatures o = record { each = λ d e. absurd (let z : ⊥ = cc in z) }

pub word_declared : (signatures : List Signature) (n x : ℕ) → IsDeclared signatures (Word n x)
word_declared signatures n x = record { each = λ d e. absurd (let z : ⊥ = cc in z) }

-- no declaration is named
pub names_none : (signatures : List Signature) (op : Op) → declaration_of op ≡ None → IsDeclared signatures op
names_none signatures op none = record { each = λ d e. absurd (let z : ⊥ = cc in z) }

pub constant_declared : (signatures : List Signature) (d : ℕ) (s : Signature) → slice_get signatures d ≡ Some s → s.args ≡ [] → IsDeclared signatures (Constant d s.value)
constant_declared signatures d s e f = record { each = λ c g. let p : d ≡ c = cc in subst (λ k. slice_get signatures k ≡ Some (constant_signature s.value)) p (e ∙ ap Some (λ i. record { args = f i; value = s.value })) }

pub function_declared : (signatures : List Signature) (d : ℕ) (s : Signature) → slice_get signatures d ≡ Some s → IsDeclared signatures (Apply d s)
function_declared signatures d s e = record { each = λ c g. let p : d ≡ c = cc in subst (λ k. slice_get signatures k ≡ Some s) p e }

pub word_agrees : (terms : TermsValue) (n x : ℕ) → Agrees terms.nodes (Word n x)
word_agrees terms n x t d e f = absurd (let z : ⊥ = cc in z)

pub operator_agrees : (terms : TermsValue) (o : Operator) → Agrees terms.nodes (Plain o)
operator_agrees terms o t d e f = absurd (let z : ⊥ = cc in z)

declared_push : (signatures : List Signature) (nodes : List Node) (n : Node) → IsDeclared signatures n.op → AreDeclared signatures nodes → AreDeclared signatures (nodes ++ n ∷ [])
declared_push signatures nodes n k h = record { each = λ t d. one t d } where
  one : (t d : ℕ) → declaration_of (node_at (nodes ++ n ∷ []) t).op ≡ Some d → slice_get signatures d ≡ Some (signature_of (node_at (nodes ++ n ∷ []) t).op)
  one t d = ⊎_elim
      (λ p. subst (λ m. declaration_of m.op ≡ Some d → slice_get signatures d ≡ Some (signature_of m.op)) (sym p) (h.each t d))
      (λ p. subst (λ m. declaration_of m.op ≡ Some d → slice_get signatures d ≡ Some (signature_of m.op)) (sym p.1) (k.each d))
      (pushed nodes n t)

-- ---- making

second : (t u : ℕ) (v w : TermsValue) → ◌≡◌ {A = Result (ℕ × TermsValue) MakeFault} (Ok (t, v)) (Ok (u, w)) → v ≡ w
second t u v w e = let p : ◌≡◌ {A = ℕ × TermsValue} (t, v) (u, w) = cc in ap (λ q. q.1) p

module _ (signatures : List Signature) (old : TermsValue) (n : Node) (k : AreDeclared signatures old.nodes → IsDeclared signatures n.op) (t : ℕ) (new : TermsValue) where
  abbrev more : TermsValue
  more = record { nodes = old.nodes ++ n ∷ []; limit = old.limit }

  grows_more : more ≡ new → Grows signatures old new
  grows_more e = subst (Grows signatures old) e (record { behind = n ∷ []; nodes = refl; limit = refl; declared = λ h. declared_push signatures old.nodes n (k h) h })

  abbrev next : Result (ℕ × TermsValue) MakeFault
  next = Ok (length old.nodes, more)

  by_room : (b : Bool) → ◌≡◌ {A = Result (ℕ × TermsValue) MakeFault} (if b then next else Err TermLimit) (Ok (t, new)) → Grows signatures old new
  by_room true e = grows_more (second (length old.nodes) t more new e)
  by_room false e = absurd (let z : ⊥ = cc in z)

  by_parts : (r : Result Sort MakeFault) (o : Option ℕ) → and_then r (λ _. numbered old n o) ≡ Ok (t, new) → Grows signatures old new
  by_parts (Err f) o e = absurd (let z : ⊥ = cc in z)
  by_parts (Ok s) (Some u) e = subst (Grows signatures old) (second u t old new e) (grows_none signatures old)
  by_parts (Ok s) None e = by_room (nat_lt (length old.nodes) old.limit) e

  -- what is named was declared, where all was that was named before
  pub remade_grows : make old n ≡ Ok (t, new) → Grows signatures old new
  unfolding make
  remade_grows e = by_parts (node_sort old.nodes n) (position (same_node n) old.nodes) e

pub made_grows : (signatures : List Signature) (old : TermsValue) (n : Node) → IsDeclared signatures n.op → (t : ℕ) (new : TermsValue) → make old n ≡ Ok (t, new) → Grows signatures old new
made_grows signatures old n k t new e = remade_grows signatures old n (λ h. k) t new e

-- ---- cutting

pub longer : (signatures : List Signature) (old new : TermsValue) → Grows signatures old new → length old.nodes ≤ length new.nodes
longer signatures old new g = rw g.nodes (omega (arith, length-append old.nodes g.behind))

-- what was appended is forgotten
pub cut_back : (signatures : List Signature) (old mid new : TermsValue) (len : ℕ) → Grows signatures old mid → len ≡ length old.nodes → new ≡ cut_at mid len → new ≡ old
cut_back signatures old mid new len g l e = e ∙ rw l (λ i. record { nodes = (ap (take (length old.nodes)) g.nodes ∙ take-append_seam old.nodes g.behind) i; limit = g.limit i })
