use Rattle.std.proofs.Common.{◌≡◌, ℕ, zero, suc, ◌^◌, [], ◌∷◌, Option, Some, None, refl, sym, ap, ◌∙◌, ⊎_elim}
use Rattle.std.specs.Prelude.{Result, Ok, Err}
use Rattle.smt_terms.specs.declared.sort.Sort.TheVariants as sort
use Rattle.smt_terms.specs.declared.node.Op.{Op}
use Rattle.smt_terms.specs.declared.node.Op.TheVariants.{Apply}
use Rattle.smt_terms.specs.declared.node.Node.{Node}
use Rattle.smt_terms.specs.declared.fault.MakeError.{MakeError}
use Rattle.smt_terms.specs.declared.fault.MakeError.TheVariants.{NoMemory, Fault}
use Rattle.smt_terms.specs.Nodes.{node_at}
use Rattle.smt_terms.specs.Terms.{TermsValue, declaration_of, Agrees, Makes, make, no_terms, with_node}
use Rattle.smt_terms.proofs.Made.{made}
use Rattle.smt_eval.proofs.application_tests.one_application.Goals as goal

abbrev declared_at : TermsValue → ℕ → Option ℕ
declared_at v t = declaration_of (node_at v.nodes t).op

none_in_one : (n : Node) → declaration_of n.op ≡ None → (t : ℕ) → declaration_of (node_at (n ∷ []) t).op ≡ None
none_in_one n h zero = h
none_in_one n h (suc t) = refl

-- where a node without a declaration was tried alone, no term names one
undeclared : (v w : TermsValue) (n : Node) (r : Result ℕ MakeError) → v ≡ no_terms (2 ^ 24) → declaration_of n.op ≡ None → Makes (make v n) r v w → (t : ℕ) → declared_at w t ≡ None
undeclared v w n (Ok k) empty h e t =
    let m = made v w n k e in
    ⊎_elim
    (λ old. ap (λ (x : TermsValue). declared_at x t) (old ∙ empty))
    (λ new. ap (λ (x : TermsValue). declared_at x t) (new.pushed ∙ ap (λ (x : TermsValue). with_node x n) empty) ∙ none_in_one n h t)
    m.grown
undeclared v w n (Err (Fault f)) empty h e t = ap (λ (x : TermsValue). declared_at x t) (e.1 ∙ empty)
undeclared v w n (Err NoMemory) empty h e t = ap (λ (x : TermsValue). declared_at x t) (e ∙ empty)

agrees : (v : TermsValue) (op : Op) → ((t : ℕ) → declared_at v t ≡ None) → Agrees v.nodes op
agrees v op h t d e f = let z : None ≡ Some d = sym (h t) ∙ e in let y : ⊥ = cc in absurd y

pub make-requires-2 : goal.make-requires-2
make-requires-2 c =
    let none = undeclared _ _ _ _ c.new-terms.ensures (ap (λ (n : Node). declaration_of n.op) c.leaf.ensures) c.make.ensures in
    record { declared = agrees c.make.new.self (Apply 0 (record { args = c.from_vec.result; value = sort.Word 8 })) none }
