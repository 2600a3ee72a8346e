use Rattle.std.proofs.Common.{◌≡◌, ℕ, zero, suc, ◌^◌, [], ◌∷◌, refl, sym, ap, ◌∙◌, subst}
use Rattle.std.specs.Prelude.{Result, Ok, Err}
use Rattle.smt_terms.specs.declared.sort.Sort.TheVariants as sort
use Rattle.smt_terms.specs.declared.node.Op.{Op}
use Rattle.smt_terms.specs.declared.node.Op.TheVariants.{Constant}
use Rattle.smt_terms.specs.declared.node.Node.{Node}
use Rattle.smt_terms.specs.declared.fault.MakeFault.{MakeFault}
use Rattle.smt_terms.specs.Nodes.{leaf}
use Rattle.smt_terms.specs.Terms.{TermsValue, Agrees, signature_of, constant_signature, no_terms, make}
use Rattle.search_client.proofs.assertions.two_constants.Goals as goal

-- one term agrees with another of the same signature
agrees_one : (n : Node) (op : Op) → signature_of n.op ≡ constant_signature sort.Bool → signature_of op ≡ constant_signature sort.Bool → Agrees (n ∷ []) op
agrees_one n op a b zero d p q = a ∙ sym b
agrees_one n op a b (suc t) d p q = sym b

abbrev terms_after : Result (ℕ × TermsValue) MakeFault → TermsValue
terms_after (Ok made) = made.1
terms_after (Err fault) = no_terms 0

-- a first declared truth value is the only term
first_made : make (no_terms (2 ^ 24)) (leaf (Constant 0 sort.Bool)) ≡ Ok (0, record { nodes = leaf (Constant 0 sort.Bool) ∷ []; limit = 2 ^ 24 })
unfolding make
first_made = refl

-- and agrees with a second
agrees_second : (old new : TermsValue) (n m : Node) (t : ℕ) → old ≡ no_terms (2 ^ 24) → n ≡ leaf (Constant 0 sort.Bool) → m ≡ leaf (Constant 1 sort.Bool) → make old n ≡ Ok (t, new) → Agrees new.nodes m.op
agrees_second old new n m t eo en em e =
    let made : make old n ≡ make (no_terms (2 ^ 24)) (leaf (Constant 0 sort.Bool)) = ap (λ (v : TermsValue). make v n) eo ∙ ap (make (no_terms (2 ^ 24))) en in
    subst (λ (v : TermsValue). Agrees v.nodes m.op) (ap terms_after (sym first_made ∙ sym made ∙ e))
    (agrees_one (leaf (Constant 0 sort.Bool)) m.op refl (ap (λ (x : Node). signature_of x.op) em))

pub make-requires-2 : goal.make-requires-2
make-requires-2 c = record { declared = agrees_second _ _ _ _ _ c.new-terms.ensures c.constant.ensures c.constant-2.ensures c.in-Ok.ensures }
