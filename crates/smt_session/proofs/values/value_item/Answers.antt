use Rattle.std.proofs.Common.{◌≡◌, ℕ, List, [], ◌∷◌, ◌++◌, ◌∙◌, ap}
use Rattle.accepted_proof.specs.Answers.{meaning_text}
use Rattle.smt_values.specs.Held.{meaning}
use Rattle.smt_session.proofs.values.value_item.Goals as goal

four_parts : (o a b c d p q r s t : List ℕ) → p ≡ o → q ≡ p ++ a → r ≡ q ++ b → s ≡ r ++ c → t ≡ s ++ d → t ≡ o ++ a ++ b ++ c ++ d
four_parts o a b c d p q r s t e f g h i = i ∙ ap (λ x. x ++ d) (h ∙ ap (λ x. x ++ c) (g ∙ ap (λ x. x ++ b) (f ∙ ap (λ x. x ++ a) e)))

pub returns : goal.returns
returns c =
    four_parts (40 ∷ []) c.args.asked.now.text (32 ∷ []) (meaning_text (meaning c.args.value.now)) (41 ∷ []) c.in_ok-out.out c.push_slice.new.self c.push_slice-2.new.self c.push_meaning.new.out c.push_slice-3.new.self
    c.in_ok-out.ensures (c.in_ok-push_slice.ensures.ok ∙ ap (λ x. c.in_ok-out.out ++ x) c.as_slice.ensures) c.in_ok-push_slice-2.ensures.ok c.in_ok-push_meaning.ensures.ok c.in_ok-push_slice-3.ensures.ok
