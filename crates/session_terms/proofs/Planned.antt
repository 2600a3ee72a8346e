-- A plan that was taken keeps terms in order.
use Rattle.std.proofs.Common.{◌≡◌, ℕ, Bool, true, false, List, length, Option, Some, None, refl, sym, ap, ◌∙◌, subst}
use Rattle.std.specs.Prelude.{Contains, is_some}
use Rattle.cnf_base.proofs.Options.{some_value}
use Rattle.smt_terms.specs.declared.sort.Sort.{Sort}
use Rattle.smt_terms.specs.declared.sort.Sort.TheVariants as sort
use Rattle.smt_terms.specs.declared.node.Node.{Node}
use Rattle.smt_terms.specs.Bits.{bits_in, image_in}
use Rattle.smt_terms.specs.Ranks.{is_plain}
use Rattle.smt_terms.specs.Terms.{sort_of, IsTermList}
use Rattle.proof_log.specs.Assigned.{stands_on}
use Rattle.proof_log.specs.Logs.{plain_width}
use Rattle.proof_log.specs.Stored.{LogValue, Stands}
use Rattle.proof_log.proofs.Settled.{stands_settled}
use Rattle.reached_images.specs.declared.plan.Planned.{Planned}
use Rattle.reached_images.specs.Plans.{is_known, known_image, IsPlan}
use Rattle.session_terms.specs.Placed.{has_bits, HavePlaces, IsInOrder}
use Rattle.session_terms.proofs.Placing.{plan_placed}

-- what has no bits has no image
pub bare_free : (nodes : List Node) (log : LogValue) → IsTermList nodes → Stands nodes log → (t : ℕ) → bits_in log.bits t ≡ None → image_in log.bits t ≡ None
bare_free nodes log list stands t none = go (image_in log.bits t) refl
  where
    go : (o : Option ℕ) → image_in log.bits t ≡ o → image_in log.bits t ≡ None
    go None e = e
    go (Some u) e =
        let k = (stands_settled nodes log list stands).linked t u e in
        let q : is_some (bits_in log.bits u) ≡ false = ap is_some (sym k.1 ∙ none) in
        let z : true ≡ false = sym k.0 ∙ q in
        let f : ⊥ = cc in absurd f

wide_plain : (s : Sort) (n : ℕ) → plain_width s ≡ Some n → is_plain s ≡ true
wide_plain sort.Bool n e = refl
wide_plain (sort.Word k) n e = refl
wide_plain (sort.Array k m) n e = let f : ⊥ = cc in absurd f

-- what has bits is a Bool or a word
bits_plain : (nodes : List Node) (log : LogValue) → IsTermList nodes → Stands nodes log → (t : ℕ) → has_bits log.bits t ≡ true → is_plain (sort_of nodes t) ≡ true
bits_plain nodes log list stands t has =
    let b = some_value (bits_in log.bits t) has in
    wide_plain (sort_of nodes t) (length b.0) ((stands_settled nodes log list stands).bits t b.0 b.1).1

-- what is known has bits then, as far as it can
placed_as : (nodes : List Node) (here other : ℕ → Bool) (image images : ℕ → Option ℕ) → HavePlaces nodes here image → ((t : ℕ) → is_plain (sort_of nodes t) ≡ true → here t ≡ other t) → ((t : ℕ) → other t ≡ true → is_plain (sort_of nodes t) ≡ true) → ((t : ℕ) → image t ≡ images t) → HavePlaces nodes other images
placed_as nodes here other image images h same only links = record {
  places = h.places;
  end = h.end;
  are = record {
    held = h.are.held;
    plain = λ t plain. h.are.plain t plain ∙ same t plain;
    all = λ t e. h.are.all t (same t (only t e) ∙ e);
    earlier = λ t p u e c. h.are.earlier t p u e (subst (λ o. Contains (stands_on nodes t o) u) (sym (links t)) c);
  };
}

-- behind a plan, what is known has bits, as far as it is a Bool or a word, and images are those of the plan
pub plan_in_order : (nodes : List Node) (old new : LogValue) (steps : List Planned) → IsTermList nodes → Stands nodes old → Stands nodes new → IsInOrder nodes old.bits → IsPlan nodes old.bits steps
    → ((t : ℕ) → is_plain (sort_of nodes t) ≡ true → is_known old.bits steps t ≡ has_bits new.bits t) → ((t : ℕ) → known_image old.bits steps t ≡ image_in new.bits t) → IsInOrder nodes new.bits
plan_in_order nodes old new steps list before behind h plan known becomes =
    placed_as nodes (is_known old.bits steps) (has_bits new.bits) (known_image old.bits steps) (image_in new.bits)
    (plan_placed nodes old.bits steps (bare_free nodes old list before) h plan) known (bits_plain nodes new list behind) becomes
