-- The plan of a check.
use Rattle.std.proofs.Common.{◌≡◌, ℕ, ◌<◌, ◌++◌, List, length, length-append, get_or, take, sym, ap, ◌∙◌, subst, arith}
use Rattle.std.proofs.Math.Seq.{take-append_seam}
use Rattle.std.specs.Prelude.{is_some, All, Contains}
use Rattle.std.proofs.lemmas.List.Elements.{All-contains}
use Rattle.smt_terms.specs.declared.node.Node.{Node}
use Rattle.smt_terms.specs.Terms.{TermsValue}
use Rattle.smt_terms.specs.Bits.{TermBits}
use Rattle.bv_rewrite.specs.Simplifying.{AreNeeded, IsGrown}
use Rattle.reached_images.specs.declared.plan.Planned.{Planned}
use Rattle.reached_images.specs.Plans.{uses_of, ImagesHaveBits, IsKnown, IsPlan}
use Rattle.reached_images.specs.Settled.{AreOwn}
use Rattle.proof_log.specs.Stored.{LogValue, Stands}
use Rattle.proof_log.proofs.Linked.{linked_bits, log_linked}
use Rattle.proof_log.proofs.Standing.{stands_over}
use Rattle.smt_session.specs.Planning.{IsPlanned}

-- images have bits
pub images_have_bits : (nodes : List Node) (log : LogValue) → Stands nodes log → ImagesHaveBits log.bits
images_have_bits nodes log stands t u e =
    let k = stands_over nodes log stands in
    let link = log_linked nodes log.entries k.steps t u (sym (k.images t) ∙ e) in
    ap is_some (k.bits u) ∙ ap is_some (linked_bits nodes log.entries t u k.steps link)

-- what is held stays held
pub held_grown : (v w : TermsValue) (roots : List ℕ) → IsGrown v w → All (λ t. t < length v.nodes) roots → All (λ t. t < length w.nodes) roots
held_grown v w roots g h k d lt =
    let below = h k d lt in
    let more = ap length g.nodes ∙ length-append v.nodes g.more in
    omega (arith, below, more)

-- what holds of all holds of those among them
pub among_all : (P : ℕ → Type 0) (order roots : List ℕ) → All P order → All (Contains order) roots → All P roots
among_all P order roots h among k d lt = All-contains P order (get_or roots k d) h (among k d lt)

-- ---- the terms that there are, and those that a plan makes

module _ (v w : TermsValue) (log : LogValue) (bits : List TermBits) (made : List Node) (roots : List ℕ) (steps : List Planned) (from : ℕ) (grown : IsGrown v w) (count : from ≡ length v.nodes) (all : take from w.nodes ++ made ≡ w.nodes) (same : bits ≡ log.bits) where
  whole : v.nodes ++ made ≡ w.nodes
  whole = ap (λ l. l ++ made) (sym (take-append_seam v.nodes grown.more)) ∙ ap (λ l. take (length v.nodes) l ++ made) (sym grown.nodes) ∙ ap (λ n. take n w.nodes ++ made) (sym count) ∙ all

  pub planned : IsPlan w.nodes bits steps → All (IsKnown bits steps) roots → AreNeeded (length v.nodes) w.nodes (uses_of steps) → AreOwn w bits steps → IsPlanned v log made roots steps
  planned plan known needed own = record {
    plan = subst (λ ns. IsPlan ns log.bits steps) (sym whole) (subst (λ b. IsPlan w.nodes b steps) same plan);
    known = subst (λ b. All (IsKnown b steps) roots) same known;
    needed = subst (λ ns. AreNeeded (length v.nodes) ns (uses_of steps)) (sym whole) needed;
    own = subst (λ (x : TermsValue). AreOwn x log.bits steps) (λ i. record { nodes = sym whole i; limit = grown.limit i }) (subst (λ b. AreOwn w b steps) same own);
  }
