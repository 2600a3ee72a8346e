-- The images of a log bring no array.
use Rattle.std.proofs.Common.{◌≡◌, ℕ, zero, suc, ◌+◌, ◌≤◌, List, ◌∷◌, ◌++◌, length, length-append, Option, Some, None, refl, sym, ap, ◌∙◌, subst, arith}
use Rattle.std.specs.Prelude.{IsSome, is_some}
use Rattle.cnf_base.specs.Literals.{Literal}
use Rattle.smt_terms.specs.declared.node.Node.{Node}
use Rattle.smt_terms.specs.Terms.{IsTermList, AreDifferent}
use Rattle.smt_terms.specs.Bits.{image_in}
use Rattle.proof_log.specs.declared.entry.RuleUse.{RuleUse}
use Rattle.proof_log.specs.declared.entry.Entry.{Entry}
use Rattle.proof_log.specs.declared.entry.Entry.TheVariants as step
use Rattle.proof_log.specs.Logs.{start, IsRewrite, state_of, IsLog}
use Rattle.proof_log.specs.Stored.{LogValue, Stands}
use Rattle.proof_log.proofs.Linked.{images_are, log_linked, image_has_bits}
use Rattle.proof_log.proofs.Standing.{stands_over}
use Rattle.proof_log.proofs.Staying.{steps_parts, log_stays}
use Rattle.array_images.specs.Brought.{AreBrought}
use Rattle.array_images.proofs.Rules.{rules_bring_no_arrays}
use Rattle.array_images.proofs.Under.{brought_more}

-- a term with an image has bits
has_bits : (nodes : List Node) (log : List Entry) → IsLog nodes log → (t u : ℕ) → (state_of nodes log).images t ≡ Some u → IsSome ((state_of nodes log).bits t)
has_bits nodes log i t u e = go ((state_of nodes log).bits t) refl
  where
    go : (o : Option (List Literal)) → (state_of nodes log).bits t ≡ o → IsSome ((state_of nodes log).bits t)
    go (Some b) q = ap is_some q
    go None q = let z : None ≡ Some u = sym (image_has_bits nodes log t i q) ∙ e in let f : ⊥ = cc in absurd f

-- an image stays
image_stays : (nodes : List Node) (log more : List Entry) → IsLog nodes (log ++ more) → (t u : ℕ) → (state_of nodes log).images t ≡ Some u → (state_of nodes (log ++ more)).images t ≡ Some u
image_stays nodes log more i t u e =
    let s = log_stays nodes log more i in
    s.images t (has_bits nodes log s.steps t u e) ∙ e

module _ (nodes : List Node) (list : IsTermList nodes) (different : AreDifferent nodes) where
  shorter_brings : (count : ℕ) (log : List Entry) → length log ≤ count → IsLog nodes log → AreBrought nodes (state_of nodes log).images
  shorter_brings zero log le i t u e =
      let l = log_linked nodes log i t u e in
      let r : RuleUse = record { rule = l.rule; from = t; to = u } in
      let long : length log ≡ length l.before + suc (length l.more) = ap length l.parts ∙ length-append l.before (step.Rewrite r ∷ l.more) in
      absurd (omega (arith, long, le))
  shorter_brings (suc count) log le i t u e =
      let l = log_linked nodes log i t u e in
      let r : RuleUse = record { rule = l.rule; from = t; to = u } in
      let rest = step.Rewrite r ∷ l.more in
      let long : length log ≡ length l.before + suc (length l.more) = ap length l.parts ∙ length-append l.before rest in
      let whole : IsLog nodes (l.before ++ rest) = subst (IsLog nodes) l.parts i in
      let p = steps_parts nodes start l.before rest whole in
      let own : IsRewrite nodes (state_of nodes l.before) r = p.1.0 in
      let earlier = shorter_brings count l.before (omega (arith, long, le)) p.0 in
      brought_more nodes (state_of nodes l.before).images (state_of nodes log).images
      (λ x y q. subst (λ w. (state_of nodes w).images x ≡ Some y) (sym l.parts) (image_stays nodes l.before rest whole x y q))
      t u (rules_bring_no_arrays nodes (state_of nodes l.before).images own.ruled.rule t u list different (images_are nodes l.before list different p.0) earlier own.ruled.takes)

  pub logs_bring_no_arrays : (log : LogValue) → Stands nodes log → AreBrought nodes (image_in log.bits)
  logs_bring_no_arrays log stands t u e =
      let k = stands_over nodes log stands in
      brought_more nodes (state_of nodes log.entries).images (image_in log.bits) (λ x y q. k.images x ∙ q) t u
      (shorter_brings (length log.entries) log.entries (omega arith) k.steps t u (sym (k.images t) ∙ e))
