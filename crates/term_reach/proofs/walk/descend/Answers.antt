use Rattle.std.proofs.Common.{◌≡◌, ◌++◌, ◌∷◌, [], List, length, refl, sym, ap, ◌∙◌, subst, inl, inr, arith}
use Rattle.std.proofs.lemmas.List.Elements.{Contains-push}
use Rattle.std.specs.Prelude.{Contains}
use Rattle.term_reach.specs.declared.walk.Frame.{Frame}
use Rattle.term_reach.specs.Walks.{IsSeen}
use Rattle.term_reach.proofs.Walking.{begins, none_on_way}
use Rattle.term_reach.proofs.walk.descend.Goals as goal

pub way-init : goal.way-init
way-init g c =
    let path : c.push.new.self.items ≡ record { term = c.args.root; place = 0 } ∷ [] = c.in_ok-push.ensures.items ∙ ap (λ (p : List Frame). p ++ record { term = c.args.root; place = 0 } ∷ []) c.requires.path in
    record {
      walking = begins (length c.args.terms.now.nodes) (g.N.Next.next_of c.args.next.now c.args.terms.now.nodes) c.args.roots.now c.push.new.self.items c.args.reached.now (record { term = c.args.root; place = 0 })
          path refl c.requires.held c.requires.root c.if-has.ensures c.requires.part;
      root = inr (record { term = c.args.root; place = 0 }, subst (λ (p : List Frame). Contains p (record { term = c.args.root; place = 0 })) (sym path) (Contains-push [] (record { term = c.args.root; place = 0 })), refl);
      kept = λ t k. inl k;
    }

pub way-preserved : goal.way-preserved
way-preserved g c = record {
  walking = c.in_ok-step.ensures.walking;
  root = c.in_ok-step.ensures.seen c.args.root (subst (λ (p : List Frame). IsSeen p c.way.reached c.args.root) c.in-Some.ensures.items c.way.invariant.root);
  kept = λ t k. c.in_ok-step.ensures.seen t (subst (λ (p : List Frame). IsSeen p c.way.reached t) c.in-Some.ensures.items (c.way.invariant.kept t k));
}

pub returns-clause-kept : goal.returns-clause-kept
returns-clause-kept g c t k = none_on_way (length c.args.terms.now.nodes) (g.N.Next.next_of c.args.next.now c.args.terms.now.nodes) c.args.roots.now c.way.path.items c.way.reached t (omega (arith, c.in_default.ensures.cases.0, c.way.path.ok)) (c.way.invariant.kept t k)
