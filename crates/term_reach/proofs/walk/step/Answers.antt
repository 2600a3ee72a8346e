use Rattle.std.proofs.Common.{◌++◌, ◌∷◌, [], ℕ, List, length, refl, sym, ap, ◌∙◌, subst}
use Rattle.std.specs.Prelude.{◌<◌}
use Rattle.term_reach.specs.declared.walk.Frame.{Frame}
use Rattle.term_reach.specs.Walks.{IsWalking, IsOpen, IsSeen, left}
use Rattle.term_reach.proofs.Walking.{own, goes_on, goes_on_seen, goes_on_less, goes_back, goes_back_seen, goes_back_less}
use Rattle.term_reach.proofs.walk.step.Goals as goal

pub first_open-requires-clause-held : goal.first_open-requires-clause-held
first_open-requires-clause-held g c =
    (own (length c.args.terms.now.nodes) (g.N.Next.next_of c.args.next.now c.args.terms.now.nodes) c.args.roots.now c.requires.acyclic c.requires.within c.args.path.now.items c.args.reached.now c.args.frame c.requires.walking).below

pub first_open-requires-clause-done : goal.first_open-requires-clause-done
first_open-requires-clause-done g c =
    (own (length c.args.terms.now.nodes) (g.N.Next.next_of c.args.next.now c.args.terms.now.nodes) c.args.roots.now c.requires.acyclic c.requires.within c.args.path.now.items c.args.reached.now c.args.frame c.requires.walking).done

pub add-requires : goal.add-requires
add-requires g c = record {
  new = (own (length c.args.terms.now.nodes) (g.N.Next.next_of c.args.next.now c.args.terms.now.nodes) c.args.roots.now c.requires.acyclic c.requires.within c.args.path.now.items c.args.reached.now c.args.frame c.requires.walking).apart;
}

pub returns-in_ok-push-in-Some-2-clause-walking : goal.returns-in_ok-push-in-Some-2-clause-walking
returns-in_ok-push-in-Some-2-clause-walking g c =
    subst (λ (p : List Frame). IsWalking (length c.args.terms.now.nodes) (g.N.Next.next_of c.args.next.now c.args.terms.now.nodes) c.args.roots.now p c.args.reached.now)
    (sym (c.in_ok-push-in-Some-2.ensures.items ∙ ap (λ (p : List Frame). p ++ record { term = c.in-Some.open.term; place = 0 } ∷ []) c.in_ok-push-in-Some.ensures.items))
    (goes_on (length c.args.terms.now.nodes) (g.N.Next.next_of c.args.next.now c.args.terms.now.nodes) c.args.roots.now c.requires.acyclic c.requires.within c.args.path.now.items c.args.reached.now c.args.frame c.requires.walking c.in-Some.open.place c.in-Some.open (subst (IsOpen (g.N.Next.next_of c.args.next.now c.args.terms.now.nodes) c.args.reached.now c.args.frame.term) c.in-Some.is c.in_ok-open.ensures) refl)

pub returns-in_ok-push-in-Some-2-clause-seen : goal.returns-in_ok-push-in-Some-2-clause-seen
returns-in_ok-push-in-Some-2-clause-seen g c t s =
    subst (λ (p : List Frame). IsSeen p c.args.reached.now t)
    (sym (c.in_ok-push-in-Some-2.ensures.items ∙ ap (λ (p : List Frame). p ++ record { term = c.in-Some.open.term; place = 0 } ∷ []) c.in_ok-push-in-Some.ensures.items))
    (goes_on_seen (length c.args.terms.now.nodes) (g.N.Next.next_of c.args.next.now c.args.terms.now.nodes) c.args.roots.now c.requires.acyclic c.requires.within c.args.path.now.items c.args.reached.now c.args.frame c.requires.walking c.in-Some.open.place c.in-Some.open (subst (IsOpen (g.N.Next.next_of c.args.next.now c.args.terms.now.nodes) c.args.reached.now c.args.frame.term) c.in-Some.is c.in_ok-open.ensures) refl t s)

pub returns-in_ok-push-in-Some-2-clause-less : goal.returns-in_ok-push-in-Some-2-clause-less
returns-in_ok-push-in-Some-2-clause-less g c =
    subst (λ (p : List Frame). left (length c.args.terms.now.nodes) p c.args.reached.now < left (length c.args.terms.now.nodes) (c.args.path.now.items ++ c.args.frame ∷ []) c.args.reached.now)
    (sym (c.in_ok-push-in-Some-2.ensures.items ∙ ap (λ (p : List Frame). p ++ record { term = c.in-Some.open.term; place = 0 } ∷ []) c.in_ok-push-in-Some.ensures.items))
    (goes_on_less (length c.args.terms.now.nodes) (g.N.Next.next_of c.args.next.now c.args.terms.now.nodes) c.args.roots.now c.requires.acyclic c.requires.within c.args.path.now.items c.args.reached.now c.args.frame c.requires.walking c.in-Some.open.place c.in-Some.open (subst (IsOpen (g.N.Next.next_of c.args.next.now c.args.terms.now.nodes) c.args.reached.now c.args.frame.term) c.in-Some.is c.in_ok-open.ensures) refl)

pub returns-in_ok-add-in-None-clause-walking : goal.returns-in_ok-add-in-None-clause-walking
returns-in_ok-add-in-None-clause-walking g c =
    subst (IsWalking (length c.args.terms.now.nodes) (g.N.Next.next_of c.args.next.now c.args.terms.now.nodes) c.args.roots.now c.args.path.now.items) (sym c.in_ok-add-in-None.ensures.terms)
    (goes_back (length c.args.terms.now.nodes) (g.N.Next.next_of c.args.next.now c.args.terms.now.nodes) c.args.roots.now c.requires.acyclic c.requires.within c.args.path.now.items c.args.reached.now c.args.frame c.requires.walking (subst (IsOpen (g.N.Next.next_of c.args.next.now c.args.terms.now.nodes) c.args.reached.now c.args.frame.term) c.in-None.is c.in_ok-open.ensures))

pub returns-in_ok-add-in-None-clause-seen : goal.returns-in_ok-add-in-None-clause-seen
returns-in_ok-add-in-None-clause-seen g c t s =
    subst (λ (r : List ℕ). IsSeen c.args.path.now.items r t) (sym c.in_ok-add-in-None.ensures.terms)
    (goes_back_seen (length c.args.terms.now.nodes) (g.N.Next.next_of c.args.next.now c.args.terms.now.nodes) c.args.roots.now c.requires.acyclic c.requires.within c.args.path.now.items c.args.reached.now c.args.frame c.requires.walking (subst (IsOpen (g.N.Next.next_of c.args.next.now c.args.terms.now.nodes) c.args.reached.now c.args.frame.term) c.in-None.is c.in_ok-open.ensures) t s)

pub returns-in_ok-add-in-None-clause-less : goal.returns-in_ok-add-in-None-clause-less
returns-in_ok-add-in-None-clause-less g c =
    subst (λ (r : List ℕ). left (length c.args.terms.now.nodes) c.args.path.now.items r < left (length c.args.terms.now.nodes) (c.args.path.now.items ++ c.args.frame ∷ []) c.args.reached.now) (sym c.in_ok-add-in-None.ensures.terms)
    (goes_back_less (length c.args.terms.now.nodes) (g.N.Next.next_of c.args.next.now c.args.terms.now.nodes) c.args.roots.now c.requires.acyclic c.requires.within c.args.path.now.items c.args.reached.now c.args.frame c.requires.walking (subst (IsOpen (g.N.Next.next_of c.args.next.now c.args.terms.now.nodes) c.args.reached.now c.args.frame.term) c.in-None.is c.in_ok-open.ensures))
