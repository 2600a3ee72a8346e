use Rattle.std.proofs.Common.{rules, ◌≡◌, ◌<◌, length, get_or, sym, ap, ◌∙◌, inl, inr, arith}
use Rattle.std.proofs.lemmas.List.{get_or_read}
use Rattle.std.proofs.lemmas.Bool.Decides.{eqb_tells}
use Rattle.cdcl_core.proofs.Placing.{stands_spot, one_place}
use Rattle.cdcl_core.proofs.drop.has_forced.Goals as goal

pub index-requires : goal.index-requires
index-requires c =
    let within : c.in-Some.place < length c.args.trail.now.reasons.items = omega (arith, (stands_spot c.args.trail.now c.args.l c.in-Some.place c.requires.trail c.requires.places c.in-Some.ensures).0, c.requires.reasons) in
    search rules

pub returns-in-Some : goal.returns-in-Some
returns-in-Some c =
    let within : c.in-Some.place < length c.args.trail.now.reasons.items = omega (arith, (stands_spot c.args.trail.now c.args.l c.in-Some.place c.requires.trail c.requires.places c.in-Some.ensures).0, c.requires.reasons) in
    let read : c.index.result.now ≡ get_or c.args.trail.now.reasons.items c.in-Some.place 0 = get_or_read c.args.trail.now.reasons.items c.in-Some.place c.index.result.now within c.index.ensures 0 in
    elim (eqb_tells c.index.result.now c.args.slot) [
      | inl p ↦ rw p.0 (c.in-Some.place, (c.in-Some.ensures, sym read ∙ p.1))
      | inr p ↦ rw p.0 (λ f. p.1 (read ∙ (ap (λ x. get_or c.args.trail.now.reasons.items x 0) (one_place c.args.trail.now c.args.l c.in-Some.place f.0 c.requires.trail c.requires.places c.in-Some.ensures f.1.0) ∙ f.1.1)))
    ]

pub returns-in-None : goal.returns-in-None
returns-in-None c = λ f. c.in-None.ensures f.0 f.1.0
