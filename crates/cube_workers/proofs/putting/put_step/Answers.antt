use Rattle.std.proofs.Common.{◌≡◌, Some, None, sym, ap, ◌∙◌}
use Rattle.proof_log.specs.Stored.{pair_place}
use Rattle.cube_workers.proofs.PutBack.{pair_there, pair_put, pair_valid}
use Rattle.cube_workers.proofs.putting.put_step.Goals as goal

pub returns-in-Some-clause-ok : goal.returns-in-Some-clause-ok
returns-in-Some-clause-ok c =
    let held : pair_place c.args.log.now.equals c.in-Define.lower c.in-Define.upper ≡ Some c.in-Some.field-0 =
    ap (λ e. pair_place e c.in-Define.lower c.in-Define.upper) (sym c.equals.ensures) ∙ sym c.place_of.ensures ∙ c.in-Some.is in
    pair_there c.args.terms.now.nodes c.args.log.now c.in-Define.lower c.in-Define.upper c.in-Some.field-0 c.args.call.now c.requires.stands c.in-Define.is held

pub push-requires-clause-valid : goal.push-requires-clause-valid
push-requires-clause-valid c =
    let none : pair_place c.args.log.now.equals c.in-Define.lower c.in-Define.upper ≡ None =
    ap (λ e. pair_place e c.in-Define.lower c.in-Define.upper) (sym c.equals.ensures) ∙ sym c.place_of.ensures ∙ c.in_default.is in
    pair_valid c.args.terms.now.nodes c.args.log.now c.in-Define.lower c.in-Define.upper c.args.call.now c.requires.stands c.in-Define.is none c.requires.valid

pub returns-in_ok-push-in-Define-clause-ok : goal.returns-in_ok-push-in-Define-clause-ok
returns-in_ok-push-in-Define-clause-ok c =
    let none : pair_place c.args.log.now.equals c.in-Define.lower c.in-Define.upper ≡ None =
    ap (λ e. pair_place e c.in-Define.lower c.in-Define.upper) (sym c.equals.ensures) ∙ sym c.place_of.ensures ∙ c.in_default.is in
    pair_put c.args.terms.now.nodes c.args.log.now c.push.new.self.entries c.in-Define.lower c.in-Define.upper c.args.call.now c.requires.stands c.in-Define.is none c.in_ok-push-in-Define.ensures.pushed.entries
