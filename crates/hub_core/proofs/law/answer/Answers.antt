use Rattle.std.proofs.Common.{◌≡◌, ap, ◌∙◌, subst, refl}
use Rattle.proof_log.specs.Pairs.{found}
use Rattle.proof_log.specs.Stored.{pair_place}
use Rattle.hub_core.specs.Hubs.{HubValue, permitted}
use Rattle.hub_core.specs.Standing.{or_else, IsDefined}
use Rattle.hub_core.proofs.Acts.{define_matches, lemma_matches, chain_matches, claim_matches, close_matches, spend_matches, found_matches}
use Rattle.hub_core.proofs.law.answer.Goals as goal

pub returns-in_ok-defined-in-Define : goal.returns-in_ok-defined-in-Define
returns-in_ok-defined-in-Define c = λ h hub may.
    let opened : c.place_of-opened.result ≡ pair_place c.args.law.now.log.equals c.in-Define.lower c.in-Define.upper =
    c.place_of-opened.ensures ∙ ap (λ e. pair_place e c.in-Define.lower c.in-Define.upper) (c.equals.ensures ∙ ap (λ (l : HubValue). l.log.equals) c.law.view_is) in
    rw c.in-Define.is
    (define_matches c.args.law.now c.args.state.now c.define.new.state h c.args.pass c.in-Define.lower c.in-Define.upper c.in_ok-defined-in-Define.defined hub
    (subst (permitted c.args.law.now h c.args.pass) c.in-Define.is may)
    (subst
    (λ o. IsDefined (or_else o (found c.args.state.now.pairs c.in-Define.lower c.in-Define.upper)) c.args.state.now c.define.new.state c.in-Define.lower c.in-Define.upper c.in_ok-defined-in-Define.defined)
    opened c.in_ok-defined-in-Define.ensures.defined))

pub returns-in_ok-last-in-PutLemma : goal.returns-in_ok-last-in-PutLemma
returns-in_ok-last-in-PutLemma c = λ h hub may.
    rw c.in-PutLemma.is (lemma_matches c.args.law.now c.args.state.now c.place.new.state h c.args.pass _ c.in_ok-last-in-PutLemma.last hub (subst (permitted c.args.law.now h c.args.pass) c.in-PutLemma.is may) c.in_ok-last-in-PutLemma.ensures.placed)

pub returns-in_ok-at-in-PutChain : goal.returns-in_ok-at-in-PutChain
returns-in_ok-at-in-PutChain c = λ h hub may.
    rw c.in-PutChain.is (chain_matches c.args.law.now c.args.state.now c.place-in-PutChain.new.state h c.args.pass _ _ c.in_ok-at-in-PutChain.at hub (subst (permitted c.args.law.now h c.args.pass) c.in-PutChain.is may) c.in_ok-at-in-PutChain.ensures.placed)

pub returns-in_ok-cube-in-Claim : goal.returns-in_ok-cube-in-Claim
returns-in_ok-cube-in-Claim c = λ h hub may.
    rw c.in-Claim.is (claim_matches c.args.law.now c.args.state.now c.claim.new.state h c.args.pass c.cubes.result c.in_ok-cube-in-Claim.cube c.cubes.ensures hub c.in_ok-cube-in-Claim.ensures.claimed)

pub returns-in-Close : goal.returns-in-Close
returns-in-Close c = λ h hub may.
    rw c.in-Close.is (refl, close_matches c.args.law.now c.args.state.now c.end.new.state h c.args.pass c.in-Close.cube c.in-Close.at hub (subst (permitted c.args.law.now h c.args.pass) c.in-Close.is may) (record { count = c.end.ensures.count; pairs = c.end.ensures.pairs; found_too = c.end.ensures.found; len = c.end.ensures.len; here = c.end.ensures.here; others = c.end.ensures.others }))

pub returns-in-Spend : goal.returns-in-Spend
returns-in-Spend c = λ h hub may.
    rw c.in-Spend.is (refl, spend_matches c.args.law.now c.args.state.now c.end-in-Spend.new.state h c.args.pass c.in-Spend.cube hub (subst (permitted c.args.law.now h c.args.pass) c.in-Spend.is may) (record { count = c.end-in-Spend.ensures.count; pairs = c.end-in-Spend.ensures.pairs; found_too = c.end-in-Spend.ensures.found; len = c.end-in-Spend.ensures.len; here = c.end-in-Spend.ensures.here; others = c.end-in-Spend.ensures.others }))

pub returns-in-Found : goal.returns-in-Found
returns-in-Found c = λ h hub may.
    rw c.in-Found.is (refl, found_matches c.args.law.now c.args.state.now c.end-in-Found.new.state h c.args.pass c.in-Found.cube hub (subst (permitted c.args.law.now h c.args.pass) c.in-Found.is may) (record { count = c.end-in-Found.ensures.count; pairs = c.end-in-Found.ensures.pairs; found_too = c.end-in-Found.ensures.found; len = c.end-in-Found.ensures.len; here = c.end-in-Found.ensures.here; others = c.end-in-Found.ensures.others }))
