use Rattle.std.proofs.Common.{◌≡◌, length, ap, ◌∙◌, rules}
use Rattle.std.proofs.lemmas.Result.{IfOk-weaker, IfErr-weaker}
use Rattle.cube_workers.proofs.Answering.{none_rest, sum_closed}
use Rattle.cube_workers.proofs.Together.{grown_part, is_closed, back_rests, grown_all, found_grows, lost_grows, found_over}
use Rattle.cube_workers.proofs.solving.solve_together.Goals as goal

pub returns-in_default-clause-lost : goal.returns-in_default-clause-lost
returns-in_default-clause-lost g c =
    let l = c.in-Ok.law in let h = c.in-Ok-start.started.0.law in let k = c.args.check.now in
    let nodes = c.args.terms.now.nodes in let all = c.close-all.result in let log0 = c.into_log-log-2.result in
    let stands = c.close-all.ensures.stands in
    let same : h ≡ l = c.in-Ok-start.ensures.ok.0 in
    let back : log0 ≡ h.log = c.into_log-log-2.ensures ∙ ap (λ x. x.log) (c.into_hub-2.ensures ∙ c.into_law.ensures) in
    let new = c.put_history.new.log in
    (c.put_history.ensures.stands, grown_part l h k nodes c.args.log log0 all stands.0 same c.in-Ok.ensures.nodes c.in-Ok.ensures.log c.in-Ok.ensures.opening c.in-Ok.ensures.open_for stands.1 back new.entries c.put_history.ensures.part, none_rest new _ (search rules))

pub conclude-requires-clause-ended : goal.conclude-requires-clause-ended
conclude-requires-clause-ended g c =
    let l = c.in-Ok.law in let h = c.in-Ok-start.started.0.law in let k = c.args.check.now in
    let nodes = c.args.terms.now.nodes in let all = c.close-all.result in let log0 = c.into_log-log-2.result in
    let stands = c.close-all.ensures.stands in
    let same : h ≡ l = c.in-Ok-start.ensures.ok.0 in
    let back : log0 ≡ h.log = c.into_log-log-2.ensures ∙ ap (λ x. x.log) (c.into_hub-2.ensures ∙ c.into_law.ensures) in
    let new = c.put_history.new.log in
    let s = c.in-Ok-together.sum in
    let gathered = c.in-Ok-together.ensures.gathered in
    let made_count = c.in-Ok-together.ensures.made in
    let f = c.search_together-together.ensures.first in let ff = c.search_together-together.new.first in
    let sum = sum_closed h k all ff s.searches.items s.model s.wanting s.spent (length c.args.searches.items) gathered.0 c.requires.some.0 f.1 f.2 made_count gathered.1 c.close-all.ensures.seen c.close-all.ensures.mine c.close-all.ensures.ended c.close-all.ensures.below in
    (h, length c.args.searches.items, gathered.0, is_closed l h k nodes c.args.log log0 all stands.0 same c.in-Ok.ensures.nodes c.in-Ok.ensures.log c.in-Ok.ensures.opening c.in-Ok.ensures.open_for stands.1 back new.entries c.in-Ok-put_history.ensures.all, sum)

pub returns-in-Ok-together-clause-grows : goal.returns-in-Ok-together-clause-grows
returns-in-Ok-together-clause-grows g c =
    let l = c.in-Ok.law in let h = c.in-Ok-start.started.0.law in let k = c.args.check.now in
    let nodes = c.args.terms.now.nodes in let all = c.close-all.result in let log0 = c.into_log-log-2.result in
    let stands = c.close-all.ensures.stands in
    let same : h ≡ l = c.in-Ok-start.ensures.ok.0 in
    let back : log0 ≡ h.log = c.into_log-log-2.ensures ∙ ap (λ x. x.log) (c.into_hub-2.ensures ∙ c.into_law.ensures) in
    let new = c.put_history.new.log in
    IfOk-weaker c.conclude.result _ _ (λ r. found_grows l h k nodes c.args.log log0 all stands.0 same c.in-Ok.ensures.nodes c.in-Ok.ensures.log c.in-Ok.ensures.opening c.in-Ok.ensures.open_for stands.1 back new.entries c.in-Ok-put_history.ensures.all r) c.conclude.ensures.grows

pub returns-in-Ok-together-clause-count : goal.returns-in-Ok-together-clause-count
returns-in-Ok-together-clause-count g c =
    let gathered = c.in-Ok-together.ensures.gathered in
    IfOk-weaker c.conclude.result _ _ (λ r same. same ∙ gathered.1.kept.count ∙ gathered.1.long) c.conclude.ensures.count

pub returns-in-Ok-together-clause-found : goal.returns-in-Ok-together-clause-found
returns-in-Ok-together-clause-found g c =
    let l = c.in-Ok.law in let h = c.in-Ok-start.started.0.law in let k = c.args.check.now in
    let nodes = c.args.terms.now.nodes in let all = c.close-all.result in let log0 = c.into_log-log-2.result in
    let stands = c.close-all.ensures.stands in
    let same : h ≡ l = c.in-Ok-start.ensures.ok.0 in
    let back : log0 ≡ h.log = c.into_log-log-2.ensures ∙ ap (λ x. x.log) (c.into_hub-2.ensures ∙ c.into_law.ensures) in
    let new = c.put_history.new.log in
    let s = c.in-Ok-together.sum in
    let gathered = c.in-Ok-together.ensures.gathered in
    let made_count = c.in-Ok-together.ensures.made in
    let f = c.search_together-together.ensures.first in let ff = c.search_together-together.new.first in
    let sum = sum_closed h k all ff s.searches.items s.model s.wanting s.spent (length c.args.searches.items) gathered.0 c.requires.some.0 f.1 f.2 made_count gathered.1 c.close-all.ensures.seen c.close-all.ensures.mine c.close-all.ensures.ended c.close-all.ensures.below in
    IfOk-weaker c.conclude.result _ _ (λ r. found_over l h k nodes c.args.log log0 all stands.0 same c.in-Ok.ensures.nodes c.in-Ok.ensures.log c.in-Ok.ensures.opening c.in-Ok.ensures.open_for stands.1 back new.entries c.in-Ok-put_history.ensures.all s.searches.items s.model s.wanting s.spent (length c.args.searches.items) gathered.0 sum r) c.conclude.ensures.found

pub returns-in-Ok-together-clause-lost : goal.returns-in-Ok-together-clause-lost
returns-in-Ok-together-clause-lost g c =
    let l = c.in-Ok.law in let h = c.in-Ok-start.started.0.law in let k = c.args.check.now in
    let nodes = c.args.terms.now.nodes in let all = c.close-all.result in let log0 = c.into_log-log-2.result in
    let stands = c.close-all.ensures.stands in
    let same : h ≡ l = c.in-Ok-start.ensures.ok.0 in
    let back : log0 ≡ h.log = c.into_log-log-2.ensures ∙ ap (λ x. x.log) (c.into_hub-2.ensures ∙ c.into_law.ensures) in
    let new = c.put_history.new.log in
    IfErr-weaker c.conclude.result _ _ (λ r. lost_grows l h k nodes c.args.log log0 all stands.0 same c.in-Ok.ensures.nodes c.in-Ok.ensures.log c.in-Ok.ensures.opening c.in-Ok.ensures.open_for stands.1 back new.entries c.in-Ok-put_history.ensures.all r) c.conclude.ensures.lost

pub returns-clause-lost : goal.returns-clause-lost
returns-clause-lost g c =
    let l = c.in-Ok.law in let h = c.in-Ok-start.started.0.law in let k = c.args.check.now in
    let nodes = c.args.terms.now.nodes in let all = c.close-all.result in let log0 = c.into_log-log-2.result in
    let stands = c.close-all.ensures.stands in
    let same : h ≡ l = c.in-Ok-start.ensures.ok.0 in
    let back : log0 ≡ h.log = c.into_log-log-2.ensures ∙ ap (λ x. x.log) (c.into_hub-2.ensures ∙ c.into_law.ensures) in
    let new = c.put_history.new.log in
    let rest = c.in-Err-together.ensures.back in
    (c.put_history.ensures.stands, grown_all l h k nodes c.args.log log0 all stands.0 same c.in-Ok.ensures.nodes c.in-Ok.ensures.log c.in-Ok.ensures.opening c.in-Ok.ensures.open_for stands.1 back new.entries c.in-Ok-put_history.ensures.all, back_rests l h k nodes c.args.log log0 all stands.0 same c.in-Ok.ensures.nodes c.in-Ok.ensures.log c.in-Ok.ensures.opening c.in-Ok.ensures.open_for stands.1 back new c.in-Err-together.searches.items c.requires.stands c.put_history.ensures.stands c.in-Ok-put_history.ensures.all rest)
