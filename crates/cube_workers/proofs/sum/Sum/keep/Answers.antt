use Rattle.std.proofs.Common.{◌≡◌, length, sym, ◌∙◌, rules}
use Rattle.cube_workers.specs.declared.worker.Reached.TheVariants as reached
use Rattle.cube_workers.proofs.Adding.{kept_without, kept_other, kept_model}
use Rattle.cube_workers.proofs.sum.Sum.keep.Goals as goal

pub returns-in_ok-push-in-NoMemory-clause-kept : goal.returns-in_ok-push-in-NoMemory-clause-kept
returns-in_ok-push-in-NoMemory-clause-kept c = λ xs x kept is h.
    kept_without c.args.self.now.searches.items c.push.new.self.items _ c.args.self.now.model c.args.self.now.wanting xs x c.args.reached c.in_ok-push-in-NoMemory.ensures.items c.in_ok-new-in-NoMemory.ensures c.in-NoMemory.is is h

pub returns-in_ok-push-in-Model-clause-kept : goal.returns-in_ok-push-in-Model-clause-kept
returns-in_ok-push-in-Model-clause-kept c = λ xs x kept is h.
    let found : x.reached ≡ reached.Model = is ∙ c.in-Model.is in
    let place : c.len-place.result ≡ length c.args.self.now.searches.items = search rules in
    kept_model c.args.self.now.searches.items c.push-in-Model.new.self.items c.args.kept c.args.self.now.wanting xs x c.in_ok-push-in-Model.ensures.items kept (λ e. let q : reached.Model ≡ reached.NoMemory = sym found ∙ e in let f : ⊥ = cc in f) c.args.self.now.model c.len-place.result place found h

pub returns-in_ok-push-in-Done-clause-kept : goal.returns-in_ok-push-in-Done-clause-kept
returns-in_ok-push-in-Done-clause-kept c = λ xs x kept is h.
    let ended : x.reached ≡ reached.Done = is ∙ c.in-Done.is in
    kept_other c.args.self.now.searches.items c.push-in-Done.new.self.items c.args.kept c.args.self.now.wanting xs x c.in_ok-push-in-Done.ensures.items kept (λ e. let q : reached.Done ≡ reached.NoMemory = sym ended ∙ e in let f : ⊥ = cc in f) c.args.self.now.model (λ e. let q : reached.Done ≡ reached.Model = sym ended ∙ e in let f : ⊥ = cc in f) h

pub returns-in_ok-push-in-Stopped-clause-kept : goal.returns-in_ok-push-in-Stopped-clause-kept
returns-in_ok-push-in-Stopped-clause-kept c = λ xs x kept is h.
    let ended : x.reached ≡ reached.Stopped = is ∙ c.in-Stopped.is in
    kept_other c.args.self.now.searches.items c.push-in-Stopped.new.self.items c.args.kept c.args.self.now.wanting xs x c.in_ok-push-in-Stopped.ensures.items kept (λ e. let q : reached.Stopped ≡ reached.NoMemory = sym ended ∙ e in let f : ⊥ = cc in f) c.args.self.now.model (λ e. let q : reached.Stopped ≡ reached.Model = sym ended ∙ e in let f : ⊥ = cc in f) h
