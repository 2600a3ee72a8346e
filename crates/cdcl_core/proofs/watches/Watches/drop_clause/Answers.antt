use Rattle.std.proofs.Common.{◌≡◌, [], sym, ap, ◌∙◌}
use Rattle.std.proofs.Math.ListN.{set}
use Rattle.cdcl_core.specs.declared.watches.Kind.TheVariants.{Free}
use Rattle.cdcl_core.proofs.Dropping.{IsGoing, cleared_counts, gone_settled, gone_others}
use Rattle.cdcl_core.proofs.watches.Watches.drop_clause.Goals as goal

pub give_up-requires-clause-idle : goal.give_up-requires-clause-idle
give_up-requires-clause-idle c = cleared_counts c.args.self.now.lists c.clear.new.w.lists c.in-Some.slot c.clear.ensures.cleared

pub returns-clause-settled : goal.returns-clause-settled
returns-clause-settled c =
    let slots : c.give_up.new.w.slots ≡ c.remove.new.self = c.give_up.ensures.slots ∙ ap (λ v. v.slots) c.clear.ensures.same in
    let g : IsGoing c.args.self.now c.clear.new.w c.give_up.new.w c.args.trail.now c.in-Some.slot c.args.id = record {
      settled = c.requires.settled;
      found = sym c.in-Some.ensures.value;
      unused = c.requires.free;
      named = rw slots c.remove.ensures.gone;
      cleared = c.clear.ensures.cleared;
      kinds = c.give_up.ensures.kinds ∙ ap (λ v. set v.kinds.items c.in-Some.slot Free) c.clear.ensures.same;
      clauses = c.give_up.ensures.clauses ∙ ap (λ v. set v.clauses.items c.in-Some.slot []) c.clear.ensures.same;
      ids = c.give_up.ensures.ids ∙ ap (λ v. v.ids) c.clear.ensures.same;
      calm = c.give_up.ensures.calm ∙ ap (λ v. v.refuted) c.clear.ensures.same;
      literals = c.give_up.ensures.literals;
      lists = c.give_up.ensures.lists;
    } in
    gone_settled c.args.self.now c.clear.new.w c.give_up.new.w c.args.trail.now c.in-Some.slot c.args.id g

pub returns-clause-others : goal.returns-clause-others
returns-clause-others c =
    let slots : c.give_up.new.w.slots ≡ c.remove.new.self = c.give_up.ensures.slots ∙ ap (λ v. v.slots) c.clear.ensures.same in
    let g : IsGoing c.args.self.now c.clear.new.w c.give_up.new.w c.args.trail.now c.in-Some.slot c.args.id = record {
      settled = c.requires.settled;
      found = sym c.in-Some.ensures.value;
      unused = c.requires.free;
      named = rw slots c.remove.ensures.gone;
      cleared = c.clear.ensures.cleared;
      kinds = c.give_up.ensures.kinds ∙ ap (λ v. set v.kinds.items c.in-Some.slot Free) c.clear.ensures.same;
      clauses = c.give_up.ensures.clauses ∙ ap (λ v. set v.clauses.items c.in-Some.slot []) c.clear.ensures.same;
      ids = c.give_up.ensures.ids ∙ ap (λ v. v.ids) c.clear.ensures.same;
      calm = c.give_up.ensures.calm ∙ ap (λ v. v.refuted) c.clear.ensures.same;
      literals = c.give_up.ensures.literals;
      lists = c.give_up.ensures.lists;
    } in
    λ q ne. (gone_others c.args.self.now c.clear.new.w c.give_up.new.w c.args.trail.now c.in-Some.slot c.args.id q g ne).0

pub returns-clause-others_held : goal.returns-clause-others_held
returns-clause-others_held c =
    let slots : c.give_up.new.w.slots ≡ c.remove.new.self = c.give_up.ensures.slots ∙ ap (λ v. v.slots) c.clear.ensures.same in
    let g : IsGoing c.args.self.now c.clear.new.w c.give_up.new.w c.args.trail.now c.in-Some.slot c.args.id = record {
      settled = c.requires.settled;
      found = sym c.in-Some.ensures.value;
      unused = c.requires.free;
      named = rw slots c.remove.ensures.gone;
      cleared = c.clear.ensures.cleared;
      kinds = c.give_up.ensures.kinds ∙ ap (λ v. set v.kinds.items c.in-Some.slot Free) c.clear.ensures.same;
      clauses = c.give_up.ensures.clauses ∙ ap (λ v. set v.clauses.items c.in-Some.slot []) c.clear.ensures.same;
      ids = c.give_up.ensures.ids ∙ ap (λ v. v.ids) c.clear.ensures.same;
      calm = c.give_up.ensures.calm ∙ ap (λ v. v.refuted) c.clear.ensures.same;
      literals = c.give_up.ensures.literals;
      lists = c.give_up.ensures.lists;
    } in
    λ q ne. (gone_others c.args.self.now c.clear.new.w c.give_up.new.w c.args.trail.now c.in-Some.slot c.args.id q g ne).1

pub returns-clause-propagated : goal.returns-clause-propagated
returns-clause-propagated c = λ p. (p.0, c.give_up.ensures.calm ∙ ap (λ v. v.refuted) c.clear.ensures.same ∙ p.1)
