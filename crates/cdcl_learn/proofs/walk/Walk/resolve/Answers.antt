use Rattle.std.proofs.Common.{◌≡◌, Some, false, sym, ap, ◌∙◌, inl, length, reverse}
use Rattle.std.proofs.Math.ListN.{set, length-set}
use Rattle.std.proofs.lemmas.List.{get_or_read}
use Rattle.cdcl_core.specs.Levels.{Row}
use Rattle.cdcl_core.specs.State.{no_row}
use Rattle.cdcl_core.specs.Search.{clause_of}
use Rattle.cdcl_learn.specs.Rows.{reason_at}
use Rattle.cdcl_learn.specs.Walks.{IsMarked}
use Rattle.cdcl_learn.proofs.Derivations.{IsResolution, resolution, nothing}
use Rattle.cdcl_learn.proofs.Standing.{meets_one}
use Rattle.cdcl_learn.proofs.walk.Walk.resolve.Goals as goal

pub returns-in_default-clause_at-clause-resolved : goal.returns-in_default-clause_at-clause-resolved
returns-in_default-clause_at-clause-resolved c =
    let reason : reason_at c.args.rows.now c.args.i ≡ Some c.in-Some.id = ap (λ (r : Row). r.2) (sym (get_or_read c.args.rows.now c.args.i c.index-rows-i.result c.requires.within c.index-rows-i.is no_row)) ∙ sym c.in-Some.ensures in
    let f = c.requires.history.forced c.args.i c.in-Some.id c.requires.within reason in
    nothing f.0 (c.in_default-clause_at.ensures ∙ f.1.0)

pub returns-in_default-clause-met : goal.returns-in_default-clause-met
returns-in_default-clause-met c = λ id m. inl m

pub returns-in_default-clause_at-clause-met : goal.returns-in_default-clause_at-clause-met
returns-in_default-clause_at-clause-met c = λ id m. inl m

pub returns-clause-met : goal.returns-clause-met
returns-clause-met c =
    let reason : reason_at c.args.rows.now c.args.i ≡ Some c.in-Some.id = ap (λ (r : Row). r.2) (sym (get_or_read c.args.rows.now c.args.i c.index-rows-i.result c.requires.within c.index-rows-i.is no_row)) ∙ sym c.in-Some.ensures in
    meets_one c.args.rows.now c.args.self.now.hints.items c.push.new.self.items c.args.i c.in-Some.id c.requires.within reason c.in_ok-push.ensures.items

pub returns-clause-walk : goal.returns-clause-walk
returns-clause-walk c =
    let reason : reason_at c.args.rows.now c.args.i ≡ Some c.in-Some.id = ap (λ (r : Row). r.2) (sym (get_or_read c.args.rows.now c.args.i c.index-rows-i.result c.requires.within c.index-rows-i.is no_row)) ∙ sym c.in-Some.ensures in
    let k : IsMarked c.args.rows.now c.in-Some-clause_at.clause.now (set c.args.self.now.marks c.args.i false) c.mark.new.marks = rw (c.literals.ensures, c.unset.ensures) at c.mark.ensures in
    let r : IsResolution (clause_of c.args.watches.now) c.args.rows.now c.args.i c.args.self.now.marks c.mark.new.marks (reverse c.push.new.self.items) =
    resolution (clause_of c.args.watches.now) c.args.rows.now c.args.i c.in-Some.id c.in-Some-clause_at.clause.now c.args.self.now.marks c.mark.new.marks c.args.self.now.hints.items c.push.new.self.items
    c.requires.history c.requires.within c.requires.walk.size c.requires.marked reason (sym c.in-Some-clause_at.ensures) k c.requires.walk.derived c.in_ok-push.ensures.items in
    record {
      size = (let a : length c.mark.new.marks ≡ length (set c.args.self.now.marks c.args.i false) = k.size in rw length-set at a) ∙ c.requires.walk.size;
      derived = r.derived;
    }

pub returns-clause-resolved : goal.returns-clause-resolved
returns-clause-resolved c =
    let reason : reason_at c.args.rows.now c.args.i ≡ Some c.in-Some.id = ap (λ (r : Row). r.2) (sym (get_or_read c.args.rows.now c.args.i c.index-rows-i.result c.requires.within c.index-rows-i.is no_row)) ∙ sym c.in-Some.ensures in
    let k : IsMarked c.args.rows.now c.in-Some-clause_at.clause.now (set c.args.self.now.marks c.args.i false) c.mark.new.marks = rw (c.literals.ensures, c.unset.ensures) at c.mark.ensures in
    let r : IsResolution (clause_of c.args.watches.now) c.args.rows.now c.args.i c.args.self.now.marks c.mark.new.marks (reverse c.push.new.self.items) =
    resolution (clause_of c.args.watches.now) c.args.rows.now c.args.i c.in-Some.id c.in-Some-clause_at.clause.now c.args.self.now.marks c.mark.new.marks c.args.self.now.hints.items c.push.new.self.items
    c.requires.history c.requires.within c.requires.walk.size c.requires.marked reason (sym c.in-Some-clause_at.ensures) k c.requires.walk.derived c.in_ok-push.ensures.items in
    r.resolved
