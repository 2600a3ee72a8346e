use Rattle.std.proofs.Common.{get_or, subst}
use Rattle.std.specs.Prelude.{Bool, MatchBool}
use Rattle.std.proofs.lemmas.List.Elements.{All-nil}
use Rattle.cube_search.specs.Running.{valuation_of}
use Rattle.word_models.specs.Models.{interpretation_of, IsOtherLeaf, IsReadLeaf}
use Rattle.word_models.proofs.Found.{reads_more, all_read, no_other, have_bits}
use Rattle.word_models.proofs.model.word_model.Goals as goal

pub positions-init : goal.positions-init
positions-init c = All-nil (IsReadLeaf (interpretation_of c.new-found.result) c.args.terms.now.nodes c.args.log.now (valuation_of c.args.search.now))

pub positions-preserved : goal.positions-preserved
positions-preserved c =
    let nodes = c.args.terms.now.nodes in
    let v = valuation_of c.args.search.now in
    let at = get_or c.args.positions.now c.positions.at-index 0 in
    let own = subst (λ (b : Bool). MatchBool b (IsReadLeaf (interpretation_of c.read_step.new.found) nodes c.args.log.now v at) (IsOtherLeaf nodes c.args.log.now.entries at)) c.if-not-branch.false c.in_ok-read_step.ensures.read in
    reads_more c.args.terms.now.nodes c.args.log.now (valuation_of c.args.search.now) (interpretation_of c.positions.found) (interpretation_of c.read_step.new.found) c.args.positions.now c.positions.at-index c.positions-test.true
    (c.in_ok-read_step.ensures.kept c.if-not-branch.false) own c.positions.invariant

pub returns-clause-none : goal.returns-clause-none
returns-clause-none c =
    let all = all_read (interpretation_of c.positions.found) c.args.terms.now.nodes c.args.log.now (valuation_of c.args.search.now) c.args.positions.now c.positions.at-index c.positions-test.false c.positions.invariant in
    no_other (interpretation_of c.positions.found) c.args.terms.now.nodes c.args.log.now (valuation_of c.args.search.now) c.args.positions.now all

pub returns-clause-values : goal.returns-clause-values
returns-clause-values c =
    let all = all_read (interpretation_of c.positions.found) c.args.terms.now.nodes c.args.log.now (valuation_of c.args.search.now) c.args.positions.now c.positions.at-index c.positions-test.false c.positions.invariant in
    have_bits (interpretation_of c.positions.found) c.args.terms.now.nodes c.args.log.now (valuation_of c.args.search.now) c.args.positions.now c.len-count.ensures.terms.list c.requires.stands c.requires.model all
