use Rattle.std.proofs.Common.{ℕ, Option, sym, ap, ◌∙◌, subst}
use Rattle.std.specs.Prelude.{IfSome}
use Rattle.cube_search.specs.Ends.{IsModel}
use Rattle.cube_search.specs.Running.{valuation_of}
use Rattle.cube_workers.specs.declared.kept.KeptSearch.{KeptSearch}
use Rattle.proof_log.specs.Logs.{state_of}
use Rattle.smt_terms.specs.Terms.{TermsValue}
use Rattle.smt_values.specs.declared.value.Value.{Value}
use Rattle.std.specs.BTreeMap.{BTreeMap}
use Rattle.word_models.specs.Models.{interpretation_of, HaveTheirBits}
use Rattle.smt_session.proofs.Modeling.{is_word_model, true_there}
use Rattle.smt_session.proofs.Resting.{values_there}
use Rattle.smt_session.proofs.finding.settle.Goals as goal

pub word_model-requires-clause-model : goal.word_model-requires-clause-model
word_model-requires-clause-model c =
    let xs = c.args.workspace.now.searches.items in
    let same = values_there xs c.args.by c.index.result.now c.requires.by ∙ ap (λ (k : KeptSearch). valuation_of k.search) (sym c.index.ensures) in
    true_there c.args.state.now.terms.nodes c.args.workspace.now.log c.args.asked.now.positions.now c.args.asked.now.assumed.now _ (valuation_of c.index.result.now.search) c.requires.kept.session.stands same c.requires.model

pub written_model-requires : goal.written_model-requires
written_model-requires c =
    let s = c.args.state.now in
    let log = c.args.workspace.now.log in
    let positions = c.args.asked.now.positions.now in
    let given = c.args.asked.now.assumed.now in
    let xs = c.args.workspace.now.searches.items in
    let v = valuation_of c.index.result.now.search in
    let m = interpretation_of c.in-Some.model in
    let same = values_there xs c.args.by c.index.result.now c.requires.by ∙ ap (λ (k : KeptSearch). valuation_of k.search) (sym c.index.ensures) in
    let model : IsModel (state_of s.terms.nodes log.entries).clauses positions given v = subst (IsModel (state_of s.terms.nodes log.entries).clauses positions given) same c.requires.model in
    let read = subst (λ (o : Option (BTreeMap ℕ Value)). IfSome o (λ i. HaveTheirBits (interpretation_of i) c.terms.result.now.nodes log v positions)) c.in-Some.is c.in_ok-model.ensures.values in
    let bits : HaveTheirBits m s.terms.nodes log v positions = subst (λ (t : TermsValue). HaveTheirBits m t.nodes log v positions) c.terms.ensures.terms read in
    is_word_model c.requires.ready.0 s log positions given m v c.requires.kept.session c.requires.ready.1 c.requires.given model bits
