use Rattle.std.proofs.Common.{Ok, refl}
use Rattle.script_state.specs.declared.answer.Answer.TheVariants.{Done, Exit}
use Rattle.script_state.proofs.Obeying.{obeys_declaration, obeys_function, obeys_sort, obeys_definition, obeys_assertion, obeys_check, obeys_check_assuming, obeys_get_value, obeys_info, obeys_logic, obeys_set_option, obeys_get_option, obeys_get_info, obeys_echo, obeys_push, obeys_pop, obeys_reset, obeys_reset_assertions, obeys_get_model, obeys_get_core, obeys_get_assumptions, obeys_exit, obeys_unsupported, obeys_other}
use Rattle.script_state.proofs.state.State.obey.Goals as goal

pub returns-in-DeclareConst : goal.returns-in-DeclareConst
returns-in-DeclareConst c = obeys_declaration _ _ _ _ _ _ _ _ c.in-DeclareConst.is c.declare.ensures

pub returns-in-DeclareFun : goal.returns-in-DeclareFun
returns-in-DeclareFun c = obeys_function _ _ _ _ _ _ _ _ _ c.in-DeclareFun.is c.declare-in-DeclareFun.ensures

pub returns-in-DefineSort : goal.returns-in-DefineSort
returns-in-DefineSort c = obeys_sort _ _ _ _ _ _ _ _ _ c.in-DefineSort.is c.define_sort.ensures

pub returns-in-DefineFun : goal.returns-in-DefineFun
returns-in-DefineFun c = obeys_definition _ _ _ _ _ _ _ _ _ _ c.in-DefineFun.is c.define.ensures

pub returns-in-Assert : goal.returns-in-Assert
returns-in-Assert c = obeys_assertion _ _ _ _ _ _ _ c.in-Assert.is c.assert.ensures

pub returns-in-CheckSat : goal.returns-in-CheckSat
returns-in-CheckSat c = obeys_check _ _ _ _ _ _ c.in-CheckSat.is c.check.ensures

pub returns-in-SetInfo : goal.returns-in-SetInfo
returns-in-SetInfo c = obeys_info c.args.self.now _ _ (Ok Done) c.args.self.now _ _ _ c.in-SetInfo.is refl

pub returns-in-SetLogic : goal.returns-in-SetLogic
returns-in-SetLogic c = obeys_logic c.args.self.now _ _ (Ok c.set_logic.result) c.args.self.now _ _ c.in-SetLogic.is (c.set_logic.ensures c.args.self.now)

pub returns-in-SetOption : goal.returns-in-SetOption
returns-in-SetOption c = obeys_set_option _ _ _ _ _ _ _ _ c.in-SetOption.is c.set_option.ensures

pub returns-in-GetOption : goal.returns-in-GetOption
returns-in-GetOption c = obeys_get_option _ _ _ _ _ _ _ c.in-GetOption.is c.get_option.ensures

pub returns-in-GetInfo : goal.returns-in-GetInfo
returns-in-GetInfo c = obeys_get_info _ _ _ _ _ _ _ c.in-GetInfo.is c.get_info.ensures

pub returns-in-Echo : goal.returns-in-Echo
returns-in-Echo c = obeys_echo c.args.self.now _ _ _ c.args.self.now _ _ c.in-Echo.is (c.echo.ensures c.args.self.now)

pub returns-in-Push : goal.returns-in-Push
returns-in-Push c = obeys_push _ _ _ _ _ _ _ c.in-Push.is c.push.ensures

pub returns-in-Pop : goal.returns-in-Pop
returns-in-Pop c = obeys_pop c.args.self.now _ _ (Ok c.pop.result) c.pop.new.self _ _ c.in-Pop.is c.pop.ensures

pub returns-in-Reset : goal.returns-in-Reset
returns-in-Reset c = obeys_reset c.args.self.now _ _ (Ok c.reset.result) c.reset.new.self _ c.in-Reset.is (rw c.first.ensures at c.reset.ensures)

pub returns-in-ResetAssertions : goal.returns-in-ResetAssertions
returns-in-ResetAssertions c = obeys_reset_assertions c.args.self.now _ _ (Ok c.reset_assertions.result) c.reset_assertions.new.self _ c.in-ResetAssertions.is c.reset_assertions.ensures

pub returns-in-GetModel : goal.returns-in-GetModel
returns-in-GetModel c = obeys_get_model c.args.self.now _ _ (Ok c.get_model.result) c.args.self.now _ c.in-GetModel.is c.get_model.ensures

pub returns-in-GetAssertions : goal.returns-in-GetAssertions
returns-in-GetAssertions c = obeys_unsupported _ _ _ _ _ (c.say_unsupported.ensures c.args.self.now) _ c.in-GetAssertions.is

pub returns-in-GetUnsatCore : goal.returns-in-GetUnsatCore
returns-in-GetUnsatCore c = obeys_get_core c.args.self.now _ _ (Ok c.get_unsat_core.result) c.args.self.now _ c.in-GetUnsatCore.is c.get_unsat_core.ensures

pub returns-in-GetUnsatAssumptions : goal.returns-in-GetUnsatAssumptions
returns-in-GetUnsatAssumptions c = obeys_get_assumptions c.args.self.now _ _ (Ok c.get_unsat_assumptions.result) c.args.self.now _ c.in-GetUnsatAssumptions.is c.get_unsat_assumptions.ensures

pub returns-in-Exit : goal.returns-in-Exit
returns-in-Exit c = obeys_exit c.args.self.now _ _ (Ok Exit) c.args.self.now _ c.in-Exit.is refl

pub returns-in-CheckSatAssuming : goal.returns-in-CheckSatAssuming
returns-in-CheckSatAssuming c = obeys_check_assuming _ _ _ _ _ _ _ c.in-CheckSatAssuming.is c.check_assuming.ensures

pub returns-in-GetValue : goal.returns-in-GetValue
returns-in-GetValue c = obeys_get_value _ _ _ _ _ _ _ c.in-GetValue.is c.get_value.ensures

pub returns-in-NotSupported : goal.returns-in-NotSupported
returns-in-NotSupported c = λ es stand. obeys_other c.args.self.now c.args.tokens.now c.args.command.now _ c.in-NotSupported.is c.requires.known es
