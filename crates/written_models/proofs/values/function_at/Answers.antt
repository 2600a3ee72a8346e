use Rattle.std.proofs.Common.{◌≡◌, ◌∙◌, ap, Some}
use Rattle.std.specs.Option.{option_copied}
use Rattle.smt_values.specs.declared.value.Value.TheVariants as held
use Rattle.written_models.proofs.Reading.{table_reading}
use Rattle.written_models.proofs.values.function_at.Goals as goal

pub returns-in-Fun : goal.returns-in-Fun
returns-in-Fun c =
    let set : option_copied c.args.value ≡ Some (held.Fun c.in-Fun.table) = ap option_copied c.in-Some.is ∙ ap Some c.in-Fun.is in
    table_reading c.args.signature.now (option_copied c.args.value) c.in-Fun.table c.table_at.result c.requires.declarable set c.table_at.ensures.table c.table_at.ensures.values
