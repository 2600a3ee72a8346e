use Rattle.std.proofs.Common.{◌≡◌, Some}
use Rattle.smt_values.specs.declared.value.Value.TheVariants as held
use Rattle.smt_values.specs.Held.{set_for}
use Rattle.smt_values.proofs.TableReading.{function_read, plain_unless}
use Rattle.smt_values.proofs.interp.Interp.get.Goals as goal

pub returns-in_ok-read-in-Some-Fun-clause-function : goal.returns-in_ok-read-in-Some-Fun-clause-function
returns-in_ok-read-in-Some-Fun-clause-function c ne vs =
    let g : Some (held.Fun c.in-Some-Fun.table) ≡ set_for c.args.self.now c.args.declaration = cc (c.in-Some-Fun.ensures, c.in-Some-Fun.is, c.in-Some-Fun.field-0-is, c.in-Some-Fun.table-is) in
    function_read c.args.signature.now.value c.in-Some-Fun.table c.in_ok-read-in-Some-Fun.field-0 _ vs (plain_unless c.requires.plain ne) c.in_ok-read-in-Some-Fun.ensures g
