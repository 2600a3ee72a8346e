use Rattle.std.proofs.lemmas.Result.{on_ok_weaker}
use Rattle.drill_script.proofs.Steps.{three_parts}
use Rattle.drill_script.proofs.script.push_successor_lines.Goals as goal

pub returns : goal.returns
returns c = on_ok_weaker c.push_slice.result (three_parts c.args.out.now _ _ _ c.push_around.new.out c.push_hexadecimal.new.out c.push_slice.new.self c.in_ok-push_around.ensures c.in_ok-push_hexadecimal.ensures) c.push_slice.ensures.ok
