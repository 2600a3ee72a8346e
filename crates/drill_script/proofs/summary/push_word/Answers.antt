use Rattle.std.proofs.lemmas.Result.{on_ok_weaker}
use Rattle.drill_script.proofs.Steps.{three_parts}
use Rattle.drill_script.proofs.summary.push_word.Goals as goal

pub returns : goal.returns
returns c = on_ok_weaker c.push_slice-2.result (three_parts c.args.out.now _ _ _ c.push_slice.new.self c.push_hexadecimal.new.out c.push_slice-2.new.self c.in_ok-push_slice.ensures.ok c.in_ok-push_hexadecimal.ensures) c.push_slice-2.ensures.ok
