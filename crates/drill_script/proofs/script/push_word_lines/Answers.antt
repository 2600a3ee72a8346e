use Rattle.std.proofs.lemmas.Result.{on_ok_weaker}
use Rattle.drill_script.proofs.Steps.{six_parts}
use Rattle.drill_script.proofs.script.push_word_lines.Goals as goal

pub returns : goal.returns
returns c =
    on_ok_weaker c.push_around-3.result
    (six_parts c.args.out.now _ _ _ _ _ _ c.push_around.new.out c.push_around-2.new.out c.push_hexadecimal.new.out c.push_slice.new.self c.push_hexadecimal-2.new.out c.push_around-3.new.out c.in_ok-push_around.ensures c.in_ok-push_around-2.ensures c.in_ok-push_hexadecimal.ensures c.in_ok-push_slice.ensures.ok c.in_ok-push_hexadecimal-2.ensures)
    c.push_around-3.ensures
