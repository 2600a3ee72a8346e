use Rattle.std.proofs.Common.{◌<◌, ◌∙◌, sym, ap, length, arith}
use Rattle.smt_eval.specs.Evaluated.{IsTyped, is_table, holds_array, held_value}
use Rattle.smt_eval.proofs.Evaluating.{all_map_at, any_map_at}
use Rattle.smt_eval.proofs.Stores.{read_is}
use Rattle.smt_eval.proofs.evaluate.gather.Goals as goal
use Rattle.cnf_base.proofs.Lists.{each_get_or}

pub scalar_of-requires : goal.scalar_of-requires
scalar_of-requires c =
    let lt : c.loop-term.term-index < length c.args.args.now = omega arith in
    let typed = all_map_at IsTyped (held_value c.args.values.now) c.args.args.now c.requires.typed c.loop-term.term-index 0 lt in
    let within = each_get_or (λ a. a < length c.args.values.now) c.args.args.now c.requires.within c.loop-term.term-index 0 lt in
    ap is_table (read_is c.args.values.now _ c.index-values-term.result within c.index-values-term.is) ∙ typed.plain

pub returns-in-None : goal.returns-in-None
returns-in-None c =
    let lt : c.loop-term.term-index < length c.args.args.now = omega arith in
    let within = each_get_or (λ a. a < length c.args.values.now) c.args.args.now c.requires.within c.loop-term.term-index 0 lt in
    any_map_at holds_array (held_value c.args.values.now) c.args.args.now c.loop-term.term-index 0 lt (ap holds_array (sym (read_is c.args.values.now _ c.index-values-term.result within c.index-values-term.is)) ∙ c.in-None.ensures)
