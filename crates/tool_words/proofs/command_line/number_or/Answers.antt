use Rattle.std.proofs.Common.{◌≡◌, ◌∙◌, sym, subst, arith}
use Rattle.std.specs.Prelude.{Option, unwrap_or}
use Rattle.std.specs.Str.Parse.{ParsesUnsigned, ExplainsUnsignedError, HasUnsignedDigitsIfOk}
use Rattle.clap.specs.Walk.{Text}
use Rattle.clap.specs.Matches.{found_of, one_text}
use Rattle.clap.proofs.WalkLemmas.{one_text-rows}
use Rattle.tool_words.specs.Words.{number_or, IsWithin}
use Rattle.tool_words.proofs.WordsTaken.{number_read}
use Rattle.tool_words.proofs.command_line.number_or.Goals as goal

pub returns : goal.returns
returns c =
    let f = found_of c.args.found.now in
    let id = c.args.option.now in
    let read = number_read (λ bs r. ParsesUnsigned 32 10 bs r × ExplainsUnsignedError 10 bs r × HasUnsignedDigitsIfOk bs r) 32 4294967295 c.args.usual (one_text f id) c.get_one.result (omega arith) c.get_one.ensures.none c.get_one.ensures.value (λ x r g. g.0)
    (subst (IsWithin 0 4294967295) (sym (one_text-rows f id)) c.requires) in
    c.unwrap_or.ensures ∙ subst (λ (t : Option Text). unwrap_or c.get_one.result c.args.usual ≡ number_or c.args.usual t) (one_text-rows f id) read
