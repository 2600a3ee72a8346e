use Rattle.std.proofs.Common.{◌≡◌, ◌∙◌, sym, subst, arith}
use Rattle.std.specs.Prelude.{Option, codes, unwrap_or}
use Rattle.std.specs.Str.Parse.{ParsesUnsigned, ExplainsUnsignedError, HasUnsignedDigitsIfOk}
use Rattle.clap.specs.Walk.{Text}
use Rattle.clap.specs.Matches.{found_of, one_text}
use Rattle.clap.proofs.WalkLemmas.{one_text-rows}
use Rattle.tool_words.specs.Words.{number_or, IsWithin}
use Rattle.tool_words.proofs.WordsTaken.{number_read}
use Rattle.tool_words.proofs.command_line.seed_of.Goals as goal

pub returns : goal.returns
returns c =
    let f = found_of c.args.found.now in
    let id = codes "SEED" in
    let read = number_read (λ bs r. ParsesUnsigned 64 10 bs r × ExplainsUnsignedError 10 bs r × HasUnsignedDigitsIfOk bs r) 64 18446744073709551615 0 (one_text f id) c.get_one.result (omega arith) c.get_one.ensures.none c.get_one.ensures.value (λ x r g. g.0)
    (subst (IsWithin 0 18446744073709551615) (sym (one_text-rows f id)) c.requires) in
    c.unwrap_or.ensures ∙ subst (λ (t : Option Text). unwrap_or c.get_one.result 0 ≡ number_or 0 t) (one_text-rows f id) read
