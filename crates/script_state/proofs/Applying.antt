-- What a whole command does, by what it reads as.
use Rattle.std.proofs.Common.{◌≡◌, ℕ, true, false, List, refl, sym, ap, subst, inl, inr, Result, Ok, Err}
use Rattle.smt_text.specs.Lexicon.{Lexeme}
use Rattle.smt_text.specs.Tokens.{AreTokens, IsBadAt}
use Rattle.smt_text.specs.declared.chunk.Chunk.{Chunk}
use Rattle.smt_text.specs.declared.chunk.ChunkKind.{ChunkKind}
use Rattle.smt_text.specs.declared.chunk.ChunkKind.TheVariants.{Balanced, Stray, Unfinished}
use Rattle.smt_text.specs.declared.token.CommandName.{CommandName}
use Rattle.smt_syntax.specs.declared.command.Command.{Command}
use Rattle.smt_syntax.specs.declared.command.SyntaxFault.{SyntaxFault}
use Rattle.smt_syntax.specs.Sexps.{Sexps, group, signs_of, spelling}
use Rattle.smt_syntax.specs.Commands.{read, name_of}
use Rattle.script_state.specs.declared.answer.Answer.{Answer}
use Rattle.script_state.specs.declared.answer.Answer.TheVariants.{Refused}
use Rattle.script_state.specs.declared.error_text.ErrorText.{ErrorText}
use Rattle.script_state.specs.declared.error_text.ErrorText.TheVariants.{UnfinishedCommand, TextOutsideCommand, BadToken, MalformedCommand}
use Rattle.std.specs.declared.alloc.AllocError.{AllocError}
use Rattle.script_state.specs.ErrorTexts.{syntax_error}
use Rattle.script_state.specs.Readings.{is_list, Spelled, Reading, ReadsBy, ReadsAs}
use Rattle.script_state.specs.States.{StateValue}
use Rattle.script_state.specs.Steps.{Step, obey, obey_read, refuse, Answers, Applies}
use Rattle.script_state.proofs.Lists.{spells_list, spells_no_list}

module _ (chunk : Chunk) (s : StateValue) where
  -- what a chunk of another kind, that is no whole command, reads as
  reads_as : (r : Reading) (k : ChunkKind) → chunk.kind ≡ k → ReadsBy k chunk.text r → ReadsAs chunk r
  reads_as r k e h = subst (λ k. ReadsBy k chunk.text r) (sym e) h

  pub applies_stray : chunk.kind ≡ Stray → Applies chunk (Ok (Refused TextOutsideCommand)) s s
  applies_stray e = (Err TextOutsideCommand, reads_as (Err TextOutsideCommand) Stray e refl, refl)

  pub applies_unfinished : chunk.kind ≡ Unfinished → Applies chunk (Ok (Refused UnfinishedCommand)) s s
  applies_unfinished e = (Err UnfinishedCommand, reads_as (Err UnfinishedCommand) Unfinished e refl, refl)

  module _ (balanced : chunk.kind ≡ Balanced) where
    pub applies_bad : (place : ℕ) → IsBadAt chunk.text place → Applies chunk (Ok (Refused BadToken)) s s
    applies_bad place bad = (Err BadToken, reads_as (Err BadToken) Balanced balanced (inl (refl, (place, bad))), refl)

    module _ (ts : List Lexeme) (are : AreTokens chunk.text ts) where
      pub applies_no_list : is_list (signs_of ts) ≡ false → Applies chunk (Ok (Refused MalformedCommand)) s s
      applies_no_list other = (Err MalformedCommand, reads_as (Err MalformedCommand) Balanced balanced (inr (refl, (ts, are, spells_no_list (signs_of ts) other))), refl)

      module _ (listed : is_list (signs_of ts) ≡ true) where
        abbrev pub the_list : (es : Sexps) × (signs_of ts ≡ spelling (group es))
        the_list = spells_list (signs_of ts) listed

        abbrev the_chunk : Spelled
        the_chunk = record { list = the_list.0; tokens = ts }

        reads : ReadsAs chunk (Ok the_chunk)
        reads = reads_as (Ok the_chunk) Balanced balanced (are, the_list.1)

        pub applies_fault : (f : SyntaxFault) (told : ErrorText) → told ≡ syntax_error f → read (group the_list.0) ≡ Err f → Applies chunk (Ok (Refused told)) s s
        applies_fault f told t e =
            let P : Result (CommandName × Sexps) SyntaxFault → Type 0 = λ r. ◌≡◌ {A = Step} (obey_read s ts r) (refuse s told) in
            (Ok the_chunk, reads, subst P (sym e) (ap (λ q. refuse s q) (sym t)))

        pub applies_command : (k : Command) (args : Sexps) (result : Result Answer AllocError) (new : StateValue) → read (group the_list.0) ≡ Ok (name_of k, args) → Answers (obey s ts (name_of k) args) result s new → Applies chunk result s new
        applies_command k args (Ok a) new e answers =
            let P : Result (CommandName × Sexps) SyntaxFault → Type 0 = λ r. ◌≡◌ {A = Step} (obey_read s ts r) (a, new) in
            (Ok the_chunk, reads, subst P (sym e) answers)
        applies_command k args (Err f) new e answers = answers
