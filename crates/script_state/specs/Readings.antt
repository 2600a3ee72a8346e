-- What a chunk of a script reads as.
use Rattle.std.specs.Prelude.{◌≡◌, ◌≢◌, ◌⊎◌, ℕ, zero, suc, Bool, true, false, List, [], ◌∷◌, Result, Ok, Err}
use Rattle.smt_text.specs.Lexicon.{Lexeme}
use Rattle.smt_text.specs.Tokens.{AreTokens, IsBadAt}
use Rattle.smt_text.specs.declared.chunk.Chunk.{Chunk}
use Rattle.smt_text.specs.declared.chunk.ChunkKind.{ChunkKind}
use Rattle.smt_text.specs.declared.chunk.ChunkKind.TheVariants.{Balanced, Stray, Unfinished}
use Rattle.smt_syntax.specs.Sexps.{Sign, open_paren, close_paren, word, Sexps, group, signs_of, spelling}
use Rattle.script_state.specs.declared.error_text.ErrorText.{ErrorText}
use Rattle.script_state.specs.declared.error_text.ErrorText.TheVariants.{UnfinishedCommand, TextOutsideCommand, BadToken, MalformedCommand}

-- the S-expressions in the list of a command, and its tokens
pub record Spelled : Type 0 where
  pub list : Sexps
  pub tokens : List Lexeme

-- a command, or why there is none
abbrev pub Reading : Type 0
Reading = Result Spelled ErrorText

-- the tokens spell no list
abbrev pub SpellNoList : List Sign → Type 0
SpellNoList tokens = (es : Sexps) → tokens ≢ spelling (group es)

-- a text has a bad token, or its tokens spell no list
abbrev pub IsNoList : List ℕ → ErrorText → Type 0
IsNoList text e = ((e ≡ BadToken) × ((place : ℕ) × IsBadAt text place)) ⊎ ((e ≡ MalformedCommand) × ((ts : List Lexeme) × AreTokens text ts × SpellNoList (signs_of ts)))

-- Text reads as its tokens and the S-expressions in the list that they spell, or as the first of its faults: that it is no whole
-- command comes before a fault of its tokens.
abbrev pub ReadsBy : ChunkKind → List ℕ → Reading → Type 0
ReadsBy Unfinished text r = r ≡ Err UnfinishedCommand
ReadsBy Stray text r = r ≡ Err TextOutsideCommand
ReadsBy Balanced text (Ok c) = AreTokens text c.tokens × (signs_of c.tokens ≡ spelling (group c.list))
ReadsBy Balanced text (Err e) = IsNoList text e

-- what a chunk reads as
abbrev pub ReadsAs : Chunk → Reading → Type 0
ReadsAs chunk r = ReadsBy chunk.kind chunk.text r

-- ---- how it is seen

-- so many open parentheses close, the last one with the last token
unfoldable pub closes : ℕ → List Sign → Bool
closes zero [] = true
closes zero (l ∷ ls) = false
closes (suc n) [] = false
closes (suc n) (open_paren ∷ ls) = closes (suc (suc n)) ls
closes (suc n) (close_paren ∷ ls) = closes n ls
closes (suc n) (word k x ∷ ls) = closes (suc n) ls

-- the tokens are one list in parentheses
unfoldable pub is_list : List Sign → Bool
is_list [] = false
is_list (open_paren ∷ ls) = closes 1 ls
is_list (close_paren ∷ ls) = false
is_list (word k x ∷ ls) = false
