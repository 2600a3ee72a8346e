-- The text of tokens, as it is made token by token.
use Rattle.std.proofs.Common.{◌≡◌, ℕ, ◌+◌, ◌<◌, ◌≤◌, List, ◌++◌, length, get_or, drop, sym, ap, ◌∙◌, append-nil, append_assoc}
use Rattle.std.proofs.lemmas.List.{drop_more, drop_all}
use Rattle.smt_text.specs.Lexicon.{lexeme_of, lexemes_of}
use Rattle.smt_text.specs.Printing.{token_text}
use Rattle.smt_text.specs.declared.token.Token.{Token}
use Rattle.smt_text.specs.declared.token.TokenKind.{TokenKind}
use Rattle.script_state.specs.Written.{space_between, text_behind, tokens_text}

-- what is written of the tokens so far, and what is still to be
abbrev pub WrittenSoFar : List Token → ℕ → TokenKind → List ℕ → Type 0
WrittenSoFar tokens i before out = tokens_text (lexemes_of tokens) ≡ out ++ text_behind before (lexemes_of (drop i tokens))

pub written_more : (tokens : List Token) (i : ℕ) (before : TokenKind) (out mid new : List ℕ) (d : Token) → i < length tokens → WrittenSoFar tokens i before out → mid ≡ out ++ space_between before (get_or tokens i d).kind → new ≡ mid ++ token_text (lexeme_of (get_or tokens i d)) → WrittenSoFar tokens (i + 1) (get_or tokens i d).kind new
written_more tokens i before out mid new d lt so_far e f =
    let t = get_or tokens i d in
    let rest = text_behind t.kind (lexemes_of (drop (i + 1) tokens)) in
    so_far ∙ rw (drop_more tokens i d lt, f, e) (sym (append_assoc out (space_between before t.kind ++ token_text (lexeme_of t)) rest) ∙ ap (λ x. x ++ rest) (sym (append_assoc out (space_between before t.kind) (token_text (lexeme_of t)))))

pub written_all : (tokens : List Token) (i : ℕ) (before : TokenKind) (out : List ℕ) → length tokens ≤ i → WrittenSoFar tokens i before out → out ≡ tokens_text (lexemes_of tokens)
written_all tokens i before out le so_far = sym ((rw (drop_all i tokens le) at so_far) ∙ append-nil out)
