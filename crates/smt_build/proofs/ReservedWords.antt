-- A name that is looked up is among the names.
use Rattle.std.proofs.Common.{◌≡◌, ℕ, Bool, true, false, List, [], ◌∷◌, map, refl, Option, Some}
use Rattle.std.specs.Prelude.{◌||◌, is_some, if◌then◌else◌}
use Rattle.std.specs.List.{list_any}
use Rattle.std.specs.Str.{bytes_eq}
use Rattle.smt_text.specs.declared.token.TokenKind.{TokenKind}
use Rattle.smt_text.specs.Lexicon.{look_up, reserved_kind, reserved_words}

found : (b : Bool) (k : TokenKind) (o : Option TokenKind) (rest : Bool) → is_some o ≡ rest → is_some (if b then Some k else o) ≡ (b || rest)
found true k o rest e = refl
found false k o rest e = e

pub is_some-look_up : (entries : List (List ℕ × TokenKind)) (word : List ℕ) → is_some (look_up entries word) ≡ list_any (bytes_eq word) (map (λ e. e.0) entries)
is_some-look_up [] word = refl
is_some-look_up (entry ∷ entries) word = found (bytes_eq word entry.0) entry.1 (look_up entries word) _ (is_some-look_up entries word)

pub is_some-reserved_kind : (word : List ℕ) → is_some (reserved_kind word) ≡ list_any (bytes_eq word) (map (λ e. e.0) reserved_words)
unfolding reserved_kind
is_some-reserved_kind word = is_some-look_up reserved_words word
