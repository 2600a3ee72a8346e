-- The name of an assertion (SMT-LIB 2.6, sections 3.6 and 4.2.5): the first that the outermost annotation of its term gives.
use Rattle.std.specs.Prelude.{◌≡◌, ℕ, Bool, false, List, Option, Some, None, if◌then◌else◌}
use Rattle.std.specs.Borrow.{Bor}
use Rattle.smt_text.specs.declared.token.Token.{Token}
use Rattle.smt_text.specs.declared.token.TokenKind.TheVariants as kind
use Rattle.smt_syntax.specs.Sexps.{Sexp, Sexps, atom, group, none, more}
use Rattle.smt_build.specs.Binding.{is_label}

abbrev pub name_behind : Sexps → Option (List ℕ)
name_behind (more (atom k x) es) = Some x
name_behind _ = None

-- the first name among attributes
abbrev pub first_name : Sexps → Option (List ℕ)
first_name none = None
first_name (more (atom k x) es) = if is_label k x then name_behind es else first_name es
first_name (more (group xs) es) = first_name es

-- the name that a list gives
abbrev pub annotated_name : Sexps → Option (List ℕ)
annotated_name (more (atom kind.Bang l) (more t es)) = first_name es
annotated_name _ = None

abbrev pub parts_of : Sexp → Sexps
parts_of (atom k x) = none
parts_of (group es) = es

abbrev pub name_of_assertion : Sexp → Option (List ℕ)
name_of_assertion e = annotated_name (parts_of e)

-- ---- what the code answers

abbrev pub is_label_word : Option Token → Bool
is_label_word None = false
is_label_word (Some t) = is_label t.kind t.text.now

abbrev pub IsGroup : Sexp → Type 0
IsGroup (atom k x) = ⊥
IsGroup (group es) = Unit {0}

-- The answer is the word, or there is a list.
abbrev pub IsWordOf : Sexp → Option Token → Type 0
IsWordOf e (Some t) = e ≡ atom t.kind t.text.now
IsWordOf e None = IsGroup e

-- The answer is the name.
abbrev pub IsNameOf : Option (List ℕ) → Option (Bor (List ℕ)) → Type 0
IsNameOf name (Some x) = name ≡ Some x.now
IsNameOf name None = name ≡ None
