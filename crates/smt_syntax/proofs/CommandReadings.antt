-- What the tokens of a command show of its S-expression.
use Rattle.std.proofs.Common.{◌≡◌, ℕ, suc, ◌+◌, ◌-◌, ◌≤◌, Bool, true, false, List, [], ◌∷◌, ◌++◌, length, refl, ap, sym, ◌∙◌, subst, arith, length-append, Option, Some, None, Result, Ok, Err}
use Rattle.std.specs.Prelude.{nat_lt}
use Rattle.std.proofs.Math.Seq.{take-append_seam}
use Rattle.smt_text.specs.Lexicon.{Lexeme, lexemes_of}
use Rattle.smt_text.specs.declared.token.Token.{Token}
use Rattle.smt_text.specs.declared.token.TokenKind.{TokenKind}
use Rattle.smt_text.specs.declared.token.TokenKind.TheVariants as kind
use Rattle.smt_text.specs.declared.token.CommandName.{CommandName}
use Rattle.smt_syntax.specs.declared.span.Span.{Span}
use Rattle.smt_syntax.specs.declared.command.Command.{Command}
use Rattle.smt_syntax.specs.declared.command.SyntaxError.{SyntaxError}
use Rattle.smt_syntax.specs.declared.command.SyntaxFault.{SyntaxFault}
use Rattle.smt_syntax.specs.declared.command.SyntaxFault.TheVariants.{TooDeep, UnknownCommand, Malformed}
use Rattle.smt_syntax.specs.Sexps.{Sign, open_paren, close_paren, word, Sexp, Sexps, atom, group, none, more, spelling, spellings, sign_by, sign_in, signs_in, signs_of}
use Rattle.smt_syntax.specs.Depth.{depth, most_open, most_depth}
use Rattle.smt_syntax.specs.Spans.{span, tokens_at, IsWithin, AllStand}
use Rattle.smt_syntax.specs.Names.{first_name}
use Rattle.smt_syntax.specs.Commands.{is_not_supported, is_left_out, forms_of, fits_some, is_formed, named, formed, command_in, read, has_arity, name_of, spans_of, Reads}
use Rattle.smt_syntax.proofs.Depths.{most_open-all}
use Rattle.smt_syntax.proofs.Fittings.{rows-length}

-- ---- the name

-- the word behind the first parenthesis, and what follows it
abbrev name_in : Sexp → Option CommandName
name_in (group (more (atom k x) es)) = named k
name_in _ = None

abbrev arguments_in : Sexp → Sexps
arguments_in (group (more (atom k x) es)) = es
arguments_in _ = none

command_formed : (e : Sexp) → command_in e ≡ formed (name_in e) (arguments_in e)
command_formed (atom k x) = refl
command_formed (group none) = refl
command_formed (group (more (atom k x) es)) = refl
command_formed (group (more (group xs) es)) = refl

open_kind : (k : TokenKind) (x : List ℕ) → sign_by k x ≡ open_paren → k ≡ kind.Open
open_kind kind.Open x e = refl
open_kind kind.Close x e = cc
open_kind k x e = cc

word_kind : (j k : TokenKind) (x y : List ℕ) → sign_by j x ≡ word k y → j ≡ k
word_kind kind.Open k x y e = cc
word_kind kind.Close k x y e = cc
word_kind j k x y e = cc

-- a spelling is not empty
pub some_signs : (e : Sexp) → 1 ≤ length (spelling e)
some_signs (atom k x) = omega arith
some_signs (group es) = omega arith

pub first_name-spelling : (tokens : List Token) (e : Sexp) → signs_in tokens ≡ spelling e → first_name tokens ≡ name_in e
first_name-spelling [] (atom k x) s = cc
first_name-spelling [] (group es) s = cc
first_name-spelling (t ∷ []) (atom k x) s = refl
first_name-spelling (t ∷ []) (group es) s = absurd (let n = ap length s in omega (arith, n, length-append (spellings es) (close_paren ∷ [])))
first_name-spelling (t ∷ u ∷ []) (atom k x) s = refl
first_name-spelling (t ∷ u ∷ []) (group none) s = refl
first_name-spelling (t ∷ u ∷ []) (group (more e es)) s =
    absurd (let n = ap length s in omega (arith, n, length-append (spelling e ++ spellings es) (close_paren ∷ []), length-append (spelling e) (spellings es), some_signs e))
first_name-spelling (t ∷ u ∷ v ∷ ts) (atom k x) s = absurd (let n = ap length s in omega (arith, n))
first_name-spelling (t ∷ u ∷ v ∷ ts) (group none) s = absurd (let n = ap length s in omega (arith, n))
first_name-spelling (t ∷ u ∷ v ∷ ts) (group (more (atom k x) es)) s =
    let a : sign_in t ≡ open_paren = cc in
    let b : sign_in u ≡ word k x = cc in
    rw (open_kind t.kind t.text.now a, word_kind u.kind k u.text.now x b) refl
first_name-spelling (t ∷ u ∷ v ∷ ts) (group (more (group xs) es)) s =
    let a : sign_in t ≡ open_paren = cc in
    let b : sign_in u ≡ open_paren = cc in
    rw (open_kind t.kind t.text.now a, open_kind u.kind u.text.now b) refl

-- a command with this name, and its arguments
pub record IsNamed (e : Sexp) (name : CommandName) : Type 0 where
  pub kind : TokenKind
  pub text : List ℕ
  pub arguments : Sexps
  pub is : e ≡ group (more (atom kind text) arguments)
  pub reads : command_in e ≡ formed (Some name) arguments

is_named : (e : Sexp) (name : CommandName) → name_in e ≡ Some name → IsNamed e name
is_named (atom k x) name n = absurd (let z : ⊥ = cc in z)
is_named (group none) name n = absurd (let z : ⊥ = cc in z)
is_named (group (more (atom k x) es)) name n = record { kind = k; text = x; arguments = es; is = refl; reads = rw n refl }
is_named (group (more (group xs) es)) name n = absurd (let z : ⊥ = cc in z)

-- ---- the readings

module _ (tokens : List Token) (e : Sexp) (s : signs_in tokens ≡ spelling e) where
  pub too_deep : (b : Bool) → b ≡ nat_lt most_depth (most_open 0 (signs_in tokens)) → b ≡ true → read e ≡ Err TooDeep
  too_deep b d t =
      let deep : nat_lt most_depth (depth e) ≡ true = sym (rw (s, most_open-all e) at d) ∙ t in
      rw deep refl

  not_deep : (b : Bool) → b ≡ nat_lt most_depth (most_open 0 (signs_in tokens)) → b ≡ false → read e ≡ command_in e
  not_deep b d t =
      let deep : nat_lt most_depth (depth e) ≡ false = sym (rw (s, most_open-all e) at d) ∙ t in
      rw deep refl

  pub unknown : (b : Bool) → b ≡ nat_lt most_depth (most_open 0 (signs_in tokens)) → b ≡ false → first_name tokens ≡ None → read e ≡ Err UnknownCommand
  unknown b d t n =
      let no_name : name_in e ≡ None = sym (first_name-spelling tokens e s) ∙ n in
      not_deep b d t ∙ command_formed e ∙ rw no_name refl

-- what has no arity is not well formed
pub unbuilt : (tokens : List Sign) (name : CommandName) (ss : List Span) (es : Sexps) → AllStand tokens ss es → is_left_out name ≡ false → has_arity name ss ≡ false → true ≡ is_formed name es → ⊥
unbuilt tokens name ss es a l h f =
    let some : fits_some (forms_of name) es ≡ true = sym (rw l at f) in
    let long : has_arity name ss ≡ true = rows-length tokens (forms_of name) ss es a some in
    let k : true ≡ false = sym long ∙ h in
    cc

-- ---- the answers behind the name

formed_not : (name : CommandName) (es : Sexps) (f : Bool) → f ≡ is_formed name es → f ≡ false → formed (Some name) es ≡ Err Malformed
formed_not name es f g h = rw (← g, h) refl

formed_well : (name : CommandName) (es : Sexps) (f : Bool) → f ≡ is_formed name es → f ≡ true → formed (Some name) es ≡ Ok (name, es)
formed_well name es f g h = rw (← g, h) refl

named_so : (name other : CommandName) (es : Sexps) → other ≡ name → ◌≡◌ {A = Result (CommandName × Sexps) SyntaxFault} (Ok (name, es)) (Ok (other, es))
named_so name other es e = rw e refl

module _ (tokens : List Token) (name : CommandName) (ss found : List Span) (deep f : Bool)
    (d : deep ≡ nat_lt most_depth (most_open 0 (signs_in tokens))) (not : deep ≡ false) (n : first_name tokens ≡ Some name)
    (a : (k : TokenKind) (x : List ℕ) (es : Sexps) → signs_in tokens ≡ spelling (group (more (atom k x) es)) → AllStand (signs_in tokens) ss es)
    (same : found ≡ ss) (g : (es : Sexps) → AllStand (signs_in tokens) found es → f ≡ is_formed name es)
    (e : Sexp) (s : signs_in tokens ≡ spelling e) where
  abbrev known : IsNamed e name
  known = is_named e name (sym (first_name-spelling tokens e s) ∙ n)

  stand : AllStand (signs_in tokens) ss known.arguments
  stand = a known.kind known.text known.arguments (s ∙ ap spelling known.is)

  formed_is : f ≡ is_formed name known.arguments
  formed_is = g known.arguments (subst (λ (x : List Span). AllStand (signs_in tokens) x known.arguments) (sym same) stand)

  reads : read e ≡ formed (Some name) known.arguments
  reads = not_deep tokens e s deep d not ∙ known.reads

  pub malformed : f ≡ false → read e ≡ Err Malformed
  malformed h = reads ∙ formed_not name known.arguments f formed_is h

  -- the command that is built has the name and the spans
  pub shown : f ≡ true → (c : Command) → (name_of c ≡ name) × (is_left_out name ≡ false → spans_of c ≡ ss) × (is_not_supported c ≡ is_left_out name) → (es : Sexps) × (read e ≡ Ok (name_of c, es)) × (is_left_out (name_of c) ≡ false → AllStand (signs_in tokens) (spans_of c) es) × (is_not_supported c ≡ is_left_out (name_of c))
  shown h c b = (
    known.arguments,
    reads ∙ formed_well name known.arguments f formed_is h ∙ named_so name (name_of c) known.arguments b.0,
    λ l. subst (λ (x : List Span). AllStand (signs_in tokens) x known.arguments) (sym (b.1 (sym (ap is_left_out b.0) ∙ l))) stand,
    b.2 ∙ sym (ap is_left_out b.0),
  )

  -- a command that is well formed is built
  pub built : f ≡ true → (is_left_out name ≡ false) × (has_arity name ss ≡ false) → ⊥
  built h b = unbuilt (signs_in tokens) name ss known.arguments stand b.0 b.1 (sym h ∙ formed_is)

-- the arguments stand behind the name
pub inside : (tokens : List Sign) (k : TokenKind) (x : List ℕ) (es : Sexps) → tokens ≡ spelling (group (more (atom k x) es)) → IsWithin tokens (span 2 (length tokens - 1)) × (tokens_at tokens (span 2 (length tokens - 1)) ≡ spellings es)
inside tokens k x es s =
    let long : length tokens ≡ length (spellings es) + 3 = rw s (omega (arith, length-append (spellings es) (close_paren ∷ []))) in
    let size : length tokens - 1 - 2 ≡ length (spellings es) = omega (arith, long) in
    (record { ordered = omega (arith, long); ends = omega (arith, long) }, rw (size, s) (take-append_seam (spellings es) (close_paren ∷ [])))

-- the signs of tokens are those of their lexemes
pub signs_same : (ts : List Token) → signs_of (lexemes_of ts) ≡ signs_in ts
signs_same [] = refl
signs_same (t ∷ ts) = ap (λ (ls : List Sign). sign_in t ∷ ls) (signs_same ts)

pub length-signs : (ts : List Token) → length (signs_in ts) ≡ length ts
length-signs [] = refl
length-signs (t ∷ ts) = ap suc (length-signs ts)

pub inside_at : (ts : List Token) (end : ℕ) (k : TokenKind) (x : List ℕ) (es : Sexps) → end ≡ length ts - 1 → signs_in ts ≡ spelling (group (more (atom k x) es)) → IsWithin (signs_in ts) (span 2 end) × (tokens_at (signs_in ts) (span 2 end) ≡ spellings es)
inside_at ts end k x es e s = rw (e, ← length-signs ts) (inside (signs_in ts) k x es s)

pub same_reading : (ls : List Lexeme) (ts : List Token) (e : Sexp) (r : Result Command SyntaxError) → lexemes_of ts ≡ ls → signs_of ls ≡ spelling e → (signs_in ts ≡ spelling e → Reads (signs_in ts) (read e) r) → Reads (signs_of ls) (read e) r
same_reading ls ts e r l s h =
    let same : signs_of ls ≡ signs_in ts = sym (ap signs_of l) ∙ signs_same ts in
    rw same (h (sym same ∙ s))
