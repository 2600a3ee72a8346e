-- The loop that reads a part, a step a token.
use Rattle.std.proofs.Common.{◌≡◌, ℕ, ◌+◌, ◌<◌, ◌≤◌, Bool, false, List, [], ◌∷◌, ◌++◌, map, length, get_or, drop, refl, ap, sym, subst, ◌∙◌, Option, Result, Ok, Err}
use Rattle.std.proofs.lemmas.List.{drop_more, drop_all, map-append, reverse-append}
use Rattle.smt_text.specs.declared.token.Token.{Token}
use Rattle.smt_text.specs.declared.token.TokenKind.{TokenKind}
use Rattle.smt_text.specs.declared.token.TokenKind.TheVariants as kind
use Rattle.smt_syntax.specs.Sexps.{Sign, open_paren, close_paren, word, sign_by, sign_in, signs_in, Sexp, spelling}
use Rattle.smt_syntax.specs.Walk.{Reader, ◌>>=◌, run, context_in}
use Rattle.smt_syntax.proofs.Walks.{bind_assoc, bind_same, given, run-all}
use Rattle.smt_terms.specs.Terms.{TermsValue}
use Rattle.smt_build.specs.declared.fault.BuildFault.{BuildFault}
use Rattle.smt_build.specs.declared.fault.BuildFault.TheVariants.{NotSupported}
use Rattle.smt_build.specs.declared.fault.BuildError.{BuildError}
use Rattle.smt_build.specs.declared.fault.BuildError.TheVariants.{NoMemory, Fault}
use Rattle.smt_build.specs.declared.reader.Want.{Want}
use Rattle.smt_build.specs.declared.reader.Want.TheVariants as want
use Rattle.smt_build.specs.declared.reader.Open.{Open as OpenList}
use Rattle.smt_build.specs.declared.reader.Part.{Part as ReadPart}
use Rattle.smt_build.specs.declared.reader.Part.TheVariants as parts
use Rattle.smt_build.specs.declared.scope.Scope.{Scope}
use Rattle.smt_build.specs.Names.{SymbolsValue, no_symbols}
use Rattle.smt_build.specs.Building.{Builds}
use Rattle.smt_build.specs.Binding.{Progress, Read}
use Rattle.smt_build.specs.Terms.{term_in, term_alone}
use Rattle.smt_build.specs.TermReader.{Part, term, passed, Open, State, progress, after as later, as_part, term_reader, takes, closes, at_word}
use Rattle.smt_build.specs.Steps.{Step, ends, goes, handed, step, Steps}
use Rattle.smt_build.specs.Views.{part_of, open_of, stack_of, state_of, scope_over, Does, Takes, ReadsTerm, Names}
use Rattle.smt_build.proofs.TermWalks.{walk-term}

-- ---- a step is what the machine does with a token

module _ {C F V S E : Type 0} (reader : Reader C F V S E) where
  -- what a step leaves for the rest
  abbrev pub after : C → List Sign → Step F V S → Result (V × S) E
  after c rest (ends v) = Ok v
  after c rest (goes st s) = run reader c st s rest

  after_handed : (c : C) (st : List F) (v : V × S) (rest : List Sign) → handed reader st v >>= after c rest ≡ given reader c st v rest
  after_handed c [] v rest = refl
  after_handed c (f ∷ fs) v rest = bind_assoc (reader.takes f v.0 v.1) _ _

  pub run-step : (c : C) (st : List F) (s : S) (l : Sign) (rest : List Sign) → run reader c st s (l ∷ rest) ≡ step reader c st s l >>= after c rest
  unfolding run step
  run-step c st s open_paren rest = sym (bind_assoc (reader.opens (context_in reader c st) s) _ _)
  run-step c [] s close_paren rest = refl
  run-step c (f ∷ fs) s close_paren rest = bind_same (reader.closes f s) _ _ (λ v. sym (after_handed c fs v rest)) ∙ sym (bind_assoc (reader.closes f s) _ _)
  run-step c st s (word k x) rest = bind_same (reader.at_word (context_in reader c st) s k x) _ _ (λ v. sym (after_handed c st v rest)) ∙ sym (bind_assoc (reader.at_word (context_in reader c st) s k x) _ _)

-- ---- the lists that are open

pub stack-push : (lists : List OpenList) (f : OpenList) → stack_of (lists ++ f ∷ []) ≡ open_of f ∷ stack_of lists
stack-push lists f = rw (map-append open_of lists (f ∷ []), reverse-append (map open_of lists) (open_of f ∷ [])) refl

-- a part that is handed to no list
pub hand_none : (old : List OpenList) (p : ReadPart) (s : State) (symbols : SymbolsValue) (may_name : Bool) → old ≡ [] → handed (term_reader symbols may_name) (stack_of old) (part_of p, s) ≡ Ok (ends (part_of p, s))
hand_none old p s symbols may_name e = rw e refl

module _ (symbols : SymbolsValue) (may_name : Bool) (a b : Scope) (old rest : List OpenList) (f : OpenList) (p : ReadPart) (e : old ≡ rest ++ f ∷ []) where
  pub hand_error : (x : BuildError) (s : TermsValue) (st : List Open) → Takes (takes (open_of f) (part_of p)) (Err x) a b → Steps (handed (term_reader symbols may_name) (stack_of old) (part_of p, state_of s a)) (Err x) st (state_of s b)
  hand_error NoMemory s st t = tt
  hand_error (Fault y) s st t = rw (e, stack-push rest f, t s) refl

  pub hand_list : (new : List OpenList) (g : OpenList) (s : TermsValue) → Takes (takes (open_of f) (part_of p)) (Ok g) a b → new ≡ rest ++ g ∷ [] → handed (term_reader symbols may_name) (stack_of old) (part_of p, state_of s a) ≡ Ok (goes (stack_of new) (state_of s b))
  hand_list new g s t n = rw (e, n, stack-push rest f, stack-push rest g, t s) refl

-- ---- a token

module _ (symbols : SymbolsValue) (may_name : Bool) (s t u : State) (new : List Open) (old rest : List OpenList) (f : OpenList) (e : old ≡ rest ++ f ∷ []) where
  pub step_closes : (p : ReadPart) (r : Result (Option ReadPart) BuildError) → Does (closes symbols (open_of f) s) (Ok p) t → Steps (handed (term_reader no_symbols false) (stack_of rest) (part_of p, t)) r new u → Steps (step (term_reader symbols may_name) want.Term (stack_of old) s close_paren) r new u
  unfolding step
  step_closes p r d h = rw (e, stack-push rest f, d) h

  pub close_fails : (x : BuildError) → Does (closes symbols (open_of f) s) (Err x) t → Steps (step (term_reader symbols may_name) want.Term (stack_of old) s close_paren) (Err x) new u
  unfolding step
  close_fails NoMemory d = tt
  close_fails (Fault y) d = rw (e, stack-push rest f, d) refl

-- a token that is no parenthesis
word_sign : (k : TokenKind) (x : List ℕ) → (k ≡ kind.Open → ⊥) → (k ≡ kind.Close → ⊥) → sign_by k x ≡ word k x
word_sign kind.Open x n m = absurd (n refl)
word_sign kind.Close x n m = absurd (m refl)
word_sign _ x n m = refl

module _ (symbols : SymbolsValue) (may_name : Bool) (s t u : State) (new : List Open) (st : List Open) (w : Want) (k : TokenKind) (x : List ℕ) (n : k ≡ kind.Open → ⊥) (m : k ≡ kind.Close → ⊥) (e : w ≡ context_in (term_reader no_symbols false) want.Term st) where
  pub step_words : (p : ReadPart) (r : Result (Option ReadPart) BuildError) → Does (at_word symbols may_name w s k x) (Ok p) t → Steps (handed (term_reader no_symbols false) st (part_of p, t)) r new u → Steps (step (term_reader symbols may_name) want.Term st s (sign_by k x)) r new u
  unfolding step
  step_words p r d h = rw (word_sign k x n m) (let f : at_word symbols may_name (context_in (term_reader no_symbols false) want.Term st) s k x ≡ Ok (part_of p, t) = rw (← e) d in rw f h)

  pub word_fails : (y : BuildError) → Does (at_word symbols may_name w s k x) (Err y) t → Steps (step (term_reader symbols may_name) want.Term st s (sign_by k x)) (Err y) new u
  unfolding step
  word_fails NoMemory d = tt
  word_fails (Fault y) d = rw (word_sign k x n m) (let f : at_word symbols may_name (context_in (term_reader no_symbols false) want.Term st) s k x ≡ Err y = rw (← e) d in rw f refl)

-- ---- the loop

-- behind these tokens, with these lists open, the rest gives what all of the tokens give
pub record Reads (symbols : SymbolsValue) (may_name : Bool) (old : State) (tokens : List Token) (i : ℕ) (lists : List OpenList) (now : State) : Type 0 where
  pub same : run (term_reader symbols may_name) want.Term [] old (signs_in tokens) ≡ run (term_reader symbols may_name) want.Term (stack_of lists) now (signs_in (drop i tokens))

module _ (symbols : SymbolsValue) (may_name : Bool) (old : State) (tokens : List Token) (i : ℕ) (lists : List OpenList) (now : State) (d : Token) (h : i < length tokens) (r : Reads symbols may_name old tokens i lists now) where
  stepped : run (term_reader symbols may_name) want.Term [] old (signs_in tokens) ≡ step (term_reader symbols may_name) want.Term (stack_of lists) now (sign_in (get_or tokens i d)) >>= after (term_reader symbols may_name) want.Term (signs_in (drop (i + 1) tokens))
  stepped = r.same ∙ rw (drop_more tokens i d h) (run-step (term_reader symbols may_name) want.Term (stack_of lists) now (sign_in (get_or tokens i d)) (signs_in (drop (i + 1) tokens)))

  pub step_more : (new : List OpenList) (then : State) → step (term_reader symbols may_name) want.Term (stack_of lists) now (sign_in (get_or tokens i d)) ≡ Ok (goes (stack_of new) then) → Reads symbols may_name old tokens (i + 1) new then
  step_more new then s = record { same = stepped ∙ rw s refl }

  pub step_ends : (p : ReadPart) (then : State) → step (term_reader symbols may_name) want.Term (stack_of lists) now (sign_in (get_or tokens i d)) ≡ Ok (ends (part_of p, then)) → run (term_reader symbols may_name) want.Term [] old (signs_in tokens) ≡ Ok (part_of p, then)
  step_ends p then s = stepped ∙ rw s refl

  pub step_fails : (x : BuildError) (then : State) (st : List Open) → Steps (step (term_reader symbols may_name) want.Term (stack_of lists) now (sign_in (get_or tokens i d))) (Err x) st then → Does (run (term_reader symbols may_name) want.Term [] old (signs_in tokens)) (Err x) then
  step_fails NoMemory then st s = tt
  step_fails (Fault f) then st s = stepped ∙ rw s refl

pub reads_out : (symbols : SymbolsValue) (may_name : Bool) (old : State) (tokens : List Token) (i : ℕ) (lists : List OpenList) (now : State) → length tokens ≤ i → Reads symbols may_name old tokens i lists now → run (term_reader symbols may_name) want.Term [] old (signs_in tokens) ≡ Err NotSupported
unfolding run
reads_out symbols may_name old tokens i lists now h r = r.same ∙ rw (drop_all i tokens h) refl

-- ---- what the walk of a term gives, the meaning of the term gives

from_term : (s : State) (b : Read) (t : ℕ) (now : State) → as_part s b ≡ Ok (term t, now) → b ≡ Ok (t, progress now)
from_term s (Ok r) t now k =
    let p : ◌≡◌ {A = Part × State} (term r.0, later s r.1) (term t, now) = cc in
    let a : ◌≡◌ {A = Part} (term r.0) (term t) = ap (λ q. q.0) p in
    let b : later s r.1 ≡ now = ap (λ q. q.1) p in
    let c : r.0 ≡ t = cc in
    (λ i. Ok (c i, progress (b i)))
from_term s (Err f) t now k = cc

from_fault : (s : State) (b : Read) (f : BuildFault) → as_part s b ≡ Err f → b ≡ Err f
from_fault s (Ok r) f k = cc
from_fault s (Err g) f k = let p : g ≡ f = cc in ap Err p

not_part : (s : State) (b : Read) (q : ReadPart) (now : State) → as_part s b ≡ Ok (part_of q, now) → ((t : ℕ) → q ≡ parts.Term t → ⊥) → ⊥
not_part s (Err f) q now k n = cc
not_part s (Ok r) q now k n = other q (ap (λ q. q.0) (let p : ◌≡◌ {A = Part × State} (term r.0, later s r.1) (part_of q, now) = cc in p)) n where
  other : (q : ReadPart) → term r.0 ≡ part_of q → ((t : ℕ) → q ≡ parts.Term t → ⊥) → ⊥
  other (parts.Term t) e n = n t refl
  other (parts.Head f) e n = cc
  other parts.Mark e n = cc
  other (parts.Name f) e n = cc
  other (parts.Index i) e n = cc
  other parts.Let e n = cc
  other (parts.Binding x t) e n = cc
  other (parts.Bindings i) e n = cc
  other parts.Bang e n = cc
  other parts.Label e n = cc
  other parts.Passed e n = cc
  other parts.As e n = cc
  other parts.Const e n = cc
  other (parts.Sort p) e n = cc

module _ (symbols : SymbolsValue) (may_name : Bool) (old : TermsValue) (scope : Scope) (none : scope ≡ scope_over scope.parameters) (tokens : List Token) (e : Sexp) (l : signs_in tokens ≡ spelling e) where
  abbrev start : State
  start = state_of old (scope_over scope.parameters)

  walked : (to : Result (Part × State) BuildFault) → run (term_reader symbols may_name) want.Term [] (state_of old scope) (signs_in tokens) ≡ to → as_part start (term_in symbols may_name [] (progress start) e) ≡ to
  walked to k = sym (run-all (term_reader symbols may_name) want.Term start e ∙ walk-term symbols may_name [] [] (progress start) e) ∙ rw (← l) (subst (λ (s : Scope). run (term_reader symbols may_name) want.Term [] (state_of old s) (signs_in tokens) ≡ to) none k)

  pub means_term : (t : ℕ) (now : TermsValue) (then : Scope) → Does (run (term_reader symbols may_name) want.Term [] (state_of old scope) (signs_in tokens)) (Ok (parts.Term t)) (state_of now then) → term_in symbols may_name [] (progress start) e ≡ Ok (t, progress (state_of now then))
  means_term t now then g = from_term start (term_in symbols may_name [] (progress start) e) t (state_of now then) (walked _ g)

  pub means_error : (x : BuildError) (now : State) (p : Progress) → Does (run (term_reader symbols may_name) want.Term [] (state_of old scope) (signs_in tokens)) (Err x) now → ReadsTerm (term_in symbols may_name [] (progress start) e) (Err x) p
  means_error NoMemory now p g = tt
  means_error (Fault f) now p g = from_fault start (term_in symbols may_name [] (progress start) e) f (walked _ g)

  pub means_other : (q : ReadPart) (now : State) → Does (run (term_reader symbols may_name) want.Term [] (state_of old scope) (signs_in tokens)) (Ok q) now → ((t : ℕ) → q ≡ parts.Term t → ⊥) → ⊥
  means_other q now g n = not_part start (term_in symbols may_name [] (progress start) e) q now (walked _ g) n

pub reads_ok : (to : Read) (t : ℕ) (p : Progress) → ReadsTerm to (Ok t) p → term_alone to ≡ Ok (t, p.terms)
reads_ok to t p m = rw m refl

pub builds_error : (to : Read) (x : BuildError) (old new : TermsValue) (p : Progress) → ReadsTerm to (Err x) p → new ≡ old → Builds (term_alone to) (Err x) old new
builds_error to NoMemory old new p m e = e
builds_error to (Fault f) old new p m e = (rw m refl, e)

-- a name that is not given
pub label_fails : (s u : State) (to : Result Progress BuildFault) (x : BuildError) (p : Progress) → Names to (Err x) p → Does (to >>= λ p. Ok (passed, later s p)) (Err x) u
label_fails s u to NoMemory p h = tt
label_fails s u to (Fault f) p h = rw h refl
