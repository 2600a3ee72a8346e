-- How terms that a command asks for are answered.
use Rattle.std.specs.Prelude.{◌≡◌, ℕ, List, [], ◌∷◌, ◌++◌, Option, Result, Ok, Err}
use Rattle.smt_terms.specs.declared.node.Node.{Node}
use Rattle.smt_terms.specs.Terms.{TermsValue}
use Rattle.scope_selectors.specs.Scopes.{ScopesValue}
use Rattle.smt_build.specs.Names.{SymbolsValue}
use Rattle.script_state.specs.declared.answer.Asked.{Asked}
use Rattle.script_state.specs.declared.asked.Purpose.{Purpose}
use Rattle.script_state.specs.declared.asked.Purpose.TheVariants.{Assume, Evaluate}
use Rattle.script_state.specs.declared.asked.AskError.{AskError}
use Rattle.script_state.specs.declared.asked.AskError.TheVariants.{NoMemory, Refused}
use Rattle.script_state.specs.declared.error_text.ErrorText.{ErrorText}
use Rattle.script_state.specs.States.{StateValue}
use Rattle.script_state.specs.Steps.{Asking, objection, no_objection}

-- why a term cannot be asked for
abbrev pub object_to : Purpose → List Node → ℕ → Option ErrorText
object_to Assume = objection
object_to Evaluate = no_objection

-- these are the state's
pub record AreOf (s : StateValue) (symbols : SymbolsValue) (scopes : ScopesValue) (terms : TermsValue) : Type 0 where
  pub same_symbols : symbols ≡ s.symbols
  pub same_scopes : scopes ≡ s.scopes
  pub same_terms : terms ≡ s.terms

-- The answer is the term that is asked for behind those found before, with the terms then, or the error.
abbrev pub AsksOne : Asking → List Asked → List ℕ → Result ℕ AskError → TermsValue → Type 0
AsksOne to found text (Ok t) new = to ≡ Ok (found ++ record { term = t; text = text } ∷ [], new)
AsksOne to found text (Err (Refused e)) new = to ≡ Err e
AsksOne to found text (Err NoMemory) new = Unit {0}

-- The answer is all the terms that are asked for, with the terms then, or the first error.
abbrev pub Asks : Asking → Result (List Asked) AskError → TermsValue → Type 0
Asks to (Ok asked) new = to ≡ Ok (asked, new)
Asks to (Err (Refused e)) new = to ≡ Err e
Asks to (Err NoMemory) new = Unit {0}
