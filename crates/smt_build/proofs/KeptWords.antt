-- What words and applications mean has a property that the bodies of definitions and the arguments have.
use Rattle.std.proofs.Common.{◌≡◌, ℕ, ◌*◌, ◌^◌, Bool, true, false, List, [], ◌∷◌, length, refl, eq-eqb, Option, Some, None, Ok, Err}
use Rattle.std.proofs.lemmas.Bool.{or_right, or_parts}
use Rattle.std.specs.Prelude.{◌==◌, nat_le, nat_lt, slice_get, if◌then◌else◌}
use Rattle.std.specs.Str.{bytes_eq}
use Rattle.std.specs.List.{list_any}
use Rattle.smt_text.specs.declared.token.TokenKind.{TokenKind}
use Rattle.smt_text.specs.declared.token.TokenKind.TheVariants as kind
use Rattle.smt_syntax.specs.Shapes.{is_word_name}
use Rattle.smt_terms.specs.declared.sort.Sort.{Sort}
use Rattle.smt_terms.specs.declared.sort.Sort.TheVariants as sort
use Rattle.smt_terms.specs.declared.sort.Signature.{Signature}
use Rattle.smt_terms.specs.declared.node.Op.{Op}
use Rattle.smt_terms.specs.declared.node.Op.TheVariants.{Word, ConstantArray, Constant, Apply}
use Rattle.smt_terms.specs.Nodes.{node_of, leaf}
use Rattle.smt_terms.specs.Terms.{TermsValue}
use Rattle.smt_build.specs.declared.fault.BuildFault.{BuildFault}
use Rattle.smt_build.specs.declared.fault.BuildFault.TheVariants.{UnknownSymbol, Declared, Reserved, WrongSort, Width, LiteralTooWide, NotSupported, TermLimit}
use Rattle.smt_build.specs.declared.operators.Family.{Family}
use Rattle.smt_build.specs.declared.operators.Family.TheVariants as family
use Rattle.smt_build.specs.declared.operators.Named.{Named}
use Rattle.smt_build.specs.declared.operators.Named.TheVariants.{Applies, Indexed}
use Rattle.smt_build.specs.declared.symbols.LiveName.{LiveName}
use Rattle.smt_build.specs.declared.definition.Definition.{Definition}
use Rattle.smt_build.specs.Literals.{bit_value, hexadecimal_value, value_in, width_of_numeral, number_of}
use Rattle.smt_build.specs.Operators.{operators, look_up, operator_named}
use Rattle.smt_build.specs.Names.{Meanings, SymbolsValue, declaration_of, meaning_in}
use Rattle.smt_build.specs.Scoped.{is_live, names_live}
use Rattle.smt_build.specs.Definitions.{have_sorts, used}
use Rattle.smt_build.specs.Building.{Built, made, constant, declared_at, declared, function, called_at, called}
use Rattle.smt_build.specs.Applying.{symbol_by, symbol_term, word_term, application_by, constant_array, application, indexed_term}
use Rattle.smt_build.specs.Indices.{Indices, one, two, many, Head, plain, indexed, everywhere, word_by, word_in, word_of, known, with_indices, first_width, indexed_by, indexed_application}
use Rattle.smt_build.specs.Binding.{misused}
use Rattle.smt_build.proofs.Growth.{constant_declared, function_declared}
use Rattle.smt_build.proofs.KeptTerms as kept_terms
use Rattle.smt_build.proofs.KeptTerms.{IsKept, MayStand, none_stands}
use Rattle.smt_build.proofs.KeptGroups as kept_groups
use Rattle.smt_build.proofs.KeptGroups.{names_witness}
use Rattle.smt_build.proofs.KeptUses as kept_uses

-- what is declared under a live name is live
live_found : (live : List LiveName) (x : List ℕ) → names_live live (declaration_of live x) ≡ true
live_found [] x = refl
live_found (l ∷ ls) x = go (bytes_eq x l.name) (declaration_of ls x) (live_found ls x) where
  behind : (d : Option ℕ) → names_live ls d ≡ true → names_live (l ∷ ls) d ≡ true
  behind None h = refl
  behind (Some d) h = or_right (l.declaration == d) (is_live ls d) h

  go : (here : Bool) (d : Option ℕ) → names_live ls d ≡ true → names_live (l ∷ ls) (if here then Some l.declaration else d) ≡ true
  go true d h = rw (eq-eqb l.declaration l.declaration refl) refl
  go false d h = behind d h

-- ---- names of operators

abbrev FindsNoWitness : Option Named → Type 0
FindsNoWitness None = Unit {0}
FindsNoWitness (Some named) = names_witness named ≡ false

look_up_other : (entries : List (List ℕ × Named)) (x : List ℕ) → list_any (λ (e : List ℕ × Named). names_witness e.1) entries ≡ false → FindsNoWitness (look_up entries x)
look_up_other [] x h = tt
look_up_other (e ∷ entries) x h = let p = or_parts (names_witness e.1) (list_any (λ (e : List ℕ × Named). names_witness e.1) entries) h in either (bytes_eq x e.0) (look_up entries x) p.0 (look_up_other entries x p.1) where
  either : (b : Bool) (found : Option Named) → names_witness e.1 ≡ false → FindsNoWitness found → FindsNoWitness (if b then Some e.1 else found)
  either true found k l = k
  either false found k l = l

-- no name is that of a witness
named_other : (x : List ℕ) → FindsNoWitness (operator_named x)
unfolding operator_named
named_other x = look_up_other operators x refl

module _ (symbols : SymbolsValue) (Has : TermsValue → ℕ → Type 0) (kept : IsKept symbols Has) where
  abbrev AllHave : TermsValue → List ℕ → Type 0
  AllHave v ts = kept_terms.AllHave symbols Has v ts

  abbrev Keeps : TermsValue → Built → Type 0
  Keeps v r = kept_terms.Keeps symbols Has v r

  abbrev BodiesHave : TermsValue → Meanings Definition → Type 0
  BodiesHave v ds = kept_terms.BodiesHave symbols Has v ds

  keeps_if : (v : TermsValue) (b : Bool) (f : BuildFault) (r : Built) → Keeps v r → Keeps v (if b then r else Err f)
  keeps_if v b f r h = kept_terms.keeps_if symbols Has v b f r h

  keeps_literal : (terms : TermsValue) (n x : ℕ) → Keeps terms (made terms (leaf (Word n x)))
  keeps_literal terms n x = kept_terms.keeps_literal symbols Has kept terms n x

  -- ---- declared constants

  constant_stands : (d : ℕ) (s : Signature) → slice_get symbols.signatures d ≡ Some s → s.args ≡ [] → is_live symbols.live d ≡ true → MayStand symbols (Constant d s.value)
  constant_stands d s e q live = record { declared = constant_declared symbols.signatures d s e q; scripted = live }

  keeps_constant : (terms : TermsValue) (d : ℕ) (s : Signature) → slice_get symbols.signatures d ≡ Some s → is_live symbols.live d ≡ true → Keeps terms (constant terms d s)
  keeps_constant terms d s e live = go s.args refl where
    go : (args : List Sort) → s.args ≡ args → Keeps terms (elim args [ [] ↦ made terms (leaf (Constant d s.value)) | _ ∷ _ ↦ Err WrongSort ])
    go [] q = kept_terms.keeps_made symbols Has kept terms (leaf (Constant d s.value)) (constant_stands d s e q live) tt
    go (a ∷ args) q = tt

  keeps_declared_at : (terms : TermsValue) (d : ℕ) (s : Option Signature) → slice_get symbols.signatures d ≡ s → is_live symbols.live d ≡ true → Keeps terms (declared_at terms d s)
  keeps_declared_at terms d None e live = tt
  keeps_declared_at terms d (Some s) e live = keeps_constant terms d s e live

  keeps_declared : (terms : TermsValue) (d : Option ℕ) → names_live symbols.live d ≡ true → Keeps terms (declared symbols terms d)
  keeps_declared terms None live = tt
  keeps_declared terms (Some d) live = keeps_declared_at terms d (slice_get symbols.signatures d) refl live

  -- ---- declared functions

  function_stands : (d : ℕ) (s : Signature) → slice_get symbols.signatures d ≡ Some s → is_live symbols.live d ≡ true → MayStand symbols (Apply d s)
  function_stands d s e live = record { declared = function_declared symbols.signatures d s e; scripted = live }

  keeps_function : (terms : TermsValue) (d : ℕ) (s : Signature) (args : List ℕ) → slice_get symbols.signatures d ≡ Some s → is_live symbols.live d ≡ true → AllHave terms args → Keeps terms (function terms d s args)
  keeps_function terms d s args e live k = go s.args where
    go : (sorts : List Sort) → Keeps terms (elim sorts [ [] ↦ Err WrongSort | _ ∷ _ ↦ made terms (node_of (Apply d s) args) ])
    go [] = tt
    go (a ∷ sorts) = kept_terms.keeps_made symbols Has kept terms (node_of (Apply d s) args) (function_stands d s e live) k

  keeps_called_at : (terms : TermsValue) (d : ℕ) (s : Option Signature) (args : List ℕ) → slice_get symbols.signatures d ≡ s → is_live symbols.live d ≡ true → AllHave terms args → Keeps terms (called_at terms d s args)
  keeps_called_at terms d None args e live k = tt
  keeps_called_at terms d (Some s) args e live k = keeps_function terms d s args e live k

  keeps_called : (terms : TermsValue) (d : Option ℕ) (args : List ℕ) → names_live symbols.live d ≡ true → AllHave terms args → Keeps terms (called symbols terms d args)
  keeps_called terms None args live k = tt
  keeps_called terms (Some d) args live k = keeps_called_at terms d (slice_get symbols.signatures d) args refl live k

  -- ---- uses of definitions

  -- the body of what a name is defined as has it
  abbrev BodyHas : TermsValue → Option Definition → Type 0
  BodyHas v None = Unit {0}
  BodyHas v (Some f) = Has v f.body

  body_has : (v : TermsValue) (ms : Meanings Definition) (x : List ℕ) → BodiesHave v ms → BodyHas v (meaning_in ms x)
  body_has v [] x h = tt
  body_has v (m ∷ ms) x h = either (bytes_eq x m.0) (meaning_in ms x) h.0 (body_has v ms x h.1) where
    either : (b : Bool) (o : Option Definition) → Has v m.1.body → BodyHas v o → BodyHas v (if b then Some m.1 else o)
    either true o k l = k
    either false o k l = l

  keeps_used : (terms : TermsValue) (f : Definition) (args : List ℕ) → Has terms f.body → AllHave terms args → Keeps terms (used terms f args)
  keeps_used terms f args h k = kept_uses.keeps_used symbols Has kept terms f args h k

  -- ---- words

  keeps_symbol_by : (terms : TermsValue) (named : Option Named) (f : Option Definition) (d : Option ℕ) → FindsNoWitness named → BodyHas terms f → names_live symbols.live d ≡ true → Keeps terms (symbol_by symbols terms named f d)
  keeps_symbol_by terms (Some named) f d other h live = kept_groups.keeps_applied symbols Has kept terms named [] other tt
  keeps_symbol_by terms None (Some f) d other h live = keeps_used terms f [] h tt
  keeps_symbol_by terms None None d other h live = keeps_declared terms d live

  keeps_symbol : (terms : TermsValue) (x : List ℕ) → BodiesHave terms symbols.definitions → Keeps terms (symbol_term symbols terms x)
  unfolding symbol_term
  keeps_symbol terms x h = keeps_symbol_by terms (operator_named x) (meaning_in symbols.definitions x) (declaration_of symbols.live x) (named_other x) (body_has terms symbols.definitions x h) (live_found symbols.live x)

  pub keeps_word : (terms : TermsValue) (k : TokenKind) (x : List ℕ) → BodiesHave terms symbols.definitions → Keeps terms (word_term symbols terms k x)
  unfolding word_term
  keeps_word terms kind.Symbol x h = keeps_symbol terms x h
  keeps_word terms kind.Binary [] h = tt
  keeps_word terms kind.Binary (a ∷ []) h = tt
  keeps_word terms kind.Binary (a ∷ b ∷ digits) h = keeps_if terms (nat_le (length digits) 128) LiteralTooWide _ (keeps_literal terms (length digits) (value_in 2 bit_value digits))
  keeps_word terms kind.Hexadecimal [] h = tt
  keeps_word terms kind.Hexadecimal (a ∷ []) h = tt
  keeps_word terms kind.Hexadecimal (a ∷ b ∷ digits) h = keeps_if terms (nat_le (length digits) 32) LiteralTooWide _ (keeps_literal terms (4 * length digits) (value_in 16 hexadecimal_value digits))
  keeps_word terms _ x h = tt

  -- ---- applications

  keeps_application_by : (terms : TermsValue) (named : Option Named) (f : Option Definition) (d : Option ℕ) (args : List ℕ) → FindsNoWitness named → BodyHas terms f → names_live symbols.live d ≡ true → AllHave terms args → Keeps terms (application_by symbols terms named f d args)
  keeps_application_by terms (Some named) f d args other h live k = kept_groups.keeps_applied symbols Has kept terms named args other k
  keeps_application_by terms None (Some f) d args other h live k = keeps_used terms f args h k
  keeps_application_by terms None None d args other h live k = keeps_called terms d args live k

  -- such an operator is no witness and names no declaration
  abbrev AllStand : Option Op → Type 0
  AllStand None = Unit {0}
  AllStand (Some op) = MayStand symbols op

  indices_stand : (k : Family) (is : Indices) (w : ℕ) → AllStand (with_indices k is w)
  indices_stand family.Extract (two i j) w = none_stands symbols _ refl refl
  indices_stand family.ZeroExtend (one i) w = none_stands symbols _ refl refl
  indices_stand family.SignExtend (one i) w = none_stands symbols _ refl refl
  indices_stand family.RotateLeft (one i) w = none_stands symbols _ refl refl
  indices_stand family.RotateRight (one i) w = none_stands symbols _ refl refl
  indices_stand family.Repeat (one i) w = none_stands symbols _ refl refl
  indices_stand _ is w = tt

  keeps_indexed_by : (terms : TermsValue) (op : Option Op) (args : List ℕ) → AllStand op → AllHave terms args → Keeps terms (indexed_by terms op args)
  keeps_indexed_by terms None args k h = tt
  keeps_indexed_by terms (Some op) args k h = kept_terms.keeps_made symbols Has kept terms (node_of op args) k h

  keeps_indexed : (terms : TermsValue) (f : List ℕ) (is : Indices) (named : Option Named) (args : List ℕ) → AllHave terms args → Keeps terms (indexed_application symbols terms f is named args)
  keeps_indexed terms f is (Some (Indexed k)) args h = keeps_indexed_by terms (with_indices k is (first_width terms args)) args (indices_stand k is (first_width terms args)) h
  keeps_indexed terms f is (Some (Applies o arity)) args h = tt
  keeps_indexed terms f is None args h = tt

  keeps_constant_array : (terms : TermsValue) (s : Sort) (args : List ℕ) → AllHave terms args → Keeps terms (constant_array terms s args)
  keeps_constant_array terms sort.Bool args h = tt
  keeps_constant_array terms (sort.Word n) args h = tt
  keeps_constant_array terms (sort.Array n m) args h = keeps_if terms (have_sorts terms.nodes (sort.Word m ∷ []) args) WrongSort _ (kept_terms.keeps_made symbols Has kept terms (node_of (ConstantArray n) args) (none_stands symbols (ConstantArray n) refl refl) h)

  pub keeps_application : (terms : TermsValue) (f : Head) (args : List ℕ) → BodiesHave terms symbols.definitions → AllHave terms args → Keeps terms (application symbols terms f args)
  unfolding application
  keeps_application terms (plain f) args h k = keeps_application_by terms (operator_named f) (meaning_in symbols.definitions f) (declaration_of symbols.live f) args (named_other f) (body_has terms symbols.definitions f h) (live_found symbols.live f) k
  keeps_application terms (indexed f is) args h k = keeps_indexed terms f is (operator_named f) args k
  keeps_application terms (everywhere s) args h k = keeps_constant_array terms s args k

  keeps_word_by : (terms : TermsValue) (n : ℕ) (x : Option ℕ) → Keeps terms (word_by terms n x)
  keeps_word_by terms n None = tt
  keeps_word_by terms n (Some x) = keeps_if terms (nat_lt x (2 ^ n)) LiteralTooWide _ (keeps_literal terms n x)

  keeps_word_in : (terms : TermsValue) (digits : List ℕ) (n : Option ℕ) → Keeps terms (word_in terms digits n)
  keeps_word_in terms digits None = tt
  keeps_word_in terms digits (Some n) = keeps_word_by terms n (number_of digits)

  keeps_word_of : (terms : TermsValue) (f : List ℕ) (is : Indices) → Keeps terms (word_of terms f is)
  keeps_word_of terms [] is = tt
  keeps_word_of terms (b ∷ []) is = tt
  keeps_word_of terms (b ∷ v ∷ digits) (one n) = keeps_word_in terms digits (width_of_numeral n)
  keeps_word_of terms (b ∷ v ∷ digits) (two n m) = tt
  keeps_word_of terms (b ∷ v ∷ digits) many = tt

  pub keeps_indexed_term : (terms : TermsValue) (h : Head) → Keeps terms (indexed_term symbols terms h)
  unfolding indexed_term
  keeps_indexed_term terms (plain f) = tt
  keeps_indexed_term terms (everywhere s) = tt
  keeps_indexed_term terms (indexed f is) = keeps_if terms (is_word_name f) (known symbols f) _ (keeps_word_of terms f is)

  pub keeps_misused : (terms : TermsValue) (b : Bool) (r : Built) → Keeps terms r → Keeps terms (misused b r)
  keeps_misused terms true (Ok r) h = h
  keeps_misused terms false (Ok r) h = h
  keeps_misused terms true (Err UnknownSymbol) h = tt
  keeps_misused terms true (Err Declared) h = tt
  keeps_misused terms true (Err Reserved) h = tt
  keeps_misused terms true (Err WrongSort) h = tt
  keeps_misused terms true (Err Width) h = tt
  keeps_misused terms true (Err LiteralTooWide) h = tt
  keeps_misused terms true (Err NotSupported) h = tt
  keeps_misused terms true (Err TermLimit) h = tt
  keeps_misused terms false (Err e) h = tt
