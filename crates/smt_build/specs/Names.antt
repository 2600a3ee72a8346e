-- The declarations that were made, the definitions, and the names that are live (SMT-LIB 2.6, sections 4.1.4 and 4.2.3).
-- Functions and sorts have name spaces of their own.
use Rattle.std.specs.Prelude.{◌≡◌, ℕ, ◌-◌, ◌<◌, Bool, ◌||◌, is_some, List, [], ◌∷◌, ◌++◌, length, map, replicate, take, slice_get, Option, Some, None, if◌then◌else◌, Vec}
use Rattle.std.specs.declared.alloc.Global.{Global}
use Rattle.std.specs.Str.{bytes_eq}
use Rattle.smt_terms.specs.declared.sort.Sort.{Sort}
use Rattle.smt_terms.specs.declared.sort.Signature.{Signature}
use Rattle.smt_terms.specs.declared.node.Op.{Op}
use Rattle.smt_terms.specs.declared.node.Node.{Node}
use Rattle.smt_terms.specs.Nodes.{node_at}
use Rattle.smt_terms.specs.Terms.{declaration_of as declaration_in, signature_of}
use Rattle.smt_build.specs.declared.definition.Definition.{Definition}
use Rattle.smt_build.specs.declared.symbols.LiveName.{LiveName}
use Rattle.smt_build.specs.declared.symbols.Level.{Level}

-- what names mean, in the order of their definitions
abbrev pub Meanings : Type 0 → Type 0
Meanings A = List (List ℕ × A)

-- the live names in the order of their declarations, the signatures of all declarations ever made by their numbers, the
-- live definitions of functions and of sorts, and how many names and definitions each level began with
pub record SymbolsValue : Type 0 where
  pub live : List LiveName
  pub signatures : List Signature
  pub definitions : Meanings Definition
  pub sorts : Meanings Sort
  pub levels : List Level

-- nothing declared and nothing defined
abbrev pub no_symbols : SymbolsValue
no_symbols = record { live = []; signatures = []; definitions = []; sorts = []; levels = [] }

-- the number of the declaration that a name is live for
abbrev pub declaration_of : List LiveName → List ℕ → Option ℕ
declaration_of [] name = None
declaration_of (l ∷ ls) name = if bytes_eq name l.name then Some l.declaration else declaration_of ls name

-- what a name is defined as
abbrev pub meaning_in : {A : Type 0} → Meanings A → List ℕ → Option A
meaning_in [] name = None
meaning_in (m ∷ ms) name = if bytes_eq name m.0 then Some m.1 else meaning_in ms name

-- a declaration or a definition of the name is live
unfoldable pub is_taken : SymbolsValue → List ℕ → Bool
is_taken v name = is_some (declaration_of v.live name) || is_some (meaning_in v.definitions name)

-- one declaration more, under a name that is then live
abbrev pub with_declaration : SymbolsValue → List ℕ → Signature → SymbolsValue
with_declaration v x s = record { live = v.live ++ record { name = x; declaration = length v.signatures } ∷ []; signatures = v.signatures ++ s ∷ []; definitions = v.definitions; sorts = v.sorts; levels = v.levels }

-- one definition more
abbrev pub with_definition : SymbolsValue → List ℕ → Definition → SymbolsValue
with_definition v x f = record { live = v.live; signatures = v.signatures; definitions = v.definitions ++ (x, f) ∷ []; sorts = v.sorts; levels = v.levels }

-- the first so many definitions
abbrev pub with_definitions : SymbolsValue → ℕ → SymbolsValue
with_definitions v n = record { live = v.live; signatures = v.signatures; definitions = take n v.definitions; sorts = v.sorts; levels = v.levels }

-- one sort's name more
abbrev pub with_sort : SymbolsValue → List ℕ → Sort → SymbolsValue
with_sort v x s = record { live = v.live; signatures = v.signatures; definitions = v.definitions; sorts = v.sorts ++ (x, s) ∷ []; levels = v.levels }

-- a level that begins with what is live
abbrev pub level_of : SymbolsValue → Level
level_of v = record { names = length v.live; definitions = length v.definitions; sorts = length v.sorts }

-- so many levels more, which begin with what is live
abbrev pub pushed : SymbolsValue → ℕ → SymbolsValue
pushed v n = record { live = v.live; signatures = v.signatures; definitions = v.definitions; sorts = v.sorts; levels = v.levels ++ replicate n (level_of v) }

abbrev pub popped_to : SymbolsValue → ℕ → Option Level → SymbolsValue
popped_to v levels None = v
popped_to v levels (Some l) = record { live = take l.names v.live; signatures = v.signatures; definitions = take l.definitions v.definitions; sorts = take l.sorts v.sorts; levels = take levels v.levels }

-- so many levels fewer, with what the first of them began with
abbrev pub popped : SymbolsValue → ℕ → SymbolsValue
popped v n = popped_to v (length v.levels - n) (slice_get v.levels (length v.levels - n))

-- no levels and no names; the declarations stay counted
abbrev pub emptied : SymbolsValue → SymbolsValue
emptied v = record { live = []; signatures = v.signatures; definitions = []; sorts = []; levels = [] }

-- each declaration that a term names was made, with the signature that the term gives it
pub record AreDeclared (signatures : List Signature) (nodes : List Node) : Type 0 where
  pub each : (t d : ℕ) → declaration_in (node_at nodes t).op ≡ Some d → slice_get signatures d ≡ Some (signature_of (node_at nodes t).op)

-- an operator names no declaration but one that was made, with its signature
pub record IsDeclared (signatures : List Signature) (op : Op) : Type 0 where
  pub each : (d : ℕ) → declaration_in op ≡ Some d → slice_get signatures d ≡ Some (signature_of op)

-- the bodies of definitions are among so many terms
abbrev pub AreBodies : ℕ → Meanings Definition → Type 0
AreBodies terms [] = Unit {0}
AreBodies terms (m ∷ ms) = (m.1.body < terms) × AreBodies terms ms

-- ---- how they are stored

abbrev pub entry_of : {A : Type 0} → Vec ℕ Global × A → List ℕ × A
entry_of e = (e.0.items, e.1)

abbrev pub named_number : LiveName → List ℕ × ℕ
named_number l = (l.name, l.declaration)

-- a map from the live names to their declarations
pub record AreNumbers (live : List LiveName) (entries : List (Vec ℕ Global × ℕ)) : Type 0 where
  pub same : map entry_of entries ≡ map named_number live
