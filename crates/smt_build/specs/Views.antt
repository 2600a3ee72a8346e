-- What the reader of terms holds, without where it lies in memory, and what its calls answer.
use Rattle.std.specs.Prelude.{◌≡◌, ℕ, Bool, true, List, [], map, reverse, Result, Ok, Err}
use Rattle.smt_terms.specs.Terms.{TermsValue}
use Rattle.smt_build.specs.declared.fault.BuildFault.{BuildFault}
use Rattle.smt_build.specs.declared.fault.BuildFault.TheVariants.{UnknownSymbol, WrongSort}
use Rattle.smt_build.specs.declared.fault.BuildError.{BuildError}
use Rattle.smt_build.specs.declared.fault.BuildError.TheVariants.{NoMemory, Fault}
use Rattle.smt_build.specs.declared.reader.Open.{Open as OpenList}
use Rattle.smt_build.specs.declared.reader.Open.TheVariants as lists
use Rattle.smt_build.specs.declared.reader.Part.{Part as ReadPart}
use Rattle.smt_build.specs.declared.reader.Part.TheVariants as parts
use Rattle.smt_build.specs.declared.indices.Indices.{Indices as ReadIndices}
use Rattle.smt_build.specs.declared.indices.Indices.TheVariants as counts
use Rattle.smt_build.specs.declared.indices.Head.{Head as ReadHead}
use Rattle.smt_build.specs.declared.indices.Head.TheVariants as heads
use Rattle.smt_build.specs.declared.reader.Role.{Role as ReadRole}
use Rattle.smt_build.specs.declared.reader.Role.TheVariants as roles
use Rattle.smt_build.specs.declared.sort_parts.SortPart.{SortPart as ReadSortPart}
use Rattle.smt_build.specs.declared.sort_parts.SortPart.TheVariants as sort_parts
use Rattle.smt_build.specs.declared.sort_parts.SortParts.{SortParts as ReadSortParts}
use Rattle.smt_build.specs.declared.sort_parts.SortParts.TheVariants as sort_lists
use Rattle.smt_build.specs.declared.scope.Scope.{Scope}
use Rattle.smt_build.specs.Indices.{Indices, one, two, many, Head, plain, indexed, everywhere}
use Rattle.smt_build.specs.SortParts.{SortPart, word, listed, SortParts, no_part, one_part, two_parts, three_parts, more_parts}
use Rattle.smt_build.specs.Parameters.{Parameters}
use Rattle.smt_build.specs.Binding.{Progress, Read}
use Rattle.smt_build.specs.TermReader.{Part, term, head, mark, name, index, let_word, binding, bindings, bang_word, label, passed, as_word, const_word, sort_part, Role, a_term, a_head, Open, started, head_started, marked, named, with_indices, application, let_started, let_bound, let_done, in_bindings, binding_started, binding_named, binding_done, bang_started, annotated, labelled, unread, as_started, const_read, const_sorted, sort_list, State}

abbrev pub indices_of : ReadIndices → Indices
indices_of (counts.One i) = one i.now
indices_of (counts.Two i j) = two i.now j.now
indices_of counts.Many = many

abbrev pub head_of : ReadHead → Head
head_of (heads.Plain f) = plain f.now
head_of (heads.Indexed f is) = indexed f.now (indices_of is)
head_of (heads.Everywhere s) = everywhere s

abbrev pub sort_part_of : ReadSortPart → SortPart
sort_part_of (sort_parts.Word k x) = word k x.now
sort_part_of (sort_parts.Listed r) = listed r

abbrev pub sort_parts_of : ReadSortParts → SortParts
sort_parts_of sort_lists.None = no_part
sort_parts_of (sort_lists.One p) = one_part (sort_part_of p)
sort_parts_of (sort_lists.Two p q) = two_parts (sort_part_of p) (sort_part_of q)
sort_parts_of (sort_lists.Three p q r) = three_parts (sort_part_of p) (sort_part_of q) (sort_part_of r)
sort_parts_of sort_lists.More = more_parts

abbrev pub role_of : ReadRole → Role
role_of roles.Term = a_term
role_of roles.Head = a_head

abbrev pub part_of : ReadPart → Part
part_of parts.Let = let_word
part_of (parts.Binding x t) = binding x.now t
part_of (parts.Bindings n) = bindings n
part_of parts.Bang = bang_word
part_of parts.Label = label
part_of parts.Passed = passed
part_of parts.As = as_word
part_of parts.Const = const_word
part_of (parts.Sort p) = sort_part (sort_part_of p)
part_of (parts.Term t) = term t
part_of (parts.Head f) = head (head_of f)
part_of parts.Mark = mark
part_of (parts.Name f) = name f.now
part_of (parts.Index i) = index i.now

abbrev pub open_of : OpenList → Open
open_of lists.LetStarted = let_started
open_of (lists.LetBound n) = let_bound n
open_of (lists.LetDone n t) = let_done n t
open_of (lists.InBindings n) = in_bindings n
open_of (lists.BindingStarted n) = binding_started n
open_of (lists.BindingNamed x) = binding_named x.now
open_of (lists.BindingDone x t) = binding_done x.now t
open_of lists.BangStarted = bang_started
open_of (lists.Annotated t) = annotated t
open_of (lists.Labelled t) = labelled t
open_of lists.Unread = unread
open_of lists.AsStarted = as_started
open_of lists.ConstRead = const_read
open_of (lists.ConstSorted p) = const_sorted (sort_part_of p)
open_of (lists.SortList whole ps) = sort_list whole (sort_parts_of ps)
open_of lists.Started = started
open_of lists.HeadStarted = head_started
open_of (lists.Marked r) = marked (role_of r)
open_of (lists.Named r f) = named (role_of r) f.now
open_of (lists.WithIndices r f is) = with_indices (role_of r) f.now (indices_of is)
open_of (lists.Application f args) = application (head_of f) args.items

-- the open lists are kept with the innermost last
abbrev pub stack_of : List OpenList → List Open
stack_of lists = reverse (map open_of lists)

-- no variables, and no names, under these parameters
abbrev pub scope_over : Parameters → Scope
scope_over ps = record { bound = []; coming = []; names = []; parameters = ps }

abbrev pub state_of : TermsValue → Scope → State
state_of terms scope = record { terms = terms; scope = scope }

-- A list opens as it is to, over all terms.
abbrev pub Opens : (State → Result (Open × State) BuildFault) → Result OpenList BuildFault → Scope → Type 0
Opens to (Ok f) scope = (s : TermsValue) → to (state_of s scope) ≡ Ok (open_of f, state_of s scope)
Opens to (Err e) scope = (s : TermsValue) → to (state_of s scope) ≡ Err e

-- A part is taken as it is to be, over all terms.
abbrev pub Takes : (State → Result (Open × State) BuildFault) → Result OpenList BuildError → Scope → Scope → Type 0
Takes to (Ok f) old new = (s : TermsValue) → to (state_of s old) ≡ Ok (open_of f, state_of s new)
Takes to (Err (Fault e)) old new = (s : TermsValue) → to (state_of s old) ≡ Err e
Takes to (Err NoMemory) old new = Unit {0}

-- A part is read as it is to be, with the state then.
abbrev pub Does : Result (Part × State) BuildFault → Result ReadPart BuildError → State → Type 0
Does to (Ok p) s = to ≡ Ok (part_of p, s)
Does to (Err (Fault e)) s = to ≡ Err e
Does to (Err NoMemory) s = Unit {0}

-- The answer is what is read, with what is made then.
abbrev pub ReadsTerm : Read → Result ℕ BuildError → Progress → Type 0
ReadsTerm to (Ok t) p = to ≡ Ok (t, p)
ReadsTerm to (Err (Fault e)) p = to ≡ Err e
ReadsTerm to (Err NoMemory) p = Unit {0}

-- The answer is what is made where a name is given.
abbrev pub Names : Result Progress BuildFault → Result (Unit {0}) BuildError → Progress → Type 0
Names to (Ok u) p = to ≡ Ok p
Names to (Err (Fault e)) p = to ≡ Err e
Names to (Err NoMemory) p = Unit {0}

-- the fault of a name that is known here
abbrev pub misused_error : Bool → BuildError → BuildError
misused_error true (Fault UnknownSymbol) = Fault WrongSort
misused_error _ e = e
