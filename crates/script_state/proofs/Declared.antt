-- A declaration keeps those that were made, and has a signature that is taken.
use Rattle.std.proofs.Common.{◌≡◌, ℕ, ◌<◌, Bool, true, false, List, [], ◌∷◌, ◌++◌, length, refl, sym, subst, arith, leb-true, length-append, Option, Some, None, Result, Ok, Err}
use Rattle.std.specs.Prelude.{◌&&◌, nat_le, slice_get, if◌then◌else◌, All}
use Rattle.std.specs.List.{AllByRecursion}
use Rattle.std.specs.Str.{bytes_eq}
use Rattle.std.proofs.lemmas.List.Elements.{All-nil, All-push}
use Rattle.std.proofs.lemmas.List.Quantifiers.{all_pairs_push}
use Rattle.smt_text.specs.declared.token.TokenKind.{TokenKind}
use Rattle.smt_text.specs.declared.token.TokenKind.TheVariants as kind
use Rattle.smt_text.specs.declared.token.CommandName.{CommandName}
use Rattle.smt_text.specs.declared.token.CommandName.TheVariants as name
use Rattle.smt_syntax.specs.Sexps.{Sexp, Sexps, atom, group, none, more}
use Rattle.smt_syntax.specs.Walk.{◌>>=◌}
use Rattle.smt_terms.specs.declared.sort.Sort.{Sort}
use Rattle.smt_terms.specs.declared.sort.Sort.TheVariants as sort
use Rattle.smt_terms.specs.declared.sort.Signature.{Signature}
use Rattle.smt_terms.specs.declared.node.Node.{Node}
use Rattle.smt_terms.specs.Terms.{IsSort, constant_signature}
use Rattle.cnf_base.proofs.Lists.{slice_get-longer}
use Rattle.smt_build.specs.declared.fault.BuildFault.{BuildFault}
use Rattle.smt_build.specs.declared.fault.BuildFault.TheVariants.{Declared, Reserved, NotSupported}
use Rattle.smt_build.specs.declared.symbols.LiveName.{LiveName}
use Rattle.smt_build.specs.Literals.{decimal_value, value_in}
use Rattle.smt_build.specs.Names.{SymbolsValue, Meanings, AreDeclared, meaning_in, is_taken, with_declaration}
use Rattle.smt_build.specs.Operators.{is_reserved}
use Rattle.smt_build.specs.Sorts.{defined_sort, sort_named, word_of_width, width_sort, named_sort, indexed_sort, word_listed, part_sort, array_by, array_sort, begins_array, behind_head, sort_in}
use Rattle.smt_build.specs.Parts.{over_parts}
use Rattle.smt_build.specs.Parameters.{plain_sort}
use Rattle.smt_build.proofs.KeptTerms.{Follows}
use Rattle.smt_build.specs.Declaring.{Declaration, declare, declare_name, of_constant, plain_in, next_argument, of_function, signature_in, constant_parts, function_parts, value_sort, next}
use Rattle.smt_terms.specs.Ranks as ranks
use Rattle.script_state.specs.States.{AreLive, IsTakenName, IsTaken}

-- ---- sorts

-- a sort that is read
abbrev pub IsTakenIf : Result Sort BuildFault → Type 0
IsTakenIf (Ok s) = IsSort s
IsTakenIf (Err f) = Unit {0}

abbrev pub AreTakenNames : Meanings Sort → Type 0
AreTakenNames ms = AllByRecursion IsTakenName ms

taken_either : (c : Bool) (s : Sort) (o : Option Sort) → IsSort s → IsTakenIf (defined_sort o) → IsTakenIf (defined_sort (if c then Some s else o))
taken_either true s o h k = h
taken_either false s o h k = k

taken_meaning : (ms : Meanings Sort) (x : List ℕ) → AreTakenNames ms → IsTakenIf (defined_sort (meaning_in ms x))
taken_meaning [] x h = tt
taken_meaning (m ∷ ms) x h = taken_either (bytes_eq x m.0) m.1 (meaning_in ms x) h.0 (taken_meaning ms x h.1)

taken_truth : (c : Bool) (r : Result Sort BuildFault) → IsTakenIf r → IsTakenIf (if c then Ok sort.Bool else r)
taken_truth true r h = tt
taken_truth false r h = h

taken_atom : (ms : Meanings Sort) (k : TokenKind) (x : List ℕ) → AreTakenNames ms → IsTakenIf (sort_named ms k x)
taken_atom ms kind.Symbol x h = taken_truth (bytes_eq x _) _ (taken_meaning ms x h)
taken_atom ms _ x h = tt

taken_width : (n : ℕ) → IsTakenIf (word_of_width (if nat_le 1 n && nat_le n 128 then Some n else None))
taken_width n = go (nat_le 1 n) (nat_le n 128) refl refl where
  go : (c d : Bool) → nat_le 1 n ≡ c → nat_le n 128 ≡ d → IsTakenIf (word_of_width (if c && d then Some n else None))
  go true true p q = (leb-true 1 n p, leb-true n 128 q)
  go true false p q = tt
  go false d p q = tt

taken_numeral : (k : TokenKind) (n : List ℕ) → IsTakenIf (width_sort k n)
taken_numeral kind.Numeral n = taken_width (value_in 10 decimal_value n)
taken_numeral _ n = tt

taken_word_if : (c : Bool) (r : Result Sort BuildFault) (f : BuildFault) → IsTakenIf r → IsTakenIf (if c then r else Err f)
taken_word_if true r f h = h
taken_word_if false r f h = tt

taken_word : (j : TokenKind) (x : List ℕ) (k : TokenKind) (n : List ℕ) → IsTakenIf (named_sort j x k n)
taken_word kind.Symbol x k n = taken_word_if (bytes_eq x _) (width_sort k n) NotSupported (taken_numeral k n)
taken_word _ x k n = tt

taken_indexed : (i j : TokenKind) (x : List ℕ) (k : TokenKind) (n : List ℕ) → IsTakenIf (indexed_sort i j x k n)
taken_indexed kind.Underscore j x k n = taken_word j x k n
taken_indexed _ j x k n = tt

taken_listed : (es : Sexps) → IsTakenIf (word_listed es)
taken_listed (more (atom i l) (more (atom j x) (more (atom k n) none))) = taken_indexed i j x k n
taken_listed _ = tt

taken_part : (ms : Meanings Sort) (e : Sexp) → AreTakenNames ms → IsTakenIf (part_sort ms e)
taken_part ms (atom k x) h = taken_atom ms k x h
taken_part ms (group es) h = taken_listed es

taken_array : (r q : Result Sort BuildFault) → IsTakenIf r → IsTakenIf q → IsTakenIf (array_by r q)
taken_array (Err f) q h k = tt
taken_array (Ok s) (Err f) h k = tt
taken_array (Ok sort.Bool) (Ok t) h k = tt
taken_array (Ok (sort.Word n)) (Ok sort.Bool) h k = tt
taken_array (Ok (sort.Word n)) (Ok (sort.Word m)) h k = (h.0, h.1, k.0, k.1)
taken_array (Ok (sort.Word n)) (Ok (sort.Array i j)) h k = tt
taken_array (Ok (sort.Array i j)) (Ok t) h k = tt

taken_parts : (ms : Meanings Sort) (es : Sexps) → AreTakenNames ms → IsTakenIf (array_sort ms es)
taken_parts ms (more e (more f none)) h = taken_array (part_sort ms e) (part_sort ms f) (taken_part ms e h) (taken_part ms f h)
taken_parts ms _ h = tt

taken_by : (c : Bool) (ms : Meanings Sort) (e : Sexp) → AreTakenNames ms → IsTakenIf (if c then array_sort ms (behind_head e) else part_sort ms e)
taken_by true ms e h = taken_parts ms (behind_head e) h
taken_by false ms e h = taken_part ms e h

taken_sort : (v : SymbolsValue) (e : Sexp) → AreTakenNames v.sorts → IsTakenIf (sort_in v e)
taken_sort v e h = taken_by (begins_array e) v.sorts e h

pub taken_value : (v : SymbolsValue) (ps s : Sexp) → AreTakenNames v.sorts → IsTakenIf (value_sort v ps s)
taken_value v (group none) s h = taken_sort v s h
taken_value v (group (more e es)) s h = tt
taken_value v (atom k x) s h = tt

-- ---- signatures

-- what functions take and give
abbrev IsPlainSort : Sort → Type 0
IsPlainSort s = (ranks.is_plain s ≡ true) × IsSort s

abbrev IsSignatureIf : Result Signature BuildFault → Type 0
IsSignatureIf (Ok g) = IsTaken g
IsSignatureIf (Err f) = Unit {0}

constant_taken : (s : Sort) → IsSort s → IsTaken (constant_signature s)
constant_taken s h = record {
  value = h;
  args = All-nil IsPlainSort;
  plain = λ some. absurd (some refl);
}

taken_constant : (r : Result Sort BuildFault) → IsTakenIf r → IsSignatureIf (of_constant r)
taken_constant (Ok s) h = constant_taken s h
taken_constant (Err f) h = tt

abbrev IsPlainIf : Result Sort BuildFault → Type 0
IsPlainIf r = Follows IsPlainSort r

plain_of : (r : Result Sort BuildFault) → IsTakenIf r → IsPlainIf (r >>= plain_sort)
plain_of (Ok sort.Bool) h = (refl, tt)
plain_of (Ok (sort.Word n)) h = (refl, h)
plain_of (Ok (sort.Array n m)) h = tt
plain_of (Err f) h = tt

plain_read : (v : SymbolsValue) (e : Sexp) → AreTakenNames v.sorts → IsPlainIf (plain_in v e)
plain_read v e h = plain_of (sort_in v e) (taken_sort v e h)

module _ (v : SymbolsValue) (names : AreTakenNames v.sorts) where
  abbrev ArePlain : List Sort → Type 0
  ArePlain args = All IsPlainSort args

  arguments_plain : (args : List Sort) (es : Sexps) → ArePlain args → Follows ArePlain (over_parts (next_argument v) args es)
  unfolding over_parts
  arguments_plain args none h = h
  arguments_plain args (more e es) h = go (plain_in v e) (plain_read v e names) (λ s k. arguments_plain (args ++ s ∷ []) es (All-push IsPlainSort args s h k)) where
    go : (r : Result Sort BuildFault) → IsPlainIf r → ((s : Sort) → IsPlainSort s → Follows ArePlain (over_parts (next_argument v) (args ++ s ∷ []) es)) → Follows ArePlain ((r >>= λ s. Ok (args ++ s ∷ [])) >>= λ l. over_parts (next_argument v) l es)
    go (Ok s) k further = further s k
    go (Err f) k further = tt

  function_taken : (es : Sexps) (s : Sexp) → IsSignatureIf (of_function v es s)
  function_taken es s = go (over_parts (next_argument v) [] es) (arguments_plain [] es (All-nil IsPlainSort)) (plain_in v s) (plain_read v s names) where
    go : (a : Result (List Sort) BuildFault) → Follows ArePlain a → (r : Result Sort BuildFault) → IsPlainIf r → IsSignatureIf (a >>= λ args. r >>= λ t. Ok (record { args = args; value = t }))
    go (Ok args) h (Ok t) k = record { value = k.1; args = h; plain = λ some. k.0 }
    go (Ok args) h (Err f) k = tt
    go (Err f) h r k = tt

  taken_signature : (ps s : Sexp) → IsSignatureIf (signature_in v ps s)
  taken_signature (group none) s = taken_constant (sort_in v s) (taken_sort v s names)
  taken_signature (group (more e es)) s = function_taken (more e es) s
  taken_signature (atom k x) s = tt

-- ---- declarations

-- one declaration more whose signature is taken, if it is made
abbrev OneMore : SymbolsValue → Declaration → Type 0
OneMore v (Ok d) = (x : List ℕ) × (g : Signature) × IsTaken g × (d.1 ≡ with_declaration v x g)
OneMore v (Err f) = Unit {0}

more_unless : (v : SymbolsValue) (b : Bool) (f : BuildFault) (d : Declaration) → OneMore v d → OneMore v (if b then Err f else d)
more_unless v true f d h = tt
more_unless v false f d h = h

more_next : (v : SymbolsValue) (x : List ℕ) (r : Result Signature BuildFault) → IsSignatureIf r → OneMore v (r >>= next v x)
more_next v x (Ok g) h = (x, g, h, refl)
more_next v x (Err f) h = tt

more_named : (v : SymbolsValue) (x : Sexp) (r : Result Signature BuildFault) → IsSignatureIf r → OneMore v (declare_name v x r)
more_named v (atom k x) r h = more_unless v (is_reserved x) Reserved _ (more_unless v (is_taken v x) Declared _ (more_next v x r h))
more_named v (group es) r h = tt

more_parts : (v : SymbolsValue) (es : Sexps) → AreTakenNames v.sorts → OneMore v (constant_parts v es)
more_parts v (more x (more s none)) h = more_named v x _ (taken_constant (sort_in v s) (taken_sort v s h))
more_parts v _ h = tt

more_function : (v : SymbolsValue) (es : Sexps) → AreTakenNames v.sorts → OneMore v (function_parts v es)
more_function v (more x (more args (more s none))) h = more_named v x _ (taken_signature v h args s)
more_function v _ h = tt

more_declared : (v : SymbolsValue) (n : CommandName) (es : Sexps) → AreTakenNames v.sorts → OneMore v (declare v n es)
unfolding declare
more_declared v name.DeclareConst es h = more_parts v es h
more_declared v name.DeclareFun es h = more_function v es h
more_declared v _ es h = tt

-- ---- what stays

module _ (v : SymbolsValue) (x : List ℕ) (s : Signature) (are : AreLive v) where
  abbrev last : LiveName
  last = record { name = x; declaration = length v.signatures }

  made_more : All (λ (l : LiveName). l.declaration < length (v.signatures ++ s ∷ [])) v.live
  made_more k d lt = omega (arith, length-append v.signatures (s ∷ []), are.made k d lt)

  live_more : AreLive (with_declaration v x s)
  live_more = record {
    rising = all_pairs_push (λ (a b : LiveName). a.declaration < b.declaration) v.live last are.rising (λ k d lt. are.made k d lt);
    made = All-push (λ (l : LiveName). l.declaration < length (v.signatures ++ s ∷ [])) v.live last made_more (omega (arith, length-append v.signatures (s ∷ [])));
  }

-- what a declaration leaves of what is known of declarations
pub record AreKept (v w : SymbolsValue) (nodes : List Node) : Type 0 where
  pub live : AreLive v → AreLive w
  pub constants : All IsTaken v.signatures → All IsTaken w.signatures
  pub declared : AreDeclared v.signatures nodes → AreDeclared w.signatures nodes
  pub last : LiveName
  pub names : w.live ≡ v.live ++ last ∷ []
  pub definitions : w.definitions ≡ v.definitions
  pub sorts : w.sorts ≡ v.sorts
  pub levels : w.levels ≡ v.levels
  pub longer : (d : ℕ) (s : Signature) → slice_get v.signatures d ≡ Some s → slice_get w.signatures d ≡ Some s

kept_more : (v : SymbolsValue) (x : List ℕ) (g : Signature) (nodes : List Node) → IsTaken g → AreKept v (with_declaration v x g) nodes
kept_more v x g nodes taken = record {
  live = live_more v x g;
  constants = λ are. All-push IsTaken v.signatures g are taken;
  declared = λ are. record { each = λ t k named. slice_get-longer v.signatures (g ∷ []) k _ (are.each t k named) };
  last = record { name = x; declaration = length v.signatures };
  names = refl;
  definitions = refl;
  sorts = refl;
  levels = refl;
  longer = λ d r e. slice_get-longer v.signatures (g ∷ []) d r e;
}

pub declared_kept : (v w : SymbolsValue) (n : CommandName) (es : Sexps) (d : ℕ) (nodes : List Node) → AreTakenNames v.sorts → declare v n es ≡ Ok (d, w) → AreKept v w nodes
declared_kept v w n es d nodes h e =
    let P : Declaration → Type 0 = OneMore v in
    let m : OneMore v (Ok (d, w)) = subst P e (more_declared v n es h) in
    subst (λ (u : SymbolsValue). AreKept v u nodes) (sym m.3) (kept_more v m.0 m.1 nodes m.2)
