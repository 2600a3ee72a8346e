-- The parameters that a list spells.
use Rattle.std.proofs.Common.{◌≡◌, ℕ, ◌<◌, ◌≤◌, Bool, List, [], ◌∷◌, ◌++◌, length, map, get_or, suc, refl, ap, sym, ◌∙◌, arith, None, Result, Err, Vec, Global}
use Rattle.std.specs.Prelude.{◌==◌}
use Rattle.std.specs.Str.{bytes_eq}
use Rattle.std.proofs.lemmas.Bool.{ne_eqb}
use Rattle.std.proofs.lemmas.List.{map-append}
use Rattle.indexmap.specs.IndexMap.{insert_entry}
use Rattle.smt_text.specs.declared.token.Token.{Token}
use Rattle.smt_syntax.specs.declared.span.Span.{Span}
use Rattle.smt_syntax.specs.Sexps.{Sign, open_paren, close_paren, Sexp, Sexps, atom, group, none, more, spelling, spellings, sign_in, signs_in}
use Rattle.smt_syntax.specs.Spans.{AllStand, Stands}
use Rattle.smt_terms.specs.declared.sort.Sort.{Sort}
use Rattle.smt_build.specs.declared.fault.BuildFault.{BuildFault}
use Rattle.smt_build.specs.declared.fault.BuildFault.TheVariants.{NotSupported}
use Rattle.smt_build.specs.declared.fault.BuildError.{BuildError}
use Rattle.smt_build.specs.declared.fault.BuildError.TheVariants.{NoMemory, Fault}
use Rattle.smt_build.specs.declared.parameters.Parameter.{Parameter}
use Rattle.smt_build.specs.Names.{SymbolsValue, entry_of, meaning_in}
use Rattle.smt_build.specs.Naming.{parts_of}
use Rattle.smt_build.specs.Sorts.{sort_in}
use Rattle.smt_build.specs.Parameters.{Parameters, is_none, sorts_of, with_parameter, new_parameter, named_parameter, next_parameter, parameters_in, Lists}
use Rattle.smt_build.specs.Parts.{over_parts}
use Rattle.smt_build.proofs.NameLemmas.{meaning_put}
use Rattle.smt_build.proofs.Declarations.{name_is}
use Rattle.smt_build.proofs.PartLists.{Behind, behind_fault}
use Rattle.smt_build.proofs.Spellings.{not_end}

-- ---- how they are stored

abbrev Entries : Type 0
Entries = List (Vec ℕ Global × Parameter)

length-map : (es : Entries) → length (map entry_of es) ≡ length es
length-map [] = refl
length-map (e ∷ es) = ap suc (length-map es)

length-sorts : (ps : Parameters) → length (sorts_of ps) ≡ length ps
length-sorts [] = refl
length-sorts (p ∷ ps) = ap suc (length-sorts ps)

-- one parameter more
pub pushed : (k : Vec ℕ Global) (s : Sort) (name : List ℕ) (place : ℕ) (es new : Entries) (now : Parameters) (sorts : List Sort) → map entry_of es ≡ now → sorts ≡ sorts_of (map entry_of es) → place ≡ length sorts → k.items ≡ name → meaning_in now name ≡ None
    → new ≡ insert_entry (λ x y. bytes_eq x.items y.items) es k (record { place = place; sort = s }) → map entry_of new ≡ with_parameter now name s
pushed k s name place es new now sorts view inv count q free e =
    let there : place ≡ length now = count ∙ ap length inv ∙ length-sorts (map entry_of es) ∙ ap length view in
    meaning_put k (record { place = place; sort = s }) name es new q (ap (λ ps. meaning_in ps name) view ∙ free) e ∙ rw (view, there) refl

pub sorts_push : (s : Sort) (name : List ℕ) (es new : Entries) (now : Parameters) (sorts longer : List Sort) → map entry_of es ≡ now → sorts ≡ sorts_of (map entry_of es) → map entry_of new ≡ with_parameter now name s → longer ≡ sorts ++ s ∷ [] → longer ≡ sorts_of (map entry_of new)
sorts_push s name es new now sorts longer view inv e f =
    f ∙ ap (λ l. l ++ s ∷ []) (inv ∙ ap sorts_of view) ∙ sym (map-append (λ (p : List ℕ × Parameter). p.1.sort) now ((name, record { place = length now; sort = s }) ∷ [])) ∙ sym (ap sorts_of e)

pub none_there : (es : Entries) (now : Parameters) (sorts : List Sort) → map entry_of es ≡ now → sorts ≡ sorts_of (map entry_of es) → (b : Bool) → (b ≡ (length sorts == 0)) → b ≡ is_none now
none_there es now sorts view inv b e = e ∙ go now (ap length inv ∙ ap (λ ps. length (sorts_of ps)) view) where
  go : (ps : Parameters) → length sorts ≡ length (sorts_of ps) → (length sorts == 0) ≡ is_none ps
  go [] f = rw f refl
  go (p ∷ ps) f = ne_eqb (length sorts) 0 (λ z. let some : length sorts ≡ suc (length (sorts_of ps)) = f in omega (arith, some, z))

-- ---- a parameter that tokens spell

-- two parts of a list
pub two_parts : (tokens : List Sign) (a b : Span) (v : SymbolsValue) (ps new : Parameters) (r : Result (Unit {0}) BuildError) (e : Sexp) → AllStand tokens (a ∷ b ∷ []) (parts_of e)
    → ((n s : Sexp) → Stands tokens a n → Stands tokens b s → Lists (named_parameter ps n (sort_in v s)) r new) → Lists (next_parameter v ps e) r new
two_parts tokens a b v ps new r (atom k x) h f = absurd h
two_parts tokens a b v ps new r (group none) h f = absurd h
two_parts tokens a b v ps new r (group (more n none)) h f = absurd h.1
two_parts tokens a b v ps new r (group (more n (more s none))) h f = f n s h.0 h.1.0
two_parts tokens a b v ps new r (group (more n (more s (more t es)))) h f = absurd h.1.1

pub first_two : (ss : List Span) (d e : Span) → length ss ≡ 2 → ss ≡ get_or ss 0 d ∷ get_or ss 1 e ∷ []
first_two [] d e l = absurd (let z : ⊥ = cc in z)
first_two (s ∷ []) d e l = absurd (let z : ⊥ = cc in z)
first_two (s ∷ t ∷ []) d e l = refl
first_two (s ∷ t ∷ u ∷ ss) d e l = absurd (omega (arith, l))

-- another number of parts
pub other_parts : (tokens : List Sign) (ss : List Span) (v : SymbolsValue) (ps : Parameters) (e : Sexp) → AllStand tokens ss (parts_of e) → (length ss ≡ 2 → ⊥) → next_parameter v ps e ≡ Err NotSupported
other_parts tokens ss v ps (atom k x) h n = refl
other_parts tokens ss v ps (group none) h n = refl
other_parts tokens ss v ps (group (more a none)) h n = refl
other_parts tokens [] v ps (group (more a (more b none))) h n = absurd h
other_parts tokens (s ∷ []) v ps (group (more a (more b none))) h n = absurd h.1
other_parts tokens (s ∷ t ∷ []) v ps (group (more a (more b none))) h n = absurd (n refl)
other_parts tokens (s ∷ t ∷ u ∷ ss) v ps (group (more a (more b none))) h n = absurd h.1.1
other_parts tokens ss v ps (group (more a (more b (more c es)))) h n = refl

-- tokens that are no word
pub no_parameter_name : (ps : Parameters) (ts : List Token) (n : Sexp) (s : Result Sort BuildFault) → signs_in ts ≡ spelling n → (length ts ≡ 1 → ⊥) → named_parameter ps n s ≡ Err NotSupported
no_parameter_name ps [] (atom k x) s e m = absurd (let z : ⊥ = cc in z)
no_parameter_name ps (t ∷ []) (atom k x) s e m = absurd (m refl)
no_parameter_name ps (t ∷ u ∷ ts) (atom k x) s e m = absurd (let z : ⊥ = cc in z)
no_parameter_name ps ts (group es) s e m = refl

pub parameter_named : (ps : Parameters) (ts : List Token) (d : Token) → 1 ≤ length ts → length ts < 2 → (n : Sexp) (s : Result Sort BuildFault) → signs_in ts ≡ spelling n → named_parameter ps n s ≡ new_parameter ps (get_or ts 0 d).text.now s
parameter_named ps ts d a b n s e = ap (λ m. named_parameter ps m s) (name_is ts d a b n e)

-- ---- the list

-- the fault of a part is that of the list
pub list_fails : (v : SymbolsValue) (tokens : List Sign) (spans : List Span) (i : ℕ) (d : Span) (now : Parameters) → i < length spans → Behind (next_parameter v) tokens spans [] i now → (x : BuildError) (new last : Parameters) (es : Sexps) → AllStand tokens spans es
    → ((e : Sexp) → Stands tokens (get_or spans i d) e → Lists (next_parameter v now e) (Err x) new) → Lists (over_parts (next_parameter v) [] es) (Err x) last
list_fails v tokens spans i d now lt b NoMemory new last es h f = tt
list_fails v tokens spans i d now lt b (Fault y) new last es h f = behind_fault (next_parameter v) tokens spans [] i d now lt b y es h f

-- a list, and no word
pub list_of : (ts : List Token) (e : Sexp) → signs_in ts ≡ spelling e → 2 ≤ length ts → (v : SymbolsValue) → parameters_in v e ≡ over_parts (next_parameter v) [] (parts_of e)
list_of ts (group es) l n v = refl
list_of [] (atom k x) l n v = absurd (omega (arith, n))
list_of (t ∷ []) (atom k x) l n v = absurd (omega (arith, n))
list_of (t ∷ u ∷ ts) (atom k x) l n v = absurd (let z : ⊥ = cc in z)

pub no_list : (ts : List Token) (e : Sexp) → signs_in ts ≡ spelling e → length ts < 2 → (v : SymbolsValue) → parameters_in v e ≡ Err NotSupported
no_list ts (atom k x) l lt v = refl
no_list [] (group es) l lt v = absurd (let z : ⊥ = cc in z)
no_list (t ∷ []) (group es) l lt v = absurd (not_end (spellings es) open_paren close_paren (sign_in t) [] (sym l))
no_list (t ∷ u ∷ ts) (group es) l lt v = absurd (omega arith)
