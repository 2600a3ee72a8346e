-- Levels that begin, and levels that end.
use Rattle.std.proofs.Common.{◌≡◌, ℕ, ◌+◌, ◌-◌, List, [], ◌∷◌, ◌++◌, length, take, refl, ap, sym, ◌∙◌, append_assoc, map, Some, None, Vec, Global}
use Rattle.std.proofs.Math.Seq.{take-append_seam}
use Rattle.std.specs.Prelude.{replicate, slice_get}
use Rattle.std.proofs.lemmas.List.{take-map, replicate-append-replicate}
use Rattle.smt_terms.specs.declared.sort.Sort.{Sort}
use Rattle.smt_build.specs.declared.definition.Definition.{Definition}
use Rattle.smt_build.specs.declared.symbols.LiveName.{LiveName}
use Rattle.smt_build.specs.declared.symbols.Level.{Level}
use Rattle.smt_build.specs.Names.{SymbolsValue, Meanings, AreNumbers, entry_of, named_number, popped, with_definition, with_definitions, with_sort}

-- so many copies were put at the end
pub record HasCopied (old now : List Level) (x : Level) (n : ℕ) : Type 0 where
  pub same : now ≡ old ++ replicate n x

pub copied_more : (old now new : List Level) (x : Level) (n : ℕ) → HasCopied old now x n → new ≡ now ++ x ∷ [] → HasCopied old new x (n + 1)
copied_more old now new x n h e = record { same = e ∙ ap (λ l. l ++ x ∷ []) h.same ∙ append_assoc old (replicate n x) (x ∷ []) ∙ ap (λ l. old ++ l) (replicate-append-replicate n 1 x) }

pub copied_cut : (old now new : List Level) (x : Level) (n len : ℕ) → HasCopied old now x n → len ≡ length old → new ≡ take len now → new ≡ old
copied_cut old now new x n len h l e = e ∙ rw (l, h.same) (take-append_seam old (replicate n x))

-- the names before a place, with their numbers
pub numbers_cut : (live more : List LiveName) (es new : List (Vec ℕ Global × ℕ)) (k : ℕ) → AreNumbers live es → more ≡ take k live → new ≡ take k es → AreNumbers more new
numbers_cut live more es new k h m n = record { same = rw (m, n) (sym (take-map entry_of k es) ∙ ap (take k) h.same ∙ take-map named_number k live) }

-- the meanings before a place
pub meanings_cut : {A : Type 0} (es new : List (Vec ℕ Global × A)) (k : ℕ) → new ≡ take k es → map entry_of new ≡ take k (map entry_of es)
meanings_cut es new k e = ap (map entry_of) e ∙ sym (take-map entry_of k es)

pub pops : (w v : SymbolsValue) (live : List LiveName) (definitions : Meanings Definition) (sorts : Meanings Sort) (levels : List Level) (n len : ℕ) (l : Level) → w ≡ v → len ≡ length w.levels - n → Some l ≡ slice_get w.levels len → live ≡ take l.names w.live → definitions ≡ take l.definitions w.definitions → sorts ≡ take l.sorts w.sorts → levels ≡ take len w.levels → ◌≡◌ {A = SymbolsValue} (record { live = live; signatures = w.signatures; definitions = definitions; sorts = sorts; levels = levels }) (popped v n)
pops w v live definitions sorts levels n len l e k s a b c d = (rw (a, b, c, d, ← k, ← s) refl) ∙ ap (λ u. popped u n) e

pub pops_none : (w v : SymbolsValue) (n len : ℕ) → w ≡ v → len ≡ length w.levels - n → None ≡ slice_get w.levels len → v ≡ popped v n
pops_none w v n len e l s = sym e ∙ (rw (← l, ← s) refl) ∙ ap (λ u. popped u n) e

pub defined : (w v : SymbolsValue) (definitions : Meanings Definition) (x : List ℕ) (f : Definition) → w ≡ v → definitions ≡ w.definitions ++ (x, f) ∷ [] → ◌≡◌ {A = SymbolsValue} (record { live = w.live; signatures = w.signatures; definitions = definitions; sorts = w.sorts; levels = w.levels }) (with_definition v x f)
defined w v definitions x f e h = rw h (ap (λ u. with_definition u x f) e)

pub sort_defined : (w v : SymbolsValue) (sorts : Meanings Sort) (x : List ℕ) (s : Sort) → w ≡ v → sorts ≡ w.sorts ++ (x, s) ∷ [] → ◌≡◌ {A = SymbolsValue} (record { live = w.live; signatures = w.signatures; definitions = w.definitions; sorts = sorts; levels = w.levels }) (with_sort v x s)
sort_defined w v sorts x s e h = rw h (ap (λ u. with_sort u x s) e)

pub definitions_cut : (w v : SymbolsValue) (definitions : Meanings Definition) (n : ℕ) → w ≡ v → definitions ≡ take n w.definitions → ◌≡◌ {A = SymbolsValue} (record { live = w.live; signatures = w.signatures; definitions = definitions; sorts = w.sorts; levels = w.levels }) (with_definitions v n)
definitions_cut w v definitions n e h = rw h (ap (λ u. with_definitions u n) e)
