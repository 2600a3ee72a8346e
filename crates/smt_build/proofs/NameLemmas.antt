-- What maps from names hold of a name.
use Rattle.std.proofs.Common.{◌≡◌, ℕ, Bool, true, false, cond, List, [], ◌∷◌, ◌++◌, map, refl, ap, sym, ◌∙◌, Option, Some, None, Vec, Global}
use Rattle.std.proofs.lemmas.List.{map-append}
use Rattle.std.specs.Str.{bytes_eq}
use Rattle.std.specs.Map.{lookup}
use Rattle.indexmap.specs.IndexMap.{insert_entry}
use Rattle.smt_build.specs.declared.symbols.LiveName.{LiveName}
use Rattle.smt_build.specs.Names.{Meanings, AreNumbers, entry_of, named_number, declaration_of, meaning_in}

abbrev Entry : Type 0 → Type 0
Entry A = Vec ℕ Global × A

module _ {A : Type 0} where
  -- a map of keys looks a name up as the list of its meanings does
  pub lookup-meaning : (name : List ℕ) (es : List (Entry A)) → lookup (λ k. bytes_eq name k.items) es ≡ meaning_in (map entry_of es) name
  lookup-meaning name [] = refl
  lookup-meaning name (e ∷ es) = ap (λ r. cond (bytes_eq name e.0.items) (Some e.1) r) (lookup-meaning name es)

  -- one entry before the others
  put_cons : (test : Bool) (k : Vec ℕ Global) (d : A) (e : Entry A) (es put : List (Entry A)) (rest : Meanings A) (found : Option A)
      → (found ≡ None → map entry_of put ≡ rest ++ (k.items, d) ∷ []) → cond test (Some e.1) found ≡ None
      → map entry_of (cond test ((e.0, d) ∷ es) (e ∷ put)) ≡ entry_of e ∷ rest ++ (k.items, d) ∷ []
  put_cons true k d e es put rest found h n = cc
  put_cons false k d e es put rest found h n = ap (λ l. entry_of e ∷ l) (h n)

  put_last : (k : Vec ℕ Global) (d : A) (es : List (Entry A)) → meaning_in (map entry_of es) k.items ≡ None → map entry_of (insert_entry (λ x y. bytes_eq x.items y.items) es k d) ≡ map entry_of es ++ (k.items, d) ∷ []
  put_last k d [] n = refl
  put_last k d (e ∷ es) n = put_cons (bytes_eq k.items e.0.items) k d e es _ (map entry_of es) (meaning_in (map entry_of es) k.items) (put_last k d es) n

  -- a new name is put last
  pub meaning_put : (k : Vec ℕ Global) (d : A) (name : List ℕ) (es new : List (Entry A)) → k.items ≡ name → meaning_in (map entry_of es) name ≡ None → new ≡ insert_entry (λ x y. bytes_eq x.items y.items) es k d → map entry_of new ≡ map entry_of es ++ (name, d) ∷ []
  meaning_put k d name es new q n e = ap (map entry_of) e ∙ put_last k d es (ap (meaning_in (map entry_of es)) q ∙ n) ∙ ap (λ x. map entry_of es ++ (x, d) ∷ []) q

-- ---- declarations

of_live : (name : List ℕ) (live : List LiveName) → declaration_of live name ≡ meaning_in (map named_number live) name
of_live name [] = refl
of_live name (l ∷ ls) = ap (λ r. cond (bytes_eq name l.name) (Some l.declaration) r) (of_live name ls)

pub lookup-declaration : (name : List ℕ) (live : List LiveName) (es : List (Entry ℕ)) → AreNumbers live es → lookup (λ k. bytes_eq name k.items) es ≡ declaration_of live name
lookup-declaration name live es h = lookup-meaning name es ∙ ap (λ ps. meaning_in ps name) h.same ∙ sym (of_live name live)

pub numbers_put : (k : Vec ℕ Global) (d : ℕ) (name : List ℕ) (live more : List LiveName) (es new : List (Entry ℕ)) → AreNumbers live es → k.items ≡ name → declaration_of live name ≡ None → more ≡ live ++ record { name = name; declaration = d } ∷ [] → new ≡ insert_entry (λ x y. bytes_eq x.items y.items) es k d → AreNumbers more new
numbers_put k d name live more es new h q n m e = record {
  same =
      let none : meaning_in (map entry_of es) name ≡ None = ap (λ ps. meaning_in ps name) h.same ∙ sym (of_live name live) ∙ n in
      rw m (meaning_put k d name es new q none e ∙ ap (λ l. l ++ (name, d) ∷ []) h.same ∙ sym (map-append named_number live (record { name = name; declaration = d } ∷ [])));
}
