-- The parts, each behind its deletion.
use Rattle.std.proofs.Common.{◌≡◌, ℕ, zero, suc, ◌+◌, ◌<◌, ◌≤◌, List, [], ◌∷◌, ◌++◌, length, map, drop, get_or, refl, sym, ap, ap₂, subst, ◌∙◌, arith, append_assoc, append-nil, Bool, true, false}
use Rattle.std.specs.Prelude.{◌==◌}
use Rattle.std.proofs.lemmas.Bool.{eqb-true, eqb-false}
use Rattle.std.proofs.lemmas.List.{at_drop_more, at_drop_all}
use Rattle.std.proofs.lemmas.List.Concat.{flat_map-append}
use Rattle.std.specs.List.{flat_map, AllByRecursion}
use Rattle.cnf_base.proofs.Lists.{each_append}
use Rattle.proof_text.specs.Lines.{line_text, IsLine}
use Rattle.proof_text.specs.declared.line.Line.{Line}
use Rattle.proof_conversion.specs.Needs.{deletion, with_deletions}
use Rattle.proof_conversion.specs.Scans.{text_of}
use Rattle.proof_conversion.specs.Writing.{texts_behind}

-- the text of the lines is the texts of the parts
pub text_behind : (due other : ℕ → List ℕ) (part : ℕ) (parts : List (List Line)) → ((q : ℕ) → q < part + length parts → other q ≡ due q) → texts_behind other part (map text_of parts) ≡ flat_map line_text (with_deletions due part parts)
text_behind due other part [] h = refl
text_behind due other part (ls ∷ parts) h =
    let rest = text_behind due other (suc part) parts (λ q lt. h q (omega arith)) in
    let here = ap (λ (ps : List ℕ). flat_map line_text (deletion ps)) (h part (omega arith)) in
    ap₂ (λ (x y : List ℕ). (x ++ text_of ls) ++ y) here rest
    ∙ sym (flat_map-append line_text (deletion (due part) ++ ls) (with_deletions due (suc part) parts) ∙ ap (λ (x : List ℕ). x ++ flat_map line_text (with_deletions due (suc part) parts)) (flat_map-append line_text (deletion (due part)) ls))

-- each of the lines can be read
pub behind_readable : (due : ℕ → List ℕ) (part : ℕ) (parts : List (List Line)) → ((q : ℕ) → q < part + length parts → AllByRecursion IsLine (deletion (due q))) → AllByRecursion (λ (ls : List Line). AllByRecursion IsLine ls) parts → AllByRecursion IsLine (with_deletions due part parts)
behind_readable due part [] h a = tt
behind_readable due part (ls ∷ parts) h a =
    each_append IsLine (deletion (due part) ++ ls) (with_deletions due (suc part) parts) (each_append IsLine (deletion (due part)) ls (h part (omega arith)) a.0)
    (behind_readable due (suc part) parts (λ q lt. h q (omega arith)) a.1)

-- one part more was written
pub part_pushed : (due : ℕ → List ℕ) (texts : List (List ℕ)) (part : ℕ) (d out mid new all : List ℕ) → part < length texts → mid ≡ out ++ flat_map line_text (deletion (due part)) → new ≡ mid ++ get_or texts part d
    → out ++ texts_behind due part (drop part texts) ≡ all → new ++ texts_behind due (part + 1) (drop (part + 1) texts) ≡ all
part_pushed due texts part d out mid new all lt e f h =
    let here = at_drop_more (λ (ts : List (List ℕ)). out ++ texts_behind due part ts) texts part d lt in
    let line = flat_map line_text (deletion (due part)) in
    let t = get_or texts part d in
    let rest = texts_behind due (part + 1) (drop (part + 1) texts) in
    let next : texts_behind due (suc part) (drop (part + 1) texts) ≡ rest = ap (λ (n : ℕ). texts_behind due n (drop (part + 1) texts)) (let z : suc part ≡ part + 1 = omega arith in z) in
    ap (λ (x : List ℕ). x ++ rest) (f ∙ ap (λ (x : List ℕ). x ++ t) e ∙ append_assoc out line t)
    ∙ append_assoc out (line ++ t) rest ∙ ap (λ (x : List ℕ). out ++ ((line ++ t) ++ x)) (sym next) ∙ sym here ∙ h

pub parts_done : (due : ℕ → List ℕ) (texts : List (List ℕ)) (part : ℕ) (out all : List ℕ) → length texts ≤ part → out ++ texts_behind due part (drop part texts) ≡ all → out ≡ all
parts_done due texts part out all le h = sym (at_drop_all (λ (ts : List (List ℕ)). out ++ texts_behind due part ts) texts part le ∙ append-nil out) ∙ h

-- ---- the places of one part

same_at : {A : Type 0} (xs : List A) (i : ℕ) (d e : A) → i < length xs → get_or xs i d ≡ get_or xs i e
same_at [] i d e lt = let z : ⊥ = omega arith in absurd z
same_at (x ∷ xs) zero d e lt = refl
same_at (x ∷ xs) (suc i) d e lt = same_at xs i d e (omega arith)

pub places_at : (due : List (List ℕ)) (i : ℕ) (p q : List ℕ) → i < length due → p ≡ q → q ≡ get_or due i q → p ≡ get_or due i []
places_at due i p q lt e f = e ∙ f ∙ same_at due i q [] lt

-- one deletion more can be read
pub readable_more : (due : List (List ℕ)) (part : ℕ) (ps : List ℕ) → ps ≡ get_or due part [] → AllByRecursion IsLine (deletion ps) → ((p : ℕ) → p < part → AllByRecursion IsLine (deletion (get_or due p [])))
    → (p : ℕ) → p < part + 1 → AllByRecursion IsLine (deletion (get_or due p []))
readable_more due part ps e l h p lt = decided (p == part) refl
  where
    decided : (b : Bool) → (p == part) ≡ b → AllByRecursion IsLine (deletion (get_or due p []))
    decided true k = subst (λ (xs : List ℕ). AllByRecursion IsLine (deletion xs)) (e ∙ ap (λ (q : ℕ). get_or due q []) (sym (eqb-true p part k))) l
    decided false k = let ne = eqb-false p part k in h p (omega (arith, ne))
