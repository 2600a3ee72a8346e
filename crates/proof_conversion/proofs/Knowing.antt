-- What is known of the lines that were read.
use Rattle.std.proofs.Common.{◌≡◌, ℕ, zero, suc, List, [], ◌∷◌, ◌++◌, length, map, refl, sym, ap, subst, ◌∙◌, arith, append_assoc, append-nil, Some}
use Rattle.std.proofs.lemmas.List.{length-append, length-map, length-set}
use Rattle.std.proofs.lemmas.List.Concat.{flat_map-append}
use Rattle.std.specs.List.{flat_map, AllByRecursion}
use Rattle.cnf_base.proofs.Lists.{each_front, each_behind}
use Rattle.proof_text.specs.Lines.{IsLine}
use Rattle.proof_text.specs.declared.line.Line.{Line}
use Rattle.proof_conversion.specs.declared.kind.Owed.{Owed}
use Rattle.proof_conversion.specs.declared.kind.Owed.TheVariants as owed
use Rattle.proof_conversion.specs.Parts.{kind_of, owed_behind}
use Rattle.proof_conversion.specs.Needs.{Known, nothing_known, Knows, known_with, needs, mark, mark_all, part_in, step_in, whole_with, open_with}

-- one line more
pub knows_more : (k : Known) (ls : List Line) (m : Known) (l : Line) (o : Owed) → Knows k ls m → owed_behind m.owed (kind_of l) ≡ Some o → Knows k (ls ++ l ∷ []) (known_with m l o)
knows_more k [] m l o e h = (o, ap (λ (x : Known). owed_behind x.owed (kind_of l)) e ∙ h, ap (λ (x : Known). known_with x l o) e)
knows_more k (x ∷ ls) m l o w h = (w.0, w.1, knows_more (known_with k x w.0) ls m l o w.2 h)

-- ---- as many notes as steps

length_mark : (part p : ℕ) (last : List ℕ) → length (mark part p last) ≡ length last
length_mark part zero last = refl
length_mark part (suc p) last = length-set last p part

pub length_marked : (part : ℕ) (ps last : List ℕ) → length (mark_all part ps last) ≡ length last
length_marked part [] last = refl
length_marked part (p ∷ ps) last = length_marked part ps (mark part p last) ∙ length_mark part p last

pub lengths_with : (k : Known) (l : Line) (o : Owed) → length k.steps ≡ length k.last → length (known_with k l o).steps ≡ length (known_with k l o).last
lengths_with k l o e =
    let xs = step_in (kind_of l) l in
    let a = length-append k.steps xs in
    let b = length-append (mark_all (part_in k) (needs k.steps l) k.last) (map (λ (s : Line). part_in k) xs) in
    let c = length-map xs (λ (s : Line). part_in k) in
    let d = length_marked (part_in k) (needs k.steps l) k.last in
    omega arith

pub same_lengths : (k : Known) (ls : List Line) (m : Known) → Knows k ls m → length k.steps ≡ length k.last → length m.steps ≡ length m.last
same_lengths k [] m w e = subst (λ (x : Known). length x.steps ≡ length x.last) w e
same_lengths k (l ∷ ls) m w e = same_lengths (known_with k l w.0) ls m w.2 (lengths_with k l w.0 e)

-- ---- the lines of the parts are those that were read

abbrev pub concat : List (List Line) → List Line
concat parts = flat_map (λ (ls : List Line). ls) parts

abbrev pub all_in : Known → List Line
all_in k = concat k.parts ++ k.opened

concat_one : (parts : List (List Line)) (part : List Line) → concat (parts ++ part ∷ []) ++ [] ≡ concat parts ++ part
concat_one parts part =
    append-nil (concat (parts ++ part ∷ [])) ∙ flat_map-append (λ (ls : List Line). ls) parts (part ∷ []) ∙ ap (λ (x : List Line). concat parts ++ x) (append-nil part)

all_with : (parts : List (List Line)) (part : List Line) (o : Owed) → concat (whole_with o parts part) ++ open_with o part ≡ concat parts ++ part
all_with parts part owed.Nothing = concat_one parts part
all_with parts part owed.Steps = refl
all_with parts part (owed.Values n) = refl
all_with parts part (owed.Notes n) = refl

pub lines_kept : (k : Known) (ls : List Line) (m : Known) → Knows k ls m → all_in m ≡ all_in k ++ ls
lines_kept k [] m w = ap (λ (x : Known). all_in x) (sym w) ∙ sym (append-nil (all_in k))
lines_kept k (l ∷ ls) m w =
    lines_kept (known_with k l w.0) ls m w.2
    ∙ ap (λ (x : List Line). x ++ ls) (all_with k.parts (k.opened ++ l ∷ []) w.0 ∙ sym (append_assoc (concat k.parts) k.opened (l ∷ [])))
    ∙ append_assoc (all_in k) (l ∷ []) ls

each_part : (parts : List (List Line)) → AllByRecursion IsLine (concat parts) → AllByRecursion (λ (ls : List Line). AllByRecursion IsLine ls) parts
each_part [] h = tt
each_part (ls ∷ parts) h = (each_front IsLine ls (concat parts) h, each_part parts (each_behind IsLine ls (concat parts) h))

-- each line of a part can be read
pub parts_readable : (ls : List Line) (m : Known) → Knows nothing_known ls m → AllByRecursion IsLine ls → AllByRecursion (λ (part : List Line). AllByRecursion IsLine part) m.parts
parts_readable ls m w h = each_part m.parts (each_front IsLine (concat m.parts) m.opened (subst (AllByRecursion IsLine) (sym (lines_kept nothing_known ls m w)) h))
