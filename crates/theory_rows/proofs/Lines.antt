-- The text of changed lines.
use Rattle.std.proofs.Common.{◌≡◌, ℕ, ◌+◌, ◌-◌, List, [], ◌∷◌, ◌++◌, length, take, drop, map, sym, ap, ◌∙◌}
use Rattle.std.proofs.lemmas.List.{take-map, drop-map, take_rest}
use Rattle.std.proofs.lemmas.List.Concat.{flat_map-append}
use Rattle.theory_rows.specs.Rows.{lines_text, changed_lines}

lines_append : (xs ys : List (List ℕ)) → lines_text (xs ++ ys) ≡ lines_text xs ++ lines_text ys
lines_append xs ys = flat_map-append (λ l. l ++ 10 ∷ []) xs ys

-- the lines in front, the new ones and those behind are appended
module _ {A : Type 0} (text : A → List ℕ) (front count : ℕ) (proof new : List A) where
  front_text : lines_text (map text (take front proof)) ≡ lines_text (take front (map text proof))
  front_text = ap lines_text (sym (take-map text front proof))

  behind_text : lines_text (map text (take (length proof - (front + count)) (drop (front + count) proof))) ≡ lines_text (drop (front + count) (map text proof))
  behind_text = ap (λ ls. lines_text (map text ls)) (take_rest proof (front + count)) ∙ ap lines_text (sym (drop-map text (front + count) proof))

  pub changed_is : (t0 t1 t2 t3 : List ℕ) → t0 ≡ [] → t1 ≡ t0 ++ lines_text (map text (take front proof)) → t2 ≡ t1 ++ lines_text (map text new) → t3 ≡ t2 ++ lines_text (map text (take (length proof - (front + count)) (drop (front + count) proof))) → t3 ≡ lines_text (changed_lines front count (map text new) (map text proof))
  changed_is t0 t1 t2 t3 e0 e1 e2 e3 =
      let a = take front (map text proof) in
      let b = map text new in
      let c = drop (front + count) (map text proof) in
      e3 ∙ ap (λ t. t2 ++ t) behind_text ∙ ap (λ t. t ++ lines_text c) (e2 ∙ ap (λ t. t ++ lines_text b) (e1 ∙ ap (λ t. t ++ lines_text (map text (take front proof))) e0 ∙ front_text))
      ∙ sym (ap (λ t. t ++ lines_text c) (lines_append a b)) ∙ sym (lines_append (a ++ b) c)
