-- The search for the end of a string.
use Rattle.std.proofs.Common.{◌≡◌, ◌≢◌, ℕ, ◌+◌, ◌<◌, ◌≤◌, true, false, List, [], ◌∷◌, length, get_or, drop, refl, ap, sym, ◌∙◌, arith, eqb, eq-eqb, Option, Some, None}
use Rattle.std.specs.Option.{option_map}
use Rattle.std.proofs.lemmas.Bool.{ne_eqb}
use Rattle.std.proofs.lemmas.List.{drop_more, drop_all}
use Rattle.smt_text.specs.Lexicon.{string_end}

shift : (i k : ℕ) (o : Option ℕ) → option_map (λ n. i + n) (option_map (λ n. n + k) o) ≡ option_map (λ n. i + k + n) o
shift i k None = refl
shift i k (Some n) = ap Some (omega arith)

pub end_other : (b : ℕ) (bs : List ℕ) → eqb b 34 ≡ false → string_end (b ∷ bs) ≡ option_map (λ n. n + 1) (string_end bs)
unfolding string_end
end_other b [] e = rw e refl
end_other b (c ∷ bs) e = rw e refl

end_pair : (b c : ℕ) (bs : List ℕ) → eqb b 34 ≡ true → eqb c 34 ≡ true → string_end (b ∷ c ∷ bs) ≡ option_map (λ n. n + 2) (string_end bs)
unfolding string_end
end_pair b c bs e f = rw (e, f) refl

end_last : (b : ℕ) → eqb b 34 ≡ true → string_end (b ∷ []) ≡ Some 0
unfolding string_end
end_last b e = rw e refl

end_here : (b c : ℕ) (bs : List ℕ) → eqb b 34 ≡ true → eqb c 34 ≡ false → string_end (b ∷ c ∷ bs) ≡ Some 0
unfolding string_end
end_here b c bs e f = rw (e, f) refl

module _ (bytes : List ℕ) (i : ℕ) (w : string_end bytes ≡ option_map (λ n. i + n) (string_end (drop i bytes))) (h : i < length bytes) where
  pub passes_other : get_or bytes i 0 ≢ 34 → string_end bytes ≡ option_map (λ n. i + 1 + n) (string_end (drop (i + 1) bytes))
  passes_other n = w ∙ rw (drop_more bytes i 0 h, end_other (get_or bytes i 0) (drop (i + 1) bytes) (ne_eqb _ _ n)) (shift i 1 _)

  pub passes_pair : i + 1 < length bytes → get_or bytes i 0 ≡ 34 → get_or bytes (i + 1) 0 ≡ 34 → string_end bytes ≡ option_map (λ n. i + 2 + n) (string_end (drop (i + 2) bytes))
  passes_pair k b c =
      let more : drop (i + 1) bytes ≡ get_or bytes (i + 1) 0 ∷ drop (i + 2) bytes = drop_more bytes (i + 1) 0 k ∙ ap (λ j. get_or bytes (i + 1) 0 ∷ drop j bytes) (omega arith) in
      w ∙ rw (drop_more bytes i 0 h, more, end_pair (get_or bytes i 0) (get_or bytes (i + 1) 0) (drop (i + 2) bytes) (eq-eqb _ _ b) (eq-eqb _ _ c)) (shift i 2 _)

  pub ends_here : i + 1 < length bytes → get_or bytes i 0 ≡ 34 → get_or bytes (i + 1) 0 ≢ 34 → Some i ≡ string_end bytes
  ends_here k b c = sym (w ∙ rw (drop_more bytes i 0 h, drop_more bytes (i + 1) 0 k, end_here (get_or bytes i 0) (get_or bytes (i + 1) 0) (drop (i + 1 + 1) bytes) (eq-eqb _ _ b) (ne_eqb _ _ c)) (ap Some (omega arith)))

  pub ends_last : length bytes ≤ i + 1 → get_or bytes i 0 ≡ 34 → Some i ≡ string_end bytes
  ends_last k b = sym (w ∙ rw (drop_more bytes i 0 h, drop_all (i + 1) bytes k, end_last (get_or bytes i 0) (eq-eqb _ _ b)) (ap Some (omega arith)))

pub no_end : (bytes : List ℕ) (i : ℕ) → string_end bytes ≡ option_map (λ n. i + n) (string_end (drop i bytes)) → length bytes ≤ i → None ≡ string_end bytes
unfolding string_end
no_end bytes i w h = sym (w ∙ rw (drop_all i bytes h) refl)
