-- Tokens are one list in parentheses exactly where they spell one.
use Rattle.std.proofs.Common.{◌≡◌, ℕ, zero, suc, ◌+◌, ◌-◌, ◌<◌, ◌≤◌, true, false, List, [], ◌∷◌, ◌++◌, length, get_or, drop, refl, ap, sym, ◌∙◌, append_assoc, add-one, arith}
use Rattle.std.specs.Prelude.{◌==◌}
use Rattle.std.proofs.lemmas.Bool.{false≢true}
use Rattle.std.proofs.lemmas.Bool.Decides.{nat_tests}
use Rattle.std.proofs.lemmas.List.{drop_more, drop_all}
use Rattle.smt_text.specs.declared.token.Token.{Token}
use Rattle.smt_syntax.specs.Sexps.{Sign, open_paren, close_paren, word, Sexp, Sexps, atom, group, none, more, spelling, spellings, signs_in, sign_by}
use Rattle.smt_syntax.specs.Depth.{open_after}
use Rattle.smt_syntax.proofs.Depths.{open_small}
use Rattle.script_state.specs.Readings.{closes, is_list, SpellNoList}

-- each of the open lists ends
abbrev Closed : ℕ → List Sign → Type 0
Closed zero ts = ts ≡ []
Closed (suc n) ts = (es : Sexps) × (rest : List Sign) × (ts ≡ spellings es ++ close_paren ∷ rest) × Closed n rest

join : (es fs : Sexps) (rest : List Sign) → spellings es ++ close_paren ∷ (spellings fs ++ close_paren ∷ rest) ≡ ((spellings es ++ close_paren ∷ []) ++ spellings fs) ++ close_paren ∷ rest
join es fs rest = sym (append_assoc (spellings es ++ close_paren ∷ []) (spellings fs) (close_paren ∷ rest) ∙ append_assoc (spellings es) (close_paren ∷ []) (spellings fs ++ close_paren ∷ rest))

closed : (n : ℕ) (ts : List Sign) → closes n ts ≡ true → Closed n ts
unfolding closes
closed zero [] h = refl
closed zero (l ∷ ls) h = absurd (false≢true h)
closed (suc n) [] h = absurd (false≢true h)
closed (suc n) (open_paren ∷ ls) h =
    let inner = closed (suc (suc n)) ls h in
    let outer = inner.3 in
    (more (group inner.0) outer.0, outer.1, ap (λ r. open_paren ∷ r) (inner.2 ∙ ap (λ r. spellings inner.0 ++ close_paren ∷ r) outer.2 ∙ join inner.0 outer.0 outer.1), outer.3)
closed (suc n) (close_paren ∷ ls) h = (none, ls, refl, closed n ls h)
closed (suc n) (word k x ∷ ls) h =
    let tail = closed (suc n) ls h in
    (more (atom k x) tail.0, tail.1, ap (λ r. word k x ∷ r) tail.2, tail.3)

-- one list in parentheses is spelled
pub spells_list : (ts : List Sign) → is_list ts ≡ true → (es : Sexps) × (ts ≡ spelling (group es))
unfolding is_list
spells_list [] h = absurd (false≢true h)
spells_list (open_paren ∷ ls) h =
    let inner = closed 1 ls h in
    (inner.0, ap (λ r. open_paren ∷ r) (inner.2 ∙ ap (λ r. spellings inner.0 ++ close_paren ∷ r) inner.3))
spells_list (close_paren ∷ ls) h = absurd (false≢true h)
spells_list (word k x ∷ ls) h = absurd (false≢true h)

mutual
  unfolding closes

  closes-spelling : (n : ℕ) (e : Sexp) (rest : List Sign) → closes (suc n) (spelling e ++ rest) ≡ closes (suc n) rest
  closes-spelling n (atom k x) rest = refl
  closes-spelling n (group es) rest = ap (closes (suc (suc n))) (append_assoc (spellings es) (close_paren ∷ []) rest) ∙ closes-spellings (suc n) es (close_paren ∷ rest)

  closes-spellings : (n : ℕ) (es : Sexps) (rest : List Sign) → closes (suc n) (spellings es ++ rest) ≡ closes (suc n) rest
  closes-spellings n none rest = refl
  closes-spellings n (more e es) rest = ap (closes (suc n)) (append_assoc (spelling e) (spellings es) rest) ∙ closes-spelling n e (spellings es ++ rest) ∙ closes-spellings n es rest

listed : (es : Sexps) → is_list (spelling (group es)) ≡ true
unfolding closes is_list
listed es = closes-spellings 0 es (close_paren ∷ [])

-- what is no list in parentheses spells none
pub spells_no_list : (ts : List Sign) → is_list ts ≡ false → SpellNoList ts
spells_no_list ts h es e = false≢true (sym h ∙ ap is_list e ∙ listed es)

-- ---- the loop over the tokens

closes_step : (depth : ℕ) (l : Sign) (ls : List Sign) → 0 < depth → closes depth (l ∷ ls) ≡ closes (open_after depth l) ls
unfolding closes
closes_step zero l ls h = absurd (omega (arith, h))
closes_step (suc n) open_paren ls h = rw add-one refl
closes_step (suc n) close_paren ls h = let e : suc n - 1 ≡ n = omega arith in rw e refl
closes_step (suc n) (word k x) ls h = refl

-- what the loop over the tokens has seen
pub record Seen (tokens : List Token) (i depth : ℕ) : Type 0 where
  pub same : closes 1 (signs_in tokens) ≡ closes depth (signs_in (drop i tokens))
  pub small : depth ≤ i + 1

pub seen_none : (tokens : List Token) → Seen tokens 0 1
seen_none tokens = record { same = refl; small = omega arith }

pub seen_more : (tokens : List Token) (i depth : ℕ) (d : Token) (after : ℕ) → i < length tokens → Seen tokens i depth → 0 < depth → after ≡ open_after depth (sign_by (get_or tokens i d).kind (get_or tokens i d).text.now) → Seen tokens (i + 1) after
seen_more tokens i depth d after h c positive e =
    let l = sign_by (get_or tokens i d).kind (get_or tokens i d).text.now in
    record {
      same = c.same ∙ rw (drop_more tokens i d h, e) (closes_step depth l (signs_in (drop (i + 1) tokens)) positive);
      small = rw e (open_small depth (i + 1) l c.small);
    }

some_left : {X : Type 0} (xs : List X) (i : ℕ) → i < length xs → (x : X) × (ys : List X) × (drop i xs ≡ x ∷ ys)
some_left [] i h = absurd (omega (arith, h))
some_left (x ∷ xs) zero h = (x, xs, refl)
some_left (x ∷ xs) (suc i) h = some_left xs i (omega (arith, h))

-- where tokens are left and none is open
pub seen_early : (tokens : List Token) (i depth : ℕ) → i < length tokens → Seen tokens i depth → depth ≡ 0 → false ≡ closes 1 (signs_in tokens)
unfolding closes
seen_early tokens i depth h c e = let left = some_left tokens i h in sym (c.same ∙ rw (e, left.2) refl)

closes_end : (depth : ℕ) → (depth == 0) ≡ closes depth []
unfolding closes
closes_end zero = refl
closes_end (suc n) = grind (arith, nat_tests)

pub seen_all : (tokens : List Token) (i depth : ℕ) → length tokens ≤ i → Seen tokens i depth → (depth == 0) ≡ closes 1 (signs_in tokens)
seen_all tokens i depth h c = closes_end depth ∙ sym (rw (drop_all i tokens h) at c.same)
