-- A count of open parentheses over the tokens is the depth.
use Rattle.std.proofs.Common.{◌≡◌, ℕ, ◌+◌, ◌-◌, ◌<◌, ◌≤◌, max, List, [], ◌∷◌, ◌++◌, length, get_or, drop, ◌∙◌, subst, arith, append_assoc, append-nil}
use Rattle.std.proofs.lemmas.List.{drop_more, drop_all}
use Rattle.smt_text.specs.declared.token.Token.{Token}
use Rattle.smt_syntax.specs.Sexps.{Sign, open_paren, close_paren, word, Sexp, Sexps, atom, group, none, more, spelling, spellings, sign_by, signs_in}
use Rattle.smt_syntax.specs.Depth.{depth, depths, most_open, open_after}

at_least : (n : ℕ) (ls : List Sign) → n ≤ most_open n ls
unfolding most_open
at_least n [] = omega arith
at_least n (open_paren ∷ ls) = omega (arith, at_least (n + 1) ls)
at_least n (close_paren ∷ ls) = omega arith
at_least n (word k text ∷ ls) = at_least n ls

mutual
  unfolding most_open depth depths

  pub most_open-spelling : (n : ℕ) (e : Sexp) (rest : List Sign) → most_open n (spelling e ++ rest) ≡ max (n + depth e) (most_open n rest)
  most_open-spelling n (atom k text) rest = omega (arith, at_least n rest)
  most_open-spelling n (group es) rest =
      rw (append_assoc (spellings es) (close_paren ∷ []) rest)
      (most_open-spellings (n + 1) es (close_paren ∷ rest) ∙ (let k : n + 1 - 1 ≡ n = omega arith in rw k (omega (arith, at_least n rest))))

  pub most_open-spellings : (n : ℕ) (es : Sexps) (rest : List Sign) → most_open n (spellings es ++ rest) ≡ max (n + depths es) (most_open n rest)
  most_open-spellings n none rest = omega (arith, at_least n rest)
  most_open-spellings n (more e es) rest =
      rw (append_assoc (spelling e) (spellings es) rest)
      (most_open-spelling n e (spellings es ++ rest) ∙ omega (arith, most_open-spellings n es rest))

-- the count over all of the tokens is the depth
pub most_open-all : (e : Sexp) → most_open 0 (spelling e) ≡ depth e
unfolding most_open
most_open-all e = subst (λ (ls : List Sign). most_open 0 ls ≡ depth e) (append-nil (spelling e)) (most_open-spelling 0 e [] ∙ omega arith)

-- what the loop over the tokens has counted
pub record Counted (tokens : List Token) (i depth most : ℕ) : Type 0 where
  pub same : most_open 0 (signs_in tokens) ≡ max most (most_open depth (signs_in (drop i tokens)))
  pub below : depth ≤ most
  pub small : depth ≤ i

pub counted_none : (tokens : List Token) → Counted tokens 0 0 0
counted_none tokens = record { same = omega arith; below = omega arith; small = omega arith }

counted_sign : (most depth : ℕ) (l : Sign) (ls : List Sign) → depth ≤ most → max most (most_open depth (l ∷ ls)) ≡ max (max most (open_after depth l)) (most_open (open_after depth l) ls)
unfolding most_open
counted_sign most depth open_paren ls h = omega (arith, at_least (depth + 1) ls)
counted_sign most depth close_paren ls h = omega arith
counted_sign most depth (word k x) ls h = omega arith

pub open_small : (depth i : ℕ) (l : Sign) → depth ≤ i → open_after depth l ≤ i + 1
open_small depth i open_paren h = omega arith
open_small depth i close_paren h = omega arith
open_small depth i (word k x) h = omega arith

pub counted_more : (tokens : List Token) (i depth most : ℕ) (d : Token) (after greatest : ℕ) → i < length tokens → Counted tokens i depth most → after ≡ open_after depth (sign_by (get_or tokens i d).kind (get_or tokens i d).text.now) → greatest ≡ max most after → Counted tokens (i + 1) after greatest
counted_more tokens i depth most d after greatest h c e f =
    let l = sign_by (get_or tokens i d).kind (get_or tokens i d).text.now in
    record {
      same = c.same ∙ rw (drop_more tokens i d h, f, e) (counted_sign most depth l (signs_in (drop (i + 1) tokens)) c.below);
      below = omega (arith, f);
      small = rw e (open_small depth i l c.small);
    }

pub counted_all : (tokens : List Token) (i depth most : ℕ) → length tokens ≤ i → Counted tokens i depth most → most ≡ most_open 0 (signs_in tokens)
unfolding most_open
counted_all tokens i depth most h c = let e = rw (drop_all i tokens h) at c.same in omega (arith, e, c.below)
