-- The parts that a count of open parentheses cuts are the S-expressions of the list.
use Rattle.std.proofs.Common.{◌≡◌, ℕ, suc, ◌+◌, ◌-◌, ◌<◌, ◌≤◌, Bool, true, false, cond, List, [], ◌∷◌, ◌++◌, length, get_or, take, drop, refl, ap, sym, ◌∙◌, arith, append_assoc, append-nil, length-append, eqb, Some, None}
use Rattle.std.specs.Prelude.{option_to_list}
use Rattle.std.proofs.lemmas.Bool.{ne_eqb}
use Rattle.std.proofs.lemmas.List.{drop_more, drop_all, drop-drop, length-drop, take-append-drop, take-map, drop-map}
use Rattle.std.proofs.Math.Seq.{take-append_seam, drop-append_seam}
use Rattle.smt_text.specs.declared.token.Token.{Token}
use Rattle.smt_text.specs.declared.token.TokenKind.{TokenKind}
use Rattle.smt_syntax.specs.declared.span.Span.{Span}
use Rattle.smt_syntax.specs.declared.parts.CutStep.{CutStep}
use Rattle.smt_syntax.specs.Sexps.{Sign, open_paren, close_paren, word, Sexp, Sexps, atom, group, none, more, spelling, spellings, sign_by, sign_in, signs_in}
use Rattle.smt_syntax.specs.Spans.{span, spans_from, tokens_at, IsWithin, Stands, AllStand, cut_step, cut}

-- ---- the parts

cut_next : (place begun depth : ℕ) (l : Sign) (ls : List Sign) (s : CutStep) → cut_step place begun depth l ≡ s → cut place begun depth (l ∷ ls) ≡ option_to_list s.found ++ cut (place + 1) s.begun s.depth ls
unfolding cut
cut_next place begun depth l ls s e = rw e refl

within_open : (place begun depth : ℕ) (ls : List Sign) → cut place begun (suc depth) (open_paren ∷ ls) ≡ cut (place + 1) begun (suc (suc depth)) ls
within_open place begun depth ls =
    cut_next place begun (suc depth) open_paren ls (record { found = None; begun = begun; depth = suc depth + 1 }) (rw (ne_eqb (suc depth) 0 (λ e. omega (arith, e))) refl)
    ∙ ap (λ d. cut (place + 1) begun d ls) (omega arith)

within_word : (place begun depth : ℕ) (k : TokenKind) (x : List ℕ) (ls : List Sign) → cut place begun (suc depth) (word k x ∷ ls) ≡ cut (place + 1) begun (suc depth) ls
within_word place begun depth k x ls =
    cut_next place begun (suc depth) (word k x) ls (record { found = None; begun = begun; depth = suc depth }) (rw (ne_eqb (suc depth) 0 (λ e. omega (arith, e))) refl)

within_close : (place begun depth : ℕ) (ls : List Sign) → cut place begun (suc (suc depth)) (close_paren ∷ ls) ≡ cut (place + 1) begun (suc depth) ls
within_close place begun depth ls =
    cut_next place begun (suc (suc depth)) close_paren ls (record { found = None; begun = begun; depth = suc (suc depth) - 1 }) (rw (ne_eqb (suc (suc depth)) 1 (λ e. omega (arith, e))) refl)
    ∙ ap (λ d. cut (place + 1) begun d ls) (omega arith)

at_place : (m n begun depth : ℕ) (ls : List Sign) → m ≡ n → cut m begun depth ls ≡ cut n begun depth ls
at_place m n begun depth ls e = ap (λ p. cut p begun depth ls) e

length_group : (es : Sexps) → length (spelling (group es)) ≡ length (spellings es) + 2
length_group es = omega (arith, length-append (spellings es) (close_paren ∷ []))

-- within a list no part is found
mutual
  within : (place begun depth : ℕ) (e : Sexp) (rest : List Sign) → cut place begun (suc depth) (spelling e ++ rest) ≡ cut (place + length (spelling e)) begun (suc depth) rest
  within place begun depth (atom k x) rest = within_word place begun depth k x rest
  within place begun depth (group es) rest =
      ap (λ (ls : List Sign). cut place begun (suc depth) (open_paren ∷ ls)) (append_assoc (spellings es) (close_paren ∷ []) rest)
      ∙ within_open place begun depth (spellings es ++ close_paren ∷ rest)
      ∙ within_all (place + 1) begun (suc depth) es (close_paren ∷ rest)
      ∙ within_close (place + 1 + length (spellings es)) begun depth rest
      ∙ at_place _ _ begun (suc depth) rest (omega (arith, length_group es))

  within_all : (place begun depth : ℕ) (es : Sexps) (rest : List Sign) → cut place begun (suc depth) (spellings es ++ rest) ≡ cut (place + length (spellings es)) begun (suc depth) rest
  within_all place begun depth none rest = at_place _ _ begun (suc depth) rest (omega arith)
  within_all place begun depth (more e es) rest =
      ap (λ (ls : List Sign). cut place begun (suc depth) ls) (append_assoc (spelling e) (spellings es) rest)
      ∙ within place begun depth e (spellings es ++ rest)
      ∙ within_all (place + length (spelling e)) begun depth es rest
      ∙ at_place _ _ begun (suc depth) rest (omega (arith, length-append (spelling e) (spellings es)))

-- outside, each part is found
pub cut_all : (place begun : ℕ) (es : Sexps) → cut place begun 0 (spellings es) ≡ spans_from place es
unfolding cut
cut_all place begun none = refl
cut_all place begun (more (atom k x) es) = ap (λ (ss : List Span). span place (place + 1) ∷ ss) (cut_all (place + 1) begun es)
cut_all place begun (more (group xs) es) =
    ap (λ (ls : List Sign). cut (place + 1) place 1 ls) (append_assoc (spellings xs) (close_paren ∷ []) (spellings es))
    ∙ within_all (place + 1) place 0 xs (close_paren ∷ spellings es)
    ∙ cut_next (place + 1 + length (spellings xs)) place 1 close_paren (spellings es) (record { found = Some (span place (place + 1 + length (spellings xs) + 1)); begun = place; depth = 0 }) refl
    ∙ ap (λ (ss : List Span). span place (place + 1 + length (spellings xs) + 1) ∷ ss) (cut_all (place + 1 + length (spellings xs) + 1) place es)
    ∙ ap (λ n. span place n ∷ spans_from n es) (omega (arith, length_group xs))

-- ---- where they stand

behind : (tokens : List Sign) (p : ℕ) (e : Sexp) (rest : List Sign) → p ≤ length tokens → drop p tokens ≡ spelling e ++ rest → Stands tokens (span p (p + length (spelling e))) e
behind tokens p e rest h d =
    let len = length (spelling e) in
    let long : length tokens - p ≡ len + length rest = sym (length-drop p tokens) ∙ ap length d ∙ length-append (spelling e) rest in
    let size : p + len - p ≡ len = omega arith in
    record {
      within = record { ordered = omega arith; ends = omega (arith, long) };
      spelled = rw (size, d) (take-append_seam (spelling e) rest);
    }

-- the parts of a list that stands behind p tokens
pub all_stand : (tokens : List Sign) (p : ℕ) (es : Sexps) (rest : List Sign) → p ≤ length tokens → drop p tokens ≡ spellings es ++ rest → AllStand tokens (spans_from p es) es
all_stand tokens p none rest h d = tt
all_stand tokens p (more e es) rest h d =
    let len = length (spelling e) in
    let here : drop p tokens ≡ spelling e ++ (spellings es ++ rest) = d ∙ append_assoc (spelling e) (spellings es) rest in
    let there : drop (p + len) tokens ≡ spellings es ++ rest = sym (drop-drop len p tokens) ∙ ap (drop len) here ∙ drop-append_seam (spelling e) (spellings es ++ rest) in
    let first = behind tokens p e (spellings es ++ rest) h here in
    (first, all_stand tokens (p + len) es rest first.within.ends there)

-- the tokens of a span, and their signs
pub signs_at : (tokens : List Token) (start end : ℕ) → signs_in (take (end - start) (drop start tokens)) ≡ tokens_at (signs_in tokens) (span start end)
signs_at tokens start end = sym (rw (drop-map sign_in start tokens) (take-map sign_in (end - start) (drop start tokens)))

pub spans_are : (tokens : List Token) (s : Span) (out : List Span) (es : Sexps) → out ≡ cut s.start s.start 0 (signs_in (take (s.end - s.start) (drop s.start tokens))) → tokens_at (signs_in tokens) s ≡ spellings es → out ≡ spans_from s.start es
spans_are tokens s out es o t = o ∙ rw (signs_at tokens s.start s.end, t) (cut_all s.start s.start es)

pub spans_stand : (tokens : List Sign) (s : Span) (out : List Span) (es : Sexps) → IsWithin tokens s → tokens_at tokens s ≡ spellings es → out ≡ spans_from s.start es → AllStand tokens out es
spans_stand tokens s out es w t o =
    let rest = drop (s.end - s.start) (drop s.start tokens) in
    let whole : drop s.start tokens ≡ spellings es ++ rest = sym (take-append-drop (s.end - s.start) (drop s.start tokens)) ∙ ap (λ l. l ++ rest) t in
    rw o (all_stand tokens s.start es rest (omega (arith, w.ordered, w.ends)) whole)

-- ---- the loop

pub record Cutting (tokens : List Token) (first i begun depth : ℕ) (out : List Span) : Type 0 where
  pub same : out ++ cut (first + i) begun depth (signs_in (drop i tokens)) ≡ cut first first 0 (signs_in tokens)
  pub small : depth ≤ i

pub cutting_none : (tokens : List Token) (first : ℕ) (out : List Span) → out ≡ [] → Cutting tokens first 0 first 0 out
cutting_none tokens first out e = record { same = rw e (ap (λ p. cut p first 0 (signs_in tokens)) (omega arith)); small = omega arith }

chosen_small : (b : Bool) (s t : CutStep) (n : ℕ) → s.depth ≤ n → t.depth ≤ n → (cond b s t).depth ≤ n
chosen_small true s t n h k = h
chosen_small false s t n h k = k

step_small : (place begun depth i : ℕ) (l : Sign) → depth ≤ i → (cut_step place begun depth l).depth ≤ i + 1
step_small place begun depth i open_paren h = chosen_small (eqb depth 0) _ _ (i + 1) (omega arith) (omega arith)
step_small place begun depth i close_paren h = chosen_small (eqb depth 1) _ _ (i + 1) (omega arith) (omega arith)
step_small place begun depth i (word k x) h = chosen_small (eqb depth 0) _ _ (i + 1) (omega arith) (omega arith)

pub cutting_more : (tokens : List Token) (first i begun depth : ℕ) (out new : List Span) (d : Token) (s : CutStep) → i < length tokens → Cutting tokens first i begun depth out → s ≡ cut_step (first + i) begun depth (sign_by (get_or tokens i d).kind (get_or tokens i d).text.now) → new ≡ out ++ option_to_list s.found → Cutting tokens first (i + 1) s.begun s.depth new
cutting_more tokens first i begun depth out new d s h c e n =
    let l = sign_by (get_or tokens i d).kind (get_or tokens i d).text.now in
    let ls = signs_in (drop (i + 1) tokens) in
    let place : first + (i + 1) ≡ first + i + 1 = omega arith in
    let here : signs_in (drop i tokens) ≡ l ∷ ls = rw (drop_more tokens i d h) refl in
    let next : cut (first + i) begun depth (l ∷ ls) ≡ option_to_list s.found ++ cut (first + (i + 1)) s.begun s.depth ls = rw place (cut_next (first + i) begun depth l ls s (sym e)) in
    record {
      same = rw n (append_assoc out (option_to_list s.found) (cut (first + (i + 1)) s.begun s.depth ls)) ∙ ap (λ r. out ++ r) (sym next) ∙ ap (λ (r : List Sign). out ++ cut (first + i) begun depth r) (sym here) ∙ c.same;
      small = rw e (step_small (first + i) begun depth i l c.small);
    }

pub cutting_all : (tokens : List Token) (first i begun depth : ℕ) (out : List Span) → length tokens ≤ i → Cutting tokens first i begun depth out → out ≡ cut first first 0 (signs_in tokens)
unfolding cut
cutting_all tokens first i begun depth out h c = sym (append-nil out) ∙ rw (drop_all i tokens h) at c.same
