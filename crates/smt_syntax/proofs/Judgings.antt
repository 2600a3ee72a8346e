-- The loop that judges a shape.
use Rattle.std.proofs.Common.{◌≡◌, ℕ, ◌+◌, ◌<◌, ◌≤◌, Bool, false, List, [], ◌∷◌, ◌++◌, length, get_or, drop, refl, sym, ◌∙◌, Option, Some, None}
use Rattle.std.specs.Prelude.{is_ok}
use Rattle.std.proofs.lemmas.List.{drop_more, drop_all, reverse-append}
use Rattle.smt_text.specs.declared.token.Token.{Token}
use Rattle.smt_syntax.specs.Sexps.{Sign, open_paren, close_paren, word, sign_in, signs_in}
use Rattle.smt_syntax.specs.Walk.{◌>>=◌, run, context_in}
use Rattle.smt_syntax.specs.ShapeReader.{word_part, opened, taken, closed, shape_reader, seen}
use Rattle.smt_syntax.specs.Judging.{Step, ends, goes, taken_by, handed, handed_by, opened_by, step_of, stack_of}
use Rattle.smt_syntax.specs.declared.shape.Want.{Want}
use Rattle.smt_syntax.specs.declared.shape.Frame.{Frame}
use Rattle.smt_syntax.specs.declared.shape.Part.{Part}
use Rattle.smt_syntax.proofs.Walks.{given}

-- what a step leaves for the rest
abbrev pub after : Want → Step → List Sign → Bool
after w (ends b) rest = b
after w (goes st) rest = is_ok (run shape_reader w st tt rest)

hand_given : (w : Want) (st : List Frame) (p : Part) (rest : List Sign) → is_ok (given shape_reader w st (p, tt) rest) ≡ after w (handed st p) rest
hand_given w [] p rest = refl
hand_given w (f ∷ fs) p rest = by_taken (taken f p)
  where
    by_taken : (o : Option Frame) → is_ok (seen o >>= λ r. run shape_reader w (r.0 ∷ fs) r.1 rest) ≡ after w (taken_by o fs) rest
    by_taken None = refl
    by_taken (Some g) = refl

hand_part : (w : Want) (st : List Frame) (o : Option Part) (rest : List Sign) → is_ok (seen o >>= λ v. given shape_reader w st v rest) ≡ after w (handed_by st o) rest
hand_part w st None rest = refl
hand_part w st (Some p) rest = hand_given w st p rest

open_part : (w : Want) (st : List Frame) (o : Option Frame) (rest : List Sign) → is_ok (seen o >>= λ f. run shape_reader w (f.0 ∷ st) f.1 rest) ≡ after w (opened_by o st) rest
open_part w st None rest = refl
open_part w st (Some f) rest = refl

pub run_step : (w : Want) (st : List Frame) (l : Sign) (rest : List Sign) → is_ok (run shape_reader w st tt (l ∷ rest)) ≡ after w (step_of w st l) rest
unfolding run
run_step w st open_paren rest = open_part w st (opened (context_in shape_reader w st)) rest
run_step w [] close_paren rest = refl
run_step w (f ∷ fs) close_paren rest = hand_part w fs (closed f) rest
run_step w st (word k x) rest = hand_part w st (word_part (context_in shape_reader w st) k x) rest

-- behind these tokens, with these lists open, the rest decides
pub record Judged (w : Want) (tokens : List Token) (i : ℕ) (frames : List Frame) : Type 0 where
  pub same : is_ok (run shape_reader w [] tt (signs_in tokens)) ≡ is_ok (run shape_reader w (stack_of frames) tt (signs_in (drop i tokens)))

stepped : (w : Want) (tokens : List Token) (i : ℕ) (frames : List Frame) (d : Token) → i < length tokens → Judged w tokens i frames → is_ok (run shape_reader w [] tt (signs_in tokens)) ≡ after w (step_of w (stack_of frames) (sign_in (get_or tokens i d))) (signs_in (drop (i + 1) tokens))
stepped w tokens i frames d h j =
    j.same ∙ rw (drop_more tokens i d h) (run_step w (stack_of frames) (sign_in (get_or tokens i d)) (signs_in (drop (i + 1) tokens)))

pub judged_more : (w : Want) (tokens : List Token) (i : ℕ) (frames new : List Frame) (d : Token) → i < length tokens → Judged w tokens i frames → step_of w (stack_of frames) (sign_in (get_or tokens i d)) ≡ goes (stack_of new) → Judged w tokens (i + 1) new
judged_more w tokens i frames new d h j s = record { same = stepped w tokens i frames d h j ∙ rw s refl }

pub judged_ends : (w : Want) (tokens : List Token) (i : ℕ) (frames : List Frame) (d : Token) (b : Bool) → i < length tokens → Judged w tokens i frames → step_of w (stack_of frames) (sign_in (get_or tokens i d)) ≡ ends b → b ≡ is_ok (run shape_reader w [] tt (signs_in tokens))
judged_ends w tokens i frames d b h j s = sym (stepped w tokens i frames d h j ∙ rw s refl)

pub judged_out : (w : Want) (tokens : List Token) (i : ℕ) (frames : List Frame) → length tokens ≤ i → Judged w tokens i frames → false ≡ is_ok (run shape_reader w [] tt (signs_in tokens))
unfolding run
judged_out w tokens i frames h j = sym (j.same ∙ rw (drop_all i tokens h) refl)

pub stack-push : (frames : List Frame) (f : Frame) → stack_of (frames ++ f ∷ []) ≡ f ∷ stack_of frames
stack-push frames f = reverse-append frames (f ∷ [])
