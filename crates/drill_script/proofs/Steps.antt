-- One step of each loop.
use Rattle.std.proofs.Common.{◌≡◌, ℕ, suc, ◌+◌, ◌<◌, ◌≤◌, Bool, true, false, List, [], ◌∷◌, ◌++◌, length, get_or, drop, codes, refl, sym, ap, ◌∙◌, subst, arith, add-one, append_assoc, drop-cons}
use Rattle.std.specs.Prelude.{if◌then◌else◌, ◌==◌}
use Rattle.std.specs.Str.{bytes_eq}
use Rattle.drill_script.specs.Scripts.{state_after, next_state, drawn, block, blocks, opening}
use Rattle.drill_script.specs.Summaries.{Tally, behind, closed, counted, checks_in}

pub state_more : (seed k : ℕ) → state_after seed (k + 1) ≡ next_state (state_after seed k)
state_more seed k = ap (state_after seed) (add-one k)

-- the script with one block more
pub block_more : (before after : List ℕ) (seed state k : ℕ) → state ≡ state_after seed k → before ≡ opening ++ blocks seed k → after ≡ before ++ block k (drawn (next_state state)) → after ≡ opening ++ blocks seed (k + 1)
block_more before after seed state k s b a =
    let one : block k (drawn (next_state state)) ≡ block k (drawn (state_after seed (suc k))) = ap (λ n. block k (drawn (next_state n))) s in
    a ∙ ap (λ l. l ++ block k (drawn (next_state state))) b
    ∙ append_assoc opening (blocks seed k) (block k (drawn (next_state state)))
    ∙ ap (λ l. opening ++ (blocks seed k ++ l)) one
    ∙ ap (λ n. opening ++ blocks seed n) (sym (add-one k))

-- a tally with one byte more
pub byte_more : (t : Tally) (bytes : List ℕ) (k : ℕ) → k < length bytes → counted (behind t (get_or bytes k 0)) (drop (suc k) bytes) ≡ counted t (drop k bytes)
byte_more t bytes k h = ap (counted t) (sym (drop-cons bytes k 0 h))

closed_few : (t : Tally) → checks_in (closed t) ≤ checks_in t + 1
closed_few t = one (bytes_eq t.line (codes "sat")) (bytes_eq t.line (codes "unsat")) (bytes_eq t.line (codes "unknown"))
  where
    one : (a b c : Bool) → checks_in (if a then record { line = []; sat = t.sat + 1; unsat = t.unsat; unknown = t.unknown; last = true; before = t.last }
        else (if b then record { line = []; sat = t.sat; unsat = t.unsat + 1; unknown = t.unknown; last = false; before = t.last }
        else (if c then record { line = []; sat = t.sat; unsat = t.unsat; unknown = t.unknown + 1; last = false; before = t.last }
        else record { line = []; sat = t.sat; unsat = t.unsat; unknown = t.unknown; last = t.last; before = t.before }))) ≤ checks_in t + 1
    one true b c = omega arith
    one false true c = omega arith
    one false false true = omega arith
    one false false false = omega arith

-- which counts at most one check
pub behind_few : (t : Tally) (byte : ℕ) → checks_in (behind t byte) ≤ checks_in t + 1
behind_few t byte = one (byte == 10)
  where
    one : (b : Bool) → checks_in (if b then closed t else record { line = t.line ++ byte ∷ []; sat = t.sat; unsat = t.unsat; unknown = t.unknown; last = t.last; before = t.before }) ≤ checks_in t + 1
    one true = closed_few t
    one false = omega arith

-- ---- texts that are written part by part

three_regrouped : (text a b c : List ℕ) → ((text ++ a) ++ b) ++ c ≡ text ++ (a ++ b ++ c)
three_regrouped text a b c = simp append_assoc

pub three_parts : (text a b c x y z : List ℕ) → x ≡ text ++ a → y ≡ x ++ b → z ≡ y ++ c → z ≡ text ++ (a ++ b ++ c)
three_parts text a b c x y z e f g = g ∙ ap (λ l. l ++ c) (f ∙ ap (λ l. l ++ b) e) ∙ three_regrouped text a b c

six_regrouped : (text a b c d e f : List ℕ) → (((text ++ (a ++ b ++ c)) ++ d) ++ e) ++ f ≡ text ++ (a ++ b ++ c ++ d ++ e ++ f)
six_regrouped text a b c d e f = simp append_assoc

pub six_parts : (text a b c d e f x y z u v w : List ℕ) → x ≡ text ++ a → y ≡ x ++ b → z ≡ y ++ c → u ≡ z ++ d → v ≡ u ++ e → w ≡ v ++ f → w ≡ text ++ (a ++ b ++ c ++ d ++ e ++ f)
six_parts text a b c d e f x y z u v w p q r s t k =
    k ∙ ap (λ l. l ++ f) (t ∙ ap (λ l. l ++ e) (s ∙ ap (λ l. l ++ d) (three_parts text a b c x y z p q r))) ∙ six_regrouped text a b c d e f
