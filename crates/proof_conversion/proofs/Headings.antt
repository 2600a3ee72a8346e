-- The first line of a proof.
use Rattle.std.proofs.Common.{◌≡◌, ℕ, true, Option, Some, None, List, [], ◌∷◌, ◌++◌, sym, ap, ◌∙◌, arith, append_assoc, append-nil, codes}
use Rattle.std.specs.Fmt.{decimal}
use Rattle.std.specs.Prelude.{MatchOption}
use Rattle.smt_text.specs.Framing.{Held}
use Rattle.proof_text.specs.Held.{without_feed, IsNext}
use Rattle.proof_text.specs.Lines.{joined, words_of, line_text, IsLine}
use Rattle.proof_text.specs.declared.line.Format.{Format}
use Rattle.proof_text.specs.declared.line.Format.TheVariants.{One, Two}
use Rattle.proof_text.specs.declared.line.Line.{Line}
use Rattle.proof_text.specs.declared.line.Line.TheVariants.{Header}
use Rattle.proof_text.proofs.Running.{some_bytes}
use Rattle.proof_conversion.specs.declared.header.Numbers.{Numbers}
use Rattle.proof_conversion.specs.Headers.{AreWithin, header_of}
use Rattle.proof_conversion.specs.Conversions.{HasHeader, BeginsWithNone}
use Rattle.proof_conversion.proofs.Firsts.{after_line, same_first, next_is, none_next, none_unfinished}

pub header_line : (f : Format) (n : Numbers) → AreWithin n → IsLine (Header f n.cubes n.budget)
header_line f n w = let c = w.cubes in let b = w.budget in (omega arith, omega arith)

-- no header stands where no line does
headless : (text rest : List ℕ) → BeginsWithNone text → HasHeader text rest → ⊥
headless text rest b h = b.none (Header One h.numbers.cubes h.numbers.budget) rest (header_line One h.numbers h.within) h.begins

pub header_missing : (h g : Held) (t : List ℕ) → IsNext h t g → ((l : Line) → IsLine l → t ++ 10 ∷ [] ≡ line_text l → ⊥) → (rest : List ℕ) → HasHeader h.bytes rest → ⊥
header_missing h g t n none rest = headless h.bytes rest (none_next h g t n none)

pub header_unended : (bytes : List ℕ) → without_feed bytes ≡ true → (rest : List ℕ) → HasHeader bytes rest → ⊥
header_unended [] e rest h =
    let l = Header One h.numbers.cubes h.numbers.budget in
    some_bytes (joined (words_of l)) rest (sym (h.begins ∙ after_line l rest))
header_unended (b ∷ bytes) e rest h = headless (b ∷ bytes) rest (none_unfinished (b ∷ bytes) e (λ f. let z : ⊥ = cc in z)) h

-- another line stands there
pub header_other : (h g : Held) (t : List ℕ) (l : Line) → IsNext h t g → IsLine l → t ++ 10 ∷ [] ≡ line_text l → ((m : Numbers) → AreWithin m → l ≡ Header One m.cubes m.budget → ⊥) → (rest : List ℕ) → HasHeader h.bytes rest → ⊥
header_other h g t l n i e none rest k =
    none k.numbers k.within (same_first l (Header One k.numbers.cubes k.numbers.budget) g.bytes rest i (header_line One k.numbers k.within) (sym (next_is h g t l n e) ∙ k.begins))

-- it stands there
pub header_here : (h g : Held) (t : List ℕ) (l : Line) (n : Numbers) → IsNext h t g → t ++ 10 ∷ [] ≡ line_text l → l ≡ Header One n.cubes n.budget → h.bytes ≡ header_of One n ++ g.bytes
header_here h g t l n is e k = next_is h g t l is e ∙ ap (λ (x : Line). line_text x ++ g.bytes) k

-- the numbers of the first line, where it is a header
pub header_read : (r : Option Numbers) (h g : Held) (t : List ℕ) (l : Line) → h.line ≡ 1 → IsNext h t g → IsLine l × (t ++ 10 ∷ [] ≡ line_text l)
    → MatchOption r ((m : Numbers) → AreWithin m → l ≡ Header One m.cubes m.budget → ⊥) (λ n. AreWithin n × (l ≡ Header One n.cubes n.budget))
    → MatchOption r ((rest : List ℕ) → HasHeader h.bytes rest → ⊥) (λ n. AreWithin n × (g.line ≡ 2) × (h.bytes ≡ header_of One n ++ g.bytes))
header_read None h g t l one is a none = header_other h g t l is a.0 a.1 none
header_read (Some n) h g t l one is a k = (k.0, (let x = is.line in omega arith), header_here h g t l n is a.1 k.1)

-- ---- as it is written

regroup : (out a b c d e : List ℕ) → ((((out ++ a) ++ b) ++ c) ++ d) ++ e ≡ out ++ (a ++ ((b ++ (c ++ d)) ++ e))
regroup out a b c d e = simp append_assoc

pub header_written : (out p q r s new : List ℕ) (n : Numbers) → p ≡ out ++ codes "smt_proof 2 cubes " → q ≡ p ++ decimal n.cubes → r ≡ q ++ codes " budget " → s ≡ r ++ decimal n.budget → new ≡ s ++ 10 ∷ [] → new ≡ out ++ header_of Two n
header_written out p q r s new n e f g h i =
    i ∙ rw (h, g, f, e, append-nil (decimal n.budget)) (regroup out (codes "smt_proof 2 cubes ") (decimal n.cubes) (codes " budget ") (decimal n.budget) (10 ∷ []))
