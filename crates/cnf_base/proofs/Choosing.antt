-- What a choice between two rows means.
use Rattle.std.proofs.Common.{◌≡◌, ℕ, suc, Bool, true, false, List, [], ◌∷◌, length, refl, ap, ◌∙◌, arith}
use Rattle.std.specs.Prelude.{if◌then◌else◌}
use Rattle.std.proofs.Common.{◌<◌, ◌≤◌}
use Rattle.cnf_base.specs.Assignments.{AreBelow}
use Rattle.cnf_base.specs.Gates.{AreOrdered}
use Rattle.cnf_base.proofs.Agreeing.{AreBelow-more}
use Rattle.cnf_base.specs.Literals.{Literal}
use Rattle.cnf_base.specs.Clauses.{lit_true, number}
use Rattle.cnf_base.specs.Assignments.{fresh_bits}
use Rattle.cnf_base.specs.Gates.{HaveMeaning}
use Rattle.cnf_base.specs.Choices.{mux_gates}

pub length-mux_gates : (c : Literal) (a b : List Literal) → length a ≡ length b → length (mux_gates c a b) ≡ length a
length-mux_gates c [] b e = refl
length-mux_gates c (x ∷ a) [] e = absurd (omega arith)
length-mux_gates c (x ∷ a) (y ∷ b) e = ap suc (length-mux_gates c a b (omega arith))

pub mux_number : (v : ℕ → Bool) (g : ℕ) (c : Literal) (a b : List Literal) → length a ≡ length b → HaveMeaning v g (mux_gates c a b) → number v (fresh_bits g (length a)) ≡ (if lit_true v c then number v a else number v b)
mux_number v g c a b e h = go (lit_true v c) refl g a b e h
  where
    go : (t : Bool) → lit_true v c ≡ t → (g : ℕ) (a b : List Literal) → length a ≡ length b → HaveMeaning v g (mux_gates c a b) → number v (fresh_bits g (length a)) ≡ (if t then number v a else number v b)
    go true et g [] [] e h = refl
    go false et g [] [] e h = refl
    go t et g [] (y ∷ b) e h = absurd (omega arith)
    go t et g (x ∷ a) [] e h = absurd (omega arith)
    go true et g (x ∷ a) (y ∷ b) e h =
        let one : v g ≡ lit_true v x = h.0 ∙ ap (λ t. if t then lit_true v x else lit_true v y) et in
        rw (one, go true et (suc g) a b (omega arith) h.1) refl
    go false et g (x ∷ a) (y ∷ b) e h =
        let one : v g ≡ lit_true v y = h.0 ∙ ap (λ t. if t then lit_true v x else lit_true v y) et in
        rw (one, go false et (suc g) a b (omega arith) h.1) refl

pub mux_gates-ordered : (a b : List Literal) (g : ℕ) (c : Literal) → AreBelow g a → AreBelow g b → c.variable < g → AreOrdered g (mux_gates c a b)
mux_gates-ordered [] b g c ha hb hc = tt
mux_gates-ordered (x ∷ a) [] g c ha hb hc = tt
mux_gates-ordered (x ∷ a) (y ∷ b) g c ha hb hc =
    let up : g ≤ suc g = omega arith in
    ((hc, ha.0, hb.0), mux_gates-ordered a b (suc g) c (AreBelow-more g _ up a ha.1) (AreBelow-more g _ up b hb.1) (omega (arith, hc)))
