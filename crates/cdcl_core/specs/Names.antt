-- The name of the clause that forced a literal, as two numbers: one more than its position, and its part. 0 and 0 stand for none.
use Rattle.std.proofs.Common.{ℕ, zero, suc, ◌≡◌, Option, Some, None, refl, sym, ap, ◌∙◌}
use Rattle.cnf_base.specs.Literals.{code_of, literal_of}
use Rattle.cnf_base.specs.declared.clause.ClauseId.{ClauseId}
use Rattle.cnf_base.proofs.Codes.{code_of-literal_of}

abbrev pub some_name : ℕ → ℕ → Option ClauseId
some_name zero part = None
some_name (suc n) part = Some (record { pos = n; part = part })

abbrev pub place_of : Option ClauseId → ℕ
place_of None = zero
place_of (Some id) = suc id.pos

abbrev pub part_of : Option ClauseId → ℕ
part_of None = 0
part_of (Some id) = id.part

-- none is told in one way alone
abbrev pub IsNaming : ℕ → ℕ → Type 0
IsNaming place part = place ≡ 0 → part ≡ 0

-- what is seen of the two numbers gives them back
pub place_back : (p q : ℕ) → place_of (some_name p q) ≡ p
place_back zero q = refl
place_back (suc n) q = refl

pub part_back : (p q : ℕ) → IsNaming p q → part_of (some_name p q) ≡ q
part_back zero q h = sym (h refl)
part_back (suc n) q h = refl

pub packed_back : {A : Type 0} (f : ℕ → ℕ → ℕ → ℕ → A) (c l p q : ℕ) → IsNaming p q → f (code_of (literal_of c)) l (place_of (some_name p q)) (part_of (some_name p q)) ≡ f c l p q
packed_back f c l p q h = ap (λ x. f x l (place_of (some_name p q)) (part_of (some_name p q))) (code_of-literal_of c) ∙ (ap (λ x. f c l x (part_of (some_name p q))) (place_back p q) ∙ ap (λ x. f c l p x) (part_back p q h))
