-- A test that holds exactly of equal values is an equivalence.
use Rattle.std.proofs.Common.{◌≡◌, Bool, true, false, refl, sym, ap, subst}
use Rattle.std.specs.Cmp.{IsEquivalence}

module _ {A : Type 0} (same : A → A → Bool) (sound : (x y : A) → same x y ≡ true → x ≡ y) (whole : (x : A) → same x x ≡ true) where
  both_ways : (x y : A) (b c : Bool) → same x y ≡ b → same y x ≡ c → b ≡ c
  both_ways x y true true p q = refl
  both_ways x y false false p q = refl
  both_ways x y true false p q = let h : same y x ≡ true = subst (λ z. same y z ≡ true) (sym (sound x y p)) (whole y) in cc
  both_ways x y false true p q = let h : same x y ≡ true = subst (λ z. same x z ≡ true) (sym (sound y x q)) (whole x) in cc

  pub equivalence_by : IsEquivalence same
  equivalence_by = record {
    refl = whole;
    symm = λ x y. both_ways x y _ _ refl refl;
    congr = λ x y z e. ap (λ v. same v z) (sound x y e);
  }
