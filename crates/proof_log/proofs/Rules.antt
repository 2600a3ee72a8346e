-- No two rules have one number.
use Rattle.std.proofs.Common.{◌≡◌, ◌-◌, List, [], ◌∷◌, Some, refl, sym, ap, ◌∙◌}
use Rattle.std.specs.Prelude.{slice_get}
use Rattle.bv_rules.specs.declared.rule.Rule.{Rule}
use Rattle.bv_rules.specs.declared.rule.Rule.TheVariants.{BvnotTwice, BvnegTwice, AndSame, AndZero, AndOnes, OrSame, OrZero, OrOnes, XorSame, XorZero, XorOnes, AddZero, AddOpposite, Subtract, AddSame, MultiplyZero, MultiplyOne, MultiplyPower, DivideOne, DivideZero, DividePower, RemainderZero, RemainderOne, RemainderPower, ShiftZero, ShiftPast, ExtractAll, ExtractExtract, ExtractConcat, Idle, Less, AtMost, Greater, EqualSame, NotTwice, Connective, Choice, SelectStore, Fold, Inner}
use Rattle.bv_rules.specs.Numbers.{number_of}

-- the rules in the order of their numbers, which begin with 1
rules : List Rule
rules =
    BvnotTwice ∷ BvnegTwice ∷ AndSame ∷ AndZero ∷ AndOnes ∷ OrSame ∷ OrZero ∷ OrOnes ∷ XorSame ∷ XorZero ∷
    XorOnes ∷ AddZero ∷ AddOpposite ∷ Subtract ∷ AddSame ∷ MultiplyZero ∷ MultiplyOne ∷ MultiplyPower ∷
    DivideOne ∷ DivideZero ∷ DividePower ∷ RemainderZero ∷ RemainderOne ∷ RemainderPower ∷ ShiftZero ∷
    ShiftPast ∷ ExtractAll ∷ ExtractExtract ∷ ExtractConcat ∷ Idle ∷ Less ∷ AtMost ∷ Greater ∷ EqualSame ∷
    NotTwice ∷ Connective ∷ Choice ∷ SelectStore ∷ Fold ∷ Inner ∷ []

at_number : (r : Rule) → slice_get rules (number_of r - 1) ≡ Some r
unfolding rules
at_number BvnotTwice = refl
at_number BvnegTwice = refl
at_number AndSame = refl
at_number AndZero = refl
at_number AndOnes = refl
at_number OrSame = refl
at_number OrZero = refl
at_number OrOnes = refl
at_number XorSame = refl
at_number XorZero = refl
at_number XorOnes = refl
at_number AddZero = refl
at_number AddOpposite = refl
at_number Subtract = refl
at_number AddSame = refl
at_number MultiplyZero = refl
at_number MultiplyOne = refl
at_number MultiplyPower = refl
at_number DivideOne = refl
at_number DivideZero = refl
at_number DividePower = refl
at_number RemainderZero = refl
at_number RemainderOne = refl
at_number RemainderPower = refl
at_number ShiftZero = refl
at_number ShiftPast = refl
at_number ExtractAll = refl
at_number ExtractExtract = refl
at_number ExtractConcat = refl
at_number Idle = refl
at_number Less = refl
at_number AtMost = refl
at_number Greater = refl
at_number EqualSame = refl
at_number NotTwice = refl
at_number Connective = refl
at_number Choice = refl
at_number SelectStore = refl
at_number Fold = refl
at_number Inner = refl

pub same_rule : (a b : Rule) → number_of a ≡ number_of b → a ≡ b
same_rule a b e =
    let q : Some a ≡ Some b = sym (at_number a) ∙ ap (λ n. slice_get rules (n - 1)) e ∙ at_number b in
    cc
