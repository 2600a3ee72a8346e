-- Each rule has a number of its own, below 41.
use Rattle.std.proofs.Common.{◌≡◌, ℕ, ◌<◌, List, [], ◌∷◌, refl, sym, ap, ◌∙◌, arith}
use Rattle.std.specs.Prelude.{slice_index_or}
use Rattle.bv_rules.specs.declared.rule.Rule.{Rule}
use Rattle.bv_rules.specs.declared.rule.Rule.TheVariants.{BvnotTwice, BvnegTwice, AndSame, AndZero, AndOnes, OrSame, OrZero, OrOnes, XorSame, XorZero, XorOnes, AddZero, AddOpposite, Subtract, AddSame, MultiplyZero, MultiplyOne, MultiplyPower, DivideOne, DivideZero, DividePower, RemainderZero, RemainderOne, RemainderPower, ShiftZero, ShiftPast, ExtractAll, ExtractExtract, ExtractConcat, Idle, Less, AtMost, Greater, EqualSame, NotTwice, Connective, Choice, SelectStore, Fold, Inner}
use Rattle.bv_rules.specs.Numbers.{number_of}

abbrev rules : List Rule
rules = Inner ∷ BvnotTwice ∷ BvnegTwice ∷ AndSame ∷ AndZero ∷ AndOnes ∷ OrSame ∷ OrZero ∷ OrOnes ∷ XorSame ∷ XorZero ∷ XorOnes ∷ AddZero ∷ AddOpposite ∷ Subtract ∷ AddSame ∷ MultiplyZero ∷ MultiplyOne ∷ MultiplyPower ∷ DivideOne ∷ DivideZero ∷ DividePower ∷ RemainderZero ∷ RemainderOne ∷ RemainderPower ∷ ShiftZero ∷ ShiftPast ∷ ExtractAll ∷ ExtractExtract ∷ ExtractConcat ∷ Idle ∷ Less ∷ AtMost ∷ Greater ∷ EqualSame ∷ NotTwice ∷ Connective ∷ Choice ∷ SelectStore ∷ Fold ∷ Inner ∷ []

abbrev rule_at : ℕ → Rule
rule_at n = slice_index_or rules n Inner

rule_back : (a : Rule) → rule_at (number_of a) ≡ a
rule_back BvnotTwice = refl
rule_back BvnegTwice = refl
rule_back AndSame = refl
rule_back AndZero = refl
rule_back AndOnes = refl
rule_back OrSame = refl
rule_back OrZero = refl
rule_back OrOnes = refl
rule_back XorSame = refl
rule_back XorZero = refl
rule_back XorOnes = refl
rule_back AddZero = refl
rule_back AddOpposite = refl
rule_back Subtract = refl
rule_back AddSame = refl
rule_back MultiplyZero = refl
rule_back MultiplyOne = refl
rule_back MultiplyPower = refl
rule_back DivideOne = refl
rule_back DivideZero = refl
rule_back DividePower = refl
rule_back RemainderZero = refl
rule_back RemainderOne = refl
rule_back RemainderPower = refl
rule_back ShiftZero = refl
rule_back ShiftPast = refl
rule_back ExtractAll = refl
rule_back ExtractExtract = refl
rule_back ExtractConcat = refl
rule_back Idle = refl
rule_back Less = refl
rule_back AtMost = refl
rule_back Greater = refl
rule_back EqualSame = refl
rule_back NotTwice = refl
rule_back Connective = refl
rule_back Choice = refl
rule_back SelectStore = refl
rule_back Fold = refl
rule_back Inner = refl

pub same_rule : (a b : Rule) → number_of a ≡ number_of b → a ≡ b
same_rule a b e = sym (rule_back a) ∙ ap rule_at e ∙ rule_back b

pub number_below : (a : Rule) → number_of a < 41
number_below BvnotTwice = omega arith
number_below BvnegTwice = omega arith
number_below AndSame = omega arith
number_below AndZero = omega arith
number_below AndOnes = omega arith
number_below OrSame = omega arith
number_below OrZero = omega arith
number_below OrOnes = omega arith
number_below XorSame = omega arith
number_below XorZero = omega arith
number_below XorOnes = omega arith
number_below AddZero = omega arith
number_below AddOpposite = omega arith
number_below Subtract = omega arith
number_below AddSame = omega arith
number_below MultiplyZero = omega arith
number_below MultiplyOne = omega arith
number_below MultiplyPower = omega arith
number_below DivideOne = omega arith
number_below DivideZero = omega arith
number_below DividePower = omega arith
number_below RemainderZero = omega arith
number_below RemainderOne = omega arith
number_below RemainderPower = omega arith
number_below ShiftZero = omega arith
number_below ShiftPast = omega arith
number_below ExtractAll = omega arith
number_below ExtractExtract = omega arith
number_below ExtractConcat = omega arith
number_below Idle = omega arith
number_below Less = omega arith
number_below AtMost = omega arith
number_below Greater = omega arith
number_below EqualSame = omega arith
number_below NotTwice = omega arith
number_below Connective = omega arith
number_below Choice = omega arith
number_below SelectStore = omega arith
number_below Fold = omega arith
number_below Inner = omega arith
