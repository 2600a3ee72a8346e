-- The rules by their numbers, from 1 on.
use Rattle.std.specs.Prelude.{ℕ}
use Rattle.bv_rules.specs.declared.rule.Rule.{Rule}
use Rattle.bv_rules.specs.declared.rule.Rule.TheVariants.{BvnotTwice, BvnegTwice, AndSame, AndZero, AndOnes, OrSame, OrZero, OrOnes, XorSame, XorZero, XorOnes, AddZero, AddOpposite, Subtract, AddSame, MultiplyZero, MultiplyOne, MultiplyPower, DivideOne, DivideZero, DividePower, RemainderZero, RemainderOne, RemainderPower, ShiftZero, ShiftPast, ExtractAll, ExtractExtract, ExtractConcat, Idle, Less, AtMost, Greater, EqualSame, NotTwice, Connective, Choice, SelectStore, Fold, Inner}

abbrev pub number_of : Rule → ℕ
number_of BvnotTwice = 1
number_of BvnegTwice = 2
number_of AndSame = 3
number_of AndZero = 4
number_of AndOnes = 5
number_of OrSame = 6
number_of OrZero = 7
number_of OrOnes = 8
number_of XorSame = 9
number_of XorZero = 10
number_of XorOnes = 11
number_of AddZero = 12
number_of AddOpposite = 13
number_of Subtract = 14
number_of AddSame = 15
number_of MultiplyZero = 16
number_of MultiplyOne = 17
number_of MultiplyPower = 18
number_of DivideOne = 19
number_of DivideZero = 20
number_of DividePower = 21
number_of RemainderZero = 22
number_of RemainderOne = 23
number_of RemainderPower = 24
number_of ShiftZero = 25
number_of ShiftPast = 26
number_of ExtractAll = 27
number_of ExtractExtract = 28
number_of ExtractConcat = 29
number_of Idle = 30
number_of Less = 31
number_of AtMost = 32
number_of Greater = 33
number_of EqualSame = 34
number_of NotTwice = 35
number_of Connective = 36
number_of Choice = 37
number_of SelectStore = 38
number_of Fold = 39
number_of Inner = 40
