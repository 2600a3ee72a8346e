use Rattle.std.proofs.Common.{◌≡◌, ◌^◌, ◌<◌, refl, subst, sym}
use Rattle.smt_words.proofs.Numbers.{sub_low, same_widths}
use Rattle.smt_words.proofs.Word.bvsub.Goals as goal

pub returns : goal.returns
returns c =
    let e : c.self.inside.width ≡ c.other.inside.width = same_widths _ _ _ _ c.self.view_is c.other.view_is c.requires in
    let l : c.other.inside.value < 2 ^ c.self.inside.width = subst (λ k. c.other.inside.value < 2 ^ k) (sym e) c.other.invariant.2 in
    rw (c.wrapped.ensures, ← c.self.view_is, ← c.other.view_is, sub_low c.self.inside.value c.other.inside.value c.self.inside.width c.self.invariant.1 l) refl
