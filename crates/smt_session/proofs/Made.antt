-- Terms that a check makes before all else, and forgets again.
use Rattle.std.proofs.Common.{◌≡◌, ℕ, ◌≤◌, List, ◌++◌, length, length-append, take, sym, ap, ◌∙◌, arith}
use Rattle.std.proofs.Math.Seq.{take-append_seam}
use Rattle.std.proofs.lemmas.List.{take_all}
use Rattle.smt_terms.specs.declared.node.Node.{Node}
use Rattle.smt_terms.specs.Terms.{TermsValue, cut_at}
use Rattle.array_watches.specs.Making.{Extends}
use Rattle.array_watches.specs.Needed.{watched}
use Rattle.array_watches.proofs.Growing.{watched_long}
use Rattle.array_watches.proofs.Putting.{cut_back}

module _ (old new : TermsValue) (roots : List ℕ) (from : ℕ) (is : new.nodes ≡ watched old.nodes roots) (limit : new.limit ≡ old.limit) (count : from ≡ length old.nodes) where
  abbrev extends : Extends old new
  extends = let l = watched_long old.nodes roots in record { more = l.0; nodes = is ∙ l.1; limit = limit }

  pub cut_again : (cut : TermsValue) → cut ≡ cut_at new from → cut ≡ old
  cut_again cut e = cut_back old new cut from extends count e

  pub held_before : from ≤ length new.nodes
  held_before =
      let longer = ap length extends.nodes ∙ length-append old.nodes extends.more in
      omega (arith, longer, count)

  pub made_behind : (made : List Node) → take from new.nodes ++ made ≡ new.nodes → old.nodes ++ made ≡ watched old.nodes roots
  made_behind made all =
      ap (λ l. l ++ made) (sym (take-append_seam old.nodes extends.more))
      ∙ ap (λ l. take (length old.nodes) l ++ made) (sym extends.nodes)
      ∙ ap (λ n. take n new.nodes ++ made) (sym count)
      ∙ all
      ∙ is

-- all of them are made again
pub whole_made : (base new goal made slice : List Node) (k : ℕ) → slice ≡ made → length made ≤ k → new ≡ base ++ take k slice → base ++ made ≡ goal → new ≡ goal
whole_made base new goal made slice k e le h g = h ∙ ap (λ l. base ++ take k l) e ∙ ap (λ l. base ++ l) (take_all k made le) ∙ g
