use Rattle.std.proofs.Common.{ℕ, List, [], subst, false, true}
use Rattle.proof_file.specs.Indexed.{StaleIndex, IsFound}
use Rattle.proof_file.specs.Noting.{ArePicked, IsWanted, Adds, IsPlaceUnder, AreForgotten}
use Rattle.proof_file.proofs.Found.{found_is}
use Rattle.proof_file.proofs.stale.StaleChains.stale.Goals as goal

pub returns : goal.returns
returns c =
    let s : StaleIndex = record { read = c.self.inside.read; selected = c.self.inside.selected.items; noted = c.self.inside.noted.items; watched = c.self.inside.watched.items } in
    let t : StaleIndex = record { read = c.self.inside.read; selected = c.self.inside.selected.items; noted = c.forget.new.noted.items; watched = c.in_ok-kept.kept.items } in
    let out = subst (λ (l : List ℕ). ArePicked (IsWanted c.mark.new.marks false) l c.in_ok-gone.gone.items) c.deref.ensures.value c.in_ok-gone.ensures in
    let still = subst (λ (l : List ℕ). ArePicked (IsWanted c.mark.new.marks true) l c.in_ok-kept.kept.items) c.deref-2.ensures.value c.in_ok-kept.ensures in
    let rows = subst (λ (l : List (List ℕ)). Adds [] (IsPlaceUnder c.args.places.now l c.deref-4.result.now) c.in_ok-found.found.items) c.deref-3.ensures.value c.in_ok-found.ensures in
    let under = subst (λ (l : List ℕ). Adds [] (IsPlaceUnder c.args.places.now c.self.inside.noted.items l) c.in_ok-found.found.items) c.deref-4.ensures.value rows in
    let forgot = subst (λ (l : List ℕ). AreForgotten l c.self.inside.noted.items c.forget.new.noted.items) c.deref-5.ensures.value c.forget.ensures in
    subst (λ (v : StaleIndex). IsFound c.args.live.now c.args.places.now c.dedup.new.self.items v t) c.self.view_is
    (found_is s c.args.live.now c.args.places.now c.mark.new.marks c.in_ok-gone.gone.items c.in_ok-kept.kept.items c.in_ok-found.found.items c.sort_unstable.new.self.items c.dedup.new.self.items c.forget.new.noted.items
    c.in_ok-mark.ensures out still under forgot c.sort_unstable.ensures.permutation c.sort_unstable.ensures.sorted c.dedup.ensures.filtered)
