use Rattle.std.proofs.Common.{◌≡◌, suc, ◌≤◌, ◌<◌, List, ℕ, ◌∙◌, length, sym, subst, arith}
use Rattle.std.specs.List.Sorted.{IsPermutation}
use Rattle.std.proofs.lemmas.List.Sorted.{IsNonDecreasingBy-from_sort}
use Rattle.std.proofs.lemmas.Option.{slice_get_within}
use Rattle.proof_file.specs.Held.{file_in}
use Rattle.proof_file.proofs.Finding.{search_start, search_next, search_end, found_few}
use Rattle.proof_file.proofs.needed.needed_by.Goals as goal

pub found-init : goal.found-init
found-init c = search_start c.args.log.now.entries (file_in c.args.places.now).places c.args.shown.now c.find_named.new.found (rw c.clear.ensures at c.in_ok-find_named.ensures)

pub found-preserved : goal.found-preserved
found-preserved c =
    search_next c.args.log.now.entries (file_in c.args.places.now).places c.args.shown.now c.found.found c.find_cited.new.found c.found.done c.in-Some.at
    c.found.invariant (sym c.in-Some.ensures.at) c.in_ok-find_cited.ensures

pub found-smaller : goal.found-smaller
found-smaller c =
    let few = found_few c.args.log.now.entries (file_in c.args.places.now).places c.args.shown.now c.found.found c.found.done c.found.invariant c.in-Some.ensures.once in
    let lt = slice_get_within c.found.found c.found.done c.in-Some.at (sym c.in-Some.ensures.at) in
    omega (arith, few, lt)

pub overflow_add-done : goal.overflow_add-done
overflow_add-done c =
    let lt = slice_get_within c.found.found c.found.done c.in-Some.at (sym c.in-Some.ensures.at) in
    omega (arith, lt, c.in-Some.ensures.few)

pub returns : goal.returns
returns c =
    let moved : IsPermutation c.found.found c.sort_unstable.new.self.items =
    subst (λ (xs : List ℕ). IsPermutation xs c.sort_unstable.new.self.items) (c.in_ok-order.ensures.items ∙ c.as_slice.ensures.items) c.sort_unstable.ensures.permutation in
    search_end c.args.log.now.entries (file_in c.args.places.now).places c.args.shown.now c.found.found c.sort_unstable.new.self.items c.found.done c.found.invariant
    c.in_default.ensures.at c.in_default.ensures.once moved (IsNonDecreasingBy-from_sort (λ x. x) c.sort_unstable.new.self.items c.sort_unstable.ensures.sorted)
