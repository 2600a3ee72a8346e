-- What is kept for the walks of a search, where it is made.
use mathlib.Core.Path.{fun_ext}
use Rattle.std.proofs.Common.{◌≡◌, ℕ, List, sym, subst}
use Rattle.std.specs.Prelude.{Contains, IsSome}
use Rattle.smt_terms.specs.declared.node.Node.{Node}
use Rattle.smt_terms.specs.Bits.{TermBits, image_in}
use Rattle.smt_terms.specs.Terms.{TermsValue, IsTermList}
use Rattle.term_reach.specs.Reach.{IsReached, IsReach}
use Rattle.access_tables.specs.Leading.{leads}
use Rattle.access_walk.specs.Searched.{IsPrepared}
use Rattle.access_walk.specs.Walked.{IsWalkable}
use Rattle.proof_log.specs.declared.entry.Entry.{Entry}
use Rattle.proof_log.specs.Logs.{state_of, IsLog}
use Rattle.proof_log.specs.Boards.{AreBitsIn, AreImagesIn}
use Rattle.theory_search.specs.declared.theory.Theory.{Theory}
use Rattle.theory_search.specs.Theories.{IsWalkableLog, AreEnough, AreListed, IsGiven, IsTheory}
use Rattle.theory_search.proofs.Same.{same_rows, same_images, walkable_by}
use Rattle.theory_search.proofs.Numbered.{numbered}

-- over the bits that a board shows
pub walkable_here : (own nodes : List Node) (log : List Entry) (live : List ℕ) (bits : List TermBits) → own ≡ nodes → AreBitsIn own log bits → AreImagesIn own log bits → IsWalkableLog own log live → IsWalkable nodes bits live
walkable_here own nodes log live bits e are images h =
    subst (λ n. IsWalkable n bits live) e
    (walkable_by own h.bits bits (same_rows h.bits bits (state_of own log).bits h.are are) (same_images h.bits bits (state_of own log).images h.images images) live h.walkable)

module _ (own : List Node) (terms : TermsValue) (e : own ≡ terms.nodes) (log : List Entry) (positions : List ℕ) (t : Theory) (bits : List TermBits) (live : List ℕ) (same : t.live.items ≡ live)
    (listed : IsTermList terms.nodes) (stands : IsLog own log) (are : AreBitsIn own log bits) (images : AreImagesIn own log bits)
    (walkable : IsWalkable terms.nodes bits live) (reach : IsReach (leads terms.nodes (image_in bits)) live t.reached) (prepared : IsPrepared terms.nodes bits t.reached t.prepared)
    (variables : AreListed own log t.variables t.reached positions) (enough : AreEnough own log live positions) where
  own_reach : IsReach (leads own (image_in bits)) live t.reached
  own_reach = subst (λ n. IsReach (leads n (image_in bits)) live t.reached) (sym e) reach

  made_given : (u : ℕ) → Contains t.reached u → IsSome ((state_of own log).bits u) → IsGiven own log t.variables positions u
  made_given u k has =
      let here = subst (λ image. IsReached (leads own image) live u) (fun_ext images) (own_reach.only u k) in
      let s = enough.steps u here has in
      record {
        place = s.0;
        gives = s.1;
        held = s.2;
        clauses = λ id c at is. variables.clauses id c (subst (Contains positions) (sym at) s.2) is;
        bits = λ row is. variables.bits u row k is;
      }

  pub theory_made : IsTheory own log positions t
  theory_made = record {
    bits = bits;
    are = are;
    images = images;
    walkable = subst (λ (l : List ℕ). IsWalkable own bits l) (sym same) (subst (λ n. IsWalkable n bits live) (sym e) walkable);
    numbered = numbered own (subst IsTermList (sym e) listed) log stands bits are;
    reach = subst (λ (l : List ℕ). IsReach (leads own (image_in bits)) l t.reached) (sym same) own_reach;
    prepared = subst (λ n. IsPrepared n bits t.reached t.prepared) (sym e) prepared;
    first = enough.first;
    one = variables.one;
    given = made_given;
  }
