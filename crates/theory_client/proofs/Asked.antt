-- What is asked of a search over a log, from what was looked at.
use Rattle.std.proofs.Common.{◌≡◌, ℕ, zero, suc, ◌+◌, ◌<◌, ◌≤◌, false, List, [], ◌∷◌, ◌++◌, length, Option, Some, None, refl, sym, ap, ◌∙◌, subst, ⊎_elim, arith}
use Rattle.std.specs.Prelude.{Contains, IsSome}
use Rattle.std.proofs.lemmas.Bool.{cases_lt}
use Rattle.std.proofs.lemmas.Option.{slice_get_past}
use Rattle.std.proofs.lemmas.List.Elements.{Contains-append_left, Contains-push, Contains-push_cases}
use Rattle.cnf_base.specs.Literals.{Literal}
use Rattle.cnf_base.specs.Assignments.{AreBelow}
use Rattle.cnf_base.proofs.Options.{some_value}
use Rattle.smt_terms.specs.declared.node.Node.{Node}
use Rattle.smt_terms.specs.Bits.{TermBits, bits_in, image_in}
use Rattle.proof_log.specs.declared.entry.Entry.{Entry}
use Rattle.proof_log.specs.Logs.{entry_at}
use Rattle.proof_log.specs.Places.{GivesBits}
use Rattle.proof_log.specs.Stored.{LogValue, Stands, IsSettled}
use Rattle.proof_log.specs.Diaries.{is_chain}
use Rattle.proof_log.proofs.Standing.{stands_over}
use Rattle.access_walk.specs.Walked.{IsWalkable}
use Rattle.theory_client.specs.Posed.{AreAllBelow, AreAll, IsPlaced, IsPosed}

-- ---- the positions

none_all : (log : List Entry) → AreAllBelow log [] 0
none_all log = record {
  below = λ p h. let lt = h.1 in absurd (omega (arith, lt));
  plain = λ p h. let lt = h.1 in absurd (omega (arith, lt));
  all = λ p lt. absurd (omega (arith, lt));
}

pub all_none : (log : List Entry) (positions : List ℕ) → positions ≡ [] → AreAllBelow log positions 0
all_none log positions is = subst (λ ps. AreAllBelow log ps 0) (sym is) (none_all log)

longer_all : (log : List Entry) (at : ℕ) (old : List ℕ) → is_chain (entry_at log at) ≡ false → AreAllBelow log old at → AreAllBelow log (old ++ at ∷ []) (at + 1)
longer_all log at old plain h = record {
  below = λ p k. ⊎_elim (λ was. let lt = h.below p was in omega (arith, lt)) (λ e. omega (arith, e)) (Contains-push_cases old at p k);
  plain = λ p k. ⊎_elim (λ was. h.plain p was) (λ e. subst (λ q. is_chain (entry_at log q) ≡ false) e plain) (Contains-push_cases old at p k);
  all = λ p lt. ⊎_elim
      (λ (less : p < at). Contains-append_left old (at ∷ []) p (h.all p less))
      (λ (ge : at ≤ p).
      let here : at ≡ p = omega (arith, lt, ge) in
      subst (λ q. Contains (old ++ at ∷ []) q) here (Contains-push old at))
      (cases_lt p at);
}

-- one position more, which is no chain's
pub all_more : (log : List Entry) (at : ℕ) (old new : List ℕ) → is_chain (entry_at log at) ≡ false → new ≡ old ++ at ∷ [] → AreAllBelow log old at → AreAllBelow log new (at + 1)
all_more log at old new plain is h = subst (λ ps. AreAllBelow log ps (at + 1)) (sym is) (longer_all log at old plain h)

pub all_positions : (log : List Entry) (positions : List ℕ) (at : ℕ) → at ≡ suc (length log) → AreAllBelow log positions at → AreAll log positions
all_positions log positions at is h = subst (AreAllBelow log positions) is h

-- behind the last step there is none
none_behind : (log : List Entry) (at : ℕ) (e : Entry) → suc (length log) ≤ at → entry_at log at ≡ Some e → ⊥
none_behind log zero e le h = omega (arith, le)
none_behind log (suc p) e le h = let no = sym (slice_get_past log p (omega (arith, le))) ∙ h in let f : ⊥ = cc in f

-- ---- the terms

none_or : (o : Option ℕ) → ((u : ℕ) → o ≡ Some u → ⊥) → o ≡ None
none_or None h = refl
none_or (Some u) h = absurd (h u refl)

bits_within : (nodes : List Node) (log : LogValue) (t : ℕ) → IsSettled nodes log → length nodes ≤ t → IsSome (bits_in log.bits t) → ⊥
bits_within nodes log t settled le has =
    let row = some_value (bits_in log.bits t) has in
    let lt = (settled.bits t row.0 row.1).0 in
    omega (arith, lt, le)

linked_bits : (bits : List TermBits) (t u : ℕ) → IsSome (bits_in bits u) → bits_in bits t ≡ bits_in bits u → IsSome (bits_in bits t)
linked_bits bits t u has e = subst IsSome (sym e) has

-- a term that is not held has no bits
past_placed : (nodes : List Node) (log : LogValue) (t : ℕ) → IsSettled nodes log → length nodes ≤ t → IsPlaced log t
past_placed nodes log t settled le = record {
  own = none_or (image_in log.bits t) (λ u e.
      let k = settled.linked t u e in
      bits_within nodes log t settled le (linked_bits log.bits t u k.0 k.1));
  step = λ has. absurd (bits_within nodes log t settled le has);
}

pub placed_all : (nodes : List Node) (log : LogValue) (n : ℕ) → IsSettled nodes log → length nodes ≤ n → ((t : ℕ) → t < n → IsPlaced log t) → (t : ℕ) → IsPlaced log t
placed_all nodes log n settled le h t = ⊎_elim
    (λ (less : t < n). h t less)
    (λ (ge : n ≤ t). past_placed nodes log t settled (omega (arith, le, ge)))
    (cases_lt t n)

pub placed_more : (log : LogValue) (n : ℕ) → IsPlaced log n → ((t : ℕ) → t < n → IsPlaced log t) → (t : ℕ) → t < n + 1 → IsPlaced log t
placed_more log n here h t lt = ⊎_elim
    (λ (less : t < n). h t less)
    (λ (ge : n ≤ t).
    let same : n ≡ t = omega (arith, lt, ge) in
    subst (IsPlaced log) same here)
    (cases_lt t n)

-- ---- what is asked

given_held : (log : List Entry) (positions : List ℕ) (t : ℕ) → AreAll log positions → (k : (p : ℕ) × GivesBits log t p) → Contains positions k.0
given_held log positions t all k = all.all k.0 (⊎_elim
    (λ (lt : k.0 < suc (length log)). lt)
    (λ (le : suc (length log) ≤ k.0). absurd (none_behind log k.0 k.1.0 le k.1.1))
    (cases_lt k.0 (suc (length log))))

pub posed : (nodes : List Node) (log : LogValue) (roots positions : List ℕ) (given : List Literal) → Stands nodes log → ((t : ℕ) → IsPlaced log t) → IsWalkable nodes log.bits roots → AreAll log.entries positions → AreBelow log.next given → IsPosed nodes log.entries roots positions given
posed nodes log roots positions given stands placed walkable all below =
    let kept = stands_over nodes log stands in
    record {
      positions_are = all;
      walkable = record { bits = log.bits; are = kept.bits; images = kept.images; walkable = walkable };
      enough = record {
        first = all.all 0 (omega arith);
        steps = λ t reached has.
            let k = (placed t).step (subst IsSome (sym (kept.bits t)) has) in
            (k.0, k.1, given_held log.entries positions t all k);
      };
      below = subst (λ n. AreBelow n given) kept.next below;
    }
