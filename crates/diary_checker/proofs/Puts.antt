-- When a put is good.
use Rattle.std.proofs.Common.{◌≡◌, ℕ, ◌<◌, Bool, true, false, not, List, sym, subst, arith}
use Rattle.std.specs.Prelude.{Contains, Result, Ok, Err, IfOk, MatchBool, map}
use Rattle.cnf_base.specs.Literals.{Literal, negated}
use Rattle.cnf_base.specs.declared.clause.ClauseId.{ClauseId}
use Rattle.hint_chain.specs.Chains.{Lookup, HasPair}
use Rattle.proof_log.specs.Diaries.{Subject, look_of, IsGoodPut, EachIsUsed}
use Rattle.diary_checker.specs.Tables.{Stamps, number_of, IsSetOf, IsKey}
use Rattle.diary_checker.specs.Tables.{filed_under}
use Rattle.std.specs.Prelude.{Option, Some, None}
use Rattle.diary_checker.specs.Uses.{AreLasts, AreFiled, MayBeUnder, Subsumes, IsApart, IsDerived}

pub derived : {E : Type 0} (look : Lookup) (held : ℕ → Bool) (clause : List Literal) (hints : List ClauseId) (lasts trues : Stamps) (r : Result Bool E) →
    ((id : ClauseId) → Contains hints id → held id.pos ≡ true) →
    AreLasts look lasts hints →
    ((l : Literal) → Contains clause l → 0 < number_of lasts l) →
    IsSetOf trues (map negated clause) →
    IfOk r (λ b. (known : List Literal) → IsSetOf trues known → MatchBool b (EachIsUsed look known hints) (¬ (EachIsUsed look known hints))) →
    IfOk r (λ b. MatchBool b (IsDerived look held clause hints) (¬ (IsDerived look held clause hints)))
derived look held clause hints lasts trues (Ok true) from_held are within set h =
    record { from_held = from_held; from_hints = λ l c. (are l 0).0 (within l c); used = h (map negated clause) set }
derived look held clause hints lasts trues (Ok false) from_held are within set h = λ d. h (map negated clause) set d.used
derived look held clause hints lasts trues (Err e) from_held are within set h = tt

pub not_from_hints : (look : Lookup) (held : ℕ → Bool) (clause : List Literal) (hints : List ClauseId) (lasts : Stamps) (l : Literal) → AreLasts look lasts hints → Contains clause l → number_of lasts l ≡ 0 → ¬ (IsDerived look held clause hints)
not_from_hints look held clause hints lasts l are c e d = let lt = (are l 0).1 (d.from_hints l c) in absurd (omega arith)

key_within : (clause c : List Literal) (key : Option Literal) → ((l : Literal) → Contains c l → Contains clause l) → IsKey c key → MayBeUnder clause key
key_within clause c None h k = tt
key_within clause c (Some l) h k = h l k

pub apart : (look : Lookup) (held : ℕ → Bool) (given clause : List Literal) (lists : List (List ClauseId)) (own : Stamps) (r : Bool) →
    ¬ (HasPair clause) → IsSetOf own clause → ((l : Literal) → Contains clause l → Contains given l → ⊥) → AreFiled look held lists →
    MatchBool r
    ((id : ClauseId) × Subsumes look held own id)
    ((id : ClauseId) (key : Option Literal) → MayBeUnder clause key → Contains (filed_under lists key) id → ¬ (Subsumes look held own id)) →
    MatchBool (not r) (IsApart look held given clause) (¬ (IsApart look held given clause))
apart look held given clause lists own true alone set free filed h = λ a.
    let s = h.1 in
    a.is_new h.0 s.clause s.is_held s.is (λ l c. (set l).0 (s.within l c))
apart look held given clause lists own false alone set free filed h = record {
  no_pair = alone;
  is_new = λ id c is_held is within.
      let f = filed id c is_held is in
      h id f.0 (key_within clause c f.0 within f.1) f.2 (record { is_held = is_held; clause = c; is = is; within = λ l cl. (set l).1 (within l cl) });
  not_given = free;
}

pub good_derived : (g : Subject) (look : Lookup) (held : ℕ → Bool) (clause : List Literal) (hints : List ClauseId) → look_of g ≡ look → IsGoodPut g held clause hints → IsDerived look held clause hints
good_derived g look held clause hints e p =
    subst (λ (k : Lookup). IsDerived k held clause hints) e (record { from_held = p.from_held; from_hints = p.from_hints; used = p.used })

pub good_apart : (g : Subject) (look : Lookup) (held : ℕ → Bool) (clause : List Literal) (hints : List ClauseId) → look_of g ≡ look → IsGoodPut g held clause hints → IsApart look held g.given clause
good_apart g look held clause hints e p =
    subst (λ (k : Lookup). IsApart k held g.given clause) e (record { no_pair = p.no_pair; is_new = p.is_new; not_given = p.not_given })

good_both : (g : Subject) (look : Lookup) (held : ℕ → Bool) (clause : List Literal) (hints : List ClauseId) → look_of g ≡ look → IsDerived look held clause hints → IsApart look held g.given clause → IsGoodPut g held clause hints
good_both g look held clause hints e d a =
    let d' = subst (λ (k : Lookup). IsDerived k held clause hints) (sym e) d in
    let a' = subst (λ (k : Lookup). IsApart k held g.given clause) (sym e) a in
    record { no_pair = a'.no_pair; from_held = d'.from_held; from_hints = d'.from_hints; used = d'.used; is_new = a'.is_new; not_given = a'.not_given }

pub good : {E : Type 0} (look : Lookup) (held : ℕ → Bool) (given : Stamps) (lists : List (List ClauseId)) (clause : List Literal) (hints : List ClauseId) (r : Result Bool E) →
    IsDerived look held clause hints →
    IfOk r (λ b. (literals : List Literal) → IsSetOf given literals → AreFiled look held lists → MatchBool b (IsApart look held literals clause) (¬ (IsApart look held literals clause))) →
    IfOk r (λ b. (g : Subject) → look_of g ≡ look → IsSetOf given g.given → AreFiled look held lists → MatchBool b (IsGoodPut g held clause hints) (¬ (IsGoodPut g held clause hints)))
good look held given lists clause hints (Ok true) d h = λ g e set filed. good_both g look held clause hints e d (h g.given set filed)
good look held given lists clause hints (Ok false) d h = λ g e set filed p. h g.given set filed (good_apart g look held clause hints e p)
good look held given lists clause hints (Err x) d h = tt
