-- Each literal of the trail that has a reason is forced by it.
use Rattle.std.proofs.Common.{ℕ, ◌≡◌, ◌+◌, ◌<◌, ◌≤◌, List, [], Some, None, length, take, sym, ap, ◌∙◌, inl, inr, arith}
use Rattle.std.specs.Prelude.{slice_get, Contains}
use Rattle.std.proofs.Math.ListN.{get_or}
use Rattle.std.proofs.lemmas.List.{get_or-take, get_or_default, length-take-le}
use Rattle.std.proofs.lemmas.Option.{slice_get-get_or, get_or_from_slice_get, slice_get_within, same_Some}
use Rattle.std.proofs.lemmas.Bool.{cases_lt}
use Rattle.cnf_base.specs.Literals.{Literal, code_of, literal_of, negated}
use Rattle.cnf_base.proofs.Codes.{literal_of-code_of, code_of-literal_of, code_of-injective}
use Rattle.cdcl_core.specs.declared.trail.Trail.{Trail}
use Rattle.cdcl_core.specs.declared.watches.Watches.{Watches}
use Rattle.cdcl_core.specs.Chains.{times}
use Rattle.cdcl_core.specs.Levels.{Row, IsFalseBy}
use Rattle.cdcl_core.specs.Search.{literals_of, level_of, clause_of, held_of, AreForced}
use Rattle.cdcl_core.specs.Stamps.{neg, codes, Has, IsTrail}
use Rattle.cdcl_core.specs.Watched.{kind_at, IsHeld}
use Rattle.cnf_base.specs.declared.clause.ClauseId.{ClauseId}
use Rattle.cnf_base.specs.Clauses.{no_id}
use Rattle.cdcl_core.specs.State.{no_row, all_codes, IsShown, IsSettled}
use Rattle.cdcl_core.proofs.Trails.{found_at, trail_len}
use Rattle.cdcl_core.proofs.Clauses.{clause_codes, codes_length}
use Rattle.cdcl_core.proofs.Bridge.{has_from, has_to, literals_length, code_of-negated}
use Rattle.cdcl_core.proofs.Public.{kept_at, held_at}

-- a literal whose negation stands before i is false there
front_false : (t : Trail) (i : ℕ) (m : Literal) → IsTrail t.stamps.items t.codes.items t.len t.head t.level → IsShown t.rows.items t.stamps.items t.codes.items t.len → i < t.len → 0 < times (neg (code_of m)) (take i t.codes.items) → IsFalseBy (take i (literals_of t)) (level_of t) m
front_false t i m tr sh h on =
    let es : List ℕ = t.codes.items in
    let f : (k : ℕ) × ((k < length (take i es)) × (get_or (take i es) k 0 ≡ neg (code_of m))) = found_at (neg (code_of m)) (take i es) on in
    let k : ℕ = f.0 in
    let long : t.len ≤ length es = trail_len t.stamps.items es t.len t.head t.level tr in
    let before : k < i = (let a : k < length (take i es) = f.1.0 in rw (length-take-le i es (omega (arith, h, long))) at a) in
    let at_k : get_or es k 0 ≡ neg (code_of m) = sym (get_or-take i es k 0 before) ∙ f.1.1 in
    let within : k < t.len = omega (arith, before, h) in
    let row : Row = get_or t.rows.items k no_row in
    let lit : row.0 ≡ negated m = sh.literal k within ∙ (ap literal_of (at_k ∙ sym (code_of-negated m)) ∙ literal_of-code_of (negated m)) in
    let lev : row.1 + 1 ≡ get_or t.stamps.items (get_or es k 0) 0 = sh.level k within in
    let top : get_or t.stamps.items (get_or es k 0) 0 ≤ t.level + 1 = tr.top (get_or es k 0) in
    let size : length (literals_of t) ≡ t.len = literals_length t tr sh in
    let there : k < length (take i (literals_of t)) = rw (length-take-le i (literals_of t) (omega (arith, size, h))) before in
    let is : slice_get (take i (literals_of t)) k ≡ Some row =
    slice_get-get_or (take i (literals_of t)) k no_row there ∙ ap Some (get_or-take i (literals_of t) k no_row before ∙ get_or-take t.len t.rows.items k no_row within) in
    (k, (row.1, (row.2, (is ∙ ap (λ x. Some (x, row.1, row.2)) lit, omega (arith, lev, top)))))

nothing : {X A : Type 0} (x : X) → Some x ≡ None → A
nothing x e = absurd cc

pub settled_forced : (w : Watches) (t : Trail) → IsSettled w t → AreForced w t
settled_forced w t st i l level id e =
    let es : List ℕ = t.codes.items in
    let s : ℕ = get_or t.reasons.items i 0 in
    let within : i < t.len = (let a : i < length (literals_of t) = slice_get_within (literals_of t) i (l, level, Some id) e in rw (literals_length t st.trail st.shown) at a) in
    let row : get_or t.rows.items i no_row ≡ (l, level, Some id) = sym (get_or-take t.len t.rows.items i no_row within) ∙ get_or_from_slice_get (literals_of t) i (l, level, Some id) no_row e in
    let third : (get_or t.rows.items i no_row).2 ≡ Some id = ap (λ (r : Row). r.2) row in
    let low : 1 ≤ s = elim (cases_lt 0 s) [ inl h ↦ h | inr h ↦ nothing id (sym third ∙ st.reasoned.decided i within (omega (arith, h))) ] in
    let name : id ≡ get_or w.ids.items s no_id = same_Some id (get_or w.ids.items s no_id) (sym third ∙ st.reasoned.name i within low) in
    let high : s < length w.kinds.items = st.reasoned.forced i within low in
    let c : List Literal = get_or w.clauses.items s [] in
    let room : s < length w.clauses.items = omega (arith, high, st.watched.clauses, codes_length w.clauses.items) in
    let read : codes c ≡ get_or (all_codes w.clauses.items) s [] = clause_codes w.clauses.items s c room (get_or_default w.clauses.items s [] c room) in
    let lit : l ≡ literal_of (get_or es i 0) = sym (ap (λ (r : Row). r.0) row) ∙ st.shown.literal i within in
    let code : code_of l ≡ get_or es i 0 = ap code_of lit ∙ code_of-literal_of (get_or es i 0) in
    let has : Has (codes c) (code_of l) = rw (read, code) (st.reasoned.has i within low) in
    let own : (x : Literal) × (Contains c x × (code_of x ≡ code_of l)) = has_to c (code_of l) has in
    let contains : Contains c l = (let a : Contains c own.0 = own.1.0 in rw (code_of-injective own.0 l own.1.1) at a) in (
      c,
      (
        rw name (kept_at w t s st low high (st.reasoned.live i within low)),
        (
          contains,
          (λ m mem ne.
              let there : Has (get_or (all_codes w.clauses.items) s []) (code_of m) = (let a : Has (codes c) (code_of m) = has_from c m mem in rw read at a) in
              front_false t i m st.trail st.shown within (st.reasoned.others i (code_of m) within low there (λ q. ne (code_of-injective m l (q ∙ sym code))))),
        ),
      ),
    )

-- above level 0 it is held
pub reason_held : (w : Watches) (t : Trail) → IsSettled w t → (i : ℕ) (l : Literal) (level : ℕ) (id : ClauseId) → slice_get (literals_of t) i ≡ Some (l, level, Some id) → 0 < level → held_of w id ≡ clause_of w id
reason_held w t st i l level id e pos =
    let s : ℕ = get_or t.reasons.items i 0 in
    let within : i < t.len = (let a : i < length (literals_of t) = slice_get_within (literals_of t) i (l, level, Some id) e in rw (literals_length t st.trail st.shown) at a) in
    let row : get_or t.rows.items i no_row ≡ (l, level, Some id) = sym (get_or-take t.len t.rows.items i no_row within) ∙ get_or_from_slice_get (literals_of t) i (l, level, Some id) no_row e in
    let third : (get_or t.rows.items i no_row).2 ≡ Some id = ap (λ (r : Row). r.2) row in
    let second : (get_or t.rows.items i no_row).1 ≡ level = ap (λ (r : Row). r.1) row in
    let low : 1 ≤ s = elim (cases_lt 0 s) [ inl h ↦ h | inr h ↦ nothing id (sym third ∙ st.reasoned.decided i within (omega (arith, h))) ] in
    let name : id ≡ get_or w.ids.items s no_id = same_Some id (get_or w.ids.items s no_id) (sym third ∙ st.reasoned.name i within low) in
    let high : s < length w.kinds.items = st.reasoned.forced i within low in
    let held : IsHeld (kind_at w.kinds.items s) = st.reasoned.held i within low (omega (arith, second, pos)) in
    rw name (held_at w t s st low high held ∙ sym (kept_at w t s st low high (st.reasoned.live i within low)))
