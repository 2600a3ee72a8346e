-- What a board has seen, and what its calls leave.
use Rattle.std.proofs.Common.{◌≡◌, ℕ, zero, suc, ◌+◌, ◌-◌, ◌<◌, ◌≤◌, List, [], ◌∷◌, ◌++◌, length, take, drop, Option, Some, None, refl, sym, ap, ◌∙◌, subst, inl, inr, ⊎_elim, arith, append_assoc, append-nil, length-append}
use Rattle.std.specs.Prelude.{◌⊎◌, ◌==◌, slice_get, Result, Ok, Err, IfOk, MatchResult}
use Rattle.std.specs.List.{AllByRecursion}
use Rattle.std.proofs.lemmas.Bool.{cases_lt}
use Rattle.std.proofs.lemmas.Option.{slice_get_within}
use Rattle.cnf_base.specs.Literals.{Literal}
use Rattle.cnf_base.specs.declared.clause.ClauseId.{ClauseId}
use Rattle.cnf_base.proofs.Lists.{slice_get-at, each_front, each_behind}
use Rattle.shared_history.specs.Events.{of_pass, StartsWith}
use Rattle.shared_history.specs.Known.{Known, IsSamePass}
use Rattle.shared_history.specs.declared.law.Back.{Back}
use Rattle.hub_core.specs.declared.state.HubState.{HubState}
use Rattle.smt_terms.specs.Bits.{TermBits, bits_in, image_in}
use Rattle.proof_log.specs.declared.entry.Entry.{Entry}
use Rattle.proof_log.specs.declared.entry.Entry.TheVariants as step
use Rattle.proof_log.specs.Logs.{clause_at, entry_at, state_of, IsLog}
use Rattle.proof_log.specs.Boards.{IsOfSearch, Grows, IsLater, IsPutAt, KnowsOneMore, IsClauseOf, IsEntryOf, AreBitsIn, AreImagesIn}
use Rattle.proof_log.proofs.Growth.{grown_keeps, grown_images, clause_stays, entry_stays, chain_clause, chain_part}
use Rattle.proof_log.proofs.Standing.{stands_over}
use Rattle.hub_core.specs.declared.events.Call.{Call}
use Rattle.hub_core.specs.declared.events.Call.TheVariants.{PutChain}
use Rattle.hub_core.specs.declared.events.Event.{Event}
use Rattle.hub_core.specs.declared.events.Reply.{Reply}
use Rattle.hub_core.specs.declared.events.Reply.TheVariants.{At}
use Rattle.std.proofs.lemmas.List.{append_cancel_left}
use Rattle.std.proofs.lemmas.List.Elements.{filter-append}
use Rattle.std.proofs.Math.Seq.{take-length}
use Rattle.hub_core.specs.Hubs.{HubValue, HubView, opening, run_from, view_of, by_of, event, reply, IsHistory}
use Rattle.hub_core.specs.Stays.{run_from-append, run_open, view_snoc}
use Rattle.hub_core.proofs.Sounds.{history_is_sound}
use Rattle.hub_board.specs.declared.table.Table.{Table}
use Rattle.hub_board.specs.Chains.{AddsChains, AddChains, chains_of, IsChainHub}
use Rattle.hub_board.specs.Filing.{any_found, IsThere, IsFiled}
use Rattle.hub_board.specs.Boards.{BoardValue, IsBoard, view_in, base_of, Knows, told_by, told, footing_of, Footing, IsMoved, IsStepped}
use Rattle.hub_board.proofs.Filing.{steps_chains, run_log, run_found, filed_longer}

-- the log is the opening one and the steps of what was seen
pub log_is : (b : BoardValue) → AddChains b.pass.seen → (view_in b).log ≡ b.hist.law.log.entries ++ chains_of b.pass.seen
log_is b all = run_log b.hist.law (opening b.hist.law) b.pass.seen all

-- the events behind others, all of which put chains alone
pub later_chains : (seen more all : List Event) → all ≡ seen ++ more → AddChains all → AddChains more
later_chains seen more all is h = each_behind (λ (e : Event). AddsChains e.call) seen more (subst AddChains is h)

pub found_is : (b : BoardValue) → (view_in b).found ≡ any_found b.pass.seen
found_is b = run_found b.hist.law (opening b.hist.law) b.pass.seen

-- the log grew where more was seen
pub seen_grows : (law : HubValue) (seen more : List Event) → AddChains more → Grows (view_of law seen).log (view_of law (seen ++ more)).log
seen_grows law seen more all = record {
  more = chains_of more;
  is = ap (λ (v : HubView). v.log) (run_from-append law (opening law) seen more) ∙ run_log law (run_from law (opening law) seen) more all;
  of_search = steps_chains more;
}

pub opening_grows : (b : BoardValue) → AddChains b.pass.seen → Grows b.hist.law.log.entries (view_in b).log
opening_grows b all = record { more = chains_of b.pass.seen; is = log_is b all; of_search = steps_chains b.pass.seen }

pub board_log : (b : BoardValue) → IsBoard b → IsLog b.hist.law.nodes (view_in b).log
board_log b h = (history_is_sound b.hist.law b.pass.seen h.opened h.made).steps

-- where a board has seen more and can read what it could, all calls of a board keep that
pub later_of : (b b' : BoardValue) → b'.hist ≡ b.hist → StartsWith b'.pass.seen b.pass.seen → ((i : ℕ) → IsThere b.table.rows.items i → IsThere b'.table.rows.items i) → IsBoard b'
    → IsLater b.hist.law.nodes b'.hist.law.nodes (view_in b).log (view_in b').log (Knows b) (Knows b')
later_of b b' same (more, is) kept h =
    let base : base_of b' ≡ base_of b = ap (λ s. suc (length s.law.log.entries)) same in
    record {
      nodes = ap (λ s. s.law.nodes) same;
      grows = subst (λ l. Grows (view_in b).log l) (sym (ap (λ s. (view_of s.law b'.pass.seen).log) same ∙ ap (λ l. (view_of b.hist.law l).log) is)) (seen_grows b.hist.law b.pass.seen more (later_chains b.pass.seen more b'.pass.seen is h.chains));
      knows = λ p k. ⊎_elim
          (λ (lt : p < base_of b). inl (omega (arith, lt, base)))
          (λ (r : (base_of b ≤ p) × IsThere b.table.rows.items (p - base_of b)). let le = r.0 in inr (omega (arith, le, base), subst (λ n. IsThere b'.table.rows.items (p - n)) (sym base) (kept (p - base_of b) r.1)))
          k;
      stands = board_log b' h;
    }

-- ---- what stands at a position

element_behind : (a b : List Entry) (i : ℕ) → length a ≤ i → slice_get (a ++ b) i ≡ slice_get b (i - length a)
element_behind [] b i le = ap (slice_get b) (let k : i ≡ i - 0 = omega arith in k)
element_behind (x ∷ a) b zero le = absurd (omega (arith, le))
element_behind (x ∷ a) b (suc i) le = element_behind a b i (omega (arith, le)) ∙ ap (slice_get b) (let k : i - length a ≡ suc i - suc (length a) = omega arith in k)

-- behind the opening log
entry_behind : (a b : List Entry) (p : ℕ) → suc (length a) ≤ p → entry_at (a ++ b) p ≡ slice_get b (p - suc (length a))
entry_behind a b zero le = absurd (omega (arith, le))
entry_behind a b (suc i) le = element_behind a b i (omega (arith, le)) ∙ ap (slice_get b) (let k : i - length a ≡ suc i - suc (length a) = omega arith in k)

pub entry_here : (b : BoardValue) (p : ℕ) → AddChains b.pass.seen → base_of b ≤ p → entry_at (view_in b).log p ≡ slice_get (chains_of b.pass.seen) (p - base_of b)
entry_here b p all le = ap (λ l. entry_at l p) (log_is b all) ∙ entry_behind b.hist.law.log.entries (chains_of b.pass.seen) p le

-- a row has the step of its position
pub row_entry : (b : BoardValue) (p : ℕ) (e : Entry) → IsBoard b → base_of b ≤ p → slice_get b.table.rows.items (p - base_of b) ≡ Some (Some e) → entry_at (view_in b).log p ≡ Some e
row_entry b p e h le q = entry_here b p h.chains le ∙ h.filed.right (p - base_of b) e q

step_search : (steps : List Entry) (i : ℕ) (e : Entry) → AllByRecursion IsOfSearch steps → slice_get steps i ≡ Some e → IsOfSearch e
step_search [] i e h q = let f : ⊥ = cc in absurd f
step_search (x ∷ xs) zero e h q = let same : x ≡ e = cc in subst IsOfSearch same h.0
step_search (x ∷ xs) (suc i) e h q = step_search xs i e h.1 q

-- a row has a chain
pub row_chain : (b : BoardValue) (i : ℕ) (e : Entry) → IsBoard b → slice_get b.table.rows.items i ≡ Some (Some e) → IsOfSearch e
row_chain b i e h q = step_search (chains_of b.pass.seen) i e (steps_chains b.pass.seen) (h.filed.right i e q)

-- what is known was seen
pub known_within : (b : BoardValue) (p : ℕ) → IsBoard b → Knows b p → p < suc (length (view_in b).log)
known_within b p h k =
    let long : length (view_in b).log ≡ length b.hist.law.log.entries + length (chains_of b.pass.seen) = ap length (log_is b h.chains) ∙ length-append b.hist.law.log.entries (chains_of b.pass.seen) in
    ⊎_elim
    (λ (lt : p < base_of b). omega (arith, lt, long))
    (λ (r : (base_of b ≤ p) × IsThere b.table.rows.items (p - base_of b)).
    let lt = slice_get_within (chains_of b.pass.seen) (p - base_of b) r.1.0 (h.filed.right (p - base_of b) r.1.0 r.1.1) in
    let le = r.0 in
    omega (arith, lt, le, long))
    k

-- ---- what a board shows

pub shown_old_clause : (b : BoardValue) (id : ClauseId) (o : Option (List Literal)) → IsBoard b → id.pos < base_of b → o ≡ clause_at b.hist.law.log.clauses id → IsClauseOf b.hist.law.nodes (view_in b).log (Knows b) id o
shown_old_clause b id o h lt is = go o (is ∙ same)
  where
    same : clause_at b.hist.law.log.clauses id ≡ clause_at (state_of b.hist.law.nodes (view_in b).log).clauses id
    same = ap (λ rows. clause_at rows id) (stands_over b.hist.law.nodes b.hist.law.log h.opened.stands).clauses
        ∙ sym (clause_stays b.hist.law.nodes b.hist.law.log.entries (view_in b).log id (opening_grows b h.chains) (omega (arith, lt)))

    go : (x : Option (List Literal)) → x ≡ clause_at (state_of b.hist.law.nodes (view_in b).log).clauses id → IsClauseOf b.hist.law.nodes (view_in b).log (Knows b) id x
    go None e = λ k. sym e
    go (Some c) e = sym e

pub shown_new_clause : (b : BoardValue) (id : ClauseId) (c : List Literal) (hints : List ClauseId) → IsBoard b → base_of b ≤ id.pos → slice_get b.table.rows.items (id.pos - base_of b) ≡ Some (Some (step.Chain c hints))
    → (o : Option (List Literal)) → o ≡ slice_get (c ∷ []) id.part → IsClauseOf b.hist.law.nodes (view_in b).log (Knows b) id o
shown_new_clause b id c hints h le q o is = go o is
  where
    here : entry_at (view_in b).log id.pos ≡ Some (step.Chain c hints)
    here = row_entry b id.pos (step.Chain c hints) h le q

    part : (d : List Literal) (k : ℕ) → slice_get (c ∷ []) k ≡ Some d → (k ≡ 0) × (d ≡ c)
    part d zero e = let s : d ≡ c = cc in (refl, s)
    part d (suc k) e = let f : ⊥ = cc in absurd f

    go : (x : Option (List Literal)) → x ≡ slice_get (c ∷ []) id.part → IsClauseOf b.hist.law.nodes (view_in b).log (Knows b) id x
    go (Some d) e =
        let k = part d id.part (sym e) in
        subst (λ n. clause_at (state_of b.hist.law.nodes (view_in b).log).clauses (record { pos = id.pos; part = n }) ≡ Some d) (sym k.0) (chain_clause b.hist.law.nodes (view_in b).log id.pos c hints here ∙ ap Some (sym k.1))
    go None e = λ known. none (clause_at (state_of b.hist.law.nodes (view_in b).log).clauses id) refl
      where
        none : (x : Option (List Literal)) → clause_at (state_of b.hist.law.nodes (view_in b).log).clauses id ≡ x → clause_at (state_of b.hist.law.nodes (view_in b).log).clauses id ≡ None
        none None q = q
        none (Some d) q =
            let k = chain_part b.hist.law.nodes (view_in b).log id c d hints here q in
            let r : None ≡ Some c = e ∙ ap (slice_get (c ∷ [])) k.0 in let f : ⊥ = cc in absurd f

pub shown_row_clause : (b : BoardValue) (id : ClauseId) (e : Entry) (o : Option (List Literal)) → IsBoard b → base_of b ≤ id.pos → slice_get b.table.rows.items (id.pos - base_of b) ≡ Some (Some e)
    → ((c : List Literal) (hints : List ClauseId) → e ≡ step.Chain c hints → o ≡ slice_get (c ∷ []) id.part) → IsClauseOf b.hist.law.nodes (view_in b).log (Knows b) id o
shown_row_clause b id e o h le q is = go e refl (row_chain b (id.pos - base_of b) e h q)
  where
    go : (x : Entry) → e ≡ x → IsOfSearch x → IsClauseOf b.hist.law.nodes (view_in b).log (Knows b) id o
    go (step.Chain c hints) same k = shown_new_clause b id c hints h le (q ∙ ap (λ x. Some (Some x)) same) o (is c hints same)
    go x same k = let f : ⊥ = cc in absurd f

pub shown_unread : (b : BoardValue) (p : ℕ) → base_of b ≤ p → ((e : Entry) → slice_get b.table.rows.items (p - base_of b) ≡ Some (Some e) → ⊥) → Knows b p → ⊥
shown_unread b p le none k = ⊎_elim (λ (lt : p < base_of b). absurd (omega (arith, lt, le))) (λ (r : (base_of b ≤ p) × IsThere b.table.rows.items (p - base_of b)). none r.1.0 r.1.1) k

pub unread_clause : (b : BoardValue) (id : ClauseId) → base_of b ≤ id.pos → ((e : Entry) → slice_get b.table.rows.items (id.pos - base_of b) ≡ Some (Some e) → ⊥) → IsClauseOf b.hist.law.nodes (view_in b).log (Knows b) id None
unread_clause b id le none k = absurd (shown_unread b id.pos le none k)

pub shown_old_entry : (b : BoardValue) (p : ℕ) (o : Option Entry) → IsBoard b → p < base_of b → o ≡ entry_at b.hist.law.log.entries p → IsEntryOf (view_in b).log (Knows b) p o
shown_old_entry b p o h lt is = go o (is ∙ sym (entry_stays b.hist.law.log.entries (view_in b).log p (opening_grows b h.chains) (omega (arith, lt))))
  where
    go : (x : Option Entry) → x ≡ entry_at (view_in b).log p → IsEntryOf (view_in b).log (Knows b) p x
    go None e = λ k. sym e
    go (Some c) e = sym e

pub shown_new_entry : (b : BoardValue) (p : ℕ) (o : Option Entry) → IsBoard b → base_of b ≤ p
    → ((e : Entry) → slice_get b.table.rows.items (p - base_of b) ≡ Some (Some e) → o ≡ Some e) → ((e : Entry) → o ≡ Some e → slice_get b.table.rows.items (p - base_of b) ≡ Some (Some e)) → IsEntryOf (view_in b).log (Knows b) p o
shown_new_entry b p None h le there only = λ k. absurd (shown_unread b p le (λ e q. let x = there e q in let f : ⊥ = cc in f) k)
shown_new_entry b p (Some e) h le there only = row_entry b p e h le (only e refl)

pub shown_bits : (b : BoardValue) (bits : List TermBits) → IsBoard b → bits ≡ b.hist.law.log.bits → AreBitsIn b.hist.law.nodes (view_in b).log bits
shown_bits b bits h is t =
    ap (λ x. bits_in x t) is
    ∙ (stands_over b.hist.law.nodes b.hist.law.log h.opened.stands).bits t
    ∙ ap (λ f. f t) (sym (grown_keeps b.hist.law.nodes b.hist.law.log.entries (view_in b).log (opening_grows b h.chains)).0)

pub shown_images : (b : BoardValue) (bits : List TermBits) → IsBoard b → bits ≡ b.hist.law.log.bits → AreImagesIn b.hist.law.nodes (view_in b).log bits
shown_images b bits h is t =
    ap (λ x. image_in x t) is
    ∙ (stands_over b.hist.law.nodes b.hist.law.log h.opened.stands).images t
    ∙ ap (λ f. f t) (sym (grown_images b.hist.law.nodes b.hist.law.log.entries (view_in b).log (opening_grows b h.chains)))

-- ---- a turn

pub told-append : (es more : List Event) → told (es ++ more) ≡ told es ++ told more
told-append [] more = refl
told-append (e ∷ es) more = ap (λ l. told_by e.call ++ l) (told-append es more) ∙ sym (append_assoc (told_by e.call) (told es) (told more))

-- what others do leaves what a pass has open
pub opens_stay : (law : HubValue) (seen more : List Event) (n c : ℕ) → of_pass by_of n more ≡ [] → (view_of law (seen ++ more)).open_for n c ≡ (view_of law seen).open_for n c
opens_stay law seen more n c none = ap (λ (v : HubView). v.open_for n c) (run_from-append law (opening law) seen more) ∙ run_open law (run_from law (opening law) seen) more n c none

-- nothing was changed that a footing has
pub moved_same : (b b' : BoardValue) → b'.hist ≡ b.hist → b'.pass ≡ b.pass → IsMoved (footing_of b) b'
moved_same b b' same pass = record {
  hist = same;
  number = ap (λ p. p.number) pass;
  seen = ([], ap (λ p. p.seen) pass ∙ sym (append-nil b.pass.seen));
  told = ap (λ p. told p.mine) pass;
  opens = λ c i. (view_of (same i).law (pass i).seen).open_for (pass i).number c;
}

pub moved_then : (f : Footing) (b b' : BoardValue) → IsMoved f b → IsMoved (footing_of b) b' → IsMoved f b'
moved_then f b b' h k = record {
  hist = k.hist ∙ h.hist;
  number = k.number ∙ h.number;
  seen = (h.seen.0 ++ k.seen.0, k.seen.1 ∙ ap (λ l. l ++ k.seen.0) h.seen.1 ∙ append_assoc f.seen h.seen.0 k.seen.0);
  told = k.told ∙ h.told;
  opens = λ c. k.opens c ∙ h.opens c;
}

-- a chain was put
pub moved_put : (b b' : BoardValue) (c : List Literal) (hints : List ClauseId) (r : Reply) → b'.hist ≡ b.hist → b'.pass.number ≡ b.pass.number → IsStepped b.hist.law b.pass b'.pass (PutChain c hints) r → IsMoved (footing_of b) b'
moved_put b b' c hints r same number h =
    let e = event b.pass.number (PutChain c hints) in
    record {
      hist = same;
      number = number;
      seen = (h.between ++ e ∷ [], h.seen ∙ append_assoc b.pass.seen h.between (e ∷ []));
      told = ap told h.mine ∙ told-append b.pass.mine (e ∷ []) ∙ append-nil (told b.pass.mine);
      opens = λ d.
          (λ i. (view_of (same i).law (h.seen i)).open_for (number i) d)
          ∙ ap (λ (v : HubView). v.open_for b.pass.number d) (view_snoc b.hist.law (b.pass.seen ++ h.between) e)
          ∙ opens_stay b.hist.law b.pass.seen h.between b.pass.number d h.others;
    }

-- more was seen, of others alone
pub moved_read : (b b' : BoardValue) → IsBoard b → IsBoard b' → b'.hist ≡ b.hist → b'.pass.number ≡ b.pass.number → b'.pass.mine ≡ b.pass.mine → StartsWith b'.pass.seen b.pass.seen → IsMoved (footing_of b) b'
moved_read b b' h h' same number mine (more, is) =
    let n = b.pass.number in
    let all : of_pass by_of n b.pass.seen ++ of_pass by_of n more ≡ of_pass by_of n b.pass.seen ++ [] =
    sym (filter-append (λ (e : Event). e.pass == n) b.pass.seen more)
    ∙ ap (of_pass by_of n) (sym is)
    ∙ ap (λ k. of_pass by_of k b'.pass.seen) (sym number)
    ∙ h'.mine ∙ mine ∙ sym h.mine ∙ sym (append-nil (of_pass by_of n b.pass.seen)) in
    let none : of_pass by_of n more ≡ [] = append_cancel_left (of_pass by_of n b.pass.seen) (of_pass by_of n more) [] all in
    record {
      hist = same;
      number = number;
      seen = (more, is);
      told = ap told mine;
      opens = λ d. (λ i. (view_of (same i).law (is i)).open_for (number i) d) ∙ opens_stay b.hist.law b.pass.seen more n d none;
    }

-- ---- a put

pub log_more : (law : HubValue) (seen more : List Event) → AddChains more → (view_of law (seen ++ more)).log ≡ (view_of law seen).log ++ chains_of more
log_more law seen more all = ap (λ (v : HubView). v.log) (run_from-append law (opening law) seen more) ∙ run_log law (run_from law (opening law) seen) more all

-- what came before an event, and what came between, puts chains alone
before_chains : (seen between : List Event) (e : Event) (all : List Event) → all ≡ (seen ++ between) ++ e ∷ [] → AddChains all → AddChains seen
before_chains seen between e all is h =
    each_front (λ (x : Event). AddsChains x.call) seen between (each_front (λ (x : Event). AddsChains x.call) (seen ++ between) (e ∷ []) (subst AddChains is h))

between_chains : (seen between : List Event) (e : Event) (all : List Event) → all ≡ (seen ++ between) ++ e ∷ [] → AddChains all → AddChains between
between_chains seen between e all is h =
    each_behind (λ (x : Event). AddsChains x.call) seen between (each_front (λ (x : Event). AddsChains x.call) (seen ++ between) (e ∷ []) (subst AddChains is h))

pub put_at : (b b' : BoardValue) (c : List Literal) (hints : List ClauseId) (r : Reply) (p : ℕ) → AddChains b'.pass.seen → b'.hist ≡ b.hist → r ≡ At p → IsStepped b.hist.law b.pass b'.pass (PutChain c hints) r → IsPutAt (view_in b).log (step.Chain c hints) p (view_in b').log
put_at b b' c hints r p all same at h =
    let law = b.hist.law in
    let e = event b.pass.number (PutChain c hints) in
    let before : (view_of law (b.pass.seen ++ h.between)).log ≡ (view_in b).log ++ chains_of h.between = log_more law b.pass.seen h.between (between_chains b.pass.seen h.between e b'.pass.seen h.seen all) in
    let said : At p ≡ At (suc (length (view_of law (b.pass.seen ++ h.between)).log)) = sym at ∙ h.replied in
    let place : p ≡ suc (length (view_of law (b.pass.seen ++ h.between)).log) = cc in
    record {
      between = chains_of h.between;
      is = (λ i. (view_of (same i).law (h.seen i)).log) ∙ ap (λ (v : HubView). v.log) (view_snoc law (b.pass.seen ++ h.between) e) ∙ ap (λ l. l ++ step.Chain c hints ∷ []) before;
      place = place ∙ ap (λ l. suc (length l)) before;
    }

-- it stands behind the opening log, and the table has the step there
pub put_place : (b b' : BoardValue) (c : List Literal) (hints : List ClauseId) (p : ℕ) → AddChains b.pass.seen → AddChains b'.pass.seen → b'.hist ≡ b.hist → IsPutAt (view_in b).log (step.Chain c hints) p (view_in b').log → (base_of b' ≤ p) × (slice_get (chains_of b'.pass.seen) (p - base_of b') ≡ Some (step.Chain c hints))
put_place b b' c hints p before all same h =
    let base : base_of b' ≡ base_of b = ap (λ s. suc (length s.law.log.entries)) same in
    let long = ap length (log_is b before) ∙ length-append b.hist.law.log.entries (chains_of b.pass.seen) in
    let more = length-append (view_in b).log h.between in
    let place = h.place in
    let le : base_of b' ≤ p = omega (arith, base, long, more, place) in
    (le, sym (entry_here b' p all le) ∙ ap (λ l. entry_at l p) h.is ∙ ap (entry_at (((view_in b).log ++ h.between) ++ step.Chain c hints ∷ [])) h.place ∙ slice_get-at ((view_in b).log ++ h.between) (step.Chain c hints) [])

-- what was put is known, and nothing else came to be
pub put_known : (b b' : BoardValue) (p : ℕ) → b'.hist ≡ b.hist → base_of b ≤ p → IsThere b'.table.rows.items (p - base_of b) → ((i : ℕ) → IsThere b'.table.rows.items i → IsThere b.table.rows.items i ⊎ (i ≡ p - base_of b)) → KnowsOneMore (Knows b) p (Knows b')
put_known b b' p same le there only =
    let base : base_of b' ≡ base_of b = ap (λ s. suc (length s.law.log.entries)) same in (
      inr (omega (arith, le, base), subst (λ n. IsThere b'.table.rows.items (p - n)) (sym base) there),
      λ q k. ⊎_elim
          (λ (lt : q < base_of b'). inl (inl (omega (arith, lt, base))))
          (λ (r : (base_of b' ≤ q) × IsThere b'.table.rows.items (q - base_of b')).
          let ge = r.0 in
          ⊎_elim
          (λ was. inl (inr (omega (arith, ge, base), was)))
          (λ (here : q - base_of b ≡ p - base_of b). inr (omega (arith, here, ge, le, base)))
          (only (q - base_of b) (subst (λ n. IsThere b'.table.rows.items (q - n)) base r.1)))
          k,
    )

-- ---- a reading

-- where all that was seen is filed, all positions are known
pub all_known : (b : BoardValue) (upto : ℕ) → IsBoard b → b.table.filed ≡ length b.pass.seen → upto ≡ base_of b + b.table.next
    → (upto ≡ suc (length (view_in b).log)) × ((p : ℕ) → p < upto → Knows b p) × ((p : ℕ) → Knows b p → p < upto) × (b.table.found ≡ (view_in b).found)
all_known b upto h all is =
    let whole : take b.table.filed b.pass.seen ≡ b.pass.seen = ap (λ k. take k b.pass.seen) all ∙ take-length b.pass.seen in
    let next : b.table.next ≡ length (chains_of b.pass.seen) = h.filed.next ∙ ap (λ l. length (chains_of l)) whole in
    let long = ap length (log_is b h.chains) ∙ length-append b.hist.law.log.entries (chains_of b.pass.seen) in
    let count : upto ≡ suc (length (view_in b).log) = omega (arith, next, long, is) in (
      count,
      λ p lt. ⊎_elim (λ (old : p < base_of b). inl old) (λ (new : base_of b ≤ p). inr (new, h.filed.full (p - base_of b) (omega (arith, lt, is, new)))) (cases_lt p (base_of b)),
      λ p k. let w = known_within b p h k in omega (arith, w, count),
      h.filed.found ∙ ap any_found whole ∙ sym (found_is b),
    )

-- ---- what a turn leaves of a board

pub board_on : (b : BoardValue) (pass : Known HubValue Event) → IsBoard b → IsSamePass b.pass pass → of_pass by_of pass.number pass.seen ≡ pass.mine → StartsWith pass.seen b.pass.seen → IsHistory b.hist.law pass.seen → AddChains pass.seen → IsBoard (record b { pass = pass })
board_on b pass h same mine (more, is) made chains = record {
  own = (same.0 ∙ h.own.0, same.1 ∙ h.own.1);
  opened = h.opened;
  made = made;
  chains = chains;
  filed = subst (IsFiled b.table) (sym is) (filed_longer b.table b.pass.seen more h.filed);
  mine = mine;
}

pub board_stepped : (b : BoardValue) (pass : Known HubValue Event) (call : Call) (r : Result Reply (Back Call)) → IsBoard b → IsSamePass b.pass pass → of_pass by_of pass.number pass.seen ≡ pass.mine
    → MatchResult r
    (λ answer. (between : List Event) × (of_pass by_of b.pass.number between ≡ [])
    × ((answer ≡ reply b.hist.law (b.pass.seen ++ between) call) × (pass.seen ≡ (b.pass.seen ++ between) ++ event b.pass.number call ∷ []) × (pass.mine ≡ b.pass.mine ++ event b.pass.number call ∷ [])))
    (λ back. (back.kept ≡ call) × (pass ≡ b.pass))
    → IfOk r (λ answer. (s : HubState) × IsChainHub b.hist.law s pass.seen) → IsBoard (record b { pass = pass })
board_stepped b pass call (Ok answer) h same mine turn stands =
    board_on b pass h same mine (turn.0 ++ event b.pass.number call ∷ [], turn.2.1 ∙ append_assoc b.pass.seen turn.0 (event b.pass.number call ∷ [])) stands.1.hub.made stands.1.chains
board_stepped b pass call (Err back) h same mine turn stands =
    board_on b pass h same mine ([], ap (λ p. p.seen) turn.1 ∙ sym (append-nil b.pass.seen)) (subst (λ (p : Known HubValue Event). IsHistory b.hist.law p.seen) (sym turn.1) h.made) (subst (λ (p : Known HubValue Event). AddChains p.seen) (sym turn.1) h.chains)

pub board_read : {B : Type 0} (b : BoardValue) (pass : Known HubValue Event) (r : Result (List Event) B) → IsBoard b → IsSamePass b.pass pass → of_pass by_of pass.number pass.seen ≡ pass.mine
    → MatchResult r (λ events. StartsWith pass.seen b.pass.seen × (events ≡ drop b.pass.got pass.seen) × (pass.got ≡ length pass.seen)) (λ x. pass ≡ b.pass)
    → IfOk r (λ answer. (s : HubState) × IsChainHub b.hist.law s pass.seen) → IsBoard (record b { pass = pass })
board_read b pass (Ok answer) h same mine turn stands = board_on b pass h same mine turn.0 stands.1.hub.made stands.1.chains
board_read b pass (Err back) h same mine turn stands =
    board_on b pass h same mine ([], ap (λ p. p.seen) turn ∙ sym (append-nil b.pass.seen)) (subst (λ (p : Known HubValue Event). IsHistory b.hist.law p.seen) (sym turn) h.made) (subst (λ (p : Known HubValue Event). AddChains p.seen) (sym turn) h.chains)

-- ---- what put and sync leave

pub later_same : (b b' : BoardValue) → b'.hist ≡ b.hist → b'.pass ≡ b.pass → b'.table ≡ b.table → IsBoard b' → IsLater b.hist.law.nodes b'.hist.law.nodes (view_in b).log (view_in b').log (Knows b) (Knows b')
later_same b b' same pass table h = later_of b b' same ([], ap (λ p. p.seen) pass ∙ sym (append-nil b.pass.seen)) (λ i k. subst (λ (t : Table). IsThere t.rows.items i) (sym table) k) h

-- a chain was put by a turn, and its step then kept
module _ (b m b' : BoardValue) (c : List Literal) (hints : List ClauseId) (r : Reply) (h' : IsBoard b') (same : m.hist ≡ b.hist) (table : m.table ≡ b.table) (pass : IsSamePass b.pass m.pass)
    (stepped : IsStepped b.hist.law b.pass m.pass (PutChain c hints) r) (same' : b'.hist ≡ m.hist) (pass' : b'.pass ≡ m.pass) where
  stepped' : IsStepped b.hist.law b.pass b'.pass (PutChain c hints) r
  stepped' = subst (λ (p : Known HubValue Event). IsStepped b.hist.law b.pass p (PutChain c hints) r) (sym pass') stepped

  pub put_moved : IsMoved (footing_of b) b'
  put_moved = moved_put b b' c hints r (same' ∙ same) (ap (λ p. p.number) pass' ∙ pass.2) stepped'

  pub put_later : ((i : ℕ) → IsThere m.table.rows.items i → IsThere b'.table.rows.items i) → IsLater b.hist.law.nodes b'.hist.law.nodes (view_in b).log (view_in b').log (Knows b) (Knows b')
  put_later kept = later_of b b' (same' ∙ same) put_moved.seen (λ i k. kept i (subst (λ (t : Table). IsThere t.rows.items i) (sym table) k)) h'

  pub put_done : (p : ℕ) → r ≡ At p → IsPutAt (view_in b).log (step.Chain c hints) p (view_in b').log
  put_done p at = put_at b b' c hints r p h'.chains (same' ∙ same) at stepped'

  pub put_knows : (p : ℕ) → r ≡ At p → IsThere b'.table.rows.items (p - base_of m) → ((i : ℕ) → IsThere b'.table.rows.items i → IsThere m.table.rows.items i ⊎ (i ≡ p - base_of m)) → KnowsOneMore (Knows b) p (Knows b')
  put_knows p at there only =
      let base : base_of m ≡ base_of b = ap (λ s. suc (length s.law.log.entries)) same in
      let before = before_chains b.pass.seen stepped'.between (event b.pass.number (PutChain c hints)) b'.pass.seen stepped'.seen h'.chains in
      let le = (put_place b b' c hints p before h'.chains (same' ∙ same) (put_done p at)).0 in
      let base' : base_of b' ≡ base_of b = ap (λ s. suc (length s.law.log.entries)) (same' ∙ same) in
      put_known b b' p (same' ∙ same) (omega (arith, le, base')) (subst (λ n. IsThere b'.table.rows.items (p - n)) base there)
      (λ i k. ⊎_elim (λ was. inl (subst (λ (t : Table). IsThere t.rows.items i) table was)) (λ here. inr (here ∙ ap (λ n. p - n) base)) (only i k))

-- more was read, and then filed
module _ (b m b' : BoardValue) (h : IsBoard b) (h' : IsBoard b') (same : m.hist ≡ b.hist) (table : m.table ≡ b.table) (pass : IsSamePass b.pass m.pass) (mine : m.pass.mine ≡ b.pass.mine) (seen : StartsWith m.pass.seen b.pass.seen)
    (same' : b'.hist ≡ m.hist) (pass' : b'.pass ≡ m.pass) where
  pub read_moved : IsMoved (footing_of b) b'
  read_moved = moved_read b b' h h' (same' ∙ same) (ap (λ p. p.number) pass' ∙ pass.2) (ap (λ p. p.mine) pass' ∙ mine) (subst (λ (p : Known HubValue Event). StartsWith p.seen b.pass.seen) (sym pass') seen)

  pub read_later : ((i : ℕ) → IsThere m.table.rows.items i → IsThere b'.table.rows.items i) → IsLater b.hist.law.nodes b'.hist.law.nodes (view_in b).log (view_in b').log (Knows b) (Knows b')
  read_later kept = later_of b b' (same' ∙ same) read_moved.seen (λ i k. kept i (subst (λ (t : Table). IsThere t.rows.items i) (sym table) k)) h'
