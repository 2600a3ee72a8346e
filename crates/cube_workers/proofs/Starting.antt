-- Workers that begin, and that have ended.
use Rattle.std.proofs.Common.{◌≡◌, ℕ, suc, ◌<◌, false, List, length, None, sym, ap, ◌∙◌, subst, inl, arith}
use Rattle.std.specs.Prelude.{Contains, slice_index_or}
use Rattle.std.proofs.lemmas.Option.{slice_get-get_or, slice_get_within, get_or_from_slice_get}
use Rattle.cnf_base.proofs.Lists.{Contains-nil}
use Rattle.shared_history.specs.Known.{Story}
use Rattle.proof_log.specs.Logs.{entry_at, state_of}
use Rattle.proof_log.specs.Diaries.{is_chain}
use Rattle.cube_search.specs.declared.search.Search.{Search}
use Rattle.cube_search.specs.Running.{IsResting}
use Rattle.hub_core.specs.declared.events.Call.TheVariants.{Spend, Found}
use Rattle.hub_core.specs.Hubs.{HubValue, view_of}
use Rattle.hub_board.specs.Boards.{BoardValue, IsBoard, Knows, base_of, view_in, told}
use Rattle.hub_board.specs.Cubes.{IsIdle}
use Rattle.cube_workers.specs.declared.check.Check.{Check}
use Rattle.cube_workers.specs.declared.crew.Worker.{Worker}
use Rattle.cube_workers.specs.Searched.{Problem, RestsBeside}
use Rattle.cube_workers.specs.Workers.{problem_in, IsOpenFor, IsFresh, IsQuiet, IsSpentBy, IsReached, RestsOn}
use Rattle.cube_workers.specs.Crews.{Each}
use Rattle.cube_workers.specs.Hired.{HasWorked, IsHired, HasEnded}
use Rattle.cube_workers.proofs.Resting.{rests_by_steps}

-- ---- a board whose pass has seen nothing

pub fresh_log : (b : BoardValue) → IsFresh b → (view_in b).log ≡ b.hist.law.log.entries
fresh_log b h = ap (λ l. (view_of b.hist.law l).log) h.1

pub fresh_idle : (b : BoardValue) → IsFresh b → IsIdle b
fresh_idle b h c = ap (λ l. (view_of b.hist.law l).open_for b.pass.number c) h.1

pub fresh_quiet : (b : BoardValue) → IsFresh b → IsQuiet (told b.pass.mine)
fresh_quiet b h c k = Contains-nil (Found c) (subst (λ l. Contains (told l) (Found c)) h.0 k)

pub fresh_spent : (p : Problem) (b : BoardValue) → IsFresh b → IsSpentBy p b None
fresh_spent p b h c k = Contains-nil (Spend c) (subst (λ l. Contains (told l) (Spend c)) h.0 k)

pub fresh_rests : (b : BoardValue) (s : Search) → IsBoard b → IsFresh b → RestsBeside b.hist.law.log s → RestsOn b s
fresh_rests b s valid h rests =
    subst (λ l. IsResting s (state_of b.hist.law.nodes l).clauses l) (sym (fresh_log b h)) (rests_by_steps b.hist.law.nodes b.hist.law.log s valid.opened.stands rests)

-- ---- the positions of the check

pub opening_known : (b : BoardValue) (k : Check) (p : ℕ) → IsOpenFor b.hist.law k → Contains k.positions.now p → Knows b p
opening_known b k p open_for among = inl (open_for.valid.positions p among)

pub opening_plain : (b : BoardValue) (k : Check) (p : ℕ) → IsFresh b → IsOpenFor b.hist.law k → Contains k.positions.now p → is_chain (entry_at (view_in b).log p) ≡ false
opening_plain b k p h open_for among = ap (λ l. is_chain (entry_at l p)) (fresh_log b h) ∙ open_for.valid.plain p among

pub opening_below : (b : BoardValue) (k : Check) (from p : ℕ) → from ≡ base_of b → IsOpenFor b.hist.law k → Contains k.positions.now p → p < from
opening_below b k from p is open_for among = let lt = open_for.valid.positions p among in omega (arith, lt, is)

pub opening_from : (b : BoardValue) (from : ℕ) → from ≡ base_of b → IsFresh b → from ≡ suc (length (view_in b).log)
opening_from b from is h = is ∙ ap (λ l. suc (length l)) (sym (fresh_log b h))

-- ---- workers

module _ {R : Type 0} (hist : Story HubValue) (k : Check) where
  ended_of : (n : ℕ) (v w : Worker R) → IsHired hist k n v → HasWorked v w → HasEnded hist k n w
  ended_of n v w h d = record {
    hist_is = d.on.hist ∙ h.hist_is;
    number = d.on.number ∙ h.number;
    reached =
        subst (λ (q : Check). IsReached (problem_in hist.law q) w.board w.spent w.kept.search w.reached) h.check_is
        (subst (λ (s : Story HubValue). IsReached (problem_in s.law v.check) w.board w.spent w.kept.search w.reached) h.hist_is d.reached);
    resting = d.resting;
  }

  pub all_ended : (vs ws : List (Worker R)) → length ws ≡ length vs → Each (IsHired hist k) vs → ((n : ℕ) (d : Worker R) → n < length vs → HasWorked (slice_index_or vs n d) (slice_index_or ws n d)) → Each (HasEnded hist k) ws
  all_ended vs ws long h worked n w here =
      let inside = slice_get_within ws n w here in
      let lt : n < length vs = omega (arith, inside, long) in
      ended_of n (slice_index_or vs n w) w (h n (slice_index_or vs n w) (slice_get-get_or vs n w lt))
      (subst (λ (x : Worker R). HasWorked (slice_index_or vs n w) x) (get_or_from_slice_get ws n w w here) (worked n w lt))
