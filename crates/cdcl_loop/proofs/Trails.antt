-- The trail of a search.
use Rattle.std.proofs.Common.{◌≡◌, ℕ, ◌+◌, ◌<◌, ◌≤◌, List, [], ◌∷◌, ◌++◌, length, filter, None, ◌∙◌}
use Rattle.std.specs.Prelude.{nat_le}
use Rattle.cnf_base.specs.Literals.{Literal}
use Rattle.cnf_base.specs.declared.clause.ClauseId.{ClauseId}
use Rattle.cdcl_core.specs.declared.trail.Trail.{Trail}
use Rattle.cdcl_core.specs.declared.watches.Watches.{Watches}
use Rattle.cdcl_core.specs.Levels.{IsExtended, IsAdded}
use Rattle.cdcl_core.specs.Search.{literals_of, level_of}
use Rattle.cdcl_core.specs.State.{IsSettled}
use Rattle.cdcl_learn.specs.Rows.{level_at}
use Rattle.cdcl_learn.proofs.Facts.{rising_of}
use Rattle.cdcl_learn.proofs.Orders.{first_extended, first_added, first_kept, first_decided}
use Rattle.cdcl_loop.specs.Engines.{IsTrailOf, IsSameStore}
use Rattle.cdcl_loop.proofs.Courses.{raised_extended, raised_added, raised_kept, raised_decided}

pub trail_extended : (w v : Watches) (t u : Trail) → IsTrailOf w t → IsSettled v u → IsExtended (literals_of t) (level_of t) (literals_of u) → IsTrailOf v u
trail_extended w v t u h s x = record {
  settled = s;
  decided = first_extended (literals_of t) (literals_of u) (level_of t) h.decided x;
  raised = raised_extended (literals_of t) (literals_of u) (level_of t) x h.raised;
}

pub trail_added : (w v : Watches) (t u : Trail) (id : ClauseId) (c : List Literal) → IsTrailOf w t → IsSettled v u → IsAdded (literals_of t) (level_of t) id c (literals_of u) → IsTrailOf v u
trail_added w v t u id c h s x = record {
  settled = s;
  decided = first_added (literals_of t) (literals_of u) (level_of t) id c h.decided x;
  raised = raised_added (literals_of t) (literals_of u) (level_of t) id c x h.raised;
}

pub trail_back : (w v : Watches) (t u : Trail) (k : ℕ) → IsTrailOf w t → IsSettled v u → literals_of u ≡ filter (λ r. nat_le r.1 k) (literals_of t) → IsTrailOf v u
trail_back w v t u k h s e = record {
  settled = s;
  decided = rw e (first_kept (λ r. nat_le r.1 k) (literals_of t) h.decided);
  raised = rw e (raised_kept (literals_of t) (λ r. nat_le r.1 k) h.raised);
}

pub trail_same : (w v : Watches) (t u : Trail) → IsTrailOf w t → IsSettled v u → literals_of u ≡ literals_of t → IsTrailOf v u
trail_same w v t u h s e = record { settled = s; decided = rw e h.decided; raised = rw e h.raised }

pub levels_below : (w : Watches) (t : Trail) → IsSettled w t → (i : ℕ) → i < length (literals_of t) → level_at (literals_of t) i ≤ level_of t
levels_below w t s = (rising_of w t s).top

pub trail_decided : (w v : Watches) (t u : Trail) (l : Literal) → IsTrailOf w t → IsSettled v u → literals_of u ≡ literals_of t ++ (l, level_of t + 1, None) ∷ [] → IsTrailOf v u
trail_decided w v t u l h s e = record {
  settled = s;
  decided = first_decided (literals_of t) (literals_of u) l (level_of t) h.decided (levels_below w t h.settled) e;
  raised = raised_decided (literals_of t) (literals_of u) l (level_of t) e h.raised;
}

-- ---- what is kept and held

pub store_then : (u v w : Watches) → IsSameStore u v → IsSameStore v w → IsSameStore u w
store_then u v w h k = record { kept = λ id. k.kept id ∙ h.kept id; held = λ id. k.held id ∙ h.held id }
