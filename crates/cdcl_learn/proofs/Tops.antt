-- The last marked places.
use Rattle.std.proofs.Common.{ℕ, ◌≡◌, ◌≢◌, ◌-◌, ◌<◌, ◌≤◌, Bool, List, None, length, inl, inr, arith}
use Rattle.std.proofs.lemmas.Bool.{cases_lt}
use Rattle.cdcl_core.specs.Levels.{Row}
use Rattle.cdcl_learn.specs.Rows.{level_at, reason_at, AreRising, AreDecidedFirst}
use Rattle.cdcl_learn.specs.Walks.{IsSet, IsTop, IsResolved, IsUnique}
use Rattle.cdcl_learn.proofs.Lists.{set_inside}

-- the last marked place, of this level
pub record IsInLevel (rows : List Row) (marks : List Bool) (level end : ℕ) : Type 0 where
  pub top : IsTop marks (length rows) end
  pub some : 0 < end
  pub stands_at : level_at rows (end - 1) ≡ level

-- where not every mark is below the level, the last one is of it
pub level_starts : (rows : List Row) (marks : List Bool) (level end : ℕ) → AreRising rows level → IsTop marks (length rows) end → (((p : ℕ) → p < length rows → IsSet marks p → level_at rows p < level) → ⊥) → IsInLevel rows marks level end
level_starts rows marks level end r t present =
    let some : 0 < end = elim (cases_lt 0 end) [ inl a ↦ a | inr a ↦ absurd (present (λ p h s. absurd (t.above p (omega (arith, a)) h s))) ] in
    let high : level ≤ level_at rows (end - 1) = elim (cases_lt (level_at rows (end - 1)) level) [
      | inr a ↦ a
      | inl a ↦ absurd (present (λ p h s. elim (cases_lt p end) [
        | inl b ↦ omega (arith, a, r.rise p (end - 1) (omega (arith, b)) (omega (arith, some, t.reached)))
        | inr b ↦ absurd (t.above p b h s)
      ]))
    ] in
    record { top = t; some = some; stands_at = omega (arith, high, r.top (end - 1) (omega (arith, some, t.reached))) }

-- a place before the last one of its level is not decided
pub not_decided : (rows : List Row) (marks : List Bool) (level end rest : ℕ) → AreDecidedFirst rows → IsInLevel rows marks level end → IsTop marks (end - 1) rest → 0 < rest → level_at rows (rest - 1) ≡ level → reason_at rows (end - 1) ≢ None
not_decided rows marks level end rest first l t pos same none = omega (arith, same, l.stands_at, first (end - 1) (rest - 1) (omega (arith, l.some, l.top.reached)) (omega (arith, pos, t.reached, l.some)) none)

pub level_goes_on : (rows : List Row) (old new : List Bool) (level end rest next : ℕ) → AreRising rows level → IsInLevel rows old level end → IsTop old (end - 1) rest → 0 < rest → level_at rows (rest - 1) ≡ level → IsResolved (end - 1) old new → IsTop new (end - 1) next → IsInLevel rows new level next
level_goes_on rows old new level end rest next r l t pos same res n =
    let on : IsSet new (rest - 1) = res.kept (rest - 1) (λ e. omega (arith, e, pos, t.reached, l.some)) (t.marked pos) in
    let after : rest ≤ next = elim (cases_lt (rest - 1) next) [ inl a ↦ omega (arith, a) | inr a ↦ absurd (n.above (rest - 1) a (omega (arith, pos, t.reached, l.some)) on) ] in
    let within : next - 1 < length rows = omega (arith, after, pos, n.reached, l.top.reached, l.some) in
    record {
      top = record {
        reached = omega (arith, n.reached, l.top.reached);
        marked = n.marked;
        above = λ p a b s. elim (cases_lt p (end - 1)) [
          | inl u ↦ n.above p a u s
          | inr u ↦ elim (res.from p s) [
            | inl v ↦ l.top.above p (omega (arith, u, v.0)) b v.1
            | inr v ↦ omega (arith, u, v)
          ]
        ];
      };
      some = omega (arith, after, pos);
      stands_at = omega (arith, same, r.rise (rest - 1) (next - 1) (omega (arith, after)) within, r.top (next - 1) within);
    }

pub level_ends : (rows : List Row) (marks : List Bool) (level end rest : ℕ) → AreRising rows level → length marks ≡ length rows → IsInLevel rows marks level end → IsTop marks (end - 1) rest → (0 < rest → level_at rows (rest - 1) ≢ level) → IsUnique rows marks level (end - 1)
level_ends rows marks level end rest r wide l t other = record {
  within = omega (arith, l.some, l.top.reached);
  marked = l.top.marked l.some;
  stands_at = l.stands_at;
  above = λ p a s. l.top.above p (omega (arith, a)) (omega (arith, wide, set_inside marks p s)) s;
  below = λ p a s. elim (cases_lt p rest) [
    | inr u ↦ absurd (t.above p u a s)
    | inl u ↦
        let pos : 0 < rest = omega (arith, u) in
        let within : rest - 1 < length rows = omega (arith, pos, t.reached, l.top.reached) in
        let ne : level_at rows (rest - 1) ≢ level = other pos in
        omega (arith, ne, r.top (rest - 1) within, r.rise p (rest - 1) (omega (arith, u)) within)
  ];
}
