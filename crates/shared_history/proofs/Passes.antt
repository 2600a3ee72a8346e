-- A pass before and after its turn.
use Rattle.std.proofs.Common.{◌≡◌, ℕ, ◌+◌, ◌<◌, ◌≤◌, ◌⊎◌, eqb, cond, List, [], ◌∷◌, ◌++◌, length, Option, refl, sym, ap, ◌∙◌, subst, arith, ◌≢◌, inl, inr, ⊎_elim, drop, le_refl, append-nil, append_assoc, length-append, eq-eqb}
use Rattle.atomic_table.specs.declared.shared.Seat.{Seat}
use Rattle.std.specs.List.{AllByRecursion, IsDistinct}
use Rattle.shared_history.specs.Events.{of_pass, StartsWith, numbers}
use Rattle.shared_history.specs.declared.view.Stage.TheVariants.{Idle}
use Rattle.shared_history.specs.declared.view.View.{View}
use Rattle.shared_history.specs.declared.view.Locked.{Locked}
use Rattle.shared_history.specs.Rule.{Owns, Knows, first_view}
use Rattle.shared_history.specs.Moves.{Sat, at_stage, rested, giver, given, both, longer}
use Rattle.shared_history.specs.Known.{Known}
use Rattle.shared_history.specs.Seated.{known, IsPass, Took, HasTurn, KeepsTurn}
use Rattle.shared_history.proofs.Lists.{every_map, every_both, every_append, of_pass_none, of_pass_append, of_pass_rest, below_not, every_left, longest, one_line, not_own, one_differs}

module _ {T K E : Type 0} (by : E → ℕ) (stands : K → T → List E → Type 0) where
  abbrev V : Type 0
  V = View K E

  abbrev Place : Type 0
  Place = Seat (Option (Locked T E)) V

  -- the seat after the turn has the old view, with the history
  pub back_at_rest : (law : K) (p q r : Place) (x : Locked T E) (log : List E) → Took by stands law p x q → r.me ≡ (rested by q.me.0 log, []) → r.me ≡ (rested by p.me.0 log, [])
  back_at_rest law p q r x log t is = is ∙ ap (λ (m : Sat T K E). (rested by m.0 log, [])) t.me

  pub pass_again : (n place count : ℕ) (law : K) (p q r : Place) (x : Locked T E) (more log : List E) → IsPass by n place count p → Took by stands law p x q → log ≡ x.entries.items ++ more → AllByRecursion (λ e. by e ≡ p.me.0.number) more
      → r.me ≡ (rested by q.me.0 log, []) → IsPass by n place count r
  pass_again n place count law p q r x more log i t grew own is =
      let v : V = p.me.0 in let now = back_at_rest law p q r x log t is in let k = t.knows in let g = i.got in
      let long : length log ≡ length v.seen + (length k.seen.0 + length more) = ap length (grew ∙ ap (λ l. l ++ more) k.seen.1) ∙ omega (arith, length-append (v.seen ++ k.seen.0) more, length-append v.seen k.seen.0) in record {
        rest = record { empty = ap (λ (m : Sat T K E). m.1) now; idle = ap (λ (m : Sat T K E). m.0.stage) now; live = ap (λ (m : Sat T K E). m.0.live) now ∙ i.rest.live };
        number = ap (λ (m : Sat T K E). m.0.number) now ∙ i.number;
        made = ap (λ (m : Sat T K E). m.0.made) now ∙ i.made;
        got = subst (λ (m : Sat T K E). place ≤ length m.0.seen) (sym now) (let g' : place ≤ length v.seen = g in omega arith);
        mine = subst (λ (m : Sat T K E). of_pass by m.0.number m.0.seen ≡ m.0.mine) (sym now) refl;
        ended = subst (λ (m : Sat T K E). AllByRecursion (λ p. of_pass by p.0 m.0.seen ≡ p.1) m.0.ended) (sym now)
            (every_both (λ e. e.0 ≢ v.number) (Owns by x.entries.items v.seen) (λ e. of_pass by e.0 log ≡ e.1) (λ e far o. ap (of_pass by e.0) grew ∙ (of_pass_append by e.0 x.entries.items more ∙ ((λ j. o.0 j ++ of_pass_none by e.0 more (every_map (λ d. by d ≡ v.number) (λ d. by d ≢ e.0) (λ d same bad. far (sym bad ∙ same)) more own) j) ∙ append-nil e.1))) v.ended (not_own v.number v.ended i.differ) k.ended);
        differ = subst (λ (m : Sat T K E). IsDistinct eqb (numbers m.0.number m.0.ended)) (sym now) i.differ;
        below = subst (λ (m : Sat T K E). m.0.number ≡ 0 → (0 < m.0.made) × AllByRecursion (λ e. by e < m.0.made) m.0.seen) (sym now) (λ first. let b = i.below first in (
          b.0,
          subst (AllByRecursion (λ e. by e < v.made)) (sym grew) (every_append (λ e. by e < v.made) x.entries.items more (t.below first) (every_map (λ e. by e ≡ v.number) (λ e. by e < v.made) (λ e same. let n0 : v.number ≡ 0 = first in let e0 : by e ≡ v.number = same in let b0 : 0 < v.made = b.0 in omega arith) more own)),
        ));
      }

  pub start_pass : (law : K) (p : Place) → p.me ≡ (first_view law, []) → IsPass by 0 0 1 p
  start_pass law p is = record {
    rest = record { empty = ap (λ (m : Sat T K E). m.1) is; idle = ap (λ (m : Sat T K E). m.0.stage) is; live = ap (λ (m : Sat T K E). m.0.live) is };
    number = ap (λ (m : Sat T K E). m.0.number) is;
    made = ap (λ (m : Sat T K E). m.0.made) is;
    got = omega arith;
    mine = subst (λ (m : Sat T K E). of_pass by m.0.number m.0.seen ≡ m.0.mine) (sym is) refl;
    ended = subst (λ (m : Sat T K E). AllByRecursion (λ p. of_pass by p.0 m.0.seen ≡ p.1) m.0.ended) (sym is) tt;
    differ = subst (λ (m : Sat T K E). IsDistinct eqb (numbers m.0.number m.0.ended)) (sym is) (one_differs 0);
    below = subst (λ (m : Sat T K E). m.0.number ≡ 0 → (0 < m.0.made) × AllByRecursion (λ e. by e < m.0.made) m.0.seen) (sym is) (λ _. (omega arith, tt));
  }

  pub giver_pass : (n place count : ℕ) (p r : Place) → IsPass by n place count p → r.me ≡ (giver p.me.0, p.me.1) → IsPass by n place (count + 1) r
  giver_pass n place count p r i is = let v : V = p.me.0 in record {
    rest = record { empty = ap (λ (m : Sat T K E). m.1) is ∙ i.rest.empty; idle = ap (λ (m : Sat T K E). m.0.stage) is ∙ i.rest.idle; live = ap (λ (m : Sat T K E). m.0.live) is ∙ i.rest.live };
    number = ap (λ (m : Sat T K E). m.0.number) is ∙ i.number;
    made = ap (λ (m : Sat T K E). m.0.made) is ∙ ap (λ n. n + 1) i.made;
    got = subst (λ (m : Sat T K E). place ≤ length m.0.seen) (sym is) i.got;
    mine = subst (λ (m : Sat T K E). of_pass by m.0.number m.0.seen ≡ m.0.mine) (sym is) i.mine;
    ended = subst (λ (m : Sat T K E). AllByRecursion (λ p. of_pass by p.0 m.0.seen ≡ p.1) m.0.ended) (sym is) i.ended;
    differ = subst (λ (m : Sat T K E). IsDistinct eqb (numbers m.0.number m.0.ended)) (sym is) i.differ;
    below = subst (λ (m : Sat T K E). m.0.number ≡ 0 → (0 < m.0.made) × AllByRecursion (λ e. by e < m.0.made) m.0.seen) (sym is)
        (λ first. (omega arith, every_map (λ e. by e < v.made) (λ e. by e < v.made + 1) (λ e l. let l' : by e < v.made = l in omega arith) v.seen (i.below first).1));
  }

  pub given_pass : (n place count : ℕ) (p r : Place) → IsPass by n place count p → p.me.0.number ≡ 0 → r.me ≡ (given p.me.0, []) → IsPass by count place 0 r
  given_pass n place count p r i first is = let v : V = p.me.0 in let b = i.below first in record {
    rest = record { empty = ap (λ (m : Sat T K E). m.1) is; idle = ap (λ (m : Sat T K E). m.0.stage) is; live = ap (λ (m : Sat T K E). m.0.live) is };
    number = ap (λ (m : Sat T K E). m.0.number) is ∙ i.made;
    made = ap (λ (m : Sat T K E). m.0.made) is;
    got = subst (λ (m : Sat T K E). place ≤ length m.0.seen) (sym is) i.got;
    mine = subst (λ (m : Sat T K E). of_pass by m.0.number m.0.seen ≡ m.0.mine) (sym is) (below_not by v.made v.seen b.1);
    ended = subst (λ (m : Sat T K E). AllByRecursion (λ p. of_pass by p.0 m.0.seen ≡ p.1) m.0.ended) (sym is) tt;
    differ = subst (λ (m : Sat T K E). IsDistinct eqb (numbers m.0.number m.0.ended)) (sym is) (one_differs p.me.0.made);
    below = subst (λ (m : Sat T K E). m.0.number ≡ 0 → (0 < m.0.made) × AllByRecursion (λ e. by e < m.0.made) m.0.seen) (sym is) (λ zero'. let z : v.made ≡ 0 = zero' in let b0 : 0 < v.made = b.0 in absurd (omega arith));
  }

  -- no event of the pass came between
  pub none_between : (law : K) (p q : Place) (x : Locked T E) (t : Took by stands law p x q) → of_pass by p.me.0.number t.knows.seen.0 ≡ []
  none_between law p q x t = of_pass_rest by p.me.0.number x.entries.items p.me.0.seen t.knows.seen.0 p.me.0.mine t.knows.seen.1 t.knows.mine.0 t.knows.mine.1

  one_own : (n : ℕ) (e : E) → by e ≡ n → of_pass by n (e ∷ []) ≡ e ∷ []
  one_own n e same = ap (λ b. cond b (e ∷ []) []) (eq-eqb (by e) n same)

  pub has_turn : (n place count : ℕ) (law : K) (p q : Place) (x y : Locked T E) (more : List E) → IsPass by n place count p → Took by stands law p x q → y.entries.items ≡ x.entries.items ++ more → AllByRecursion (λ e. by e ≡ n) more → stands law y.state y.entries.items
      → HasTurn by stands law q y
  has_turn n place count law p q x y more i t grew own good = record {
    ticket = t.ticket;
    all = x.entries.items;
    more = more;
    live = ap (λ (m : Sat T K E). m.0.live) t.me ∙ i.rest.live;
    turn = ap (λ (m : Sat T K E). m.0.stage) t.me;
    out = ap (λ (m : Sat T K E). m.1) t.me;
    grew = grew;
    own = every_map (λ e. by e ≡ n) (λ e. by e ≡ q.me.0.number) (λ e same. same ∙ (sym i.number ∙ sym (ap (λ (m : Sat T K E). m.0.number) t.me))) more own;
    good = good;
  }

  pub keeps_turn : (n place count : ℕ) (law : K) (p q : Place) (x y : Locked T E) → IsPass by n place count p → Took by stands law p x q → y.entries.items ≡ x.entries.items → stands law y.state y.entries.items → KeepsTurn stands law q y
  keeps_turn n place count law p q x y i t same good = record {
    ticket = t.ticket;
    all = x.entries.items;
    live = ap (λ (m : Sat T K E). m.0.live) t.me ∙ i.rest.live;
    turn = ap (λ (m : Sat T K E). m.0.stage) t.me;
    out = ap (λ (m : Sat T K E). m.1) t.me;
    same = same;
    good = good;
  }

  -- a turn of which nothing came
  pub left_same : (n place count : ℕ) (law : K) (p q r : Place) (x : Locked T E) → IsPass by n place count p → Took by stands law p x q → r.me ≡ (at_stage q.me.0 Idle, []) → r.me ≡ p.me
  left_same n place count law p q r x i t is = is ∙ (ap (λ (m : Sat T K E). (at_stage m.0 Idle, [])) t.me ∙ (λ k. (at_stage p.me.0 (sym i.rest.idle k), sym i.rest.empty k)))

  pub left_pass : (n place count : ℕ) (p r : Place) → IsPass by n place count p → r.me ≡ p.me → IsPass by n place count r
  left_pass n place count p r i is = record {
    rest = record { empty = ap (λ (m : Sat T K E). m.1) is ∙ i.rest.empty; idle = ap (λ (m : Sat T K E). m.0.stage) is ∙ i.rest.idle; live = ap (λ (m : Sat T K E). m.0.live) is ∙ i.rest.live };
    number = ap (λ (m : Sat T K E). m.0.number) is ∙ i.number;
    made = ap (λ (m : Sat T K E). m.0.made) is ∙ i.made;
    got = subst (λ (m : Sat T K E). place ≤ length m.0.seen) (sym is) i.got;
    mine = subst (λ (m : Sat T K E). of_pass by m.0.number m.0.seen ≡ m.0.mine) (sym is) i.mine;
    ended = subst (λ (m : Sat T K E). AllByRecursion (λ p. of_pass by p.0 m.0.seen ≡ p.1) m.0.ended) (sym is) i.ended;
    differ = subst (λ (m : Sat T K E). IsDistinct eqb (numbers m.0.number m.0.ended)) (sym is) i.differ;
    below = subst (λ (m : Sat T K E). m.0.number ≡ 0 → (0 < m.0.made) × AllByRecursion (λ e. by e < m.0.made) m.0.seen) (sym is) i.below;
  }

  pub left_known : (place : ℕ) (p r : Place) (before : Known K E) → known p place ≡ before → r.table_id ≡ p.table_id → r.me ≡ p.me → known r place ≡ before
  left_known place p r before is table me = (λ k. known (record { marker = p.marker; table_id = table k; id = p.id; me = me k }) place) ∙ is

  module _ {C : Type 0} (law law' : K) (same : law ≡ law') (n place count : ℕ) (c : C) (before : Known K E) (p q : Place) (x : Locked T E) (is : known p place ≡ before) (i : IsPass by n place count p) (t : Took by stands law' p x q) where
    pub still_permits : (permits : K → List E → ℕ → C → Type 0) → ((law : K) (h more : List E) (n : ℕ) (c : C) → of_pass by n more ≡ [] → permits law h n c → permits law (h ++ more) n c) → permits law' before.seen before.number c
        → permits law x.entries.items n c
    still_permits permits stays may =
        let v : V = p.me.0 in let may' : permits law v.seen v.number c = subst (λ (z : K × Known K E). permits z.0 z.1.seen z.1.number c) (λ k. (sym same k, sym is k)) may in
        subst (λ (z : List E × ℕ). permits law z.0 z.1 c) (λ k. (sym t.knows.seen.1 k, i.number k)) (stays law v.seen t.knows.seen.0 v.number c (none_between law' p q x t) may')

    -- what a step tells
    pub stepped : {R : Type 0} (reply_of : K → List E → ℕ → C → R) (entry_of : K → List E → ℕ → C → E) → by (entry_of law x.entries.items n c) ≡ n → (r : Place) (log : List E) (reply : R) → reply ≡ reply_of law x.entries.items n c → log ≡ x.entries.items ++ entry_of law x.entries.items n c ∷ []
        → r.me ≡ (rested by q.me.0 log, [])
        → (between : List E) × (of_pass by before.number between ≡ [])
        × ((reply ≡ reply_of law' (before.seen ++ between) before.number c) × (r.me.0.seen ≡ before.seen ++ between ++ entry_of law' (before.seen ++ between) before.number c ∷ [])
        × (r.me.0.mine ≡ before.mine ++ entry_of law' (before.seen ++ between) before.number c ∷ []))
    stepped reply_of entry_of stamped r log reply said grew end =
        let v : V = p.me.0 in let items : List E = x.entries.items in let now = back_at_rest law' p q r x log t end in let b : List E = t.knows.seen.0 in let e : E = entry_of law items n c in
        let joined : items ≡ before.seen ++ b = t.knows.seen.1 ∙ ap (λ (z : Known K E). z.seen ++ b) is in let num : n ≡ before.number = sym i.number ∙ ap (λ (z : Known K E). z.number) is in
        let entry : e ≡ entry_of law' (before.seen ++ b) before.number c = λ k. entry_of (same k) (joined k) (num k) c in (
          b,
          subst (λ m. of_pass by m b ≡ []) (ap (λ (z : Known K E). z.number) is) (none_between law' p q x t),
          (
            said ∙ (λ k. reply_of (same k) (joined k) (num k) c),
            ap (λ (m : Sat T K E). m.0.seen) now ∙ (grew ∙ (λ k. joined k ++ entry k ∷ [])),
            ap (λ (m : Sat T K E). m.0.mine) now ∙ (ap (of_pass by v.number) grew ∙ (of_pass_append by v.number items (e ∷ []) ∙ ((λ k. t.knows.mine.0 k ++ one_own v.number e (stamped ∙ sym i.number) k) ∙ (λ k. (is k).mine ++ entry k ∷ [])))),
          ),
        )

  -- a turn in which the pass saw the history
  pub read_pass : (n place count : ℕ) (law : K) (p q r : Place) (x : Locked T E) → IsPass by n place count p → Took by stands law p x q → r.me ≡ (rested by q.me.0 x.entries.items, []) → IsPass by n (length x.entries.items) count r
  read_pass n place count law p q r x i t is = let j = pass_again n place count law p q r x [] x.entries.items i t (sym (append-nil x.entries.items)) tt is in record {
    rest = j.rest;
    number = j.number;
    made = j.made;
    got = subst (λ (m : Sat T K E). length x.entries.items ≤ length m.0.seen) (sym (back_at_rest law p q r x x.entries.items t is)) (le_refl (length x.entries.items));
    mine = j.mine;
    ended = j.ended;
    differ = j.differ;
    below = j.below;
  }

  pub reads : (n place count : ℕ) (law : K) (before : Known K E) (p q r : Place) (x : Locked T E) → known p place ≡ before → IsPass by n place count p → Took by stands law p x q → r.me ≡ (rested by q.me.0 x.entries.items, [])
      → StartsWith r.me.0.seen before.seen × (drop place x.entries.items ≡ drop before.got r.me.0.seen) × (length x.entries.items ≡ length r.me.0.seen) × (r.me.0.mine ≡ before.mine)
  reads n place count law before p q r x is i t end = let now = back_at_rest law p q r x x.entries.items t end in
      subst (λ (z : Known K E). StartsWith r.me.0.seen z.seen × (drop place x.entries.items ≡ drop z.got r.me.0.seen) × (length x.entries.items ≡ length r.me.0.seen) × (r.me.0.mine ≡ z.mine)) is
      (subst (λ (m : Sat T K E). StartsWith m.0.seen p.me.0.seen × (drop place x.entries.items ≡ drop place m.0.seen) × (length x.entries.items ≡ length m.0.seen) × (m.0.mine ≡ p.me.0.mine)) (sym now) (t.knows.seen, refl, refl, t.knows.mine.0))

  -- what a look after a join tells
  pub joined_pass : (n place count n' place' count' : ℕ) (p o q r : Place) (log : List E) → IsPass by n place count p → IsPass by n' place' count' o → q.me ≡ (both p.me.0 o.me.0, p.me.1) → r.me ≡ q.me → Knows by log q.me.0 → IsDistinct eqb (numbers q.me.0.number q.me.0.ended) → (q.me.0.number ≡ 0 → AllByRecursion (λ e. by e < q.me.0.made) log)
      → IsPass by n place count r
  joined_pass n place count n' place' count' p o q r log i j is is' k d b = let v : V = p.me.0 in let w : V = o.me.0 in let u : V = both v w in let now : r.me ≡ (u, p.me.1) = is' ∙ is in
      let k' : Knows by log u = subst (λ (m : Sat T K E). Knows by log m.0) is k in let b' = subst (λ (m : Sat T K E). m.0.number ≡ 0 → AllByRecursion (λ e. by e < m.0.made) log) is b in let g : place ≤ length v.seen = i.got in record {
        rest = record { empty = ap (λ (m : Sat T K E). m.1) now ∙ i.rest.empty; idle = ap (λ (m : Sat T K E). m.0.stage) now ∙ i.rest.idle; live = ap (λ (m : Sat T K E). m.0.live) now ∙ i.rest.live };
        number = ap (λ (m : Sat T K E). m.0.number) now ∙ i.number;
        made = ap (λ (m : Sat T K E). m.0.made) now ∙ i.made;
        got = subst (λ (m : Sat T K E). place ≤ length m.0.seen) (sym now) (omega (arith, length-append v.seen (drop (length v.seen) w.seen)));
        mine = subst (λ (m : Sat T K E). of_pass by m.0.number m.0.seen ≡ m.0.mine) (sym now) k'.mine.1;
        ended = subst (λ (m : Sat T K E). AllByRecursion (λ p. of_pass by p.0 m.0.seen ≡ p.1) m.0.ended) (sym now) (every_map (Owns by log u.seen) (λ e. of_pass by e.0 u.seen ≡ e.1) (λ e o. o.1) u.ended k'.ended);
        differ = subst (λ (m : Sat T K E). IsDistinct eqb (numbers m.0.number m.0.ended)) (sym is') d;
        below = subst (λ (m : Sat T K E). m.0.number ≡ 0 → (0 < m.0.made) × AllByRecursion (λ e. by e < m.0.made) m.0.seen) (sym now) (λ first. ((i.below first).0, every_left (λ e. by e < v.made) u.seen k'.seen.0 (subst (AllByRecursion (λ e. by e < v.made)) k'.seen.1 (b' first))));
      }

  pub joined_seen : (p o q r : Place) (a b : List E) (log : List E) → p.me.0.seen ≡ a → o.me.0.seen ≡ b → q.me ≡ (both p.me.0 o.me.0, p.me.1) → r.me ≡ q.me → Knows by log q.me.0
      → StartsWith r.me.0.seen a × StartsWith r.me.0.seen b × ((r.me.0.seen ≡ a) ⊎ (r.me.0.seen ≡ b))
  joined_seen p o q r a b log is_a is_b is is' k = let v : V = p.me.0 in let w : V = o.me.0 in let u : V = both v w in
      let k' : Knows by log u = subst (λ (m : Sat T K E). Knows by log m.0) is k in
      let first : log ≡ v.seen ++ (drop (length v.seen) w.seen ++ k'.seen.0) = k'.seen.1 ∙ append_assoc v.seen (drop (length v.seen) w.seen) k'.seen.0 in
      let all = longest log v.seen w.seen (drop (length v.seen) w.seen ++ k'.seen.0, first) k'.other in
      let which = ⊎_elim (λ (h : (longer v.seen w.seen ≡ v.seen) × StartsWith v.seen w.seen). inl h.0) (λ (h : (longer v.seen w.seen ≡ w.seen) × StartsWith w.seen v.seen). inr h.0) (one_line v.seen w.seen (drop (length v.seen) w.seen ++ k'.seen.0) k'.other.0 (sym first ∙ k'.other.1)) in
      let now : r.me.0.seen ≡ longer v.seen w.seen = ap (λ (m : Sat T K E). m.0.seen) (is' ∙ is) in
      subst (λ (z : List E × List E × List E). StartsWith z.0 z.1 × StartsWith z.0 z.2 × ((z.0 ≡ z.1) ⊎ (z.0 ≡ z.2))) (λ i. (sym now i, is_a i, is_b i)) (all.1, all.2, which)

  -- the whole history at the last turn
  pub closed_ended : (law : K) (place : ℕ) (before : Known K E) (p q : Place) (x : Locked T E) → known p place ≡ before → Took by stands law p x q → AllByRecursion (λ p. of_pass by p.0 x.entries.items ≡ p.1) before.ended
  closed_ended law place before p q x is t = subst (λ (z : Known K E). AllByRecursion (λ p. of_pass by p.0 x.entries.items ≡ p.1) z.ended) is (every_map (Owns by x.entries.items p.me.0.seen) (λ p. of_pass by p.0 x.entries.items ≡ p.1) (λ p o. o.0) p.me.0.ended t.knows.ended)

  pub closed_below : (law : K) (place : ℕ) (before : Known K E) (p q : Place) (x : Locked T E) → known p place ≡ before → Took by stands law p x q → before.number ≡ 0 → AllByRecursion (λ e. by e < before.made) x.entries.items
  closed_below law place before p q x is t = subst (λ (z : Known K E). z.number ≡ 0 → AllByRecursion (λ e. by e < z.made) x.entries.items) is t.below
