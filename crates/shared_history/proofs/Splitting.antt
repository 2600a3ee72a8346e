-- A pass that is split off, and one that is merged: the numbers of passes stay apart.
use Rattle.std.proofs.Common.{◌≡◌, ◌≢◌, ℕ, ◌+◌, ◌<◌, ◌≤◌, eqb, cond, true, List, [], ◌∷◌, ◌++◌, length, set, Option, refl, sym, ap, ◌∙◌, subst, inl, inr, ⊎_elim, arith, length-set, length-append, ne_eqb, eq-eqb}
use Rattle.std.specs.List.{AllByRecursion, IsDistinct}
use mathlib.Core.Option.{some, none, some-injective, some-ne-none}
use mathlib.Core.Logic.{dite}
use native.Mathlib.Decide.{ℕ_discrete}
use lib.ListN.{get_elem?}
use Rattle.atomic_table.specs.Table.{State, Splits, Joins}
use Rattle.atomic_table.proofs.Lists.{at_longer, set_here, set_else}
use Rattle.shared_history.specs.Events.{of_pass, numbers}
use Rattle.shared_history.specs.Rule.{ticket_of, turn_of, drawn, tickets, Owns, Fits, AtHome, IsOut, Kept}
use Rattle.shared_history.specs.Moves.{giver, given, longer, both, nobody}
use Rattle.shared_history.specs.declared.view.Stage.TheVariants.{Idle}
use Rattle.shared_history.specs.declared.view.View.{View}
use Rattle.shared_history.specs.declared.view.Locked.{Locked}
use Rattle.shared_history.proofs.Lists.{every_map, every_append, at_end, inside, each_set, of_pass_append, below_not, tickets_set, tickets_last, none_left, numbers-append, differ_append, longest, owns_later, one_differs}

module _ {T K E : Type 0} (by : E → ℕ) (stands : K → T → List E → Type 0) (key : K) where
  abbrev V : Type 0
  V = View K E

  abbrev St : Type 0
  St = State (Option (Locked T E)) V

  abbrev Rule : St → Type 0
  Rule = Kept by stands key

  -- the views after a split
  module _ (s : St) (h : Rule s) (id : ℕ) (v : V) (at : get_elem? s.views id ≡ some v) (live : v.live ≡ true) (first : v.number ≡ 0) where
    abbrev cut : List V
    cut = set s.views id (giver v)

    abbrev after : List V
    after = cut ++ given v ∷ []

    abbrev Back : V → ℕ → Type 0
    Back u j = (get_elem? s.views j ≡ some u) × (j ≢ id)

    -- each view is an old one, the giver or the new one
    split_cases : (P : ℕ → V → Type 0) → ((j : ℕ) (u : V) → j ≢ id → get_elem? s.views j ≡ some u → P j u) → P id (giver v) → P (length s.views) (given v) → (j : ℕ) (u : V) → get_elem? after j ≡ some u → P j u
    split_cases P others mine new j u e = ⊎_elim
        (λ was. each_set P s.views id (giver v) mine others j u was)
        (λ (t : (j ≡ length cut) × (given v ≡ u)). subst (λ (z : ℕ × V). P z.0 z.1) (λ k. (sym (t.0 ∙ length-set s.views id (giver v)) k, t.1 k)) new)
        (at_end cut (given v) u j e)

    -- a ticket that is out was out
    was_out : (j : ℕ) (u : V) (t : ℕ) → get_elem? after j ≡ some u → ticket_of u.stage ≡ some t → (u0 : V) × (get_elem? s.views j ≡ some u0) × (ticket_of u0.stage ≡ some t)
    was_out j u t e is = split_cases (λ j u. ticket_of u.stage ≡ some t → (u0 : V) × (get_elem? s.views j ≡ some u0) × (ticket_of u0.stage ≡ some t))
        (λ j u _ e is. (u, e, is)) (λ is. (v, at, is)) (λ is. absurd (some-ne-none t (sym is))) j u e is

    split_kept : v.made < 4294967296 → Rule record { words = s.words; homes = s.homes; views = after }
    split_kept room =
        let f = h.each_view id v at in let k = f.knows live in let made : v.made ≡ length s.views = f.made live first in let place : v.number ≡ id = f.place live in
        let count = tickets_set s.views id v (giver v) at in let last = tickets_last cut (given v) in let c : h.turn + tickets s.views ≡ h.next = h.counted in
        let long : length after ≡ length s.views + 1 = omega (arith, length-append cut (given v ∷ []), length-set s.views id (giver v)) in
        let none_yet : of_pass by v.made h.log ≡ [] = below_not by v.made h.log (subst (λ n. AllByRecursion (λ e. by e < n) h.log) (sym made) h.below) in record {
          log = h.log;
          turn = h.turn;
          next = h.next;
          owner = h.owner;
          words = h.words;
          counted = omega arith;
          few = omega arith;
          fresh = λ n far. let far' : length after ≤ n = far in h.fresh n (omega arith);
          below = every_map (λ e. by e < length s.views) (λ e. by e < length after) (λ e l. let l' : by e < length s.views = l in omega arith) h.log h.below;
          each_view = split_cases (Fits by key h.log h.turn h.next h.owner (length after))
              (λ j u other e. let g = h.each_view j u e in record {
                law = g.law;
                ticket = g.ticket;
                at_turn = g.at_turn;
                knows = g.knows;
                place = g.place;
                owned = g.owned;
                differ = g.differ;
                made = λ alive zero'. absurd (other (sym (g.place alive) ∙ (zero' ∙ (sym first ∙ place))));
              })
              record {
                law = f.law;
                ticket = f.ticket;
                at_turn = f.at_turn;
                knows = λ alive. record { seen = k.seen; other = k.other; mine = k.mine; ended = k.ended };
                place = f.place;
                owned = f.owned;
                differ = f.differ;
                made = λ alive zero'. omega arith;
              }
              record {
                law = λ _. f.law live;
                ticket = λ t is. absurd (some-ne-none t (sym is));
                at_turn = λ all is. absurd (some-ne-none all (sym is));
                knows = λ _. record {
                  seen = k.seen;
                  other = (h.log, refl);
                  mine = (none_yet, none_left (of_pass by v.made v.seen) (of_pass by v.made k.seen.0) (sym (of_pass_append by v.made v.seen k.seen.0) ∙ (sym (ap (of_pass by v.made) k.seen.1) ∙ none_yet)));
                  ended = tt;
                };
                place = λ _. made;
                owned = λ _. (h.fresh v.made (omega arith) ∙ made, tt);
                differ = λ _. one_differs v.made;
                made = λ _ zero'. let near = inside s.views id v at in let zero'' : v.made ≡ 0 = zero' in absurd (omega arith);
              };
          apart = λ i j u x t a b p q. let u' = was_out i u t a p in let x' = was_out j x t b q in h.apart i j u'.0 x'.0 t u'.1 x'.1 u'.2 x'.2;
          slot = ⊎_elim
              (λ (a : AtHome stands key h.log s.homes s.views). inl (a.0, a.1, a.2, a.3, split_cases (λ j u. turn_of u.stage ≡ none) (λ j u _ e. a.4 j u e) (a.4 id v at) refl))
              (λ (o : IsOut s.homes s.views). inr (
                o.0,
                dite (ℕ_discrete o.1.0 id)
                    (λ same. (id, giver v, o.1.2, at_longer cut (given v ∷ []) id (giver v) (set_here s.views id (giver v) (inside s.views id v at)), ap (λ (z : V). turn_of z.stage) (some-injective v o.1.1 (sym at ∙ (ap (get_elem? s.views) (sym same) ∙ o.1.3))) ∙ o.1.4))
                    (λ other. (o.1.0, o.1.1, o.1.2, at_longer cut (given v ∷ []) o.1.0 o.1.1 (set_else s.views id o.1.0 (giver v) other ∙ o.1.3), o.1.4)),
              ))
              h.slot;
        }

  pub splits : (id : ℕ) (v : V) → v.live ≡ true → v.number ≡ 0 → v.made < 4294967296 → Splits Rule id v (giver v) (given v)
  splits id v live first room s h at = split_kept s h id v at live first room

  -- the views after a join
  module _ (s : St) (h : Rule s) (id : ℕ) (v : V) (other : ℕ) (w : V) (at : get_elem? s.views id ≡ some v) (ne : other ≢ id) (there : get_elem? s.views other ≡ some w) (live : v.live ≡ true) (live' : w.live ≡ true) (idle : w.stage ≡ Idle) where
    abbrev u1 : V
    u1 = both v w

    abbrev vs1 : List V
    vs1 = set s.views id u1

    abbrev vs2 : List V
    vs2 = set vs1 other nobody

    join_cases : (P : ℕ → V → Type 0) → ((j : ℕ) (u : V) → j ≢ id → j ≢ other → get_elem? s.views j ≡ some u → P j u) → P id u1 → P other nobody → (j : ℕ) (u : V) → get_elem? vs2 j ≡ some u → P j u
    join_cases P others mine gone j u e = each_set P vs1 other nobody gone
        (λ j u far e. each_set (λ j u. j ≢ other → P j u) s.views id u1 (λ _. mine) (λ j u far' e far''. others j u far' far'' e) j u e far) j u e

    join_was_out : (j : ℕ) (u : V) (t : ℕ) → get_elem? vs2 j ≡ some u → ticket_of u.stage ≡ some t → (u0 : V) × (get_elem? s.views j ≡ some u0) × (ticket_of u0.stage ≡ some t)
    join_was_out j u t e is = join_cases (λ j u. ticket_of u.stage ≡ some t → (u0 : V) × (get_elem? s.views j ≡ some u0) × (ticket_of u0.stage ≡ some t))
        (λ j u _ _ e is. (u, e, is)) (λ is. (v, at, is)) (λ is. absurd (some-ne-none t (sym is))) j u e is

    -- the staying view owns what the other had
    abbrev owner : ℕ → ℕ
    owner n = cond (eqb (h.owner n) other) id (h.owner n)

    owner_moves : (n : ℕ) → h.owner n ≡ other → owner n ≡ id
    owner_moves n is = ap (λ b. cond b id (h.owner n)) (eq-eqb (h.owner n) other is)

    owner_stays : (n j : ℕ) → j ≢ other → h.owner n ≡ j → owner n ≡ j
    owner_stays n j far is = ap (λ b. cond b id (h.owner n)) (ne_eqb (h.owner n) other (λ same. far (sym is ∙ same))) ∙ is

    owns_both : AllByRecursion (λ n. owner n ≡ id) (numbers u1.number u1.ended)
    owns_both = subst (AllByRecursion (λ n. owner n ≡ id)) (sym (numbers-append v.number w.number w.mine v.ended w.ended)) (every_append (λ n. owner n ≡ id) (numbers v.number v.ended) (numbers w.number w.ended)
        (every_map (λ n. h.owner n ≡ id) (λ n. owner n ≡ id) (λ n is. owner_stays n id (λ same. ne (sym same)) is) (numbers v.number v.ended) ((h.each_view id v at).owned live))
        (every_map (λ n. h.owner n ≡ other) (λ n. owner n ≡ id) owner_moves (numbers w.number w.ended) ((h.each_view other w there).owned live')))

    differ_both : IsDistinct eqb (numbers u1.number u1.ended)
    differ_both = let f = h.each_view id v at in let g = h.each_view other w there in subst (IsDistinct eqb) (sym (numbers-append v.number w.number w.mine v.ended w.ended))
        (differ_append h.owner id other (λ same. ne (sym same)) (numbers v.number v.ended) (numbers w.number w.ended) (f.owned live) (g.owned live') (f.differ live) (g.differ live'))

    join_kept : Rule record { words = s.words; homes = s.homes; views = vs2 }
    join_kept =
        let f = h.each_view id v at in let g = h.each_view other w there in let k = f.knows live in let l = g.knows live' in
        let count = tickets_set s.views id v u1 at in let count' = tickets_set vs1 other w nobody (set_else s.views id other u1 ne ∙ there) in let d : drawn w.stage ≡ 0 = ap drawn idle in let c : h.turn + tickets s.views ≡ h.next = h.counted in
        let long : length vs2 ≡ length s.views = length-set vs1 other nobody ∙ length-set s.views id u1 in
        let all = longest h.log v.seen w.seen k.seen l.seen in let seen' : List E = longer v.seen w.seen in record {
          log = h.log;
          turn = h.turn;
          next = h.next;
          owner = owner;
          words = h.words;
          counted = omega arith;
          few = let few' : length s.views ≤ 4294967296 = h.few in omega arith;
          fresh = λ n far. let near = inside s.views other w there in let far' : length s.views ≤ n = subst (λ m. m ≤ n) long far in owner_stays n n (λ same. absurd (omega arith)) (h.fresh n far');
          below = subst (λ n. AllByRecursion (λ e. by e < n) h.log) (sym long) h.below;
          each_view = join_cases (Fits by key h.log h.turn h.next owner (length vs2))
              (λ j u far far' e. let q = h.each_view j u e in record {
                law = q.law;
                ticket = q.ticket;
                at_turn = q.at_turn;
                knows = q.knows;
                place = q.place;
                owned = λ alive. every_map (λ n. h.owner n ≡ j) (λ n. owner n ≡ j) (λ n is. owner_stays n j far' is) (numbers u.number u.ended) (q.owned alive);
                differ = q.differ;
                made = λ alive first. q.made alive first ∙ sym long;
              })
              record {
                law = f.law;
                ticket = f.ticket;
                at_turn = f.at_turn;
                knows = λ _. record {
                  seen = all.0;
                  other = l.seen;
                  mine = owns_later by h.log v.seen seen' (v.number, v.mine) all.0 all.1 k.mine;
                  ended = every_append (Owns by h.log seen') v.ended ((w.number, w.mine) ∷ w.ended)
                      (every_map (Owns by h.log v.seen) (Owns by h.log seen') (λ p o. owns_later by h.log v.seen seen' p all.0 all.1 o) v.ended k.ended)
                      (owns_later by h.log w.seen seen' (w.number, w.mine) all.0 all.2 l.mine, every_map (Owns by h.log w.seen) (Owns by h.log seen') (λ p o. owns_later by h.log w.seen seen' p all.0 all.2 o) w.ended l.ended);
                };
                place = f.place;
                owned = λ _. owns_both;
                differ = λ _. differ_both;
                made = λ alive first. f.made alive first ∙ sym long;
              }
              record {
                law = λ alive. absurd (cc);
                ticket = λ t is. absurd (some-ne-none t (sym is));
                at_turn = λ all is. absurd (some-ne-none all (sym is));
                knows = λ alive. absurd (cc);
                place = λ alive. absurd (cc);
                owned = λ alive. absurd (cc);
                differ = λ alive. absurd (cc);
                made = λ alive. absurd (cc);
              };
          apart = λ i j u x t a b p q. let u' = join_was_out i u t a p in let x' = join_was_out j x t b q in h.apart i j u'.0 x'.0 t u'.1 x'.1 u'.2 x'.2;
          slot = ⊎_elim
              (λ (a : AtHome stands key h.log s.homes s.views). inl (a.0, a.1, a.2, a.3, join_cases (λ j u. turn_of u.stage ≡ none) (λ j u _ _ e. a.4 j u e) (a.4 id v at) refl))
              (λ (o : IsOut s.homes s.views). let far' : o.1.0 ≢ other = λ same. some-ne-none o.1.2 (sym o.1.4 ∙ (ap (λ (z : V). turn_of z.stage) (some-injective o.1.1 w (sym o.1.3 ∙ (ap (get_elem? s.views) same ∙ there))) ∙ ap turn_of idle)) in
              inr (
                o.0,
                dite (ℕ_discrete o.1.0 id)
                    (λ same. (id, u1, o.1.2, set_else vs1 other id nobody (λ e. ne (sym e)) ∙ set_here s.views id u1 (inside s.views id v at), ap (λ (z : V). turn_of z.stage) (some-injective v o.1.1 (sym at ∙ (ap (get_elem? s.views) (sym same) ∙ o.1.3))) ∙ o.1.4))
                    (λ far. (o.1.0, o.1.1, o.1.2, set_else vs1 other o.1.0 nobody far' ∙ (set_else s.views id o.1.0 u1 far ∙ o.1.3), o.1.4)),
              ))
              h.slot;
        }

  pub joins : (id : ℕ) (v : V) (other : ℕ) (w : V) → v.live ≡ true → w.live ≡ true → w.stage ≡ Idle → Joins Rule id v other w (both v w) nobody
  joins id v other w live live' idle s h at ne e = join_kept s h id v other w at ne (sym (set_else s.views id other (both v w) ne) ∙ e) live live' idle
