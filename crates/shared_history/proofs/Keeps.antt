-- Each step of the lock keeps its rule.
use Rattle.std.proofs.Common.{◌≡◌, ◌≢◌, ℕ, zero, suc, ◌+◌, ◌%◌, ◌<◌, ◌≤◌, ◌⊎◌, true, List, [], ◌∷◌, ◌++◌, length, set, get_or, Option, Some, refl, sym, ap, ◌∙◌, subst, inl, inr, ⊎_elim, arith, length-set, append-nil}
use Rattle.std.specs.List.{AllByRecursion}
use mathlib.Core.Option.{some, none, some-injective, some-ne-none}
use mathlib.Core.Option as maybe
use mathlib.Core.Logic.{dite}
use native.Mathlib.Decide.{ℕ_discrete}
use Rattle.std.proofs.Math.Nat.{mod-add-mod}
use lib.ListN.{get_elem?}
use Rattle.atomic_table.specs.Table.{put_back, rest, State, Me, step, keeps, takes, gives, stepped, Allows, opening}
use lib.Seq.{set-get_or}
use Rattle.atomic_table.proofs.Lists.{set_again, at_set, set_here, set_else, one_turn}
use Rattle.shared_history.specs.Events.{of_pass, StartsWith}
use Rattle.shared_history.specs.Rule.{round, ticket_of, turn_of, drawn, tickets, first_view, Owns, Knows, Fits, AtHome, IsOut, Kept}
use Rattle.shared_history.specs.Moves.{at_stage, resting, rested, left, drew, polled, passed_on, looked}
use Rattle.shared_history.specs.declared.view.Stage.{Stage}
use Rattle.shared_history.specs.declared.view.Stage.TheVariants.{Idle, Waiting, Turn}
use Rattle.shared_history.specs.declared.view.View.{View}
use Rattle.shared_history.specs.declared.view.Locked.{Locked}
use Rattle.shared_history.proofs.Lists.{every_map, every_both, every_append, inside, each_set, starts_longer, of_pass_append, of_pass_none, tickets_set, tickets_few, not_own, not_others, one_differs}

module _ {T K E : Type 0} (by : E → ℕ) (stands : K → T → List E → Type 0) (key : K) where
  abbrev V : Type 0
  V = View K E

  abbrev S : Type 0
  S = Option (Locked T E)

  abbrev St : Type 0
  St = State S V

  abbrev M : Type 0
  M = Me S V

  abbrev Rule : St → Type 0
  Rule = Kept by stands key

  -- the history grew by events of the pass `id` alone
  record Grows (id : ℕ) (log log' : List E) : Type 0 where
    starts : StartsWith log' log
    others : (n : ℕ) → n ≢ id → of_pass by n log' ≡ of_pass by n log

  same_log : (id : ℕ) (log : List E) → Grows id log log
  same_log id log = record { starts = ([], sym (append-nil log)); others = λ n _. refl }

  -- what another pass knows stays so
  still_knows : (id : ℕ) (log log' : List E) → Grows id log log' → (v : V) → v.number ≢ id → AllByRecursion (λ p. p.0 ≢ id) v.ended → Knows by log v → Knows by log' v
  still_knows id log log' g v other apart k = record {
    seen = starts_longer log log' v.seen g.starts k.seen;
    other = starts_longer log log' v.other g.starts k.other;
    mine = (g.others v.number other ∙ k.mine.0, k.mine.1);
    ended = every_both (λ p. p.0 ≢ id) (Owns by log v.seen) (Owns by log' v.seen) (λ p apart' o. (g.others p.0 apart' ∙ o.0, o.1)) v.ended apart k.ended;
  }

  -- what another view keeps has not the number of this one
  apart_from : (s : St) (h : Rule s) (id : ℕ) (v : V) → get_elem? s.views id ≡ some v → v.live ≡ true → (j : ℕ) (u : V) → j ≢ id → get_elem? s.views j ≡ some u → u.live ≡ true → AllByRecursion (λ p. p.0 ≢ id) u.ended
  apart_from s h id v at live j u other e alive = let f = h.each_view id v at in let own : h.owner id ≡ id = subst (λ n. h.owner n ≡ id) (f.place live) (f.owned live).0 in
      not_others h.owner id j own other u.ended ((h.each_view j u e).owned alive).1

  one_there : (vs : List V) (id j : ℕ) (w x : V) → j ≡ id → get_elem? (set vs id w) j ≡ some x → w ≡ x
  one_there vs id j w x e at = ⊎_elim (λ (t : (j ≡ id) × (w ≡ x)). t.1) (λ (t : (j ≢ id) × (get_elem? vs j ≡ some x)). absurd (t.0 e)) (at_set vs id j w x at)

  -- one view changes in place, and the history grows by its own events
  moved : (s : St) (h : Rule s) (id : ℕ) (v w : V) → get_elem? s.views id ≡ some v → v.live ≡ true → (log' : List E) (turn' next' : ℕ) (words' : List ℕ) (homes' : List (maybe.Option S))
      → Grows id h.log log' → AllByRecursion (λ e. by e < length s.views) log' → words' ≡ turn' % round ∷ next' % round ∷ [] → turn' + tickets (set s.views id w) ≡ next'
      → ((j : ℕ) (u : V) → j ≢ id → get_elem? s.views j ≡ some u → ((t : ℕ) → ticket_of u.stage ≡ some t → (turn' ≤ t) × (t < next')) × ((all : List E) → turn_of u.stage ≡ some all → (all ≡ log') × (ticket_of u.stage ≡ some turn')))
      → Fits by key log' turn' next' h.owner (length s.views) id w
      → ((j : ℕ) (u : V) (t : ℕ) → j ≢ id → get_elem? s.views j ≡ some u → ticket_of u.stage ≡ some t → ticket_of w.stage ≡ some t → ⊥)
      → AtHome stands key log' homes' (set s.views id w) ⊎ IsOut homes' (set s.views id w)
      → Rule record { words = words'; homes = homes'; views = set s.views id w }
  moved s h id v w at live log' turn' next' words' homes' grows below words counted others mine apart slot = record {
    log = log';
    turn = turn';
    next = next';
    owner = h.owner;
    words = words;
    counted = counted;
    few = subst (λ (n : ℕ). n ≤ 4294967296) (sym (length-set s.views id w)) h.few;
    below = subst (λ (n : ℕ). AllByRecursion (λ e. by e < n) log') (sym (length-set s.views id w)) below;
    fresh = λ n far. h.fresh n (subst (λ m. m ≤ n) (length-set s.views id w) far);
    each_view = λ j u e. subst (λ m. Fits by key log' turn' next' h.owner m j u) (sym (length-set s.views id w)) (each_set (λ j u. Fits by key log' turn' next' h.owner (length s.views) j u) s.views id w mine (λ j u other e. let f = h.each_view j u e in let o = others j u other e in record {
      law = f.law;
      ticket = o.0;
      at_turn = o.1;
      knows = λ alive. still_knows id h.log log' grows u (λ same. other (sym (f.place alive) ∙ same)) (apart_from s h id v at live j u other e alive) (f.knows alive);
      place = f.place;
      owned = f.owned;
      differ = f.differ;
      made = f.made;
    }) j u e);
    apart = λ i j u x t a b p q. dite (ℕ_discrete i id)
        (λ e. dite (ℕ_discrete j id) (λ f. e ∙ sym f)
        (λ f. absurd (apart j x t f (sym (set_else s.views id j w f) ∙ b) q (ap (λ (z : V). ticket_of z.stage) (one_there s.views id i w u e a) ∙ p))))
        (λ e. dite (ℕ_discrete j id) (λ f. absurd (apart i u t e (sym (set_else s.views id i w e) ∙ a) p (ap (λ (z : V). ticket_of z.stage) (one_there s.views id j w x f b) ∙ q)))
        (λ f. h.apart i j u x t (sym (set_else s.views id i w e) ∙ a) (sym (set_else s.views id j w f) ∙ b) p q));
    slot = slot;
  }

  -- where the view that changes is not at its turn, the slot stays as it is
  slot_stays : (log : List E) (homes : List (maybe.Option S)) (vs : List V) (id : ℕ) (v w : V) → get_elem? vs id ≡ some v → turn_of v.stage ≡ none → turn_of w.stage ≡ none
      → AtHome stands key log homes vs ⊎ IsOut homes vs → AtHome stands key log homes (set vs id w) ⊎ IsOut homes (set vs id w)
  slot_stays log homes vs id v w at off off' h = ⊎_elim
      (λ (a : AtHome stands key log homes vs). inl (a.0, a.1, a.2, a.3, each_set (λ j u. turn_of u.stage ≡ none) vs id w off' (λ j u _ e. a.4 j u e)))
      (λ (o : IsOut homes vs). inr (o.0, (o.1.0, o.1.1, o.1.2, set_else vs id o.1.0 w (λ e. some-ne-none o.1.2 (sym o.1.4 ∙ (ap (λ (z : V). turn_of z.stage) (some-injective o.1.1 v (sym o.1.3 ∙ (ap (get_elem? vs) e ∙ at))) ∙ off))) ∙ o.1.3, o.1.4)))
      h

  at_stage_knows : (log : List E) (v : V) (st : Stage E) → Knows by log v → Knows by log (at_stage v st)
  at_stage_knows log v st k = record { seen = k.seen; other = k.other; mine = k.mine; ended = k.ended }

  pub draws : (slots id : ℕ) (me : M) → me.0.live ≡ true → me.0.stage ≡ Idle → Allows Rule slots id me 1 (λ n. (n + 1) % round) (drew (step slots 1 1 0 none) me)
  draws slots id me live idle s h wide at small =
      let v : V = me.0 in let w : V = at_stage v (Waiting h.next) in let f = h.each_view id v at in let c : h.turn + tickets s.views ≡ h.next = h.counted in
      let d : drawn v.stage ≡ 0 = ap drawn idle in let off : turn_of v.stage ≡ none = ap turn_of idle in let count = tickets_set s.views id v w at in (
        w,
        keeps,
        tt,
        moved s h id v w at live h.log h.turn (h.next + 1) (set s.words 1 ((get_or s.words 1 0 + 1) % round)) s.homes (same_log id h.log) h.below
            (ap (λ ws. set ws 1 ((get_or ws 1 0 + 1) % round)) h.words ∙ ap (λ (n : ℕ). h.turn % round ∷ n ∷ []) (mod-add-mod h.next round 1))
            (omega arith)
            (λ j u other e. let g = h.each_view j u e in ((λ t is. let k = g.ticket t is in (k.0, omega arith)), g.at_turn))
            record {
              law = f.law;
              ticket = λ t is. let e : h.next ≡ t = some-injective h.next t is in (omega arith, omega arith);
              at_turn = λ all is. absurd (some-ne-none all (sym is));
              knows = λ alive. at_stage_knows h.log v (Waiting h.next) (f.knows alive);
              place = f.place;
              owned = f.owned;
              differ = f.differ;
              made = f.made;
            }
            (λ j u t other e is same. let k = (h.each_view j u e).ticket t is in let n : h.next ≡ t = some-injective h.next t same in let l = k.1 in absurd (omega arith))
            (slot_stays h.log s.homes s.views id v w at off refl h.slot),
        (h.next, ap (λ ws. get_or ws 1 0) h.words, refl),
      )

  one_law : (a b : K) → Path (Option K) (Some a) (Some b) → a ≡ b
  one_law a b e = cc

  -- what a waiting view finds where it is its turn
  abbrev Hit : St → ℕ → M → ℕ → Type 0
  Hit s id me t = (x : Locked T E) × (get_elem? s.homes 0 ≡ some (some (Some x))) × ((k : K) → me.0.law ≡ Some k → stands k x.state x.entries.items) × Knows by x.entries.items me.0 × (me.0.number ≡ 0 → AllByRecursion (λ e. by e < me.0.made) x.entries.items)
      × Rule record { words = set s.words 0 (get_or s.words 0 0); homes = set s.homes 0 none; views = set s.views id (at_stage me.0 (Turn t x.entries.items)) }

  hits : (s : St) (h : Rule s) (id : ℕ) (me : M) (t : ℕ) → get_elem? s.views id ≡ some me.0 → me.0.live ≡ true → me.0.stage ≡ Waiting t → get_or s.words 0 0 ≡ t % round → Hit s id me t
  hits s h id me t at live stage found =
      let v : V = me.0 in let f = h.each_view id v at in let mine : ticket_of v.stage ≡ some t = ap ticket_of stage in let k = f.ticket t mine in let c : h.turn + tickets s.views ≡ h.next = h.counted in
      let few = tickets_few s.views in let few' : length s.views ≤ 4294967296 = h.few in let k0 : h.turn ≤ t = k.0 in let k1 : t < h.next = k.1 in
      let now : h.turn ≡ t = one_turn h.turn t round k0 (let g : t < h.turn + round = omega arith in g) (sym (ap (λ ws. get_or ws 0 0) h.words) ∙ found) in
      ⊎_elim
      (λ (a : AtHome stands key h.log s.homes s.views).
      let x : Locked T E = a.0 in let w : V = at_stage v (Turn t x.entries.items) in let log_is : x.entries.items ≡ h.log = a.2 in let law_is : v.law ≡ Some key = f.law live in
      let knows : Knows by h.log v = f.knows live in let d : drawn v.stage ≡ 1 = ap drawn stage in let count = tickets_set s.views id v w at in (
        x,
        ap (λ hs. get_elem? hs 0) a.1,
        (λ k is. subst (λ (z : K × List E). stands z.0 x.state z.1) (λ i. (one_law key k (sym law_is ∙ is) i, sym log_is i)) a.3),
        subst (λ l. Knows by l v) (sym log_is) knows,
        (λ first. subst (λ (z : List E × ℕ). AllByRecursion (λ e. by e < z.1) z.0) (λ i. (sym log_is i, sym (f.made live first) i)) h.below),
        moved s h id v w at live h.log h.turn h.next (set s.words 0 (get_or s.words 0 0)) (set s.homes 0 none) (same_log id h.log) h.below
            (ap (λ ws. set ws 0 (get_or ws 0 0)) h.words)
            (omega arith)
            (λ j u other e. let g = h.each_view j u e in (g.ticket, g.at_turn))
            record {
              law = f.law;
              ticket = λ t' is. let e : t ≡ t' = some-injective t t' is in (omega arith, omega arith);
              at_turn = λ all is. (sym (some-injective x.entries.items all is) ∙ log_is, ap some (sym now));
              knows = λ alive. at_stage_knows h.log v (Turn t x.entries.items) knows;
              place = f.place;
              owned = f.owned;
              differ = f.differ;
              made = f.made;
            }
            (λ j u t' other e is same. other (h.apart j id u v t' e at is (mine ∙ same)))
            (inr (ap (λ hs. set hs 0 none) a.1, (id, w, x.entries.items, set_here s.views id w (inside s.views id v at), refl))),
      ))
      (λ (o : IsOut s.homes s.views). let j : ℕ = o.1.0 in let u : V = o.1.1 in let g = (h.each_view j u o.1.3).at_turn o.1.2 o.1.4 in
      let same : j ≡ id = h.apart j id u v t o.1.3 at (g.1 ∙ ap some now) mine in let u_is : u ≡ v = some-injective u v (sym o.1.3 ∙ (ap (get_elem? s.views) same ∙ at)) in
      absurd (some-ne-none o.1.2 (sym o.1.4 ∙ (ap (λ (z : V). turn_of z.stage) u_is ∙ ap turn_of stage))))
      h.slot

  unchanged : (s : St) → Rule s → (i id : ℕ) (me : M) → get_elem? s.views id ≡ some me.0 → Rule (stepped s i (get_or s.words i 0) id me.1 me.0 keeps)
  unchanged s h i id me at = subst (λ (z : List ℕ × List V). Rule record { words = z.0; homes = s.homes; views = z.1 }) (λ k. (sym (set-get_or s.words i 0) k, sym (set_again s.views id me.0 at) k)) h

  -- only the view whose ticket is the turn is at its turn
  not_at_turn : (s : St) (h : Rule s) (j : ℕ) (u : V) (id : ℕ) (v : V) (t : ℕ) (all : List E) → get_elem? s.views j ≡ some u → get_elem? s.views id ≡ some v → ticket_of v.stage ≡ some t → t ≡ h.turn → j ≢ id → turn_of u.stage ≡ none
  not_at_turn s h j u id v t all e at mine now other = by_stage u.stage refl
    where
      by_stage : (st : Stage E) → u.stage ≡ st → turn_of u.stage ≡ none
      by_stage Idle is = ap turn_of is
      by_stage (Waiting t') is = ap turn_of is
      by_stage (Turn t' all') is = absurd (other (h.apart j id u v t e at (((h.each_view j u e).at_turn all' (ap turn_of is)).1 ∙ ap some (sym now)) mine))

  pub polls : (slots id : ℕ) (me : M) (t : ℕ) → me.0.live ≡ true → me.0.stage ≡ Waiting t → me.1 ≡ [] → Allows Rule slots id me 0 (λ n. n) (polled by stands (step slots 0 0 0 none) me)
  polls slots id me t live stage empty s h wide at small = dite (ℕ_discrete (get_or s.words 0 0) (t % round))
      (λ found. let r = hits s h id me t at live stage found in let x : Locked T E = r.0 in (
        at_stage me.0 (Turn t x.entries.items),
        takes 0 (Some x),
        r.1,
        r.5,
        λ t' is. let same : t ≡ t' = some-injective t t' (ap ticket_of (sym stage ∙ is)) in (
          (λ _. (x, ap (λ n. at_stage me.0 (Turn n x.entries.items)) same, ap (λ l. (0, Some x) ∷ l) empty, r.2, r.3, r.4)),
          λ miss. absurd (miss (found ∙ ap (λ n. n % round) same)),
        ),
      ))
      (λ miss. (
        me.0,
        keeps,
        tt,
        unchanged s h 0 id me at,
        λ t' is. let same : t ≡ t' = some-injective t t' (ap ticket_of (sym stage ∙ is)) in (
          (λ found. absurd (miss (found ∙ ap (λ n. n % round) (sym same)))),
          λ _. refl,
        ),
      ))

  -- events of the pass alone
  own_events : (id : ℕ) (log more log' : List E) → log' ≡ log ++ more → AllByRecursion (λ e. by e ≡ id) more → Grows id log log'
  own_events id log more log' is own = record {
    starts = (more, is);
    others = λ n other. ap (of_pass by n) is ∙ (of_pass_append by n log more ∙ (ap (λ l. of_pass by n log ++ l) (of_pass_none by n more (every_map (λ e. by e ≡ id) (λ e. by e ≢ n) (λ e same bad. other (sym bad ∙ same)) more own)) ∙ append-nil (of_pass by n log)));
  }

  abbrev held_or : S → List (ℕ × S) → S
  held_or d [] = d
  held_or d (p ∷ ps) = p.1

  one_held : (x y : Locked T E) → Path (List (ℕ × S)) ((0, Some x) ∷ []) ((0, Some y) ∷ []) → x ≡ y
  one_held x y e = let same : Path S (Some x) (Some y) = ap (held_or (Some x)) e in cc

  -- a turn ends, and its pass has seen `seen` since
  ends : (slots id : ℕ) (me : M) (k : K) (t : ℕ) (all more seen mine' : List E) (x : Locked T E) (then : ℕ → M → Type 0) → me.0.live ≡ true → me.0.law ≡ Some k → me.0.stage ≡ Turn t all → me.1 ≡ (0, Some x) ∷ [] → x.entries.items ≡ all ++ more
      → AllByRecursion (λ e. by e ≡ me.0.number) more → stands k x.state x.entries.items
      → ((log : List E) → x.entries.items ≡ log ++ more → Grows id log x.entries.items → Knows by log me.0 → AllByRecursion (λ p. p.0 ≢ id) me.0.ended → Knows by x.entries.items (resting me.0 seen mine'))
      → ((r : ℕ) → then r (resting me.0 seen mine', []))
      → Allows Rule slots id me 0 (λ n. (n + 1) % round) then
  ends slots id me key' t all more seen mine' x then live law_is stage has grew own good know told s h wide at small =
      let v : V = me.0 in let log' : List E = x.entries.items in let w : V = resting v seen mine' in let f = h.each_view id v at in let k = f.knows live in let place : v.number ≡ id = f.place live in
      let mine : ticket_of v.stage ≡ some t = ap ticket_of stage in let tk = f.ticket t mine in let here = f.at_turn all (ap turn_of stage) in
      let now : t ≡ h.turn = some-injective t h.turn (sym mine ∙ here.1) in let is : log' ≡ h.log ++ more = grew ∙ ap (λ l. l ++ more) here.0 in
      let own' : AllByRecursion (λ e. by e ≡ id) more = every_map (λ e. by e ≡ v.number) (λ e. by e ≡ id) (λ e p. p ∙ place) more own in let g = own_events id h.log more log' is own' in
      let count = tickets_set s.views id v w at in let d : drawn v.stage ≡ 1 = ap drawn stage in let c : h.turn + tickets s.views ≡ h.next = h.counted in let near = inside s.views id v at in
      let out : s.homes ≡ none ∷ [] = ⊎_elim (λ (a : AtHome stands key h.log s.homes s.views). absurd (some-ne-none all (sym (ap turn_of stage) ∙ a.4 id v at))) (λ (o : IsOut s.homes s.views). o.0) h.slot in
      let no_turn : (j : ℕ) (u : V) → j ≢ id → get_elem? s.views j ≡ some u → turn_of u.stage ≡ none = λ j u other e. not_at_turn s h j u id v t all e at mine now other in
      let knows' = know h.log is g k (subst (λ n. AllByRecursion (λ p. p.0 ≢ n) v.ended) place (not_own v.number v.ended (f.differ live))) in (
        w,
        gives,
        tt,
        moved s h id v w at live log' (h.turn + 1) h.next (set s.words 0 ((get_or s.words 0 0 + 1) % round)) (put_back s.homes me.1) g
            (subst (λ l. AllByRecursion (λ e. by e < length s.views) l) (sym is) (every_append (λ e. by e < length s.views) h.log more h.below (every_map (λ e. by e ≡ id) (λ e. by e < length s.views) (λ e p. subst (λ n. n < length s.views) (sym p) near) more own')))
            (ap (λ ws. set ws 0 ((get_or ws 0 0 + 1) % round)) h.words ∙ ap (λ (n : ℕ). n ∷ h.next % round ∷ []) (mod-add-mod h.turn round 1))
            (omega arith)
            (λ j u other e. (
              (λ t' is'. let b = (h.each_view j u e).ticket t' is' in let far : t' ≢ h.turn = λ same. other (h.apart j id u v t' e at is' (mine ∙ ap some (now ∙ sym same))) in let b0 = b.0 in (omega arith, b.1)),
              (λ all' is'. absurd (some-ne-none all' (sym is' ∙ no_turn j u other e))),
            ))
            record {
              law = f.law;
              ticket = λ t' is'. absurd (some-ne-none t' (sym is'));
              at_turn = λ all' is'. absurd (some-ne-none all' (sym is'));
              knows = λ alive. knows';
              place = f.place;
              owned = f.owned;
              differ = f.differ;
              made = f.made;
            }
            (λ j u t' other e is' same. some-ne-none t' (sym same))
            (inl (x, ap (put_back s.homes) has ∙ ap (λ hs. set hs 0 (some (Some x))) out, refl, subst (λ (z : K). stands z x.state log') (one_law key' key (sym law_is ∙ f.law live)) good, each_set (λ j u. turn_of u.stage ≡ none) s.views id w refl no_turn)),
        subst (λ (l : List (ℕ × S)). then (get_or s.words 0 0) (w, l)) (sym (ap rest has)) (told (get_or s.words 0 0)),
      )

  pub passes : (slots id : ℕ) (me : M) (k : K) (t : ℕ) (all more : List E) (x : Locked T E) → me.0.live ≡ true → me.0.law ≡ Some k → me.0.stage ≡ Turn t all → me.1 ≡ (0, Some x) ∷ [] → x.entries.items ≡ all ++ more → AllByRecursion (λ e. by e ≡ me.0.number) more → stands k x.state x.entries.items
      → Allows Rule slots id me 0 (λ n. (n + 1) % round) (passed_on by (step slots 0 1 0 none) me)
  passes slots id me k t all more x live law_is stage has grew own good = let v : V = me.0 in let log' : List E = x.entries.items in
      ends slots id me k t all more log' (of_pass by v.number log') x (passed_on by (step slots 0 1 0 none) me) live law_is stage has grew own good
      (λ log is g kn apart. record {
        seen = ([], sym (append-nil log'));
        other = starts_longer log log' v.other g.starts kn.other;
        mine = (refl, refl);
        ended = every_both (λ p. p.0 ≢ id) (Owns by log v.seen) (Owns by log' log') (λ p far o. let same = g.others p.0 far ∙ o.0 in (same, same)) v.ended apart kn.ended;
      })
      (λ r x' is'. let same : x ≡ x' = one_held x x' (sym has ∙ is') in λ i. (rested by v (same i).entries.items, []))

  pub leaves : (slots id : ℕ) (me : M) (k : K) (t : ℕ) (all : List E) (x : Locked T E) → me.0.live ≡ true → me.0.law ≡ Some k → me.0.stage ≡ Turn t all → me.1 ≡ (0, Some x) ∷ [] → x.entries.items ≡ all → stands k x.state x.entries.items
      → Allows Rule slots id me 0 (λ n. (n + 1) % round) (left (step slots 0 1 0 none) me)
  leaves slots id me k t all x live law_is stage has same good = let v : V = me.0 in
      ends slots id me k t all [] v.seen v.mine x (left (step slots 0 1 0 none) me) live law_is stage has (same ∙ sym (append-nil all)) tt good
      (λ log is g kn apart. subst (λ l. Knows by l (at_stage v Idle)) (sym (is ∙ append-nil log)) (at_stage_knows log v Idle kn))
      (λ r x' is'. refl)

  pub begins : (x : Locked T E) → x.entries.items ≡ [] → stands key x.state [] → Rule (opening (0 ∷ 0 ∷ []) (Some x ∷ []) (first_view key))
  begins x empty good = record {
    log = [];
    turn = 0;
    next = 0;
    owner = λ n. n;
    words = refl;
    counted = refl;
    few = omega arith;
    below = tt;
    fresh = λ n _. refl;
    each_view = λ j v e. let t = alone j v e in subst (Fits by key [] 0 0 (λ n. n) 1 j) t.1 record {
      law = λ _. refl;
      ticket = λ t' is. absurd (some-ne-none t' (sym is));
      at_turn = λ all is. absurd (some-ne-none all (sym is));
      knows = λ _. record { seen = ([], refl); other = ([], refl); mine = (refl, refl); ended = tt };
      place = λ _. sym t.0;
      owned = λ _. (sym t.0, tt);
      differ = λ _. one_differs 0;
      made = λ _ _. refl;
    };
    apart = λ i j v w t a b _ _. (alone i v a).0 ∙ sym (alone j w b).0;
    slot = inl (x, refl, empty, good, λ j v e. ap (λ (z : V). turn_of z.stage) (sym (alone j v e).1));
  }
    where
      alone : (j : ℕ) (v : V) → get_elem? (first_view key ∷ []) j ≡ some v → (j ≡ 0) × (first_view key ≡ v)
      alone zero v e = (refl, some-injective _ _ e)
      alone (suc j) v e = absurd (some-ne-none v (sym e))

  pub looks : (slots id : ℕ) (me : M) → me.0.live ≡ true → Allows Rule slots id me 0 (λ n. n) (looked by (step slots 0 0 0 none) me)
  looks slots id me live s h wide at small = let f = h.each_view id me.0 at in
      (me.0, keeps, tt, unchanged s h 0 id me at, (refl, (h.log, f.knows live, f.differ live, λ first. subst (λ n. AllByRecursion (λ e. by e < n) h.log) (sym (f.made live first)) h.below)))
