-- Lists of workers, and passes that are merged one after another.
use Rattle.std.proofs.Common.{◌≡◌, ℕ, ◌+◌, ◌-◌, ◌<◌, ◌≤◌, ◌==◌, ◌&&◌, IsTrue, Bool, true, false, List, [], ◌∷◌, ◌++◌, length, drop, get_or, sym, ap, ◌∙◌, subst, arith, append_assoc, length-append}
use mathlib.Core.Logic.{dite}
use native.Mathlib.Decide.{ℕ_discrete}
use Rattle.std.specs.List.{AllByRecursion}
use Rattle.std.proofs.lemmas.Bool.{eqb-true}
use Rattle.std.proofs.lemmas.List.{get_or_append_left, length-drop}
use Rattle.shared_history.specs.Events.{StartsWith}
use Rattle.std.proofs.Math.Seq.{get_or-append_seam}
use Rattle.history_client.specs.declared.worker.Task.{Task}
use Rattle.history_client.specs.declared.worker.Worker.{Worker}
use Rattle.std.specs.Bool.{OnTrue}
use Rattle.shared_history.specs.Known.{Story}
use Rattle.history_client.specs.declared.law.Pool.{Pool}
use Rattle.history_client.specs.declared.law.Event.{Event}
use Rattle.history_client.specs.Pools.{notes}
use Rattle.history_client.specs.Work.{Each, IsOneOf, IsReady, HasWorked, WorkedFrom}

module _ (P : ℕ → Task → Worker → Type 0) where
  pub each_more : (tasks : List Task) (ws : List Worker) (w : Worker) (i : ℕ) → length ws ≡ i → ((t : Task) → P (i + 1) (get_or tasks i t) w) → Each P tasks ws → Each P tasks (ws ++ w ∷ [])
  each_more tasks ws w i long last h k t d near = dite (ℕ_discrete k i)
      (λ same. subst (P (k + 1) (get_or tasks k t)) (sym (ap (λ n. get_or (ws ++ w ∷ []) n d) (same ∙ sym long) ∙ get_or-append_seam ws w [] d)) (subst (λ n. P (n + 1) (get_or tasks n t) w) (sym same) (last t)))
      (λ other. let sum = length-append ws (w ∷ []) in let within : k < length ws = omega arith in subst (P (k + 1) (get_or tasks k t)) (sym (get_or_append_left ws (w ∷ []) d k within)) (h k t d within))

  pub each_pushed : (tasks : List Task) (ws before after : List Worker) (w : Worker) (i : ℕ) → after ≡ before ++ w ∷ [] → before ≡ ws → length ws ≡ i → ((t : Task) → P (i + 1) (get_or tasks i t) w) → Each P tasks ws → Each P tasks after
  each_pushed tasks ws before after w i more same long last h = subst (Each P tasks) (sym (more ∙ ap (λ l. l ++ w ∷ []) same)) (each_more tasks ws w i long last h)

  pub each_fewer : (tasks : List Task) (ws : List Worker) (w : Worker) → Each P tasks (ws ++ w ∷ []) → Each P tasks ws
  each_fewer tasks ws w h k t d near = let sum = length-append ws (w ∷ []) in subst (P (k + 1) (get_or tasks k t)) (get_or_append_left ws (w ∷ []) d k near) (h k t d (omega arith))

  pub each_last : (tasks : List Task) (ws : List Worker) (w : Worker) → Each P tasks (ws ++ w ∷ []) → (t : Task) → P (length ws + 1) (get_or tasks (length ws) t) w
  each_last tasks ws w h t = let sum = length-append ws (w ∷ []) in subst (P (length ws + 1) (get_or tasks (length ws) t)) (get_or-append_seam ws w [] w) (h (length ws) t w (omega arith))

-- each worker has worked
pub worked_each : (hist : Story Pool) (tasks : List Task) (jobs ws : List Worker) → length ws ≡ length jobs → Each (IsReady hist) tasks jobs → ((k : ℕ) (d w : Worker) → k < length jobs → (v : Worker) × (get_or jobs k d ≡ v) × WorkedFrom v (get_or ws k w)) → Each (HasWorked hist) tasks ws
worked_each hist tasks jobs ws long ready worked k t w near =
    let from = worked k w w (subst (λ n. k < n) long near) in let v = from.0 in
    let was : IsReady hist (k + 1) (get_or tasks k t) v = subst (IsReady hist (k + 1) (get_or tasks k t)) from.1 (ready k t w (subst (λ n. k < n) long near)) in
    (from.2.0 ∙ was.0, from.2.1 ∙ was.1, if_done (get_or ws k w).done v (get_or tasks k t) (get_or ws k w).pass.mine (k + 1) was.1 was.2 was.3 from.2.3)
  where
    if_done : (b : Bool) (v : Worker) (task : Task) (mine : List Event) (n : ℕ) → v.pass.number ≡ n → v.task ≡ task → v.pass.mine ≡ [] → OnTrue b (mine ≡ v.pass.mine ++ notes v.pass.number v.task.topic v.task.times) → OnTrue b (mine ≡ notes n task.topic task.times)
    if_done true v task mine n number same none is = is ∙ (λ i. none i ++ notes (number i) (same i).topic (same i).times)
    if_done false v task mine n number same none is = tt

module _ {X : Type 0} where
  pub still_one_of : (xs more : List X) (x : X) → IsOneOf xs x → IsOneOf (xs ++ more) x
  still_one_of xs more x h = (h.0, h.1 ++ more, ap (λ l. l ++ more) h.2 ∙ append_assoc h.0 (x ∷ h.1) more)

  -- what holds of all holds of one of them
  pub of_one : (P : X → Type 0) (xs : List X) (x : X) → IsOneOf xs x → AllByRecursion P xs → P x
  of_one P xs x h all = from h.0 (subst (AllByRecursion P) h.2 all)
    where
      from : (before : List X) → AllByRecursion P (before ++ x ∷ h.1) → P x
      from [] k = k.0
      from (y ∷ ys) k = from ys k.1

both_true : (a b : Bool) → IsTrue (a && b) → IsTrue a × IsTrue b
both_true true true t = (t, t)
both_true true false t = let e : false ≡ true = t in absurd (cc)
both_true false b t = let e : false ≡ true = t in absurd (cc)

of_done : (b : Bool) (P : Type 0) → IsTrue b → OnTrue b P → P
of_done true P t p = p
of_done false P t p = let e : false ≡ true = t in absurd (cc)

-- one pass more is merged: those of the tasks from a place on are among the ended ones
pub gathered : (hist : Story Pool) (tasks : List Task) (ws left : List Worker) (w : Worker) (n m : ℕ) (done : Bool) (old new : List (ℕ × List Event)) → ws ≡ left ++ w ∷ [] → n ≡ length ws → m ≡ length left → Each (HasWorked hist) tasks ws
    → new ≡ old ++ (w.pass.number, w.pass.mine) ∷ w.pass.ended → (IsTrue done → (k : ℕ) (d : Task) → n ≤ k → k < length tasks → let t = get_or tasks k d in IsOneOf old (k + 1, notes (k + 1) t.topic t.times))
    → IsTrue (done && w.done) → (k : ℕ) (d : Task) → m ≤ k → k < length tasks → let t = get_or tasks k d in IsOneOf new (k + 1, notes (k + 1) t.topic t.times)
gathered hist tasks ws left w n m done old new is count less each merged before all k d from near =
    let both = both_true done w.done all in let sum : length ws ≡ length left + 1 = ap length is ∙ length-append left (w ∷ []) in
    let last = each_last (HasWorked hist) tasks left w (subst (Each (HasWorked hist) tasks) is each) d in let t = get_or tasks k d in
    dite (ℕ_discrete k (length left))
    (λ same.
    let here : HasWorked hist (k + 1) t w = subst (λ j. HasWorked hist (j + 1) (get_or tasks j d) w) (sym same) last in
    let mine : w.pass.mine ≡ notes (k + 1) t.topic t.times = of_done w.done _ both.1 here.2 in
    (old, w.pass.ended, merged ∙ (λ i. old ++ (here.1 i, mine i) ∷ w.pass.ended)))
    (λ other. subst (λ l. IsOneOf l (k + 1, notes (k + 1) t.topic t.times)) (sym merged) (still_one_of old ((w.pass.number, w.pass.mine) ∷ w.pass.ended) (k + 1, notes (k + 1) t.topic t.times) (before both.0 k d (omega arith) near)))

-- ---- reading

-- where nothing was read the pass has got what it had got
pub nothing_new : {E : Type 0} → (got now : ℕ) (seen more events : List E) → StartsWith more seen → events ≡ drop got more → now ≡ length more → got ≤ length seen → (length events == 0) ≡ true → now ≡ got
nothing_new got now seen more events (rest, starts) is now_is within none =
    let long : length more ≡ length seen + length rest = ap length starts ∙ length-append seen rest in
    let left : length more - got ≡ 0 = sym (length-drop got more) ∙ ap length (sym is) ∙ eqb-true (length events) 0 none in
    omega arith
