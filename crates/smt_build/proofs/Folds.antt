-- Loops that go a step for each of a list.
use Rattle.std.proofs.Common.{◌≡◌, ℕ, ◌+◌, ◌-◌, ◌<◌, ◌≤◌, List, [], ◌∷◌, ◌++◌, length, get_or, take, drop, refl, ap, ◌∙◌, arith, append_assoc, Result, Ok, Err}
use Rattle.std.proofs.lemmas.List.{drop_more, drop_all, take_more, take_rest}
use Rattle.smt_syntax.specs.Walk.{◌>>=◌}
use Rattle.smt_syntax.proofs.Walks.{bind_assoc}
use Rattle.smt_terms.specs.declared.operator.Operator.{Operator}
use Rattle.smt_terms.specs.declared.operator.Operator.TheVariants.{Equal}
use Rattle.smt_terms.specs.Terms.{TermsValue}
use Rattle.smt_build.specs.declared.fault.BuildError.{BuildError}
use Rattle.smt_build.specs.declared.fault.BuildError.TheVariants.{NoMemory, Fault}
use Rattle.smt_build.specs.Building.{Built, Builds, Means}
use Rattle.smt_build.specs.Grouping.{each, of_two, left, right, Lists, Chain, Chains, next_equal, next_apart, apart, apart_from, all_apart}

module _ {S E : Type 0} (step : S → ℕ → Result S E) where
  -- behind so many steps, the others give what all of them give
  pub record Goes (s0 : S) (ts : List ℕ) (i : ℕ) (s : S) : Type 0 where
    pub same : each step s0 ts ≡ each step s (drop i ts)

  pub goes_none : (s : S) (ts : List ℕ) → Goes s ts 0 s
  goes_none s ts = record { same = refl }

  module _ (s0 s : S) (ts : List ℕ) (i d : ℕ) (g : Goes s0 ts i s) (h : i < length ts) where
    stepped : each step s0 ts ≡ step s (get_or ts i d) >>= λ r. each step r (drop (i + 1) ts)
    unfolding each
    stepped = g.same ∙ rw (drop_more ts i d h) refl

    pub goes_more : (r : S) → step s (get_or ts i d) ≡ Ok r → Goes s0 ts (i + 1) r
    goes_more r e = record { same = stepped ∙ rw e refl }

    pub goes_fails : (f : E) → step s (get_or ts i d) ≡ Err f → each step s0 ts ≡ Err f
    goes_fails f e = stepped ∙ rw e refl

  pub goes_out : (s0 s : S) (ts : List ℕ) (i : ℕ) → Goes s0 ts i s → length ts ≤ i → each step s0 ts ≡ Ok s
  unfolding each
  goes_out s0 s ts i g h = g.same ∙ rw (drop_all i ts h) refl

-- ---- from the left

abbrev pub left_step : Operator → ℕ × TermsValue → ℕ → Built
left_step o r b = of_two o r.1 r.0 b

pub left_fails : (o : Operator) (s0 : ℕ × TermsValue) (t : ℕ) (v mid new : TermsValue) (ts : List ℕ) (i d : ℕ) (x : BuildError) → Goes (left_step o) s0 ts i (t, v) → i < length ts → Builds (of_two o v t (get_or ts i d)) (Err x) mid new → Means (left o s0.1 s0.0 ts) (Err x) new
left_fails o s0 t v mid new ts i d NoMemory g h b = tt
left_fails o s0 t v mid new ts i d (Fault f) g h b = goes_fails (left_step o) s0 (t, v) ts i d g h f b.0

-- ---- from the right

pub right-last : (o : Operator) (terms : TermsValue) (a : ℕ) (bs : List ℕ) (b z : ℕ) → right o terms a (bs ++ b ∷ z ∷ []) ≡ of_two o terms b z >>= λ r. right o r.1 a (bs ++ r.0 ∷ [])
right-last o terms a [] b z = refl
right-last o terms a (c ∷ bs) b z = ap (λ x. x >>= λ r. of_two o r.1 a r.0) (right-last o terms c bs b z) ∙ bind_assoc (of_two o terms b z) _ _

-- the terms behind a place are grouped to one
pub record Grouped (o : Operator) (old : TermsValue) (a : ℕ) (ts : List ℕ) (place t : ℕ) (now : TermsValue) : Type 0 where
  pub same : right o old a ts ≡ right o now a (take place ts ++ t ∷ [])

module _ (o : Operator) (old : TermsValue) (a : ℕ) (ts : List ℕ) (from place t d : ℕ) (now : TermsValue) (g : Grouped o old a ts from t now) (k : from ≡ place + 1) (h : place < length ts) where
  last_two : right o old a ts ≡ of_two o now (get_or ts place d) t >>= λ r. right o r.1 a (take place ts ++ r.0 ∷ [])
  last_two = g.same ∙ rw k (rw (take_more ts place d h, append_assoc (take place ts) (get_or ts place d ∷ []) (t ∷ [])) (right-last o now a (take place ts) (get_or ts place d) t))

  pub grouped_more : (u : ℕ) (then : TermsValue) → of_two o now (get_or ts place d) t ≡ Ok (u, then) → Grouped o old a ts place u then
  grouped_more u then e = record { same = last_two ∙ rw e refl }

  pub grouped_fails : (x : BuildError) (mid new : TermsValue) → Builds (of_two o now (get_or ts place d) t) (Err x) mid new → Means (right o old a ts) (Err x) new
  grouped_fails NoMemory mid new b = tt
  grouped_fails (Fault f) mid new b = last_two ∙ rw b.0 refl

-- ---- neighbours

pub chain_more : (c : Chain) (b t : ℕ) (found : List ℕ) (v : TermsValue) → of_two Equal c.terms c.last b ≡ Ok (t, v) → found ≡ c.found ++ t ∷ [] → next_equal c b ≡ Ok (record { found = found; last = b; terms = v })
chain_more c b t found v e f = rw (e, f) refl

pub chain_fails : (c0 c : Chain) (ts : List ℕ) (i d : ℕ) (x : BuildError) (mid new : TermsValue) (found : List ℕ) → Goes next_equal c0 ts i c → i < length ts → Builds (of_two Equal c.terms c.last (get_or ts i d)) (Err x) mid new → Chains (each next_equal c0 ts) (Err x) found new
chain_fails c0 c ts i d NoMemory mid new found g h b = tt
chain_fails c0 c ts i d (Fault f) mid new found g h b = goes_fails next_equal c0 c ts i d g h f (rw b.0 refl)

-- ---- no two

pub apart_more : (a b t : ℕ) (before found : List ℕ) (v w : TermsValue) → apart v a b ≡ Ok (t, w) → found ≡ before ++ t ∷ [] → next_apart a (before, v) b ≡ Ok (found, w)
apart_more a b t before found v w e f = rw (e, f) refl

pub apart_fails : (a : ℕ) (s0 : List ℕ × TermsValue) (before : List ℕ) (v : TermsValue) (ts : List ℕ) (i d : ℕ) (x : BuildError) (new : TermsValue) (found : List ℕ) → Goes (next_apart a) s0 ts i (before, v) → i < length ts → Means (apart v a (get_or ts i d)) (Err x) new → Lists (apart_from a s0.1 s0.0 ts) (Err x) found new
apart_fails a s0 before v ts i d NoMemory new found g h b = tt
apart_fails a s0 before v ts i d (Fault f) new found g h b = goes_fails (next_apart a) s0 (before, v) ts i d g h f (rw b refl)

-- the rest gives what all of them give
pub record Apart (old : TermsValue) (before all : List ℕ) (now : TermsValue) (found rest : List ℕ) : Type 0 where
  pub same : all_apart old before all ≡ all_apart now found rest

module _ (old : TermsValue) (before all : List ℕ) (v : TermsValue) (found xs : List ℕ) (d : ℕ) (n : 1 ≤ length xs) (p : Apart old before all v found xs) where
  split : all_apart old before all ≡ apart_from (get_or xs 0 d) v found (take (length xs - 1) (drop 1 xs)) >>= λ r. all_apart r.1 r.0 (take (length xs - 1) (drop 1 xs))
  split = p.same ∙ parts xs n where
    parts : (ys : List ℕ) → 1 ≤ length ys → all_apart v found ys ≡ apart_from (get_or ys 0 d) v found (take (length ys - 1) (drop 1 ys)) >>= λ r. all_apart r.1 r.0 (take (length ys - 1) (drop 1 ys))
    parts [] m = absurd (omega arith)
    parts (y ∷ ys) m = rw (take_rest (y ∷ ys) 1) refl

  pub all_more : (w : TermsValue) (more : List ℕ) → apart_from (get_or xs 0 d) v found (take (length xs - 1) (drop 1 xs)) ≡ Ok (more, w) → Apart old before all w more (take (length xs - 1) (drop 1 xs))
  all_more w more e = record { same = split ∙ rw e refl }

  pub all_fails : (x : BuildError) (new : TermsValue) (more : List ℕ) → Lists (apart_from (get_or xs 0 d) v found (take (length xs - 1) (drop 1 xs))) (Err x) more new → Lists (all_apart old before all) (Err x) more new
  all_fails NoMemory new more e = tt
  all_fails (Fault f) new more e = split ∙ rw e refl

pub all_begun : (old : TermsValue) (before : List ℕ) (a : ℕ) (rest found : List ℕ) (v : TermsValue) → apart_from a old before rest ≡ Ok (found, v) → Apart old before (a ∷ rest) v found rest
all_begun old before a rest found v e = record { same = rw e refl }

pub all_done : (old : TermsValue) (before all : List ℕ) (v : TermsValue) (found rest : List ℕ) → Apart old before all v found rest → length rest < 1 → all_apart old before all ≡ Ok (found, v)
all_done old before all v found rest p n = p.same ∙ nothing rest n where
  nothing : (ys : List ℕ) → length ys < 1 → all_apart v found ys ≡ Ok (found, v)
  nothing [] m = refl
  nothing (y ∷ ys) m = absurd (omega arith)
