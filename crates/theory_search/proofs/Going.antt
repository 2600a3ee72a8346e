-- Parts of a run, one behind the other.
use Rattle.std.proofs.Common.{◌≡◌, ℕ, Bool, List, Option, Some, None, refl, sym, ap, ◌∙◌, subst, arith}
use Rattle.std.specs.Prelude.{MatchOption}
use Rattle.std.specs.Global.{Vec}
use Rattle.cnf_base.specs.Literals.{Literal}
use Rattle.smt_terms.specs.declared.node.Node.{Node}
use Rattle.proof_log.specs.declared.board.Sync.{Sync}
use Rattle.proof_log.specs.declared.entry.Entry.{Entry}
use Rattle.proof_log.specs.Logs.{state_of}
use Rattle.proof_log.specs.Boards.{IsLater}
use Rattle.proof_log.specs.LemmaBoards.{IsLaterByMore}
use Rattle.proof_log.specs.Diaries.{Subject}
use Rattle.cube_search.specs.declared.search.Search.{Search}
use Rattle.cube_search.specs.declared.ends.End as of
use Rattle.cube_search.specs.declared.ends.End.TheVariants as from
use Rattle.cube_search.specs.Ends as ends
use Rattle.cube_search.specs.Holding.{AreSeparate}
use Rattle.cube_search.specs.Running.{given_in, subject_of, valuation_of, IsSearch, HasLooked}
use Rattle.cube_search.proofs.Told.{longer_same, longer_then}
use Rattle.theory_search.specs.declared.ends.End as own
use Rattle.theory_search.specs.declared.ends.End.TheVariants as to
use Rattle.theory_search.specs.Ends.{IsEnd}
use Rattle.theory_search.specs.Looks.{Becomes}
use Rattle.proof_log.specs.declared.diary.Diary.{Diary}
use Rattle.theory_search.specs.declared.theory.Theory.{Theory}
use Rattle.theory_search.specs.Theories.{IsTheory, IsApart, IsTheoryApart, GoesOn}
use Rattle.theory_search.proofs.Apart.{apart_separate, apart_before}
use Rattle.theory_search.proofs.Grown.{adds_chains, theory_more, theory_like, longer_by_chains, longer_log}
use Rattle.theory_search.proofs.Taken.{apart_chains}

pub goes_same : (nodes : List Node) (log : List Entry) (t : Theory) (s : Search) → IsSearch s nodes log → IsTheory nodes log s.opening.items t → GoesOn nodes nodes log log t t s s
goes_same nodes log t s search theory = record { search = search; theory = theory; from = refl; longer = longer_same s.opening.items s.opening.items refl; apart = λ h. h }

pub goes_then : (a b c : List Node) (l m n : List Entry) (t u v : Theory) (r s q : Search) → GoesOn a b l m t u r s → GoesOn b c m n u v s q → GoesOn a c l n t v r q
goes_then a b c l m n t u v r s q g h = record {
  search = h.search;
  theory = h.theory;
  from = h.from ∙ g.from;
  longer = longer_then r.opening.items s.opening.items q.opening.items g.longer h.longer;
  apart = λ x. h.apart (g.apart x);
}

-- a search put and took chains alone
module _ (nodes nodes' : List Node) (log log' : List Entry) (p q : ℕ → Type 0) (later : IsLater nodes nodes' log log' p q) (t : Theory) (s n : Search)
    (search : IsSearch s nodes log) (now : IsSearch n nodes' log') (opening : n.opening ≡ s.opening) (from : n.from ≡ s.from) (theory : IsTheory nodes log s.opening.items t) where
  same_opening : n.opening.items ≡ s.opening.items
  same_opening = ap (λ v. v.items) opening

  apart_now : IsTheoryApart nodes log t s → IsTheoryApart nodes' log' t n
  apart_now h =
      subst (λ (ns : List Node). IsApart ns log' t.variables t.next n.opening.items n.from) (sym later.nodes)
      (subst (λ (f : ℕ). IsApart nodes log' t.variables t.next n.opening.items f) (sym from)
      (subst (λ (ps : List ℕ). IsApart nodes log' t.variables t.next ps s.from) (sym same_opening)
      (apart_chains nodes log log' later.grows t.variables t.next s.opening.items s.from
      (let a = search.1.placed.from_seen in let b = search.1.placed.within in omega (arith, a, b))
      (λ p k. (let lt = search.1.placed.before p k in omega (arith, lt)))
      h)))

  pub goes_by_chains : GoesOn nodes nodes' log log' t t s n
  goes_by_chains = record {
    search = now;
    theory = theory_more t nodes nodes' log log' p q s.opening.items n.opening.items (longer_by_chains nodes nodes' log log' p q later) (longer_same s.opening.items n.opening.items same_opening) theory;
    from = from;
    longer = longer_same s.opening.items n.opening.items same_opening;
    apart = apart_now;
  }

  -- what is so behind the part was so before it
  apart_then : IsTheoryApart nodes' log' t n → IsTheoryApart nodes log t s
  apart_then h =
      apart_before nodes log log' (adds_chains log log' later.grows) t.variables t.next s.opening.items s.from
      (subst (λ (ps : List ℕ). IsApart nodes log' t.variables t.next ps s.from) same_opening
      (subst (λ (f : ℕ). IsApart nodes log' t.variables t.next n.opening.items f) from
      (subst (λ (ns : List Node). IsApart ns log' t.variables t.next n.opening.items n.from) later.nodes h)))

  pub was_apart : IsTheoryApart nodes' log' t n → IsTheoryApart nodes log t s
  was_apart = apart_then

  pub was_separate : IsTheoryApart nodes' log' t n → AreSeparate (state_of nodes log).clauses log s.opening.items s.from
  was_separate h = apart_separate nodes log t.variables t.next s.opening.items s.from (apart_then h)

-- a theory of which other tables changed
pub goes_like : (nodes : List Node) (log : List Entry) (t u : Theory) (s : Search) → u.live ≡ t.live → u.reached ≡ t.reached → u.prepared ≡ t.prepared → u.variables ≡ t.variables → u.next ≡ t.next → IsSearch s nodes log → IsTheory nodes log s.opening.items t → GoesOn nodes nodes log log t u s s
goes_like nodes log t u s live reached prepared variables next search theory = record {
  search = search;
  theory = theory_like t u nodes log s.opening.items live reached prepared variables theory;
  from = refl;
  longer = longer_same s.opening.items s.opening.items refl;
  apart = λ h. subst (λ (x : ℕ). IsApart nodes log u.variables x s.opening.items s.from) (sym next) (subst (λ (vs : List ℕ). IsApart nodes log vs t.next s.opening.items s.from) (sym variables) h);
}

-- the condition of an end
pub end_if : (P Q : Type 0) (g : Subject) (known : ℕ → Type 0) (found : Bool) (told : Sync) (positions : List ℕ) (v : ℕ → Bool) (cube budget : ℕ) (e : of.End) → (Q → P) → ends.IsEnd P g known found told positions v cube budget e → ends.IsEnd Q g known found told positions v cube budget e
end_if P Q g known found told positions v cube budget (from.Closed p) f h = h
end_if P Q g known found told positions v cube budget from.Model f h = h
end_if P Q g known found told positions v cube budget (from.Spent d) f h = (h.0, λ x. h.1 (f x))
end_if P Q g known found told positions v cube budget from.Stopped f h = h

-- a model that a search found
pub model_of : (P : Type 0) (g : Subject) (known : ℕ → Type 0) (found : Bool) (told : Sync) (positions : List ℕ) (v : ℕ → Bool) (cube budget : ℕ) (e : of.End) → ends.IsModelEnd e → ends.IsEnd P g known found told positions v cube budget e → ends.IsModel (state_of g.nodes g.log).clauses positions g.given v
model_of P g known found told positions v cube budget (from.Closed p) is h = absurd is
model_of P g known found told positions v cube budget from.Model is h = h
model_of P g known found told positions v cube budget (from.Spent d) is h = absurd is
model_of P g known found told positions v cube budget from.Stopped is h = absurd is

-- an end in the words of the search that came of it
pub end_here : (P Q : Type 0) (s n : Search) (nodes : List Node) (log : List Entry) (known : ℕ → Type 0) (found : Bool) (told : Sync) (v : ℕ → Bool) (given : List Literal) (cube budget : ℕ) (e : of.End) → (Q → P) → given_in n ≡ given → n.from ≡ s.from → n.opening ≡ s.opening
    → ends.IsEnd P (record { nodes = nodes; log = log; given = given; from = s.from }) known found told s.opening.items v cube budget e → ends.IsEnd Q (subject_of n nodes log) known found told n.opening.items v cube budget e
end_here P Q s n nodes log known found told v given cube budget e f same from opening h =
    end_if P Q (subject_of n nodes log) known found told n.opening.items v cube budget e f
    (subst (λ (ps : List ℕ). ends.IsEnd P (subject_of n nodes log) known found told ps v cube budget e) (sym (ap (λ q. q.items) opening))
    (subst (λ (x : ℕ). ends.IsEnd P (record { nodes = nodes; log = log; given = given_in n; from = x }) known found told s.opening.items v cube budget e) (sym from)
    (subst (λ (ls : List Literal). ends.IsEnd P (record { nodes = nodes; log = log; given = ls; from = s.from }) known found told s.opening.items v cube budget e) (sym same) h)))

pub theory_end_if : (P Q : Type 0) (g : Subject) (known : ℕ → Type 0) (found : Bool) (told : Sync) (live positions : List ℕ) (v : ℕ → Bool) (cube budget : ℕ) (e : own.End) → (Q → P) → IsEnd P g known found told live positions v cube budget e → IsEnd Q g known found told live positions v cube budget e
theory_end_if P Q g known found told live positions v cube budget (to.Closed p) f h = h
theory_end_if P Q g known found told live positions v cube budget (to.Model m) f h = h
theory_end_if P Q g known found told live positions v cube budget (to.Spent d) f h = (h.0, λ x. h.1 (f x))
theory_end_if P Q g known found told live positions v cube budget to.Stopped f h = h

pub on_none : {A : Type 0} (o : Option A) (P Q : Type 0) → (P → Q) → MatchOption o P (λ e. Unit {0}) → MatchOption o Q (λ e. Unit {0})
on_none None P Q f h = f h
on_none (Some a) P Q f h = h

pub on_some : {A : Type 0} (o : Option A) (P Q : A → Type 0) → ((a : A) → P a → Q a) → MatchOption o (Unit {0}) P → MatchOption o (Unit {0}) Q
on_some None P Q f h = h
on_some (Some a) P Q f h = f a h

pub became : (P : Type 0) (g : Subject) (known : ℕ → Type 0) (found : Bool) (told : Sync) (live positions : List ℕ) (v : ℕ → Bool) (cube budget : ℕ) (e : of.End) (f : own.End) → Becomes g live positions v e f → ends.IsEnd P g known found told positions v cube budget e → IsEnd P g known found told live positions v cube budget f
became P g known found told live positions v cube budget (from.Closed p) (to.Closed q) b h = subst (λ (x : ℕ). ends.IsClosing (state_of g.nodes g.log).clauses g.given x) b h
became P g known found told live positions v cube budget (from.Closed p) (to.Model m) b h = absurd b
became P g known found told live positions v cube budget (from.Closed p) (to.Spent d) b h = absurd b
became P g known found told live positions v cube budget (from.Closed p) to.Stopped b h = absurd b
became P g known found told live positions v cube budget from.Model (to.Closed q) b h = absurd b
became P g known found told live positions v cube budget from.Model (to.Model m) b h = b
became P g known found told live positions v cube budget from.Model (to.Spent d) b h = absurd b
became P g known found told live positions v cube budget from.Model to.Stopped b h = absurd b
became P g known found told live positions v cube budget (from.Spent d) (to.Closed q) b h = absurd b
became P g known found told live positions v cube budget (from.Spent d) (to.Model m) b h = absurd b
became P g known found told live positions v cube budget (from.Spent d) (to.Spent e) b h = subst (λ (x : Diary). (x.cube ≡ cube) × (P → ends.IsSpentDiary g known told budget x)) b h
became P g known found told live positions v cube budget (from.Spent d) to.Stopped b h = absurd b
became P g known found told live positions v cube budget from.Stopped (to.Closed q) b h = absurd b
became P g known found told live positions v cube budget from.Stopped (to.Model m) b h = absurd b
became P g known found told live positions v cube budget from.Stopped (to.Spent d) b h = absurd b
became P g known found told live positions v cube budget from.Stopped to.Stopped b h = h

pub on_both : {A : Type 0} (o : Option A) (P Q R : A → Type 0) → ((a : A) → P a → Q a → R a) → MatchOption o (Unit {0}) P → MatchOption o (Unit {0}) Q → MatchOption o (Unit {0}) R
on_both None P Q R f h k = h
on_both (Some a) P Q R f h k = f a h k

-- the last part of a run, in the words of the whole
pub run_ended : (P Q : Type 0) (s n : Search) (nodes : List Node) (log : List Entry) (known : ℕ → Type 0) (found : Bool) (told : Sync) (old live : Vec ℕ) (given : List Literal) (cube budget : ℕ) (e : own.End) → (Q → P) → old ≡ live → given_in n ≡ given → n.from ≡ s.from
    → IsEnd P (subject_of n nodes log) known found told old.items n.opening.items (valuation_of n) cube budget e
    → IsEnd Q (record { nodes = nodes; log = log; given = given; from = s.from }) known found told live.items n.opening.items (valuation_of n) cube budget e
run_ended P Q s n nodes log known found told old live given cube budget e f same is from h =
    theory_end_if P Q (record { nodes = nodes; log = log; given = given; from = s.from }) known found told live.items n.opening.items (valuation_of n) cube budget e f
    (subst (λ (x : ℕ). IsEnd P (record { nodes = nodes; log = log; given = given; from = x }) known found told live.items n.opening.items (valuation_of n) cube budget e) from
    (subst (λ (ls : List Literal). IsEnd P (record { nodes = nodes; log = log; given = ls; from = n.from }) known found told live.items n.opening.items (valuation_of n) cube budget e) is
    (subst (λ (v : Vec ℕ). IsEnd P (subject_of n nodes log) known found told v.items n.opening.items (valuation_of n) cube budget e) same h)))

pub looked_first : (s : Search) (nodes nodes' : List Node) (log log' : List Entry) (p q : ℕ → Type 0) (told : Sync) → IsLaterByMore nodes nodes' log log' p q → HasLooked s log' told → HasLooked s log told
looked_first s nodes nodes' log log' p q told later h = record { before = (let far = longer_log nodes log log' later.adds in let b = h.before in omega (arith, far, b)); kept = h.kept }
