-- What finds the stale chains of a file goes with it, through a part.
use Rattle.std.proofs.Common.{◌≡◌, ℕ, zero, suc, ◌-◌, ◌<◌, ◌≤◌, List, [], ◌∷◌, ◌++◌, length, take, drop, Some, refl, sym, ap, ◌∙◌, subst, append-nil, arith}
use Rattle.std.specs.Prelude.{if◌then◌else◌}
use Rattle.std.proofs.lemmas.List.{take-append-drop}
use Rattle.cnf_base.specs.Literals.{Literal}
use Rattle.cnf_base.specs.declared.clause.ClauseId.{ClauseId}
use Rattle.smt_terms.specs.declared.node.Node.{Node}
use Rattle.smt_terms.specs.Terms.{IsTermList}
use Rattle.scope_selectors.specs.declared.live.Live.{Live}
use Rattle.proof_log.specs.declared.entry.Entry.{Entry}
use Rattle.proof_log.specs.declared.entry.Entry.TheVariants as step
use Rattle.proof_log.specs.Logs.{start, IsLog, entry_at}
use Rattle.proof_log.proofs.Staying.{steps_parts}
use Rattle.proof_text.specs.Deletions.{is_deleted}
use Rattle.proof_file.specs.Places.{FileValue, with_step, without_places}
use Rattle.proof_file.specs.Indexed.{StaleIndex, IsIndexOf, IsFound, KnowsAll, place_in}
use Rattle.proof_file.specs.Stale.{AreStale}
use Rattle.proof_file.specs.Trimmed.{made_from}
use Rattle.proof_file.specs.Files.{KeptFile, file_of, IsFileOf, IsStepNoted, KeepsIndex}
use Rattle.proof_file.proofs.Longer.{longer}
use Rattle.proof_file.proofs.Noted.{other_placed}

-- ---- a step

other_kept : (log : List Entry) (f : FileValue) (p : ℕ) (e : Entry) (v v' : StaleIndex) → entry_at log p ≡ Some e → ((c : List Literal) (hints : List ClauseId) → e ≡ step.Chain c hints → ⊥) → v' ≡ v → KeepsIndex log f (with_step f p) v v'
other_kept log f p e v v' stands other same nodes index knows = (
  subst (λ (w : StaleIndex). IsIndexOf w nodes log (with_step f p).places) (sym same) (other_placed v nodes log f.places p (suc f.count) e stands other index),
  subst (λ (w : StaleIndex). KnowsAll w nodes log) (sym same) knows,
)

step_kept : (log : List Entry) (f : FileValue) (p : ℕ) (e : Entry) (v v' : StaleIndex) → entry_at log p ≡ Some e → IsStepNoted p e v v' → KeepsIndex log f (with_step f p) v v'
step_kept log f p (step.Chain c hints) v v' stands noted nodes index knows = noted nodes log f.places hints (suc f.count) index knows stands
step_kept log f p (step.Node n) v v' stands noted nodes index knows = other_kept log f p (step.Node n) v v' stands (λ c hints e. (let q : ⊥ = cc in q)) noted nodes index knows
step_kept log f p (step.Leaf t) v v' stands noted nodes index knows = other_kept log f p (step.Leaf t) v v' stands (λ c hints e. (let q : ⊥ = cc in q)) noted nodes index knows
step_kept log f p (step.Encode t) v v' stands noted nodes index knows = other_kept log f p (step.Encode t) v v' stands (λ c hints e. (let q : ⊥ = cc in q)) noted nodes index knows
step_kept log f p (step.Selector a t) v v' stands noted nodes index knows = other_kept log f p (step.Selector a t) v v' stands (λ c hints e. (let q : ⊥ = cc in q)) noted nodes index knows
step_kept log f p (step.Rewrite r) v v' stands noted nodes index knows = other_kept log f p (step.Rewrite r) v v' stands (λ c hints e. (let q : ⊥ = cc in q)) noted nodes index knows
step_kept log f p (step.Equal t u) v v' stands noted nodes index knows = other_kept log f p (step.Equal t u) v v' stands (λ c hints e. (let q : ⊥ = cc in q)) noted nodes index knows
step_kept log f p (step.Lemma l) v v' stands noted nodes index knows = other_kept log f p (step.Lemma l) v v' stands (λ c hints e. (let q : ⊥ = cc in q)) noted nodes index knows

pub keeps_one : (log : List Entry) (f g : FileValue) (p : ℕ) (e : Entry) (v v' : StaleIndex) → entry_at log p ≡ Some e → IsStepNoted p e v v' → g ≡ with_step f p → KeepsIndex log f g v v'
keeps_one log f g p e v v' stands noted is =
    subst (λ (h : FileValue). KeepsIndex log f h v v') (sym is) (step_kept log f p e v v' stands noted)

-- ---- what is stale

pub stale_of : (nodes : List Node) (log : List Entry) (live : List Live) (table gone : List ℕ) (v v' : StaleIndex) (f : FileValue) → place_in table ≡ f.places → IsFound live table gone v v' → IsIndexOf v nodes log f.places → AreStale nodes log live f.places gone × IsIndexOf v' nodes log (without_places f gone).places
stale_of nodes log live table gone v v' f same found =
    subst (λ (g : ℕ → ℕ). IsIndexOf v nodes log g → AreStale nodes log live g gone × IsIndexOf v' nodes log (λ p. if is_deleted gone (g p) then 0 else g p)) same (found nodes log)

-- ---- the steps of a check

taken : (n : ℕ) (es : List Entry) → n ≤ length es → length (take n es) ≡ n
taken zero es le = refl
taken (suc n) [] le = let no : ⊥ = omega (arith, le) in absurd no
taken (suc n) (e ∷ es) le = ap suc (taken n es (omega (arith, le)))

pub made_all : (es : List Entry) (from : ℕ) (made : List ℕ) → 0 < from → from ≤ suc (length es) → made ≡ made_from from (drop (from - 1) es) → made ≡ made_from (suc (length (take (from - 1) es))) (drop (from - 1) es)
made_all es from made lt le e =
    let size : length (take (from - 1) es) ≡ from - 1 = taken (from - 1) es (omega (arith, lt, le)) in
    let same : from ≡ suc (length (take (from - 1) es)) = omega (arith, size, lt) in
    e ∙ ap (λ (n : ℕ). made_from n (drop (from - 1) es)) same

-- ---- more steps, and more terms

pub index_of_all : (nodes : List Node) (es : List Entry) (n : ℕ) (v : StaleIndex) (places : ℕ → ℕ) → IsTermList nodes → IsLog nodes es → IsIndexOf v nodes (take n es) places → IsIndexOf v nodes es places
index_of_all nodes es n v places list all index =
    let parts : take n es ++ drop n es ≡ es = take-append-drop n es in
    let same : nodes ++ [] ≡ nodes = append-nil nodes in
    let both : IsLog nodes (take n es ++ drop n es) = subst (IsLog nodes) (sym parts) all in
    let front : IsLog nodes (take n es) = (steps_parts nodes start (take n es) (drop n es) both).0 in
    let grown : IsIndexOf v (nodes ++ []) (take n es ++ drop n es) places =
    longer v nodes [] (take n es) (drop n es) places list front (subst (λ (ns : List Node). IsLog ns (take n es ++ drop n es)) (sym same) both) index in
    subst (λ (xs : List Entry). IsIndexOf v nodes xs places) parts (subst (λ (ns : List Node). IsIndexOf v ns (take n es ++ drop n es) places) same grown)

pub over_more_terms : (nodes more : List Node) (log : List Entry) (file : KeptFile) → IsTermList nodes → IsTermList (nodes ++ more) → IsLog nodes log → IsLog (nodes ++ more) log → IsFileOf nodes log file → IsFileOf (nodes ++ more) log file
over_more_terms nodes more log file list _ old new index =
    subst (λ (xs : List Entry). IsIndexOf file.chains (nodes ++ more) xs (file_of file).places) (append-nil log)
    (longer file.chains nodes more log [] (file_of file).places list old (subst (IsLog (nodes ++ more)) (sym (append-nil log)) new) index)
