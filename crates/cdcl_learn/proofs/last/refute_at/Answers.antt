use Rattle.std.proofs.Common.{◌≡◌, ◌<◌, length, ◌++◌, [], ◌∷◌, Some, None, take, sym, ap, ◌∙◌}
use Rattle.std.specs.Prelude.{Contains}
use Rattle.std.proofs.lemmas.List.{get_or_read}
use Rattle.std.proofs.lemmas.Result.{IfOk-weaker}
use Rattle.cnf_base.specs.Literals.{negated}
use Rattle.cnf_base.proofs.Codes.{negated-negated}
use Rattle.cdcl_core.specs.Levels.{Row}
use Rattle.cdcl_core.specs.State.{no_row}
use Rattle.cdcl_core.specs.Search.{clause_of}
use Rattle.cdcl_learn.specs.Rows.{row_at, literal_at, reason_at, IsHistory}
use Rattle.cdcl_learn.specs.Puts.{DecidesOnly}
use Rattle.cdcl_learn.proofs.Facts.{history_of}
use Rattle.cdcl_learn.proofs.Cutting.{cut_front, cut_history, cut_refuted, cut_given, pair_chain, pair_against}
use Rattle.cdcl_learn.proofs.last.refute_at.Goals as goal

pub explain_all-requires-clause-history : goal.explain_all-requires-clause-history
explain_all-requires-clause-history c =
    let within : c.args.place < length c.literals-rows.result.now = rw c.literals-rows.ensures c.requires.within in
    let opposite : literal_at c.literals-rows.result.now c.args.place ≡ negated c.args.l = rw c.literals-rows.ensures c.requires.opposite in
    let history : IsHistory (clause_of c.args.watches.now) c.literals-rows.result.now = rw c.literals-rows.ensures (history_of c.args.watches.now c.args.trail.now c.requires.settled) in
    let row : Row = c.index-rows-place.result in
    let at : row ≡ row_at c.literals-rows.result.now c.args.place = get_or_read c.literals-rows.result.now c.args.place row within c.index-rows-place.is no_row in
    let twice : negated row.0 ≡ c.args.l = ap (λ (r : Row). negated r.0) at ∙ (ap negated opposite ∙ negated-negated c.args.l) in
    let pushed : c.opposite.result ≡ (c.args.l, row.1, None) = c.opposite.ensures ∙ ap (λ l. (l, row.1, None)) twice in
    let is : c.as_slice.result.now ≡ take c.args.place c.literals-rows.result.now ++ (c.args.l, row.1, None) ∷ [] = c.as_slice.ensures.value ∙ (c.in_ok-push-in-Some.ensures.items ∙ (ap (λ xs. xs ++ c.opposite.result ∷ []) c.in_ok-before-in-Some.ensures.items ∙ ap (λ (x : Row). take c.args.place c.literals-rows.result.now ++ x ∷ []) pushed)) in
    cut_history (clause_of c.args.watches.now) c.literals-rows.result.now c.as_slice.result.now c.args.place row.1 c.args.l history within opposite is

pub explain_all-requires-clause-conflict : goal.explain_all-requires-clause-conflict
explain_all-requires-clause-conflict c =
    let within : c.args.place < length c.literals-rows.result.now = rw c.literals-rows.ensures c.requires.within in
    let opposite : literal_at c.literals-rows.result.now c.args.place ≡ negated c.args.l = rw c.literals-rows.ensures c.requires.opposite in
    let history : IsHistory (clause_of c.args.watches.now) c.literals-rows.result.now = rw c.literals-rows.ensures (history_of c.args.watches.now c.args.trail.now c.requires.settled) in
    let row : Row = c.index-rows-place.result in
    let at : row ≡ row_at c.literals-rows.result.now c.args.place = get_or_read c.literals-rows.result.now c.args.place row within c.index-rows-place.is no_row in
    let twice : negated row.0 ≡ c.args.l = ap (λ (r : Row). negated r.0) at ∙ (ap negated opposite ∙ negated-negated c.args.l) in
    let pushed : c.opposite.result ≡ (c.args.l, row.1, None) = c.opposite.ensures ∙ ap (λ l. (l, row.1, None)) twice in
    let is : c.as_slice.result.now ≡ take c.args.place c.literals-rows.result.now ++ (c.args.l, row.1, None) ∷ [] = c.as_slice.ensures.value ∙ (c.in_ok-push-in-Some.ensures.items ∙ (ap (λ xs. xs ++ c.opposite.result ∷ []) c.in_ok-before-in-Some.ensures.items ∙ ap (λ (x : Row). take c.args.place c.literals-rows.result.now ++ x ∷ []) pushed)) in
    let reason : reason_at c.literals-rows.result.now c.args.place ≡ Some c.in-Some.id = ap (λ (r : Row). r.2) (sym at) ∙ sym c.in-Some.ensures in
    cut_refuted (clause_of c.args.watches.now) c.literals-rows.result.now c.as_slice.result.now c.args.place row.1 c.args.l history within opposite is c.in-Some.id reason

pub returns-in_ok-of_two-in-None-clause-chain : goal.returns-in_ok-of_two-in-None-clause-chain
returns-in_ok-of_two-in-None-clause-chain c = rw (c.new.ensures.items, c.in_ok-of_two-in-None.ensures, c.negated.ensures) (pair_chain (clause_of c.args.watches.now) c.args.l)

pub returns-in_ok-of_two-in-None-clause-against : goal.returns-in_ok-of_two-in-None-clause-against
returns-in_ok-of_two-in-None-clause-against c = λ given only own l h.
    let within : c.args.place < length c.literals-rows.result.now = rw c.literals-rows.ensures c.requires.within in
    let opposite : literal_at c.literals-rows.result.now c.args.place ≡ negated c.args.l = rw c.literals-rows.ensures c.requires.opposite in
    let row : Row = c.index-rows-place.result in
    let at : row ≡ row_at c.literals-rows.result.now c.args.place = get_or_read c.literals-rows.result.now c.args.place row within c.index-rows-place.is no_row in
    let none : reason_at c.literals-rows.result.now c.args.place ≡ None = ap (λ (r : Row). r.2) (sym at) ∙ sym c.in-None.ensures in
    let only2 : DecidesOnly given c.literals-rows.result.now = rw c.literals-rows.ensures only in
    let there : Contains given (literal_at c.literals-rows.result.now c.args.place) = only2 c.args.place within none in
    let other : Contains given (negated c.args.l) = rw opposite at there in
    pair_against given c.args.l own other l (rw (c.in_ok-of_two-in-None.ensures, c.negated.ensures) at h)

pub returns-in_ok-push-in-Some-clause-against : goal.returns-in_ok-push-in-Some-clause-against
returns-in_ok-push-in-Some-clause-against c =
    let within : c.args.place < length c.literals-rows.result.now = rw c.literals-rows.ensures c.requires.within in
    let opposite : literal_at c.literals-rows.result.now c.args.place ≡ negated c.args.l = rw c.literals-rows.ensures c.requires.opposite in
    let history : IsHistory (clause_of c.args.watches.now) c.literals-rows.result.now = rw c.literals-rows.ensures (history_of c.args.watches.now c.args.trail.now c.requires.settled) in
    let row : Row = c.index-rows-place.result in
    let at : row ≡ row_at c.literals-rows.result.now c.args.place = get_or_read c.literals-rows.result.now c.args.place row within c.index-rows-place.is no_row in
    let twice : negated row.0 ≡ c.args.l = ap (λ (r : Row). negated r.0) at ∙ (ap negated opposite ∙ negated-negated c.args.l) in
    let pushed : c.opposite.result ≡ (c.args.l, row.1, None) = c.opposite.ensures ∙ ap (λ l. (l, row.1, None)) twice in
    let is : c.as_slice.result.now ≡ take c.args.place c.literals-rows.result.now ++ (c.args.l, row.1, None) ∷ [] = c.as_slice.ensures.value ∙ (c.in_ok-push-in-Some.ensures.items ∙ (ap (λ xs. xs ++ c.opposite.result ∷ []) c.in_ok-before-in-Some.ensures.items ∙ ap (λ (x : Row). take c.args.place c.literals-rows.result.now ++ x ∷ []) pushed)) in
    IfOk-weaker c.explain_all.result _ _ (λ r f given only own. f given (cut_given (clause_of c.args.watches.now) c.literals-rows.result.now c.as_slice.result.now c.args.place row.1 c.args.l history within opposite is given (rw c.literals-rows.ensures only) own)) c.explain_all.ensures.against

pub explain_all-requires-clause-front : goal.explain_all-requires-clause-front
explain_all-requires-clause-front c =
    let within : c.args.place < length c.literals-rows.result.now = rw c.literals-rows.ensures c.requires.within in
    let opposite : literal_at c.literals-rows.result.now c.args.place ≡ negated c.args.l = rw c.literals-rows.ensures c.requires.opposite in
    let history : IsHistory (clause_of c.args.watches.now) c.literals-rows.result.now = rw c.literals-rows.ensures (history_of c.args.watches.now c.args.trail.now c.requires.settled) in
    let row : Row = c.index-rows-place.result in
    let at : row ≡ row_at c.literals-rows.result.now c.args.place = get_or_read c.literals-rows.result.now c.args.place row within c.index-rows-place.is no_row in
    let twice : negated row.0 ≡ c.args.l = ap (λ (r : Row). negated r.0) at ∙ (ap negated opposite ∙ negated-negated c.args.l) in
    let pushed : c.opposite.result ≡ (c.args.l, row.1, None) = c.opposite.ensures ∙ ap (λ l. (l, row.1, None)) twice in
    let is : c.as_slice.result.now ≡ take c.args.place c.literals-rows.result.now ++ (c.args.l, row.1, None) ∷ [] = c.as_slice.ensures.value ∙ (c.in_ok-push-in-Some.ensures.items ∙ (ap (λ xs. xs ++ c.opposite.result ∷ []) c.in_ok-before-in-Some.ensures.items ∙ ap (λ (x : Row). take c.args.place c.literals-rows.result.now ++ x ∷ []) pushed)) in
    rw c.literals-rows.ensures at (cut_front (clause_of c.args.watches.now) c.literals-rows.result.now c.as_slice.result.now c.args.place row.1 c.args.l history within opposite is)
