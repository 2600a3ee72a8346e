use Rattle.std.proofs.Common.{rules, ◌≡◌, ◌*◌, ◌<◌, ◌++◌, List, [], ◌∷◌, length, vec_len, replicate, refl, ap, ◌∙◌, arith}
use Rattle.cdcl_core.specs.declared.watches.Watches.{Watches}
use Rattle.cdcl_core.specs.declared.watches.Kind.{Kind}
use Rattle.cdcl_core.specs.declared.watches.Kind.TheVariants.{Free}
use Rattle.cdcl_core.specs.Watched.{kind_at}
use Rattle.cdcl_core.specs.State.{IsSettled, all_codes}
use Rattle.cdcl_core.proofs.Clauses.{codes_length}
use Rattle.cdcl_core.proofs.Growing.{wider_settled, clause_front, held_front}
use Rattle.cdcl_core.proofs.Freeing.{grown_slot, past_counts, same_settled, more_kinds}
use Rattle.cdcl_core.proofs.grow.grow_slot.Goals as goal

pub returns-in_err-widen-clause-settled : goal.returns-in_err-widen-clause-settled
returns-in_err-widen-clause-settled c = wider_settled c.args.w.now c.widen.new.w c.args.t.now c.requires.settled c.widen.ensures.wider

pub returns-in_err-widen-clause-kept : goal.returns-in_err-widen-clause-kept
returns-in_err-widen-clause-kept c = λ id. clause_front c.args.w.now c.widen.new.w c.args.t.now (replicate c.widen.ensures.wider.clauses.0 []) id c.requires.settled c.widen.ensures.wider.slots c.widen.ensures.wider.clauses.1

pub returns-in_err-widen-clause-held : goal.returns-in_err-widen-clause-held
returns-in_err-widen-clause-held c = λ id. held_front c.args.w.now c.widen.new.w c.args.t.now (replicate c.widen.ensures.wider.clauses.0 []) id c.requires.settled c.widen.ensures.wider.slots c.widen.ensures.wider.clauses.1 (λ q. ap (λ v. kind_at v.items q) c.widen.ensures.wider.kinds)

pub returns-in_err-push-clause-settled : goal.returns-in_err-push-clause-settled
returns-in_err-push-clause-settled c =
    let s : IsSettled c.widen.new.w c.args.t.now = wider_settled c.args.w.now c.widen.new.w c.args.t.now c.requires.settled c.widen.ensures.wider in
    same_settled c.widen.new.w _ c.args.t.now s refl c.in_err-push.ensures.items refl refl refl refl

pub returns-in_err-push-clause-kept : goal.returns-in_err-push-clause-kept
returns-in_err-push-clause-kept c = λ id. clause_front c.args.w.now c.widen.new.w c.args.t.now (replicate c.widen.ensures.wider.clauses.0 []) id c.requires.settled c.widen.ensures.wider.slots c.widen.ensures.wider.clauses.1

pub returns-in_err-push-clause-held : goal.returns-in_err-push-clause-held
returns-in_err-push-clause-held c = λ id.
    let w2 : Watches = record { alloc = c.widen.new.w.alloc; lists = c.widen.new.w.lists; kinds = c.push.new.self; clauses = c.widen.new.w.clauses; ids = c.widen.new.w.ids; slots = c.widen.new.w.slots; refuted = c.widen.new.w.refuted } in
    held_front c.args.w.now w2 c.args.t.now (replicate c.widen.ensures.wider.clauses.0 []) id c.requires.settled c.widen.ensures.wider.slots c.widen.ensures.wider.clauses.1 (λ q. ap (λ (ks : List Kind). kind_at ks q) (c.in_err-push.ensures.items ∙ ap (λ v. v.items) c.widen.ensures.wider.kinds))

pub push_first-requires-clause-idle : goal.push_first-requires-clause-idle
push_first-requires-clause-idle c =
    let s : IsSettled c.widen.new.w c.args.t.now = wider_settled c.args.w.now c.widen.new.w c.args.t.now c.requires.settled c.widen.ensures.wider in
    let size : vec_len c.widen.new.w.kinds ≡ length c.widen.new.w.kinds.items = search rules in
    rw c.set_literal.ensures (past_counts c.widen.new.w c.args.t.now (2 * c.len-slot.result) s (omega (arith, c.len-slot.ensures, size)))

pub returns-clause-settled : goal.returns-clause-settled
returns-clause-settled c =
    let s : IsSettled c.widen.new.w c.args.t.now = wider_settled c.args.w.now c.widen.new.w c.args.t.now c.requires.settled c.widen.ensures.wider in
    let size : vec_len c.widen.new.w.kinds ≡ length c.widen.new.w.kinds.items = search rules in
    let slot : c.len-slot.result ≡ length c.widen.new.w.kinds.items = c.len-slot.ensures ∙ size in
    let one : 1 < length c.widen.new.w.lists.lists = rw c.widen.ensures.wider.lists c.requires.lists in
    let rows : length c.widen.new.w.kinds.items < length (all_codes c.widen.new.w.clauses.items) = rw codes_length c.in_ok-widen.ensures.clauses in
    grown_slot c.widen.new.w _ c.args.t.now s one rows c.in_ok-widen.ensures.ids c.in_ok-widen.ensures.places c.in_ok-push.ensures.items refl refl refl refl
    (rw (c.push_first.ensures.pushed, c.set_literal.ensures, slot) refl) (rw (c.push_first.ensures.pushed, c.set_literal.ensures, slot) refl)

pub returns-clause-kept : goal.returns-clause-kept
returns-clause-kept c = λ id. clause_front c.args.w.now c.widen.new.w c.args.t.now (replicate c.widen.ensures.wider.clauses.0 []) id c.requires.settled c.widen.ensures.wider.slots c.widen.ensures.wider.clauses.1

pub returns-clause-held : goal.returns-clause-held
returns-clause-held c = λ id.
    let w2 : Watches = record { alloc = c.widen.new.w.alloc; lists = c.widen.new.w.lists; kinds = c.push.new.self; clauses = c.widen.new.w.clauses; ids = c.widen.new.w.ids; slots = c.widen.new.w.slots; refuted = c.widen.new.w.refuted } in
    held_front c.args.w.now w2 c.args.t.now (replicate c.widen.ensures.wider.clauses.0 []) id c.requires.settled c.widen.ensures.wider.slots c.widen.ensures.wider.clauses.1
    (λ q. ap (λ (ks : List Kind). kind_at ks q) (c.in_ok-push.ensures.items ∙ ap (λ v. v.items ++ Free ∷ []) c.widen.ensures.wider.kinds) ∙ more_kinds c.args.w.now.kinds.items q)
