use Rattle.std.proofs.Common.{ℕ, sym, subst, arith}
use Rattle.std.specs.Prelude.{Contains}
use Rattle.access_tables.specs.Held.{IsAccess}
use Rattle.access_walk.specs.Filled.{AreIndexTerms}
use Rattle.access_walk.specs.Maps.{IsWordOf}
use Rattle.access_walk.proofs.Encoding.{guards_held, all_found}
use Rattle.access_walk.proofs.Constants.{first_terms, first_filling, map_is}
use Rattle.access_walk.proofs.filling.network_of.Goals as goal

pub push_all_words-requires : goal.push_all_words-requires
push_all_words-requires c = record { words = first_terms c.args.terms.now.nodes c.len-count.ensures.terms.list c.args.bits.now c.args.reached.now c.requires.bits _ _ c.in_ok-network.ensures.sound c.in_ok-indexes.ensures }

pub fill_all-requires-clause-words : goal.fill_all-requires-clause-words
fill_all-requires-clause-words c = subst (AreIndexTerms c.args.terms.now.nodes c.args.bits.now) (sym c.deref.ensures.value) (λ j h. c.in_ok-push_all_words.ensures.words j ((c.leave_once.ensures j).0 h))

pub fill_all-requires-clause-filling : goal.fill_all-requires-clause-filling
fill_all-requires-clause-filling c =
    first_filling c.args.terms.now.nodes c.len-count.ensures.terms.list c.args.bits.now c.args.reached.now c.requires.bits _ _ c.deref.result.now c.in_ok-network.ensures.sound c.in_ok-indexes.ensures
    (λ j h. subst (λ xs. Contains xs j) (sym c.deref.ensures.value) ((c.leave_once.ensures j).1 (c.in_ok-push_all_words.ensures.kept j h)))

pub returns-clause-map : goal.returns-clause-map
returns-clause-map c =
    map_is c.args.terms.now.nodes c.args.bits.now c.args.reached.now _ c.deref.result.now c.args.widths.now c.terms-once.ensures.once c.requires.bits _ _ c.in_ok-network.ensures.sound c.in_ok-indexes.ensures c.in_ok-network.ensures.has
    c.in_ok-fill_all.ensures.filling c.in_ok-fill_all.ensures.grows (subst (AreIndexTerms c.args.terms.now.nodes c.args.bits.now) (sym c.deref.ensures.value) (λ j h. c.in_ok-push_all_words.ensures.words j ((c.leave_once.ensures j).0 h)))
    (λ n k wide few held.
    (let word = c.in_ok-push_all_words.ensures.has n k wide (omega (arith, few)) held in
    subst (λ xs. (w : ℕ) × IsWordOf c.args.terms.now.nodes n k w × Contains xs w) (sym c.deref.ensures.value) (word.0, word.1, (c.leave_once.ensures word.0).1 word.2)))
    c.in_ok-fill_all.ensures.has c.requires.widths c.requires.words

pub returns-clause-guards : goal.returns-clause-guards
returns-clause-guards c = guards_held c.args.terms.now.nodes c.len-count.ensures.terms.list c.args.bits.now c.args.reached.now c.requires.bits _ c.in_ok-fill_all.ensures.filling.sound

pub returns-clause-accesses : goal.returns-clause-accesses
returns-clause-accesses c = all_found (IsAccess c.args.terms.now.nodes c.args.bits.now c.args.reached.now) _ c.in_ok-fill_all.ensures.filling.accesses
