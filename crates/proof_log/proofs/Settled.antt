-- What a stored log has that stands over a list of terms.
use Rattle.std.proofs.Common.{◌<◌, List, sym, ap, ◌∙◌, subst}
use Rattle.std.specs.Prelude.{is_some}
use Rattle.std.proofs.lemmas.List.Elements.{Contains-push}
use Rattle.cnf_base.specs.Clauses.{lit_true}
use Rattle.cnf_base.specs.Assignments.{AreBelow}
use Rattle.smt_terms.specs.declared.node.Node.{Node}
use Rattle.smt_terms.specs.Terms.{IsTermList, TermsValue}
use Rattle.proof_log.specs.declared.entry.Entry.{Entry}
use Rattle.proof_log.specs.declared.entry.Entry.TheVariants as step
use Rattle.proof_log.specs.Logs.{LogState, IsStep, state_of}
use Rattle.proof_log.specs.Meanings.{meaning}
use Rattle.proof_log.specs.Stored.{LogValue, Stands, IsSettled}
use Rattle.proof_log.specs.Faults.{IsValid, terms_after}
use Rattle.proof_log.proofs.Sound.{log_is_sound}
use Rattle.proof_log.proofs.Ordered.{log_is_ordered}
use Rattle.proof_log.proofs.Linked.{log_linked, linked_bits}
use Rattle.proof_log.proofs.Standing.{stands_over, bits_width, next_above, clauses_below, clause_is_sound, some_literal}

pub stands_settled : (nodes : List Node) (l : LogValue) → IsTermList nodes → Stands nodes l → IsSettled nodes l
stands_settled nodes l all h =
    let k = stands_over nodes l h in
    let sound = log_is_sound nodes l.entries all k.steps in
    let ordered = log_is_ordered nodes l.entries all k.steps in
    record {
      kept = k;
      next = next_above nodes l all k;
      clauses = λ id c e. (clauses_below nodes l id c all k e, clause_is_sound nodes l id c all h e);
      bits = λ t b e.
          let own = sym (k.bits t) ∙ e in
          let o = ordered.bits t b own in
          (o.0, bits_width nodes l.entries t b all k.steps own, subst (λ n. AreBelow n b) (sym k.next) o.1, (λ M. sound.bits M t b own));
      images = λ M t u e. sound.images M t u (sym (k.images t) ∙ e);
      linked = λ t u e.
          let x = log_linked nodes l.entries k.steps t u (sym (k.images t) ∙ e) in
          let own = k.bits u ∙ linked_bits nodes l.entries t u k.steps x in
          (ap is_some own, k.bits t ∙ x.own ∙ sym own);
      selectors = λ a s e.
          let r = some_literal ((state_of nodes l.entries).selectors a) s (sym (k.selectors a) ∙ e) in
          let o = ordered.selectors a r.0 r.1 in (
            r.0.term,
            o.2,
            ap (λ x. x.positive) (sym r.2) ∙ o.0,
            subst (λ x. x.variable < l.next) r.2 (subst (λ n. r.0.literal.variable < n) (sym k.next) o.1),
            (λ M. ap (λ x. lit_true (meaning M nodes l.entries) x) (sym r.2) ∙ sound.selectors M a r.0 r.1),
          );
      equals = λ t u x e.
          let own = sym (k.equals t u) ∙ e in
          let o = ordered.equals t u x own in
          (o.2, o.0, subst (λ n. x.variable < n) (sym k.next) o.1, (λ M. sound.equals M t u x own));
    }

pub valid_stands : (v : TermsValue) (s : LogState) (e : Entry) → IsValid v s e → IsStep (terms_after v e).nodes s e
valid_stands v s (step.Node n) i = Contains-push v.nodes n
valid_stands v s e i = i
