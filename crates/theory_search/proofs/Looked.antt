-- What a look at a model needs, and what it comes to.
use mathlib.Core.Path.{fun_ext}
use Rattle.std.proofs.Common.{◌≡◌, ℕ, Bool, List, refl, sym, ap, ◌∙◌, subst}
use Rattle.std.specs.Prelude.{Contains, IsSome}
use Rattle.cnf_base.specs.Literals.{Literal}
use Rattle.smt_terms.specs.declared.node.Node.{Node}
use Rattle.smt_terms.specs.Bits.{TermBits, bits_in, image_in}
use Rattle.smt_terms.specs.Terms.{TermsValue, AreTerms, IsTermList, AreDifferent, sort_of}
use Rattle.smt_terms.specs.Values.{Interpretation}
use Rattle.term_reach.specs.Reach.{IsReached, IsReach}
use Rattle.access_tables.specs.Leading.{leads}
use Rattle.access_tables.specs.Encoded.{HaveBits, AreSatisfied}
use Rattle.access_tables.specs.Held.{TableValue, assigned_value, value_by}
use Rattle.access_tables.specs.Modeled.{IsModel}
use Rattle.access_walk.specs.declared.walking.Conflicts.{Conflicts}
use Rattle.access_walk.specs.Maps.{AreLinked}
use Rattle.access_walk.specs.Searched.{IsPrepared, AreConflicts}
use Rattle.access_walk.specs.Walked.{IsWalkable, HaveWordValues, IsWalkedTable}
use Rattle.access_walk.proofs.Conflicting.{bits_here}
use Rattle.proof_log.specs.declared.entry.Entry.{Entry}
use Rattle.proof_log.specs.Logs.{state_of, IsLog}
use Rattle.proof_log.specs.Boards.{AreBitsIn, AreImagesIn}
use Rattle.cube_search.specs.Ends as of
use Rattle.theory_search.specs.declared.theory.Theory.{Theory}
use Rattle.theory_search.specs.Theories.{IsTheory}
use Rattle.theory_search.specs.Ends.{IsModelOf}
use Rattle.theory_search.specs.Looks.{AreLemmas}
use Rattle.theory_search.proofs.Same.{same_rows, same_images, walkable_by, reach_by, prepared_by, values_by}
use Rattle.theory_search.proofs.Given.{value_agrees, linked_values, satisfied, one_true}
use Rattle.theory_search.proofs.Wanted.{encoded_ready}

-- what is at hand when a search has found a model
pub record IsLook (nodes : List Node) (log : List Entry) (opening : List ℕ) (given : List Literal) (v : ℕ → Bool) (bits : List TermBits) (t : Theory) (f : ℕ → Bool) : Type 0 where
  pub terms : IsTermList nodes
  pub different : AreDifferent nodes
  pub stands : IsLog nodes log
  pub are : AreBitsIn nodes log bits
  pub images : AreImagesIn nodes log bits
  pub model : of.IsModel (state_of nodes log).clauses opening given v
  pub theory : IsTheory nodes log opening t
  pub agrees : (x : ℕ) → Contains t.variables x → f x ≡ v x

pub look_at : (own : List Node) (terms : TermsValue) (log : List Entry) (opening : List ℕ) (given : List Literal) (v : ℕ → Bool) (bits : List TermBits) (t : Theory) (f : ℕ → Bool) → own ≡ terms.nodes → AreTerms terms
    → IsLog own log → AreBitsIn own log bits → AreImagesIn own log bits → of.IsModel (state_of own log).clauses opening given v → IsTheory own log opening t → ((x : ℕ) → Contains t.variables x → f x ≡ v x)
    → IsLook terms.nodes log opening given v bits t f
look_at own terms log opening given v bits t f e are stands rows images model theory agrees = record {
  terms = are.list;
  different = are.different;
  stands = subst (λ n. IsLog n log) e stands;
  are = subst (λ n. AreBitsIn n log bits) e rows;
  images = subst (λ n. AreImagesIn n log bits) e images;
  model = subst (λ n. of.IsModel (state_of n log).clauses opening given v) e model;
  theory = subst (λ n. IsTheory n log opening t) e theory;
  agrees = agrees;
}

module _ (nodes : List Node) (log : List Entry) (opening : List ℕ) (given : List Literal) (v : ℕ → Bool) (bits : List TermBits) (t : Theory) (f : ℕ → Bool) (k : IsLook nodes log opening given v bits t f) where
  h : IsTheory nodes log opening t
  h = k.theory

  rows : bits_in h.bits ≡ bits_in bits
  rows = same_rows h.bits bits (state_of nodes log).bits h.are k.are

  pictures : image_in h.bits ≡ image_in bits
  pictures = same_images h.bits bits (state_of nodes log).images h.images k.images

  pub walks : IsWalkable nodes bits t.live.items
  walks = walkable_by nodes h.bits bits rows pictures t.live.items h.walkable

  pub reaches : IsReach (leads nodes (image_in bits)) t.live.items t.reached
  reaches = reach_by nodes h.bits bits rows pictures t.live.items t.reached h.reach

  pub is_prepared : IsPrepared nodes bits t.reached t.prepared
  is_prepared = prepared_by nodes h.bits bits rows pictures t.reached t.prepared h.prepared

  pub words_have_values : HaveWordValues nodes bits f
  words_have_values = values_by nodes h.bits bits rows pictures f (h.numbered f (one_true nodes k.terms k.different log k.stands bits k.are k.images opening given v k.model t.variables f k.agrees h.first h.one))

  pub values_linked : AreLinked (image_in bits) (assigned_value nodes bits f)
  values_linked = linked_values nodes k.terms k.different log k.stands bits k.are k.images opening given v k.model t.variables f k.agrees walks.bits_are.images

  module _ (table : TableValue) (walked : IsWalkedTable nodes bits f t.live.items table) where
    pub table_bits : HaveBits nodes bits (Contains table.terms)
    table_bits = bits_here nodes bits t.live.items table.terms walks walked.reach

    pub table_satisfied : AreSatisfied nodes bits f (Contains table.terms)
    table_satisfied = satisfied nodes k.terms k.different log k.stands bits k.are k.images opening given v k.model t.variables f k.agrees (Contains table.terms) table_bits h.first h.one
        (λ u there has. h.given u (reaches.all u (walked.reach.only u there)) has)

    pub table_model : (from : ℕ) (M : Interpretation) → IsModel nodes bits f table M → IsModelOf (record { nodes = nodes; log = log; given = given; from = from }) t.live.items opening v M
    table_model from M m = record {
      clauses = k.model;
      values = λ u reached plain free.
          let here = subst (λ image. IsReached (leads nodes image) t.live.items u) (sym (fun_ext k.images)) reached in
          let near = reaches.all u here in
          m.terms u (walked.reach.all u here) plain free
          ∙ value_agrees f v (sort_of nodes u) (bits_in bits u) (λ row e l there. k.agrees l.variable ((h.given u near (subst IsSome (k.are u) (subst IsSome (sym e) refl))).bits row (sym (k.are u) ∙ e) l there))
          ∙ ap (λ o. value_by v (sort_of nodes u) o) (k.are u);
    }

  -- ---- lemmas

  pub conflicts_ready : (c : Conflicts) → AreConflicts nodes bits f (Contains t.reached) c → AreLemmas nodes log c
  conflicts_ready c all = record {
    falses = λ l m. (let q = all.all.falses l m in encoded_ready nodes k.terms log bits k.are l q.atoms q.are q.encoded);
    siblings = λ l m. (let q = all.siblings l m in encoded_ready nodes k.terms log bits k.are l q.atoms q.are q.encoded);
  }
