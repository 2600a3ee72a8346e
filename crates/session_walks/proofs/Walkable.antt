-- What a session has that is to be walked over.
use Rattle.std.proofs.Common.{◌≡◌, ℕ, ◌<◌, List, length, Some}
use Rattle.cnf_base.proofs.Options.{some_value}
use Rattle.smt_terms.specs.declared.sort.Sort.TheVariants as sort
use Rattle.smt_terms.specs.declared.node.Node.{Node}
use Rattle.smt_terms.specs.Bits.{bits_in, image_in}
use Rattle.smt_terms.specs.Terms.{sort_of}
use Rattle.theory_terms.specs.declared.shape.Shape.TheVariants.{Filling}
use Rattle.theory_terms.specs.Shapes.{shape_at}
use Rattle.access_tables.specs.Encoded.{HaveBits}
use Rattle.access_tables.specs.Ready.{IsOwn}
use Rattle.access_walk.specs.Walked.{HasHeldWords, IsWalkable}
use Rattle.proof_log.specs.Stored.{LogValue, Stands, IsSettled}
use Rattle.proof_log.proofs.Settled.{stands_settled}
use Rattle.array_images.specs.Covered.{IsLed}
use Rattle.array_images.specs.Walking.{IsRewritten, HasWatches}
use Rattle.array_images.proofs.Walking.{has_watches}
use Rattle.session_walks.specs.Words.{HaveWordBits}

module _ (old nodes : List Node) (log : LogValue) (roots : List ℕ) (stands : Stands nodes log) (h : IsRewritten old nodes (image_in log.bits) roots)
    (have : HaveBits nodes log.bits (IsLed nodes (image_in log.bits) roots)) (words : HaveWordBits old nodes log.bits roots) where
  settled : IsSettled nodes log
  settled = stands_settled nodes log h.list stands

  -- an image has bits, so it is held
  image_held : (t u : ℕ) → image_in log.bits t ≡ Some u → u < length nodes
  image_held t u e =
      let row = some_value (bits_in log.bits u) (settled.linked t u e).0 in
      (settled.bits u row.0 row.1).0

  watches : HasWatches old nodes (image_in log.bits) roots
  watches = has_watches old nodes (image_in log.bits) roots h

  held_words : (t x n m : ℕ) → IsOwn (IsLed nodes (image_in log.bits) roots) (image_in log.bits) t → shape_at nodes t ≡ Filling x → sort_of nodes t ≡ sort.Array n m
      → HasHeldWords nodes log.bits (IsLed nodes (image_in log.bits) roots) n
  held_words t x n m own shape array =
      let made = watches.words t x n m own shape array in
      record {
        indexes = made.indexes;
        among = made.among;
        words = λ k lt le. (let w = made.words k lt le in (w.0, (w.1.found, w.1.sort), words n k w.0 w.1));
      }

  pub may_walk : IsWalkable nodes log.bits roots
  may_walk = record { bits_are = have; images = image_held; watches = watches.watches; words = held_words }
