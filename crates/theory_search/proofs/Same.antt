-- What is kept for walks goes by the bits and the images of terms alone, whichever list has them.
use mathlib.Core.Path.{fun_ext}
use Rattle.std.proofs.Common.{◌≡◌, ℕ, Bool, List, [], ◌∷◌, Option, sym, ap, ◌∙◌, subst}
use Rattle.std.specs.Prelude.{Contains, slice_index_or}
use Rattle.std.specs.List.{AllByRecursion}
use Rattle.smt_terms.specs.declared.node.Node.{Node}
use Rattle.smt_terms.specs.Nodes.{node_at}
use Rattle.cnf_base.specs.Literals.{Literal}
use Rattle.smt_terms.specs.Bits.{TermBits, bits_in, image_in}
use Rattle.smt_terms.specs.Terms.{sort_of}
use Rattle.smt_terms.specs.Values.{number_of}
use Rattle.term_reach.specs.Reach.{IsReached, IsReach, IsAcyclic}
use Rattle.theory_terms.specs.declared.atom.Landing.{Landing}
use Rattle.access_tables.specs.Leading.{leads}
use Rattle.access_tables.specs.Encoded.{HaveBits}
use Rattle.access_tables.specs.Held.{HasRow, IsAccess, value_by}
use Rattle.access_tables.specs.Ready.{IsOwn, AreImages}
use Rattle.access_walk.specs.declared.guard.Guard.{Guard}
use Rattle.access_walk.specs.declared.guard.Guard.TheVariants.{Differs, Holds, Fails}
use Rattle.access_walk.specs.declared.congruence.Application.{Application}
use Rattle.access_walk.specs.declared.network.Network.{Network}
use Rattle.access_walk.specs.declared.walking.Prepared.{Prepared}
use Rattle.access_walk.specs.declared.spares.Indexes.{Indexes}
use Rattle.access_walk.specs.declared.witnesses.Watched.{Watched}
use Rattle.access_walk.specs.Congruent.{IsScalarTerm, IsApplied, AreApplications}
use Rattle.access_walk.specs.Maps.{Becomes, IsMap}
use Rattle.access_walk.specs.Searched.{IsPrepared}
use Rattle.access_walk.specs.Spared.{HasIndexTerm, HasWidth, AreIndexesOf}
use Rattle.access_walk.specs.Valued.{IsGuarded}
use Rattle.access_walk.specs.Valuing.{IsNetworkOf}
use Rattle.access_walk.specs.Walked.{Reached, HasHeldWords, IsWalkable, HaveWordValues}
use Rattle.access_walk.specs.Watched.{IsWatched, AreWatches}

module _ (nodes : List Node) (a b : List TermBits) (rows : bits_in a ≡ bits_in b) (images : image_in a ≡ image_in b) where
  row_of : (t : ℕ) → HasRow nodes a t → HasRow nodes b t
  row_of t h = (h.0, sym (ap (λ f. f t) rows) ∙ h.1, h.2)

  own_of : (Here : ℕ → Type 0) (t : ℕ) → IsOwn Here (image_in b) t → IsOwn Here (image_in a) t
  own_of Here t h = (h.0, ap (λ f. f t) images ∙ h.1)

  own_to : (Here : ℕ → Type 0) (t : ℕ) → IsOwn Here (image_in a) t → IsOwn Here (image_in b) t
  own_to Here t h = (h.0, sym (ap (λ f. f t) images) ∙ h.1)

  -- ---- what a search prepares

  access_of : (terms : List ℕ) (l : Landing) → IsAccess nodes a terms l → IsAccess nodes b terms l
  access_of terms l h = record {
    index = h.index;
    element = h.element;
    here = h.here;
    array = h.array;
    at = h.at;
    value = h.value;
    index_bits = row_of l.index h.index_bits;
    value_bits = row_of l.value h.value_bits;
  }

  guarded_of : (g : Guard) → IsGuarded nodes a g → IsGuarded nodes b g
  guarded_of (Differs j) h = (h.0, h.1, row_of j h.2)
  guarded_of (Holds c) h = (h.0, row_of c h.1)
  guarded_of (Fails c) h = (h.0, row_of c h.1)

  network_of : (terms : List ℕ) (n : Network) → IsNetworkOf nodes a terms n → IsNetworkOf nodes b terms n
  network_of terms n h = record {
    sound = h.sound;
    maps = subst (λ image. IsMap nodes image (Contains terms) terms n.moves.items n.guards.items n.origins.items n.landings.items n.graph) images h.maps;
    guards = λ k d lt. guarded_of (slice_index_or n.guards.items k d) (h.guards k d lt);
    accesses = λ k d lt. access_of terms (slice_index_or n.landings.items k d) (h.accesses k d lt);
  }

  scalar_of : (t : ℕ) → IsScalarTerm nodes a t → IsScalarTerm nodes b t
  scalar_of t h = (h.0, h.1, row_of t h.2)

  scalars_of : (ts : List ℕ) → AllByRecursion (IsScalarTerm nodes a) ts → AllByRecursion (IsScalarTerm nodes b) ts
  scalars_of [] h = tt
  scalars_of (t ∷ ts) h = (scalar_of t h.0, scalars_of ts h.1)

  applied_of : (Here : ℕ → Type 0) (x : Application) → IsApplied nodes a Here x → IsApplied nodes b Here x
  applied_of Here x h = record { own = own_to Here x.term h.own; shape = h.shape; held = scalar_of x.term h.held; args = scalars_of (node_at nodes x.term).args h.args }

  applications_of : (Here : ℕ → Type 0) (found : List Application) → AreApplications nodes a Here found → AreApplications nodes b Here found
  applications_of Here found h = record { each = λ x k. applied_of Here x (h.each x k); all = λ t d own shape. h.all t d (own_of Here t own) shape }

  watched_of : (Here : ℕ → Type 0) (w : Watched) → IsWatched nodes a Here w → IsWatched nodes b Here w
  watched_of Here w h = record {
    left = h.left;
    right = h.right;
    index = h.index;
    element = h.element;
    own = own_to Here w.equality h.own;
    shape = h.shape;
    sides = h.sides;
    is = h.is;
    truth = h.truth;
    left_sort = h.left_sort;
    right_sort = h.right_sort;
    equality_bits = row_of w.equality h.equality_bits;
    left_bits = row_of w.watch.left h.left_bits;
    right_bits = row_of w.watch.right h.right_bits;
  }

  watches_of : (Here : ℕ → Type 0) (found : List Watched) → AreWatches nodes a Here found → AreWatches nodes b Here found
  watches_of Here found h = record { each = λ w k. watched_of Here w (h.each w k); all = λ t x y n m own shape sides. h.all t x y n m (own_of Here t own) shape sides }

  index_of : (t i : ℕ) → HasIndexTerm nodes a t i → HasIndexTerm nodes b t i
  index_of t i h = (h.0, sym (ap (λ f. f t) images) ∙ h.1, h.2, h.3)

  index_from : (t i : ℕ) → HasIndexTerm nodes b t i → HasIndexTerm nodes a t i
  index_from t i h = (h.0, ap (λ f. f t) images ∙ h.1, h.2, h.3)

  width_of : (t n : ℕ) → HasWidth nodes a t n → HasWidth nodes b t n
  width_of t n h = (h.0, h.1, sym (ap (λ f. f t) images) ∙ h.2, h.3, h.4)

  width_from : (t n : ℕ) → HasWidth nodes b t n → HasWidth nodes a t n
  width_from t n h = (h.0, h.1, ap (λ f. f t) images ∙ h.2, h.3, h.4)

  indexes_of : (Here : ℕ → Type 0) (i : Indexes) → AreIndexesOf nodes a Here i → AreIndexesOf nodes b Here i
  indexes_of Here i h = (
    record { each = λ j k. (let e = h.0.each j k in (e.0, e.1, index_of e.0 j e.2)); all = λ t j here has. h.0.all t j here (index_from t j has) },
    record { each = λ n k. (let e = h.1.each n k in (e.0, e.1, width_of e.0 n e.2)); all = λ t n here has. h.1.all t n here (width_from t n has) },
  )

  pub prepared_by : (terms : List ℕ) (p : Prepared) → IsPrepared nodes a terms p → IsPrepared nodes b terms p
  prepared_by terms p h = record {
    network = network_of terms p.network h.network;
    applications = applications_of (Contains terms) p.applications.items h.applications;
    watches = watches_of (Contains terms) p.watches.items h.watches;
    indexes = indexes_of (Contains terms) p.indexes h.indexes;
  }

  pub reach_by : (live terms : List ℕ) → IsReach (leads nodes (image_in a)) live terms → IsReach (leads nodes (image_in b)) live terms
  reach_by live terms h = subst (λ image. IsReach (leads nodes image) live terms) images h

  -- ---- what a walk asks for

  here_from : (live : List ℕ) (t : ℕ) → Reached nodes b live t → Reached nodes a live t
  here_from live t h = subst (λ image. IsReached (leads nodes image) live t) (sym images) h

  here_to : (live : List ℕ) (t : ℕ) → Reached nodes a live t → Reached nodes b live t
  here_to live t h = subst (λ image. IsReached (leads nodes image) live t) images h

  bits_by : (live : List ℕ) → HaveBits nodes a (Reached nodes a live) → HaveBits nodes b (Reached nodes b live)
  bits_by live h = record {
    held = λ t k. h.held t (here_from live t k);
    acyclic = subst (λ image. IsAcyclic (leads nodes image)) images h.acyclic;
    images = subst (AreImages nodes) images h.images;
    rows = λ t k plain. row_of t (h.rows t (here_from live t k) plain);
    alone = λ t row e. h.alone t row (ap (λ f. f t) rows ∙ e);
  }

  words_by : (live : List ℕ) (n : ℕ) → HasHeldWords nodes a (Reached nodes a live) n → HasHeldWords nodes b (Reached nodes b live) n
  words_by live n h = record {
    indexes = h.indexes;
    among = λ t l own start sort. (let j = h.among t l (here_from live t own.0, ap (λ f. f t) images ∙ own.1) start sort in (j.0, j.1, subst (λ image. Becomes image l.index j.0) images j.2));
    words = λ k lt le. (let w = h.words k lt le in (w.0, w.1, row_of w.0 w.2));
  }

  pub walkable_by : (live : List ℕ) → IsWalkable nodes a live → IsWalkable nodes b live
  walkable_by live h = record {
    bits_are = bits_by live h.bits_are;
    images = λ t u e. h.images t u (ap (λ f. f t) images ∙ e);
    watches = λ t x y n m own shape sides. h.watches t x y n m (here_from live t own.0, ap (λ f. f t) images ∙ own.1) shape sides;
    words = λ t x n m own shape array. words_by live n (h.words t x n m (here_from live t own.0, ap (λ f. f t) images ∙ own.1) shape array);
  }

  pub values_by : (f : ℕ → Bool) → HaveWordValues nodes a f → HaveWordValues nodes b f
  values_by f h n k w is row =
      ap (λ g. number_of (value_by f (sort_of nodes w) (g w))) (sym rows) ∙ h n k w is (row.0, ap (λ g. g w) rows ∙ row.1, row.2)

-- two lists with the bits and the images of one log
pub same_rows : (a b : List TermBits) (f : ℕ → Option (List Literal)) → ((t : ℕ) → bits_in a t ≡ f t) → ((t : ℕ) → bits_in b t ≡ f t) → bits_in a ≡ bits_in b
same_rows a b f g h = fun_ext (λ t. g t ∙ sym (h t))

pub same_images : (a b : List TermBits) (f : ℕ → Option ℕ) → ((t : ℕ) → image_in a t ≡ f t) → ((t : ℕ) → image_in b t ≡ f t) → image_in a ≡ image_in b
same_images a b f g h = fun_ext (λ t. g t ∙ sym (h t))
