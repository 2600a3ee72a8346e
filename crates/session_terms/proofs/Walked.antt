-- What terms reach with their watches has bits, where what is live has some.
use Rattle.std.proofs.Common.{◌≡◌, ℕ, ◌+◌, ◌<◌, ◌≤◌, ◌^◌, true, List, [], ◌∷◌, get_or, length, length-append, refl, sym, ap, ◌∙◌, subst, ⊎_elim, arith, Option, Some, None}
use Rattle.std.specs.Prelude.{All, Contains}
use Rattle.std.proofs.lemmas.Map.Steps.{length-le_from_distinct_below}
use Rattle.std.proofs.lemmas.List.Elements.{All-contains, Contains-append_cases}
use Rattle.cnf_base.specs.Literals.{Literal}
use Rattle.cnf_base.proofs.Options.{some_value, same_found}
use Rattle.smt_terms.specs.declared.sort.Sort.{Sort}
use Rattle.smt_terms.specs.declared.sort.Sort.TheVariants as sort
use Rattle.smt_terms.specs.declared.node.Op.TheVariants.{Word}
use Rattle.smt_terms.specs.declared.node.Node.{Node}
use Rattle.smt_terms.specs.Nodes.{leaf, node_at}
use Rattle.smt_terms.specs.Bits.{bits_in, image_in}
use Rattle.smt_terms.specs.Ranks.{is_array, is_plain}
use Rattle.smt_terms.specs.Terms.{IsSort, sort_of, IsTermList}
use Rattle.smt_terms.proofs.Growing.{node_longer, sort_longer, list_shorter}
use Rattle.smt_terms.proofs.Made.{at_place}
use Rattle.smt_terms.proofs.Widths.{sort_bounded}
use Rattle.theory_terms.specs.declared.shape.Shape.{Shape}
use Rattle.theory_terms.specs.declared.shape.Shape.TheVariants.{Selecting, Storing, Filling, Choosing, Equating, Witnessing, Applying, Declaring, Other}
use Rattle.theory_terms.specs.declared.atom.Watch.{Watch}
use Rattle.theory_terms.specs.Shapes.{IsPlain, shape_of, shape_at, term_of}
use Rattle.theory_terms.specs.Lemmas.{watch, witness_node, select_node}
use Rattle.theory_terms.proofs.Shapes.{WitnessFacts}
use Rattle.theory_terms.proofs.Sound as theory
use Rattle.term_reach.specs.Reach.{arguments, IsWay, IsReached, IsClosed}
use Rattle.term_reach.proofs.Rising.{all_apart}
use Rattle.term_reach.proofs.Ways.{argument_earlier, root_reached, reached_further, reached_closed}
use Rattle.bit_blast.specs.Meanings.{IsRowOf}
use Rattle.proof_log.specs.Assigned.{stands_on}
use Rattle.proof_log.specs.Logs.{plain_width}
use Rattle.proof_log.specs.Stored.{LogValue, IsSettled}
use Rattle.proof_log.proofs.Linked.{stored_images_are}
use Rattle.proof_log.proofs.Settled.{stands_settled}
use Rattle.access_tables.specs.Leading.{selects_of, watched as watches_of, leads, leads_by}
use Rattle.access_tables.specs.Ready.{AreImages}
use Rattle.access_tables.specs.Held.{HasRow}
use Rattle.access_tables.proofs.Building.{args_at}
use Rattle.access_tables.specs.Encoded.{HaveBits}
use Rattle.array_watches.specs.Needed.{filled_at, filled_by, watched}
use Rattle.array_watches.specs.Watched.{Reached, IsConstant, AreIndexes, IsWatched}
use Rattle.array_watches.proofs.Counting.{count_all, index_held}
use Rattle.array_watches.proofs.Growing.{IsLonger, long_count, long_long, watched_long}
use Rattle.array_watches.proofs.Members.{among}
use Rattle.array_watches.proofs.Reached.{all_held}
use Rattle.array_watches.proofs.Whole.{longer_found, watch_is, watches_are_made}
use Rattle.array_images.specs.Brought.{AreBrought}
use Rattle.array_images.specs.Covered.{IsLed}
use Rattle.array_images.specs.Walking.{IsRewritten, IsMadeWord}
use Rattle.array_images.proofs.Covered.{watch_found, fact, led_is_covered}
use Rattle.array_images.proofs.Logs.{logs_bring_no_arrays}
use Rattle.session_terms.specs.Placed.{by_images, has_bits}
use Rattle.session_terms.specs.Walked.{IsEncoded}
use Rattle.session_terms.proofs.Placing.{is_complete, never_leads_back, reached_placed}
use Rattle.session_terms.proofs.Planned.{bare_free}
use Rattle.session_terms.proofs.Back.{selects_lead_back_no_more}

-- ---- what is reached through arguments was there

module _ (xs nodes : List Node) (l : IsLonger xs nodes) (list : IsTermList xs) (roots : List ℕ) (held : All (λ t. t < length xs) roots) where
  node_there : (t : ℕ) → t < length xs → node_at nodes t ≡ node_at xs t
  node_there t lt = ap (λ ns. node_at ns t) l.1 ∙ node_longer xs l.0 t lt

  shape_there : (t : ℕ) → t < length xs → shape_at nodes t ≡ shape_at xs t
  shape_there t lt = ap (λ (n : Node). shape_of n.op n.args) (node_there t lt)

  sort_there : (t : ℕ) → t < length xs → sort_of nodes t ≡ sort_of xs t
  sort_there t lt = ap (λ ns. sort_of ns t) l.1 ∙ sort_longer xs l.0 t lt

  was_reached : (t : ℕ) → Reached nodes roots t → Reached xs roots t × (t < length xs)
  was_reached t r =
      let w = go r.0 r.2.0 r.2.1 (All-contains (λ x. x < length xs) roots r.0 held r.1) in
      ((r.0, r.1, (r.2.0, w.0)), w.1)
    where
      go : (x : ℕ) (way : List ℕ) → IsWay (arguments nodes) x way t → x < length xs → IsWay (arguments xs) x way t × (t < length xs)
      go x [] e lt = (e, subst (λ y. y < length xs) e lt)
      go x (y ∷ way) w lt =
          let c : Contains (arguments xs x) y = subst (λ (n : Node). Contains n.args y) (node_there x lt) w.0 in
          let less = argument_earlier xs list x y c in
          let rest = go y way w.1 (omega (arith, less, lt)) in
          ((c, rest.0), rest.1)

none_in : (u : ℕ) → Contains [] u → ⊥
none_in u c = let lt = c.1 in omega (arith, lt)

in_two : {C : Type 0} (a b u : ℕ) → Contains (a ∷ b ∷ []) u → (a ≡ u → C) → (b ≡ u → C) → C
in_two a b u c f g = ⊎_elim (λ p. f (in_one a u p)) (λ p. g (in_one b u p)) (Contains-append_cases (a ∷ []) (b ∷ []) u c)
  where
    in_one : (x y : ℕ) → Contains (x ∷ []) y → x ≡ y
    in_one x y d = let first : d.0 ≡ 0 = (let lt = d.1 in omega (arith, lt)) in ap (λ j. get_or (x ∷ []) j y) (sym first) ∙ d.2

-- ---- sorts

is_type : (s : Sort) → is_plain s ≡ true → IsPlain s
is_type sort.Bool h = tt
is_type (sort.Word n) h = tt
is_type (sort.Array n m) h = let f : ⊥ = cc in absurd f

is_test : (s : Sort) → IsPlain s → is_plain s ≡ true
is_test sort.Bool h = refl
is_test (sort.Word n) h = refl
is_test (sort.Array n m) h = absurd h

wide_plain : (s : Sort) (n : ℕ) → plain_width s ≡ Some n → IsPlain s
wide_plain sort.Bool n e = tt
wide_plain (sort.Word k) n e = tt
wide_plain (sort.Array k m) n e = let f : ⊥ = cc in absurd f

row_of : (s : Sort) (b : List Literal) → plain_width s ≡ Some (length b) → IsSort s → IsRowOf s b
row_of sort.Bool b e i = let q : 1 ≡ length b = cc in sym q
row_of (sort.Word n) b e i = let q : n ≡ length b = cc in (omega (arith, i.0), sym q)
row_of (sort.Array n m) b e i = let q : ⊥ = cc in absurd q

module _ (old nodes : List Node) (log : LogValue) (roots live : List ℕ) (h : IsEncoded old nodes log roots live) where
  abbrev image : ℕ → Option ℕ
  image = image_in log.bits

  abbrev made : List Node
  made = watched old roots

  settled : IsSettled nodes log
  settled = stands_settled nodes log h.list h.stands

  free : (t : ℕ) → bits_in log.bits t ≡ None → image t ≡ None
  free = bare_free nodes log h.list h.stands

  images : AreImages nodes image
  images = record {
    plain = λ t u e. is_type (sort_of nodes t) (stored_images_are nodes log h.list h.different h.stands t u e).plain;
    sort = λ t u e. (stored_images_are nodes log h.list h.different h.stands t u e).sort;
  }

  brought : AreBrought nodes image
  brought = logs_bring_no_arrays nodes h.list h.different log h.stands

  pub is_rewritten : IsRewritten old nodes image roots
  is_rewritten = record {
    list = h.list;
    more = h.more;
    begins = h.begins;
    held = h.held;
    acyclic = selects_lead_back_no_more nodes h.list h.different log h.stands (never_leads_back nodes log.bits h.order h.list free);
    images = images;
    brought = brought;
  }

  -- ---- the watches of what is reached

  made_longer : IsLonger made nodes
  made_longer = (h.more, h.begins)

  old_longer : IsLonger old nodes
  old_longer = long_long old made nodes (watched_long old roots) made_longer

  old_list : IsTermList old
  old_list = let l = long_long old made nodes (watched_long old roots) made_longer in list_shorter old l.0 (subst IsTermList l.1 h.list)

  made_list : IsTermList made
  made_list = list_shorter made h.more (subst IsTermList h.begins h.list)

  made_held : All (λ t. t < length made) roots
  made_held k d lt =
      let l = watched_long old roots in
      let less = h.held k d lt in
      let long : length made ≡ length old + length l.0 = ap length l.1 ∙ length-append old l.0 in
      omega (arith, less, long)

  are_made : IsWatched old made roots
  are_made = watches_are_made old roots old_list h.held

  watch_there : (a b : ℕ) (w : Watch) → watch made a b ≡ Some w → watch nodes a b ≡ Some w
  watch_there a b w e =
      let f = watch_found made a b (term_of made (witness_node a b)) w e in
      watch_is nodes a b w.witness (record {
        l = w.left;
        r = w.right;
        witness = longer_found made nodes (witness_node a b) w.witness made_longer f.0;
        left = longer_found made nodes (select_node a w.witness) w.left made_longer f.1;
        right = longer_found made nodes (select_node b w.witness) w.right made_longer f.2;
      })

  -- the selects of a reached equality at its witness are live
  selects_live : (t a b : ℕ) (w : Watch) → IsLed nodes image roots t → shape_at nodes t ≡ Equating a b → watch nodes a b ≡ Some w → Contains live w.left × Contains live w.right
  selects_live t a b w led shape found =
      let is = theory.watch_is nodes a b w found in
      let facts : WitnessFacts (sort_of nodes) w.witness a b = fact nodes h.list w.witness (Witnessing a b) is.witness in
      let array : is_array (sort_of nodes a) ≡ true = ap is_array facts.left_sort in
      let reached = (led_is_covered nodes h.list image brought roots t led).equality a b shape array in
      let was = was_reached old nodes old_longer old_list roots h.held t reached in
      let now = was_reached made nodes made_longer made_list roots made_held t reached in
      let own : shape_at old t ≡ Equating a b = sym (shape_there old nodes old_longer old_list roots h.held t was.1) ∙ shape in
      let less = argument_earlier old old_list t a (subst (λ l. Contains l a) (sym (args_at old t (Equating a b) own)) (0, omega arith, refl)) in
      let lt = was.1 in
      let first = some_value (watch made a b) (are_made.watches t a b (record { here = was.0; shape = own; arrays = ap is_array (sym (sort_there old nodes old_longer old_list roots h.held a (omega (arith, less, lt)))) ∙ array })) in
      let same : first.0 ≡ w = same_found (watch nodes a b) first.0 w (watch_there a b first.0 first.1) found in
      h.all.selects t now.0 a b w (sym (shape_there made nodes made_longer made_list roots made_held t now.1) ∙ shape) (first.1 ∙ ap Some same)

  -- ---- by images from what is live

  record IsFound (t : ℕ) : Type 0 where
    led : IsLed nodes image roots t
    here : IsReached (by_images nodes image) live t

  next_found : IsClosed (leads nodes image) IsFound
  next_found t u f c = record { led = reached_further (leads nodes image) roots t u f.led c; here = go (image t) refl c }
    where
      further : Contains (by_images nodes image t) u → IsReached (by_images nodes image) live u
      further d = reached_further (by_images nodes image) live t u f.here d

      watch_live : (a b : ℕ) → shape_at nodes t ≡ Equating a b → (o : Option Watch) → watch nodes a b ≡ o → Contains (selects_of o) u → IsReached (by_images nodes image) live u
      watch_live a b shape None e d = absurd (none_in u d)
      watch_live a b shape (Some w) e d =
          let both = selects_live t a b w f.led shape e in
          in_two w.left w.right u d
          (λ q. root_reached (by_images nodes image) live u (subst (Contains live) q both.0))
          (λ q. root_reached (by_images nodes image) live u (subst (Contains live) q both.1))

      by_watch : (k : Shape) → shape_at nodes t ≡ k → Contains (watches_of nodes k) u → IsReached (by_images nodes image) live u
      by_watch (Equating a b) e d = watch_live a b e (watch nodes a b) refl d
      by_watch (Selecting a i) e d = absurd (none_in u d)
      by_watch (Storing b j x) e d = absurd (none_in u d)
      by_watch (Filling x) e d = absurd (none_in u d)
      by_watch (Choosing x a b) e d = absurd (none_in u d)
      by_watch (Witnessing a b) e d = absurd (none_in u d)
      by_watch (Applying x) e d = absurd (none_in u d)
      by_watch (Declaring x q) e d = absurd (none_in u d)
      by_watch Other e d = absurd (none_in u d)

      go : (o : Option ℕ) → image t ≡ o → Contains (leads_by nodes t o) u → IsReached (by_images nodes image) live u
      go (Some x) e d = further (subst (λ o. Contains (stands_on nodes t o) u) (sym e) d)
      go None e d = ⊎_elim
          (λ p. further (subst (λ o. Contains (stands_on nodes t o) u) (sym e) p))
          (λ p. by_watch (shape_at nodes t) refl p)
          (Contains-append_cases (arguments nodes t) (watches_of nodes (shape_at nodes t)) u d)

  root_found : (t : ℕ) → Contains roots t → IsFound t
  root_found t c = record { led = root_reached (leads nodes image) roots t c; here = root_reached (by_images nodes image) live t (All-contains (Contains live) roots t h.all.own c) }

  pub led_by_images : (t : ℕ) → IsLed nodes image roots t → IsReached (by_images nodes image) live t
  led_by_images t r = (reached_closed (leads nodes image) IsFound roots next_found root_found t r).here

  -- ---- and so with bits

  -- bits are as many as the sort wants
  row_at : (t : ℕ) → has_bits log.bits t ≡ true → HasRow nodes log.bits t
  row_at t has =
      let b = some_value (bits_in log.bits t) has in
      let s = settled.bits t b.0 b.1 in
      (b.0, b.1, row_of (sort_of nodes t) b.0 s.1 (sort_bounded nodes h.list t s.0))

  pub have_bits : HaveBits nodes log.bits (IsLed nodes image roots)
  have_bits = record {
    held = λ t r. (let p = placed t r in (h.order.are.held t p.0 p.1).0);
    acyclic = is_rewritten.acyclic;
    images = images;
    rows = λ t r plain.
        let way = led_by_images t r in
        let has = is_complete nodes log.bits h.order way.0 t (All-contains (λ x. has_bits log.bits x ≡ true) live way.0 h.bits way.1) way.2 (is_test (sort_of nodes t) plain) in
        row_at t has;
    alone = λ t row e. wide_plain (sort_of nodes t) (length row) (settled.bits t row e).1;
  }
    where
      placed : (t : ℕ) → IsLed nodes image roots t → (p : ℕ) × (h.order.places t ≡ Some p)
      placed t r =
          let way = led_by_images t r in
          some_value (h.order.places t) (reached_placed nodes log.bits h.order way.0 t (All-contains (λ x. has_bits log.bits x ≡ true) live way.0 h.bits way.1) way.2)

  -- ---- index words

  now_reached : (t : ℕ) → Reached old roots t → Reached made roots t
  now_reached t r = (r.0, r.1, (r.2.0, go r.0 r.2.0 r.2.1 (All-contains (λ x. x < length old) roots r.0 h.held r.1)))
    where
      go : (x : ℕ) (way : List ℕ) → IsWay (arguments old) x way t → x < length old → IsWay (arguments made) x way t
      go x [] e lt = e
      go x (y ∷ way) w lt =
          let less = argument_earlier old old_list x y w.0 in
          (subst (λ (n : Node). Contains n.args y) (sym (node_there old made (watched_long old roots) old_list roots h.held x lt)) w.0, go y way w.1 (omega (arith, less, lt)))

  module _ (n : ℕ) (indexes : List ℕ) (are : AreIndexes old made roots n indexes) where
    -- there are as many in each such list
    as_many : (others : List ℕ) → AreIndexes old made roots n others → length indexes ≡ length others
    as_many others also =
        count_all indexes others (all_apart indexes are.once) (λ x. (forth x, back x))
        ∙ sym (count_all others others (all_apart others also.once) (λ x. ((λ c. c), (λ c. c))))
      where
        forth : (x : ℕ) → Contains indexes x → Contains others x
        forth x c = let k = are.only x c in also.all k.0 x k.1 k.2 k.3

        back : (x : ℕ) → Contains others x → Contains indexes x
        back x c = let k = also.only x c in are.all k.0 x k.1 k.2 k.3

    -- and no more than terms
    at_most : length indexes ≤ length made
    at_most =
        length-le_from_distinct_below indexes (length made) (all_apart indexes are.once)
        (λ q e.
        let k = are.only q ((among indexes q).0 e) in
        let lt = all_held old old_list roots h.held k.0 k.1 in
        let long = long_count old made (watched_long old roots) in
        index_held made made_list k.0 q (omega (arith, lt, long)) k.2)

    -- so the words that a constant array of the width wants are live
    word_live : (t k x : ℕ) → IsConstant old roots t n → k < 2 ^ n → k ≤ length indexes → term_of made (leaf (Word n k)) ≡ Some x → Contains live x
    word_live t k x constant lt le found =
        let own = are_made.words t n constant in
        let same = as_many own.indexes own.are in
        let long = at_most in
        let held = all_held old old_list roots h.held t constant.here in
        let filled : filled_at made t ≡ Some n =
        ap (λ s. filled_by s (sort_of made t)) (shape_there old made (watched_long old roots) old_list roots h.held t held ∙ constant.shape)
        ∙ ap (filled_by (Filling constant.element)) (sort_there old made (watched_long old roots) old_list roots h.held t held ∙ constant.sort) in
        h.all.words t (now_reached t constant.here) n filled k x (omega (arith, le, long)) (λ j less. own.words j (omega (arith, less, lt)) (omega (arith, less, le, same))) found

  live_row : (x w : ℕ) → x ≡ w → Contains live x → HasRow nodes log.bits w
  live_row x w e c = row_at w (All-contains (λ y. has_bits log.bits y ≡ true) live w h.bits (subst (Contains live) e c))

  -- each index word that is made for the check has bits
  pub word_row : (n k w : ℕ) → IsMadeWord old nodes roots n k w → HasRow nodes log.bits w
  word_row n k w is =
      let own = is.is in
      let node : node_at nodes w ≡ leaf (Word n k) = (at_place nodes (leaf (Word n k)) w is.found).1 in
      let op : Word n k ≡ Word own.width own.number = ap (λ (x : Node). x.op) (sym node ∙ own.is) in
      let wide : own.width ≡ n = cc in
      let number : own.number ≡ k = cc in
      let constant : IsConstant old roots own.array n = subst (IsConstant old roots own.array) wide own.constant in
      let are : AreIndexes old made roots n own.indexes = subst (λ m. AreIndexes old made roots m own.indexes) wide own.are in
      let lt : k < 2 ^ n = subst (λ m. k < 2 ^ m) wide (subst (λ j. j < 2 ^ own.width) number own.within.0) in
      let le : k ≤ length own.indexes = subst (λ j. j ≤ length own.indexes) number own.within.1 in
      let first = are_made.words own.array n constant in
      let same = as_many n own.indexes are first.indexes first.are in
      let x = some_value (term_of made (leaf (Word n k))) (first.words k lt (omega (arith, le, same))) in
      let there = longer_found made nodes (leaf (Word n k)) x.0 made_longer x.1 in
      let at : x.0 ≡ w = same_found (term_of nodes (leaf (Word n k))) x.0 w there is.found in
      live_row x.0 w at (word_live n own.indexes are own.array k x.0 constant lt le x.1)
