-- Terms stay terms, with their sorts, when more are made or the last are forgotten.
use Rattle.std.proofs.Common.{◌≡◌, ℕ, zero, suc, ◌<◌, ◌≤◌, Bool, true, false, List, [], ◌∷◌, ◌++◌, length, refl, ap, sym, ◌∙◌, subst, inl, inr, ⊎_elim, arith, length-append, Option, Some, None, Ok, Err}
use Rattle.std.specs.Prelude.{if◌then◌else◌, nat_lt, ◌⊎◌, map}
use Rattle.std.specs.List.{AllByRecursion}
use Rattle.std.proofs.lemmas.Bool.{cases_lt, ltb-true, lt-ltb}
use Rattle.std.proofs.lemmas.List.{get_or_append_left}
use Rattle.std.proofs.Math.Seq.{get_or-append_seam}
use Rattle.smt_terms.specs.declared.sort.Sort.{Sort}
use Rattle.smt_terms.specs.declared.sort.Sort.TheVariants as sort
use Rattle.smt_terms.specs.declared.node.Op.{Op}
use Rattle.smt_terms.specs.declared.node.Node.{Node}
use Rattle.smt_terms.specs.declared.rank.Demand.{Demand}
use Rattle.smt_terms.specs.declared.fault.MakeFault.TheVariants.{WrongSort}
use Rattle.smt_terms.specs.Nodes.{no_node, node_at}
use Rattle.smt_terms.specs.Ranks.{Rank, Gives, Takes, allows, ranked, rank_of}
use Rattle.smt_terms.specs.Terms.{op_rank, op_sort, or_bool, sort_of, held_sort, node_sort, IsTerm, IsTermList, AreDifferent, declaration_of, signature_of, Agrees, HaveOneSignature}
use Rattle.smt_terms.proofs.Recursion.{same_map, at_term_is, at_term_longer}

-- ---- more terms

pub all_within : (m n : ℕ) → m ≤ n → (args : List ℕ) → AllByRecursion (λ a. a < m) args → AllByRecursion (λ a. a < n) args
all_within m n le [] h = tt
all_within m n le (a ∷ args) h = (omega (arith, h.0), all_within m n le args h.1)

module _ (nodes more : List Node) where
  pub node_longer : (t : ℕ) → t < length nodes → node_at (nodes ++ more) t ≡ node_at nodes t
  node_longer t lt = get_or_append_left nodes more no_node t lt

  pub sort_longer : (t : ℕ) → t < length nodes → sort_of (nodes ++ more) t ≡ sort_of nodes t
  sort_longer t lt = at_term_longer sort.Bool (λ u. op_sort) nodes more t lt

  pub sorts_longer : (args : List ℕ) → AllByRecursion (λ a. a < length nodes) args → map (sort_of (nodes ++ more)) args ≡ map (sort_of nodes) args
  sorts_longer args h = same_map (λ a. a < length nodes) (sort_of (nodes ++ more)) (sort_of nodes) sort_longer args h

  rank_longer : (t : ℕ) → t < length nodes → AllByRecursion (λ a. a < t) (node_at nodes t).args → op_rank (node_at (nodes ++ more) t).op (map (sort_of (nodes ++ more)) (node_at (nodes ++ more) t).args) ≡ op_rank (node_at nodes t).op (map (sort_of nodes) (node_at nodes t).args)
  rank_longer t lt h =
      ap (λ n. op_rank n.op (map (sort_of (nodes ++ more)) n.args)) (node_longer t lt)
      ∙ ap (op_rank (node_at nodes t).op) (sorts_longer (node_at nodes t).args (all_within t (length nodes) (omega arith) (node_at nodes t).args h))

  pub term_longer : (t : ℕ) → t < length nodes → IsTerm nodes t → IsTerm (nodes ++ more) t
  term_longer t lt h = record {
    earlier = subst (λ n. AllByRecursion (λ a. a < t) n.args) (sym (node_longer t lt)) h.earlier;
    rank = rank_longer t lt h.earlier ∙ h.rank ∙ ap Ok (sym (sort_longer t lt));
  }

  pub term_shorter : (t : ℕ) → t < length nodes → IsTerm (nodes ++ more) t → IsTerm nodes t
  term_shorter t lt h =
      let earlier = subst (λ n. AllByRecursion (λ a. a < t) n.args) (node_longer t lt) h.earlier in
      record {
        earlier = earlier;
        rank = sym (rank_longer t lt earlier) ∙ h.rank ∙ ap Ok (sort_longer t lt);
      }

  pub list_shorter : IsTermList (nodes ++ more) → IsTermList nodes
  list_shorter h t lt = term_shorter t lt (h t (omega (arith, length-append nodes more)))

  pub different_shorter : AreDifferent (nodes ++ more) → AreDifferent nodes
  different_shorter h t u lt less e = h t u (omega (arith, length-append nodes more)) (omega (arith, length-append nodes more)) (node_longer t lt ∙ e ∙ sym (node_longer u less))

-- ---- past the end

pub node_past : (nodes : List Node) (t : ℕ) → length nodes ≤ t → node_at nodes t ≡ no_node
node_past [] t le = refl
node_past (n ∷ nodes) zero le = absurd (omega arith)
node_past (n ∷ nodes) (suc t) le = node_past nodes t (omega arith)

declared_held : (nodes : List Node) (t d : ℕ) → declaration_of (node_at nodes t).op ≡ Some d → t < length nodes
declared_held nodes t d e = ⊎_elim (λ lt. lt) (λ le. let q : declaration_of no_node.op ≡ Some d = subst (λ n. declaration_of n.op ≡ Some d) (node_past nodes t le) e in let f : ⊥ = cc in absurd f) (cases_lt t (length nodes))

pub signature_shorter : (nodes more : List Node) → HaveOneSignature (nodes ++ more) → HaveOneSignature nodes
signature_shorter nodes more h t u d e f =
    let at_u = node_longer nodes more u (declared_held nodes u d e) in
    let at_t = node_longer nodes more t (declared_held nodes t d f) in
    let g : declaration_of (node_at (nodes ++ more) u).op ≡ Some d = ap (λ n. declaration_of n.op) at_u ∙ e in
    let k : declaration_of (node_at (nodes ++ more) t).op ≡ Some d = ap (λ n. declaration_of n.op) at_t ∙ f in
    sym (ap (λ n. signature_of n.op) at_u) ∙ h t u d g k ∙ ap (λ n. signature_of n.op) at_t

-- ---- one term more

pub node_last : (nodes : List Node) (n : Node) → node_at (nodes ++ n ∷ []) (length nodes) ≡ n
node_last nodes n = get_or-append_seam nodes n [] no_node

-- what a met rank says of the next argument
pub takes_ok : (d : Demand) (next : Sort → Rank) (k : ℕ) (o : Option Sort) (rest : List (Option Sort)) (s : Sort) → ranked (Takes d next) k (o ∷ rest) ≡ Ok s → (x : Sort) × (o ≡ Some x) × (allows d x ≡ true) × (ranked (next x) (suc k) rest ≡ Ok s)
takes_ok d next k None rest s e = let f : ⊥ = cc in absurd f
takes_ok d next k (Some x) rest s e = go (allows d x) refl e where
  go : (b : Bool) → allows d x ≡ b → (if b then ranked (next x) (suc k) rest else Err (WrongSort k)) ≡ Ok s → (y : Sort) × (Some x ≡ Some y) × (allows d y ≡ true) × (ranked (next y) (suc k) rest ≡ Ok s)
  go true p q = (x, refl, p, q)
  go false p q = let f : ⊥ = cc in absurd f

held_below : (nodes : List Node) (a : ℕ) (s : Sort) → held_sort nodes a ≡ Some s → a < length nodes
held_below nodes a s e = go (nat_lt a (length nodes)) refl e where
  go : (b : Bool) → nat_lt a (length nodes) ≡ b → (if b then Some (sort_of nodes a) else None) ≡ Some s → a < length nodes
  go true p q = ltb-true a (length nodes) p
  go false p q = let f : ⊥ = cc in absurd f

pub held_is : (nodes : List Node) (a : ℕ) → a < length nodes → held_sort nodes a ≡ Some (sort_of nodes a)
held_is nodes a lt = ap (λ b. if b then Some (sort_of nodes a) else None) (lt-ltb a (length nodes) lt)

-- a rank that is met has only held arguments
held_args : (nodes : List Node) (r : Rank) (k : ℕ) (args : List ℕ) (s : Sort) → ranked r k (map (held_sort nodes) args) ≡ Ok s → AllByRecursion (λ a. a < length nodes) args
held_args nodes r k [] s e = tt
held_args nodes (Gives g) k (a ∷ args) s e = let f : ⊥ = cc in absurd f
held_args nodes (Takes d next) k (a ∷ args) s e =
    let h = takes_ok d next k (held_sort nodes a) (map (held_sort nodes) args) s e in
    (held_below nodes a h.0 h.1, held_args nodes (next h.0) (suc k) args s h.3)

held_map : (nodes : List Node) (args : List ℕ) → AllByRecursion (λ a. a < length nodes) args → map (held_sort nodes) args ≡ map Some (map (sort_of nodes) args)
held_map nodes [] h = refl
held_map nodes (a ∷ args) h = rw (held_is nodes a h.0, held_map nodes args h.1) refl

-- a node's rank over held arguments is that of their sorts
pub node_sort_is : (nodes : List Node) (n : Node) → AllByRecursion (λ a. a < length nodes) n.args → node_sort nodes n ≡ op_rank n.op (map (sort_of nodes) n.args)
node_sort_is nodes n h = ap (ranked (rank_of n.op) 0) (held_map nodes n.args h)

module _ (nodes : List Node) (n : Node) (s : Sort) (ok : node_sort nodes n ≡ Ok s) where
  held : AllByRecursion (λ a. a < length nodes) n.args
  held = held_args nodes (rank_of n.op) 0 n.args s ok

  rank_last : op_rank n.op (map (sort_of (nodes ++ n ∷ [])) n.args) ≡ Ok s
  rank_last = ap (op_rank n.op) (sorts_longer nodes (n ∷ []) n.args held) ∙ sym (node_sort_is nodes n held) ∙ ok

  held_last : AllByRecursion (λ a. a < length nodes) (node_at (nodes ++ n ∷ []) (length nodes)).args
  held_last = subst (λ m. AllByRecursion (λ a. a < length nodes) m.args) (sym (node_last nodes n)) held

  -- the sort of the new term
  pub sort_last : sort_of (nodes ++ n ∷ []) (length nodes) ≡ s
  sort_last =
      at_term_is sort.Bool (λ u. op_sort) (nodes ++ n ∷ []) (length nodes) held_last
      ∙ ap (λ m. op_sort m.op (map (sort_of (nodes ++ n ∷ [])) m.args)) (node_last nodes n)
      ∙ ap or_bool rank_last

  term_last : IsTerm (nodes ++ n ∷ []) (length nodes)
  term_last = record {
    earlier = held_last;
    rank = ap (λ m. op_rank m.op (map (sort_of (nodes ++ n ∷ [])) m.args)) (node_last nodes n) ∙ rank_last ∙ ap Ok (sym sort_last);
  }

  pub list_push : IsTermList nodes → IsTermList (nodes ++ n ∷ [])
  list_push h t lt =
      ⊎_elim
      (λ less. term_longer nodes (n ∷ []) t less (h t less))
      (λ le. let e : t ≡ length nodes = omega (arith, length-append nodes (n ∷ [])) in subst (IsTerm (nodes ++ n ∷ [])) (sym e) term_last)
      (cases_lt t (length nodes))

-- each place of a longer list is one of the list, or the last
pub pushed : (nodes : List Node) (n : Node) (t : ℕ) → (node_at (nodes ++ n ∷ []) t ≡ node_at nodes t) ⊎ ((t ≡ length nodes) × (node_at (nodes ++ n ∷ []) t ≡ n))
pushed nodes n t =
    ⊎_elim
    (λ less. inl (node_longer nodes (n ∷ []) t less))
    (λ le. ⊎_elim
    (λ past. inl (node_past (nodes ++ n ∷ []) t (omega (arith, length-append nodes (n ∷ []))) ∙ sym (node_past nodes t le)))
    (λ last. let e : t ≡ length nodes = omega arith in inr (e, ap (node_at (nodes ++ n ∷ [])) e ∙ node_last nodes n))
    (cases_lt (length nodes) t))
    (cases_lt t (length nodes))

module _ (nodes : List Node) (n : Node) (new : (t : ℕ) → t < length nodes → node_at nodes t ≡ n → ⊥) where
  old_place : (t : ℕ) → t < length (nodes ++ n ∷ []) → (t ≡ length nodes → ⊥) → t < length nodes
  old_place t lt ne = omega (arith, length-append nodes (n ∷ []))

  pub different_push : AreDifferent nodes → AreDifferent (nodes ++ n ∷ [])
  different_push h t u lt less e =
      ⊎_elim
      (λ tl. ⊎_elim
      (λ ul. h t u tl ul (sym (node_longer nodes (n ∷ []) t tl) ∙ e ∙ node_longer nodes (n ∷ []) u ul))
      (λ ul.
      let q : u ≡ length nodes = omega (arith, length-append nodes (n ∷ [])) in
      absurd (new t tl (sym (node_longer nodes (n ∷ []) t tl) ∙ e ∙ ap (node_at (nodes ++ n ∷ [])) q ∙ node_last nodes n)))
      (cases_lt u (length nodes)))
      (λ tl.
      let p : t ≡ length nodes = omega (arith, length-append nodes (n ∷ [])) in
      ⊎_elim
      (λ ul. absurd (new u ul (sym (node_longer nodes (n ∷ []) u ul) ∙ sym e ∙ ap (node_at (nodes ++ n ∷ [])) p ∙ node_last nodes n)))
      (λ ul. omega (arith, length-append nodes (n ∷ [])))
      (cases_lt u (length nodes)))
      (cases_lt t (length nodes))

-- two operators that name one declaration give it one signature
abbrev AgreeTwo : Op → Op → Type 0
AgreeTwo a b = (d : ℕ) → declaration_of a ≡ Some d → declaration_of b ≡ Some d → signature_of a ≡ signature_of b

turned : (a b : Op) → AgreeTwo a b → AgreeTwo b a
turned a b h d e f = sym (h d f e)

pub signature_push : (nodes : List Node) (n : Node) → Agrees nodes n.op → HaveOneSignature nodes → HaveOneSignature (nodes ++ n ∷ [])
signature_push nodes n new h t u d e f = go (pushed nodes n u) (pushed nodes n t) d e f where
  go : (node_at (nodes ++ n ∷ []) u ≡ node_at nodes u) ⊎ ((u ≡ length nodes) × (node_at (nodes ++ n ∷ []) u ≡ n)) → (node_at (nodes ++ n ∷ []) t ≡ node_at nodes t) ⊎ ((t ≡ length nodes) × (node_at (nodes ++ n ∷ []) t ≡ n)) → AgreeTwo (node_at (nodes ++ n ∷ []) u).op (node_at (nodes ++ n ∷ []) t).op
  go (inl p) (inl q) = rw (p, q) (h t u)
  go (inl p) (inr q) = rw (p, q.1) (new u)
  go (inr p) (inl q) = rw (p.1, q) (turned (node_at nodes t).op n.op (new t))
  go (inr p) (inr q) = rw (p.1, q.1) (λ c k l. refl)
