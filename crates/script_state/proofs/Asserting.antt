-- What stays a state.
use Rattle.std.proofs.Common.{◌≡◌, ℕ, ◌<◌, ◌≤◌, ◌∙◌, Bool, true, false, List, [], ◌∷◌, ◌++◌, refl, sym, subst, length, get_or, ap, arith, length-append, append-nil, Ok, Some, None, Option}
use Rattle.std.specs.Prelude.{All, slice_get, if◌then◌else◌}
use Rattle.std.proofs.lemmas.List.Elements.{All-cons, All-nil, All-push}
use Rattle.smt_text.specs.declared.token.CommandName.{CommandName}
use Rattle.smt_syntax.specs.Sexps.{Sexps}
use Rattle.smt_terms.specs.declared.sort.Sort.TheVariants as sort
use Rattle.smt_terms.specs.declared.node.Node.{Node}
use Rattle.smt_terms.specs.Same.{same_sort, sort_same}
use Rattle.smt_terms.specs.Terms.{TermsValue, IsTermList, sort_of}
use Rattle.smt_terms.proofs.Growing.{sort_longer}
use Rattle.scope_selectors.specs.declared.live.Live.{Live}
use Rattle.scope_selectors.specs.Scopes.{ScopesValue, asserted}
use Rattle.scope_selectors.proofs.Asserting.{one_more}
use Rattle.smt_build.specs.declared.symbols.Level.{Level}
use Rattle.smt_build.specs.declared.symbols.LiveName.{LiveName}
use Rattle.smt_build.specs.declared.definition.Definition.{Definition}
use Rattle.smt_build.specs.Building.{Grows}
use Rattle.smt_build.specs.Names.{SymbolsValue, Meanings, AreBodies, with_definition}
use Rattle.smt_build.specs.Scoped.{is_over, AreOver}
use Rattle.smt_build.specs.Declaring.{declare}
use Rattle.smt_build.specs.Defining.{define_sort}
use Rattle.smt_build.proofs.Scoped.{over_longer}
use Rattle.smt_build.proofs.Uses.{bodies_longer, bodies_push}
use Rattle.script_state.specs.declared.answer.Asked.{Asked}
use Rattle.script_state.specs.declared.answer.Verdict.{Verdict}
use Rattle.script_state.specs.declared.options.Options.{Options}
use Rattle.script_state.specs.declared.error_text.ErrorText.{ErrorText}
use Rattle.script_state.specs.declared.error_text.ErrorText.TheVariants.{WrongArguments}
use Rattle.script_state.specs.States.{StateValue, all_asked, assumptions, IsAssumption, IsState, IsLevel, AreLevels}
use Rattle.script_state.specs.Steps.{objection}
use Rattle.script_state.proofs.Declared.{declared_kept}
use Rattle.script_state.proofs.Defined.{sort_defined, names_push}
use Rattle.script_state.proofs.Closing.{closed_longer, closed_more}
use Rattle.script_state.proofs.Standing.{levels_extend}

abbrev with_terms : StateValue → TermsValue → StateValue
with_terms v w = record { symbols = v.symbols; terms = w; scopes = v.scopes; options = v.options; standing = v.standing; assumed = v.assumed }

abbrev stands_as : StateValue → Option Verdict → StateValue
stands_as v o = record { symbols = v.symbols; terms = v.terms; scopes = v.scopes; options = v.options; standing = o; assumed = v.assumed }

-- what may be assumed in a state
abbrev pub AreAssumed : StateValue → Option (List Asked) → Type 0
AreAssumed v a = All (IsAssumption v.terms.nodes v.symbols.live) (all_asked a)

-- nothing is assumed
pub none_assumed : (nodes : List Node) (live : List LiveName) → All (IsAssumption nodes live) []
none_assumed nodes live = All-nil (IsAssumption nodes live)

pub none_asked : (v : StateValue) → AreAssumed v None
none_asked v = none_assumed v.terms.nodes v.symbols.live

-- a state with other options, another check that stands, and other assumptions
abbrev opted : StateValue → Options → Option Verdict → Option (List Asked) → StateValue
opted v o s a = record { symbols = v.symbols; terms = v.terms; scopes = v.scopes; options = o; standing = s; assumed = a }

levels_same : (v : StateValue) (o : Options) (s : Option Verdict) (a : Option (List Asked)) → AreLevels v → AreLevels (opted v o s a)
levels_same v o s a are = record { count = are.count; rising = are.rising; each = each } where
  each : (k : ℕ) (l : Level) → slice_get v.symbols.levels k ≡ Some l → IsLevel (opted v o s a) k l
  each k l e = let level = are.each k l e in record { names = level.names; definitions = level.definitions; sorts = level.sorts; closed = level.closed }

-- whatever options are set, whatever check stands, and whatever is assumed that may be
pub opted_state : (v : StateValue) (o : Options) (s : Option Verdict) (a : Option (List Asked)) → IsState v → AreAssumed v a → IsState (opted v o s a)
opted_state v o s a is are = record {
  terms = is.terms;
  scopes = is.scopes;
  live = is.live;
  constants = is.constants;
  declared = is.declared;
  bodies = is.bodies;
  sorts = is.sorts;
  held = is.held;
  truths = is.truths;
  closed = is.closed;
  levels = levels_same v o s a is.levels;
  assumed = are;
}

-- whatever check stands
pub standing_state : (v : StateValue) (o : Option Verdict) → IsState v → IsState (stands_as v o)
standing_state v o is = opted_state v v.options o v.assumed is is.assumed

-- where no check stands, and nothing is assumed
pub fallen_state : (v : StateValue) → IsState v → IsState (opted v v.options None None)
fallen_state v is = opted_state v v.options None None is (none_asked v)

-- one declaration more
pub declared_state : (v : StateValue) (w : SymbolsValue) (n : CommandName) (es : Sexps) (d : ℕ) → declare v.symbols n es ≡ Ok (d, w) → IsState v → IsState (record { symbols = w; terms = v.terms; scopes = v.scopes; options = v.options; standing = None; assumed = None })
declared_state v w n es d e is =
    let kept = declared_kept v.symbols w n es d v.terms.nodes is.sorts e in
    record {
      terms = is.terms;
      scopes = is.scopes;
      live = kept.live is.live;
      constants = kept.constants is.constants;
      declared = kept.declared is.declared;
      bodies = rw kept.definitions is.bodies;
      sorts = rw kept.sorts is.sorts;
      held = is.held;
      truths = is.truths;
      closed = rw (kept.definitions, kept.names) (closed_more v.symbols.live v.terms.nodes v.symbols.definitions v.scopes.live (kept.last ∷ []) is.closed);
      levels = levels_extend v _ (record {
        behind = [];
        nodes = sym (append-nil v.terms.nodes);
        names = kept.last ∷ [];
        live = kept.names;
        meanings = [];
        definitions = kept.definitions ∙ sym (append-nil v.symbols.definitions);
        renamed = [];
        sorts = kept.sorts ∙ sym (append-nil v.symbols.sorts);
        asserted = [];
        assertions = sym (append-nil v.scopes.live);
        above = All-nil (λ (a : Live). v.scopes.levels ≤ a.level);
        levels = kept.levels;
        count = refl;
      }) is;
      assumed = none_assumed v.terms.nodes w.live;
    }

-- one name of a sort more
pub named_state : (v : StateValue) (w : SymbolsValue) (n : CommandName) (es : Sexps) → define_sort v.symbols n es ≡ Ok w → IsState v → IsState (record { symbols = w; terms = v.terms; scopes = v.scopes; options = v.options; standing = None; assumed = None })
named_state v w n es e is =
    let one = sort_defined v.symbols w n es is.sorts e in
    subst (λ (u : SymbolsValue). IsState (record { symbols = u; terms = v.terms; scopes = v.scopes; options = v.options; standing = None; assumed = None })) (sym one.3)
    (record {
      terms = is.terms;
      scopes = is.scopes;
      live = record { rising = is.live.rising; made = is.live.made };
      constants = is.constants;
      declared = is.declared;
      bodies = is.bodies;
      sorts = names_push v.symbols.sorts one.0 one.1 is.sorts one.2;
      held = is.held;
      truths = is.truths;
      closed = is.closed;
      levels = levels_extend v _ (record {
        behind = [];
        nodes = sym (append-nil v.terms.nodes);
        names = [];
        live = sym (append-nil v.symbols.live);
        meanings = [];
        definitions = sym (append-nil v.symbols.definitions);
        renamed = (one.0, one.1) ∷ [];
        sorts = refl;
        asserted = [];
        assertions = sym (append-nil v.scopes.live);
        above = All-nil (λ (a : Live). v.scopes.levels ≤ a.level);
        levels = refl;
        count = refl;
      }) is;
      assumed = none_assumed v.terms.nodes v.symbols.live;
    })

-- more terms
module _ (v : StateValue) (w : TermsValue) (grows : Grows v.symbols.signatures v.terms w) (is : IsState v) where
  longer : length v.terms.nodes ≤ length w.nodes
  longer = omega (arith, simp length-append at (ap length grows.nodes))

  still_held : All (λ (a : Live). a.term < length w.nodes) v.scopes.live
  still_held k d lt = omega (arith, is.held k d lt, longer)

  still_true : All (λ (a : Live). sort_of w.nodes a.term ≡ sort.Bool) v.scopes.live
  still_true k d lt = rw grows.nodes (sort_longer v.terms.nodes grows.behind (get_or v.scopes.live k d).term (is.held k d lt) ∙ is.truths k d lt)

  still_assumed : All (IsAssumption w.nodes v.symbols.live) (assumptions v)
  still_assumed k d lt =
      let a = is.assumed k d lt in
      record {
        held = omega (arith, a.held, longer);
        truth = rw grows.nodes (sort_longer v.terms.nodes grows.behind (get_or (assumptions v) k d).term a.held ∙ a.truth);
        closed = rw grows.nodes (over_longer v.symbols.live v.terms.nodes grows.behind (get_or (assumptions v) k d).term a.held ∙ a.closed);
      }

  pub grown_state : IsTermList w.nodes → IsState (with_terms v w)
  grown_state list = record {
    terms = list;
    scopes = is.scopes;
    live = is.live;
    constants = is.constants;
    declared = grows.declared is.declared;
    bodies = bodies_longer _ _ v.symbols.definitions longer is.bodies;
    sorts = is.sorts;
    held = still_held;
    truths = still_true;
    closed = rw grows.nodes (closed_longer v.symbols.live v.terms.nodes v.symbols.definitions v.scopes.live grows.behind is.bodies is.held is.closed);
    levels = levels_extend v _ (record {
      behind = grows.behind;
      nodes = grows.nodes;
      names = [];
      live = sym (append-nil v.symbols.live);
      meanings = [];
      definitions = sym (append-nil v.symbols.definitions);
      renamed = [];
      sorts = sym (append-nil v.symbols.sorts);
      asserted = [];
      assertions = sym (append-nil v.scopes.live);
      above = All-nil (λ (a : Live). v.scopes.levels ≤ a.level);
      levels = refl;
      count = refl;
    }) is;
    assumed = still_assumed;
  }

-- a term against which nothing stands is of sort Bool
pub asserted_truth : (nodes : List Node) (t : ℕ) → objection nodes t ≡ None → same_sort (sort_of nodes t) sort.Bool ≡ true
asserted_truth nodes t = go (same_sort (sort_of nodes t) sort.Bool) where
  go : (b : Bool) → ◌≡◌ {A = Option ErrorText} (if b then None else Some WrongArguments) None → b ≡ true
  go true e = refl
  go false e = absurd (let z : ⊥ = cc in z)

-- one assertion more, of a term over live declarations against which nothing stands, with names that are given within it
abbrev pub with_more : SymbolsValue → Meanings Definition → SymbolsValue
with_more v more = record { live = v.live; signatures = v.signatures; definitions = v.definitions ++ more; sorts = v.sorts; levels = v.levels }

pub asserted_state : (v : StateValue) (more : Meanings Definition) (t : ℕ) (name : Option (List ℕ)) (scopes : ScopesValue) → IsState v → AreBodies (length v.terms.nodes) (v.symbols.definitions ++ more) → AreOver v.symbols.live v.terms.nodes (v.symbols.definitions ++ more) → t < length v.terms.nodes → is_over v.symbols.live v.terms.nodes t ≡ true → objection v.terms.nodes t ≡ None → scopes ≡ asserted v.scopes t name → IsState (record { symbols = with_more v.symbols more; terms = v.terms; scopes = scopes; options = v.options; standing = None; assumed = None })
asserted_state v more t name scopes is bodies over lt here none e =
    let new : Live = record { assertion = v.scopes.made; term = t; name = name; level = v.scopes.levels } in
    rw e (record {
      terms = is.terms;
      scopes = one_more v.scopes t name is.scopes;
      live = record { rising = is.live.rising; made = is.live.made };
      constants = is.constants;
      declared = is.declared;
      bodies = bodies;
      sorts = is.sorts;
      held = All-push (λ (a : Live). a.term < length v.terms.nodes) v.scopes.live new is.held lt;
      truths = All-push (λ (a : Live). sort_of v.terms.nodes a.term ≡ sort.Bool) v.scopes.live new is.truths (sort_same _ _ (asserted_truth v.terms.nodes t none));
      closed = record { bodies = over; terms = All-push (λ (a : Live). is_over v.symbols.live v.terms.nodes a.term ≡ true) v.scopes.live new is.closed.terms here };
      levels = levels_extend v _ (record {
        behind = [];
        nodes = sym (append-nil v.terms.nodes);
        names = [];
        live = sym (append-nil v.symbols.live);
        meanings = more;
        definitions = refl;
        renamed = [];
        sorts = sym (append-nil v.symbols.sorts);
        asserted = new ∷ [];
        assertions = refl;
        above = All-cons (λ (a : Live). v.scopes.levels ≤ a.level) new [] (omega arith) (All-nil (λ (a : Live). v.scopes.levels ≤ a.level));
        levels = refl;
        count = refl;
      }) is;
      assumed = none_assumed v.terms.nodes v.symbols.live;
    })

-- one definition more, where the bodies are terms over live declarations
pub defined_state : (v : StateValue) (w : TermsValue) (x : List ℕ) (f : Definition) → IsState (with_terms v w) → f.body < length w.nodes → AreOver v.symbols.live w.nodes (v.symbols.definitions ++ (x, f) ∷ []) → IsState (record { symbols = with_definition v.symbols x f; terms = w; scopes = v.scopes; options = v.options; standing = None; assumed = None })
defined_state v w x f is lt over = record {
  terms = is.terms;
  scopes = is.scopes;
  live = record { rising = is.live.rising; made = is.live.made };
  constants = is.constants;
  declared = is.declared;
  bodies = bodies_push (length w.nodes) v.symbols.definitions x f is.bodies lt;
  sorts = is.sorts;
  held = is.held;
  truths = is.truths;
  closed = record { bodies = over; terms = is.closed.terms };
  levels = levels_extend (with_terms v w) _ (record {
    behind = [];
    nodes = sym (append-nil w.nodes);
    names = [];
    live = sym (append-nil v.symbols.live);
    meanings = (x, f) ∷ [];
    definitions = refl;
    renamed = [];
    sorts = sym (append-nil v.symbols.sorts);
    asserted = [];
    assertions = sym (append-nil v.scopes.live);
    above = All-nil (λ (a : Live). v.scopes.levels ≤ a.level);
    levels = refl;
    count = refl;
  }) is;
  assumed = none_assumed w.nodes v.symbols.live;
}
