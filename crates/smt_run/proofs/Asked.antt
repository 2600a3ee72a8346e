-- What words that are taken ask of a session.
use Rattle.std.proofs.Common.{◌≡◌, ℕ, List, Option, ap, ◌∙◌, subst, sym}
use Rattle.accepted_proof.specs.Searching.{Limits}
use Rattle.smt_session.specs.declared.settings.Settings.{Settings}
use Rattle.smt_session.specs.Sessions.{AreSettings, limits_of}
use Rattle.tool_words.specs.declared.words.Command.{Command}
use Rattle.tool_words.specs.declared.words.Command.TheVariants.{Solve, Drill}
use Rattle.tool_words.specs.declared.words.Draw.{Draw}
use Rattle.tool_words.specs.declared.words.Options.{Options}
use Rattle.tool_words.specs.Words.{Asks, IsTo, AreOptions}
use Rattle.tool_words.proofs.WordsTaken.{same_options}
use Rattle.smt_run.specs.Asking.{settings_of, IsToSolveWithin, IsToDrillWithin}

-- options in range are allowed
pub options_allowed : (o : Options) (s : Settings) → s ≡ settings_of o → AreOptions o → AreSettings s
options_allowed o s e h = subst AreSettings (sym e) (record { limits = record { cubes = h.cubes; budget = h.budget }; some = h.some; few = h.few })

-- the words give one pair of limits
limits_are : (o p : Options) (s : Settings) (m : Limits) → s ≡ settings_of o → o ≡ p → limits_of (settings_of p) ≡ m → limits_of s ≡ m
limits_are o p s m e f w = ap limits_of (e ∙ ap settings_of f) ∙ w

pub solve_limits : (k : Command) (words : List (List ℕ)) (proof out : List ℕ) (script : Option (List ℕ)) (o : Options) (d : Draw) (s : Settings) (m : Limits) → s ≡ settings_of o → Asks k words proof out script o d → IsToSolveWithin m words → limits_of s ≡ m
solve_limits k words proof out script o d s m e h w = limits_are o w.to.options s m e (same_options k Solve words proof out script o d h w.to).0 w.within

-- and one seed and size
pub record IsDrawnSo (limits : Limits) (seed size : ℕ) (s : Settings) (d : Draw) : Type 0 where
  pub limits_are : limits_of s ≡ limits
  pub seed_is : d.seed ≡ seed
  pub size_is : d.size ≡ size

pub drill_numbers : (k : Command) (words : List (List ℕ)) (proof out : List ℕ) (script : Option (List ℕ)) (o : Options) (d : Draw) (s : Settings) (m : Limits) (seed size : ℕ) → s ≡ settings_of o → Asks k words proof out script o d → IsToDrillWithin m seed size words → IsDrawnSo m seed size s d
drill_numbers k words proof out script o d s m seed size e h w =
    let same = same_options k Drill words proof out script o d h w.to in
    record {
      limits_are = limits_are o w.to.options s m e same.0 w.within;
      seed_is = ap (λ (x : Draw). x.seed) same.1 ∙ w.seed_is;
      size_is = ap (λ (x : Draw). x.size) same.1 ∙ w.size_is;
    }
