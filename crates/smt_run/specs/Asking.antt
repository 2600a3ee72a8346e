-- How a session searches where the words ask for it, and within which limits they ask for a script.
use Rattle.std.specs.Prelude.{◌≡◌, ℕ, List}
use Rattle.accepted_proof.specs.Searching.{Limits}
use Rattle.smt_session.specs.declared.settings.Settings.{Settings}
use Rattle.smt_session.specs.Sessions.{limits_of}
use Rattle.tool_words.specs.declared.words.Command.TheVariants.{Solve, Drill}
use Rattle.tool_words.specs.declared.words.Options.{Options}
use Rattle.tool_words.specs.Words.{IsTo}

abbrev pub settings_of : Options → Settings
settings_of o = record { workers = o.workers; cubes = o.cubes; budget = o.budget }

-- to answer a script within these limits, by any number of workers
pub record IsToSolveWithin (limits : Limits) (words : List (List ℕ)) : Type 0 where
  pub to : IsTo Solve words
  pub within : limits_of (settings_of to.options) ≡ limits

-- the same of the script that is drawn of this seed and size
pub record IsToDrillWithin (limits : Limits) (seed size : ℕ) (words : List (List ℕ)) : Type 0 where
  pub to : IsTo Drill words
  pub within : limits_of (settings_of to.options) ≡ limits
  pub seed_is : to.draw.seed ≡ seed
  pub size_is : to.draw.size ≡ size
