-- What contracts see of the parts of a session.
use Rattle.cube_workers.specs.Crews.{AreAtRest}
use Rattle.opening_positions.specs.Reading.{IsRead}
use Rattle.session_terms.specs.Placed.{IsInOrder}
use Rattle.script_state.specs.States.{StateValue}
use Rattle.proof_file.specs.Files.{IsFileOf}
use Rattle.smt_session.specs.declared.session.Parts.{Parts}
use Rattle.smt_session.specs.declared.workspace.Workspace.{Workspace}
use Rattle.smt_session.specs.Tabled.{IsSortedRecord}
use Rattle.smt_session.specs.Sessions.{SessionValue, IsSession, AreSettings, limits_of}

-- the state, the log, the file, the record of the last check, and the limits
abbrev pub seen_of : Parts → SessionValue
seen_of p = record { state = p.state; log = p.workspace.log; file = p.file.places; shown = p.last; limits = limits_of p.settings }

-- What is kept from check to check: the log stands over the terms of the state, which are in order, what was read of its steps is
-- theirs, and the searches keep clauses of the log.
pub record IsKept (s : StateValue) (w : Workspace) : Type 0 where
  pub session : IsSession s w.log
  pub order : IsInOrder s.terms.nodes w.log.bits
  pub read : IsRead s.terms.nodes w.log.entries w.steps
  pub resting : AreAtRest w.log w.searches.items

-- so it is, the file is one of the log, the settings are allowed, and a model that the last check found is of the declarations' sorts
pub record AreParts (p : Parts) : Type 0 where
  pub kept : IsKept p.state p.workspace
  pub file : IsFileOf p.state.terms.nodes p.workspace.log.entries p.file
  pub settings : AreSettings p.settings
  pub sorted : IsSortedRecord p.state.symbols.signatures p.last
