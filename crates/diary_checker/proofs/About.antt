-- A stored log is the one that a diary over its steps is about.
use Rattle.std.proofs.Common.{ℕ, List, refl}
use Rattle.cnf_base.specs.Literals.{Literal}
use Rattle.smt_terms.specs.declared.node.Node.{Node}
use Rattle.faded_log.specs.Faded.{FadedValue, IsHeld}
use Rattle.faded_log.proofs.Weaving.{held_clauses}
use Rattle.diary_checker.specs.Readers.{IsAbout}

pub held_about : (nodes : List Node) (log : FadedValue) (given : List Literal) (from : ℕ) → IsHeld nodes log → IsAbout (record { nodes = nodes; log = log.entries; given = given; from = from }) log
held_about nodes log given from held = record { entries = refl; clauses = held_clauses nodes log held }
