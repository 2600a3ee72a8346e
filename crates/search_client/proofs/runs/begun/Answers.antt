use Rattle.cube_search.proofs.Resting.{keeps_nothing}
use Rattle.search_client.proofs.runs.begun.Goals as goal

pub go_over-requires-clause-stored : goal.go_over-requires-clause-stored
go_over-requires-clause-stored g c = λ id d e plain. absurd (keeps_nothing c.in_ok-search.search c.in_ok-search.ensures id d e)
