use Rattle.written_models.proofs.tests.record.Goals as goal

pub written_model-requires : goal.written_model-requires
written_model-requires c = c.is_bare.ensures c.if-not-is_bare.false _
