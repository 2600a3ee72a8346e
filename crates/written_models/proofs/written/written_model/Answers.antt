use Rattle.written_models.proofs.Declared.{written}
use Rattle.written_models.proofs.written.written_model.Goals as goal

pub returns : goal.returns
returns g c =
    rw c.from_vec.ensures
    (written c.args.state.now (g.S.SetValues.set_for c.args.found.now) c.in_ok-items.items.items c.in_ok-items.ensures.state c.in_ok-items.ensures.values c.requires)
