use Rattle.std.proofs.Common.{◌<◌, length, refl, rules}
use Rattle.smt_build.proofs.Images.{put_within, put_size, put_here, put_other}
use Rattle.smt_build.proofs.definition.put.Goals as goal

pub returns-in_default-clause-here : goal.returns-in_default-clause-here
returns-in_default-clause-here c = absurd (c.in_default.ensures.place c.requires.there)

pub index_mut-requires : goal.index_mut-requires
index_mut-requires c =
    let within : c.in-Some.place < length c.args.images.now.items = put_within c.args.reached.now c.args.images.now.items c.in-Some.place c.args.term c.args.number c.in-Some.ensures.once c.in-Some.ensures.place c.requires.size in
    search rules

pub returns-clause-size : goal.returns-clause-size
returns-clause-size c = put_size c.args.reached.now c.args.images.now.items c.in-Some.place c.args.term c.args.number c.in-Some.ensures.once c.in-Some.ensures.place c.requires.size _ refl

pub returns-clause-here : goal.returns-clause-here
returns-clause-here c = put_here c.args.reached.now c.args.images.now.items c.in-Some.place c.args.term c.args.number c.in-Some.ensures.once c.in-Some.ensures.place c.requires.size _ refl

pub returns-clause-others : goal.returns-clause-others
returns-clause-others c = put_other c.args.reached.now c.args.images.now.items c.in-Some.place c.args.term c.args.number c.in-Some.ensures.once c.in-Some.ensures.place c.requires.size _ refl
