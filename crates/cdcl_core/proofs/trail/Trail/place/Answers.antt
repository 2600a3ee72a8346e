use Rattle.std.proofs.Common.{rules, ◌≡◌, ◌/◌, ◌<◌, length, get_or, ap, ◌∙◌, arith}
use Rattle.std.proofs.lemmas.List.{get_or_read}
use Rattle.cnf_base.specs.Literals.{code_of}
use Rattle.cdcl_core.proofs.Placing.{stamp_room, spot_stands, stands_stamp}
use Rattle.cdcl_core.proofs.trail.Trail.place.Goals as goal

pub returns-then-stamp_of-eq0 : goal.returns-then-stamp_of-eq0
returns-then-stamp_of-eq0 c = λ i a.
    let stamp : c.stamp_of.result ≡ get_or c.args.self.now.stamps.items (code_of c.args.l) 0 = c.stamp_of.ensures ∙ (ap (λ xs. get_or xs c.code-code.result 0) c.as_slice.ensures.value ∙ ap (λ x. get_or c.args.self.now.stamps.items x 0) c.code-code.ensures.code) in
    let on : 0 < get_or c.args.self.now.stamps.items (code_of c.args.l) 0 = stands_stamp c.args.self.now c.args.l i c.requires.trail a in
    omega (arith, stamp, on, c.if-stamp_of-eq0.true)

pub index-requires : goal.index-requires
index-requires c =
    let stamp : c.stamp_of.result ≡ get_or c.args.self.now.stamps.items (code_of c.args.l) 0 = c.stamp_of.ensures ∙ (ap (λ xs. get_or xs c.code-code.result 0) c.as_slice.ensures.value ∙ ap (λ x. get_or c.args.self.now.stamps.items x 0) c.code-code.ensures.code) in
    let on : 0 < get_or c.args.self.now.stamps.items (code_of c.args.l) 0 = omega (arith, stamp, c.if-stamp_of-eq0.false) in
    let room : code_of c.args.l / 2 < length c.args.self.now.spots.items = stamp_room c.args.self.now (code_of c.args.l) c.requires.places on in
    let within : c.code-code.result / 2 < length c.args.self.now.spots.items = omega (arith, c.code-code.ensures.code, room) in
    search rules

pub returns : goal.returns
returns c =
    let stamp : c.stamp_of.result ≡ get_or c.args.self.now.stamps.items (code_of c.args.l) 0 = c.stamp_of.ensures ∙ (ap (λ xs. get_or xs c.code-code.result 0) c.as_slice.ensures.value ∙ ap (λ x. get_or c.args.self.now.stamps.items x 0) c.code-code.ensures.code) in
    let on : 0 < get_or c.args.self.now.stamps.items (code_of c.args.l) 0 = omega (arith, stamp, c.if-stamp_of-eq0.false) in
    let room : code_of c.args.l / 2 < length c.args.self.now.spots.items = stamp_room c.args.self.now (code_of c.args.l) c.requires.places on in
    let within : c.code-code.result / 2 < length c.args.self.now.spots.items = omega (arith, c.code-code.ensures.code, room) in
    let read : c.index.result.now ≡ get_or c.args.self.now.spots.items (code_of c.args.l / 2) 0 = get_or_read c.args.self.now.spots.items (c.code-code.result / 2) c.index.result.now within c.index.ensures 0 ∙ ap (λ x. get_or c.args.self.now.spots.items (x / 2) 0) c.code-code.ensures.code in
    rw read (spot_stands c.args.self.now c.args.l c.requires.trail c.requires.places on)
