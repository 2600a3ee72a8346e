use Rattle.std.proofs.Common.{◌≡◌, [], length, sym, ap, ◌∙◌, arith, inr, None, Some}
use Rattle.smt_text.specs.Framing.{Held, last_chunk}
use Rattle.smt_text.proofs.Cuts.{first_chunk_shrinks}
use Rattle.proof_checker.proofs.Chunking.{cut_next, cut_last, chunk_ended, ended_less, cut_empty_there}
use Rattle.proof_checker.proofs.inputs.Inputs.next_chunk.Goals as goal

pub returns-in-Some-clause-chunk : goal.returns-in-Some-clause-chunk
returns-in-Some-clause-chunk c =
    let e = rw c.in-Some.is at c.in_ok-chunk.ensures.ok in
    (c.if-self.false, record { chunks = λ more cs _ k. cut_next _ _ _ e more cs k; less = (first_chunk_shrinks _ _ _ e).less })

pub returns-in-Some-2-clause-chunk : goal.returns-in-Some-2-clause-chunk
returns-in-Some-2-clause-chunk c =
    let first = rw c.in_default.is at c.in_ok-chunk.ensures.ok in
    let last : last_chunk c.args.self.now.framer ≡ Some c.in-Some-2.chunk = ap last_chunk (sym first.1) ∙ sym c.in_ok-chunk-2.ensures.ok ∙ c.in-Some-2.is in
    let empty : c.finish.new.self.bytes ≡ [] = ap (λ (x : Held). x.bytes) c.in_ok-chunk-2.ensures.after in
    (c.if-self.false, record { chunks = λ more cs m k. chunk_ended c.args.self.now.framer c.finish.new.self c.in-Some-2.chunk first.0 last empty more cs (m c.if-not-self.false) k; less = ended_less c.args.self.now.framer c.finish.new.self c.in-Some-2.chunk last empty })

pub returns-in-None-clause-chunk : goal.returns-in-None-clause-chunk
returns-in-None-clause-chunk c =
    let first = rw c.in_default.is at c.in_ok-chunk.ensures.ok in
    let last : last_chunk c.args.self.now.framer ≡ None = ap last_chunk (sym first.1) ∙ sym c.in_ok-chunk-2.ensures.ok ∙ c.in-None.is in
    let empty : c.finish.new.self.bytes ≡ [] = ap (λ (x : Held). x.bytes) c.in_ok-chunk-2.ensures.after in
    let none : length c.finish.new.self.bytes ≡ 0 = ap length empty in inr (
      record { ended = c.if-not-self.false; cut = cut_last c.args.self.now.framer None first.0 last },
      record { ended = c.if-not-self.false; cut = cut_empty_there c.finish.new.self empty },
      omega (arith, none),
    )
