use Rattle.std.proofs.Common.{refl, inr}
use Rattle.proof_checker.proofs.Keeping.{script_asked, command_done, no_command, result_back}
use Rattle.proof_checker.proofs.checking.do_command.Goals as goal

pub returns-in_ok-checker-in-Chunk : goal.returns-in_ok-checker-in-Chunk
returns-in_ok-checker-in-Chunk c =
    let l = rw c.in-Chunk.is at c.in-Ok.ensures.chunk in
    let d = c.in_ok-checker-in-Chunk.ensures in
    command_done _ _ c.in-Ok.ensures.same c.in-Chunk.chunk l c.args.checker c.in_ok-checker-in-Chunk.checker d.0 _ c.requires d.1 d.2 d.3 _ refl refl

pub judge_line-requires : goal.judge_line-requires
judge_line-requires c = inr (no_command _ _ c.in-Ok.ensures.same (rw c.in-End.is at c.in-Ok.ensures.chunk))

pub returns-in-End : goal.returns-in-End
returns-in-End c =
    let e = rw c.in-End.is at c.in-Ok.ensures.chunk in
    result_back _ _ c.in-Ok.ensures.same e c.args.checker _ c.judge_line.ensures

pub returns-in-More : goal.returns-in-More
returns-in-More c = script_asked _ _ c.in-Ok.ensures.same (rw c.in-More.is at c.in-Ok.ensures.chunk) _ _ refl refl
