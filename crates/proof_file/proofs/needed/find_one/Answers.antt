use Rattle.std.proofs.Common.{◌≡◌, rules}
use Rattle.std.specs.Prelude.{true}
use Rattle.proof_log.specs.Logs.{entry_at}
use Rattle.proof_text.specs.Deletions.{is_deletable}
use Rattle.proof_file.specs.Held.{file_in}
use Rattle.proof_file.proofs.Finding.{found_one}
use Rattle.proof_file.proofs.needed.find_one.Goals as goal

pub returns : goal.returns
returns c =
    let derived : is_deletable (entry_at c.args.log.now.entries c.args.at) ≡ true = search rules in
    let nowhere : (file_in c.args.places.now).places c.args.at ≡ 0 = search rules in
    found_one c.args.log.now.entries (file_in c.args.places.now).places c.args.at c.args.found.now c.add.new.self (derived, nowhere) c.in_ok-add.ensures.listed
