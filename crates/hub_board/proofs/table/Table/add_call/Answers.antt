use Rattle.std.proofs.Common.{rules, ap}
use Rattle.proof_log.specs.declared.entry.Entry.TheVariants as step
use Rattle.hub_board.specs.Chains.{chain_of}
use Rattle.hub_board.proofs.Filing.{full_more}
use Rattle.hub_board.proofs.table.Table.add_call.Goals as goal

pub returns-in_err-add_chain-in-PutChain-clause-right : goal.returns-in_err-add_chain-in-PutChain-clause-right
returns-in_err-add_chain-in-PutChain-clause-right c = λ steps here old. c.in_err-add_chain-in-PutChain.ensures.right steps (here (step.Chain c.in-PutChain.clause c.in-PutChain.hints) (ap chain_of c.in-PutChain.is)) old

pub returns-in_ok-add_chain-in-PutChain-clause-right : goal.returns-in_ok-add_chain-in-PutChain-clause-right
returns-in_ok-add_chain-in-PutChain-clause-right c = λ steps here old. c.in_ok-add_chain-in-PutChain.ensures.right steps (here (step.Chain c.in-PutChain.clause c.in-PutChain.hints) (ap chain_of c.in-PutChain.is)) old

pub returns-in_ok-add_chain-in-PutChain-clause-full : goal.returns-in_ok-add_chain-in-PutChain-clause-full
returns-in_ok-add_chain-in-PutChain-clause-full c = λ i lt. full_more c.add_chain.new.self.rows.items c.args.self.now.next _ i (search rules) c.in_ok-add_chain-in-PutChain.ensures.there lt
