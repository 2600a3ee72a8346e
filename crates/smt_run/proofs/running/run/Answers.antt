use Rattle.std.proofs.Common.{◌≡◌, [], refl, inl, inr, arith}
use Rattle.std.proofs.KnownBytes.{Appends-nil}
use Rattle.proof_text.specs.declared.line.Format.TheVariants.{Two}
use Rattle.accepted_proof.specs.Answers.{header_of}
use Rattle.smt_session.specs.Sessions.{limits_of}
use Rattle.smt_check.proofs.Parts.{adds_none, later_same}
use Rattle.smt_check.proofs.Reported.{told_nothing}
use Rattle.smt_check.specs.declared.status.Status.TheVariants.{NoMemory}
use Rattle.smt_run.specs.Commands.{files, stream, Solves}
use Rattle.smt_run.specs.Drilling.{Drills}
use Rattle.smt_run.specs.Converting.{IsLeft}
use Rattle.smt_run.proofs.Written.{within_none}
use Rattle.smt_run.proofs.Telling.{told_silent, unbegun_beside, unbegun_prefix}
use Rattle.smt_run.proofs.Ends.{answered_unless, judged_unless, memory_usage, memory_done, memory_refused, memory_end, memory_long, memory_reads}
use Rattle.tool_words.proofs.Faultless.{faultless_asks}
use Rattle.dimacs_run.proofs.Told.{front_none}
use Rattle.tool_words.specs.declared.words.Command.TheVariants.{Solve, Check, Lrat, Cnf, Convert, Drill}
use Rattle.tool_words.proofs.WordsTaken.{asks_as, other_command}
use Rattle.smt_run.proofs.Asked.{options_allowed, solve_limits, drill_numbers}
use Rattle.smt_run.proofs.Searched.{search_unbegun}
use Rattle.smt_run.proofs.Drilled.{undrawn}
use Rattle.smt_run.proofs.running.run.Goals as goal

pub solve-requires-clause-settings : goal.solve-requires-clause-settings
solve-requires-clause-settings g c κs within = options_allowed _ _ c.settings_of-settings.ensures c.in-Ok.ensures.options

pub drill-requires-clause-settings : goal.drill-requires-clause-settings
drill-requires-clause-settings g c κs within = options_allowed _ _ c.settings_of-settings-in-Drill.ensures c.in-Ok.ensures.options

pub drill-requires-clause-size : goal.drill-requires-clause-size
drill-requires-clause-size g c κs within = c.in-Ok.ensures.draw

-- ---- a script was answered

pub returns-in-Solve-clause-usage : goal.returns-in-Solve-clause-usage
returns-in-Solve-clause-usage g c = λ e. absurd (c.solve.ensures.usage e)

pub returns-in-Solve-clause-usage_always : goal.returns-in-Solve-clause-usage_always
returns-in-Solve-clause-usage_always g c = λ n. absurd (n (asks_as _ Solve _ _ _ _ _ _ c.in-Solve.is c.in-Ok.ensures.asked).asks.taken)

pub returns-in-Solve-clause-untouched : goal.returns-in-Solve-clause-untouched
returns-in-Solve-clause-untouched g c = λ e. absurd (c.solve.ensures.usage e)

pub returns-in-Solve-clause-asked : goal.returns-in-Solve-clause-asked
returns-in-Solve-clause-asked g c = λ t. faultless_asks _ t

pub returns-in-Solve-clause-solves : goal.returns-in-Solve-clause-solves
returns-in-Solve-clause-solves g c = λ limits w.
    let same : limits_of c.settings_of-settings.result ≡ limits = solve_limits _ _ _ _ _ _ _ _ limits c.settings_of-settings.ensures c.in-Ok.ensures.asked w in
    let does : Solves (limits_of c.settings_of-settings.result) c.solve.result
    (files (stream (g.S.Source.left c.args.script.now) (g.S.Source.faults c.args.script.now)) (stream (g.W.Sink.written c.args.answers.now) (g.W.Sink.faults c.args.answers.now)) (stream (g.Q.Sink.written c.args.proof_out.now) (g.Q.Sink.faults c.args.proof_out.now)))
    (files (stream (g.S.Source.left c.solve.new.script) (g.S.Source.faults c.solve.new.script)) (stream (g.W.Sink.written c.solve.new.answers) (g.W.Sink.faults c.solve.new.answers)) (stream (g.Q.Sink.written c.solve.new.proof) (g.Q.Sink.faults c.solve.new.proof)))
    = record {
      beside = c.solve.ensures.beside;
      whole = c.solve.ensures.whole;
      prefix = c.solve.ensures.prefix;
      answered = c.solve.ensures.answered;
      complete = λ x y. answered_unless _ _ _ _ _ c.solve.ensures.usage c.solve.ensures.too_long c.solve.ensures.cause x y;
      at_end = c.solve.ensures.at_end;
      within = c.solve.ensures.within;
      too_long = c.solve.ensures.too_long;
      header = c.solve.ensures.header;
      cause = c.solve.ensures.cause;
    } in
    (refl, rw (← same) does)

pub returns-in-Solve-clause-checks : goal.returns-in-Solve-clause-checks
returns-in-Solve-clause-checks g c = λ k. absurd (other_command Check Solve _ refl k (asks_as _ Solve _ _ _ _ _ _ c.in-Solve.is c.in-Ok.ensures.asked))

pub returns-in-Solve-clause-refutes : goal.returns-in-Solve-clause-refutes
returns-in-Solve-clause-refutes g c = λ k. absurd (other_command Lrat Solve _ refl k (asks_as _ Solve _ _ _ _ _ _ c.in-Solve.is c.in-Ok.ensures.asked))

pub returns-in-Solve-clause-searches : goal.returns-in-Solve-clause-searches
returns-in-Solve-clause-searches g c = λ k. absurd (other_command Cnf Solve _ refl k (asks_as _ Solve _ _ _ _ _ _ c.in-Solve.is c.in-Ok.ensures.asked))

pub returns-in-Solve-clause-converts : goal.returns-in-Solve-clause-converts
returns-in-Solve-clause-converts g c = λ k. absurd (other_command Convert Solve _ refl k (asks_as _ Solve _ _ _ _ _ _ c.in-Solve.is c.in-Ok.ensures.asked))

pub returns-in-Solve-clause-drills : goal.returns-in-Solve-clause-drills
returns-in-Solve-clause-drills g c = λ limits seed size k. absurd (other_command Drill Solve _ refl k.to (asks_as _ Solve _ _ _ _ _ _ c.in-Solve.is c.in-Ok.ensures.asked))

pub returns-in-Solve-clause-stays : goal.returns-in-Solve-clause-stays
returns-in-Solve-clause-stays g c = record { answers = c.solve.ensures.answers; proof = c.solve.ensures.proof; later = c.solve.ensures.later }

pub returns-in-Solve-clause-later : goal.returns-in-Solve-clause-later
returns-in-Solve-clause-later g c = omega arith

-- ---- a proof was judged

pub returns-in-Check-clause-usage : goal.returns-in-Check-clause-usage
returns-in-Check-clause-usage g c = λ e. absurd (c.check_proof.ensures.usage e)

pub returns-in-Check-clause-usage_always : goal.returns-in-Check-clause-usage_always
returns-in-Check-clause-usage_always g c = λ n. absurd (n (asks_as _ Check _ _ _ _ _ _ c.in-Check.is c.in-Ok.ensures.asked).asks.taken)

pub returns-in-Check-clause-untouched : goal.returns-in-Check-clause-untouched
returns-in-Check-clause-untouched g c = λ e. absurd (c.check_proof.ensures.usage e)

pub returns-in-Check-clause-asked : goal.returns-in-Check-clause-asked
returns-in-Check-clause-asked g c = λ t. faultless_asks _ t

pub returns-in-Check-clause-solves : goal.returns-in-Check-clause-solves
returns-in-Check-clause-solves g c = λ limits k. absurd (other_command Solve Check _ refl k.to (asks_as _ Check _ _ _ _ _ _ c.in-Check.is c.in-Ok.ensures.asked))

pub returns-in-Check-clause-checks : goal.returns-in-Check-clause-checks
returns-in-Check-clause-checks g c = λ _. (
  refl,
  record {
    judged = c.check_proof.ensures.ended;
    accepted = c.check_proof.ensures.right;
    refused = c.check_proof.ensures.refused;
    front = c.check_proof.ensures.front;
    always = λ x y z. judged_unless _ _ _ _ _ _ _ c.check_proof.ensures.usage c.check_proof.ensures.read c.check_proof.ensures.cause x y z;
    within = c.check_proof.ensures.read;
    cause = c.check_proof.ensures.cause;
  },
)

pub returns-in-Check-clause-refutes : goal.returns-in-Check-clause-refutes
returns-in-Check-clause-refutes g c = λ k. absurd (other_command Lrat Check _ refl k (asks_as _ Check _ _ _ _ _ _ c.in-Check.is c.in-Ok.ensures.asked))

pub returns-in-Check-clause-searches : goal.returns-in-Check-clause-searches
returns-in-Check-clause-searches g c = λ k. absurd (other_command Cnf Check _ refl k (asks_as _ Check _ _ _ _ _ _ c.in-Check.is c.in-Ok.ensures.asked))

pub returns-in-Check-clause-converts : goal.returns-in-Check-clause-converts
returns-in-Check-clause-converts g c = λ k. absurd (other_command Convert Check _ refl k (asks_as _ Check _ _ _ _ _ _ c.in-Check.is c.in-Ok.ensures.asked))

pub returns-in-Check-clause-drills : goal.returns-in-Check-clause-drills
returns-in-Check-clause-drills g c = λ limits seed size k. absurd (other_command Drill Check _ refl k.to (asks_as _ Check _ _ _ _ _ _ c.in-Check.is c.in-Ok.ensures.asked))

pub returns-in-Check-clause-stays : goal.returns-in-Check-clause-stays
returns-in-Check-clause-stays g c = record {
  answers = c.check_proof.ensures.answers;
  proof = adds_none _;
  later = record { script = c.check_proof.ensures.later.script; answers = c.check_proof.ensures.later.answers; proof = omega arith };
}

pub returns-in-Check-clause-later : goal.returns-in-Check-clause-later
returns-in-Check-clause-later g c = c.check_proof.ensures.later.proof

-- ---- a refutation was judged

pub returns-in-Lrat-clause-usage : goal.returns-in-Lrat-clause-usage
returns-in-Lrat-clause-usage g c = λ e. absurd (c.check_refutation.ensures.usage e)

pub returns-in-Lrat-clause-usage_always : goal.returns-in-Lrat-clause-usage_always
returns-in-Lrat-clause-usage_always g c = λ n. absurd (n (asks_as _ Lrat _ _ _ _ _ _ c.in-Lrat.is c.in-Ok.ensures.asked).asks.taken)

pub returns-in-Lrat-clause-untouched : goal.returns-in-Lrat-clause-untouched
returns-in-Lrat-clause-untouched g c = λ e. absurd (c.check_refutation.ensures.usage e)

pub returns-in-Lrat-clause-asked : goal.returns-in-Lrat-clause-asked
returns-in-Lrat-clause-asked g c = λ t. faultless_asks _ t

pub returns-in-Lrat-clause-solves : goal.returns-in-Lrat-clause-solves
returns-in-Lrat-clause-solves g c = λ limits k. absurd (other_command Solve Lrat _ refl k.to (asks_as _ Lrat _ _ _ _ _ _ c.in-Lrat.is c.in-Ok.ensures.asked))

pub returns-in-Lrat-clause-checks : goal.returns-in-Lrat-clause-checks
returns-in-Lrat-clause-checks g c = λ k. absurd (other_command Check Lrat _ refl k (asks_as _ Lrat _ _ _ _ _ _ c.in-Lrat.is c.in-Ok.ensures.asked))

pub returns-in-Lrat-clause-refutes : goal.returns-in-Lrat-clause-refutes
returns-in-Lrat-clause-refutes g c = λ _. (
  refl,
  record {
    judged = c.check_refutation.ensures.ended;
    accepted = c.check_refutation.ensures.right;
    front = c.check_refutation.ensures.front;
    always = λ x y z. judged_unless _ _ _ _ _ _ _ c.check_refutation.ensures.usage c.check_refutation.ensures.read c.check_refutation.ensures.cause x y z;
    within = c.check_refutation.ensures.read;
    cause = c.check_refutation.ensures.cause;
  },
)

pub returns-in-Lrat-clause-searches : goal.returns-in-Lrat-clause-searches
returns-in-Lrat-clause-searches g c = λ k. absurd (other_command Cnf Lrat _ refl k (asks_as _ Lrat _ _ _ _ _ _ c.in-Lrat.is c.in-Ok.ensures.asked))

pub returns-in-Lrat-clause-converts : goal.returns-in-Lrat-clause-converts
returns-in-Lrat-clause-converts g c = λ k. absurd (other_command Convert Lrat _ refl k (asks_as _ Lrat _ _ _ _ _ _ c.in-Lrat.is c.in-Ok.ensures.asked))

pub returns-in-Lrat-clause-drills : goal.returns-in-Lrat-clause-drills
returns-in-Lrat-clause-drills g c = λ limits seed size k. absurd (other_command Drill Lrat _ refl k.to (asks_as _ Lrat _ _ _ _ _ _ c.in-Lrat.is c.in-Ok.ensures.asked))

pub returns-in-Lrat-clause-stays : goal.returns-in-Lrat-clause-stays
returns-in-Lrat-clause-stays g c = record {
  answers = c.check_refutation.ensures.answers;
  proof = adds_none _;
  later = record { script = c.check_refutation.ensures.later.script; answers = c.check_refutation.ensures.later.answers; proof = omega arith };
}

pub returns-in-Lrat-clause-later : goal.returns-in-Lrat-clause-later
returns-in-Lrat-clause-later g c = c.check_refutation.ensures.later.proof

-- ---- clauses were searched

pub returns-in-Cnf-clause-usage : goal.returns-in-Cnf-clause-usage
returns-in-Cnf-clause-usage g c = λ e. absurd (c.search_clauses.ensures.usage e)

pub returns-in-Cnf-clause-usage_always : goal.returns-in-Cnf-clause-usage_always
returns-in-Cnf-clause-usage_always g c = λ n. absurd (n (asks_as _ Cnf _ _ _ _ _ _ c.in-Cnf.is c.in-Ok.ensures.asked).asks.taken)

pub returns-in-Cnf-clause-untouched : goal.returns-in-Cnf-clause-untouched
returns-in-Cnf-clause-untouched g c = λ e. absurd (c.search_clauses.ensures.usage e)

pub returns-in-Cnf-clause-asked : goal.returns-in-Cnf-clause-asked
returns-in-Cnf-clause-asked g c = λ t. faultless_asks _ t

pub returns-in-Cnf-clause-solves : goal.returns-in-Cnf-clause-solves
returns-in-Cnf-clause-solves g c = λ limits k. absurd (other_command Solve Cnf _ refl k.to (asks_as _ Cnf _ _ _ _ _ _ c.in-Cnf.is c.in-Ok.ensures.asked))

pub returns-in-Cnf-clause-checks : goal.returns-in-Cnf-clause-checks
returns-in-Cnf-clause-checks g c = λ k. absurd (other_command Check Cnf _ refl k (asks_as _ Cnf _ _ _ _ _ _ c.in-Cnf.is c.in-Ok.ensures.asked))

pub returns-in-Cnf-clause-refutes : goal.returns-in-Cnf-clause-refutes
returns-in-Cnf-clause-refutes g c = λ k. absurd (other_command Lrat Cnf _ refl k (asks_as _ Cnf _ _ _ _ _ _ c.in-Cnf.is c.in-Ok.ensures.asked))

pub returns-in-Cnf-clause-searches : goal.returns-in-Cnf-clause-searches
returns-in-Cnf-clause-searches g c = λ _. (
  refl,
  record {
    searched = c.search_clauses.ensures.searched;
    always = λ x z. answered_unless _ _ _ _ _ c.search_clauses.ensures.usage c.search_clauses.ensures.too_long c.search_clauses.ensures.cause x z;
    within = c.search_clauses.ensures.within;
    too_long = c.search_clauses.ensures.too_long;
    cause = c.search_clauses.ensures.cause;
  },
)

pub returns-in-Cnf-clause-converts : goal.returns-in-Cnf-clause-converts
returns-in-Cnf-clause-converts g c = λ k. absurd (other_command Convert Cnf _ refl k (asks_as _ Cnf _ _ _ _ _ _ c.in-Cnf.is c.in-Ok.ensures.asked))

pub returns-in-Cnf-clause-drills : goal.returns-in-Cnf-clause-drills
returns-in-Cnf-clause-drills g c = λ limits seed size k. absurd (other_command Drill Cnf _ refl k.to (asks_as _ Cnf _ _ _ _ _ _ c.in-Cnf.is c.in-Ok.ensures.asked))

pub returns-in-Cnf-clause-stays : goal.returns-in-Cnf-clause-stays
returns-in-Cnf-clause-stays g c = record { answers = c.search_clauses.ensures.answers; proof = c.search_clauses.ensures.refutation; later = c.search_clauses.ensures.later }

pub returns-in-Cnf-clause-later : goal.returns-in-Cnf-clause-later
returns-in-Cnf-clause-later g c = omega arith

-- ---- a proof was converted

pub returns-in-Convert-clause-usage : goal.returns-in-Convert-clause-usage
returns-in-Convert-clause-usage g c = λ e. absurd (c.convert_proof.ensures.usage e)

pub returns-in-Convert-clause-usage_always : goal.returns-in-Convert-clause-usage_always
returns-in-Convert-clause-usage_always g c = λ n. absurd (n (asks_as _ Convert _ _ _ _ _ _ c.in-Convert.is c.in-Ok.ensures.asked).asks.taken)

pub returns-in-Convert-clause-untouched : goal.returns-in-Convert-clause-untouched
returns-in-Convert-clause-untouched g c = λ e. absurd (c.convert_proof.ensures.usage e)

pub returns-in-Convert-clause-asked : goal.returns-in-Convert-clause-asked
returns-in-Convert-clause-asked g c = λ t. faultless_asks _ t

pub returns-in-Convert-clause-solves : goal.returns-in-Convert-clause-solves
returns-in-Convert-clause-solves g c = λ limits k. absurd (other_command Solve Convert _ refl k.to (asks_as _ Convert _ _ _ _ _ _ c.in-Convert.is c.in-Ok.ensures.asked))

pub returns-in-Convert-clause-checks : goal.returns-in-Convert-clause-checks
returns-in-Convert-clause-checks g c = λ k. absurd (other_command Check Convert _ refl k (asks_as _ Convert _ _ _ _ _ _ c.in-Convert.is c.in-Ok.ensures.asked))

pub returns-in-Convert-clause-refutes : goal.returns-in-Convert-clause-refutes
returns-in-Convert-clause-refutes g c = λ k. absurd (other_command Lrat Convert _ refl k (asks_as _ Convert _ _ _ _ _ _ c.in-Convert.is c.in-Ok.ensures.asked))

pub returns-in-Convert-clause-searches : goal.returns-in-Convert-clause-searches
returns-in-Convert-clause-searches g c = λ k. absurd (other_command Cnf Convert _ refl k (asks_as _ Convert _ _ _ _ _ _ c.in-Convert.is c.in-Ok.ensures.asked))

pub returns-in-Convert-clause-converts : goal.returns-in-Convert-clause-converts
returns-in-Convert-clause-converts g c = λ _. (
  refl,
  record {
    becomes = c.convert_proof.ensures.becomes;
    at_end = c.convert_proof.ensures.at_end;
    always = λ x z. answered_unless _ _ _ _ _ c.convert_proof.ensures.usage c.convert_proof.ensures.too_long c.convert_proof.ensures.cause x z;
    within = c.convert_proof.ensures.within;
    too_long = c.convert_proof.ensures.too_long;
    cause = c.convert_proof.ensures.cause;
  },
)

pub returns-in-Convert-clause-drills : goal.returns-in-Convert-clause-drills
returns-in-Convert-clause-drills g c = λ limits seed size k. absurd (other_command Drill Convert _ refl k.to (asks_as _ Convert _ _ _ _ _ _ c.in-Convert.is c.in-Ok.ensures.asked))

pub returns-in-Convert-clause-stays : goal.returns-in-Convert-clause-stays
returns-in-Convert-clause-stays g c = record {
  answers = c.convert_proof.ensures.answers;
  proof = c.convert_proof.ensures.out;
  later = record { script = omega arith; answers = c.convert_proof.ensures.later.answers; proof = c.convert_proof.ensures.later.proof };
}

pub returns-in-Convert-clause-later : goal.returns-in-Convert-clause-later
returns-in-Convert-clause-later g c = c.convert_proof.ensures.later.script

-- ---- a drawn script was answered

pub returns-in-Drill-clause-usage : goal.returns-in-Drill-clause-usage
returns-in-Drill-clause-usage g c = λ e. absurd (c.drill.ensures.usage e)

pub returns-in-Drill-clause-usage_always : goal.returns-in-Drill-clause-usage_always
returns-in-Drill-clause-usage_always g c = λ n. absurd (n (asks_as _ Drill _ _ _ _ _ _ c.in-Drill.is c.in-Ok.ensures.asked).asks.taken)

pub returns-in-Drill-clause-untouched : goal.returns-in-Drill-clause-untouched
returns-in-Drill-clause-untouched g c = λ e. absurd (c.drill.ensures.usage e)

pub returns-in-Drill-clause-asked : goal.returns-in-Drill-clause-asked
returns-in-Drill-clause-asked g c = λ t. faultless_asks _ t

pub returns-in-Drill-clause-solves : goal.returns-in-Drill-clause-solves
returns-in-Drill-clause-solves g c = λ limits k. absurd (other_command Solve Drill _ refl k.to (asks_as _ Drill _ _ _ _ _ _ c.in-Drill.is c.in-Ok.ensures.asked))

pub returns-in-Drill-clause-checks : goal.returns-in-Drill-clause-checks
returns-in-Drill-clause-checks g c = λ k. absurd (other_command Check Drill _ refl k (asks_as _ Drill _ _ _ _ _ _ c.in-Drill.is c.in-Ok.ensures.asked))

pub returns-in-Drill-clause-refutes : goal.returns-in-Drill-clause-refutes
returns-in-Drill-clause-refutes g c = λ k. absurd (other_command Lrat Drill _ refl k (asks_as _ Drill _ _ _ _ _ _ c.in-Drill.is c.in-Ok.ensures.asked))

pub returns-in-Drill-clause-searches : goal.returns-in-Drill-clause-searches
returns-in-Drill-clause-searches g c = λ k. absurd (other_command Cnf Drill _ refl k (asks_as _ Drill _ _ _ _ _ _ c.in-Drill.is c.in-Ok.ensures.asked))

pub returns-in-Drill-clause-converts : goal.returns-in-Drill-clause-converts
returns-in-Drill-clause-converts g c = λ k. absurd (other_command Convert Drill _ refl k (asks_as _ Drill _ _ _ _ _ _ c.in-Drill.is c.in-Ok.ensures.asked))

pub returns-in-Drill-clause-drills : goal.returns-in-Drill-clause-drills
returns-in-Drill-clause-drills g c = λ limits seed size w.
    let same = drill_numbers _ _ _ _ _ _ _ _ limits seed size c.settings_of-settings-in-Drill.ensures c.in-Ok.ensures.asked w in
    ((refl, refl), rw (← same.limits_are, ← same.seed_is, ← same.size_is) (c.drill.ensures.drills _))

pub returns-in-Drill-clause-stays : goal.returns-in-Drill-clause-stays
returns-in-Drill-clause-stays g c = record {
  answers = c.drill.ensures.answers;
  proof = c.drill.ensures.proof;
  later = record { script = omega arith; answers = c.drill.ensures.later.answers; proof = c.drill.ensures.later.proof };
}

pub returns-in-Drill-clause-later : goal.returns-in-Drill-clause-later
returns-in-Drill-clause-later g c = omega arith

-- ---- the words are not taken

pub returns-in-Err-Usage-clause-usage : goal.returns-in-Err-Usage-clause-usage
returns-in-Err-Usage-clause-usage g c = λ _. c.in-Err-Usage.ensures.asked c.in-Err-Usage.field-0-is

pub returns-in-Err-Usage-clause-usage_always : goal.returns-in-Err-Usage-clause-usage_always
returns-in-Err-Usage-clause-usage_always g c = λ _. inl refl

pub returns-in-Err-Usage-clause-untouched : goal.returns-in-Err-Usage-clause-untouched
returns-in-Err-Usage-clause-untouched g c = λ _. (refl, refl, refl, refl)

pub returns-in-Err-Usage-clause-asked : goal.returns-in-Err-Usage-clause-asked
returns-in-Err-Usage-clause-asked g c = λ t. faultless_asks _ t

pub returns-in-Err-Usage-clause-solves : goal.returns-in-Err-Usage-clause-solves
returns-in-Err-Usage-clause-solves g c = λ _ s. absurd (c.in-Err-Usage.ensures.asked c.in-Err-Usage.field-0-is s.to.asks.taken)

pub returns-in-Err-Usage-clause-checks : goal.returns-in-Err-Usage-clause-checks
returns-in-Err-Usage-clause-checks g c = λ k. absurd (c.in-Err-Usage.ensures.asked c.in-Err-Usage.field-0-is k.asks.taken)

pub returns-in-Err-Usage-clause-refutes : goal.returns-in-Err-Usage-clause-refutes
returns-in-Err-Usage-clause-refutes g c = λ k. absurd (c.in-Err-Usage.ensures.asked c.in-Err-Usage.field-0-is k.asks.taken)

pub returns-in-Err-Usage-clause-searches : goal.returns-in-Err-Usage-clause-searches
returns-in-Err-Usage-clause-searches g c = λ k. absurd (c.in-Err-Usage.ensures.asked c.in-Err-Usage.field-0-is k.asks.taken)

pub returns-in-Err-Usage-clause-converts : goal.returns-in-Err-Usage-clause-converts
returns-in-Err-Usage-clause-converts g c = λ k. absurd (c.in-Err-Usage.ensures.asked c.in-Err-Usage.field-0-is k.asks.taken)

pub returns-in-Err-Usage-clause-drills : goal.returns-in-Err-Usage-clause-drills
returns-in-Err-Usage-clause-drills g c = λ _ _ _ s. absurd (c.in-Err-Usage.ensures.asked c.in-Err-Usage.field-0-is s.to.asks.taken)

pub returns-in-Err-Usage-clause-stays : goal.returns-in-Err-Usage-clause-stays
returns-in-Err-Usage-clause-stays g c = record { answers = adds_none _; proof = adds_none _; later = later_same _ }

pub returns-in-Err-Usage-clause-later : goal.returns-in-Err-Usage-clause-later
returns-in-Err-Usage-clause-later g c = omega arith

-- ---- there was no memory for the words

pub returns-in-Err-NoMemory-clause-usage : goal.returns-in-Err-NoMemory-clause-usage
returns-in-Err-NoMemory-clause-usage g c = λ e. absurd (memory_usage e)

pub returns-in-Err-NoMemory-clause-usage_always : goal.returns-in-Err-NoMemory-clause-usage_always
returns-in-Err-NoMemory-clause-usage_always g c = λ _. inr refl

pub returns-in-Err-NoMemory-clause-untouched : goal.returns-in-Err-NoMemory-clause-untouched
returns-in-Err-NoMemory-clause-untouched g c = λ e. absurd (memory_usage e)

pub returns-in-Err-NoMemory-clause-asked : goal.returns-in-Err-NoMemory-clause-asked
returns-in-Err-NoMemory-clause-asked g c = λ t. faultless_asks _ t

pub returns-in-Err-NoMemory-clause-solves : goal.returns-in-Err-NoMemory-clause-solves
returns-in-Err-NoMemory-clause-solves g c = λ limits _. (
  refl,
  record {
    beside = told_silent _ _ _ _ [] _ (Appends-nil (g.Q.Sink.written c.args.proof_out.now)) (unbegun_beside limits [] (header_of Two limits) refl);
    whole = λ e. memory_end _ e;
    prefix = told_silent _ _ _ _ [] _ (Appends-nil (g.Q.Sink.written c.args.proof_out.now)) (λ text. unbegun_prefix limits text []);
    answered = λ k. absurd (memory_reads k);
    complete = λ _ _. inr (inr refl);
    at_end = λ e. memory_end _ e;
    within = λ _. within_none _;
    too_long = λ e. absurd (memory_long e);
    header = λ _ n. absurd (n refl);
    cause = tt;
  },
)

pub returns-in-Err-NoMemory-clause-checks : goal.returns-in-Err-NoMemory-clause-checks
returns-in-Err-NoMemory-clause-checks g c = λ _. (
  refl,
  record {
    judged = λ e. memory_end _ e;
    accepted = λ e. memory_done _ e;
    refused = λ e. memory_refused _ e;
    front = told_nothing (g.S.Source.left c.args.script.now) (g.P.Source.left c.args.proof_in.now) (g.W.Sink.written c.args.answers.now);
    always = λ _ _ _. inr (inr refl);
    within = (within_none _, within_none _);
    cause = tt;
  },
)

pub returns-in-Err-NoMemory-clause-refutes : goal.returns-in-Err-NoMemory-clause-refutes
returns-in-Err-NoMemory-clause-refutes g c = λ _. (
  refl,
  record {
    judged = λ e. memory_end _ e;
    accepted = λ e. memory_done _ e;
    front = front_none (g.S.Source.left c.args.script.now) (g.P.Source.left c.args.proof_in.now) (g.W.Sink.written c.args.answers.now);
    always = λ _ _ _. inr (inr refl);
    within = (within_none _, within_none _);
    cause = tt;
  },
)

pub returns-in-Err-NoMemory-clause-searches : goal.returns-in-Err-NoMemory-clause-searches
returns-in-Err-NoMemory-clause-searches g c = λ _. (
  refl,
  record {
    searched = search_unbegun (g.S.Source.left c.args.script.now) (g.W.Sink.written c.args.answers.now) (g.Q.Sink.written c.args.proof_out.now);
    always = λ _ _. inr (inr refl);
    within = λ _. within_none _;
    too_long = λ e. absurd (memory_long e);
    cause = tt;
  },
)

pub returns-in-Err-NoMemory-clause-converts : goal.returns-in-Err-NoMemory-clause-converts
returns-in-Err-NoMemory-clause-converts g c = λ _. (
  refl,
  record {
    becomes =
        told_silent (g.P.Source.left c.args.proof_in.now) (g.W.Sink.written c.args.answers.now) (g.Q.Sink.written c.args.proof_out.now) (g.Q.Sink.written c.args.proof_out.now) []
        (λ text told written. IsLeft text told written NoMemory) (Appends-nil (g.Q.Sink.written c.args.proof_out.now)) (λ text. (refl, refl));
    at_end = λ e. memory_end _ e;
    always = λ _ _. inr (inr refl);
    within = λ _. within_none _;
    too_long = λ e. absurd (memory_long e);
    cause = tt;
  },
)

pub returns-in-Err-NoMemory-clause-drills : goal.returns-in-Err-NoMemory-clause-drills
returns-in-Err-NoMemory-clause-drills g c = λ _ _ _ _. ((refl, refl), undrawn _ _ _ _)

pub returns-in-Err-NoMemory-clause-stays : goal.returns-in-Err-NoMemory-clause-stays
returns-in-Err-NoMemory-clause-stays g c = record { answers = adds_none _; proof = adds_none _; later = later_same _ }

pub returns-in-Err-NoMemory-clause-later : goal.returns-in-Err-NoMemory-clause-later
returns-in-Err-NoMemory-clause-later g c = omega arith
