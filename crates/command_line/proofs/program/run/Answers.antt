use Rattle.std.proofs.Common.{map}
use Rattle.command_line.proofs.ProgramEnding.{taken_faulty, refused_words, refused_faulty}
use Rattle.command_line.proofs.program.run.Goals as goal

pub returns-in-Ok-clause-fault : goal.returns-in-Ok-clause-fault
returns-in-Ok-clause-fault g c = taken_faulty c.run_options.result (map g.S.AsStr.text c.args.words.now) c.in-Ok.options _ _ _ _ c.in-Ok.ensures.ok c.run_options.ensures.stuck

pub returns-in-Err-clause-words : goal.returns-in-Err-clause-words
returns-in-Err-clause-words g c = refused_words c.answer.result (map g.S.AsStr.text c.args.words.now) c.in-Err.fault _ _ _ c.in-Err.ensures.err c.answer.ensures.err

pub returns-in-Err-clause-fault : goal.returns-in-Err-clause-fault
returns-in-Err-clause-fault g c = refused_faulty c.answer.result (map g.S.AsStr.text c.args.words.now) c.in-Err.fault _ _ _ c.in-Err.ensures.err c.answer.ensures.err
