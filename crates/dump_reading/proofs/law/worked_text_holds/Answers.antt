use Rattle.std.proofs.Common.{refl}
use Rattle.tokens.specs.Token.{symbol_at}
use Rattle.tokens.specs.Word.{after_word, is_word_at, word_at}
use Rattle.statement.specs.Alteration.{asked_at, request_at}
use Rattle.statement.specs.Line.{body_says, clock_at, line_says, meaning_of, service_at, session_at, written_at}
use Rattle.statement.specs.Literal.{digits_at, digits_here}
use Rattle.statement.specs.Statement.{data_at, instant_at, statement_at}
use Rattle.statement.specs.Token.{end_at}
use Rattle.dump_reading.proofs.WorkedDumpTextHolds as worked
use Rattle.dump_reading.proofs.law.worked_text_holds.Goals as goal

pub returns-clause-text : goal.returns-clause-text
returns-clause-text c = worked.text_is

pub returns-clause-replayed : goal.returns-clause-replayed
returns-clause-replayed c = worked.text_is_replayed

pub returns-clause-changed : goal.returns-clause-changed
returns-clause-changed c = worked.changed_text_leaves_another

pub returns-clause-broken : goal.returns-clause-broken
unfolding after_word asked_at body_says clock_at data_at digits_at digits_here end_at instant_at is_word_at line_says meaning_of request_at service_at session_at statement_at symbol_at word_at written_at
returns-clause-broken c = refl
