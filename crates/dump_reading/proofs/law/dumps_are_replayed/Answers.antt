use Rattle.dump_reading.proofs.ReplayedDump as dump
use Rattle.dump_reading.proofs.law.dumps_are_replayed.Goals as goal

pub returns-clause-dumps : goal.returns-clause-dumps
returns-clause-dumps c = dump.dumps_are_replayed

pub returns-clause-histories : goal.returns-clause-histories
returns-clause-histories c = dump.histories_are_taken_again c.histories_are_dumped.ensures.dumped c.histories_are_dumped.ensures.alike
