use Rattle.listening.proofs.MigrationService.{as_given, broken_serviced, round_serviced}
use Rattle.listening.proofs.migration.run_round.Goals as goal

pub returns-in-Ok-clause-serviced : goal.returns-in-Ok-clause-serviced
returns-in-Ok-clause-serviced g c =
    as_given (λ r. r.number) (λ r. r.entry) c.in-Ok.receipts.items (round_serviced c.args.service.now c.run_migrator.new.session _ c.requires.number c.in-Ok.ensures.round)

pub returns-in-Err-clause-serviced : goal.returns-in-Err-clause-serviced
returns-in-Err-clause-serviced g c =
    as_given (λ r. r.number) (λ r. r.entry) c.in-Err.field-0.receipts.items (broken_serviced c.args.service.now c.run_migrator.new.session _ c.requires.number c.in-Err.ensures.broken)
