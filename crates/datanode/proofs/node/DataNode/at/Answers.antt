use Rattle.std.proofs.Common.{◌≡◌, Option, None, ap, ◌∙◌, rules, option_copied}
use Rattle.values.specs.Log.{Row}
use Rattle.values.specs.Events.{row_until}
use Rattle.datanode.proofs.LawLast.{shown_by_cut}
use Rattle.datanode.proofs.node.DataNode.at.Goals as goal

pub returns-in-None-clause-of_map : goal.returns-in-None-clause-of_map
returns-in-None-clause-of_map c m is point =
    let row : ◌≡◌ {A = Option Row} None (row_until c.args.self.now.events c.args.key.now c.args.instant) = search rules in
    row ∙ ap (λ es. row_until es c.args.key.now c.args.instant) is.events_are ∙ shown_by_cut c.args.self.now.rect m c.args.key.now c.args.instant is.ordered point

pub returns-in-Some-clause-of_map : goal.returns-in-Some-clause-of_map
returns-in-Some-clause-of_map c m is point =
    let row : option_copied c.row.result ≡ row_until c.args.self.now.events c.args.key.now c.args.instant = search rules in
    row ∙ ap (λ es. row_until es c.args.key.now c.args.instant) is.events_are ∙ shown_by_cut c.args.self.now.rect m c.args.key.now c.args.instant is.ordered point
