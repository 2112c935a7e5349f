use Rattle.std.proofs.Common.{ap, sym, subst, ◌∙◌, ◌≡◌, codes, map, List, []}
use Rattle.std.specs.Prelude.{Result, Ok, Err, IfOk, IfErr}
use Rattle.clap.proofs.WalkLemmas.{first_value-rows}
use Rattle.clap.specs.Words.{App, HasKind, Text, app_of, fault_of, first_of, found_of, is_simple, is_simple_and_free, matches_of, rows_of}
use Rattle.clap.specs.declared.parser.matches.Found.{Found}
use Rattle.command_line.specs.declared.options.Options.{Options}
use Rattle.command_line.specs.declared.options.WordsFault.{WordsFault}
use Rattle.command_line.specs.Options.{AskedTexts, Gives, Reads, Refuses, command, faults, found_texts, texts_of}
use Rattle.command_line.proofs.OptionsTaken.{command_is_simple, command_is_free}
use Rattle.command_line.proofs.options.words.Goals as goal

given : (r : Result Options WordsFault) (words : List Text) (texts : AskedTexts) → Reads words texts → IfOk r (λ o. (words : List Text) → Reads words texts → Gives words o) → IfOk r (Gives words)
given (Ok o) words texts reads f = f words reads
given (Err e) words texts reads f = tt

lacking : (r : Result Options WordsFault) (words : List Text) (texts : AskedTexts) → Reads words texts → IfErr r (λ fault. (words : List Text) → Reads words texts → Refuses words fault) → IfErr r (Refuses words)
lacking (Ok o) words texts reads f = tt
lacking (Err e) words texts reads f = f words reads

-- what clap found for the words are their texts
reads_of : (words : List Text) (texts : AskedTexts) (found : Found) → faults words ≡ [] → rows_of found ≡ matches_of command words → texts ≡ found_texts found → Reads words texts
reads_of words texts found taken rows are = record {
  taken = taken;
  texts_are = are ∙ (λ i. record {
    schema = (first_value-rows found (codes "schema") ∙ ap (first_of (codes "schema")) rows) i;
    after = (first_value-rows found (codes "after") ∙ ap (first_of (codes "after")) rows) i;
    script = (first_value-rows found (codes "script") ∙ ap (first_of (codes "script")) rows) i;
    listen = (first_value-rows found (codes "listen") ∙ ap (first_of (codes "listen")) rows) i;
    sessions = (first_value-rows found (codes "sessions") ∙ ap (first_of (codes "sessions")) rows) i;
    connections = (first_value-rows found (codes "connections") ∙ ap (first_of (codes "connections")) rows) i;
    entries = (first_value-rows found (codes "entries") ∙ ap (first_of (codes "entries")) rows) i;
    idle = (first_value-rows found (codes "idle") ∙ ap (first_of (codes "idle")) rows) i;
    log = (first_value-rows found (codes "log") ∙ ap (first_of (codes "log")) rows) i;
    load = (first_value-rows found (codes "load") ∙ ap (first_of (codes "load")) rows) i;
    exports = (first_value-rows found (codes "export") ∙ ap (first_of (codes "export")) rows) i;
    dump = (first_value-rows found (codes "dump") ∙ ap (first_of (codes "dump")) rows) i;
  });
}

pub returns-in-Ok-try_get_matches_from-clause-ok :
    goal.returns-in-Ok-try_get_matches_from-clause-ok
returns-in-Ok-try_get_matches_from-clause-ok g c =
    let texts = map g.S.AsStr.text c.args.words.now in
    let is_command : app_of c.in-Ok.command ≡ command = c.in-Ok.ensures in
    let parse = c.in-Ok-try_get_matches_from in
    let taken = parse.ensures.kinds (ap is_simple_and_free is_command ∙ command_is_free) in
    let rows = (parse.ensures.matches (ap is_simple is_command ∙ command_is_simple)).0 ∙ ap (λ (a : App). matches_of a texts) is_command in
    given c.options_of.result texts (texts_of c.texts_of.result) (reads_of texts (texts_of c.texts_of.result) (found_of parse.matches) (sym (ap (λ (a : App). fault_of a texts) is_command) ∙ taken) rows c.texts_of.ensures) c.options_of.ensures.ok

pub returns-in-Ok-try_get_matches_from-clause-err :
    goal.returns-in-Ok-try_get_matches_from-clause-err
returns-in-Ok-try_get_matches_from-clause-err g c =
    let texts = map g.S.AsStr.text c.args.words.now in
    let is_command : app_of c.in-Ok.command ≡ command = c.in-Ok.ensures in
    let parse = c.in-Ok-try_get_matches_from in
    let taken = parse.ensures.kinds (ap is_simple_and_free is_command ∙ command_is_free) in
    let rows = (parse.ensures.matches (ap is_simple is_command ∙ command_is_simple)).0 ∙ ap (λ (a : App). matches_of a texts) is_command in
    lacking c.options_of.result texts (texts_of c.texts_of.result) (reads_of texts (texts_of c.texts_of.result) (found_of parse.matches) (sym (ap (λ (a : App). fault_of a texts) is_command) ∙ taken) rows c.texts_of.ensures) c.options_of.ensures.err

pub returns-in-Err-clause-err : goal.returns-in-Err-clause-err
returns-in-Err-clause-err g c =
    let texts = map g.S.AsStr.text c.args.words.now in
    let is_command : app_of c.in-Ok.command ≡ command = c.in-Ok.ensures in
    let fails = c.in-Err.ensures.kinds (ap is_simple_and_free is_command ∙ command_is_free) in
    c.fault_from.ensures texts (subst (λ (a : App). HasKind (fault_of a texts) c.in-Err.error) is_command fails)
