use Rattle.std.proofs.Common.{rules, ◌≤◌, length, ap, sym, subst, ◌∙◌}
use Rattle.staging.specs.Staged.{KeepsKeys}
use Rattle.staging.proofs.StagedWide.{sets_in}
use Rattle.staging.proofs.UpdateStored.{sets_stored, sets_within, all_length}
use Rattle.staging.proofs.PortionStarts.{keeps_both, on_ok}
use Rattle.staging.proofs.portion.Portion.push_pieces.Goals.{in-Some+in_ok-copy+in_ok-changed+in_ok-push_piece-2, in_default}
use Rattle.staging.proofs.portion.Portion.push_pieces.Goals as goal

pub set_all-requires-clause-stored : goal.set_all-requires-clause-stored
set_all-requires-clause-stored c = sets_stored c.args.self.now.table.now c.in-Some.sets.now (c.args.self.now.fits c.in-Some.sets c.in-Some.is)

pub set_all-requires-clause-within : goal.set_all-requires-clause-within
set_all-requires-clause-within c =
    let table = c.args.self.now.table.now in
    let wide : length table.columns ≤ length c.in_ok-copy.field-0 = search rules in
    sets_in (length table.columns) (length c.in_ok-copy.field-0) c.in-Some.sets.now wide (sets_within table c.in-Some.sets.now (c.args.self.now.fits c.in-Some.sets c.in-Some.is))

pub push_piece-requires-in-Some : goal.push_piece-requires-in-Some
push_piece-requires-in-Some c =
    let table = c.args.self.now.table.now in
    let wide : length table.columns ≤ length c.in_ok-copy.field-0 = search rules in
    subst (λ n. length table.columns ≤ n) (sym (ap length c.in_ok-changed.ensures ∙ all_length c.in-Some.sets.now c.in_ok-copy.field-0)) wide

pub returns-clause-keys : goal.returns-clause-keys
returns-clause-keys c =
    let table = c.args.self.now.table.now in
    let key = c.args.key.now in
    let old = c.args.changes.now.items in
    let first = c.push_piece.new.changes.items in
    let one : KeepsKeys table key old first = c.in_ok-push_piece.ensures.keys in
    let keeps : KeepsKeys table key c.args.changes.now.items c.match-self.changes.items =
    elim c.match-self.branch [
      | in-Some+in_ok-copy+in_ok-changed+in_ok-push_piece-2 w ↦
          subst (λ v. KeepsKeys table key old v.items) (sym w.changes-is) (keeps_both table key old first w.push_piece-in-Some.new.changes.items one w.in_ok-push_piece-2.ensures.keys)
      | in_default w ↦ subst (λ v. KeepsKeys table key old v.items) (sym w.changes-is) one
    ] in
    on_ok c.push_piece-2.result c.push_piece-2.ensures.keys (λ last. keeps_both table key c.args.changes.now.items c.match-self.changes.items c.push_piece-2.new.changes.items keeps last)
