use Rattle.std.proofs.Common.{rules, ◌≡◌, true, false, ◌++◌, [], append-nil, refl, Some, ◌∙◌, ap, subst, sym}
use Rattle.std.specs.List.{cons_option}
use Rattle.std.specs.Option.{option_map}
use Rattle.std.specs.Ordering.{is_le, is_lt}
use Rattle.std.specs.declared.cmp.Ordering.{Ordering}
use Rattle.std.specs.declared.cmp.Ordering.TheVariants.{Less, Equal, Greater}
use Rattle.values.specs.Order.{key_cmp}
use Rattle.staging.specs.Staged.{starts_upto}
use Rattle.staging.proofs.StagedMerged.{MovesUpto, moved_none, moved_below, moved_own, put_there, short_moved, short_dropped}
use Rattle.staging.proofs.staged.put_next.Goals as goal

lesser : (o : Ordering) → is_lt o ≡ true → o ≡ Less
lesser Less h = refl
lesser Equal h = cc
lesser Greater h = cc

tied : (o : Ordering) → is_le o ≡ true → is_lt o ≡ false → o ≡ Equal
tied Less le h = cc
tied Equal le h = refl
tied Greater le h = cc

pub loop-entry-init : goal.loop-entry-init
loop-entry-init c = record {
  moves = moved_none c.args.key.now c.args.row.now c.args.rows.now.items c.args.rest.now.items;
  short = c.requires.short;
}

pub loop-entry-preserved-in_ok-push : goal.loop-entry-preserved-in_ok-push
loop-entry-preserved-in_ok-push c =
    let less : key_cmp c.in-Some.entry.0 c.args.key.now ≡ Less = lesser (key_cmp c.in-Some.entry.0 c.args.key.now) (ap is_lt (sym c.cmp.ensures) ∙ sym c.is_lt.ensures ∙ c.if-is_lt.true) in
    record {
      moves = λ sorted.
          moved_below c.args.key.now c.args.row.now c.args.rows.now.items c.args.rest.now.items c.loop-entry.rows.items c.loop-entry.rest.items c.pop_upto.new.rest.items c.in-Some.entry c.in-Some.ensures.some (c.loop-entry.invariant.moves sorted) c.push.new.self.items less c.in_ok-push.ensures.items;
      short = short_moved c.loop-entry.rows.items c.pop_upto.new.rest.items c.push.new.self.items c.in-Some.entry c.loop-entry.rest.items c.in-Some.ensures.some c.in_ok-push.ensures.items c.loop-entry.invariant.short;
    }

pub loop-entry-preserved : goal.loop-entry-preserved
loop-entry-preserved c =
    let upto : is_le (key_cmp c.in-Some.entry.0 c.args.key.now) ≡ true = sym (c.in-Some.ensures.upto ∙ ap (starts_upto c.args.key.now) c.in-Some.ensures.some) in
    let own : key_cmp c.in-Some.entry.0 c.args.key.now ≡ Equal = tied (key_cmp c.in-Some.entry.0 c.args.key.now) upto (ap is_lt (sym c.cmp.ensures) ∙ sym c.is_lt.ensures ∙ c.if-is_lt.false) in
    record {
      moves = λ sorted.
          moved_own c.args.key.now c.args.row.now c.args.rows.now.items c.args.rest.now.items c.loop-entry.rows.items c.loop-entry.rest.items c.pop_upto.new.rest.items c.in-Some.entry c.in-Some.ensures.some (c.loop-entry.invariant.moves sorted) own;
      short = short_dropped c.loop-entry.rows.items c.pop_upto.new.rest.items c.loop-entry.rows.items c.in-Some.entry c.loop-entry.rest.items c.in-Some.ensures.some c.loop-entry.invariant.short;
    }

pub returns-in_ok-push-2-clause-put : goal.returns-in_ok-push-2-clause-put
returns-in_ok-push-2-clause-put c = λ sorted.
    let key : c.in_ok-clone.field-0 ≡ c.args.key.now = search rules in
    let row : Some c.in_ok-clone-2.field-0 ≡ c.args.row.now = search rules in
    let pushed : c.push-in-Some-row.new.self.items ≡ c.loop-entry.rows.items ++ cons_option (option_map (λ row. (c.args.key.now, row)) c.args.row.now) [] =
    c.in_ok-push-2.ensures.items ∙ (λ i. c.loop-entry.rows.items ++ cons_option (option_map (λ row. (key i, row)) (row i)) []) in
    put_there c.args.key.now c.args.row.now c.args.rows.now.items c.args.rest.now.items c.loop-entry.rows.items c.push-in-Some-row.new.self.items c.pop_upto.new.rest.items
    (subst (λ m. MovesUpto c.args.key.now c.args.row.now c.args.rows.now.items c.args.rest.now.items c.loop-entry.rows.items m) (sym c.in_default.ensures.none) (c.loop-entry.invariant.moves sorted))
    (ap (starts_upto c.args.key.now) c.in_default.ensures.none ∙ sym c.in_default.ensures.upto) pushed

pub returns-in_default-row-clause-put : goal.returns-in_default-row-clause-put
returns-in_default-row-clause-put c = λ sorted.
    let pushed : c.loop-entry.rows.items ≡ c.loop-entry.rows.items ++ cons_option (option_map (λ row. (c.args.key.now, row)) c.args.row.now) [] =
    sym (append-nil c.loop-entry.rows.items) ∙ sym (ap (λ o. c.loop-entry.rows.items ++ cons_option (option_map (λ row. (c.args.key.now, row)) o) []) c.in_default-row.is) in
    put_there c.args.key.now c.args.row.now c.args.rows.now.items c.args.rest.now.items c.loop-entry.rows.items c.loop-entry.rows.items c.pop_upto.new.rest.items
    (subst (λ m. MovesUpto c.args.key.now c.args.row.now c.args.rows.now.items c.args.rest.now.items c.loop-entry.rows.items m) (sym c.in_default.ensures.none) (c.loop-entry.invariant.moves sorted))
    (ap (starts_upto c.args.key.now) c.in_default.ensures.none ∙ sym c.in_default.ensures.upto) pushed
