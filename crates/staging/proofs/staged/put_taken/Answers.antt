use Rattle.std.proofs.Common.{◌≡◌, cond, [], ◌∷◌, ◌++◌, All, Option, filter, sym, ap, subst, ◌∙◌}
use Rattle.std.proofs.lemmas.List.Elements.{All-head, All-rest}
use Rattle.std.specs.BTreeMap.Range.{entries_between}
use Rattle.std.specs.declared.ops.Bound.TheVariants.{Included, Unbounded}
use Rattle.std.specs.List.Sorted.{IsStrictlySortedBy}
use Rattle.std.specs.Map.{keys_of}
use Rattle.values.specs.KeyEncoding.{IsShortKey}
use Rattle.values.specs.declared.key.Key.{Key}
use Rattle.values.specs.Log.{Net, Row, apply_net}
use Rattle.values.specs.Order.{key_cmp}
use Rattle.values.specs.Versions.{matches}
use Rattle.staging.proofs.BoundKept.{kept_from, none_past, rest_above, rest_ordered, left_ordered}
use Rattle.staging.proofs.StagedMerged.{moved_more, moved_same}
use Rattle.staging.proofs.StagedCalls.{kept_entries}
use Rattle.staging.proofs.staged.put_taken.Goals as goal

pub loop-key-init : goal.loop-key-init
loop-key-init c =
    let items : c.into_iter-key-iterator.result ≡ entries_between key_cmp (Included c.in_ok-least.least) Unbounded c.args.writes.now.entries = c.into_iter-key-iterator.ensures.into_iter_gives ∙ c.range-key-items.ensures.between tt in
    record {
      moves = λ sorted. record {
        put =
            ap (λ es. c.args.rows.now.items ++ apply_net c.args.rest.now.items (filter (λ w. matches c.args.table.now c.args.keys.now w.0) es)) items
            ∙ ap (λ w. c.args.rows.now.items ++ apply_net c.args.rest.now.items w) (kept_from (matches c.args.table.now c.args.keys.now) c.in_ok-least.least c.in_ok-least.ensures c.args.writes.now.entries);
        ordered = sorted;
      };
      short = c.requires.short;
      ordered = subst (λ es. IsStrictlySortedBy key_cmp (keys_of es)) (sym items) (left_ordered _ c.args.writes.now.entries c.range-key-items.ensures.ordered);
      short_writes = subst (All (λ w. IsShortKey w.0)) (sym items) (kept_entries IsShortKey _ c.args.writes.now.entries c.requires.short_writes);
    }

pub put_next-requires-clause-short_key : goal.put_next-requires-clause-short_key
put_next-requires-clause-short_key c =
    All-head (λ w. IsShortKey w.0) (c.in-Some.key.now, c.in-Some.row.now) c.next.new.self (subst (All (λ w. IsShortKey w.0)) c.in-Some.ensures.steps c.loop-key.invariant.short_writes)

pub loop-key-preserved-in-Continue-branch-2 : goal.loop-key-preserved-in-Continue-branch-2
loop-key-preserved-in-Continue-branch-2 c =
    let p = λ (w : Net). filter (λ w. matches c.args.table.now c.args.keys.now w.0) w in
    let e : Key × Option Row = (c.in-Some.key.now, c.in-Some.row.now) in
    let taken : p c.loop-key.key-iterator ≡ e ∷ p c.next.new.self =
    ap p c.in-Some.ensures.steps ∙ ap (λ b. cond b (e ∷ p c.next.new.self) (p c.next.new.self)) (sym c.matches.ensures ∙ c.if-matches.true) in
    record {
      moves = λ sorted.
          moved_more c.in-Some.key.now c.in-Some.row.now c.args.rows.now.items c.args.rest.now.items c.loop-key.rows.items c.loop-key.rest.items c.put_next.new.rows.items c.put_next.new.rest.items (p c.args.writes.now.entries) (p c.next.new.self)
          (moved_same c.args.rows.now.items c.args.rest.now.items c.loop-key.rows.items c.loop-key.rest.items (p c.args.writes.now.entries) (p c.loop-key.key-iterator) (e ∷ p c.next.new.self) taken (c.loop-key.invariant.moves sorted))
          (subst (λ w. IsStrictlySortedBy key_cmp (keys_of w)) taken (left_ordered (λ w. matches c.args.table.now c.args.keys.now w.0) c.loop-key.key-iterator c.loop-key.invariant.ordered))
          c.in_ok-put_next.ensures.put;
      short = c.in_ok-put_next.ensures.short;
      ordered = rest_ordered e c.next.new.self c.loop-key.key-iterator c.in-Some.ensures.steps c.loop-key.invariant.ordered;
      short_writes = All-rest (λ w. IsShortKey w.0) e c.next.new.self c.loop-key.key-iterator c.in-Some.ensures.steps c.loop-key.invariant.short_writes;
    }

pub loop-key-preserved : goal.loop-key-preserved
loop-key-preserved c =
    let p = λ (w : Net). filter (λ w. matches c.args.table.now c.args.keys.now w.0) w in
    let e : Key × Option Row = (c.in-Some.key.now, c.in-Some.row.now) in
    let passed : p c.loop-key.key-iterator ≡ p c.next.new.self =
    ap p c.in-Some.ensures.steps ∙ ap (λ b. cond b (e ∷ p c.next.new.self) (p c.next.new.self)) (sym c.matches.ensures ∙ c.if-matches.false) in
    record {
      moves = λ sorted.
          moved_same c.args.rows.now.items c.args.rest.now.items c.loop-key.rows.items c.loop-key.rest.items (p c.args.writes.now.entries) (p c.loop-key.key-iterator) (p c.next.new.self) passed (c.loop-key.invariant.moves sorted);
      short = c.loop-key.invariant.short;
      ordered = rest_ordered e c.next.new.self c.loop-key.key-iterator c.in-Some.ensures.steps c.loop-key.invariant.ordered;
      short_writes = All-rest (λ w. IsShortKey w.0) e c.next.new.self c.loop-key.key-iterator c.in-Some.ensures.steps c.loop-key.invariant.short_writes;
    }

pub returns-then-is_past-clause-put : goal.returns-then-is_past-clause-put
returns-then-is_past-clause-put c = λ sorted.
    let p = λ (w : Net). filter (λ w. matches c.args.table.now c.args.keys.now w.0) w in
    let e : Key × Option Row = (c.in-Some.key.now, c.in-Some.row.now) in
    let nothing : p c.loop-key.key-iterator ≡ [] =
    ap p c.in-Some.ensures.steps
    ∙ ap (λ b. cond b (e ∷ p c.next.new.self) (p c.next.new.self)) (sym c.matches.ensures ∙ c.if-matches.false)
    ∙ none_past (matches c.args.table.now c.args.keys.now) c.in-Some.key.now (c.is_past.ensures c.if-is_past.true) c.next.new.self (rest_above e c.next.new.self c.loop-key.key-iterator c.in-Some.ensures.steps c.loop-key.invariant.ordered) in
    sym (ap (λ w. c.loop-key.rows.items ++ apply_net c.loop-key.rest.items w) nothing) ∙ (c.loop-key.invariant.moves sorted).put
