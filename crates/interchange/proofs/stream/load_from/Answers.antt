use Rattle.std.proofs.Common.{◌++◌, [], List, ℕ, ap, ◌∙◌, arith, subst}
use Rattle.csv.specs.Reading.{strip_bom}
use Rattle.interchange.specs.Loading.{IsReadTo, IsWhyOf}
use Rattle.interchange.proofs.InsertionCome.{on_err, on_value}
use Rattle.interchange.proofs.StreamReads.{head_refused, long_done, long_ended, short_done, short_ended}
use Rattle.interchange.proofs.stream.load_from.Goals as goal

pub returns-in-Err-feed-clause-err : goal.returns-in-Err-feed-clause-err
returns-in-Err-feed-clause-err g c =
    head_refused c.in-Err-feed.why c.args.table.now _ _ c.in-Ok.head.items c.in-Ok.ensures.read c.in-Ok.ensures.end
    (λ rest. subst (λ (text : List ℕ). IsWhyOf c.in-Err-feed.why c.args.table.now (text ++ rest)) (c.without_mark.ensures ∙ ap strip_bom c.as_slice.ensures.value)
    (c.in-Err-feed.ensures.err [] rest c.new-loading.ensures))

pub returns-then-len-lt-MARK-clause-ok : goal.returns-then-len-lt-MARK-clause-ok
returns-then-len-lt-MARK-clause-ok g c =
    let read = subst (λ (text : List ℕ). IsReadTo c.args.table.now text c.feed.new.self) (c.without_mark.ensures ∙ ap strip_bom c.as_slice.ensures.value) (c.in-Ok-feed.ensures.ok [] c.new-loading.ensures) in
    on_value c.finish.result c.finish.ensures.ok (λ rows whole. short_done c.args.table.now _ _ c.in-Ok.head.items _ c.in-Ok.ensures.read (c.in-Ok.ensures.end (omega (arith, c.len.ensures, c.if-len-lt-MARK.true, c.in-Ok.head.ok, c.in-Ok.head.small))) (whole (strip_bom c.in-Ok.head.items) read))

pub returns-then-len-lt-MARK-clause-err : goal.returns-then-len-lt-MARK-clause-err
returns-then-len-lt-MARK-clause-err g c =
    let read = subst (λ (text : List ℕ). IsReadTo c.args.table.now text c.feed.new.self) (c.without_mark.ensures ∙ ap strip_bom c.as_slice.ensures.value) (c.in-Ok-feed.ensures.ok [] c.new-loading.ensures) in
    on_err c.finish.result c.finish.ensures.err (λ fault ended. short_ended fault c.args.table.now _ _ c.in-Ok.head.items c.in-Ok.ensures.read (c.in-Ok.ensures.end (omega (arith, c.len.ensures, c.if-len-lt-MARK.true, c.in-Ok.head.ok, c.in-Ok.head.small))) (ended (strip_bom c.in-Ok.head.items) read))

pub returns-clause-ok : goal.returns-clause-ok
returns-clause-ok g c =
    let read = subst (λ (text : List ℕ). IsReadTo c.args.table.now text c.feed.new.self) (c.without_mark.ensures ∙ ap strip_bom c.as_slice.ensures.value) (c.in-Ok-feed.ensures.ok [] c.new-loading.ensures) in
    on_value c.load_rest.result c.load_rest.ensures.ok (λ rows after. long_done c.args.table.now _ _ c.in-Ok.head.items _ c.in-Ok.ensures.read (omega (arith, c.len.ensures, c.if-len-lt-MARK.false, c.in-Ok.head.ok, c.in-Ok.head.small)) (after (strip_bom c.in-Ok.head.items) read))

pub returns-clause-err : goal.returns-clause-err
returns-clause-err g c =
    let read = subst (λ (text : List ℕ). IsReadTo c.args.table.now text c.feed.new.self) (c.without_mark.ensures ∙ ap strip_bom c.as_slice.ensures.value) (c.in-Ok-feed.ensures.ok [] c.new-loading.ensures) in
    on_err c.load_rest.result c.load_rest.ensures.err (λ fault after. long_ended fault c.args.table.now _ _ c.in-Ok.head.items c.in-Ok.ensures.read (omega (arith, c.len.ensures, c.if-len-lt-MARK.false, c.in-Ok.head.ok, c.in-Ok.head.small)) (after (strip_bom c.in-Ok.head.items) read))
