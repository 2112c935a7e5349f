use Rattle.std.proofs.Common.{◌≡◌, ◌<◌, ◌-◌, ◌+◌, ◌++◌, ◌∷◌, [], Ok, true, false, sym, ap, ◌∙◌, length, arith, rules}
use Rattle.rows.specs.Declaration.{marks_at, is_mark_at, marks_upto, prepend}
use Rattle.rows.proofs.DeclarationListed.{marks_end, marks_err, marks_more}
use Rattle.rows.proofs.declaration.marks_at.Goals as goal

pub returns-then-not-is_mark_at : goal.returns-then-not-is_mark_at
unfolding marks_at
returns-then-not-is_mark_at c =
    let below : c.loop.counter < length c.args.bytes.now = omega arith in
    let none : is_mark_at c.loop.rest.now ≡ false = search rules in
    sym c.loop.invariant ∙ marks_end (length c.args.bytes.now) c.loop.counter c.loop.marks.items c.loop.rest.now below none
    ∙ ap (λ xs. Ok (xs, c.loop.rest.now)) (sym c.new.ensures)

pub returns-in-Err : goal.returns-in-Err
unfolding marks_at
returns-in-Err c =
    let below : c.loop.counter < length c.args.bytes.now = omega arith in
    let one : is_mark_at c.loop.rest.now ≡ true = search rules in
    sym c.loop.invariant ∙ marks_err (length c.args.bytes.now) c.loop.counter c.loop.marks.items c.loop.rest.now c.in-Err.at.now below one c.in-Err.ensures

pub loop-preserved : goal.loop-preserved
loop-preserved c =
    let below : c.loop.counter < length c.args.bytes.now = omega arith in
    let one : is_mark_at c.loop.rest.now ≡ true = search rules in
    let pushed : c.push.new.self.items ≡ c.loop.marks.items ++ c.in-Ok.read.0 ∷ [] = search rules in
    ap (λ xs. prepend xs (marks_upto (length c.args.bytes.now - (c.loop.counter + 1)) c.in-Ok.read.1.now)) pushed
    ∙ sym (marks_more (length c.args.bytes.now) c.loop.counter c.loop.marks.items c.in-Ok.read.0 c.loop.rest.now c.in-Ok.read.1.now below one c.in-Ok.ensures)
    ∙ c.loop.invariant
