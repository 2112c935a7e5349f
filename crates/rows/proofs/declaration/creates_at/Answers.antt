use Rattle.std.proofs.Common.{◌≡◌, ◌<◌, ◌-◌, ◌+◌, ◌++◌, ◌∷◌, [], Ok, true, false, sym, ap, ◌∙◌, length, arith, rules}
use Rattle.rows.specs.Declaration.{creates_at, create_at, creates_upto, prepend}
use Rattle.tokens.proofs.TokenAlike.{stops_alike}
use Rattle.rows.proofs.DeclarationListed.{creates_err, creates_more_err, creates_last, creates_more}
use Rattle.rows.proofs.declaration.creates_at.Goals as goal

pub returns-in-Err : goal.returns-in-Err
unfolding creates_at
returns-in-Err c =
    let below : c.loop.counter < length c.args.bytes.now = omega arith in
    stops_alike c.in-Err.stop (create_at c.loop.rest.now) (creates_at c.args.bytes.now)
    (λ e h. sym c.loop.invariant ∙ creates_err (length c.args.bytes.now) c.loop.counter c.loop.declarations.items c.loop.rest.now e below h) c.in-Err.ensures

pub returns-in-Err-more_at : goal.returns-in-Err-more_at
unfolding creates_at
returns-in-Err-more_at c =
    let below : c.loop.counter < length c.args.bytes.now = omega arith in
    sym c.loop.invariant
    ∙ creates_more_err (length c.args.bytes.now) c.loop.counter c.loop.declarations.items c.in-Ok.read.0 c.loop.rest.now c.in-Ok.read.1.now c.in-Err-more_at.at.now below c.in-Ok.ensures c.in-Err-more_at.ensures

pub returns-then-not-more : goal.returns-then-not-more
unfolding creates_at
returns-then-not-more c =
    let below : c.loop.counter < length c.args.bytes.now = omega arith in
    let pushed : c.new.result ≡ c.loop.declarations.items ++ c.in-Ok.read.0 ∷ [] = search rules in
    let stops : c.in-Ok-more_at.read.0 ≡ false = search rules in
    sym c.loop.invariant
    ∙ creates_last (length c.args.bytes.now) c.loop.counter c.loop.declarations.items c.in-Ok.read.0 c.loop.rest.now c.in-Ok.read.1.now c.in-Ok-more_at.read.1.now below
    c.in-Ok.ensures (c.in-Ok-more_at.ensures ∙ ap (λ t. Ok (t, c.in-Ok-more_at.read.1.now)) stops)
    ∙ ap (λ xs. Ok (xs, c.in-Ok-more_at.read.1.now)) (sym pushed)

pub loop-preserved : goal.loop-preserved
loop-preserved c =
    let below : c.loop.counter < length c.args.bytes.now = omega arith in
    let pushed : c.push.new.self.items ≡ c.loop.declarations.items ++ c.in-Ok.read.0 ∷ [] = search rules in
    let goes_on : c.in-Ok-more_at.read.0 ≡ true = search rules in
    ap (λ xs. prepend xs (creates_upto (length c.args.bytes.now - (c.loop.counter + 1)) c.in-Ok-more_at.read.1.now)) pushed
    ∙ sym (creates_more (length c.args.bytes.now) c.loop.counter c.loop.declarations.items c.in-Ok.read.0 c.loop.rest.now c.in-Ok.read.1.now c.in-Ok-more_at.read.1.now below
    c.in-Ok.ensures (c.in-Ok-more_at.ensures ∙ ap (λ t. Ok (t, c.in-Ok-more_at.read.1.now)) goes_on))
    ∙ c.loop.invariant
