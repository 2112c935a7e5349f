use Rattle.std.proofs.Common.{◌≡◌, ◌<◌, ◌++◌, ◌∷◌, [], Ok, sym, ap, ◌∙◌, length, arith, rules, ◌-◌, ◌+◌}
use Rattle.rows.specs.Declaration.{entries_at, entry_at, prepend, list_at}
use Rattle.tokens.proofs.TokenAlike.{stops_alike}
use Rattle.rows.proofs.DeclarationListed.{listed_err, listed_last, listed_more}
use Rattle.rows.proofs.declaration.entries_at.Goals as goal

pub returns-in-Err : goal.returns-in-Err
unfolding entries_at
returns-in-Err c =
    let below : c.loop.counter < length c.args.bytes.now = omega arith in
    stops_alike c.in-Err.stop (entry_at c.loop.rest.now) (entries_at c.args.bytes.now)
    (λ e h. sym c.loop.invariant ∙ listed_err entry_at (length c.args.bytes.now) c.loop.counter c.loop.entries.items c.loop.rest.now e below h) c.in-Err.ensures

pub returns-in-Err-symbol_at : goal.returns-in-Err-symbol_at
unfolding entries_at
returns-in-Err-symbol_at c =
    let below : c.loop.counter < length c.args.bytes.now = omega arith in
    let pushed : c.new.result ≡ c.loop.entries.items ++ c.in-Ok.read.0 ∷ [] = search rules in
    sym c.loop.invariant
    ∙ listed_last entry_at (length c.args.bytes.now) c.loop.counter c.loop.entries.items c.in-Ok.read.0 c.loop.rest.now c.in-Ok.read.1.now _ below c.in-Ok.ensures c.in-Err-symbol_at.ensures
    ∙ ap (λ xs. Ok (xs, c.in-Ok.read.1.now)) (sym pushed)

pub loop-preserved : goal.loop-preserved
loop-preserved c =
    let below : c.loop.counter < length c.args.bytes.now = omega arith in
    let pushed : c.push.new.self.items ≡ c.loop.entries.items ++ c.in-Ok.read.0 ∷ [] = search rules in
    ap (λ xs. prepend xs (list_at entry_at (length c.args.bytes.now - (c.loop.counter + 1)) c.in-Ok-symbol_at.more.now)) pushed
    ∙ sym (listed_more entry_at (length c.args.bytes.now) c.loop.counter c.loop.entries.items c.in-Ok.read.0 c.loop.rest.now c.in-Ok.read.1.now c.in-Ok-symbol_at.more.now below c.in-Ok.ensures c.in-Ok-symbol_at.ensures)
    ∙ c.loop.invariant
