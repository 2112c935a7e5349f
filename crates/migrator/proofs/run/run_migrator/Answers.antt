use Rattle.std.proofs.Common.{ap, map, [], ◌∷◌, ◌++◌, ◌∙◌}
use Rattle.std.proofs.lemmas.Result.{IfErr-weaker, IfOk-weaker}
use Rattle.migrator.proofs.RoundBegun.{broken_of, has_one, is_one, round_of}
use Rattle.migrator.proofs.run.run_migrator.Goals as goal

pub pack_begun-requires-after_bounds : goal.pack_begun-requires-after_bounds
pack_begun-requires-after_bounds g c κs = λ within.
    is_one _ (c.in-Ok.receipt.number, c.in-Ok.receipt.entry)
    (ap (map (λ r. (r.number, r.entry))) (c.push_reserved.ensures.items ∙ ap (λ l. l ++ c.in-Ok.receipt ∷ []) (c.reserve.ensures.items ∙ c.new-receipts.ensures.items)))

pub returns-clause-round : goal.returns-clause-round
returns-clause-round g c =
    IfOk-weaker c.pack_begun.result _ _
    (λ rs whole.
    round_of c.args.session.now c.begin.new.session _ _ (c.in-Ok.receipt.number, c.in-Ok.receipt.entry) c.in-Ok.ensures.ok
    (ap (map (λ r. (r.number, r.entry))) (c.push_reserved.ensures.items ∙ ap (λ l. l ++ c.in-Ok.receipt ∷ []) (c.reserve.ensures.items ∙ c.new-receipts.ensures.items))) whole)
    c.pack_begun.ensures.whole

pub returns-clause-broken : goal.returns-clause-broken
returns-clause-broken g c =
    IfErr-weaker c.pack_begun.result _ _
    (λ f part.
    broken_of c.args.session.now c.begin.new.session _ _ (c.in-Ok.receipt.number, c.in-Ok.receipt.entry) c.in-Ok.ensures.ok
    (ap (map (λ r. (r.number, r.entry))) (c.push_reserved.ensures.items ∙ ap (λ l. l ++ c.in-Ok.receipt ∷ []) (c.reserve.ensures.items ∙ c.new-receipts.ensures.items))) part)
    c.pack_begun.ensures.part

pub returns-clause-own : goal.returns-clause-own
returns-clause-own g c = λ _.
    IfErr-weaker c.pack_begun.result _ _
    (λ f part. λ none. absurd (
    has_one c.args.session.now c.begin.new.session _ _ (c.in-Ok.receipt.number, c.in-Ok.receipt.entry) c.in-Ok.ensures.ok
    (ap (map (λ r. (r.number, r.entry))) (c.push_reserved.ensures.items ∙ ap (λ l. l ++ c.in-Ok.receipt ∷ []) (c.reserve.ensures.items ∙ c.new-receipts.ensures.items))) part (ap (map (λ r. (r.number, r.entry))) none)))
    c.pack_begun.ensures.part
