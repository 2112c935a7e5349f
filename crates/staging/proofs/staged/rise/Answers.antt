use Rattle.std.proofs.Common.{◌≡◌, ◌-◌, ◌<◌, suc, Bool, false, true, get_or, length, refl, arith, ap, sym, ◌∙◌}
use Rattle.std.proofs.lemmas.List.{get_or_default}
use Rattle.std.proofs.lemmas.List.Sorted.{all_adjacent_more}
use Rattle.std.specs.Ordering.{is_ge}
use Rattle.std.specs.declared.cmp.Ordering.{Ordering}
use Rattle.std.specs.declared.cmp.Ordering.TheVariants.{Less, Equal, Greater}
use Rattle.values.specs.Order.{key_cmp}
use Rattle.staging.proofs.StagedEarlier.{rising, below_next}
use Rattle.staging.proofs.staged.rise.Goals as goal

lesser : (o : Ordering) → is_ge o ≡ false → o ≡ Less
lesser Less h = refl
lesser Equal h = cc
lesser Greater h = cc

apart : (o : Ordering) → is_ge o ≡ true → o ≡ Less → ⊥
apart Less h e = cc
apart Equal h e = cc
apart Greater h e = cc

clash : ◌≡◌ {A = Bool} false true → ⊥
clash h = cc

pub loop-i-preserved : goal.loop-i-preserved
loop-i-preserved c =
    let keys = c.args.keys.now in
    let i = c.loop-i.i in
    let key = c.index-keys-i.result in
    let next = c.index-keys-i-in-loop-i.result in
    let some : 0 < i = omega (arith, c.loop-i.auto.i) in
    let before : i - 1 < length keys = omega (arith, c.loop-i-test.true) in
    let less : key_cmp key next ≡ Less = lesser (key_cmp key next) (ap is_ge (sym c.cmp.ensures) ∙ sym c.is_ge.ensures ∙ c.if-is_ge.false) in
    all_adjacent_more keys (λ key next. key_cmp key next ≡ Less) i some c.loop-i.invariant
    (λ d. sym (λ j. key_cmp ((c.index-keys-i.is ∙ get_or_default keys (i - 1) key d before) j) ((c.index-keys-i-in-loop-i.is ∙ get_or_default keys i next d c.loop-i-test.true) j)) ∙ less)

pub returns-then-is_ge : goal.returns-then-is_ge
returns-then-is_ge c =
    let keys = c.args.keys.now in
    let i = c.loop-i.i in
    let key = c.index-keys-i.result in
    let next = c.index-keys-i-in-loop-i.result in
    let some : 0 < i = omega (arith, c.loop-i.auto.i) in
    let before : i - 1 < length keys = omega (arith, c.loop-i-test.true) in
    let not_less : is_ge (key_cmp key next) ≡ true = ap is_ge (sym c.cmp.ensures) ∙ sym c.is_ge.ensures ∙ c.if-is_ge.true in
    let are : key_cmp key next ≡ key_cmp (get_or keys (i - 1) key) (get_or keys i key) =
    λ j. key_cmp ((c.index-keys-i.is ∙ get_or_default keys (i - 1) key key before) j) ((c.index-keys-i-in-loop-i.is ∙ get_or_default keys i next key c.loop-i-test.true) j) in
    let on : suc (i - 1) ≡ i = omega (arith, some) in
    let within : suc (i - 1) < length keys = omega (arith, some, c.loop-i-test.true) in (
      (λ no. absurd (clash no)),
      (λ sorted. absurd (apart (key_cmp key next) not_less (are ∙ (λ j. key_cmp (get_or keys (i - 1) key) (get_or keys (sym on j) key)) ∙ below_next keys (i - 1) key sorted within))),
    )

pub returns : goal.returns
returns c = (
  (λ yes. rising c.args.keys.now (λ k d lt. c.loop-i.invariant k d (omega (arith, lt, c.loop-i-test.false)))),
  (λ sorted. refl),
)
