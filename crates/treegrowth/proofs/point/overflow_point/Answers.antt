use Rattle.std.proofs.Common.{◌∙◌, ◌<◌, sym, ap, subst, length}
use Rattle.std.proofs.lemmas.Bool.{false≢true}
use Rattle.std.specs.Prelude.{IfSome, option_copied}
use Rattle.keyrange.specs.Cut.{halves_by_key}
use Rattle.datanode.specs.Cut.{cut}
use Rattle.treegrowth.specs.declared.point.SplitPoint.TheVariants.{Key}
use Rattle.treegrowth.specs.Point.{HalvesFit}
use Rattle.treegrowth.proofs.PointFits.{fits_by_time, fits_by_key, one_key_by_time}
use Rattle.treegrowth.proofs.point.overflow_point.Goals as goal

pub returns-then-is_split_by_time-clause-fit : goal.returns-then-is_split_by_time-clause-fit
returns-then-is_split_by_time-clause-fit c = fits_by_time c.args.node.now c.events-events.ensures.node c.requires.full c.args.last c.requires.amid.some (sym c.is_split_by_time.ensures ∙ c.if-is_split_by_time.true)

pub unreachable-requires : goal.unreachable-requires
unreachable-requires c =
    let no = sym c.is_split_by_time.ensures ∙ c.if-is_split_by_time.false in
    let yes = one_key_by_time c.args.node.now c.events-events.ensures.node c.requires.full c.args.last c.requires.amid (c.middle_key.ensures.none.0 (ap option_copied c.in-None.is)) in
    false≢true (sym no ∙ yes)

pub returns-clause-fit : goal.returns-clause-fit
returns-clause-fit c =
    let n = c.args.node.now in
    let both : IfSome (halves_by_key n.rect c.in-Some.key.now) (λ h. (0 < length (cut h.0 n.events)) × (0 < length (cut h.1 n.events))) =
    subst (λ o. IfSome o (λ k. IfSome (halves_by_key n.rect k) (λ h. (0 < length (cut h.0 n.events)) × (0 < length (cut h.1 n.events))))) (ap option_copied c.in-Some.is) c.middle_key.ensures.both in
    subst (λ k. HalvesFit n (Key k)) (sym c.in_ok-copy-in-Some.ensures.ok) (fits_by_key n c.events-events.ensures.node c.requires.full c.in-Some.key.now both)
