use Rattle.std.proofs.Common.{◌≡◌, ◌∙◌, [], ◌∷◌, Bool, true, false, Some, None, refl, sym, ap, cond, is_some}
use Rattle.std.specs.Option.{option_to_list}
use Rattle.values.specs.Event.{Event}
use Rattle.eventlist.proofs.KeyGroupJumps.{none_lasting, one_stands}
use Rattle.eventlist.proofs.key_group.standing_of.Goals as goal

pub returns-then-place-eq0 : goal.returns-then-place-eq0
returns-then-place-eq0 c = sym (none_lasting c.args.events.now c.args.instant c.place_until-place.result c.if-place-eq0.true c.place_until-place.ensures.first)

listed : (e : Event) (b : Bool) → option_to_list (cond b (Some e) None) ≡ cond b (e ∷ []) []
listed e true = refl
listed e false = refl

pub returns : goal.returns
returns c =
    ap option_to_list c.with_row.ensures ∙ listed c.index-events-place.result (is_some c.index-events-place.result.row)
    ∙ sym (one_stands c.args.events.now c.args.instant c.place_until-place.result c.index-events-place.result c.if-place-eq0.false c.requires.sorted c.requires.one_key c.place_until-place.ensures.bound c.place_until-place.ensures.first c.index-events-place.is)
