use Rattle.std.proofs.Common.{◌∙◌, ap, sym}
use Rattle.listening.specs.Request.{may_become}
use Rattle.listening.proofs.HeadShown.{not_begun}
use Rattle.listening.proofs.head.is_unshown.Goals as goal

pub returns-then-not-is_full-clause-shown : goal.returns-then-not-is_full-clause-shown
returns-then-not-is_full-clause-shown c = λ none more. not_begun c.args.head.now.items more (ap may_become (sym c.as_slice.ensures.value) ∙ sym c.may_become.ensures ∙ none)
