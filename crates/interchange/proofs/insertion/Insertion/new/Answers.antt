use Rattle.std.proofs.Common.{Some, None, refl, ◌≡◌, false, [], Option}
use Rattle.values.specs.declared.period.Period.{Period}
use Rattle.values.specs.Write.{has_bad_span}
use Rattle.interchange.proofs.insertion.Insertion.new.Goals as goal

none_bad : (period : Option Period) → false ≡ has_bad_span period []
none_bad None = refl
none_bad (Some p) = refl

pub returns : goal.returns
returns c = λ table. record {
  fit = refl;
  bad = none_bad table.period;
  keyed = λ _. record { apart = refl; keys = c.new-2.ensures table; spans = c.new-3.ensures table.period; kept = λ _. c.new.ensures.items };
}
