use Rattle.std.proofs.Common.{[], refl}
use Rattle.csv.specs.declared.parser.State.TheVariants as state
use Rattle.interchange.proofs.OpenRecordText.{records_from_start}
use Rattle.interchange.proofs.loading.Loading.new.Goals as goal

pub returns : goal.returns
returns c = record {
  records = [];
  state_is = state.StartRecord;
  fields = [];
  field = [];
  at = c.new.ensures;
  taken = (refl, c.new-2.ensures c.args.table.now);
  goes_on = λ rest more from. records_from_start state.StartRecord rest more from;
}
