use Rattle.std.proofs.Common.{ℕ, List, Result, ap, inr}
use Rattle.std.specs.Prelude.{is_some}
use Rattle.values.specs.declared.refusal.Refusal.{Refusal}
use Rattle.values.specs.Log.{Row}
use Rattle.interchange.specs.Load.{vec_items}
use Rattle.interchange.specs.Loading.{IsReadTo, IsWholeOf}
use Rattle.interchange.proofs.InsertionCome.{on_err}
use Rattle.interchange.proofs.LoadingReads.{err_items, none_of, ok_items, whole_of}
use Rattle.interchange.proofs.loading.Loading.finish.Goals as goal

abbrev Says : goal.Joined-self-6 → Result (List Row) Refusal → Type 0
Says c r = (text : List ℕ) → IsReadTo c.args.table.now text c.args.self → IsWholeOf c.args.table.now text r

said : (c : goal.Joined-self-6) → Says c (vec_items c.finish.result)
said c = λ text read. whole_of c.args.table.now text c.close.new.self (vec_items c.finish.result) (ap is_some c.in-Some.is) c.finish.ensures (c.in-Ok.ensures.ok text read)

pub returns-in-Some-clause-ok : goal.returns-in-Some-clause-ok
returns-in-Some-clause-ok c = ok_items (Says c) c.finish.result (said c)

pub returns-in-Some-clause-err : goal.returns-in-Some-clause-err
returns-in-Some-clause-err c = on_err c.finish.result (err_items (Says c) c.finish.result (said c)) (λ why h text read. inr (h text read))

pub returns-in-None-clause-err : goal.returns-in-None-clause-err
returns-in-None-clause-err c = λ text read. inr (none_of c.args.table.now text c.close.new.self c.in-None.is (c.in-Ok.ensures.ok text read))
