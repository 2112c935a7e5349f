use Rattle.std.proofs.Common.{rules, ◌≡◌, [], ◌∷◌, length, refl, All, sym, subst}
use Rattle.std.proofs.lemmas.List.Elements.{All-nil, All-cons}
use Rattle.values.specs.TableRules.{HasInstants}
use Rattle.transaction_tests.proofs.PeriodTestsTable.{good}
use Rattle.transaction_tests.proofs.period_tests.tariffs.Goals as goal

pub returns : goal.returns
returns c =
    let one = c.in_ok-number_column.field-0 in
    let two = c.in_ok-number_column-2.field-0 in
    let three = c.in_ok-number_column-3.field-0 in
    let four = c.in_ok-number_column-4.field-0 in
    let wide : length c.new.result ≡ 4 = search rules in
    let key : c.new-2.result ≡ 1 ∷ 2 ∷ [] = search rules in
    let are : c.new.result ≡ c.in_ok-number_column.field-0 ∷ c.in_ok-number_column-2.field-0 ∷ c.in_ok-number_column-3.field-0 ∷ c.in_ok-number_column-4.field-0 ∷ [] = search rules in
    let whole : All HasInstants c.new.result =
    subst (All HasInstants) (sym are)
    (All-cons HasInstants one (two ∷ three ∷ four ∷ []) c.in_ok-number_column.ensures
    (All-cons HasInstants two (three ∷ four ∷ []) c.in_ok-number_column-2.ensures
    (All-cons HasInstants three (four ∷ []) c.in_ok-number_column-3.ensures
    (All-cons HasInstants four [] c.in_ok-number_column-4.ensures (All-nil HasInstants))))) in
    good _ _ whole wide key refl refl refl refl
