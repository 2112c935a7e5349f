-- Changes are told apart by their events.
use Rattle.std.proofs.Common.{◌≡◌, List, [], ◌∷◌, Option, refl, sym, ap, ◌∙◌}
use Rattle.std.proofs.lemmas.List.Elements.{All-head, All-tail}
use Rattle.std.proofs.lemmas.Cmp.{tied_itself}
use Rattle.std.specs.Map.{keys_of}
use Rattle.std.specs.Ordering.{is_eq}
use Rattle.values.specs.Event.{Event}
use Rattle.values.specs.declared.key.Key.{Key}
use Rattle.values.specs.declared.key.Point.{Point}
use Rattle.values.specs.Tables.{Schema}
use Rattle.values.specs.Log.{Changes, Row}
use Rattle.values.specs.KeyEncoding.{bytes_of_key}
use Rattle.values.specs.Events.{is_bytes, event_of, events_of, IsKeyIn, AreChangesIn}
use Rattle.values.proofs.EventKeys.{same_key as by_bytes}
use Rattle.values.proofs.OrderTotal.{key_cmp_total}
use Rattle.serving.proofs.staging.StagedEntries.{same_key}

module _ (schema : Schema) where
  abbrev In : Point → Type 0
  In p = IsKeyIn schema p.key

  key_told : (k l : Key) → IsKeyIn schema k → IsKeyIn schema l → bytes_of_key k ≡ bytes_of_key l → k ≡ l
  key_told k l its other same =
      same_key k l
      (sym (by_bytes schema k l its other)
      ∙ ap (is_bytes (bytes_of_key k)) (sym same)
      ∙ by_bytes schema k k its its
      ∙ ap is_eq (tied_itself key_cmp_total k))

  one_told : (c d : Point × Option Row) → In c.0 → In d.0 → event_of c ≡ event_of d → c ≡ d
  one_told c d its other same =
      let key : c.0.key ≡ d.0.key = key_told c.0.key d.0.key its other (ap (λ (e : Event). e.key) same) in
      let at : c.0.instant ≡ d.0.instant = ap (λ (e : Event). e.at) same in
      let row : c.1 ≡ d.1 = ap (λ (e : Event). e.row) same in
      λ k. (record { key = key k; instant = at k }, row k)

  first_same : (d e : Event) (ds es : List Event) → ◌≡◌ {A = List Event} (d ∷ ds) (e ∷ es) → d ≡ e
  first_same d e ds es same = cc

  rest_same : (d e : Event) (ds es : List Event) → ◌≡◌ {A = List Event} (d ∷ ds) (e ∷ es) → ds ≡ es
  rest_same d e ds es same = cc

  pub told_apart : (m n : Changes) → AreChangesIn schema m → AreChangesIn schema n → events_of m ≡ events_of n → m ≡ n
  told_apart [] [] its other same = refl
  told_apart [] (d ∷ ds) its other same = absurd (cc)
  told_apart (c ∷ cs) [] its other same = absurd (cc)
  told_apart (c ∷ cs) (d ∷ ds) its other same =
      let one = one_told c d (All-head In c.0 (keys_of cs) its) (All-head In d.0 (keys_of ds) other) (first_same (event_of c) (event_of d) (events_of cs) (events_of ds) same) in
      let rest = told_apart cs ds (All-tail In c.0 (keys_of cs) its) (All-tail In d.0 (keys_of ds) other) (rest_same (event_of c) (event_of d) (events_of cs) (events_of ds) same) in
      λ k. one k ∷ rest k
