-- A plain query of all that was committed lists the rows that it leaves.
use Rattle.std.proofs.Common.{◌≡◌, ℕ, Bool, true, false, cond, ◌&&◌, List, [], ◌∷◌, refl, sym, ap, ◌∙◌, filter, map}
use Rattle.values.specs.declared.key.Key.{Key}
use Rattle.values.specs.declared.table.Table.{Table}
use Rattle.values.specs.declared.query.Form.TheVariants.{Plain}
use Rattle.values.specs.declared.query.Keys.{Keys}
use Rattle.values.specs.Tables.{full_row}
use Rattle.values.specs.Log.{Log, State, Row, upto, state, changes}
use Rattle.values.specs.Law.{IsLog}
use Rattle.values.specs.Versions.{Version, versions, selects, matches, answer, shown_version}
use Rattle.values.proofs.LawAsOf.{state_is_current}
use Rattle.steps.specs.Listing.{rows_of, rows_taken}

abbrev pairs : List Version → State
pairs vs = map (λ v. (v.key, v.row)) vs

module _ (table : Table) (is : Key → Bool) where
  abbrev taken : State → List Row
  taken m = map (λ e. full_row table e.1) (filter (λ e. is e.0) m)

  taken_by : (b c : Bool) (v : Version) (xs ys : List Version) → is v.key ≡ b → rows_of (map (shown_version table) xs) ≡ taken (pairs ys)
      → rows_of (map (shown_version table) (cond (b && c) (v ∷ xs) xs)) ≡ taken (pairs (cond c (v ∷ ys) ys))
  taken_by true true v xs ys e rest = ap (λ l. full_row table v.row ∷ l) rest ∙ sym (ap (λ b. map (λ e. full_row table e.1) (cond b ((v.key, v.row) ∷ filter (λ e. is e.0) (pairs ys)) (filter (λ e. is e.0) (pairs ys)))) e)
  taken_by true false v xs ys e rest = rest
  taken_by false true v xs ys e rest = rest ∙ sym (ap (λ b. map (λ e. full_row table e.1) (cond b ((v.key, v.row) ∷ filter (λ e. is e.0) (pairs ys)) (filter (λ e. is e.0) (pairs ys)))) e)
  taken_by false false v xs ys e rest = rest

  all_taken : (vs : List Version) → rows_of (map (shown_version table) (filter (λ v. is v.key && selects Plain v.from v.to) vs)) ≡ taken (pairs (filter (λ v. selects Plain v.from v.to) vs))
  all_taken [] = refl
  all_taken (v ∷ vs) = taken_by (is v.key) (selects Plain v.from v.to) v _ _ refl (all_taken vs)

pub plain_shows_state : (log : Log) (t : ℕ) (table : Table) (keys : Keys) → IsLog log → rows_of (answer (changes (upto log t)) table Plain keys) ≡ rows_taken table keys (state log t)
plain_shows_state log t table keys rises =
    all_taken table (matches table keys) (versions (changes (upto log t)))
    ∙ ap (rows_taken table keys) (sym (state_is_current log t rises))
