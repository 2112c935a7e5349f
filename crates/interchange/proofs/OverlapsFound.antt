-- The first row that overlaps an earlier one of its entity, by the spans of the rows before it.
use Rattle.std.proofs.Common.{◌≡◌, ◌&&◌, ◌||◌, Bool, true, false, cond, List, [], ◌∷◌, ◌++◌, Option, Some, None, refl, sym, ap, ◌∙◌, subst, map, filter, append-nil, append_assoc, if◌then◌else◌, is_some}
use Rattle.std.specs.Prelude.{MatchBool, unwrap_or}
use Rattle.std.proofs.lemmas.List.{map-append}
use Rattle.std.proofs.lemmas.List.Folds.{list_any-append}
use Rattle.std.proofs.lemmas.List.Elements.{filter-append}
use Rattle.std.specs.List.{list_any}
use Rattle.std.specs.Ordering.{is_eq}
use Rattle.std.specs.declared.cmp.Ordering.{Ordering}
use Rattle.std.specs.declared.cmp.Ordering.TheVariants.{Less, Equal, Greater}
use Rattle.values.specs.declared.key.Key.{Key}
use Rattle.values.specs.declared.period.Period.{Period}
use Rattle.values.specs.declared.period.Span.{Span}
use Rattle.values.specs.Entity.{entity_of, clash_by}
use Rattle.values.specs.Log.{Row, State}
use Rattle.values.specs.Order.{key_cmp, is_key}
use Rattle.values.specs.Period.{is_span, span_of, overlap}
use Rattle.values.specs.Writes.{overlap_from}
use Rattle.values.proofs.OrderTotal.{key_cmp-IsAntisymmetric}
use Rattle.interchange.specs.declared.apart_spans.ApartSpans.{ApartSpans}
use Rattle.interchange.specs.declared.overlaps.Overlaps.{Overlaps}
use Rattle.interchange.specs.ApartSpans.{AreInTurn, HasOneMore, spans_in}
use Rattle.interchange.specs.Overlaps.{AreKept, AreProper, HasSpans, spans_at, spans_of}

-- ---- one more row

none_clashes : (d : Key × Row) (m : State) → list_any (clash_by None d) m ≡ false
none_clashes d [] = refl
none_clashes d (e ∷ m) = none_clashes d m

-- without a period no rows overlap
pub apart_without : (m rows : State) → overlap_from None m rows ≡ None
apart_without m [] = refl
apart_without m (e ∷ rows) =
    ap (λ (b : Bool). if b then Some e.0 else overlap_from None (m ++ e ∷ []) rows) (none_clashes e m) ∙ apart_without (m ++ e ∷ []) rows

overlap_stays : (p : Option Period) (m rows : State) (d : Key × Row) (k : Key) → overlap_from p m rows ≡ Some k → overlap_from p m (rows ++ d ∷ []) ≡ Some k
overlap_stays p m [] d k h = cc h
overlap_stays p m (e ∷ rows) d k h = by (list_any (clash_by p e) m) h (overlap_stays p (m ++ e ∷ []) rows d k)
  where
    by : (b : Bool) → ◌≡◌ {A = Option Key} (if b then Some e.0 else overlap_from p (m ++ e ∷ []) rows) (Some k)
        → (overlap_from p (m ++ e ∷ []) rows ≡ Some k → overlap_from p (m ++ e ∷ []) (rows ++ d ∷ []) ≡ Some k)
        → ◌≡◌ {A = Option Key} (if b then Some e.0 else overlap_from p (m ++ e ∷ []) (rows ++ d ∷ [])) (Some k)
    by true h more = h
    by false h more = more h

abbrev found_at : Key → Bool → Option Key
found_at k b = if b then Some k else None

overlap_last : (p : Option Period) (m rows : State) (d : Key × Row) → overlap_from p m rows ≡ None → overlap_from p m (rows ++ d ∷ []) ≡ found_at d.0 (list_any (clash_by p d) (m ++ rows))
overlap_last p m [] d h = ap (λ (l : State). found_at d.0 (list_any (clash_by p d) l)) (sym (append-nil m))
overlap_last p m (e ∷ rows) d h = by (list_any (clash_by p e) m) h (overlap_last p (m ++ e ∷ []) rows d)
  where
    by : (b : Bool) → ◌≡◌ {A = Option Key} (if b then Some e.0 else overlap_from p (m ++ e ∷ []) rows) None
        → (overlap_from p (m ++ e ∷ []) rows ≡ None → overlap_from p (m ++ e ∷ []) (rows ++ d ∷ []) ≡ found_at d.0 (list_any (clash_by p d) ((m ++ e ∷ []) ++ rows)))
        → ◌≡◌ {A = Option Key} (if b then Some e.0 else overlap_from p (m ++ e ∷ []) (rows ++ d ∷ [])) (found_at d.0 (list_any (clash_by p d) (m ++ e ∷ rows)))
    by true h more = cc h
    by false h more = more h ∙ ap (λ (l : State). found_at d.0 (list_any (clash_by p d) l)) (append_assoc m (e ∷ []) rows)

-- ---- a row against the spans of its entity

any_span : (p : Period) (k : Key) (s : Span) (rows : State) → list_any (λ e. is_key k (entity_of e.0) && overlap s (span_of p e.1)) rows ≡ list_any (overlap s) (spans_of (Some p) k rows)
any_span p k s [] = refl
any_span p k s (e ∷ rows) = by (is_key k (entity_of e.0)) (any_span p k s rows)
  where
    by : (b : Bool) → list_any (λ e. is_key k (entity_of e.0) && overlap s (span_of p e.1)) rows ≡ list_any (overlap s) (spans_of (Some p) k rows)
        → ((b && overlap s (span_of p e.1)) || list_any (λ e. is_key k (entity_of e.0) && overlap s (span_of p e.1)) rows)
        ≡ list_any (overlap s) (map (λ e. span_of p e.1) (cond b (e ∷ filter (λ e. is_key k (entity_of e.0)) rows) (filter (λ e. is_key k (entity_of e.0)) rows)))
    by true more = ap (λ r. overlap s (span_of p e.1) || r) more
    by false more = more

abbrev spans_if : Span → Bool → List Span
spans_if s b = if b then s ∷ [] else []

spans_last : (p : Period) (k : Key) (rows : State) (d : Key × Row) → spans_of (Some p) k (rows ++ d ∷ []) ≡ spans_of (Some p) k rows ++ spans_if (span_of p d.1) (is_key k (entity_of d.0))
spans_last p k rows d =
    ap (map (λ (e : Key × Row). span_of p e.1)) (filter-append (λ e. is_key k (entity_of e.0)) rows (d ∷ []))
    ∙ map-append (λ (e : Key × Row). span_of p e.1) (filter (λ e. is_key k (entity_of e.0)) rows) (filter (λ e. is_key k (entity_of e.0)) (d ∷ []))
    ∙ ap (λ l. spans_of (Some p) k rows ++ l) (by (is_key k (entity_of d.0)))
  where
    by : (b : Bool) → map (λ (e : Key × Row). span_of p e.1) (cond b (d ∷ []) []) ≡ spans_if (span_of p d.1) b
    by true = refl
    by false = refl

-- ---- what has come

first_none : (f : Option Key) → is_some f ≡ false → f ≡ None
first_none None h = refl
first_none (Some k) h = cc h

-- without a period
pub spans_without : (period : Option Period) (rows : State) (d : Key × Row) (o : Overlaps) → period ≡ None → HasSpans period rows o → HasSpans period (rows ++ d ∷ []) o
spans_without period rows d o at has = subst (λ p. HasSpans p rows o → HasSpans p (rows ++ d ∷ []) o) (sym at) by has
  where
    by : HasSpans None rows o → HasSpans None (rows ++ d ∷ []) o
    by has = record {
      first = λ _. has.first tt ∙ apart_without [] rows ∙ sym (apart_without [] (rows ++ d ∷ []));
      kept = λ _. has.kept tt;
    }

proper_rows : (period : Option Period) (rows : State) (d : Key × Row) → AreProper period (rows ++ d ∷ []) → AreProper period rows
proper_rows None rows d proper = tt
proper_rows (Some p) [] d proper = tt
proper_rows (Some p) (e ∷ rows) d proper = (proper.0, proper_rows (Some p) rows d proper.1)

proper_last : (p : Period) (rows : State) (d : Key × Row) → AreProper (Some p) (rows ++ d ∷ []) → is_span (span_of p d.1) ≡ true
proper_last p [] d proper = proper.0
proper_last p (e ∷ rows) d proper = proper_last p rows d proper.1

some_is : (f : Option Key) → is_some f ≡ true → (k : Key) × (f ≡ Some k)
some_is None some = cc some
some_is (Some k) some = (k, refl)

none_is_not : (f : Option Key) → is_some f ≡ true → f ≡ None → ⊥
none_is_not None some none = cc some
none_is_not (Some k) some none = cc none

-- an earlier row overlaps
pub spans_after : (period : Option Period) (rows : State) (d : Key × Row) (o : Overlaps) → is_some o.first ≡ true → HasSpans period rows o → HasSpans period (rows ++ d ∷ []) o
spans_after period rows d o some has =
    let found = some_is o.first some in
    record {
      first = λ proper. found.1 ∙ sym (overlap_stays period [] rows d found.0 (sym (has.first (proper_rows period rows d proper)) ∙ found.1));
      kept = λ proper none. absurd (none_is_not o.first some none);
    }

-- the spans that came, and one more
more_kept : (came old new : List Span) (s : Span) → AreKept came old → HasOneMore old s new → AreKept (came ++ s ∷ []) new
more_kept came old new s kept more = record {
  in_turn = more.in_turn;
  same = λ q. more.any q
      ∙ ap (λ b. b || overlap q s) (kept.same q)
      ∙ ap (λ b. list_any (overlap q) came || b) (sym (alone (overlap q s)))
      ∙ sym (list_any-append (overlap q) came (s ∷ []));
}
  where
    alone : (b : Bool) → (b || false) ≡ b
    alone true = refl
    alone false = refl

-- the row's span was taken
pub spans_taken : (period : Option Period) (p : Period) (rows : State) (d : Key × Row) (s : Span) (old new : Overlaps) → period ≡ Some p → is_some old.first ≡ false → s ≡ span_of p d.1
    → (AreInTurn (spans_at old (entity_of d.0)) → new.first ≡ (if list_any (overlap s) (spans_at old (entity_of d.0)) then Some d.0 else None))
    → (new.first ≡ None → is_span s ≡ true → AreInTurn (spans_at old (entity_of d.0)) → (entity : Key) → MatchBool (is_key entity (entity_of d.0)) (HasOneMore (spans_at old entity) s (spans_at new entity)) (spans_at new entity ≡ spans_at old entity))
    → HasSpans period rows old → HasSpans period (rows ++ d ∷ []) new
spans_taken period p rows d s old new at none span_is first kept has =
    subst (λ o. HasSpans o rows old → HasSpans o (rows ++ d ∷ []) new) (sym at) by has
  where
    unfound : old.first ≡ None
    unfound = first_none old.first none

    kept_by : (entity : Key) (b : Bool) → MatchBool b (HasOneMore (spans_at old entity) s (spans_at new entity)) (spans_at new entity ≡ spans_at old entity) → AreKept (spans_of (Some p) entity rows) (spans_at old entity)
        → AreKept (spans_of (Some p) entity rows ++ spans_if s b) (spans_at new entity)
    kept_by entity true more were = more_kept (spans_of (Some p) entity rows) (spans_at old entity) (spans_at new entity) s were more
    kept_by entity false same were =
        subst (λ (l : List Span). AreKept l (spans_at new entity)) (sym (append-nil (spans_of (Some p) entity rows)))
        (subst (AreKept (spans_of (Some p) entity rows)) (sym same) were)

    by : HasSpans (Some p) rows old → HasSpans (Some p) (rows ++ d ∷ []) new
    by has = record {
      first = λ proper.
          let before = proper_rows (Some p) rows d proper in
          let were = has.kept before unfound (entity_of d.0) in
          first were.in_turn
          ∙ ap (found_at d.0) (were.same s)
          ∙ ap (λ s. found_at d.0 (list_any (overlap s) (spans_of (Some p) (entity_of d.0) rows))) span_is
          ∙ ap (found_at d.0) (sym (any_span p (entity_of d.0) (span_of p d.1) rows))
          ∙ sym (overlap_last (Some p) [] rows d (sym (has.first before) ∙ unfound));
      kept = λ proper still entity.
          let before = proper_rows (Some p) rows d proper in
          let is_proper : is_span s ≡ true = ap is_span span_is ∙ proper_last p rows d proper in
          let more = kept still is_proper (has.kept before unfound (entity_of d.0)).in_turn entity in
          subst (λ (l : List Span). AreKept l (spans_at new entity))
          (ap (λ s. spans_of (Some p) entity rows ++ spans_if s (is_key entity (entity_of d.0))) span_is ∙ sym (spans_last p entity rows d))
          (kept_by entity (is_key entity (entity_of d.0)) more (has.kept before unfound entity));
    }

-- ---- the spans of an entity, put back with one more

-- keys that are one are equal
same_key : (k l : Key) → is_key k l ≡ true → k ≡ l
same_key k l is = by (key_cmp k l) refl is
  where
    by : (o : Ordering) → key_cmp k l ≡ o → is_eq o ≡ true → k ≡ l
    by Less at is = cc is
    by Equal at is = key_cmp-IsAntisymmetric k l at
    by Greater at is = cc is

pub key_turned : (k l : Key) → is_key k l ≡ is_key l k
key_turned k l = by (is_key k l) (is_key l k) refl refl
  where
    by : (a b : Bool) → is_key k l ≡ a → is_key l k ≡ b → a ≡ b
    by true true p q = refl
    by false false p q = refl
    by true false p q = let same = same_key k l p in sym p ∙ ap (is_key k) (sym same) ∙ ap (λ x. is_key x k) same ∙ q
    by false true p q = let same = same_key l k q in sym p ∙ ap (is_key k) same ∙ ap (λ x. is_key x k) (sym same) ∙ q

abbrev pub kept_in : Option ApartSpans → List Span
kept_in kept = elim kept [ None ↦ [] | Some spans ↦ spans_in spans ]

pub taken_out : (kept : Option ApartSpans) (none spans : ApartSpans) → spans_in none ≡ [] → spans ≡ unwrap_or kept none → spans_in spans ≡ kept_in kept
taken_out None none spans empty is = ap spans_in is ∙ empty
taken_out (Some v) none spans empty is = ap spans_in is

-- the spans of an entity were taken out, and put back with one more
pub put_back : (e k : Key) (s : Span) (before between after : Key → Option ApartSpans) (spans : ApartSpans) → ((q : Key) → between q ≡ cond (is_key e q) None (before q))
    → ((q : Key) → after q ≡ cond (is_key e q) (Some spans) (between q)) → HasOneMore (kept_in (before e)) s (spans_in spans) → e ≡ k
    → (q : Key) → MatchBool (is_key q k) (HasOneMore (kept_in (before q)) s (kept_in (after q))) (kept_in (after q) ≡ kept_in (before q))
put_back e k s before between after spans out put more same q = by (is_key e q) refl
  where
    turned : is_key q k ≡ is_key e q
    turned = ap (is_key q) (sym same) ∙ key_turned q e

    by : (b : Bool) → is_key e q ≡ b → MatchBool (is_key q k) (HasOneMore (kept_in (before q)) s (kept_in (after q))) (kept_in (after q) ≡ kept_in (before q))
    by true is =
        let now : kept_in (after q) ≡ spans_in spans = ap kept_in (put q ∙ ap (λ b. cond b (Some spans) (between q)) is) in
        let were : kept_in (before e) ≡ kept_in (before q) = ap (λ x. kept_in (before x)) (same_key e q is) in
        subst (λ b. MatchBool b (HasOneMore (kept_in (before q)) s (kept_in (after q))) (kept_in (after q) ≡ kept_in (before q))) (sym (turned ∙ is))
        (subst (HasOneMore (kept_in (before q)) s) (sym now) (subst (λ (l : List Span). HasOneMore l s (spans_in spans)) were more))
    by false is =
        subst (λ b. MatchBool b (HasOneMore (kept_in (before q)) s (kept_in (after q))) (kept_in (after q) ≡ kept_in (before q))) (sym (turned ∙ is))
        (ap kept_in (put q ∙ ap (λ b. cond b (Some spans) (between q)) is ∙ out q ∙ ap (λ b. cond b None (before q)) is))
