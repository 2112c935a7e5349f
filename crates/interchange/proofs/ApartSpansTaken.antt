-- A span against those that are in turn, and one more among them.
use Rattle.std.proofs.Common.{◌≡◌, ◌&&◌, ◌||◌, Bool, true, false, cond, ℤ, int_lt, int_le, ◌<ℤ◌, List, [], ◌∷◌, ◌++◌, refl, sym, ap, ◌∙◌, subst, arith, map, filter, not}
use Rattle.std.proofs.lemmas.Cmp.{int_ranked}
use Rattle.std.proofs.lemmas.Int.{ints}
use Rattle.std.specs.BTreeMap.{insert_entry}
use Rattle.std.specs.List.{AllByRecursion, list_any}
use Rattle.std.specs.Ordering.{int_cmp, is_le, match_ordering, MatchOrdering}
use Rattle.std.specs.declared.cmp.Ordering.{Ordering}
use Rattle.std.specs.declared.cmp.Ordering.TheVariants.{Less, Equal, Greater}
use Rattle.values.specs.declared.period.Span.{Span}
use Rattle.values.specs.Period.{is_span, overlap}
use Rattle.interchange.specs.ApartSpans.{AreInTurn, HasOneMore, span_at}

-- a start with its end
abbrev pub Entry : Type 0
Entry = ℤ × ℤ

-- ---- tests

and_off : (a b : Bool) → b ≡ false → (a && b) ≡ false
and_off true b is = is
and_off false b is = refl

and_on : (a b : Bool) → b ≡ true → (a && b) ≡ a
and_on true b is = is
and_on false b is = refl

or_off : (a b : Bool) → a ≡ false → b ≡ false → (a || b) ≡ false
or_off a b first second = λ i. first i || second i

or_false : (a : Bool) → (a || false) ≡ a
or_false true = refl
or_false false = refl

or_turned : (a b : Bool) → (a || b) ≡ (b || a)
or_turned true true = refl
or_turned true false = refl
or_turned false true = refl
or_turned false false = refl

or_assoc : (a b c : Bool) → (a || (b || c)) ≡ ((a || b) || c)
or_assoc true b c = refl
or_assoc false b c = refl

first_off : (a b : Bool) → (a || b) ≡ false → a ≡ false
first_off true b is = cc is
first_off false b is = refl

second_off : (a b : Bool) → (a || b) ≡ false → b ≡ false
second_off true b is = cc is
second_off false b is = is

no_last : (t : List Entry) (e : Entry) → [] ≡ t ++ e ∷ [] → ⊥
no_last [] e is = cc is
no_last (y ∷ t) e is = cc is

-- ---- numbers

absorbed : (a b c : ℤ) → int_lt b c ≡ true → (int_lt a b || int_lt a c) ≡ int_lt a c
absorbed a b c h = grind (arith, ints)

later : (a b c : ℤ) → int_le a b ≡ true → int_lt b c ≡ true → int_lt a c ≡ true
later a b c upto below = grind (arith, ints)

through : (a b c : ℤ) → int_le a b ≡ true → int_le b c ≡ true → int_le a c ≡ true
through a b c first second = grind (arith, ints)

upto_end : (a b c : ℤ) → int_le a b ≡ true → int_lt b c ≡ true → int_le a c ≡ true
upto_end a b c upto below = grind (arith, ints)

-- of one span from a to b, and another from c to d

meet : (a b c d : ℤ) → int_lt a b ≡ true → int_lt c d ≡ true → a ≡ c → (int_lt a d && int_lt c b) ≡ false → ⊥
meet a b c d first second same apart = grind (arith, ints)

ends_before : (a b c d : ℤ) → a <ℤ c → int_lt c d ≡ true → (int_lt a d && int_lt c b) ≡ false → int_le b c ≡ true
ends_before a b c d order second apart = grind (arith, ints)

starts_behind : (a b c d : ℤ) → c <ℤ a → int_lt a b ≡ true → (int_lt a d && int_lt c b) ≡ false → int_le d a ≡ true
starts_behind a b c d order first apart = grind (arith, ints)

-- ---- what starts below an end

abbrev pub starts_below : ℤ → Entry → Bool
starts_below to e = true && not (is_le (int_cmp to e.0))

below_is : (to start : ℤ) → (true && not (is_le (int_cmp to start))) ≡ int_lt start to
below_is to start = by (int_cmp to start) (int_ranked to start (int_cmp to start) refl)
  where
    by : (o : Ordering) → MatchOrdering o (to <ℤ start) (to ≡ start) (start <ℤ to) → (true && not (is_le o)) ≡ int_lt start to
    by Less h = grind (arith, ints)
    by Equal h = grind (arith, ints)
    by Greater h = grind (arith, ints)

past_end : (s : Span) (x : Entry) → starts_below s.to x ≡ false → overlap s (span_at x) ≡ false
past_end s x past = and_off (int_lt s.from x.1) (int_lt x.0 s.to) (sym (below_is s.to x.0) ∙ past)

before_end : (s : Span) (x : Entry) → starts_below s.to x ≡ true → overlap s (span_at x) ≡ int_lt s.from x.1
before_end s x below = and_on (int_lt s.from x.1) (int_lt x.0 s.to) (sym (below_is s.to x.0) ∙ below)

-- nothing starts below the end
pub none_overlaps : (s : Span) (es : List Entry) → filter (starts_below s.to) es ≡ [] → list_any (overlap s) (map span_at es) ≡ false
none_overlaps s [] none = refl
none_overlaps s (x ∷ es) none = by (starts_below s.to x) refl none (none_overlaps s es)
  where
    by : (b : Bool) → starts_below s.to x ≡ b → cond b (x ∷ filter (starts_below s.to) es) (filter (starts_below s.to) es) ≡ [] → (filter (starts_below s.to) es ≡ [] → list_any (overlap s) (map span_at es) ≡ false)
        → (overlap s (span_at x) || list_any (overlap s) (map span_at es)) ≡ false
    by true is none others = cc none
    by false is none others = or_off (overlap s (span_at x)) (list_any (overlap s) (map span_at es)) (past_end s x is) (others none)

-- one that passes a test and starts behind an end has a later end
later_end : (end : ℤ) (p : Entry → Bool) (es t : List Entry) (e : Entry) → AllByRecursion (λ (s : Span). int_le end s.from ≡ true) (map span_at es) → AreInTurn (map span_at es) → filter p es ≡ t ++ e ∷ [] → int_lt end e.1 ≡ true
later_end end p [] t e behind turn is = absurd (no_last t e is)
later_end end p (x ∷ es) t e behind turn is = by (p x) t is (λ t. later_end end p es t e behind.1 turn.2)
  where
    by : (b : Bool) (t : List Entry) → cond b (x ∷ filter p es) (filter p es) ≡ t ++ e ∷ [] → ((t : List Entry) → filter p es ≡ t ++ e ∷ [] → int_lt end e.1 ≡ true) → int_lt end e.1 ≡ true
    by false t is others = others t is
    by true [] is others =
        let same : x ≡ e = cc is in
        subst (λ (d : Entry). int_lt end d.1 ≡ true) same (later end x.0 x.1 behind.0 turn.0)
    by true (y ∷ t) is others =
        let rest : filter p es ≡ t ++ e ∷ [] = cc is in
        others t rest

-- of those that start below the end, the last one ends last
pub last_overlaps : (s : Span) (es t : List Entry) (e : Entry) → AreInTurn (map span_at es) → filter (starts_below s.to) es ≡ t ++ e ∷ [] → list_any (overlap s) (map span_at es) ≡ int_lt s.from e.1
last_overlaps s [] t e turn is = absurd (no_last t e is)
last_overlaps s (x ∷ es) t e turn is = by (starts_below s.to x) t refl is (λ t. last_overlaps s es t e turn.2)
  where
    by : (b : Bool) (t : List Entry) → starts_below s.to x ≡ b → cond b (x ∷ filter (starts_below s.to) es) (filter (starts_below s.to) es) ≡ t ++ e ∷ []
        → ((t : List Entry) → filter (starts_below s.to) es ≡ t ++ e ∷ [] → list_any (overlap s) (map span_at es) ≡ int_lt s.from e.1)
        → (overlap s (span_at x) || list_any (overlap s) (map span_at es)) ≡ int_lt s.from e.1
    by false t at is others = ap (λ b. b || list_any (overlap s) (map span_at es)) (past_end s x at) ∙ others t is
    by true [] at is others =
        let same : x ≡ e = cc is in
        let none : filter (starts_below s.to) es ≡ [] = cc is in
        (λ i. before_end s x at i || none_overlaps s es none i)
        ∙ or_false (int_lt s.from x.1)
        ∙ ap (λ (d : Entry). int_lt s.from d.1) same
    by true (y ∷ t) at is others =
        let rest : filter (starts_below s.to) es ≡ t ++ e ∷ [] = cc is in
        (λ i. before_end s x at i || others t rest i)
        ∙ absorbed s.from x.1 e.1 (later_end x.1 (starts_below s.to) es t e turn.1 turn.2 rest)

-- ---- one more

abbrev pub inserted : Span → List Entry → List Entry
inserted s es = insert_entry int_cmp es s.from s.to

any_inserted : (s q : Span) (es : List Entry) → is_span s ≡ true → AreInTurn (map span_at es) → list_any (overlap s) (map span_at es) ≡ false
    → list_any (overlap q) (map span_at (inserted s es)) ≡ (list_any (overlap q) (map span_at es) || overlap q s)
any_inserted s q [] proper turn none = or_turned (overlap q s) false
any_inserted s q (x ∷ es) proper turn none = by (int_cmp s.from x.0) (int_ranked s.from x.0 (int_cmp s.from x.0) refl) (any_inserted s q es proper turn.2 (second_off _ _ none))
  where
    by : (o : Ordering) → MatchOrdering o (s.from <ℤ x.0) (s.from ≡ x.0) (x.0 <ℤ s.from) → list_any (overlap q) (map span_at (inserted s es)) ≡ (list_any (overlap q) (map span_at es) || overlap q s)
        → list_any (overlap q) (map span_at (match_ordering o ((s.from, s.to) ∷ x ∷ es) ((x.0, s.to) ∷ es) (x ∷ inserted s es))) ≡ ((overlap q (span_at x) || list_any (overlap q) (map span_at es)) || overlap q s)
    by Less order others = or_turned (overlap q s) (overlap q (span_at x) || list_any (overlap q) (map span_at es))
    by Equal order others = absurd (meet s.from s.to x.0 x.1 proper turn.0 order (first_off _ _ none))
    by Greater order others =
        ap (λ b. overlap q (span_at x) || b) others
        ∙ or_assoc (overlap q (span_at x)) (list_any (overlap q) (map span_at es)) (overlap q s)

all_inserted : (end : ℤ) (s : Span) (es : List Entry) → int_le end s.from ≡ true → AllByRecursion (λ (t : Span). int_le end t.from ≡ true) (map span_at es) → AllByRecursion (λ (t : Span). int_le end t.from ≡ true) (map span_at (inserted s es))
all_inserted end s [] here all = (here, tt)
all_inserted end s (x ∷ es) here all = by (int_cmp s.from x.0) (all_inserted end s es here all.1)
  where
    by : (o : Ordering) → AllByRecursion (λ (t : Span). int_le end t.from ≡ true) (map span_at (inserted s es)) → AllByRecursion (λ (t : Span). int_le end t.from ≡ true) (map span_at (match_ordering o ((s.from, s.to) ∷ x ∷ es) ((x.0, s.to) ∷ es) (x ∷ inserted s es)))
    by Less others = (here, all)
    by Equal others = (all.0, all.1)
    by Greater others = (all.0, others)

all_behind : (a b : ℤ) (spans : List Span) → int_le a b ≡ true → AllByRecursion (λ (t : Span). int_le b t.from ≡ true) spans → AllByRecursion (λ (t : Span). int_le a t.from ≡ true) spans
all_behind a b [] upto all = tt
all_behind a b (t ∷ spans) upto all = (through a b t.from upto all.0, all_behind a b spans upto all.1)

turn_inserted : (s : Span) (es : List Entry) → is_span s ≡ true → AreInTurn (map span_at es) → list_any (overlap s) (map span_at es) ≡ false → AreInTurn (map span_at (inserted s es))
turn_inserted s [] proper turn none = (proper, tt, tt)
turn_inserted s (x ∷ es) proper turn none = by (int_cmp s.from x.0) (int_ranked s.from x.0 (int_cmp s.from x.0) refl) (turn_inserted s es proper turn.2 (second_off _ _ none))
  where
    by : (o : Ordering) → MatchOrdering o (s.from <ℤ x.0) (s.from ≡ x.0) (x.0 <ℤ s.from) → AreInTurn (map span_at (inserted s es)) → AreInTurn (map span_at (match_ordering o ((s.from, s.to) ∷ x ∷ es) ((x.0, s.to) ∷ es) (x ∷ inserted s es)))
    by Less order others =
        let ends = ends_before s.from s.to x.0 x.1 order turn.0 (first_off _ _ none) in
        (proper, (ends, all_behind s.to x.1 (map span_at es) (upto_end s.to x.0 x.1 ends turn.0) turn.1), turn)
    by Equal order others = absurd (meet s.from s.to x.0 x.1 proper turn.0 order (first_off _ _ none))
    by Greater order others = (
      turn.0,
      all_inserted x.1 s es (starts_behind s.from s.to x.0 x.1 order proper (first_off _ _ none)) turn.1,
      others,
    )

pub one_more : (s : Span) (es : List Entry) → is_span s ≡ true → AreInTurn (map span_at es) → list_any (overlap s) (map span_at es) ≡ false → HasOneMore (map span_at es) s (map span_at (inserted s es))
one_more s es proper turn none = record {
  in_turn = turn_inserted s es proper turn none;
  any = λ q. any_inserted s q es proper turn none;
}
