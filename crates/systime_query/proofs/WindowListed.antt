-- The rows that stand at the first instant and the events after it, put in order, are those of the window.
use Rattle.std.proofs.Common.{◌≡◌, ℕ, ◌+◌, ◌<◌, ◌≤◌, Bool, true, false, ◌&&◌, ◌||◌, List, [], ◌∷◌, ◌++◌, refl, sym, ap, subst, arith, nat_le, nat_lt, ◌⊎◌, inl, inr}
use Rattle.std.specs.Prelude.{Contains}
use Rattle.std.specs.List.{filter}
use Rattle.std.proofs.lemmas.Bool.{and_parts, and_from}
use Rattle.std.proofs.lemmas.Bool.Decides.{nat_tests}
use Rattle.values.specs.Event.{Event}
use Rattle.keyrange.specs.declared.range.KeyRange.{KeyRange}
use Rattle.keyrange.specs.Range.{is_key_in}
use Rattle.eventlist.specs.Listing.{events_in, is_in_window, stands_at, standing}
use Rattle.eventlist.specs.Sort.{HasTie}
use Rattle.datanode.specs.Cut.{IsMap}
use Rattle.datanode.proofs.CutMembers.{In, In-filter, In-from_filter}
use Rattle.staging.proofs.treewalk.GatherSorted.{sorted_out}

from_append : {X : Type 0} (x : X) (xs ys : List X) → In x (xs ++ ys) → In x xs ⊎ In x ys
from_append x [] ys i = inr i
from_append x (y ∷ xs) ys (inl e) = inl (inl e)
from_append x (y ∷ xs) ys (inr i) = elim (from_append x xs ys i) [ inl j ↦ inl (inr j) | inr j ↦ inr j ]

to_first : {X : Type 0} (x : X) (xs ys : List X) → In x xs → In x (xs ++ ys)
to_first x [] ys i = absurd i
to_first x (y ∷ xs) ys (inl e) = inl e
to_first x (y ∷ xs) ys (inr i) = inr (to_first x xs ys i)

to_second : {X : Type 0} (x : X) (xs ys : List X) → In x ys → In x (xs ++ ys)
to_second x [] ys i = i
to_second x (y ∷ xs) ys i = inr (to_second x xs ys i)

or_first : (b c : Bool) → b ≡ true → (b || c) ≡ true
or_first b c h = ap (λ b. b || c) h

or_second : (b c : Bool) → c ≡ true → (b || c) ≡ true
or_second true c h = refl
or_second false c h = h

or_parts : {P : Type 0} (b c : Bool) → (b || c) ≡ true → (b ≡ true → P) → (c ≡ true → P) → P
or_parts true c h f g = f refl
or_parts false c h f g = g h

below : (i j : ℕ) → nat_le (i + 1) j ≡ true → nat_lt i j ≡ true
below i j h = grind (arith, nat_tests)

from_below : (i j : ℕ) → nat_lt i j ≡ true → nat_le (i + 1) j ≡ true
from_below i j h = grind (arith, nat_tests)

module _ (m : List Event) (range : KeyRange) (a z : ℕ) where
  abbrev pub test : Event → Bool
  test e = is_in_window m a z e && is_key_in range e.key

  -- those of the range after the first instant, up to the last
  pub record AreLater (later : List Event) : Type 0 where
    pub sound : (e : Event) → In e later → In e m × ((nat_lt a e.at && nat_le e.at z) ≡ true) × (is_key_in range e.key ≡ true)
    pub whole : (e : Event) → In e m → (nat_lt a e.at && nat_le e.at z) ≡ true → is_key_in range e.key ≡ true → In e later

  pub some_later : (later : List Event) → later ≡ events_in m range (a + 1) z → AreLater later
  some_later later is = record {
    sound = λ e i. (
        let k = In-from_filter passes m e (subst (In e) is i) in
        let parts = and_parts (is_key_in range e.key) _ k.1 in
        let time = and_parts (nat_le (a + 1) e.at) _ parts.1 in
        (k.0, and_from (nat_lt a e.at) _ (below a e.at time.0) time.1, parts.0));
    whole = λ e i time key. (
        let parts = and_parts (nat_lt a e.at) _ time in
        subst (In e) (sym is) (In-filter passes m e i (and_from (is_key_in range e.key) _ key (and_from (nat_le (a + 1) e.at) _ (from_below a e.at parts.0) parts.1))));
  }
    where
      passes : Event → Bool
      passes e = is_key_in range e.key && (nat_le (a + 1) e.at && nat_le e.at z)

  pub no_later : z ≤ a → AreLater []
  no_later le = record {
    sound = λ e i. absurd i;
    whole = λ e i time key. absurd (none e.at time);
  }
    where
      none : (t : ℕ) → (nat_lt a t && nat_le t z) ≡ true → ⊥
      none t h =
          let parts = and_parts (nat_lt a t) _ h in
          let past : a < t = (let p = parts.0 in grind (arith, nat_tests)) in
          let upto : t ≤ z = (let p = parts.1 in grind (arith, nat_tests)) in
          omega arith

  pub window_listed : (stood later found es : List Event) → IsMap m → stood ≡ standing m (is_key_in range) a → AreLater later → found ≡ stood ++ later → IsMap es
      → ((e : Event) → Contains es e → Contains found e) → ((e : Event) → Contains found e → HasTie e es) → es ≡ filter test m
  window_listed stood later found es map stand late is sorted from kept =
      sorted_out m test map found es sorted from kept sound whole
    where
      stands : Event → Bool
      stands e = is_key_in range e.key && stands_at m a e

      sound : (e : Event) → In e found → In e m × (test e ≡ true)
      sound e i = elim (from_append e stood later (subst (In e) is i)) [
        | inl j ↦ (let k = In-from_filter stands m e (subst (In e) stand j) in
            let parts = and_parts (is_key_in range e.key) _ k.1 in
            (k.0, and_from (is_in_window m a z e) _ (or_first (stands_at m a e) (nat_lt a e.at && nat_le e.at z) parts.1) parts.0))
        | inr j ↦ (let k = late.sound e j in (k.0, and_from (is_in_window m a z e) _ (or_second (stands_at m a e) (nat_lt a e.at && nat_le e.at z) k.1) k.2))
      ]

      whole : (e : Event) → In e m → test e ≡ true → In e found
      whole e i h =
          let parts = and_parts (is_in_window m a z e) _ h in
          subst (In e) (sym is)
          (or_parts (stands_at m a e) (nat_lt a e.at && nat_le e.at z) parts.0
          (λ s. to_first e stood later (subst (In e) (sym stand) (In-filter stands m e i (and_from (is_key_in range e.key) _ parts.1 s))))
          (λ s. to_second e stood later (late.whole e i s parts.1)))
