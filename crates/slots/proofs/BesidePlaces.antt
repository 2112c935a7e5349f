-- Where the items that stand beside a list lie in it.
use Rattle.std.proofs.Common.{◌≡◌, ◌≢◌, ℕ, zero, suc, ◌<◌, List, [], ◌∷◌, ◌++◌, length, get_or, set, take, refl, sym, ap, ◌∙◌, arith, subst, Option, Some, OnOk, OnErr, Result, Ok, Err}
use Rattle.std.specs.List.{slice_get}
use Rattle.std.proofs.lemmas.List.{length-set, get_or-set_same, get_or-set_other, set-set, set-append_left}
use Rattle.std.proofs.lemmas.List.Elements.{All-tail}
use Rattle.std.proofs.lemmas.Option.{slice_get_within, slice_get-get_or, get_or_from_slice_get}
use Rattle.slots.specs.declared.beside.Placed.{Placed}
use Rattle.slots.specs.Slots.{all_of}
use Rattle.slots.specs.Beside.{over, AreInside, AreElsewhere, IsFirst, HasFirst}

module _ {T : Type 0} where
  -- two places are written in any order
  pub set_swap : (l : List T) (i j : ℕ) (a b : T) → i ≢ j → set (set l i a) j b ≡ set (set l j b) i a
  set_swap [] i j a b ne = refl
  set_swap (x ∷ l) zero zero a b ne = absurd (ne refl)
  set_swap (x ∷ l) zero (suc j) a b ne = refl
  set_swap (x ∷ l) (suc i) zero a b ne = refl
  set_swap (x ∷ l) (suc i) (suc j) a b ne = ap (λ m. x ∷ m) (set_swap l i j a b (λ e. ne (ap suc e)))

  pub over_length : (xs : List T) (ps : List (Placed T)) → length (over xs ps) ≡ length xs
  over_length xs [] = refl
  over_length xs (p ∷ ps) = length-set (over xs ps) p.place p.item ∙ over_length xs ps

  pub over_none : (ps : List (Placed T)) → over {T = T} [] ps ≡ []
  over_none [] = refl
  over_none (p ∷ ps) = ap (λ l. set l p.place p.item) (over_none ps)

  head_elsewhere : (place : ℕ) (p : Placed T) (ps : List (Placed T)) → AreElsewhere place (p ∷ ps) → p.place ≢ place
  head_elsewhere place p ps h = h 0 p (omega arith)

  tail_elsewhere : (place : ℕ) (p : Placed T) (ps : List (Placed T)) → AreElsewhere place (p ∷ ps) → AreElsewhere place ps
  tail_elsewhere place p ps h = All-tail (λ (q : Placed T). q.place ≢ place) p ps h

  -- where none stands above
  pub over_elsewhere : (xs : List T) (ps : List (Placed T)) (place : ℕ) (d : T) → AreElsewhere place ps → get_or (over xs ps) place d ≡ get_or xs place d
  over_elsewhere xs [] place d h = refl
  over_elsewhere xs (p ∷ ps) place d h =
      get_or-set_other (over xs ps) p.place place p.item d (λ e. head_elsewhere place p ps h (sym e))
      ∙ over_elsewhere xs ps place d (tail_elsewhere place p ps h)

  pub over_reads : (xs : List T) (ps : List (Placed T)) (place : ℕ) (x : T) → AreElsewhere place ps → slice_get xs place ≡ Some x → slice_get (over xs ps) place ≡ Some x
  over_reads xs ps place x h is =
      let lt : place < length (over xs ps) = omega (arith, over_length xs ps, slice_get_within xs place x is) in
      slice_get-get_or (over xs ps) place x lt ∙ ap Some (over_elsewhere xs ps place x h ∙ get_or_from_slice_get xs place x x is)

  -- the first that stands above
  first_behind : (place : ℕ) (p : Placed T) (ps : List (Placed T)) (at : ℕ) → IsFirst place (p ∷ ps) (suc at) → IsFirst place ps at
  first_behind place p ps at h = record {
    bound = (let lt = h.bound in omega (arith, lt));
    has = λ d. h.has d;
    first = tail_elsewhere place p (take at ps) h.first;
  }

  other_head : (place : ℕ) (p : Placed T) (ps : List (Placed T)) (at : ℕ) → IsFirst place (p ∷ ps) (suc at) → p.place ≢ place
  other_head place p ps at h = head_elsewhere place p (take at ps) h.first

  pub over_first : (xs : List T) (ps : List (Placed T)) (place at : ℕ) (d : T) (e : Placed T) → IsFirst place ps at → place < length xs → get_or (over xs ps) place d ≡ (get_or ps at e).item
  over_first xs [] place at d e h lt = absurd (omega (arith, h.bound))
  over_first xs (p ∷ ps) place zero d e h lt =
      ap (λ i. get_or (set (over xs ps) i p.item) place d) (h.has e)
      ∙ get_or-set_same (over xs ps) place p.item d (omega (arith, lt, over_length xs ps))
  over_first xs (p ∷ ps) place (suc at) d e h lt =
      get_or-set_other (over xs ps) p.place place p.item d (λ is. other_head place p ps at h (sym is))
      ∙ over_first xs ps place at d e (first_behind place p ps at h) lt

  an_item : (ps : List (Placed T)) (at : ℕ) → at < length ps → Placed T
  an_item [] at lt = absurd (omega (arith, lt))
  an_item (p ∷ ps) at lt = p

  pub reads_first : (xs : List T) (ps : List (Placed T)) (place : ℕ) (x : T) → HasFirst place ps x → place < length xs → slice_get (over xs ps) place ≡ Some x
  reads_first xs ps place x h lt =
      let e = an_item ps h.0 h.1.bound in
      slice_get-get_or (over xs ps) place x (omega (arith, lt, over_length xs ps))
      ∙ ap Some (over_first xs ps place h.0 x e h.1 lt ∙ h.2 e)

  -- the first that stands above is another
  pub over_set : (xs : List T) (ps : List (Placed T)) (place at : ℕ) (x : T) → IsFirst place ps at → over xs (set ps at (record { place = place; item = x })) ≡ set (over xs ps) place x
  over_set xs [] place at x h = absurd (omega (arith, h.bound))
  over_set xs (p ∷ ps) place zero x h =
      sym (ap (λ i. set (set (over xs ps) i p.item) place x) (h.has p) ∙ set-set (over xs ps) place p.item x)
  over_set xs (p ∷ ps) place (suc at) x h =
      ap (λ l. set l p.place p.item) (over_set xs ps place at x (first_behind place p ps at h))
      ∙ set_swap (over xs ps) place p.place x p.item (λ e. other_head place p ps at h (sym e))

  -- the list is written where none stands above
  pub over_under : (xs : List T) (ps : List (Placed T)) (place : ℕ) (x : T) → AreElsewhere place ps → over (set xs place x) ps ≡ set (over xs ps) place x
  over_under xs [] place x h = refl
  over_under xs (p ∷ ps) place x h =
      ap (λ l. set l p.place p.item) (over_under xs ps place x (tail_elsewhere place p ps h))
      ∙ set_swap (over xs ps) place p.place x p.item (λ e. head_elsewhere place p ps h (sym e))

  -- the list grows
  pub over_more : (xs : List T) (ps : List (Placed T)) (x : T) → AreInside (length xs) ps → over (xs ++ x ∷ []) ps ≡ over xs ps ++ x ∷ []
  over_more xs [] x h = refl
  over_more xs (p ∷ ps) x h =
      let lt : p.place < length xs = h 0 p (omega arith) in
      ap (λ l. set l p.place p.item) (over_more xs ps x (All-tail (λ (q : Placed T). q.place < length xs) p ps h))
      ∙ set-append_left (over xs ps) (x ∷ []) p.place p.item (omega (arith, lt, over_length xs ps))

  pub inside_put : (n : ℕ) (p : Placed T) (ps : List (Placed T)) → p.place < n → AreInside n ps → AreInside n (p ∷ ps)
  inside_put n p ps lt h = λ k d le. put k d le
    where
      put : (k : ℕ) (d : Placed T) → k < length (p ∷ ps) → (get_or (p ∷ ps) k d).place < n
      put zero d le = lt
      put (suc k) d le = h k d (omega (arith, le))

  pub inside_set : (n at : ℕ) (p : Placed T) (ps : List (Placed T)) → p.place < n → AreInside n ps → AreInside n (set ps at p)
  inside_set n at p [] lt h = h
  inside_set n zero p (q ∷ ps) lt h = inside_put n p ps lt (All-tail (λ (r : Placed T). r.place < n) q ps h)
  inside_set n (suc at) p (q ∷ ps) lt h =
      inside_put n q (set ps at p) (h 0 q (omega arith)) (inside_set n at p ps lt (All-tail (λ (r : Placed T). r.place < n) q ps h))

  -- what is known of a list and its parts
  pub place_in : (xs now : List T) (ps : List (Placed T)) (place : ℕ) → over xs ps ≡ now → place < length now → place < length xs
  place_in xs now ps place is lt = omega (arith, lt, ap length is, over_length xs ps)

  pub pushed : (root longer : Option (ℕ × List T)) (now : List T) (ps : List (Placed T)) (x : T) → all_of longer ≡ all_of root ++ x ∷ [] → AreInside (length (all_of root)) ps → over (all_of root) ps ≡ now → over (all_of longer) ps ≡ now ++ x ∷ []
  pushed root longer now ps x e inside is =
      ap (λ l. over l ps) e ∙ over_more (all_of root) ps x inside ∙ ap (λ l. l ++ x ∷ []) is

  -- the item that stands above, or the list's
  pub read_first : (xs now : List T) (ps : List (Placed T)) (place at : ℕ) (d : T) (e : Placed T) → over xs ps ≡ now → IsFirst place ps at → place < length now → get_or now place d ≡ (get_or ps at e).item
  read_first xs now ps place at d e is h lt =
      ap (λ l. get_or l place d) (sym is) ∙ over_first xs ps place at d e h (place_in xs now ps place is lt)

  pub read_elsewhere : (xs now : List T) (ps : List (Placed T)) (place : ℕ) (d : T) → over xs ps ≡ now → AreElsewhere place ps → get_or now place d ≡ get_or xs place d
  read_elsewhere xs now ps place d is h = ap (λ l. get_or l place d) (sym is) ∙ over_elsewhere xs ps place d h

  -- what a change leaves, made or not
  module _ {A E : Type 0} where
    pub inside_changed : (res : Result A E) (n at : ℕ) (ps qs : List (Placed T)) (f : Placed T → T) → at < length ps → AreInside n ps
        → ((d : Placed T) → OnOk res (qs ≡ set ps at (record { place = (get_or ps at d).place; item = f (get_or ps at d) }))) → OnErr res (qs ≡ ps) → AreInside n qs
    inside_changed (Ok a) n at ps qs f lt inside ok err =
        let e = an_item ps at lt in
        subst (AreInside n) (sym (ok e)) (inside_set n at (record { place = (get_or ps at e).place; item = f (get_or ps at e) }) ps (inside at e lt) inside)
    inside_changed (Err a) n at ps qs f lt inside ok err = subst (AreInside n) (sym err) inside

    pub inside_placed : (res : Result A E) (n : ℕ) (p : Placed T) (ps qs : List (Placed T)) → p.place < n → AreInside n ps → OnOk res (qs ≡ p ∷ ps) → OnErr res (qs ≡ ps) → AreInside n qs
    inside_placed (Ok a) n p ps qs lt inside ok err = subst (AreInside n) (sym ok) (inside_put n p ps lt inside)
    inside_placed (Err a) n p ps qs lt inside ok err = subst (AreInside n) (sym err) inside

    pub inside_written : (res : Result A E) (xs ys : List T) (place : ℕ) (x : T) (ps : List (Placed T)) → OnOk res (ys ≡ set xs place x) → OnErr res (ys ≡ xs) → AreInside (length xs) ps → AreInside (length ys) ps
    inside_written (Ok a) xs ys place x ps ok err inside = subst (λ n. AreInside n ps) (sym (ap length ok ∙ length-set xs place x)) inside
    inside_written (Err a) xs ys place x ps ok err inside = subst (λ n. AreInside n ps) (sym (ap length err)) inside

    pub view_changed : (res : Result A E) (xs now : List T) (ps qs : List (Placed T)) (place at : ℕ) (f : Placed T → T) (x : T) → IsFirst place ps at → over xs ps ≡ now
        → ((e : Placed T) → f (get_or ps at e) ≡ x)
        → ((d : Placed T) → OnOk res (qs ≡ set ps at (record { place = (get_or ps at d).place; item = f (get_or ps at d) }))) → OnOk res (over xs qs ≡ set now place x)
    view_changed (Ok a) xs now ps qs place at f x h is same ok =
        let e = an_item ps at h.bound in
        ap (over xs) (ok e)
        ∙ ap (λ (n : ℕ). over xs (set ps at (record { place = n; item = f (get_or ps at e) }))) (h.has e)
        ∙ ap (λ (y : T). over xs (set ps at (record { place = place; item = y }))) (same e)
        ∙ over_set xs ps place at x h ∙ ap (λ l. set l place x) is
    view_changed (Err a) xs now ps qs place at f x h is same ok = ok (an_item ps at h.bound)

    pub view_written : (res : Result A E) (xs ys now : List T) (ps : List (Placed T)) (place : ℕ) (x : T) → AreElsewhere place ps → over xs ps ≡ now → OnOk res (ys ≡ set xs place x) → OnOk res (over ys ps ≡ set now place x)
    view_written (Ok a) xs ys now ps place x h is ok = ap (λ l. over l ps) ok ∙ over_under xs ps place x h ∙ ap (λ l. set l place x) is
    view_written (Err a) xs ys now ps place x h is ok = ok
