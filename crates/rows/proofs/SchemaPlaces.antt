-- Elements by their places, and the same by recursion.
use Rattle.std.proofs.Common.{◌≡◌, ◌⊎◌, inl, inr, List, [], ◌∷◌, ◌++◌, Option, Some, None, refl, sym, subst, ap, ◌∙◌}
use Rattle.std.specs.List.{flat_map, filter_map, cons_option}
use Rattle.rows.specs.SchemaTable.{only}
use Rattle.values.specs.Each.{Each}
use Rattle.rows.specs.GoodTable.{IsTheOne, NoTwo}

module _ {A : Type 0} (P : A → Type 0) where
  pub each-append : (xs ys : List A) → Each P xs → Each P ys → Each P (xs ++ ys)
  each-append [] ys e f = f
  each-append (x ∷ xs) ys (p, e) f = (p, each-append xs ys e f)

  pub each_front : (xs ys : List A) → Each P (xs ++ ys) → Each P xs
  each_front [] ys e = tt
  each_front (x ∷ xs) ys (p, e) = (p, each_front xs ys e)

  pub each_back : (xs ys : List A) → Each P (xs ++ ys) → Each P ys
  each_back [] ys e = e
  each_back (x ∷ xs) ys (p, e) = each_back xs ys e

  pub each_at : (before after : List A) (x : A) → Each P (before ++ x ∷ after) → P x
  each_at before after x e = (each_back before (x ∷ after) e).0

  pub each_placed : (xs : List A) → ((before after : List A) (x : A) → xs ≡ before ++ x ∷ after → P x) → Each P xs
  each_placed [] h = tt
  each_placed (x ∷ xs) h = (h [] xs x refl, each_placed xs (λ before after y place. h (x ∷ before) after y (ap (λ l. x ∷ l) place)))

pub each_to : {A : Type 0} (P Q : A → Type 0) → ((x : A) → P x → Q x) → (xs : List A) → Each P xs → Each Q xs
each_to P Q h [] e = tt
each_to P Q h (x ∷ xs) (p, e) = (h x p, each_to P Q h xs e)

-- no two, by recursion
abbrev pub Apart : {A : Type 0} → (A → A → Type 0) → List A → Type 0
Apart R [] = Unit {0}
Apart R (x ∷ xs) = Each (λ y. R x y → ⊥) xs × Apart R xs

module _ {A : Type 0} (R : A → A → Type 0) where
  pub apart_no_two : (xs : List A) → Apart R xs → NoTwo R xs
  apart_no_two xs a before between after x y place r =
      each_at (λ z. R x z → ⊥) between after y (back before (x ∷ (between ++ y ∷ after)) (subst (Apart R) place a)).0 r
    where
      back : (xs ys : List A) → Apart R (xs ++ ys) → Apart R ys
      back [] ys a = a
      back (x ∷ xs) ys (e, a) = back xs ys a

  pub no_two_apart : (xs : List A) → NoTwo R xs → Apart R xs
  no_two_apart [] n = tt
  no_two_apart (x ∷ xs) n = (
    each_placed (λ y. R x y → ⊥) xs (λ before after y place r. n [] before after x y (ap (λ l. x ∷ l) place) r),
    no_two_apart xs (λ before between after y z place r. n (x ∷ before) between after y z (ap (λ l. x ∷ l) place) r),
  )

  -- one more at the end
  pub apart_push : (xs : List A) (x : A) → Apart R xs → Each (λ y. R y x → ⊥) xs → Apart R (xs ++ x ∷ [])
  apart_push [] x a e = (tt, tt)
  apart_push (y ∷ ys) x (f, a) (no_clash, e) = (each-append (λ z. R y z → ⊥) ys (x ∷ []) f (no_clash, tt), apart_push ys x a e)

  pub apart_front : (xs ys : List A) → Apart R (xs ++ ys) → Apart R xs
  apart_front [] ys a = tt
  apart_front (x ∷ xs) ys (e, a) = (each_front (λ z. R x z → ⊥) xs ys e, apart_front xs ys a)

  pub apart_last : (xs : List A) (x : A) → Apart R (xs ++ x ∷ []) → Each (λ y. R y x → ⊥) xs
  apart_last [] x a = tt
  apart_last (y ∷ ys) x (e, a) = (each_at (λ z. R y z → ⊥) ys [] x e, apart_last ys x a)

-- lists of one
no_first : {A : Type 0} (xs ys : List A) → xs ++ ys ≡ [] → (xs ≡ []) × (ys ≡ [])
no_first [] ys e = (refl, e)
no_first (x ∷ xs) ys e = cc

abbrev head_of : {A : Type 0} → A → List A → A
head_of x [] = x
head_of x (y ∷ ys) = y

abbrev tail_of : {A : Type 0} → List A → List A
tail_of [] = []
tail_of (y ∷ ys) = ys

pub one_same : {A : Type 0} (x y : A) → x ∷ [] ≡ y ∷ [] → x ≡ y
one_same x y e = ap (head_of x) e

all_of_one : {A : Type 0} (xs ys : List A) (x : A) → (xs ≡ [] → ⊥) → xs ++ ys ≡ x ∷ [] → (xs ≡ x ∷ []) × (ys ≡ [])
all_of_one [] ys x some e = absurd (some refl)
all_of_one (y ∷ xs) ys x some e =
    let parts = no_first xs ys (ap tail_of e) in
    (ap (λ l. y ∷ l) parts.0 ∙ ap (λ z. z ∷ []) (ap (head_of y) e), parts.1)

pub only_is : {A : Type 0} (xs : List A) (x : A) → only xs ≡ Some x → xs ≡ x ∷ []
only_is [] x e = cc
only_is (y ∷ []) x e = ap (λ z. z ∷ []) (ap (λ o. elim o [ Some z ↦ z | None ↦ y ]) e)
only_is (y ∷ z ∷ zs) x e = cc

pub flat_of : {A B : Type 0} (h : A → Option B) (xs : List A) → filter_map h xs ≡ flat_map (λ x. cons_option (h x) []) xs
flat_of h [] = refl
flat_of {B = B} h (x ∷ xs) = one (h x) ∙ ap (λ l. cons_option (h x) [] ++ l) (flat_of h xs)
  where
    one : (o : Option B) → cons_option o (filter_map h xs) ≡ cons_option o [] ++ filter_map h xs
    one None = refl
    one (Some y) = refl

-- the elements that give something are one, where one thing is given
pub record Tells {A B : Type 0} (h : A → List B) (P : A → Type 0) : Type 0 where
  pub nothing : (x : A) → (P x → ⊥) → h x ≡ []
  pub something : (x : A) → P x → h x ≡ [] → ⊥
  pub decided : (x : A) → P x ⊎ (P x → ⊥)

module _ {A B : Type 0} (h : A → List B) (P : A → Type 0) (tells : Tells h P) where
  pub none_given : (xs : List A) → Each (λ y. P y → ⊥) xs → flat_map h xs ≡ []
  none_given [] e = refl
  none_given (x ∷ xs) (f, e) = ap (λ l. l ++ flat_map h xs) (tells.nothing x f) ∙ none_given xs e

  pub none_stands : (xs : List A) → flat_map h xs ≡ [] → Each (λ y. P y → ⊥) xs
  none_stands [] e = tt
  none_stands (x ∷ xs) e = let parts = no_first (h x) (flat_map h xs) e in (λ p. tells.something x p parts.0, none_stands xs parts.1)

  pub one_stands : (xs : List A) (v : B) → flat_map h xs ≡ v ∷ [] → (x : A) × ((h x ≡ v ∷ []) × IsTheOne P x xs)
  one_stands [] v e = cc
  one_stands (x ∷ xs) v e = elim (tells.decided x) [
    | inl p ↦
        let parts = all_of_one (h x) (flat_map h xs) v (tells.something x p) e in
        (x, (parts.0, record { before = []; after = xs; place = refl; is_so = p; none_before = tt; none_after = none_stands xs parts.1 }))
    | inr f ↦
        let more = one_stands xs v (sym (ap (λ l. l ++ flat_map h xs) (tells.nothing x f)) ∙ e) in
        let one = more.1.1 in (
          more.0,
          (
            more.1.0,
            record { before = x ∷ one.before; after = one.after; place = ap (λ l. x ∷ l) one.place; is_so = one.is_so; none_before = (f, one.none_before); none_after = one.none_after },
          ),
        )
  ]

  pub one_given : (x : A) (xs : List A) (v : B) → h x ≡ v ∷ [] → IsTheOne P x xs → flat_map h xs ≡ v ∷ []
  one_given x xs v e one = ap (flat_map h) one.place ∙ from one.before one.after one.none_before one.none_after
    where
      from : (before after : List A) → Each (λ y. P y → ⊥) before → Each (λ y. P y → ⊥) after → flat_map h (before ++ x ∷ after) ≡ v ∷ []
      from [] after f g = ap (λ l. l ++ flat_map h after) e ∙ ap (λ l. v ∷ l) (none_given after g)
      from (y ∷ before) after (n, f) g = ap (λ l. l ++ flat_map h (before ++ x ∷ after)) (tells.nothing y n) ∙ from before after f g
