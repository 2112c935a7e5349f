-- What writers took, joined.
use Rattle.std.proofs.Common.{◌≡◌, ℕ, List, ◌++◌, Option, append_assoc, sym, ◌∙◌, ap, take, drop, take-append-drop, subst, length, get_or, suc, ◌+◌, ◌<◌, add-one}
use Rattle.std.specs.Prelude.{Result, Ok, Err, IsErrAnd}
use Rattle.std.specs.List.{flat_map}
use Rattle.std.proofs.Math.Seq.{drop-cons}
use Rattle.std.proofs.KnownBytes.{Appends-trans}
use Rattle.std.specs.Io.KnownBytes.{Appends}
use Rattle.statement.specs.Writer.{AppendsPrefix, Prints}

pub front_first : (a b : Option (List ℕ)) (x y : List ℕ) → AppendsPrefix a b x → AppendsPrefix a b (x ++ y)
front_first a b x y f = record { out = f.out; left = f.left ++ y; wrote = f.wrote; front = ap (λ l. l ++ y) f.front ∙ append_assoc f.out f.left y }

pub front_then : (a b c : Option (List ℕ)) (x y : List ℕ) → Appends a b x → AppendsPrefix b c y → AppendsPrefix a c (x ++ y)
front_then a b c x y p f = record { out = x ++ f.out; left = f.left; wrote = Appends-trans a b c x f.out p f.wrote; front = ap (λ l. x ++ l) f.front ∙ sym (append_assoc x f.out f.left) }

-- one text, and then another
pub prints_then : {E : Type 0} (a b c : Option (List ℕ)) (r : Result (Unit {0}) E) (x y : List ℕ) → Appends a b x → Prints b c r y → Prints a c r (x ++ y)
prints_then a b c (Ok done) x y p q = Appends-trans a b c x y p q
prints_then a b c (Err fault) x y p q = front_then a b c x y p q

-- part of a text was written, and this rest is left
pub record Left (a b : Option (List ℕ)) (text rest : List ℕ) : Type 0 where
  pub out : List ℕ
  pub wrote : Appends a b out
  pub is : text ≡ out ++ rest

pub left_taken : (a b c : Option (List ℕ)) (text x rest : List ℕ) → Left a b text (x ++ rest) → Appends b c x → Left a c text rest
left_taken a b c text x rest l p = record {
  out = l.out ++ x;
  wrote = Appends-trans a b c l.out x l.wrote p;
  is = l.is ∙ sym (append_assoc l.out x rest);
}

pub left_more : (a b c : Option (List ℕ)) (text rest : List ℕ) (n : ℕ) → Left a b text rest → Appends b c (take n rest) → Left a c text (drop n rest)
left_more a b c text rest n l p = left_taken a b c text (take n rest) (drop n rest) (subst (Left a b text) (sym (take-append-drop n rest)) l) p

pub left_front : (a b c : Option (List ℕ)) (text x rest : List ℕ) → Left a b text (x ++ rest) → AppendsPrefix b c x → AppendsPrefix a c text
left_front a b c text x rest l f = subst (AppendsPrefix a c) (sym l.is) (front_then a b c l.out (x ++ rest) l.wrote (front_first b c x rest f))

-- the first text was not all taken, at the exit of a `?`
pub stopped : {E : Type 0} (P : E → Type 0) (a b : Option (List ℕ)) (r : Result (Unit {0}) E) (x y : List ℕ) → IsErrAnd r P → AppendsPrefix a b x → Prints a b r (x ++ y)
stopped P a b (Ok done) x y e f = absurd e
stopped P a b (Err fault) x y e f = front_first a b x y f

-- one text and then another, at the end of a function and at its `?`
pub ruleset joins = (prints_then, front_first)

-- ---- a piece for each element of a list

piece_of : {X : Type 0} (f : X → List ℕ) (xs : List X) (i : ℕ) (x : X) → i < length xs → x ≡ get_or xs i x → flat_map f (drop i xs) ≡ f x ++ flat_map f (drop (i + 1) xs)
piece_of f xs i x h is = ap (flat_map f) (drop-cons xs i x h) ∙ rw add-one (ap (λ y. f y ++ flat_map f (drop (suc i) xs)) (sym is))

pub each_taken : {X : Type 0} (a b c : Option (List ℕ)) (f : X → List ℕ) (xs : List X) (i : ℕ) (x : X) → i < length xs → x ≡ get_or xs i x
    → Left a b (flat_map f xs) (flat_map f (drop i xs)) → Appends b c (f x) → Left a c (flat_map f xs) (flat_map f (drop (i + 1) xs))
each_taken a b c f xs i x h is l p = left_taken a b c _ (f x) _ (subst (Left a b (flat_map f xs)) (piece_of f xs i x h is) l) p

pub each_stopped : {X E : Type 0} (P : E → Type 0) (a b c : Option (List ℕ)) (r : Result (Unit {0}) E) (f : X → List ℕ) (xs : List X) (i : ℕ) (x : X) → IsErrAnd r P → i < length xs → x ≡ get_or xs i x
    → Left a b (flat_map f xs) (flat_map f (drop i xs)) → AppendsPrefix b c (f x) → Prints a c r (flat_map f xs)
each_stopped P a b c (Ok done) f xs i x e h is l p = absurd e
each_stopped P a b c (Err fault) f xs i x e h is l p = left_front a b c _ (f x) _ (subst (Left a b (flat_map f xs)) (piece_of f xs i x h is) l) p
