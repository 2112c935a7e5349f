-- A text that is written a few pieces at a time.
use Rattle.std.proofs.Common.{◌≡◌, ℕ, List, [], ◌∷◌, ◌++◌, Option, sym, ◌∙◌, ap, subst, refl, take, drop, take-append-drop, append_assoc}
use Rattle.std.specs.List.{flat_map}
use Rattle.std.specs.Io.KnownBytes.{Appends}
use Rattle.statement.specs.Writer.{AppendsPrefix}
use Rattle.statement.proofs.WriterPrefixes.{Left, left_taken, left_front}

joined : {X : Type 0} (f : X → List ℕ) (xs ys : List X) → flat_map f (xs ++ ys) ≡ flat_map f xs ++ flat_map f ys
joined f [] ys = refl
joined f (x ∷ xs) ys = ap (λ l. f x ++ l) (joined f xs ys) ∙ sym (append_assoc (f x) (flat_map f xs) (flat_map f ys))

parted : {X : Type 0} (f : X → List ℕ) (xs : List X) (n : ℕ) → flat_map f xs ≡ flat_map f (take n xs) ++ flat_map f (drop n xs)
parted f xs n = ap (flat_map f) (sym (take-append-drop n xs)) ∙ joined f (take n xs) (drop n xs)

pub some_taken : {X : Type 0} (a b c : Option (List ℕ)) (text : List ℕ) (f : X → List ℕ) (rest : List X) (n : ℕ) → Left a b text (flat_map f rest)
    → Appends b c (flat_map f (take n rest)) → Left a c text (flat_map f (drop n rest))
some_taken a b c text f rest n l p = left_taken a b c text (flat_map f (take n rest)) (flat_map f (drop n rest)) (subst (Left a b text) (parted f rest n) l) p

pub some_stopped : {X : Type 0} (a b c : Option (List ℕ)) (text : List ℕ) (f : X → List ℕ) (rest : List X) (n : ℕ) → Left a b text (flat_map f rest)
    → AppendsPrefix b c (flat_map f (take n rest)) → AppendsPrefix a c text
some_stopped a b c text f rest n l p = left_front a b c text (flat_map f (take n rest)) (flat_map f (drop n rest)) (subst (Left a b text) (parted f rest n) l) p
