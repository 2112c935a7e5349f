-- Members of lists that are joined and mapped.
use Rattle.std.proofs.Common.{◌≡◌, List, [], ◌∷◌, ◌++◌, map, refl, sym, ap, subst, ◌⊎◌, inl, inr}
use Rattle.std.specs.Prelude.{Contains}
use Rattle.std.specs.List.{flat_map}
use Rattle.datanode.proofs.CutMembers.{In}
use Rattle.datanode.proofs.CutOrder.{In_place, at_In}

module _ {X : Type 0} where
  pub contained : (xs : List X) (x : X) → In x xs → Contains xs x
  contained xs x i = In_place x x xs i

  pub member : (xs : List X) (x : X) → Contains xs x → In x xs
  member xs x c = subst (λ z. In z xs) c.2 (at_In x xs c.0 c.1)

  pub In-left : (xs ys : List X) (x : X) → In x xs → In x (xs ++ ys)
  In-left [] ys x i = absurd i
  In-left (z ∷ zs) ys x (inl e) = inl e
  In-left (z ∷ zs) ys x (inr i) = inr (In-left zs ys x i)

  pub In-right : (xs ys : List X) (x : X) → In x ys → In x (xs ++ ys)
  In-right [] ys x i = i
  In-right (z ∷ zs) ys x i = inr (In-right zs ys x i)

  pub In-either : (xs ys : List X) (x : X) → In x (xs ++ ys) → In x xs ⊎ In x ys
  In-either [] ys x i = inr i
  In-either (z ∷ zs) ys x (inl e) = inl (inl e)
  In-either (z ∷ zs) ys x (inr i) = elim (In-either zs ys x i) [ inl j ↦ inl (inr j) | inr j ↦ inr j ]

module _ {X Y : Type 0} (f : X → List Y) where
  pub In-flat_map : (xs : List X) (x : X) (y : Y) → In x xs → In y (f x) → In y (flat_map f xs)
  In-flat_map [] x y i h = absurd i
  In-flat_map (z ∷ zs) x y (inl e) h = In-left (f z) (flat_map f zs) y (subst (λ w. In y (f w)) (sym e) h)
  In-flat_map (z ∷ zs) x y (inr i) h = In-right (f z) (flat_map f zs) y (In-flat_map zs x y i h)

  pub In-from_flat_map : (xs : List X) (y : Y) → In y (flat_map f xs) → (x : X) × In x xs × In y (f x)
  In-from_flat_map [] y i = absurd i
  In-from_flat_map (z ∷ zs) y i = elim (In-either (f z) (flat_map f zs) y i) [
    | inl j ↦ (z, inl refl, j)
    | inr j ↦ (let r = In-from_flat_map zs y j in (r.0, inr r.1, r.2))
  ]

module _ {X Y : Type 0} (f : X → Y) where
  pub In-map : (xs : List X) (x : X) → In x xs → In (f x) (map f xs)
  In-map [] x i = absurd i
  In-map (z ∷ zs) x (inl e) = inl (ap f e)
  In-map (z ∷ zs) x (inr i) = inr (In-map zs x i)

  pub In-from_map : (xs : List X) (y : Y) → In y (map f xs) → (x : X) × In x xs × (f x ≡ y)
  In-from_map [] y i = absurd i
  In-from_map (z ∷ zs) y (inl e) = (z, inl refl, e)
  In-from_map (z ∷ zs) y (inr i) = let r = In-from_map zs y i in (r.0, inr r.1, r.2)
