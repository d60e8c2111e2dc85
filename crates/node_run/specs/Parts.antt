-- A list that has a part for each of some things, in their order, and then a rest.
use Rattle.std.specs.Prelude.{◌≡◌, ℕ, List, [], ◌∷◌, ◌++◌, length}

module _ {X A : Type 0} (IsPart : X → List A → Type 0) (IsRest : List A → Type 0) where
  unfoldable pub Parted : List X → List A → Type 0
  Parted [] items = IsRest items
  Parted (x ∷ xs) items = (part : List A) × (rest : List A) × (items ≡ part ++ rest) × IsPart x part × Parted xs rest

module _ {A : Type 0} where
  -- it begins with a part of this kind
  pub record BeginsWith (IsPart : List A → Type 0) (items : List A) : Type 0 where
    pub part : List A
    pub rest : List A
    pub items_are : items ≡ part ++ rest
    pub is : IsPart part

  -- so many items are gone from its front
  pub record IsShorter (many : ℕ) (old new : List A) : Type 0 where
    pub part : List A
    pub old_is : old ≡ part ++ new
    pub many_are : length part ≡ many
