-- Entries in order.
use Rattle.std.proofs.Common.{ℕ, ◌≡◌, Bool, true, false, List, [], ◌∷◌, ◌++◌, cond, ltb, eqb, refl, ap, ◌∙◌, sym, arith, inl, inr, ◌⊎◌}
use Rattle.std.proofs.Common.{◌&&◌, ◌||◌}
use Rattle.std.specs.Prelude.{filter}
use Rattle.std.proofs.lemmas.Bool.Decides.{nat_tests}
use Rattle.feed.specs.declared.entry.Entry.{Entry}
use Rattle.feed.specs.Merged.{is_before, inserted, in_order}
use Rattle.feed.specs.Order.{NoneBefore, IsInOrder}

pub either_way : (b : Bool) → (b ≡ true) ⊎ (b ≡ false)
either_way true = inl refl
either_way false = inr refl

-- the order by three numbers
asym-numbers : (a b c d e f : ℕ) → (ltb a b || (eqb a b && (ltb c d || (eqb c d && ltb e f)))) ≡ true
    → (ltb b a || (eqb b a && (ltb d c || (eqb d c && ltb f e)))) ≡ false
asym-numbers a b c d e f h = grind (arith, nat_tests)

neg-numbers : (a b c d e f g h i : ℕ) → (ltb b a || (eqb b a && (ltb e d || (eqb e d && ltb h g)))) ≡ false
    → (ltb c b || (eqb c b && (ltb f e || (eqb f e && ltb i h)))) ≡ false
    → (ltb c a || (eqb c a && (ltb f d || (eqb f d && ltb i g)))) ≡ false
neg-numbers a b c d e f g h i p q = grind (arith, nat_tests)

pub before-asym : (x y : Entry) → is_before x y ≡ true → is_before y x ≡ false
unfolding is_before
before-asym x y h = asym-numbers x.cycle y.cycle x.line y.line x.number y.number h

-- where y isn't before x, nor z before y, z isn't before x
pub before-not : (x y z : Entry) → is_before y x ≡ false → is_before z y ≡ false → is_before z x ≡ false
unfolding is_before
before-not x y z p q = neg-numbers x.cycle y.cycle z.cycle x.line y.line z.line x.number y.number z.number p q

inserted-before : (x y : Entry) (ys : List Entry) → is_before y x ≡ true → inserted x (y ∷ ys) ≡ y ∷ inserted x ys
unfolding inserted
inserted-before x y ys h = rw h refl

inserted-after : (x y : Entry) (ys : List Entry) → is_before y x ≡ false → inserted x (y ∷ ys) ≡ x ∷ y ∷ ys
unfolding inserted
inserted-after x y ys h = rw h refl

inserted-nil : (x : Entry) → inserted x [] ≡ x ∷ []
unfolding inserted
inserted-nil x = refl

none_before-inserted : (x y : Entry) (ys : List Entry) → is_before y x ≡ false → NoneBefore x ys → NoneBefore x (inserted y ys)
none_before-inserted x y [] h k = rw inserted-nil (h, tt)
none_before-inserted x y (z ∷ zs) h k = elim (either_way (is_before z y)) [
  | inl is ↦ rw (inserted-before y z zs is) (k.0, none_before-inserted x y zs h k.1)
  | inr isnt ↦ rw (inserted-after y z zs isnt) (h, k)
]

none_before-on : (x y : Entry) (ys : List Entry) → is_before y x ≡ false → NoneBefore y ys → NoneBefore x ys
none_before-on x y [] h k = tt
none_before-on x y (z ∷ zs) h k = (before-not x y z h k.0, none_before-on x y zs h k.1)

pub in_order-inserted : (x : Entry) (ys : List Entry) → IsInOrder ys → IsInOrder (inserted x ys)
in_order-inserted x [] o = rw inserted-nil (tt, tt)
in_order-inserted x (y ∷ ys) o = elim (either_way (is_before y x)) [
  | inl is ↦ rw (inserted-before x y ys is) (none_before-inserted y x ys (before-asym y x is) o.0, in_order-inserted x ys o.1)
  | inr isnt ↦ rw (inserted-after x y ys isnt) ((isnt, none_before-on x y ys isnt o.0), o)
]

-- what is put in order is in order
pub is_in_order : (xs : List Entry) → IsInOrder (in_order xs)
unfolding in_order
is_in_order [] = tt
is_in_order (x ∷ xs) = in_order-inserted x (in_order xs) (is_in_order xs)

inserted-front : (x : Entry) (ys : List Entry) → NoneBefore x ys → inserted x ys ≡ x ∷ ys
inserted-front x [] h = inserted-nil x
inserted-front x (y ∷ ys) h = inserted-after x y ys h.0

-- what is in order already stays
pub in_order-same : (xs : List Entry) → IsInOrder xs → in_order xs ≡ xs
unfolding in_order
in_order-same [] o = refl
in_order-same (x ∷ xs) o = ap (inserted x) (in_order-same xs o.1) ∙ inserted-front x xs o.0

pub filter-yes : (p : Entry → Bool) (x : Entry) (xs : List Entry) → p x ≡ true → filter p (x ∷ xs) ≡ x ∷ filter p xs
filter-yes p x xs h = rw h refl

pub filter-no : (p : Entry → Bool) (x : Entry) (xs : List Entry) → p x ≡ false → filter p (x ∷ xs) ≡ filter p xs
filter-no p x xs h = rw h refl

none_before-filter : (p : Entry → Bool) (x : Entry) (ys : List Entry) → NoneBefore x ys → NoneBefore x (filter p ys)
none_before-filter p x [] h = tt
none_before-filter p x (y ∷ ys) h = elim (either_way (p y)) [
  | inl is ↦ rw (filter-yes p y ys is) (h.0, none_before-filter p x ys h.1)
  | inr isnt ↦ rw (filter-no p y ys isnt) (none_before-filter p x ys h.1)
]

-- an insertion among those that pass a test
filter-inserted_no : (p : Entry → Bool) (x : Entry) (ys : List Entry) → p x ≡ false → filter p (inserted x ys) ≡ filter p ys
filter-inserted_no p x [] h = rw inserted-nil (filter-no p x [] h)
filter-inserted_no p x (y ∷ ys) h = elim (either_way (is_before y x)) [
  | inl is ↦ rw (inserted-before x y ys is) (ap (λ l. cond (p y) (y ∷ l) l) (filter-inserted_no p x ys h))
  | inr isnt ↦ rw (inserted-after x y ys isnt) (filter-no p x (y ∷ ys) h)
]

filter-inserted_yes : (p : Entry → Bool) (x : Entry) (ys : List Entry) → IsInOrder ys → p x ≡ true
    → filter p (inserted x ys) ≡ inserted x (filter p ys)
filter-inserted_yes p x [] o h = rw inserted-nil (filter-yes p x [] h)
filter-inserted_yes p x (y ∷ ys) o h = elim (either_way (is_before y x)) [
  | inl is ↦ rw (inserted-before x y ys is) (elim (either_way (p y)) [
    | inl kept ↦ filter-yes p y (inserted x ys) kept ∙ ap (λ l. y ∷ l) (filter-inserted_yes p x ys o.1 h)
        ∙ sym (inserted-before x y (filter p ys) is) ∙ ap (inserted x) (sym (filter-yes p y ys kept))
    | inr lost ↦ filter-no p y (inserted x ys) lost ∙ filter-inserted_yes p x ys o.1 h ∙ ap (inserted x) (sym (filter-no p y ys lost))
  ])
  | inr isnt ↦ rw (inserted-after x y ys isnt) (filter-yes p x (y ∷ ys) h
      ∙ sym (inserted-front x (filter p (y ∷ ys)) (none_before-filter p x (y ∷ ys) (isnt, none_before-on x y ys isnt o.0))))
]

-- the order among those that pass a test
pub filter-in_order : (p : Entry → Bool) (xs : List Entry) → filter p (in_order xs) ≡ in_order (filter p xs)
unfolding in_order
filter-in_order p [] = refl
filter-in_order p (x ∷ xs) = elim (either_way (p x)) [
  | inl is ↦ filter-inserted_yes p x (in_order xs) (is_in_order xs) is ∙ ap (inserted x) (filter-in_order p xs)
      ∙ ap in_order (sym (filter-yes p x xs is))
  | inr isnt ↦ filter-inserted_no p x (in_order xs) isnt ∙ filter-in_order p xs ∙ ap in_order (sym (filter-no p x xs isnt))
]

-- an insertion, and then one of an earlier entry, in any turn
inserted-inserted : (x y : Entry) (zs : List Entry) → is_before y x ≡ true → inserted y (inserted x zs) ≡ inserted x (inserted y zs)
inserted-inserted x y [] h = rw (inserted-nil x, inserted-nil y)
    (inserted-after y x [] (before-asym y x h) ∙ sym (inserted-before x y [] h ∙ ap (λ l. y ∷ l) (inserted-nil x)))
inserted-inserted x y (z ∷ zs) h = elim (either_way (is_before z y)) [
  | inl zy ↦ elim (either_way (is_before z x)) [
    | inl zx ↦ rw (
      inserted-before x z zs zx,
      inserted-before y z zs zy,
      inserted-before y z (inserted x zs) zy,
      inserted-before x z
          (inserted y zs) zx,
    ) (ap (λ l. z ∷ l) (inserted-inserted x y zs h))
    | inr zx ↦ absurd (let e = before-not x z y zx (before-asym z y zy) in cc)
  ]
  | inr zy ↦ elim (either_way (is_before z x)) [
    | inl zx ↦ ap (inserted y) (inserted-before x z zs zx) ∙ inserted-after y z (inserted x zs) zy
        ∙ sym (ap (inserted x) (inserted-after y z zs zy) ∙ inserted-before x y (z ∷ zs) h ∙ ap (λ l. y ∷ l) (inserted-before x z zs zx))
    | inr zx ↦ ap (inserted y) (inserted-after x z zs zx) ∙ inserted-after y x (z ∷ zs) (before-asym y x h)
        ∙ ap (λ l. y ∷ l) (sym (inserted-after x z zs zx))
        ∙ sym (ap (inserted x) (inserted-after y z zs zy) ∙ inserted-before x y (z ∷ zs) h)
  ]
]

-- one more entry among some that are put in order with others
pub in_order-more : (x : Entry) (ys rest : List Entry) → in_order (inserted x ys ++ rest) ≡ inserted x (in_order (ys ++ rest))
unfolding in_order
in_order-more x [] rest = ap (λ l. in_order (l ++ rest)) (inserted-nil x)
in_order-more x (y ∷ ys) rest = elim (either_way (is_before y x)) [
  | inl is ↦ ap (λ l. in_order (l ++ rest)) (inserted-before x y ys is) ∙ ap (inserted y) (in_order-more x ys rest)
      ∙ inserted-inserted x y (in_order (ys ++ rest)) is
  | inr isnt ↦ ap (λ l. in_order (l ++ rest)) (inserted-after x y ys isnt)
]
