-- Names in tables: how entries are seen, looked up and added.
use Rattle.std.proofs.Common.{length, ◌<◌, ◌≤◌, ◌≡◌, ℕ, suc, Bool, true, cond, nat_eq, List, [], ◌∷◌, ◌++◌, map, Some, None, refl, ap, inl}
use Rattle.std.proofs.Common.{inr, arith}
use Rattle.std.proofs.lemmas.Bool.{cases_Bool, and_parts}
use Rattle.std.specs.List.{All}
use Rattle.std.specs.Map.{lookup}
use Rattle.indexmap.specs.IndexMap.{insert_entry}
use Rattle.agc_text.specs.Tables.{same_name, value_in}

-- two keys have the same bytes
abbrev pub same_key : {K : Type 0} → (K → List ℕ) → K → K → Bool
same_key bytes a b = same_name (bytes a) (bytes b)

module _ {K V : Type 0} (bytes : K → List ℕ) where
  -- what a contract sees of the entries
  abbrev pub seen : List (K × V) → List (List ℕ × V)
  seen es = map (λ e. (bytes e.0, e.1)) es

  -- a look-up in the entries is one in what is seen of them
  pub lookup-seen : (es : List (K × V)) (key : K) → lookup (same_key bytes key) es ≡ value_in (seen es) (bytes key)
  lookup-seen [] key = refl
  lookup-seen (e ∷ es) key = ap (λ rest. cond (same_key bytes key e.0) (Some e.1) rest) (lookup-seen es key)

  -- a new name goes last
  pub insert-seen : (es : List (K × V)) (key : K) (v : V) → value_in (seen es) (bytes key) ≡ None
      → seen (insert_entry (same_key bytes) es key v) ≡ seen es ++ (bytes key, v) ∷ []
  insert-seen [] key v none = refl
  insert-seen (e ∷ es) key v none =
      elim (cases_Bool (same_key bytes key e.0)) [
        | inl here ↦ absurd (let found : Some e.1 ≡ None = rw here at none in cc)
        | inr apart ↦ rw apart (ap (λ rest. (bytes e.0, e.1) ∷ rest) (insert-seen es key v (rw apart at none)))
      ]

-- names of the same bytes are of the same length
pub same_length : (a b : List ℕ) → same_name a b ≡ true → length a ≡ length b
same_length [] [] same = refl
same_length [] (y ∷ ys) same = cc
same_length (x ∷ xs) [] same = cc
same_length (x ∷ xs) (y ∷ ys) same = ap suc (same_length xs ys (and_parts (nat_eq x y) (same_name xs ys) same).1)

-- no entry has a name that is longer than all their names
pub value_in-long : {K V : Type 0} (bytes : K → List ℕ) (most : ℕ) (es : List (K × V)) (name : List ℕ)
    → All (λ e. length (bytes e.0) ≤ most) es → most < length name → None ≡ value_in (seen bytes es) name
value_in-long bytes most [] name short long = refl
value_in-long bytes most (e ∷ es) name short long =
    let here : length (bytes e.0) ≤ most = short 0 e (omega arith) in
    elim (cases_Bool (same_name name (bytes e.0))) [
      | inl same ↦ absurd (let equal : length name ≡ length (bytes e.0) = same_length name (bytes e.0) same in omega arith)
      | inr apart ↦ rw apart (value_in-long bytes most es name (λ k d lt. short (suc k) d (omega arith)) long)
    ]
