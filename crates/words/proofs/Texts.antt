-- Texts that are written step by step: one whole after another, and a beginning at a failure.
use Rattle.std.proofs.Common.{◌≡◌, ℕ, ◌+◌, ◌-◌, List, [], ◌++◌, length, take, drop, Result, Ok, Err, refl, sym, ap, ◌∙◌, arith}
use Rattle.std.proofs.Common.{append_assoc, append-nil, take-add, take_all, length-drop}
use Rattle.std.proofs.lemmas.List.{take-append-drop}
use Rattle.words.specs.Devices.{IsBeginning, WritesBeginning, Writes}

-- a text is a beginning of itself
pub whole_begins : (text : List ℕ) → IsBeginning text text
whole_begins text = record { rest = []; whole = sym (append-nil text) }

-- the first n bytes are a beginning
pub take_begins : (n : ℕ) (text : List ℕ) → IsBeginning (take n text) text
take_begins n text = record { rest = drop n text; whole = sym (take-append-drop n text) }

-- a first text is a beginning of two
pub first_begins : (xs ys : List ℕ) → IsBeginning xs (xs ++ ys)
first_begins xs ys = record { rest = ys; whole = refl }

-- a beginning of a beginning
pub begins_along : (xs ys zs : List ℕ) → IsBeginning xs ys → IsBeginning ys zs → IsBeginning xs zs
begins_along xs ys zs p q = record {
  rest = p.rest ++ q.rest;
  whole = q.whole ∙ ap (λ (t : List ℕ). t ++ q.rest) p.whole ∙ append_assoc xs p.rest q.rest;
}

-- a text, and a beginning of the next, are a beginning of both
pub begins_after : (xs ys zs : List ℕ) → IsBeginning ys zs → IsBeginning (xs ++ ys) (xs ++ zs)
begins_after xs ys zs p = record {
  rest = p.rest;
  whole = ap (λ (t : List ℕ). xs ++ t) p.whole ∙ sym (append_assoc xs ys p.rest);
}

-- a text and then another
pub append-then : (a b c xs ys : List ℕ) → b ≡ a ++ xs → c ≡ b ++ ys → c ≡ a ++ (xs ++ ys)
append-then a b c xs ys p q = rw (q, p) (append_assoc a xs ys)

-- nothing was written
pub append-nothing : (a b : List ℕ) → b ≡ a → b ≡ a ++ []
append-nothing a b e = e ∙ sym (append-nil a)

-- a whole text is a beginning of it too
pub beginning-whole : (a b xs : List ℕ) → b ≡ a ++ xs → WritesBeginning a b xs
beginning-whole a b xs e = record { part = xs; beginning = whole_begins xs; appended = e }

-- a beginning of a text is one of a text that goes on
pub beginning-along : (a b xs ys : List ℕ) → WritesBeginning a b xs → IsBeginning xs ys → WritesBeginning a b ys
beginning-along a b xs ys p q = record { part = p.part; beginning = begins_along p.part xs ys p.beginning q; appended = p.appended }

pub beginning-longer : (a b xs ys : List ℕ) → WritesBeginning a b xs → WritesBeginning a b (xs ++ ys)
beginning-longer a b xs ys p = beginning-along a b xs (xs ++ ys) p (first_begins xs ys)

-- a text, and a beginning of the next
pub beginning-after : (a b c xs ys : List ℕ) → b ≡ a ++ xs → WritesBeginning b c ys → WritesBeginning a c (xs ++ ys)
beginning-after a b c xs ys p q = record {
  part = xs ++ q.part;
  beginning = begins_after xs q.part ys q.beginning;
  appended = append-then a b c xs q.part p q.appended;
}

-- a text, and then a call that writes the next
pub Writes-after : {T E : Type 0} (a b c xs ys : List ℕ) (r : Result T E) → b ≡ a ++ xs → Writes b c ys r → Writes a c (xs ++ ys) r
Writes-after a b c xs ys (Ok x) p q = append-then a b c xs ys p q
Writes-after a b c xs ys (Err e) p q = beginning-after a b c xs ys p q

-- the first i bytes of a text, and then n of the rest
pub append-take : (a b c text : List ℕ) (i n : ℕ) → b ≡ a ++ take i text → c ≡ b ++ take n (take (length text - i) (drop i text))
    → c ≡ a ++ take (i + n) text
append-take a b c text i n p q =
    let whole : take (length text - i) (drop i text)
    ≡ drop i text = take_all (length text - i) (drop i text) (omega (arith, length-drop i text)) in
    let next : c ≡ b ++ take n (drop i text) = rw whole at q in
    rw (take-add i n text) (append-then a b c (take i text) (take n (drop i text)) p next)

-- the first i bytes of a text are a beginning of it
pub beginning-take : (a b text : List ℕ) (i : ℕ) → b ≡ a ++ take i text → WritesBeginning a b text
beginning-take a b text i p = record { part = take i text; beginning = take_begins i text; appended = p }
