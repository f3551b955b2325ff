-- What is told of a run gives all its words.
use Rattle.std.proofs.Common.{◌≡◌, ℕ, zero, suc, ◌+◌, List, [], ◌∷◌, ◌++◌, map, take, Option, Some, None, Bool, true, false, refl, sym, ap}
use Rattle.std.proofs.Common.{◌∙◌, add-one, arith, inl, inr, append_assoc, append-nil}
use Rattle.std.specs.Prelude.{slice_get}
use Rattle.std.specs.Option.{option_to_list}
use Rattle.std.proofs.lemmas.Bool.{cases_Bool}
use Rattle.std.proofs.lemmas.Bool.Decides.{eqb_tells}
use Rattle.cpu.specs.declared.output.Output.{Output}
use Rattle.cpu.specs.Next.{next}
use Rattle.cpu.specs.Run.{out, outs, run}
use Rattle.cpu.specs.State.{Scenario}
use Rattle.whatif.specs.declared.sent.Sent.{Sent}
use Rattle.whatif.specs.Looked.{looked}
use Rattle.whatif.specs.Laws.{TellsAllWords, TellsTheFirstOther}
use Rattle.whatif.proofs.Steps.{looked_next}
use Rattle.whatif.specs.Outcomes.{Outcome, begun, is_equal, is_next, is_none, is_that, outcome, see, sent, strays, with_put, with_step}
use Rattle.whatif.specs.Outcomes.{with_word}

abbrev told : ℕ → List Sent → Bool → Outcome
told alike others lost = record { alike = alike; others = others; strays = lost }

-- the first so many of a list, and one more
take_more : (base : List Sent) (k : ℕ) (y : Sent) → slice_get base k ≡ Some y → take (suc k) base ≡ take k base ++ y ∷ []
take_more [] k y there = absurd (cc)
take_more (x ∷ base) zero y there = let same : x ≡ y = cc in ap (λ z. z ∷ []) same
take_more (x ∷ base) (suc k) y there = ap (λ l. x ∷ l) (take_more base k y there)

one_more : (base : List Sent) (k : ℕ) (y : Sent) → slice_get base k ≡ Some y → take (k + 1) base ≡ take k base ++ y ∷ []
one_more base k y there = rw add-one (take_more base k y there)

-- words that are equal are the same
equal_same : (a b : Sent) → is_equal a b ≡ true → a ≡ b
equal_same a b is =
    elim (eqb_tells a.channel b.channel) [
      | inl c ↦ elim (eqb_tells a.word b.word) [
        | inl w ↦ ap (λ x. record { channel = x; word = a.word }) c.1 ∙ ap (λ y. record { channel = b.channel; word = y }) w.1
        | inr w ↦ absurd (let e : false ≡ true = rw (c.0, w.0) at is in cc)
      ]
      | inr c ↦ absurd (let e : false ≡ true = rw c.0 at is in cc)
    ]

that_is : (w : Sent) (o : Option Sent) → is_that w o ≡ true → o ≡ Some w
that_is w None is = absurd (let e : false ≡ true = is in cc)
that_is w (Some next) is = ap Some (equal_same next w is)

-- the word that is next
next_is : (base : List Sent) (k : ℕ) (w : Sent) → is_that w (slice_get base k) ≡ true → slice_get base k ≡ Some w
next_is base k w is = that_is w (slice_get base k) is

-- all words, with one more
words_put : (base : List Sent) (alike : ℕ) (others : List Sent) (lost : Bool) (o : Option Output) (words : List Sent)
    → take alike base ++ others ≡ words
    → take (with_put base (told alike others lost) o).alike base ++ (with_put base (told alike others lost) o).others
    ≡ words ++ map sent (option_to_list o)
words_put base alike others lost None words are = are ∙ sym (append-nil words)
words_put base alike [] lost (Some o) words are =
    elim (cases_Bool (is_that (sent o) (slice_get base alike))) [
      | inl holds ↦
          rw holds
          (append-nil (take (alike + 1) base) ∙ one_more base alike (sent o) (next_is base alike (sent o) holds)
          ∙ ap (λ l. l ++ sent o ∷ []) (sym (append-nil (take alike base)) ∙ are))
      | inr fails ↦ rw fails (sym (append_assoc (take alike base) [] (sent o ∷ [])) ∙ ap (λ l. l ++ sent o ∷ []) are)
    ]
words_put base alike (w ∷ ws) lost (Some o) words are = sym (append_assoc (take alike base) (w ∷ ws) (sent o ∷ []))
    ∙ ap (λ l. l ++ sent o ∷ []) are

map_more : (old : List Output) (more : List Output) → map sent (old ++ more) ≡ map sent old ++ map sent more
map_more [] more = refl
map_more (o ∷ old) more = ap (λ l. sent o ∷ l) (map_more old more)

none_told : (scenario : Scenario) (base : List Sent) → outcome base 0 scenario 0 ≡ begun
unfolding looked
none_told scenario base = refl

pub tells_all_words : (scenario : Scenario) → TellsAllWords scenario
unfolding outs out
tells_all_words scenario base zero = rw (none_told scenario base) refl
tells_all_words scenario base (suc n) =
    let before = outcome base 0 scenario n in
    rw (looked_next begun (see base) 0 scenario n (omega arith)) (
    words_put base before.alike before.others (with_step before (strays scenario (run scenario n))).strays
    (next scenario (run scenario n)).1 (map sent (outs scenario n)) (tells_all_words scenario base n)
    ∙ sym (map_more (outs scenario n) (option_to_list (next scenario (run scenario n)).1)))

-- what is first stays
abbrev IsFirst : List Sent → Outcome → Type 0
IsFirst base a = (w next : Sent) (more : List Sent) → a.others ≡ w ∷ more → slice_get base a.alike ≡ Some next → is_equal next w ≡ false

first_put : (base : List Sent) (alike : ℕ) (others : List Sent) (lost : Bool) (o : Option Output) → IsFirst base (told alike others lost)
    → IsFirst base (with_put base (told alike others lost) o)
first_put base alike others lost None first = first
first_put base alike [] lost (Some o) first =
    elim (cases_Bool (is_that (sent o) (slice_get base alike))) [
      | inl holds ↦ rw holds (λ w next more is there. absurd (cc))
      | inr fails ↦ rw fails (λ w next more is there. let same : sent o ≡ w = cc in rw (sym same) (rw there at fails))
    ]
first_put base alike (v ∷ vs) lost (Some o) first = λ w next more is there. let same : v
    ≡ w = cc in rw (sym same) (first v next vs refl there)

pub tells_the_first_other : (scenario : Scenario) → TellsTheFirstOther scenario
tells_the_first_other scenario base zero = rw (none_told scenario base) (λ w next more is there. absurd (cc))
tells_the_first_other scenario base (suc n) =
    let before = outcome base 0 scenario n in
    rw (looked_next begun (see base) 0 scenario n (omega arith))
    (first_put base before.alike before.others (with_step before (strays scenario (run scenario n))).strays
    (next scenario (run scenario n)).1 (tells_the_first_other scenario base n))
