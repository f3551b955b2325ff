-- Requests that wait alike among some others.
use Rattle.std.proofs.Common.{◌≡◌, ◌≢◌, ℕ, Bool, true, false, ◌==◌, List, [], ◌∷◌, ◌++◌, replicate, cond, inl, inr, refl, ap, sym, ◌∙◌}
use Rattle.std.proofs.Common.{arith}
use Rattle.std.proofs.lemmas.Bool.{cases_Bool, ne_eqb, eq-eqb}
use Rattle.std.proofs.lemmas.Grind.{flat_map-append}
use Rattle.std.proofs.lemmas.List.Folds.{list_any-append}
use Rattle.std.specs.List.{filter, flat_map}
use Rattle.std.specs.Result.{result_unwrap_or}
use Rattle.rope.specs.Places.{Placed}
use Rattle.yayul.specs.Layout.{Request, width, on_line}
use Rattle.yayul.specs.Words.{request_words, request_faults}
use Rattle.yayul.specs.Program.{placed_from}
use Rattle.yayul.specs.Language.{Fault, FaultKind, Value}
use Rattle.yayul.specs.Inside.Sound.{AreBelow}
use Rattle.yayul.specs.Inside.Waiting.{is_waiting, standing_words, standing_faults}
use Rattle.yayul.proofs.RequestFault.{StandOff, off-append}
use Rattle.yayul.proofs.TakenPlaces.{or-false}

-- no request is of a line
abbrev pub AreOff : ℕ → List Request → Type 0
AreOff line [] = Unit {0}
AreOff line (q ∷ qs) = (q.line ≢ line) × AreOff line qs

pub off-below : (line : ℕ) (qs : List Request) → AreBelow line qs → AreOff line qs
off-below line [] below = tt
off-below line (q ∷ qs) below = ((λ same. omega (arith, same, below.0)), off-below line qs below.1)

pub off-filter : (line : ℕ) (test : Request → Bool) (qs : List Request) → AreOff line qs → AreOff line (filter test qs)
off-filter line test [] off = tt
off-filter line test (q ∷ qs) off =
    elim (cases_Bool (test q)) [
      | inl passes ↦ rw passes (off.0, off-filter line test qs off.1)
      | inr fails ↦ rw fails (off-filter line test qs off.1)
    ]

-- a request waits not, where none of its line does
pub none_waits : (waiting : List Request) (r : Request) → AreOff r.line waiting → is_waiting waiting r ≡ false
none_waits [] r off = refl
none_waits (w ∷ waiting) r off = rw (ne_eqb w.line r.line off.0) (none_waits waiting r off.1)

-- the last that waits does
pub last_waits : (waiting : List Request) (r : Request) → is_waiting (waiting ++ r ∷ []) r ≡ true
last_waits [] r = rw (eq-eqb r.line r.line refl) refl
last_waits (w ∷ waiting) r = elim (cases_Bool (w.line == r.line)) [ inl same ↦ rw same refl | inr other ↦ rw other (last_waits waiting r) ]

pub first_waits : (waiting : List Request) (r : Request) → is_waiting (r ∷ waiting) r ≡ true
first_waits waiting r = rw (eq-eqb r.line r.line refl) refl

-- requests wait among these, where they do among those
abbrev pub WaitAlike : List Request → List Request → List Request → Type 0
WaitAlike these those [] = Unit {0}
WaitAlike these those (q ∷ qs) = (is_waiting these q ≡ is_waiting those q) × WaitAlike these those qs

-- one more that waits, of another line, is the same to them
pub alike-last : (waiting : List Request) (r : Request) (qs : List Request) → AreOff r.line qs → WaitAlike (waiting ++ r ∷ []) waiting qs
alike-last waiting r [] off = tt
alike-last waiting r (q ∷ qs) off = (
  list_any-append (λ w. w.line == q.line) waiting (r ∷ [])
      ∙ rw (ne_eqb r.line q.line (λ same. off.0 (sym same))) (or-false (is_waiting waiting q)),
  alike-last waiting r qs off.1,
)

pub alike-first : (waiting : List Request) (r : Request) (qs : List Request) → AreOff r.line qs → WaitAlike (r ∷ waiting) waiting qs
alike-first waiting r [] off = tt
alike-first waiting r (q ∷ qs) off = (rw (ne_eqb r.line q.line (λ same. off.0 (sym same))) refl, alike-first waiting r qs off.1)

pub filter-alike : (these those qs : List Request) → WaitAlike these those qs → filter (is_waiting these) qs ≡ filter (is_waiting those) qs
filter-alike these those [] alike = refl
filter-alike these those (q ∷ qs) alike = rw (alike.0, filter-alike these those qs alike.1) refl

module _ (table : List (List ℕ × Value)) where
  -- the words that stand for a request, in their places
  abbrev pub places : List Request → Request → List Placed
  places waiting r = placed_from r.bank r.offset (standing_words table waiting r)

  words-alike : (these those : List Request) (r : Request) → is_waiting these r ≡ is_waiting those r
      → standing_words table these r ≡ standing_words table those r
  unfolding standing_words
  words-alike these those r alike = ap (λ waits. cond waits (replicate (width r.content) 0)
      (result_unwrap_or (request_words table r) (replicate (width r.content) 0))) alike

  -- what stands for a request that waits
  pub words-waiting : (waiting : List Request) (r : Request) → is_waiting waiting r ≡ true
      → standing_words table waiting r ≡ replicate (width r.content) 0
  unfolding standing_words
  words-waiting waiting r waits = rw waits refl

  -- and for one that doesn't
  pub words-settled : (waiting : List Request) (r : Request) → is_waiting waiting r ≡ false
      → standing_words table waiting r ≡ result_unwrap_or (request_words table r) (replicate (width r.content) 0)
  unfolding standing_words
  words-settled waiting r settled = rw settled refl

  pub places-alike : (these those qs : List Request) → WaitAlike these those qs → flat_map (places these) qs ≡ flat_map (places those) qs
  places-alike these those [] alike = refl
  places-alike these those (q ∷ qs) alike = rw (words-alike these those q alike.0, places-alike these those qs alike.1) refl

  pub faults-alike : (these those qs : List Request) → WaitAlike these those qs
      → standing_faults table these qs ≡ standing_faults table those qs
  unfolding standing_faults
  faults-alike these those [] alike = refl
  faults-alike these those (q ∷ qs) alike = rw (alike.0, faults-alike these those qs alike.1) refl

  pub faults-append : (waiting qs rs : List Request)
      → standing_faults table waiting (qs ++ rs) ≡ standing_faults table waiting qs ++ standing_faults table waiting rs
  unfolding standing_faults
  faults-append waiting qs rs = flat_map-append (λ r. cond (is_waiting waiting r) [] (on_line r.line (request_faults table r))) qs rs

  pub faults-settled : (waiting : List Request) (r : Request) (qs : List Request) → is_waiting waiting r ≡ false
      → standing_faults table waiting (r ∷ qs) ≡ on_line r.line (request_faults table r) ++ standing_faults table waiting qs
  unfolding standing_faults
  faults-settled waiting r qs settled = rw settled refl

  pub faults-waiting : (waiting : List Request) (r : Request) (qs : List Request) → is_waiting waiting r ≡ true
      → standing_faults table waiting (r ∷ qs) ≡ standing_faults table waiting qs
  unfolding standing_faults
  faults-waiting waiting r qs waits = rw waits refl

  pub faults-none : (waiting : List Request) → standing_faults table waiting [] ≡ []
  unfolding standing_faults
  faults-none waiting = refl

  off-on_line : (line here : ℕ) (kinds : List FaultKind) → here ≢ line → StandOff line (on_line here kinds)
  off-on_line line here [] other = λ f stands. absurd stands
  off-on_line line here (k ∷ kinds) other = λ f stands.
      elim stands [
        | inl same ↦ (λ at. other (ap (λ (g : Fault). g.line) (sym same) ∙ at))
        | inr later ↦ off-on_line line here kinds other f
            later
      ]

  -- faults stand on the lines of their requests
  pub faults-off : (line : ℕ) (waiting qs : List Request) → AreOff line qs → StandOff line (standing_faults table waiting qs)
  unfolding standing_faults
  faults-off line waiting [] off = λ f stands. absurd stands
  faults-off line waiting (q ∷ qs) off =
      elim (cases_Bool (is_waiting waiting q)) [
        | inl waits ↦ rw waits (faults-off line waiting qs off.1)
        | inr settled ↦ rw settled (off-append line (on_line q.line (request_faults table q)) (standing_faults table waiting qs)
            (off-on_line line q.line (request_faults table q) off.0) (faults-off line waiting qs off.1))
      ]
