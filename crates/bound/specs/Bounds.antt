-- The most cycles of a routine.
use Rattle.std.specs.Prelude.{◌≡◌, ℕ, zero, suc, ◌+◌, ◌*◌, ◌≤◌, ◌%◌, ◌⊎◌, ◌≢◌, Bool, true, false, ◌==◌, ◌&&◌, List, [], ◌∷◌, All}
use Rattle.std.specs.Prelude.{if◌then◌else◌, length}
use Rattle.rope.specs.Places.{Words}
use Rattle.bound.specs.declared.charge.Limit.{Limit}
use Rattle.bound.specs.declared.counted.Counted.{Counted}
use Rattle.bound.specs.declared.finding.Answer.{Answer}
use Rattle.bound.specs.declared.finding.Answer.TheVariants.{Most, Refused}
use Rattle.bound.specs.declared.site.Site.{Site}
use Rattle.bound.specs.declared.turn.Leg.{Leg}
use Rattle.bound.specs.declared.turn.Turn.{Turn}
use Rattle.bound.specs.declared.turn.Turn.TheVariants.{Back, Through, One, Two, Four, Stop}
use Rattle.bound.specs.declared.turn.Why.{Why}
use Rattle.bound.specs.declared.turn.Why.TheVariants.{Indexed, Leaves, Steers, Resumes, Changed, Recursive, Unbounded, ManyWords}
use Rattle.bound.specs.declared.turn.Why.TheVariants.{ManyRoutines}
use Rattle.bound.specs.declared.turn.Why.TheVariants.{ManyCycles}
use Rattle.bound.specs.Counting.{counts_down, fits, stands_at_entry, stands_at_head, stands_in}
use Rattle.bound.specs.Turns.{turn}

-- the ways on of an instruction
abbrev pub IsLeg : Leg → Turn → Type 0
IsLeg l (One a) = l ≡ a
IsLeg l (Two a b) = (l ≡ a) ⊎ (l ≡ b)
IsLeg l (Four a b c d) = (l ≡ a) ⊎ ((l ≡ b) ⊎ ((l ≡ c) ⊎ (l ≡ d)))
IsLeg l (Back n) = ⊥
IsLeg l (Through t m) = ⊥
IsLeg l (Stop why) = ⊥

-- whether a word stands at the place of a limit
abbrev pub stands_at : Limit → Site → Bool
stands_at limit p = limit.bank == p.bank && limit.offset == p.address % 0o2000

-- how many of some words do
abbrev pub times : Limit → List Site → ℕ
times limit [] = 0
times limit (p ∷ ps) = (if stands_at limit p then 1 else 0) + times limit ps

-- of some words, at no place of a limit stand more than it allows
abbrev pub Within : List Limit → List Site → Type 0
Within [] ps = Unit {0}
Within (limit ∷ limits) ps = (times limit ps ≤ limit.most) × Within limits ps

-- a word leads to another of its routine: by one of its ways on, or past a routine that it calls
pub data Leads (words : Words) (kept : List ℕ) : Site → Site → Type 0 where
  On : (p : Site) (l : Leg) → IsLeg l (turn words kept p) → Leads words kept p l.to
  Past : (p t : Site) (l : Leg) → turn words kept p ≡ Through t l → Leads words kept p l.to

-- the words of a routine: its first, and those to which one of them leads
pub data Has (words : Words) (kept : List ℕ) : Site → Site → Type 0 where
  First : (r : Site) → Has words kept r r
  Next : (r p q : Site) → Has words kept r p → Leads words kept p q → Has words kept r q

-- a loop of a routine is counted by CCS: the routine does not begin in it, and each word of the routine is as the loop has it
pub record IsCounted (words : Words) (kept : List ℕ) (r : Site) (c : Counted) : Type 0 where
  pub down : counts_down c ≡ true
  pub outside : stands_in c r ≡ false
  pub each : (q : Site) → Has words kept r q → fits words kept c q ≡ true

-- how often some words are the head of a loop, and how often they enter it
abbrev pub rounds : Counted → List Site → ℕ
rounds c [] = 0
rounds c (p ∷ ps) = (if stands_at_head c p then 1 else 0) + rounds c ps

abbrev pub entries : Counted → List Site → ℕ
entries c [] = 0
entries c (p ∷ ps) = (if stands_at_entry c p then 1 else 0) + entries c ps

-- of the words of a way through a routine, each counted loop's head stands among them at most once more than the loop's constant for each
-- time that the loop is entered
abbrev pub Counts : Words → List ℕ → Site → List Site → Type 0
Counts words kept r ps = (c : Counted) → IsCounted words kept r c → rounds c ps ≤ (c.from + 1) * entries c ps

-- A way through a routine: from a word, over these words, back to where the routine was called, in so many cycles. A routine that it calls
-- is gone through by a way of its own, within the limits and as its counted loops count, whose cycles count.
pub data Way (words : Words) (kept : List ℕ) (limits : List Limit) : Site → List Site → ℕ → Type 0 where
  Ends : (p : Site) (n : ℕ) → turn words kept p ≡ Back n → Way words kept limits p (p ∷ []) n
  Goes : (p : Site) (l : Leg) (ps : List Site) (n : ℕ) → IsLeg l (turn words kept p) → Way words kept limits l.to ps n
      → Way words kept limits p (p ∷ ps) (l.cycles + n)
  Calls : (p t : Site) (l : Leg) (qs ps : List Site) (m n : ℕ) → turn words kept p ≡ Through t l
      → Way words kept limits t qs m → Within limits qs → Counts words kept t qs → Way words kept limits l.to ps n
      → Way words kept limits p (p ∷ ps) (l.cycles + m + n)

-- each way through a routine within the limits, and as its counted loops count, takes at most so many cycles
abbrev pub IsBound : Words → List ℕ → List Limit → Site → ℕ → Type 0
IsBound words kept limits p most =
    (ps : List Site) (n : ℕ) → Way words kept limits p ps n → Within limits ps → Counts words kept p ps → n ≤ most

-- a routine calls another at one of its words
pub record CallsAt (words : Words) (kept : List ℕ) (r p t : Site) : Type 0 where
  pub has : Has words kept r p
  pub after : Leg
  pub calls : turn words kept p ≡ Through t after

-- a routine calls another, by as many in between as it may be
pub data Uses (words : Words) (kept : List ℕ) : Site → Site → Type 0 where
  Itself : (r : Site) → Uses words kept r r
  Calls : (r s p t : Site) → Uses words kept r s → CallsAt words kept s p t → Uses words kept r t

-- a word stands at no place of a limit
abbrev pub IsFree : List Limit → Site → Type 0
IsFree [] p = Unit {0}
IsFree (limit ∷ limits) p = (stands_at limit p ≡ false) × IsFree limits p

-- so many words, each of which leads to the next, from this one on, at no place of a limit
abbrev pub GoesOn : Words → List ℕ → List Limit → ℕ → Site → Type 0
GoesOn words kept limits zero p = IsFree limits p
GoesOn words kept limits (suc n) p = IsFree limits p × ((q : Site) × Leads words kept p q × GoesOn words kept limits n q)

-- a routine calls one at this word that uses it: itself, or one that calls it, by as many in between as it may be
pub record CallsUser (words : Words) (kept : List ℕ) (r p : Site) : Type 0 where
  pub called : Site
  pub at : CallsAt words kept r p called
  pub uses : Uses words kept called r

-- no two of some words are one
abbrev pub AreApart : List Site → Type 0
AreApart [] = Unit {0}
AreApart (p ∷ ps) = All (λ q. p ≢ q) ps × AreApart ps

-- so many words, no two of which are one, are such
pub record AreMany (n : ℕ) (P : Site → Type 0) : Type 0 where
  pub sites : List Site
  pub each : All P sites
  pub apart : AreApart sites
  pub many : n ≤ length sites

-- how many words a routine has at most, each counted for each way to come to it; and how many routines it uses, itself counted, are too
-- many
abbrev pub most_words : ℕ
most_words = 8192

abbrev pub many_routines : ℕ
many_routines = 2048

-- nothing but its cycles is in the way of a bound: each word of a routine tells where it leads, and each routine that it calls has a bound
pub record IsWhole (words : Words) (kept : List ℕ) (limits : List Limit) (r : Site) : Type 0 where
  pub tells : (p : Site) (why : Why) → Has words kept r p → turn words kept p ≢ Stop why
  pub bounded : (p t : Site) → CallsAt words kept r p t → (most : ℕ) × IsBound words kept limits t most

-- the causes that are not told by one word: at this word a routine calls one in progress; from it ways that no limit bounds lead on for as
-- many words as one may name; the routine has more words, or uses more routines, than are looked at; and of a routine that is whole no
-- numbers are found that hold
abbrev pub IsOfMany : Words → List ℕ → List Limit → Site → Site → Why → Type 0
IsOfMany words kept limits r p Recursive = CallsUser words kept r p
IsOfMany words kept limits r p Unbounded = (n : ℕ) → GoesOn words kept limits n p
IsOfMany words kept limits r p ManyWords = AreMany (most_words + 1) (λ q. Has words kept r q)
IsOfMany words kept limits r p ManyRoutines = AreMany many_routines (λ q. Uses words kept r q)
IsOfMany words kept limits r p ManyCycles = IsWhole words kept limits r
IsOfMany words kept limits r p Indexed = ⊥
IsOfMany words kept limits r p Leaves = ⊥
IsOfMany words kept limits r p Steers = ⊥
IsOfMany words kept limits r p Resumes = ⊥
IsOfMany words kept limits r p Changed = ⊥

-- why no number is told, at a word of a routine: the word does not tell where it leads, by this cause; or the cause is of many words
abbrev pub IsCause : Words → List ℕ → List Limit → Site → Site → Why → Type 0
IsCause words kept limits r p why = (turn words kept p ≡ Stop why) ⊎ IsOfMany words kept limits r p why

-- the same at a word of a routine or of one that it uses
pub record IsReason (words : Words) (kept : List ℕ) (limits : List Limit) (routine p : Site) (why : Why) : Type 0 where
  pub owner : Site
  pub uses : Uses words kept routine owner
  pub has : Has words kept owner p
  pub cause : IsCause words kept limits owner p why

-- what is answered of a routine: a bound, or a place and a cause why none is found
abbrev pub IsAnswer : Words → List ℕ → List Limit → Site → Answer → Type 0
IsAnswer words kept limits routine (Most most) = IsBound words kept limits routine most
IsAnswer words kept limits routine (Refused p why) = IsReason words kept limits routine p why

-- loops are counted ones of a routine
abbrev pub AreCounted : Words → List ℕ → Site → List Counted → Type 0
AreCounted words kept r [] = Unit {0}
AreCounted words kept r (c ∷ cs) = IsCounted words kept r c × AreCounted words kept r cs

-- the same of a routine or of those that it uses
pub record IsCountedOf (words : Words) (kept : List ℕ) (routine : Site) (c : Counted) : Type 0 where
  pub owner : Site
  pub uses : Uses words kept routine owner
  pub counted : IsCounted words kept owner c

abbrev pub AreCountedOf : Words → List ℕ → Site → List Counted → Type 0
AreCountedOf words kept r [] = Unit {0}
AreCountedOf words kept r (c ∷ cs) = IsCountedOf words kept r c × AreCountedOf words kept r cs

-- what is found of a routine: an answer, and loops that are counted of it or of those that it uses
pub record IsFound (words : Words) (kept : List ℕ) (limits : List Limit) (routine : Site) (answer : Answer) (loops : List Counted) : Type 0
  where
    pub answered : IsAnswer words kept limits routine answer
    pub counted : AreCountedOf words kept routine loops
