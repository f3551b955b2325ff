-- What private functions find of a routine.
use Rattle.std.specs.Prelude.{ℕ, ◌≡◌, Bool, false, not, ◌&&◌, None, ◌||◌, List, [], ◌∷◌, ◌++◌, All, if◌then◌else◌, is_some, true}
use Rattle.std.specs.Prelude.{Option, Some}
use Rattle.std.specs.List.{list_all, list_any, position}
use Rattle.rope.specs.Places.{Words}
use Rattle.bound.specs.declared.charge.Limit.{Limit}
use Rattle.bound.specs.declared.checking.Row.{Row}
use Rattle.bound.specs.declared.finding.Attempt.{Attempt}
use Rattle.bound.specs.declared.finding.Attempt.TheVariants as attempt
use Rattle.bound.specs.declared.graph.Explored.{Explored}
use Rattle.bound.specs.declared.graph.Explored.TheVariants as explored
use Rattle.bound.specs.declared.site.Site.{Site}
use Rattle.bound.specs.declared.turn.Turn.{Turn}
use Rattle.bound.specs.declared.turn.Turn.TheVariants.{Back, Through, One, Two, Four, Stop}
use Rattle.bound.specs.declared.turn.Why.{Why}
use Rattle.bound.specs.Bounds.{AreCounted, CallsAt, Has, IsBound, IsCause, stands_at}
use Rattle.bound.specs.Inside.Checks.{number_at, same}
use Rattle.bound.specs.Turns.{turn}

-- the words of its routine to which a turn leads
abbrev pub targets : Turn → List Site
targets (Back n) = []
targets (Through t l) = l.to ∷ []
targets (One a) = a.to ∷ []
targets (Two a b) = a.to ∷ b.to ∷ []
targets (Four a b c d) = a.to ∷ b.to ∷ c.to ∷ d.to ∷ []
targets (Stop why) = []

-- some words and one more, unless it is among them; and some more
abbrev pub with_site : List Site → Site → List Site
with_site ps q = if is_some (position (λ p. same p q) ps) then ps else ps ++ q ∷ []

abbrev pub with_all : List Site → List Site → List Site
with_all ps [] = ps
with_all ps (q ∷ qs) = with_all (with_site ps q) qs

-- whether a word is among some
abbrev pub is_in : List Site → Site → Bool
is_in ps q = list_any (λ p. same p q) ps

-- whether a word stands at the place of a limit, and whether at none
abbrev pub is_limited : List Limit → Site → Bool
is_limited limits p = list_any (λ limit. stands_at limit p) limits

abbrev pub is_free : List Limit → Site → Bool
is_free limits p = not (is_limited limits p)

-- whether a turn leads to one of some words; whether a word stands at no place of a limit, and leads to one of them; whether each does
abbrev pub leads_into : List Site → Turn → Bool
leads_into ps (Back n) = false
leads_into ps (Through t l) = is_in ps l.to
leads_into ps (One a) = is_in ps a.to
leads_into ps (Two a b) = is_in ps a.to || is_in ps b.to
leads_into ps (Four a b c d) = (is_in ps a.to || is_in ps b.to) || (is_in ps c.to || is_in ps d.to)
leads_into ps (Stop why) = false

abbrev pub stays_in : Words → List ℕ → List Limit → List Site → Site → Bool
stays_in words kept limits ps p = is_free limits p && leads_into ps (turn words kept p)

abbrev pub all_stay : Words → List ℕ → List Limit → List Site → Bool
all_stay words kept limits ps = list_all (stays_in words kept limits ps) ps

-- some words are of a routine
abbrev pub AreOf : Words → List ℕ → Site → List Site → Type 0
AreOf words kept r ps = All (λ p. Has words kept r p) ps

-- at a word of a routine no number is told, by a cause
pub record Fails (words : Words) (kept : List ℕ) (limits : List Limit) (r p : Site) (why : Why) : Type 0 where
  pub has : Has words kept r p
  pub cause : IsCause words kept limits r p why

-- what is found where the words of a routine are looked for
abbrev pub IsExplored : Words → List ℕ → Site → Explored → Type 0
IsExplored words kept r explored.Whole = Unit {0}
IsExplored words kept r (explored.Calls p t) = CallsAt words kept r p t
IsExplored words kept r (explored.Stops p why) = (limits : List Limit) → Fails words kept limits r p why

-- a word leads on: it tells where, and where it calls a routine the bound of this is known; and so does each word of a routine
abbrev pub leads_on : List Row → Turn → Bool
leads_on known (Through t l) = is_some (number_at known t)
leads_on known (Stop why) = false
leads_on known _ = true

abbrev pub AllLeadOn : Words → List ℕ → List Row → Site → Type 0
AllLeadOn words kept known r = (p : Site) → Has words kept r p → leads_on known (turn words kept p) ≡ true

-- what is found at a word that does not
abbrev pub stop_at : Site → List Row → Turn → Option Explored
stop_at p known (Through t l) = if is_some (number_at known t) then None else Some (explored.Calls p t)
stop_at p known (Stop why) = Some (explored.Stops p why)
stop_at p known _ = None

-- where all words of a routine are found each leads on
abbrev pub IsFoundWhole : Words → List ℕ → List Row → Site → Explored → Type 0
IsFoundWhole words kept known r explored.Whole = AllLeadOn words kept known r
IsFoundWhole words kept known r (explored.Calls p t) = Unit {0}
IsFoundWhole words kept known r (explored.Stops p why) = Unit {0}

-- a routine that is found to be called is none of those whose bounds are known
abbrev pub IsNew : List Row → Explored → Type 0
IsNew known explored.Whole = Unit {0}
IsNew known (explored.Calls p t) = number_at known t ≡ None
IsNew known (explored.Stops p why) = Unit {0}

abbrev pub IsNewAttempt : List Row → Attempt → Type 0
IsNewAttempt known (attempt.Most most loops) = Unit {0}
IsNewAttempt known (attempt.Calls p t) = number_at known t ≡ None
IsNewAttempt known (attempt.Stops p why) = Unit {0}

-- the same of an attempt to find the bound of a routine
abbrev pub IsAttempt : Words → List ℕ → List Limit → Site → Attempt → Type 0
IsAttempt words kept limits r (attempt.Most most loops) = IsBound words kept limits r most × AreCounted words kept r loops.items
IsAttempt words kept limits r (attempt.Calls p t) = CallsAt words kept r p t
IsAttempt words kept limits r (attempt.Stops p why) = Fails words kept limits r p why

-- a routine calls another; and routines, each of which the one before it calls
pub record CallsOne (words : Words) (kept : List ℕ) (r t : Site) : Type 0 where
  pub place : Site
  pub at : CallsAt words kept r place t

abbrev pub IsChain : Words → List ℕ → Site → List Site → Type 0
IsChain words kept r [] = Unit {0}
IsChain words kept r (s ∷ ss) = CallsOne words kept r s × IsChain words kept s ss

-- the last of a routine and some
abbrev pub last_of : Site → List Site → Site
last_of r [] = r
last_of r (s ∷ ss) = last_of s ss
