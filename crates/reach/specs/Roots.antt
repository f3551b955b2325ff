-- The first root from which a way leads to each word: the vectors one by one, then all that a run executes, then the places that a
-- program names one by one.
use Rattle.std.specs.Prelude.{◌≡◌, ◌↔◌, ℕ, zero, suc, ◌+◌, ◌*◌, ◌-◌, ◌^◌, ◌<◌, ◌≤◌, ◌==◌, ◌||◌, min, Bool, true, false, if◌then◌else◌, List}
use Rattle.std.specs.Prelude.{[], ◌∷◌, ◌++◌, codes}
use Rattle.std.specs.Prelude.{length, map, get_or, Option, None, Some}
use Rattle.std.specs.List.{range_with_len}
use Rattle.space.specs.declared.place.Linear.TheVariants as linear
use Rattle.rope.specs.Places.{Words}
use Rattle.yayul.specs.Listing.{blanks, place_text}
use Rattle.cpu.specs.State.{Scenario}
use Rattle.reach.specs.declared.spot.How.TheVariants.{Executes}
use Rattle.reach.specs.declared.spot.Spot.{Spot}
use Rattle.reach.specs.Executed.{executed}
use Rattle.reach.specs.Marks.{IsSpot, number}
use Rattle.reach.specs.Named.{named_spot}
use Rattle.reach.specs.Ways.{Reached, spot}

-- a root: the spots from which ways lead, and the place that is shown of it, where it is one place
pub record WayRoot : Type 0 where
  pub place : Option (ℕ × ℕ)
  pub spots : List Spot

-- a place of fixed memory; and what the first n steps execute
abbrev pub place_root : ℕ × ℕ → WayRoot
place_root p = record { place = Some p; spots = named_spot p ∷ [] }

abbrev pub run_root : Scenario → ℕ → WayRoot
run_root scenario n = record { place = None; spots = executed scenario n }

-- where a run starts, and where interrupt k is entered, for k from 1 to 10: places of bank 2
abbrev pub vector_place : ℕ → ℕ × ℕ
vector_place k = (2, 4 * k)

unfoldable pub vector_places : List (ℕ × ℕ)
vector_places = map vector_place (range_with_len 0 11)

-- the roots of a program, in the order in which a word is told by them: those without a run, and those with one
abbrev pub program_roots : List (ℕ × ℕ) → List WayRoot
program_roots places = map place_root vector_places ++ map place_root places

abbrev pub all_roots : Scenario → ℕ → List (ℕ × ℕ) → List WayRoot
all_roots scenario n places = (map place_root vector_places ++ run_root scenario n ∷ []) ++ map place_root places

-- the spots of the first k roots
unfoldable pub spots_before : ℕ → List WayRoot → List Spot
spots_before zero roots = []
spots_before (suc k) [] = []
spots_before (suc k) (r ∷ roots) = r.spots ++ spots_before k roots

-- where no root leads
abbrev pub no_root : ℕ
no_root = 2 ^ 64 - 1

-- the number of the first root that leads to a spot
abbrev pub first_of : List ℕ → Spot → ℕ
first_of firsts q = get_or firsts (number q) no_root

-- the number of a spot's root is less than k exactly if a way leads to it from the first k roots: so it is the first that does
pub record AreFirst (words : Words) (roots : List WayRoot) (firsts : List ℕ) : Type 0 where
  pub each : (q : Spot) → IsSpot q → (k : ℕ) → k ≤ length roots → ((first_of firsts q < k) ↔ Reached words (spots_before k roots) q)

-- what is shown of roots, and the number of each spot's
pub record Rooting : Type 0 where
  pub places : List (Option (ℕ × ℕ))
  pub firsts : List ℕ

pub record ShowsRoots (words : Words) (roots : List WayRoot) (r : Rooting) : Type 0 where
  pub first : AreFirst words roots r.firsts
  pub places : r.places ≡ map (λ root. root.place) roots

-- they are shown where this is asked for
abbrev pub AreShown : Bool → Words → List WayRoot → Option Rooting → Type 0
AreShown false words roots shown = shown ≡ None
AreShown true words roots shown = (r : Rooting) × (shown ≡ Some r) × ShowsRoots words roots r

-- the root of a word that is executed at an address; and that of a word of bank 2 or 3 at an address from 4000 on too
unfoldable pub first_executed : List ℕ → ℕ → ℕ → ℕ
first_executed firsts bank address =
    min (min (first_of firsts (spot bank address (Executes false false))) (first_of firsts (spot bank address (Executes true false))))
    (min (first_of firsts (spot bank address (Executes false true))) (first_of firsts (spot bank address (Executes true true))))

abbrev pub first_at : List ℕ → ℕ → ℕ → ℕ
first_at firsts bank offset =
    if bank == 2 || bank == 3
    then min (first_executed firsts bank (0o2000 + offset)) (first_executed firsts bank (0o2000 * bank + offset))
    else first_executed firsts bank (0o2000 + offset)

-- the column of a word's root: its place, and blanks where a row has no word, or no root leads there, or this has no place
abbrev pub place_column : Option (ℕ × ℕ) → List ℕ
place_column None = blanks 8
place_column (Some p) = place_text (linear.Fixed p.0 p.1) ++ codes " "

-- the place that is shown of the root of a word, where a row has one
abbrev pub root_place : Rooting → Option (ℕ × ℕ) → Option (ℕ × ℕ)
root_place r None = None
root_place r (Some p) = get_or r.places (first_at r.firsts p.0 p.1) None

-- what stands behind the columns of a word, and of a row without one, where roots are shown, and where they are not
abbrev pub roots_column : Option Rooting → Option (ℕ × ℕ) → List ℕ
roots_column None word = []
roots_column (Some r) word = place_column (root_place r word)
