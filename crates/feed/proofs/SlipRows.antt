-- Lines of feeds, and where each is refused and why, by the definitions alone.
use Rattle.std.proofs.Common.{◌≡◌, ℕ, List, [], ◌∷◌, map, refl}
use Rattle.std.specs.Prelude.{codes}
use Rattle.agc_text.specs.Fields.{fields, runs, texts}
use Rattle.feed.specs.Names.{counters, sequences}
use Rattle.feed.specs.Slips.{line_slip}
use Rattle.feed.specs.declared.input.Counter.TheVariants.{Time1, Time6}
use Rattle.feed.specs.declared.slip.Slip.{Slip}
use Rattle.feed.specs.declared.slip.Why.{Why}
use Rattle.feed.specs.declared.slip.Why.TheVariants.{Taken, Cycle, First, Factor, MissingFactor, Name, Channel, Word, Request, NotTaken}
use Rattle.feed.specs.declared.slip.Why.TheVariants.{Missing, Surplus}

-- how many fields stand before the one that is refused, and why it is
abbrev told : List ℕ → ℕ × Why
told line = let s : Slip = line_slip (texts (fields line)) in (s.field, s.why)

abbrev lines_with_slips : List (List ℕ × (ℕ × Why))
lines_with_slips =
    (codes "# keys", (0, Taken))
    ∷ (codes "5 TIME1 PINC # one", (2, Taken))
    ∷ (codes "EVERY 0 853 1 5 CHAN 15 21", (7, Taken))
    ∷ (codes "CHAN 15 21", (0, Cycle))
    ∷ (codes "1000000000000000 TIME1 PINC", (0, Cycle))
    ∷ (codes "5", (0, Missing))
    ∷ (codes "5 KEYRUPT1", (1, Name))
    ∷ (codes "5 TIME1", (1, Missing))
    ∷ (codes "5 TIME1 PNC", (2, Why.Sequence Time1))
    ∷ (codes "0 TIME6 PINC", (2, NotTaken Time6))
    ∷ (codes "5 TIME1 PINC 1", (3, Surplus))
    ∷ (codes "0 CHAN 1 5", (2, Channel))
    ∷ (codes "0 CHAN 1000 5", (2, Channel))
    ∷ (codes "5 CHAN 15", (2, Missing))
    ∷ (codes "5 CHAN 15 100000", (3, Word))
    ∷ (codes "5 CHAN 15 21 3", (4, Surplus))
    ∷ (codes "0 RUPT 11", (2, Request))
    ∷ (codes "EVERY", (0, MissingFactor))
    ∷ (codes "EVERY CHAN 15 21", (1, First))
    ∷ (codes "EVERY 0 853 1", (3, MissingFactor))
    ∷ (codes "EVERY 0 853 5 TIME1 PINC", (4, Factor))
    ∷ (codes "EVERY 0 0 1 5 TIME1 PINC", (2, Factor))
    ∷ (codes "EVERY 0 853 1 5 0 TIME1 PINC", (5, Name))
    ∷ (codes "EVERY 0 853 1 5 CHAN 15", (6, Missing))
    ∷ []

each_told : map {B = ℕ × Why} (λ r. told r.0) lines_with_slips ≡ map {B = ℕ × Why} (λ r. r.1) lines_with_slips
unfolding runs counters sequences
each_told = refl
