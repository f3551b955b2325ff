-- The text of a run's profile.
use Rattle.std.proofs.Common.{◌≡◌, ℕ, ◌∙◌, List, ap}
use Rattle.json_text.specs.declared.notation.Notation.{Notation}
use Rattle.rope.specs.Places.{Words}
use Rattle.cpu.specs.State.{Scenario}
use Rattle.cpu.specs.Profiles.{count_at, cycles_at}
use Rattle.cover.specs.CoverText.{cover_text, profile_text, total_of}
use Rattle.cover.specs.Tallies.{Counts, figures_at}
use Rattle.cover.specs.declared.shown.Shown.{Shown}
use Rattle.cover.specs.declared.tally.Figures.{Figures}
use Rattle.cover.proofs.Counting.{profile_is}

pub text_is : (notation : Notation) (scenario : Scenario) (n : ℕ) (figures : List Figures) (total : Figures) (words : Words) (lines : Shown)
    → Counts scenario n figures → total ≡ total_of scenario n → words ≡ scenario.rope
    → profile_text notation (figures_at figures) total words lines ≡ cover_text notation lines scenario n
unfolding cover_text
text_is notation scenario n figures total words lines counts e same =
    ap (λ f. profile_text notation f total words lines) (profile_is scenario n figures counts)
    ∙ ap (λ t. profile_text notation (λ a. record { count = count_at scenario a n; cycles = cycles_at scenario a n }) t words lines) e
    ∙ ap (λ w. profile_text notation (λ a. record { count = count_at scenario a n; cycles = cycles_at scenario a n }) (total_of scenario n)
    w lines) same
