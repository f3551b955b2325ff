-- What `survey` takes.
use Rattle.std.specs.Prelude.{ℕ, zero, suc, nat_le, ◌&&◌, List, [], ◌∷◌, Option, None, Some, if◌then◌else◌, option_and_then}
use Rattle.std.specs.Option.{option_map, option_or}
use Rattle.symbols.specs.Values.{SymbolTable}
use Rattle.commands.specs.Commands.{count_in}
use Rattle.commands.specs.NamedPlaces.{after_place}
use Rattle.commands.specs.Subjects.{place_subject, channel_subject}
use Rattle.commands.specs.declared.subject.Subject.{Subject}
use Rattle.commands.specs.declared.survey.Surveyed.{Surveyed}

-- the most words that are watched, and the most buckets
abbrev pub most_surveyed : ℕ
most_surveyed = 8

abbrev pub most_buckets : ℕ
most_buckets = 4096

-- the first and the last of some steps, which are numbered from 1 on, and of which there is one at least
abbrev pub steps_from : ℕ → ℕ → Option (ℕ × ℕ)
steps_from first last = if nat_le 1 first && nat_le first last then Some (first, last) else None

-- how many buckets
abbrev pub buckets_in : List ℕ → Option ℕ
buckets_in field = option_and_then (λ k. if nat_le 1 k && nat_le k most_buckets then Some k else None) (count_in field)

-- an erasable place or, where no symbol has the name, a channel, and what stands after it
abbrev pub subject_then : SymbolTable → List (List ℕ) → Option (Subject × List (List ℕ))
subject_then symbols [] = None
subject_then symbols (field ∷ more) =
    option_or (option_map (λ s. (s, after_place (field ∷ more))) (place_subject symbols (field ∷ more)))
    (option_map (λ s. (s, more)) (channel_subject symbols field))

-- such, one after another, at most so many
abbrev pub subjects_in : SymbolTable → ℕ → List (List ℕ) → Option (List Subject)
subjects_in symbols zero [] = Some []
subjects_in symbols zero (field ∷ more) = None
subjects_in symbols (suc k) [] = Some []
subjects_in symbols (suc k) (field ∷ more) =
    option_and_then (λ found. option_map (λ subjects. found.0 ∷ subjects) (subjects_in symbols k found.1))
    (subject_then symbols (field ∷ more))

-- two steps, how many buckets, and what is watched
abbrev pub surveyed_of : SymbolTable → ℕ × ℕ → ℕ → List (List ℕ) → Option Surveyed
surveyed_of symbols steps buckets fields =
    option_map (λ subjects. record { first = steps.0; last = steps.1; buckets = buckets; subjects = subjects })
    (subjects_in symbols most_surveyed fields)

abbrev pub survey_in : SymbolTable → List (List ℕ) → Option Surveyed
survey_in symbols [] = None
survey_in symbols (first ∷ []) = None
survey_in symbols (first ∷ last ∷ []) = None
survey_in symbols (first ∷ last ∷ buckets ∷ more) =
    option_and_then (λ from. option_and_then (λ to. option_and_then
    (λ steps. option_and_then (λ k. surveyed_of symbols steps k more) (buckets_in buckets)) (steps_from from to)) (count_in last))
    (count_in first)
