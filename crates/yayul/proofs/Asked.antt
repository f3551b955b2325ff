-- The words that a line asks for: what holds of the layout without them and with a request of them.
use Rattle.std.proofs.Common.{ℕ, Option, None, Some}
use Rattle.std.specs.Option.{option_map_or}
use Rattle.yayul.specs.Layout.{Layout, Request, asked, asked_here, word_place}
use Rattle.yayul.specs.Language.{Content}

pub asked_stays : (P : Layout → Type 0) (line : ℕ) (s : Layout) (content : Content) → P s → ((r : Request) → P (asked s r))
    → P (asked_here line s content)
asked_stays P line s content without with_one = by_place (word_place s.location)
  where
    by_place : (place : Option (ℕ × ℕ)) → P (option_map_or
        (λ p. asked s (record { line = line; bank = p.0; offset = p.1; content = content; extracode = s.extracode; eb = s.eb })) place s)
    by_place None = without
    by_place (Some p) =
        with_one (record { line = line; bank = p.0; offset = p.1; content = content; extracode = s.extracode; eb = s.eb })
