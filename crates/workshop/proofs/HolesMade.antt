-- What is written of words whose holes were filled.
use Rattle.std.proofs.Common.{◌≡◌, ◌∙◌, ap, refl, ℕ, Option, Result, subst}
use Rattle.rope.specs.Places.{Words, banks}
use Rattle.rope.specs.declared.spelling.Version.{Version}
use Rattle.yayul.specs.Program.{Program}
use Rattle.holes.specs.Holes.{filled}
use Rattle.workshop.specs.declared.fault.WorkshopFault.{WorkshopFault}
use Rattle.audit.specs.CheckWords.{with_checks, HaveRoom}
use Rattle.workshop.specs.Assemblies.{without_bank}
use Rattle.workshop.specs.Holed.{Printing, PrintsChecked, PrintsFilled, PrintsWithRoom}

pub of_filled : (version : Version) (p : Program) (other from words rope : Words) (before after : Printing)
    (result : Result (Unit {0}) WorkshopFault) → words ≡ filled rope other from → rope ≡ p.rope
    → PrintsFilled version p other words before after result → PrintsFilled version p other (filled p.rope other from) before after result
of_filled version p other from words rope before after result made same prints =
    subst (λ (w : Words). PrintsFilled version p other w before after result) (made ∙ ap (λ (r : Words). filled r other from) same) prints

pub of_rope : (version : Version) (p : Program) (other rope : Words) (before after : Printing) (result : Result (Unit {0}) WorkshopFault)
    → rope ≡ p.rope → PrintsFilled version p other rope before after result → PrintsFilled version p other p.rope before after result
of_rope version p other rope before after result same prints =
    subst (λ (w : Words). PrintsFilled version p other w before after result) same prints

-- the image was written with check words, over some words
pub of_summed : {version : Version} {p : Program} {other words checked : Words} {before after : Printing}
    {written : Result (Unit {0}) WorkshopFault}
    → HaveRoom words banks → checked ≡ with_checks words banks → PrintsFilled version p other checked before after written
    → PrintsChecked version p other words before after (without_bank written)
of_summed {version} {p} {other} {words} {checked} {before} {after} {written} room made prints = record {
  room = room;
  written = written;
  prints = subst (λ (w : Words). PrintsFilled version p other w before after written) made prints;
  told = refl;
}

-- the same over words that were filled
pub of_filled_sums : (version : Version) (p : Program) (other from words rope : Words) (before after : Printing)
    (result : Result (Option ℕ) WorkshopFault) → words ≡ filled rope other from → rope ≡ p.rope
    → PrintsWithRoom version p other words before after result
    → PrintsWithRoom version p other (filled p.rope other from) before after result
of_filled_sums version p other from words rope before after result made same prints =
    subst (λ (w : Words). PrintsWithRoom version p other w before after result) (made ∙ ap (λ (r : Words). filled r other from) same)
    prints
