-- What was written with check words, over a copy of a program's words.
use Rattle.std.proofs.Common.{◌≡◌, ◌∙◌, Result, refl, ap, subst}
use Rattle.rope.specs.Places.{banks, Words}
use Rattle.rope.specs.declared.spelling.Version.{Version}
use Rattle.audit.specs.CheckWords.{with_checks, HaveRoom}
use Rattle.yayul.specs.Program.{Program}
use Rattle.workshop.specs.declared.fault.WorkshopFault.{WorkshopFault}
use Rattle.workshop.specs.Assemblies.{Assembling, WritesChecked, WritesProgram, without_bank}

-- the words of an image by another name
pub of_words : {version : Version} {words others : Words} {p : Program} {before after : Assembling}
    {result : Result (Unit {0}) WorkshopFault}
    → words ≡ others → WritesProgram version words p before after result → WritesProgram version others p before after result
of_words {version} {words} {others} {p} {before} {after} {result} same writes = subst
    (λ given. WritesProgram version given p before after result) same writes

pub of_copy : {version : Version} {p : Program} {copy checked : Words} {before after : Assembling}
    {written : Result (Unit {0}) WorkshopFault}
    → copy ≡ p.rope → HaveRoom copy banks → checked ≡ with_checks copy banks → WritesProgram version checked p before after written
    → WritesChecked version p before after (without_bank written)
of_copy {written = written} same room made writes = record {
  room = subst (λ words. HaveRoom words banks) same room;
  written = written;
  writes = of_words (made ∙ ap (λ words. with_checks words banks) same) writes;
  told = refl;
}
