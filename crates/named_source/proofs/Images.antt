-- Where fixed memories have the same words, their images are the same.
use Rattle.std.proofs.Common.{◌≡◌, ◌+◌, ◌&&◌, nat_le, nat_lt, true, None, refl, arith}
use Rattle.std.proofs.lemmas.Bool.Decides.{nat_tests}
use Rattle.rope.specs.declared.spelling.Version.{Version}
use Rattle.rope.specs.Places.{banks, fixed_places, Words}
use Rattle.yayul.proofs.WrittenWords.{GivesBanks}
use Rattle.named_source.specs.GivenBack.{AreWords, GivesImage}
use Rattle.audit.specs.SourceLines.{source_text}
use Rattle.audit.proofs.OctalImages.{same_fronts}
use Rattle.named_source.proofs.OctalGivenBack.{all_given}

pub gives_image : (version : Version) (words : Words) → AreWords words → GivesImage version words
gives_image version words few =
    let all : GivesBanks words 0 banks (source_text words None) = all_given words few in
    record {
      given = all.given;
      assembles = all.assembles;
      same = same_fronts version all.given.rope words (λ bank offset in_banks in_bank.
          let among : (nat_le 0 bank && nat_lt bank (0 + banks)) ≡ true = grind (arith, nat_tests) in
          rw (all.same bank offset in_banks in_bank, among) refl) fixed_places (omega arith);
    }
