use Rattle.std.proofs.Common.{◌≡◌, ◌≤◌, ◌&&◌, ℕ, true, leb, arith}
use Rattle.std.proofs.lemmas.Bool.Decides.{nat_tests}
use Rattle.std.proofs.lemmas.List.Sums.{AllPass-from_list_all}
use Rattle.commands.specs.Usages.{is_short_row}
use Rattle.commands.proofs.usage.find_usage.Goals as goal

both-short : (a b : ℕ) → (leb a 48 && leb b 48) ≡ true → (a ≤ 48) × (b ≤ 48)
both-short a b h = (grind (arith, nat_tests), grind (arith, nat_tests))

pub returns-then-eq-clause-short : goal.returns-then-eq-clause-short
returns-then-eq-clause-short c = both-short _ _
    (AllPass-from_list_all is_short_row c.args.rows.now c.requires c.loop-text.text-index _ (omega arith))
