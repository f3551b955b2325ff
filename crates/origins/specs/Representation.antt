-- How what is gathered is told apart.
use Rattle.std.specs.Prelude.{Bool, List, refl}
use Rattle.std.specs.Coded.{Coded, code_by, coded×, coded_bool, coded_list, coded_ℕ}
use Rattle.std.specs.FinSet as set
use Rattle.origins.specs.Following.{CellSet}
use Rattle.origins.specs.Gathering.{Gathering}
use Rattle.origins.specs.declared.origin.OriginLine.{OriginLine}
use Rattle.origins.specs.declared.tally.Tally.{Tally}
use Rattle.origins.specs.contracts.origin.OriginLine as line
use Rattle.origins.specs.contracts.tally.Tally as tally

abbrev pub gathering_code : Coded Gathering
gathering_code =
    code_by (CellSet × (List OriginLine × (Bool × List Tally)))
    (coded× (set.code coded_ℕ) (coded× (coded_list line.the_row.coded) (coded× coded_bool (coded_list tally.the_row.coded))))
    (λ g. (g.followed, (g.table.lines, (g.table.more, g.levels))))
    (λ p. record { followed = p.0; table = record { lines = p.1.0; more = p.1.1.0 }; levels = p.1.1.1 })
    (λ _. refl)
